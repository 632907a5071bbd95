-- ONE CHAIN FROM THEOREM TO FUNCTION: the answers that the theorems speak of are those that the code gives, whichever way it is called.
use Rattle.std.specs.Prelude.{ℕ, zero, suc, ◌≡◌, true, List, [], ◌∷◌, ◌++◌, length, take, drop, eqb}
use Rattle.laws.specs.Pick.{pick}
use Rattle.framing.specs.Frames.{joined}
use Rattle.mirror.specs.Panel.{fresh_panel}
use Rattle.mirror.specs.Table.{record_of}
use Rattle.mirror.specs.Answers.{Typed}
use Rattle.mirror.specs.Stream.{StreamReply, start_of, panel_in, feed_of, next_of, end_of, run_of}
use Rattle.mirror.specs.declared.panel.Panel.{Panel}
use Rattle.mirror.specs.declared.stream.Stream.{Stream}
use Rattle.mirror.specs.declared.stream.Reply.TheVariants as next
use Rattle.striking.specs.Machine.{Answered}
use Rattle.demands.specs.Mirrors.{Response, out_of, ours}
use Rattle.demands.specs.Answers.{answers_by, panel_by, OfRun}

-- what each record was told
abbrev pub told : List (Answered (List ℕ) Response) → List Response
told [] = []
told (a ∷ rest) = a.answer ∷ told rest

-- BY `record`, called again and again, at most n times: each call on the panel and the bytes that the one before it left; one that uses
-- nothing is the last
abbrev pub calls_of : ℕ → Panel → List ℕ → List Response
calls_of zero p s = []
calls_of (suc n) p s =
    let r = record_of p s in
    pick (eqb r.used 0) [] ((out_of r).answer ∷ calls_of n r.panel (drop r.used s))

-- and the panel that they leave
abbrev pub left_of : ℕ → Panel → List ℕ → Panel
left_of zero p s = p
left_of (suc n) p s =
    let r = record_of p s in
    pick (eqb r.used 0) p (left_of n r.panel (drop r.used s))

-- BY `next`: what a reply tells
abbrev pub tells : StreamReply → List Response
tells (next.Answered v) = record { answer = v.answer; byte = v.byte } ∷ []
tells next.More = []
tells next.Cut = []
tells next.Refused = []

-- calls of it one after another from a panel on: the bytes that they took, whatever parts they were offered, and what they told
pub data Asked (p : Panel) : List ℕ → List Response → Stream → Type 0 where
  started : Asked p [] [] (start_of p)
  asked : {log : List ℕ} {replies : List Response} {st : Stream} → Asked p log replies st → (part : List ℕ) →
      Asked p (log ++ take (next_of st part).taken part) (replies ++ tells (next_of st part).reply) (next_of st part).after
  -- what comes after a cut is not taken any more
  ended : {log : List ℕ} {replies : List Response} {st : Stream} → Asked p log replies st → st.over ≡ true → (rest : List ℕ) → Asked p (log ++ rest) replies st

-- BY `feed`, part after part, and `end`
abbrev pub fed_all : Stream → List (List ℕ) → Stream
fed_all st [] = st
fed_all st (part ∷ parts) = fed_all (feed_of st part) parts

-- they all give the answers and the panel that the theorems speak of
pub record Chain (p : Panel) (log : List ℕ) : Type 0 where
  pub calls : calls_of (length log) p log ≡ told (answers_by ours p log)
  pub left : left_of (length log) p log ≡ panel_by ours p log
  pub nexts : (replies : List Response) (st : Stream) → Asked p log replies st → replies ≡ told (answers_by ours p log)
  pub stands : (replies : List Response) (st : Stream) → Asked p log replies st → panel_in st ≡ panel_by ours p log
  pub whole : OfRun ours p log
  pub parts : (parts : List (List ℕ)) → joined parts ≡ log → end_of (fed_all (start_of p) parts) ≡ run_of p log

-- THE CHAIN: from a fresh panel of a known chip and any three times that the type holds, for every log made of bytes
abbrev pub OneChain : Type 0
OneChain = (chip reset long short : ℕ) (log : List ℕ) → Typed chip reset long short log → Chain (fresh_panel chip reset long short) log
