-- The three lines of a living picture that tell of the log (docs/WALL.md, "As the log comes").
use Rattle.std.specs.Prelude.{ℕ, zero, suc, ◌≡◌, List, [], ◌∷◌, ◌++◌, Option, Some, None, get_or, slice_index_or}
use Rattle.desk.specs.Clock.{Clock, Decimal}
use Rattle.framing.specs.declared.frame.Frame.{Frame}
use Rattle.framing.specs.declared.frame.Frame.TheVariants.{Cut, Bad, Transfer, Reset}
use Rattle.mirror.specs.Answer.{name_of}
use Rattle.mirror.specs.declared.answer.Answer.{Answer}
use Rattle.mirror.specs.declared.answer.TheConstants.{COUNTED}

-- these very bytes
abbrev pub Exactly : List ℕ → List ℕ → Type 0
Exactly s bytes = bytes ≡ s

-- bytes of one kind, then bytes of another
pub record Then (A B : List ℕ → Type 0) (bytes : List ℕ) : Type 0 where
  pub first : List ℕ
  pub second : List ℕ
  pub one : A first
  pub other : B second
  pub written : bytes ≡ first ++ second

-- `clock `, and the clock of a time
abbrev pub ClockLine : ℕ → List ℕ → Type 0
ClockLine time = Then (Exactly (99 ∷ 108 ∷ 111 ∷ 99 ∷ 107 ∷ 32 ∷ [])) (Then (Clock time) (Exactly (10 ∷ [])))

-- a count: a space, the answer's name, a space, and the number
abbrev pub Count : Answer → ℕ → List ℕ → Type 0
Count answer n = Then (Exactly (32 ∷ (name_of answer ++ 32 ∷ []))) (Decimal n)

-- the first n of the counts, each after its answer's name
abbrev pub FirstCounts : List ℕ → ℕ → List ℕ → Type 0
FirstCounts counts zero = Exactly []
FirstCounts counts (suc n) = Then (FirstCounts counts n) (Count (slice_index_or COUNTED n Answer.Taken) (get_or counts n 0))

-- `answers`, and the nine counts, each after its name
abbrev pub AnswersLine : List ℕ → List ℕ → Type 0
AnswersLine counts =
    Then (Exactly (97 ∷ 110 ∷ 115 ∷ 119 ∷ 101 ∷ 114 ∷ 115 ∷ []))
    (Then (Count Answer.Taken (get_or counts 0 0))
    (Then (Count Answer.Doubtful (get_or counts 1 0))
    (Then (Count Answer.Held (get_or counts 2 0))
    (Then (Count Answer.Status (get_or counts 3 0))
    (Then (Count Answer.Ignored (get_or counts 4 0))
    (Then (Count Answer.Torn (get_or counts 5 0))
    (Then (Count Answer.Back (get_or counts 6 0))
    (Then (Count Answer.Bad (get_or counts 7 0))
    (Then (Count Answer.Nothing (get_or counts 8 0)) (Exactly (10 ∷ [])))))))))))

-- the name of the answer to the last transfer, - before the first
abbrev pub last_name : Option Answer → List ℕ
last_name None = 45 ∷ []
last_name (Some answer) = name_of answer

-- `last transfer ` and that name
abbrev pub last_line : Option Answer → List ℕ
last_line last = (108 ∷ 97 ∷ 115 ∷ 116 ∷ 32 ∷ 116 ∷ 114 ∷ 97 ∷ 110 ∷ 115 ∷ 102 ∷ 101 ∷ 114 ∷ 32 ∷ []) ++ (last_name last ++ 10 ∷ [])

-- an answer is a transfer's where the record was one: a reset and a bad record are none
abbrev pub last_after : Option Answer → Frame → Answer → Option Answer
last_after last Cut answer = last
last_after last (Bad size) answer = last
last_after last (Transfer time rs reads byte) answer = Some answer
last_after last (Reset time) answer = last
