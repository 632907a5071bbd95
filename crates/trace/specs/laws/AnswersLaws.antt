-- A record that the stream answers took some byte of the part, and no more than there are.
use Rattle.std.specs.Prelude.{◌≡◌, ℕ, ◌<◌, ◌≤◌, Bool, true, false, List, [], ◌∷◌, ◌++◌, length, refl}
use Rattle.std.proofs.Common.{sym, ap, ◌∙◌, arith, append-nil}
use Rattle.std.proofs.lemmas.Bool.{false≢true}
use Rattle.laws.specs.Pick.{pick}
use Rattle.framing.specs.Frame.{cut_at, wants_more}
use Rattle.framing.specs.Carry.{carried_of, filled, more}
use Rattle.framing.specs.laws.CarryLaws.{wanting_wants}
use Rattle.framing.specs.laws.CutLaws.{wants_cut}
use Rattle.mirror.specs.Run.{counted}
use Rattle.mirror.specs.laws.NextLaws.{next_within}
use Rattle.mirror.specs.Stream.{StreamNext, is_refused, next_of, rested_of, waiting_bytes}
use Rattle.mirror.specs.Table.{row_for}
use Rattle.mirror.specs.declared.stream.Stream.{Stream}
use Rattle.mirror.specs.declared.answer.Verdict.{Verdict}
use Rattle.mirror.specs.declared.stream.Reply.TheVariants.{Answered, More, Cut, Refused}

module _ (st : Stream) (part : List ℕ) where
  -- the bytes that wait are no whole record, so one needs some of the part
  some_more : cut_at (filled (waiting_bytes st) part) ≡ false → 0 < length (more (waiting_bytes st) part)
  some_more u = by (more (waiting_bytes st) part) refl
    where
      by : (m : List ℕ) → more (waiting_bytes st) part ≡ m → 0 < length m
      by [] e =
          absurd
          (false≢true
          (sym u ∙ ap (λ (m : List ℕ). cut_at (waiting_bytes st ++ m)) e ∙ ap cut_at (append-nil (waiting_bytes st)) ∙ wants_cut (waiting_bytes st) (wanting_wants (carried_of st.carry))))
      by (x ∷ m) e = omega arith

  -- `next_of` with its tests apart
  answer_by : Bool → Bool → Bool → Bool → StreamNext
  answer_by refused over cut wants =
      let n = length (more (waiting_bytes st) part) in
      let r = row_for st.totals.panel (filled (waiting_bytes st) part) in
      pick refused (record { after = st; taken = 0; reply = Refused })
      (pick over (record { after = st; taken = 0; reply = Cut })
      (pick cut (record { after = rested_of st st.totals (filled (waiting_bytes st) part); taken = n; reply = pick wants More Cut })
      (record { after = rested_of st (counted st.totals r) []; taken = n; reply = Answered (record { answer = r.answer; byte = r.byte }) })))

  takes : (v : Verdict) → (next_of st part).reply ≡ Answered v → 0 < (next_of st part).taken
  unfolding next_of answer_by
  takes v = by (is_refused st) st.over (cut_at (filled (waiting_bytes st) part)) (wants_more (filled (waiting_bytes st) part)) refl
    where
      by : (refused over cut wants : Bool) → cut_at (filled (waiting_bytes st) part) ≡ cut → (answer_by refused over cut wants).reply ≡ Answered v → 0 < (answer_by refused over cut wants).taken
      by true o k w u e = absurd (cc)
      by false true k w u e = absurd (cc)
      by false false true true u e = absurd (cc)
      by false false true false u e = absurd (cc)
      by false false false w u e = some_more u

  pub answered_takes : (r : StreamNext) (v : Verdict) → r ≡ next_of st part → r.reply ≡ Answered v → 0 < r.taken
  answered_takes r v e a = rw e (takes v (rw e at a))

  pub taken_within : (r : StreamNext) → r ≡ next_of st part → r.taken ≤ length part
  taken_within r e = rw e (next_within st part)
