-- Laws of what ends a reading or a run: its number is that of the refusal.
use Rattle.std.specs.Prelude.{◌≡◌, refl, Bool, true, false, Some, None}
use Rattle.std.proofs.Math.Option.{none, some}
use Rattle.laws.specs.Pick.{pick}
use Rattle.mirror.specs.Answer.{number_of}
use Rattle.mirror.specs.Refusal.{refused_number, numbered}
use Rattle.mirror.specs.Promise.{end_refusal, end_number, summed, run_refusal}
use Rattle.mirror.specs.declared.answer.Answer.TheVariants as say
use Rattle.mirror.specs.declared.answer.Refusal.TheVariants as refusal
use Rattle.mirror.specs.declared.stream.Run.{Run}
use Rattle.mirror.specs.declared.stream.Reply.{Reply}
use Rattle.mirror.specs.declared.stream.Reply.TheVariants.{Answered, More, Cut, Refused}

pub end_numbered : {T : Type 0} (r : Reply T) → end_number r ≡ numbered (refused_number (end_refusal r))
end_numbered (Answered x) = refl
end_numbered More = refl
end_numbered Cut = refl
end_numbered Refused = refl

pub run_numbered : (r : Run) → (summed r).number ≡ refused_number (run_refusal r)
run_numbered r = by r.refused r.cut where
  by : (b c : Bool) →
      pick b (some (number_of say.Unsound)) (pick c (some (number_of say.Cut)) none) ≡
      refused_number (pick b (Some refusal.Unsound) (pick c (Some refusal.Cut) None))
  by true c = refl
  by false true = refl
  by false false = refl
