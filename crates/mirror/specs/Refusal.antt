-- The refusals and their numbers (document 01, "Answer numbers").
use Rattle.std.specs.Prelude.{ℕ, Option, Some, None}
use Rattle.std.proofs.Math.Option as maybe
use Rattle.std.proofs.Math.Option.{none, some}
use Rattle.mirror.specs.declared.answer.Refusal.{Refusal}
use Rattle.mirror.specs.declared.answer.Refusal.TheVariants.{Cut, Size, Unsound}

abbrev pub refusal_number : Refusal → ℕ
refusal_number Cut = 8
refusal_number Size = 9
refusal_number Unsound = 10

-- and of what may have been refused, none where nothing was
abbrev pub refused_number : Option Refusal → maybe.Option ℕ
refused_number None = none
refused_number (Some refusal) = some (refusal_number refusal)

-- 0 where nothing was refused, which is no refusal's number
abbrev pub numbered : maybe.Option ℕ → ℕ
numbered none = 0
numbered (some n) = n
