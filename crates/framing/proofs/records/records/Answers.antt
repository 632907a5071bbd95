use Rattle.std.proofs.Common.{arith, sym, ap, ◌∙◌, ℕ, ◌-◌, ◌≡◌, List, length, take, drop, take_all, length-drop}
use Rattle.framing.specs.Frames.{records_of}
use Rattle.framing.specs.laws.FrontLaws.{some_front}
use Rattle.framing.specs.laws.FramesLaws.{records_next}
use Rattle.framing.proofs.records.records.Goals as goal

-- what is left after a record
left : (s : List ℕ) (n : ℕ) → take (length s - n) (drop n s) ≡ drop n s
left s n = take_all (length s - n) (drop n s) (omega (arith, length-drop n s))

pub loop-size-preserved : goal.loop-size-preserved
loop-size-preserved c =
    let s = c.loop-size.rest.now in
    let n = c.in-Some.size in
    let f = some_front s n (sym c.whole.ensures ∙ c.in-Some.is) in (
      omega (arith, ap length (left s n), length-drop n s, f.size, f.fits),
      omega (arith, ap records_of (left s n), records_next f),
    )
