use Rattle.std.proofs.Common.{ℕ, ◌≡◌, ◌%◌, eqb, arith, bit_and}
use Rattle.laws.specs.Bit.{one}
use Rattle.laws.specs.laws.BitLaws.{one_bit}
use lib.Bits.{and_mask}
use Rattle.picture.proofs.laws.CanvasLaws.{painting_start, painting_next}
use Rattle.picture.proofs.canvas.Canvas.put_column.Goals as goal

-- a bit that is looked at
seen : (a : ℕ) → one (eqb (bit_and a 1) 1) ≡ a % 2
seen a = rw (and_mask a 1) (one_bit (a % 2) (omega arith))

pub loop-i-init : goal.loop-i-init
loop-i-init c = painting_start _ _ _

pub loop-i-preserved : goal.loop-i-preserved
loop-i-preserved c = painting_next _ _ _ _ _ _ c.loop-i.invariant (omega arith) (simp seen at c.put_dot.ensures)
