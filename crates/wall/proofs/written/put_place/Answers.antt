use Rattle.std.proofs.Common.{◌≡◌, ◌≢◌, ◌<◌, ◌∙◌, eq-eqb, mod-lt, arith}
use lib.Bits.{and_mask}
use Rattle.laws.specs.Bit.{bit}
use Rattle.desk.specs.laws.PageLaws.{puts_none}
use Rattle.wall.proofs.written.put_place.Goals as goal

pub returns-else-bits-place-eq1 : goal.returns-else-bits-place-eq1
returns-else-bits-place-eq1 c =
    let b = bit c.args.bits c.args.place in
    let other : b ≢ 1 = λ e. c.if-bits-place-eq1.false (and_mask _ 1 ∙ e) in
    let few : b < 2 = mod-lt _ (omega arith) in
    let none : b ≡ 0 = omega arith in
    rw (eq-eqb b 0 none) (puts_none _)
