-- What is wrong with a bad record: the first that holds of the ways in which a record is bad, in the order of the rules.
use Rattle.std.specs.Prelude.{Option, Some, None, List, ℕ}
use Rattle.laws.specs.Pick.{pick}
use Rattle.framing.specs.Frame.{length_of, kind_of, cut_at, unknown_kind, wrong_length, late_time, stray_control}
use Rattle.framing.specs.declared.flaw.Flaw.{Flaw}
use Rattle.framing.specs.declared.flaw.Flaw.TheVariants.{Kind, Length, LateTime, StrayControl}

-- an unknown kind, a wrong length for its kind, a time of 2^48 or more, a control bit above 1; none of a good record or a cut
unfoldable pub flaw_of : List ℕ → Option Flaw
flaw_of s =
    pick (cut_at s) None
    (pick (unknown_kind s) (Some (Kind (kind_of s)))
    (pick (wrong_length s) (Some (Length (length_of s)))
    (pick (late_time s) (Some LateTime)
    (pick (stray_control s) (Some StrayControl) None))))
