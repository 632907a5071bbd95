-- A record that ends the watch, told by its own time before it is answered. That it is the one is the law `later_told` (FollowLaws.antt).
use Rattle.std.specs.Prelude.{ℕ, Bool, false, ◌&&◌, Option, Some, None, leb, ltb}
use Rattle.framing.specs.declared.frame.Frame.{Frame}
use Rattle.framing.specs.declared.frame.Frame.TheVariants as frame

-- a time that is neither back nor too early to end it
abbrev pub later_by : ℕ → ℕ → Frame → Bool
later_by until last frame.Cut = false
later_by until last (frame.Bad n) = false
later_by until last (frame.Transfer time rs reads byte) = leb last time && ltb until time
later_by until last (frame.Reset time) = leb last time && ltb until time

-- no record ends it where no time is asked for
abbrev pub later_than_asked : Option ℕ → ℕ → Frame → Bool
later_than_asked None last f = false
later_than_asked (Some until) last f = later_by until last f
