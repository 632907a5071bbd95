-- The way that a transfer goes (document 01, "Busy", "Halves").
use Rattle.std.specs.Prelude.{ℕ, Bool, not, eqb}
use Rattle.std.specs.Bool.{beq}
use Rattle.laws.specs.Pick.{pick}
use Rattle.mirror.specs.declared.half.Half.{Half}
use Rattle.mirror.specs.declared.half.Half.TheVariants as half

pub data Way : Type 0 where
  Torn : Way
  -- a whole transfer, or the second half of a pair, that the busy chip ignores
  Ignored : Way
  -- the first half of a pair that the busy chip ignores
  Missed : Way
  Nothing : Way
  -- the first half of a pair that counts
  HoldStatus : Way
  HoldRead : Way
  HoldWrite : Way
  -- whole, and as the second half of a pair
  Status : Way
  StatusEnd : Way
  Read : Way
  ReadEnd : Way
  -- a byte written, whole or joined: data, or an instruction
  Write : Way
  Obey : Way

-- a write whose byte is complete: data, none, or an instruction
abbrev pub finish_of : Bool → ℕ → Way
finish_of rs byte = pick rs Way.Write (pick (eqb byte 0) Way.Nothing Way.Obey)

-- a transfer at width 8
abbrev pub whole_of : Bool → Bool → Bool → ℕ → Way
whole_of free rs reads byte =
    pick reads (pick rs (pick free Way.Read Way.Ignored) Way.Status) (pick free (finish_of rs byte) Way.Ignored)

-- the first half of a pair: free or busy is decided here for the pair
abbrev pub first_of : Bool → Bool → Bool → Way
first_of free rs reads =
    pick reads (pick rs (pick free Way.HoldRead Way.Missed) Way.HoldStatus) (pick free Way.HoldWrite Way.Missed)

-- the second half of a pair that counts
abbrev pub second_of : Bool → Bool → ℕ → Way
second_of rs reads byte = pick reads (pick rs Way.ReadEnd Way.StatusEnd) (finish_of rs byte)

-- a second half that differs from the first in RS or R/W tears the pair
abbrev pub unless_torn : Bool → Bool → Bool → Bool → Way → Way
unless_torn r w rs reads v = pick (not (beq r rs)) Way.Torn (pick (not (beq w reads)) Way.Torn v)

-- a transfer at width 4, by the half that waits
abbrev pub pair_of : Half → Bool → Bool → Bool → ℕ → Way
pair_of half.Empty free rs reads byte = first_of free rs reads
pair_of (half.Ignored r w) free rs reads byte = unless_torn r w rs reads Way.Ignored
pair_of (half.Waiting r w nibble) free rs reads byte = unless_torn r w rs reads (second_of rs reads byte)

abbrev pub way_of : Bool → Half → Bool → Bool → Bool → ℕ → Way
way_of eight half free rs reads byte = pick eight (whole_of free rs reads byte) (pair_of half free rs reads byte)
