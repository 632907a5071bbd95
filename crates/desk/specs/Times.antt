-- The three times among the arguments: reset, long and short, each a number of sixteen bits.
use Rattle.std.specs.Prelude.{ℕ, List, Option, Some, None}
use Rattle.desk.specs.Number.{decimal_of}
use Rattle.mirror.specs.declared.panel.Times.{Times}

abbrev pub longest : ℕ
longest = 65535

-- all three are numbers, or there are no times
abbrev pub timed : Option ℕ → Option ℕ → Option ℕ → Option Times
timed (Some reset) (Some long) (Some short) = Some (record { reset = reset; long = long; short = short })
timed (Some reset) (Some long) None = None
timed (Some reset) None short = None
timed None long short = None

abbrev pub times_of : List ℕ → List ℕ → List ℕ → Option Times
times_of reset long short = timed (decimal_of reset longest) (decimal_of long longest) (decimal_of short longest)
