-- What is shown of how far a program has read.
use Rattle.std.specs.Prelude.{None}
use Rattle.desk.specs.declared.progress.Progress.{Progress}

-- nothing
abbrev pub hidden : Progress
hidden = record { line = None }
