-- Which record ends the watch (docs/WALL.md, "The time").
use Rattle.std.specs.Prelude.{ℕ, Bool, ◌&&◌, List, ltb}
use Rattle.mirror.specs.Answer.{number_of}
use Rattle.mirror.specs.Answers.{clocked}
use Rattle.mirror.specs.Table.{row_for}
use Rattle.mirror.specs.declared.panel.Panel.{Panel}

-- one that is answered 0 to 4, 7 or 11, at a later time than the one asked for: 5 and 6 have no say
abbrev pub later_than : ℕ → Panel → List ℕ → Bool
later_than until p log =
    let r = row_for p log in
    clocked (number_of r.answer) && ltb until r.panel.last
