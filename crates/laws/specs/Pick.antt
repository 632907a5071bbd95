-- A choice by a test: the one way in which every definition of this project chooses.
use Rattle.std.specs.Prelude.{Bool, true, false}

-- the first where the test is true, the second where it is not
abbrev pub pick : {A : Type 0} → Bool → A → A → A
pick true a b = a
pick false a b = b
