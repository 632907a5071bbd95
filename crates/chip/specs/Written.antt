-- Which places are written (document 02, wish 3): one bit for each display address.
use Rattle.std.specs.Prelude.{ℕ, Bool, not, List, get_or, eqb}
use Rattle.laws.specs.Bit.{one, pack}
use Rattle.chip.specs.Sizes.{space}

-- a byte isn't 20h
abbrev pub unblank : ℕ → Bool
unblank x = not (eqb x space)

-- the byte at a place of memory isn't 20h
abbrev pub is_written : List ℕ → ℕ → Bool
is_written memory a = unblank (get_or memory a 0)

-- the walk over n places of memory: bit a is set exactly when the byte at address a isn't 20h
abbrev pub written_in : ℕ → List ℕ → ℕ
written_in n memory = pack (λ a. one (is_written memory a)) n
