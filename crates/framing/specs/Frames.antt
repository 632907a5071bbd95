-- A whole log cut into its records, off the lengths alone.
use Rattle.std.specs.Prelude.{ℕ, zero, suc, ◌+◌, List, [], ◌∷◌, ◌++◌, length, take}
use Rattle.laws.specs.Pick.{pick}
use Rattle.framing.specs.Frame.{length_of, record_size, cut_at}

-- the pieces of a log: each record, its own bytes, and the unreadable tail
pub record Pieces : Type 0 where
  pub records : List (List ℕ)
  pub rest : List ℕ

-- records, and then the pieces of what follows them
abbrev pub then : List (List ℕ) → Pieces → Pieces
then fs p = record { records = fs ++ p.records; rest = p.rest }

-- the pieces after the next k bytes: byte by byte, so that it ends
unfoldable pub pieces_from : ℕ → List ℕ → Pieces
pieces_from k [] = record { records = []; rest = [] }
pieces_from (suc k) (b ∷ s) = pieces_from k s
pieces_from zero (b ∷ s) =
    pick (cut_at (b ∷ s)) (record { records = []; rest = b ∷ s })
    (then (take (record_size (b ∷ s)) (b ∷ s) ∷ []) (pieces_from (length_of (b ∷ s) + 1) s))

abbrev pub pieces : List ℕ → Pieces
pieces s = pieces_from 0 s

abbrev pub frames : List ℕ → List (List ℕ)
frames s = (pieces s).records

abbrev pub tail : List ℕ → List ℕ
tail s = (pieces s).rest

-- the number of records is read off the lengths alone, up to the cut
abbrev pub records_of : List ℕ → ℕ
records_of s = length (frames s)

-- the bytes of records that follow each other
abbrev pub joined : List (List ℕ) → List ℕ
joined [] = []
joined (f ∷ fs) = f ++ joined fs
