-- Laws of a log's records: the two equations, induction, and logs that follow each other.
use Rattle.std.specs.Prelude.{ℕ, zero, suc, ◌+◌, ◌≡◌, refl, Bool, true, false, None, List, [], ◌∷◌, ◌++◌, length, take, drop}
use Rattle.std.proofs.Common.{arith, add-one, sym, ap, ◌∙◌, append_assoc, length-append, take-append-drop, length-take-le}
use Rattle.std.proofs.Math.Numerals.{add-two}
use Rattle.std.proofs.lemmas.Bool.{false≢true}
use Rattle.std.proofs.Math.Seq.{take-length, drop-length}
use Rattle.std.proofs.lemmas.List.{take-append-le, drop-append-le}
use Rattle.framing.specs.Frame.{length_of, record_size, cut_at, whole_size}
use Rattle.framing.specs.laws.CutLaws.{broken, broken_append, broken_cut}
use Rattle.framing.specs.Frames.{Pieces, then, pieces_from, pieces, frames, tail, records_of, joined}
use Rattle.framing.specs.laws.FrontLaws.{Front, uncut_front, none_cut, front_append, front_take}

skip : (k : ℕ) (s : List ℕ) → pieces_from k s ≡ pieces (drop k s)
unfolding pieces_from
skip zero [] = refl
skip zero (b ∷ s) = refl
skip (suc k) [] = refl
skip (suc k) (b ∷ s) = skip k s

past : (b : ℕ) (s : List ℕ) (l : ℕ) → drop (l + 1) s ≡ drop (l + 2) (b ∷ s)
past b s l = rw (add-one l, add-two l)

nothing_cut : cut_at [] ≡ true
unfolding cut_at
nothing_cut = refl

-- the two equations: at a cut all is tail
pub pieces_cut : (s : List ℕ) → cut_at s ≡ true → pieces s ≡ record { records = []; rest = s }
unfolding pieces_from
pieces_cut [] u = refl
pieces_cut (b ∷ s) u = rw u

-- and a record is followed by the pieces of the rest
pub pieces_next : (s : List ℕ) → cut_at s ≡ false → pieces s ≡ then (take (record_size s) s ∷ []) (pieces (drop (record_size s) s))
unfolding pieces_from
pieces_next [] u = absurd (false≢true (sym u ∙ nothing_cut))
pieces_next (b ∷ s) u = rw (u, skip (length_of (b ∷ s) + 1) s, past b s (length_of (b ∷ s)))

pub front_next : {s : List ℕ} {n : ℕ} → Front s n → pieces s ≡ then (take n s ∷ []) (pieces (drop n s))
front_next {s} {n} f = pieces_next s f.uncut ∙ rw (← f.size)

pub frames_cut : (s : List ℕ) → cut_at s ≡ true → frames s ≡ []
frames_cut s u = ap (λ (p : Pieces). p.records) (pieces_cut s u)

pub frames_next : (s : List ℕ) → cut_at s ≡ false → frames s ≡ take (record_size s) s ∷ frames (drop (record_size s) s)
frames_next s u = ap (λ (p : Pieces). p.records) (pieces_next s u)

pub tail_cut : (s : List ℕ) → cut_at s ≡ true → tail s ≡ s
tail_cut s u = ap (λ (p : Pieces). p.rest) (pieces_cut s u)

pub tail_next : (s : List ℕ) → cut_at s ≡ false → tail s ≡ tail (drop (record_size s) s)
tail_next s u = ap (λ (p : Pieces). p.rest) (pieces_next s u)

-- what holds at a cut, and of a log where it holds of what follows the first record, holds of every log
module _ (P : List ℕ → Type 0) (ends : (s : List ℕ) → cut_at s ≡ true → P s) (goes : (s : List ℕ) → cut_at s ≡ false → P (drop (record_size s) s) → P s) where
  at_front : (s : List ℕ) → (cut_at s ≡ false → P (drop (record_size s) s)) → P s
  at_front s rest = by (cut_at s) refl where
    by : (b : Bool) → cut_at s ≡ b → P s
    by true u = ends s u
    by false u = goes s u (rest u)

  from : (k : ℕ) (s : List ℕ) → P (drop k s)
  from zero [] = ends [] nothing_cut
  from (suc k) [] = ends [] nothing_cut
  from (suc k) (b ∷ s) = from k s
  from zero (b ∷ s) = at_front (b ∷ s) (λ u. rw (past b s (length_of (b ∷ s))) at (from (length_of (b ∷ s) + 1) s))

  pub frames_induction : (s : List ℕ) → P s
  frames_induction s = from 0 s

-- so the count goes on record by record, and ends at a cut
pub records_next : {s : List ℕ} {n : ℕ} → Front s n → records_of s ≡ 1 + records_of (drop n s)
records_next f = let n = ap (λ (p : Pieces). length p.records) (front_next f) in omega arith

pub records_end : (s : List ℕ) → whole_size s ≡ None → records_of s ≡ 0
records_end s e = ap length (frames_cut s (none_cut s e))

-- the pieces give the log back
abbrev pub bytes_of : Pieces → List ℕ
bytes_of p = joined p.records ++ p.rest

pub joined_frames : (s : List ℕ) → joined (frames s) ++ tail s ≡ s
joined_frames =
    frames_induction (λ s. bytes_of (pieces s) ≡ s) (λ s u. ap bytes_of (pieces_cut s u))
    (λ s u h.
    ap bytes_of (pieces_next s u)
    ∙ append_assoc (take (record_size s) s) (joined (frames (drop (record_size s) s))) (tail (drop (record_size s) s))
    ∙ ap (λ (r : List ℕ). take (record_size s) s ++ r) h
    ∙ take-append-drop (record_size s) s)

-- the tail is cut
pub tail_is_cut : (s : List ℕ) → cut_at (tail s) ≡ true
tail_is_cut = frames_induction (λ s. cut_at (tail s) ≡ true) (λ s u. rw (tail_cut s u) u) (λ s u h. rw (tail_next s u) h)

-- a log that goes on: its records stay, and its tail is read on with what comes
abbrev onward : Pieces → List ℕ → Pieces
onward p b = then p.records (pieces (p.rest ++ b))

front_pieces : {a : List ℕ} {n : ℕ} (b : List ℕ) → Front a n → pieces (a ++ b) ≡ then (take n a ∷ []) (pieces (drop n a ++ b))
front_pieces {a} {n} b f =
    let g = front_append b f in
    pieces_next (a ++ b) g.uncut ∙ rw (← g.size, ← take-append-le n a b f.fits, ← drop-append-le n a b f.fits)

pub pieces_append : (a b : List ℕ) → pieces (a ++ b) ≡ then (frames a) (pieces (tail a ++ b))
pieces_append a b =
    frames_induction (λ a. pieces (a ++ b) ≡ onward (pieces a) b) (λ a u. sym (ap (λ (p : Pieces). onward p b) (pieces_cut a u)))
    (λ a u h.
    front_pieces b (uncut_front a u)
    ∙ ap (then (take (record_size a) a ∷ [])) h
    ∙ sym (ap (λ (p : Pieces). onward p b) (pieces_next a u)))
    a

pub frames_append : (a b : List ℕ) → frames (a ++ b) ≡ frames a ++ frames (tail a ++ b)
frames_append a b = ap (λ (p : Pieces). p.records) (pieces_append a b)

pub tail_append : (a b : List ℕ) → tail (a ++ b) ≡ tail (tail a ++ b)
tail_append a b = ap (λ (p : Pieces). p.rest) (pieces_append a b)

-- whole records, and then a log
pub frames_whole : (a b : List ℕ) → tail a ≡ [] → frames (a ++ b) ≡ frames a ++ frames b
frames_whole a b e = frames_append a b ∙ rw e

-- so the counts add up
pub records_append : (a b : List ℕ) → records_of (a ++ b) ≡ records_of a + records_of (tail a ++ b)
records_append a b = ap length (frames_append a b) ∙ length-append (frames a) (frames (tail a ++ b))

-- nothing is read past a length that lies outside
pub pieces_broken : (a b : List ℕ) → broken (tail a) ≡ true → pieces (a ++ b) ≡ then (frames a) (record { records = []; rest = tail a ++ b })
pieces_broken a b e =
    pieces_append a b ∙ ap (then (frames a)) (pieces_cut (tail a ++ b) (broken_cut (tail a ++ b) (broken_append (tail a) b e)))

-- one record's bytes, and nothing else
pub record_first : {v : List ℕ} (b : List ℕ) → Front v (length v) → pieces (v ++ b) ≡ then (v ∷ []) (pieces b)
record_first {v} b f = front_pieces b f ∙ rw (take-length v, drop-length v)

-- every record of a log is just its own bytes
abbrev pub AllRecords : List (List ℕ) → Type 0
AllRecords [] = Unit {0}
AllRecords (f ∷ fs) = Front f (length f) × AllRecords fs

pub frames_are_records : (s : List ℕ) → AllRecords (frames s)
frames_are_records =
    frames_induction (λ s. AllRecords (frames s)) (λ s u. rw (frames_cut s u) tt)
    (λ s u h.
    let f = uncut_front s u in
    rw (frames_next s u) (rw (length-take-le (record_size s) s f.fits) (front_take f), h))

-- records that follow each other, and then a log, are read back as they are
pub joined_pieces : (fs : List (List ℕ)) (b : List ℕ) → AllRecords fs → pieces (joined fs ++ b) ≡ then fs (pieces b)
joined_pieces [] b h = refl
joined_pieces (f ∷ fs) b h =
    ap pieces (append_assoc f (joined fs) b)
    ∙ record_first (joined fs ++ b) h.0
    ∙ ap (then (f ∷ [])) (joined_pieces fs b h.1)
