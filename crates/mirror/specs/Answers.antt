-- Records that follow each other, each answered by the panel that the one before it left.
use Rattle.std.specs.Prelude.{ℕ, ◌<◌, ◌≡◌, Bool, true, false, ◌||◌, List, [], ◌∷◌, get_or, leb, eqb}
use Rattle.chip.specs.Sizes.{is_known}
use Rattle.mirror.specs.Answer.{number_of, carried_out}
use Rattle.mirror.specs.Panel.{sound_panel}
use Rattle.mirror.specs.Table.{record_of}
use Rattle.mirror.specs.declared.panel.Panel.{Panel}

-- the number that a record is answered with
abbrev pub answer_to : Panel → List ℕ → ℕ
answer_to p log = number_of (record_of p log).answer

-- the panel afterwards
abbrev pub panel_after : Panel → List ℕ → Panel
panel_after p log = (record_of p log).panel

-- and after several
abbrev pub panel_after_all : Panel → List (List ℕ) → Panel
panel_after_all p [] = p
panel_after_all p (f ∷ fs) = panel_after_all (panel_after p f) fs

-- answers 0 to 4 and 7, and doubtful as taken, which set the last time
abbrev pub clocked : ℕ → Bool
clocked n = carried_out n || leb n 4 || eqb n 7

-- records of which none does: they are answered 5 or 6 (or 8 or 10), and may stand between two halves
abbrev pub AllUnclocked : Panel → List (List ℕ) → Type 0
AllUnclocked p [] = Unit {0}
AllUnclocked p (f ∷ fs) = (clocked (answer_to p f) ≡ false) × AllUnclocked (panel_after p f) fs

-- a log is made of bytes
abbrev pub ByteLog : List ℕ → Type 0
ByteLog s = (i : ℕ) → get_or s i 0 < 256

-- a known chip, and what the types hold: three times below 65,536, and a log made of bytes
pub record Typed (chip reset long short : ℕ) (log : List ℕ) : Type 0 where
  pub known : is_known chip ≡ true
  pub reset_fits : reset < 65536
  pub long_fits : long < 65536
  pub short_fits : short < 65536
  pub bytes : ByteLog log

-- and a panel that is sound, of such times
pub record Proper (p : Panel) (log : List ℕ) : Type 0 where
  pub sound : sound_panel p ≡ true
  pub reset_fits : p.times.reset < 65536
  pub long_fits : p.times.long < 65536
  pub short_fits : p.times.short < 65536
  pub bytes : ByteLog log
