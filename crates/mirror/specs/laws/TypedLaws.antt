-- What the types hold lasts: the records of a log made of bytes carry bytes, and from a fresh panel of such times the panel stays sound.
use Rattle.std.specs.Prelude.{ℕ, zero, suc, ◌+◌, ◌<◌, List, [], ◌∷◌, get_or, take}
use Rattle.std.proofs.Common.{arith, get_or-drop}
use Rattle.framing.specs.Frame.{data_of, record_size}
use Rattle.framing.specs.Frames.{frames}
use Rattle.framing.specs.laws.FramesLaws.{frames_cut, frames_next, frames_induction}
use Rattle.mirror.specs.Panel.{fresh_panel}
use Rattle.mirror.specs.Answers.{ByteLog, Typed, Proper}
use Rattle.mirror.specs.laws.SoundParts.{parts}
use Rattle.mirror.specs.laws.SoundLaws.{Lasts, fresh_lasts, fresh_sound}
use Rattle.mirror.specs.declared.panel.Panel.{Panel}

-- the data of each record is a byte
abbrev pub AllData : List (List ℕ) → Type 0
AllData [] = Unit {0}
AllData (f ∷ fs) = (data_of f < 256) × AllData fs

taken_byte : (s : List ℕ) (n i : ℕ) → ByteLog s → get_or (take n s) i 0 < 256
taken_byte [] zero i h = omega arith
taken_byte [] (suc n) i h = omega arith
taken_byte (x ∷ s) zero i h = omega arith
taken_byte (x ∷ s) (suc n) zero h = h 0
taken_byte (x ∷ s) (suc n) (suc i) h = taken_byte s n i (λ j. h (suc j))

pub frames_data : (s : List ℕ) → ByteLog s → AllData (frames s)
frames_data =
    frames_induction (λ s. ByteLog s → AllData (frames s)) (λ s u h. rw (frames_cut s u) tt)
    (λ s u more h. rw (frames_next s u) (taken_byte s (record_size s) 13 h, more (λ i. rw (get_or-drop (record_size s) s i 0) (h (record_size s + i)))))

-- so the panel stays sound
pub proper_lasts : {p : Panel} {log : List ℕ} → Proper p log → Lasts p
proper_lasts {p} h =
    record {
      sound = parts p h.sound;
      times = record { reset = omega (arith, h.reset_fits); long = omega (arith, h.long_fits); short = omega (arith, h.short_fits) };
    }

pub typed_proper : {chip reset long short : ℕ} {log : List ℕ} → Typed chip reset long short log → Proper (fresh_panel chip reset long short) log
typed_proper {chip} {reset} {long} {short} t =
    record { sound = fresh_sound chip reset long short t.known; reset_fits = t.reset_fits; long_fits = t.long_fits; short_fits = t.short_fits; bytes = t.bytes }

pub typed_lasts : {chip reset long short : ℕ} {log : List ℕ} → Typed chip reset long short log → Lasts (fresh_panel chip reset long short)
typed_lasts {chip} {reset} {long} {short} t = fresh_lasts chip reset long short t.known (omega (arith, t.reset_fits)) (omega (arith, t.long_fits)) (omega (arith, t.short_fits))
