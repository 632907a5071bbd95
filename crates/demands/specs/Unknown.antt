-- REFUSED PANELS (document 02, wishes 1 and 3): a panel whose chip is neither of the two, or whose bits disagree with its memory, is refused with 10, whichever
-- way it is called, and nothing changes.
use Rattle.std.specs.Prelude.{ℕ, ◌<◌, ◌≡◌, Bool, false, List, replicate}
use Rattle.std.proofs.Math.Option.{none, some}
use Rattle.laws.specs.Bit.{one}
use Rattle.chip.specs.Sizes.{is_known, display_size}
use Rattle.chip.specs.Written.{is_written}
use Rattle.mirror.specs.Answer.{count_places, paper}
use Rattle.mirror.specs.Table.{record_of}
use Rattle.mirror.specs.Stream.{start_of, feed_of, next_of, end_of, run_of}
use Rattle.mirror.specs.Promise.{summed}
use Rattle.mirror.specs.Written.{written_paper, written_of, bit_at}
use Rattle.mirror.specs.declared.panel.Panel.{Panel}
use Rattle.mirror.specs.declared.stream.Reply.TheVariants as next
use Rattle.picture.specs.Compare.{compare_paper, compared_of}
use Rattle.picture.specs.Paint.{paint_paper, painted_of, frame_after}

-- by every call on the panel
pub record RefusedCalls (p : Panel) : Type 0 where
  -- by `record`: byte 0, no byte used, the panel as it was
  pub answered : (log : List ℕ) → paper (record_of p log).answer (record_of p log).byte ≡ record { number = 10; byte = 0 }
  pub unused : (log : List ℕ) → (record_of p log).used ≡ 0
  pub kept : (log : List ℕ) → (record_of p log).panel ≡ p
  -- by `run`, and by `feed` and `end`: all counts 0 and not cut
  pub runs : (log : List ℕ) → summed (run_of p log) ≡ record { number = some 10; counts = replicate count_places 0; cut = false }
  pub left : (log : List ℕ) → (run_of p log).panel ≡ p
  pub fed : (log : List ℕ) → end_of (feed_of (start_of p) log) ≡ run_of p log
  -- by `next`: nothing is taken
  pub nexts : (part : List ℕ) → next_of (start_of p) part ≡ record { after = start_of p; taken = 0; reply = next.Refused }
  -- by `paint`: no lit dots, and the frame stays
  pub paints : (font : List ℕ) (dark : Bool) (frame : List ℕ) → paint_paper (painted_of p font dark frame) ≡ record { number = some 10; dots = 0 }
  pub frames : (font : List ℕ) (dark : Bool) (frame : List ℕ) → frame_after p font dark frame ≡ frame
  -- by `written`: no bits
  pub places : written_paper (written_of p) ≡ record { number = some 10; bits = 0 }

-- and by `compare`, told its chip: no place
pub record RefusedAlways (p : Panel) : Type 0 where
  pub calls : RefusedCalls p
  pub compares : (a b : List ℕ) → compare_paper (compared_of p.sheet.registers.chip a b) ≡ record { number = some 10; place = none }

-- AN UNKNOWN CHIP
abbrev pub UnknownRefused : Type 0
UnknownRefused = (p : Panel) → is_known p.sheet.registers.chip ≡ false → RefusedAlways p

-- BITS THAT DISAGREE with display memory, at any one address
abbrev pub DisagreeingRefused : Type 0
DisagreeingRefused = (p : Panel) (a : ℕ) → a < display_size → (bit_at p a ≡ one (is_written p.sheet.display a) → ⊥) → RefusedCalls p
