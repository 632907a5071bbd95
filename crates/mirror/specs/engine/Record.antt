-- What the engine makes of one record, way by way. That it is the table's row is the law `answered_sound` (TableLaws.antt).
use Rattle.std.specs.Prelude.{ℕ, ◌*◌, ◌%◌, ◌/◌, Bool, ltb}
use Rattle.laws.specs.Pick.{pick}
use Rattle.framing.specs.declared.frame.Frame.{Frame}
use Rattle.framing.specs.declared.frame.Frame.TheVariants as frame
use Rattle.chip.specs.Sheet.{fresh_sheet}
use Rattle.chip.specs.Step.{obeyed, written, passed}
use Rattle.mirror.specs.engine.Way.{Way, way_of}
use Rattle.mirror.specs.Words.{free, status_of, is_good, read_byte, holding, done, high, nibble_of, joined_of}
use Rattle.mirror.specs.declared.answer.Answer.{Answer}
use Rattle.mirror.specs.declared.answer.Answer.TheVariants as say
use Rattle.mirror.specs.declared.half.Half.TheVariants.{Empty, Ignored, Waiting}
use Rattle.mirror.specs.declared.panel.Panel.{Panel}
use Rattle.mirror.specs.declared.record.Recorded.{Recorded}

abbrev pub recorded : Panel → Answer → ℕ → ℕ → Recorded
recorded p answer byte used = record { panel = p; answer = answer; byte = byte; used = used }

-- Clear and Return Home take the long time, every other instruction the short
abbrev pub span_of : ℕ → Panel → ℕ
span_of code p = pick (ltb code 4) p.times.long p.times.short

-- a data read that is carried out is taken where it is good, and doubtful where it is not
abbrev pub read_as : Bool → Answer
read_as good = pick good say.Taken say.Doubtful

-- what each way comes to
abbrev pub went : Way → ℕ → Bool → Bool → ℕ → ℕ → Panel → Recorded
went Way.Torn time rs reads bus byte p = recorded (holding time Empty p) say.Torn 0 14
went Way.Ignored time rs reads bus byte p = recorded (holding time Empty p) say.Ignored 0 14
went Way.Missed time rs reads bus byte p = recorded (holding time (Ignored rs reads) p) say.Ignored 0 14
went Way.Nothing time rs reads bus byte p = recorded (holding time Empty p) say.Nothing 0 14
went Way.HoldStatus time rs reads bus byte p =
    recorded (holding time (Waiting rs reads (status_of time p % 16)) p) say.Held (high (status_of time p)) 14
went Way.HoldRead time rs reads bus byte p = recorded (holding time (Waiting rs reads (read_byte p % 16)) p) say.Held (high (read_byte p)) 14
went Way.HoldWrite time rs reads bus byte p = recorded (holding time (Waiting rs reads (bus / 16)) p) say.Held 0 14
went Way.Status time rs reads bus byte p = recorded (holding time Empty p) say.Status (status_of time p) 14
went Way.StatusEnd time rs reads bus byte p = recorded (holding time Empty p) say.Status (nibble_of p.half * 16) 14
went Way.Read time rs reads bus byte p = recorded (done time (passed p.sheet) p.times.short p) (read_as (is_good p)) (read_byte p) 14
went Way.ReadEnd time rs reads bus byte p =
    recorded (done time (passed p.sheet) p.times.short p) (read_as (is_good p)) (pick (is_good p) (nibble_of p.half * 16) 0) 14
went Way.Write time rs reads bus byte p = recorded (done time (written byte p.sheet) p.times.short p) say.Taken 0 14
went Way.Obey time rs reads bus byte p = recorded (done time (obeyed byte p.sheet) (span_of byte p) p) say.Taken 0 14

-- a transfer that is neither bad nor back
unfoldable pub transferred : ℕ → Bool → Bool → ℕ → Panel → Recorded
transferred time rs reads bus p =
    let eight = p.sheet.registers.eight in
    let byte = joined_of eight p.half bus in
    went (way_of eight p.half (free time p) rs reads byte) time rs reads bus byte p

-- a frame: back in time comes before all else, then a reset is taken, while busy too
abbrev pub answered : Frame → Panel → Recorded
answered frame.Cut p = recorded p say.Cut 0 0
answered (frame.Bad n) p = recorded p say.Bad 0 n
answered (frame.Reset time) p =
    pick (ltb time p.last) (recorded p say.Back 0 12) (recorded (done time (fresh_sheet p.sheet.registers.chip) p.times.reset p) say.Taken 0 12)
answered (frame.Transfer time rs reads bus) p = pick (ltb time p.last) (recorded p say.Back 0 14) (transferred time rs reads bus p)
