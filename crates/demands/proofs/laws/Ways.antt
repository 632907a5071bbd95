-- Every way that a record can go: the one case analysis that both halves of demand 3 rest on.
use Rattle.std.specs.Prelude.{ℕ, ◌*◌, ◌%◌, ◌/◌, ◌≤◌, ◌≡◌, refl, Bool, true, false, not, [], ◌∷◌, ltb, eqb}
use Rattle.std.proofs.Common.{sym, true≢false, ltb-false}
use Rattle.std.specs.Bool.{beq}
use Rattle.std.proofs.lemmas.Bool.{eqb-false}
use Rattle.laws.specs.Pick.{pick}
use Rattle.framing.specs.declared.frame.Frame.{Frame}
use Rattle.framing.specs.declared.frame.Frame.TheVariants as frame
use Rattle.chip.specs.Sheet.{fresh_sheet}
use Rattle.mirror.specs.engine.Way.{Way, finish_of, whole_of, first_of, second_of, unless_torn, way_of}
use Rattle.mirror.specs.Words.{nibble_of, joined_of, free, status_of, is_good, read_byte, holding, done, high}
use Rattle.mirror.specs.engine.Record.{recorded, span_of, read_as, went, transferred, answered}
use Rattle.mirror.specs.declared.answer.Answer.{Answer}
use Rattle.mirror.specs.declared.answer.Answer.TheVariants as say
use Rattle.mirror.specs.declared.half.Half.{Half}
use Rattle.mirror.specs.declared.half.Half.TheVariants.{Empty, Ignored, Waiting}
use Rattle.mirror.specs.declared.panel.Panel.{Panel}
use Rattle.mirror.specs.declared.record.Recorded.{Recorded}
use Rattle.demands.specs.Replay.{Entry, instruct, write, read, carried, entry_of, Something}

-- the answers to what is carried out
pub data Acts : Answer → Type 0 where
  taken : Acts say.Taken
  doubtful : Acts say.Doubtful

-- the answers after which no half waits and nothing is carried out
pub data Drops : Answer → Type 0 where
  status : Drops say.Status
  ignored : Drops say.Ignored
  torn : Drops say.Torn
  nothing : Drops say.Nothing

-- the answers that change nothing
pub data Stands : Answer → Type 0 where
  back : Stands say.Back
  bad : Stands say.Bad
  cut : Stands say.Cut

-- no half waits at width 8
abbrev pub Narrow : Bool → Half → Type 0
Narrow eight h = eight ≡ true → h ≡ Empty

-- a transfer can be carried out while h waits: whole at width 8, and otherwise as the second half of a pair
abbrev pub Fits : Bool → Half → Bool → Type 0
Fits true h reads = h ≡ Empty
Fits false Empty reads = ⊥
Fits false (Ignored r w) reads = ⊥
Fits false (Waiting r w nibble) reads = w ≡ reads

-- a transfer on the panel p, at a width and with a half waiting
pub data Goes (p : Panel) (time : ℕ) (rs reads : Bool) (bus : ℕ) (eight : Bool) (h : Half) : Recorded → Type 0 where
  -- carried out, whole or as a pair
  acts : (a : Answer) → Acts a → (e : Entry) (span byte : ℕ) → entry_of rs reads (joined_of eight h bus) ≡ e ∷ [] → Something e → Fits eight h reads →
      Goes p time rs reads bus eight h (recorded (done time (carried e p.sheet) span p) a byte 14)
  -- nothing is carried out, and no half waits
  drops : (a : Answer) (byte : ℕ) → Drops a → Goes p time rs reads bus eight h (recorded (holding time Empty p) a byte 14)
  -- the first half of a pair, ignored or held
  misses : h ≡ Empty → eight ≡ false → Goes p time rs reads bus eight h (recorded (holding time (Ignored rs reads) p) say.Ignored 0 14)
  begins : (nibble byte : ℕ) → h ≡ Empty → eight ≡ false → (reads ≡ false → nibble ≡ bus / 16) →
      Goes p time rs reads bus eight h (recorded (holding time (Waiting rs reads nibble) p) say.Held byte 14)

module _ (p : Panel) (time : ℕ) (rs : Bool) (bus : ℕ) (eight : Bool) (h : Half) where
  abbrev byte : ℕ
  byte = joined_of eight h bus

  finish_goes : Fits eight h false → Goes p time rs false bus eight h (went (finish_of rs byte) time rs false bus byte p)
  finish_goes f = by rs (eqb byte 0) refl
    where
      by : (rs z : Bool) → eqb byte 0 ≡ z →
          Goes p time rs false bus eight h (went (pick rs Way.Write (pick z Way.Nothing Way.Obey)) time rs false bus byte p)
      by true z e = acts say.Taken taken (write byte) p.times.short 0 refl tt f
      by false true e = drops say.Nothing 0 nothing
      by false false e = acts say.Taken taken (instruct byte) (span_of byte p) 0 refl (eqb-false byte 0 e) f

-- a data read that is carried out, good or not
read_acts : (good : Bool) → Acts (read_as good)
read_acts true = taken
read_acts false = doubtful

whole_goes : (p : Panel) (time : ℕ) (rs reads : Bool) (bus : ℕ) (h : Half) (z : Bool) → h ≡ Empty →
    Goes p time rs reads bus true h (went (whole_of z rs reads bus) time rs reads bus bus p)
whole_goes p time rs false bus h true n = finish_goes p time rs bus true h n
whole_goes p time rs false bus h false n = drops say.Ignored 0 ignored
whole_goes p time true true bus h true n = acts (read_as (is_good p)) (read_acts (is_good p)) read p.times.short (read_byte p) refl tt n
whole_goes p time true true bus h false n = drops say.Ignored 0 ignored
whole_goes p time false true bus h z n = drops say.Status (status_of time p) status

first_goes : (p : Panel) (time : ℕ) (rs reads : Bool) (bus given : ℕ) (z : Bool) →
    Goes p time rs reads bus false Empty (went (first_of z rs reads) time rs reads bus given p)
first_goes p time rs false bus given true = begins (bus / 16) 0 refl refl (λ e. refl)
first_goes p time rs false bus given false = misses refl refl
first_goes p time true true bus given true = begins (read_byte p % 16) (high (read_byte p)) refl refl (λ e. absurd (true≢false e))
first_goes p time true true bus given false = misses refl refl
first_goes p time false true bus given z = begins (status_of time p % 16) (high (status_of time p)) refl refl (λ e. absurd (true≢false e))

second_goes : (p : Panel) (time : ℕ) (rs reads : Bool) (bus : ℕ) (r w : Bool) (nibble : ℕ) → w ≡ reads →
    let byte = joined_of false (Waiting r w nibble) bus in
    Goes p time rs reads bus false (Waiting r w nibble) (went (second_of rs reads byte) time rs reads bus byte p)
second_goes p time rs false bus r w nibble e = finish_goes p time rs bus false (Waiting r w nibble) e
second_goes p time true true bus r w nibble e = acts (read_as (is_good p)) (read_acts (is_good p)) read p.times.short (pick (is_good p) (nibble_of p.half * 16) 0) refl tt e
second_goes p time false true bus r w nibble e = drops say.Status (nibble_of p.half * 16) status

beq_same : (x y : Bool) → not (beq x y) ≡ false → x ≡ y
beq_same true true e = refl
beq_same true false e = e
beq_same false true e = sym e
beq_same false false e = refl

-- a second half that differs is torn; any other has the first half's R/W
torn_goes : (p : Panel) (time : ℕ) (rs reads : Bool) (bus byte : ℕ) (h : Half) (r w : Bool) (v : Way) →
    (w ≡ reads → Goes p time rs reads bus false h (went v time rs reads bus byte p)) →
    Goes p time rs reads bus false h (went (unless_torn r w rs reads v) time rs reads bus byte p)
torn_goes p time rs reads bus byte h r w v go = by (not (beq r rs)) (not (beq w reads)) (beq_same w reads)
  where
    by : (a b : Bool) → (b ≡ false → w ≡ reads) →
        Goes p time rs reads bus false h (went (pick a Way.Torn (pick b Way.Torn v)) time rs reads bus byte p)
    by true b e = drops say.Torn 0 torn
    by false true e = drops say.Torn 0 torn
    by false false e = go (e refl)

goes : (p : Panel) (time : ℕ) (rs reads : Bool) (bus : ℕ) (eight : Bool) (h : Half) (z : Bool) → Narrow eight h →
    let byte = joined_of eight h bus in
    Goes p time rs reads bus eight h (went (way_of eight h z rs reads byte) time rs reads bus byte p)
goes p time rs reads bus true h z n = whole_goes p time rs reads bus h z (n refl)
goes p time rs reads bus false Empty z n = first_goes p time rs reads bus (joined_of false Empty bus) z
goes p time rs reads bus false (Ignored r w) z n =
    torn_goes p time rs reads bus (joined_of false (Ignored r w) bus) (Ignored r w) r w Way.Ignored (λ e. drops say.Ignored 0 ignored)
goes p time rs reads bus false (Waiting r w nibble) z n =
    let byte = joined_of false (Waiting r w nibble) bus in
    torn_goes p time rs reads bus byte (Waiting r w nibble) r w (second_of rs reads byte) (second_goes p time rs reads bus r w nibble)

-- a record on the panel p: not acted on, a reset, or a transfer
pub data Came (p : Panel) : Frame → Recorded → Type 0 where
  stands : (f : Frame) (a : Answer) (used : ℕ) → Stands a → Came p f (recorded p a 0 used)
  restarts : (time : ℕ) → p.last ≤ time → Came p (frame.Reset time) (recorded (done time (fresh_sheet p.sheet.registers.chip) p.times.reset p) say.Taken 0 12)
  transfers : (time : ℕ) (rs reads : Bool) (bus : ℕ) (r : Recorded) → p.last ≤ time → transferred time rs reads bus p ≡ r →
      Goes p time rs reads bus p.sheet.registers.eight p.half r → Came p (frame.Transfer time rs reads bus) r

unless_back : (p : Panel) (f : Frame) (z : Bool) (used : ℕ) (r : Recorded) → (z ≡ false → Came p f r) → Came p f (pick z (recorded p say.Back 0 used) r)
unless_back p f true used r go = stands f say.Back used back
unless_back p f false used r go = go refl

pub came : (p : Panel) (f : Frame) → Narrow p.sheet.registers.eight p.half → Came p f (answered f p)
unfolding transferred
came p frame.Cut n = stands frame.Cut say.Cut 0 cut
came p (frame.Bad size) n = stands (frame.Bad size) say.Bad size bad
came p (frame.Reset time) n =
    unless_back p (frame.Reset time) (ltb time p.last) 12 (recorded (done time (fresh_sheet p.sheet.registers.chip) p.times.reset p) say.Taken 0 12)
    (λ e. restarts time (ltb-false time p.last e))
came p (frame.Transfer time rs reads bus) n =
    unless_back p (frame.Transfer time rs reads bus) (ltb time p.last) 14 (transferred time rs reads bus p)
    (λ e.
    transfers time rs reads bus (transferred time rs reads bus p) (ltb-false time p.last e) refl
    (goes p time rs reads bus p.sheet.registers.eight p.half (free time p) n))
