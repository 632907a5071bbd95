-- The engine is a machine that has the laws of striking.
use Rattle.std.specs.Prelude.{ℕ, ◌≤◌, ◌≡◌, refl, Bool, true, false, ltb}
use Rattle.std.proofs.Common.{arith, le_refl, sym, ap, ◌∙◌, subst, true≢false, le-ltb}
use Rattle.laws.specs.Pick.{pick}
use Rattle.framing.specs.Frame.{frame_of}
use Rattle.framing.specs.declared.frame.Frame.{Frame}
use Rattle.framing.specs.declared.frame.Frame.TheVariants as frame
use Rattle.chip.specs.Sheet.{fresh_sheet}
use Rattle.chip.specs.declared.sheet.Sheet.{Sheet}
use Rattle.mirror.specs.engine.Way.{Way, way_of}
use Rattle.mirror.specs.Words.{joined_of, free, holding, done}
use Rattle.mirror.specs.engine.Record.{recorded, went, transferred, answered}
use Rattle.mirror.specs.declared.answer.Answer.{Answer}
use Rattle.mirror.specs.declared.answer.Answer.TheVariants as say
use Rattle.mirror.specs.declared.half.Half.{Half}
use Rattle.mirror.specs.declared.half.Half.TheVariants.{Empty, Ignored, Waiting}
use Rattle.mirror.specs.declared.panel.Panel.{Panel}
use Rattle.mirror.specs.declared.record.Recorded.{Recorded}
use Rattle.striking.specs.Machine.{goes, strikes, leaves, sorted, Machine}
use Rattle.striking.specs.Duties.{Turn, KeeperStays, Laws}
use Rattle.striking.proofs.laws.Instances.{through_laws}
use Rattle.demands.specs.Mirrors.{Response, out_of, sort_for, settled_panel, machine_of}
use Rattle.demands.proofs.laws.EngineLaws.{engine}
use Rattle.demands.specs.Replay.{carried}
use Rattle.demands.proofs.laws.Ways.{Acts, taken, doubtful, Drops, status, ignored, torn, nothing, Stands, back, bad, cut, Narrow, Fits, Goes, acts, drops, misses, begins, Came, stands, restarts, transfers, came}

-- our mirror on records that are parsed already
abbrev parsed : Machine Panel Frame Response
parsed = record { step = λ p f. out_of (answered f p); sort = λ f r. sort_for r.answer; bare = settled_panel; Idle = λ p. p.half ≡ Empty }

-- the half that may yet be struck: an ignored one is struck already
abbrev live : Half → Half
live Empty = Empty
live (Ignored rs reads) = Empty
live (Waiting rs reads nibble) = Waiting rs reads nibble

-- with the waiting half kept or without it, and the clock perhaps behind
data Beside : Panel → Panel → Panel → Type 0 where
  beside : (p : Panel) (l l₁ : ℕ) → l ≤ p.last → l₁ ≤ p.last → Narrow p.sheet.registers.eight p.half →
      Beside p (holding l (live p.half) p) (holding l₁ Empty p)

-- no way of a transfer looks at the last time
went_clockless : (v : Way) (time : ℕ) (rs reads : Bool) (bus byte : ℕ) (p : Panel) (l : ℕ) →
    went v time rs reads bus byte (holding l p.half p) ≡ went v time rs reads bus byte p
went_clockless Way.Torn time rs reads bus byte p l = refl
went_clockless Way.Ignored time rs reads bus byte p l = refl
went_clockless Way.Missed time rs reads bus byte p l = refl
went_clockless Way.Nothing time rs reads bus byte p l = refl
went_clockless Way.HoldStatus time rs reads bus byte p l = refl
went_clockless Way.HoldRead time rs reads bus byte p l = refl
went_clockless Way.HoldWrite time rs reads bus byte p l = refl
went_clockless Way.Status time rs reads bus byte p l = refl
went_clockless Way.StatusEnd time rs reads bus byte p l = refl
went_clockless Way.Read time rs reads bus byte p l = refl
went_clockless Way.ReadEnd time rs reads bus byte p l = refl
went_clockless Way.Write time rs reads bus byte p l = refl
went_clockless Way.Obey time rs reads bus byte p l = refl

clockless : (time : ℕ) (rs reads : Bool) (bus : ℕ) (p : Panel) (l : ℕ) → transferred time rs reads bus (holding l p.half p) ≡ transferred time rs reads bus p
unfolding transferred
clockless time rs reads bus p l =
    let eight = p.sheet.registers.eight in
    let byte = joined_of eight p.half bus in
    went_clockless (way_of eight p.half (free time p) rs reads byte) time rs reads bus byte p l

-- so with the same half and an earlier clock a transfer is answered the same
answered_as : (p : Panel) (h : Half) (l time : ℕ) (rs reads : Bool) (bus : ℕ) → h ≡ p.half → l ≤ time →
    answered (frame.Transfer time rs reads bus) (holding l h p) ≡ transferred time rs reads bus p
answered_as p h l time rs reads bus e i =
    ap (λ x. pick (ltb time l) (recorded (holding l x p) say.Back 0 14) (transferred time rs reads bus (holding l x p))) e
    ∙ ap (λ z. pick z (recorded (holding l p.half p) say.Back 0 14) (transferred time rs reads bus (holding l p.half p))) (le-ltb time l i)
    ∙ clockless time rs reads bus p l

reset_as : (p : Panel) (h : Half) (l time : ℕ) → l ≤ time →
    answered (frame.Reset time) (holding l h p) ≡ recorded (done time (fresh_sheet p.sheet.registers.chip) p.times.reset p) say.Taken 0 12
reset_as p h l time i = rw (le-ltb time l i) refl

live_fits : (eight : Bool) (h : Half) (reads : Bool) → Fits eight h reads → live h ≡ h
live_fits true h reads f = ap live f ∙ sym f
live_fits false Empty reads f = absurd f
live_fits false (Ignored a b) reads f = absurd f
live_fits false (Waiting a b nibble) reads f = refl

-- a record carried out: all three are then one
taken_turn : (p k s : Panel) (f : Frame) (time : ℕ) (sheet : Sheet) (span : ℕ) (a : Answer) (byte used : ℕ) → Acts a →
    answered f k ≡ recorded (done time sheet span p) a byte used →
    Turn parsed Beside f (out_of (recorded (done time sheet span p) a byte used)) k s
taken_turn p k s f time sheet span a byte used taken e =
    record { follows = rw e (refl, refl, beside (done time sheet span p) time time (le_refl time) (le_refl time) (λ z. refl)) }
taken_turn p k s f time sheet span a byte used doubtful e =
    record { follows = rw e (refl, refl, beside (done time sheet span p) time time (le_refl time) (le_refl time) (λ z. refl)) }

drops_sort : {a : Answer} → Drops a → sort_for a ≡ sorted goes strikes
drops_sort status = refl
drops_sort ignored = refl
drops_sort torn = refl
drops_sort nothing = refl

stands_sort : {a : Answer} → Stands a → sort_for a ≡ sorted goes leaves
stands_sort back = refl
stands_sort bad = refl
stands_sort cut = refl

no_width : {eight : Bool} (h : Half) → eight ≡ false → Narrow eight h
no_width h e z = absurd (true≢false (sym z ∙ e))

transfer_turn : (p : Panel) (l l₁ time : ℕ) (rs reads : Bool) (bus : ℕ) (r : Recorded) → l ≤ p.last → l₁ ≤ p.last → p.last ≤ time →
    transferred time rs reads bus p ≡ r → Goes p time rs reads bus p.sheet.registers.eight p.half r →
    Turn parsed Beside (frame.Transfer time rs reads bus) (out_of r) (holding l (live p.half) p) (holding l₁ Empty p)
transfer_turn p l l₁ time rs reads bus r x y z q (acts a o e span byte i s f) =
    taken_turn p (holding l (live p.half) p) (holding l₁ Empty p) (frame.Transfer time rs reads bus) time (carried e p.sheet) span a byte 14 o
    (answered_as p (live p.half) l time rs reads bus (live_fits p.sheet.registers.eight p.half reads f) (omega arith) ∙ q)
transfer_turn p l l₁ time rs reads bus r x y z q (drops a byte d) =
    record { follows = rw (drops_sort d) (beside (holding time Empty p) l₁ l₁ (omega arith) (omega arith) (λ e. refl)) }
transfer_turn p l l₁ time rs reads bus r x y z q (misses n w) =
    record { follows = beside (holding time (Ignored rs reads) p) l₁ l₁ (omega arith) (omega arith) (no_width (Ignored rs reads) w) }
transfer_turn p l l₁ time rs reads bus r x y z q (begins nibble byte n w v) =
    let e = answered_as p (live p.half) l time rs reads bus (ap live n ∙ sym n) (omega arith) ∙ q in
    record { follows = rw e (refl, beside (holding time (Waiting rs reads nibble) p) time l₁ (le_refl time) (omega arith) (no_width (Waiting rs reads nibble) w)) }

turn : (w k s : Panel) (f : Frame) (r : Recorded) → Beside w k s → Came w f r → Turn parsed Beside f (out_of r) k s
turn w k s f r (beside p l l₁ x y n) (stands g a used d) = record { follows = rw (stands_sort d) (beside p l l₁ x y n) }
turn w k s f r (beside p l l₁ x y n) (restarts time z) =
    taken_turn p (holding l (live p.half) p) (holding l₁ Empty p) (frame.Reset time) time (fresh_sheet p.sheet.registers.chip) p.times.reset say.Taken 0 12 taken
    (reset_as p (live p.half) l time (omega arith))
turn w k s f r (beside p l l₁ x y n) (transfers time rs reads bus o z q g) = transfer_turn p l l₁ time rs reads bus o x y z q g

beside_narrow : (w k s : Panel) → Beside w k s → Narrow w.sheet.registers.eight w.half
beside_narrow w k s (beside p l l₁ x y n) = n

begins_beside : (w : Panel) → w.half ≡ Empty → Beside w w w
begins_beside w e =
    let b = beside w w.last w.last (le_refl w.last) (le_refl w.last) (λ z. e) in
    let f : holding w.last Empty w ≡ w = ap (λ h. holding w.last h w) (sym e) in
    let g : holding w.last (live w.half) w ≡ w = ap (λ h. holding w.last (live h) w) e ∙ f in
    subst (λ x. Beside w x w) g (subst (λ x. Beside w (holding w.last (live w.half) w) x) f b)

ends : (w k s : Panel) → Beside w k s → settled_panel k ≡ settled_panel w
ends w k s (beside p l l₁ x y n) = refl

keeper_stays : (a : Answer) → KeeperStays (sort_for a).own (sort_for a).others
keeper_stays say.Taken = refl
keeper_stays say.Doubtful = refl
keeper_stays say.Held = tt
keeper_stays say.Status = tt
keeper_stays say.Ignored = tt
keeper_stays say.Torn = tt
keeper_stays say.Back = tt
keeper_stays say.Bad = tt
keeper_stays say.Nothing = tt
keeper_stays say.Cut = tt
keeper_stays say.Unsound = tt

parsed_laws : Laws parsed
parsed_laws =
    record {
      Beside = Beside;
      begins = begins_beside;
      turns = λ w k s f b. turn w k s f (answered f w) b (came w f (beside_narrow w k s b));
      ends = ends;
      keeper_stays = λ f r. keeper_stays r.answer;
    }

pub mirror_laws : Laws (machine_of engine)
mirror_laws = through_laws frame_of parsed parsed_laws
