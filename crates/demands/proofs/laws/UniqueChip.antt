-- Any two allowed answers are equal: each public function of `chip`, and what its contract ensures.
use Rattle.std.specs.Prelude.{ℕ, ◌≡◌, refl, List, []}
use Rattle.std.proofs.Common.{sym, ap, ◌∙◌}
use seplogic.Ra.Ura.{Ura}
use base.Logic.{SProp}
use prog.Memory.{Memory}
use prog.Routine.{Routine}
use types.Logic.{Logic}
use contract.Monad.{Fun}
use Rattle.chip.specs.declared.sheet.Sheet.{Sheet}
use Rattle.chip.specs.contracts.sizes.known as sizes·known
use Rattle.chip.specs.contracts.sizes.lines as sizes·lines
use Rattle.chip.specs.contracts.sizes.places as sizes·places
use Rattle.chip.specs.contracts.address.DisplayAddress.moved as display-address·moved
use Rattle.chip.specs.contracts.address.DisplayAddress.read as display-address·read
use Rattle.chip.specs.contracts.address.DisplayAddress.write as display-address·write
use Rattle.chip.specs.contracts.address.PatternAddress.moved as pattern-address·moved
use Rattle.chip.specs.contracts.address.PatternAddress.read as pattern-address·read
use Rattle.chip.specs.contracts.address.PatternAddress.write as pattern-address·write
use Rattle.chip.specs.contracts.address.Address.number as address·number
use Rattle.chip.specs.contracts.address.Address.in_display as address·in-display
use Rattle.chip.specs.contracts.address.Address.moved as address·moved
use Rattle.chip.specs.contracts.instruction.decode as instruction·decode
use Rattle.chip.specs.contracts.registers.Registers.fresh as registers·fresh
use Rattle.chip.specs.contracts.registers.Registers.clear as registers·clear
use Rattle.chip.specs.contracts.registers.Registers.home as registers·home
use Rattle.chip.specs.contracts.registers.Registers.entry_mode as registers·entry-mode
use Rattle.chip.specs.contracts.registers.Registers.screen as registers·screen
use Rattle.chip.specs.contracts.registers.Registers.step as registers·step
use Rattle.chip.specs.contracts.registers.Registers.shift_by_one as registers·shift-by-one
use Rattle.chip.specs.contracts.registers.Registers.function_set as registers·function-set
use Rattle.chip.specs.contracts.registers.Registers.set as registers·set
use Rattle.chip.specs.contracts.registers.Registers.next_good as registers·next-good
use Rattle.chip.specs.contracts.registers.Registers.act as registers·act
use Rattle.chip.specs.contracts.registers.Registers.obey as registers·obey
use Rattle.chip.specs.contracts.registers.Registers.here as registers·here
use Rattle.chip.specs.contracts.registers.Registers.read as registers·read
use Rattle.chip.specs.contracts.registers.Registers.write as registers·write
use Rattle.chip.specs.contracts.address.Address.fits as address·fits
use Rattle.chip.specs.contracts.sheet.blank_past as sheet·blank-past
use Rattle.chip.specs.contracts.sheet.pattern_fits as sheet·pattern-fits
use Rattle.chip.specs.contracts.sheet.Sheet.fresh as sheet·fresh
use Rattle.chip.specs.contracts.sheet.Sheet.sound as sheet·sound
use Rattle.demands.specs.Unique.{Determines, DeterminesAnswer, answer, equation}

-- equal sheets have equal registers and memories
registers_of : {x y : Sheet} → x ≡ y → x.registers ≡ y.registers
registers_of e = ap (λ (s : Sheet). s.registers) e

display_of : {x y : Sheet} → x ≡ y → x.display ≡ y.display
display_of e = ap (λ (s : Sheet). s.display) e

memories_of : {x y : Sheet} → x ≡ y → ◌≡◌ {A = List ℕ × List ℕ} (x.display, x.pattern) (y.display, y.pattern)
memories_of e = ap (λ (s : Sheet). (s.display, s.pattern)) e

module _ {M : Type 1} {𝓤 : Ura M} (𝓛 : Logic 𝓤) (mem : Memory → SProp 𝓤) (run : Routine → Fun 𝓤) where
  -- chip::sizes::known: result ≡ is_known chip
  pub known : DeterminesAnswer 𝓤 sizes·known.ended (sizes·known.clauses 𝓛 mem run)
  known = equation 𝓤 _ _ _ (λ κs a g r e. refl)

  -- chip::sizes::lines: result ≡ lines_of chip
  pub lines : DeterminesAnswer 𝓤 sizes·lines.ended (sizes·lines.clauses 𝓛 mem run)
  lines = equation 𝓤 _ _ _ (λ κs a g r e. refl)

  -- chip::sizes::places: Places chip result
  pub places : DeterminesAnswer 𝓤 sizes·places.ended (sizes·places.clauses 𝓛 mem run)
  places = answer 𝓤 _ _ _ (λ κs a g r e. refl) (λ κs a r s e f p q. p.is ∙ sym q.is)

  -- chip::address::DisplayAddress::moved: result ≡ moved_display chip up self
  pub display_address_moved : DeterminesAnswer 𝓤 display-address·moved.ended (display-address·moved.clauses 𝓛 mem run)
  display_address_moved = equation 𝓤 _ _ _ (λ κs a g r e. refl)

  -- chip::address::DisplayAddress::read: result ≡ read_display chip self display.now
  pub display_address_read : DeterminesAnswer 𝓤 display-address·read.ended (display-address·read.clauses 𝓛 mem run)
  display_address_read = equation 𝓤 _ _ _ (λ κs a g r e. refl)

  -- chip::address::DisplayAddress::write: display.new ≡ written_display chip self byte display.old
  pub display_address_write : Determines 𝓤 display-address·write.ended (display-address·write.clauses 𝓛 mem run) (λ κs e. e.1.1.1.0.now)
  display_address_write = record { Says = _; stated = λ κs a g r e. refl; one = λ κs a r s e f p q. (refl, p ∙ sym q) }

  -- chip::address::PatternAddress::moved: result ≡ moved_pattern up self
  pub pattern_address_moved : DeterminesAnswer 𝓤 pattern-address·moved.ended (pattern-address·moved.clauses 𝓛 mem run)
  pattern_address_moved = equation 𝓤 _ _ _ (λ κs a g r e. refl)

  -- chip::address::PatternAddress::read: result ≡ read_pattern self pattern.now
  pub pattern_address_read : DeterminesAnswer 𝓤 pattern-address·read.ended (pattern-address·read.clauses 𝓛 mem run)
  pattern_address_read = equation 𝓤 _ _ _ (λ κs a g r e. refl)

  -- chip::address::PatternAddress::write: pattern.new ≡ written_pattern self byte pattern.old
  pub pattern_address_write : Determines 𝓤 pattern-address·write.ended (pattern-address·write.clauses 𝓛 mem run) (λ κs e. e.1.1.0.now)
  pattern_address_write = record { Says = _; stated = λ κs a g r e. refl; one = λ κs a r s e f p q. (refl, p ∙ sym q) }

  -- chip::address::Address::number: result ≡ address_number chip self
  pub address_number : DeterminesAnswer 𝓤 address·number.ended (address·number.clauses 𝓛 mem run)
  address_number = equation 𝓤 _ _ _ (λ κs a g r e. refl)

  -- chip::address::Address::in_display: result ≡ in_display self
  pub address_in_display : DeterminesAnswer 𝓤 address·in-display.ended (address·in-display.clauses 𝓛 mem run)
  address_in_display = equation 𝓤 _ _ _ (λ κs a g r e. refl)

  -- chip::address::Address::moved: result ≡ moved_address chip up self
  pub address_moved : DeterminesAnswer 𝓤 address·moved.ended (address·moved.clauses 𝓛 mem run)
  address_moved = equation 𝓤 _ _ _ (λ κs a g r e. refl)

  -- chip::instruction::decode: result ≡ decoded chip code
  pub decode : DeterminesAnswer 𝓤 instruction·decode.ended (instruction·decode.clauses 𝓛 mem run)
  decode = equation 𝓤 _ _ _ (λ κs a g r e. refl)

  -- chip::registers::Registers::fresh: Starts (fresh_sheet chip) result display.new pattern.new
  pub registers_fresh : Determines 𝓤 registers·fresh.ended (registers·fresh.clauses 𝓛 mem run) {L = List ℕ × List ℕ} (λ κs e. (e.1.0.now, e.1.1.0.now))
  registers_fresh = record { Says = _; stated = λ κs a g r e. refl; one = λ κs a r s e f p q. (registers_of (p ∙ sym q), memories_of (p ∙ sym q)) }

  -- chip::registers::Registers::clear: StepsDisplay cleared self display.old result display.new
  pub registers_clear : Determines 𝓤 registers·clear.ended (registers·clear.clauses 𝓛 mem run) (λ κs e. e.1.0.now)
  registers_clear = record { Says = _; stated = λ κs a g r e. refl; one = λ κs a r s e f p q. (registers_of (p [] ∙ sym (q [])), display_of (p [] ∙ sym (q []))) }

  -- chip::registers::Registers::home: Steps homed self result
  pub registers_home : DeterminesAnswer 𝓤 registers·home.ended (registers·home.clauses 𝓛 mem run)
  registers_home = answer 𝓤 _ _ _ (λ κs a g r e. refl) (λ κs a r s e f p q. registers_of (p [] [] ∙ sym (q [] [])))

  -- chip::registers::Registers::entry_mode: Steps (entered up follow) self result
  pub registers_entry_mode : DeterminesAnswer 𝓤 registers·entry-mode.ended (registers·entry-mode.clauses 𝓛 mem run)
  registers_entry_mode = answer 𝓤 _ _ _ (λ κs a g r e. refl) (λ κs a r s e f p q. registers_of (p [] [] ∙ sym (q [] [])))

  -- chip::registers::Registers::screen: Steps (screen_set on cursor blink) self result
  pub registers_screen : DeterminesAnswer 𝓤 registers·screen.ended (registers·screen.clauses 𝓛 mem run)
  registers_screen = answer 𝓤 _ _ _ (λ κs a g r e. refl) (λ κs a r s e f p q. registers_of (p [] [] ∙ sym (q [] [])))

  -- chip::registers::Registers::step: Steps (stepped up) self result
  pub registers_step : DeterminesAnswer 𝓤 registers·step.ended (registers·step.clauses 𝓛 mem run)
  registers_step = answer 𝓤 _ _ _ (λ κs a g r e. refl) (λ κs a r s e f p q. registers_of (p [] [] ∙ sym (q [] [])))

  -- chip::registers::Registers::shift_by_one: Steps (shifted left) self result
  pub registers_shift_by_one : DeterminesAnswer 𝓤 registers·shift-by-one.ended (registers·shift-by-one.clauses 𝓛 mem run)
  registers_shift_by_one = answer 𝓤 _ _ _ (λ κs a g r e. refl) (λ κs a r s e f p q. registers_of (p [] [] ∙ sym (q [] [])))

  -- chip::registers::Registers::function_set: Steps (function_set eight bits) self result
  pub registers_function_set : DeterminesAnswer 𝓤 registers·function-set.ended (registers·function-set.clauses 𝓛 mem run)
  registers_function_set = answer 𝓤 _ _ _ (λ κs a g r e. refl) (λ κs a r s e f p q. registers_of (p [] [] ∙ sym (q [] [])))

  -- chip::registers::Registers::set: Steps (address_set address) self result
  pub registers_set : DeterminesAnswer 𝓤 registers·set.ended (registers·set.clauses 𝓛 mem run)
  registers_set = answer 𝓤 _ _ _ (λ κs a g r e. refl) (λ κs a r s e f p q. registers_of (p [] [] ∙ sym (q [] [])))

  -- chip::registers::Registers::next_good: Steps (next_good good) self result
  pub registers_next_good : DeterminesAnswer 𝓤 registers·next-good.ended (registers·next-good.clauses 𝓛 mem run)
  registers_next_good = answer 𝓤 _ _ _ (λ κs a g r e. refl) (λ κs a r s e f p q. registers_of (p [] [] ∙ sym (q [] [])))

  -- chip::registers::Registers::act: StepsDisplay (acted i) self display.old result display.new
  pub registers_act : Determines 𝓤 registers·act.ended (registers·act.clauses 𝓛 mem run) (λ κs e. e.1.1.0.now)
  registers_act = record { Says = _; stated = λ κs a g r e. refl; one = λ κs a r s e f p q. (registers_of (p [] ∙ sym (q [])), display_of (p [] ∙ sym (q []))) }

  -- chip::registers::Registers::obey: StepsDisplay (obeyed code) self display.old result display.new
  pub registers_obey : Determines 𝓤 registers·obey.ended (registers·obey.clauses 𝓛 mem run) (λ κs e. e.1.1.0.now)
  registers_obey = record { Says = _; stated = λ κs a g r e. refl; one = λ κs a r s e f p q. (registers_of (p [] ∙ sym (q [])), display_of (p [] ∙ sym (q []))) }

  -- chip::registers::Registers::here: result ≡ read_here self display.now pattern.now
  pub registers_here : DeterminesAnswer 𝓤 registers·here.ended (registers·here.clauses 𝓛 mem run)
  registers_here = equation 𝓤 _ _ _ (λ κs a g r e. refl)

  -- chip::registers::Registers::read: Steps passed self result
  pub registers_read : DeterminesAnswer 𝓤 registers·read.ended (registers·read.clauses 𝓛 mem run)
  registers_read = answer 𝓤 _ _ _ (λ κs a g r e. refl) (λ κs a r s e f p q. registers_of (p [] [] ∙ sym (q [] [])))

  -- chip::registers::Registers::write: StepsBoth (written byte) self display.old pattern.old result display.new pattern.new
  pub registers_write : Determines 𝓤 registers·write.ended (registers·write.clauses 𝓛 mem run) {L = List ℕ × List ℕ} (λ κs e. (e.1.1.0.now, e.1.1.1.0.now))
  registers_write = record { Says = _; stated = λ κs a g r e. refl; one = λ κs a r s e f p q. (registers_of (p ∙ sym q), memories_of (p ∙ sym q)) }

  -- chip::address::Address::fits: result ≡ address_fits chip self
  pub address_fits : DeterminesAnswer 𝓤 address·fits.ended (address·fits.clauses 𝓛 mem run)
  address_fits = equation 𝓤 _ _ _ (λ κs a g r e. refl)

  -- chip::sheet::blank_past: result ≡ blank_past chip display
  pub blank_past_lem : DeterminesAnswer 𝓤 sheet·blank-past.ended (sheet·blank-past.clauses 𝓛 mem run)
  blank_past_lem = equation 𝓤 _ _ _ (λ κs a g r e. refl)

  -- chip::sheet::pattern_fits: result ≡ pattern_fits pattern
  pub pattern_fits_lem : DeterminesAnswer 𝓤 sheet·pattern-fits.ended (sheet·pattern-fits.clauses 𝓛 mem run)
  pattern_fits_lem = equation 𝓤 _ _ _ (λ κs a g r e. refl)

  -- chip::sheet::Sheet::fresh: result ≡ fresh_sheet chip
  pub sheet_fresh : DeterminesAnswer 𝓤 sheet·fresh.ended (sheet·fresh.clauses 𝓛 mem run)
  sheet_fresh = equation 𝓤 _ _ _ (λ κs a g r e. refl)

  -- chip::sheet::Sheet::sound: result ≡ sound_sheet self
  pub sheet_sound : DeterminesAnswer 𝓤 sheet·sound.ended (sheet·sound.clauses 𝓛 mem run)
  sheet_sound = equation 𝓤 _ _ _ (λ κs a g r e. refl)
