-- Any two allowed answers are equal: each public function of `desk` whose answer a contract can determine. docs/PROMISES.md lists the others.
use Rattle.std.specs.Prelude.{refl}
use Rattle.std.proofs.Common.{sym, ◌∙◌}
use seplogic.Ra.Ura.{Ura}
use base.Logic.{SProp}
use prog.Memory.{Memory}
use prog.Routine.{Routine}
use types.Logic.{Logic}
use contract.Monad.{Fun}
use Rattle.desk.specs.laws.ClockLaws.{clock_one, decimal_one, some_same, here_same}
use Rattle.desk.specs.laws.PageLaws.{puts_same}
use Rattle.desk.specs.contracts.chips.chip_of as chips·chip
use Rattle.desk.specs.contracts.number.number_of as number·of
use Rattle.desk.specs.contracts.page.Page.as_slice as page·as-slice
use Rattle.desk.specs.contracts.page.Page.blank as page·blank
use Rattle.desk.specs.contracts.page.Page.make_room as page·make-room
use Rattle.desk.specs.contracts.page.Page.put as page·put
use Rattle.desk.specs.contracts.page.Page.put_clock as page·put-clock
use Rattle.desk.specs.contracts.page.Page.put_clock_here as page·put-clock-here
use Rattle.desk.specs.contracts.page.Page.put_here as page·put-here
use Rattle.desk.specs.contracts.page.Page.put_number as page·put-number
use Rattle.desk.specs.contracts.page.Page.put_number_here as page·put-number-here
use Rattle.desk.specs.contracts.progress.Progress.hidden as progress·hidden
use Rattle.desk.specs.contracts.times.times_of as times·times
use Rattle.desk.specs.contracts.told.Told.panel as told·panel
use Rattle.desk.specs.declared.page.Page.{Page}
use Rattle.demands.specs.Unique.{Determines, DeterminesAnswer, DeterminesShown, equation, shown_equation}

module _ {M : Type 1} {𝓤 : Ura M} (𝓛 : Logic 𝓤) (mem : Memory → SProp 𝓤) (run : Routine → Fun 𝓤) where
  -- desk::chips::chip_of: result ≡ chip_named name.now
  pub chip_of_lem : DeterminesAnswer 𝓤 chips·chip.ended (chips·chip.clauses 𝓛 mem run)
  chip_of_lem = equation 𝓤 _ _ _ (λ κs a g r e. refl)

  -- desk::number::number_of: result ≡ decimal_of word.now most
  pub number_of : DeterminesAnswer 𝓤 number·of.ended (number·of.clauses 𝓛 mem run)
  number_of = equation 𝓤 _ _ _ (λ κs a g r e. refl)

  -- desk::page::Page::as_slice: result.now ≡ printed self.now
  pub page_as_slice : DeterminesShown 𝓤 page·as-slice.ended (page·as-slice.clauses 𝓛 mem run) (λ κs r. r.now)
  page_as_slice = shown_equation 𝓤 _ _ _ _ (λ κs a g r e. refl)

  -- desk::page::Page::blank: result ≡ blank_page
  pub page_blank : DeterminesAnswer 𝓤 page·blank.ended (page·blank.clauses 𝓛 mem run)
  page_blank = equation 𝓤 _ _ _ (λ κs a g r e. refl)

  -- desk::page::Page::make_room: self.new ≡ with_room size self.old
  pub page_make_room : Determines 𝓤 page·make-room.ended (page·make-room.clauses 𝓛 mem run) {L = Page} (λ κs e. e.0.now)
  page_make_room = record { Says = _; stated = λ κs a g r e. refl; one = λ κs a r s e f p q. (refl, p ∙ sym q) }

  -- desk::page::Page::put: Puts bytes.now self.old self.new
  pub page_put : Determines 𝓤 page·put.ended (page·put.clauses 𝓛 mem run) {L = Page} (λ κs e. e.0.now)
  page_put = record { Says = _; stated = λ κs a g r e. refl; one = λ κs a r s e f p q. (refl, puts_same p q) }

  -- desk::page::Page::put_clock: PutsSome (Clock time) self.old self.new
  pub page_put_clock : Determines 𝓤 page·put-clock.ended (page·put-clock.clauses 𝓛 mem run) {L = Page} (λ κs e. e.0.now)
  page_put_clock = record { Says = _; stated = λ κs a g r e. refl; one = λ κs a r s e f p q. (refl, some_same _ (clock_one _) p q) }

  -- desk::page::Page::put_clock_here: PutsHere most_clock (Clock time) self.old self.new
  pub page_put_clock_here : Determines 𝓤 page·put-clock-here.ended (page·put-clock-here.clauses 𝓛 mem run) {L = Page} (λ κs e. e.0.now)
  page_put_clock_here = record { Says = _; stated = λ κs a g r e. refl; one = λ κs a r s e f p q. (refl, here_same _ _ (clock_one _) p q) }

  -- desk::page::Page::put_here: PutsHere (length bytes.now) (λ s. s ≡ bytes.now) self.old self.new
  pub page_put_here : Determines 𝓤 page·put-here.ended (page·put-here.clauses 𝓛 mem run) {L = Page} (λ κs e. e.0.now)
  page_put_here = record { Says = _; stated = λ κs a g r e. refl; one = λ κs a r s e f p q. (refl, here_same _ _ (λ x y p q. p ∙ sym q) p q) }

  -- desk::page::Page::put_number: PutsSome (Decimal n) self.old self.new
  pub page_put_number : Determines 𝓤 page·put-number.ended (page·put-number.clauses 𝓛 mem run) {L = Page} (λ κs e. e.0.now)
  page_put_number = record { Says = _; stated = λ κs a g r e. refl; one = λ κs a r s e f p q. (refl, some_same _ (decimal_one _) p q) }

  -- desk::page::Page::put_number_here: PutsHere most_digits (Decimal n) self.old self.new
  pub page_put_number_here : Determines 𝓤 page·put-number-here.ended (page·put-number-here.clauses 𝓛 mem run) {L = Page} (λ κs e. e.0.now)
  page_put_number_here = record { Says = _; stated = λ κs a g r e. refl; one = λ κs a r s e f p q. (refl, here_same _ _ (decimal_one _) p q) }

  -- desk::progress::Progress::hidden: result ≡ hidden
  pub progress_hidden : DeterminesAnswer 𝓤 progress·hidden.ended (progress·hidden.clauses 𝓛 mem run)
  progress_hidden = equation 𝓤 _ _ _ (λ κs a g r e. refl)

  -- desk::times::times_of: result ≡ times_of reset.now long.now short.now
  pub times_of_lem : DeterminesAnswer 𝓤 times·times.ended (times·times.clauses 𝓛 mem run)
  times_of_lem = equation 𝓤 _ _ _ (λ κs a g r e. refl)

  -- desk::told::Told::panel: result ≡ fresh_panel self.chip self.times.reset self.times.long self.times.short
  pub told_panel : DeterminesAnswer 𝓤 told·panel.ended (told·panel.clauses 𝓛 mem run)
  told_panel = equation 𝓤 _ _ _ (λ κs a g r e. refl)
