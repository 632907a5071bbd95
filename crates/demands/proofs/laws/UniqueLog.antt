-- Any two allowed answers are equal: each public function of `framing`, and what its contract ensures.
use Rattle.std.specs.Prelude.{refl}
use seplogic.Ra.Ura.{Ura}
use base.Logic.{SProp}
use prog.Memory.{Memory}
use prog.Routine.{Routine}
use types.Logic.{Logic}
use contract.Monad.{Fun}
use Rattle.framing.specs.contracts.carry.Carry.empty as carry·empty
use Rattle.framing.specs.contracts.carry.Carry.keep as carry·keep
use Rattle.framing.specs.contracts.carry.Carry.bytes as carry·bytes
use Rattle.framing.specs.contracts.carry.Carry.frame as carry·frame
use Rattle.framing.specs.contracts.carry.Carry.flaw as carry·flaw
use Rattle.framing.specs.contracts.carry.Carry.wants_more as carry·wants-more
use Rattle.framing.specs.contracts.carry.Carry.wanting as carry·wanting
use Rattle.framing.specs.contracts.carry.Carry.fill as carry·fill
use Rattle.framing.specs.contracts.frame.Frame.size as frame·size
use Rattle.framing.specs.contracts.front.told as front·told
use Rattle.framing.specs.contracts.front.whole as front·whole
use Rattle.framing.specs.contracts.front.wants_more as front·wants-more
use Rattle.framing.specs.contracts.front.frame as front·frame
use Rattle.framing.specs.contracts.front.flaw as front·flaw
use Rattle.framing.specs.contracts.records.records as records·records
use Rattle.demands.specs.Unique.{DeterminesAnswer, DeterminesShown, equation, shown_equation}

module _ {M : Type 1} {𝓤 : Ura M} (𝓛 : Logic 𝓤) (mem : Memory → SProp 𝓤) (run : Routine → Fun 𝓤) where
  -- framing::carry::Carry::empty: result ≡ carry_of []
  pub carry_empty : DeterminesAnswer 𝓤 carry·empty.ended (carry·empty.clauses 𝓛 mem run)
  carry_empty = equation 𝓤 _ _ _ (λ κs a g r e. refl)

  -- framing::carry::Carry::keep: result ≡ carry_of (take room part.now)
  pub carry_keep : DeterminesAnswer 𝓤 carry·keep.ended (carry·keep.clauses 𝓛 mem run)
  carry_keep = equation 𝓤 _ _ _ (λ κs a g r e. refl)

  -- framing::carry::Carry::bytes: result.now ≡ carried_of self.now
  pub carry_bytes : DeterminesShown 𝓤 carry·bytes.ended (carry·bytes.clauses 𝓛 mem run) (λ κs r. r.now)
  carry_bytes = shown_equation 𝓤 _ _ _ _ (λ κs a g r e. refl)

  -- framing::carry::Carry::frame: result ≡ frame_of (carried_of self.now)
  pub carry_frame : DeterminesAnswer 𝓤 carry·frame.ended (carry·frame.clauses 𝓛 mem run)
  carry_frame = equation 𝓤 _ _ _ (λ κs a g r e. refl)

  -- framing::carry::Carry::flaw: result ≡ flaw_of (carried_of self.now)
  pub carry_flaw : DeterminesAnswer 𝓤 carry·flaw.ended (carry·flaw.clauses 𝓛 mem run)
  carry_flaw = equation 𝓤 _ _ _ (λ κs a g r e. refl)

  -- framing::carry::Carry::wants_more: result ≡ wants_more (carried_of self.now)
  pub carry_wants_more : DeterminesAnswer 𝓤 carry·wants-more.ended (carry·wants-more.clauses 𝓛 mem run)
  carry_wants_more = equation 𝓤 _ _ _ (λ κs a g r e. refl)

  -- framing::carry::Carry::wanting: result ≡ carry_of (wanting_of (carried_of self))
  pub carry_wanting : DeterminesAnswer 𝓤 carry·wanting.ended (carry·wanting.clauses 𝓛 mem run)
  carry_wanting = equation 𝓤 _ _ _ (λ κs a g r e. refl)

  -- framing::carry::Carry::fill: result ≡ filled_of (carried_of self) part.now
  pub carry_fill : DeterminesAnswer 𝓤 carry·fill.ended (carry·fill.clauses 𝓛 mem run)
  carry_fill = equation 𝓤 _ _ _ (λ κs a g r e. refl)

  -- framing::frame::Frame::size: result ≡ size_of self
  pub frame_size_lem : DeterminesAnswer 𝓤 frame·size.ended (frame·size.clauses 𝓛 mem run)
  frame_size_lem = equation 𝓤 _ _ _ (λ κs a g r e. refl)

  -- framing::front::told: result ≡ told_size log.now
  pub told : DeterminesAnswer 𝓤 front·told.ended (front·told.clauses 𝓛 mem run)
  told = equation 𝓤 _ _ _ (λ κs a g r e. refl)

  -- framing::front::whole: result ≡ whole_size log.now
  pub whole : DeterminesAnswer 𝓤 front·whole.ended (front·whole.clauses 𝓛 mem run)
  whole = equation 𝓤 _ _ _ (λ κs a g r e. refl)

  -- framing::front::wants_more: result ≡ wants_more log.now
  pub wants_more_lem : DeterminesAnswer 𝓤 front·wants-more.ended (front·wants-more.clauses 𝓛 mem run)
  wants_more_lem = equation 𝓤 _ _ _ (λ κs a g r e. refl)

  -- framing::front::frame: result ≡ frame_of log.now
  pub frame : DeterminesAnswer 𝓤 front·frame.ended (front·frame.clauses 𝓛 mem run)
  frame = equation 𝓤 _ _ _ (λ κs a g r e. refl)

  -- framing::front::flaw: result ≡ flaw_of log.now
  pub flaw : DeterminesAnswer 𝓤 front·flaw.ended (front·flaw.clauses 𝓛 mem run)
  flaw = equation 𝓤 _ _ _ (λ κs a g r e. refl)

  -- framing::records::records: result ≡ records_of log.now
  pub records : DeterminesAnswer 𝓤 records·records.ended (records·records.clauses 𝓛 mem run)
  records = equation 𝓤 _ _ _ (λ κs a g r e. refl)
