-- Any two allowed answers are equal: each public function of `buffer`, and what its contract ensures.
use Rattle.std.specs.Prelude.{refl}
use Rattle.std.proofs.Common.{sym, ◌∙◌}
use seplogic.Ra.Ura.{Ura}
use base.Logic.{SProp}
use prog.Memory.{Memory}
use prog.Routine.{Routine}
use types.Logic.{Logic}
use contract.Monad.{Fun}
use denote.RattleType.{RattleType}
use Rattle.buffer.specs.contracts.buffer.Buffer.empty as buffer·empty
use Rattle.buffer.specs.contracts.buffer.Buffer.keep as buffer·keep
use Rattle.buffer.specs.contracts.buffer.Buffer.as_slice as buffer·as-slice
use Rattle.buffer.specs.contracts.buffer.Buffer.extend as buffer·extend
use Rattle.buffer.specs.contracts.buffer.Buffer.push as buffer·push
use Rattle.demands.specs.Unique.{Determines, DeterminesAnswer, DeterminesShown, equation, shown_equation}

module _ {M : Type 1} {𝓤 : Ura M} (𝓛 : Logic 𝓤) (mem : Memory → SProp 𝓤) (run : Routine → Fun 𝓤) where
  -- buffer::buffer::Buffer::empty: result ≡ buffer_of ROOM []
  pub buffer_empty : (n : RattleType) → DeterminesAnswer 𝓤 (buffer·empty.ended n) (buffer·empty.clauses n 𝓛 mem run)
  buffer_empty n = equation 𝓤 _ _ _ (λ κs a g r e. refl)

  -- buffer::buffer::Buffer::keep: result ≡ buffer_of ROOM (take ROOM part.now)
  pub buffer_keep : (n : RattleType) → DeterminesAnswer 𝓤 (buffer·keep.ended n) (buffer·keep.clauses n 𝓛 mem run)
  buffer_keep n = equation 𝓤 _ _ _ (λ κs a g r e. refl)

  -- buffer::buffer::Buffer::as_slice: result.now ≡ held_of self.now
  pub buffer_as_slice : (n : RattleType) → DeterminesShown 𝓤 (buffer·as-slice.ended n) (buffer·as-slice.clauses n 𝓛 mem run) (λ κs r. r.now)
  buffer_as_slice n = shown_equation 𝓤 _ _ _ _ (λ κs a g r e. refl)

  -- buffer::buffer::Buffer::extend: self.new ≡ buffer_of ROOM (take ROOM (held_of self.old ++ part.now))
  pub buffer_extend : (n : RattleType) → Determines 𝓤 (buffer·extend.ended n) (buffer·extend.clauses n 𝓛 mem run) (λ κs e. e.0.now)
  buffer_extend n = record { Says = _; stated = λ κs a g r e. refl; one = λ κs a r s e f p q. (refl, p ∙ sym q) }

  -- buffer::buffer::Buffer::push: (result ≡ push_answer self.old) × (self.new ≡ pushed byte self.old)
  pub buffer_push : (n : RattleType) → Determines 𝓤 (buffer·push.ended n) (buffer·push.clauses n 𝓛 mem run) (λ κs e. e.0.now)
  buffer_push n = record {
    Says = _;
    stated = λ κs a g r e. refl;
    one = λ κs a r s e f p q. (p.0 ∙ sym q.0, p.1 ∙ sym q.1);
  }
