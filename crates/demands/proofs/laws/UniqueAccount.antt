-- Any two allowed answers are equal: each public function of `account`, and what its contract ensures.
use Rattle.std.specs.Prelude.{refl}
use Rattle.std.proofs.Common.{sym, ◌∙◌}
use seplogic.Ra.Ura.{Ura}
use base.Logic.{SProp}
use prog.Memory.{Memory}
use prog.Routine.{Routine}
use types.Logic.{Logic}
use contract.Monad.{Fun}
use Rattle.account.specs.contracts.account.Account.keep as account·keep
use Rattle.account.specs.contracts.account.Account.start as account·start
use Rattle.account.specs.contracts.account.Account.next as account·next
use Rattle.account.specs.contracts.account.Account.unfinished as account·unfinished
use Rattle.account.specs.contracts.again.Again.after as again·after
use Rattle.account.specs.contracts.again.Again.is_quiet as again·quiet
use Rattle.account.specs.contracts.placed.Placed.read as placed·read
use Rattle.account.specs.contracts.placed.Placed.line as placed·line
use Rattle.account.specs.contracts.placed.Placed.kept as placed·kept
use Rattle.demands.specs.Unique.{Determines, DeterminesAnswer, equation}

module _ {M : Type 1} {𝓤 : Ura M} (𝓛 : Logic 𝓤) (mem : Memory → SProp 𝓤) (run : Routine → Fun 𝓤) where
  -- account::account::Account::start: result ≡ account_start panel
  pub account_start : DeterminesAnswer 𝓤 account·start.ended (account·start.clauses 𝓛 mem run)
  account_start = equation 𝓤 _ _ _ (λ κs a g r e. refl)

  -- account::account::Account::next: result ≡ account_next self part.now
  pub account_next : DeterminesAnswer 𝓤 account·next.ended (account·next.clauses 𝓛 mem run)
  account_next = equation 𝓤 _ _ _ (λ κs a g r e. refl)

  -- account::account::Account::unfinished: result ≡ unfinished_of self
  pub account_unfinished : DeterminesAnswer 𝓤 account·unfinished.ended (account·unfinished.clauses 𝓛 mem run)
  account_unfinished = equation 𝓤 _ _ _ (λ κs a g r e. refl)

  -- account::account::Account::keep: self.new ≡ after_placed self.old self.old.stream placed
  pub account_keep : Determines 𝓤 account·keep.ended (account·keep.clauses 𝓛 mem run) (λ κs e. e.0.now)
  account_keep = record { Says = _; stated = λ κs a g r e. refl; one = λ κs a r s e f p q. (refl, p ∙ sym q) }

  -- account::again::Again::after: self.new ≡ after_data self.old write
  pub again_after : Determines 𝓤 again·after.ended (again·after.clauses 𝓛 mem run) (λ κs e. e.0.now)
  again_after = record { Says = _; stated = λ κs a g r e. refl; one = λ κs a r s e f p q. (refl, p ∙ sym q) }

  -- account::again::Again::is_quiet: result ≡ quiet_at self.now.stage (number_of answer) used
  pub again_quiet : DeterminesAnswer 𝓤 again·quiet.ended (again·quiet.clauses 𝓛 mem run)
  again_quiet = equation 𝓤 _ _ _ (λ κs a g r e. refl)

  -- account::placed::Placed::read: result ≡ placed_read before answer first bytes.now
  pub placed_read : DeterminesAnswer 𝓤 placed·read.ended (placed·read.clauses 𝓛 mem run)
  placed_read = equation 𝓤 _ _ _ (λ κs a g r e. refl)

  -- account::placed::Placed::line: result ≡ line_of self
  pub placed_line : DeterminesAnswer 𝓤 placed·line.ended (placed·line.clauses 𝓛 mem run)
  placed_line = equation 𝓤 _ _ _ (λ κs a g r e. refl)

  -- account::placed::Placed::kept: result ≡ kept_of self
  pub placed_kept : DeterminesAnswer 𝓤 placed·kept.ended (placed·kept.clauses 𝓛 mem run)
  placed_kept = equation 𝓤 _ _ _ (λ κs a g r e. refl)
