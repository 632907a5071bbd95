-- ANY TWO ALLOWED ANSWERS ARE EQUAL: said of the very clauses that the checker reads off a function's contract.
use Rattle.std.specs.Prelude.{◌≡◌, refl}
use Rattle.std.proofs.Common.{sym, ◌∙◌}
use seplogic.Ra.Ura.{Ura}
use contract.Notation.{connectives}
use contract.Lifetimes.{Lfts}
use denote.Triple.Entry.{Args, Res}
use denote.Triple.Clauses.{Ended, AtExit, Clauses}

module _ {M : Type 1} (𝓤 : Ura M) (T : Ended) (c : Clauses 𝓤 T) where
  open connectives 𝓤 use {⌜◌⌝}

  abbrev Lifetimes : Type 0
  Lifetimes = Lfts T.signature.lifetimes

  -- a contract determines the answer, and what is lent to be written to, as it is afterwards. `lent` picks that from the arguments at exit: the
  -- first is e.0, the second e.1.0, the third e.1.1.0
  pub record Determines {L : Type 0} (lent : (κs : Lifetimes) → AtExit T κs → L) : Type 2 where
    -- what it ensures, for arguments a, of the answer r and of the arguments e at exit
    pub Says : (κs : Lifetimes) → Args T.signature κs → Res T.signature κs → AtExit T κs → Type 0
    pub stated : (κs : Lifetimes) (a : Args T.signature κs) (g : (c κs a).ghost) (r : Res T.signature κs) (e : AtExit T κs) →
        (c κs a).ensures g r e ≡ ⌜ Says κs a r e ⌝
    -- any two that it allows are equal
    pub one : (κs : Lifetimes) (a : Args T.signature κs) (r s : Res T.signature κs) (e f : AtExit T κs) →
        Says κs a r e → Says κs a s f → (r ≡ s) × (lent κs e ≡ lent κs f)

  -- nothing is lent to be written to
  abbrev pub DeterminesAnswer : Type 2
  DeterminesAnswer = Determines {L = Unit {0}} (λ κs e. tt)

  pub answer : (Says : (κs : Lifetimes) → Args T.signature κs → Res T.signature κs → AtExit T κs → Type 0) →
      ((κs : Lifetimes) (a : Args T.signature κs) (g : (c κs a).ghost) (r : Res T.signature κs) (e : AtExit T κs) →
      (c κs a).ensures g r e ≡ ⌜ Says κs a r e ⌝) →
      ((κs : Lifetimes) (a : Args T.signature κs) (r s : Res T.signature κs) (e f : AtExit T κs) → Says κs a r e → Says κs a s f → r ≡ s) →
      DeterminesAnswer
  answer Says stated one = record { Says = Says; stated = stated; one = λ κs a r s e f p q. (one κs a r s e f p q, refl) }

  -- an equation with a definition does
  pub equation : (x : (κs : Lifetimes) → Args T.signature κs → Res T.signature κs) →
      ((κs : Lifetimes) (a : Args T.signature κs) (g : (c κs a).ghost) (r : Res T.signature κs) (e : AtExit T κs) →
      (c κs a).ensures g r e ≡ ⌜ r ≡ x κs a ⌝) →
      DeterminesAnswer
  equation x stated = answer (λ κs a r e. r ≡ x κs a) stated (λ κs a r s e f p q. p ∙ sym q)

  -- of an answer that refers to something, what it refers to: `shown` picks that from the answer
  pub record DeterminesShown {V : Type 0} (shown : (κs : Lifetimes) → Res T.signature κs → V) : Type 2 where
    pub Says : (κs : Lifetimes) → Args T.signature κs → Res T.signature κs → AtExit T κs → Type 0
    pub stated : (κs : Lifetimes) (a : Args T.signature κs) (g : (c κs a).ghost) (r : Res T.signature κs) (e : AtExit T κs) →
        (c κs a).ensures g r e ≡ ⌜ Says κs a r e ⌝
    pub one : (κs : Lifetimes) (a : Args T.signature κs) (r s : Res T.signature κs) (e f : AtExit T κs) →
        Says κs a r e → Says κs a s f → shown κs r ≡ shown κs s

  pub shown_equation : {V : Type 0} (shown : (κs : Lifetimes) → Res T.signature κs → V) (x : (κs : Lifetimes) → Args T.signature κs → V) →
      ((κs : Lifetimes) (a : Args T.signature κs) (g : (c κs a).ghost) (r : Res T.signature κs) (e : AtExit T κs) →
      (c κs a).ensures g r e ≡ ⌜ shown κs r ≡ x κs a ⌝) →
      DeterminesShown shown
  shown_equation shown x stated =
      record { Says = λ κs a r e. shown κs r ≡ x κs a; stated = stated; one = λ κs a r s e f p q. p ∙ sym q }
