-- Laws of a number's digits, read one by one.
use Rattle.std.specs.Prelude.{◌≡◌, ℕ, suc, ◌+◌, ◌-◌, ◌*◌, ◌<◌, ◌≤◌, Bool, true, false, List, [], ◌∷◌, length, drop, ◌≢◌, nat_lt, slice_index, slice_index_or, Option, Some, None, IfSome}
use Rattle.std.proofs.Common.{arith, ◌∙◌, add-one, drop_of_length-le, drop-cons}
use Rattle.std.proofs.Math.Path.{refl, sym, ap}
use borrow.Author.Tests.{lt-ltb, ltb-true, ltb-false, le-ltb}
use Rattle.laws.specs.Pick.{pick}
use Rattle.desk.specs.Number.{is_digit, all_digits, value_after, number_after, decimal_of}
use Rattle.desk.specs.engine.Number.{then_of}

-- digits only add
grows : (v : ℕ) (s : List ℕ) → v ≤ value_after v s
unfolding value_after
grows v [] = omega arith
grows v (b ∷ s) = omega (arith, grows (10 * v + (b - 48)) s)

-- none either way
abbrev none : Option ℕ
none = None

never : (d : Bool) → pick d none none ≡ none
never true = refl
never false = refl

module _ (v b : ℕ) (s : List ℕ) (most : ℕ) where
  abbrev n : ℕ
  n = 10 * v + (b - 48)

  -- where the next digit is taken, the rest decides
  taken : (w : ℕ) → then_of v b most ≡ Some w → number_after v (b ∷ s) most ≡ number_after w s most
  unfolding all_digits value_after
  taken w = by (is_digit b) (nat_lt most n)
    where
      by : (d p : Bool) → pick d (pick p None (Some n)) None ≡ Some w →
          pick (pick d (all_digits s) false) (pick (nat_lt most (value_after n s)) None (Some (value_after n s))) None ≡ number_after w s most
      by true false e = let same : n ≡ w = cc in ap (λ (x : ℕ). number_after x s most) same
      by true true e = cc
      by false p e = cc

  -- where it is not, there is no number
  refused : then_of v b most ≡ None → number_after v (b ∷ s) most ≡ None
  unfolding all_digits value_after
  refused = by (is_digit b) (nat_lt most n) refl
    where
      by : (d p : Bool) → nat_lt most n ≡ p → pick d (pick p None (Some n)) None ≡ None →
          pick (pick d (all_digits s) false) (pick (nat_lt most (value_after n s)) None (Some (value_after n s))) None ≡ None
      by true true q e = rw (lt-ltb most (value_after n s) (omega (arith, grows n s, ltb-true most n q))) (never (all_digits s))
      by true false q e = cc
      by false p q e = refl

-- a number that is tested for the greatest is not above it
tested : (d : Bool) (n most : ℕ) → IfSome (pick d (pick (nat_lt most n) None (Some n)) None) (λ m. m ≤ most)
tested d n most = by d (nat_lt most n) refl
  where
    by : (d p : Bool) → nat_lt most n ≡ p → IfSome (pick d (pick p None (Some n)) None) (λ m. m ≤ most)
    by true true q = tt
    by true false q = ltb-false most n q
    by false p q = tt

pub bounded : (s : List ℕ) (most : ℕ) → IfSome (decimal_of s most) (λ m. m ≤ most)
unfolding decimal_of
bounded [] most = tt
bounded (b ∷ s) most = tested (all_digits (b ∷ s)) (value_after 0 (b ∷ s)) most

pub not_above : (s : List ℕ) (most n : ℕ) → decimal_of s most ≡ Some n → n ≤ most
not_above s most n e = rw e at (bounded s most)

-- the digits before a place came to a number, and the rest decides
pub record Reached (word : List ℕ) (most v i : ℕ) : Type 0 where
  pub small : v ≤ most
  pub is : number_after v (drop i word) most ≡ decimal_of word most

pub wordless : (word : List ℕ) (most : ℕ) → length word ≡ 0 → None ≡ decimal_of word most
unfolding decimal_of
wordless [] most e = refl
wordless (b ∷ s) most e = absurd (omega arith)

pub begun : (word : List ℕ) (most : ℕ) → (length word ≢ 0) → Reached word most 0 0
unfolding decimal_of
begun [] most h = absurd (h refl)
begun (b ∷ s) most h = record { small = omega arith; is = refl }

module _ (word : List ℕ) (most v i : ℕ) (at : Reached word most v i) where
  split : i < length word → number_after v (slice_index word i ∷ drop (suc i) word) most ≡ decimal_of word most
  split h = ap (λ s. number_after v s most) (sym (drop-cons word i 0 h)) ∙ at.is

  pub onward : i < length word → (w : ℕ) → then_of v (slice_index word i) most ≡ Some w → Reached word most w (i + 1)
  onward h w e =
      let b = slice_index_or word i 0 in
      let s = drop (suc i) word in
      rw add-one (record { small = let t : IfSome (then_of v b most) (λ m. m ≤ most) = tested (is_digit b) (10 * v + (b - 48)) most in rw e at t; is = sym (taken v b s most w e) ∙ split h })

  pub stopped : i < length word → then_of v (slice_index word i) most ≡ None → None ≡ decimal_of word most
  stopped h e = sym (refused v (slice_index word i) (drop (suc i) word) most e) ∙ split h

  pub ended : length word ≤ i → Some v ≡ decimal_of word most
  unfolding all_digits value_after
  ended h =
      sym (ap (λ t. pick t None (Some v)) (le-ltb most v at.small)) ∙
      ap (λ s. number_after v s most) (sym (drop_of_length-le word h)) ∙ at.is

pub ruleset read = (wordless, begun, onward, stopped, ended)
