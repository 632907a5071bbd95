-- Laws of a step round a ring, over any number of places.
use Rattle.std.specs.Prelude.{ℕ, suc, zero, ◌+◌, ◌-◌, ◌%◌, ◌<◌, ◌≡◌, Bool, true, false}
use Rattle.std.proofs.Common.{sym, ap, ◌∙◌, arith, mod-lt, mod-eq_of_lt}
use Rattle.std.proofs.Math.Nat.{mod_self, mod-add-mod, add-mod_right}
use Rattle.laws.specs.Ring.{up, down, moved}
use Rattle.laws.specs.engine.Turns.{turns}

-- a step stays within the ring, from wherever it starts
pub moved_below : (n : ℕ) (rising : Bool) (a : ℕ) → 0 < n → moved n rising a < n
moved_below n true a h = mod-lt (a + 1) h
moved_below n false a h = mod-lt (a + (n - 1)) h

-- a start past the end counts from the front
pub moved_mod : (n : ℕ) (rising : Bool) (a : ℕ) → moved n rising (a % n) ≡ moved n rising a
moved_mod n true a = mod-add-mod a n 1
moved_mod n false a = mod-add-mod a n (n - 1)

-- up then down is the start
pub up_down : (n a : ℕ) → a < n → down n (up n a) ≡ a
up_down n a h =
    let e : a + 1 + (n - 1) ≡ a + n = omega arith in
    mod-add-mod (a + 1) n (n - 1) ∙ ap (λ x. x % n) e ∙ add-mod_right a n ∙ mod-eq_of_lt h

-- down then up is the start
pub down_up : (n a : ℕ) → a < n → up n (down n a) ≡ a
down_up n a h =
    let e : a + (n - 1) + 1 ≡ a + n = omega arith in
    mod-add-mod (a + (n - 1)) n 1 ∙ ap (λ x. x % n) e ∙ add-mod_right a n ∙ mod-eq_of_lt h

-- down from the first is the last
pub down_first : (n : ℕ) → 0 < n → down n 0 ≡ n - 1
down_first n h = let l : 0 + (n - 1) < n = omega arith in mod-eq_of_lt l ∙ omega arith

-- up from the last is the first
pub up_last : (n : ℕ) → 0 < n → up n (n - 1) ≡ 0
up_last n h = let e : n - 1 + 1 ≡ n = omega arith in ap (λ x. x % n) e ∙ mod_self n

-- k steps up are one move by k
pub up_by : (n k a : ℕ) → a < n → turns (up n) k a ≡ (a + k) % n
unfolding turns
up_by n zero a h = sym (ap (λ x. x % n) (omega arith) ∙ mod-eq_of_lt h)
up_by n (suc k) a h =
    ap (up n) (up_by n k a h) ∙ mod-add-mod (a + k) n 1 ∙ ap (λ x. x % n) (omega arith)

-- n steps are none
pub all_round : (n a : ℕ) → a < n → turns (up n) n a ≡ a
all_round n a h = up_by n n a h ∙ add-mod_right a n ∙ mod-eq_of_lt h
