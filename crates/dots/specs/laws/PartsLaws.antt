-- Parts of n places each, one after the other: place c of part p is p n + c.
use Rattle.std.specs.Prelude.{ℕ, suc, zero, ◌+◌, ◌*◌, ◌/◌, ◌%◌, ◌<◌, ◌≡◌}
use Rattle.std.proofs.Common.{sym, ap, ◌∙◌, add-zero, add-mul, mul_assoc, div-add-mod', suc-mul, mul-zero, mul-le-mul_right, mod-eq_of_lt, mod-lt, div-lt_iff_lt-mul, arith}
use Rattle.std.proofs.Math.Nat.{add-mul-mod_self_right, mul-add-div_right, mul-add-mod_self_right, div-eq_of_lt}

-- it lies within m parts
pub place_in : (n m p c : ℕ) → p < m → c < n → p * n + c < m * n
place_in n m p c h k = omega (arith, suc-mul p n, mul-le-mul_right {m = suc p} {n = m} n h)

-- its part and its place in the part
pub part_back : (n p c : ℕ) → c < n → (p * n + c) / n ≡ p
part_back n p c k =
    let pos : 0 < n = omega arith in
    mul-add-div_right pos p c ∙ ap (λ (z : ℕ). p + z) (div-eq_of_lt k) ∙ add-zero p

pub place_back : (n p c : ℕ) → c < n → (p * n + c) % n ≡ c
place_back n p c k = mul-add-mod_self_right p n c ∙ mod-eq_of_lt k

-- each of the m n places has a part and a place in it
pub part_of : (n m x : ℕ) → x < m * n → x / n < m
part_of zero m x h = omega (arith, mul-zero m)
part_of (suc n) m x h = (div-lt_iff_lt-mul {k = suc n} {x = x} {y = m} (omega arith)).1 h

pub place_of : (n m x : ℕ) → x < m * n → x % n < n
place_of zero m x h = omega (arith, mul-zero m)
place_of (suc n) m x h = mod-lt x (omega arith)

-- a part that is counted round m of them, or not: the place is the same, counted round all of them
pub part_round : (n m p c : ℕ) → (p % m * n + c) % (m * n) ≡ (p * n + c) % (m * n)
part_round n m p c =
    let e : p * n ≡ p / m * (m * n) + p % m * n = ap (λ (k : ℕ). k * n) (sym (div-add-mod' p m)) ∙ add-mul (p / m * m) (p % m) n ∙ ap (λ (k : ℕ). k + p % m * n) (mul_assoc (p / m) m n) in
    let d : p * n + c ≡ p % m * n + c + p / m * (m * n) = omega (arith, e) in
    sym (ap (λ (k : ℕ). k % (m * n)) d ∙ add-mul-mod_self_right (p % m * n + c) (p / m) (m * n))
