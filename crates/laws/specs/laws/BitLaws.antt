-- Laws of `bit`, `one`, `pack` and `with_bit`.
use Rattle.std.specs.Prelude.{ℕ, zero, suc, ◌+◌, ◌*◌, ◌/◌, ◌%◌, ◌^◌, ◌<◌, max, ◌≡◌, refl, Bool, true, false, eqb}
use Rattle.std.proofs.Common.{sym, ap, ◌∙◌, pow-suc, div-one, not-suc-le-zero, le_of_suc-le-suc, arith, shr-shr, eqb-true}
use Rattle.std.proofs.Math.Nat.{zero-div}
use Rattle.std.proofs.Math.Pow.{pow-lt}
use Rattle.std.proofs.lemmas.Nat.{shl-shr, or_shr, or_lt, xor_shr, xor_lt}
use Rattle.std.specs.Int.Bits.{bit_or, bit_xor, differ, or_step, xor_step, shifted_half, shifted_even}
use Rattle.std.proofs.lemmas.Bool.{eqb-false}
use Rattle.laws.specs.Pick.{pick}
use Rattle.laws.specs.Bit.{bit, one, pack, with_bit}

pub bit_lt : (n k : ℕ) → bit n k < 2
bit_lt n k = omega arith

pub one_lt : (b : Bool) → one b < 2
one_lt true = omega arith
one_lt false = omega arith

-- a bit, tested and written as a bit again
pub one_bit : (n : ℕ) → n < 2 → one (eqb n 1) ≡ n
one_bit zero h = refl
one_bit (suc zero) h = refl
one_bit (suc (suc n)) h = absurd (not-suc-le-zero (le_of_suc-le-suc (le_of_suc-le-suc h)))

pub bit_zero : (n : ℕ) → bit n 0 ≡ n % 2
bit_zero n = ap (λ (x : ℕ). x % 2) (div-one n)

-- the later bits are those of the half
pub bit_half : (n k : ℕ) → bit n (suc k) ≡ bit (n / 2) k
bit_half n k =
    ap (λ (x : ℕ). x % 2) (ap (λ (x : ℕ). n / 2 ^ x) (sym (omega arith)) ∙ sym (shr-shr n 1 k))

pub bit_of_zero : (k : ℕ) → bit 0 k ≡ 0
bit_of_zero k = ap (λ (x : ℕ). x % 2) (zero-div (2 ^ k))

pub bit_of_or : (a b k : ℕ) → bit (bit_or a b) k ≡ max (bit a k) (bit b k)
bit_of_or a b k = omega (arith, ap (λ (x : ℕ). x % 2) (or_shr a b k ∙ or_step (a / 2 ^ k) (b / 2 ^ k)))

-- v at bit k, 0 at every other
pub bit_shl : (v k : ℕ) → v < 2 → bit (v * 2 ^ k) k ≡ v
bit_shl v k h = omega (arith, shl-shr v k)

pub bit_shl_other : (v k j : ℕ) → v < 2 → (j ≡ k → ⊥) → bit (v * 2 ^ k) j ≡ 0
bit_shl_other v zero zero h ne = absurd (ne refl)
bit_shl_other v zero (suc j) h ne =
    bit_half (v * 1) j ∙ ap (λ (x : ℕ). bit x j) (omega arith) ∙ bit_of_zero j
bit_shl_other v (suc k) zero h ne = bit_zero (v * 2 ^ suc k) ∙ shifted_even v k
bit_shl_other v (suc k) (suc j) h ne =
    bit_half (v * 2 ^ suc k) j ∙ ap (λ (x : ℕ). bit x j) (shifted_half v k)
    ∙ bit_shl_other v k j h (λ e. ne (ap suc e))

-- v or-ed into bit k, and what that leaves of every other bit
pub or_same : (a v k : ℕ) → v < 2 → bit (bit_or a (v * 2 ^ k)) k ≡ max (bit a k) v
or_same a v k h = bit_of_or a (v * 2 ^ k) k ∙ ap (λ (x : ℕ). max (bit a k) x) (bit_shl v k h)

pub or_other : (a v k j : ℕ) → v < 2 → (j ≡ k → ⊥) → bit (bit_or a (v * 2 ^ k)) j ≡ bit a j
or_other a v k j h ne = omega (arith, bit_of_or a (v * 2 ^ k) j, bit_shl_other v k j h ne)

pub bit_pack : (h : ℕ → ℕ) (n i : ℕ) → ((k : ℕ) → h k < 2) → i < n → bit (pack h n) i ≡ h i
unfolding pack
bit_pack h zero i l p = absurd (not-suc-le-zero p)
bit_pack h (suc n) zero l p = bit_zero (pack h (suc n)) ∙ omega (arith, l 0)
bit_pack h (suc n) (suc i) l p =
    bit_half (pack h (suc n)) i ∙ ap (λ (x : ℕ). bit x i) (omega (arith, l 0))
    ∙ bit_pack (λ k. h (suc k)) n i (λ k. l (suc k)) (le_of_suc-le-suc p)

-- a number of n bits is made of them
pub is_pack : (h : ℕ → ℕ) (n a : ℕ) → a < 2 ^ n → ((i : ℕ) → i < n → bit a i ≡ h i) → a ≡ pack h n
unfolding pack
is_pack h zero a l e = omega arith
is_pack h (suc n) a l e =
    let rest : a / 2 ≡ pack (λ i. h (suc i)) n =
    is_pack (λ i. h (suc i)) n (a / 2) (omega (arith, pow-suc 2 n)) (λ i p. sym (bit_half a i) ∙ e (suc i) (below p)) in
    omega (arith, bit_zero a, e 0 (omega arith))
  where
    below : {i m : ℕ} → i < m → suc i < suc m
    below p = omega arith

-- two numbers of n bits with the same bits are the same
pub same_bits_lem : (n a b : ℕ) → a < 2 ^ n → b < 2 ^ n → ((i : ℕ) → i < n → bit a i ≡ bit b i) → a ≡ b
same_bits_lem n a b la lb e = is_pack (bit b) n a la e ∙ sym (is_pack (bit b) n b lb (λ i _. refl))

-- what packs the same bits is the same
pub pack_ext : (g h : ℕ → ℕ) (n : ℕ) → ((i : ℕ) → i < n → g i ≡ h i) → pack g n ≡ pack h n
unfolding pack
pack_ext g h zero e = refl
pack_ext g h (suc n) e =
    let first = e 0 (omega arith) in
    let rest = pack_ext (λ i. g (suc i)) (λ i. h (suc i)) n (λ i p. e (suc i) (above p)) in
    omega (arith, first, rest)
  where
    above : {i m : ℕ} → i < m → suc i < suc m
    above p = omega arith

-- n bits are a number below 2^n
pub pack_lt : (h : ℕ → ℕ) (n : ℕ) → ((k : ℕ) → h k < 2) → pack h n < 2 ^ n
unfolding pack
pack_lt h zero l = omega arith
pack_lt h (suc n) l = omega (arith, l 0, pack_lt (λ i. h (suc i)) n (λ i. l (suc i)), pow-suc 2 n)

-- one bit is set or cleared, and every other stays as it was
pub with_bit_lem : (n a : ℕ) (b : Bool) (bits k : ℕ) → k < n → bit (with_bit n a b bits) k ≡ pick (eqb k a) (one b) (bit bits k)
with_bit_lem n a b bits k p = bit_pack (λ i. pick (eqb i a) (one b) (bit bits i)) n k (λ i. small (eqb i a) i) p
  where
    small : (c : Bool) (i : ℕ) → pick c (one b) (bit bits i) < 2
    small true i = one_lt b
    small false i = bit_lt bits i

-- so it is where a number packs bits
pub with_pack : (n a : ℕ) (b : Bool) (h : ℕ → ℕ) → ((k : ℕ) → h k < 2) → with_bit n a b (pack h n) ≡ pack (λ k. pick (eqb k a) (one b) (h k)) n
with_pack n a b h l =
    pack_ext (λ k. pick (eqb k a) (one b) (bit (pack h n) k)) (λ k. pick (eqb k a) (one b) (h k)) n
    (λ k p. ap (λ (x : ℕ). pick (eqb k a) (one b) x) (bit_pack h n k l p))

set_there : (bits a : ℕ) → bit (bit_or bits (1 * 2 ^ a)) a ≡ 1
set_there bits a = or_same bits 1 a (omega arith) ∙ omega (arith, bit_lt bits a)

-- a number of n bits that differs from another in bit a alone, and has b there
is_with : (n a : ℕ) (b : Bool) (bits r : ℕ) → r < 2 ^ n → bit r a ≡ one b → ((k : ℕ) → (k ≡ a → ⊥) → bit r k ≡ bit bits k) → r ≡ with_bit n a b bits
is_with n a b bits r l here others = is_pack (λ k. pick (eqb k a) (one b) (bit bits k)) n r l (λ k p. by k (eqb k a) refl)
  where
    by : (k : ℕ) (c : Bool) → eqb k a ≡ c → bit r k ≡ pick c (one b) (bit bits k)
    by k true e = ap (λ (x : ℕ). bit r x) (eqb-true k a e) ∙ here
    by k false e = others k (eqb-false k a e)

differ_lt : (x y : ℕ) → x < 2 → y < 2 → differ x y < 2
differ_lt zero y p q = q
differ_lt (suc x) zero p q = p
differ_lt (suc x) (suc y) p q = differ_lt x y (omega arith) (omega arith)

pub bit_of_xor : (a b k : ℕ) → bit (bit_xor a b) k ≡ differ (bit a k) (bit b k)
bit_of_xor a b k =
    ap (λ (x : ℕ). x % 2) (xor_shr a b k ∙ xor_step (a / 2 ^ k) (b / 2 ^ k)) ∙
    low (bit_xor (a / 2 ^ k / 2) (b / 2 ^ k / 2)) (differ (bit a k) (bit b k)) (differ_lt (bit a k) (bit b k) (bit_lt a k) (bit_lt b k))
  where
    low : (q r : ℕ) → r < 2 → (q * 2 + r) % 2 ≡ r
    low q r h = omega arith

differ_none : (x : ℕ) → differ x 0 ≡ x
differ_none zero = refl
differ_none (suc x) = refl

-- a bit that is set by `or`, cleared by `xor` and set anew by `or`
pub bit_anew : (n a : ℕ) (b : Bool) (bits : ℕ) → a < n → bits < 2 ^ n → bit_or (bit_xor (bit_or bits (1 * 2 ^ a)) (1 * 2 ^ a)) (one b * 2 ^ a) ≡ with_bit n a b bits
bit_anew n a b bits p l =
    is_with n a b bits (bit_or c (one b * 2 ^ a)) (or_lt n c (one b * 2 ^ a) (xor_lt n (bit_or bits m) m (or_lt n bits m l small) small) (weight b))
    (or_same c (one b) a (one_lt b) ∙ omega (arith, cleared))
    (λ k d. or_other c (one b) a k (one_lt b) d ∙ others k d)
  where
    m : ℕ
    m = 1 * 2 ^ a

    c : ℕ
    c = bit_xor (bit_or bits m) m

    small : m < 2 ^ n
    small = omega (arith, pow-lt p)

    weight : (x : Bool) → one x * 2 ^ a < 2 ^ n
    weight true = small
    weight false = omega (arith, small)

    cleared : bit c a ≡ 0
    cleared =
        bit_of_xor (bit_or bits m) m a ∙ ap (λ (x : ℕ). differ x (bit m a)) (set_there bits a) ∙ ap (λ (x : ℕ). differ 1 x) (bit_shl 1 a (omega arith))

    others : (k : ℕ) → (k ≡ a → ⊥) → bit c k ≡ bit bits k
    others k d =
        bit_of_xor (bit_or bits m) m k ∙ ap (λ (x : ℕ). differ x (bit m k)) (or_other bits 1 a k (omega arith) d)
        ∙ ap (λ (x : ℕ). differ (bit bits k) x) (bit_shl_other 1 a k (omega arith) d) ∙ differ_none (bit bits k)
