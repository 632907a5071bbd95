-- A number and a clock are each written in one way.
use Rattle.std.specs.Prelude.{◌≡◌, ℕ, zero, suc, ◌+◌, ◌-◌, ◌*◌, ◌/◌, ◌%◌, ◌^◌, ◌<◌, ◌≤◌, List, [], ◌∷◌, ◌++◌}
use Rattle.std.specs.Fmt.{decimal}
use Rattle.std.proofs.lemmas.Fmt.{decimal_by_steps}
use Rattle.std.proofs.Common.{sym, ap, subst, ◌∙◌, le_of_suc-le-suc, lt_of_not-le, lt-ltb, arith}
use Rattle.std.proofs.Math.Nat.{pow-le-pow_right, pow-succ'}
use Rattle.io.specs.Digits.{last_digits, hex_digit_ascii, IsDigitCount}
use Rattle.desk.specs.Page.{Puts, PutsSome, PutsHere}
use Rattle.desk.specs.Clock.{Decimal, Hours, Clock, within_hour}
use Rattle.desk.specs.Clock.Hours.{two, more}
use Rattle.desk.specs.Page.PutsHere.{room, full}
use Rattle.desk.specs.laws.PageLaws.{puts_then, puts_same}
use Rattle.desk.specs.declared.page.Page.{Page}

-- fewer digits than the fewest do not hold it
not_fewer : (n j k : ℕ) → IsDigitCount 10 1 n j → IsDigitCount 10 1 n k → suc j ≤ k → ⊥
not_fewer n j k J K l =
    let some : 1 ≤ j = J.0 in
    let holds : n < 10 ^ j = J.1 in
    let p : 10 ^ (k - 1) ≤ n = K.2 (omega arith) in
    let q : 10 ^ j ≤ 10 ^ (k - 1) = pow-le-pow_right (omega arith) (omega arith) in
    omega arith

fewest_one : (n j k : ℕ) → IsDigitCount 10 1 n j → IsDigitCount 10 1 n k → j ≡ k
fewest_one n j k J K =
    let p : j ≤ k = le_of_suc-le-suc (lt_of_not-le (not_fewer n k j K J)) in
    let q : k ≤ j = le_of_suc-le-suc (lt_of_not-le (not_fewer n j k J K)) in
    omega arith

pub decimal_one : (n : ℕ) (a b : List ℕ) → Decimal n a → Decimal n b → a ≡ b
decimal_one n a b A B = A.written ∙ ap (λ (k : ℕ). last_digits 10 k n) (fewest_one n _ _ A.fewest B.fewest) ∙ sym B.written

never : (n : ℕ) → n < 100 → 100 ≤ n → ⊥
never n l g = omega arith

hours_one : (n : ℕ) (a b : List ℕ) → Hours n a → Hours n b → a ≡ b
hours_one n a b (two l d) (two m e) = d ∙ sym e
hours_one n a b (two l d) (more g e) = absurd (never n l g)
hours_one n a b (more g d) (two l e) = absurd (never n l g)
hours_one n a b (more g d) (more h e) = decimal_one n a b d e

pub clock_one : (time : ℕ) (a b : List ℕ) → Clock time a → Clock time b → a ≡ b
clock_one time a b A B = A.written ∙ ap (λ (hours : List ℕ). hours ++ within_hour time) (hours_one _ _ _ A.told B.told) ∙ sym B.written

-- what the library writes is a number in decimal: one digit, or those of a tenth of it and one more
glyph : (n : ℕ) → hex_digit_ascii (n % 10) ≡ 48 + n % 10
glyph n = rw (lt-ltb (n % 10) 10 (omega arith))

one_digit : (n : ℕ) → n < 10 → Decimal n ((48 + n) ∷ [])
one_digit n h =
    let same : n % 10 ≡ n = omega arith in
    record {
      many = 1;
      fewest = (omega arith, omega arith, λ l. absurd (omega arith));
      written = ap (λ (d : ℕ). d ∷ []) (sym (glyph n ∙ ap (λ (d : ℕ). 48 + d) same));
    }

needed : (n k : ℕ) → 10 ≤ n → IsDigitCount 10 1 (n / 10) k → 10 ^ k ≤ n
needed n zero h D = absurd (omega (arith, D.0))
needed n (suc zero) h D = h
needed n (suc (suc j)) h D =
    let least : 10 ^ (suc (suc j) - 1) ≤ n / 10 = D.2 (omega arith) in
    let same : 10 ^ (suc (suc j) - 1) ≡ 10 ^ suc j = ap (λ (i : ℕ). 10 ^ i) (omega arith) in
    omega (arith, least, same, pow-succ' 10 (suc j))

one_more : (n : ℕ) (s : List ℕ) → 10 ≤ n → Decimal (n / 10) s → Decimal n (s ++ ((48 + n % 10) ∷ []))
one_more n s h D =
    let k = D.many in
    let most : n / 10 < 10 ^ k = D.fewest.1 in
    let next : 10 ^ suc k ≡ 10 * 10 ^ k = pow-succ' 10 k in
    record {
      many = suc k;
      fewest = (omega arith, omega (arith, next), λ l. let same : 10 ^ (suc k - 1) ≡ 10 ^ k = ap (λ (i : ℕ). 10 ^ i) (omega arith) in omega (arith, same, needed n k h D.fewest));
      written = ap (λ (t : List ℕ). t ++ ((48 + n % 10) ∷ [])) D.written ∙ ap (λ (d : ℕ). last_digits 10 k (n / 10) ++ (d ∷ [])) (sym (glyph n));
    }

pub decimal_is : (n : ℕ) → n < 2 ^ 64 → Decimal n (decimal n)
decimal_is = decimal_by_steps Decimal one_digit one_more

pub puts_decimal : {n : ℕ} {s : List ℕ} {p q : Page} → s ≡ decimal n → n < 2 ^ 64 → Puts s p q → PutsSome (Decimal n) p q
puts_decimal {n} {s} e h P = record { bytes = s; kind = rw e (decimal_is n h); puts = P }

-- the hours, and then the rest
pub clock_puts : {time : ℕ} {s : List ℕ} {p q r : Page} → PutsSome (Hours (time / 3600000000)) p q → s ≡ within_hour time → Puts s q r → PutsSome (Clock time) p r
clock_puts {time} {s} H e W = record { bytes = H.bytes ++ s; kind = record { hours = H.bytes; told = H.kind; written = rw e }; puts = puts_then H.puts W }

-- so what is put on a page leaves one page
module _ (Kind : List ℕ → Type 0) (one : (a b : List ℕ) → Kind a → Kind b → a ≡ b) {p q r : Page} where
  pub some_same : PutsSome Kind p q → PutsSome Kind p r → q ≡ r
  some_same P Q = puts_same P.puts (subst (λ (s : List ℕ). Puts s p r) (one _ _ Q.kind P.kind) Q.puts)

-- nor does it matter where there may be no room
module _ (most : ℕ) (Kind : List ℕ → Type 0) (one : (a b : List ℕ) → Kind a → Kind b → a ≡ b) {p q r : Page} where
  pub here_same : PutsHere most Kind p q → PutsHere most Kind p r → q ≡ r
  here_same (room h P) (room k Q) = some_same Kind one P Q
  here_same (room h P) (full k e) = absurd (omega arith)
  here_same (full h d) (room k Q) = absurd (omega arith)
  here_same (full h d) (full k e) = d ∙ sym e
