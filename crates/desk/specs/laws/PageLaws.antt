-- Bytes that are put on a page one after another.
use Rattle.std.specs.Prelude.{◌≡◌, ℕ, suc, ◌+◌, ◌<◌, ◌≤◌, List, [], ◌∷◌, ◌++◌, length, drop, take, nat_le, Bool, true, false, slice_set, refl}
use Rattle.std.proofs.Common.{◌-◌, ◌∙◌, sym, ap, subst, arith, leb-true, leb-false, set, take_all, append_assoc, add-zero, drop-drop, length-set}
use Rattle.std.proofs.lemmas.Bool.{lt-leb}
use Rattle.std.proofs.lemmas.List.{take-append-drop, take_more, take_more_set, drop-set-lt}
use borrow.Rule.Slice.PartMut.{put_mid}
use Rattle.desk.specs.declared.page.Page.{Page}
use Rattle.desk.specs.Page.{Puts, page_size, page_with, page_with_all, place_on, place_with_room}
use Rattle.laws.specs.Pick.{pick}

abbrev filled : List ℕ → ℕ → Page
filled bytes end = record { bytes = bytes; end = end }

-- no bytes
pub none_put : (p : Page) → page_with_all [] p ≡ p
unfolding page_with_all
none_put p = refl

pub puts_none : (p : Page) → Puts [] p p
puts_none p = record { is = sym (none_put p) }

-- one byte, where room was made for it
room_for_one : (end : ℕ) → place_with_room 1 end ≡ place_on end
room_for_one end = by (nat_le (end + 1) page_size) (nat_le page_size end) refl refl
  where
    by : (p q : Bool) → nat_le (end + 1) page_size ≡ p → nat_le page_size end ≡ q → pick p end 0 ≡ pick q 0 end
    by true true e f = absurd (omega (arith, leb-true (end + 1) page_size e, leb-true page_size end f))
    by true false e f = refl
    by false true e f = refl
    by false false e f = absurd (omega (arith, leb-false (end + 1) page_size e, leb-false page_size end f))

pub puts_byte : (byte : ℕ) (p : Page) → Puts (byte ∷ []) p (filled (slice_set p.bytes (place_with_room 1 p.end) byte) (place_with_room 1 p.end + 1))
unfolding page_with_all
puts_byte byte p = record { is = ap (λ (n : ℕ). filled (slice_set p.bytes n byte) (n + 1)) (room_for_one p.end) }

-- bytes after bytes
pub then_put : (a b : List ℕ) (p : Page) → page_with_all b (page_with_all a p) ≡ page_with_all (a ++ b) p
unfolding page_with_all
then_put [] b p = refl
then_put (x ∷ a) b p = then_put a b (page_with x p)

pub puts_then : {a b : List ℕ} {p q r : Page} → Puts a p q → Puts b q r → Puts (a ++ b) p r
puts_then {a} {b} {p} P Q = record { is = Q.is ∙ ap (page_with_all b) P.is ∙ then_put a b p }

pub puts_from : {s : List ℕ} {p q : Page} → q ≡ page_with_all s p → Puts s p q
puts_from e = record { is = e }

-- a row of puts: `#[tactic(auto, using(desk::specs::laws::PageLaws::rows))]` on a function, an impl or a file proves that the bytes of all were put
pub ruleset rows = (none_put, then_put, puts_from, append_assoc)

-- the same bytes, put on the same page, leave one page
pub puts_same : {s : List ℕ} {p q r : Page} → Puts s p q → Puts s p r → q ≡ r
puts_same P Q = P.is ∙ sym Q.is

-- a loop over bytes: one more of them, and all
pub ruleset parts = (take_more, take_all)

-- one byte where there is room for it, and the others after it
over_more : (xs s : List ℕ) (at b : ℕ) → at < length xs → put_mid (at + 1) (length s) (set xs at b) s ≡ put_mid at (suc (length s)) xs (b ∷ s)
over_more xs s at b h =
    let after : drop (at + 1) (set xs at b) ≡ drop (at + 1) xs = drop-set-lt (at + 1) xs at b (omega arith) in
    let same : at + 1 + length s ≡ at + suc (length s) = omega arith in
    let rest : drop (length s) (drop (at + 1) xs) ≡ drop (suc (length s)) (drop at xs) =
    drop-drop (length s) (at + 1) xs ∙ ap (λ (n : ℕ). drop n xs) same ∙ sym (drop-drop (suc (length s)) at xs) in
    ap (λ (t : List ℕ). take (at + 1) (set xs at b) ++ (s ++ t)) (ap (drop (length s)) after ∙ rest)
    ∙ ap (λ (t : List ℕ). t ++ (s ++ drop (suc (length s)) (drop at xs))) (take_more_set xs at b h)
    ∙ append_assoc (take at xs) (b ∷ []) _

-- bytes that a page has room for stand where its next byte went, and the others as they did
pasted : (xs s : List ℕ) (at : ℕ) → at + length s ≤ page_size → at + length s ≤ length xs → page_with_all s (filled xs at) ≡ filled (put_mid at (length s) xs s) (at + length s)
unfolding page_with_all
pasted xs [] at r h = cc (take-append-drop at xs, add-zero at)
pasted xs (b ∷ s) at r h =
    let here : place_on at ≡ at = rw (lt-leb page_size at (omega arith)) in
    let byte : page_with b (filled xs at) ≡ filled (set xs at b) (at + 1) = ap (λ (n : ℕ). filled (set xs n b) (n + 1)) here in
    let others = pasted (set xs at b) s (at + 1) (omega arith) (omega (arith, length-set xs at b)) in
    let next : at + 1 + length s ≡ at + suc (length s) = omega arith in
    ap (page_with_all s) byte ∙ others ∙ ap (filled _) next ∙ ap (λ (l : List ℕ). filled l (at + suc (length s))) (over_more xs s at b (omega arith))

pub puts_pasted : {s : List ℕ} {p : Page} (after : List ℕ) → after ≡ s → p.end + length s ≤ page_size → length p.bytes ≡ page_size
    → Puts s p (record { bytes = put_mid p.end (p.end + length s - p.end) p.bytes after; end = p.end + length s })
puts_pasted {s} {p} after e r l =
    let many : p.end + length s - p.end ≡ length s = omega arith in
    rw (e, many) (record { is = sym (pasted p.bytes s p.end r (omega arith)) })
