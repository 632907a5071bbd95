-- Laws of the carried bytes: that filling a carry and reading it is reading on.
use Rattle.std.specs.Prelude.{ℕ, zero, suc, ◌+◌, ◌-◌, ◌<◌, ◌≤◌, min, ◌≡◌, refl, Bool, true, false, ◌||◌, Some, None, List, [], ◌∷◌, ◌++◌, length, take, drop, leb}
use Rattle.std.specs.Option.{unwrap_or}
use Rattle.std.proofs.Common.{arith, sym, ap, ◌∙◌, append_assoc, length-append, length-take, take_all, leb-true, leb-false, le-ltb}
use Rattle.std.proofs.lemmas.List.{take_min}
use Rattle.laws.specs.Pick.{pick}
use Rattle.buffer.specs.Buffer.{buffer_of}
use Rattle.buffer.specs.laws.BufferLaws.{held}
use Rattle.framing.specs.Frame.{length_of, record_size, no_length, outside_length, cut_at, wants_more, frame_of, told_size}
use Rattle.framing.specs.laws.CutLaws.{broken, none_want, wants_few, Wants, length_first, then_body, wants, inside, broken_append, cut_either, broken_cut}
use Rattle.framing.specs.Frames.{then, pieces}
use Rattle.framing.specs.Carry.{room, carried_of, carry_of, wanting_of, reach, up_to, topped_of, more, filled, filled_of}
use Rattle.framing.specs.engine.Reading.{Reach}
use Rattle.framing.specs.laws.FrontLaws.{Front, uncut_front, length_same}
use Rattle.framing.specs.laws.FrameLaws.{frame_append, cut_frame}
use Rattle.framing.specs.laws.FramesLaws.{record_first}

-- what is left of a part where its bytes made the carried record whole
abbrev pub left : List ℕ → List ℕ → List ℕ
left carried part = drop (length (more carried part)) part

-- a carry holds what it was made of
pub carried : (s : List ℕ) → carried_of (carry_of s) ≡ s
carried s = held room s

-- what wants more is carried whole
pub keep_wants : (s : List ℕ) → wants_more s ≡ true → carried_of (carry_of (take room s)) ≡ s
keep_wants s w = carried (take room s) ∙ take_all room s (omega (arith, wants_few s w))

-- how far a record reaches, by the size that its length tells
pub reach_told : (s : List ℕ) → reach s ≡ unwrap_or (told_size s) 2
unfolding reach told_size
reach_told s = by (no_length s || outside_length s) where
  by : (b : Bool) → pick b 2 (record_size s) ≡ unwrap_or (pick b None (Some (record_size s))) 2
  by true = refl
  by false = refl

pub told_most : (s : List ℕ) → unwrap_or (told_size s) 2 ≤ room
unfolding told_size
told_most s = by (no_length s) (outside_length s) refl where
  by : (a b : Bool) → outside_length s ≡ b → unwrap_or (pick (a || b) None (Some (record_size s))) 2 ≤ room
  by true b o = omega arith
  by false true o = omega arith
  by false false o = omega (arith, inside s o)

pub reach_is : (s : List ℕ) → Reach s (unwrap_or (told_size s) 2)
reach_is s = record { is = sym (reach_told s); small = told_most s }

-- the bytes of a part put after those carried
pub topped_held : (s p : List ℕ) (to n : ℕ) → to ≤ room → length s ≤ room → n ≡ min (to - length s) (length p) → record { carry = record { held = buffer_of room (take room (s ++ take n p)) }; taken = n } ≡ topped_of s to p
unfolding topped_of
topped_held s p to n h l e =
    let t : take n p ≡ up_to to s p = ap (λ m. take m p) e ∙ take_min (to - length s) p in
    let k : n ≡ length (up_to to s p) = e ∙ sym (length-take (to - length s) p) in
    let a : take room (s ++ up_to to s p) ≡ s ++ up_to to s p = take_all room (s ++ up_to to s p) (omega (arith, length-append s (up_to to s p))) in
    rw (t, a) (ap (λ m. record { carry = carry_of (s ++ up_to to s p); taken = m }) k)

-- what is carried, what a part adds up to a count, and what is left of the part, are all
take_rest : (n : ℕ) (p : List ℕ) → take n p ++ drop (length (take n p)) p ≡ p
take_rest zero p = refl
take_rest (suc n) [] = refl
take_rest (suc n) (b ∷ p) = ap (λ (r : List ℕ). b ∷ r) (take_rest n p)

pub up_to_rest : (to : ℕ) (s p : List ℕ) → (s ++ up_to to s p) ++ drop (length (up_to to s p)) p ≡ s ++ p
up_to_rest to s p =
    append_assoc s (up_to to s p) (drop (length (up_to to s p)) p)
    ∙ ap (λ (r : List ℕ). s ++ r) (take_rest (to - length s) p)

-- where that stays below the count, it is all of the part
pub up_to_all : (to : ℕ) (s p : List ℕ) → length (s ++ up_to to s p) < to → up_to to s p ≡ p
up_to_all to s p h =
    take_all (to - length s) p (omega (arith, length-append s (up_to to s p), length-take (to - length s) p))

-- the first two bytes decide how far a record reaches
pub reach_same : (s t : List ℕ) → 2 ≤ length s → reach (s ++ t) ≡ reach s
unfolding reach
reach_same s t h =
    let l : 2 ≤ length (s ++ t) = omega (arith, length-append s t) in
    rw (le-ltb (length (s ++ t)) 2 l, le-ltb (length s) 2 h, length_same s t h)

pub reach_start : (s p : List ℕ) → reach (s ++ up_to 2 s p) ≡ reach (s ++ p)
reach_start s p = by (leb 2 (length (s ++ up_to 2 s p))) refl where
  by : (b : Bool) → leb 2 (length (s ++ up_to 2 s p)) ≡ b → reach (s ++ up_to 2 s p) ≡ reach (s ++ p)
  by true e =
      sym (reach_same (s ++ up_to 2 s p) (drop (length (up_to 2 s p)) p) (leb-true 2 (length (s ++ up_to 2 s p)) e))
      ∙ ap reach (up_to_rest 2 s p)
  by false e = ap (λ (r : List ℕ). reach (s ++ r)) (up_to_all 2 s p (leb-false 2 (length (s ++ up_to 2 s p)) e))

pub reach_least : (s : List ℕ) → 2 ≤ reach s
unfolding reach
reach_least s = by (no_length s || outside_length s) where
  by : (b : Bool) → 2 ≤ pick b 2 (record_size s)
  by true = omega arith
  by false = omega arith

-- a record that wants more reaches past what is there, and a whole one just as far as its size
pub wants_reach : (s t : List ℕ) → wants_more s ≡ true → length s < reach (s ++ t)
unfolding reach
wants_reach s t e = by (wants s e) where
  by : Wants s → length s < reach (s ++ t)
  by (length_first h) = omega (arith, reach_least (s ++ t))
  by (then_body h o l) = rw (reach_same s t h, le-ltb (length s) 2 h, o) l

pub front_reach : {s : List ℕ} {n : ℕ} (t : List ℕ) → Front s n → reach (s ++ t) ≡ n
unfolding reach
front_reach {s} {n} t f =
    let h : 2 ≤ length s = omega arith in
    reach_same s t h ∙ rw (le-ltb (length s) 2 h, le-ltb (length_of s) 2 f.least, le-ltb 64 (length_of s) f.most) (sym f.size)

-- it fits a carry
pub reach_most : (s : List ℕ) → reach s ≤ room
reach_most s = rw (reach_told s) (told_most s)

-- a carry that is filled
pub fill_carried : (c p : List ℕ) → carried_of (filled_of c p).carry ≡ filled c p
unfolding topped_of
fill_carried c p = carried (filled c p)

-- v is what it holds then, and r what is left of the part
module _ (c p : List ℕ) where
  abbrev v : List ℕ
  v = filled c p

  abbrev r : List ℕ
  r = left c p

  -- nothing is lost
  pub fill_rest : filled c p ++ left c p ≡ c ++ p
  fill_rest = up_to_rest (reach (c ++ p)) c p

  -- and what it took, with what is left, is the part
  pub more_left : more c p ++ left c p ≡ p
  more_left = take_rest (reach (c ++ p) - length c) p

  -- where the record still wants more, the whole part was taken
  pub fill_wants : wants_more (filled c p) ≡ true → more c p ≡ p
  fill_wants w = up_to_all (reach (c ++ p)) c p (rw fill_rest at (wants_reach v r w))

  -- where its length lies outside, that is so of all the bytes
  pub fill_broken : broken (filled c p) ≡ true → broken (c ++ p) ≡ true
  fill_broken b = rw fill_rest at (broken_append v r b)

  -- where it is whole, it is one record and nothing more
  pub fill_front : wants_more c ≡ true → cut_at (filled c p) ≡ false → Front (filled c p) (length (filled c p))
  fill_front w u =
      let f = uncut_front v u in
      let n : reach (c ++ p) ≡ record_size v = ap reach (sym fill_rest) ∙ front_reach r f in
      let l : length v ≡ length c + min (reach (c ++ p) - length c) (length p) =
      length-append c (more c p) ∙ ap (λ (m : ℕ). length c + m) (length-take (reach (c ++ p) - length c) p) in
      let e : record_size v ≡ length v = omega (arith, wants_reach c p w, f.fits) in
      rw e at f

  -- and the rest is read on from the part
  pub fill_whole : wants_more c ≡ true → cut_at (filled c p) ≡ false → pieces (c ++ p) ≡ then (filled c p ∷ []) (pieces (left c p))
  fill_whole w u = ap pieces (sym fill_rest) ∙ record_first r (fill_front w u)

  -- it never outgrows a carry
  pub fill_few : length c ≤ room → length (filled c p) ≤ room
  fill_few h =
      let l : length v ≡ length c + min (reach (c ++ p) - length c) (length p) =
      length-append c (more c p) ∙ ap (λ (m : ℕ). length c + m) (length-take (reach (c ++ p) - length c) p) in
      omega (arith, reach_most (c ++ p))

  -- so what is read off the carry is what stands at the front of all the bytes
  pub fill_frame : frame_of (filled c p) ≡ frame_of (c ++ p)
  fill_frame = by (wants_more v) (broken v) refl refl where
    by : (a b : Bool) → wants_more v ≡ a → broken v ≡ b → frame_of v ≡ frame_of (c ++ p)
    by true b w o = ap (λ (m : List ℕ). frame_of (c ++ m)) (fill_wants w)
    by false true w o = cut_frame v (broken_cut v o) ∙ sym (cut_frame (c ++ p) (broken_cut (c ++ p) (fill_broken o)))
    by false false w o = sym (frame_append v r (cut_either v ∙ rw (w, o))) ∙ ap frame_of fill_rest

-- bytes that want more, or none
pub wanting_wants : (s : List ℕ) → wants_more (wanting_of s) ≡ true
wanting_wants s = by (wants_more s) refl
  where
    by : (b : Bool) → wants_more s ≡ b → wants_more (pick b s []) ≡ true
    by true e = e
    by false e = none_want

-- so they are kept
pub keep_wanting : (s : List ℕ) → wants_more s ≡ true → carry_of (take room s) ≡ carry_of (wanting_of s)
keep_wanting s w = ap carry_of (take_all room s (omega (arith, wants_few s w)) ∙ sym (ap (λ b. pick b s []) w))

-- or given up
pub drop_broken : (s : List ℕ) → wants_more s ≡ false → carry_of [] ≡ carry_of (wanting_of s)
drop_broken s w = ap carry_of (sym (ap (λ b. pick b s []) w))
