-- Laws of a frame's dots, for any landing.
use Rattle.std.specs.Prelude.{ℕ, ◌*◌, ◌^◌, ◌<◌, max, ◌≡◌, refl, Bool, ◌&&◌, List, length}
use Rattle.std.proofs.Math.Path.{sym, ap, ap₂, subst}
use Rattle.std.proofs.Common.{◌∙◌, lt_of_lt_of_le, arith, shl_lt, pow_mono, length-set, get_or-set_other}
use Rattle.std.proofs.Math.Bool.{true, false}
use Rattle.std.proofs.Math.Decide.{ℕ_discrete, dec_lt}
use Rattle.std.specs.Int.Bits.{bit_or, or_lt}
use Rattle.std.proofs.Math.ListN.{get_or, get_or-eq_default}
use Rattle.std.proofs.Math.Seq.{get_or-set_same, ext_get_or}
use Rattle.laws.specs.Bit.{bit, one, pack}
use Rattle.laws.specs.laws.BitLaws.{one_lt, bit_pack, is_pack, pack_lt, same_bits_lem, or_same, or_other}
use Rattle.dots.specs.laws.TableLaws.{length_table, get_d_table}
use Rattle.dots.specs.Landing.{Landing, dot, dots_frame}
use Rattle.dots.specs.engine.Cells.{put}

-- every element is a byte
abbrev pub Bytes : List ℕ → Type 0
Bytes f = (j : ℕ) → get_or f j 0 < 256

module _ (L : Landing) where
  -- bit i of byte b, where g's dots are lit
  shade : (ℕ → ℕ → Bool) → ℕ → ℕ → ℕ
  shade g b i = one (L.used b i && g (L.row_at b i) (L.col_at b i))

  shade_bit : (g : ℕ → ℕ → Bool) (b i : ℕ) → b < L.size → i < 8 → bit (get_or (dots_frame L g) b 0) i ≡ shade g b i
  unfolding dots_frame shade
  shade_bit g b i p q =
      ap (λ (n : ℕ). bit n i) (get_d_table (λ b. pack (shade g b) 8) L.size b 0 p)
      ∙ bit_pack (shade g b) 8 i (λ k. one_lt (L.used b k && g (L.row_at b k) (L.col_at b k))) q

  -- the frame of g shows g at every dot
  pub dot_frame : (g : ℕ → ℕ → Bool) (r x : ℕ) → r < L.rows → x < L.cols → dot L (dots_frame L g) r x ≡ one (g r x)
  unfolding shade
  dot_frame g r x p q =
      shade_bit g (L.byte_at r x) (L.bit_at r x) (L.in_size r x p q) (L.in_byte r x p q)
      ∙ ap (λ (u : Bool). one (u && g (L.row_at (L.byte_at r x) (L.bit_at r x)) (L.col_at (L.byte_at r x) (L.bit_at r x)))) (L.in_use r x p q)
      ∙ ap₂ (λ (a b : ℕ). one (g a b)) (L.row_back r x p q) (L.col_back r x p q)

  -- and 0 in every bit that is no dot's
  pub spare_frame : (g : ℕ → ℕ → Bool) (b i : ℕ) → b < L.size → i < 8 → L.used b i ≡ false → bit (get_or (dots_frame L g) b 0) i ≡ 0
  unfolding shade
  spare_frame g b i p q u =
      shade_bit g b i p q ∙ ap (λ (u : Bool). one (u && g (L.row_at b i) (L.col_at b i))) u

  pub length_frame : (g : ℕ → ℕ → Bool) → length (dots_frame L g) ≡ L.size
  unfolding dots_frame
  length_frame g = length_table _ L.size

  pub bytes_frame : (g : ℕ → ℕ → Bool) → Bytes (dots_frame L g)
  unfolding dots_frame shade
  bytes_frame g b = go (dec_lt b L.size)
    where
      go : Dec (b < L.size) → get_or (dots_frame L g) b 0 < 256
      go (yes p) =
          subst (λ (a : ℕ). a < 256) (sym (get_d_table (λ b. pack (shade g b) 8) L.size b 0 p))
          (pack_lt (shade g b) 8 (λ k. one_lt (L.used b k && g (L.row_at b k) (L.col_at b k))))
      go (no d) =
          subst (λ (a : ℕ). a < 256) (sym (get_or-eq_default (dots_frame L g) 0 (omega (arith, length_frame g)))) (omega arith)

  -- nothing else does
  pub is_frame : (g : ℕ → ℕ → Bool) (f : List ℕ) → length f ≡ L.size → Bytes f
      → ((r x : ℕ) → r < L.rows → x < L.cols → dot L f r x ≡ one (g r x))
      → ((b i : ℕ) → b < L.size → i < 8 → L.used b i ≡ false → bit (get_or f b 0) i ≡ 0)
      → f ≡ dots_frame L g
  unfolding dots_frame shade
  is_frame g f n bs dots spare =
      ext_get_or 0 f (dots_frame L g) (n ∙ sym (length_frame g))
      (λ b p. is_pack (shade g b) 8 (get_or f b 0) (bs b) (λ i q. at b i (omega arith) q (L.used b i) refl)
      ∙ sym (get_d_table (λ b. pack (shade g b) 8) L.size b 0 (omega arith)))
    where
      at : (b i : ℕ) → b < L.size → i < 8 → (u : Bool) → L.used b i ≡ u → bit (get_or f b 0) i ≡ shade g b i
      at b i p q true e =
          sym (ap₂ (λ (x y : ℕ). bit (get_or f x 0) y) (L.byte_back b i p q e) (L.bit_back b i p q e))
          ∙ dots (L.row_at b i) (L.col_at b i) (L.row_in b i p q e) (L.col_in b i p q e)
          ∙ ap (λ (u : Bool). one (u && g (L.row_at b i) (L.col_at b i))) (sym e)
      at b i p q false e = spare b i p q e ∙ ap (λ (u : Bool). one (u && g (L.row_at b i) (L.col_at b i))) (sym e)

  -- where every bit is some dot's, equal dots are equal bytes
  pub same_bytes : ((b i : ℕ) → b < L.size → i < 8 → L.used b i ≡ true) → (f h : List ℕ)
      → length f ≡ L.size → length h ≡ L.size → Bytes f → Bytes h
      → ((r x : ℕ) → r < L.rows → x < L.cols → dot L f r x ≡ dot L h r x) → f ≡ h
  same_bytes full f h nf nh bf bh e =
      ext_get_or 0 f h (nf ∙ sym nh)
      (λ b p. same_bits_lem 8 (get_or f b 0) (get_or h b 0) (bf b) (bh b) (λ i q. at b i (omega arith) q (full b i (omega arith) q)))
    where
      at : (b i : ℕ) → b < L.size → i < 8 → L.used b i ≡ true → bit (get_or f b 0) i ≡ bit (get_or h b 0) i
      at b i p q u =
          sym (ap₂ (λ (x y : ℕ). bit (get_or f x 0) y) (L.byte_back b i p q u) (L.bit_back b i p q u))
          ∙ e (L.row_at b i) (L.col_at b i) (L.row_in b i p q u) (L.col_in b i p q u)
          ∙ ap₂ (λ (x y : ℕ). bit (get_or h x 0) y) (L.byte_back b i p q u) (L.bit_back b i p q u)

  -- no two dots share a bit
  pub one_to_one : (r x s y : ℕ) → r < L.rows → x < L.cols → s < L.rows → y < L.cols
      → L.byte_at r x ≡ L.byte_at s y → L.bit_at r x ≡ L.bit_at s y → (r ≡ s) × (x ≡ y)
  one_to_one r x s y p q p' q' e d = (
    sym (L.row_back r x p q) ∙ ap₂ L.row_at e d ∙ L.row_back s y p' q',
    sym (L.col_back r x p q) ∙ ap₂ L.col_at e d ∙ L.col_back s y p' q',
  )

  pub length_put : (f : List ℕ) (r x v : ℕ) → length (put L f r x v) ≡ length f
  length_put f r x v = length-set f (L.byte_at r x) (bit_or (get_or f (L.byte_at r x) 0) (v * 2 ^ L.bit_at r x))

  module _ (f : List ℕ) (r x v : ℕ) (n : length f ≡ L.size) (p : r < L.rows) (q : x < L.cols) (h : v < 2) where
    new : ℕ
    new = bit_or (get_or f (L.byte_at r x) 0) (v * 2 ^ L.bit_at r x)

    at_byte : get_or (put L f r x v) (L.byte_at r x) 0 ≡ new
    unfolding new
    at_byte = get_or-set_same f (L.byte_at r x) new 0 (omega (arith, L.in_size r x p q))

    -- a dot that is put
    pub put_same : dot L (put L f r x v) r x ≡ max (dot L f r x) v
    unfolding new
    put_same =
        ap (λ (a : ℕ). bit a (L.bit_at r x)) at_byte ∙ or_same (get_or f (L.byte_at r x) 0) v (L.bit_at r x) h

    -- every other bit
    put_bit : (b i : ℕ) → ((b ≡ L.byte_at r x) × (i ≡ L.bit_at r x) → ⊥) → bit (get_or (put L f r x v) b 0) i ≡ bit (get_or f b 0) i
    unfolding new
    put_bit b i ne = go (ℕ_discrete b (L.byte_at r x))
      where
        go : Dec (b ≡ L.byte_at r x) → bit (get_or (put L f r x v) b 0) i ≡ bit (get_or f b 0) i
        go (yes e) =
            ap (λ (j : ℕ). bit (get_or (put L f r x v) j 0) i) e ∙ ap (λ (a : ℕ). bit a i) at_byte
            ∙ or_other (get_or f (L.byte_at r x) 0) v (L.bit_at r x) i h (λ d. ne (e, d))
            ∙ ap (λ (j : ℕ). bit (get_or f j 0) i) (sym e)
        go (no d) = ap (λ (a : ℕ). bit a i) (get_or-set_other f (L.byte_at r x) b new 0 d)

    -- every other dot, and every bit that is no dot's
    pub put_other : (s y : ℕ) → s < L.rows → y < L.cols → ((s ≡ r) × (y ≡ x) → ⊥) → dot L (put L f r x v) s y ≡ dot L f s y
    put_other s y p' q' ne =
        put_bit (L.byte_at s y) (L.bit_at s y) (λ e. ne (one_to_one s y r x p' q' p q e.0 e.1))

    pub put_spare : (b i : ℕ) → L.used b i ≡ false → bit (get_or (put L f r x v) b 0) i ≡ bit (get_or f b 0) i
    put_spare b i u =
        put_bit b i (λ e. let z : true ≡ false = sym (L.in_use r x p q) ∙ sym (ap₂ L.used e.0 e.1) ∙ u in
        let z' : ◌≡◌ {A = ℕ} 1 0 = ap one z in omega arith)

    pub put_bytes : Bytes f → Bytes (put L f r x v)
    unfolding new
    put_bytes bs j = go (ℕ_discrete j (L.byte_at r x))
      where
        small : new < 256
        small = or_lt 8 (get_or f (L.byte_at r x) 0) (v * 2 ^ L.bit_at r x) (bs (L.byte_at r x))
            (lt_of_lt_of_le (shl_lt 1 (L.bit_at r x) h) (pow_mono {j = 8} (omega (arith, L.in_byte r x p q))))

        go : Dec (j ≡ L.byte_at r x) → get_or (put L f r x v) j 0 < 256
        go (yes e) = subst (λ (a : ℕ). a < 256) (sym (ap (λ (i : ℕ). get_or (put L f r x v) i 0) e ∙ at_byte)) small
        go (no d) = subst (λ (a : ℕ). a < 256) (sym (get_or-set_other f (L.byte_at r x) j new 0 d)) (bs j)
