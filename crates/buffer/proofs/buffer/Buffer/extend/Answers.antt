use Rattle.std.proofs.Common.{arith, rules, ◌≡◌, ℕ, ◌+◌, ◌-◌, min, List, ◌++◌, length, take, drop, replicate, sym, ap, ◌∙◌, append_assoc, length-append, length-drop, length-take, length-take-le}
use Rattle.std.proofs.Math.Seq.{take-append_seam, drop-append_seam, take-append-add}
use Rattle.std.proofs.lemmas.List.{append-nil, drop_all, drop-replicate, take_min}
use borrow.Rule.Slice.PartMut.{put_mid}
use Rattle.buffer.specs.Buffer.{buffer_of}
use Rattle.buffer.proofs.buffer.Buffer.extend.Goals as goal

-- x are the bytes of the room, the first h are held, and n of p are copied over zeros
module _ (room : ℕ) (x p : List ℕ) (len h n : ℕ) (size : length x ≡ room) (held : h ≡ min len room) (more : n ≡ min (length p) (room - h)) where
  abbrev s : List ℕ
  s = take h x

  abbrev zeros : List ℕ
  zeros = replicate (length (take (length x - h) (drop h x))) 0

  l : length s ≡ h
  l = length-take-le h x (omega arith)

  free : length (take (length x - h) (drop h x)) ≡ room - h
  free = omega (arith, length-take (length x - h) (drop h x), length-drop h x)

  cleared : put_mid h (length x - h) x zeros ≡ s ++ zeros
  cleared = ap (λ t. s ++ (zeros ++ t)) (drop_all (length x - h) (drop h x) (omega (arith, length-drop h x))) ∙ ap (λ t. s ++ t) (append-nil zeros)

  before : take h (s ++ zeros) ≡ s
  before = ap (λ k. take k (s ++ zeros)) (sym l) ∙ take-append_seam s zeros

  after : drop (h + n - h) (drop h (s ++ zeros)) ≡ replicate (room - (h + n)) 0
  after =
      ap (λ k. drop (h + n - h) (drop k (s ++ zeros))) (sym l)
      ∙ ap (drop (h + n - h)) (drop-append_seam s zeros)
      ∙ drop-replicate (h + n - h) (length (take (length x - h) (drop h x))) 0
      ∙ ap (λ k. replicate k 0) (omega (arith, free))

  added : take room (take len x ++ p) ≡ s ++ take n p
  added =
      let e : take len x ≡ s = sym (take_min len x) ∙ ap (λ k. take k x) (omega arith) in
      let f : room ≡ length s + (room - h) = omega (arith, l) in
      let m : take (room - h) p ≡ take n p = sym (take_min (room - h) p) ∙ ap (λ k. take k p) (omega arith) in
      ap (λ t. take room (t ++ p)) e ∙ ap (λ k. take k (s ++ p)) f ∙ take-append-add s p (room - h) ∙ ap (λ t. s ++ t) m

  pub extended : record { bytes = put_mid h (h + n - h) (put_mid h (length x - h) x zeros) (take n p); len = h + n } ≡ buffer_of room (take room (take len x ++ p))
  unfolding buffer_of
  extended =
      let q : length (s ++ take n p) ≡ h + n = length-append s (take n p) ∙ omega (arith, l, length-take-le n p (omega arith)) in
      rw (cleared, before, after, added, q) (ap (λ b. record { bytes = b; len = h + n }) (sym (append_assoc s (take n p) (replicate (room - (h + n)) 0))))

pub returns : goal.returns
returns g c =
    let b = c.args.self.now in
    rw (c.copy_from_slice.ensures.after, c.fill.ensures.after (λ y e. e)) (extended g.row.ROOM b.bytes c.args.part.now b.len c.min-len.result c.min-n.result (search rules) c.min-len.ensures c.min-n.ensures)
