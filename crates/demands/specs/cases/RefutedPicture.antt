-- THE WRONG PAINTER that document 01 lists ("These must not pass"): one that invents lit dots.
use Rattle.std.specs.Prelude.{ℕ, ◌≡◌, refl, false, length, replicate, Ok}
use Rattle.std.proofs.Common.{arith, sym, ◌∙◌, eq-eqb}
use Rattle.dots.specs.Landing.{count_of}
use Rattle.dots.specs.Table.{table, sum}
use Rattle.mirror.specs.Stream.{run_of}
use Rattle.picture.specs.Paint.{glass_of, painted_of}
use Rattle.picture.specs.Pattern.{font_size}
use Rattle.picture.specs.Picture.{lit}
use Rattle.demands.specs.PictureRules.{CountsDots}
use Rattle.demands.specs.cases.Logs.{answering, instruct_at, case_panel}

-- ours does
pub counts_dots : CountsDots painted_of
counts_dots p font dark frame s f g =
    rw (s, f, eq-eqb (length frame) (glass_of p).size g)

-- always the same number: a fresh panel has no dot lit, and after 0Eh, with a blank font, five are
pub not_invented : (n : ℕ) → ¬ CountsDots (λ p font dark frame. Ok n)
unfolding answering count_of lit sum table
not_invented n h =
    let on = (run_of case_panel (instruct_at 0 0x0e)).panel in
    let none = h case_panel (replicate font_size 0) false (replicate 80 0) refl refl refl in
    let five = h on (replicate font_size 0) false (replicate 80 0) refl refl refl in
    let e : ◌≡◌ {A = ℕ} 0 5 = sym none ∙ five in
    omega arith
