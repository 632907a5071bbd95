-- Each answer is given in the stated case and in no other.
use Rattle.std.specs.Prelude.{ℕ, ◌≡◌, refl, Bool, true, false, not, List}
use Rattle.std.proofs.Common.{sym, ap, subst, ◌∙◌}
use Rattle.laws.specs.Pick.{pick}
use Rattle.framing.specs.Frame.{is_reset, cut_at, bad_at}
use Rattle.mirror.specs.Panel.{sound_panel}
use Rattle.mirror.specs.Answers.{answer_to, panel_after}
use Rattle.mirror.specs.Table.{is_back, tears, ignores, is_none, is_first, is_status, is_doubtful, transfer_for, number_for, panel_for}
use Rattle.mirror.specs.Answer.{Paper}
use Rattle.mirror.specs.laws.TableLaws.{tabled}
use Rattle.mirror.specs.Case.{Heard, Paired, Acts, Case}
use Rattle.mirror.specs.Case.Case.{unsound, cut, bad, back, reset, torn, ignored, nothing, held, status, doubtful, taken}
use Rattle.mirror.specs.declared.panel.Panel.{Panel}

module _ (p : Panel) (log : List ℕ) where
  acts_case : Acts p log → (a b c : Bool) → is_first p ≡ a → is_status log ≡ b → is_doubtful p log ≡ c → Case p log (pick a 1 (pick b 2 (pick c 11 0)))
  acts_case h true b c e f g = held h e
  acts_case h false true c e f g = status h e f
  acts_case h false false true e f g = doubtful h e f g
  acts_case h false false false e f g = taken h e f g

  paired_case : Paired p log → (a b : Bool) → ignores p log ≡ a → is_none p log ≡ b →
      Case p log (pick a 3 (pick b 7 (pick (is_first p) 1 (pick (is_status log) 2 (pick (is_doubtful p log) 11 0)))))
  paired_case h true b e f = ignored h e
  paired_case h false true e f = nothing h e f
  paired_case h false false e f = acts_case (record { paired = h; minded = e; some = f }) (is_first p) (is_status log) (is_doubtful p log) refl refl refl

  heard_case : Heard p log → (a b : Bool) → is_reset log ≡ a → tears p log ≡ b →
      Case p log (pick a 0 (pick b 4 (pick (ignores p log) 3 (pick (is_none p log) 7 (pick (is_first p) 1 (pick (is_status log) 2 (pick (is_doubtful p log) 11 0)))))))
  heard_case h true b e f = reset h e
  heard_case h false true e f = torn h e f
  heard_case h false false e f = paired_case (record { heard = h; transfer = e; whole = f }) (ignores p log) (is_none p log) refl refl

  pub case : Case p log (number_for p log)
  case = by (sound_panel p) (cut_at log) (bad_at log) (is_back p log) refl refl refl refl where
    by : (a b c d : Bool) → sound_panel p ≡ a → cut_at log ≡ b → bad_at log ≡ c → is_back p log ≡ d →
        Case p log
        (pick (not a) 10
        (pick b 8
        (pick c 6
        (pick d 5
        (pick (is_reset log) 0 (transfer_for p log))))))
    by false b c d e f g h = unsound e
    by true true c d e f g h = cut e f
    by true false true d e f g h = bad e f g
    by true false false true e f g h = back e f g h
    by true false false false e f g h =
        heard_case (record { sound = e; uncut = f; good = g; on_time = h }) (is_reset log) (tears p log) refl refl

-- what one record is answered with, and the panel afterwards, by the table alone
pub answer_number : (p : Panel) (log : List ℕ) → answer_to p log ≡ number_for p log
answer_number p log = ap (λ (x : Paper). x.number) (tabled p log).paper

pub answer_case : (p : Panel) (log : List ℕ) → Case p log (answer_to p log)
answer_case p log = subst (Case p log) (sym (answer_number p log)) (case p log)

pub answer_panel : (p : Panel) (log : List ℕ) → panel_after p log ≡ panel_for (answer_to p log) p log
answer_panel p log = (tabled p log).panel ∙ ap (λ n. panel_for n p log) (sym (answer_number p log))

-- what holds of each row holds of every record
pub each_row : (p : Panel) (log : List ℕ) (P : ℕ → Panel → Type 0) → ((n : ℕ) → Case p log n → P n (panel_for n p log)) → P (answer_to p log) (panel_after p log)
each_row p log P f = subst (P (answer_to p log)) (sym (answer_panel p log)) (f (answer_to p log) (answer_case p log))
