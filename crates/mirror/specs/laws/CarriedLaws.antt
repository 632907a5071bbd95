-- The sheet after a record that is carried out.
use Rattle.std.specs.Prelude.{ℕ, ◌≡◌, Bool, true, List}
use Rattle.std.proofs.Common.{ap, ◌∙◌}
use Rattle.laws.specs.Pick.{pick}
use Rattle.framing.specs.Frame.{is_reset}
use Rattle.chip.specs.Sheet.{fresh_sheet}
use Rattle.chip.specs.Step.{obeyed, written, passed}
use Rattle.mirror.specs.Answer.{carried_out}
use Rattle.mirror.specs.Table.{byte_of, sheet_for, panel_for}
use Rattle.mirror.specs.Answers.{answer_to, panel_after}
use Rattle.mirror.specs.Good.{CarriedOut}
use Rattle.mirror.specs.laws.TableCase.{answer_panel}
use Rattle.mirror.specs.declared.panel.Panel.{Panel}

module _ (p : Panel) (log : List ℕ) where
  sheet_after : carried_out (answer_to p log) ≡ true → (panel_after p log).sheet ≡ sheet_for p log
  sheet_after o = ap (λ (q : Panel). q.sheet) (answer_panel p log) ∙ by o
    where
      by : carried_out (answer_to p log) ≡ true → (panel_for (answer_to p log) p log).sheet ≡ sheet_for p log
      by e = rw e

  -- by what was carried out: a data read, a data write, an instruction
  pub carried_sheet : {rs reads : Bool} → CarriedOut p log rs reads →
      (panel_after p log).sheet ≡ pick rs (pick reads (passed p.sheet) (written (byte_of p log) p.sheet)) (obeyed (byte_of p log) p.sheet)
  carried_sheet c = sheet_after c.out ∙ rw (c.transfer, c.rs_is, c.reads_is)

  -- a reset
  pub reset_sheet : carried_out (answer_to p log) ≡ true → is_reset log ≡ true → (panel_after p log).sheet ≡ fresh_sheet p.sheet.registers.chip
  reset_sheet o e = sheet_after o ∙ rw e
