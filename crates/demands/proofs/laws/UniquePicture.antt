-- Any two allowed answers are equal: each public function of `picture` and `text`, and what its contract ensures.
use Rattle.std.specs.Prelude.{ℕ, refl, List}
use Rattle.std.proofs.Common.{sym, ◌∙◌}
use seplogic.Ra.Ura.{Ura}
use base.Logic.{SProp}
use prog.Memory.{Memory}
use prog.Routine.{Routine}
use types.Logic.{Logic}
use contract.Monad.{Fun}
use Rattle.picture.specs.contracts.compare.compare as compare·compare
use Rattle.picture.specs.contracts.cursor.line as cursor·line
use Rattle.picture.specs.contracts.cursor.position as cursor·position
use Rattle.picture.specs.contracts.cursor.shown as cursor·shown
use Rattle.picture.specs.contracts.frame.rows as frame·rows
use Rattle.picture.specs.contracts.frame.frame_size as frame·size
use Rattle.picture.specs.contracts.frame.lit_at as frame·lit
use Rattle.picture.specs.contracts.mode.upright as mode·upright
use Rattle.picture.specs.contracts.paint.paint as paint·paint
use Rattle.picture.specs.contracts.pattern.pattern as pattern·pattern
use Rattle.picture.specs.contracts.pattern.patterns as pattern·patterns
use Rattle.picture.specs.contracts.screen.code_at as screen·code
use Rattle.picture.specs.contracts.screen.codes as screen·codes
use Rattle.text.specs.contracts.digit as text·digit
use Rattle.text.specs.contracts.hex as text·hex
use Rattle.demands.specs.Unique.{Determines, DeterminesAnswer, answer, equation}

module _ {M : Type 1} {𝓤 : Ura M} (𝓛 : Logic 𝓤) (mem : Memory → SProp 𝓤) (run : Routine → Fun 𝓤) where
  -- picture::compare::compare: Compares chip a.now b.now result
  pub compare : DeterminesAnswer 𝓤 compare·compare.ended (compare·compare.clauses 𝓛 mem run)
  compare = answer 𝓤 _ _ _ (λ κs a g r e. refl) (λ κs a r s e f p q. p.told ∙ sym q.told)

  -- picture::cursor::line: result ≡ line_of chip address
  pub cursor_line : DeterminesAnswer 𝓤 cursor·line.ended (cursor·line.clauses 𝓛 mem run)
  cursor_line = equation 𝓤 _ _ _ (λ κs a g r e. refl)

  -- picture::cursor::position: result ≡ position_of chip address shift
  pub position : DeterminesAnswer 𝓤 cursor·position.ended (cursor·position.clauses 𝓛 mem run)
  position = equation 𝓤 _ _ _ (λ κs a g r e. refl)

  -- picture::cursor::shown: result ≡ cursor_of registers
  pub cursor_shown : DeterminesAnswer 𝓤 cursor·shown.ended (cursor·shown.clauses 𝓛 mem run)
  cursor_shown = equation 𝓤 _ _ _ (λ κs a g r e. refl)

  -- picture::frame::rows: Rows chip result
  pub frame_rows : DeterminesAnswer 𝓤 frame·rows.ended (frame·rows.clauses 𝓛 mem run)
  frame_rows = answer 𝓤 _ _ _ (λ κs a g r e. refl) (λ κs a r s e f p q. p.is ∙ sym q.is)

  -- picture::frame::frame_size: FrameSize chip result
  pub frame_size_lem : DeterminesAnswer 𝓤 frame·size.ended (frame·size.clauses 𝓛 mem run)
  frame_size_lem = answer 𝓤 _ _ _ (λ κs a g r e. refl) (λ κs a r s e f p q. p.is ∙ sym q.is)

  -- picture::frame::lit_at: result ≡ lit_at chip frame.now row column
  pub lit_at_lem : DeterminesAnswer 𝓤 frame·lit.ended (frame·lit.clauses 𝓛 mem run)
  lit_at_lem = equation 𝓤 _ _ _ (λ κs a g r e. refl)

  -- picture::mode::upright: result ≡ upright_of panel
  pub upright : DeterminesAnswer 𝓤 mode·upright.ended (mode·upright.clauses 𝓛 mem run)
  upright = equation 𝓤 _ _ _ (λ κs a g r e. refl)

  -- picture::paint::paint: Paints panel font.now dark frame.old result frame.new
  pub paint : Determines 𝓤 paint·paint.ended (paint·paint.clauses 𝓛 mem run) {L = List ℕ} (λ κs e. e.1.1.1.0.now)
  paint = record { Says = _; stated = λ κs a g r e. refl; one = λ κs a r s e f p q. (p.told ∙ sym q.told, p.left ∙ sym q.left) }

  -- picture::pattern::pattern: result ≡ pattern_of memory number
  pub pattern : DeterminesAnswer 𝓤 pattern·pattern.ended (pattern·pattern.clauses 𝓛 mem run)
  pattern = equation 𝓤 _ _ _ (λ κs a g r e. refl)

  -- picture::pattern::patterns: result ≡ patterns_of memory
  pub patterns : DeterminesAnswer 𝓤 pattern·patterns.ended (pattern·patterns.clauses 𝓛 mem run)
  patterns = equation 𝓤 _ _ _ (λ κs a g r e. refl)

  -- picture::screen::code_at: result ≡ code_at sheet line at
  pub code_at_lem : DeterminesAnswer 𝓤 screen·code.ended (screen·code.clauses 𝓛 mem run)
  code_at_lem = equation 𝓤 _ _ _ (λ κs a g r e. refl)

  -- picture::screen::codes: result ≡ codes_of sheet line
  pub codes : DeterminesAnswer 𝓤 screen·codes.ended (screen·codes.clauses 𝓛 mem run)
  codes = equation 𝓤 _ _ _ (λ κs a g r e. refl)

  -- text::digit: result ≡ digit_of n
  pub digit : DeterminesAnswer 𝓤 text·digit.ended (text·digit.clauses 𝓛 mem run)
  digit = equation 𝓤 _ _ _ (λ κs a g r e. refl)

  -- text::hex: result ≡ hex_of byte
  pub hex : DeterminesAnswer 𝓤 text·hex.ended (text·hex.clauses 𝓛 mem run)
  hex = equation 𝓤 _ _ _ (λ κs a g r e. refl)
