-- WHETHER THE NEXT READ IS GOOD (document 02, wish 2): what a record does to it, clause by clause, and what a data read is then answered.
use Rattle.std.specs.Prelude.{ℕ, ◌*◌, ◌<◌, ◌≤◌, ◌≡◌, Bool, true, false, ◌||◌, List, eqb}
use Rattle.laws.specs.Pick.{pick}
use Rattle.framing.specs.Frame.{rs_of, rw_of, is_transfer, is_reset}
use Rattle.chip.specs.Address.{in_display}
use Rattle.mirror.specs.Answer.{carried_out}
use Rattle.mirror.specs.Panel.{fresh_panel}
use Rattle.mirror.specs.Words.{here_of, is_good, high, nibble_of}
use Rattle.mirror.specs.Table.{waits, is_first, byte_of, record_of}
use Rattle.mirror.specs.Case.{Acts}
use Rattle.mirror.specs.Answers.{answer_to, panel_after}
use Rattle.mirror.specs.declared.panel.Panel.{Panel}

-- a transfer that is carried out, by its RS and R/W: an instruction, a data write, a data read
pub record CarriedOut (p : Panel) (log : List ℕ) (rs reads : Bool) : Type 0 where
  pub out : carried_out (answer_to p log) ≡ true
  pub transfer : is_reset log ≡ false
  pub rs_is : rs_of log ≡ rs
  pub reads_is : rw_of log ≡ reads

abbrev pub Instructed : Panel → List ℕ → Type 0
Instructed p log = CarriedOut p log false false

-- WHAT A RECORD DOES TO IT
pub record Remembered (p : Panel) (log : List ℕ) : Type 0 where
  -- a read is good only after an address set, 40h to FFh,
  pub address_set : Instructed p log → 0x40 ≤ byte_of p log → is_good (panel_after p log) ≡ true
  -- a cursor shift, 10h to 17h, in display memory only, so that one in pattern memory makes it not good,
  pub cursor_shift : Instructed p log → 0x10 ≤ byte_of p log → byte_of p log < 0x18 → is_good (panel_after p log) ≡ in_display p.sheet.registers.address
  -- or another read, though that was doubtful
  pub read : CarriedOut p log true true → is_good (panel_after p log) ≡ true
  -- a fresh or reset panel is not good
  pub fresh : (chip reset long short : ℕ) → is_good (fresh_panel chip reset long short) ≡ false
  pub reset : carried_out (answer_to p log) ≡ true → is_reset log ≡ true → is_good (panel_after p log) ≡ false
  -- a display shift, 18h to 1Fh, changes nothing about it,
  pub display_shift : Instructed p log → 0x18 ≤ byte_of p log → byte_of p log < 0x20 → is_good (panel_after p log) ≡ is_good p
  -- nor does a status read, a half that is held, or any struck record: whatever is not carried out
  pub not_carried_out : carried_out (answer_to p log) ≡ false → is_good (panel_after p log) ≡ is_good p
  -- every other instruction, 01h to 0Fh and 20h to 3Fh,
  pub other_low : Instructed p log → byte_of p log < 0x10 → is_good (panel_after p log) ≡ false
  pub other_high : Instructed p log → 0x20 ≤ byte_of p log → byte_of p log < 0x40 → is_good (panel_after p log) ≡ false
  -- or write makes it not good
  pub write : CarriedOut p log true false → is_good (panel_after p log) ≡ false

-- a data read, whole or one half of it
pub record DataRead (log : List ℕ) : Type 0 where
  pub transfer : is_transfer log ≡ true
  pub rs_is : rs_of log ≡ true
  pub reads_is : rw_of log ≡ true

-- what document 01 says that a data read gives: the byte at the address, or its high half, or its low half, which was fixed at the first
abbrev pub read_there : Panel → ℕ
read_there p = pick (waits p.half) (nibble_of p.half * 16) (pick (is_first p) (high (here_of p)) (here_of p))

-- WHAT A DATA READ IS ANSWERED
pub record ReadAnswered (p : Panel) (log : List ℕ) : Type 0 where
  -- complete and free, it is taken where it is good and doubtful where it is not
  pub number : DataRead log → Acts p log → is_first p ≡ false → answer_to p log ≡ pick (is_good p) 0 11
  -- and nothing else is doubtful
  pub only : answer_to p log ≡ 11 → (rs_of log ≡ true) × (rw_of log ≡ true) × (is_good p ≡ false)
  -- where it isn't good it carries 0, whole and in both halves
  pub zero : DataRead log → is_good p ≡ false → (record_of p log).byte ≡ 0
  -- where it is good, what document 01 says
  pub byte : DataRead log → is_good p ≡ true → (eqb (answer_to p log) 0 || eqb (answer_to p log) 1) ≡ true → (record_of p log).byte ≡ read_there p

-- of every panel and record
pub record GoodOrDoubtful : Type 0 where
  pub remembered : (p : Panel) (log : List ℕ) → Remembered p log
  pub answered : (p : Panel) (log : List ℕ) → ReadAnswered p log
