-- EACH ANSWER IN ITS CASE and in no other (document 01, "Answer numbers"; doubtful, document 02, wish 2): what holds of panel and log where the table gives a number.
use Rattle.std.specs.Prelude.{ℕ, ◌≡◌, true, false, List}
use Rattle.framing.specs.Frame.{is_reset, cut_at, bad_at}
use Rattle.mirror.specs.Panel.{sound_panel}
use Rattle.mirror.specs.Table.{is_back, tears, ignores, is_none, is_first, is_status, is_doubtful}
use Rattle.mirror.specs.declared.panel.Panel.{Panel}

-- neither 10, 8, 6 nor 5
pub record Heard (p : Panel) (log : List ℕ) : Type 0 where
  pub sound : sound_panel p ≡ true
  pub uncut : cut_at log ≡ false
  pub good : bad_at log ≡ false
  pub on_time : is_back p log ≡ false

-- and a transfer, which is not torn
pub record Paired (p : Panel) (log : List ℕ) : Type 0 where
  pub heard : Heard p log
  pub transfer : is_reset log ≡ false
  pub whole : tears p log ≡ false

-- which is not ignored either, and not none
pub record Acts (p : Panel) (log : List ℕ) : Type 0 where
  pub paired : Paired p log
  pub minded : ignores p log ≡ false
  pub some : is_none p log ≡ false

pub data Case (p : Panel) (log : List ℕ) : ℕ → Type 0 where
  unsound : sound_panel p ≡ false → Case p log 10
  cut : sound_panel p ≡ true → cut_at log ≡ true → Case p log 8
  bad : sound_panel p ≡ true → cut_at log ≡ false → bad_at log ≡ true → Case p log 6
  back : sound_panel p ≡ true → cut_at log ≡ false → bad_at log ≡ false → is_back p log ≡ true → Case p log 5
  reset : Heard p log → is_reset log ≡ true → Case p log 0
  torn : Heard p log → is_reset log ≡ false → tears p log ≡ true → Case p log 4
  ignored : Paired p log → ignores p log ≡ true → Case p log 3
  nothing : Paired p log → ignores p log ≡ false → is_none p log ≡ true → Case p log 7
  held : Acts p log → is_first p ≡ true → Case p log 1
  status : Acts p log → is_first p ≡ false → is_status log ≡ true → Case p log 2
  doubtful : Acts p log → is_first p ≡ false → is_status log ≡ false → is_doubtful p log ≡ true → Case p log 11
  taken : Acts p log → is_first p ≡ false → is_status log ≡ false → is_doubtful p log ≡ false → Case p log 0
