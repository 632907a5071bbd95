-- What a page holds once bytes were put on it: a page that is full is written out.
use Rattle.std.specs.Prelude.{◌≡◌, ℕ, ◌+◌, ◌<◌, ◌≤◌, List, [], ◌∷◌, min, nat_le, replicate, slice_set, take}
use Rattle.laws.specs.Pick.{pick}
use Rattle.desk.specs.declared.page.Page.{Page}

abbrev pub page_size : ℕ
page_size = 4096

abbrev pub blank_page : Page
blank_page = record { bytes = replicate page_size 0; end = 0 }

-- what is to be written of a page
abbrev pub printed : Page → List ℕ
printed p = take (min p.end page_size) p.bytes

-- where there is room for a byte: at the front, once a full page was written out
abbrev pub place_on : ℕ → ℕ
place_on end = pick (nat_le page_size end) 0 end

-- with one byte more
abbrev pub page_with : ℕ → Page → Page
page_with byte p = record { bytes = slice_set p.bytes (place_on p.end) byte; end = place_on p.end + 1 }

-- with bytes one after another
unfoldable pub page_with_all : List ℕ → Page → Page
page_with_all [] p = p
page_with_all (b ∷ s) p = page_with_all s (page_with b p)

-- these bytes were put on a page: it as it was, and as it is
pub record Puts (put : List ℕ) (before after : Page) : Type 0 where
  pub is : after ≡ page_with_all put before

-- bytes of this kind were put on a page
pub record PutsSome (Kind : List ℕ → Type 0) (before after : Page) : Type 0 where
  pub bytes : List ℕ
  pub kind : Kind bytes
  pub puts : Puts bytes before after

-- bytes of this kind, of which there are at most so many, were put where the page has room for so many; where it has not, it is left as it is
pub data PutsHere (most : ℕ) (Kind : List ℕ → Type 0) (before after : Page) : Type 0 where
  room : before.end + most ≤ page_size → PutsSome Kind before after → PutsHere most Kind before after
  full : page_size < before.end + most → after ≡ before → PutsHere most Kind before after

-- where so many bytes go: here, if the page has room for all of them, and otherwise at the front, once it was written out
abbrev pub place_with_room : ℕ → ℕ → ℕ
place_with_room size end = pick (nat_le (end + size) page_size) end 0

-- with room for so many bytes
abbrev pub with_room : ℕ → Page → Page
with_room size p = record { bytes = p.bytes; end = place_with_room size p.end }
