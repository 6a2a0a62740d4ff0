-- What writing on a page leaves.
use Rattle.std.specs.Prelude.{ℕ, ◌+◌, ◌≤◌, ◌≡◌, List, length}
use Rattle.lines.specs.Put.{Put}
use Rattle.lines.specs.declared.Page.{Page}

-- n more bytes fit
abbrev pub HasRoom : Page → ℕ → Type 0
HasRoom page n = page.at + n ≤ length page.text.now

-- the piece stands where the page's writing ended; it is a page of the same text
pub record Puts (page : Page) (piece : List ℕ) (after : Page) : Type 0 where
  pub same_text : after.text.ghost_name ≡ page.text.ghost_name
  pub put : Put page.text.now page.at piece after.text.now after.at
