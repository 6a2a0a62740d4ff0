-- What `phase` prints, by what is asked for.
use Rattle.std.specs.Prelude.{ℕ, List, Option, None, Some}
use Rattle.meaning.specs.Letters.{general, heterozygous}
use Rattle.options.specs.declared.Asked.{Asked}
use Rattle.options.specs.declared.Asked.TheVariants.{AllHeterozygous, Margins}
use Rattle.reply.specs.Printed.{printed, printed_margins}

-- the general mode where nothing is asked for
abbrev pub printed_for : Option Asked → List ℕ → List ℕ
printed_for None = printed general
printed_for (Some AllHeterozygous) = printed heterozygous
printed_for (Some Margins) = printed_margins

-- how long a page that takes any text of it is at least
abbrev pub page_room : Option Asked → ℕ
page_room None = 4096
page_room (Some AllHeterozygous) = 4096
page_room (Some Margins) = 32768
