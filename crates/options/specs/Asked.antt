-- The word of what is asked for.
use Rattle.std.specs.Prelude.{ℕ, List}
use Rattle.options.specs.Words.{all_het_word, margins_word}
use Rattle.options.specs.declared.Asked.{Asked}
use Rattle.options.specs.declared.Asked.TheVariants.{AllHeterozygous, Margins}

abbrev pub word_of : Asked → List ℕ
word_of AllHeterozygous = all_het_word
word_of Margins = margins_word
