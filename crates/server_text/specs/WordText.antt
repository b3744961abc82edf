-- a word of a line that is to be printed, by what it spells
use Rattle.std.specs.Prelude.{ℕ, List, [], ◌∷◌}
use Rattle.std.specs.Fmt.{decimal}
use Rattle.server_text.specs.declared.spelling.Word.{Word}
use Rattle.server_text.specs.declared.spelling.Word.TheVariants as word
use Rattle.server_text.specs.declared.spelling.Phrase.{Phrase}
use Rattle.server_text.specs.declared.spelling.Phrase.TheVariants as phrase
use Rattle.server_text.specs.Words.{hex_of, mode_word}

abbrev pub text_of : Word → List ℕ
text_of (word.Text bytes) = bytes.now
text_of (word.Name name) = name.now
text_of (word.Number number) = decimal number
text_of (word.Small number) = decimal number
text_of (word.Wide number) = decimal number
text_of (word.Node node) = decimal node.0
text_of (word.Mode mode) = mode_word mode
text_of (word.Hex bytes) = hex_of bytes.now

-- the words of a phrase
abbrev pub phrase_words : Phrase → List (List ℕ)
phrase_words (phrase.Lone name) = name.now ∷ []
phrase_words (phrase.Counted name number) = name.now ∷ decimal number ∷ []
phrase_words (phrase.Wide name number) = name.now ∷ decimal number ∷ []
phrase_words (phrase.Pair name first second) = name.now ∷ decimal first ∷ decimal second ∷ []
phrase_words (phrase.At name node) = name.now ∷ decimal node.0 ∷ []
