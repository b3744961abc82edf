-- the words of the program, and what they ask for
use Rattle.std.specs.Prelude.{ℕ, ◌<◌, ◌^◌, ◌≡◌, Option, Some, None, List, [], ◌∷◌, codes}
use Rattle.std.specs.Fmt.{decimal}
use Rattle.trace_picture.specs.declared.words.Asked.{Asked}
use Rattle.trace_picture.specs.declared.words.Asked.TheVariants.{All, One}

-- the words that ask for it
abbrev pub words_for : Asked → List (List ℕ)
words_for All = []
words_for (One file) = codes "--file" ∷ decimal file ∷ []

-- a file's number is below 2 to the power of 64
abbrev pub FitsAsked : Asked → Type 0
FitsAsked All = Unit {0}
FitsAsked (One file) = file < 2 ^ 64

-- nothing is asked for
abbrev pub IsNothing : List (List ℕ) → Type 0
IsNothing words = (asked : Asked) → FitsAsked asked → words ≡ words_for asked → ⊥

-- the file that is to be drawn alone, if one is
abbrev pub only_of : Asked → Option ℕ
only_of All = None
only_of (One file) = Some file
