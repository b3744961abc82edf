-- well-formed XML, as far as a picture needs it: elements with attributes, in which text and elements stand
use Rattle.std.specs.Prelude.{ℕ, Bool, true, false, IsTrue, ◌==◌, ◌&&◌, ◌||◌, not, nat_le, List, [], ◌∷◌, ◌++◌, ◌≡◌, map, codes}
use Rattle.std.specs.List.{list_all, list_any, AllByRecursion}
use Rattle.trace_shapes.specs.Characters.{is_plain}
use Rattle.trace_shapes.specs.Elements.{Named, element, empty_element}

-- Text: bytes that stand for themselves, and the four others by their names.
pub data IsText : List ℕ → Type 0 where
  nothing : IsText []
  plain : {byte : ℕ} {rest : List ℕ} → IsTrue (is_plain byte) → IsText rest → IsText (byte ∷ rest)
  ampersand : {rest : List ℕ} → IsText rest → IsText (codes "&amp;" ++ rest)
  less : {rest : List ℕ} → IsText rest → IsText (codes "&lt;" ++ rest)
  greater : {rest : List ℕ} → IsText rest → IsText (codes "&gt;" ++ rest)
  quote : {rest : List ℕ} → IsText rest → IsText (codes "&quot;" ++ rest)

abbrev pub is_letter : ℕ → Bool
is_letter byte = (nat_le 97 byte && nat_le byte 122) || (nat_le 65 byte && nat_le byte 90)

abbrev pub is_digit : ℕ → Bool
is_digit byte = nat_le 48 byte && nat_le byte 57

-- a name: a letter, and letters and digits after it
abbrev pub is_name : List ℕ → Bool
is_name [] = false
is_name (byte ∷ bytes) = is_letter byte && list_all (λ b. is_letter b || is_digit b) bytes

abbrev pub is_same : List ℕ → List ℕ → Bool
is_same [] [] = true
is_same [] (y ∷ ys) = false
is_same (x ∷ xs) [] = false
is_same (x ∷ xs) (y ∷ ys) = x == y && is_same xs ys

-- names, none of which stands twice
abbrev pub are_names : List (List ℕ) → Bool
are_names [] = true
are_names (name ∷ names) = is_name name && (not (list_any (is_same name) names) && are_names names)

-- attributes of different names, with text for their values
pub record AreAttributes (attributes : List Named) : Type 0 where
  pub names : IsTrue (are_names (map (λ (a : Named). a.0) attributes))
  pub values : AllByRecursion (λ (a : Named). IsText a.1) attributes

-- Content: text and elements, each of which ends where one of its name began.
pub data IsContent : List ℕ → Type 0 where
  nothing : IsContent []
  text : (words rest : List ℕ) → IsText words → IsContent rest → IsContent (words ++ rest)
  empty :
      (name : List ℕ) (attributes : List Named) (rest : List ℕ)
      → IsTrue (is_name name) → AreAttributes attributes → IsContent rest → IsContent (empty_element name attributes ++ rest)
  around :
      (name : List ℕ) (attributes : List Named) (content rest : List ℕ)
      → IsTrue (is_name name) → AreAttributes attributes → IsContent content → IsContent rest
      → IsContent (element name attributes content ++ rest)

-- A document: one element.
pub record IsDocument (bytes : List ℕ) : Type 0 where
  pub name : List ℕ
  pub attributes : List Named
  pub content : List ℕ
  pub named : IsTrue (is_name name)
  pub given : AreAttributes attributes
  pub inside : IsContent content
  pub whole : bytes ≡ element name attributes content
