-- elements of an SVG: how they are spelled
use Rattle.std.specs.Prelude.{ℕ, ◌==◌, if◌then◌else◌, List, [], ◌∷◌, ◌++◌, codes}
use Rattle.std.specs.List.{flat_map}
use Rattle.std.specs.Fmt.{decimal}
use Rattle.trace_shapes.specs.Characters.{is_plain}
use Rattle.trace_shapes.specs.declared.svg.Value.{Value}
use Rattle.trace_shapes.specs.declared.svg.Value.TheVariants as value
use Rattle.trace_shapes.specs.declared.svg.Attribute.{Attribute}

-- a byte as text: the four that mean something else in an SVG by their names, and a question mark for one that no text has
abbrev pub escaped_byte : ℕ → List ℕ
escaped_byte byte =
    if byte == 38 then codes "&amp;"
    else if byte == 60 then codes "&lt;"
    else if byte == 62 then codes "&gt;"
    else if byte == 34 then codes "&quot;"
    else if is_plain byte then byte ∷ []
    else codes "?"

-- bytes as text
abbrev pub escaped : List ℕ → List ℕ
escaped bytes = flat_map escaped_byte bytes

-- an attribute: its name and its value
abbrev pub Named : Type 0
Named = List ℕ × List ℕ

unfoldable pub attribute_text : Named → List ℕ
attribute_text named = 32 ∷ named.0 ++ (codes "=\"" ++ (named.1 ++ codes "\""))

-- `<`, the name and the attributes
unfoldable pub front : List ℕ → List Named → List ℕ
front name attributes = 60 ∷ name ++ flat_map attribute_text attributes

-- the end of an element
unfoldable pub ending : List ℕ → List ℕ
ending name = codes "</" ++ (name ++ codes ">\n")

-- an element in which nothing stands
unfoldable pub empty_element : List ℕ → List Named → List ℕ
empty_element name attributes = front name attributes ++ codes "/>\n"

-- an element and what stands in it
unfoldable pub element : List ℕ → List Named → List ℕ → List ℕ
element name attributes content = front name attributes ++ (codes ">" ++ (content ++ ending name))

-- all from the origin to a place
abbrev pub area_text : ℕ → ℕ → List ℕ
area_text x y = codes "0 0 " ++ (decimal x ++ 32 ∷ decimal y)

abbrev pub value_text : Value → List ℕ
value_text (value.Number number) = decimal number
value_text (value.Word word) = word.now
value_text (value.From to) = area_text to.x to.y

abbrev pub named : Attribute → Named
named attribute = (attribute.name.now, value_text attribute.value)
