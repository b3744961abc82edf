-- the SVG of a picture
use Rattle.std.specs.Prelude.{ℕ, ◌≡◌, List, [], ◌∷◌, ◌++◌, codes}
use Rattle.std.specs.List.{flat_map}
use Rattle.std.specs.Fmt.{decimal}
use Rattle.std.specs.Borrow.{Bor}
use Rattle.trace_shapes.specs.declared.shape.Point.{Point}
use Rattle.trace_shapes.specs.declared.shape.Style.{Style}
use Rattle.trace_shapes.specs.declared.shape.Script.{Script}
use Rattle.trace_shapes.specs.declared.shape.Shape.{Shape}
use Rattle.trace_shapes.specs.declared.shape.Shape.TheVariants as shape
use Rattle.trace_shapes.specs.declared.shape.Picture.{Picture}
use Rattle.trace_shapes.specs.Classes.{class_of, script_class}
use Rattle.trace_shapes.specs.Elements.{Named, escaped, area_text, element, empty_element}

-- an attribute that is a number
abbrev pub number : List ℕ → ℕ → Named
number name value = (name, decimal value)

-- an attribute that is a word
abbrev pub word : List ℕ → List ℕ → Named
word name value = (name, value)

abbrev pub line_text : Style → Point → Point → List ℕ
line_text style from to =
    empty_element (codes "line")
    (word (codes "class") (class_of style) ∷ number (codes "x1") from.x ∷ number (codes "y1") from.y ∷ number (codes "x2") to.x
    ∷ number (codes "y2") to.y ∷ [])

abbrev pub panel_text : Style → Point → Point → ℕ → List ℕ
panel_text style corner size round =
    empty_element (codes "rect")
    (word (codes "class") (class_of style) ∷ number (codes "x") corner.x ∷ number (codes "y") corner.y
    ∷ number (codes "width") size.x ∷ number (codes "height") size.y ∷ number (codes "rx") round ∷ [])

abbrev pub circle_text : Style → Point → ℕ → List ℕ
circle_text style centre radius =
    empty_element (codes "circle")
    (word (codes "class") (class_of style) ∷ number (codes "cx") centre.x ∷ number (codes "cy") centre.y
    ∷ number (codes "r") radius ∷ [])

abbrev pub label_text : Script → Point → List ℕ → List ℕ
label_text script at text =
    element (codes "text")
    (word (codes "class") (script_class script) ∷ number (codes "x") at.x ∷ number (codes "y") at.y ∷ [])
    (escaped text)

-- a shape as an element
unfoldable pub shape_text : Shape → List ℕ
shape_text (shape.Line style from to) = line_text style from to
shape_text (shape.Panel style corner size round) = panel_text style corner size round
shape_text (shape.Circle style centre radius) = circle_text style centre radius
shape_text (shape.Text script at text) = label_text script at text

abbrev pub shapes_text : List Shape → List ℕ
shapes_text shapes = flat_map shape_text shapes

-- the rules of a style sheet, one after the other
abbrev pub rules_text : List (Bor (List ℕ)) → List ℕ
rules_text rules = flat_map (λ rule. escaped rule.now) rules

abbrev pub sheet_text : List (Bor (List ℕ)) → List ℕ
sheet_text rules = element (codes "style") [] (rules_text rules)

-- the attributes of a head for arrows, of this name and size
abbrev pub head_attributes : List ℕ → List ℕ → List Named
head_attributes name size =
    word (codes "id") name ∷ word (codes "viewBox") (codes "0 0 10 10") ∷ word (codes "refX") (codes "9")
    ∷ word (codes "refY") (codes "5") ∷ word (codes "markerWidth") size ∷ word (codes "markerHeight") size
    ∷ word (codes "markerUnits") (codes "userSpaceOnUse") ∷ word (codes "orient") (codes "auto") ∷ []

abbrev pub triangle_text : List ℕ → List ℕ
triangle_text class = empty_element (codes "path") (word (codes "class") class ∷ word (codes "d") (codes "M 0 0 10 5 0 10 z") ∷ [])

-- a head for arrows, of this name, class and size
abbrev pub head_text : List ℕ → List ℕ → List ℕ → List ℕ
head_text name class size = element (codes "marker") (head_attributes name size) (triangle_text class)

-- the heads of arrows
abbrev pub heads_text : List ℕ
heads_text =
    element (codes "defs") [] (head_text (codes "tip") (codes "tip") (codes "11") ++ head_text (codes "hint") (codes "hint") (codes "8"))

-- the attributes of a picture of this size
abbrev pub picture_attributes : Point → List Named
picture_attributes size =
    word (codes "xmlns") (codes "http://www.w3.org/2000/svg") ∷ number (codes "width") size.x ∷ number (codes "height") size.y
    ∷ (codes "viewBox", area_text size.x size.y) ∷ word (codes "role") (codes "img") ∷ []

-- A picture as an SVG, with a style sheet of these rules.
unfoldable pub picture_text : List (Bor (List ℕ)) → Picture → List ℕ
picture_text rules picture =
    element (codes "svg") (picture_attributes picture.size)
    (element (codes "title") [] (escaped picture.title) ++ (sheet_text rules ++ (heads_text ++ shapes_text picture.shapes.items)))

-- the text of a picture with some style sheet
abbrev pub IsTextOf : Picture → List ℕ → Type 0
IsTextOf picture text = (rules : List (Bor (List ℕ))) × (text ≡ picture_text rules picture)
