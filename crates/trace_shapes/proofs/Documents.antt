-- A picture is a document.
use Rattle.std.proofs.Common.{◌≡◌, ℕ, zero, suc, ◌<◌, ◌/◌, ◌%◌, Bool, true, false, List, [], ◌∷◌, ◌++◌, refl, sym, subst, arith, append_assoc, append-nil}
use Rattle.std.specs.Prelude.{◌==◌, ◌&&◌, if◌then◌else◌, codes}
use Rattle.std.specs.List.{list_all}
use Rattle.std.specs.Fmt.{decimal, digits, digits_onto, digit_glyph}
use Rattle.std.specs.Borrow.{Bor}
use Rattle.trace_shapes.specs.declared.shape.Colour.TheVariants as colour
use Rattle.trace_shapes.specs.declared.shape.Style.{Style}
use Rattle.trace_shapes.specs.declared.shape.Style.TheVariants as style
use Rattle.trace_shapes.specs.declared.shape.Script.{Script}
use Rattle.trace_shapes.specs.declared.shape.Script.TheVariants as script
use Rattle.trace_shapes.specs.declared.shape.Shape.{Shape}
use Rattle.trace_shapes.specs.declared.shape.Shape.TheVariants as shape
use Rattle.trace_shapes.specs.declared.shape.Picture.{Picture}
use Rattle.trace_shapes.specs.Elements.{Named, escaped_byte, escaped, area_text, element, empty_element}
use Rattle.trace_shapes.specs.Classes.{class_of, script_class}
use Rattle.trace_shapes.specs.Pictures.{shape_text, shapes_text, rules_text, sheet_text, head_text, heads_text, picture_attributes, picture_text}
use Rattle.trace_shapes.specs.Characters.{is_plain}
use Rattle.trace_shapes.specs.WellFormed.{is_name, IsText, are_names, AreAttributes, IsContent, IsDocument}
use Rattle.trace_shapes.specs.WellFormed as xml

-- ---- text

text_append : {a b : List ℕ} → IsText a → IsText b → IsText (a ++ b)
text_append xml.IsText.nothing t = t
text_append (xml.IsText.plain is s) t = xml.IsText.plain is (text_append s t)
text_append (xml.IsText.ampersand s) t = xml.IsText.ampersand (text_append s t)
text_append (xml.IsText.less s) t = xml.IsText.less (text_append s t)
text_append (xml.IsText.greater s) t = xml.IsText.greater (text_append s t)
text_append (xml.IsText.quote s) t = xml.IsText.quote (text_append s t)

-- bytes that all stand for themselves
plain_then : (byte : ℕ) (bytes : List ℕ) (first : Bool) → is_plain byte ≡ first → (first && list_all is_plain bytes) ≡ true
    → (list_all is_plain bytes ≡ true → IsText bytes) → IsText (byte ∷ bytes)
plain_then byte bytes true is all rest = xml.IsText.plain is (rest all)
plain_then byte bytes false is all rest = absurd (cc)

all_plain : (bytes : List ℕ) → list_all is_plain bytes ≡ true → IsText bytes
all_plain [] h = xml.IsText.nothing
all_plain (byte ∷ bytes) h = plain_then byte bytes (is_plain byte) refl h (all_plain bytes)

escaped_is_text : (bytes : List ℕ) → IsText (escaped bytes)
escaped_is_text [] = xml.IsText.nothing
escaped_is_text (byte ∷ bytes) = text_append (one byte) (escaped_is_text bytes)
  where
    one : (b : ℕ) → IsText (escaped_byte b)
    one b = by (b == 38) (b == 60) (b == 62) (b == 34) (is_plain b) refl
      where
        by :
            (ampersand less greater quote plain : Bool) → is_plain b ≡ plain
            → IsText (if ampersand then codes "&amp;" else if less then codes "&lt;" else if greater then codes "&gt;" else if quote then codes "&quot;" else if plain then b ∷ [] else codes "?")
        by true less greater quote plain is = xml.IsText.ampersand xml.IsText.nothing
        by false true greater quote plain is = xml.IsText.less xml.IsText.nothing
        by false false true quote plain is = xml.IsText.greater xml.IsText.nothing
        by false false false true plain is = xml.IsText.quote xml.IsText.nothing
        by false false false false true is = xml.IsText.plain is xml.IsText.nothing
        by false false false false false is = xml.IsText.plain refl xml.IsText.nothing

-- ---- numbers

glyph_is_plain : (d : ℕ) → d < 10 → is_plain (digit_glyph false d) ≡ true
glyph_is_plain zero h = refl
glyph_is_plain (suc zero) h = refl
glyph_is_plain (suc (suc zero)) h = refl
glyph_is_plain (suc (suc (suc zero))) h = refl
glyph_is_plain (suc (suc (suc (suc zero)))) h = refl
glyph_is_plain (suc (suc (suc (suc (suc zero))))) h = refl
glyph_is_plain (suc (suc (suc (suc (suc (suc zero)))))) h = refl
glyph_is_plain (suc (suc (suc (suc (suc (suc (suc zero))))))) h = refl
glyph_is_plain (suc (suc (suc (suc (suc (suc (suc (suc zero)))))))) h = refl
glyph_is_plain (suc (suc (suc (suc (suc (suc (suc (suc (suc zero))))))))) h = refl
glyph_is_plain (suc (suc (suc (suc (suc (suc (suc (suc (suc (suc d)))))))))) h = absurd (omega arith)

digits_then : (k n : ℕ) (behind : List ℕ) → IsText (digit_glyph false (n % 10) ∷ behind)
    → (IsText (digit_glyph false (n % 10) ∷ behind) → IsText (digits_onto k 10 false (n / 10) (digit_glyph false (n % 10) ∷ behind)))
    → (last : Bool)
    → IsText (if last then digit_glyph false (n % 10) ∷ behind else digits_onto k 10 false (n / 10) (digit_glyph false (n % 10) ∷ behind))
digits_then k n behind glyph more true = glyph
digits_then k n behind glyph more false = more glyph

digits_are_text : (k n : ℕ) (behind : List ℕ) → IsText behind → IsText (digits_onto k 10 false n behind)
digits_are_text zero n behind t = t
digits_are_text (suc k) n behind t =
    digits_then k n behind (xml.IsText.plain (glyph_is_plain (n % 10) (omega arith)) t)
    (digits_are_text k (n / 10) (digit_glyph false (n % 10) ∷ behind)) (n / 10 == 0)

decimal_is_text : (n : ℕ) → IsText (decimal n)
unfolding digits
decimal_is_text n = digits_are_text 64 n [] xml.IsText.nothing

area_is_text : (x y : ℕ) → IsText (area_text x y)
area_is_text x y = text_append (all_plain (codes "0 0 ") refl) (text_append (decimal_is_text x) (xml.IsText.plain refl (decimal_is_text y)))

-- ---- classes

style_is_text : (s : Style) → IsText (class_of s)
style_is_text style.Paper = all_plain (codes "paper") refl
style_is_text style.Lane = all_plain (codes "lane") refl
style_is_text style.Life = all_plain (codes "life") refl
style_is_text style.Tick = all_plain (codes "tick") refl
style_is_text (style.Held colour.Blue) = all_plain (codes "held blue") refl
style_is_text (style.Held colour.Purple) = all_plain (codes "held purple") refl
style_is_text (style.Held colour.Teal) = all_plain (codes "held teal") refl
style_is_text (style.Held colour.Pink) = all_plain (codes "held pink") refl
style_is_text (style.Held colour.Orange) = all_plain (codes "held orange") refl
style_is_text (style.Held colour.Grey) = all_plain (codes "held grey") refl
style_is_text (style.Active colour.Blue) = all_plain (codes "active blue") refl
style_is_text (style.Active colour.Purple) = all_plain (codes "active purple") refl
style_is_text (style.Active colour.Teal) = all_plain (codes "active teal") refl
style_is_text (style.Active colour.Pink) = all_plain (codes "active pink") refl
style_is_text (style.Active colour.Orange) = all_plain (codes "active orange") refl
style_is_text (style.Active colour.Grey) = all_plain (codes "active grey") refl
style_is_text style.Issued = all_plain (codes "issued") refl
style_is_text style.Gone = all_plain (codes "gone") refl
style_is_text style.Committed = all_plain (codes "committed") refl
style_is_text style.Answered = all_plain (codes "answered") refl
style_is_text style.Call = all_plain (codes "call") refl
style_is_text style.Open = all_plain (codes "open") refl
style_is_text style.Ask = all_plain (codes "ask") refl
style_is_text style.Reply = all_plain (codes "reply") refl
style_is_text style.Found = all_plain (codes "found") refl
style_is_text style.Start = all_plain (codes "start") refl
style_is_text style.Begin = all_plain (codes "begin") refl
style_is_text style.Stop = all_plain (codes "stop") refl

script_is_text : (s : Script) → IsText (script_class s)
script_is_text script.Title = all_plain (codes "title") refl
script_is_text script.Note = all_plain (codes "note") refl
script_is_text script.Number = all_plain (codes "number left") refl
script_is_text script.Head = all_plain (codes "head") refl
script_is_text script.HeadLeft = all_plain (codes "head left") refl
script_is_text script.Tick = all_plain (codes "ticks") refl
script_is_text script.Clock = all_plain (codes "clock") refl
script_is_text script.ClockLeft = all_plain (codes "clock left") refl
script_is_text script.Label = all_plain (codes "label") refl
script_is_text script.LabelLeft = all_plain (codes "label left") refl
script_is_text script.Stop = all_plain (codes "stops") refl
script_is_text script.Active = all_plain (codes "place on") refl
script_is_text script.Issued = all_plain (codes "place issue") refl
script_is_text script.Gone = all_plain (codes "place lost") refl
script_is_text script.Committed = all_plain (codes "place on") refl
script_is_text script.Answered = all_plain (codes "place answer") refl

-- ---- content

content_append : (a b : List ℕ) → IsContent a → IsContent b → IsContent (a ++ b)
content_append a b xml.IsContent.nothing c = c
content_append a b (xml.IsContent.text words rest t s) c =
    subst IsContent (sym (append_assoc words rest b)) (xml.IsContent.text words (rest ++ b) t (content_append rest b s c))
content_append a b (xml.IsContent.empty name attributes rest n g s) c =
    subst IsContent (sym (append_assoc (empty_element name attributes) rest b))
    (xml.IsContent.empty name attributes (rest ++ b) n g (content_append rest b s c))
content_append a b (xml.IsContent.around name attributes content rest n g i s) c =
    subst IsContent (sym (append_assoc (element name attributes content) rest b))
    (xml.IsContent.around name attributes content (rest ++ b) n g i (content_append rest b s c))

both : {a b : List ℕ} → IsContent a → IsContent b → IsContent (a ++ b)
both {a} {b} s t = content_append a b s t

only_text : {a : List ℕ} → IsText a → IsContent a
only_text {a} t = subst IsContent (append-nil a) (xml.IsContent.text a [] t xml.IsContent.nothing)

only_empty : (name : List ℕ) (attributes : List Named) → is_name name ≡ true → AreAttributes attributes → IsContent (empty_element name attributes)
only_empty name attributes n g =
    subst IsContent (append-nil (empty_element name attributes)) (xml.IsContent.empty name attributes [] n g xml.IsContent.nothing)

only_around :
    (name : List ℕ) (attributes : List Named) (content : List ℕ)
    → is_name name ≡ true → AreAttributes attributes → IsContent content → IsContent (element name attributes content)
only_around name attributes content n g i =
    subst IsContent (append-nil (element name attributes content))
    (xml.IsContent.around name attributes content [] n g i xml.IsContent.nothing)

none : AreAttributes []
none = record { names = refl; values = tt }

shape_is_content : (s : Shape) → IsContent (shape_text s)
unfolding shape_text
shape_is_content (shape.Line style from to) =
    only_empty (codes "line") _ refl
    (record { names = refl; values = (style_is_text style, (decimal_is_text from.x, (decimal_is_text from.y, (decimal_is_text to.x, (decimal_is_text to.y, tt))))) })
shape_is_content (shape.Panel style corner size round) =
    only_empty (codes "rect") _ refl
    (record { names = refl; values = (style_is_text style, (decimal_is_text corner.x, (decimal_is_text corner.y, (decimal_is_text size.x, (decimal_is_text size.y, (decimal_is_text round, tt)))))) })
shape_is_content (shape.Circle style centre radius) =
    only_empty (codes "circle") _ refl
    (record { names = refl; values = (style_is_text style, (decimal_is_text centre.x, (decimal_is_text centre.y, (decimal_is_text radius, tt)))) })
shape_is_content (shape.Text script at text) =
    only_around (codes "text") _ _ refl
    (record { names = refl; values = (script_is_text script, (decimal_is_text at.x, (decimal_is_text at.y, tt))) })
    (only_text (escaped_is_text text))

shapes_are_content : (shapes : List Shape) → IsContent (shapes_text shapes)
shapes_are_content [] = xml.IsContent.nothing
shapes_are_content (s ∷ shapes) = both (shape_is_content s) (shapes_are_content shapes)

rules_are_text : (rules : List (Bor (List ℕ))) → IsText (rules_text rules)
rules_are_text [] = xml.IsText.nothing
rules_are_text (rule ∷ rules) = text_append (escaped_is_text rule.now) (rules_are_text rules)

head_is_content : (name class size : List ℕ) → IsText name → IsText class → IsText size → IsContent (head_text name class size)
head_is_content name class size n c s =
    only_around (codes "marker") _ _ refl
    (record {
      names = refl;
      values =
          (n, (all_plain (codes "0 0 10 10") refl, (all_plain (codes "9") refl, (all_plain (codes "5") refl, (s, (s, (all_plain (codes "userSpaceOnUse") refl, (all_plain (codes "auto") refl, tt))))))));
    })
    (only_empty (codes "path") _ refl (record { names = refl; values = (c, (all_plain (codes "M 0 0 10 5 0 10 z") refl, tt)) }))

heads_are_content : IsContent heads_text
heads_are_content =
    only_around (codes "defs") _ _ refl none
    (both
    (head_is_content (codes "tip") (codes "tip") (codes "11") (all_plain (codes "tip") refl) (all_plain (codes "tip") refl) (all_plain (codes "11") refl))
    (head_is_content (codes "hint") (codes "hint") (codes "8") (all_plain (codes "hint") refl) (all_plain (codes "hint") refl) (all_plain (codes "8") refl)))

-- A picture is written as one element, in which each element ends where one of its name began.
picture_is_document : (rules : List (Bor (List ℕ))) (picture : Picture) → IsDocument (picture_text rules picture)
unfolding picture_text
picture_is_document rules picture = record {
  name = codes "svg";
  attributes = picture_attributes picture.size;
  content = element (codes "title") [] (escaped picture.title) ++ (sheet_text rules ++ (heads_text ++ shapes_text picture.shapes.items));
  named = refl;
  given = record {
    names = refl;
    values =
        (all_plain (codes "http://www.w3.org/2000/svg") refl, (decimal_is_text picture.size.x, (decimal_is_text picture.size.y, (area_is_text picture.size.x picture.size.y, (all_plain (codes "img") refl, tt)))));
  };
  inside =
      both (only_around (codes "title") _ _ refl none (only_text (escaped_is_text picture.title)))
      (both (only_around (codes "style") _ _ refl none (only_text (rules_are_text rules)))
      (both heads_are_content (shapes_are_content picture.shapes.items)));
  whole = refl;
}

pub text_is_document : (rules : List (Bor (List ℕ))) (picture : Picture) (text : List ℕ) → text ≡ picture_text rules picture → IsDocument text
text_is_document rules picture text is = subst IsDocument (sym is) (picture_is_document rules picture)
