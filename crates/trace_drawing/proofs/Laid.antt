-- A scene that is laid out gives a picture with its rows.
use Rattle.std.proofs.Common.{◌≡◌, ℕ, ◌+◌, ◌<◌, ◌≤◌, List, Option, Some, length, sym, ap, ◌∙◌, subst, arith}
use Rattle.std.specs.Prelude.{slice_get}
use Rattle.time_line.specs.declared.entry.Entry.{Entry}
use Rattle.trace_shapes.specs.declared.shape.Shape.{Shape}
use Rattle.trace_shapes.specs.declared.shape.Picture.{Picture}
use Rattle.trace_shapes.specs.Pictures.{IsTextOf}
use Rattle.trace_drawing.specs.declared.scene.Scene.{Scene}
use Rattle.trace_drawing.specs.Edges.{edge_at, row_middle}
use Rattle.trace_drawing.specs.Drawn.{Has, numeral, height_at, between, middle_of, AreNumbered}
use Rattle.trace_drawing.specs.PictureOf.{HasRows, IsPictureOf}
use Rattle.trace_drawing.specs.Scenes.{IsLaidOut}
use Rattle.trace_drawing.proofs.Heights.{down}

middle_is :
    (edges : List ℕ) (bottom k upper lower : ℕ) → slice_get edges k ≡ Some upper → slice_get edges (k + 1) ≡ Some lower
    → middle_of edges bottom k ≡ between (Some upper) (Some lower) bottom
middle_is edges bottom k upper lower above below =
    ap (λ (edge : Option ℕ). between edge (slice_get edges (k + 1)) bottom) above
    ∙ ap (λ (edge : Option ℕ). between (Some upper) edge bottom) below

has_rows :
    (entries : List Entry) (only : Option ℕ) (scene : Scene) (picture : Picture)
    → IsLaidOut entries only scene
    → AreNumbered scene.heights.items scene.edges.items scene.bottom (length scene.entries.now) picture.shapes.items
    → HasRows entries only picture
has_rows entries only scene picture laid drawn = record {
  heights = heights;
  rows = laid.rows;
  top = laid.top;
  numbered = numbered;
  down = λ j k order within first second. down laid.top heights j k laid.rows.high order (omega (arith, within, laid.rows.each)) first second;
}
  where
    heights : List ℕ
    heights = scene.heights.items

    numbered : (k : ℕ) → k < length entries → 0 < height_at heights k → Has picture.shapes.items (numeral (row_middle laid.top heights k) (k + 1))
    numbered k within shown =
        let same = ap length laid.same in
        let middle = middle_is scene.edges.items scene.bottom k (edge_at laid.top heights k) (edge_at laid.top heights (k + 1))
        (laid.edges.each k (omega (arith, within, laid.rows.each))) (laid.edges.each (k + 1) (omega (arith, within, laid.rows.each))) in
        subst (λ (y : ℕ). Has picture.shapes.items (numeral y (k + 1))) middle (drawn k (omega (arith, within, same)) shown)

-- its text is one of such a picture
pub pictured :
    (entries : List Entry) (only : Option ℕ) (scene : Scene) (picture : Picture) (text : List ℕ)
    → IsLaidOut entries only scene
    → AreNumbered scene.heights.items scene.edges.items scene.bottom (length scene.entries.now) picture.shapes.items
    → IsTextOf picture text → IsPictureOf entries only text
pictured entries only scene picture text laid drawn spelled = record {
  picture = picture;
  spelled = spelled;
  rows = has_rows entries only scene picture laid drawn;
}
