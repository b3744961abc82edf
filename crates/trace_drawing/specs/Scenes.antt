-- how a scene is laid out
use Rattle.std.specs.Prelude.{ℕ, ◌≡◌, ◌+◌, Option, List, length}
use Rattle.time_line.specs.declared.entry.Entry.{Entry}
use Rattle.trace_spans.specs.Listed.{IsListOf}
use Rattle.trace_drawing.specs.declared.scene.Scene.{Scene}
use Rattle.trace_drawing.specs.Edges.{AreHeights, edge_at}

-- The scene has these entries, the heights of their rows and the edges between them.
pub record IsLaidOut (entries : List Entry) (only : Option ℕ) (scene : Scene) : Type 0 where
  pub same : scene.entries.now ≡ entries
  pub rows : AreHeights entries only scene.heights.items
  pub top : ℕ
  pub edges : IsListOf (length scene.heights.items + 1) (edge_at top scene.heights.items) scene.edges.items
