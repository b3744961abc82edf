use Rattle.std.proofs.Common.{◌≡◌}
use Rattle.trace_drawing.proofs.Extending.{numbered}
use Rattle.trace_drawing.proofs.marks.draw_row.Goals as goal

pub returns : goal.returns
returns c before =
    numbered c.args.scene.now.heights.items c.args.scene.now.edges.items c.args.scene.now.bottom c.args.at c.args.sheet.now.shapes.items
    c.draw_entry.new.sheet.shapes.items before c.in_ok-draw_entry.ensures
