use Rattle.trace_drawing.proofs.Laid.{pictured}
use Rattle.trace_drawing.proofs.drawing.draw.Goals as goal

pub returns-clause-rows : goal.returns-clause-rows
returns-clause-rows c =
    pictured c.args.entries.now c.args.only c.in_ok-scene.scene c.in_ok-picture.picture c.in_ok-print_picture.field-0
    c.in_ok-scene.ensures c.in_ok-picture.ensures c.in_ok-print_picture.ensures.text
