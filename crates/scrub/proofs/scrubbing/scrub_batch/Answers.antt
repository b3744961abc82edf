use Rattle.std.proofs.Common.{ap, map, ◌∙◌}
use Rattle.scrub.specs.Reading.{found_in}
use Rattle.scrub.proofs.Reports.{scrubbed_read}
use Rattle.scrub.proofs.scrubbing.scrub_batch.Goals as goal

pub returns-in-Ok-found_in_each-clause-is : goal.returns-in-Ok-found_in_each-clause-is
returns-in-Ok-found_in_each-clause-is g c =
    scrubbed_read g.B.Bodies.agrees g.B.Bodies.fault_count c.args.bodies.now c.read_items.new.bodies c.args.items.now c.in-Ok.read.items
    c.in-Ok-found_in_each.found.items (c.in-Ok-found_in_each.ensures ∙ ap (map found_in) c.as_slice.ensures.value) c.in-Ok.ensures.read
