use Rattle.scrub_job.proofs.Checked.{found_by_reader, none_lost}
use Rattle.scrub_job.proofs.checking.found_by.Goals as goal

pub returns-in-Ok : goal.returns-in-Ok
returns-in-Ok g c =
    found_by_reader c.args.store.now c.new-bodies.result c.scrub.new.bodies c.new-bodies.ensures.store (λ records is. c.in-Ok.ensures.later records is)
    _ _ c.args.items.now c.in-Ok.found.items c.in-Ok.ensures.is

pub unreachable-requires : goal.unreachable-requires
unreachable-requires g c =
    let facts = rw c.in-Err-NoBody.field-0-is at c.in-Err-NoBody.ensures in
    none_lost c.args.store.now c.new-bodies.result c.scrub.new.bodies c.new-bodies.ensures.store (λ records is. facts.later records is)
    _ _ c.args.items.now c.in-Err-NoBody.field-0-0 c.requires facts.cannot
