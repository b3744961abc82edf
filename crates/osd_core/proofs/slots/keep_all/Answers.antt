use Rattle.std.proofs.Common.{◌∙◌}
use Rattle.std.specs.Map.{values_of}
use Rattle.std.specs.Map.Iter.{deref}
use Rattle.std.proofs.lemmas.Map.Iter.{rest_all, rest_more}
use Rattle.osd_core.proofs.Keeping.{none_kept, more_kept, all_kept}
use Rattle.osd_core.proofs.slots.keep_all.Goals as goal

pub loop-slot-init : goal.loop-slot-init
loop-slot-init c =
    none_kept (values_of c.args.met.now.slots.entries) c.into_iter-slot-iterator.result c.args.keep.now (c.into_iter-slot-iterator.ensures.into_iter_gives ∙ c.values-slot-items.ensures.rest)

pub loop-slot-preserved : goal.loop-slot-preserved
loop-slot-preserved c =
    let l = c.loop-slot in
    let slot = c.in-Some.slot in
    let next = rest_more deref l.slot-iterator c.next.new.self c.next.result slot c.in-Some.is c.next.ensures.steps in
    more_kept (values_of c.args.met.now.slots.entries) l.slot-iterator c.next.new.self slot.now c.args.keep.now l.keep c.keep.new.keep next l.invariant c.in_ok-keep.ensures

pub returns : goal.returns
returns c =
    let l = c.loop-slot in
    let none = rest_all deref l.slot-iterator c.next.new.self c.next.result c.in-None.is c.next.ensures.steps in
    all_kept c.args.met.now l.slot-iterator c.args.keep.now l.keep none l.invariant
