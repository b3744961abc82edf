use Rattle.std.proofs.Common.{subst, List}
use Rattle.std.specs.Map.Iter.{deref}
use Rattle.std.proofs.lemmas.Map.Iter.{rest_all, rest_more}
use Rattle.xt_base.specs.declared.ids.FileId.{FileId}
use Rattle.osd_core.proofs.Waking.{EndedSoFar, none_ended, more_ended, all_ended}
use Rattle.osd_core.proofs.slots.end_busy.Goals as goal

pub loop-file-init : goal.loop-file-init
loop-file-init c =
    let begins = c.into_iter-file-iterator.ensures.into_iter_gives in
    none_ended c.args.now c.args.busy.now.keys c.into_iter-file-iterator.result c.args.slots.now begins.4 begins.0

pub loop-file-preserved : goal.loop-file-preserved
loop-file-preserved c =
    let l = c.loop-file in
    let file = c.in-Some.file in
    let next = rest_more deref l.file-iterator c.next.new.self c.next.result file c.in-Some.is c.next.ensures.steps in
    let so_far = subst (λ (left : List FileId). EndedSoFar c.args.now c.args.busy.now.keys left c.args.slots.now l.slots) next l.invariant in
    more_ended c.args.now c.args.busy.now.keys c.next.new.self file.now c.args.slots.now l.slots c.end_at.new.slots so_far c.end_at.ensures

pub returns : goal.returns
returns c =
    let l = c.loop-file in
    let none = rest_all deref l.file-iterator c.next.new.self c.next.result c.in-None.is c.next.ensures.steps in
    all_ended c.args.now c.args.busy.now.keys l.file-iterator c.args.slots.now l.slots none l.invariant
