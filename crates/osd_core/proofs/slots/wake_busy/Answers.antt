use Rattle.std.proofs.Common.{subst, List}
use Rattle.std.specs.Map.Iter.{deref}
use Rattle.std.proofs.lemmas.Map.Iter.{rest_all, rest_more}
use Rattle.xt_base.specs.declared.ids.FileId.{FileId}
use Rattle.osd_core.proofs.Waking.{GaveSoFar, none_gave, more_gave, all_gave}
use Rattle.osd_core.proofs.slots.wake_busy.Goals as goal

pub loop-file-init : goal.loop-file-init
loop-file-init c =
    let begins = c.into_iter-file-iterator.ensures.into_iter_gives in
    let met = c.args.met.now in
    none_gave c.args.now met.busy.keys c.into_iter-file-iterator.result met.slots c.args.woken.now begins.4 begins.0 c.requires.overdue c.requires.again

pub loop-file-preserved : goal.loop-file-preserved
loop-file-preserved c =
    let l = c.loop-file in
    let met = c.args.met.now in
    let file = c.in-Some.file in
    let next = rest_more deref l.file-iterator c.next.new.self c.next.result file c.in-Some.is c.next.ensures.steps in
    let so_far = subst (λ (left : List FileId). GaveSoFar c.args.now met.busy.keys left met.slots l.woken) next l.invariant in
    more_gave c.args.now met.busy.keys c.next.new.self file.now met.slots l.woken c.wake_at.new.woken so_far c.in_ok-wake_at.ensures

pub returns : goal.returns
returns c =
    let l = c.loop-file in
    let none = rest_all deref l.file-iterator c.next.new.self c.next.result c.in-None.is c.next.ensures.steps in
    all_gave c.args.now c.args.met.now l.file-iterator l.woken none l.invariant
