use Rattle.std.proofs.Common.{ap}
use Rattle.change_rows.specs.Coordinating.{Running}
use Rattle.list_coordinator.proofs.Counting.{choice_taken}
use Rattle.list_coordinator.proofs.Places.{changed}
use Rattle.list_coordinator.proofs.changes.Changes.take_choice.Goals as goal

pub invariant_of-self : goal.invariant_of-self
invariant_of-self c =
    let it =
    changed c.args.self.now.files.items c.as_slice.result.now c.args.choice.file c.in-Ok.place c.index_mut.result.now c.choose.new.self c.as_slice.ensures.value c.args.self.now.rise c.in-Ok.ensures
    c.index_mut.ensures.value (ap (λ (x : Running). x.change.file) c.choose.ensures)
    in
    record { rise = it.rises }

pub returns-in-Ok : goal.returns-in-Ok
returns-in-Ok c =
    let it =
    changed c.args.self.now.files.items c.as_slice.result.now c.args.choice.file c.in-Ok.place c.index_mut.result.now c.choose.new.self c.as_slice.ensures.value c.args.self.now.rise c.in-Ok.ensures
    c.index_mut.ensures.value (ap (λ (x : Running). x.change.file) c.choose.ensures)
    in
    choice_taken c.args.self.now.files.items c.in-Ok.place c.index_mut.result.now c.choose.new.self c.args.choice it c.choose.ensures
