use Rattle.std.proofs.Common.{ap}
use Rattle.change_rows.specs.Coordinating.{Running}
use Rattle.list_coordinator.proofs.Counting.{listing_taken}
use Rattle.list_coordinator.proofs.Places.{changed}
use Rattle.list_coordinator.proofs.changes.Changes.take_listing.Goals as goal

pub invariant_of-self : goal.invariant_of-self
invariant_of-self c =
    let it =
    changed c.args.self.now.files.items c.as_slice.result.now c.args.file.now c.in-Ok.place c.index_mut.result.now c.list.new.self c.as_slice.ensures.value c.args.self.now.rise c.in-Ok.ensures
    c.index_mut.ensures.value (ap (λ (x : Running). x.change.file) c.list.ensures)
    in
    record { rise = it.rises }

pub returns-in-Ok : goal.returns-in-Ok
returns-in-Ok c =
    let it =
    changed c.args.self.now.files.items c.as_slice.result.now c.args.file.now c.in-Ok.place c.index_mut.result.now c.list.new.self c.as_slice.ensures.value c.args.self.now.rise c.in-Ok.ensures
    c.index_mut.ensures.value (ap (λ (x : Running). x.change.file) c.list.ensures)
    in
    listing_taken c.args.self.now.files.items c.args.file.now c.in-Ok.place c.index_mut.result.now c.list.new.self it c.list.ensures
