use Rattle.list_coordinator.proofs.Places.{taken_out}
use Rattle.list_coordinator.proofs.changes.Changes.end.Goals as goal

pub invariant_of-self : goal.invariant_of-self
invariant_of-self c =
    record {
      rise = taken_out c.args.self.now.files.items c.as_slice.result.now c.remove.new.self.items c.args.file.now c.in-Ok.place c.as_slice.ensures.value c.args.self.now.rise c.in-Ok.ensures c.remove.ensures.items;
    }
