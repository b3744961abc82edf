use Rattle.std.proofs.Common.{ap, subst, sym, ◌∙◌}
use Rattle.change_rows.specs.Coordinating.{Running}
use Rattle.list_coordinator.specs.Places.{ChangesRise}
use Rattle.list_coordinator.proofs.Places.{put_between, put_over_it}
use Rattle.list_coordinator.proofs.changes.Changes.begin.Goals as goal

pub invariant_of-self : goal.invariant_of-self
invariant_of-self c =
    record {
      rise =
          put_over_it c.args.self.now.files.items c.as_slice.result.now c.args.file c.in-Ok.place c.put.new.place c.as_slice.ensures.value c.args.self.now.rise c.in-Ok.ensures
          (ap (λ (x : Running). x.change.file) (c.put.ensures ∙ c.begin-carried.ensures));
    }

pub invariant_of-self-in-Err : goal.invariant_of-self-in-Err
invariant_of-self-in-Err c =
    let put =
    put_between c.args.self.now.files.items c.as_slice.result.now c.args.file c.in-Err.place c.begin-carried.result c.as_slice.ensures.value c.args.self.now.rise c.in-Err.ensures
    (ap (λ (x : Running). x.change.file) c.begin-carried.ensures)
    in
    record { rise = subst ChangesRise (sym c.insert.ensures) put.1 }
