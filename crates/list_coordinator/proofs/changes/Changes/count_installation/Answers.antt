use Rattle.list_coordinator.proofs.Counting.{installation_counted_if, installation_stays}
use Rattle.list_coordinator.proofs.Places.{changed}
use Rattle.list_coordinator.proofs.changes.Changes.count_installation.Goals as goal

pub invariant_of-self : goal.invariant_of-self
invariant_of-self c =
    let it =
    changed c.args.self.now.files.items c.as_slice.result.now c.args.file.now c.in-Ok.place c.index_mut.result.now c.count_installation.new.self c.as_slice.ensures.value c.args.self.now.rise
    c.in-Ok.ensures c.index_mut.ensures.value
    (installation_stays c.count_installation.result c.index_mut.result.now c.count_installation.new.self c.args.from c.args.version c.count_installation.ensures.ok c.count_installation.ensures.err)
    in
    record { rise = it.rises }

pub returns-in-Ok-clause-ok : goal.returns-in-Ok-clause-ok
returns-in-Ok-clause-ok c =
    let it =
    changed c.args.self.now.files.items c.as_slice.result.now c.args.file.now c.in-Ok.place c.index_mut.result.now c.count_installation.new.self c.as_slice.ensures.value c.args.self.now.rise
    c.in-Ok.ensures c.index_mut.ensures.value
    (installation_stays c.count_installation.result c.index_mut.result.now c.count_installation.new.self c.args.from c.args.version c.count_installation.ensures.ok c.count_installation.ensures.err)
    in
    installation_counted_if c.count_installation.result c.args.self.now.files.items c.args.file.now c.in-Ok.place c.index_mut.result.now c.count_installation.new.self c.args.from c.args.version it
    c.count_installation.ensures.ok
