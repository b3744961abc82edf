use Rattle.list_coordinator.proofs.Counting.{closing_counted_if, closing_stays}
use Rattle.list_coordinator.proofs.Places.{changed}
use Rattle.list_coordinator.proofs.changes.Changes.count_closing.Goals as goal

pub invariant_of-self : goal.invariant_of-self
invariant_of-self c =
    let it =
    changed c.args.self.now.files.items c.as_slice.result.now c.args.file.now c.in-Ok.place c.index_mut.result.now c.count_closing.new.self c.as_slice.ensures.value c.args.self.now.rise c.in-Ok.ensures
    c.index_mut.ensures.value
    (closing_stays c.count_closing.result c.index_mut.result.now c.count_closing.new.self c.args.now c.args.from c.args.version c.args.head.now c.count_closing.ensures.ok c.count_closing.ensures.err)
    in
    record { rise = it.rises }

pub returns-in-Ok-clause-ok : goal.returns-in-Ok-clause-ok
returns-in-Ok-clause-ok c =
    let it =
    changed c.args.self.now.files.items c.as_slice.result.now c.args.file.now c.in-Ok.place c.index_mut.result.now c.count_closing.new.self c.as_slice.ensures.value c.args.self.now.rise c.in-Ok.ensures
    c.index_mut.ensures.value
    (closing_stays c.count_closing.result c.index_mut.result.now c.count_closing.new.self c.args.now c.args.from c.args.version c.args.head.now c.count_closing.ensures.ok c.count_closing.ensures.err)
    in
    closing_counted_if c.count_closing.result c.args.self.now.files.items c.args.file.now c.in-Ok.place c.index_mut.result.now c.count_closing.new.self c.args.now c.args.from c.args.version c.args.head.now
    it c.count_closing.ensures.ok
