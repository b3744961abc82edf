use Rattle.std.proofs.Common.{refl, ap, sym, ◌∙◌}
use Rattle.object_store.specs.Waits.{recs_of}
use Rattle.node_loop.proofs.Committing.{none_of}
use Rattle.scrub_job.proofs.Sealed.{all_sealed, breaks, has_no_room, none_sealed, runs_out, untouched}
use Rattle.scrub_job.proofs.sealing.sealed.Goals as goal

pub returns-in-Err-Full-clause-ends : goal.returns-in-Err-Full-clause-ends
returns-in-Err-Full-clause-ends g c =
    let facts = rw c.in-Err-Full.field-0-is at c.in-Err-Full.ensures in
    has_no_room (λ disk image told left. g.met.D.Disk.only_now disk image told left) g.met.D.Disk.counts_now c.args.store c.args.seals.now c.close.result
    c.in-Err-Full.need c.in-Err-Full.limit c.close.ensures facts.cannot

pub returns-in-Err-OutOfMemory-clause-ends : goal.returns-in-Err-OutOfMemory-clause-ends
returns-in-Err-OutOfMemory-clause-ends g c =
    runs_out (λ disk image told left. g.met.D.Disk.only_now disk image told left) g.met.D.Disk.counts_now c.args.store c.args.seals.now
    c.close-in-Err-OutOfMemory.result c.close-in-Err-OutOfMemory.ensures

pub returns-then-is_empty-clause-all : goal.returns-then-is_empty-clause-all
returns-then-is_empty-clause-all g c =
    let staged = c.in-Ok.ensures.all in
    none_sealed (λ disk image told left. g.met.D.Disk.only_now disk image told left) g.met.D.Disk.counts_now c.args.store c.args.seals.now
    (sym staged.recs ∙ none_of (recs_of c.in-Ok.waiting) (sym c.if-is_empty.ensures))

pub returns-in-Ok-put_all-clause-all : goal.returns-in-Ok-put_all-clause-all
returns-in-Ok-put_all-clause-all g c =
    all_sealed (λ disk image told left. g.met.D.Disk.only_now disk image told left) g.met.D.Disk.counts_now c.args.store c.args.seals.now (recs_of c.in-Ok.waiting)
    c.in-Ok.ensures.all.recs c.requires.seals c.in-Ok-put_all.store c.in-Ok-put_all.ensures

pub returns-in-Err-Broken-clause-ends : goal.returns-in-Err-Broken-clause-ends
returns-in-Err-Broken-clause-ends g c =
    let facts = rw c.in-Err-Broken.field-0-is at c.in-Err-Broken.ensures in
    breaks (λ disk image told left. g.met.D.Disk.only_now disk image told left) g.met.D.Disk.counts_now c.args.store c.args.seals.now (recs_of c.in-Ok.waiting)
    c.in-Ok.ensures.all.recs c.requires.seals c.in-Err-Broken.disk c.in-Err-Broken.count facts

pub returns-in-Err-OutOfMemory-put_all-clause-ends : goal.returns-in-Err-OutOfMemory-put_all-clause-ends
returns-in-Err-OutOfMemory-put_all-clause-ends g c =
    let facts = rw c.in-Err-OutOfMemory-put_all.field-0-is at c.in-Err-OutOfMemory-put_all.ensures in
    untouched (λ disk image told left. g.met.D.Disk.only_now disk image told left) g.met.D.Disk.counts_now c.args.store c.args.seals.now (recs_of c.in-Ok.waiting)
    c.in-Ok.ensures.all.recs c.requires.seals c.in-Err-OutOfMemory-put_all.disk facts
