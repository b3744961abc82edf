use Rattle.std.proofs.Common.{refl, sym, subst}
use Rattle.std.proofs.lemmas.Result.{IfOk-weaker}
use Rattle.disk_model.specs.Changes.{Memory, memory_kept}
use Rattle.disk_model.specs.Disk.{IsImage}
use Rattle.xt_journal.specs.Access.{superblock_of}
use Rattle.xt_journal.specs.Format.{KeepsJournal}
use Rattle.xt_journal.specs.Loaded.{IsReady}
use Rattle.xt_journal.proofs.Steps.{each_stands_in}
use Rattle.object_store.specs.Access.{disk_of, journal_of, records_of}
use Rattle.object_store.specs.Texts.{texts_of}
use Rattle.world_disk.proofs.Rooms.{keeps_here}
use Rattle.world_disk.proofs.StoredRecords.{image_on, image_ready}
use Rattle.world_disk.proofs.node_store.NodeStore.bytes.Goals as goal

pub returns-clause-left : goal.returns-clause-left
returns-clause-left c =
    rw (← c.self.view_is)
    (IfOk-weaker _ _ _ (λ image is. subst (λ (d : Memory). IsImage (memory_kept d) image) c.disk.ensures is) c.image.ensures.image)

pub returns-clause-same : goal.returns-clause-same
returns-clause-same c =
    let store = c.self.inside.store in
    rw (← c.self.view_is)
    (IfOk-weaker _ _ _
    (λ image is. image_on (superblock_of (journal_of store)) (memory_kept (disk_of store)) (records_of store) image (keeps_here store refl) store.sound c.self.invariant.short
    (subst (λ (d : Memory). IsImage (memory_kept d) image) c.disk.ensures is)) c.image.ensures.image)

pub returns-clause-superblock : goal.returns-clause-superblock
returns-clause-superblock c =
    let store = c.self.inside.store in
    rw (← c.self.view_is)
    (IfOk-weaker _ _ _
    (λ image is. each_stands_in (superblock_of (journal_of store)) (memory_kept (disk_of store)) (texts_of (records_of store)) image (keeps_here store refl)
    (subst (λ (d : Memory). IsImage (memory_kept d) image) c.disk.ensures is)) c.image.ensures.image)

pub returns-clause-ready : goal.returns-clause-ready
returns-clause-ready c =
    IfOk-weaker _ _ _
    (λ image is. image_ready (memory_kept c.disk.result.now) (records_of c.self.inside.store) image
    (subst (λ (d : Memory). KeepsJournal (memory_kept d) (texts_of (records_of c.self.inside.store))) (sym c.disk.ensures) (c.self.inside.store.keeps refl))
    (subst (λ (d : Memory). IsReady (memory_kept d).read) (sym c.disk.ensures) c.self.invariant.ready) is) c.image.ensures.image
