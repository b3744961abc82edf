use Rattle.std.proofs.Common.{◌∙◌, List, refl, subst, sym}
use Rattle.xt_base.specs.declared.ids.FileId.{FileId}
use Rattle.xt_journal.specs.Access.{limit_of, place_of, superblock_of}
use Rattle.xt_messages.specs.declared.status.Status.TheVariants as status
use Rattle.xt_protocol.specs.Folds.{fold_of}
use Rattle.object_store.specs.Access.{disk_of, journal_of, records_of}
use Rattle.object_store.specs.declared.errors.AppendErr.TheVariants as append
use Rattle.orphan_sweep.specs.declared.fate.Fate.{Fate}
use Rattle.orphan_sweep.specs.Fates.{fates_of, orphans_of}
use Rattle.orphan_sweep.proofs.Way.{not_begun}
use Rattle.store_loading.proofs.Disks.{medium_of}
use Rattle.sweep_job.specs.Lines.{swept_line}
use Rattle.sweep_job.specs.Sweeping.{SweepsOrStops, Tells}
use Rattle.sweep_job.proofs.Swept.{has_stopped, is_done}
use Rattle.sweep_job.proofs.sweeping.sweep_loaded.Goals as goal

pub returns-in_default-clause-does : goal.returns-in_default-clause-does
returns-in_default-clause-does g c =
    let store = c.args.store in
    let fates = fates_of (fold_of (records_of store)) c.args.files.now c.args.times.now c.args.now in
    has_stopped store fates (g.K.Sink.held c.args.out.now) (append.OutOfMemory store) c.close.result status.OutOfMemory c.close.ensures refl
    (not_begun (λ disk image told left. g.met.D.Disk.only_now disk image told left) g.met.D.Disk.counts_now store (orphans_of fates))

pub returns-in-Ok-sweep-clause-does : goal.returns-in-Ok-sweep-clause-does
returns-in-Ok-sweep-clause-does g c =
    let store = c.args.store in
    let held = g.K.Sink.held c.args.out.now in
    let later = g.K.Sink.held c.tell-status.new.out in
    subst (λ (fates : List (FileId × Fate)). SweepsOrStops (medium_of g.D.Disk) (limit_of (journal_of store)) (disk_of store) c.close-in-Ok-sweep.result (records_of store)
    (superblock_of (journal_of store)) (place_of (journal_of store)) fates held later c.tell-status.result)
    (c.as_slice.ensures.value ∙ c.in-Ok.ensures.are)
    (is_done store c.as_slice.result.now held later c.in-Ok-sweep.store c.close-in-Ok-sweep.result c.tell-status.result c.close-in-Ok-sweep.ensures c.in-Ok-sweep.ensures
    (subst (λ (fates : List (FileId × Fate)). Tells (swept_line fates) held later c.tell-status.result)
    (c.as_slice-in-Ok-sweep.ensures.value ∙ sym c.as_slice.ensures.value) c.tell-status.ensures.tells))

pub returns-clause-does : goal.returns-clause-does
returns-clause-does g c =
    let store = c.args.store in
    let held = g.K.Sink.held c.args.out.now in
    subst (λ (fates : List (FileId × Fate)). SweepsOrStops (medium_of g.D.Disk) (limit_of (journal_of store)) (disk_of store) c.stopped-status.result.disk (records_of store)
    (superblock_of (journal_of store)) (place_of (journal_of store)) fates held held c.stopped-status.result.status)
    (c.as_slice.ensures.value ∙ c.in-Ok.ensures.are)
    (has_stopped store c.as_slice.result.now held c.in-Err.error c.stopped-status.result.disk c.stopped-status.result.status c.stopped-status.ensures.disk
    c.stopped-status.ensures.status c.in-Err.ensures)
