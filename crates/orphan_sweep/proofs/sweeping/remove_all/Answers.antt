use Rattle.std.proofs.Common.{◌≡◌, ◌+◌, true, false, take, drop, sym, subst, ◌∙◌, append-nil}
use Rattle.orphan_sweep.specs.Fates.{is_orphan, orphans_of}
use Rattle.orphan_sweep.specs.Sweeps.{AreRemoved, IsStopped}
use Rattle.orphan_sweep.proofs.Orphans.{orphans_more, orphans_parted}
use Rattle.orphan_sweep.proofs.Way.{none_removed, one_more, stopped}
use Rattle.orphan_sweep.proofs.sweeping.remove_all.Goals as goal
use Rattle.orphan_sweep.proofs.sweeping.remove_all.Goals.{then-is_orphan+in-Ok, else-is_orphan}

pub loop-file-init : goal.loop-file-init
loop-file-init g c = none_removed (λ disk image told left. g.met.D.Disk.only_now disk image told left) c.args.store

pub returns-in-Err : goal.returns-in-Err
returns-in-Err g c =
    let fates = c.args.fates.now in
    let i = c.loop-file.file-index in
    let entry = c.loop-file-item.result in
    let goes : is_orphan entry.1 ≡ true = sym c.is_orphan.ensures ∙ c.if-is_orphan.true in
    subst (λ files. IsStopped {g = g.D.Disk} c.args.store files c.in-Err.error)
    (sym (orphans_parted fates i entry c.loop-file-test.true c.loop-file-item.is goes))
    (stopped {g = g.D.Disk} c.args.store (orphans_of (take i fates)) c.loop-file.store c.loop-file.invariant entry.0 (orphans_of (drop (i + 1) fates)) c.in-Err.error
    c.in-Err.ensures)

pub loop-file-preserved : goal.loop-file-preserved
loop-file-preserved g c =
    let fates = c.args.fates.now in
    let i = c.loop-file.file-index in
    let entry = c.loop-file-item.result in
    let old = c.args.store in
    let gone = orphans_of (take i fates) in
    elim c.if-is_orphan.branch [
      | then-is_orphan+in-Ok w ↦
          let goes : is_orphan entry.1 ≡ true = sym c.is_orphan.ensures ∙ w.if-is_orphan.true in
          subst (λ s. AreRemoved {g = g.D.Disk} old (orphans_of (take (i + 1) fates)) s) (sym w.store-is)
          (subst (λ files. AreRemoved {g = g.D.Disk} old files w.in-Ok.put) (sym (orphans_more fates i entry c.loop-file-test.true c.loop-file-item.is true goes))
          (one_more {g = g.D.Disk} old gone c.loop-file.store c.loop-file.invariant entry.0 w.in-Ok.put w.in-Ok.ensures))
      | else-is_orphan w ↦
          let stays : is_orphan entry.1 ≡ false = sym c.is_orphan.ensures ∙ w.if-is_orphan.false in
          subst (λ s. AreRemoved {g = g.D.Disk} old (orphans_of (take (i + 1) fates)) s) (sym w.store-is)
          (subst (λ files. AreRemoved {g = g.D.Disk} old files c.loop-file.store)
          (sym (orphans_more fates i entry c.loop-file-test.true c.loop-file-item.is false stays ∙ append-nil gone)) c.loop-file.invariant)
    ]
