use Rattle.std.proofs.Common.{sym, subst, ◌∙◌, ap}
use Rattle.xt_protocol.specs.Folds.{fold_of}
use Rattle.replica_records.specs.Heads.{heads_of}
use Rattle.object_store.specs.Access.{records_of}
use Rattle.object_store.specs.Texts.{AreRecords}
use Rattle.object_store.proofs.BareFolds.{fold_bare}
use Rattle.store_compact.proofs.Heads.{may_compact}
use Rattle.orphan_sweep.specs.Fates.{orphans_of}
use Rattle.orphan_sweep.proofs.Fitting.{removed_are}
use Rattle.orphan_sweep.proofs.Way.{compacted_sweep, removed_alone, stopped_sweep}
use Rattle.orphan_sweep.proofs.sweeping.sweep.Goals as goal

pub returns-in-Err : goal.returns-in-Err
returns-in-Err g c = stopped_sweep {g = g.D.Disk} g.met.D.Disk.counts_now c.args.store (orphans_of c.args.fates.now) c.in-Err.error c.in-Err.ensures

pub returns-in_default : goal.returns-in_default
returns-in_default g c = removed_alone {g = g.D.Disk} g.met.D.Disk.counts_now c.args.store (orphans_of c.args.fates.now) c.in-Ok.store c.in-Ok.ensures

pub compact-requires : goal.compact-requires
compact-requires g c =
    let records = records_of {g = g.D.Disk} c.in-Ok.store in
    let keep_is = c.in-Ok-named_bodies.ensures ∙ ap (λ rs. heads_of (fold_of rs)) c.records.ensures ∙ ap heads_of (fold_bare records) in
    may_compact c.heads_name_what_must_stay.ensures c.rewritten_records_may_be_kept.ensures records c.in-Ok-named_bodies.keep
    (subst AreRecords (sym c.in-Ok.ensures.records) (removed_are (records_of {g = g.D.Disk} c.args.store) c.args.fates.now c.requires.sound c.requires.files))
    keep_is

pub returns : goal.returns
returns g c =
    let records = records_of {g = g.D.Disk} c.in-Ok.store in
    let keep_is = c.in-Ok-named_bodies.ensures ∙ ap (λ rs. heads_of (fold_of rs)) c.records.ensures ∙ ap heads_of (fold_bare records) in
    compacted_sweep {g = g.D.Disk} g.met.D.Disk.counts_now c.args.store (orphans_of c.args.fates.now) c.in-Ok.store c.in-Ok.ensures c.in-Ok-named_bodies.keep keep_is
    c.compact.result c.compact.ensures
