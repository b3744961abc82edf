use Rattle.std.proofs.Common.{ap, subst, sym, refl, ◌∙◌}
use Rattle.xt_protocol.specs.Folds.{fold_of}
use Rattle.object_store.specs.Access.{records_of}
use Rattle.object_store.proofs.BareFolds.{fold_bare}
use Rattle.osd_core.specs.Views.{OsdView}
use Rattle.node_roles.specs.Roles.{osd_role}
use Rattle.store_loading.specs.Sinks.{HasSinkCause}
use Rattle.node_jobs.specs.Jobs.{ended_early}
use Rattle.node_jobs.proofs.Bare.{rows_bare}
use Rattle.node_jobs.proofs.Jobs.{served_sink}
use Rattle.node_jobs.proofs.Causes.{ended_early_by, served_from}
use Rattle.node_jobs.proofs.Serving.{has_done, not_started, says_early, says_so}
use Rattle.node_jobs.proofs.Osds.{osd_rows, osd_runs, osd_told}
use Rattle.node_jobs.proofs.osd.serve_osd.Goals as goal

pub started-requires-clause-rows : goal.started-requires-clause-rows
started-requires-clause-rows g c =
    let ready = c.in-Ok-get_ready.ensures.ready in
    rows_bare _ (records_of c.in-Ok-get_ready.ready.store) c.records.ensures (osd_rows ready.records _ ready.are ready.fits ready.all_are)

pub serve-requires-clause-runs : goal.serve-requires-clause-runs
serve-requires-clause-runs g c =
    let ready = c.in-Ok-get_ready.ensures.ready in
    osd_runs ready.records _ ready.are ready.fits ready.all_are c.args.id c.args.serving.now.settings.times _ c.args.serving.now.key _
    c.ready_text.ensures.number c.period_of-period.ensures.times c.in-Ok-get_ready.ensures.small
    (osd_told _ _ _ _ _ _ _ c.in-Ok-started.ensures (ap fold_of c.records.ensures ∙ fold_bare (records_of c.in-Ok-get_ready.ready.store)))

pub returns-in-Err-clause-job : goal.returns-in-Err-clause-job
returns-in-Err-clause-job g c =
    ended_early (says_early _ _ _ _ _ (c.as_bytes.ensures.value ∙ c.in-Ok-ready_text.ensures.text) _ _ c.in-Err.ensures.ends)

pub returns-in_default-started-clause-job : goal.returns-in_default-started-clause-job
returns-in_default-started-clause-job g c =
    ended_early (not_started (λ disk image told left. g.met.D.Disk.only_now disk image told left) _ _ _ _ c.in-Ok-get_ready.ready.store _ _ _
    (says_so _ _ _ _ _ (c.as_bytes.ensures.value ∙ c.in-Ok-ready_text.ensures.text) _ _ _ _ _ c.in-Ok-get_ready.ensures.ready) c.close.ensures)

pub returns-clause-job : goal.returns-clause-job
returns-clause-job g c =
    let told = osd_told _ _ _ _ _ _ _ c.in-Ok-started.ensures (ap fold_of c.records.ensures ∙ fold_bare (records_of c.in-Ok-get_ready.ready.store)) in
    has_done _ _ _ _ _ _ _ _ _ _
    (says_so _ _ _ _ _ (c.as_bytes.ensures.value ∙ c.in-Ok-ready_text.ensures.text) _ _ _ _ _ c.in-Ok-get_ready.ensures.ready) _ _ _ _ _ _
    (ap (λ (v : OsdView). osd_role v.state.started.node v.key) told) (ap (λ (v : OsdView). v.state) told)
    c.new-2.ensures c.in-Ok-ears_with.ensures c.period_of-period.ensures.value refl refl c.serve.ensures.keeps c.serve.ensures.disk_cause

pub returns-clause-cause : goal.returns-clause-cause
returns-clause-cause g c =
    served_from _ _ _ _ _ _ _ c.in-Ok-get_ready.ensures.faults.0 c.in-Ok-get_ready.ensures.faults.1 c.serve.ensures.cause

pub returns-clause-sink : goal.returns-clause-sink
returns-clause-sink g c =
    let sink = g.K.Sink.fault_count c.args.out.now in
    subst (λ n. HasSinkCause sink n c.serve.result.0) (sym c.in-Ok-get_ready.ensures.faults.2)
    (served_sink _ _ _ _ _ _ _ _ _ _ _ _ _ _ sink c.serve.result.0 c.serve.ensures.served)

pub returns-in-Err-clause-cause : goal.returns-in-Err-clause-cause
returns-in-Err-clause-cause g c = ended_early_by _ _ _ _ c.in-Err.field-0.status c.in-Err.ensures.cause
