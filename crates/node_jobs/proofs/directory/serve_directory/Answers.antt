use Rattle.std.proofs.Common.{ap, subst, sym, refl, ◌∙◌}
use Rattle.server_rows.specs.Directory.{DirNode, dir_of}
use Rattle.object_store.specs.Access.{records_of}
use Rattle.node_roles.specs.Roles.{dir_role}
use Rattle.store_loading.specs.Sinks.{HasSinkCause}
use Rattle.node_jobs.specs.Jobs.{ended_early}
use Rattle.node_jobs.proofs.Bare.{dir_bare}
use Rattle.node_jobs.proofs.Jobs.{dir_ready, served_sink}
use Rattle.node_jobs.proofs.Causes.{ended_early_by, served_from}
use Rattle.node_jobs.proofs.Serving.{dir_told, has_done, not_started}
use Rattle.node_jobs.proofs.directory.serve_directory.Goals as goal

pub serve-requires-clause-runs : goal.serve-requires-clause-runs
serve-requires-clause-runs g c =
    let ready = c.in-Ok-get_ready.ensures.ready in
    dir_ready ready.records _ _ ready.are ready.fits ready.all_are
    (ap (λ (d : DirNode). d.state) c.in-Ok-start.ensures ∙ ap dir_of c.records.ensures ∙ dir_bare (records_of c.in-Ok-get_ready.ready.store))

pub returns-in-Err-clause-job : goal.returns-in-Err-clause-job
returns-in-Err-clause-job g c = ended_early c.in-Err.ensures.ends

pub returns-in_default-start-clause-job : goal.returns-in_default-start-clause-job
returns-in_default-start-clause-job g c =
    ended_early (not_started (λ disk image told left. g.met.D.Disk.only_now disk image told left) _ _ _ _ c.in-Ok-get_ready.ready.store _ _ _ c.in-Ok-get_ready.ensures.ready
    c.close.ensures)

pub returns-clause-job : goal.returns-clause-job
returns-clause-job g c =
    let told = dir_told _ _ (records_of c.in-Ok-get_ready.ready.store) c.records.result.now _ c.in-Ok-start.ensures c.as_slice.ensures
    (ap dir_of c.records.ensures ∙ dir_bare (records_of c.in-Ok-get_ready.ready.store)) in
    has_done _ _ _ _ _ _ _ _ _ _ c.in-Ok-get_ready.ensures.ready _ _ _ _ _ _
    (ap (λ (d : DirNode). dir_role d.secret) told) (ap (λ (d : DirNode). d.state) told)
    c.new-3.ensures c.new-2.ensures c.period_of-period.ensures.value refl refl c.serve.ensures.keeps c.serve.ensures.disk_cause

pub returns-clause-cause : goal.returns-clause-cause
returns-clause-cause g c =
    served_from _ _ _ _ _ _ _ c.in-Ok-get_ready.ensures.faults.0 c.in-Ok-get_ready.ensures.faults.1 c.serve.ensures.cause

pub returns-clause-sink : goal.returns-clause-sink
returns-clause-sink g c =
    let sink = g.K.Sink.fault_count c.args.out.now in
    subst (λ n. HasSinkCause sink n c.serve.result.0) (sym c.in-Ok-get_ready.ensures.faults.2)
    (served_sink _ _ _ _ _ _ _ _ _ _ _ _ _ _ sink c.serve.result.0 c.serve.ensures.served)

pub returns-in-Err-clause-cause : goal.returns-in-Err-clause-cause
returns-in-Err-clause-cause g c = ended_early_by _ _ _ _ c.in-Err.field-0.status c.in-Err.ensures.cause
