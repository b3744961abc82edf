use Rattle.std.proofs.Common.{ap, ◌∙◌, refl, subst}
use Rattle.xt_messages.specs.Limits.{FitsBoot}
use Rattle.object_store.specs.Access.{disk_of, records_of}
use Rattle.node_loop.specs.Stores.{journal_at}
use Rattle.node_jobs.specs.Jobs.{unbooted, unready}
use Rattle.node_jobs.proofs.Causes.{cause_from}
use Rattle.store_loading.proofs.Disks.{medium_of}
use Rattle.node_jobs.proofs.Disks.{closed_from, stand_at, unbooted_from, within_at}
use Rattle.node_jobs.proofs.readiness.get_ready.Goals as goal

pub returns-in-Err-clause-cause : goal.returns-in-Err-clause-cause
returns-in-Err-clause-cause g c = c.in-Err.ensures.cause (g.C.Clock.fault_count c.args.clock.now)

pub returns-in-Err-clause-sink : goal.returns-in-Err-clause-sink
returns-in-Err-clause-sink g c = c.in-Err.ensures.sink (g.K.Sink.fault_count c.args.out.now)

pub returns-in-Err-booted-clause-ends : goal.returns-in-Err-booted-clause-ends
returns-in-Err-booted-clause-ends g c =
    let opened = c.in-Ok.ensures in
    let D = g.D.Disk in
    unbooted (record {
      silent = record { given = opened.given; sent = opened.sent.0; losses = opened.sent.1 };
      readings = refl;
      held = refl;
    })
    (unbooted_from (medium_of D) c.args.disk c.args.serving.now.settings.limit c.in-Ok.store
    c.in-Err-booted.ended.disk c.in-Err-booted.ended.status opened.loads c.in-Err-booted.ensures.ends)

pub returns-in-Ok-ready-clause-ready : goal.returns-in-Ok-ready-clause-ready
returns-in-Ok-ready-clause-ready g c =
    let opened = c.in-Ok.ensures in
    let boots = c.in-Ok-booted.ensures.boots in
    let old = c.in-Ok.store in
    let new = c.in-Ok-booted.booted.0 in
    record {
      records = records_of old;
      are = opened.loads.are;
      stand = stand_at c.args.disk c.args.serving.now.settings.limit old new c.in-Ok-booted.booted.1 opened.loads boots;
      within = within_at c.args.disk c.args.serving.now.settings.limit old new c.in-Ok-booted.booted.1 opened.loads boots;
      fits = subst FitsBoot boots.boot_is boots.fits;
      all_are = boots.records;
      boot_is = boots.boot_is;
      loaded = disk_of old;
      comes = opened.loads.comes;
      comes_to = boots.comes_to;
      silent = record { given = opened.given; sent = opened.sent.0; losses = opened.sent.1 };
      reads = c.in-Ok-ready.ensures.read;
      told = c.in-Ok-ready.ensures.told;
    }

pub returns-in-Err-ready-clause-ends : goal.returns-in-Err-ready-clause-ends
returns-in-Err-ready-clause-ends g c =
    let D = g.D.Disk in
    let opened = c.in-Ok.ensures in
    let boots = c.in-Ok-booted.ensures.boots in
    let old = c.in-Ok.store in
    let new = c.in-Ok-booted.booted.0 in
    let comes = opened.loads.comes in
    unready (record {
      records = records_of old;
      are = opened.loads.are;
      journal = journal_at new;
      stand = stand_at c.args.disk c.args.serving.now.settings.limit old new c.in-Ok-booted.booted.1 opened.loads boots;
      within = within_at c.args.disk c.args.serving.now.settings.limit old new c.in-Ok-booted.booted.1 opened.loads boots;
      fits = subst FitsBoot boots.boot_is boots.fits;
      silent = record { given = opened.given; sent = opened.sent.0; losses = opened.sent.1 };
      why = c.in-Err-ready.ensures.ends;
      faults = ap D.fault_count c.close.ensures ∙ boots.comes_to.faults ∙ comes.faults;
      keeps = closed_from (λ disk image told left. g.met.D.Disk.only_now disk image told left) c.args.disk (disk_of old) c.close.result new (records_of old) comes
          boots.comes_to boots.records c.close.ensures;
    })

pub returns-in-Err-ready-clause-cause : goal.returns-in-Err-ready-clause-cause
returns-in-Err-ready-clause-cause g c =
    cause_from _ _ _ _ _ _ _ c.in-Ok.ensures.faults refl (c.in-Err-ready.ensures.cause (g.L.Link.fault_count c.opened-opened.new.link))
