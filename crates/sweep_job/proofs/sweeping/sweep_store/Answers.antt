use Rattle.std.proofs.Common.{◌∙◌, List, Option, ℕ, ap, refl, subst}
use Rattle.xt_base.specs.declared.ids.FileId.{FileId}
use Rattle.object_store.specs.Access.{records_of}
use Rattle.store_loading.proofs.Disks.{medium_of}
use Rattle.sweep_job.specs.Sweeping.{LoadsOrNot, goes_on, timeless, unlisted, unserved}
use Rattle.sweep_job.proofs.Found.{is_server, read_once}
use Rattle.sweep_job.proofs.sweeping.sweep_store.Goals as goal

pub returns-in_default-clause-does : goal.returns-in_default-clause-does
returns-in_default-clause-does g c =
    timeless
    (ap (λ (r : Option (List ℕ)). record { readings = r; held = g.K.Sink.held c.args.out.now; disk = c.args.disk }) c.in_default.ensures.kept)
    c.faults.result refl

pub returns-in-Err-clause-does : goal.returns-in-Err-clause-does
returns-in-Err-clause-does g c =
    let clock = g.C.Clock.readings in
    unserved c.in-Ok.now (read_once (clock c.args.clock.now) (clock c.now.new.self) c.in-Ok.now c.in-Ok.ensures.reads c.in-Ok.ensures.untold) refl c.in-Err.ensures.ends

pub returns-in_default-files_in-clause-does : goal.returns-in_default-files_in-clause-does
returns-in_default-files_in-clause-does g c =
    let clock = g.C.Clock.readings in
    let server = c.in-Ok-store_at.server in
    unlisted c.in-Ok.now (read_once (clock c.args.clock.now) (clock c.now.new.self) c.in-Ok.now c.in-Ok.ensures.reads c.in-Ok.ensures.untold) refl (records_of server)
    (is_server c.args.disk _ server c.in-Ok-store_at.ensures.loads c.close.result c.close.ensures) refl

pub returns-clause-does : goal.returns-clause-does
returns-clause-does g c =
    let clock = g.C.Clock.readings in
    let server = c.in-Ok-store_at.server in
    goes_on c.in-Ok.now (read_once (clock c.args.clock.now) (clock c.now.new.self) c.in-Ok.now c.in-Ok.ensures.reads c.in-Ok.ensures.untold) (records_of server) c.close-disk.result
    (is_server c.args.disk _ server c.in-Ok-store_at.ensures.loads c.close-disk.result c.close-disk.ensures)
    (subst (λ (files : List (FileId × Option ℕ)). LoadsOrNot (medium_of g.D.Disk) c.args.limit c.args.times files c.in-Ok.now c.close-disk.result c.sweep_osd.result.1
    (g.K.Sink.held c.args.out.now) (g.K.Sink.held c.sweep_osd.new.out) c.sweep_osd.result.0)
    (c.as_slice.ensures.value ∙ c.in-Ok-files_in.ensures) c.sweep_osd.ensures.does)
