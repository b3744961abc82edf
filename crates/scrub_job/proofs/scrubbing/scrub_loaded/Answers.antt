use Rattle.std.proofs.Common.{◌≡◌, ◌∙◌, List, subst, sym}
use Rattle.xt_messages.specs.declared.record.Record.{Record}
use Rattle.object_store.specs.Access.{records_of}
use Rattle.scrub.specs.declared.found.Found.{Found}
use Rattle.node_links.specs.Streams.{Puts}
use Rattle.store_loading.specs.Sinks.{Reports}
use Rattle.scrub_job.specs.Counts.{counts_text, status_of}
use Rattle.scrub_job.specs.Sealing.{AreSealed, CannotSeal}
use Rattle.scrub_job.proofs.Seals.{can_put}
use Rattle.scrub_job.proofs.Whole.{scrubs_sealed, scrubs_unread, scrubs_unsealed}
use Rattle.scrub_job.proofs.scrubbing.scrub_loaded.Goals as goal

pub returns-in-Err : goal.returns-in-Err
returns-in-Err g c =
    scrubs_unread c.args.store (g.K.Sink.held c.args.out.now) (g.K.Sink.fault_count c.args.out.now) c.unread.result.1 c.unread.result.0 c.unread.ensures.why
    c.unread.ensures.cause c.unread.ensures.keeps

pub sealed-requires-clause-seals : goal.sealed-requires-clause-seals
sealed-requires-clause-seals g c =
    let can = can_put g.D.Disk.is_told (records_of c.args.store) c.in-Ok.found c.requires c.in-Ok.ensures c.as_slice.result.now c.as_slice.ensures.value in
    can.0

pub sealed-requires-clause-fit : goal.sealed-requires-clause-fit
sealed-requires-clause-fit g c =
    let can = can_put g.D.Disk.is_told (records_of c.args.store) c.in-Ok.found c.requires c.in-Ok.ensures c.as_slice.result.now c.as_slice.ensures.value in
    can.1

pub returns-in-Ok-sealed : goal.returns-in-Ok-sealed
returns-in-Ok-sealed g c =
    let held = g.K.Sink.held c.args.out.now in
    let later = g.K.Sink.held c.tell.new.out in
    scrubs_sealed c.args.store held (g.K.Sink.fault_count c.args.out.now) c.scrubs_say_nothing.ensures c.requires c.in-Ok.found c.in-Ok.ensures c.in-Ok-sealed.store
    c.close.result later (g.K.Sink.fault_count c.tell.new.out) c.tell.result
    (subst (λ (seals : List Record). AreSealed c.args.store seals c.in-Ok-sealed.store) c.as_slice.ensures.value c.in-Ok-sealed.ensures.all) c.close.ensures
    (subst (λ (report : List Found). Reports (counts_text report) (status_of report) held later c.tell.result) c.as_slice-in-Ok-sealed.ensures.value c.tell.ensures.reports)
    c.tell.ensures.cause

pub returns : goal.returns
returns g c =
    let ended = c.in-Err-sealed.field-0 in
    scrubs_unsealed c.args.store (g.K.Sink.held c.args.out.now) (g.K.Sink.fault_count c.args.out.now) c.scrubs_say_nothing.ensures c.requires c.in-Ok.found c.in-Ok.ensures
    ended.disk ended.status
    (subst (λ (seals : List Record). CannotSeal c.args.store seals ended.disk ended.status) c.as_slice.ensures.value c.in-Err-sealed.ensures.ends)
