use Rattle.std.proofs.Common.{◌≡◌, ◌∙◌, ap, sym, subst, refl, None, Option, true}
use Rattle.std.specs.Prelude.{is_some}
use Rattle.xt_messages.specs.Limits.{FitsOp}
use Rattle.xt_base.specs.declared.ids.FileId.{FileId}
use Rattle.xt_messages.specs.declared.file.Location.{Location}
use Rattle.xt_messages.specs.declared.file.Op.{Op}
use Rattle.xt_messages.specs.declared.record.Record.{Record}
use Rattle.xt_protocol.specs.SeenBodies.{body_by}
use Rattle.xt_protocol.specs.Turns.{keeps}
use Rattle.xt_protocol.specs.AskRows.{ask_rows, ask_let_in, waiting_ask}
use Rattle.xt_protocol.specs.FileStates.{FileState, Site, FileStep}
use Rattle.osd_files.specs.Asking.{first_list, list_after}
use Rattle.osd_files.specs.Leads.{LeadView}
use Rattle.osd_files.specs.Views.{shown, with_lead, site_at}
use Rattle.osd_files.proofs.LetIn.{let_again, let_row}
use Rattle.osd_files.proofs.Rows.{joins_by, behind_it, reads_as, rows_by}
use Rattle.osd_files.proofs.asks.let_in.Goals as goal

pub ask_counts-rest-requires-clause-fits : goal.ask_counts-rest-requires-clause-fits
ask_counts-rest-requires-clause-fits g c = subst FitsOp (sym (c.waiting_ask-ask.ensures.op ∙ c.in_ok-asked.ensures)) c.requires.fits

pub returns-clause-row : goal.returns-clause-row
returns-clause-row g c =
    let f = c.args.file.now in
    let old = shown f in
    let now = c.args.now in
    let capability = c.args.capability.now in
    let agrees = g.B.Bodies.agrees c.ask_counts-rest.new.bodies in
    let ask = c.waiting_ask-ask.result in
    let kept = c.in_ok-kept.kept in
    let list = list_after f.lead.location capability.location in
    let is : kept ≡ keeps (first_list f.replica.file capability.location f.lead.location) =
    c.in_ok-kept.ensures
    ∙ ap (λ (r : Option Record). keeps r) c.list_once.ensures.rec
    ∙ ap (λ (x : FileId). keeps (first_list x capability.location f.lead.location)) f.file in
    let after : LeadView → FileState = λ lead. (with_lead old lead).state in
    let row : Site → FileState → FileStep = λ site s. ask_rows site (record s { used = site.now }) ask in
    let whole : Site → FileState → FileStep = λ site s. ask_let_in site s c.args.id capability c.args.op.now None in
    joins_by agrees row whole now old.awake old.state (after c.list_once.new.self) (shown c.ask_counts-rest.new.file) kept c.ask_counts-rest.result c.join_rest.result
    (λ records sealed.
    let site = site_at old.awake now sealed (body_by records) in
    let_row site old.state c.args.id capability c.args.op.now kept list ask is refl
    (c.waiting_ask-ask.ensures.row site refl (sym c.times.ensures) ∙ ap (λ (o : Op). waiting_ask site c.args.id capability.epoch o) c.in_ok-asked.ensures)
    ∙ ap (λ (lead : LeadView). behind_it kept (row site (after lead))) (sym c.list_once.ensures.state))
    c.ask_counts-rest.ensures.row c.join_rest.ensures.joined

pub returns-clause-reads : goal.returns-clause-reads
returns-clause-reads g c = reads_as (g.B.Bodies.agrees) (g.B.Bodies.fault_count) _ _ _ _ c.join_rest.ensures.failed c.ask_counts-rest.ensures.reads

pub returns-then-is_some-clause-row : goal.returns-then-is_some-clause-row
returns-then-is_some-clause-row g c =
    let f = c.args.file.now in
    let old = shown f in
    let now = c.args.now in
    let id = c.args.id in
    let capability = c.args.capability.now in
    let asked = c.args.op.now in
    let ask = c.waiting_ask-ask.result in
    let is_stored : is_some f.lead.location ≡ true = ap (λ (o : Option Location). is_some o) (sym c.location.ensures) ∙ sym c.is_some.ensures ∙ c.if-is_some.true in
    rows_by (g.B.Bodies.agrees c.ask_counts.new.bodies) (λ site s. ask_rows site (record s { used = site.now }) ask) (λ site s. ask_let_in site s id capability asked None) now old.awake old.state old.state
    (shown c.ask_counts.new.file) c.ask_counts.result
    (λ records sealed.
    let site = site_at old.awake now sealed (body_by records) in
    let_again site old.state id capability asked ask is_stored
    (c.waiting_ask-ask.ensures.row site refl (sym c.times.ensures) ∙ ap (λ (o : Op). waiting_ask site id capability.epoch o) c.in_ok-asked.ensures))
    c.ask_counts.ensures.row
