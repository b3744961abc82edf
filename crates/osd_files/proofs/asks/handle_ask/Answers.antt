use Rattle.std.proofs.Common.{◌≡◌, ◌∙◌, ap, sym, refl, List, None, Some, Option, Bool}
use Rattle.xt_base.specs.declared.ids.NodeId.{NodeId}
use Rattle.xt_base.specs.declared.ids.FileId.{FileId}
use Rattle.xt_messages.specs.declared.file.Location.{Location}
use Rattle.xt_messages.specs.declared.file.Capability.{Capability}
use Rattle.xt_messages.specs.declared.record.Record.{Record}
use Rattle.xt_protocol.specs.declared.turned.Turned.{Turned}
use Rattle.xt_protocol.specs.SeenBodies.{body_by}
use Rattle.xt_protocol.specs.Turns.{tells}
use Rattle.xt_protocol.specs.AskRows.{handle_ask, ask_let_in, refusal_of}
use Rattle.xt_protocol.specs.FileStates.{FileStep}
use Rattle.osd_files.specs.Rows.{IsRowBy, IsStep}
use Rattle.osd_files.specs.Views.{shown, site_at}
use Rattle.osd_files.proofs.LetIn.{handled}
use Rattle.osd_files.proofs.Rows.{if_ok}
use Rattle.osd_files.proofs.asks.handle_ask.Goals as goal

pub returns-in_ok-tells-in-Some-clause-row : goal.returns-in_ok-tells-in-Some-clause-row
returns-in_ok-tells-in-Some-clause-row g c =
    λ records agree test is.
    let f = c.args.file.now in
    let old = shown f in
    let capability = c.args.capability.now in
    let site = site_at old.awake c.args.now test (body_by records) in
    let reply = c.in-Some.reply in
    let told : Some reply ≡ refusal_of site f.lead.location capability c.args.op.now =
    c.in-Some.ensures site (sym c.node-node.ensures) refl is ∙ ap (λ (l : Option Location). refusal_of site l capability c.args.op.now) c.location-stored.ensures in
    let sent : c.in_ok-tells-in-Some.field-0 ≡ tells f.awake.node f.replica.file c.args.id reply =
    c.in_ok-tells-in-Some.ensures
    ∙ ap (λ (n : NodeId). tells n c.file-own.result c.args.id reply) c.node-node.ensures
    ∙ ap (λ (x : FileId). tells f.awake.node x c.args.id reply) c.file-own.ensures in
    record {
      here = refl;
      step =
          handled site old.state c.args.id capability c.args.op.now (Some reply) told
          ∙ ap (λ (t : Turned). let made : FileStep = record { state = old.state; turned = t } in made) (sym sent);
    }

pub returns-in-None-clause-row : goal.returns-in-None-clause-row
returns-in-None-clause-row g c =
    let f = c.args.file.now in
    let old = shown f in
    let new = shown c.let_in.new.file in
    let now = c.args.now in
    let id = c.args.id in
    let asked = c.args.op.now in
    let capability = c.args.capability.now in
    let agrees = g.B.Bodies.agrees c.let_in.new.bodies in
    let P : Turned → Type 0 = λ turned. (records : List Record) → agrees records → IsRowBy (λ site s. ask_let_in site s id capability asked None) now (body_by records) old new turned in
    let Q : Turned → Type 0 = λ turned. (records : List Record) → agrees records → (test : Capability → Bool) → test capability ≡ c.args.sealed
    → IsStep (λ site s. handle_ask site s id capability asked) (site_at old.awake now test (body_by records)) old new turned in
    let all : (turned : Turned) → P turned → Q turned = λ turned of records agree test is.
    let row = of records agree test in
    let site = site_at old.awake now test (body_by records) in
    let told : None ≡ refusal_of site f.lead.location capability asked =
    c.in-None.ensures site (sym c.node-node.ensures) refl is ∙ ap (λ (l : Option Location). refusal_of site l capability asked) c.location-stored.ensures in
    record { here = row.here; step = handled site old.state id capability asked None told ∙ row.step }
    in
    if_ok P Q c.let_in.result all c.let_in.ensures.row
