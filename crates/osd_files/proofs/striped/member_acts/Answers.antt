use Rattle.std.proofs.Common.{◌∙◌, ap, sym, subst, refl, Bool}
use Rattle.std.specs.Prelude.{[], Option, IfSome}
use Rattle.xt_base.specs.declared.ids.FileId.{FileId}
use Rattle.xt_messages.specs.declared.file.Capability.{Capability}
use Rattle.xt_messages.specs.declared.file.Location.{Location}
use Rattle.xt_protocol.specs.declared.states.Acted.{Acted}
use Rattle.xt_protocol.specs.declared.states.PlainActed.{PlainActed}
use Rattle.xt_protocol.specs.PlainRows.{PlainFile, plain_step}
use Rattle.xt_protocol.specs.SeenBodies.{body_by}
use Rattle.xt_protocol.specs.StripedRows.{striped_refusal, to_client}
use Rattle.replica_state.specs.Kept.{IsNotable}
use Rattle.osd_files.specs.Views.{shown, site_at}
use Rattle.osd_files.proofs.Members.{let_in_row, notable, refused_row, stays_inside}
use Rattle.osd_files.proofs.striped.member_acts.Goals as goal

pub step-requires-clause-inside : goal.step-requires-clause-inside
step-requires-clause-inside g c =
    let site = site_at c.args.file.now.awake c.args.now (λ (capability : Capability). c.args.sealed) (body_by []) in
    stays_inside site c.location-stored.result c.args.capability.now c.args.op.now (sym (c.striped_refusal_of.ensures site refl refl) ∙ c.in-None.is)

pub returns-in-Some-clause-row : goal.returns-in-Some-clause-row
returns-in-Some-clause-row g c =
    λ records agree test is.
    let f = c.args.file.now in
    let row = (shown f).state.kept in
    let id = c.args.id in
    let capability = c.args.capability.now in
    let asked = c.args.op.now in
    let site = site_at f.awake c.args.now test (body_by records) in
    c.to_client.ensures ∙ ap (λ (file : FileId). to_client file id c.refused.result) c.file-own.ensures
    ∙ ap (λ (acted : PlainActed). to_client f.replica.file id acted) c.refused.ensures
    ∙ refused_row site row id capability asked c.in-Some.reply
    (ap (λ (stored : Option Location). striped_refusal site stored capability asked) (sym c.location-stored.ensures) ∙ sym (c.striped_refusal_of.ensures site refl is) ∙ c.in-Some.is)

pub returns-in_ok-acted-in-None-clause-row : goal.returns-in_ok-acted-in-None-clause-row
returns-in_ok-acted-in-None-clause-row g c =
    λ records agree test is.
    let f = c.args.file.now in
    let row = (shown f).state.kept in
    let id = c.args.id in
    let capability = c.args.capability.now in
    let asked = c.args.op.now in
    let body = body_by records in
    let site = site_at f.awake c.args.now test body in
    let by : PlainFile → PlainActed = λ m. plain_step m (body m.file) id capability.epoch capability.location asked in
    c.to_client-in-None.ensures ∙ ap (λ (file : FileId). to_client file id c.in_ok-acted-in-None.acted) c.file-own.ensures
    ∙ ap (λ (acted : PlainActed). to_client f.replica.file id acted) (c.in_ok-acted-in-None.ensures.row records agree ∙ ap by c.member.ensures.value)
    ∙ let_in_row site row id capability asked
    (ap (λ (stored : Option Location). striped_refusal site stored capability asked) (sym c.location-stored.ensures) ∙ sym (c.striped_refusal_of.ensures site refl is) ∙ c.in-None.is)

pub returns-in_ok-acted-in-None-clause-notable : goal.returns-in_ok-acted-in-None-clause-notable
returns-in_ok-acted-in-None-clause-notable g c =
    let f = c.args.file.now in
    let test : Capability → Bool = λ capability. c.args.sealed in
    let one = g.B.Bodies.some c.step.new.bodies in
    let site = site_at f.awake c.args.now test (body_by one.0) in
    subst (λ (acted : Acted). IfSome acted.rec (IsNotable f.replica)) (sym (returns-in_ok-acted-in-None-clause-row g c one.0 one.1 test refl))
    (notable site f.replica (shown f).state.kept c.args.id c.args.capability.now c.args.op.now refl c.member.ensures.fits c.requires.who c.requires.seal c.requires.fits)
