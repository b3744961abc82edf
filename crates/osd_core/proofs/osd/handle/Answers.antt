use Rattle.std.proofs.Common.{subst, sym, List, Bool}
use Rattle.xt_messages.specs.declared.event.Event.{Event}
use Rattle.xt_messages.specs.declared.file.Capability.{Capability}
use Rattle.xt_messages.specs.declared.record.Record.{Record}
use Rattle.xt_protocol.specs.declared.turned.Turned.{Turned}
use Rattle.xt_protocol.specs.SeenBodies.{body_by}
use Rattle.xt_protocol.specs.OsdSteps.{file_concerned, handle_event, handle_message}
use Rattle.osd_files.specs.Views.{site_at}
use Rattle.osd_files.specs.Whole.{IsSealedBy}
use Rattle.osd_core.specs.Keys.{sealed_by}
use Rattle.osd_core.specs.Slots.{StepsFiles}
use Rattle.osd_core.proofs.Steps.{if_ok}
use Rattle.osd_core.proofs.osd.handle.Goals as goal

pub returns-in_ok-sealed-in-Deliver-clause-step : goal.returns-in_ok-sealed-in-Deliver-clause-step
returns-in_ok-sealed-in-Deliver-clause-step g c =
    let awake = c.args.awake in
    let now = c.args.now in
    let old = c.args.met.now in
    let new = c.take.new.met in
    let msg = c.in-Deliver.msg in
    let passes = sealed_by c.args.key.now in
    let sealed = c.in_ok-sealed-in-Deliver.sealed in
    let agrees = g.B.Bodies.agrees c.take.new.bodies in
    let handles : List Record → Turned → Event → Type 0 = λ records turned e. StepsFiles (λ files. handle_event (site_at awake now passes (body_by records)) awake files e) awake old new turned in
    let P : Turned → Type 0 = λ turned. (records : List Record) → agrees records → (test : Capability → Bool) → IsSealedBy test msg.payload sealed
    → StepsFiles (λ files. handle_message (site_at awake now test (body_by records)) awake files msg (file_concerned msg.payload)) awake old new turned in
    let Q : Turned → Type 0 = λ turned. (records : List Record) → agrees records → handles records turned c.args.ev.now in
    let all : (turned : Turned) → P turned → Q turned = λ turned of records agree.
    subst (handles records turned) (sym c.in-Deliver.is) (of records agree passes c.in_ok-sealed-in-Deliver.ensures)
    in
    if_ok P Q c.take.result all c.take.ensures.step

pub returns-in_ok-wake-in-Wake-clause-step : goal.returns-in_ok-wake-in-Wake-clause-step
returns-in_ok-wake-in-Wake-clause-step g c =
    λ records agree.
    let sealed = sealed_by c.args.key.now in
    let body = body_by records in
    let awake = c.args.awake in
    subst (λ e. StepsFiles (λ files. handle_event (site_at awake c.args.now sealed body) awake files e) awake c.args.met.now c.wake.new.met c.in_ok-wake-in-Wake.field-0) (sym c.in-Wake.is)
    (c.in_ok-wake-in-Wake.ensures.step sealed body)
