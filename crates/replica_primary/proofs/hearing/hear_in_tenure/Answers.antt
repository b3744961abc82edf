use Rattle.std.proofs.Common.{◌∙◌, ap, sym}
use Rattle.xt_messages.specs.declared.file.ObjectVersion.{ObjectVersion}
use Rattle.xt_messages.specs.declared.message.Payload.{Payload}
use Rattle.xt_protocol.specs.PrimaryRows.{hears_object, hears_peer}
use Rattle.replica_primary.specs.Shown.{shown_tenure}
use Rattle.replica_primary.specs.Written.{ground}
use Rattle.replica_primary.proofs.Given.{if_so}
use Rattle.replica_primary.proofs.InOrder.{shown_led}
use Rattle.replica_primary.proofs.hearing.hear_in_tenure.Goals as goal

pub returns-in-Status : goal.returns-in-Status
returns-in-Status c =
    if_so _ _ c.hears_status.result c.hears_status.ensures
    (λ next of learnt records state is.
    let own = c.args.own.now in
    let held = c.args.held.now in
    let stands = ground c.args.place.now records own held in
    of learnt records own state is ∙ ap (λ (content : Payload). hears_peer stands learnt (shown_tenure c.args.tenure.now) c.args.from state content) (sym c.in-Status.is))

pub returns-in-Object : goal.returns-in-Object
returns-in-Object c =
    if_so _ _ c.hears_object.result c.hears_object.ensures
    (λ next of learnt records state is.
    let t = shown_tenure c.args.tenure.now in
    let from = c.args.from in
    let own = c.args.own.now in
    let stands = ground c.args.place.now records own c.args.held.now in
    of learnt records own
    ∙ ap (λ (v : ObjectVersion). hears_object stands learnt t t.progress from v.object v.version c.in-Object.bytes) c.version_of-version.ensures
    ∙ ap (λ (content : Payload). hears_peer stands learnt t from state content) (sym c.in-Object.is))

pub returns-in_ok-turned-in-Behind : goal.returns-in_ok-turned-in-Behind
returns-in_ok-turned-in-Behind c =
    λ learnt records state is.
    let t = shown_tenure c.args.tenure.now in
    let from = c.args.from in
    let own = c.args.own.now in
    let held = c.args.held.now in
    let stands = ground c.args.place.now records own held in
    ap shown_led (c.in_ok-turned-in-Behind.ensures learnt records own held state is)
    ∙ ap (λ (content : Payload). hears_peer stands learnt t from state content) (sym c.in-Behind.is)
