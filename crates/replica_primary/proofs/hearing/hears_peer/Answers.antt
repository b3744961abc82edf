use Rattle.std.proofs.Common.{◌∙◌, Bool, List, [], Option, ap, sym}
use Rattle.xt_messages.specs.declared.file.ObjectVersion.{ObjectVersion}
use Rattle.xt_messages.specs.declared.message.Payload.{Payload}
use Rattle.xt_protocol.specs.declared.states.Peer.{Peer}
use Rattle.xt_protocol.specs.declared.states.PeerState.{PeerState}
use Rattle.xt_protocol.specs.Primaries.{peer_in}
use Rattle.xt_protocol.specs.PrimaryRows.{body_staged, goes_on, hears_ack, hears_missing, hears_peer, target_in}
use Rattle.replica_primary.specs.declared.moving.Heard.{Heard}
use Rattle.replica_primary.specs.Moves.{led_by, stages_in}
use Rattle.replica_primary.specs.Shown.{shown_tenure}
use Rattle.replica_primary.specs.Written.{ground}
use Rattle.replica_primary.proofs.Hears.{outpromised_by}
use Rattle.replica_primary.proofs.InOrder.{acked_shown, shown_led}
use Rattle.replica_primary.proofs.Sought.{acked_sound}
use Rattle.replica_primary.proofs.hearing.hears_peer.Goals as goal

pub returns-in-Staged-clause-row : goal.returns-in-Staged-clause-row
returns-in-Staged-clause-row c =
    λ records state is.
    let t = shown_tenure c.args.tenure.now in
    let from = c.args.from in
    let own = c.args.own.now in
    let stands = ground c.args.place.now records own c.args.held.now in
    ap (λ (s : Option PeerState). stages_in stands c.args.learnt t from s c.version_of-version.result) is
    ∙ ap (λ (v : ObjectVersion). body_staged stands c.args.learnt t (target_in own t.epoch t.progress) from state v) c.version_of-version.ensures
    ∙ ap (λ (content : Payload). hears_peer stands c.args.learnt t from state content) (sym c.in-Staged.is)

pub returns-in-Missing-clause-row : goal.returns-in-Missing-clause-row
returns-in-Missing-clause-row c =
    λ records state is.
    let t = shown_tenure c.args.tenure.now in
    let learnt = c.args.learnt in
    let place = c.args.place.now in
    let own = c.args.own.now in
    let held = c.args.held.now in
    let stands = ground place records own held in
    c.hears_missing.ensures place records own held state is
    ∙ ap (λ (v : ObjectVersion). hears_missing stands learnt t t.progress c.args.from state v) c.version_of-version-in-Missing.ensures
    ∙ ap (λ (content : Payload). hears_peer stands learnt t c.args.from state content) (sym c.in-Missing.is)

pub returns-in-Refused-clause-row : goal.returns-in-Refused-clause-row
returns-in-Refused-clause-row c =
    λ records state is.
    let t = shown_tenure c.args.tenure.now in
    let learnt = c.args.learnt in
    let from = c.args.from in
    let stands = ground c.args.place.now records c.args.own.now c.args.held.now in
    ap (λ (h : Heard). led_by stands learnt from t h) c.outpromised.ensures
    ∙ outpromised_by stands learnt t from c.in-Refused.promised
    ∙ ap (λ (content : Payload). hears_peer stands learnt t from state content) (sym c.in-Refused.is)

pub returns-in_ok-turned-in-Ack-clause-row : goal.returns-in_ok-turned-in-Ack-clause-row
returns-in_ok-turned-in-Ack-clause-row c =
    λ records state is.
    let learnt = c.args.learnt in
    let t = shown_tenure c.args.tenure.now in
    let from = c.args.from in
    let told = ap (λ (peers : List Peer). peer_in peers from) c.as_slice.ensures ∙ is in
    let stands = ground c.args.place.now records c.args.own.now c.args.held.now in
    ap shown_led (c.in_ok-turned-in-Ack.ensures.value learnt records c.args.held.now)
    ∙ acked_shown stands learnt t.epoch from c.in-Ack.stamp t.peers c.args.tenure.now.progress c.newly_current-newly.result
    ∙ ap (λ (newly : Bool). hears_ack stands learnt t t.progress from newly c.in-Ack.stamp) (c.newly_current-newly.ensures state told)
    ∙ ap (λ (content : Payload). hears_peer stands learnt t from state content) (sym c.in-Ack.is)

pub returns-in_ok-turned-in-Ack-clause-heard : goal.returns-in_ok-turned-in-Ack-clause-heard
returns-in_ok-turned-in-Ack-clause-heard c =
    λ versions searches sound.
    let t = c.args.tenure.now in
    let learnt = c.args.learnt in
    let stands = ground c.args.place.now [] c.args.own.now c.args.held.now in
    acked_sound versions searches stands learnt t sound t.progress c.args.from c.newly_current-newly.result c.in-Ack.stamp (goes_on learnt c.hears_ack.new.tenure c.in_ok-turned-in-Ack.turned)
    (c.in_ok-turned-in-Ack.ensures.value learnt [] c.args.held.now)
