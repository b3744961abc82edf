use Rattle.std.proofs.Common.{◌≡◌, ◌∙◌, ap, sym, rules, None}
use Rattle.xt_base.specs.declared.ids.NodeId.{NodeId}
use Rattle.xt_base.specs.declared.ids.FileId.{FileId}
use Rattle.flease.specs.Moves.{turn_of}
use Rattle.xt_protocol.specs.declared.states.Place.{Place}
use Rattle.xt_protocol.specs.declared.turned.Turned.{Turned}
use Rattle.xt_protocol.specs.LeaseRows.{Held, LeaseState, held, lease_expired}
use Rattle.xt_protocol.specs.Serving.{wakes}
use Rattle.xt_protocol.specs.Turns.{joined}
use Rattle.xt_protocol.specs.FileSteps.{renews, wake_of_file}
use Rattle.xt_protocol.specs.FileStates.{stripe_of}
use Rattle.xt_protocol.specs.Overdue.{expired}
use Rattle.osd_files.specs.Rows.{Gives}
use Rattle.osd_files.specs.Views.{shown}
use Rattle.osd_files.proofs.Rows.{rest_ok}
use Rattle.osd_files.proofs.Wakes.{gives_asleep, gives_awake, held_by}
use Rattle.osd_files.proofs.waking.told_again.Goals as goal

pub returns-in_default : goal.returns-in_default
returns-in_default c =
    let none : turn_of c.expire.new.self c.args.now ≡ None = search rules in
    gives_asleep c.args.now (shown c.args.file.now) c.expire.new.self c.quiet.result
    (c.expire.ensures.state ∙ ap (λ (l : LeaseState). lease_expired l c.args.now) c.same-lease.ensures) none c.quiet.ensures

pub returns : goal.returns
returns c =
    let f = c.args.file.now in
    let now = c.args.now in
    let v = shown f in
    let l = c.expire.new.self in
    let by = held_by l now c.in-Some.turn (sym c.in-Some.ensures) in
    let h = by.0 in
    let woke = c.in_ok-woke.woke in
    let place : NodeId → FileId → Place = λ node file. record { node = node; file = file; stripe = stripe_of f.lead.location } in
    let sent : woke ≡ wakes (place f.awake.node f.replica.file) f.lead.primary =
    c.in_ok-woke.ensures
    ∙ ap (λ (n : NodeId). wakes (place n f.lead.file) f.lead.primary) f.node
    ∙ ap (λ (x : FileId). wakes (place f.awake.node x) f.lead.primary) f.file in
    let P : Turned → Type 0 = λ next. (h : Held) → l ≡ held h → Gives (λ site s. renews site s h) now v next in
    let Q : Turned → Type 0 = λ turned. Gives (λ site s. wake_of_file site (expired site s).state) now v turned in
    let all : (next turned : Turned) → P next → turned ≡ joined woke next → Q turned = λ next turned given made.
    gives_awake now v l h woke next turned (c.expire.ensures.state ∙ ap (λ (x : LeaseState). lease_expired x now) c.same-lease.ensures) by.1 sent (given h by.1) made
    in
    rest_ok P Q woke c.told_renewal-renewed.result c.join_next.result all c.join_next.ensures c.told_renewal-renewed.ensures
