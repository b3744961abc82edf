use Rattle.std.proofs.Common.{◌≡◌, ◌∙◌, ap, sym, subst, Option, Bool, List, IfNone}
use Rattle.std.specs.Option.{option_map}
use Rattle.xt_base.specs.declared.ids.NodeId.{NodeId}
use Rattle.xt_base.specs.declared.ids.FileId.{FileId}
use Rattle.xt_messages.specs.declared.file.FileHead.{FileHead}
use Rattle.xt_messages.specs.declared.file.ObjectVersion.{ObjectVersion}
use Rattle.xt_protocol.specs.declared.turned.Turned.{Turned}
use Rattle.xt_protocol.specs.Primaries.{Ground, Led}
use Rattle.xt_protocol.specs.FileStates.{stripe_of}
use Rattle.xt_protocol.specs.Serving.{writes}
use Rattle.xt_protocol.specs.Turns.{joined, quiet}
use Rattle.xt_protocol.specs.Asks.{Served}
use Rattle.replica_primary.specs.Written.{ground}
use Rattle.osd_files.specs.Leads.{LeadView}
use Rattle.osd_files.specs.Asking.{asks_once_done}
use Rattle.osd_files.specs.Serves.{ground_at, served_in}
use Rattle.osd_files.specs.Views.{FileView, shown, with_lead}
use Rattle.osd_files.proofs.Waiting.{write_led, write_stays}
use Rattle.osd_files.proofs.serving.serve_waiting_write.Goals as goal

pub returns-in-Some-led-clause-served : goal.returns-in-Some-led-clause-served
returns-in-Some-led-clause-served g c =
    λ records agree unread none.
    let f = c.args.file.now in
    let old = shown f in
    let ask = c.args.ask in
    let new = c.issue.new.self in
    let turned = c.in-Some-led.turned in
    let led_by : Turned → Led = λ turned. record { primary = new.primary; turned = turned } in
    let asks = c.mark_issued.new.asks in
    let whole : LeadView → FileView = λ lead. record { awake = old.awake; state = record (with_lead old lead).state { asks = asks } } in
    let at : NodeId → FileId → FileHead → List ObjectVersion → Ground = λ n x own held. ground (record { node = n; file = x; stripe = stripe_of f.lead.location }) records own held in
    record {
      rest = ap whole c.in_ok-led.ensures.kept;
      step = λ before own held.
          write_led (ground_at old records own held) (served_in old before) ask new.primary turned asks unread none
          (ap (λ (n : NodeId). writes (at n f.replica.file own held) f.lead.primary ask.id ask.epoch ask.op) (sym f.node)
          ∙ ap (λ (x : FileId). writes (at f.lead.node x own held) f.lead.primary ask.id ask.epoch ask.op) (sym f.file)
          ∙ sym (c.in_ok-led.ensures.value records agree own held)
          ∙ ap (λ (o : Option Turned). option_map led_by o) c.in-Some-led.is)
          (c.mark_issued.ensures ∙ ap (λ (b : Bool). asks_once_done f.asks b ask) c.has_issued.ensures);
    }

pub returns-in_ok-stay-in-None-clause-served : goal.returns-in_ok-stay-in-None-clause-served
returns-in_ok-stay-in-None-clause-served g c =
    λ records agree unread none.
    let f = c.args.file.now in
    let old = shown f in
    let ask = c.args.ask in
    let new = c.issue.new.self in
    let led_by : Turned → Led = λ turned. record { primary = new.primary; turned = turned } in
    let asks = c.stay.new.self in
    let whole : LeadView → FileView = λ lead. record { awake = old.awake; state = record (with_lead old lead).state { asks = asks } } in
    let at : NodeId → FileId → FileHead → List ObjectVersion → Ground = λ n x own held. ground (record { node = n; file = x; stripe = stripe_of f.lead.location }) records own held in
    let same : new ≡ f.lead = subst (λ (o : Option Turned). IfNone o (new ≡ f.lead)) c.in-None.is c.in_ok-led.ensures.waits in
    record {
      rest = ap whole c.in_ok-led.ensures.kept;
      step = λ before own held.
          let by : LeadView → Turned → Served = λ lead t. served_in (whole lead) (joined before t) in
          ap (by new) c.quiet.ensures
          ∙ ap (λ (lead : LeadView). by lead quiet) same
          ∙ write_stays (ground_at old records own held) (served_in old before) ask asks unread none
          (ap (λ (n : NodeId). writes (at n f.replica.file own held) f.lead.primary ask.id ask.epoch ask.op) (sym f.node)
          ∙ ap (λ (x : FileId). writes (at f.lead.node x own held) f.lead.primary ask.id ask.epoch ask.op) (sym f.file)
          ∙ sym (c.in_ok-led.ensures.value records agree own held)
          ∙ ap (λ (o : Option Turned). option_map led_by o) c.in-None.is)
          c.in_ok-stay-in-None.ensures.ok;
    }
