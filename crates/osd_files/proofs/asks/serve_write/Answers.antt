use Rattle.std.proofs.Common.{◌≡◌, ◌∙◌, ap, sym, subst, refl, Option, Some, None, Bool, IfNone}
use Rattle.std.specs.Option.{option_map}
use Rattle.xt_base.specs.declared.ids.NodeId.{NodeId}
use Rattle.xt_base.specs.declared.ids.FileId.{FileId}
use Rattle.xt_protocol.specs.declared.turned.Turned.{Turned}
use Rattle.xt_protocol.specs.SeenBodies.{body_by}
use Rattle.xt_protocol.specs.Primaries.{Ground, Led}
use Rattle.xt_protocol.specs.FileStates.{FileStep, stripe_of}
use Rattle.xt_protocol.specs.Serving.{writes}
use Rattle.xt_protocol.specs.Asks.{waits}
use Rattle.xt_protocol.specs.AskRows.{ask_waits}
use Rattle.osd_files.specs.Leads.{LeadView}
use Rattle.osd_files.specs.Asking.{asks_once_done}
use Rattle.osd_files.specs.Views.{shown, with_lead, site_at}
use Rattle.osd_files.proofs.Served.{write_row, write_waits}
use Rattle.osd_files.proofs.asks.serve_write.Goals as goal

pub returns-in-Some-led-clause-row : goal.returns-in-Some-led-clause-row
returns-in-Some-led-clause-row g c =
    λ records agree so sealed.
    let f = c.args.file.now in
    let old = shown f in
    let ask = c.args.ask in
    let site = site_at old.awake c.args.now sealed (body_by records) in
    let new = c.issue.new.self in
    let turned = c.in-Some-led.turned in
    let led_by : Turned → Led = λ turned. record { primary = new.primary; turned = turned } in
    let ground : NodeId → FileId → Ground = λ n x. record { place = record { node = n; file = x; stripe = stripe_of f.lead.location }; own = f.replica.head; held = f.replica.held; body = body_by records x } in
    let led : writes (ground f.awake.node f.replica.file) f.lead.primary ask.id ask.epoch ask.op ≡ Some (record { primary = new.primary; turned = turned }) =
    ap (λ (n : NodeId). writes (ground n f.replica.file) f.lead.primary ask.id ask.epoch ask.op) (sym f.node)
    ∙ ap (λ (x : FileId). writes (ground f.lead.node x) f.lead.primary ask.id ask.epoch ask.op) (sym f.file)
    ∙ sym (c.in_ok-led.ensures.value records agree f.replica.head f.replica.held)
    ∙ ap (λ (o : Option Turned). option_map led_by o) c.in-Some-led.is in
    let asks = c.mark_issued.new.asks in
    let marked = c.mark_issued.ensures ∙ ap (λ (b : Bool). asks_once_done f.asks b ask) c.has_issued.ensures in
    let whole : LeadView → FileStep = λ lead. record { state = record (with_lead old lead).state { asks = asks }; turned = turned } in
    record { here = refl; step = write_row site old.state ask new.primary turned asks so led marked ∙ ap whole (sym c.in_ok-led.ensures.kept) }

pub returns-in_ok-ask_waits-in-None-clause-row : goal.returns-in_ok-ask_waits-in-None-clause-row
returns-in_ok-ask_waits-in-None-clause-row g c =
    λ records agree so sealed.
    let f = c.args.file.now in
    let old = shown f in
    let ask = c.args.ask in
    let site = site_at old.awake c.args.now sealed (body_by records) in
    let new = c.issue.new.self in
    let led_by : Turned → Led = λ turned. record { primary = new.primary; turned = turned } in
    let ground : NodeId → FileId → Ground = λ n x. record { place = record { node = n; file = x; stripe = stripe_of f.lead.location }; own = f.replica.head; held = f.replica.held; body = body_by records x } in
    let led : writes (ground f.awake.node f.replica.file) f.lead.primary ask.id ask.epoch ask.op ≡ None =
    ap (λ (n : NodeId). writes (ground n f.replica.file) f.lead.primary ask.id ask.epoch ask.op) (sym f.node)
    ∙ ap (λ (x : FileId). writes (ground f.lead.node x) f.lead.primary ask.id ask.epoch ask.op) (sym f.file)
    ∙ sym (c.in_ok-led.ensures.value records agree f.replica.head f.replica.held)
    ∙ ap (λ (o : Option Turned). option_map led_by o) c.in-None.is in
    let same : new ≡ f.lead = subst (λ (o : Option Turned). IfNone o (new ≡ f.lead)) c.in-None.is c.in_ok-led.ensures.waits in
    let row = c.in_ok-ask_waits-in-None.ensures.row c.args.now sealed (body_by records) in
    record {
      here = row.here;
      step =
          write_waits site old.state ask (waits f.asks ask) so led refl
          ∙ ap (λ (lead : LeadView). ask_waits (with_lead old lead).state ask) (sym same)
          ∙ row.step;
    }
