use Rattle.std.proofs.Common.{◌≡◌, sym, subst, Some, Option, List, IfOk}
use Rattle.xt_messages.specs.declared.file.FileHead.{FileHead}
use Rattle.xt_messages.specs.declared.file.ObjectVersion.{ObjectVersion}
use Rattle.xt_messages.specs.declared.record.Record.{Record}
use Rattle.xt_protocol.specs.declared.states.Place.{Place}
use Rattle.xt_protocol.specs.Serving.{reads}
use Rattle.replica_primary.specs.Written.{ground}
use Rattle.osd_files.specs.Leads.{LeadView, StandsAt, place_of, location_in, primary_in}
use Rattle.osd_files.specs.declared.lead.Listed.{Listed}
use Rattle.osd_files.proofs.lead.Lead.read.Goals as goal

pub returns-in-Some-clause-value : goal.returns-in-Some-clause-value
returns-in-Some-clause-value g c =
    let inside = c.self.inside in
    let l = c.in-Some.listed in
    let agrees = g.B.Bodies.agrees c.read.new.bodies in
    let stands : StandsAt inside.node inside.file (Some l) = subst (StandsAt inside.node inside.file) c.in-Some.is c.self.invariant.0 in
    let R : Place → Type 0 = λ p. IfOk c.read.result (λ answer. (records : List Record) → agrees records → (own : FileHead) (held : List ObjectVersion) → answer ≡ reads (ground p records own held) l.primary.state c.args.op.now) in
    let P : LeadView → Type 0 = λ v. IfOk c.read.result (λ answer. (records : List Record) → agrees records → (own : FileHead) (held : List ObjectVersion) → answer ≡ reads (ground (place_of v) records own held) v.primary c.args.op.now) in
    let view : Option Listed → LeadView = λ o. record { node = inside.node; file = inside.file; location = location_in o; primary = primary_in o } in
    subst P c.self.view_is (subst (λ (o : Option Listed). P (view o)) (sym c.in-Some.is) (subst R stands c.read.ensures.value))
