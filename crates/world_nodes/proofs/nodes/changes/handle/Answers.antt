use Rattle.std.proofs.Common.{◌≡◌, List, refl, ap, ◌∙◌, subst}
use Rattle.std.specs.Prelude.{Option}
use Rattle.xt_base.specs.declared.ids.NodeId.{NodeId}
use Rattle.xt_messages.specs.declared.record.Record.{Record}
use Rattle.xt_protocol.specs.declared.turned.Turned.{Turned}
use Rattle.world_host.specs.Turns.{Handles}
use Rattle.world_nodes.proofs.Changes.{map_if}
use Rattle.world_nodes.proofs.nodes.changes.handle.Goals as goal

-- what agrees with the bodies that were read is what the hull keeps for the node
pub returns-clause-handled : goal.returns-clause-handled
returns-clause-handled g c =
    let kept : List Record = g.H.Hull.kept c.handle.new.bodies.hull.now c.handle.new.bodies.node.0 in
    let same = c.handle.ensures.later kept refl ∙ ap (λ (id : NodeId). g.H.Hull.kept c.args.hull.now id.0) c.id-node.ensures in
    map_if
    (λ (turned : Option Turned). (records : List Record) → records ≡ kept → Handles records c.args.ev.now c.args.host.now c.handle.new.self turned)
    (λ (turned : Option Turned). Handles (g.H.Hull.kept c.args.hull.now c.args.host.now.id.0) c.args.ev.now c.args.host.now c.handle.new.self turned)
    c.handle.result
    (λ turned is. subst (λ (records : List Record). Handles records c.args.ev.now c.args.host.now c.handle.new.self turned) same (is kept refl))
    c.handle.ensures.handled
