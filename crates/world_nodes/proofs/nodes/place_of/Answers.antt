use Rattle.std.proofs.Common.{ap, sym, ◌∙◌, List}
use Rattle.std.proofs.lemmas.List.{take_all}
use Rattle.xt_base.specs.declared.ids.NodeId.{NodeId}
use Rattle.world_host.specs.Hosts.{HostView}
use Rattle.world_nodes.specs.Nodes.{has_host}
use Rattle.world_nodes.proofs.Hosts.{host_here, none_so_far}
use Rattle.world_nodes.proofs.nodes.place_of.Goals as goal

pub returns : goal.returns
returns g c =
    sym (ap (λ (hs : List HostView). has_host hs c.args.id.0) (take_all c.loop-place.place c.args.hosts.now c.loop-place-test.false)) ∙ c.loop-place.invariant

pub returns-then-id : goal.returns-then-id
returns-then-id g c =
    host_here c.args.hosts.now c.loop-place.place c.args.id c.index-hosts-place.result c.loop-place-test.true
    (sym (ap (λ (h : HostView). h.id.0) c.index-hosts-place.is) ∙ sym (ap (λ (i : NodeId). i.0) c.id.ensures) ∙ c.if-id.true)

pub loop-place-preserved : goal.loop-place-preserved
loop-place-preserved g c =
    none_so_far c.args.hosts.now c.loop-place.place c.args.id.0 c.index-hosts-place.result c.loop-place-test.true c.loop-place.invariant
    (λ same. c.if-id.false (ap (λ (i : NodeId). i.0) c.id.ensures ∙ ap (λ (h : HostView). h.id.0) c.index-hosts-place.is ∙ same))
