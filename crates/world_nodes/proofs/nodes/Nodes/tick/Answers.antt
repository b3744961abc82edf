use Rattle.std.proofs.Common.{List, ◌++◌, take, drop, length, map, ap, sym, ◌∙◌, subst}
use Rattle.std.specs.List.{AllByRecursion}
use Rattle.std.proofs.lemmas.List.{length-map}
use Rattle.world_host.specs.Hosts.{HostView, host_ticked, stored_in}
use Rattle.world_clocks.specs.Hosts.{MayTick}
use Rattle.world_nodes.proofs.Ticks.{may_tick, ticked_hosts, all_new}
use Rattle.world_nodes.proofs.nodes.Nodes.tick.Goals as goal

pub tick-requires : goal.tick-requires
tick-requires g c =
    subst (λ (hs : List HostView). AllByRecursion (MayTick c.args.count) hs) (sym c.deref_mut.ensures.value)
    (may_tick (stored_in g.H.Hull.kept g.H.Hull.past c.self.inside.hull) c.self.inside.times c.self.inside.hosts.items c.args.self.now c.args.count c.self.view_is c.requires)

pub invariant_of-self : goal.invariant_of-self
invariant_of-self g c =
    (ticked_hosts (stored_in g.H.Hull.kept g.H.Hull.past c.self.inside.hull) c.self.inside.times c.self.inside.hosts.items
    (take c.self.inside.hosts.len (c.tick.new.hosts ++ drop (length c.tick.new.hosts) c.self.inside.hosts.items)) c.args.self.now c.args.count c.self.invariant
    c.self.view_is
    (all_new c.tick.new.hosts c.self.inside.hosts.items c.self.inside.hosts.len
    (ap length c.tick.ensures ∙ length-map c.deref_mut.result.now (host_ticked c.args.count) ∙ c.deref_mut.ensures.len)
    ∙ c.tick.ensures ∙ ap (map (host_ticked c.args.count)) c.deref_mut.ensures.value)).0

pub returns : goal.returns
returns g c =
    (ticked_hosts (stored_in g.H.Hull.kept g.H.Hull.past c.self.inside.hull) c.self.inside.times c.self.inside.hosts.items
    (take c.self.inside.hosts.len (c.tick.new.hosts ++ drop (length c.tick.new.hosts) c.self.inside.hosts.items)) c.args.self.now c.args.count c.self.invariant
    c.self.view_is
    (all_new c.tick.new.hosts c.self.inside.hosts.items c.self.inside.hosts.len
    (ap length c.tick.ensures ∙ length-map c.deref_mut.result.now (host_ticked c.args.count) ∙ c.deref_mut.ensures.len)
    ∙ c.tick.ensures ∙ ap (map (host_ticked c.args.count)) c.deref_mut.ensures.value)).1
