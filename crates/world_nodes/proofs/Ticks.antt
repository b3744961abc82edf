-- the clocks of all nodes
use Rattle.std.proofs.Common.{◌≡◌, ℕ, ◌+◌, ◌<◌, Bool, true, false, cond, Option, Some, None, List, [], ◌∷◌, ◌++◌, map, length, take, drop, refl, ap, sym, ◌∙◌, subst, arith}
use Rattle.std.specs.Prelude.{nat_le, nat_lt, ◌==◌}
use Rattle.std.specs.Option.{IfSome}
use Rattle.std.specs.List.{AllByRecursion}
use Rattle.std.proofs.lemmas.Bool.Decides.{nat_tests}
use Rattle.std.proofs.lemmas.List.{take_at}
use Rattle.xt_base.specs.TimeSettings.{TimeSettings}
use Rattle.xt_base.specs.declared.ids.NodeId.{NodeId}
use Rattle.xt_base.specs.declared.TheConstants.{COUNTS}
use Rattle.world_spec.specs.World.{Node, Running}
use Rattle.world_spec.specs.Rules.{Reading, lesser, reading_where, least_where, end_named, clock_ends}
use Rattle.world_spec.specs.Lines.{ticked}
use Rattle.world_host.specs.Hosts.{HostView, Stored, node_of, host_ticked}
use Rattle.world_clocks.specs.Hosts.{nodes_of, MayTick}
use Rattle.world_nodes.specs.Nodes.{NodesView, has_host, AreDistinct, AreHosts}

no_reading : (found : Option Reading) → end_named found ≡ None → found ≡ None
no_reading None is = refl
no_reading (Some r) is = absurd (cc)

both_none : (a b : Option Reading) → lesser a b ≡ None → (a ≡ None) × (b ≡ None)
both_none None b is = (refl, is)
both_none (Some a) None is = absurd (cc)
both_none (Some a) (Some b) is = absurd (at (nat_lt b.node.0 a.node.0) is)
  where
    at : (less : Bool) → cond less (Some b) (Some a) ≡ None → ⊥
    at true e = cc
    at false e = cc

may_each : (stored : ℕ → Stored) (hosts : List HostView) (count : ℕ) → least_where (λ (id : NodeId) (clock : ℕ). nat_le COUNTS (clock + count)) (nodes_of stored hosts) ≡ None
    → AllByRecursion (MayTick count) hosts
unfolding least_where
may_each stored [] count is = tt
may_each stored (h ∷ hs) count is =
    let parts = both_none (reading_where (λ (id : NodeId) (clock : ℕ). nat_le COUNTS (clock + count)) h.id h.up) _ is in
    (at h.up parts.0, may_each stored hs count parts.1)
  where
    below : (a b : ℕ) → nat_le a b ≡ false → b < a
    below a b e = grind (arith, nat_tests)

    clear : (b : Bool) (r : Reading) → cond b (Some r) None ≡ None → b ≡ false
    clear true r e = absurd (cc)
    clear false r e = refl

    at : (up : Option Running) → reading_where (λ (id : NodeId) (clock : ℕ). nat_le COUNTS (clock + count)) h.id up ≡ None → IfSome up (λ (r : Running). r.clock + count < COUNTS)
    at None e = tt
    at (Some r) e = below COUNTS (r.clock + count) (clear _ _ e)

-- no clock would reach the end
pub may_tick : (stored : ℕ → Stored) (times : TimeSettings) (hosts : List HostView) (self : NodesView) (count : ℕ) → record { times = times; nodes = nodes_of stored hosts } ≡ self
    → clock_ends count self.nodes ≡ None → AllByRecursion (MayTick count) hosts
may_tick stored times hosts self count is none = may_each stored hosts count (no_reading _ (ap (λ (v : NodesView). clock_ends count v.nodes) is ∙ none))

same_host : (count : ℕ) (hosts : List HostView) (id : ℕ) → has_host (map (host_ticked count) hosts) id ≡ has_host hosts id
same_host count [] id = refl
same_host count (h ∷ hs) id = ap (λ (b : Bool). cond (h.id.0 == id) true b) (same_host count hs id)

distinct_still : (count : ℕ) (hosts : List HostView) → AreDistinct hosts → AreDistinct (map (host_ticked count) hosts)
distinct_still count [] apart = tt
distinct_still count (h ∷ hs) apart = (same_host count hs h.id.0 ∙ apart.0, distinct_still count hs apart.1)

timed_still : (count : ℕ) (times : TimeSettings) (hosts : List HostView) → AllByRecursion (λ (h : HostView). h.times ≡ times) hosts → AllByRecursion (λ (h : HostView). h.times ≡ times) (map (host_ticked count) hosts)
timed_still count times [] all = tt
timed_still count times (h ∷ hs) all = (all.0, timed_still count times hs all.1)

nodes_ticked : (stored : ℕ → Stored) (count : ℕ) (hosts : List HostView) → nodes_of stored (map (host_ticked count) hosts) ≡ map (ticked count) (nodes_of stored hosts)
nodes_ticked stored count [] = refl
nodes_ticked stored count (h ∷ hs) = ap (λ (ns : List Node). ticked count (node_of (stored h.id.0) h) ∷ ns) (nodes_ticked stored count hs)

-- the nodes after a tick
pub ticked_hosts : (stored : ℕ → Stored) (times : TimeSettings) (hosts after : List HostView) (self : NodesView) (count : ℕ) → AreHosts stored times hosts
    → record { times = times; nodes = nodes_of stored hosts } ≡ self → after ≡ map (host_ticked count) hosts
    → AreHosts stored times after × (record { times = times; nodes = nodes_of stored after } ≡ record self { nodes = map (ticked count) self.nodes })
ticked_hosts stored times hosts after self count are is_self is = (
  subst (AreHosts stored times) (sym is) (record {
    distinct = distinct_still count hosts are.distinct;
    timed = timed_still count times hosts are.timed;
    others = λ id none. are.others id (sym (same_host count hosts id) ∙ none);
  }),
  ap (λ (hs : List HostView). record { times = times; nodes = nodes_of stored hs }) is
      ∙ ap (λ (ns : List Node). record { times = times; nodes = ns }) (nodes_ticked stored count hosts)
      ∙ ap (λ (v : NodesView). record v { nodes = map (ticked count) v.nodes }) is_self,
)

-- a slice that was changed as a whole
pub all_new : (new items : List HostView) (len : ℕ) → length new ≡ len → take len (new ++ drop (length new) items) ≡ new
all_new new items len is = take_at new (drop (length new) items) len is
