-- what the nodes are once one of them forgot
use Rattle.std.proofs.Common.{◌≡◌, ℕ, ◌<◌, Bool, true, false, cond, Option, Some, None, List, [], ◌∷◌, ◌++◌, length, get_or, refl, ap, sym, ◌∙◌, subst}
use Rattle.std.proofs.Math.ListN.{set}
use Rattle.std.proofs.lemmas.List.Elements.{All-from_recursion}
use Rattle.xt_base.specs.TimeSettings.{TimeSettings}
use Rattle.xt_base.specs.declared.ids.NodeId.{NodeId}
use Rattle.xt_messages.specs.Limits.{FitsRecord}
use Rattle.xt_messages.specs.declared.record.Record.{Record}
use Rattle.std.specs.Option.{option_map}
use Rattle.xt_messages.specs.declared.record.KeepBody.{KeepBody}
use Rattle.xt_protocol.specs.Forgetting.{keep_of, osd_without, rewritten}
use Rattle.xt_protocol.specs.OsdSteps.{OsdState}
use Rattle.world_spec.specs.World.{World, Node, Deed, rewrites, Running, Core, osd, client, mrc, dir, with_node}
use Rattle.world_spec.specs.NodeSteps.{Room, rewritten_at, forgets_at}
use Rattle.world_host.specs.Forgetting.{needed_at, forgets, needed_by, running_without}
use Rattle.world_host.specs.Hosts.{HostView, Stored, node_of}
use Rattle.world_clocks.specs.Hosts.{nodes_of}
use Rattle.world_limits.specs.Fits.{FitsKept}
use Rattle.world_hull.specs.Rewritings.{MayBecome}
use Rattle.world_nodes.specs.Nodes.{NodesView, bare, AreHosts, IsAt, Forgets, forgotten_in}
use Rattle.world_nodes.proofs.Hosts.{AreOthers}
use Rattle.world_nodes.proofs.Changes.{this_node, changes}

-- a node whose records are rewritten with these bodies, and which forgot the others
abbrev pub rewritten_with : List KeepBody → Node → Node
rewritten_with keep node =
    record node { kept = rewritten keep node.kept; past = node.past ++ rewrites keep ∷ []; up = option_map (running_without keep) node.up }

module _ (room : Room) (view : NodesView) (node : Node) where
  -- an OSD that runs forgets where its records are rewritten now
  pub forgets_by : (keep : List KeepBody) (now : Bool) → needed_by node.up ≡ Some keep → room.rewrites_now node.past keep ≡ now
      → forgotten_in room.rewrites_now view (Some node) ≡ cond now (with_node view.nodes (rewritten_with keep node)) view.nodes
  forgets_by keep now needed is = by_up node.up needed
    where
      next : Option Running → Node
      next up = record node { kept = rewritten keep node.kept; past = node.past ++ rewrites keep ∷ []; up = up }

      by_now : (b : Bool) (running : Running) (s : OsdState) → keep_of s ≡ keep
          → (cond b (record (bare view) { nodes = with_node view.nodes (rewritten_at node running s) }) (bare view)).nodes
          ≡ cond b (with_node view.nodes (next (Some (record running { core = osd (osd_without keep s) })))) view.nodes
      by_now false running s same = refl
      by_now true running s same =
          ap (λ (k : List KeepBody). with_node view.nodes (record node { kept = rewritten k node.kept; past = node.past ++ rewrites k ∷ []; up = Some (record running { core = osd (osd_without k s) }) })) same

      by_core : (running : Running) (core : Core) → needed_at core ≡ Some keep
          → (forgets_at room.rewrites_now (bare view) node running core).nodes ≡ cond now (with_node view.nodes (next (Some (record running { core = forgets keep core })))) view.nodes
      by_core running (client c) e = absurd (cc)
      by_core running (mrc m) e = absurd (cc)
      by_core running (dir d) e = absurd (cc)
      by_core running (osd s) e =
          let same : keep_of s ≡ keep = the_same (keep_of s) keep e in
          ap (λ (b : Bool). (cond b (record (bare view) { nodes = with_node view.nodes (rewritten_at node running s) }) (bare view)).nodes) (ap (room.rewrites_now node.past) same ∙ is)
          ∙ by_now now running s same
        where
          the_same : (a b : List KeepBody) → Some a ≡ Some b → a ≡ b
          the_same a b e = cc

      by_up : (up : Option Running) → needed_by up ≡ Some keep
          → (elim up as (λ x. World) [ None ↦ bare view | Some running ↦ forgets_at room.rewrites_now (bare view) node running running.core ]).nodes
          ≡ cond now (with_node view.nodes (next (option_map (running_without keep) up))) view.nodes
      by_up None e = absurd (cc)
      by_up (Some running) e = by_core running running.core e

-- the node in a place, by what is stored for it
module _ (stored after : ℕ → Stored) (times : TimeSettings) (hosts : List HostView) (place : ℕ) (old new : HostView) (self : NodesView) (are : AreHosts stored times hosts)
    (is_self : record { times = times; nodes = nodes_of stored hosts } ≡ self) (lt : place < length self.nodes) (is_old : old ≡ get_or hosts place old)
    (id : NodeId) (is_id : id ≡ old.id) (room : Room) where
  its : (node : Node) → IsAt self.nodes place node → node ≡ node_of (stored id.0) old
  its node at = this_node stored times hosts place old old self are is_self lt is_old node at ∙ ap (λ (i : NodeId). node_of (stored i.0) old) (sym is_id)

  -- its records were rewritten, and it forgot
  pub forgot_told : (keep : List KeepBody) → AreOthers stored after id.0 → new ≡ record old { up = option_map (running_without keep) old.up }
      → needed_by old.up ≡ Some keep → room.rewrites_now (stored id.0).past keep ≡ true
      → (after id.0).kept ≡ rewritten keep (stored id.0).kept → (after id.0).past ≡ (stored id.0).past ++ rewrites keep ∷ []
      → Forgets room self place (record { times = times; nodes = nodes_of after (set hosts place new) })
  forgot_told keep others is needed now kept past = λ node at.
      changes stored times hosts place old new self are is_self lt is_old after (rewritten_with keep) (subst (λ (i : NodeId). AreOthers stored after i.0) is_id others) (ap (λ (h : HostView). h.id) is)
      (subst (λ (i : NodeId). node_of (after i.0) new ≡ rewritten_with keep (node_of (stored i.0) old)) is_id rewrote) node at
      ∙ ap (λ (ns : List Node). record self { nodes = ns })
      (sym (forgets_by room self node keep true (ap (λ (n : Node). needed_by n.up) (its node at) ∙ needed) (ap (λ (n : Node). room.rewrites_now n.past keep) (its node at) ∙ now)))
    where
      later : HostView
      later = record old { up = option_map (running_without keep) old.up }

      rewrote : node_of (after id.0) new ≡ rewritten_with keep (node_of (stored id.0) old)
      rewrote =
          ap (node_of (after id.0)) is
          ∙ ap (λ (k : List Record). node_of (record { kept = k; past = (after id.0).past }) later) kept
          ∙ ap (λ (p : List Deed). node_of (record { kept = rewritten keep (stored id.0).kept; past = p }) later) past

  -- they weren't, and nothing has changed
  pub kept_told : (keep : List KeepBody) → after ≡ stored → needed_by old.up ≡ Some keep → room.rewrites_now (stored id.0).past keep ≡ false
      → Forgets room self place (record { times = times; nodes = nodes_of after hosts })
  kept_told keep same needed now = λ node at.
      ap (λ (f : ℕ → Stored). record { times = times; nodes = nodes_of f hosts }) same ∙ is_self
      ∙ ap (λ (ns : List Node). record self { nodes = ns })
      (sym (forgets_by room self node keep false (ap (λ (n : Node). needed_by n.up) (its node at) ∙ needed) (ap (λ (n : Node). room.rewrites_now n.past keep) (its node at) ∙ now)))

-- rewritten records that are kept as others are may be kept by a hull
pub may_become : (keep : List KeepBody) (records : List Record) → FitsKept (rewritten keep records) → MayBecome keep records
may_become keep records fits = record { limits = All-from_recursion FitsRecord (rewritten keep records) fits.limits; places = fits.places }
