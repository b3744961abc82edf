-- a node that is changed in its place
use Rattle.std.proofs.Common.{◌≡◌, ℕ, zero, suc, ◌<◌, ◌==◌, Bool, true, false, cond, is_some, arith, Option, Some, None, Result, Ok, Err, OnOk, OnErr, IfOk, List, [], ◌∷◌, ◌++◌, length, get_or, refl, ap, sym, ◌∙◌, subst}
use Rattle.std.specs.Prelude.{slice_get, slice_set}
use Rattle.std.proofs.lemmas.Bool.Decides.{nat_tests}
use Rattle.disk_model.specs.declared.plan.Stop.{Stop}
use Rattle.world_hull.specs.Appends.{Logs, IsAppended, AreAllSame, AreOthersSame, records_after, past_after}
use Rattle.world_hull.specs.Revivals.{IsRevived}
use Rattle.world_hull.specs.Rewritings.{IsCompacted, logs_after}
use Rattle.world_hull.specs.declared.hull.Kept.{Kept}
use Rattle.world_hull.specs.declared.hull.Kept.TheVariants as ending
use Rattle.world_hull.specs.declared.errors.WorldErr.{WorldErr}
use Rattle.std.proofs.Math.ListN.{set}
use Rattle.std.proofs.lemmas.List.{length-map, set-get_or, get_or_default}
use Rattle.xt_base.specs.TimeSettings.{TimeSettings}
use Rattle.xt_base.specs.declared.ids.NodeId.{NodeId}
use Rattle.xt_messages.specs.declared.event.Event.{Event}
use Rattle.xt_messages.specs.declared.record.KeepBody.{KeepBody}
use Rattle.xt_messages.specs.declared.record.Record.{Record}
use Rattle.xt_base.specs.declared.ids.Boot.{Boot}
use Rattle.xt_protocol.specs.declared.turned.Turned.{Turned}
use Rattle.xt_protocol.specs.Forgetting.{rewritten}
use Rattle.world_spec.specs.Lines.{runs, core_starting}
use Rattle.client_rows.specs.Steps.{Step}
use Rattle.client_rows.specs.Rows.{WholeClient}
use Rattle.world_spec.specs.World.{Node, Deed, puts, loads, rewrites, Running, Core, osd, client, mrc, dir, node_in, with_node}
use Rattle.world_spec.specs.NodeSteps.{Room, core_step}
use Rattle.world_host.specs.Hosts.{HostView, Stored, nothing_stored, node_of, node_with}
use Rattle.world_host.specs.Turns.{Took, Handles, ClientTook}
use Rattle.world_host.specs.Cores.{SayTheSame}
use Rattle.world_host.proofs.Starting.{starts_alike}
use Rattle.world_clocks.specs.Hosts.{nodes_of}
use Rattle.world_nodes.specs.Nodes.{NodesView, has_host, AreHosts, IsAt, IsPlace, Changes, host_at, NodeTook, NodeHandles, NodeClientTook, after_append, after_load}
use Rattle.world_nodes.proofs.Hosts.{AreOthers, same_stored, at_place, changed, still, times_at, pushed, declared_is}

-- ---- results

pub map_ok : {T E P Q : Type 0} (r : Result T E) → (P → Q) → OnOk r P → OnOk r Q
map_ok (Ok x) f p = f p
map_ok (Err e) f p = tt

pub on_ok : {T E P : Type 0} (r : Result T E) → P → OnOk r P
on_ok (Ok x) p = p
on_ok (Err e) p = tt

pub map_if : {T E : Type 0} (P Q : T → Type 0) (r : Result T E) → ((x : T) → P x → Q x) → IfOk r P → IfOk r Q
map_if P Q (Ok x) f p = f x p
map_if P Q (Err e) f p = tt

pub either_way : {T E A B P : Type 0} (r : Result T E) → (A → P) → (B → P) → OnOk r A → OnErr r B → P
either_way (Ok x) f g a b = f a
either_way (Err e) f g a b = g b

pub if_or_err : {T E B P : Type 0} (A : T → Type 0) (r : Result T E) → ((x : T) → A x → P) → (B → P) → IfOk r A → OnErr r B → P
if_or_err A (Ok x) f g a b = f x a
if_or_err A (Err e) f g a b = g b

-- ---- the same node

abbrev pub IsSameHost : HostView → HostView → Type 0
IsSameHost old new = (new.id ≡ old.id) × (new.times ≡ old.times)

pub same_but_up : (old new : HostView) (up : Option Running) → new ≡ record old { up = up } → IsSameHost old new
same_but_up old new up is = (ap (λ (h : HostView). h.id) is, ap (λ (h : HostView). h.times) is)

took_same : (old new : HostView) (running : Running) (step : Step Core) (turned : Turned) → Took old running step new turned → IsSameHost old new
took_same old new running step turned took = same_but_up old new (Some (record running { core = step.state })) took.1

pub handled_same : (kept : List Record) (happens : Event) (old new : HostView) (turned : Option Turned) → Handles kept happens old new turned → IsSameHost old new
handled_same kept happens old new None is = same_but_up old new old.up is.1
handled_same kept happens old new (Some turned) is = took_same old new is.0 (core_step old.times (node_with kept old) is.0.core is.0.clock happens) turned is.1

pub called_same : (step : HostView → Running → WholeClient → Step Core) (old new : HostView) (turned : Option Turned) → ClientTook step old new turned → IsSameHost old new
called_same step old new None is = same_but_up old new old.up is.1
called_same step old new (Some turned) is = took_same old new is.0 (step old is.0 is.1) turned is.3

-- a step doesn't see what was done to the records
past_unseen : (times : TimeSettings) (stored : Stored) (host : HostView) (core : Core) (clock : ℕ) (happens : Event)
    → core_step times (node_with stored.kept host) core clock happens ≡ core_step times (node_of stored host) core clock happens
past_unseen times stored host (osd state) clock happens = refl
past_unseen times stored host (client state) clock happens = refl
past_unseen times stored host (mrc state) clock happens = refl
past_unseen times stored host (dir state) clock happens = refl

-- ---- the node in a place

module _ (stored : ℕ → Stored) (times : TimeSettings) (hosts : List HostView) (place : ℕ) (old new : HostView) (self : NodesView) (are : AreHosts stored times hosts)
    (is_self : record { times = times; nodes = nodes_of stored hosts } ≡ self) (lt : place < length self.nodes) (is_old : old ≡ get_or hosts place old) where
  inside : place < length hosts
  inside =
      subst (λ (n : ℕ). place < n) (length-map hosts (λ (h : HostView). node_of (stored h.id.0) h))
      (subst (λ (v : NodesView). place < length v.nodes) (sym is_self) lt)

  its_times : old.times ≡ times
  its_times = times_at stored times hosts place old are inside is_old

  -- they are in order again
  pub again : (after : ℕ → Stored) → AreOthers stored after old.id.0 → IsSameHost old new → AreHosts after times (set hosts place new)
  again after others same = still stored after times hosts place old new are inside is_old same.0 same.1 others

  at_self : (node : Node) → IsAt self.nodes place node → IsAt (nodes_of stored hosts) place node
  at_self node at = subst (λ (v : NodesView). IsAt v.nodes place node) (sym is_self) at

  -- what is found in this place is this one
  pub same_old : (other : HostView) → other ≡ get_or hosts place other → other ≡ old
  same_old other is = is ∙ get_or_default hosts place other old inside ∙ sym is_old

  -- a node in this place is this one
  pub this_node : (node : Node) → IsAt self.nodes place node → node ≡ node_of (stored old.id.0) old
  this_node node at = (changed stored stored hosts place old old node are.distinct inside is_old refl (same_stored stored old.id.0) (at_self node at)).0

  -- what is said of it is said of the node of its id
  pub said_of : {A : Type 0} (id : NodeId) (say : Option Node → A) → IsPlace self.nodes id (Some place) → say (Some (node_of (stored old.id.0) old)) ≡ say (node_in self.nodes id.0)
  said_of id say found =
      sym
      (ap say
      (ap (λ (i : NodeId). node_in self.nodes i.0) (sym found.2) ∙ found.1.found ∙ ap (λ (n : Node). Some n) (this_node found.0 found.1)))

  -- this one is in this place
  pub stands : IsAt self.nodes place (node_of (stored old.id.0) old)
  stands =
      subst (λ (v : NodesView). IsAt v.nodes place (node_of (stored old.id.0) old)) is_self
      (subst (λ (h : HostView). IsAt (nodes_of stored hosts) place (node_of (stored h.id.0) h)) (sym is_old) (at_place stored hosts place old are.distinct inside))

  put : (after : ℕ → Stored) (node : Node) → AreOthers stored after old.id.0 → new.id ≡ old.id → IsAt self.nodes place node
      → record { times = times; nodes = nodes_of after (set hosts place new) } ≡ record self { nodes = with_node self.nodes (node_of (after old.id.0) new) }
  put after node others same at =
      ap (λ (ns : List Node). record { times = times; nodes = ns }) (changed stored after hosts place old new node are.distinct inside is_old same others (at_self node at)).1
      ∙ ap (λ (v : NodesView). record v { nodes = with_node v.nodes (node_of (after old.id.0) new) }) is_self

  pub changes : (after : ℕ → Stored) (change : Node → Node) → AreOthers stored after old.id.0 → new.id ≡ old.id
      → node_of (after old.id.0) new ≡ change (node_of (stored old.id.0) old) → Changes self place change (record { times = times; nodes = nodes_of after (set hosts place new) })
  changes after change others same is = λ node at.
      put after node others same at
      ∙ ap (λ (n : Node). record self { nodes = with_node self.nodes n }) (is ∙ ap change (sym (this_node node at)))

  unchanged : new ≡ old → record { times = times; nodes = nodes_of stored (set hosts place new) } ≡ self
  unchanged same =
      ap (λ (hs : List HostView). record { times = times; nodes = nodes_of stored hs })
      (ap (set hosts place) (same ∙ is_old) ∙ set-get_or hosts place old)
      ∙ is_self

  took : (node : Node) (running : Running) (step : Step Core) (turned : Turned) → IsAt self.nodes place node → Took old running step new turned
      → NodeTook self node running step (record { times = times; nodes = nodes_of stored (set hosts place new) }) turned
  took node running step turned at is =
      let its = this_node node at in (
        ap (λ (n : Node). n.up) its ∙ is.0,
        is.2,
        changes stored (λ (n : Node). record n { up = Some (record running { core = step.state }) }) (same_stored stored old.id.0) (ap (λ (h : HostView). h.id) is.1)
            (ap (node_of (stored old.id.0)) is.1) node at,
      )

  self_times : times ≡ self.times
  self_times = ap (λ (v : NodesView). v.times) is_self

  -- it started
  pub node_started : (found : List Record) (boot : Boot) (clock : ℕ)
      → new ≡ record old { up = Some (runs boot clock (core_starting old.times (node_with found old) boot clock old.role)) }
      → (node : Node) → IsAt self.nodes place node → SayTheSame found node.kept
      → record { times = times; nodes = nodes_of stored (set hosts place new) } ≡ record self { nodes = with_node self.nodes (record node { up = Some (runs boot clock (core_starting self.times node boot clock node.role)) }) }
  node_started found boot clock is node at said =
      let its : node ≡ node_of (stored old.id.0) old = this_node node at in
      changes stored (λ (n : Node). record n { up = Some (runs boot clock (core_starting old.times (node_with found old) boot clock old.role)) }) (same_stored stored old.id.0) (ap (λ (h : HostView). h.id) is) (ap (node_of (stored old.id.0)) is) node at
      ∙ ap (λ (core : Core). record self { nodes = with_node self.nodes (record node { up = Some (runs boot clock core) }) })
      (starts_alike old.times (node_with found old) node boot clock old.role (sym (ap (λ (n : Node). n.id) its)) said
      ∙ ap (core_starting old.times node boot clock) (sym (ap (λ (n : Node). n.role) its))
      ∙ ap (λ (t : TimeSettings). core_starting t node boot clock node.role) (its_times ∙ self_times))

  -- an event came to it
  pub node_handled : (happens : Event) (turned : Option Turned) → Handles (stored old.id.0).kept happens old new turned → (node : Node) → IsAt self.nodes place node
      → NodeHandles happens self node (record { times = times; nodes = nodes_of stored (set hosts place new) }) turned
  node_handled happens None is node at = (ap (λ (n : Node). n.up) (this_node node at) ∙ is.0, unchanged is.1)
  node_handled happens (Some turned) is node at = (
    is.0,
    subst (λ (n : Node). NodeTook self node is.0 (core_step self.times n is.0.core is.0.clock happens) (record { times = times; nodes = nodes_of stored (set hosts place new) }) turned) (sym (this_node node at))
        (subst (λ (t : TimeSettings). NodeTook self node is.0 (core_step t (node_of (stored old.id.0) old) is.0.core is.0.clock happens) (record { times = times; nodes = nodes_of stored (set hosts place new) }) turned) (its_times ∙ self_times)
        (took node is.0 (core_step old.times (node_of (stored old.id.0) old) is.0.core is.0.clock happens) turned at
        (subst (λ (step : Step Core). Took old is.0 step new turned) (past_unseen old.times (stored old.id.0) old is.0.core is.0.clock happens) is.1))),
  )

  -- its client took a step
  pub node_called : (step : HostView → Running → WholeClient → Step Core) (turned : Option Turned) → ClientTook step old new turned → (node : Node) → IsAt self.nodes place node
      → NodeClientTook step self node (record { times = times; nodes = nodes_of stored (set hosts place new) }) turned
  node_called step None is node at = (λ running up. is.0 running (sym (ap (λ (n : Node). n.up) (this_node node at)) ∙ up), unchanged is.1)
  node_called step (Some turned) is node at = (
    is.0,
    is.1,
    is.2,
    subst (λ (h : HostView). NodeTook self node is.0 (step h is.0 is.1) (record { times = times; nodes = nodes_of stored (set hosts place new) }) turned)
        (ap (λ (t : TimeSettings). record old { times = t }) (its_times ∙ self_times) ∙ ap (host_at self.times) (sym (this_node node at)))
        (took node is.0 (step old is.0 is.1) turned at is.3),
  )

-- ---- what the hull does

-- what the hull has stored for each node, by its records and by what was done to them
abbrev pub stored_by : Logs → ℕ → Stored
stored_by logs id = record { kept = logs.0 id; past = logs.1 id }

itself : (n : ℕ) → (n == n) ≡ true
itself n = grind (arith, nat_tests)

pub all_same : (old new : Logs) → AreAllSame old new → stored_by new ≡ stored_by old
all_same old new same =
    ap (λ (kept : ℕ → List Record). stored_by (kept, new.1)) same.0 ∙ ap (λ (past : ℕ → List Deed). stored_by (old.0, past)) same.1

pub none_other : (old new : Logs) (id : NodeId) → AreAllSame old new → AreOthers (stored_by old) (stored_by new) id.0
none_other old new id same n other = ap (λ (f : ℕ → Stored). f n) (all_same old new same)

pub others_same : (old new : Logs) (id : NodeId) → AreOthersSame old new id → AreOthers (stored_by old) (stored_by new) id.0
others_same old new id same n other =
    ap (λ (kept : List Record). record { kept = kept; past = new.1 n }) (same n other).0 ∙ ap (λ (past : List Deed). record { kept = old.0 n; past = past }) (same n other).1

-- one thing more was done to a node's records
abbrev deed_more : (ℕ → List Deed) → NodeId → Deed → ℕ → Bool → List Deed
deed_more past id deed n here = cond here (past n ++ deed ∷ []) (past n)

-- whatever becomes of an append, nothing is done to the others
pub append_others : (old new : Logs) (id : NodeId) (rec : Record) (stop : Option Stop) (r : Result Kept WorldErr)
    → IfOk r (λ (end : Kept). IsAppended old new id rec stop end) → OnErr r (AreOthersSame old new id) → AreOthers (stored_by old) (stored_by new) id.0
append_others old new id rec stop (Err e) is same n other = others_same old new id same n other
append_others old new id rec stop (Ok end) is same n other =
    ap (λ (kept : ℕ → List Record). record { kept = kept n; past = new.1 n }) is.1 ∙ ap (λ (past : ℕ → List Deed). record { kept = records_after old.0 id rec end n; past = past n }) is.2 ∙ at end
  where
    at : (end : Kept) → stored_by (records_after old.0 id rec end, past_after old.1 id rec end) n ≡ stored_by old n
    at ending.Done = ap (λ (b : Bool). record { kept = cond b (old.0 n ++ rec ∷ []) (old.0 n); past = deed_more old.1 id (puts rec) n b }) other
    at ending.StoppedKept = ap (λ (b : Bool). record { kept = cond b (old.0 n ++ rec ∷ []) (old.0 n); past = deed_more old.1 id (puts rec) n b }) other
    at ending.StoppedLost = refl

-- and the node keeps what the end of the append says
pub append_own : (old new : Logs) (id : NodeId) (rec : Record) (end : Kept) → new.0 ≡ records_after old.0 id rec end → new.1 ≡ past_after old.1 id rec end
    → (host : HostView) → node_of (stored_by new id.0) host ≡ after_append rec end (node_of (stored_by old id.0) host)
append_own old new id rec end kept past host =
    ap (λ (k : ℕ → List Record). node_of (record { kept = k id.0; past = new.1 id.0 }) host) kept
    ∙ ap (λ (p : ℕ → List Deed). node_of (record { kept = records_after old.0 id rec end id.0; past = p id.0 }) host) past ∙ at end
  where
    here : Bool → Node
    here b = node_of (record { kept = cond b (old.0 id.0 ++ rec ∷ []) (old.0 id.0); past = deed_more old.1 id (puts rec) id.0 b }) host

    at : (end : Kept) → node_of (stored_by (records_after old.0 id rec end, past_after old.1 id rec end) id.0) host ≡ after_append rec end (node_of (stored_by old id.0) host)
    at ending.Done = ap here (itself id.0)
    at ending.StoppedKept = ap here (itself id.0)
    at ending.StoppedLost = refl

-- its records were loaded
pub load_others : (old new : Logs) (id : NodeId) (found : List Record) → IsRevived old new id found → AreOthers (stored_by old) (stored_by new) id.0
load_others old new id found is n other =
    ap (λ (kept : ℕ → List Record). record { kept = kept n; past = new.1 n }) is.kept ∙ ap (λ (past : ℕ → List Deed). record { kept = old.0 n; past = past n }) is.past
    ∙ ap (λ (b : Bool). record { kept = old.0 n; past = deed_more old.1 id loads n b }) other

pub load_own : (old new : Logs) (id : NodeId) (found : List Record) → IsRevived old new id found → (host : HostView) → node_of (stored_by new id.0) host ≡ after_load (node_of (stored_by old id.0) host)
load_own old new id found is host =
    ap (λ (k : ℕ → List Record). node_of (record { kept = k id.0; past = new.1 id.0 }) host) is.kept
    ∙ ap (λ (p : ℕ → List Deed). node_of (record { kept = old.0 id.0; past = p id.0 }) host) is.past
    ∙ ap (λ (b : Bool). node_of (record { kept = old.0 id.0; past = deed_more old.1 id loads id.0 b }) host) (itself id.0)

-- its records were rewritten, or weren't
pub compact_others : (room : Room) (old new : Logs) (id : NodeId) (keep : List KeepBody) (r : Result Bool WorldErr)
    → IfOk r (λ rewrote. IsCompacted room old new id keep rewrote) → OnErr r (AreOthersSame old new id) → AreOthers (stored_by old) (stored_by new) id.0
compact_others room old new id keep (Err e) is same n other = others_same old new id same n other
compact_others room old new id keep (Ok rewrote) is same n other =
    ap (λ (kept : ℕ → List Record). record { kept = kept n; past = new.1 n }) is.kept ∙ ap (λ (past : ℕ → List Deed). record { kept = (logs_after old id keep rewrote).0 n; past = past n }) is.past ∙ at rewrote
  where
    at : (rewrote : Bool) → stored_by (logs_after old id keep rewrote) n ≡ stored_by old n
    at true = ap (λ (b : Bool). record { kept = cond b (rewritten keep (old.0 n)) (old.0 n); past = deed_more old.1 id (rewrites keep) n b }) other
    at false = refl

pub compact_own : (room : Room) (old new : Logs) (id : NodeId) (keep : List KeepBody) → IsCompacted room old new id keep true
    → (stored_by new id.0).kept ≡ rewritten keep (old.0 id.0)
compact_own room old new id keep is =
    ap (λ (k : ℕ → List Record). k id.0) is.kept ∙ ap (λ (b : Bool). cond b (rewritten keep (old.0 id.0)) (old.0 id.0)) (itself id.0)

pub compact_past : (room : Room) (old new : Logs) (id : NodeId) (keep : List KeepBody) → IsCompacted room old new id keep true
    → (stored_by new id.0).past ≡ old.1 id.0 ++ rewrites keep ∷ []
compact_past room old new id keep is =
    ap (λ (p : ℕ → List Deed). p id.0) is.past ∙ ap (λ (b : Bool). deed_more old.1 id (rewrites keep) id.0 b) (itself id.0)

pub compact_not : (room : Room) (old new : Logs) (id : NodeId) (keep : List KeepBody) → IsCompacted room old new id keep false → stored_by new ≡ stored_by old
compact_not room old new id keep is = all_same old new (is.kept, is.past)

-- ---- what is stored for a node

module _ (stored after : ℕ → Stored) (times : TimeSettings) (hosts : List HostView) (place : ℕ) (old : HostView) (self : NodesView) (are : AreHosts stored times hosts)
    (is_self : record { times = times; nodes = nodes_of stored hosts } ≡ self) (lt : place < length self.nodes) (is_old : old ≡ get_or hosts place old)
    (id : NodeId) (is_id : id ≡ old.id) where
  back : set hosts place old ≡ hosts
  back = ap (set hosts place) is_old ∙ set-get_or hosts place old

  -- it alone is changed, so they are in order again
  pub again_stored : AreOthers stored after id.0 → AreHosts after times hosts
  again_stored others =
      subst (AreHosts after times) back
      (again stored times hosts place old old self are is_self lt is_old after (subst (λ (i : NodeId). AreOthers stored after i.0) is_id others) (refl, refl))

  pub stored_changes : (change : Node → Node) → AreOthers stored after id.0 → node_of (after id.0) old ≡ change (node_of (stored id.0) old)
      → Changes self place change (record { times = times; nodes = nodes_of after hosts })
  stored_changes change others is =
      subst (λ (hs : List HostView). Changes self place change (record { times = times; nodes = nodes_of after hs })) back
      (changes stored times hosts place old old self are is_self lt is_old after change (subst (λ (i : NodeId). AreOthers stored after i.0) is_id others) refl
      (subst (λ (i : NodeId). node_of (after i.0) old ≡ change (node_of (stored i.0) old)) is_id is))

  -- the node in this place, by what is stored for it
  pub its_stored : (node : Node) → IsAt self.nodes place node → node_of (stored id.0) old ≡ node
  its_stored node at = ap (λ (i : NodeId). node_of (stored i.0) old) is_id ∙ sym (this_node stored times hosts place old old self are is_self lt is_old node at)

-- a node that stays as it is
pub same_there : (self : NodesView) (place : ℕ) → Changes self place (λ node. node) self
same_there self place = λ node at. ap (λ (ns : List Node). record self { nodes = ns }) (sym (at.put node refl ∙ set_got self.nodes place node at.here))
  where
    set_got : (xs : List Node) (k : ℕ) (x : Node) → slice_get xs k ≡ Some x → slice_set xs k x ≡ xs
    set_got [] k x is = refl
    set_got (y ∷ ys) zero x is = (let same : y ≡ x = cc in ap (λ (z : Node). z ∷ ys) (sym same))
    set_got (y ∷ ys) (suc k) x is = ap (λ (zs : List Node). y ∷ zs) (set_got ys k x is)

-- a node that is declared last
pub declared_last : (stored : ℕ → Stored) (times : TimeSettings) (hosts after : List HostView) (new : HostView) (node : Node) (self : NodesView) → AreHosts stored times hosts
    → record { times = times; nodes = nodes_of stored hosts } ≡ self → node_in self.nodes new.id.0 ≡ None → new.times ≡ times → node ≡ node_of nothing_stored new → after ≡ hosts ++ new ∷ []
    → AreHosts stored times after × (record { times = times; nodes = nodes_of stored after } ≡ record self { nodes = self.nodes ++ node ∷ [] })
declared_last stored times hosts after new node self are is_self free timed is_node is =
    let none : has_host hosts new.id.0 ≡ false = sym (declared_is stored hosts new.id.0) ∙ ap is_some (ap (λ (v : NodesView). node_in v.nodes new.id.0) is_self ∙ free) in
    let both = pushed stored times hosts new are none timed in (
      subst (AreHosts stored times) (sym is) both.0,
      ap (λ (hs : List HostView). record { times = times; nodes = nodes_of stored hs }) is
          ∙ ap (λ (ns : List Node). record { times = times; nodes = ns }) (both.1 ∙ ap (λ (n : Node). nodes_of stored hosts ++ n ∷ []) (sym is_node))
          ∙ ap (λ (v : NodesView). record v { nodes = v.nodes ++ node ∷ [] }) is_self,
    )
