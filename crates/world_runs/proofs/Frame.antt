-- What a node's step leaves of a world, as it is seen of one file: whether it is whole, stopped in its append, or cut.
use Rattle.std.proofs.Common.{◌≡◌, ◌≢◌, ℕ, ◌≤◌, inl, inr, List, [], ◌∷◌, ◌++◌, map, refl, arith, ap, sym, ◌∙◌, subst, Option, Some, None, true, false}
use Rattle.std.specs.Prelude.{◌⊎◌, ◌==◌, filter, is_some, not, ◌&&◌}
use Rattle.std.proofs.lemmas.List.{map-append}
use Rattle.disk_model.specs.declared.plan.Stop.{Stop}
use Rattle.xt_base.specs.declared.ids.NodeId.{NodeId}
use Rattle.xt_base.specs.declared.ids.FileId.{FileId}
use Rattle.xt_messages.specs.declared.message.Msg.{Msg}
use Rattle.xt_messages.specs.declared.record.Record.{Record}
use Rattle.xt_protocol.specs.declared.turned.Turned.{Turned}
use Rattle.time_line.specs.declared.entry.Halt.{Halt}
use Rattle.time_line.specs.declared.entry.Halt.TheVariants as halt
use Rattle.world_spec.specs.declared.PlacedFile.{PlacedFile}
use Rattle.world_spec.specs.declared.Role.{Role}
use Rattle.world_spec.specs.declared.Role.TheVariants as role
use Rattle.time_line.specs.declared.entry.Entry.TheVariants as entry
use Rattle.world_spec.specs.declared.Sent.{Sent}
use Rattle.world_spec.specs.World.{World, Node, Running, Core, node_in, file_in, known, puts}
use Rattle.world_spec.specs.NodeSteps.{entry_of, pending, numbered, to_itself, one_more, after_turn, halted, keeps_record, cut_in_sending, Doing, loses_own, sends, appends, one_put}
use Rattle.lease_safety.specs.State.{Has}
use Rattle.lease_runs.specs.LeaseWorld.{LeaseSetting, LeaseNode, RowStep, node_stepped, row_stepped, IsReached}
use Rattle.lease_runs.proofs.Tests.{when}
use Rattle.lease_runs.proofs.Seen as seen_steps
use Rattle.world_runs.specs.View.{file_setting, node_id, end_in, told, unseen, core_seen, up_seen, role_seen, node_seen, messages, is_of, lease_view}
use Rattle.world_runs.proofs.Lists.{has_in, has_left, has_right, has_filter, filter_has, map_same}
use Rattle.world_runs.proofs.Tables.{node_in-new, node_in-other, AllStay}
use Rattle.world_runs.proofs.Standings.{standing-push, other_down}

-- ---- each file's view

-- the members of a file's list, if it is known; of one that isn't, any. Where its number is that of another known file, there are none.
abbrev pub AreMembers : List PlacedFile → FileId → List NodeId → Type 0
AreMembers files file members = (k : PlacedFile) → file_in files file.number ≡ Some k → (k.file ≡ file) × (k.location.members ≡ members)

-- what they are later, they are before
pub members_before : (files later : List PlacedFile) (file : FileId) (members : List NodeId) → AllStay files later → AreMembers later file members → AreMembers files file members
members_before files later file members stay are k is = are k (stay file.number k is)

-- the view of each file is a world of leases that moves lead to
abbrev pub Good : World → List Msg → Type 0
Good w own = (file : FileId) (members : List NodeId) → AreMembers (known w) file members → IsReached (file_setting w.times file members) (lease_view (file_setting w.times file members) w own)

-- ---- roles

abbrev pub IsOther : Role → Type 0
IsOther role.Osd = ⊥
IsOther _ = Unit {0}

pub osd_or_other : (its : Role) → (its ≡ role.Osd) ⊎ IsOther its
osd_or_other role.Osd = inl refl
osd_or_other role.Client = inr tt
osd_or_other role.Mrc = inr tt
osd_or_other role.Dir = inr tt

-- a running OSD is seen by its state
pub seen_osd : (g : LeaseSetting) (n : ℕ) (end : Option ℕ) (node : Node) (r : Running) → node.role ≡ role.Osd → node.up ≡ Some r → node_seen g n end (Some node) ≡ core_seen g n end node.kept r r.core
seen_osd g n end node r its up = ap (role_seen g n end node) its ∙ ap (up_seen g n end node.kept) up

-- another node is unseen, and keeps nothing of leases
pub seen_other : (g : LeaseSetting) (n : ℕ) (end : Option ℕ) (node : Node) → IsOther node.role → node_seen g n end (Some node) ≡ unseen g n []
seen_other g n end node other = at node.role other
  where
    at : (its : Role) → IsOther its → role_seen g n end node its ≡ unseen g n []
    at role.Osd other = absurd other
    at role.Client other = refl
    at role.Mrc other = refl
    at role.Dir other = refl

-- a node that has stopped doesn't run
pub seen_idle : (g : LeaseSetting) (n : ℕ) (end : Option ℕ) (node : Node) → (node_seen g n end (Some (record node { up = None }))).runs ≡ false
seen_idle g n end node = at node.role
  where
    at : (its : Role) → (role_seen g n end (record node { up = None }) its).runs ≡ false
    at role.Osd = refl
    at role.Client = refl
    at role.Mrc = refl
    at role.Dir = refl

-- ---- what becomes of a step

-- a whole step of a node
abbrev pub whole : Doing → Node → Running → Turned → Doing
whole d node running turned = record d { world = after_turn d.world node running turned; own = d.own ++ to_itself node.id turned.outs }

-- whichever way a step ends
pub however : (P : Doing → Type 0) (d : Doing) (node : Node) (running : Running) (turned : Turned) → P (whole d node running turned)
    → ((count : ℕ) → P (loses_own d (cut_in_sending d.world node running count turned)))
    → P (loses_own d (halted d.world node running halt.Lost))
    → ((rec : Record) → turned.rec ≡ Some rec → P (loses_own d (halted d.world (record node { kept = node.kept ++ rec ∷ []; past = node.past ++ puts rec ∷ [] }) running halt.Kept)))
    → P (appends d node running running.crash turned.rec turned)
however P d node running turned all cut lost stands = in_append running.crash turned.rec refl
  where
    with_outs : (outs : List Msg) → turned.outs ≡ outs → P (record d { world = after_turn d.world node running turned; own = d.own ++ to_itself node.id outs })
    with_outs outs e = subst (λ (outs : List Msg). P (record d { world = after_turn d.world node running turned; own = d.own ++ to_itself node.id outs })) e all

    in_sending : (plan : Option ℕ) (outs : List Msg) → turned.outs ≡ outs → P (sends d node running plan outs turned)
    in_sending None outs e = with_outs outs e
    in_sending (Some count) [] e = with_outs [] e
    in_sending (Some count) (out ∷ outs) e = cut count

    in_append : (plan : Option Stop) (rec : Option Record) → turned.rec ≡ rec → P (appends d node running plan rec turned)
    in_append None rec e = in_sending running.cut turned.outs refl
    in_append (Some stop) None e = in_sending running.cut turned.outs refl
    in_append (Some stop) (Some rec) e =
        when (λ (v : World). P (loses_own d v)) (keeps_record stop) (halted d.world (record node { kept = node.kept ++ rec ∷ []; past = node.past ++ puts rec ∷ [] }) running halt.Kept) (halted d.world node running halt.Lost)
        (λ stays. stands rec e) (λ goes. lost)

-- ---- the frame

abbrev pub next_node : Node → Running → Core → Turned → Node
next_node node r next turned = record node { kept = one_more node.kept turned.rec; past = one_put node.past turned.rec; up = Some (record r { core = next }) }

-- what must hold of a step of this node: its new state shows the step's, its messages about the file are the step's, the other nodes
-- stand as they did, and its record is of no start
pub record IsStep (g : LeaseSetting) (w : World) (node : Node) (r : Running) (next : Core) (turned : Turned) (step : RowStep) : Type 0 where
  pub here : node_seen g node.id.0 (told g.file.number node.id.0 (w.entries ++ map (entry_of node.id) turned.marks)) (Some (next_node node r next turned))
      ≡ node_stepped (node_seen g node.id.0 (told g.file.number node.id.0 w.entries) (Some node)) step
  pub others : (n : ℕ) → n ≢ node.id.0 → told g.file.number n (w.entries ++ map (entry_of node.id) turned.marks) ≡ told g.file.number n w.entries
  pub outs : (m : Msg) → Has m turned.outs → is_of g.file m ≡ true → Has m step.outs

-- messages
sent_by : (file : FileId) (own kept : List Msg) (w : World) (node : NodeId) (nodes : List Node) (outs : List Msg) (m : Msg) → ((k : Msg) → Has k kept → Has k own)
    → Has m (filter (is_of file) ((kept ++ to_itself node outs) ++ map (λ (s : Sent). s.message) (w.sent ++ numbered nodes node outs)))
    → (Has m outs × (is_of file m ≡ true)) ⊎ Has m (filter (is_of file) (own ++ messages w))
sent_by file own kept w node nodes outs m within h =
    let old = map (λ (s : Sent). s.message) w.sent in
    let new = map (λ (s : Sent). s.message) (numbered nodes node outs) in
    let found = has_filter (is_of file) m ((kept ++ to_itself node outs) ++ map (λ (s : Sent). s.message) (w.sent ++ numbered nodes node outs)) h in
    let split = subst (λ (ms : List Msg). Has m ((kept ++ to_itself node outs) ++ ms)) (map-append (λ (s : Sent). s.message) w.sent (numbered nodes node outs)) found.0 in
    elim (has_in m (kept ++ to_itself node outs) (old ++ new) split) [
      | inl q ↦ elim (has_in m kept (to_itself node outs) q) [
        | inl was ↦ inr (filter_has (is_of file) m (own ++ old) (has_left m own old (within m was)) found.1)
        | inr out ↦ inl ((has_filter (λ (k : Msg). k.to.0 == node.0) m outs out).0, found.1)
      ]
      | inr s ↦ elim (has_in m old new s) [
        | inl was ↦ inr (filter_has (is_of file) m (own ++ old) (has_right m own old was) found.1)
        | inr out ↦ inl (
          (has_filter (λ (k : Msg). not (k.to.0 == node.0) && is_some (node_in nodes k.to.0)) m outs
              (map_same (λ (s : Sent). s.message) pending (filter (λ (k : Msg). not (k.to.0 == node.0) && is_some (node_in nodes k.to.0)) outs) (λ k. refl) m out)).0,
          found.1,
        )
      ]
    ]

-- a whole step
pub after_reached : (g : LeaseSetting) (w : World) (own kept : List Msg) (node : Node) (r : Running) (next : Core) (turned : Turned) (step : RowStep)
    → ((k : Msg) → Has k kept → Has k own) → node_in w.nodes node.id.0 ≡ Some node
    → IsStep g w node r next turned step → IsReached g (row_stepped (lease_view g w own) node.id step)
    → IsReached g (lease_view g (after_turn w node (record r { core = next }) turned) (kept ++ to_itself node.id turned.outs))
after_reached g w own kept node r next turned step within found is reached =
    let there = next_node node r next turned in
    let end = after_turn w node (record r { core = next }) turned in
    let view = lease_view g w own in
    let seen = lease_view g end (kept ++ to_itself node.id turned.outs) in
    let id = node.id.0 in
    seen_steps.stepped g view seen node.id step reached
    (seen_steps.as_it_is (node_stepped (view.node id) step) (seen.node id)
    (ap (node_seen g id (told g.file.number id end.entries)) (node_in-new w.nodes there node found)
    ∙ is.here
    ∙ sym (ap (λ (f : Option Node). node_stepped (node_seen g id (told g.file.number id w.entries) f) step) found)))
    (λ n ne. seen_steps.as_it_is _ _
    (ap (λ (t : Option ℕ). node_seen g n t (node_in end.nodes n)) (is.others n ne)
    ∙ ap (node_seen g n (told g.file.number n w.entries)) (node_in-other w.nodes there n ne)))
    (λ m h. elim (sent_by g.file own kept w node.id w.nodes turned.outs m within h) [
      | inl new ↦ has_left m step.outs view.sent (is.outs m new.0 new.1)
      | inr old ↦ has_right m step.outs view.sent old
    ])

-- a stop; its node may keep a record more
pub halts : (g : LeaseSetting) (w : World) (own : List Msg) (node old : Node) (r : Running) (how : Halt) → node_in w.nodes node.id.0 ≡ Some old
    → ((end : Option ℕ) → ((lease_view g w own).node node.id.0).boot ≤ (node_seen g node.id.0 end (Some (record node { up = None }))).boot) → IsReached g (lease_view g w own) → IsReached g (lease_view g (halted w node r how) [])
halts g w own node old r how found boot reached =
    let view = lease_view g w own in
    let end = halted w node r how in
    let seen = lease_view g end [] in
    let id = node.id.0 in
    let there : Node = record node { up = None } in
    let its = told g.file.number id end.entries in
    let now : seen.node id ≡ node_seen g id its (Some there) = ap (node_seen g id its) (node_in-new w.nodes there old found) in
    let below = boot its in
    seen_steps.stopped g view seen node.id reached (ap (λ (x : LeaseNode). x.runs) now ∙ seen_idle g id its node) (omega (arith, ap (λ (x : LeaseNode). x.boot) now, below))
    (λ n ne. seen_steps.as_it_is _ _
    (ap (λ (t : Option ℕ). node_seen g n t (node_in end.nodes n)) (ap end_in (standing-push (node_id n) g.file.number w.entries (entry.Down node.id r.clock how) ∙ other_down (node_id n) node.id g.file.number r.clock how _ (λ e. ne (sym e))))
    ∙ ap (node_seen g n (told g.file.number n w.entries)) (node_in-other w.nodes there n ne)))
    (λ m h.
    let found = has_filter (is_of g.file) m (messages w) h in
    filter_has (is_of g.file) m (own ++ messages w) (has_right m own (messages w) found.0) found.1)

-- messages of a node to itself are lost
pub fewer : (g : LeaseSetting) (w : World) (own left : List Msg) → ((m : Msg) → Has m left → Has m own) → IsReached g (lease_view g w own) → IsReached g (lease_view g w left)
fewer g w own left within reached =
    seen_steps.unmoved g (lease_view g w own) (lease_view g w left) reached (λ n. seen_steps.as_it_is _ _ refl)
    (λ m h.
    let found = has_filter (is_of g.file) m (left ++ messages w) h in
    filter_has (is_of g.file) m (own ++ messages w) (elim (has_in m left (messages w) found.0) [
      | inl l ↦ has_left m own (messages w) (within m l)
      | inr s ↦ has_right m own (messages w) s
    ]) found.1)

-- a step with fewer messages
pub fewer_outs : (g : LeaseSetting) (w : World) (node : Node) (r : Running) (next : Core) (turned : Turned) (step : RowStep) (outs : List Msg) → ((m : Msg) → Has m outs → Has m turned.outs)
    → IsStep g w node r next turned step → IsStep g w node r next (record turned { outs = outs }) step
fewer_outs g w node r next turned step outs within is = record { here = is.here; others = is.others; outs = λ m h about. is.outs m (within m h) about }
