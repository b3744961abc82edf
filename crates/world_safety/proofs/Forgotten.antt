-- An OSD forgets bodies: each file's world goes on by an event of its own.
use Rattle.std.proofs.Common.{◌≡◌, ℕ, inl, inr, List, [], ◌∷◌, ◌||◌, refl, ap, sym, ◌∙◌, subst, Option, Some, Bool, true, false}
use Rattle.std.specs.Prelude.{◌⊎◌, Contains, unwrap_or}
use Rattle.xt_base.specs.declared.ids.FileId.{FileId}
use Rattle.xt_base.specs.declared.ids.NodeId.{NodeId}
use Rattle.xt_base.specs.declared.ids.Stamp.{Stamp}
use Rattle.xt_messages.specs.declared.file.ObjectVersion.{ObjectVersion}
use Rattle.xt_messages.specs.declared.file.Op.{Op}
use Rattle.xt_messages.specs.declared.message.Msg.{Msg}
use Rattle.xt_messages.specs.declared.record.FileRow.{FileRow}
use Rattle.xt_messages.specs.declared.record.KeepBody.{KeepBody}
use Rattle.xt_protocol.specs.FileStates.{FileState}
use Rattle.xt_protocol.specs.Folds.{fold_of, row_in, body_of}
use Rattle.xt_protocol.specs.Forgetting.{is_needed, keep_of, is_kept, row_without, file_without, osd_without, folded_without, rewritten, versions_under}
use Rattle.xt_protocol.specs.LeaseRows.{Silent, lease_expired}
use Rattle.xt_protocol.specs.OsdSteps.{OsdState}
use Rattle.xt_protocol.specs.SeenBodies.{body_by}
use Rattle.xt_protocol.specs.Stamps.{has_version}
use Rattle.osd_invariants.specs.Sound.{IsHeld}
use Rattle.lease_runs.specs.OsdView.{site_of}
use Rattle.replica_safety.specs.Lists.{Has}
use Rattle.replica_safety.specs.Epochs.{at_node}
use Rattle.file_runs.specs.FileRuns.{FileNode, FileWorld, forgets, MayForget}
use Rattle.world_spec.specs.World.{World, Node, Running, osd, node_in, with_node, known}
use Rattle.world_spec.specs.NodeSteps.{outside_of, rewritten_at}
use Rattle.world_runs.specs.View.{awake_as}
use Rattle.world_runs.specs.Worlds.{IsInOrder, Leads, CoreFits, UpFits}
use Rattle.world_runs.proofs.Forgotten.{at_without, row_in_without, rows_then}
use Rattle.world_runs.proofs.Tables.{same, node_in-new}
use Rattle.forgetting.proofs.Bodies as bodies
use Rattle.forgetting.proofs.Held.{met, was_there}
use Rattle.forgetting.proofs.Named as named
use Rattle.forgetting.proofs.Named.{or_right}
use Rattle.world_safety.specs.Asks.{AreOperations, KnownList}
use Rattle.world_safety.specs.Seen.{file_seen, up_state, kept_seen, nodes_seen, Sees}
use Rattle.world_safety.specs.Events.{RunsAs}
use Rattle.world_safety.specs.Runs.{IsShownBy, LeadsTo, FilesAreRuns}
use Rattle.world_safety.proofs.Leaders.{led_before}
use Rattle.own_messages_wait.proofs.Forgets.{has_listed}
use Rattle.world_safety.proofs.Leading.{tenure_stays, in_tenure, leads_in, leads_as}
use Rattle.world_safety.proofs.May.{steps_stand}
use Rattle.world_safety.proofs.Nodes.{here, put_seen}
use Rattle.world_safety.proofs.Winners.{leader_held}
use Rattle.world_safety.proofs.Shown.{carried}
use Rattle.std.proofs.lemmas.List.{append-nil}

-- ---- one file

abbrev node_of : ℕ → NodeId
node_of n = record { 0 = n }

module _ (file : FileId) (w : World) (own : List Msg) (node : Node) (r : Running) (s : OsdState) (order : IsInOrder w own) (its : RunsAs w node r s) (v : FileWorld) (sees : Sees file w v) where
  abbrev pub f : FileState
  f = file_seen file s

  abbrev pub keep : List KeepBody
  keep = keep_of s

  abbrev pub row : FileRow
  row = row_in (fold_of node.kept).files file

  fits : CoreFits w.times (known w) node.id node.kept r (osd s)
  fits = subst (CoreFits w.times (known w) node.id node.kept r) its.core (subst (UpFits w.times (known w) node.id node.kept) its.up (order.nodes node.id.0 node its.found).up)

  agrees : f.kept ≡ row
  agrees = fits.2 file

  row_then : row_in (fold_of (rewritten keep node.kept)).files file ≡ row_without keep row
  row_then = ap (λ (rows : List FileRow). row_in rows file) (rows_then keep node.kept) ∙ row_in_without keep (fold_of node.kept).files file

  abbrev pub held_then : List ObjectVersion
  held_then = (row_without keep row).held

  abbrev pub body_then : ℕ → Stamp → List ℕ
  body_then = body_by (rewritten keep node.kept) file

  there : v.nodes node.id.0 ≡ kept_seen file node.kept (up_state file node.up)
  there = here file w node its.found v sees

  kept_there : (v.nodes node.id.0).kept ≡ row
  kept_there = ap (λ (x : FileNode). x.kept) there

  -- a held version that is needed stays
  stays : (k : ObjectVersion) → is_needed s.started.node f k ≡ true → has_version row.held k ≡ true → has_version held_then k ≡ true
  stays k need has = by_met (met (awake_as s.started) s.files file)
    where
      has_here : has_version f.kept.held k ≡ true
      has_here = ap (λ (x : FileRow). has_version x.held k) agrees ∙ has

      by_met : Contains s.files f ⊎ (f.kept.held ≡ []) → has_version held_then k ≡ true
      by_met (inl listed) = ap (λ (x : FileRow). has_version (row_without keep x).held k) (sym agrees) ∙ named.needed_kept s f k listed has_here need
      by_met (inr none) = absurd (let no : false ≡ true = sym (ap (λ (held : List ObjectVersion). has_version held k) none) ∙ has_here in cc no)

  is_node : node_of node.id.0 ≡ s.started.node
  is_node = sym (ap (λ (t : Silent). t.node) fits.0.started)

  still : (o : ℕ) (t : Stamp) → has_version held_then (body_of o t) ≡ true → has_version (row_in (folded_without keep (fold_of node.kept)).files file).held (body_of o t) ≡ true
  unfolding folded_without
  still o t has = ap (λ (x : FileRow). has_version x.held (body_of o t)) (row_in_without keep (fold_of node.kept).files file) ∙ has

  pub may_forget : MayForget v node.id.0 f held_then body_then
  may_forget = record {
    runs = (steps_stand file w own node r s v order its sees).runs;
    less = λ k has. ap (λ (x : FileRow). has_version x.held k) kept_there ∙ was_there (is_kept keep row.file) row.held k has;
    same = λ o t has. same_body o t has;
    head = λ k named has. stays k (need_head k (ap (λ (x : FileRow). has_version x.head.versions k) agrees ∙ has_listed row.head.versions k (subst (λ (x : FileRow). Has k x.head.versions) kept_there named)))
        (sym (ap (λ (x : FileRow). has_version x.held k) kept_there) ∙ has);
    led = λ k named has. stays k (need_led k (has_listed (versions_under s.started.node f.primary.tenure) k (subst (λ (n : NodeId). Has k (versions_under n f.primary.tenure)) is_node named)))
        (sym (ap (λ (x : FileRow). has_version x.held k) kept_there) ∙ has);
  }
    where
      need_head : (k : ObjectVersion) → has_version f.kept.head.versions k ≡ true → is_needed s.started.node f k ≡ true
      need_head k has = ap (λ (b : Bool). b || has_version (versions_under s.started.node f.primary.tenure) k || has_version f.staged k) has

      need_led : (k : ObjectVersion) → has_version (versions_under s.started.node f.primary.tenure) k ≡ true → is_needed s.started.node f k ≡ true
      need_led k has = ap (λ (b : Bool). b || has_version f.staged k) (or_right (has_version f.kept.head.versions k) (has_version (versions_under s.started.node f.primary.tenure) k) has)

      same_body : (o : ℕ) (t : Stamp) → has_version held_then (body_of o t) ≡ true → body_then o t ≡ (v.nodes node.id.0).body o t
      same_body o t has = ap (λ (b : Option (List ℕ)). unwrap_or b []) (bodies.keeps keep node.kept file o t (still o t has)) ∙ sym (ap (λ (x : FileNode). x.body o t) there)

  state_then : file_seen file (osd_without keep s) ≡ record f { kept = record f.kept { held = held_then } }
  unfolding osd_without
  state_then = at_without (awake_as s.started) keep s.files file ∙ ap (λ (x : FileRow). record f { kept = record f.kept { held = (row_without keep x).held } }) agrees

  -- the node is then what the world shows
  now_seen : kept_seen file (rewritten keep node.kept) (Some (file_seen file (osd_without keep s)))
      ≡ record { state = Some (record f { kept = record f.kept { held = held_then } }); kept = record (v.nodes node.id.0).kept { held = held_then }; body = body_then }
  now_seen =
      ap (λ (x : FileState). kept_seen file (rewritten keep node.kept) (Some x)) state_then
      ∙ ap (λ (x : FileRow). seen_as x) (row_then ∙ ap (λ (x : FileRow). record x { held = held_then }) (sym kept_there))
    where
      seen_as : FileRow → FileNode
      seen_as x = record { state = Some (record f { kept = record f.kept { held = held_then } }); kept = x; body = body_then }

  pub sees_then : Sees file (record w { nodes = with_node w.nodes (rewritten_at node r s) }) (record v {
    nodes = at_node node.id.0
        (record { state = Some (record f { kept = record f.kept { held = held_then } }); kept = record (v.nodes node.id.0).kept { held = held_then }; body = body_then }) v.nodes;
  })
  sees_then =
      ap (λ (nodes : ℕ → FileNode). at_node node.id.0 (record { state = Some (record f { kept = record f.kept { held = held_then } }); kept = record (v.nodes node.id.0).kept { held = held_then }; body = body_then }) nodes) sees
      ∙ ap (λ (x : FileNode). at_node node.id.0 x (nodes_seen file w)) (sym now_seen)
      ∙ sym (put_seen file w (rewritten_at node r s) node its.found)

-- ---- who leads

seen_without : (file : FileId) (keep : List KeepBody) (s : OsdState) → file_seen file (osd_without keep s) ≡ file_without keep (file_seen file s)
unfolding osd_without
seen_without file keep s = at_without (awake_as s.started) keep s.files file

led_forgetting : (file : FileId) (w : World) (own : List Msg) (node : Node) (r : Running) (s : OsdState) → RunsAs w node r s
    → IsInOrder (record w { nodes = with_node w.nodes (rewritten_at node r s) }) own → (m : ℕ) → Leads (record w { nodes = with_node w.nodes (rewritten_at node r s) }) file m → Leads w file m
led_forgetting file w own node r s its order m lead =
    elim (same m node.id.0) [
      | inl e ↦ subst (Leads w file) (sym e) (at_it (subst (Leads after file) e lead))
      | inr ne ↦ led_before file w after (rewritten_at node r s) m refl ne lead
    ]
  where
    after : World
    after = record w { nodes = with_node w.nodes (rewritten_at node r s) }

    q : Running
    q = record r { core = osd (osd_without (keep_of s) s) }

    now : node_in after.nodes node.id.0 ≡ Some (rewritten_at node r s)
    now = node_in-new w.nodes (rewritten_at node r s) node its.found

    at_it : Leads after file node.id.0 → Leads w file node.id.0
    at_it lead =
        let is_state = leads_in file after node.id.0 lead (rewritten_at node r s) q (osd_without (keep_of s) s) now refl refl in
        let is_running = leads_as file after node.id.0 lead (rewritten_at node r s) q now refl in
        let seen : file_seen file lead.state ≡ file_without (keep_of s) (file_seen file s) = ap (λ (x : OsdState). file_seen file x) is_state ∙ seen_without file (keep_of s) s in
        let held : IsHeld (lease_expired (file_seen file s).lease r.clock)
        = subst (λ (c : Running). IsHeld (lease_expired (file_seen file s).lease c.clock)) is_running
        (subst (λ (x : FileState). IsHeld (lease_expired x.lease lead.running.clock)) seen (leader_held after own file node.id.0 order lead)) in
        record {
          node = node;
          running = r;
          state = s;
          tenure = lead.tenure;
          found = its.found;
          up = its.up;
          core = its.core;
          leads =
              tenure_stays (site_of (outside_of node.kept) (awake_as s.started) r.clock) (file_seen file s) held
              ∙ (ap (λ (x : FileState). x.primary.tenure) (sym seen) ∙ in_tenure after own file node.id.0 order lead);
        }

-- ---- all files

pub forgotten_runs : (w : World) (own : List Msg) (node : Node) (r : Running) (s : OsdState) → RunsAs w node r s → IsInOrder w own
    → IsInOrder (record w { nodes = with_node w.nodes (rewritten_at node r s) }) own → FilesAreRuns w own → FilesAreRuns (record w { nodes = with_node w.nodes (rewritten_at node r s) }) own
forgotten_runs w own node r s its order order_after fit =
    let after : World = record w { nodes = with_node w.nodes (rewritten_at node r s) } in
    carried w after own own [] (sym (append-nil w.entries)) (λ file stripe members listed. listed) each fit
  where
    each : (file : FileId) (stripe : ℕ) (ops : ℕ × ℕ → Op) (members : List ℕ) → KnownList (known w) file stripe members → AreOperations ops file.number w.entries
        → (v : FileWorld) → IsShownBy stripe ops file w own v → LeadsTo stripe ops members file (record w { nodes = with_node w.nodes (rewritten_at node r s) }) own v
    each file stripe ops members listed are v is =
        record {
          events = forgets node.id.0 (file_seen file s) (held_then file w own node r s order its v is.sees) (body_then file w own node r s order its v is.sees) ∷ [];
          may = (may_forget file w own node r s order its v is.sees, tt);
          is =
              record {
                sees = sees_then file w own node r s order its v is.sees;
                leaders = λ m lead. is.leaders m (led_forgetting file w own node r s its order_after m lead);
                sent = is.sent;
                told = is.told;
              };
        }
