-- after any step of an OSD a striped file's world is still shown
use Rattle.std.proofs.Common.{◌≡◌, ◌≢◌, ℕ, ◌<◌, inl, inr, List, [], ◌++◌, refl, ap, sym, ◌∙◌, subst, Option, Some, None}
use Rattle.std.specs.Prelude.{if◌then◌else◌}
use Rattle.xt_base.specs.declared.ids.NodeId.{NodeId}
use Rattle.xt_base.specs.declared.ids.FileId.{FileId}
use Rattle.xt_base.specs.declared.ids.SizeMark.{SizeMark}
use Rattle.xt_base.specs.declared.ids.Stamp.{Stamp}
use Rattle.xt_messages.specs.declared.file.Capability.{Capability}
use Rattle.xt_messages.specs.declared.file.FileHead.{FileHead}
use Rattle.xt_messages.specs.declared.file.Location.{Location}
use Rattle.xt_messages.specs.declared.file.Op.{Op}
use Rattle.xt_messages.specs.declared.reply.Reply.{Reply}
use Rattle.xt_messages.specs.declared.reply.Reply.TheVariants as reply
use Rattle.xt_messages.specs.declared.message.Msg.{Msg}
use Rattle.xt_messages.specs.declared.message.Payload.TheVariants as payload
use Rattle.xt_messages.specs.declared.event.Event.TheVariants as event
use Rattle.xt_messages.specs.declared.record.FileRow.{FileRow}
use Rattle.xt_messages.specs.declared.record.Record.{Record}
use Rattle.lease_safety.specs.State.{Has}
use Rattle.lease_runs.proofs.Tests.{same_node}
use Rattle.lease_runs.proofs.OsdLeases.{at_file}
use Rattle.replica_safety.specs.Epochs.{at_node}
use Rattle.replica_runs.proofs.Tools.{by_node, has-right}
use Rattle.xt_protocol.specs.Folds.{fold_of, row_in}
use Rattle.xt_protocol.specs.FileStates.{FileState, Site, FileStep}
use Rattle.xt_protocol.specs.FileSteps.{step_of_file, replica_acts}
use Rattle.xt_protocol.specs.OsdSteps.{OsdState, OsdStep, file_concerned}
use Rattle.xt_protocol.specs.PlainRows.{plain_step}
use Rattle.xt_protocol.specs.PrimaryRows.{body_beyond}
use Rattle.xt_protocol.specs.ReplicaRows.{kept_after}
use Rattle.xt_protocol.specs.SeenBodies.{body_by}
use Rattle.xt_protocol.specs.Primaries.{if_any}
use Rattle.xt_protocol.specs.StripedRows.{to_client, reply_payload}
use Rattle.xt_protocol.specs.Turns.{message as message_of}
use Rattle.xt_protocol.specs.declared.states.PlainActed.{PlainActed}
use Rattle.file_runs.specs.FileRuns.{FileNode, keeping}
use Rattle.time_line.specs.declared.entry.Halt.{Halt}
use Rattle.world_spec.specs.World.{World, Node, Running}
use Rattle.world_spec.specs.NodeSteps.{to_itself}
use Rattle.world_runs.specs.View.{awake_as, messages}
use Rattle.world_runs.proofs.Lists.{has_right}
use Rattle.world_runs.proofs.Steps.{came}
use Rattle.world_safety.specs.Seen.{file_seen, up_state, kept_seen, nodes_seen}
use Rattle.world_safety.specs.Events.{RunsAs, IsAwake, site_at, step_at, stepped, stopped_with}
use Rattle.world_safety.proofs.Events.{messages_show, is_whole}
use Rattle.world_safety.proofs.Nodes.{here}
use Rattle.striped_safety.specs.Members.{Member, beyond, plain_of}
use Rattle.striped_safety.specs.StripedWorld.{Setting, Asked, Replied, StripedWorld, IsSetting, NotOk, width_of, node_at, acts, whole, kept_alone, acted_at, member_after, replied, ops_of, done_with}
use Rattle.striped_safety.specs.StripedWorld as striped
use Rattle.striped_safety.proofs.Follows.{member_seen, Follows, Calm, alone_rests, begun_rests, reads_rest, caller_rests, client_moved}
use Rattle.striped_safety.proofs.Moves.{step_stands}
use Rattle.striped_safety.proofs.OsdMoves.{view, step_calm, head_alone, one_place}
use Rattle.striped_safety.proofs.OsdRows.{acted_by}

-- a member, by its row and its bodies
abbrev member_of : FileRow → (ℕ → Stamp → List ℕ) → Member
member_of row body = record { head = row.head; body = body }

-- what the member keeps is what the row and the bodies are then
keeps_same : (row : FileRow) (node : NodeId) (body : ℕ → Stamp → List ℕ) (rec : Option Record) → member_of (kept_after row rec) (body_beyond row.file rec body) ≡ beyond row.file node (member_of row body) rec
keeps_same row node body rec = ap (λ (h : FileHead). let x : Member = record { head = h; body = body_beyond row.file rec body } in x) (head_alone row rec)

-- ---- a member does an ask

module _ (s : Setting) (setting : IsSetting s) (w : World) (was own : List Msg) (node : Node) (r : Running) (o : OsdState) (msg : Msg) (outs : List Msg) (its : RunsAs w node r o) (awake : IsAwake r o) (number : ℕ) (capability : Capability) (asked : Op) where
  abbrev f : FileState
  f = file_seen s.file o

  abbrev site : Site
  site = site_at node r o

  abbrev a : Asked
  a = record { number = number; epoch = capability.epoch; op = asked }

  -- the step is that of the member at a place, under the client's id
  pub record Does (m : StripedWorld) (place : ℕ) : Type 0 where
    pub low : place < width_of s
    pub at : (node_at s place).0 ≡ node.id.0
    pub content : msg.payload ≡ payload.Ask number capability asked
    pub file : capability.file ≡ s.file
    pub location : capability.location ≡ s.location
    pub from : msg.from ≡ s.client
    pub sent : Has (record { number = number; epoch = capability.epoch; op = asked }) m.asks
    pub stays : striped.StaysIn s asked
    pub self : (site_at node r o).node ≡ node.id
    pub agrees : (file_seen s.file o).kept ≡ row_in (fold_of node.kept).files s.file
    pub step : step_of_file (site_at node r o) (file_seen s.file o) msg.from msg.payload
        ≡ replica_acts (site_at node r o) (file_seen s.file o) msg.from (to_client (file_seen s.file o).kept.file (record { client = msg.from; number = number }) (acted_by (site_at node r o) (file_seen s.file o).kept (record { client = msg.from; number = number }) capability asked))

  module _ (m : StripedWorld) (place : ℕ) (does : Does m place) (member : m.members place ≡ member_seen (nodes_seen s.file w (node_at s place).0)) where
    its_file : (file_seen s.file o).kept.file ≡ s.file
    its_file = at_file (awake_as o.started) o.files s.file

    seen_here : nodes_seen s.file w node.id.0 ≡ kept_seen s.file node.kept (up_state s.file node.up)
    seen_here = here s.file w node its.found (view s.file w) refl

    own_node : node_at s place ≡ (site_at node r o).node
    own_node = same_node (node_at s place) node.id does.at ∙ sym does.self

    row_here : (nodes_seen s.file w node.id.0).kept ≡ (file_seen s.file o).kept
    row_here = ap (λ (x : FileNode). x.kept) seen_here ∙ sym does.agrees

    body_here : (nodes_seen s.file w node.id.0).body ≡ (site_at node r o).body (file_seen s.file o).kept.file
    body_here = ap (λ (x : FileNode). x.body) seen_here ∙ ap (body_by node.kept) (sym its_file)

    member_is : m.members place ≡ member_of (file_seen s.file o).kept ((site_at node r o).body (file_seen s.file o).kept.file)
    member_is =
        member ∙ (ap (λ (n : ℕ). member_seen (nodes_seen s.file w n)) does.at
        ∙ (ap (λ (row : FileRow). member_of row (nodes_seen s.file w node.id.0).body) row_here ∙ ap (member_of (file_seen s.file o).kept) body_here))

    acted_is : acted_at s m place (record { number = number; epoch = capability.epoch; op = asked }) ≡ acted_by (site_at node r o) (file_seen s.file o).kept (record { client = msg.from; number = number }) capability asked
    acted_is =
        let body = (site_at node r o).body (file_seen s.file o).kept.file in
        let mm = member_of (file_seen s.file o).kept ((site_at node r o).body (file_seen s.file o).kept.file) in
        ap (λ (x : Member). plain_step (plain_of s.file (node_at s place) x) x.body (record { client = s.client; number = number }) capability.epoch s.location asked) member_is
        ∙ (ap (λ (g : FileId). plain_step (plain_of g (node_at s place) mm) body (record { client = s.client; number = number }) capability.epoch s.location asked) (sym its_file)
        ∙ (ap (λ (n : NodeId). plain_step (plain_of (file_seen s.file o).kept.file n mm) body (record { client = s.client; number = number }) capability.epoch s.location asked) own_node
        ∙ (ap (λ (c : NodeId). plain_step (plain_of (file_seen s.file o).kept.file (site_at node r o).node mm) body (record { client = c; number = number }) capability.epoch s.location asked) (sym does.from)
        ∙ ap (λ (l : Location). plain_step (plain_of (file_seen s.file o).kept.file (site_at node r o).node mm) body (record { client = msg.from; number = number }) capability.epoch l asked) (sym does.location))))

    -- the member then
    member_then : (state : Option FileState) (rec : Option Record) → rec ≡ (acted_at s m place (record { number = number; epoch = capability.epoch; op = asked })).rec
        → member_seen (keeping (nodes_seen s.file w node.id.0) state rec) ≡ member_after s m place (record { number = number; epoch = capability.epoch; op = asked })
    member_then state rec is =
        ap (λ (row : FileRow). member_of (kept_after row rec) (body_beyond row.file rec (nodes_seen s.file w node.id.0).body)) row_here
        ∙ (ap (λ (b : ℕ → Stamp → List ℕ). member_of (kept_after (file_seen s.file o).kept rec) (body_beyond (file_seen s.file o).kept.file rec b)) body_here
        ∙ (keeps_same (file_seen s.file o).kept (node_at s place) ((site_at node r o).body (file_seen s.file o).kept.file) rec
        ∙ (ap (λ (x : Member). beyond (file_seen s.file o).kept.file (node_at s place) x rec) (sym member_is)
        ∙ (ap (λ (g : FileId). beyond g (node_at s place) (m.members place) rec) its_file ∙ ap (beyond s.file (node_at s place) (m.members place)) is))))

    -- all members then
    members_then : (after : World) (state : Option FileState) (rec : Option Record) → rec ≡ (acted_at s m place (record { number = number; epoch = capability.epoch; op = asked })).rec
        → at_node node.id.0 (keeping (nodes_seen s.file w node.id.0) state rec) (nodes_seen s.file w) ≡ nodes_seen s.file after
        → ((q : ℕ) → q < width_of s → m.members q ≡ member_seen (nodes_seen s.file w (node_at s q).0))
        → (q : ℕ) → q < width_of s → at_node place (member_after s m place (record { number = number; epoch = capability.epoch; op = asked })) m.members q ≡ member_seen (nodes_seen s.file after (node_at s q).0)
    members_then after state rec is sees each q low =
        by_node (λ b. (if b then member_after s m place (record { number = number; epoch = capability.epoch; op = asked }) else m.members q) ≡ member_seen (nodes_seen s.file after (node_at s q).0)) q place
        (λ e. sym (member_then state rec is) ∙ (sym at_own ∙ (ap (λ (f : ℕ → FileNode). member_seen (f node.id.0)) sees ∙ ap (λ (n : ℕ). member_seen (nodes_seen s.file after n)) (sym does.at ∙ ap (λ (k : ℕ). (node_at s k).0) (sym e)))))
        (λ ne. each q low ∙ (sym (at_other (λ same. ne (one_place s setting.members q place low does.low (same ∙ sym does.at)))) ∙ ap (λ (f : ℕ → FileNode). member_seen (f (node_at s q).0)) sees))
      where
        at_own : member_seen (at_node node.id.0 (keeping (nodes_seen s.file w node.id.0) state rec) (nodes_seen s.file w) node.id.0) ≡ member_seen (keeping (nodes_seen s.file w node.id.0) state rec)
        at_own = by_node (λ b. member_seen (if b then keeping (nodes_seen s.file w node.id.0) state rec else nodes_seen s.file w node.id.0) ≡ member_seen (keeping (nodes_seen s.file w node.id.0) state rec)) node.id.0 node.id.0 (λ _. refl) (λ ne. absurd (ne refl))

        at_other : (node_at s q).0 ≢ node.id.0 → member_seen (at_node node.id.0 (keeping (nodes_seen s.file w node.id.0) state rec) (nodes_seen s.file w) (node_at s q).0) ≡ member_seen (nodes_seen s.file w (node_at s q).0)
        at_other ne = by_node (λ b. member_seen (if b then keeping (nodes_seen s.file w node.id.0) state rec else nodes_seen s.file w (node_at s q).0) ≡ member_seen (nodes_seen s.file w (node_at s q).0)) (node_at s q).0 node.id.0 (λ e. absurd (ne e)) (λ _. refl)

    step_rec : (step_of_file (site_at node r o) (file_seen s.file o) msg.from msg.payload).turned.rec ≡ (acted_at s m place (record { number = number; epoch = capability.epoch; op = asked })).rec
    step_rec = ap (λ (x : FileStep). x.turned.rec) does.step ∙ ap (λ (x : PlainActed). x.rec) (sym acted_is)

    -- the one reply of the step
    replied_so : (k : Msg) → Has k (step_of_file (site_at node r o) (file_seen s.file o) msg.from msg.payload).turned.outs → (answer : Reply) × (k ≡ message_of (site_at node r o).node msg.from (payload.Reply number s.file answer))
        × ((acted_at s m place (record { number = number; epoch = capability.epoch; op = asked })).reply ≡ Some answer)
    replied_so k h = at (acted_by (site_at node r o) (file_seen s.file o).kept (record { client = msg.from; number = number }) capability asked).reply refl (subst (λ (x : FileStep). Has k x.turned.outs) does.step h)
      where
        at : (answer : Option Reply) → (acted_by (site_at node r o) (file_seen s.file o).kept (record { client = msg.from; number = number }) capability asked).reply ≡ answer
            → Has k (if_any (site_at node r o).node msg.from (reply_payload (file_seen s.file o).kept.file (record { client = msg.from; number = number }) answer))
            → (answer : Reply) × (k ≡ message_of (site_at node r o).node msg.from (payload.Reply number s.file answer)) × ((acted_at s m place (record { number = number; epoch = capability.epoch; op = asked })).reply ≡ Some answer)
        at None is out = absurd out
        at (Some answer) is (inl e) = (answer, e ∙ ap (λ (g : FileId). message_of (site_at node r o).node msg.from (payload.Reply number g answer)) its_file, ap (λ (x : PlainActed). x.reply) acted_is ∙ is)
        at (Some answer) is (inr none) = absurd none

    told : (k : Msg) → Has k (step_of_file (site_at node r o) (file_seen s.file o) msg.from msg.payload).turned.outs → (number_told place_told count : ℕ) (size : SizeMark) (bytes : List ℕ)
        → k.payload ≡ payload.Reply number_told s.file (reply.Ok count size bytes) → place_told < width_of s → k.from.0 ≡ (node_at s place_told).0
        → Has (record { place = place_told; number = number_told; answer = reply.Ok count size bytes }) (replied place number (acted_at s m place (record { number = number; epoch = capability.epoch; op = asked })).reply ++ m.replies)
    told k h number_told place_told count size bytes content low from =
        let one = replied_so k h in
        let answer_is : payload.Reply number s.file one.0 ≡ payload.Reply number_told s.file (reply.Ok count size bytes) = sym (ap (λ (x : Msg). x.payload) one.1) ∙ content in
        let same_number : number ≡ number_told = cc answer_is in
        let same_answer : one.0 ≡ reply.Ok count size bytes = cc answer_is in
        let same_place : place_told ≡ place = one_place s setting.members place_told place low does.low (sym from ∙ (ap (λ (x : Msg). x.from.0) one.1 ∙ ap (λ (x : NodeId). x.0) (sym own_node))) in
        subst (λ (q : ℕ). Has (record { place = q; number = number_told; answer = reply.Ok count size bytes }) (replied place number (acted_at s m place (record { number = number; epoch = capability.epoch; op = asked })).reply ++ m.replies)) (sym same_place)
        (subst (λ (n : ℕ). Has (record { place = place; number = n; answer = reply.Ok count size bytes }) (replied place number (acted_at s m place (record { number = number; epoch = capability.epoch; op = asked })).reply ++ m.replies)) same_number
        (subst (λ (x : Reply). Has (record { place = place; number = number; answer = x }) (replied place number (acted_at s m place (record { number = number; epoch = capability.epoch; op = asked })).reply ++ m.replies)) same_answer
        (subst (λ (x : Option Reply). Has (record { place = place; number = number; answer = one.0 }) (replied place number x ++ m.replies)) (sym one.2) (inl refl))))

    -- the step is done
    pub acts_follow : ((k : Msg) → Has k own → Has k was) → ((k : Msg) → Has k outs → Has k (step_at node r o (event.Deliver msg)).turned.outs) → file_concerned msg.payload ≡ Some s.file → Follows s w was m
        → Follows s (stepped w node r o (event.Deliver msg) outs) (own ++ to_itself node.id outs) (striped.after s m (acts place (record { number = number; epoch = capability.epoch; op = asked }) whole))
    acts_follow within fewer concerns is =
        record {
          stands = step_stands s setting m (acts place (record { number = number; epoch = capability.epoch; op = asked }) whole) (does.low, does.sent, does.stays) is.stands;
          members = members_then (stepped w node r o (event.Deliver msg) outs) (Some (step_of_file (site_at node r o) (file_seen s.file o) msg.from msg.payload).state)
              (step_of_file (site_at node r o) (file_seen s.file o) msg.from msg.payload).turned.rec step_rec ((messages_show s.file w node r o msg (view s.file w) its awake concerns refl).takes outs) is.members;
          asks = λ k h n c op content file. elim (came own was outs w node.id w.nodes k within h) [
            | inl mine ↦ absurd (let one = replied_so k (out k mine) in let both = sym (ap (λ (x : Msg). x.payload) one.1) ∙ content in cc both)
            | inr old ↦ is.asks k old n c op content file
          ];
          replies = λ k h n q count size bytes content low from. elim (came own was outs w node.id w.nodes k within h) [
            | inl mine ↦ told k (out k mine) n q count size bytes content low from
            | inr old ↦ has-right (record { place = q; number = n; answer = reply.Ok count size bytes }) (replied place number (acted_at s m place (record { number = number; epoch = capability.epoch; op = asked })).reply) m.replies
                (is.replies k old n q count size bytes content low from)
          ];
          alone = alone_rests s w (stepped w node r o (event.Deliver msg) outs) calm is.alone;
          begun = begun_rests s w (stepped w node r o (event.Deliver msg) outs) calm (ops_of (done_with m.done m.runs)) is.begun;
          reads = reads_rest s w (stepped w node r o (event.Deliver msg) outs) calm m.reads is.reads;
          caller = λ n q c runs. client_moved s (stepped w node r o (event.Deliver msg) outs).entries m _ _ c (caller_rests s w (stepped w node r o (event.Deliver msg) outs) calm m is.caller n q c runs);
          unborn = λ none. is.unborn (calm.absent none);
        }
      where
        calm : Calm s w (stepped w node r o (event.Deliver msg) outs)
        calm = step_calm s w node r o (event.Deliver msg) outs its

        out : (k : Msg) → Has k outs → Has k (step_of_file (site_at node r o) (file_seen s.file o) msg.from msg.payload).turned.outs
        out k h = subst (λ (x : OsdStep). Has k x.turned.outs) (is_whole s.file node r o msg awake concerns) (fewer k h)

    -- or it stops once its record is kept
    pub kept_follow : (rec : Record) (how : Halt) → file_concerned msg.payload ≡ Some s.file → (step_at node r o (event.Deliver msg)).turned.rec ≡ Some rec → Calm s w (stopped_with w node r o (event.Deliver msg) rec how) → Follows s w was m
        → Follows s (stopped_with w node r o (event.Deliver msg) rec how) [] (striped.after s m (acts place (record { number = number; epoch = capability.epoch; op = asked }) kept_alone))
    kept_follow rec how concerns is_rec calm is =
        record {
          stands = step_stands s setting m (acts place (record { number = number; epoch = capability.epoch; op = asked }) kept_alone) (does.low, does.sent, does.stays) is.stands;
          members = members_then (stopped_with w node r o (event.Deliver msg) rec how) None (step_of_file (site_at node r o) (file_seen s.file o) msg.from msg.payload).turned.rec step_rec
              ((messages_show s.file w node r o msg (view s.file w) its awake concerns refl).keeps rec how is_rec) is.members;
          asks = λ k h. is.asks k (has_right k was (messages w) h);
          replies = λ k h. is.replies k (has_right k was (messages w) h);
          alone = alone_rests s w (stopped_with w node r o (event.Deliver msg) rec how) calm is.alone;
          begun = begun_rests s w (stopped_with w node r o (event.Deliver msg) rec how) calm (ops_of (done_with m.done m.runs)) is.begun;
          reads = reads_rest s w (stopped_with w node r o (event.Deliver msg) rec how) calm m.reads is.reads;
          caller = λ n q c runs. client_moved s (stopped_with w node r o (event.Deliver msg) rec how).entries m _ m.replies c (caller_rests s w (stopped_with w node r o (event.Deliver msg) rec how) calm m is.caller n q c runs);
          unborn = λ none. is.unborn (calm.absent none);
        }
