-- whatever an OSD does, a striped file's world is shown after it
use Rattle.std.proofs.Common.{◌≡◌, ℕ, ◌<◌, inl, inr, List, [], ◌∷◌, ◌++◌, refl, ap, sym, ◌∙◌, subst, Option, Some, None, false}
use Rattle.std.specs.Prelude.{◌⊎◌, if◌then◌else◌}
use Rattle.xt_base.specs.MemberList.{has_node}
use Rattle.xt_base.specs.declared.ids.NodeId.{NodeId}
use Rattle.xt_base.specs.declared.ids.FileId.{FileId}
use Rattle.xt_base.specs.declared.ids.OpId.{OpId}
use Rattle.xt_messages.specs.declared.file.Capability.{Capability}
use Rattle.xt_messages.specs.declared.file.Kind.TheVariants as kind
use Rattle.xt_messages.specs.declared.file.Location.{Location}
use Rattle.xt_messages.specs.declared.file.Op.{Op}
use Rattle.xt_messages.specs.declared.reply.Reply.{Reply}
use Rattle.xt_messages.specs.declared.reply.Reply.TheVariants as reply
use Rattle.xt_messages.specs.declared.reply.Denial.TheVariants as denial
use Rattle.xt_messages.specs.declared.message.Msg.{Msg}
use Rattle.xt_messages.specs.declared.message.Payload.{Payload}
use Rattle.xt_messages.specs.declared.message.Payload.TheVariants as payload
use Rattle.xt_messages.specs.declared.event.Event.{Event}
use Rattle.xt_messages.specs.declared.event.Event.TheVariants as event
use Rattle.xt_messages.specs.declared.record.FileRow.{FileRow}
use Rattle.xt_messages.specs.declared.record.Record.{Record}
use Rattle.lease_safety.specs.State.{Has}
use Rattle.lease_runs.proofs.OsdLeases.{woken_step}
use Rattle.lease_runs.proofs.ActSteps.{woken_quiet}
use Rattle.replica_safety.specs.Epochs.{at_node}
use Rattle.replica_runs.proofs.Tools.{by_node}
use Rattle.xt_protocol.specs.AskRows.{leaves_object}
use Rattle.xt_protocol.specs.FileStates.{FileState, Site, FileStep, nothing}
use Rattle.xt_protocol.specs.FileSteps.{step_of_file, replica_acts}
use Rattle.xt_protocol.specs.LeaseRows.{Silent}
use Rattle.xt_protocol.specs.OsdSteps.{OsdState, OsdStep, file_concerned}
use Rattle.xt_protocol.specs.Primaries.{if_any}
use Rattle.xt_protocol.specs.ReplicaRows.{kept_after, only}
use Rattle.xt_protocol.specs.StripedRows.{handle_striped, to_client, reply_payload}
use Rattle.xt_protocol.specs.declared.states.Acted.{Acted}
use Rattle.xt_protocol.specs.declared.states.PlainActed.{PlainActed}
use Rattle.file_runs.specs.FileRuns.{FileNode, keeping}
use Rattle.time_line.specs.TimeLine.{id_of, operation_begun}
use Rattle.time_line.specs.declared.entry.Halt.{Halt}
use Rattle.time_line.specs.declared.entry.Entry.TheVariants as entry
use Rattle.world_spec.specs.World.{World, Node, Running, osd, node_in, known, puts}
use Rattle.world_spec.specs.NodeSteps.{outside_of, to_itself, one_more, one_put, halted}
use Rattle.world_runs.specs.View.{awake_as, messages}
use Rattle.world_runs.specs.Worlds.{PayloadFits, CoreFits}
use Rattle.world_runs.proofs.Calls.{ContentIs}
use Rattle.world_runs.proofs.Files.{at_fits}
use Rattle.world_runs.proofs.Fit.{IsFit}
use Rattle.world_runs.proofs.Lists.{has_right}
use Rattle.world_runs.proofs.Steps.{Fits, came}
use Rattle.world_runs.proofs.Walk.{Reaches}
use Rattle.world_safety.specs.Seen.{file_seen, nodes_seen, IsNotOf}
use Rattle.world_safety.specs.Events.{RunsAs, IsAwake, site_at, step_at, stepped, stopped_with}
use Rattle.world_safety.proofs.Events.{messages_show, message_leaves, wake_leaves, is_whole, same_rec}
use Rattle.world_safety.proofs.Nodes.{here, lost}
use Rattle.world_safety.proofs.OsdFiles.{AtFile, left, messaged, woken_up, at_file_of, woken_about}
use Rattle.striped_safety.specs.StripedWorld.{Setting, StripedWorld, IsSetting, NotOk, StaysIn, width_of, node_at, acts, whole, kept_alone}
use Rattle.striped_safety.specs.StripedWorld as striped
use Rattle.striped_safety.proofs.Callers.{put_callers, put_absent}
use Rattle.striped_safety.proofs.Follows.{id_in, setting_of, IsAskOrReply, Follows, FileFollows, Calm, Rests, IsNothing, lost_rests, file_rests}
use Rattle.striped_safety.proofs.Named.{IsMembers, member_stays}
use Rattle.striped_safety.proofs.OsdFollows.{Does, acts_follow, kept_follow}
use Rattle.striped_safety.proofs.OsdMoves.{view, step_calm, step_rests, place_of_node, stranger_denies}
use Rattle.striped_safety.proofs.OsdRows.{IsPlain, plain_of, wake_rests, reply_rests, ask_acts, acted_by, IsRow, refuses, handled_row}
use Rattle.striped_safety.proofs.OsdRows as rows
use Rattle.striped_safety.proofs.Replies.{core_fits}
use Rattle.striped_safety.proofs.TheFile.{IsTheFile, known_as}
use Rattle.striped_safety.proofs.Trace.{one_still}

-- ---- nodes that stop

pub at_same : (f : ℕ → FileNode) (n : ℕ) (x : FileNode) → x.kept ≡ (f n).kept → (m : ℕ) → (at_node n x f m).kept ≡ (f m).kept
at_same f n x is m = by_node (λ b. (if b then x else f m).kept ≡ (f m).kept) m n (λ e. is ∙ ap (λ (k : ℕ). (f k).kept) (sym e)) (λ _. refl)

pub at_body : (f : ℕ → FileNode) (n : ℕ) (x : FileNode) → x.body ≡ (f n).body → (m : ℕ) → (at_node n x f m).body ≡ (f m).body
at_body f n x is m = by_node (λ b. (if b then x else f m).body ≡ (f m).body) m n (λ e. is ∙ ap (λ (k : ℕ). (f k).body) (sym e)) (λ _. refl)

at_row : (P : FileRow → Type 0) (f : ℕ → FileNode) (n : ℕ) (x : FileNode) → P x.kept → (m : ℕ) → P (f m).kept → P (at_node n x f m).kept
at_row P f n x here m there = by_node (λ b. P (if b then x else f m).kept) m n (λ _. here) (λ _. there)

-- a node stops; what it keeps more isn't of the file
pub halted_calm : (s : Setting) (w : World) (node old : Node) (r : Running) (how : Halt) → node_in w.nodes node.id.0 ≡ Some old → Calm s w (halted w node r how)
halted_calm s w node old r how found =
    record {
      more = entry.Down node.id r.clock how ∷ [];
      split = refl;
      still = one_still (entry.Down node.id r.clock how) tt;
      caller = put_callers s.file.number s.client.0 w (halted w node r how) old (record node { up = None }) found refl (λ q c up core. absurd (cc up));
      absent = put_absent w.nodes old (record node { up = None }) s.client.0 found;
    }

pub halted_rests : (s : Setting) (w : World) (own : List Msg) (node : Node) (r : Running) (how : Halt) (rec : Option Record) → node_in w.nodes node.id.0 ≡ Some node → IsNotOf s.file rec
    → Rests s w (halted w (record node { kept = one_more node.kept rec; past = one_put node.past rec }) r how) own []
halted_rests s w own node r how rec found away =
    let after = halted w (record node { kept = one_more node.kept rec; past = one_put node.past rec }) r how in
    let same : at_node node.id.0 (keeping (nodes_seen s.file w node.id.0) None None) (nodes_seen s.file w) ≡ nodes_seen s.file after = lost s.file w node found (view s.file w) refl rec away in
    record {
      calm = halted_calm s w (record node { kept = one_more node.kept rec; past = one_put node.past rec }) node r how found;
      kept = λ n. ap (λ (f : ℕ → FileNode). (f n).kept) (sym same) ∙ at_same (nodes_seen s.file w) node.id.0 (keeping (nodes_seen s.file w node.id.0) None None) refl n;
      body = λ n. ap (λ (f : ℕ → FileNode). (f n).body) (sym same) ∙ at_body (nodes_seen s.file w) node.id.0 (keeping (nodes_seen s.file w node.id.0) None None) refl n;
      fewer = λ k h about. inl (has_right k own (messages w) h);
    }

-- ---- an OSD in a world

module _ (vol : List ℕ) (number : ℕ) (location : Location) (who : NodeId) (of_kind : location.kind ≡ kind.Striped) (setting : IsSetting (setting_of vol number location who)) (w : World) (was : List Msg) (fit : IsFit w was) (ends : Fits w was) (listed : IsTheFile vol number location w)
    (is : FileFollows vol number location who w was) (node : Node) (r : Running) (o : OsdState) (its : RunsAs w node r o) where
  abbrev s : Setting
  s = setting_of vol number location who

  abbrev file : FileId
  file = id_in vol number

  fits : CoreFits w.times (known w) node.id node.kept r (osd o)
  fits = core_fits w was node r o fit its

  unlisted : (file_seen (id_in vol number) o).kept.location ≡ None
  unlisted =
      ap (λ (row : FileRow). row.location) (fits.2 (id_in vol number))
      ∙ (ap (λ (x : FileNode). x.kept.location) (sym (here (id_in vol number) w node its.found (view (id_in vol number) w) refl)) ∙ (is.quiet.members node.id.0).0)

  is_plain : IsPlain (file_seen (id_in vol number) o)
  is_plain = plain_of (file_seen (id_in vol number) o) (at_fits (known w) (awake_as o.started) o.files (id_in vol number) fits.0.fits).sound unlisted

  self : (site_at node r o).node ≡ node.id
  self = ap (λ (t : Silent). t.node) fits.0.started

  -- What a message about the file does: nothing; it is an ask that is denied; or the member at a place does it.
  data Comes (msg : Msg) : Type 0 where
    nothing_does : step_of_file (site_at node r o) (file_seen (id_in vol number) o) msg.from msg.payload ≡ nothing (file_seen (id_in vol number) o) → Comes msg
    denied : (k : ℕ) (answer : Reply) → NotOk answer
        → step_of_file (site_at node r o) (file_seen (id_in vol number) o) msg.from msg.payload
        ≡ replica_acts (site_at node r o) (file_seen (id_in vol number) o) msg.from (only (payload.Reply k (file_seen (id_in vol number) o).kept.file answer)) → Comes msg
    does : (k : ℕ) (capability : Capability) (asked : Op) (place : ℕ) → place < width_of (setting_of vol number location who) → (node_at (setting_of vol number location who) place).0 ≡ node.id.0
        → msg.payload ≡ payload.Ask k capability asked → capability.file ≡ id_in vol number → capability.location ≡ location → StaysIn (setting_of vol number location who) asked
        → step_of_file (site_at node r o) (file_seen (id_in vol number) o) msg.from msg.payload
        ≡ replica_acts (site_at node r o) (file_seen (id_in vol number) o) msg.from
        (to_client (file_seen (id_in vol number) o).kept.file (record { client = msg.from; number = k }) (acted_by (site_at node r o) (file_seen (id_in vol number) o).kept (record { client = msg.from; number = k }) capability asked))
        → ((x : FileRow) → IsMembers x → IsMembers (kept_after x (step_of_file (site_at node r o) (file_seen (id_in vol number) o) msg.from msg.payload).turned.rec)) → Comes msg

  some_file : (a b : FileId) → Some a ≡ Some b → a ≡ b
  some_file a b e = cc e

  comes : (msg : Msg) → Has msg (was ++ messages w) → file_concerned msg.payload ≡ Some (id_in vol number) → Comes msg
  comes msg has concerns = at msg.payload refl (is.quiet.asked msg has concerns) (fit.shape.payloads msg has)
    where
      asked_so : (k : ℕ) (capability : Capability) (asked : Op) → msg.payload ≡ payload.Ask k capability asked → PayloadFits (known w) (payload.Ask k capability asked) → Comes msg
      asked_so k capability asked content declared = by_row (handle_striped site f.kept id capability asked) refl (handled_row site f.kept id capability asked)
        where
          site : Site
          site = site_at node r o

          f : FileState
          f = file_seen (id_in vol number) o

          id : OpId
          id = record { client = msg.from; number = k }

          its_file : capability.file ≡ id_in vol number
          its_file = some_file capability.file (id_in vol number) (sym (ap file_concerned content) ∙ concerns)

          its_list : capability.location ≡ location
          its_list = (listed.known capability.file capability.location declared (ap (λ (g : FileId). g.number) its_file)).1

          acts_so : step_of_file (site_at node r o) (file_seen (id_in vol number) o) msg.from msg.payload
              ≡ replica_acts (site_at node r o) (file_seen (id_in vol number) o) msg.from (handle_striped (site_at node r o) (file_seen (id_in vol number) o).kept (record { client = msg.from; number = k }) capability asked)
          acts_so =
              ap (step_of_file (site_at node r o) (file_seen (id_in vol number) o) msg.from) content
              ∙ ask_acts (site_at node r o) (file_seen (id_in vol number) o) msg.from k capability asked (ap (λ (l : Location). l.kind) its_list ∙ of_kind) is_plain

          stays : (x : FileRow) → IsMembers x → IsMembers (kept_after x (step_of_file (site_at node r o) (file_seen (id_in vol number) o) msg.from msg.payload).turned.rec)
          stays x members =
              subst (λ (t : FileStep). IsMembers (kept_after x t.turned.rec)) (sym acts_so)
              (member_stays (site_at node r o) (file_seen (id_in vol number) o).kept (record { client = msg.from; number = k }) capability asked x members)

          by_place : leaves_object capability.location.stripe asked ≡ false
              → step_of_file (site_at node r o) (file_seen (id_in vol number) o) msg.from msg.payload
              ≡ replica_acts (site_at node r o) (file_seen (id_in vol number) o) msg.from
              (to_client (file_seen (id_in vol number) o).kept.file (record { client = msg.from; number = k }) (acted_by (site_at node r o) (file_seen (id_in vol number) o).kept (record { client = msg.from; number = k }) capability asked))
              → ((place : ℕ) × (place < width_of (setting_of vol number location who)) × ((node_at (setting_of vol number location who) place).0 ≡ node.id.0)) ⊎ (has_node location.members node.id.0 ≡ false) → Comes msg
          by_place inside step (inl place) = does k capability asked place.0 place.1 place.2 content its_file its_list (ap (λ (l : Location). leaves_object l.stripe asked) (sym its_list) ∙ inside) step stays
          by_place inside step (inr none) =
              denied k (reply.Denied denial.List) tt
              (step ∙ ap (λ (x : PlainActed). replica_acts (site_at node r o) (file_seen (id_in vol number) o) msg.from (to_client (file_seen (id_in vol number) o).kept.file (record { client = msg.from; number = k }) x))
              (stranger_denies (record { file = (file_seen (id_in vol number) o).kept.file; node = (site_at node r o).node; head = (file_seen (id_in vol number) o).kept.head }) ((site_at node r o).body (file_seen (id_in vol number) o).kept.file)
              (record { client = msg.from; number = k }) capability.epoch capability.location asked (ap (λ (l : Location). has_node l.members (site_at node r o).node.0) its_list ∙ (ap (λ (n : NodeId). has_node location.members n.0) self ∙ none))))

          by_row : (acted : Acted) → handle_striped (site_at node r o) (file_seen (id_in vol number) o).kept (record { client = msg.from; number = k }) capability asked ≡ acted
              → IsRow (site_at node r o) (file_seen (id_in vol number) o).kept (record { client = msg.from; number = k }) capability asked acted → Comes msg
          by_row _ same (refuses answer not) = denied k answer not (acts_so ∙ ap (replica_acts (site_at node r o) (file_seen (id_in vol number) o) msg.from) same)
          by_row _ same (rows.acts inside) = by_place inside (acts_so ∙ ap (replica_acts (site_at node r o) (file_seen (id_in vol number) o) msg.from) same) (place_of_node location.members node.id.0)

      at : (content : Payload) → msg.payload ≡ content → IsAskOrReply content → PayloadFits (known w) content → Comes msg
      at (payload.Ask k capability asked) content ok declared = asked_so k capability asked content declared
      at (payload.Reply k g answer) content ok declared =
          nothing_does (ap (step_of_file (site_at node r o) (file_seen (id_in vol number) o) msg.from) content ∙ reply_rests (site_at node r o) (file_seen (id_in vol number) o) msg.from k g answer is_plain)
      at _ content other declared = absurd other

  -- ---- a message

  no_kept : (rec : Record) (x : Option Record) → x ≡ None → x ≡ Some rec → ⊥
  no_kept rec x none some = let both : None ≡ Some rec = sym none ∙ some in cc both

  module _ (own : List Msg) (outs : List Msg) (msg : Msg) (awake : IsAwake r o) (has : Has msg (was ++ messages w)) (concerns : file_concerned msg.payload ≡ Some (id_in vol number)) where
    -- the client's ask, as an operation of the file's world
    done_by : (m : StripedWorld) → Follows (setting_of vol number location who) w was m → (k : ℕ) (capability : Capability) (asked : Op) (place : ℕ) → place < width_of (setting_of vol number location who)
        → (node_at (setting_of vol number location who) place).0 ≡ node.id.0 → msg.payload ≡ payload.Ask k capability asked → capability.file ≡ id_in vol number → capability.location ≡ location → StaysIn (setting_of vol number location who) asked
        → step_of_file (site_at node r o) (file_seen (id_in vol number) o) msg.from msg.payload
        ≡ replica_acts (site_at node r o) (file_seen (id_in vol number) o) msg.from
        (to_client (file_seen (id_in vol number) o).kept.file (record { client = msg.from; number = k }) (acted_by (site_at node r o) (file_seen (id_in vol number) o).kept (record { client = msg.from; number = k }) capability asked))
        → Does (setting_of vol number location who) setting w was own node r o msg outs its awake k capability asked m place
    done_by m follows k capability asked place low at content its_file its_list inside step =
        let begun = subst (ContentIs w.entries msg.from msg.to) content (ends.messages msg has) in
        record {
          low = low;
          at = at;
          content = content;
          file = its_file;
          location = its_list;
          from = follows.alone (id_of msg.from k) (asked, subst (λ (g : FileId). operation_begun g.number w.entries (id_of msg.from k) ≡ Some asked) its_file begun.0);
          sent = follows.asks msg has k capability asked content its_file;
          stays = inside;
          self = self;
          agrees = fits.2 (id_in vol number);
          step = step;
        }

    -- what the step sends
    out_of : ((k : Msg) → Has k outs → Has k (step_at node r o (event.Deliver msg)).turned.outs) → (k : Msg) → Has k outs → Has k (step_of_file (site_at node r o) (file_seen (id_in vol number) o) msg.from msg.payload).turned.outs
    out_of fewer k h = subst (λ (x : OsdStep). Has k x.turned.outs) (is_whole (id_in vol number) node r o msg awake concerns) (fewer k h)

    state_of : (step : FileStep) → step_of_file (site_at node r o) (file_seen (id_in vol number) o) msg.from msg.payload ≡ step → step.state ≡ file_seen (id_in vol number) o → file_seen (id_in vol number) (step_at node r o (event.Deliver msg)).osd ≡ file_seen (id_in vol number) o
    state_of step is_step same = message_leaves (id_in vol number) node r o msg awake concerns ∙ (ap (λ (x : FileStep). x.state) is_step ∙ same)

    rec_of : (step : FileStep) → step_of_file (site_at node r o) (file_seen (id_in vol number) o) msg.from msg.payload ≡ step → (step_at node r o (event.Deliver msg)).turned.rec ≡ step.turned.rec
    rec_of step is_step = same_rec (id_in vol number) node r o msg awake concerns ∙ ap (λ (x : FileStep). x.turned.rec) is_step

    -- replies are sent alone
    replies_alone : (k : Msg) (n to : NodeId) (g : FileId) (id : OpId) (answer : Option Reply) → Has k (if_any n to (reply_payload g id answer)) → IsAskOrReply k.payload
    replies_alone k n to g id None h = absurd h
    replies_alone k n to g id (Some answer) (inl e) = subst (λ (x : Msg). IsAskOrReply x.payload) (sym e) tt
    replies_alone k n to g id (Some answer) (inr h) = absurd h

    module _ (within : (k : Msg) → Has k own → Has k was) (fewer : (k : Msg) → Has k outs → Has k (step_at node r o (event.Deliver msg)).turned.outs) where
      -- nothing is done
      idle : (step : FileStep) → step_of_file (site_at node r o) (file_seen (id_in vol number) o) msg.from msg.payload ≡ step → step.state ≡ file_seen (id_in vol number) o → step.turned.rec ≡ None
          → ((k : Msg) → Has k step.turned.outs → IsNothing k.payload) → FileFollows vol number location who (stepped w node r o (event.Deliver msg) outs) (own ++ to_itself node.id outs)
      idle step is_step same none out =
          file_rests vol number location who w (stepped w node r o (event.Deliver msg) outs) was (own ++ to_itself node.id outs)
          (step_rests (setting_of vol number location who) w node r o (event.Deliver msg) outs its was own within
          (λ k h about. out k (subst (λ (x : FileStep). Has k x.turned.outs) is_step (out_of fewer k h)))
          (state_of step is_step same) (subst (IsNotOf (id_in vol number)) (sym (rec_of step is_step ∙ none)) tt))
          is

      message_follows : Comes msg → FileFollows vol number location who (stepped w node r o (event.Deliver msg) outs) (own ++ to_itself node.id outs)
      message_follows (nothing_does step) = idle (nothing (file_seen (id_in vol number) o)) step refl refl (λ k h. absurd h)
      message_follows (denied k answer not step) =
          idle (replica_acts (site_at node r o) (file_seen (id_in vol number) o) msg.from (only (payload.Reply k (file_seen (id_in vol number) o).kept.file answer))) step refl refl
          (λ x h. elim h [ inl e ↦ subst (λ (y : Msg). IsNothing y.payload) (sym e) not | inr no_more ↦ absurd no_more ])
      message_follows (does k capability asked place low at content its_file its_list inside step stays) =
          record {
            quiet = record {
              members = λ n.
                  subst (λ (f : ℕ → FileNode). IsMembers (f n).kept) ((messages_show (id_in vol number) w node r o msg (view (id_in vol number) w) its awake concerns refl).takes outs)
                  (at_row IsMembers (nodes_seen (id_in vol number) w) node.id.0 _ (stays (nodes_seen (id_in vol number) w node.id.0).kept (is.quiet.members node.id.0)) n (is.quiet.members n));
              asked = λ x h about. elim (came own was outs w node.id w.nodes x within h) [
                | inl mine ↦ replies_alone x (site_at node r o).node msg.from (file_seen (id_in vol number) o).kept.file (record { client = msg.from; number = k })
                    (acted_by (site_at node r o) (file_seen (id_in vol number) o).kept (record { client = msg.from; number = k }) capability asked).reply
                    (subst (λ (y : FileStep). Has x y.turned.outs) step (out_of fewer x mine))
                | inr old ↦ is.quiet.asked x old about
              ];
            };
            fares = elim is.fares [
              | inl gone ↦ inl (lost_rests (setting_of vol number location who) w (stepped w node r o (event.Deliver msg) outs) (step_calm (setting_of vol number location who) w node r o (event.Deliver msg) outs its) gone)
              | inr follows ↦ inr (
                striped.after (setting_of vol number location who) follows.0 (acts place (record { number = k; epoch = capability.epoch; op = asked }) whole),
                acts_follow (setting_of vol number location who) setting w was own node r o msg outs its awake k capability asked follows.0 place
                    (done_by follows.0 follows.1 k capability asked place low at content its_file its_list inside step) (follows.1.members place low) within fewer concerns follows.1,
              )
            ];
          }

  -- ---- any event

  pub osd_follows : (happens : Event) (own outs : List Msg) → ((k : Msg) → Has k own → Has k was) → ((k : Msg) → Has k outs → Has k (step_at node r o happens).turned.outs) → Reaches w was node.id happens
      → FileFollows vol number location who (stepped w node r o happens outs) (own ++ to_itself node.id outs)
  osd_follows happens own outs within fewer reaches = at (at_file_of (known w) (id_in vol number) node r o happens (known_as vol number location w listed) fits.0.fits fits.0.rises) fewer reaches
    where
      at : {e : Event} → AtFile (id_in vol number) node r o e → ((k : Msg) → Has k outs → Has k (step_at node r o e).turned.outs) → Reaches w was node.id e
          → FileFollows vol number location who (stepped w node r o e outs) (own ++ to_itself node.id outs)
      at (left e l) fewer reaches =
          file_rests vol number location who w (stepped w node r o e outs) was (own ++ to_itself node.id outs)
          (step_rests (setting_of vol number location who) w node r o e outs its was own within (λ k h about. absurd (l.outs k (fewer k h) about)) l.state l.rec)
          is
      at (messaged msg awake concerns) fewer reaches = message_follows own outs msg awake reaches.1 concerns within fewer (comes msg reaches.1 concerns)
      at (woken_up awake met) fewer reaches =
          let quiet_wake = wake_rests (site_at node r o) (file_seen (id_in vol number) o) is_plain in
          let none = ap (λ (x : OsdStep). x.turned.rec) (woken_step (outside_of node.kept) o r.clock (awake_as o.started) awake) ∙ (woken_quiet (site_at node r o) o.files).1 in
          file_rests vol number location who w (stepped w node r o event.Wake outs) was (own ++ to_itself node.id outs)
          (step_rests (setting_of vol number location who) w node r o event.Wake outs its was own within
          (λ k h about. absurd (subst (λ (x : FileStep). Has k x.turned.outs) quiet_wake (woken_about (id_in vol number) node r o k awake fits.0.rises (fewer k h) about).1))
          (wake_leaves (id_in vol number) node r o awake met ∙ ap (λ (x : FileStep). x.state) quiet_wake) (subst (IsNotOf (id_in vol number)) (sym none) tt))
          is

  -- it stops once its record is kept
  pub osd_stops : (happens : Event) (rec : Record) (how : Halt) → Reaches w was node.id happens → (step_at node r o happens).turned.rec ≡ Some rec → FileFollows vol number location who (stopped_with w node r o happens rec how) []
  osd_stops happens rec how reaches is_rec = at (at_file_of (known w) (id_in vol number) node r o happens (known_as vol number location w listed) fits.0.fits fits.0.rises) reaches is_rec
    where
      -- the record isn't of the file
      other_rec : (e : Event) → (step_at node r o e).turned.rec ≡ Some rec → IsNotOf (id_in vol number) (step_at node r o e).turned.rec → FileFollows vol number location who (stopped_with w node r o e rec how) []
      other_rec e is_rec away =
          file_rests vol number location who w (stopped_with w node r o e rec how) was []
          (halted_rests (setting_of vol number location who) w was node (record r { core = osd (step_at node r o e).osd }) how (Some rec) its.found (subst (IsNotOf (id_in vol number)) is_rec away))
          is

      by_comes : (msg : Msg) → IsAwake r o → Has msg (was ++ messages w) → file_concerned msg.payload ≡ Some (id_in vol number) → (step_at node r o (event.Deliver msg)).turned.rec ≡ Some rec → Comes msg
          → FileFollows vol number location who (stopped_with w node r o (event.Deliver msg) rec how) []
      by_comes msg awake has concerns is_rec (nothing_does step) = absurd (no_kept rec (step_at node r o (event.Deliver msg)).turned.rec (rec_of [] [] msg awake has concerns (nothing (file_seen (id_in vol number) o)) step) is_rec)
      by_comes msg awake has concerns is_rec (denied k answer not step) =
          absurd
          (no_kept rec (step_at node r o (event.Deliver msg)).turned.rec
          (rec_of [] [] msg awake has concerns (replica_acts (site_at node r o) (file_seen (id_in vol number) o) msg.from (only (payload.Reply k (file_seen (id_in vol number) o).kept.file answer))) step) is_rec)
      by_comes msg awake has concerns is_rec (does k capability asked place low at content its_file its_list inside step stays) =
          record {
            quiet = record {
              members = λ n.
                  subst (λ (f : ℕ → FileNode). IsMembers (f n).kept) ((messages_show (id_in vol number) w node r o msg (view (id_in vol number) w) its awake concerns refl).keeps rec how is_rec)
                  (at_row IsMembers (nodes_seen (id_in vol number) w) node.id.0 _ (stays (nodes_seen (id_in vol number) w node.id.0).kept (is.quiet.members node.id.0)) n (is.quiet.members n));
              asked = λ x h about. is.quiet.asked x (has_right x was (messages w) h) about;
            };
            fares = elim is.fares [
              | inl gone ↦ inl (lost_rests (setting_of vol number location who) w (stopped_with w node r o (event.Deliver msg) rec how) calm gone)
              | inr follows ↦ inr (
                striped.after (setting_of vol number location who) follows.0 (acts place (record { number = k; epoch = capability.epoch; op = asked }) kept_alone),
                kept_follow (setting_of vol number location who) setting w was was node r o msg [] its awake k capability asked follows.0 place
                    (done_by was [] msg awake has concerns follows.0 follows.1 k capability asked place low at content its_file its_list inside step) (follows.1.members place low) rec how concerns is_rec calm follows.1,
              )
            ];
          }
        where
          calm : Calm (setting_of vol number location who) w (stopped_with w node r o (event.Deliver msg) rec how)
          calm = halted_calm (setting_of vol number location who) w (record node { kept = node.kept ++ rec ∷ []; past = node.past ++ puts rec ∷ [] }) node (record r { core = osd (step_at node r o (event.Deliver msg)).osd }) how its.found

      at : {e : Event} → AtFile (id_in vol number) node r o e → Reaches w was node.id e → (step_at node r o e).turned.rec ≡ Some rec → FileFollows vol number location who (stopped_with w node r o e rec how) []
      at (left e l) reaches is_rec = other_rec e is_rec l.rec
      at (messaged msg awake concerns) reaches is_rec = by_comes msg awake reaches.1 concerns is_rec (comes msg reaches.1 concerns)
      at (woken_up awake met) reaches is_rec =
          absurd
          (no_kept rec (step_at node r o event.Wake).turned.rec
          (ap (λ (x : OsdStep). x.turned.rec) (woken_step (outside_of node.kept) o r.clock (awake_as o.started) awake) ∙ (woken_quiet (site_at node r o) o.files).1) is_rec)
