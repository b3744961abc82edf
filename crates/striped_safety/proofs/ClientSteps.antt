-- a client's step on an event, in a world that shows a striped file
use Rattle.std.proofs.Common.{◌≡◌, ◌≢◌, ℕ, ◌≤◌, ◌+◌, ◌⊎◌, inl, inr, List, [], ◌∷◌, ◌++◌, map, refl, ap, sym, ◌∙◌, subst, arith, Option, Some, None, false}
use Rattle.std.proofs.lemmas.List.{append-nil}
use Rattle.std.proofs.lemmas.Bool.Decides.{nat_tests}
use Rattle.xt_base.specs.declared.ids.NodeId.{NodeId}
use Rattle.xt_base.specs.declared.ids.FileId.{FileId}
use Rattle.xt_base.specs.declared.ids.OpId.{OpId}
use Rattle.xt_base.specs.declared.ids.SizeMark.{SizeMark}
use Rattle.xt_base.specs.TimeSettings.{TimeSettings}
use Rattle.xt_messages.specs.declared.file.Capability.{Capability}
use Rattle.xt_messages.specs.declared.file.Kind.TheVariants as kind
use Rattle.xt_messages.specs.declared.file.Location.{Location}
use Rattle.xt_messages.specs.declared.file.Op.{Op}
use Rattle.xt_messages.specs.declared.file.Op.TheVariants as op
use Rattle.xt_messages.specs.declared.reply.Reply.TheVariants as reply
use Rattle.xt_messages.specs.declared.event.Call.TheVariants as call
use Rattle.xt_messages.specs.declared.event.Event.{Event}
use Rattle.xt_messages.specs.declared.event.Mark.{Mark}
use Rattle.xt_messages.specs.declared.event.Outcome.{Outcome}
use Rattle.xt_messages.specs.declared.event.Outcome.TheVariants as outcome
use Rattle.xt_messages.specs.declared.message.Msg.{Msg}
use Rattle.xt_messages.specs.declared.message.Payload.TheVariants as payload
use Rattle.xt_protocol.specs.Turns.{message}
use Rattle.truncate_epochs.specs.SizeMarks.{is_smaller, merged}
use Rattle.lease_safety.specs.State.{Has}
use Rattle.lease_runs.proofs.Tests.{same_node}
use Rattle.replica_runs.proofs.Tools.{has-right}
use Rattle.client_rows.specs.declared.holding.HeldFile.{HeldFile}
use Rattle.client_rows.specs.declared.progress.Learnt.TheVariants as learnt
use Rattle.client_rows.specs.declared.progress.Next.TheVariants as next
use Rattle.client_rows.specs.declared.progress.Progress.{Progress}
use Rattle.client_rows.specs.declared.requests.CallResult.{CallResult}
use Rattle.client_rows.specs.declared.requests.CallResult.TheVariants as result
use Rattle.client_rows.specs.declared.requests.MadeCall.{MadeCall}
use Rattle.client_rows.specs.declared.requests.Stage.{Stage}
use Rattle.client_rows.specs.declared.requests.Stage.TheVariants as stage
use Rattle.client_rows.specs.Holding.{Held, held_of, joined_with, mark_with}
use Rattle.client_rows.specs.Requests.{payload_of, next_asked, bytes_shown}
use Rattle.client_rows.specs.Steps.{Step}
use Rattle.client_rows.specs.Waiting as waiting
use Rattle.client_rows.specs.Rows as rows
use Rattle.client_rows.specs.Rows.{WholeClient, passes, stepped}
use Rattle.client_steps.specs.Asked.{ClientIs, MadeIs, Tells, tells_none, tells_end}
use Rattle.client_steps.proofs.Steps.{stepped_is}
use Rattle.time_line.specs.declared.entry.Entry.{Entry}
use Rattle.time_line.specs.declared.entry.Entry.TheVariants as entry
use Rattle.time_line.specs.TimeLine.{id_of, begun, operation_on}
use Rattle.time_line.specs.Clauses.{IsBefore, HasBegunOn, ok_entry}
use Rattle.world_spec.specs.World.{World, Node, Running, client, node_in, known}
use Rattle.world_runs.specs.Worlds.{IsKnown}
use Rattle.world_spec.specs.NodeSteps.{entry_of, to_itself, after_turn}
use Rattle.world_runs.specs.View.{messages}
use Rattle.world_runs.proofs.Calls.{RequestIs}
use Rattle.world_runs.proofs.Entries.{one_file}
use Rattle.world_runs.proofs.Growth.{CallerIs}
use Rattle.world_runs.proofs.Lists.{has_in}
use Rattle.world_runs.proofs.Steps.{Fits}
use Rattle.world_runs.proofs.Tables.{same}
use Rattle.world_runs.proofs.Walk.{Reaches}
use Rattle.striped_safety.specs.StripedFiles.{operations_on}
use Rattle.striped_safety.specs.StripedWorld.{Setting, StripedWorld, IsSetting, Needs, width_of, node_at, ops_of, done_with, hears, ends}
use Rattle.striped_safety.specs.StripedWorld as striped
use Rattle.striped_safety.proofs.ClientAside.{HeldThen, IsAside, SameMade, no_call, same_call, stepped_aside}
use Rattle.striped_safety.proofs.ClientEvents.{all_not_here, caller_is, stranger, rests_then, follows_so, none_sent, aside_told}
use Rattle.striped_safety.proofs.ClientHears.{Waits, rest_aside, rest_silent, rest_at_client, heard_stands, goes_on_to, all_told, ended_stands, read_shown, ended_client}
use Rattle.striped_safety.proofs.ClientMoves.{none_aside, aside_begun, aside_operations, aside_reads, client_quiet, lost_stays}
use Rattle.striped_safety.proofs.ClientRows.{Hears, GoesNoFurther, event_row}
use Rattle.striped_safety.proofs.ClientSends.{IsRequest, event_asks}
use Rattle.striped_safety.proofs.Follows.{id_in, setting_of, AreToldReads, IsAway, MarkIs, IsAt, CallAt, not_yet, elsewhere, goes, has_ended, ClientAt, Runs, Follows, IsLost, IsGivenUp, FileFollows}
use Rattle.striped_safety.proofs.Marks.{MarksAre}
use Rattle.striped_safety.proofs.MarkSteps.{comes_marked}
use Rattle.striped_safety.proofs.Within.{IsWithin, mark_held, mark_is, merged_same, none_only}
use Rattle.striped_safety.proofs.RowMarks.{EventMarked}
use Rattle.striped_safety.proofs.Replies.{RepliesAre, ReplyIs}
use Rattle.striped_safety.proofs.TheFile.{IsTheFile}
use Rattle.striped_safety.proofs.Trace.{BeginOnce, before_last, begun_same, begun_there, operations_same}

-- ---- what the steps are

ended_passes : (node : NodeId) (times : TimeSettings) (c : WholeClient) (reading : ℕ) (happens : Event) (made : MadeCall) (how : CallResult) → c.made ≡ Some made → made.stage ≡ stage.Ended how → stepped node times c reading happens ≡ passes c reading
unfolding stepped
ended_passes node times c reading happens made how is ended =
    ap (rows.goes_on_with node times c reading happens) is ∙ ap (rows.goes_on node times c reading happens made) ended

waiting_step : (node : NodeId) (times : TimeSettings) (c : WholeClient) (reading : ℕ) (happens : Event) (made : MadeCall) (target : NodeId) (deadline : ℕ) → c.made ≡ Some made → made.stage ≡ stage.Waiting target deadline
    → stepped node times c reading happens ≡ rows.waits (rows.site_of node times c reading) (rows.at_clock c (rows.clock_of c reading)) made target deadline happens
unfolding stepped
waiting_step node times c reading happens made target deadline is waits =
    ap (rows.goes_on_with node times c reading happens) is ∙ ap (rows.goes_on node times c reading happens made) waits

-- an Ok that is reported ends this call
done_is : (node who : NodeId) (n k count : ℕ) (how : Outcome) (bytes : List ℕ) → ok_entry (id_of who k) count bytes ≡ entry.Done node n how → (who ≡ node) × (k ≡ n) × (outcome.Ok count bytes ≡ how)
done_is node who n k count how bytes is = (cc is, cc is, cc is)

reads_itself : (file object at len : ℕ) → operation_on file (Some (call.Read file object at len)) ≡ Some (op.Read object at len)
reads_itself file object at len = grind (arith, nat_tests)

-- the mark of the file after a step of a call that isn't on it
mark_then : (number : ℕ) (mark : SizeMark) (held : Held) (after : Option HeldFile) → HeldThen number (IsWithin mark number) held after → MarkIs (held_of held number) mark → MarkIs after mark
mark_then number mark held after (inl same_held) is = subst (λ (o : Option HeldFile). MarkIs o mark) (sym same_held) is
mark_then number mark held after (inr (capability, other, e, within, found)) is = subst (λ (o : Option HeldFile). MarkIs o mark) (sym found) (at (held_of held number) is)
  where
    at : (o : Option HeldFile) → MarkIs o mark → joined_with o other ≡ mark
    at None none = none_only other (subst (λ (m : SizeMark). is_smaller m other ≡ false) none (within e)) ∙ sym none
    at (Some h) is = ap (λ (m : SizeMark). merged m other) is ∙ merged_same mark other (within e)

module _ (vol : List ℕ) (number : ℕ) (location : Location) (who : NodeId) (of_kind : location.kind ≡ kind.Striped) (setting : IsSetting (setting_of vol number location who)) (w : World) (was own : List Msg) (ends_fit : Fits w was) (once : BeginOnce w.entries)
    (listed : IsTheFile vol number location w) (node : Node) (r : Running) (c : WholeClient) (outs : List Msg) (found : node_in w.nodes node.id.0 ≡ Some node) (up : node.up ≡ Some r) (core : r.core ≡ client c) (within : (k : Msg) → Has k own → Has k was) where
  abbrev s : Setting
  s = setting_of vol number location who

  calls_are : CallerIs w.entries node.id c
  calls_are = caller_is w was node r c ends_fit found up core

  -- the client's own world, where it is the file's client
  runs_as : node.id.0 ≡ who.0 → Runs w who.0 node r c
  runs_as mine = record { found = ap (node_in w.nodes) (sym mine) ∙ found; up = up; core = core }

  abbrev pub FollowsAfter : Step WholeClient → Type 0
  FollowsAfter step =
      step.turned.rec ≡ None → ((k : Msg) → Has k outs → IsRequest k.payload) → ((k : Msg) → Has k outs → Has k step.turned.outs)
      → (n : StripedWorld) × Follows (setting_of vol number location who) (after_turn w node (record r { core = client step.state }) (record step.turned { outs = outs })) (own ++ to_itself node.id outs) n

  -- ---- a client that has begun nothing on the file with its last call

  -- another client
  pub other_follows : (m : StripedWorld) → Follows (setting_of vol number location who) w was m → node.id.0 ≢ who.0 → (happens : Event) → FollowsAfter (stepped node.id w.times c r.clock happens)
  other_follows m follows other happens rec asks fewer =
      let step = stepped node.id w.times c r.clock happens in
      let is = stepped_is (RequestIs w.entries node.id) node.id w.times c r.clock happens calls_are.calls in
      let never : (n : ℕ) → HasBegunOn number w.entries (id_of node.id n) → ⊥ = stranger vol number location who of_kind w was own ends_fit once listed node r c step outs found up core rec within fewer asks m follows other in (
        m,
        follows_so vol number location who of_kind w was own ends_fit once listed node r c step outs found up core rec within fewer asks m m follows
            (rests_then vol number location who of_kind w was own ends_fit once listed node r c step outs found up core rec within fewer asks m follows
            (aside_told vol number location who of_kind w was own ends_fit once listed node r c step outs found up core rec within fewer asks (RequestIs w.entries node.id) (λ n asked _. never n) happens is.tells)
            (none_sent vol number location who of_kind w was own ends_fit once listed node r c step outs found up core rec within fewer asks (RequestIs w.entries node.id) (λ n asked request. (request, never n)) is.sends m)
            (λ mine. absurd (other mine))),
      )

  -- the client itself
  pub aside_follows : (m : StripedWorld) → Follows (setting_of vol number location who) w was m → IsAside number c.made → MadeIs (λ n asked. HasBegunOn number w.entries (id_of node.id n) → ⊥) c.made → m.runs ≡ None → ClientAt (setting_of vol number location who) w.entries m c → node.id ≡ who
      → (happens : Event) → EventMarked (IsWithin m.mark number) happens → FollowsAfter (stepped node.id w.times c r.clock happens)
  aside_follows m follows aside never none at same_id happens grants rec asks fewer =
      let step = stepped node.id w.times c r.clock happens in
      let is = stepped_is (λ n asked. RequestIs w.entries node.id n asked × (HasBegunOn number w.entries (id_of node.id n) → ⊥)) node.id w.times c r.clock happens (all_not_here vol number location of_kind w was ends_fit listed node.id c calls_are.calls never) in
      let still = stepped_aside number (IsWithin m.mark number) node.id w.times c r.clock happens grants aside in
      let aside_told_then = aside_told vol number location who of_kind w was own ends_fit once listed node r c step outs found up core rec within fewer asks (λ n asked. RequestIs w.entries node.id n asked × (HasBegunOn number w.entries (id_of node.id n) → ⊥)) (λ n asked it. it.1) happens is.tells in (
        m,
        follows_so vol number location who of_kind w was own ends_fit once listed node r c step outs found up core rec within fewer asks m m follows
            (rests_then vol number location who of_kind w was own ends_fit once listed node r c step outs found up core rec within fewer asks m follows
            aside_told_then
            (none_sent vol number location who of_kind w was own ends_fit once listed node r c step outs found up core rec within fewer asks (λ n asked. RequestIs w.entries node.id n asked × (HasBegunOn number w.entries (id_of node.id n) → ⊥)) (λ n asked it. it) is.sends m)
            (λ _. record {
              numbers = subst (λ (n : ℕ). m.next ≤ n) (sym is.number) at.numbers;
              mark = mark_then number m.mark c.held (held_of (stepped node.id w.times c r.clock happens).state.held number) still.0 at.mark;
              holds = λ a runs. absurd (let both : None ≡ Some a = sym none ∙ runs in cc both);
              call = call_then (stepped node.id w.times c r.clock happens).state.made still.1 aside never (aside_begun number w.entries (map (entry_of node.id) step.turned.marks) aside_told_then);
            })),
      )
    where
      call_then : (o : Option MadeCall) → SameMade c.made o → IsAside number c.made → MadeIs (λ n asked. HasBegunOn number w.entries (id_of node.id n) → ⊥) c.made
          → ((id : OpId) → HasBegunOn number (w.entries ++ map (entry_of node.id) (stepped node.id w.times c r.clock happens).turned.marks) id → HasBegunOn number w.entries id)
          → CallAt (setting_of vol number location who) (w.entries ++ map (entry_of node.id) (stepped node.id w.times c r.clock happens).turned.marks) m o
      call_then o same_made aside never before = at_made c.made o same_made aside never
        where
          at_made : (o p : Option MadeCall) → SameMade o p → IsAside number o → MadeIs (λ n asked. HasBegunOn number w.entries (id_of node.id n) → ⊥) o
              → CallAt (setting_of vol number location who) (w.entries ++ map (entry_of node.id) (stepped node.id w.times c r.clock happens).turned.marks) m p
          at_made _ _ no_call aside never = not_yet none
          at_made _ _ (same_call a b n request fits) aside never =
              elsewhere b (subst (IsAway number) (sym request) aside.0) fits
              (λ begun. never (subst (λ (k : ℕ). HasBegunOn number w.entries (id_of node.id k)) n
              (subst (λ (x : NodeId). HasBegunOn number w.entries (id_of x b.number)) (sym same_id) (before (id_of who b.number) begun)))) none

  -- its call has ended
  pub passes_follow : (m : StripedWorld) → Follows (setting_of vol number location who) w was m → ClientAt (setting_of vol number location who) w.entries m c → FollowsAfter (passes c r.clock)
  passes_follow m follows at rec asks fewer = (
    m,
    follows_so vol number location who of_kind w was own ends_fit once listed node r c (passes c r.clock) outs found up core rec within fewer asks m m follows
        (rests_then vol number location who of_kind w was own ends_fit once listed node r c (passes c r.clock) outs found up core rec within fewer asks m follows (none_aside number w.entries) (λ k h. absurd h)
        (λ _. subst (λ (es : List Entry). ClientAt (setting_of vol number location who) es m (passes c r.clock).state) (sym (append-nil w.entries)) (record { numbers = at.numbers; mark = at.mark; holds = at.holds; call = at.call }))),
  )

  -- ---- its call on the file waits

  module _ (m : StripedWorld) (follows : Follows (setting_of vol number location who) w was m) (mine : node.id.0 ≡ who.0) (made : MadeCall) (capability : Capability) (asked : Op) (waits : Waits (setting_of vol number location who) w.entries m c made capability asked) (target : NodeId) (deadline : ℕ)
      (at_stage : made.stage ≡ stage.Waiting target deadline) where
    abbrev now : ℕ
    now = rows.clock_of c r.clock

    abbrev late : ℕ
    late = rows.clock_of c r.clock + w.times.lease

    abbrev going : Progress → Step WholeClient
    going comes = rows.proceeds (rows.site_of node.id w.times c r.clock) (rows.at_clock c (rows.clock_of c r.clock)) made comes

    same_id : node.id ≡ who
    same_id = same_node node.id who mine

    -- nothing of the file is joined
    rests_follow : (comes : Progress) → GoesNoFurther comes → FollowsAfter (rows.proceeds (rows.site_of node.id w.times c r.clock) (rows.at_clock c (rows.clock_of c r.clock)) made comes)
    rests_follow comes rests rec asks fewer =
        let step = rows.proceeds (rows.site_of node.id w.times c r.clock) (rows.at_clock c (rows.clock_of c r.clock)) made comes in
        let aside = rest_aside (setting_of vol number location who) w.entries m c made capability asked waits node.id number comes.next rests.goes in (
          m,
          follows_so vol number location who of_kind w was own ends_fit once listed node r c step outs found up core rec within fewer asks m m follows
              (rests_then vol number location who of_kind w was own ends_fit once listed node r c step outs found up core rec within fewer asks m follows aside
              (λ k h. absurd (rest_silent (setting_of vol number location who) w.entries m c made capability asked waits node.id comes.next rests.goes k h))
              (λ _. rest_at_client (setting_of vol number location who) w.entries m c made capability asked waits node.id (rows.clock_of c r.clock) (rows.clock_of c r.clock + w.times.lease) comes rests (map (entry_of node.id) step.turned.marks) aside)),
        )

    -- what it waits for
    at_target : IsAt (setting_of vol number location who) m asked (stage.Waiting target deadline)
    at_target = subst (IsAt (setting_of vol number location who) m asked) at_stage waits.goes.at

    module _ (count : ℕ) (size : SizeMark) (bytes : List ℕ) (sent : Has (record { place = at_target.0; number = made.number; answer = reply.Ok count size bytes }) m.replies) where
      abbrev heard : StripedWorld
      heard = striped.after (setting_of vol number location who) m (hears at_target.0 made.number count size bytes)

      -- the next member is asked
      next_follows : (t : NodeId) → next_asked capability.location.members asked target ≡ Some t
          → FollowsAfter (rows.proceeds (rows.site_of node.id w.times c r.clock) (rows.at_clock c (rows.clock_of c r.clock)) made (record { learnt = learnt.Mark capability.file.number size; next = next.Ask t }))
      next_follows t is_next rec asks fewer =
          let step = rows.proceeds (rows.site_of node.id w.times c r.clock) (rows.at_clock c (rows.clock_of c r.clock)) made (record { learnt = learnt.Mark capability.file.number size; next = next.Ask t }) in (
            striped.after (setting_of vol number location who) m (hears at_target.0 made.number count size bytes),
            follows_so vol number location who of_kind w was own ends_fit once listed node r c step outs found up core rec within fewer asks m _ follows
                (record {
                  stands = heard_stands (setting_of vol number location who) setting w.entries m follows.stands c made capability asked waits at_target.0 count size bytes at_target.1 at_target.3 sent at_target.4;
                  members = refl;
                  asks = λ x h. h;
                  replies = refl;
                  sent = λ k h n other op content file. asked_again k (fewer k h) n other op content;
                  alone = λ id begun. follows.alone id (aside_begun number w.entries [] (none_aside number w.entries) id begun);
                  begun = aside_operations number w.entries [] (none_aside number w.entries) ∙ follows.begun;
                  reads = λ before k object at len n shown there ok.
                      has-right (record { before = operations_on number before; object = object; at = at; len = len; bytes = shown }) (striped.shown_of (setting_of vol number location who) m (merged m.mark size) bytes m.runs) m.reads
                      (aside_reads number w.entries [] (none_aside number w.entries) who m.reads once follows.reads before k object at len n shown there ok);
                  mine = λ _. subst (λ (es : List Entry). ClientAt (setting_of vol number location who) es (striped.after (setting_of vol number location who) m (hears at_target.0 made.number count size bytes)) step.state) (sym (append-nil w.entries))
                      (goes_on_to (setting_of vol number location who) setting w.entries m follows.stands c made capability asked waits at_target.0 count size bytes at_target.1 at_target.3 sent at_target.4 target at_target.2 t is_next (rows.clock_of c r.clock) deadline (rows.clock_of c r.clock + w.times.lease));
                  unborn = λ other is. absurd (other mine);
                  others = λ other d is. absurd (other mine);
                }),
          )
        where
          asked_again : (k : Msg) → Has k (message node.id t (payload_of made.number made.request) ∷ []) → (n : ℕ) (other : Capability) (o : Op) → k.payload ≡ payload.Ask n other o → Has (record { number = n; epoch = other.epoch; op = o }) m.asks
          asked_again k (inr h) n other o content = absurd h
          asked_again k (inl e) n other o content =
              let is : payload.Ask made.number capability asked ≡ payload.Ask n other o = sym (ap (payload_of made.number) waits.request) ∙ (sym (ap (λ (x : Msg). x.payload) e) ∙ content) in
              let its_number : made.number ≡ n = cc is in
              let its_capability : capability ≡ other = cc is in
              let its_op : asked ≡ o = cc is in
              subst (λ (x : ℕ). Has (record { number = x; epoch = other.epoch; op = o }) m.asks) its_number
              (subst (λ (x : Capability). Has (record { number = made.number; epoch = x.epoch; op = o }) m.asks) its_capability
              (subst (λ (x : Op). Has (record { number = made.number; epoch = capability.epoch; op = x }) m.asks) its_op waits.goes.sent))

      abbrev all : SizeMark
      all = mark_with c.held capability.file.number size

      abbrev shown_bytes : List ℕ
      shown_bytes = bytes_shown (mark_with c.held capability.file.number size).size capability.location.stripe asked bytes

      done_begins : (id : OpId) → begun id (entry.Done node.id made.number (outcome.Ok count (bytes_shown (mark_with c.held capability.file.number size).size capability.location.stripe asked bytes)) ∷ []) ≡ None
      unfolding begun
      done_begins id = refl

      -- the call ends well
      ends_follow : next_asked capability.location.members asked target ≡ None
          → FollowsAfter (rows.proceeds (rows.site_of node.id w.times c r.clock) (rows.at_clock c (rows.clock_of c r.clock)) made
          (record { learnt = learnt.Mark capability.file.number size; next = next.End (result.Ok count (mark_with c.held capability.file.number size) (bytes_shown (mark_with c.held capability.file.number size).size capability.location.stripe asked bytes)) }))
      ends_follow none rec asks fewer =
          let shown = bytes_shown (mark_with c.held capability.file.number size).size capability.location.stripe asked bytes in
          let step = rows.proceeds (rows.site_of node.id w.times c r.clock) (rows.at_clock c (rows.clock_of c r.clock)) made (record { learnt = learnt.Mark capability.file.number size; next = next.End (result.Ok count (mark_with c.held capability.file.number size) shown) }) in
          let last : List Entry = entry.Done node.id made.number (outcome.Ok count shown) ∷ [] in
          let told = all_told (setting_of vol number location who) setting w.entries m follows.stands c made capability asked waits at_target.0 count size bytes at_target.1 at_target.3 sent at_target.4 target at_target.2 none in (
            striped.after (setting_of vol number location who) (striped.after (setting_of vol number location who) m (hears at_target.0 made.number count size bytes)) ends,
            follows_so vol number location who of_kind w was own ends_fit once listed node r c step outs found up core rec within fewer asks m _ follows
                (record {
                  stands = ended_stands (setting_of vol number location who) setting w.entries m follows.stands c made capability asked waits at_target.0 count size bytes at_target.1 at_target.3 sent at_target.4 told;
                  members = refl;
                  asks = λ x h. h;
                  replies = refl;
                  sent = λ k h. absurd (fewer k h);
                  alone = λ id begun_then. follows.alone id (begun_then.0, sym (ap (operation_on number) (begun_same id w.entries last (done_begins id))) ∙ begun_then.1);
                  begun = operations_same number w.entries last refl ∙ follows.begun;
                  reads = reads_then;
                  mine = λ _. ended_client (setting_of vol number location who) setting w.entries m follows.stands c made capability asked waits at_target.0 count size bytes at_target.1 at_target.3 sent at_target.4 told last (rows.clock_of c r.clock) (rows.clock_of c r.clock + w.times.lease) shown;
                  unborn = λ other is. absurd (other mine);
                  others = λ other d is. absurd (other mine);
                }),
          )
        where
          reads_then : AreToldReads number who (w.entries ++ entry.Done node.id made.number (outcome.Ok count (bytes_shown (mark_with c.held capability.file.number size).size capability.location.stripe asked bytes)) ∷ []) (striped.after (setting_of vol number location who) m (hears at_target.0 made.number count size bytes)).reads
          reads_then before k object at len n shown there ok =
              elim (has_in (ok_entry (id_of who k) n shown) w.entries (entry.Done node.id made.number (outcome.Ok count (bytes_shown (mark_with c.held capability.file.number size).size capability.location.stripe asked bytes)) ∷ []) ok) [
                | inl old ↦ has-right (record { before = operations_on number before; object = object; at = at; len = len; bytes = shown }) (striped.shown_of (setting_of vol number location who) m (merged m.mark size) bytes m.runs) m.reads
                    (follows.reads before k object at len n shown was_there old)
                | inr (inl e) ↦ new_read e
                | inr (inr h) ↦ absurd h
              ]
            where
              was_there : IsBefore before (entry.Begin who k (call.Read number object at len)) w.entries
              was_there = elim (before_last w.entries before (entry.Done node.id made.number (outcome.Ok count (bytes_shown (mark_with c.held capability.file.number size).size capability.location.stripe asked bytes))) (entry.Begin who k (call.Read number object at len)) there) [
                | inl old ↦ old
                | inr new ↦ absurd (let e = new.1 in cc e)
              ]

              new_read : ok_entry (id_of who k) n shown ≡ entry.Done node.id made.number (outcome.Ok count (bytes_shown (mark_with c.held capability.file.number size).size capability.location.stripe asked bytes))
                  → Has (record { before = operations_on number before; object = object; at = at; len = len; bytes = shown }) (striped.after (setting_of vol number location who) m (hears at_target.0 made.number count size bytes)).reads
              new_read e =
                  let is = done_is node.id who made.number k n (outcome.Ok count (bytes_shown (mark_with c.held capability.file.number size).size capability.location.stripe asked bytes)) shown e in
                  let its_call = subst (λ (j : ℕ). IsBefore before (entry.Begin who j (call.Read number object at len)) w.entries) is.1 was_there in
                  let its_bytes : shown ≡ bytes_shown (mark_with c.held capability.file.number size).size capability.location.stripe asked bytes = (let both = is.2 in cc both) in
                  let reads : Some asked ≡ Some (op.Read object at len) = sym waits.goes.begun ∙ (ap (operation_on number) (begun_there w.entries before who made.number (call.Read number object at len) once its_call) ∙ reads_itself number object at len) in
                  let same_op : asked ≡ op.Read object at len = cc reads in
                  subst (λ (b : List ℕ). Has (record { before = operations_on number before; object = object; at = at; len = len; bytes = b }) (striped.after (setting_of vol number location who) m (hears at_target.0 made.number count size bytes)).reads) (sym its_bytes)
                  (read_shown (setting_of vol number location who) setting w.entries m follows.stands c made capability asked waits at_target.0 count size bytes at_target.1 at_target.3 sent at_target.4
                  (all_told (setting_of vol number location who) setting w.entries m follows.stands c made capability asked waits at_target.0 count size bytes at_target.1 at_target.3 sent at_target.4 target at_target.2 none)
                  (operations_on number before) object at len same_op (waits.goes.before before object at len its_call))

      -- the target has done it
      served_follows : FollowsAfter (rows.proceeds (rows.site_of node.id w.times c r.clock) (rows.at_clock c (rows.clock_of c r.clock)) made (waiting.served c.held capability asked target count size bytes))
      served_follows = at (next_asked capability.location.members asked target) refl
        where
          at : (o : Option NodeId) → next_asked capability.location.members asked target ≡ o
              → FollowsAfter (rows.proceeds (rows.site_of node.id w.times c r.clock) (rows.at_clock c (rows.clock_of c r.clock)) made
              (record {
                learnt = learnt.Mark capability.file.number size;
                next = waiting.asks_or_ends o (result.Ok count (mark_with c.held capability.file.number size) (bytes_shown (mark_with c.held capability.file.number size).size capability.location.stripe asked bytes));
              }))
          at None is = ends_follow is
          at (Some t) is = next_follows t is

    -- any event
    waiting_follows : c.made ≡ Some made → RepliesAre w was → (happens : Event) → Reaches w was node.id happens → FollowsAfter (stepped node.id w.times c r.clock happens)
    waiting_follows is_made replies happens reaches = by_row (event_row c.held made capability asked target deadline (rows.clock_of c r.clock) waits.request happens)
      where
        step_is : (comes : Progress) → waiting.event_comes (rows.clock_of c r.clock) c.held made target deadline happens ≡ comes
            → stepped node.id w.times c r.clock happens ≡ rows.proceeds (rows.site_of node.id w.times c r.clock) (rows.at_clock c (rows.clock_of c r.clock)) made comes
        step_is comes same_comes =
            waiting_step node.id w.times c r.clock happens made target deadline is_made at_stage
            ∙ ap (rows.proceeds (rows.site_of node.id w.times c r.clock) (rows.at_clock c (rows.clock_of c r.clock)) made) same_comes

        -- the Ok is of the file
        file_is : (msg : Msg) (file : FileId) (count : ℕ) (size : SizeMark) (bytes : List ℕ) → msg.to ≡ node.id → Has msg (was ++ messages w) → msg.payload ≡ payload.Reply made.number file (reply.Ok count size bytes) → file ≡ id_in vol number
        file_is msg file count size bytes to has content =
            let ok : ((l : Location) × IsKnown (known w) file l) × HasBegunOn file.number w.entries (id_of msg.to made.number) = subst (ReplyIs (known w) w.entries msg.to) content (replies msg has) in
            let here = subst (λ (x : NodeId). HasBegunOn file.number w.entries (id_of x made.number)) (to ∙ same_id) ok.1 in
            let its_number : file.number ≡ number = one_file file.number number w.entries (id_of who made.number) here (asked, waits.goes.begun) in
            (listed.known file ok.0.0 ok.0.1 its_number).0

        by_row : Hears c.held made capability asked target happens (waiting.event_comes (rows.clock_of c r.clock) c.held made target deadline happens) ⊎ GoesNoFurther (waiting.event_comes (rows.clock_of c r.clock) c.held made target deadline happens)
            → FollowsAfter (stepped node.id w.times c r.clock happens)
        by_row (inr rests) = subst FollowsAfter (sym (step_is (waiting.event_comes (rows.clock_of c r.clock) c.held made target deadline happens) refl)) (rests_follow (waiting.event_comes (rows.clock_of c r.clock) c.held made target deadline happens) rests)
        by_row (inl h) =
            let came = subst (Reaches w was node.id) h.is reaches in
            let content = h.content ∙ ap (λ (f : FileId). payload.Reply made.number f (reply.Ok h.count h.size h.bytes)) (file_is h.msg h.file h.count h.size h.bytes came.0 came.1 h.content) in
            let sent = follows.replies h.msg came.1 made.number at_target.0 h.count h.size h.bytes content at_target.1 (h.from ∙ ap (λ (x : NodeId). x.0) at_target.2) in
            subst FollowsAfter (sym (step_is (waiting.served c.held capability asked target h.count h.size h.bytes) h.gives)) (served_follows h.count h.size h.bytes sent)

  -- ---- any event

  own_follows : (m : StripedWorld) → Follows (setting_of vol number location who) w was m → node.id.0 ≡ who.0 → RepliesAre w was → (happens : Event) → MarksAre number who w was → Reaches w was node.id happens
      → FollowsAfter (stepped node.id w.times c r.clock happens)
  own_follows m follows mine replies happens marks reaches = by_call c.made refl at.call
    where
      at : ClientAt (setting_of vol number location who) w.entries m c
      at = follows.caller node r c (runs_as mine)

      own_id : node.id ≡ who
      own_id = same_node node.id who mine

      -- what comes to it reports no mark above its own
      grants : EventMarked (IsWithin m.mark number) happens
      grants =
          subst (λ (mark : SizeMark). EventMarked (IsWithin mark number) happens) (mark_is (held_of c.held number) m.mark at.mark)
          (comes_marked number (mark_held (held_of c.held number)) w was node.id happens ((marks follows.alone).running node r c (runs_as mine)) reaches)

      by_stage : (made : MadeCall) (capability : Capability) (asked : Op) → c.made ≡ Some made → Waits (setting_of vol number location who) w.entries m c made capability asked → (st : Stage) → made.stage ≡ st → FollowsAfter (stepped node.id w.times c r.clock happens)
      by_stage made capability asked is waits stage.OnReplicas st = absurd (subst (IsAt (setting_of vol number location who) m asked) st waits.goes.at)
      by_stage made capability asked is waits (stage.Waiting target deadline) st = waiting_follows m follows mine made capability asked waits target deadline st is replies happens reaches
      by_stage made capability asked is waits (stage.Ended how) st = subst FollowsAfter (sym (ended_passes node.id w.times c r.clock happens made how is st)) (passes_follow m follows at)

      by_call : (o : Option MadeCall) → c.made ≡ o → CallAt (setting_of vol number location who) w.entries m o → FollowsAfter (stepped node.id w.times c r.clock happens)
      by_call _ is (not_yet none) =
          aside_follows m follows (subst (IsAside number) (sym is) tt) (subst (MadeIs (λ n asked. HasBegunOn number w.entries (id_of node.id n) → ⊥)) (sym is) tt) none at own_id happens grants
      by_call _ is (elsewhere made away fits never none) =
          aside_follows m follows (subst (IsAside number) (sym is) (away, fits))
          (subst (MadeIs (λ n asked. HasBegunOn number w.entries (id_of node.id n) → ⊥)) (sym is) (subst (λ (x : NodeId). HasBegunOn number w.entries (id_of x made.number) → ⊥) (sym own_id) never)) none at own_id happens grants
      by_call _ is (goes made capability asked request file at_list so) =
          by_stage made capability asked is (record { request = request; file = file; location = at_list; goes = so; numbers = at.numbers; mark = at.mark; holds = at.holds }) made.stage refl
      by_call _ is (has_ended made capability asked count size bytes request ended none) =
          subst FollowsAfter (sym (ended_passes node.id w.times c r.clock happens made (result.Ok count size bytes) is ended)) (passes_follow m follows at)

  -- what was lost stays so
  lost_event : (happens : Event) → (let step = stepped node.id w.times c r.clock happens in (rec : step.turned.rec ≡ None) → (asks : (k : Msg) → Has k outs → IsRequest k.payload) → IsLost (setting_of vol number location who) w
      → IsLost (setting_of vol number location who) (after_turn w node (record r { core = client step.state }) (record step.turned { outs = outs })))
  lost_event happens rec asks lost =
      let step = stepped node.id w.times c r.clock happens in
      lost_stays (setting_of vol number location who) w was own node r c step outs found up core rec within asks unheard (λ g mine. (its_own g mine).0) lost
    where
      its_own : (g : IsGivenUp (setting_of vol number location who) w) → node.id.0 ≡ who.0 → ClientIs (λ n asked. n ≡ g.number → ⊥) (stepped node.id w.times c r.clock happens).state × Tells (λ n asked. n ≡ g.number → ⊥) happens (stepped node.id w.times c r.clock happens).turned.marks
      its_own g mine =
          let is = stepped_is (λ n asked. n ≡ g.number → ⊥) node.id w.times c r.clock happens (g.gone node r c (runs_as mine)) in
          (is.client, is.tells)

      told_else : (g : IsGivenUp (setting_of vol number location who) w) (count : ℕ) (bytes : List ℕ) (marks : List Mark) → Tells (λ n asked. n ≡ g.number → ⊥) happens marks → Has (ok_entry (id_of who g.number) count bytes) (map (entry_of node.id) marks) → ⊥
      told_else g count bytes _ tells_none h = h
      told_else g count bytes _ (tells_end n asked how other so) (inl e) = other (sym (done_is node.id who n g.number count how bytes e).1)
      told_else g count bytes _ (tells_end n asked how other so) (inr h) = h

      told_other : (g : IsGivenUp (setting_of vol number location who) w) (count : ℕ) (bytes : List ℕ) (marks : List Mark) → node.id.0 ≢ who.0 → Tells (RequestIs w.entries node.id) happens marks → Has (ok_entry (id_of who g.number) count bytes) (map (entry_of node.id) marks) → ⊥
      told_other g count bytes _ other tells_none h = h
      told_other g count bytes _ other (tells_end n asked how is so) (inl e) = other (sym (ap (λ (x : NodeId). x.0) (done_is node.id who n g.number count how bytes e).0))
      told_other g count bytes _ other (tells_end n asked how is so) (inr h) = h

      unheard : (g : IsGivenUp (setting_of vol number location who) w) (count : ℕ) (bytes : List ℕ) → Has (ok_entry (id_of who g.number) count bytes) (map (entry_of node.id) (stepped node.id w.times c r.clock happens).turned.marks) → ⊥
      unheard g count bytes h = elim (same node.id.0 who.0) [
        | inl mine ↦ told_else g count bytes (stepped node.id w.times c r.clock happens).turned.marks (its_own g mine).1 h
        | inr other ↦ told_other g count bytes (stepped node.id w.times c r.clock happens).turned.marks other (stepped_is (RequestIs w.entries node.id) node.id w.times c r.clock happens calls_are.calls).tells h
      ]

  pub event_follows : FileFollows vol number location who w was → RepliesAre w was → (happens : Event) → MarksAre number who w was → Reaches w was node.id happens → ((k : Msg) → Has k outs → Has k (stepped node.id w.times c r.clock happens).turned.outs)
      → (let step = stepped node.id w.times c r.clock happens in FileFollows vol number location who (after_turn w node (record r { core = client step.state }) (record step.turned { outs = outs })) (own ++ to_itself node.id outs))
  event_follows is replies happens marks reaches fewer =
      let step = stepped node.id w.times c r.clock happens in
      let gives = event_asks node.id w.times c r.clock happens in
      let asks : (k : Msg) → Has k outs → IsRequest k.payload = λ k h. gives.asks k (fewer k h) in
      record {
        quiet = client_quiet (setting_of vol number location who) w was own node r c step outs found up core gives.rec within asks is.quiet;
        fares = elim is.fares [
          | inl lost ↦ inl (lost_event happens gives.rec asks lost)
          | inr follows ↦ inr (elim (same node.id.0 who.0) [
            | inl mine ↦ own_follows follows.0 follows.1 mine replies happens marks reaches gives.rec asks fewer
            | inr other ↦ other_follows follows.0 follows.1 other happens gives.rec asks fewer
          ])
        ];
      }
