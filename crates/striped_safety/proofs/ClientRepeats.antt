-- a client's last call is made again, in a world that shows a striped file
use Rattle.std.proofs.Common.{◌≡◌, ◌≢◌, ℕ, ◌≤◌, ◌+◌, inl, inr, List, [], ◌∷◌, ◌++◌, map, refl, ap, sym, ◌∙◌, subst, Option, Some, None, true, false}
use Rattle.std.proofs.lemmas.List.{append-nil}
use Rattle.xt_base.specs.declared.ids.NodeId.{NodeId}
use Rattle.xt_base.specs.TimeSettings.{TimeSettings}
use Rattle.xt_messages.specs.declared.file.Capability.{Capability}
use Rattle.xt_messages.specs.declared.file.Kind.TheVariants as kind
use Rattle.xt_messages.specs.declared.file.Location.{Location}
use Rattle.xt_messages.specs.declared.file.Op.{Op}
use Rattle.xt_messages.specs.declared.event.Mark.{Mark}
use Rattle.xt_messages.specs.declared.message.Msg.{Msg}
use Rattle.xt_messages.specs.declared.message.Payload.TheVariants as payload
use Rattle.xt_protocol.specs.Turns.{message}
use Rattle.lease_safety.specs.State.{Has}
use Rattle.lease_runs.proofs.Tests.{same_node}
use Rattle.client_rows.specs.declared.holding.HeldFile.{HeldFile}
use Rattle.client_rows.specs.declared.requests.MadeCall.{MadeCall}
use Rattle.client_rows.specs.declared.requests.Request.{Request}
use Rattle.client_rows.specs.declared.requests.Request.TheVariants as request
use Rattle.client_rows.specs.declared.requests.Stage.{Stage}
use Rattle.client_rows.specs.Holding.{Held, held_of}
use Rattle.client_rows.specs.Requests.{first_asked, first_stage}
use Rattle.client_rows.specs.Steps.{Step}
use Rattle.client_rows.specs.Rows as rows
use Rattle.client_rows.specs.Rows.{WholeClient, may_repeat, called_again}
use Rattle.client_steps.specs.Asked.{MadeIs}
use Rattle.client_steps.proofs.Steps.{called_again_is}
use Rattle.time_line.specs.declared.entry.Entry.{Entry}
use Rattle.time_line.specs.TimeLine.{id_of}
use Rattle.time_line.specs.Clauses.{HasBegunOn, ok_entry}
use Rattle.world_spec.specs.World.{World, Node, Running, client, node_in}
use Rattle.world_spec.specs.NodeSteps.{entry_of, to_itself, after_turn}
use Rattle.world_runs.proofs.Calls.{RequestIs}
use Rattle.world_runs.proofs.Growth.{CallerIs}
use Rattle.world_runs.proofs.Steps.{Fits}
use Rattle.world_runs.proofs.Tables.{same}
use Rattle.striped_safety.specs.StripedWorld.{StripedWorld, IsSetting}
use Rattle.striped_safety.proofs.ClientEvents.{all_not_here, caller_is, stranger, rests_then, follows_so, none_sent}
use Rattle.striped_safety.proofs.ClientMoves.{AreAside, none_aside, client_quiet, lost_stays}
use Rattle.striped_safety.proofs.ClientSends.{IsRequest, again_asks}
use Rattle.striped_safety.proofs.Follows.{id_in, setting_of, StageFits, MarkIs, IsAt, CallAt, not_yet, elsewhere, goes, has_ended, ClientAt, Runs, Follows, IsLost, FileFollows}
use Rattle.striped_safety.proofs.Ready.{first_at}
use Rattle.striped_safety.proofs.TheFile.{IsTheFile}
use Rattle.striped_safety.proofs.Trace.{BeginOnce}

-- the last call starts so once more
pub again_is : (node : NodeId) (times : TimeSettings) (c : WholeClient) (reading : ℕ) (made : MadeCall) → c.made ≡ Some made
    → called_again node times c reading ≡ rows.has_started times c reading made.number made.request (rows.starts_again node times c.replicas reading made.number made.request)
unfolding called_again
again_is node times c reading made is = ap (rows.repeated node times c reading) is

-- a request to a server waits for it
pub first_fits : (deadline : ℕ) (q : Request) → StageFits (first_stage deadline q) q
first_fits deadline (request.Replicated capability asked) = tt
first_fits deadline (request.Striped capability asked) = tt
first_fits deadline (request.Meta user group wanted) = tt
first_fits deadline (request.Registry asked) = tt

module _ (vol : List ℕ) (number : ℕ) (location : Location) (who : NodeId) (of_kind : location.kind ≡ kind.Striped) (setting : IsSetting (setting_of vol number location who)) (w : World) (was own : List Msg) (ends_fit : Fits w was) (once : BeginOnce w.entries)
    (listed : IsTheFile vol number location w) (node : Node) (r : Running) (c : WholeClient) (outs : List Msg) (found : node_in w.nodes node.id.0 ≡ Some node) (up : node.up ≡ Some r) (core : r.core ≡ client c) (within : (k : Msg) → Has k own → Has k was)
    (may : may_repeat c.made ≡ true) where
  abbrev step : Step WholeClient
  step = called_again node.id w.times c r.clock

  runs_as : node.id.0 ≡ who.0 → Runs w who.0 node r c
  runs_as mine = record { found = ap (node_in w.nodes) (sym mine) ∙ found; up = up; core = core }

  calls_are : CallerIs w.entries node.id c
  calls_are = caller_is w was node r c ends_fit found up core

  no_marks : (called_again node.id w.times c r.clock).turned.marks ≡ []
  no_marks = (called_again_is (RequestIs w.entries node.id) node.id w.times c r.clock calls_are.calls).marks

  module _ (rec : (called_again node.id w.times c r.clock).turned.rec ≡ None) (asks : (k : Msg) → Has k outs → IsRequest k.payload) (fewer : (k : Msg) → Has k outs → Has k (called_again node.id w.times c r.clock).turned.outs) where
    aside : AreAside number w.entries (map (entry_of node.id) (called_again node.id w.times c r.clock).turned.marks)
    aside = subst (λ (ms : List Mark). AreAside number w.entries (map (entry_of node.id) ms)) (sym no_marks) (none_aside number w.entries)

    lost_again : IsLost (setting_of vol number location who) w → IsLost (setting_of vol number location who) (after_turn w node (record r { core = client (called_again node.id w.times c r.clock).state }) (record (called_again node.id w.times c r.clock).turned { outs = outs }))
    lost_again lost =
        lost_stays (setting_of vol number location who) w was own node r c (called_again node.id w.times c r.clock) outs found up core rec within asks
        (λ g count bytes h. subst (λ (ms : List Mark). Has (ok_entry (id_of who g.number) count bytes) (map (entry_of node.id) ms)) no_marks h)
        (λ g mine. (called_again_is (λ n q. n ≡ g.number → ⊥) node.id w.times c r.clock (g.gone node r c (runs_as mine))).client) lost

    module _ (m : StripedWorld) (follows : Follows (setting_of vol number location who) w was m) where
      abbrev FollowsThen : Type 0
      FollowsThen = (n : StripedWorld) × Follows (setting_of vol number location who) (after_turn w node (record r { core = client (called_again node.id w.times c r.clock).state }) (record (called_again node.id w.times c r.clock).turned { outs = outs })) (own ++ to_itself node.id outs) n

      -- the file's world rests
      rests_so : ((k : Msg) → Has k (called_again node.id w.times c r.clock).turned.outs → (n : ℕ) (capability : Capability) (asked : Op) → k.payload ≡ payload.Ask n capability asked → capability.file ≡ id_in vol number → Has (record { number = n; epoch = capability.epoch; op = asked }) m.asks)
          → (node.id.0 ≡ who.0 → ClientAt (setting_of vol number location who) w.entries m (called_again node.id w.times c r.clock).state) → (n : StripedWorld)
          × Follows (setting_of vol number location who) (after_turn w node (record r { core = client (called_again node.id w.times c r.clock).state }) (record (called_again node.id w.times c r.clock).turned { outs = outs })) (own ++ to_itself node.id outs) n
      rests_so sent mine = (
        m,
        follows_so vol number location who of_kind w was own ends_fit once listed node r c (called_again node.id w.times c r.clock) outs found up core rec within fewer asks m m follows
            (rests_then vol number location who of_kind w was own ends_fit once listed node r c (called_again node.id w.times c r.clock) outs found up core rec within fewer asks m follows aside sent
            (λ is. subst (λ (ms : List Mark). ClientAt (setting_of vol number location who) (w.entries ++ map (entry_of node.id) ms) m (called_again node.id w.times c r.clock).state) (sym no_marks)
            (subst (λ (es : List Entry). ClientAt (setting_of vol number location who) es m (called_again node.id w.times c r.clock).state) (sym (append-nil w.entries)) (mine is)))),
      )

      -- the client then, by its call
      client_so : node.id.0 ≡ who.0 → CallAt (setting_of vol number location who) w.entries m (called_again node.id w.times c r.clock).state.made → ClientAt (setting_of vol number location who) w.entries m (called_again node.id w.times c r.clock).state
      client_so mine call_so =
          let at = follows.caller node r c (runs_as mine) in
          let is = called_again_is (RequestIs w.entries node.id) node.id w.times c r.clock calls_are.calls in
          record {
            numbers = subst (λ (n : ℕ). m.next ≤ n) (sym is.number) at.numbers;
            mark = subst (λ (h : Held). MarkIs (held_of h number) m.mark) (sym is.held) at.mark;
            holds = λ a runs. subst (λ (x : Held). (h : HeldFile) × (held_of x number ≡ Some h)) (sym is.held) (at.holds a runs);
            call = call_so;
          }

      made_again : (made : MadeCall) → c.made ≡ Some made → (called_again node.id w.times c r.clock).state.made ≡ Some (record { number = made.number; request = made.request; stage = first_stage (rows.clock_of c r.clock + w.times.lease) made.request })
      made_again made is = ap (λ (x : Step WholeClient). x.state.made) (again_is node.id w.times c r.clock made is)

      not_repeated : (o : Option MadeCall) → c.made ≡ o → may_repeat o ≡ false → ⊥
      not_repeated o is never = let clash : true ≡ false = sym may ∙ (ap may_repeat is ∙ never) in cc clash

      other_again : node.id.0 ≢ who.0 → (n : StripedWorld)
          × Follows (setting_of vol number location who) (after_turn w node (record r { core = client (called_again node.id w.times c r.clock).state }) (record (called_again node.id w.times c r.clock).turned { outs = outs })) (own ++ to_itself node.id outs) n
      other_again other =
          rests_so
          (none_sent vol number location who of_kind w was own ends_fit once listed node r c (called_again node.id w.times c r.clock) outs found up core rec within fewer asks (RequestIs w.entries node.id)
          (λ n asked is. (is, stranger vol number location who of_kind w was own ends_fit once listed node r c (called_again node.id w.times c r.clock) outs found up core rec within fewer asks m follows other n))
          (called_again_is (RequestIs w.entries node.id) node.id w.times c r.clock calls_are.calls).sends m)
          (λ mine. absurd (other mine))

      own_again : node.id.0 ≡ who.0 → (o : Option MadeCall) → c.made ≡ o → CallAt (setting_of vol number location who) w.entries m o → (n : StripedWorld)
          × Follows (setting_of vol number location who) (after_turn w node (record r { core = client (called_again node.id w.times c r.clock).state }) (record (called_again node.id w.times c r.clock).turned { outs = outs })) (own ++ to_itself node.id outs) n
      own_again mine _ is (not_yet none) = absurd (not_repeated None is refl)
      own_again mine _ is (has_ended made capability operation count size bytes on ended none) = absurd (not_repeated (Some made) is (ap (λ (s : Stage). rows.is_retry (rows.result_of s)) ended))
      own_again mine _ is (elsewhere made away fits never none) =
          let own_never = subst (λ (x : NodeId). HasBegunOn number w.entries (id_of x made.number) → ⊥) (sym (same_node node.id who mine)) never in
          let again = called_again_is (λ n asked. RequestIs w.entries node.id n asked × (HasBegunOn number w.entries (id_of node.id n) → ⊥)) node.id w.times c r.clock
          (all_not_here vol number location of_kind w was ends_fit listed node.id c calls_are.calls (subst (MadeIs (λ n asked. HasBegunOn number w.entries (id_of node.id n) → ⊥)) (sym is) own_never)) in
          rests_so
          (none_sent vol number location who of_kind w was own ends_fit once listed node r c (called_again node.id w.times c r.clock) outs found up core rec within fewer asks (λ n asked. RequestIs w.entries node.id n asked × (HasBegunOn number w.entries (id_of node.id n) → ⊥)) (λ n asked it. it) again.sends m)
          (λ _. client_so mine (subst (CallAt (setting_of vol number location who) w.entries m) (sym (made_again made is)) (elsewhere _ away (first_fits (rows.clock_of c r.clock + w.times.lease) made.request) never none)))
      own_again mine _ is (goes made capability operation on file at_list so) =
          rests_so sent (λ _. client_so mine (subst (CallAt (setting_of vol number location who) w.entries m) (sym (made_again made is))
          (goes _ capability operation on file at_list
          (record {
            runs = so.runs;
            sent = so.sent;
            unheard = so.unheard;
            begun = so.begun;
            before = so.before;
            at = subst (λ (q : Request). IsAt (setting_of vol number location who) m operation (first_stage (rows.clock_of c r.clock + w.times.lease) q)) (sym on) (first_at (setting_of vol number location who) setting m capability operation (rows.clock_of c r.clock + w.times.lease) at_list);
          }))))
        where
          outs_are : (called_again node.id w.times c r.clock).turned.outs ≡ message node.id (first_asked (request.Striped capability operation)) (payload.Ask made.number capability operation) ∷ []
          outs_are =
              ap (λ (x : Step WholeClient). x.turned.outs) (again_is node.id w.times c r.clock made is)
              ∙ ap (λ (q : Request). (rows.has_started w.times c r.clock made.number q (rows.starts_again node.id w.times c.replicas r.clock made.number q)).turned.outs) on

          sent : (k : Msg) → Has k (called_again node.id w.times c r.clock).turned.outs → (n : ℕ) (other : Capability) (asked : Op) → k.payload ≡ payload.Ask n other asked → other.file ≡ id_in vol number → Has (record { number = n; epoch = other.epoch; op = asked }) m.asks
          sent k h n other asked content its_file = at (subst (Has k) outs_are h)
            where
              at : Has k (message node.id (first_asked (request.Striped capability operation)) (payload.Ask made.number capability operation) ∷ []) → Has (record { number = n; epoch = other.epoch; op = asked }) m.asks
              at (inr none) = absurd none
              at (inl e) =
                  let is : payload.Ask made.number capability operation ≡ payload.Ask n other asked = sym (ap (λ (x : Msg). x.payload) e) ∙ content in
                  let its_number : made.number ≡ n = cc is in
                  let its_capability : capability ≡ other = cc is in
                  let its_op : operation ≡ asked = cc is in
                  subst (λ (x : ℕ). Has (record { number = x; epoch = other.epoch; op = asked }) m.asks) its_number
                  (subst (λ (x : Capability). Has (record { number = made.number; epoch = x.epoch; op = asked }) m.asks) its_capability
                  (subst (λ (x : Op). Has (record { number = made.number; epoch = capability.epoch; op = x }) m.asks) its_op so.sent))

  pub again_follows : FileFollows vol number location who w was → ((k : Msg) → Has k outs → Has k (called_again node.id w.times c r.clock).turned.outs)
      → (let step = called_again node.id w.times c r.clock in FileFollows vol number location who (after_turn w node (record r { core = client step.state }) (record step.turned { outs = outs })) (own ++ to_itself node.id outs))
  again_follows is fewer =
      let step = called_again node.id w.times c r.clock in
      let gives = again_asks node.id w.times c r.clock in
      let asks : (k : Msg) → Has k outs → IsRequest k.payload = λ k h. gives.asks k (fewer k h) in
      record {
        quiet = client_quiet (setting_of vol number location who) w was own node r c step outs found up core gives.rec within asks is.quiet;
        fares = elim is.fares [
          | inl lost ↦ inl (lost_again gives.rec asks fewer lost)
          | inr follows ↦ inr (elim (same node.id.0 who.0) [
            | inl mine ↦ own_again gives.rec asks fewer follows.0 follows.1 mine c.made refl (follows.1.caller node r c (runs_as mine)).call
            | inr other ↦ other_again gives.rec asks fewer follows.0 follows.1 other
          ])
        ];
      }
