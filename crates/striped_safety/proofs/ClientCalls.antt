-- a client's call, and its last call once more, in a world that shows a striped file
use Rattle.std.proofs.Common.{◌≡◌, ◌≢◌, ℕ, ◌+◌, ◌⊎◌, inl, inr, List, [], ◌∷◌, ◌++◌, map, refl, ap, sym, ◌∙◌, subst, arith, Option, Some, None, false}
use Rattle.std.proofs.lemmas.List.{append-nil, map-append}
use Rattle.xt_base.specs.declared.ids.NodeId.{NodeId}
use Rattle.xt_base.specs.declared.ids.FileId.{FileId}
use Rattle.xt_base.specs.declared.ids.OpId.{OpId}
use Rattle.xt_messages.specs.declared.file.Capability.{Capability}
use Rattle.xt_messages.specs.declared.file.Kind.TheVariants as kind
use Rattle.xt_messages.specs.declared.file.Location.{Location}
use Rattle.xt_messages.specs.declared.file.Op.{Op}
use Rattle.xt_messages.specs.declared.event.Call.{Call}
use Rattle.xt_messages.specs.declared.event.Call.TheVariants as call
use Rattle.xt_messages.specs.declared.message.Msg.{Msg}
use Rattle.xt_messages.specs.declared.message.Payload.TheVariants as payload
use Rattle.xt_protocol.specs.Turns.{message}
use Rattle.lease_safety.specs.State.{Has}
use Rattle.lease_runs.proofs.Tests.{same_node}
use Rattle.client_rows.specs.declared.RunningCall.{RunningCall}
use Rattle.client_rows.specs.declared.requests.MadeCall.{MadeCall}
use Rattle.client_rows.specs.declared.requests.Request.{Request}
use Rattle.client_rows.specs.declared.requests.Request.TheVariants as request
use Rattle.client_rows.specs.Called.{called_file}
use Rattle.client_rows.specs.Requests.{file_of, payload_of, request_of, first_asked}
use Rattle.client_rows.specs.Steps.{Step}
use Rattle.client_rows.specs.Rows as rows
use Rattle.client_rows.specs.Rows.{WholeClient, is_busy, may_repeat, passes, called, called_again}
use Rattle.client_steps.specs.Asked.{IsOnFile, AllHeld, ClientIs, RunningIs, MadeIs}
use Rattle.time_line.specs.Bounds.{FitsCall}
use Rattle.time_line.specs.declared.entry.Entry.{Entry}
use Rattle.time_line.specs.declared.entry.Entry.TheVariants as entry
use Rattle.time_line.specs.TimeLine.{id_of, begun, operation_on, operation_begun}
use Rattle.time_line.specs.Clauses.{IsBefore, HasBegunOn, ok_entry}
use Rattle.world_spec.specs.World.{World, Node, Running, client, node_in, known}
use Rattle.world_spec.specs.NodeSteps.{entry_of, to_itself, after_turn}
use Rattle.world_spec.specs.Lines.{ready_for}
use Rattle.world_runs.specs.Worlds.{IsOfKnown, HeldFits}
use Rattle.world_runs.proofs.Calls.{RequestIs}
use Rattle.world_runs.proofs.Entries.{one_file, begun_on-grown}
use Rattle.world_runs.proofs.Fit.{IsFit}
use Rattle.world_runs.proofs.Growth.{CallerIs}
use Rattle.world_runs.proofs.Lists.{has_in}
use Rattle.world_runs.proofs.Steps.{Fits, Owes, call_owes, ready_is}
use Rattle.world_runs.proofs.Tables.{same}
use Rattle.world_runs.proofs.Walk.{call_step}
use Rattle.striped_safety.specs.StripedFiles.{operations_on}
use Rattle.striped_safety.specs.StripedWorld.{Setting, Asked, StripedWorld, IsSetting, ops_of, begins}
use Rattle.striped_safety.specs.StripedWorld as striped
use Rattle.striped_safety.proofs.ClientEvents.{replicated_not_here, caller_is, client_fits, rests_then, follows_so}
use Rattle.striped_safety.proofs.ClientMoves.{AreAside, none_aside, one_aside, aside_begun, client_quiet, client_follows, lost_stays, caller_then}
use Rattle.striped_safety.proofs.ClientRepeats.{first_fits}
use Rattle.striped_safety.proofs.ClientSends.{IsRequest, call_asks}
use Rattle.striped_safety.proofs.Follows.{id_in, setting_of, AreToldReads, IsAway, Goes, CallAt, not_yet, elsewhere, goes, has_ended, ClientAt, Runs, Follows, IsLost, strange, given_up, FileFollows}
use Rattle.striped_safety.proofs.Moves.{step_stands}
use Rattle.striped_safety.proofs.Ready.{IsUnder, CallIs, nothing_called, begins_so, call_is, Begun, starts_begun, ready_client, ready_held, held_by_request, known_by_request, server_call, where_is, first_at}
use Rattle.striped_safety.proofs.Ready as ready
use Rattle.striped_safety.proofs.TheFile.{IsTheFile}
use Rattle.striped_safety.proofs.Trace.{BeginOnce, before_last, begun_there, begun_new, begun_last, operations_begun, ok_begun}

module _ (vol : List ℕ) (number : ℕ) (location : Location) (who : NodeId) (of_kind : location.kind ≡ kind.Striped) (setting : IsSetting (setting_of vol number location who)) (w : World) (was own : List Msg) (fit : IsFit w was) (ends_fit : Fits w was) (once : BeginOnce w.entries)
    (listed : IsTheFile vol number location w) (node : Node) (r : Running) (c : WholeClient) (outs : List Msg) (found : node_in w.nodes node.id.0 ≡ Some node) (up : node.up ≡ Some r) (core : r.core ≡ client c) (within : (k : Msg) → Has k own → Has k was) where
  abbrev s : Setting
  s = setting_of vol number location who

  runs_as : node.id.0 ≡ who.0 → Runs w who.0 node r c
  runs_as mine = record { found = ap (node_in w.nodes) (sym mine) ∙ found; up = up; core = core }

  abbrev Later : Step WholeClient → World
  Later step = after_turn w node (record r { core = client step.state }) (record step.turned { outs = outs })

  abbrev pub FaresAfter : Step WholeClient → Type 0
  FaresAfter step =
      step.turned.rec ≡ None → ((k : Msg) → Has k outs → IsRequest k.payload) → ((k : Msg) → Has k outs → Has k step.turned.outs)
      → IsLost (setting_of vol number location who) (after_turn w node (record r { core = client step.state }) (record step.turned { outs = outs }))
      ⊎ ((n : StripedWorld) × Follows (setting_of vol number location who) (after_turn w node (record r { core = client step.state }) (record step.turned { outs = outs })) (own ++ to_itself node.id outs) n)

  -- ---- a call

  module _ (k : Call) (bound : FitsCall k) (idle : is_busy c.made ≡ false) where
    abbrev d : WholeClient
    d = ready_for w.files c k (called_file k)

    ready_so : ready.IsReady number c (ready_for w.files c k (called_file k))
    ready_so = ready.ready_is w.files number c k (called_file k)

    caller : CallerIs w.entries node.id (ready_for w.files c k (called_file k))
    caller = ready_is w.entries node.id w.files w.made c k (called_file k) ends_fit.places (caller_is w was node r c ends_fit found up core)

    -- what it holds is of known files
    holds_known : AllHeld (HeldFits (known w)) (ready_for w.files c k (called_file k)).held
    holds_known = ready_held w.files w.made c k (called_file k) (client_fits w was node r c fit found up core).held

    next : ℕ
    next = (ready_for w.files c k (called_file k)).replicas.next

    fresh : begun (id_of node.id (ready_for w.files c k (called_file k)).replicas.next) w.entries ≡ None
    fresh = caller.fresh (ready_for w.files c k (called_file k)).replicas.next (omega arith)

    -- no call under that number has begun
    never : (file : ℕ) → HasBegunOn file w.entries (id_of node.id (ready_for w.files c k (called_file k)).replicas.next) → ⊥
    never file has = let none : None ≡ Some has.0 = sym (ap (operation_on file) fresh) ∙ has.1 in cc none

    -- nothing comes of it
    nothing_follows : (m : StripedWorld) → Follows (setting_of vol number location who) w was m → FaresAfter (passes (ready_for w.files c k (called_file k)) r.clock)
    nothing_follows m follows rec asks fewer =
        let step = passes (ready_for w.files c k (called_file k)) r.clock in
        inr (
          m,
          follows_so vol number location who of_kind w was own ends_fit once listed node r c step outs found up core rec within fewer asks m m follows
              (rests_then vol number location who of_kind w was own ends_fit once listed node r c step outs found up core rec within fewer asks m follows (none_aside number w.entries) (λ x h. absurd h)
              (λ mine.
              let at = ready_client (setting_of vol number location who) w.entries m c (ready_for w.files c k (called_file k)) ready_so (follows.caller node r c (runs_as mine)) in
              subst (λ (es : List Entry). ClientAt (setting_of vol number location who) es m step.state) (sym (append-nil w.entries)) (record { numbers = at.numbers; mark = at.mark; holds = at.holds; call = at.call }))),
        )

    -- it begins
    module _ (asked : Request) (wants : request_of (ready_for w.files c k (called_file k)).held k ≡ Some asked)
        (starts : Begun node.id (ready_for w.files c k (called_file k)).replicas k asked (rows.starts node.id w.times (ready_for w.files c k (called_file k)).replicas r.clock k asked)) where
      abbrev step : Step WholeClient
      step = rows.request_begins node.id w.times (ready_for w.files c k (called_file k)) r.clock k asked

      abbrev last : List Entry
      last = entry.Begin node.id (ready_for w.files c k (called_file k)).replicas.next k ∷ []

      -- it is what the call asks
      marks_are : map (entry_of node.id) (rows.request_begins node.id w.times (ready_for w.files c k (called_file k)) r.clock k asked).turned.marks ≡ entry.Begin node.id (ready_for w.files c k (called_file k)).replicas.next k ∷ []
      marks_are = ap (map (entry_of node.id)) starts.marks

      module _ (request_is : RequestIs (w.entries ++ entry.Begin node.id (ready_for w.files c k (called_file k)).replicas.next k ∷ []) node.id (ready_for w.files c k (called_file k)).replicas.next asked) where
        has_begun : begun (id_of node.id (ready_for w.files c k (called_file k)).replicas.next) (w.entries ++ entry.Begin node.id (ready_for w.files c k (called_file k)).replicas.next k ∷ []) ≡ Some k
        has_begun = begun_new w.entries node.id (ready_for w.files c k (called_file k)).replicas.next k fresh

        -- on which file it begins
        begins_there : (q : Request) → IsOnFile q → RequestIs (w.entries ++ entry.Begin node.id (ready_for w.files c k (called_file k)).replicas.next k ∷ []) node.id (ready_for w.files c k (called_file k)).replicas.next q
            → HasBegunOn (file_of q) (w.entries ++ entry.Begin node.id (ready_for w.files c k (called_file k)).replicas.next k ∷ []) (id_of node.id (ready_for w.files c k (called_file k)).replicas.next)
        begins_there (request.Replicated capability asked) on is = (asked, is.0.0)
        begins_there (request.Striped capability asked) on is = (asked, is.0.0)
        begins_there (request.Meta user group asked) on is = absurd on
        begins_there (request.Registry asked) on is = absurd on

        -- what is on another file isn't on this one
        not_on_file : IsOnFile asked → file_of asked ≢ number → operation_on number (Some k) ≡ None
        not_on_file on other = at (operation_on number (Some k)) refl
          where
            at : (o : Option Op) → operation_on number (Some k) ≡ o → operation_on number (Some k) ≡ None
            at None is = is
            at (Some o) is =
                absurd (other (one_file (file_of asked) number (w.entries ++ entry.Begin node.id (ready_for w.files c k (called_file k)).replicas.next k ∷ []) (id_of node.id (ready_for w.files c k (called_file k)).replicas.next) (begins_there asked on request_is) (o, ap (operation_on number) has_begun ∙ is)))

        not_on : IsAway number asked → operation_on number (Some k) ≡ None
        not_on away = at asked refl away
          where
            on_it : (q : Request) → asked ≡ q → IsOnFile q → file_of q ≢ number → operation_on number (Some k) ≡ None
            on_it q is on other = not_on_file (subst IsOnFile (sym is) on) (λ e. other (sym (ap file_of is) ∙ e))

            beside : (q : Request) → asked ≡ q → (IsOnFile q → ⊥) → operation_on number (Some k) ≡ None
            beside q is off = server_call (ready_for w.files c k (called_file k)).held k asked (λ on. off (subst IsOnFile is on)) wants number

            at : (q : Request) → asked ≡ q → IsAway number q → operation_on number (Some k) ≡ None
            at (request.Replicated capability operation) is other = on_it (request.Replicated capability operation) is tt other
            at (request.Striped capability operation) is other = on_it (request.Striped capability operation) is tt other
            at (request.Meta user group wanted) is away = beside (request.Meta user group wanted) is (λ on. on)
            at (request.Registry wanted) is away = beside (request.Registry wanted) is (λ on. on)

        call_asides : IsAway number asked → AreAside number w.entries (map (entry_of node.id) (rows.request_begins node.id w.times (ready_for w.files c k (called_file k)) r.clock k asked).turned.marks)
        call_asides away = subst (AreAside number w.entries) (sym marks_are) (one_aside number w.entries (entry.Begin node.id (ready_for w.files c k (called_file k)).replicas.next k) (not_on away))

        -- no ask of it is on the file
        away_ask : (q : Request) (n j : ℕ) (capability : Capability) (o : Op) → IsAway number q → payload_of n q ≡ payload.Ask j capability o → capability.file.number ≢ number
        away_ask (request.Replicated other operation) n j capability o away is = (let same_capability : other ≡ capability = cc is in subst (λ (x : Capability). x.file.number ≢ number) same_capability away)
        away_ask (request.Striped other operation) n j capability o away is = (let same_capability : other ≡ capability = cc is in subst (λ (x : Capability). x.file.number ≢ number) same_capability away)
        away_ask (request.Meta user group wanted) n j capability o away is = absurd (cc is)
        away_ask (request.Registry wanted) n j capability o away is = absurd (cc is)

        none_asked : IsAway number asked → (m : StripedWorld) (x : Msg) → Has x (rows.request_begins node.id w.times (ready_for w.files c k (called_file k)) r.clock k asked).turned.outs → (n : ℕ) (capability : Capability) (o : Op) → x.payload ≡ payload.Ask n capability o → capability.file ≡ id_in vol number
            → Has (record { number = n; epoch = capability.epoch; op = o }) m.asks
        none_asked away m x h n capability o content file = absurd (at (subst (Has x) starts.outs h))
          where
            at : Has x (message node.id starts.to (payload_of (ready_for w.files c k (called_file k)).replicas.next asked) ∷ []) → ⊥
            at (inr none) = none
            at (inl e) =
                away_ask asked (ready_for w.files c k (called_file k)).replicas.next n capability o away (sym (ap (λ (y : Msg). y.payload) e) ∙ content) (ap (λ (f : FileId). f.number) file)

        -- it isn't on the file, where none runs on this one
        elsewhere_follows : (m : StripedWorld) → Follows (setting_of vol number location who) w was m → IsAway number asked → (node.id.0 ≡ who.0 → m.runs ≡ None) → FaresAfter (rows.request_begins node.id w.times (ready_for w.files c k (called_file k)) r.clock k asked)
        elsewhere_follows m follows away none rec asks fewer =
            let step = rows.request_begins node.id w.times (ready_for w.files c k (called_file k)) r.clock k asked in
            inr (
              m,
              follows_so vol number location who of_kind w was own ends_fit once listed node r c step outs found up core rec within fewer asks m m follows
                  (rests_then vol number location who of_kind w was own ends_fit once listed node r c step outs found up core rec within fewer asks m follows (call_asides away) (none_asked away m)
                  (λ mine.
                  let at = ready_client (setting_of vol number location who) w.entries m c (ready_for w.files c k (called_file k)) ready_so (follows.caller node r c (runs_as mine)) in
                  let more = at.numbers in
                  let next_is = starts.next in
                  record {
                    numbers = omega (arith, more, next_is);
                    mark = at.mark;
                    holds = at.holds;
                    call = elsewhere _ away (first_fits (rows.clock_of (ready_for w.files c k (called_file k)) r.clock + w.times.lease) asked)
                        (λ begun. never number (subst (λ (x : NodeId). HasBegunOn number w.entries (id_of x (ready_for w.files c k (called_file k)).replicas.next)) (sym (same_node node.id who mine))
                        (aside_begun number w.entries _ (call_asides away) (id_of who (ready_for w.files c k (called_file k)).replicas.next) begun))) (none mine);
                  })),
            )

        -- what was lost stays so, and what hadn't ended well is lost
        no_ok : (k_number count : ℕ) (bytes : List ℕ) → Has (ok_entry (id_of who k_number) count bytes) (map (entry_of node.id) (rows.request_begins node.id w.times (ready_for w.files c k (called_file k)) r.clock k asked).turned.marks) → ⊥
        no_ok k_number count bytes h = at (subst (Has (ok_entry (id_of who k_number) count bytes)) marks_are h)
          where
            at : Has (ok_entry (id_of who k_number) count bytes) (entry.Begin node.id (ready_for w.files c k (called_file k)).replicas.next k ∷ []) → ⊥
            at (inl e) = cc e
            at (inr none) = none

        gone_so : (g : ℕ) → HasBegunOn number w.entries (id_of who g) → node.id.0 ≡ who.0 → RunningIs (λ n q. n ≡ g → ⊥) (ready_for w.files c k (called_file k)).replicas.running
            → ClientIs (λ n q. n ≡ g → ⊥) (rows.request_begins node.id w.times (ready_for w.files c k (called_file k)) r.clock k asked).state
        gone_so g has mine running = record { running = at starts.running; made = new }
          where
            new : (ready_for w.files c k (called_file k)).replicas.next ≡ g → ⊥
            new e = never number (subst (λ (x : NodeId). HasBegunOn number w.entries (id_of x (ready_for w.files c k (called_file k)).replicas.next)) (sym (same_node node.id who mine)) (subst (λ (n : ℕ). HasBegunOn number w.entries (id_of who n)) (sym e) has))

            at : ((rows.starts node.id w.times (ready_for w.files c k (called_file k)).replicas r.clock k asked).state.running ≡ (ready_for w.files c k (called_file k)).replicas.running)
                ⊎ ((x : RunningCall) × ((rows.starts node.id w.times (ready_for w.files c k (called_file k)).replicas r.clock k asked).state.running ≡ Some x) × (x.number ≡ (ready_for w.files c k (called_file k)).replicas.next))
                → RunningIs (λ n q. n ≡ g → ⊥) (rows.starts node.id w.times (ready_for w.files c k (called_file k)).replicas r.clock k asked).state.running
            at (inl same_running) = subst (RunningIs (λ n q. n ≡ g → ⊥)) (sym same_running) running
            at (inr one) = subst (RunningIs (λ n q. n ≡ g → ⊥)) (sym one.1) (λ e. new (sym one.2 ∙ e))

        lost_follows : IsLost (setting_of vol number location who) w → FaresAfter (rows.request_begins node.id w.times (ready_for w.files c k (called_file k)) r.clock k asked)
        lost_follows lost rec asks fewer =
            inl (lost_stays (setting_of vol number location who) w was own node r c (rows.request_begins node.id w.times (ready_for w.files c k (called_file k)) r.clock k asked) outs found up core rec within asks
            (λ g count bytes h. no_ok g.number count bytes h)
            (λ g mine. gone_so g.number g.begun mine (subst (RunningIs (λ n q. n ≡ g.number → ⊥)) (sym ready_so.running) (g.gone node r c (runs_as mine)).running)) lost)

        -- the call before hadn't ended well
        gives_up : (m : StripedWorld) (made : MadeCall) (capability : Capability) (operation : Op) → node.id.0 ≡ who.0 → Goes (setting_of vol number location who) w.entries m made capability operation → FaresAfter (rows.request_begins node.id w.times (ready_for w.files c k (called_file k)) r.clock k asked)
        gives_up m made capability operation mine so rec asks fewer =
            inl (given_up (record {
              number = made.number;
              begun = begun_on-grown number w.entries (map (entry_of node.id) (rows.request_begins node.id w.times (ready_for w.files c k (called_file k)) r.clock k asked).turned.marks) (id_of who made.number) (operation, so.begun);
              unheard = λ count bytes h. elim (has_in (ok_entry (id_of who made.number) count bytes) w.entries (map (entry_of node.id) (rows.request_begins node.id w.times (ready_for w.files c k (called_file k)) r.clock k asked).turned.marks) h) [
                | inl old ↦ so.unheard count bytes old
                | inr new ↦ no_ok made.number count bytes new
              ];
              gone = λ x q e runs. elim (caller_then (setting_of vol number location who) w was own node r c (rows.request_begins node.id w.times (ready_for w.files c k (called_file k)) r.clock k asked) outs found up core rec within asks who.0 x q e runs) [
                | inl own_one ↦ subst (ClientIs (λ n p. n ≡ made.number → ⊥)) (sym own_one.1) (gone_so made.number (operation, so.begun) mine (running_else (ready_for w.files c k (called_file k)).replicas.running caller.calls.running))
                | inr old ↦ absurd (old.1 mine)
              ];
            }))
          where
            running_else : (o : Option RunningCall) → RunningIs (RequestIs w.entries node.id) o → RunningIs (λ n q. n ≡ made.number → ⊥) o
            running_else None is = tt
            running_else (Some x) is = λ e. replicated_not_here vol number location of_kind w was ends_fit listed node.id x.number x.capability x.op is
                (subst (λ (y : NodeId). HasBegunOn number w.entries (id_of y x.number)) (sym (same_node node.id who mine)) (subst (λ (n : ℕ). HasBegunOn number w.entries (id_of who n)) (sym e) (operation, so.begun)))

    -- a call of the file's client on the file, where none runs
    module _ (capability : Capability) (operation : Op) (its_file : capability.file ≡ id_in vol number) (its_list : capability.location ≡ location)
        (wants : request_of (ready_for w.files c k (called_file k)).held k ≡ Some (request.Striped capability operation)) (mine : node.id.0 ≡ who.0)
        (request_is : RequestIs (w.entries ++ entry.Begin node.id (ready_for w.files c k (called_file k)).replicas.next k ∷ []) node.id (ready_for w.files c k (called_file k)).replicas.next (request.Striped capability operation)) where
      abbrev a : Asked
      a = record { number = (ready_for w.files c k (called_file k)).replicas.next; epoch = capability.epoch; op = operation }

      same_id : node.id ≡ who
      same_id = same_node node.id who mine

      file_number : capability.file.number ≡ number
      file_number = ap (λ (f : FileId). f.number) its_file

      has_begun_then : begun (id_of node.id (ready_for w.files c k (called_file k)).replicas.next) (w.entries ++ entry.Begin node.id (ready_for w.files c k (called_file k)).replicas.next k ∷ []) ≡ Some k
      has_begun_then = begun_new w.entries node.id (ready_for w.files c k (called_file k)).replicas.next k fresh

      does_it : operation_on number (Some k) ≡ Some operation
      does_it = sym (ap (operation_on number) has_begun_then) ∙ subst (λ (f : ℕ). operation_begun f (w.entries ++ entry.Begin node.id (ready_for w.files c k (called_file k)).replicas.next k ∷ []) (id_of node.id (ready_for w.files c k (called_file k)).replicas.next) ≡ Some operation) file_number request_is.0.0

      -- no Ok is of the new number
      no_ok_yet : (count : ℕ) (bytes : List ℕ) → Has (ok_entry (id_of who (ready_for w.files c k (called_file k)).replicas.next) count bytes) w.entries → ⊥
      no_ok_yet count bytes h =
          let has = ok_begun w.entries (id_of who (ready_for w.files c k (called_file k)).replicas.next) count bytes ends_fit.ends h in
          never has.0 (subst (λ (x : NodeId). HasBegunOn has.0 w.entries (id_of x (ready_for w.files c k (called_file k)).replicas.next)) (sym same_id) has.1)

      old_ok : (id : OpId) (count : ℕ) (bytes : List ℕ) → Has (ok_entry id count bytes) (w.entries ++ entry.Begin node.id (ready_for w.files c k (called_file k)).replicas.next k ∷ []) → Has (ok_entry id count bytes) w.entries
      old_ok id count bytes h = elim (has_in (ok_entry id count bytes) w.entries (entry.Begin node.id (ready_for w.files c k (called_file k)).replicas.next k ∷ []) h) [
        | inl old ↦ old
        | inr (inl e) ↦ absurd (cc e)
        | inr (inr none) ↦ absurd none
      ]

      no_begin_yet : (before : List Entry) (object at len : ℕ) → IsBefore before (entry.Begin who (ready_for w.files c k (called_file k)).replicas.next (call.Read number object at len)) w.entries → ⊥
      no_begin_yet before object at len there =
          let some = begun_there w.entries before who (ready_for w.files c k (called_file k)).replicas.next (call.Read number object at len) once there in
          let none : begun (id_of who (ready_for w.files c k (called_file k)).replicas.next) w.entries ≡ None = subst (λ (x : NodeId). begun (id_of x (ready_for w.files c k (called_file k)).replicas.next) w.entries ≡ None) same_id fresh in
          let both = sym none ∙ some in cc both

      begins_follow : (m : StripedWorld) → Follows (setting_of vol number location who) w was m → m.runs ≡ None → FaresAfter (rows.request_begins node.id w.times (ready_for w.files c k (called_file k)) r.clock k (request.Striped capability operation))
      begins_follow m follows none rec asks fewer =
          let step = rows.request_begins node.id w.times (ready_for w.files c k (called_file k)) r.clock k (request.Striped capability operation) in
          inr (
            striped.after (setting_of vol number location who) m (begins (record { number = (ready_for w.files c k (called_file k)).replicas.next; epoch = capability.epoch; op = operation })),
            client_follows (setting_of vol number location who) w was own node r c step outs found up core rec within asks m _
                (record {
                  stands = step_stands (setting_of vol number location who) setting m (begins (record { number = (ready_for w.files c k (called_file k)).replicas.next; epoch = capability.epoch; op = operation })) (record { rests = none; above = at.numbers; fits = request_is.0.1 }) follows.stands;
                  members = refl;
                  asks = λ x h. inr h;
                  replies = refl;
                  sent = λ x h n other o content file. inl (asked_so x (fewer x h) n other o content);
                  alone = λ id has. elim (begun_last number w.entries node.id (ready_for w.files c k (called_file k)).replicas.next k id has) [
                    | inl old ↦ follows.alone id old
                    | inr new ↦ same_node id.client who (new ∙ mine)
                  ];
                  begun = operations_begun number w.entries node.id (ready_for w.files c k (called_file k)).replicas.next k operation does_it
                      ∙ (ap (λ (ops : List Op). ops ++ operation ∷ []) (follows.begun ∙ ap (λ (o : Option Asked). ops_of (striped.done_with m.done o)) none)
                      ∙ sym (map-append (λ (x : Asked). x.op) m.done (record { number = (ready_for w.files c k (called_file k)).replicas.next; epoch = capability.epoch; op = operation } ∷ [])));
                  reads = reads_then;
                  mine = λ _. client_then;
                  unborn = λ other is. absurd (other mine);
                  others = λ other e is. absurd (other mine);
                })
                follows,
          )
        where
          at : ClientAt (setting_of vol number location who) w.entries m (ready_for w.files c k (called_file k))
          at = ready_client (setting_of vol number location who) w.entries m c (ready_for w.files c k (called_file k)) ready_so (follows.caller node r c (runs_as mine))

          asked_so : (x : Msg) → Has x (message node.id (first_asked (request.Striped capability operation)) (payload.Ask (ready_for w.files c k (called_file k)).replicas.next capability operation) ∷ []) → (n : ℕ) (other : Capability) (o : Op) → x.payload ≡ payload.Ask n other o
              → (let z : Asked = record { number = n; epoch = other.epoch; op = o } in let y : Asked = record { number = (ready_for w.files c k (called_file k)).replicas.next; epoch = capability.epoch; op = operation } in z ≡ y)
          asked_so x (inr h) n other o content = absurd h
          asked_so x (inl e) n other o content =
              let is : payload.Ask n other o ≡ payload.Ask (ready_for w.files c k (called_file k)).replicas.next capability operation = sym content ∙ ap (λ (y : Msg). y.payload) e in
              let its_number : n ≡ (ready_for w.files c k (called_file k)).replicas.next = cc is in
              let its_capability : other ≡ capability = cc is in
              let its_op : o ≡ operation = cc is in
              ap (λ (y : ℕ). let z : Asked = record { number = y; epoch = other.epoch; op = o } in z) its_number
              ∙ (ap (λ (y : Capability). let z : Asked = record { number = (ready_for w.files c k (called_file k)).replicas.next; epoch = y.epoch; op = o } in z) its_capability
              ∙ ap (λ (y : Op). let z : Asked = record { number = (ready_for w.files c k (called_file k)).replicas.next; epoch = capability.epoch; op = y } in z) its_op)

          reads_then : AreToldReads number who (w.entries ++ entry.Begin node.id (ready_for w.files c k (called_file k)).replicas.next k ∷ []) m.reads
          reads_then before j object from len count bytes there ok =
              let was_ok = old_ok (id_of who j) count bytes ok in
              elim (before_last w.entries before (entry.Begin node.id (ready_for w.files c k (called_file k)).replicas.next k) (entry.Begin who j (call.Read number object from len)) there) [
                | inl old ↦ follows.reads before j object from len count bytes old was_ok
                | inr new ↦ absurd (let e = new.1 in let its_number : j ≡ (ready_for w.files c k (called_file k)).replicas.next = cc e in
                    no_ok_yet count bytes (subst (λ (n : ℕ). Has (ok_entry (id_of who n) count bytes) w.entries) its_number was_ok))
              ]

          client_then : ClientAt (setting_of vol number location who) (w.entries ++ entry.Begin node.id (ready_for w.files c k (called_file k)).replicas.next k ∷ [])
              (striped.after (setting_of vol number location who) m (begins (record { number = (ready_for w.files c k (called_file k)).replicas.next; epoch = capability.epoch; op = operation })))
              (rows.request_begins node.id w.times (ready_for w.files c k (called_file k)) r.clock k (request.Striped capability operation)).state
          client_then =
              record {
                numbers = omega arith;
                mark = at.mark;
                holds = λ b runs. held_by_request (known w) (ready_for w.files c k (called_file k)).held k (request.Striped capability operation) capability number holds_known tt wants refl file_number;
                call = goes _ capability operation refl its_file its_list
                    (record {
                      runs = refl;
                      sent = inl refl;
                      unheard = λ count bytes h. no_ok_yet count bytes (old_ok (id_of who (ready_for w.files c k (called_file k)).replicas.next) count bytes h);
                      begun = subst (λ (x : NodeId). operation_begun number (w.entries ++ entry.Begin node.id (ready_for w.files c k (called_file k)).replicas.next k ∷ []) (id_of x (ready_for w.files c k (called_file k)).replicas.next) ≡ Some operation) same_id
                          (ap (operation_on number) has_begun_then ∙ does_it);
                      before = λ before object from len there. elim (before_last w.entries before (entry.Begin node.id (ready_for w.files c k (called_file k)).replicas.next k) (entry.Begin who (ready_for w.files c k (called_file k)).replicas.next (call.Read number object from len)) there) [
                        | inl old ↦ absurd (no_begin_yet before object from len old)
                        | inr new ↦ ap (operations_on number) new.0 ∙ (follows.begun ∙ ap (λ (o : Option Asked). ops_of (striped.done_with m.done o)) none)
                      ];
                      at = first_at (setting_of vol number location who) setting (striped.after (setting_of vol number location who) m (begins (record { number = (ready_for w.files c k (called_file k)).replicas.next; epoch = capability.epoch; op = operation }))) capability operation
                          (rows.clock_of (ready_for w.files c k (called_file k)) r.clock + w.times.lease) its_list;
                    });
              }

    -- ---- any call

    no_runs : (m : StripedWorld) (o : Option MadeCall) → CallAt (setting_of vol number location who) w.entries m o
        → (m.runs ≡ None) ⊎ ((made : MadeCall) × (capability : Capability) × (operation : Op) × Goes (setting_of vol number location who) w.entries m made capability operation)
    no_runs m _ (not_yet none) = inl none
    no_runs m _ (elsewhere made away fits never none) = inl none
    no_runs m _ (goes made capability operation is file at_list so) = inr (made, capability, operation, so)
    no_runs m _ (has_ended made capability operation count size bytes is ended none) = inl none

    module _ (asked : Request) (wants : request_of (ready_for w.files c k (called_file k)).held k ≡ Some asked)
        (starts : Begun node.id (ready_for w.files c k (called_file k)).replicas k asked (rows.starts node.id w.times (ready_for w.files c k (called_file k)).replicas r.clock k asked))
        (request_is : RequestIs (w.entries ++ entry.Begin node.id (ready_for w.files c k (called_file k)).replicas.next k ∷ []) node.id (ready_for w.files c k (called_file k)).replicas.next asked) where
      -- a call on the file is on a striped one
      on_it : (m : StripedWorld) → Follows (setting_of vol number location who) w was m → node.id.0 ≡ who.0 → m.runs ≡ None → IsOnFile asked → file_of asked ≡ number → FaresAfter (rows.request_begins node.id w.times (ready_for w.files c k (called_file k)) r.clock k asked)
      on_it m follows mine none on its = at asked refl
        where
          known_so : (capability : Capability) → IsUnder capability asked → IsOfKnown (known w) capability
          known_so capability under = known_by_request (known w) (ready_for w.files c k (called_file k)).held k asked capability holds_known on wants under

          at : (q : Request) → asked ≡ q → FaresAfter (rows.request_begins node.id w.times (ready_for w.files c k (called_file k)) r.clock k asked)
          at (request.Replicated capability operation) is =
              let its_list = (listed.known capability.file capability.location (known_so capability (subst (IsUnder capability) (sym is) refl)) (sym (ap file_of is) ∙ its)).1 in
              let kind_is = subst (RequestIs (w.entries ++ entry.Begin node.id (ready_for w.files c k (called_file k)).replicas.next k ∷ []) node.id (ready_for w.files c k (called_file k)).replicas.next) is request_is in
              absurd (let clash : kind.Replicated ≡ kind.Striped = sym kind_is.1 ∙ (ap (λ (l : Location). l.kind) its_list ∙ of_kind) in cc clash)
          at (request.Striped capability operation) is =
              let its_own = listed.known capability.file capability.location (known_so capability (subst (IsUnder capability) (sym is) refl)) (sym (ap file_of is) ∙ its) in
              subst (λ (q : Request). FaresAfter (rows.request_begins node.id w.times (ready_for w.files c k (called_file k)) r.clock k q)) (sym is)
              (begins_follow capability operation its_own.0 its_own.1 (wants ∙ ap (λ (q : Request). Some q) is) mine
              (subst (RequestIs (w.entries ++ entry.Begin node.id (ready_for w.files c k (called_file k)).replicas.next k ∷ []) node.id (ready_for w.files c k (called_file k)).replicas.next) is request_is) m follows none)
          at (request.Meta user group wish) is = absurd (subst IsOnFile is on)
          at (request.Registry wish) is = absurd (subst IsOnFile is on)

      -- another client's call on the file
      strange_call : node.id.0 ≢ who.0 → IsOnFile asked → file_of asked ≡ number → FaresAfter (rows.request_begins node.id w.times (ready_for w.files c k (called_file k)) r.clock k asked)
      strange_call other on its rec asks fewer =
          inl (strange (id_of node.id (ready_for w.files c k (called_file k)).replicas.next)
          (subst (λ (es : List Entry). HasBegunOn number es (id_of node.id (ready_for w.files c k (called_file k)).replicas.next)) (ap (λ (more : List Entry). w.entries ++ more) (sym (marks_are asked wants starts)))
          (subst (λ (f : ℕ). HasBegunOn f (w.entries ++ entry.Begin node.id (ready_for w.files c k (called_file k)).replicas.next k ∷ []) (id_of node.id (ready_for w.files c k (called_file k)).replicas.next)) its (begins_there asked wants starts request_is asked on request_is)))
          (λ e. other (ap (λ (x : NodeId). x.0) e)))

      begins_fares : IsLost (setting_of vol number location who) w ⊎ ((m : StripedWorld) × Follows (setting_of vol number location who) w was m) → FaresAfter (rows.request_begins node.id w.times (ready_for w.files c k (called_file k)) r.clock k asked)
      begins_fares (inl lost) = lost_follows asked wants starts request_is lost
      begins_fares (inr (m, follows)) = by_client (same node.id.0 who.0) (where_is number asked)
        where
          by_call : node.id.0 ≡ who.0 → (IsOnFile asked × (file_of asked ≡ number)) ⊎ IsAway number asked → (m.runs ≡ None) ⊎ ((made : MadeCall) × (capability : Capability) × (operation : Op) × Goes (setting_of vol number location who) w.entries m made capability operation)
              → FaresAfter (rows.request_begins node.id w.times (ready_for w.files c k (called_file k)) r.clock k asked)
          by_call mine file (inr so) = gives_up asked wants starts request_is m so.0 so.1 so.2 mine so.3
          by_call mine (inl here) (inl none) = on_it m follows mine none here.0 here.1
          by_call mine (inr away) (inl none) = elsewhere_follows asked wants starts request_is m follows away (λ _. none)

          by_client : (node.id.0 ≡ who.0) ⊎ (node.id.0 ≢ who.0) → (IsOnFile asked × (file_of asked ≡ number)) ⊎ IsAway number asked → FaresAfter (rows.request_begins node.id w.times (ready_for w.files c k (called_file k)) r.clock k asked)
          by_client (inl mine) file = by_call mine file (no_runs m c.made (follows.caller node r c (runs_as mine)).call)
          by_client (inr other) (inl here) = strange_call other here.0 here.1
          by_client (inr other) (inr away) = elsewhere_follows asked wants starts request_is m follows away (λ mine. absurd (other mine))

    -- what was lost stays so, where nothing comes of the call
    passes_lost : IsLost (setting_of vol number location who) w → FaresAfter (passes (ready_for w.files c k (called_file k)) r.clock)
    passes_lost lost rec asks fewer =
        inl (lost_stays (setting_of vol number location who) w was own node r c (passes (ready_for w.files c k (called_file k)) r.clock) outs found up core rec within asks (λ g count bytes h. h)
        (λ g mine.
        let was_gone = g.gone node r c (runs_as mine) in
        record { running = subst (RunningIs (λ n q. n ≡ g.number → ⊥)) (sym ready_so.running) was_gone.running; made = subst (MadeIs (λ n q. n ≡ g.number → ⊥)) (sym ready_so.made) was_gone.made }) lost)

    call_fares : IsLost (setting_of vol number location who) w ⊎ ((m : StripedWorld) × Follows (setting_of vol number location who) w was m) → FaresAfter (call_step w node r c k)
    call_fares fares =
        at (call_is node.id w.times (ready_for w.files c k (called_file k)) r.clock k)
        (call_owes w.entries node.id w.times (ready_for w.files c k (called_file k)) r.clock k ends_fit.ends caller bound)
      where
        at : {step : Step WholeClient} → CallIs node.id w.times (ready_for w.files c k (called_file k)) r.clock k step → Owes w.entries node.id (client step.state) step.turned → FaresAfter step
        at nothing_called owes = elim fares as (λ _. FaresAfter (passes (ready_for w.files c k (called_file k)) r.clock)) [
          | inl lost ↦ passes_lost lost
          | inr follows ↦ nothing_follows follows.0 follows.1
        ]
        at (begins_so asked wants room) owes =
            let starts = starts_begun node.id w.times (ready_for w.files c k (called_file k)).replicas r.clock k asked room in
            begins_fares asked wants starts
            (subst (λ (more : List Entry). RequestIs (w.entries ++ more) node.id (ready_for w.files c k (called_file k)).replicas.next asked) (marks_are asked wants starts) owes.core_is.calls.made) fares

    pub call_follows : FileFollows vol number location who w was → ((x : Msg) → Has x outs → Has x (call_step w node r c k).turned.outs)
        → (let step = call_step w node r c k in FileFollows vol number location who (after_turn w node (record r { core = client step.state }) (record step.turned { outs = outs })) (own ++ to_itself node.id outs))
    call_follows is fewer =
        let step = call_step w node r c k in
        let gives = call_asks node.id w.times (ready_for w.files c k (called_file k)) r.clock k in
        let asks : (x : Msg) → Has x outs → IsRequest x.payload = λ x h. gives.asks x (fewer x h) in
        record {
          quiet = client_quiet (setting_of vol number location who) w was own node r c step outs found up core gives.rec within asks is.quiet;
          fares = call_fares is.fares gives.rec asks fewer;
        }
