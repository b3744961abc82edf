-- after an event at a client a striped file's world is still shown
use Rattle.std.proofs.Common.{◌≡◌, ◌≢◌, ℕ, inl, inr, List, ◌++◌, map, refl, ap, sym, ◌∙◌, subst, Option, Some, None}
use Rattle.xt_base.specs.declared.ids.NodeId.{NodeId}
use Rattle.xt_base.specs.declared.ids.FileId.{FileId}
use Rattle.xt_base.specs.declared.ids.OpId.{OpId}
use Rattle.xt_messages.specs.declared.file.Capability.{Capability}
use Rattle.xt_messages.specs.declared.file.Kind.TheVariants as kind
use Rattle.xt_messages.specs.declared.file.Location.{Location}
use Rattle.xt_messages.specs.declared.file.Op.{Op}
use Rattle.xt_messages.specs.declared.event.Event.{Event}
use Rattle.xt_messages.specs.declared.event.Mark.{Mark}
use Rattle.xt_messages.specs.declared.message.Msg.{Msg}
use Rattle.xt_messages.specs.declared.message.Payload.TheVariants as payload
use Rattle.lease_safety.specs.State.{Has}
use Rattle.client_rows.specs.declared.RunningCall.{RunningCall}
use Rattle.client_rows.specs.declared.requests.MadeCall.{MadeCall}
use Rattle.client_rows.specs.declared.requests.Request.{Request}
use Rattle.client_rows.specs.declared.requests.Request.TheVariants as request
use Rattle.client_rows.specs.Requests.{payload_of}
use Rattle.client_rows.specs.Steps.{Step}
use Rattle.client_rows.specs.Rows.{WholeClient}
use Rattle.client_steps.specs.Asked.{ClientIs, RunningIs, MadeIs, Sends, sends_none, sends_one, Tells, tells_none, tells_end}
use Rattle.time_line.specs.declared.entry.Entry.{Entry}
use Rattle.time_line.specs.declared.entry.Entry.TheVariants as entry
use Rattle.time_line.specs.TimeLine.{id_of, location_in, operation_begun}
use Rattle.time_line.specs.Clauses.{HasBegunOn}
use Rattle.world_spec.specs.World.{World, Node, Running, client, node_in, known}
use Rattle.world_spec.specs.NodeSteps.{entry_of, to_itself, after_turn}
use Rattle.world_runs.specs.Worlds.{ClientFits, CoreFits, UpFits}
use Rattle.world_runs.proofs.Calls.{RequestIs}
use Rattle.world_runs.proofs.Entries.{one_file}
use Rattle.world_runs.proofs.Fit.{IsFit}
use Rattle.world_runs.proofs.Growth.{CallerIs, CoreIs, UpIs}
use Rattle.world_runs.proofs.Steps.{Fits}
use Rattle.world_runs.proofs.Tables.{same}
use Rattle.striped_safety.specs.StripedWorld.{Setting, StripedWorld}
use Rattle.striped_safety.proofs.ClientMoves.{AreAside, none_aside, one_aside, aside_begun, aside_operations, aside_reads, call_aside, Then, client_follows}
use Rattle.striped_safety.proofs.ClientSends.{IsRequest}
use Rattle.striped_safety.proofs.Follows.{id_in, setting_of, ClientAt, Follows}
use Rattle.striped_safety.proofs.TheFile.{IsTheFile}
use Rattle.striped_safety.proofs.Trace.{BeginOnce}

-- ---- what is aside of a file's calls

-- a client in a world, and what it asks under a number when that isn't on the file
module _ (vol : List ℕ) (number : ℕ) (location : Location) (of_kind : location.kind ≡ kind.Striped) (w : World) (was : List Msg) (ends : Fits w was) (listed : IsTheFile vol number location w) where
  -- a call that has begun on another file hasn't on this one
  pub not_here : (file : ℕ) (id : OpId) → HasBegunOn file w.entries id → file ≢ number → HasBegunOn number w.entries id → ⊥
  not_here file id there other here = other (one_file file number w.entries id there here)

  -- nor has one that is on a replicated file
  pub replicated_not_here : (node : NodeId) (n : ℕ) (capability : Capability) (asked : Op) → RequestIs w.entries node n (request.Replicated capability asked) → HasBegunOn number w.entries (id_of node n) → ⊥
  replicated_not_here node n capability asked is here =
      let same_file = one_file capability.file.number number w.entries (id_of node n) (asked, is.0.0) here in
      let its_list : capability.location ≡ location = listed.told capability.location (subst (λ (f : ℕ). location_in f w.entries ≡ Some capability.location) same_file is.0.2) in
      let clash : kind.Replicated ≡ kind.Striped = sym is.1 ∙ (ap (λ (l : Location). l.kind) its_list ∙ of_kind) in cc clash

  abbrev pub IsNotHere : NodeId → ℕ → Request → Type 0
  IsNotHere node n asked = RequestIs w.entries node n asked × (HasBegunOn number w.entries (id_of node n) → ⊥)

  -- so it is of all that a client asks whose last call hasn't begun on this file
  pub all_not_here : (node : NodeId) (c : WholeClient) → ClientIs (RequestIs w.entries node) c → MadeIs (λ n asked. HasBegunOn number w.entries (id_of node n) → ⊥) c.made → ClientIs (IsNotHere node) c
  all_not_here node c is never = record { running = running c.replicas.running is.running; made = made c.made is.made never }
    where
      running : (o : Option RunningCall) → RunningIs (RequestIs w.entries node) o → RunningIs (λ n asked. RequestIs w.entries node n asked × (HasBegunOn number w.entries (id_of node n) → ⊥)) o
      running None is = tt
      running (Some call) is = (is, replicated_not_here node call.number call.capability call.op is)

      made : (o : Option MadeCall) → MadeIs (RequestIs w.entries node) o → MadeIs (λ n asked. HasBegunOn number w.entries (id_of node n) → ⊥) o → MadeIs (λ n asked. RequestIs w.entries node n asked × (HasBegunOn number w.entries (id_of node n) → ⊥)) o
      made None is never = tt
      made (Some m) is never = (is, never)

-- an ask of a call on a file has begun on it
pub ask_begun : (es : List Entry) (node to : NodeId) (n : ℕ) (asked : Request) (k : ℕ) (capability : Capability) (operation : Op) → RequestIs es node n asked → payload_of n asked ≡ payload.Ask k capability operation
    → (n ≡ k) × HasBegunOn capability.file.number es (id_of node n)
ask_begun es node to n (request.Replicated c a) k capability operation is same =
    let number : n ≡ k = cc same in let its : c ≡ capability = cc same in (number, (a, subst (λ (x : Capability). operation_begun x.file.number es (id_of node n) ≡ Some a) its is.0.0))
ask_begun es node to n (request.Striped c a) k capability operation is same =
    let number : n ≡ k = cc same in let its : c ≡ capability = cc same in (number, (a, subst (λ (x : Capability). operation_begun x.file.number es (id_of node n) ≡ Some a) its is.0.0))
ask_begun es node to n (request.Meta user group asked) k capability operation is same = absurd (cc same)
ask_begun es node to n (request.Registry asked) k capability operation is same = absurd (cc same)

-- the client that runs
pub caller_is : (w : World) (was : List Msg) (node : Node) (r : Running) (c : WholeClient) → Fits w was → node_in w.nodes node.id.0 ≡ Some node → node.up ≡ Some r → r.core ≡ client c → CallerIs w.entries node.id c
caller_is w was node r c ends found up core = subst (CoreIs w.entries node.id) core (subst (UpIs w.entries node.id) up (ends.nodes_are node.id.0 node found))

pub client_fits : (w : World) (was : List Msg) (node : Node) (r : Running) (c : WholeClient) → IsFit w was → node_in w.nodes node.id.0 ≡ Some node → node.up ≡ Some r → r.core ≡ client c → ClientFits (known w) c
client_fits w was node r c fit found up core =
    subst (CoreFits w.times (known w) node.id node.kept r) core (subst (UpFits w.times (known w) node.id node.kept) up (fit.shape.nodes node.id.0 node found).up)

-- ---- a step that begins no call on the file

module _ (vol : List ℕ) (number : ℕ) (location : Location) (who : NodeId) (of_kind : location.kind ≡ kind.Striped) (w : World) (was own : List Msg) (ends : Fits w was) (once : BeginOnce w.entries) (listed : IsTheFile vol number location w) (node : Node) (r : Running) (c : WholeClient) (step : Step WholeClient) (outs : List Msg)
    (found : node_in w.nodes node.id.0 ≡ Some node) (up : node.up ≡ Some r) (core : r.core ≡ client c) (rec : step.turned.rec ≡ None) (within : (k : Msg) → Has k own → Has k was) (fewer : (k : Msg) → Has k outs → Has k step.turned.outs) (all_asks : (k : Msg) → Has k outs → IsRequest k.payload) where
  abbrev s : Setting
  s = setting_of vol number location who

  abbrev more : List Entry
  more = map (entry_of node.id) step.turned.marks

  -- another client: what it asks and reports isn't on the file
  pub stranger : (m : StripedWorld) → Follows (setting_of vol number location who) w was m → node.id.0 ≢ who.0 → (n : ℕ) → HasBegunOn number w.entries (id_of node.id n) → ⊥
  stranger m follows other n begun = other (ap (λ (x : NodeId). x.0) (follows.alone (id_of node.id n) begun))

  -- the file's world rests
  pub rests_then : (m : StripedWorld) → Follows (setting_of vol number location who) w was m → AreAside number w.entries (map (entry_of node.id) step.turned.marks)
      → ((k : Msg) → Has k step.turned.outs → (n : ℕ) (capability : Capability) (asked : Op) → k.payload ≡ payload.Ask n capability asked → capability.file ≡ id_in vol number → Has (record { number = n; epoch = capability.epoch; op = asked }) m.asks)
      → (node.id.0 ≡ who.0 → ClientAt (setting_of vol number location who) (w.entries ++ map (entry_of node.id) step.turned.marks) m step.state)
      → Then (setting_of vol number location who) w was own node r c step outs found up core rec within all_asks m m
  rests_then m follows aside sent mine =
      record {
        stands = follows.stands;
        members = refl;
        asks = λ x h. h;
        replies = refl;
        sent = λ k h. sent k (fewer k h);
        alone = λ id begun. follows.alone id (aside_begun number w.entries (map (entry_of node.id) step.turned.marks) aside id begun);
        begun = aside_operations number w.entries (map (entry_of node.id) step.turned.marks) aside ∙ follows.begun;
        reads = aside_reads number w.entries (map (entry_of node.id) step.turned.marks) aside who m.reads once follows.reads;
        mine = mine;
        unborn = λ _ is. is;
        others = λ _ d is. record { numbers = is.numbers; mark = is.mark; holds = is.holds; call = call_aside (setting_of vol number location who) w.entries (map (entry_of node.id) step.turned.marks) m d.made aside is.call };
      }

  pub follows_so : (m n : StripedWorld) → Follows (setting_of vol number location who) w was m → Then (setting_of vol number location who) w was own node r c step outs found up core rec within all_asks m n
      → Follows (setting_of vol number location who) (after_turn w node (record r { core = client step.state }) (record step.turned { outs = outs })) (own ++ to_itself node.id outs) n
  follows_so m n follows now = client_follows (setting_of vol number location who) w was own node r c step outs found up core rec within all_asks m n now follows

  -- what is asked of the file by who has begun nothing on it
  pub none_sent : (asks_of : ℕ → Request → Type 0) → ((n : ℕ) (asked : Request) → asks_of n asked → RequestIs w.entries node.id n asked × (HasBegunOn number w.entries (id_of node.id n) → ⊥)) → Sends asks_of node.id step.turned.outs
      → (m : StripedWorld) (k : Msg) → Has k step.turned.outs → (n : ℕ) (capability : Capability) (asked : Op) → k.payload ≡ payload.Ask n capability asked → capability.file ≡ id_in vol number → Has (record { number = n; epoch = capability.epoch; op = asked }) m.asks
  none_sent asks_of known sends m k h n capability asked content file = absurd (at step.turned.outs sends h)
    where
      at : (outs : List Msg) → Sends asks_of node.id outs → Has k outs → ⊥
      at _ sends_none h = h
      at _ (sends_one to j request is) (inr h) = h
      at _ (sends_one to j request is) (inl e) =
          let it = known j request is in
          let begun = ask_begun w.entries node.id to j request n capability asked it.0 (sym (ap (λ (x : Msg). x.payload) e) ∙ content) in
          it.1 (subst (λ (f : FileId). HasBegunOn f.number w.entries (id_of node.id j)) file begun.1)

  -- what a node reports that has begun nothing on it
  pub aside_told : (asks_of : ℕ → Request → Type 0) → ((n : ℕ) (asked : Request) → asks_of n asked → HasBegunOn number w.entries (id_of node.id n) → ⊥) → (happens : Event) → Tells asks_of happens step.turned.marks
      → AreAside number w.entries (map (entry_of node.id) step.turned.marks)
  aside_told asks_of known happens tells = at step.turned.marks tells
    where
      at : (marks : List Mark) → Tells asks_of happens marks → AreAside number w.entries (map (entry_of node.id) marks)
      at _ tells_none = none_aside number w.entries
      at _ (tells_end n asked how is so) = one_aside number w.entries (entry.Done node.id n how) (inl (known n asked is))
