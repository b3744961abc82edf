-- what every run keeps: a world within the limits, of which each step gives what can be kept and sent
use Rattle.std.proofs.Common.{◌≡◌, ◌<◌, ◌+◌, ◌^◌, inl, inr, ℕ, nat_lt, List, [], ◌∷◌, ◌++◌, map, refl, sym, ap, subst, ◌∙◌, Option, Some, None, true, arith}
use Rattle.std.specs.Option.{IfSome, option_map}
use Rattle.std.specs.List.{AllByRecursion}
use Rattle.std.proofs.lemmas.Bool.Decides.{nat_tests}
use Rattle.disk_model.specs.declared.plan.Stop.{Stop}
use Rattle.xt_base.specs.declared.TheConstants.{COUNTS}
use Rattle.xt_base.specs.declared.ids.NodeId.{NodeId}
use Rattle.xt_base.specs.declared.ids.Boot.{Boot}
use Rattle.xt_messages.specs.declared.event.Call.{Call}
use Rattle.xt_messages.specs.declared.event.Event.{Event}
use Rattle.xt_messages.specs.declared.event.Event.TheVariants as event
use Rattle.xt_messages.specs.declared.event.Mark.{Mark}
use Rattle.xt_messages.specs.declared.event.Mark.TheVariants as mark
use Rattle.xt_messages.specs.declared.message.Msg.{Msg}
use Rattle.xt_messages.specs.declared.record.Record.{Record}
use Rattle.xt_messages.specs.declared.record.Record.TheVariants as kept
use Rattle.xt_messages.specs.Limits.{FitsMessage, FitsEvent}
use Rattle.xt_messages.specs.Limits as limits
use Rattle.xt_protocol.specs.declared.turned.Turned.{Turned}
use Rattle.xt_protocol.specs.Folds.{fold_of}
use Rattle.xt_protocol.specs.Forgetting.{keep_of}
use Rattle.lease_safety.specs.State.{Has}
use Rattle.xt_protocol.specs.OsdSteps.{OsdState, step_of_osd}
use Rattle.world_spec.specs.declared.PlacedFile.{PlacedFile}
use Rattle.world_spec.specs.declared.Role.{Role}
use Rattle.world_spec.specs.declared.Role.TheVariants as role
use Rattle.world_spec.specs.declared.Sent.{Sent}
use Rattle.time_line.specs.Bounds.{FitsCall}
use Rattle.capabilities.specs.Tags.{is_sealed}
use Rattle.client_limits.specs.Fits.{FitsClient}
use Rattle.client_limits.specs.Fits as client_limits
use Rattle.client_limits.proofs.Lists.{all_filter}
use Rattle.client_limits.proofs.Limits.{new_fits, stepped_fits, again_fits}
use Rattle.client_limits.proofs.Replicas.{learns_fits}
use Rattle.client_rows.specs.Called.{called_file}
use Rattle.client_rows.specs.Clients.{aimed}
use Rattle.client_rows.specs.Rows.{WholeClient, called_again, stepped}
use Rattle.client_rows.specs.Steps.{Step}
use Rattle.server_rows.specs.declared.MadeFile.{MadeFile}
use Rattle.server_rows.specs.Metadata.{MrcState, MrcStep, catalogue_of, step_of_mrc}
use Rattle.server_rows.specs.Directory.{DirState, DirStep, step_of_dir}
use Rattle.server_limits.specs.Limits as servers
use Rattle.server_limits.specs.Limits.{FitsMrc, FitsDir}
use Rattle.server_limits.proofs.Metadata as of_mrcs
use Rattle.server_limits.proofs.Directory as of_dirs
use Rattle.server_limits.proofs.Keeping.{follows}
use Rattle.world_spec.specs.World.{World, Node, Running, Core, osd, client, mrc, dir, world_key, node_in, with_node, file_in, known, loads, puts}
use Rattle.world_spec.specs.Rules.{clock_ends, usable}
use Rattle.world_spec.specs.NodeSteps.{Room, outside_of, one_more, core_step, one_put, rewritten_at, files_marked}
use Rattle.world_spec.specs.Lines.{Next, finished, opens, goes_on, ends, begins, steps, runs, first_boot, next_boot, core_starting, never_started, declared_file, file_made, files_kept, is_untold, files_left, whole_client, ready_for, aimed_on, ticked, no_longer_pending}
use Rattle.world_spec.specs.Runs.{run_of}
use Rattle.world_runs.specs.View.{messages, awake_as}
use Rattle.world_runs.specs.Worlds.{UpFits, CoreFits}
use Rattle.world_runs.proofs.Drifts.{below_end}
use Rattle.world_runs.proofs.Files.{at_fits}
use Rattle.world_runs.proofs.Fit.{IsFit, replaced, sent_then}
use Rattle.world_runs.proofs.LineSteps.{fits_kept}
use Rattle.world_runs.proofs.Lists.{has_in, has_left, has_right}
use Rattle.world_runs.proofs.Making.{client_makes_none, call_makes_none, again_makes_none}
use Rattle.world_runs.proofs.OsdSilence.{osd_makes_none}
use Rattle.world_runs.proofs.Tables.{file_in-has, same, nobody, node_in-last, node_in-before, node_in-ticked}
use Rattle.world_runs.proofs.Walk.{IsKept, call_step, NodeStep, of_osd, of_client, of_mrc, of_dir, of_call, of_again, Reaches, StopsAs, NextIs, steps_into, same_messages, left_within}
use Rattle.world_limits.specs.Fits.{FitsPlan, FitsRunning, FitsNode, FitsNext, FitsTurned, MayForget, FitsStep, FitsWorld, FitsAt, Comes, DoStepsFit, call_of, again_of}
use Rattle.world_limits.proofs.Lists.{all_of, all_append, each_of}
use Rattle.world_limits.specs.States.{AreSent, KeptIs, OsdIs}
use Rattle.world_limits.proofs.Kept.{none_is, follows_is, start_is, next_is}
use Rattle.world_limits.proofs.Osd.{started_is, osd_step_is}
use Rattle.world_limits.proofs.Keeping.{event_keeps}
use Rattle.world_limits.proofs.Rewritten.{rewritten_is, osd_then}
use Rattle.world_limits.proofs.Clients.{FitsPlaced, declared_placed, call_fits}

-- ---- nodes and worlds

abbrev pub CoreIs : Core → Type 0
CoreIs (osd s) = OsdIs s
CoreIs (client c) = FitsClient c
CoreIs (mrc m) = FitsMrc m
CoreIs (dir s) = FitsDir s

pub record UpIs (r : Running) : Type 0 where
  pub bounds : FitsRunning r
  pub state : CoreIs r.core

pub record NodeIs (node : Node) : Type 0 where
  pub who : limits.FitsNode node.id
  pub records : KeptIs node.kept
  pub running : IfSome node.up UpIs

pub record WorldIs (w : World) (own : List Msg) : Type 0 where
  pub short : w.times.lease < 2 ^ 40
  pub files : AllByRecursion FitsPlaced w.files
  pub made : AllByRecursion FitsPlaced w.made
  pub each : (n : ℕ) (node : Node) → node_in w.nodes n ≡ Some node → NodeIs node
  pub sent : (m : Msg) → Has m (own ++ messages w) → FitsMessage m

-- a world that is in order, and within the limits
pub record Stage (w : World) (own : List Msg) : Type 0 where
  pub fit : IsFit w own
  pub is : WorldIs w own

-- how a node runs
up_is : (node : Node) (r : Running) → node.up ≡ Some r → NodeIs node → UpIs r
up_is node r is_up is = subst (λ (o : Option Running). IfSome o UpIs) is_up is.running

core_is : (r : Running) (core : Core) → r.core ≡ core → UpIs r → CoreIs core
core_is r core is_core up = subst CoreIs is_core up.state

-- ---- the step of a node

-- what is kept after a step
kept_then : (records : List Record) (rec : Option Record) → KeptIs records → FitsNext records rec → KeptIs (one_more records rec)
kept_then records None is next = is
kept_then records (Some rec) is next = follows_is records rec is next

-- what must hold of a step of a node
pub record TurnIs (node : Node) (next : Core) (turned : Turned) : Type 0 where
  pub state : CoreIs next
  pub record_next : FitsNext node.kept turned.rec
  pub outs : AreSent turned.outs
  pub files : AllByRecursion FitsPlaced (files_marked turned.marks)

none_placed : (marks : List Mark) → files_marked marks ≡ [] → AllByRecursion FitsPlaced (files_marked marks)
none_placed marks none = subst (AllByRecursion FitsPlaced) (sym none) tt

-- the files that a server marks
shown_placed : (marks : List Mark) → AllByRecursion servers.FitsShown marks → AllByRecursion FitsPlaced (files_marked marks)
shown_placed [] fits = tt
shown_placed (mark.File file location ∷ marks) fits = (record { which = fits.0.1; place = fits.0.2 }, shown_placed marks fits.1)
shown_placed (_ ∷ marks) fits = absurd fits.0

client_turn : (node : Node) (step : Step WholeClient) → client_limits.FitsStep step → files_marked step.turned.marks ≡ [] → TurnIs node (client step.state) step.turned
client_turn node step fits none = record {
  state = fits.client;
  record_next = subst (FitsNext node.kept) (sym fits.keeps_none) tt;
  outs = fits.messages;
  files = none_placed step.turned.marks none;
}

server_turn : (node : Node) (next : Core) (turned : Turned) → CoreIs next → servers.FitsTurned turned → TurnIs node next turned
server_turn node next turned state gives = record {
  state = state;
  record_next = follows node.kept turned.rec gives.kept;
  outs = gives.messages;
  files = shown_placed turned.marks gives.marks;
}

mrc_turn : (node : Node) (step : MrcStep) → servers.FitsMrcStep step → TurnIs node (mrc step.mrc) step.turned
mrc_turn node step fits = server_turn node (mrc step.mrc) step.turned fits.state fits.gives

dir_turn : (node : Node) (step : DirStep) → servers.FitsDirStep step → TurnIs node (dir step.dir) step.turned
dir_turn node step fits = server_turn node (dir step.dir) step.turned fits.state fits.gives

module _ (w : World) (own : List Msg) (p : Stage w own) (node : Node) (r : Running) (found : node_in w.nodes node.id.0 ≡ Some node) (is_up : node.up ≡ Some r) where
  abbrev here : NodeIs node
  here = p.is.each node.id.0 node found

  abbrev up : UpIs r
  up = up_is node r is_up here

  osd_turn : (s : OsdState) (happens : Event) → r.core ≡ osd s → FitsEvent happens
      → (let step = step_of_osd (outside_of node.kept) s r.clock happens in TurnIs node (osd step.osd) step.turned)
  osd_turn s happens is_osd fits =
      let core : CoreFits w.times (known w) node.id node.kept r (osd s) = subst (CoreFits w.times (known w) node.id node.kept r) is_osd (subst (UpFits w.times (known w) node.id node.kept) is_up (p.fit.shape.nodes node.id.0 node found).up) in
      let step = osd_step_is (is_sealed world_key) node.kept s r.clock happens here.records (core_is r (osd s) is_osd up) up.bounds.clock core.2 (λ file. (at_fits (known w) (awake_as s.started) s.files file core.0.fits).sound) fits in
      record {
        state = step.state;
        record_next = next_is node.kept _ step.next;
        outs = step.outs;
        files = none_placed (step_of_osd (outside_of node.kept) s r.clock happens).turned.marks (osd_makes_none (outside_of node.kept) s r.clock happens);
      }

  client_event : (c : WholeClient) (happens : Event) → r.core ≡ client c → FitsEvent happens
      → (let step = stepped node.id w.times c r.clock happens in TurnIs node (client step.state) step.turned)
  client_event c happens is_client fits =
      client_turn node (stepped node.id w.times c r.clock happens) (stepped_fits node.id w.times c r.clock happens here.who (core_is r (client c) is_client up) fits) (client_makes_none node.id w.times c r.clock happens)

  call_turn : (c : WholeClient) (k : Call) → r.core ≡ client c → FitsCall k → (let step = call_step w node r c k in TurnIs node (client step.state) step.turned)
  call_turn c k is_client bound =
      client_turn node (call_step w node r c k) (call_fits w.files (λ number f there. each_of FitsPlaced w.files f p.is.files (file_in-has w.files number f there)) c (core_is r (client c) is_client up) node.id w.times r.clock k here.who bound)
      (call_makes_none node.id w.times (ready_for w.files c k (called_file k)) r.clock k)

  again_turn : (c : WholeClient) → r.core ≡ client c → (let step = called_again node.id w.times c r.clock in TurnIs node (client step.state) step.turned)
  again_turn c is_client =
      client_turn node (called_again node.id w.times c r.clock) (again_fits node.id w.times c r.clock here.who (core_is r (client c) is_client up))
      (again_makes_none node.id w.times c r.clock)

  mrc_event : (m : MrcState) (happens : Event) → r.core ≡ mrc m → FitsEvent happens → (let step = step_of_mrc world_key m r.clock happens in TurnIs node (mrc step.mrc) step.turned)
  mrc_event m happens is_mrc fits =
      mrc_turn node (step_of_mrc world_key m r.clock happens) (of_mrcs.step_fits world_key m r.clock happens (core_is r (mrc m) is_mrc up) up.bounds.clock fits)

  dir_event : (s : DirState) (happens : Event) → r.core ≡ dir s → FitsEvent happens → (let step = step_of_dir s happens in TurnIs node (dir step.dir) step.turned)
  dir_event s happens is_dir fits = dir_turn node (step_of_dir s happens) (of_dirs.step_fits s happens (core_is r (dir s) is_dir up) fits)

  -- a message that comes was sent
  content_is : (id : NodeId) (happens : Event) → Reaches w own id happens → FitsEvent happens
  content_is id (event.Deliver msg) comes = p.is.sent msg comes.1
  content_is id event.Wake comes = tt
  content_is id (event.Call k) comes = tt

  turn_is : (next : Core) (turned : Turned) → NodeStep w own node r next turned → TurnIs node next turned
  turn_is _ _ (of_osd s happens is_osd comes) = osd_turn s happens is_osd (content_is node.id happens comes)
  turn_is _ _ (of_client c happens is_client comes) = client_event c happens is_client (content_is node.id happens comes)
  turn_is _ _ (of_mrc m happens is_mrc comes) = mrc_event m happens is_mrc (content_is node.id happens comes)
  turn_is _ _ (of_dir s happens is_dir comes) = dir_event s happens is_dir (content_is node.id happens comes)
  turn_is _ _ (of_call c k is_client resting bound usable) = call_turn c k is_client bound
  turn_is _ _ (of_again c is_client resting may) = again_turn c is_client

  -- ---- a world that fits

  turned_fits : (next : Core) (turned : Turned) → TurnIs node next turned → FitsTurned node.kept turned
  turned_fits next turned is = record { record_next = is.record_next; messages = is.outs }

  -- its rewritten records are within the limits, and in their places
  osd_forgets : (s : OsdState) (happens : Event) → r.core ≡ osd s → FitsEvent happens
      → (let step = step_of_osd (outside_of node.kept) s r.clock happens in MayForget (one_more node.kept step.turned.rec) (osd step.osd))
  osd_forgets s happens is_osd fits =
      let core : CoreFits w.times (known w) node.id node.kept r (osd s) = subst (CoreFits w.times (known w) node.id node.kept r) is_osd (subst (UpFits w.times (known w) node.id node.kept) is_up (p.fit.shape.nodes node.id.0 node found).up) in
      let step = step_of_osd (outside_of node.kept) s r.clock happens in
      let keeps = event_keeps (is_sealed world_key) node.kept s r.clock core.2 (λ file. (at_fits (known w) (awake_as s.started) s.files file core.0.fits).sound) happens in
      let is = rewritten_is (one_more node.kept step.turned.rec) step.osd (kept_then node.kept step.turned.rec here.records (osd_turn s happens is_osd fits).record_next) keeps.agrees in
      record { limits = is.limits; places = is.places }

  event_fits : (core : Core) (happens : Event) → r.core ≡ core → FitsEvent happens → FitsStep node.kept (core_step w.times node core r.clock happens)
  event_fits (osd s) happens is_osd fits = record { turned = turned_fits _ _ (osd_turn s happens is_osd fits); forgetting = osd_forgets s happens is_osd fits }
  event_fits (client c) happens is_client fits = record { turned = turned_fits _ _ (client_event c happens is_client fits); forgetting = tt }
  event_fits (mrc m) happens is_mrc fits = record { turned = turned_fits _ _ (mrc_event m happens is_mrc fits); forgetting = tt }
  event_fits (dir s) happens is_dir fits = record { turned = turned_fits _ _ (dir_event s happens is_dir fits); forgetting = tt }

  pub handled_fits : (happens : Event) → Comes w own node.id happens → FitsStep node.kept (core_step w.times node r.core r.clock happens)
  handled_fits happens comes = event_fits r.core happens refl (content happens comes)
    where
      content : (happens : Event) → Comes w own node.id happens → FitsEvent happens
      content (event.Deliver msg) is = p.is.sent msg is.1
      content event.Wake is = tt
      content (event.Call k) is = tt

  pub called_fits : (c : WholeClient) (k : Call) → r.core ≡ client c → FitsCall k → FitsTurned node.kept (call_of w node r c k).turned
  called_fits c k is_client bound = turned_fits _ _ (call_turn c k is_client bound)

  pub repeated_fits : (c : WholeClient) → r.core ≡ client c → FitsTurned node.kept (again_of w node r c).turned
  repeated_fits c is_client = turned_fits _ _ (again_turn c is_client)

sent_are : (sent : List Sent) → ((m : Msg) → Has m (map (λ (s : Sent). s.message) sent) → FitsMessage m) → AllByRecursion (λ (s : Sent). FitsMessage s.message) sent
sent_are [] each = tt
sent_are (s ∷ ss) each = (each s.message (inl refl), sent_are ss (λ m h. each m (inr h)))

node_fits : (node : Node) → NodeIs node → FitsNode node
node_fits node is = record { records = record { limits = is.records.limits; places = is.records.places }; running = at node.up is.running }
  where
    at : (o : Option Running) → IfSome o UpIs → IfSome o FitsRunning
    at None runs_so = tt
    at (Some r) runs_so = runs_so.bounds

world_fits : (w : World) (own : List Msg) → Stage w own → FitsWorld w own
world_fits w own p = record {
  nodes = λ node found. node_fits node (p.is.each node.id.0 node found);
  sent = sent_are w.sent (λ m h. p.is.sent m (has_right m own (messages w) h));
  queued = all_of FitsMessage own (λ m h. p.is.sent m (has_left m own (messages w) h));
  handled = λ node r happens found is_up comes. handled_fits w own p node r found is_up happens comes;
  called = λ node r c k found is_up is_client bound. called_fits w own p node r found is_up c k is_client bound;
  called_again = λ node r c found is_up is_client. repeated_fits w own p node r found is_up c is_client;
}

-- ---- what may happen

-- a node in the place of the one of its id
put_is : (w : World) (own : List Msg) (node old : Node) → node_in w.nodes node.id.0 ≡ Some old → NodeIs node → WorldIs w own → (n : ℕ) (x : Node) → node_in (with_node w.nodes node) n ≡ Some x → NodeIs x
put_is w own node old found is all n x there = replaced NodeIs w.nodes node old n x found is (λ y was. all.each n y was) there

-- a node after the others
added_is : (nodes : List Node) (node : Node) → node_in nodes node.id.0 ≡ None → NodeIs node → ((n : ℕ) (x : Node) → node_in nodes n ≡ Some x → NodeIs x) → (n : ℕ) (x : Node) → node_in (nodes ++ node ∷ []) n ≡ Some x → NodeIs x
added_is nodes node free is each n x there = elim (same n node.id.0) [
  | inl e ↦ (let now : Some node ≡ Some x = sym (ap (node_in (nodes ++ node ∷ [])) e ∙ node_in-last nodes node free) ∙ there in let is_node : node ≡ x = cc in subst NodeIs is_node is)
  | inr ne ↦ each n x (sym (node_in-before nodes node n ne) ∙ there)
]

-- a file that is known
pub known_placed : (w : World) (own : List Msg) → WorldIs w own → (number : ℕ) (f : PlacedFile) → file_in (known w) number ≡ Some f → FitsPlaced f
known_placed w own is number f there = elim (has_in f w.files w.made (file_in-has (known w) number f there)) [
  | inl declared ↦ each_of FitsPlaced w.files f is.files declared
  | inr told ↦ each_of FitsPlaced w.made f is.made told
]

none_some : {A P : Type 0} (o : Option A) (x : A) → o ≡ None → o ≡ Some x → P
none_some o x a b = absurd (cc (a, b))

-- the files that a node's records made, of which the trace doesn't report some yet
made_placed : (es : List (ℕ × MadeFile)) → servers.AreMade es → AllByRecursion FitsPlaced (map file_made es)
made_placed [] are = tt
made_placed (e ∷ es) are = (record { which = are.0.own; place = are.0.place }, made_placed es are.1)

kept_placed : (node : Node) (its : Role) → NodeIs node → AllByRecursion FitsPlaced (files_kept node its)
kept_placed node role.Mrc old = made_placed (catalogue_of world_key node.kept).made (of_mrcs.records_fit world_key node.kept 0 old.records.limits (omega arith)).catalogue.made
kept_placed node role.Osd old = tt
kept_placed node role.Client old = tt
kept_placed node role.Dir old = tt

left_placed : (told : List PlacedFile) (node : Node) → NodeIs node → AllByRecursion FitsPlaced (files_left told node)
left_placed told node old = all_filter FitsPlaced (is_untold told) (files_kept node node.role) (kept_placed node node.role old)

-- a running clock with a tick more
ticked_is : (w : World) (count : ℕ) → clock_ends count w.nodes ≡ None → ((n : ℕ) (x : Node) → node_in w.nodes n ≡ Some x → NodeIs x) → (n : ℕ) (x : Node) → node_in (map (ticked count) w.nodes) n ≡ Some x → NodeIs x
ticked_is w count room each n x there = at (node_in w.nodes n) refl (sym (node_in-ticked w.nodes count n) ∙ there)
  where
    runs_on : (node : Node) → node_in w.nodes n ≡ Some node → (o : Option Running) → node.up ≡ o → IfSome o UpIs
        → IfSome (elim o [ None ↦ None | Some running ↦ Some (record running { clock = running.clock + count }) ]) UpIs
    runs_on node found None is_up is = tt
    runs_on node found (Some r) is_up is =
        record { bounds = record { clock = below_end w count n node r room found is_up; plan = is.bounds.plan }; state = is.state }

    at : (o : Option Node) → node_in w.nodes n ≡ o → option_map (ticked count) o ≡ Some x → NodeIs x
    at None found is = absurd cc
    at (Some node) found is =
        let old = each n node found in
        let new : NodeIs (ticked count node) = record { who = old.who; records = old.records; running = runs_on node found node.up refl old.running } in
        subst NodeIs (let e : ticked count node ≡ x = cc in e) new

plan_is : (before after : Option Stop) → StopsAs before after → FitsPlan before → FitsPlan after
plan_is before after (inl e) is = subst FitsPlan (sym e) is
plan_is before after (inr stop) is = subst FitsPlan (sym stop.1) (stop.2, stop.3)

-- messages of a node to itself are lost
lost_sent : (w : World) (own left : List Msg) → ((m : Msg) → Has m left → Has m own) → ((m : Msg) → Has m (own ++ messages w) → FitsMessage m) → (m : Msg) → Has m (left ++ messages w) → FitsMessage m
lost_sent w own left within each m h = elim (has_in m left (messages w) h) [
  | inl mine ↦ each m (has_left m own (messages w) (within m mine))
  | inr sent ↦ each m (has_right m own (messages w) sent)
]

none_lost : (w : World) (own : List Msg) → ((m : Msg) → Has m (own ++ messages w) → FitsMessage m) → (m : Msg) → Has m (messages w) → FitsMessage m
none_lost w own each m h = each m (has_right m own (messages w) h)

-- a client with another first target for a file
aimed_fits : (c : WholeClient) (target : NodeId) (o : Option PlacedFile) → FitsClient c → FitsClient (aimed_on c target o)
aimed_fits c target None is = is
aimed_fits c target (Some f) is = record { calls = learns_fits c.replicas f.file (aimed target) is.calls (λ known fine. fine); holds = is.holds; last = is.last }

-- what starts at a node whose records are within the limits
starting_is : (w : World) (node : Node) (boot : Boot) (clock : ℕ) (its : Role) → NodeIs node → limits.FitsBoot boot → w.times.lease < 2 ^ 40 → clock < 2 ^ 62 → CoreIs (core_starting w.times node boot clock its)
starting_is w node boot clock role.Osd old few short bound =
    started_is (record { node = node.id; boot = boot; times = w.times; start = clock }) (fold_of node.kept).files old.who few short bound old.records.rows
starting_is w node boot clock role.Client old few short bound = new_fits clock 1
starting_is w node boot clock role.Mrc old few short bound = of_mrcs.records_fit world_key node.kept clock old.records.limits bound
starting_is w node boot clock role.Dir old few short bound = of_dirs.records_fit node.kept old.records.limits

boot_is : (boot : ℕ) → nat_lt boot COUNTS ≡ true → boot < 2 ^ 62
boot_is boot few = grind (arith, nat_tests)

pub stage_kept : IsKept Stage
stage_kept = record {
  begins = record {
    fit = fits_kept.begins;
    is = record { short = omega arith; files = tt; made = tt; each = λ n node found. none_some (node_in [] n) node (nobody n) found; sent = λ m h. absurd h };
  };
  times = λ lease drift bound. record {
    fit = fits_kept.times lease drift bound;
    is = record { short = bound.small; files = tt; made = tt; each = λ n node found. none_some (node_in [] n) node (nobody n) found; sent = λ m h. absurd h };
  };
  server_declared = λ w id its serves stands bound free p. record {
    fit = fits_kept.server_declared w id its serves stands bound free p.fit;
    is = record {
      short = p.is.short;
      files = p.is.files;
      made = p.is.made;
      each = added_is w.nodes (never_started id its) free (record { who = bound; records = none_is; running = tt }) p.is.each;
      sent = p.is.sent;
    };
  };
  client_declared = λ w id clock bound free close p. record {
    fit = fits_kept.client_declared w id clock bound free close p.fit;
    is = record {
      short = p.is.short;
      files = p.is.files;
      made = p.is.made;
      each = added_is w.nodes (record { id = id; role = role.Client; kept = []; past = []; up = Some (runs first_boot clock (client (whole_client clock))) }) free
          (record { who = bound.0; records = none_is; running = record { bounds = record { clock = bound.1; plan = tt }; state = new_fits clock 1 } }) p.is.each;
      sent = p.is.sent;
    };
  };
  file_declared = λ w number location bound free p. record {
    fit = fits_kept.file_declared w number location bound free p.fit;
    is = record {
      short = p.is.short;
      files = all_append FitsPlaced w.files (record { file = declared_file number; location = location } ∷ []) p.is.files (declared_placed number location bound.0 bound.1, tt);
      made = p.is.made;
      each = p.is.each;
      sent = p.is.sent;
    };
  };
  started = λ w node clock serves bound found down close p.
      let boot = next_boot node.kept in
      let old = p.is.each node.id.0 node found in
      let few = boot_is boot.0 bound.1 in
      let there : Node = record node { kept = node.kept ++ kept.Boot boot ∷ []; past = node.past ++ loads ∷ puts (kept.Boot boot) ∷ []; up = Some (runs boot clock (core_starting w.times node boot clock node.role)) } in
      record {
        fit = fits_kept.started w node clock serves bound found down close p.fit;
        is = record {
          short = p.is.short;
          files = p.is.files;
          made = all_append FitsPlaced w.made (files_left w.made node) p.is.made (left_placed w.made node old);
          each = put_is w [] there node found (record {
            who = old.who;
            records = start_is node.kept boot old.records few;
            running = record {
              bounds = record { clock = bound.0; plan = tt };
              state = starting_is w node boot clock node.role old few p.is.short bound.0;
            };
          }) p.is;
          sent = p.is.sent;
        };
      };
  planned = λ w node r q found is_up boot clock core p.
      let old = p.is.each node.id.0 node found in
      let ran = up_is node r is_up old in
      record {
        fit = fits_kept.planned w node r q found is_up boot clock core p.fit;
        is = record {
          short = p.is.short;
          files = p.is.files;
          made = p.is.made;
          each = put_is w [] (record node { up = Some q }) node found (record {
            who = old.who;
            records = old.records;
            running = record {
              bounds = record { clock = subst (λ (c : ℕ). c < 2 ^ 62) (sym clock) ran.bounds.clock; plan = plan_is r.crash q.crash boot.1 ran.bounds.plan };
              state = subst CoreIs (sym core) ran.state;
            };
          }) p.is;
          sent = p.is.sent;
        };
      };
  aimed_at = λ w node r c number target found is_up is_client p.
      let old = p.is.each node.id.0 node found in
      let ran = up_is node r is_up old in
      record {
        fit = fits_kept.aimed_at w node r c number target found is_up is_client p.fit;
        is = record {
          short = p.is.short;
          files = p.is.files;
          made = p.is.made;
          each = put_is w [] (record node { up = Some (record r { core = client (aimed_on c target (usable w.files c.held number)) }) }) node found (record {
            who = old.who;
            records = old.records;
            running = record {
              bounds = record { clock = ran.bounds.clock; plan = ran.bounds.plan };
              state = aimed_fits c target (usable w.files c.held number) (core_is r (client c) is_client ran);
            };
          }) p.is;
          sent = p.is.sent;
        };
      };
  stopped = λ w own node r how found is_up p.
      let old = p.is.each node.id.0 node found in
      record {
        fit = fits_kept.stopped w own node r how found is_up p.fit;
        is = record {
          short = p.is.short;
          files = p.is.files;
          made = p.is.made;
          each = put_is w own (record node { up = None }) node found (record { who = old.who; records = old.records; running = tt }) p.is;
          sent = none_lost w own p.is.sent;
        };
      };
  clock_set = λ w node r clock bound found is_up rises close p.
      let old = p.is.each node.id.0 node found in
      let ran = up_is node r is_up old in
      record {
        fit = fits_kept.clock_set w node r clock bound found is_up rises close p.fit;
        is = record {
          short = p.is.short;
          files = p.is.files;
          made = p.is.made;
          each = put_is w [] (record node { up = Some (record r { clock = clock }) }) node found (record {
            who = old.who;
            records = old.records;
            running = record { bounds = record { clock = bound; plan = ran.bounds.plan }; state = ran.state };
          }) p.is;
          sent = p.is.sent;
        };
      };
  all_ticked = λ w count bound p. record {
    fit = fits_kept.all_ticked w count bound p.fit;
    is = record { short = p.is.short; files = p.is.files; made = p.is.made; each = ticked_is w count bound.1 p.is.each; sent = p.is.sent };
  };
  less_pending = λ w own number p. record {
    fit = fits_kept.less_pending w own number p.fit;
    is = record {
      short = p.is.short;
      files = p.is.files;
      made = p.is.made;
      each = p.is.each;
      sent = λ m h. elim (has_in m own (map (λ (s : Sent). s.message) (no_longer_pending w.sent number)) h) [
        | inl mine ↦ p.is.sent m (has_left m own (messages w) mine)
        | inr sent ↦ p.is.sent m (has_right m own (messages w) (same_messages w.sent number m sent))
      ];
    };
  };
  lost = λ w own left part p. record {
    fit = fits_kept.lost w own left part p.fit;
    is = record { short = p.is.short; files = p.is.files; made = p.is.made; each = p.is.each; sent = lost_sent w own left (left_within left own part) p.is.sent };
  };
  stepped = λ w was own node r next turned outs rest part found is_up step split p.
      let turn = turn_is w was p node r found is_up next turned step in
      let old = p.is.each node.id.0 node found in
      let ran = up_is node r is_up old in
      record {
        fit = fits_kept.stepped w was own node r next turned outs rest part found is_up step split p.fit;
        is = record {
          short = p.is.short;
          files = p.is.files;
          made = all_append FitsPlaced w.made (files_marked turned.marks) p.is.made turn.files;
          each = put_is w was (record node { kept = one_more node.kept turned.rec; past = one_put node.past turned.rec; up = Some (record r { core = next }) }) node found (record {
            who = old.who;
            records = kept_then node.kept turned.rec old.records turn.record_next;
            running = record { bounds = record { clock = ran.bounds.clock; plan = ran.bounds.plan }; state = turn.state };
          }) p.is;
          sent = λ m h. elim (sent_then w own node.id outs m h) [
            | inl new ↦ each_of FitsMessage turned.outs m turn.outs (subst (Has m) (sym split) (has_left m outs rest new))
            | inr old_one ↦ lost_sent w was own (left_within own was part) p.is.sent m old_one
          ];
        };
      };
  stopped_keeping = λ w own node r next turned rec found is_up step is_rec p.
      let turn = turn_is w own p node r found is_up next turned step in
      let old = p.is.each node.id.0 node found in
      record {
        fit = fits_kept.stopped_keeping w own node r next turned rec found is_up step is_rec p.fit;
        is = record {
          short = p.is.short;
          files = p.is.files;
          made = p.is.made;
          each = put_is w own (record node { kept = node.kept ++ rec ∷ []; past = node.past ++ puts rec ∷ []; up = None }) node found (record {
            who = old.who;
            records = follows_is node.kept rec old.records (subst (FitsNext node.kept) is_rec turn.record_next);
            running = tt;
          }) p.is;
          sent = none_lost w own p.is.sent;
        };
      };
  forgotten = λ w own node r s found is_up is_osd p.
      let old = p.is.each node.id.0 node found in
      let ran = up_is node r is_up old in
      record {
        fit = fits_kept.forgotten w own node r s found is_up is_osd p.fit;
        is = record {
          short = p.is.short;
          files = p.is.files;
          made = p.is.made;
          each = put_is w own (rewritten_at node r s) node found (record {
            who = old.who;
            records = rewritten_is node.kept s old.records
                (subst (CoreFits w.times (known w) node.id node.kept r) is_osd (subst (UpFits w.times (known w) node.id node.kept) is_up (p.fit.shape.nodes node.id.0 node found).up)).2;
            running = record { bounds = record { clock = ran.bounds.clock; plan = ran.bounds.plan }; state = osd_then (keep_of s) s (core_is r (osd s) is_osd ran) };
          }) p.is;
          sent = p.is.sent;
        };
      };
  lined = λ w l ended p. record {
    fit = fits_kept.lined w l ended p.fit;
    is = record { short = p.is.short; files = p.is.files; made = p.is.made; each = p.is.each; sent = p.is.sent };
  };
}

-- ---- every run

fits_at : (next : Next) → NextIs Stage stage_kept next → FitsAt next
fits_at (finished w) p = tt
fits_at (opens l w) p = world_fits w [] p.0
fits_at (goes_on d) p = world_fits d.world d.own p
fits_at (ends cause w) p = tt

-- Each step of a line after a run is made in a world that fits.
pub do_steps_fit : (room : Room) → DoStepsFit room
do_steps_fit room lines l k are allowed = fits_at (steps k room (begins (run_of room lines) l)) (steps_into Stage stage_kept room lines l k are allowed)
