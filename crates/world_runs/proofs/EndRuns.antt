-- In every run the calls that ended well were answered so before.
use Rattle.std.proofs.Common.{◌≡◌, ◌<◌, ℕ, true, inl, inr, List, [], ◌∷◌, ◌++◌, map, refl, ap, subst, sym, ◌∙◌, arith, Option, Some, None}
use Rattle.std.proofs.lemmas.List.{append-nil, append_assoc}
use Rattle.xt_base.specs.declared.ids.NodeId.{NodeId}
use Rattle.xt_base.specs.declared.ids.OpId.{OpId}
use Rattle.xt_base.specs.declared.TheConstants.{MRC_NODE}
use Rattle.xt_messages.specs.declared.file.Location.{Location}
use Rattle.xt_messages.specs.declared.message.Msg.{Msg}
use Rattle.xt_messages.specs.declared.message.Payload.{Payload}
use Rattle.xt_messages.specs.declared.message.Payload.TheVariants as payload
use Rattle.xt_messages.specs.declared.record.Record.TheVariants as kept
use Rattle.xt_messages.specs.declared.event.Event.{Event}
use Rattle.xt_messages.specs.declared.event.Event.TheVariants as event
use Rattle.xt_protocol.specs.declared.turned.Turned.{Turned}
use Rattle.xt_protocol.specs.Folds.{fold_of}
use Rattle.xt_protocol.specs.LeaseRows.{Awake}
use Rattle.time_line.specs.declared.entry.Halt.{Halt}
use Rattle.time_line.specs.declared.entry.Halt.TheVariants as halt
use Rattle.lease_safety.specs.State.{Has}
use Rattle.xt_protocol.specs.FileStates.{FileState, file_from}
use Rattle.time_line.specs.declared.entry.Entry.{Entry}
use Rattle.time_line.specs.declared.entry.Entry.TheVariants as entry
use Rattle.time_line.specs.declared.line.Line.{Line}
use Rattle.world_spec.specs.declared.PlacedFile.{PlacedFile}
use Rattle.world_spec.specs.declared.Role.{Role}
use Rattle.world_spec.specs.declared.Role.TheVariants as role
use Rattle.time_line.specs.Bounds.{AreLines}
use Rattle.world_spec.specs.Rules.{refusal, usable}
use Rattle.client_rows.specs.Called.{called_file}
use Rattle.client_rows.specs.Rows.{WholeClient}
use Rattle.server_rows.specs.Metadata.{MrcState, catalogue_of}
use Rattle.time_line.specs.TimeLine.{is_replicated}
use Rattle.time_line.specs.Clauses.{HasBegunOn, EndsAreAnswered}
use Rattle.xt_messages.specs.declared.record.KeepBody.{KeepBody}
use Rattle.xt_protocol.specs.OsdSteps.{OsdState}
use Rattle.xt_protocol.specs.Forgetting.{keep_of, file_without, osd_without}
use Rattle.world_spec.specs.World.{World, start_world, Node, Running, Core, client, mrc, world_key, node_in, with_node, file_in, known, is_server, loads, puts}
use Rattle.world_spec.specs.NodeSteps.{Room, halted, rewritten_at, after_turn, to_itself}
use Rattle.world_spec.specs.Lines.{Next, ready_for, finished, opens, goes_on, ends, begins, steps, so_far, runs, first_boot, next_boot, osd_starting, core_starting, ticked, tells, never_started, declared_file, starts_as, files_left, file_entry, files_in, whole_client, aimed_on, no_longer_pending}
use Rattle.world_spec.specs.Runs.{run_of, with_line, IsRunInto}
use Rattle.world_runs.specs.View.{node_id, messages}
use Rattle.world_runs.proofs.Lists.{has_in, has_left, has_right, has_map}
use Rattle.world_runs.proofs.Tables.{nobody}
use Rattle.world_runs.specs.Worlds.{CoreFits, UpFits, role_of, MadeUp, MadeByRole, IsMadeBy}
use Rattle.world_runs.proofs.Roles.{role_at, made_in, made_up}
use Rattle.world_runs.proofs.Making.{AreMade, told_above, unmade}
use Rattle.world_runs.proofs.Fit.{IsFit}
use Rattle.world_runs.proofs.LineSteps.{fits_kept}
use Rattle.world_runs.proofs.Walk.{IsKept, NodeStep, of_osd, of_client, of_mrc, of_dir, of_call, of_again, Reaches, same_messages, run_kept, NextIs, steps_into, so_far_kept, left_within}
use Rattle.world_runs.specs.Acts.{ActsHaveBegun}
use Rattle.world_runs.specs.Asks.{HasBegunSo, AsksHaveBegun, NextHasBegun}
use Rattle.world_runs.proofs.FileIds.{FileIs}
use Rattle.world_runs.proofs.OsdIds.{FilesAre, HasBegun, EventHasBegun, new_is}
use Rattle.world_runs.proofs.Calls.{ContentIs, EventIs}
use Rattle.world_runs.proofs.Growth.{UpIs, CoreIs, CallerIs, EndsFit, entries-push, entries-none, fresh-grown, fresh-none, quiet-one, up-grown, content-grown, ends_answered, acts_begun}
use Rattle.world_runs.proofs.Places.{none_told, told_file}
use Rattle.world_runs.proofs.Steps.{Ends, Fits, ends_of, both_fit, Owes, told_fit, files_fit, changed_fit, same_nodes, put_fit, add_fit, tick_fit, stepped_fits, osd_owes, event_owes, again_owes, call_owes, ready_is, mrc_owes, dir_owes}

-- ---- any step of a node

content_begun : (es : List Entry) (from to : NodeId) (content : Payload) → ContentIs es from to content → HasBegun es from content
content_begun es from to (payload.Ask number capability asked) is = ((asked, is.0), is.2)
content_begun es from to _ is = tt

event_begun : (w : World) (was : List Msg) (node : NodeId) (happens : Event) → Ends w was → Reaches w was node happens → EventHasBegun w.entries happens
event_begun w was node (event.Deliver msg) fit reaches = content_begun w.entries msg.from msg.to msg.payload (fit.messages msg reaches.1)
event_begun w was node event.Wake fit reaches = tt
event_begun w was node (event.Call call) fit reaches = tt

event_is : (w : World) (was : List Msg) (node : NodeId) (happens : Event) → Ends w was → Reaches w was node happens → EventIs w.entries node happens
event_is w was node (event.Deliver msg) fit reaches = subst (λ (to : NodeId). ContentIs w.entries msg.from to msg.payload) reaches.0 (fit.messages msg reaches.1)
event_is w was node event.Wake fit reaches = tt
event_is w was node (event.Call call) fit reaches = tt

core_of : (w : World) (was : List Msg) (node : Node) (r : Running) → node_in w.nodes node.id.0 ≡ Some node → node.up ≡ Some r → Ends w was → CoreIs w.entries node.id r.core
core_of w was node r found is_up fit = subst (UpIs w.entries node.id) is_up (fit.nodes_are node.id.0 node found)

-- what a running metadata server knows is what its records say, and the trace reports all that it made
mrc_knows : (w : World) (was : List Msg) (node : Node) (r : Running) (m : MrcState) → node_in w.nodes node.id.0 ≡ Some node → node.up ≡ Some r → r.core ≡ mrc m → IsFit w was
    → (m.catalogue ≡ catalogue_of world_key node.kept) × (w.made ≡ files_in m.catalogue)
mrc_knows w was node r m found is_up is_mrc fit =
    let fits = fit.shape.nodes node.id.0 node found in
    let says : m.catalogue ≡ catalogue_of world_key node.kept
    = subst (CoreFits w.times (known w) node.id node.kept r) is_mrc (subst (UpFits w.times (known w) node.id node.kept) is_up fits.up) in
    let its : node.role ≡ role.Mrc = sym (role_at node r fits.role_is is_up) ∙ ap role_of is_mrc in
    let here : MadeByRole w.made node node.role = subst (IsMadeBy w.made) (ap (node_in w.nodes) (sym (fit.shape.one_server node.id.0 node found its)) ∙ found) fit.shape.made in
    let told : w.made ≡ files_in (catalogue_of world_key node.kept) = subst (MadeUp w.made (made_in node)) is_up (made_up w.made node here its) in
    (says, told ∙ ap files_in (sym says))

node_owes : (w : World) (was : List Msg) (node : Node) (r : Running) (next : Core) (turned : Turned) → node_in w.nodes node.id.0 ≡ Some node → node.up ≡ Some r → IsFit w was → Ends w was
    → NodeStep w was node r next turned → Owes w.entries node.id next turned
node_owes w was node r _ _ found is_up order fit (of_osd s happens is_osd reaches) =
    osd_owes w.entries node s r.clock happens fit.ends (subst (CoreIs w.entries node.id) is_osd (core_of w was node r found is_up fit)) (event_begun w was node.id happens fit reaches)
node_owes w was node r _ _ found is_up order fit (of_client c happens is_client reaches) =
    let core = subst (CoreIs w.entries node.id) is_client (core_of w was node r found is_up fit) in
    event_owes w.entries node.id w.times c r.clock happens fit.ends core (event_is w was node.id happens fit reaches)
node_owes w was node r _ _ found is_up order fit (of_mrc m happens is_mrc reaches) =
    let knows = mrc_knows w was node r m found is_up is_mrc order in
    mrc_owes w.entries w.files w.made node.id m r.clock happens node.kept fit.ends fit.places order.shape.declared knows.0 knows.1
node_owes w was node r _ _ found is_up order fit (of_dir s happens is_dir reaches) = dir_owes w.entries node.id s happens fit.ends
node_owes w was node r _ _ found is_up order fit (of_call c k is_client resting bound usable) =
    let core = subst (CoreIs w.entries node.id) is_client (core_of w was node r found is_up fit) in
    call_owes w.entries node.id w.times (ready_for w.files c k (called_file k)) r.clock k fit.ends (ready_is w.entries node.id w.files w.made c k (called_file k) fit.places core) bound
node_owes w was node r _ _ found is_up order fit (of_again c is_client resting may) =
    let core = subst (CoreIs w.entries node.id) is_client (core_of w was node r found is_up fit) in
    again_owes w.entries node.id w.times c r.clock fit.ends core

-- ---- what else may happen

-- an OSD that starts has no asks
starting_is : (es : List Entry) (w : World) (node : Node) (clock : ℕ) → FilesAre es (osd_starting w.times node (next_boot node.kept) clock).files
starting_is es w node clock f h =
    let awake : Awake = record { node = node.id; boot = next_boot node.kept; times = w.times } in
    let row = has_map (file_from awake) (fold_of node.kept).files f h in
    subst (λ (x : FileState). FileIs (λ (id : OpId). HasBegunOn x.kept.file.number es id) x) (sym row.2) (new_is (λ (id : OpId). HasBegunOn (file_from awake row.0).kept.file.number es id) awake row.0)

-- a server that starts
server_starts : (es : List Entry) (w : World) (node : Node) (clock : ℕ) → is_server (Some node) ≡ true → CoreIs es node.id (core_starting w.times node (next_boot node.kept) clock node.role)
server_starts es w node clock serves = at node.role serves
  where
    at : (its : Role) → is_server (Some (record node { role = its })) ≡ true → CoreIs es node.id (core_starting w.times node (next_boot node.kept) clock its)
    at role.Osd serves = starting_is es w node clock
    at role.Client serves = absurd (cc serves)
    at role.Mrc serves = tt
    at role.Dir serves = tt

-- a client's first target is set
aimed_is : (es : List Entry) (node : NodeId) (c : WholeClient) (target : NodeId) (o : Option PlacedFile) → CallerIs es node c → CallerIs es node (aimed_on c target o)
aimed_is es node c target None is = is
aimed_is es node c target (Some f) is = record { calls = record { running = is.calls.running; made = is.calls.made }; held = is.held; fresh = is.fresh }

-- an OSD that forgets bodies has the asks that it had
files_then : (es : List Entry) (keep : List KeepBody) (s : OsdState) → FilesAre es s.files → FilesAre es (osd_without keep s).files
unfolding osd_without
files_then es keep s are f h =
    let from = has_map (file_without keep) s.files f h in
    let is = are from.0 from.1 in
    subst (λ (x : FileState). FileIs (λ (id : OpId). HasBegunOn x.kept.file.number es id) x) (sym from.2) (record { asks = is.asks; tenure = is.tenure })

-- a node stops
halts : (w : World) (own : List Msg) (node old : Node) (r : Running) (how : Halt) → node_in w.nodes node.id.0 ≡ Some old → Ends w own → Ends (halted w node r how) []
halts w own node old r how found fit =
    let there : Node = record node { up = None } in
    let fewer : EndsFit (known w) w.nodes w.entries (messages w) = record { nodes_are = fit.nodes_are; strangers = fit.strangers; messages = λ m h. fit.messages m (has_right m own (messages w) h); ends = fit.ends; places = fit.places } in
    told_fit (known w) w.nodes (with_node w.nodes there) w.entries (messages w) (entry.Down node.id r.clock how) (record { begins = λ id. refl; ends = λ es. tt; places = λ number. refl })
    (put_fit (known w) w.nodes w.entries (messages w) there old found tt fewer) fewer

fewer_fits : (w : World) (own left : List Msg) → ((m : Msg) → Has m left → Has m own) → Ends w own → Ends w left
fewer_fits w own left within fit =
    record {
      nodes_are = fit.nodes_are;
      strangers = fit.strangers;
      messages = λ m h. fit.messages m (elim (has_in m left (messages w) h) [
        | inl l ↦ has_left m own (messages w) (within m l)
        | inr s ↦ has_right m own (messages w) s
      ]);
      ends = fit.ends;
      places = fit.places;
    }

less_pending : (w : World) (own : List Msg) (number : ℕ) → Ends w own → Ends (record w { sent = no_longer_pending w.sent number }) own
less_pending w own number fit =
    let next : World = record w { sent = no_longer_pending w.sent number } in
    record {
      nodes_are = fit.nodes_are;
      strangers = fit.strangers;
      messages = λ m h. fit.messages m (elim (has_in m own (messages next) h) [
        | inl mine ↦ has_left m own (messages w) mine
        | inr sent ↦ has_right m own (messages w) (same_messages w.sent number m sent)
      ]);
      ends = fit.ends;
      places = fit.places;
    }

-- nothing is there yet
nothing_fits : EndsFit [] [] [] []
nothing_fits =
    record {
      nodes_are = λ n node is. absurd (let none : None ≡ Some node = sym (nobody n) ∙ is in cc);
      strangers = λ n none. fresh-none (node_id n) 0;
      messages = λ m h. absurd h;
      ends = entries-none;
      places = none_told;
    }

-- a file is declared
declared_ends : (w : World) (number : ℕ) (location : Location) → number < 1000000 → file_in w.files number ≡ None → AreMade w.made → Ends w []
    → Ends (tells (record w { files = w.files ++ record { file = declared_file number; location = location } ∷ [] }) (entry.File number location ∷ [])) []
declared_ends w number location low free above fit =
    record {
      nodes_are = λ n x is. up-grown w.entries (entry.File number location ∷ []) x.id x.up (quiet-one (entry.File number location) x.id (λ k. refl)) (fit.nodes_are n x is);
      strangers = λ n none. fresh-grown w.entries (entry.File number location ∷ []) (node_id n) 0 (quiet-one (entry.File number location) (node_id n) (λ k. refl)) (fit.strangers n none);
      messages = λ m h. content-grown w.entries (entry.File number location ∷ []) m.from m.to m.payload (fit.messages m h);
      ends = entries-push w.entries (entry.File number location) fit.ends tt;
      places = told_file w.files w.made w.entries number location free (unmade w.made number above low) fit.places;
    }

-- a server starts
started_ends : (w : World) (node : Node) (clock : ℕ) → is_server (Some node) ≡ true → node_in w.nodes node.id.0 ≡ Some node → Ends w [] → Ends (starts_as w node (next_boot node.kept) clock) []
started_ends w node clock serves found fit =
    let boot = next_boot node.kept in
    let left = files_left w.made node in
    let there : Node =
    record node { kept = node.kept ++ kept.Boot boot ∷ []; past = node.past ++ loads ∷ puts (kept.Boot boot) ∷ []; up = Some (runs boot clock (core_starting w.times node boot clock node.role)) } in
    let nodes = with_node w.nodes there in
    let first =
    told_fit (known w) w.nodes nodes w.entries (messages w) (entry.Up node.id boot clock) (record { begins = λ id. refl; ends = λ es. tt; places = λ number. refl })
    (put_fit (known w) w.nodes w.entries (messages w) there node found (server_starts w.entries w node clock serves) fit) fit in
    let second = files_fit (known w) nodes (w.entries ++ entry.Up node.id boot clock ∷ []) (messages w) left first in
    subst (λ (files : List PlacedFile). EndsFit files (starts_as w node (next_boot node.kept) clock).nodes (starts_as w node (next_boot node.kept) clock).entries (messages w)) (append_assoc w.files w.made (files_left w.made node))
    (subst (λ (es : List Entry). EndsFit (known w ++ files_left w.made node) (starts_as w node (next_boot node.kept) clock).nodes es (messages w))
    (append_assoc w.entries (entry.Up node.id (next_boot node.kept) clock ∷ []) (map file_entry (files_left w.made node))) second)

pub ends_kept : IsKept Fits
ends_kept =
    record {
      begins = both_fit start_world [] fits_kept.begins nothing_fits;
      times = λ lease drift bound.
          both_fit (tells (record start_world { times = record { lease = lease; drift = drift } }) (entry.Times lease drift ∷ [])) [] (fits_kept.times lease drift bound)
          (told_fit [] [] [] [] [] (entry.Times lease drift) (record { begins = λ id. refl; ends = λ es. tt; places = λ number. refl }) (same_nodes [] [] [] [] nothing_fits) nothing_fits);
      server_declared = λ w id its serves stands bound free fit.
          let new = never_started id its in
          let ends = ends_of w [] fit in
          both_fit (tells (record w { nodes = w.nodes ++ new ∷ [] }) []) [] (fits_kept.server_declared w id its serves stands bound free fit.fit)
          (subst (λ (es : List Entry). EndsFit (known w) (w.nodes ++ never_started id its ∷ []) es (messages w)) (sym (append-nil w.entries))
          (changed_fit (known w) w.nodes (w.nodes ++ new ∷ []) w.entries (messages w) (add_fit (known w) w.nodes w.entries (messages w) new free tt ends) ends));
      client_declared = λ w id clock bound free close fit.
          let new : Node = record { id = id; role = role.Client; kept = []; past = []; up = Some (runs first_boot clock (client (whole_client clock))) } in
          let ends = ends_of w [] fit in
          both_fit (tells (record w { nodes = w.nodes ++ new ∷ [] }) (entry.Up id first_boot clock ∷ [])) [] (fits_kept.client_declared w id clock bound free close fit.fit)
          (told_fit (known w) w.nodes (w.nodes ++ new ∷ []) w.entries (messages w) (entry.Up id first_boot clock) (record { begins = λ id. refl; ends = λ es. tt; places = λ number. refl })
          (add_fit (known w) w.nodes w.entries (messages w) new free (record { calls = record { running = tt; made = tt }; held = tt; fresh = λ k above. fit.strangers id.0 free k (omega arith) }) ends) ends);
      file_declared = λ w number location bound free fit.
          both_fit (tells (record w { files = w.files ++ record { file = declared_file number; location = location } ∷ [] }) (entry.File number location ∷ [])) []
          (fits_kept.file_declared w number location bound free fit.fit)
          (declared_ends w number location bound.0 free (told_above w.made (node_in w.nodes MRC_NODE.0) fit.fit.shape.made) (ends_of w [] fit));
      started = λ w node clock serves bound found down close fit.
          both_fit (starts_as w node (next_boot node.kept) clock) [] (fits_kept.started w node clock serves bound found down close fit.fit) (started_ends w node clock serves found (ends_of w [] fit));
      planned = λ w node r q found is_up boot clock core fit.
          let there : Node = record node { up = Some q } in
          let ends = ends_of w [] fit in
          both_fit (record w { nodes = with_node w.nodes there }) [] (fits_kept.planned w node r q found is_up boot clock core fit.fit)
          (changed_fit (known w) w.nodes (with_node w.nodes there) w.entries (messages w)
          (put_fit (known w) w.nodes w.entries (messages w) there node found (subst (CoreIs w.entries node.id) (sym core) (core_of w [] node r found is_up ends)) ends) ends);
      aimed_at = λ w node r c number target found is_up is_client fit.
          let file = usable w.files c.held number in
          let there : Node = record node { up = Some (record r { core = client (aimed_on c target file) }) } in
          let ends = ends_of w [] fit in
          both_fit (record w { nodes = with_node w.nodes there }) [] (fits_kept.aimed_at w node r c number target found is_up is_client fit.fit)
          (changed_fit (known w) w.nodes (with_node w.nodes there) w.entries (messages w)
          (put_fit (known w) w.nodes w.entries (messages w) there node found
          (aimed_is w.entries node.id c target (usable w.files c.held number) (subst (CoreIs w.entries node.id) is_client (core_of w [] node r found is_up ends))) ends) ends);
      stopped = λ w own node r how found is_up fit.
          both_fit (halted w node r how) [] (fits_kept.stopped w own node r how found is_up fit.fit) (halts w own node node r how found (ends_of w own fit));
      clock_set = λ w node r clock bound found is_up rises close fit.
          let there : Node = record node { up = Some (record r { clock = clock }) } in
          let ends = ends_of w [] fit in
          both_fit (tells (record w { nodes = with_node w.nodes there }) (entry.Clock node.id clock ∷ [])) [] (fits_kept.clock_set w node r clock bound found is_up rises close fit.fit)
          (told_fit (known w) w.nodes (with_node w.nodes there) w.entries (messages w) (entry.Clock node.id clock) (record { begins = λ id. refl; ends = λ es. tt; places = λ number. refl })
          (put_fit (known w) w.nodes w.entries (messages w) there node found (core_of w [] node r found is_up ends) ends) ends);
      all_ticked = λ w count bound fit.
          let ends = ends_of w [] fit in
          both_fit (tells (record w { nodes = map (ticked count) w.nodes }) (entry.Tick count ∷ [])) [] (fits_kept.all_ticked w count bound fit.fit)
          (told_fit (known w) w.nodes (map (ticked count) w.nodes) w.entries (messages w) (entry.Tick count) (record { begins = λ id. refl; ends = λ es. tt; places = λ number. refl })
          (tick_fit (known w) w.nodes w.entries (messages w) count ends) ends);
      less_pending = λ w own number fit.
          both_fit (record w { sent = no_longer_pending w.sent number }) own (fits_kept.less_pending w own number fit.fit) (less_pending w own number (ends_of w own fit));
      lost = λ w own left part fit. both_fit w left (fits_kept.lost w own left part fit.fit) (fewer_fits w own left (left_within left own part) (ends_of w own fit));
      stepped = λ w was own node r next turned outs rest part found is_up step split fit.
          let ends = ends_of w was fit in
          both_fit (after_turn w node (record r { core = next }) (record turned { outs = outs })) (own ++ to_itself node.id outs)
          (fits_kept.stepped w was own node r next turned outs rest part found is_up step split fit.fit)
          (stepped_fits w was own node r next turned outs (left_within own was part) (λ m h. subst (Has m) (sym split) (has_left m outs rest h)) found
          (node_owes w was node r next turned found is_up fit.fit ends step) ends);
      stopped_keeping = λ w own node r next turned rec found is_up step e fit.
          both_fit (halted w (record node { kept = node.kept ++ rec ∷ []; past = node.past ++ puts rec ∷ [] }) (record r { core = next }) halt.Kept) []
          (fits_kept.stopped_keeping w own node r next turned rec found is_up step e fit.fit)
          (halts w own (record node { kept = node.kept ++ rec ∷ []; past = node.past ++ puts rec ∷ [] }) node (record r { core = next }) halt.Kept found (ends_of w own fit));
      forgotten = λ w own node r s found is_up is_osd fit.
          let there = rewritten_at node r s in
          let ends = ends_of w own fit in
          both_fit (record w { nodes = with_node w.nodes (rewritten_at node r s) }) own (fits_kept.forgotten w own node r s found is_up is_osd fit.fit)
          (changed_fit (known w) w.nodes (with_node w.nodes (rewritten_at node r s)) w.entries (own ++ messages w)
          (put_fit (known w) w.nodes w.entries (own ++ messages w) there node found
          (files_then w.entries (keep_of s) s (subst (CoreIs w.entries node.id) is_osd (core_of w own node r found is_up ends))) ends) ends);
      lined = λ w l ended fit. both_fit (record (with_line w l) { ended = ended }) [] (fits_kept.lined w l ended fit.fit) (ends_of w [] fit);
    }

-- ---- every run

pub runs_answered : (room : Room) (lines : List Line) (file : ℕ) → AreLines lines → is_replicated file (run_of room lines).entries ≡ true → EndsAreAnswered file (run_of room lines).entries
runs_answered room lines file are = ends_answered (run_of room lines).entries file (run_kept Fits ends_kept room lines are).ends

pub parts_answered : (room : Room) (lines : List Line) (l : Line) (file : ℕ) (entries : List Entry) → AreLines (lines ++ l ∷ []) → refusal (run_of room lines) l ≡ None → IsRunInto room lines l entries → is_replicated file entries ≡ true → EndsAreAnswered file entries
parts_answered room lines l file entries are allowed into =
    let part = so_far (steps into.1.0 room (begins (run_of room lines) l)) in
    let fit : Fits (so_far (steps into.1.0 room (begins (run_of room lines) l))) []
    = so_far_kept Fits ends_kept (steps into.1.0 room (begins (run_of room lines) l)) (steps_into Fits ends_kept room lines l into.1.0 are allowed) in
    subst (λ (es : List Entry). is_replicated file es ≡ true → EndsAreAnswered file es) into.2
    (subst (λ (part : World). is_replicated file part.entries ≡ true → EndsAreAnswered file part.entries) into.1.2 (ends_answered part.entries file fit.ends))

-- ---- acts

pub runs_acts_begun : (room : Room) (lines : List Line) (file : ℕ) → AreLines lines → ActsHaveBegun file (run_of room lines).entries
runs_acts_begun room lines file are = acts_begun (run_of room lines).entries file (run_kept Fits ends_kept room lines are).ends

pub parts_acts_begun : (room : Room) (lines : List Line) (l : Line) (file : ℕ) (entries : List Entry) → AreLines (lines ++ l ∷ []) → refusal (run_of room lines) l ≡ None → IsRunInto room lines l entries → ActsHaveBegun file entries
parts_acts_begun room lines l file entries are allowed into =
    let part = so_far (steps into.1.0 room (begins (run_of room lines) l)) in
    let fit : Fits (so_far (steps into.1.0 room (begins (run_of room lines) l))) []
    = so_far_kept Fits ends_kept (steps into.1.0 room (begins (run_of room lines) l)) (steps_into Fits ends_kept room lines l into.1.0 are allowed) in
    subst (ActsHaveBegun file) into.2 (subst (λ (part : World). ActsHaveBegun file part.entries) into.1.2 (acts_begun part.entries file fit.ends))

-- ---- asks

ask_begun : (es : List Entry) (from to : NodeId) (content : Payload) → ContentIs es from to content → HasBegunSo es from content
ask_begun es from to (payload.Ask number capability asked) is = (is.0, is.1)
ask_begun es from to _ is = tt

pub asks_begun : (w : World) (own : List Msg) → Fits w own → AsksHaveBegun w own
asks_begun w own fit m h = ask_begun w.entries m.from m.to m.payload (fit.messages m h)

next_begun : (next : Next) → NextIs Fits ends_kept next → NextHasBegun next
next_begun (finished w) fit = asks_begun w [] fit
next_begun (opens l w) fit = asks_begun w [] fit.0
next_begun (goes_on d) fit = asks_begun d.world d.own fit
next_begun (ends cause w) fit = asks_begun w [] fit

pub runs_begun : (room : Room) (lines : List Line) → AreLines lines → AsksHaveBegun (run_of room lines) []
runs_begun room lines are = asks_begun (run_of room lines) [] (run_kept Fits ends_kept room lines are)

pub steps_begun : (room : Room) (lines : List Line) (l : Line) (k : ℕ) → AreLines (lines ++ l ∷ []) → refusal (run_of room lines) l ≡ None → NextHasBegun (steps k room (begins (run_of room lines) l))
steps_begun room lines l k are allowed = next_begun (steps k room (begins (run_of room lines) l)) (steps_into Fits ends_kept room lines l k are allowed)
