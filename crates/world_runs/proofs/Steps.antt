-- Each thing that may happen in a line leaves the world as it should be.
use Rattle.std.proofs.Common.{◌≡◌, ℕ, ◌≤◌, ◌+◌, ◌⊎◌, inl, inr, List, [], ◌∷◌, ◌++◌, map, refl, ap, subst, sym, ◌∙◌, arith, Option, Some, None}
use Rattle.std.specs.Prelude.{filter, not, is_some, ◌==◌, ◌&&◌}
use Rattle.std.specs.Option.{option_or, option_map}
use Rattle.std.proofs.lemmas.Bool.Decides.{nat_tests}
use Rattle.std.proofs.lemmas.List.{append-nil, append_assoc, map-append}
use Rattle.xt_base.specs.TimeSettings.{TimeSettings}
use Rattle.xt_messages.specs.Limits.{FitsOp}
use Rattle.xt_base.specs.declared.ids.NodeId.{NodeId}
use Rattle.xt_base.specs.declared.ids.OpId.{OpId}
use Rattle.xt_messages.specs.declared.file.Capability.{Capability}
use Rattle.xt_messages.specs.declared.file.Kind.{Kind}
use Rattle.xt_messages.specs.declared.file.Kind.TheVariants as kind
use Rattle.xt_messages.specs.declared.file.Op.{Op}
use Rattle.xt_messages.specs.declared.file.Op.TheVariants as op
use Rattle.xt_messages.specs.declared.meta.MetaReq.TheVariants as want
use Rattle.xt_messages.specs.declared.meta.MetaAnswer.{MetaAnswer}
use Rattle.xt_messages.specs.declared.meta.MetaAnswer.TheVariants as answer
use Rattle.xt_messages.specs.declared.message.Msg.{Msg}
use Rattle.xt_messages.specs.declared.message.Payload.{Payload}
use Rattle.xt_messages.specs.declared.message.Payload.TheVariants as payload
use Rattle.xt_messages.specs.declared.record.Record.{Record}
use Rattle.xt_messages.specs.declared.event.Call.{Call}
use Rattle.xt_messages.specs.declared.event.Call.TheVariants as call
use Rattle.xt_messages.specs.declared.event.Event.{Event}
use Rattle.xt_messages.specs.declared.event.Mark.{Mark}
use Rattle.xt_protocol.specs.declared.turned.Turned.{Turned}
use Rattle.lease_safety.specs.State.{Has}
use Rattle.xt_protocol.specs.OsdSteps.{OsdState, step_of_osd}
use Rattle.time_line.specs.declared.entry.Entry.{Entry}
use Rattle.time_line.specs.declared.entry.Entry.TheVariants as entry
use Rattle.world_spec.specs.declared.PlacedFile.{PlacedFile}
use Rattle.world_spec.specs.declared.Sent.{Sent}
use Rattle.client_rows.specs.declared.holding.HeldFile.{HeldFile}
use Rattle.client_rows.specs.declared.requests.Request.{Request}
use Rattle.client_rows.specs.declared.requests.Request.TheVariants as request
use Rattle.client_rows.specs.Holding.{held_of}
use Rattle.client_rows.specs.Requests.{on_file, under_held, report_of, request_of}
use Rattle.client_rows.specs.Rows.{WholeClient, passes, stepped, called, called_again}
use Rattle.client_rows.specs.Steps.{Step}
use Rattle.client_steps.specs.Asked.{AllHeld, AnswerGrants, Sends, sends_one, BeginsCall, CallStepIs, call_passes, call_begins}
use Rattle.client_steps.proofs.Held.{held_found, holds_held, held_after}
use Rattle.client_steps.proofs.Steps.{stepped_is, called_is, called_again_is}
use Rattle.time_line.specs.Bounds.{FitsCall}
use Rattle.time_line.specs.TimeLine.{location_told, location_in, id_of, begun, call_begun, operation_on, operation_begun}
use Rattle.server_rows.specs.Metadata.{MrcState, catalogue_of, step_of_mrc}
use Rattle.server_rows.specs.Directory.{DirState, step_of_dir}
use Rattle.world_spec.specs.World.{World, Node, Running, Core, osd, client, mrc, dir, world_key, node_in, with_node, file_in, known}
use Rattle.world_spec.specs.NodeSteps.{entry_of, files_marked, pending, numbered, to_itself, after_turn, outside_of}
use Rattle.world_spec.specs.Lines.{ticked, declared_capability, epoch_of, about_to_use, ready_for, file_entry, files_in}
use Rattle.world_runs.specs.Worlds.{AnswerFits, PayloadFits, AreDeclared}
use Rattle.world_runs.specs.View.{node_id, messages}
use Rattle.world_runs.proofs.Lists.{has_in, has_left, has_right, has_filter, map_same}
use Rattle.world_runs.proofs.Tables.{same, node_in-id, node_in-new, node_in-other, node_in-last, node_in-before, node_in-ticked, file_in-id, file_in-stays}
use Rattle.world_runs.proofs.Making.{IsServed, served_of, IsListing, mrc_serves, dir_serves, step_made, grants_known}
use Rattle.world_runs.proofs.Fit.{IsFit}
use Rattle.world_runs.proofs.Frame.{next_node}
use Rattle.world_runs.proofs.Entries.{begun-append}
use Rattle.world_runs.proofs.Places.{AreTold, place_of, location-grown, one_place, told_more, told_last, told_marks}
use Rattle.world_runs.proofs.OsdIds.{FilesAre, EventHasBegun, osd_step_is}
use Rattle.world_runs.proofs.Calls.{AskIs, ContentIs, RequestIs, HeldIs, EventIs, Ending, silent, ended, sent_is, ending_is, grant_is}
use Rattle.world_runs.proofs.Growth.{EntriesAre, EntryIs, FreshFrom, Quiet, UpIs, CoreIs, CallerIs, EndsFit, entries-push, entries-marks, entries-files, fresh-grown, quiet-none, quiet-one, quiet-marks, files-grown, calls-grown, held-grown, content-grown, core-grown, up-grown, told_is}

-- what the trace of a world shows of its calls
abbrev pub Ends : World → List Msg → Type 0
Ends w own = EndsFit (known w) w.nodes w.entries (own ++ messages w)

-- the same of a world in order
pub record Fits (w : World) (own : List Msg) : Type 0 where
  pub fit : IsFit w own
  pub nodes_are : (n : ℕ) (node : Node) → node_in w.nodes n ≡ Some node → UpIs w.entries node.id node.up
  pub strangers : (n : ℕ) → node_in w.nodes n ≡ None → FreshFrom w.entries (node_id n) 0
  pub messages : (m : Msg) → Has m (own ++ messages w) → ContentIs w.entries m.from m.to m.payload
  pub ends : EntriesAre w.entries
  pub places : AreTold (known w) w.entries

pub ends_of : (w : World) (own : List Msg) → Fits w own → Ends w own
ends_of w own fit = record { nodes_are = fit.nodes_are; strangers = fit.strangers; messages = fit.messages; ends = fit.ends; places = fit.places }

pub both_fit : (w : World) (own : List Msg) → IsFit w own → Ends w own → Fits w own
both_fit w own fit ends = record { fit = fit; nodes_are = ends.nodes_are; strangers = ends.strangers; messages = ends.messages; ends = ends.ends; places = ends.places }

none_some : {X : Type 0} (o : Option X) (x : X) → o ≡ None → o ≡ Some x → ⊥
none_some o x a b = cc (a, b)

-- ---- an entry more, and nodes in other states

-- nodes that are as they should be, and none fewer
pub record NodesFit (nodes after : List Node) (es : List Entry) : Type 0 where
  pub each : (n : ℕ) (x : Node) → node_in after n ≡ Some x → UpIs es x.id x.up
  pub strangers : (n : ℕ) → node_in after n ≡ None → FreshFrom es (node_id n) 0

-- an entry that begins and ends no call, and reports no place
pub record IsInert (e : Entry) : Type 0 where
  pub begins : (id : OpId) → call_begun id e ≡ None
  pub ends : (es : List Entry) → EntryIs es e
  pub places : (number : ℕ) → location_told number e ≡ None

pub told_fit : (files : List PlacedFile) (nodes after : List Node) (es : List Entry) (sent : List Msg) (e : Entry) → IsInert e → NodesFit nodes after es → EndsFit files nodes es sent → EndsFit files after (es ++ e ∷ []) sent
told_fit files nodes after es sent e inert fits fit =
    record {
      nodes_are = λ n x is. up-grown es (e ∷ []) x.id x.up (quiet-one e x.id (λ k. inert.begins (id_of x.id k))) (fits.each n x is);
      strangers = λ n none. fresh-grown es (e ∷ []) (node_id n) 0 (quiet-one e (node_id n) (λ k. inert.begins (id_of (node_id n) k))) (fits.strangers n none);
      messages = λ m h. content-grown es (e ∷ []) m.from m.to m.payload (fit.messages m h);
      ends = entries-push es e fit.ends (inert.ends es);
      places = told_more files es (e ∷ []) (one_place e inert.places) fit.places;
    }

-- files more, each with its entry
pub files_fit : (files : List PlacedFile) (nodes : List Node) (es : List Entry) (sent : List Msg) (left : List PlacedFile) → EndsFit files nodes es sent → EndsFit (files ++ left) nodes (es ++ map file_entry left) sent
files_fit files nodes es sent [] fit =
    subst (λ (fs : List PlacedFile). EndsFit fs nodes (es ++ []) sent) (sym (append-nil files)) (subst (λ (xs : List Entry). EndsFit files nodes xs sent) (sym (append-nil es)) fit)
files_fit files nodes es sent (f ∷ left) fit =
    let e = file_entry f in
    subst (λ (fs : List PlacedFile). EndsFit fs nodes (es ++ map file_entry (f ∷ left)) sent) (append_assoc files (f ∷ []) left)
    (subst (λ (xs : List Entry). EndsFit ((files ++ f ∷ []) ++ left) nodes xs sent) (append_assoc es (file_entry f ∷ []) (map file_entry left))
    (files_fit (files ++ f ∷ []) nodes (es ++ file_entry f ∷ []) sent left
    (record {
      nodes_are = λ n x is. up-grown es (e ∷ []) x.id x.up (quiet-one e x.id (λ k. refl)) (fit.nodes_are n x is);
      strangers = λ n none. fresh-grown es (e ∷ []) (node_id n) 0 (quiet-one e (node_id n) (λ k. refl)) (fit.strangers n none);
      messages = λ m h. content-grown es (e ∷ []) m.from m.to m.payload (fit.messages m h);
      ends = entries-push es e fit.ends tt;
      places = told_last files es f fit.places;
    })))

pub changed_fit : (files : List PlacedFile) (nodes after : List Node) (es : List Entry) (sent : List Msg) → NodesFit nodes after es → EndsFit files nodes es sent → EndsFit files after es sent
changed_fit files nodes after es sent fits fit = record { nodes_are = fits.each; strangers = fits.strangers; messages = fit.messages; ends = fit.ends; places = fit.places }

pub same_nodes : (files : List PlacedFile) (nodes : List Node) (es : List Entry) (sent : List Msg) → EndsFit files nodes es sent → NodesFit nodes nodes es
same_nodes files nodes es sent fit = record { each = fit.nodes_are; strangers = fit.strangers }

-- a node in the place of the one of its id
pub put_fit : (files : List PlacedFile) (nodes : List Node) (es : List Entry) (sent : List Msg) (node old : Node) → node_in nodes node.id.0 ≡ Some old → UpIs es node.id node.up → EndsFit files nodes es sent → NodesFit nodes (with_node nodes node) es
put_fit files nodes es sent node old found up fit = record { each = each; strangers = strangers }
  where
    each : (n : ℕ) (x : Node) → node_in (with_node nodes node) n ≡ Some x → UpIs es x.id x.up
    each n x is = elim (same n node.id.0) [
      | inl e ↦ (let now : Some node ≡ Some x = sym (ap (node_in (with_node nodes node)) e ∙ node_in-new nodes node old found) ∙ is in let is_node : node ≡ x = cc in subst (λ (y : Node). UpIs es y.id y.up) is_node up)
      | inr ne ↦ fit.nodes_are n x (sym (node_in-other nodes node n ne) ∙ is)
    ]

    strangers : (n : ℕ) → node_in (with_node nodes node) n ≡ None → FreshFrom es (node_id n) 0
    strangers n none = elim (same n node.id.0) [
      | inl e ↦ absurd (none_some (node_in (with_node nodes node) n) node none (ap (node_in (with_node nodes node)) e ∙ node_in-new nodes node old found))
      | inr ne ↦ fit.strangers n (sym (node_in-other nodes node n ne) ∙ none)
    ]

-- a node after the others
pub add_fit : (files : List PlacedFile) (nodes : List Node) (es : List Entry) (sent : List Msg) (node : Node) → node_in nodes node.id.0 ≡ None → UpIs es node.id node.up → EndsFit files nodes es sent → NodesFit nodes (nodes ++ node ∷ []) es
add_fit files nodes es sent node free up fit = record { each = each; strangers = strangers }
  where
    each : (n : ℕ) (x : Node) → node_in (nodes ++ node ∷ []) n ≡ Some x → UpIs es x.id x.up
    each n x is = elim (same n node.id.0) [
      | inl e ↦ (let now : Some node ≡ Some x = sym (ap (node_in (nodes ++ node ∷ [])) e ∙ node_in-last nodes node free) ∙ is in let is_node : node ≡ x = cc in subst (λ (y : Node). UpIs es y.id y.up) is_node up)
      | inr ne ↦ fit.nodes_are n x (sym (node_in-before nodes node n ne) ∙ is)
    ]

    strangers : (n : ℕ) → node_in (nodes ++ node ∷ []) n ≡ None → FreshFrom es (node_id n) 0
    strangers n none = elim (same n node.id.0) [
      | inl e ↦ absurd (none_some (node_in (nodes ++ node ∷ []) n) node none (ap (node_in (nodes ++ node ∷ [])) e ∙ node_in-last nodes node free))
      | inr ne ↦ fit.strangers n (sym (node_in-before nodes node n ne) ∙ none)
    ]

-- all clocks advance
pub tick_fit : (files : List PlacedFile) (nodes : List Node) (es : List Entry) (sent : List Msg) (count : ℕ) → EndsFit files nodes es sent → NodesFit nodes (map (ticked count) nodes) es
tick_fit files nodes es sent count fit = record { each = λ n x is. each n x (node_in nodes n) refl (sym (node_in-ticked nodes count n) ∙ is); strangers = λ n none. strangers n (node_in nodes n) refl (sym (node_in-ticked nodes count n) ∙ none) }
  where
    up : (o : Option Running) (node : NodeId) → UpIs es node o → UpIs es node (elim o [ None ↦ None | Some running ↦ Some (record running { clock = running.clock + count }) ])
    up None node is = tt
    up (Some r) node is = is

    each : (n : ℕ) (x : Node) (o : Option Node) → node_in nodes n ≡ o → option_map (ticked count) o ≡ Some x → UpIs es x.id x.up
    each n x None found is = absurd cc
    each n x (Some y) found is = (let now : ticked count y ≡ x = cc in subst (λ (z : Node). UpIs es z.id z.up) now (up y.up y.id (fit.nodes_are n y found)))

    strangers : (n : ℕ) (o : Option Node) → node_in nodes n ≡ o → option_map (ticked count) o ≡ None → FreshFrom es (node_id n) 0
    strangers n None found none = fit.strangers n found
    strangers n (Some y) found none = absurd cc

-- ---- a step of a node

-- what must hold of a step, its entries after these
pub record Owes (es : List Entry) (node : NodeId) (core : Core) (turned : Turned) : Type 0 where
  pub core_is : CoreIs (es ++ map (entry_of node) turned.marks) node core
  pub sent : (m : Msg) → Has m turned.outs → ContentIs (es ++ map (entry_of node) turned.marks) m.from m.to m.payload
  pub ends : EntriesAre (es ++ map (entry_of node) turned.marks)

-- a message after a step is one of the step's, or was there
pub came : (own was outs : List Msg) (w : World) (node : NodeId) (nodes : List Node) (m : Msg) → ((k : Msg) → Has k own → Has k was)
    → Has m ((own ++ to_itself node outs) ++ map (λ (s : Sent). s.message) (w.sent ++ numbered nodes node outs)) → Has m outs ⊎ Has m (was ++ messages w)
came own was outs w node nodes m within h =
    let old = map (λ (s : Sent). s.message) w.sent in
    let new = map (λ (s : Sent). s.message) (numbered nodes node outs) in
    let split = subst (λ (ms : List Msg). Has m ((own ++ to_itself node outs) ++ ms)) (map-append (λ (s : Sent). s.message) w.sent (numbered nodes node outs)) h in
    elim (has_in m (own ++ to_itself node outs) (old ++ new) split) [
      | inl q ↦ elim (has_in m own (to_itself node outs) q) [
        | inl here ↦ inr (has_left m was old (within m here))
        | inr out ↦ inl (has_filter (λ (k : Msg). k.to.0 == node.0) m outs out).0
      ]
      | inr s ↦ elim (has_in m old new s) [
        | inl here ↦ inr (has_right m was old here)
        | inr out ↦ inl (has_filter (λ (k : Msg). not (k.to.0 == node.0) && is_some (node_in nodes k.to.0)) m outs
            (map_same (λ (s : Sent). s.message) pending (filter (λ (k : Msg). not (k.to.0 == node.0) && is_some (node_in nodes k.to.0)) outs) (λ k. refl) m out)).0
      ]
    ]

pub stepped_fits : (w : World) (was own : List Msg) (node : Node) (r : Running) (next : Core) (turned : Turned) (outs : List Msg) → ((m : Msg) → Has m own → Has m was) → ((m : Msg) → Has m outs → Has m turned.outs)
    → node_in w.nodes node.id.0 ≡ Some node → Owes w.entries node.id next turned → Ends w was
    → Ends (after_turn w node (record r { core = next }) (record turned { outs = outs })) (own ++ to_itself node.id outs)
stepped_fits w was own node r next turned outs within fewer found owes fit =
    record {
      nodes_are = each;
      strangers = strangers;
      messages = λ m h. elim (came own was outs w node.id w.nodes m within h) [
        | inl mine ↦ owes.sent m (fewer m mine)
        | inr old ↦ content-grown w.entries more m.from m.to m.payload (fit.messages m old)
      ];
      ends = owes.ends;
      places =
          subst (λ (files : List PlacedFile). AreTold files (w.entries ++ map (entry_of node.id) turned.marks)) (append_assoc w.files w.made (files_marked turned.marks))
          (told_marks (known w) w.entries node.id turned.marks fit.places);
    }
  where
    more : List Entry
    more = map (entry_of node.id) turned.marks

    there : Node
    there = next_node node r next turned

    each : (n : ℕ) (x : Node) → node_in (with_node w.nodes (next_node node r next turned)) n ≡ Some x → UpIs (w.entries ++ map (entry_of node.id) turned.marks) x.id x.up
    each n x is = elim (same n node.id.0) [
      | inl e ↦ (let now : Some (next_node node r next turned) ≡ Some x = sym (ap (node_in (with_node w.nodes (next_node node r next turned))) e ∙ node_in-new w.nodes (next_node node r next turned) node found) ∙ is in
          let is_node : next_node node r next turned ≡ x = cc in subst (λ (y : Node). UpIs (w.entries ++ map (entry_of node.id) turned.marks) y.id y.up) is_node owes.core_is)
      | inr ne ↦ (let was_there = sym (node_in-other w.nodes (next_node node r next turned) n ne) ∙ is in
          up-grown w.entries (map (entry_of node.id) turned.marks) x.id x.up (quiet-marks x.id node.id turned.marks (λ e. ne (sym (node_in-id w.nodes n x was_there) ∙ e))) (fit.nodes_are n x was_there))
    ]

    strangers : (n : ℕ) → node_in (with_node w.nodes (next_node node r next turned)) n ≡ None → FreshFrom (w.entries ++ map (entry_of node.id) turned.marks) (node_id n) 0
    strangers n none = elim (same n node.id.0) [
      | inl e ↦ absurd (none_some (node_in (with_node w.nodes (next_node node r next turned)) n) (next_node node r next turned) none (ap (node_in (with_node w.nodes (next_node node r next turned))) e ∙ node_in-new w.nodes (next_node node r next turned) node found))
      | inr ne ↦ fresh-grown w.entries (map (entry_of node.id) turned.marks) (node_id n) 0 (quiet-marks (node_id n) node.id turned.marks ne) (fit.strangers n (sym (node_in-other w.nodes (next_node node r next turned) n ne) ∙ none))
    ]

-- ---- what must hold of each step

pub osd_owes : (es : List Entry) (node : Node) (s : OsdState) (reading : ℕ) (happens : Event) → EntriesAre es → FilesAre es s.files → EventHasBegun es happens
    → Owes es node.id (osd (step_of_osd (outside_of node.kept) s reading happens).osd) (step_of_osd (outside_of node.kept) s reading happens).turned
osd_owes es node s reading happens answered are begun =
    let step = step_of_osd (outside_of node.kept) s reading happens in
    let is = osd_step_is es (outside_of node.kept) s reading happens are begun in
    record {
      core_is = files-grown es (map (entry_of node.id) step.turned.marks) step.osd.files is.files_are;
      sent = λ m h. told_is es node.id step.turned.marks m (is.told m h);
      ends = entries-marks is.marked.0 node.id es step.turned.marks answered is.plain is.marked.1;
    }

-- what a client marks on an event begins no call
ending_quiet : (es : List Entry) (node : NodeId) (marks : List Mark) → Ending es node marks → Quiet (map (entry_of node) marks) node
ending_quiet es node marks (silent none) = subst (λ (ms : List Mark). Quiet (map (entry_of node) ms) node) (sym none) (quiet-none node)
ending_quiet es node marks (ended number how is answered) =
    subst (λ (ms : List Mark). Quiet (map (entry_of node) ms) node) (sym is) (quiet-one (entry.Done node number how) node (λ k. refl))

ending_answered : (es : List Entry) (node : NodeId) (marks : List Mark) → EntriesAre es → Ending es node marks → EntriesAre (es ++ map (entry_of node) marks)
ending_answered es node marks are (silent none) = subst (λ (ms : List Mark). EntriesAre (es ++ map (entry_of node) ms)) (sym none) (subst EntriesAre (sym (append-nil es)) are)
ending_answered es node marks are (ended number how is answered) =
    subst (λ (ms : List Mark). EntriesAre (es ++ map (entry_of node) ms)) (sym is) (entries-push es (entry.Done node number how) are answered)

-- a client's step that begins no call
pub client_owes : (es : List Entry) (node : NodeId) (step : Step WholeClient) → EntriesAre es → CallerIs es node step.state → Ending es node step.turned.marks
    → ((m : Msg) → Has m step.turned.outs → ContentIs es m.from m.to m.payload) → Owes es node (client step.state) step.turned
client_owes es node step answered caller ending sent =
    record {
      core_is = core-grown es (map (entry_of node) step.turned.marks) node (client step.state) (ending_quiet es node step.turned.marks ending) caller;
      sent = λ m h. content-grown es (map (entry_of node) step.turned.marks) m.from m.to m.payload (sent m h);
      ends = ending_answered es node step.turned.marks answered ending;
    }

-- its step on an event
pub event_owes : (es : List Entry) (node : NodeId) (times : TimeSettings) (c : WholeClient) (reading : ℕ) (happens : Event) → EntriesAre es → CallerIs es node c → EventIs es node happens
    → (let step = stepped node times c reading happens in Owes es node (client step.state) step.turned)
event_owes es node times c reading happens answered is came =
    let step = stepped node times c reading happens in
    let does = stepped_is (RequestIs es node) node times c reading happens is.calls in
    client_owes es node (stepped node times c reading happens) answered
    (record {
      calls = does.client;
      held = held_after (HeldIs es) node times c reading happens (grant_is es node happens came) is.held;
      fresh = subst (FreshFrom es node) (sym does.number) is.fresh;
    })
    (ending_is es node happens step.turned.marks came does.tells) (sent_is es node step.turned.outs does.sends)

-- its last call once more
pub again_owes : (es : List Entry) (node : NodeId) (times : TimeSettings) (c : WholeClient) (reading : ℕ) → EntriesAre es → CallerIs es node c
    → (let step = called_again node times c reading in Owes es node (client step.state) step.turned)
again_owes es node times c reading answered is =
    let step = called_again node times c reading in
    let does = called_again_is (RequestIs es node) node times c reading is.calls in
    client_owes es node (called_again node times c reading) answered
    (record { calls = does.client; held = subst (AllHeld (HeldIs es)) (sym does.held) is.held; fresh = subst (FreshFrom es node) (sym does.number) is.fresh })
    (silent does.marks) (sent_is es node step.turned.outs does.sends)

-- ---- a call

own_begins : (node : NodeId) (k : ℕ) (c : Call) → call_begun (id_of node k) (entry.Begin node k c) ≡ Some c
own_begins node k c = grind (arith, nat_tests)

other_number : (node : NodeId) (k next : ℕ) (c : Call) → next + 1 ≤ k → call_begun (id_of node k) (entry.Begin node next c) ≡ None
other_number node k next c above = grind (arith, nat_tests)

first_begun : (id : OpId) (es : List Entry) (e : Entry) (c : Call) → begun id es ≡ None → call_begun id e ≡ Some c → begun id (es ++ e ∷ []) ≡ Some c
unfolding begun
first_begun id es e c none is = begun-append id es (e ∷ []) ∙ at (begun id es) (call_begun id e) none is
  where
    at : (o p : Option Call) → o ≡ None → p ≡ Some c → option_or o (option_or p None) ≡ Some c
    at None (Some x) none is = is
    at None None none is = absurd cc
    at (Some y) p none is = absurd cc

none_begun : (id : OpId) (es : List Entry) (e : Entry) → begun id es ≡ None → call_begun id e ≡ None → begun id (es ++ e ∷ []) ≡ None
unfolding begun
none_begun id es e none is = begun-append id es (e ∷ []) ∙ at (begun id es) (call_begun id e) none is
  where
    at : (o p : Option Call) → o ≡ None → p ≡ None → option_or o (option_or p None) ≡ None
    at None None none is = refl
    at None (Some x) none is = absurd cc
    at (Some y) p none is = absurd cc

-- the entries once this call of a client has begun
abbrev pub with_begin : List Entry → NodeId → WholeClient → Call → List Entry
with_begin es node c k = es ++ entry.Begin node c.replicas.next k ∷ []

module _ (es : List Entry) (node : NodeId) (c : WholeClient) (k : Call) (is : CallerIs es node c) where
  -- it is the call of this number, and no call has begun from the next number on
  has_begun : begun (id_of node c.replicas.next) (with_begin es node c k) ≡ Some k
  has_begun = first_begun (id_of node c.replicas.next) es (entry.Begin node c.replicas.next k) k (is.fresh c.replicas.next (omega arith)) (own_begins node c.replicas.next k)

  begun_fresh : FreshFrom (with_begin es node c k) node (c.replicas.next + 1)
  begun_fresh j above = none_begun (id_of node j) es (entry.Begin node c.replicas.next k) (is.fresh j (omega arith)) (other_number node j c.replicas.next k above)

  -- it is asked by a request of the file's kind
  of_kind : (what : Kind) (capability : Capability) (operation : Op) → capability.location.kind ≡ what → AskIs (with_begin es node c k) (id_of node c.replicas.next) capability operation
      → RequestIs (with_begin es node c k) node c.replicas.next (on_file what capability operation)
  of_kind kind.Replicated capability operation of ask = (ask, of)
  of_kind kind.Striped capability operation of ask = (ask, of)

  under_is : (number : ℕ) (operation : Op) (asked : Request) (o : Option HeldFile) → held_of c.held number ≡ o → operation_on number (Some k) ≡ Some operation → FitsOp operation → under_held operation o ≡ Some asked
      → RequestIs (with_begin es node c k) node c.replicas.next asked
  under_is number operation asked None found does fits wants = absurd (cc wants)
  under_is number operation asked (Some h) found does fits wants =
      let its = held_found (HeldIs es) c.held number h found is.held in
      let same : on_file h.capability.location.kind h.capability operation ≡ asked = cc wants in
      let what : operation_begun number (with_begin es node c k) (id_of node c.replicas.next) ≡ Some operation = ap (operation_on number) has_begun ∙ does in
      let there : location_in number (with_begin es node c k) ≡ Some h.capability.location = location-grown number es (entry.Begin node c.replicas.next k ∷ []) h.capability.location its.1 in
      subst (RequestIs (with_begin es node c k) node c.replicas.next) same
      (of_kind h.capability.location.kind h.capability operation refl
      (subst (λ (f : ℕ). (operation_begun f (with_begin es node c k) (id_of node c.replicas.next) ≡ Some operation) × FitsOp operation × (location_in f (with_begin es node c k) ≡ Some h.capability.location)) (sym its.0) (what, fits, there)))

-- a call does on its own file what it does
reads_itself : (file object at len : ℕ) → operation_on file (Some (call.Read file object at len)) ≡ Some (op.Read object at len)
reads_itself file object at len = grind (arith, nat_tests)

writes_itself : (file object at : ℕ) (bytes : List ℕ) → operation_on file (Some (call.Write file object at bytes)) ≡ Some (op.Write object at bytes)
writes_itself file object at bytes = grind (arith, nat_tests)

truncates_itself : (file size epoch : ℕ) → operation_on file (Some (call.Truncate file size epoch)) ≡ Some (op.Truncate size)
truncates_itself file size epoch = grind (arith, nat_tests)

-- what a call reports under
report_is : (es : List Entry) (node : NodeId) (number user group : ℕ) (o : Option HeldFile) (asked : Request) → report_of user group o ≡ Some asked → RequestIs es node number asked
report_is es node number user group None asked wants = absurd (cc wants)
report_is es node number user group (Some h) asked wants =
    (let same : request.Meta user group (want.Report h.capability h.mark) ≡ asked = cc wants in subst (RequestIs es node number) same tt)

-- what a call asks of a file's content is of that call, once it has begun
asked_begins : (es : List Entry) (node : NodeId) (c : WholeClient) (k : Call) → CallerIs es node c → FitsCall k → (asked : Request) → request_of c.held k ≡ Some asked
    → RequestIs (with_begin es node c k) node c.replicas.next asked
asked_begins es node c (call.Read file object at len) is fits asked wants =
    under_is es node c (call.Read file object at len) is file (op.Read object at len) asked (held_of c.held file) refl (reads_itself file object at len) (fits.1, fits.2, fits.3, fits.4) wants
asked_begins es node c (call.Write file object at bytes) is fits asked wants =
    under_is es node c (call.Write file object at bytes) is file (op.Write object at bytes) asked (held_of c.held file) refl (writes_itself file object at bytes) (fits.1, fits.2, fits.3, fits.4) wants
asked_begins es node c (call.Truncate file size epoch) is fits asked wants =
    under_is es node c (call.Truncate file size epoch) is file (op.Truncate size) asked (held_of c.held file) refl (truncates_itself file size epoch) fits.1 wants
asked_begins es node c (call.Report user group file) is fits asked wants =
    report_is (with_begin es node c (call.Report user group file)) node c.replicas.next user group (held_of c.held file) asked wants
asked_begins es node c (call.Meta user group wanted) is fits asked wants =
    (let same : request.Meta user group wanted ≡ asked = cc wants in subst (RequestIs (with_begin es node c (call.Meta user group wanted)) node c.replicas.next) same tt)
asked_begins es node c (call.Registry wanted) is fits asked wants =
    (let same : request.Registry wanted ≡ asked = cc wants in subst (RequestIs (with_begin es node c (call.Registry wanted)) node c.replicas.next) same tt)

-- a client is called
pub call_owes : (es : List Entry) (node : NodeId) (times : TimeSettings) (c : WholeClient) (reading : ℕ) (k : Call) → EntriesAre es → CallerIs es node c → FitsCall k
    → (let step = called node times c reading k in Owes es node (client step.state) step.turned)
call_owes es node times c reading k answered is fits =
    so (called node times c reading k)
    (called_is (RequestIs (with_begin es node c k) node) node times c reading k (calls-grown es (entry.Begin node c.replicas.next k ∷ []) node c is.calls) (λ asked wants room. asked_begins es node c k is fits asked wants))
  where
    -- nothing comes of it
    nothing : Owes es node (client (passes c reading).state) (passes c reading).turned
    nothing = client_owes es node (passes c reading) answered (record { calls = record { running = is.calls.running; made = is.calls.made }; held = is.held; fresh = is.fresh }) (silent refl) (λ m h. absurd h)

    begins : (asked : Request) (step : Step WholeClient) → BeginsCall (RequestIs (with_begin es node c k) node) node c k asked step → Owes es node (client step.state) step.turned
    begins asked step does =
        let told : entry.Begin node c.replicas.next k ∷ [] ≡ map (entry_of node) step.turned.marks = sym (ap (map (entry_of node)) does.marks) in
        record {
          core_is =
              subst (λ (more : List Entry). CallerIs (es ++ more) node step.state) told
              (record {
                calls = does.client;
                held = subst (AllHeld (HeldIs (with_begin es node c k))) (sym does.held) (held-grown es (entry.Begin node c.replicas.next k ∷ []) c.held is.held);
                fresh = subst (FreshFrom (with_begin es node c k) node) (sym does.number) (begun_fresh es node c k is);
              });
          sent = λ m h.
              subst (λ (more : List Entry). ContentIs (es ++ more) m.from m.to m.payload) told
              (sent_is (with_begin es node c k) node step.turned.outs
              (subst (Sends (RequestIs (with_begin es node c k) node) node) (sym does.outs) (sends_one does.to c.replicas.next asked does.asked_so)) m h);
          ends = subst (λ (more : List Entry). EntriesAre (es ++ more)) told (entries-push es (entry.Begin node c.replicas.next k) answered tt);
        }

    so : (step : Step WholeClient) → CallStepIs (RequestIs (with_begin es node c k) node) node c reading k step → Owes es node (client step.state) step.turned
    so step (call_passes same) = subst (λ (step : Step WholeClient). Owes es node (client step.state) step.turned) (sym same) nothing
    so step (call_begins asked does) = begins asked step does

-- ---- a client that is about to use a file

-- what it holds is of files that the trace reports, and it has begun no more calls
pub ready_is : (es : List Entry) (node : NodeId) (files made : List PlacedFile) (c : WholeClient) (k : Call) (file : Option ℕ) → AreTold (files ++ made) es → CallerIs es node c → CallerIs es node (ready_for files c k file)
ready_is es node files made c k None told is = is
ready_is es node files made c k (Some number) told is = at (file_in files number) refl
  where
    at : (o : Option PlacedFile) → file_in files number ≡ o → CallerIs es node (about_to_use c k o)
    at None found = is
    at (Some f) found =
        let epoch = epoch_of c f.file k in
        let there : location_in f.file.number es ≡ Some f.location
        = told f.file.number ∙ ap place_of (ap (file_in (files ++ made)) (file_in-id files number f found) ∙ file_in-stays files made number f found) in
        record {
          calls = record { running = is.calls.running; made = is.calls.made };
          held = holds_held (HeldIs es) c.held (declared_capability f epoch) (record { epoch = 0; size = 0 }) (refl, there) is.held;
          fresh = is.fresh;
        }

-- ---- the servers

-- what is granted of known files is of files that the trace reports
content_known : (es : List Entry) (files : List PlacedFile) (from to : NodeId) (content : Payload) → AreTold files es → IsServed content → PayloadFits files content → ContentIs es from to content
content_known es files from to (payload.MetaReply number told) told_so served fits = granted told fits
  where
    granted : (what : MetaAnswer) → AnswerFits files what → AnswerGrants (HeldIs es) what
    granted (answer.Granted capability size) fits = (refl, told_so capability.file.number ∙ ap place_of fits)
    granted _ fits = tt
content_known es files from to (payload.Ask number capability asked) told_so served fits = absurd served
content_known es files from to (payload.Reply number file said) told_so served fits = absurd served
content_known es files from to _ told_so served fits = tt

-- a step of the metadata server, whose records made what was reported
pub mrc_owes : (es : List Entry) (files made : List PlacedFile) (node : NodeId) (m : MrcState) (reading : ℕ) (happens : Event) (records : List Record) → EntriesAre es → AreTold (files ++ made) es → AreDeclared files
    → m.catalogue ≡ catalogue_of world_key records → made ≡ files_in m.catalogue → (let step = step_of_mrc world_key m reading happens in Owes es node (mrc step.mrc) step.turned)
mrc_owes es files made node m reading happens records answered told declared is made_is =
    let step = step_of_mrc world_key m reading happens in
    let serves = mrc_serves world_key m reading happens in
    let all : (files ++ made) ++ files_marked step.turned.marks ≡ files ++ files_in step.mrc.catalogue
    = append_assoc files made (files_marked step.turned.marks)
    ∙ ap (λ (fs : List PlacedFile). files ++ fs)
    (ap (λ (fs : List PlacedFile). fs ++ files_marked (step_of_mrc world_key m reading happens).turned.marks) made_is ∙ sym (step_made world_key m reading happens records is)) in
    let later = subst (λ (fs : List PlacedFile). AreTold fs (es ++ map (entry_of node) (step_of_mrc world_key m reading happens).turned.marks)) all (told_marks (files ++ made) es node step.turned.marks told) in
    record {
      core_is = tt;
      sent = λ x h.
          content_known (es ++ map (entry_of node) step.turned.marks) (files ++ files_in step.mrc.catalogue) x.from x.to x.payload later (served_of step.turned.outs x serves.outs h)
          (grants_known world_key files m reading happens records declared is x h);
      ends = entries-files node es step.turned.marks answered serves.marks;
    }

listing_is : (es : List Entry) (from to : NodeId) (content : Payload) → IsListing content → ContentIs es from to content
listing_is es from to (payload.RegistryReply number told) is = tt
listing_is es from to (payload.Ask number capability asked) is = absurd is
listing_is es from to (payload.Reply number file said) is = absurd is
listing_is es from to (payload.MetaReply number told) is = absurd is
listing_is es from to _ is = tt

-- a step of the directory service
pub dir_owes : (es : List Entry) (node : NodeId) (s : DirState) (happens : Event) → EntriesAre es → (let step = step_of_dir s happens in Owes es node (dir step.dir) step.turned)
dir_owes es node s happens answered =
    let step = step_of_dir s happens in
    let serves = dir_serves s happens in
    record {
      core_is = tt;
      sent = λ x h. listing_is (es ++ map (entry_of node) step.turned.marks) x.from x.to x.payload (serves.told x h);
      ends = subst (λ (ms : List Mark). EntriesAre (es ++ map (entry_of node) ms)) (sym serves.marks) (subst EntriesAre (sym (append-nil es)) answered);
    }
