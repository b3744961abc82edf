-- What an OSD sends itself after an event from outside waits in a chain.
use Rattle.std.proofs.Common.{◌≡◌, ◌+◌, inl, false, [], ◌++◌, refl, sym, ap, subst, ◌∙◌, arith, Some, append-nil}
use Rattle.std.specs.Prelude.{◌==◌, max, length}
use Rattle.xt_base.specs.declared.ids.NodeId.{NodeId}
use Rattle.xt_messages.specs.declared.event.Event.{Event}
use Rattle.xt_messages.specs.declared.event.Event.TheVariants as event
use Rattle.xt_protocol.specs.LeaseRows.{is_silent}
use Rattle.lease_safety.specs.State.{Has}
use Rattle.xt_protocol.specs.FileStates.{FileState}
use Rattle.xt_protocol.specs.OsdSteps.{OsdState, OsdStep, step_of_osd}
use Rattle.world_spec.specs.World.{World, Node, Running, osd, known, node_in}
use Rattle.world_spec.specs.NodeSteps.{to_itself, after_turn, outside_of}
use Rattle.world_runs.proofs.Frame.{next_node}
use Rattle.world_runs.proofs.Tables.{node_in-new}
use Rattle.world_runs.proofs.Walk.{of_osd, Reaches}
use Rattle.own_messages_wait.proofs.Files.{FileStands}
use Rattle.own_messages_wait.proofs.FileSizes.{FileSmall}
use Rattle.std.proofs.Common.{◌*◌}
use Rattle.world_spec.specs.Lines.{OWN}
use Rattle.world_runs.specs.View.{awake_as}
use Rattle.own_messages_wait.proofs.Starts.{event_starts, heard_alone, Behind, busy_low, count_busy, loosen}
use Rattle.own_messages_wait.proofs.Keeping.{Stood, stood_kept, fits, files_stand, node_is, arrives, holds_of, lists}
use Rattle.own_messages_wait.proofs.OneFile.{IsAlone}
use Rattle.own_messages_wait.proofs.Osds.{FileHolds}
use Rattle.world_runs.proofs.OsdSilence.{osd_makes_none}
use Rattle.world_spec.specs.declared.PlacedFile.{PlacedFile}
use Rattle.world_spec.specs.NodeSteps.{files_marked}
use Rattle.xt_base.specs.declared.ids.FileId.{FileId}
use Rattle.xt_messages.specs.declared.message.Msg.{Msg}
use Rattle.lease_runs.specs.OsdView.{site_of}
use Rattle.xt_protocol.specs.OsdSteps.{FilesStep, file_concerned, handle_message}
use Rattle.std.proofs.Common.{ℕ, List, Option, None, length-append, ◌≤◌}
use Rattle.own_messages_wait.proofs.Running.{InChain, no_own, of_an_osd, of_one_file, awake_step, awake_is, osd_left, osd_chain, osd_chain_by}

-- what an event brings at most: a message is about one file, a Wake about all, and it may ask the DIR, which may be the OSD itself
abbrev pub bound_of : World → Event → ℕ
bound_of w event.Wake = 1 + OWN * (length w.files + length w.made)
bound_of w _ = OWN

-- an OSD that is awake, after an event from outside
module _ (w : World) (node : Node) (r : Running) (s : OsdState) (found : node_in w.nodes node.id.0 ≡ Some node) (up : node.up ≡ Some r) (core : r.core ≡ osd s) (stood : Stood w [])
    (awake : is_silent s.started (max r.clock s.last) ≡ false) where
  is_mine : s.started.node ≡ node.id
  is_mine = node_is w [] node r found up stood s core

  all_hold : (f : FileState) → Has f s.files → FileHolds f
  all_hold f h = holds_of (known w) (lists w [] stood) f ((fits w [] node r found up stood s core).0.fits f h)

  module _ (happens : Event) (comes : Reaches w [] node.id happens) where
    abbrev Step : OsdStep
    Step = awake_step (outside_of node.kept) s r.clock happens

    abbrev After : OsdStep → World
    After step = after_turn w node (record r { core = osd step.osd }) step.turned

    then_stood : Stood (After Step) (to_itself node.id Step.turned.outs)
    then_stood =
        subst (λ (step : OsdStep). Stood (after_turn w node (record r { core = osd step.osd }) step.turned) (to_itself node.id step.turned.outs)) (awake_is (outside_of node.kept) s r.clock happens awake)
        (stood_kept.stepped w [] [] node r (osd (step_of_osd (outside_of node.kept) s r.clock happens).osd) (step_of_osd (outside_of node.kept) s r.clock happens).turned (step_of_osd (outside_of node.kept) s r.clock happens).turned.outs [] (inl refl) found up
        (of_osd s happens core comes) (sym (append-nil (step_of_osd (outside_of node.kept) s r.clock happens).turned.outs)) stood)

    there : node_in (After Step).nodes node.id.0 ≡ Some (next_node node r (osd Step.osd) Step.turned)
    there = node_in-new w.nodes (next_node node r (osd Step.osd) Step.turned) node found

    behind : Behind s.started.node Step.osd.files
    behind = record {
      all_stand = subst (λ (n : NodeId). (f : FileState) → Has f Step.osd.files → FileStands n f × FileSmall f) (sym is_mine) (then_stood.mine.nodes_stand node.id.0 (next_node node r (osd Step.osd) Step.turned) there).up;
      all_rise = (then_stood.stage.fit.shape.nodes node.id.0 (next_node node r (osd Step.osd) Step.turned) there).up.0.rises;
    }

    -- no more files are busy than are known
    few_busy : count_busy Step.osd.files ≤ length w.files + length w.made
    few_busy =
        let fit = (then_stood.stage.fit.shape.nodes node.id.0 (next_node node r (osd Step.osd) Step.turned) there).up in
        let few = busy_low (known (After Step)) Step.osd.files fit.0.fits fit.0.rises in
        let none : files_marked Step.turned.marks ≡ [] = subst (λ (step : OsdStep). files_marked step.turned.marks ≡ []) (awake_is (outside_of node.kept) s r.clock happens awake) (osd_makes_none (outside_of node.kept) s r.clock happens) in
        let all = length-append w.files (w.made ++ files_marked Step.turned.marks) in
        let made = length-append w.made (files_marked Step.turned.marks) in
        let no_more = ap (λ (fs : List PlacedFile). length fs) none in
        omega (arith, few, all, made, no_more)

  abbrev hears : Msg → Option FileId → FilesStep
  hears m o = handle_message (site_of (outside_of node.kept) (awake_as s.started) (max r.clock s.last)) (awake_as s.started) s.files m o

  message_chain : (m : Msg) (comes : Reaches w [] node.id (event.Deliver m)) → (let step = awake_step (outside_of node.kept) s r.clock (event.Deliver m) in InChain (after_turn w node (record r { core = osd step.osd }) step.turned) (to_itself node.id step.turned.outs) OWN)
  message_chain m comes = at (file_concerned m.payload) refl (behind (event.Deliver m) comes)
    where
      from_other : (m.from.0 == s.started.node.0) ≡ false
      from_other = ap (λ (n : NodeId). m.from.0 == n.0) (is_mine ∙ sym comes.0) ∙ (stood.mine.others m comes.1).0

      at : (o : Option FileId) → file_concerned m.payload ≡ o → Behind s.started.node (hears m o).files
          → InChain (after_turn w node (record r { core = osd (osd_left s (max r.clock s.last) (hears m o)).osd }) (hears m o).turned) (to_itself node.id (hears m o).turned.outs) OWN
      at None is stand = no_own refl
      at (Some file) is stand =
          let alone = heard_alone (outside_of node.kept) s (max r.clock s.last) all_hold (files_stand w [] node r found up stood s core) (fits w [] node r found up stood s core).0.rises m file is
          (arrives w [] node r found up stood s core (event.Deliver m) comes) from_other stand.all_stand stand.all_rise in
          of_one_file alone.0
          (osd_chain_by (record { world = w; own = []; left = 0 }) node r s (hears m (Some file)) alone.0 found is_mine awake (λ x h. absurd h) alone.1) file
          (subst (λ (id : NodeId). IsAlone (awake_as s.started) s.started.node (hears m (Some file)).files (to_itself id (hears m (Some file)).turned.outs) file alone.0 OWN) is_mine alone.2)

  pub outside_chain : (happens : Event) (comes : Reaches w [] node.id happens) → (let step = awake_step (outside_of node.kept) s r.clock happens in InChain (after_turn w node (record r { core = osd step.osd }) step.turned) (to_itself node.id step.turned.outs) (bound_of w happens))
  outside_chain (event.Deliver m) comes = message_chain m comes
  outside_chain (event.Call call) comes = no_own refl
  outside_chain event.Wake comes =
      let chain = event_starts (outside_of node.kept) s (max r.clock s.last) all_hold (files_stand w [] node r found up stood s core) (fits w [] node r found up stood s core).0.rises event.Wake
      (arrives w [] node r found up stood s core event.Wake comes) tt (behind event.Wake comes) in
      of_an_osd (osd_chain (record { world = w; own = []; left = 0 }) node r s event.Wake (1 + OWN * (length w.files + length w.made)) found is_mine awake (λ m h. absurd h)
      (loosen (awake_as s.started) s.started.node (awake_step (outside_of node.kept) s r.clock event.Wake).osd.files (to_itself s.started.node (awake_step (outside_of node.kept) s r.clock event.Wake).turned.outs)
      (1 + OWN * count_busy (awake_step (outside_of node.kept) s r.clock event.Wake).osd.files) (1 + OWN * (length w.files + length w.made)) (let few = few_busy event.Wake comes in omega (arith, few)) chain))
