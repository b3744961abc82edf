-- what every run keeps: a world in order, of which each file is a run of its own
use Rattle.std.proofs.Common.{◌≡◌, ◌≢◌, ◌≤◌, ℕ, inl, inr, List, [], ◌∷◌, ◌++◌, map, refl, arith, ap, sym, ◌∙◌, subst, Option, Some, None}
use Rattle.std.specs.Prelude.{◌⊎◌}
use Rattle.std.proofs.lemmas.List.{append-nil}
use Rattle.xt_base.specs.TimeSettings.{TimeSettings}
use Rattle.xt_base.specs.declared.TheConstants.{MRC_NODE}
use Rattle.xt_base.specs.declared.ids.Boot.{Boot}
use Rattle.xt_base.specs.declared.ids.FileId.{FileId}
use Rattle.xt_messages.specs.declared.file.Op.{Op}
use Rattle.xt_messages.specs.declared.message.Msg.{Msg}
use Rattle.xt_messages.specs.declared.record.Record.{Record}
use Rattle.xt_protocol.specs.Folds.{fold_of, row_in, body_kept}
use Rattle.xt_protocol.specs.LeaseRows.{Awake}
use Rattle.xt_protocol.specs.declared.turned.Turned.{Turned}
use Rattle.time_line.specs.declared.entry.Halt.{Halt}
use Rattle.time_line.specs.declared.entry.Halt.TheVariants as halt
use Rattle.lease_safety.specs.State.{Has}
use Rattle.xt_protocol.specs.OsdSteps.{step_of_osd}
use Rattle.replica_runs.specs.HeadWorld.{shown}
use Rattle.file_runs.specs.FileRuns.{FileNode, FileWorld, first_world, starts}
use Rattle.world_spec.specs.declared.PlacedFile.{PlacedFile}
use Rattle.time_line.specs.declared.entry.Entry.{Entry}
use Rattle.time_line.specs.declared.entry.Entry.TheVariants as entry
use Rattle.world_spec.specs.declared.Role.{Role}
use Rattle.world_spec.specs.declared.Role.TheVariants as role
use Rattle.client_rows.specs.Rows.{WholeClient, called_again}
use Rattle.client_rows.specs.Rows as rows
use Rattle.client_rows.specs.Called.{called_file}
use Rattle.server_rows.specs.Metadata.{step_of_mrc}
use Rattle.server_rows.specs.Directory.{step_of_dir}
use Rattle.world_spec.specs.World.{World, start_world, Node, Running, Core, osd, client, mrc, dir, world_key, node_in, with_node, known, puts}
use Rattle.world_spec.specs.Rules.{usable}
use Rattle.world_spec.specs.Lines.{declared_file, tells, runs, first_boot, next_boot, never_started, osd_starting, core_starting, files_left, file_entry, starts_as, whole_client, aimed_on, ready_for, ticked, no_longer_pending}
use Rattle.world_spec.specs.NodeSteps.{entry_of, files_marked, outside_of, one_more, to_itself, after_turn, halted, one_put, rewritten_at}
use Rattle.world_spec.specs.Runs.{with_line}
use Rattle.world_runs.specs.View.{messages}
use Rattle.world_runs.specs.Worlds.{IsInOrder, Leads}
use Rattle.world_runs.proofs.Fit.{IsFit}
use Rattle.world_runs.proofs.LineSteps.{fits_kept}
use Rattle.world_runs.proofs.Lists.{has_in, has_left, has_right}
use Rattle.world_runs.proofs.Declares.{declared_stay}
use Rattle.world_runs.proofs.Making.{told_above}
use Rattle.world_runs.proofs.Order.{in_order}
use Rattle.world_runs.proofs.Tables.{nobody, node_in-new, node_in-last, AllStay, all_stay, stay_made}
use Rattle.world_runs.proofs.Walk.{IsKept, NodeStep, of_osd, of_client, of_mrc, of_dir, of_call, of_again, call_step, same_messages, left_within}
use Rattle.world_runs.proofs.EndRuns.{ends_kept}
use Rattle.world_runs.proofs.Steps.{Fits, came}
use Rattle.world_safety.specs.Seen.{up_state, core_state, kept_seen, nodes_seen, Sees, IsNotOf}
use Rattle.world_safety.specs.Events.{step_at, stepped}
use Rattle.world_safety.specs.Asks.{AreOperations, KnownList}
use Rattle.world_safety.specs.Runs.{IsShownBy, LeadsTo, FilesAreRuns}
use Rattle.world_safety.proofs.Events.{begun_as, starts_show, servers_rest}
use Rattle.own_messages_wait.proofs.Waiting.{Waiting, waiting_kept}
use Rattle.world_safety.proofs.Endings.{stopped}
use Rattle.world_safety.proofs.Forgotten.{forgotten_runs}
use Rattle.world_safety.proofs.Leading.{IsOther, led_same, led_else, led_back, led_added, led_ticked, down_leads_not, other_leads_not, started_leads_not}
use Rattle.world_safety.proofs.Nodes.{here, other, plans_rest, ticks_rest, declared_rest}
use Rattle.world_safety.proofs.OsdRuns.{steps_on, kept_on}
use Rattle.world_safety.proofs.Others.{OfNoFile, files_say, event_is, call_is, again_is, mrc_is, dir_is}
use Rattle.world_safety.proofs.Shown.{SaysNothing, none_says, one_says, next_says, inert_says, ListsWere, carried, all_rest}
use Rattle.world_safety.proofs.Tellings.{telling}

pub record Stage (w : World) (own : List Msg) : Type 0 where
  pub fit : IsFit w own
  pub ends : Fits w own
  pub runs : FilesAreRuns w own
  pub waiting : Waiting w own

-- ---- at first

first_seen : (file : FileId) → Sees file start_world (first_world file)
unfolding node_in fold_of row_in body_kept
first_seen file = refl

start_runs : FilesAreRuns start_world []
start_runs file stripe ops members listed are =
    record {
      events = [];
      may = tt;
      is =
          record {
            sees = first_seen file;
            leaders = λ n lead. absurd (let none : None ≡ Some lead.node = sym (nobody n) ∙ lead.found in cc (none));
            sent = λ m h about. absurd h;
            told = (telling stripe ops file.number).begins;
          };
    }

-- ---- what changes no file

-- what is known stays what it is
lists_were : (w after : World) → AllStay (known w) (known after) → ListsWere w after
lists_were w after stay file stripe members listed k is = listed k (stay file.number k is)

same_lists : (w after : World) → known after ≡ known w → ListsWere w after
same_lists w after same = lists_were w after (subst (AllStay (known w)) (sym same) (all_stay (known w)))

same_entries : (w after : World) → after.entries ≡ w.entries → after.entries ≡ w.entries ++ []
same_entries w after same = same ∙ sym (append-nil w.entries)

-- a node is declared that is no running OSD
declared_runs : (w : World) (node : Node) (more : List Entry) → node_in w.nodes node.id.0 ≡ None → ((file : FileId) → kept_seen file node.kept (up_state file node.up) ≡ kept_seen file [] None)
    → ((file : FileId) → Leads (tells (record w { nodes = w.nodes ++ node ∷ [] }) more) file node.id.0 → ⊥) → ((number : ℕ) → SaysNothing number more)
    → FilesAreRuns w [] → FilesAreRuns (tells (record w { nodes = w.nodes ++ node ∷ [] }) more) []
declared_runs w node more new blank never quiet fit =
    let after = tells (record w { nodes = w.nodes ++ node ∷ [] }) more in
    all_rest w after [] [] more refl (same_lists w after refl) quiet (λ file v sees. declared_rest file w node v new (blank file) sees)
    (λ file m lead. led_added file w after node refl new (never file) m lead) (λ m h. inr h) fit

-- one running node is another now: what an OSD has of files is the same, at a clock no earlier
planned_runs : (w after : World) (node : Node) (r q : Running) (more : List Entry) → node_in w.nodes node.id.0 ≡ Some node → node.up ≡ Some r → IsInOrder after []
    → after.nodes ≡ with_node w.nodes (record node { up = Some q }) → known after ≡ known w → after.entries ≡ w.entries ++ more → ((m : Msg) → Has m (messages after) → Has m (messages w))
    → q.core ≡ r.core → r.clock ≤ q.clock → ((number : ℕ) → SaysNothing number more) → FilesAreRuns w [] → FilesAreRuns after []
planned_runs w after node r q more found is_up order nodes files split fewer core clock quiet =
    all_rest w after [] [] more split (same_lists w after files) quiet
    (λ file v sees. plans_rest file w node r q v found is_up (ap (core_state file) core) sees ∙ ap (λ (ns : List Node). nodes_seen file (record w { nodes = ns })) (sym nodes))
    (λ file. by_core file r.core refl) (λ m h. inr (fewer m h))
  where
    there : Node
    there = record node { up = Some q }

    now : node_in after.nodes node.id.0 ≡ Some (record node { up = Some q })
    now = ap (λ (ns : List Node). node_in ns node.id.0) nodes ∙ node_in-new w.nodes (record node { up = Some q }) node found

    others : (file : FileId) → IsOther q.core → (m : ℕ) → Leads after file m → Leads w file m
    others file is m lead = led_else file w after (record node { up = Some q }) nodes (other_leads_not file after node.id.0 (record node { up = Some q }) q now refl is) m lead

    by_core : (file : FileId) (c : Core) → r.core ≡ c → (m : ℕ) → Leads after file m → Leads w file m
    by_core file (osd s) is = led_back file w after [] (record node { up = Some q }) node r q s s order nodes found is_up is (record { found = now; up = refl; core = core ∙ is }) refl clock
    by_core file (client c) is = others file (subst IsOther (sym (core ∙ is)) tt)
    by_core file (mrc c) is = others file (subst IsOther (sym (core ∙ is)) tt)
    by_core file (dir c) is = others file (subst IsOther (sym (core ∙ is)) tt)

-- a client's first target is set
aimed_runs : (w : World) (node : Node) (r : Running) (c d : WholeClient) → node_in w.nodes node.id.0 ≡ Some node → node.up ≡ Some r → r.core ≡ client c → FilesAreRuns w []
    → FilesAreRuns (record w { nodes = with_node w.nodes (record node { up = Some (record r { core = client d }) }) }) []
aimed_runs w node r c d found is_up is_client fit =
    let q : Running = record r { core = client d } in
    let there : Node = record node { up = Some q } in
    let after : World = record w { nodes = with_node w.nodes there } in
    all_rest w after [] [] [] (same_entries w after refl) (same_lists w after refl) none_says
    (λ file v sees. plans_rest file w node r q v found is_up (sym (ap (core_state file) is_client)) sees)
    (λ file m lead. led_else file w after there refl (other_leads_not file after node.id.0 there q (node_in-new w.nodes there node found) refl tt) m lead)
    (λ m h. inr h) fit

-- messages are fewer
fewer_runs : (w after : World) (own own_after : List Msg) → after.nodes ≡ w.nodes → known after ≡ known w → after.entries ≡ w.entries → ((m : Msg) → Has m (own_after ++ messages after) → Has m (own ++ messages w))
    → FilesAreRuns w own → FilesAreRuns after own_after
fewer_runs w after own own_after nodes files entries fewer fit =
    all_rest w after own own_after [] (same_entries w after entries) (same_lists w after files) none_says
    (λ file v sees. sees ∙ ap (λ (ns : List Node). nodes_seen file (record w { nodes = ns })) (sym nodes)) (λ file. led_same file w after nodes) (λ m h. inr (fewer m h)) fit

-- ---- starts

is_other : (times : TimeSettings) (node : Node) (boot : Boot) (clock : ℕ) (its : Role) → its ≢ role.Osd → IsOther (core_starting times node boot clock its)
is_other times node boot clock role.Osd ne = absurd (ne refl)
is_other times node boot clock role.Client ne = tt
is_other times node boot clock role.Mrc ne = tt
is_other times node boot clock role.Dir ne = tt

osd_or_not : (its : Role) → (its ≡ role.Osd) ⊎ (its ≢ role.Osd)
osd_or_not role.Osd = inl refl
osd_or_not role.Client = inr (λ is. cc (is))
osd_or_not role.Mrc = inr (λ is. cc (is))
osd_or_not role.Dir = inr (λ is. cc (is))

module _ (w : World) (node : Node) (clock : ℕ) (found : node_in w.nodes node.id.0 ≡ Some node) (down : node.up ≡ None) where
  abbrev pub boot : Boot
  boot = next_boot node.kept

  abbrev pub begun : World
  begun = starts_as w node boot clock

  abbrev pub there : Node
  there = begun_as w node boot clock

  abbrev pub q : Running
  q = runs boot clock (core_starting w.times node boot clock node.role)

  abbrev pub more : List Entry
  more = entry.Up node.id boot clock ∷ map file_entry (files_left w.made node)

  starts_say : (number : ℕ) → SaysNothing number more
  starts_say number = next_says number (entry.Up node.id boot clock) (map file_entry (files_left w.made node)) refl (files_say number (files_left w.made node))

  were : ListsWere w begun
  were = lists_were w begun (stay_made w.files w.made (files_left w.made node))

  osd_started : node.role ≡ role.Osd → IsInOrder begun [] → FilesAreRuns w [] → FilesAreRuns begun []
  osd_started is_osd order = carried w begun [] [] more refl were each
    where
      awake : Awake
      awake = record { node = node.id; boot = boot; times = w.times }

      core : q.core ≡ osd (osd_starting w.times node boot clock)
      core = ap (core_starting w.times node boot clock) is_osd

      each : (file : FileId) (stripe : ℕ) (ops : ℕ × ℕ → Op) (members : List ℕ) → KnownList (known w) file stripe members → AreOperations ops file.number w.entries
          → (v : FileWorld) → IsShownBy stripe ops file w [] v → LeadsTo stripe ops members file begun [] v
      each file stripe ops members listed are v is =
          record {
            events = starts node.id.0 awake ∷ [];
            may = (ap (λ (x : FileNode). x.state) (here file w node found v is.sees) ∙ ap (up_state file) down, tt);
            is =
                record {
                  sees = starts_show file w node clock v found down is_osd is.sees;
                  leaders = λ m lead. is.leaders m (led_else file w begun there refl
                      (started_leads_not file begun [] there node q boot clock order (record { found = node_in-new w.nodes there node found; up = refl; core = core })) m lead);
                  sent = is.sent;
                  told = starts_say file.number stripe ops w.entries v.tales is.told;
                };
          }

  other_started : node.role ≢ role.Osd → FilesAreRuns w [] → FilesAreRuns begun []
  other_started no_osd =
      all_rest w begun [] [] more refl were starts_say (λ file v sees. servers_rest file w node clock v found down no_osd sees)
      (λ file m lead. led_else file w begun there refl
      (other_leads_not file begun node.id.0 there q (node_in-new w.nodes there node found) refl (is_other w.times node boot clock node.role no_osd)) m lead)
      (λ m h. inr h)

  started_runs : IsInOrder begun [] → FilesAreRuns w [] → FilesAreRuns begun []
  started_runs order = elim (osd_or_not node.role) [
    | inl is ↦ osd_started is order
    | inr differs ↦ other_started differs
  ]

-- ---- what is no OSD stops, or steps

module _ (w : World) (own : List Msg) (node : Node) (r : Running) (found : node_in w.nodes node.id.0 ≡ Some node) (is_up : node.up ≡ Some r) (other_core : IsOther r.core) where
  had_none : (file : FileId) → None ≡ up_state file node.up
  had_none file = sym (ap (up_state file) is_up ∙ no_files r.core other_core)
    where
      no_files : (c : Core) → IsOther c → core_state file c ≡ None
      no_files (osd s) is = absurd is
      no_files (client c) is = refl
      no_files (mrc m) is = refl
      no_files (dir s) is = refl

  -- it stops, and perhaps keeps a record that is of no file
  other_stops : (rec : Option Record) (end : Running) (how : Halt) → ((file : FileId) → IsNotOf file rec) → FilesAreRuns w own
      → FilesAreRuns (halted w (record node { kept = one_more node.kept rec; past = one_put node.past rec }) end how) []
  other_stops rec end how away =
      let kept_so : Node = record node { kept = one_more node.kept rec; past = one_put node.past rec } in
      let down : Node = record node { kept = one_more node.kept rec; past = one_put node.past rec; up = None } in
      let after = halted w kept_so end how in
      all_rest w after own [] (entry.Down node.id end.clock how ∷ []) refl (same_lists w after refl) (λ number. one_says number (entry.Down node.id end.clock how) refl)
      (λ file v sees. other file w node found v sees None rec (had_none file) (away file))
      (λ file m lead. led_else file w after down refl (down_leads_not file after node.id.0 down (node_in-new w.nodes down node found) refl) m lead)
      (λ m h. inr (has_right m own (messages w) h))

  other_steps : (left : List Msg) (next : Core) (turned : Turned) (outs : List Msg) → ((m : Msg) → Has m left → Has m own) → ((m : Msg) → Has m outs → Has m turned.outs)
      → IsOther next → OfNoFile turned → FilesAreRuns w own
      → FilesAreRuns (after_turn w node (record r { core = next }) (record turned { outs = outs })) (left ++ to_itself node.id outs)
  other_steps left next turned outs within fewer next_is of =
      let end : Running = record r { core = next } in
      let after_it : Node = record node { kept = one_more node.kept turned.rec; past = one_put node.past turned.rec; up = Some end } in
      let after = after_turn w node (record r { core = next }) (record turned { outs = outs }) in
      all_rest w after own (left ++ to_itself node.id outs) (map (entry_of node.id) turned.marks) refl (lists_were w after (stay_made w.files w.made (files_marked turned.marks)))
      (λ number. inert_says number node.id turned.marks of.marks)
      (λ file v sees. other file w node found v sees (Some end) turned.rec (none_then file next next_is ∙ had_none file) (of.rec file))
      (λ file m lead. led_else file w after after_it refl (other_leads_not file after node.id.0 after_it end (node_in-new w.nodes after_it node found) refl next_is) m lead)
      (λ m h. says m (came left own outs w node.id w.nodes m within h))
    where
      none_then : (file : FileId) (c : Core) → IsOther c → core_state file c ≡ None
      none_then file (osd s) is = absurd is
      none_then file (client c) is = refl
      none_then file (mrc m) is = refl
      none_then file (dir s) is = refl

      says : (m : Msg) → Has m outs ⊎ Has m (own ++ messages w) → (shown m.from.0 m.payload ≡ []) ⊎ Has m (own ++ messages w)
      says m (inl out) = inl (of.outs m (fewer m out) m.from.0)
      says m (inr old) = inr old

-- ---- stops

stopped_runs : (w : World) (own : List Msg) (node : Node) (r : Running) (how : Halt) → node_in w.nodes node.id.0 ≡ Some node → node.up ≡ Some r → IsFit w own → FilesAreRuns w own → FilesAreRuns (halted w node r how) []
stopped_runs w own node r how found is_up fit = by_core r.core refl
  where
    others : IsOther r.core → FilesAreRuns w own → FilesAreRuns (halted w node r how) []
    others is = other_stops w own node r found is_up is None r how (λ file. tt)

    by_core : (c : Core) → r.core ≡ c → FilesAreRuns w own → FilesAreRuns (halted w node r how) []
    by_core (osd s) is_osd =
        carried w (halted w node r how) own [] (entry.Down node.id r.clock how ∷ []) refl (same_lists w (halted w node r how) refl)
        (λ file stripe ops members listed are v is.
        stopped stripe ops members file w own node r s (in_order w own fit) (record { found = found; up = is_up; core = is_osd }) (fit.safe file.number).0 None r how tt v is)
    by_core (client c) is = others (subst IsOther (sym is) tt)
    by_core (mrc m) is = others (subst IsOther (sym is) tt)
    by_core (dir s) is = others (subst IsOther (sym is) tt)

-- ---- steps

stepped_runs : (w : World) (was own : List Msg) (node : Node) (r : Running) (next : Core) (turned : Turned) (outs : List Msg) → ((m : Msg) → Has m own → Has m was) → ((m : Msg) → Has m outs → Has m turned.outs)
    → node_in w.nodes node.id.0 ≡ Some node → node.up ≡ Some r → IsFit w was → Fits w was → Waiting w was
    → IsFit (after_turn w node (record r { core = next }) (record turned { outs = outs })) (own ++ to_itself node.id outs) → NodeStep w was node r next turned → FilesAreRuns w was
    → FilesAreRuns (after_turn w node (record r { core = next }) (record turned { outs = outs })) (own ++ to_itself node.id outs)
stepped_runs w was own node r _ _ outs within fewer found is_up fit ends waiting fit_after (of_osd s happens is_osd reaches) =
    let step = step_at node r s happens in
    let after = stepped w node r s happens outs in
    carried w after was (own ++ to_itself node.id outs) (map (entry_of node.id) step.turned.marks) refl (lists_were w after (stay_made w.files w.made (files_marked step.turned.marks)))
    (λ file stripe ops members listed are v is.
    steps_on stripe ops members file w was own node r s happens outs v
    (record { within = within; fewer = fewer; fit = fit; ends = ends; fit_after = fit_after; its = record { found = found; up = is_up; core = is_osd }; reaches = reaches; waiting = waiting }) listed are is)
stepped_runs w was own node r _ _ outs within fewer found is_up fit ends waiting fit_after (of_client c happens is_client reaches) =
    let step = rows.stepped node.id w.times c r.clock happens in
    other_steps w was node r found is_up (subst IsOther (sym is_client) tt) own (client step.state) step.turned outs within fewer tt
    (event_is node.id w.times c r.clock happens)
stepped_runs w was own node r _ _ outs within fewer found is_up fit ends waiting fit_after (of_mrc m happens is_mrc reaches) =
    let step = step_of_mrc world_key m r.clock happens in
    other_steps w was node r found is_up (subst IsOther (sym is_mrc) tt) own (mrc step.mrc) step.turned outs within fewer tt (mrc_is world_key m r.clock happens)
stepped_runs w was own node r _ _ outs within fewer found is_up fit ends waiting fit_after (of_dir s happens is_dir reaches) =
    let step = step_of_dir s happens in
    other_steps w was node r found is_up (subst IsOther (sym is_dir) tt) own (dir step.dir) step.turned outs within fewer tt (dir_is s happens)
stepped_runs w was own node r _ _ outs within fewer found is_up fit ends waiting fit_after (of_call c k is_client resting bound usable) =
    let step = call_step w node r c k in
    other_steps w was node r found is_up (subst IsOther (sym is_client) tt) own (client step.state) step.turned outs within fewer tt
    (call_is node.id w.times (ready_for w.files c k (called_file k)) r.clock k)
stepped_runs w was own node r _ _ outs within fewer found is_up fit ends waiting fit_after (of_again c is_client resting may) =
    let step = called_again node.id w.times c r.clock in
    other_steps w was node r found is_up (subst IsOther (sym is_client) tt) own (client step.state) step.turned outs within fewer tt
    (again_is node.id w.times c r.clock)

kept_runs : (w : World) (own : List Msg) (node : Node) (r : Running) (next : Core) (turned : Turned) (rec : Record) → node_in w.nodes node.id.0 ≡ Some node → node.up ≡ Some r → IsFit w own → Fits w own → Waiting w own
    → IsFit (after_turn w node (record r { core = next }) (record turned { outs = [] })) ([] ++ to_itself node.id []) → NodeStep w own node r next turned → turned.rec ≡ Some rec → FilesAreRuns w own
    → FilesAreRuns (halted w (record node { kept = node.kept ++ rec ∷ []; past = node.past ++ puts rec ∷ [] }) (record r { core = next }) halt.Kept) []
kept_runs w own node r _ _ rec found is_up fit ends waiting fit_after (of_osd s happens is_osd reaches) is_rec =
    let after = halted w (record node { kept = node.kept ++ rec ∷ []; past = node.past ++ puts rec ∷ [] }) (record r { core = osd (step_of_osd (outside_of node.kept) s r.clock happens).osd }) halt.Kept in
    carried w after own [] (entry.Down node.id r.clock halt.Kept ∷ []) refl (same_lists w after refl)
    (λ file stripe ops members listed are v is.
    kept_on stripe ops members file w own [] node r s happens rec halt.Kept v
    (record { within = λ m h. absurd h; fewer = λ m h. absurd h; fit = fit; ends = ends; fit_after = fit_after; its = record { found = found; up = is_up; core = is_osd }; reaches = reaches; waiting = waiting }) is_rec listed are is)
kept_runs w own node r _ _ rec found is_up fit ends waiting fit_after (of_client c happens is_client reaches) is_rec =
    let step = rows.stepped node.id w.times c r.clock happens in
    let of = event_is node.id w.times c r.clock happens in
    other_stops w own node r found is_up (subst IsOther (sym is_client) tt) (Some rec) (record r { core = client step.state }) halt.Kept (λ file. subst (IsNotOf file) is_rec (of.rec file))
kept_runs w own node r _ _ rec found is_up fit ends waiting fit_after (of_mrc m happens is_mrc reaches) is_rec =
    let step = step_of_mrc world_key m r.clock happens in
    other_stops w own node r found is_up (subst IsOther (sym is_mrc) tt) (Some rec) (record r { core = mrc step.mrc }) halt.Kept (λ file. subst (IsNotOf file) is_rec ((mrc_is world_key m r.clock happens).rec file))
kept_runs w own node r _ _ rec found is_up fit ends waiting fit_after (of_dir s happens is_dir reaches) is_rec =
    let step = step_of_dir s happens in
    other_stops w own node r found is_up (subst IsOther (sym is_dir) tt) (Some rec) (record r { core = dir step.dir }) halt.Kept (λ file. subst (IsNotOf file) is_rec ((dir_is s happens).rec file))
kept_runs w own node r _ _ rec found is_up fit ends waiting fit_after (of_call c k is_client resting bound usable) is_rec =
    let step = call_step w node r c k in
    let of = call_is node.id w.times (ready_for w.files c k (called_file k)) r.clock k in
    other_stops w own node r found is_up (subst IsOther (sym is_client) tt) (Some rec) (record r { core = client step.state }) halt.Kept (λ file. subst (IsNotOf file) is_rec (of.rec file))
kept_runs w own node r _ _ rec found is_up fit ends waiting fit_after (of_again c is_client resting may) is_rec =
    let step = called_again node.id w.times c r.clock in
    let of = again_is node.id w.times c r.clock in
    other_stops w own node r found is_up (subst IsOther (sym is_client) tt) (Some rec) (record r { core = client step.state }) halt.Kept (λ file. subst (IsNotOf file) is_rec (of.rec file))

-- ---- every run

pub stage_kept : IsKept Stage
stage_kept =
    record {
      begins = record { fit = fits_kept.begins; ends = ends_kept.begins; waiting = waiting_kept.begins; runs = start_runs };
      times = λ lease drift bound.
          let after = tells (record start_world { times = record { lease = lease; drift = drift } }) (entry.Times lease drift ∷ []) in
          record {
            fit = fits_kept.times lease drift bound;
            ends = ends_kept.times lease drift bound;
            waiting = waiting_kept.times lease drift bound;
            runs = all_rest start_world after [] [] (entry.Times lease drift ∷ []) refl (same_lists start_world after refl) (λ number. one_says number (entry.Times lease drift) refl) (λ file v sees. sees)
                (λ file. led_same file start_world after refl) (λ m h. inr h) start_runs;
          };
      server_declared = λ w id its serves stands bound new p.
          let node = never_started id its in
          let after = tells (record w { nodes = w.nodes ++ node ∷ [] }) [] in
          record {
            fit = fits_kept.server_declared w id its serves stands bound new p.fit;
            ends = ends_kept.server_declared w id its serves stands bound new p.ends;
            waiting = waiting_kept.server_declared w id its serves stands bound new p.waiting;
            runs = declared_runs w node [] new (λ file. refl) (λ file. down_leads_not file after id.0 node (node_in-last w.nodes node new) refl) none_says p.runs;
          };
      client_declared = λ w id clock bound new close p.
          let node : Node = record { id = id; role = role.Client; kept = []; past = []; up = Some (runs first_boot clock (client (whole_client clock))) } in
          let after = tells (record w { nodes = w.nodes ++ node ∷ [] }) (entry.Up id first_boot clock ∷ []) in
          record {
            fit = fits_kept.client_declared w id clock bound new close p.fit;
            ends = ends_kept.client_declared w id clock bound new close p.ends;
            waiting = waiting_kept.client_declared w id clock bound new close p.waiting;
            runs = declared_runs w node (entry.Up id first_boot clock ∷ []) new (λ file. refl)
                (λ file. other_leads_not file after id.0 node (runs first_boot clock (client (whole_client clock))) (node_in-last w.nodes node new) refl tt)
                (λ number. one_says number (entry.Up id first_boot clock) refl) p.runs;
          };
      file_declared = λ w number location bound new p.
          let f : PlacedFile = record { file = declared_file number; location = location } in
          let after = tells (record w { files = w.files ++ f ∷ [] }) (entry.File number location ∷ []) in
          record {
            fit = fits_kept.file_declared w number location bound new p.fit;
            ends = ends_kept.file_declared w number location bound new p.ends;
            waiting = waiting_kept.file_declared w number location bound new p.waiting;
            runs = all_rest w after [] [] (entry.File number location ∷ []) refl (lists_were w after (declared_stay w.files w.made f (told_above w.made (node_in w.nodes MRC_NODE.0) p.fit.shape.made) bound.0))
                (λ k. one_says k (entry.File number location) refl) (λ file v sees. sees) (λ file. led_same file w after refl) (λ m h. inr h) p.runs;
          };
      started = λ w node clock serves bound found down close p.
          let fit = fits_kept.started w node clock serves bound found down close p.fit in
          let after = starts_as w node (next_boot node.kept) clock in
          record {
            fit = fit;
            ends = ends_kept.started w node clock serves bound found down close p.ends;
            waiting = waiting_kept.started w node clock serves bound found down close p.waiting;
            runs = started_runs w node clock found down (in_order after [] fit) p.runs;
          };
      planned = λ w node r q found is_up boot clock core p.
          let fit = fits_kept.planned w node r q found is_up boot clock core p.fit in
          let after : World = record w { nodes = with_node w.nodes (record node { up = Some q }) } in
          record {
            fit = fit;
            ends = ends_kept.planned w node r q found is_up boot clock core p.ends;
            waiting = waiting_kept.planned w node r q found is_up boot clock core p.waiting;
            runs = planned_runs w after node r q [] found is_up (in_order after [] fit) refl refl (same_entries w after refl) (λ m h. h) core (subst (λ (c : ℕ). r.clock ≤ c) (sym clock) (omega arith)) none_says p.runs;
          };
      aimed_at = λ w node r c number target found is_up is_client p.
          let d : WholeClient = aimed_on c target (usable w.files c.held number) in
          record {
            fit = fits_kept.aimed_at w node r c number target found is_up is_client p.fit;
            ends = ends_kept.aimed_at w node r c number target found is_up is_client p.ends;
            waiting = waiting_kept.aimed_at w node r c number target found is_up is_client p.waiting;
            runs = aimed_runs w node r c d found is_up is_client p.runs;
          };
      stopped = λ w own node r how found is_up p.
          record {
            fit = fits_kept.stopped w own node r how found is_up p.fit;
            ends = ends_kept.stopped w own node r how found is_up p.ends;
            waiting = waiting_kept.stopped w own node r how found is_up p.waiting;
            runs = stopped_runs w own node r how found is_up p.fit p.runs;
          };
      clock_set = λ w node r clock bound found is_up rises close p.
          let fit = fits_kept.clock_set w node r clock bound found is_up rises close p.fit in
          let after = tells (record w { nodes = with_node w.nodes (record node { up = Some (record r { clock = clock }) }) }) (entry.Clock node.id clock ∷ []) in
          record {
            fit = fit;
            ends = ends_kept.clock_set w node r clock bound found is_up rises close p.ends;
            waiting = waiting_kept.clock_set w node r clock bound found is_up rises close p.waiting;
            runs = planned_runs w after node r (record r { clock = clock }) (entry.Clock node.id clock ∷ []) found is_up (in_order after [] fit) refl refl refl (λ m h. h) refl rises
                (λ number. one_says number (entry.Clock node.id clock) refl) p.runs;
          };
      all_ticked = λ w count bound p.
          let fit = fits_kept.all_ticked w count bound p.fit in
          let after = tells (record w { nodes = map (ticked count) w.nodes }) (entry.Tick count ∷ []) in
          record {
            fit = fit;
            ends = ends_kept.all_ticked w count bound p.ends;
            waiting = waiting_kept.all_ticked w count bound p.waiting;
            runs = all_rest w after [] [] (entry.Tick count ∷ []) refl (same_lists w after refl) (λ number. one_says number (entry.Tick count) refl) (λ file v sees. ticks_rest file w count v sees)
                (λ file. led_ticked file w after [] count (in_order after [] fit) refl) (λ m h. inr h) p.runs;
          };
      less_pending = λ w own number p.
          let after : World = record w { sent = no_longer_pending w.sent number } in
          record {
            fit = fits_kept.less_pending w own number p.fit;
            ends = ends_kept.less_pending w own number p.ends;
            waiting = waiting_kept.less_pending w own number p.waiting;
            runs = fewer_runs w after own own refl refl refl (λ m h. elim (has_in m own (messages after) h) [
              | inl mine ↦ has_left m own (messages w) mine
              | inr sent ↦ has_right m own (messages w) (same_messages w.sent number m sent)
            ]) p.runs;
          };
      lost = λ w own left part p.
          record {
            fit = fits_kept.lost w own left part p.fit;
            ends = ends_kept.lost w own left part p.ends;
            waiting = waiting_kept.lost w own left part p.waiting;
            runs = fewer_runs w w own left refl refl refl (λ m h. elim (has_in m left (messages w) h) [
              | inl mine ↦ has_left m own (messages w) (left_within left own part m mine)
              | inr sent ↦ has_right m own (messages w) sent
            ]) p.runs;
          };
      stepped = λ w was own node r next turned outs rest part found is_up step split p.
          let fit = fits_kept.stepped w was own node r next turned outs rest part found is_up step split p.fit in
          let after = after_turn w node (record r { core = next }) (record turned { outs = outs }) in
          record {
            fit = fit;
            ends = ends_kept.stepped w was own node r next turned outs rest part found is_up step split p.ends;
            waiting = waiting_kept.stepped w was own node r next turned outs rest part found is_up step split p.waiting;
            runs = stepped_runs w was own node r next turned outs (left_within own was part) (λ m h. subst (Has m) (sym split) (has_left m outs rest h)) found is_up p.fit p.ends p.waiting fit step p.runs;
          };
      stopped_keeping = λ w own node r next turned rec found is_up step is_rec p.
          let fit = fits_kept.stepped w own [] node r next turned [] turned.outs (inl refl) found is_up step refl p.fit in
          let there : Node = record node { kept = node.kept ++ rec ∷ []; past = node.past ++ puts rec ∷ [] } in
          record {
            fit = fits_kept.stopped_keeping w own node r next turned rec found is_up step is_rec p.fit;
            ends = ends_kept.stopped_keeping w own node r next turned rec found is_up step is_rec p.ends;
            waiting = waiting_kept.stopped_keeping w own node r next turned rec found is_up step is_rec p.waiting;
            runs = kept_runs w own node r next turned rec found is_up p.fit p.ends p.waiting fit step is_rec p.runs;
          };
      forgotten = λ w own node r s found is_up is_osd p.
          let fit = fits_kept.forgotten w own node r s found is_up is_osd p.fit in
          record {
            fit = fit;
            ends = ends_kept.forgotten w own node r s found is_up is_osd p.ends;
            waiting = waiting_kept.forgotten w own node r s found is_up is_osd p.waiting;
            runs = forgotten_runs w own node r s (record { found = found; up = is_up; core = is_osd }) (in_order w own p.fit)
                (in_order (record w { nodes = with_node w.nodes (rewritten_at node r s) }) own fit) p.runs;
          };
      lined = λ w l ended p.
          record {
            fit = fits_kept.lined w l ended p.fit;
            ends = ends_kept.lined w l ended p.ends;
            waiting = waiting_kept.lined w l ended p.waiting;
            runs = fewer_runs w (record (with_line w l) { ended = ended }) [] [] refl refl refl (λ m h. h) p.runs;
          };
    }
