-- In every run the files of every OSD stand, heads are small, and messages come from other nodes, or stand where they are.
use Rattle.std.proofs.Common.{◌≡◌, ◌≢◌, ℕ, ◌≤◌, ◌+◌, ◌⊎◌, inl, inr, Bool, true, false, List, [], ◌∷◌, ◌++◌, map, refl, sym, ap, subst, ◌∙◌, arith, Option, Some, None}
use Rattle.std.specs.Prelude.{◌&&◌, not, cond, ◌==◌, max, filter, is_some, nat_le, length}
use Rattle.std.specs.Option.{option_map}
use Rattle.std.proofs.lemmas.Bool.{and_parts, eqb-true}
use Rattle.std.proofs.lemmas.Bool.Decides.{nat_tests}
use Rattle.std.proofs.lemmas.List.{append-nil, map-append}
use Rattle.xt_base.specs.MemberList.{are_distinct}
use Rattle.xt_messages.specs.Limits.{FitsLocation}
use Rattle.xt_base.specs.declared.TheConstants.{DIR_NODE, MRC_NODE}
use Rattle.xt_base.specs.declared.ids.NodeId.{NodeId}
use Rattle.xt_base.specs.declared.ids.Boot.{Boot}
use Rattle.xt_messages.specs.declared.file.Location.{Location}
use Rattle.xt_messages.specs.declared.event.Event.{Event}
use Rattle.xt_messages.specs.declared.event.Event.TheVariants as event
use Rattle.xt_messages.specs.declared.message.Msg.{Msg}
use Rattle.xt_messages.specs.declared.message.Payload.{Payload}
use Rattle.xt_messages.specs.declared.record.FileRow.{FileRow}
use Rattle.xt_messages.specs.declared.record.Record.{Record}
use Rattle.xt_messages.specs.declared.record.Folded.{Folded}
use Rattle.xt_messages.specs.declared.message.Payload.TheVariants as payload
use Rattle.xt_messages.specs.declared.record.Record.TheVariants as kept
use Rattle.xt_protocol.specs.declared.turned.Turned.{Turned}
use Rattle.xt_protocol.specs.FileIds.{is_file}
use Rattle.xt_protocol.specs.Folds.{fold_of, row_in}
use Rattle.xt_protocol.specs.Forgetting.{keep_of, row_without, file_without, osd_without}
use Rattle.xt_messages.specs.declared.record.KeepBody.{KeepBody}
use Rattle.world_runs.proofs.Forgotten.{at_without, rows_then}
use Rattle.xt_protocol.specs.LeaseRows.{Awake, Silent, is_silent}
use Rattle.xt_protocol.proofs.Folds.{fold_of-push, fold_of-nothing, file-itself}
use Rattle.lease_safety.specs.State.{Has}
use Rattle.lease_runs.proofs.Tests.{same_node}
use Rattle.xt_protocol.specs.FileStates.{FileState, file_from, members_of}
use Rattle.xt_protocol.specs.OsdSteps.{OsdState, file_at, step_of_osd}
use Rattle.world_spec.specs.declared.PlacedFile.{PlacedFile}
use Rattle.world_spec.specs.declared.Sent.{Sent}
use Rattle.client_rows.specs.Rows.{WholeClient, stepped, called_again}
use Rattle.client_steps.specs.Asked.{Sends, sends_none, sends_one}
use Rattle.world_spec.specs.World.{World, Node, Running, Core, osd, client, mrc, dir, world_key, node_in, with_node, file_in, known, loads, puts}
use Rattle.world_spec.specs.NodeSteps.{pending, numbered, to_itself, one_more, outside_of, rewritten_at}
use Rattle.world_spec.specs.Lines.{ticked, core_starting, never_started, next_boot, runs, first_boot}
use Rattle.world_runs.specs.View.{awake_as, messages}
use Rattle.world_runs.specs.Worlds.{Agrees, PayloadFits, CoreFits, FileFits, IsOfRole, Listed, OsdFits, Rises, RowsFit, UpFits, role_of, row_files}
use Rattle.lease_runs.specs.OsdView.{site_of}
use Rattle.world_spec.specs.declared.Role.{Role}
use Rattle.world_spec.specs.declared.Role.TheVariants as role
use Rattle.world_spec.specs.Rules.{usable}
use Rattle.server_rows.specs.Metadata.{MrcState, step_of_mrc}
use Rattle.server_rows.specs.Directory.{DirState, step_of_dir}
use Rattle.client_rows.specs.Requests.{payload_of}
use Rattle.client_rows.specs.declared.requests.Request.{Request}
use Rattle.client_rows.specs.declared.requests.Request.TheVariants as request
use Rattle.client_rows.specs.Steps.{Step}
use Rattle.world_spec.specs.Lines.{whole_client, ready_for, aimed_on}
use Rattle.client_rows.specs.Called.{called_file}
use Rattle.world_runs.proofs.Files.{record_fits}
use Rattle.world_runs.proofs.Fit.{IsNext, known_after, replaced}
use Rattle.world_runs.proofs.Frame.{next_node}
use Rattle.world_runs.proofs.Lists.{has_in, has_left, has_filter, filter_has, has_map, map_same}
use Rattle.world_runs.proofs.NodeEvents.{step_next}
use Rattle.world_runs.proofs.Rising.{before_itself}
use Rattle.world_runs.proofs.Tables.{same, node_in-new, node_in-other, nobody, node_in-last, node_in-before, node_in-ticked}
use Rattle.world_runs.proofs.Making.{IsMetaIfAny, mrc_serves, dir_serves}
use Rattle.world_runs.proofs.OsdSilence.{osd_makes_none}
use Rattle.world_runs.proofs.Walk.{IsKept, NodeStep, StandsAt, of_osd, of_client, of_mrc, of_dir, of_call, of_again, IsFirst, Reaches, same_messages, call_step, left_within}
use Rattle.world_runs.proofs.OsdIds.{new_is}
use Rattle.own_messages_wait.proofs.Standing.{HeadStands, Stands}
use Rattle.own_messages_wait.proofs.Tests.{false_true}
use Rattle.own_messages_wait.proofs.Hearing.{IsApart}
use Rattle.own_messages_wait.proofs.Files.{FileStands}
use Rattle.own_messages_wait.proofs.Sizes.{IsSmall, ContentSmall, small_of}
use Rattle.own_messages_wait.proofs.FileSizes.{FileSmall}
use Rattle.own_messages_wait.proofs.Osds.{AskHolds, FileHolds, OwnFits, stands_more, at_stands}
use Rattle.own_messages_wait.proofs.OsdEvents.{IsOwn, OsdAfter, Arrives, event_after}
use Rattle.world_limits.proofs.Worlds.{Stage, known_placed, stage_kept}
use Rattle.own_messages_wait.proofs.Clients.{AnyRequest, ClientGives, event_gives, call_gives, again_gives}
use Rattle.own_messages_wait.proofs.Servers.{mrc_small, dir_small}

-- ---- what holds of a world

abbrev pub RowStands : FileRow → Type 0
RowStands row = HeadStands row.head × IsSmall row.head

abbrev pub FilesStand : NodeId → List FileState → Type 0
FilesStand id files = (f : FileState) → Has f files → FileStands id f × FileSmall f

abbrev pub CoreStands : NodeId → Core → Type 0
CoreStands id (osd s) = FilesStand id s.files
CoreStands id (client c) = Unit {0}
CoreStands id (mrc m) = Unit {0}
CoreStands id (dir s) = Unit {0}

abbrev pub UpStands : NodeId → Option Running → Type 0
UpStands id None = Unit {0}
UpStands id (Some r) = CoreStands id r.core

pub record NodeStands (node : Node) : Type 0 where
  pub place : StandsAt node.id node.role
  pub rows : (row : FileRow) → Has row (fold_of node.kept).files → RowStands row
  pub up : UpStands node.id node.up

-- a message of a node to itself: where the node is a running OSD, it stands there
pub record OwnAt (nodes : List Node) (m : Msg) : Type 0 where
  pub same : m.from ≡ m.to
  pub small : ContentSmall m.payload
  pub stands : (node : Node) (r : Running) (s : OsdState) → node_in nodes m.to.0 ≡ Some node → node.up ≡ Some r → r.core ≡ osd s → OwnFits (awake_as s.started) s.files m.payload

pub record Mine (nodes : List Node) (sent own : List Msg) : Type 0 where
  pub nodes_stand : (n : ℕ) (node : Node) → node_in nodes n ≡ Some node → NodeStands node
  pub others : (m : Msg) → Has m sent → ((m.from.0 == m.to.0) ≡ false) × ContentSmall m.payload
  pub own_at : (m : Msg) → Has m own → OwnAt nodes m

pub record Stood (w : World) (own : List Msg) : Type 0 where
  pub stage : Stage w own
  pub mine : Mine w.nodes (messages w) own

-- the members of a list within the limits are different
pub distinct_of : (location : Location) → FitsLocation location → are_distinct location.members ≡ true
distinct_of location bound = (and_parts (nat_le 1 (length location.members) && nat_le (length location.members) 9) (are_distinct location.members) bound.nodes.different).1

-- what is known has lists of different members
abbrev pub AreApart : List PlacedFile → Type 0
AreApart files = (number : ℕ) (f : PlacedFile) → file_in files number ≡ Some f → are_distinct f.location.members ≡ true

pub lists : (w : World) (own : List Msg) → Stood w own → AreApart (known w)
lists w own stood number f there = distinct_of f.location (known_placed w own stood.stage.is number f there).place

pub holds_of : (files : List PlacedFile) → AreApart files → (f : FileState) → FileFits files f → FileHolds f
holds_of files apart f fit = record { sound = fit.sound; apart = at f.kept.location fit.listed }
  where
    at : (o : Option Location) → Listed files f.kept.file o → are_distinct (members_of o) ≡ true
    at None is = refl
    at (Some location) is = apart f.kept.file.number (record { file = f.kept.file; location = location }) is

asks_hold : (files : List PlacedFile) → AreApart files → (content : Payload) → PayloadFits files content → AskHolds content
asks_hold files apart (payload.Ask number capability asked) ask = apart capability.file.number (record { file = capability.file; location = capability.location }) ask
asks_hold files apart _ ask = tt

-- ---- nodes change

put_nodes : (nodes : List Node) (sent : List Msg) (node old : Node) → node_in nodes node.id.0 ≡ Some old → NodeStands node → Mine nodes sent [] → Mine (with_node nodes node) sent []
put_nodes nodes sent node old found new mine =
    record {
      nodes_stand = λ n x is. replaced NodeStands nodes node old n x found new (λ y there. mine.nodes_stand n y there) is;
      others = mine.others;
      own_at = λ m h. absurd h;
    }

add_node : (nodes : List Node) (sent : List Msg) (node : Node) → node_in nodes node.id.0 ≡ None → NodeStands node → Mine nodes sent [] → Mine (nodes ++ node ∷ []) sent []
add_node nodes sent node free new mine =
    record { nodes_stand = each; others = mine.others; own_at = λ m h. absurd h }
  where
    each : (n : ℕ) (x : Node) → node_in (nodes ++ node ∷ []) n ≡ Some x → NodeStands x
    each n x is = elim (same n node.id.0) [
      | inl e ↦ (let now : Some node ≡ Some x = sym (ap (node_in (nodes ++ node ∷ [])) e ∙ node_in-last nodes node free) ∙ is in let is_node : node ≡ x = cc in subst NodeStands is_node new)
      | inr ne ↦ mine.nodes_stand n x (sym (node_in-before nodes node n ne) ∙ is)
    ]

tick_nodes : (nodes : List Node) (sent : List Msg) (count : ℕ) → Mine nodes sent [] → Mine (map (ticked count) nodes) sent []
tick_nodes nodes sent count mine =
    record { nodes_stand = λ n x is. each n x (node_in nodes n) refl (sym (node_in-ticked nodes count n) ∙ is); others = mine.others; own_at = λ m h. absurd h }
  where
    up : (o : Option Running) (id : NodeId) → UpStands id o → UpStands id (elim o [ None ↦ None | Some running ↦ Some (record running { clock = running.clock + count }) ])
    up None id is = tt
    up (Some r) id is = is

    each : (n : ℕ) (x : Node) (o : Option Node) → node_in nodes n ≡ o → option_map (ticked count) o ≡ Some x → NodeStands x
    each n x None found is = absurd cc
    each n x (Some y) found is =
        let now : ticked count y ≡ x = cc in
        let old = mine.nodes_stand n y found in
        subst NodeStands now (record { place = old.place; rows = old.rows; up = up y.up y.id old.up })

-- ---- an OSD that starts

starts_stand : (node : NodeId) (awake : Awake) (rows : List FileRow) → ((row : FileRow) → Has row rows → RowStands row) → FilesStand node (map (file_from awake) rows)
starts_stand node awake rows stand f h =
    let from = has_map (file_from awake) rows f h in
    let row = stand from.0 from.1 in
    subst (λ (x : FileState). FileStands node x × FileSmall x) (sym from.2)
    (record { head = row.0; tenure = tt; ids = new_is (IsApart node) awake from.0; seats = tt; few = omega arith }, record { head = row.1; tenure = tt })

boot_rows : (records : List Record) (boot : Boot) (row : FileRow) → Has row (fold_of (records ++ kept.Boot boot ∷ [])).files → Has row (fold_of records).files
boot_rows records boot row h = subst (λ (rows : List FileRow). Has row rows) (ap (λ (f : Folded). f.files) (fold_of-push records (kept.Boot boot))) h

-- what starts at a node
starting_stands : (w : World) (node : Node) (boot : Boot) (clock : ℕ) (its : Role) → NodeStands node → CoreStands node.id (core_starting w.times node boot clock its)
starting_stands w node boot clock role.Osd old = starts_stand node.id (record { node = node.id; boot = boot; times = w.times }) (fold_of node.kept).files old.rows
starting_stands w node boot clock role.Client old = tt
starting_stands w node boot clock role.Mrc old = tt
starting_stands w node boot clock role.Dir old = tt

-- ---- rows by their states

row_found : (rows : List FileRow) (row : FileRow) → Rises (row_files rows) → Has row rows → row_in rows row.file ≡ row
unfolding row_in
row_found [] row rises h = absurd h
row_found (x ∷ xs) row rises (inl e) = ap (λ (b : Bool). cond b x (row_in xs row.file)) (ap (λ (k : FileRow). is_file k.file row.file) (sym e) ∙ file-itself row.file) ∙ sym e
row_found (x ∷ xs) row rises (inr h) = at (is_file x.file row.file) refl (row_found xs row rises.1 h)
  where
    of_rows : (rs : List FileRow) → Has row rs → Has row.file (row_files rs)
    of_rows [] h = absurd h
    of_rows (y ∷ ys) (inl e) = inl (ap (λ (z : FileRow). z.file) e)
    of_rows (y ∷ ys) (inr h) = inr (of_rows ys h)

    at : (b : Bool) → is_file x.file row.file ≡ b → row_in xs row.file ≡ row → cond b x (row_in xs row.file) ≡ row
    at true is rest = absurd (before_itself x.file row.file is (rises.0 row.file (of_rows xs h)))
    at false is rest = rest

-- ---- a step of a node

module _ (w : World) (was : List Msg) (node : Node) (r : Running) (found : node_in w.nodes node.id.0 ≡ Some node) (is_up : node.up ≡ Some r) (stood : Stood w was) where
  core_fits : CoreFits w.times (known w) node.id node.kept r r.core
  core_fits = subst (UpFits w.times (known w) node.id node.kept) is_up (stood.stage.fit.shape.nodes node.id.0 node found).up

  core_stands : CoreStands node.id r.core
  core_stands = subst (UpStands node.id) is_up (stood.mine.nodes_stand node.id.0 node found).up

  -- what a step of the node leaves, besides its messages to itself
  pub record Leaves (next : Core) (turned : Turned) : Type 0 where
    pub rows : (row : FileRow) → Has row (fold_of (one_more node.kept turned.rec)).files → RowStands row
    pub core : CoreStands node.id next
    pub outs : (m : Msg) → Has m turned.outs → (m.from ≡ node.id) × ContentSmall m.payload
    -- what stood of a message to itself stands; and what it sends to itself
    pub old : (m : Msg) → Has m was → (s t : OsdState) → r.core ≡ osd s → next ≡ osd t → OwnFits (awake_as s.started) s.files m.payload → OwnFits (awake_as t.started) t.files m.payload
    pub is_osd : (t : OsdState) → next ≡ osd t → (s : OsdState) × (r.core ≡ osd s)
    pub new : (m : Msg) (t : OsdState) → next ≡ osd t → Has m (to_itself node.id turned.outs) → OwnFits (awake_as t.started) t.files m.payload

  -- ---- of an OSD

  module _ (s : OsdState) (is_osd : r.core ≡ osd s) where
    pub fits : OsdFits w.times (known w) node.id r.boot r.clock s × (r.boot.0 ≤ (fold_of node.kept).boot.0) × Agrees node.kept s
    fits = subst (CoreFits w.times (known w) node.id node.kept r) is_osd core_fits

    pub node_is : s.started.node ≡ node.id
    node_is = ap (λ (t : Silent). t.node) fits.0.started

    pub files_stand : FilesStand s.started.node s.files
    files_stand = subst (λ (id : NodeId). FilesStand id s.files) (sym node_is) (subst (CoreStands node.id) is_osd core_stands)

    pub arrives : (happens : Event) → Reaches w was node.id happens → Arrives s happens
    arrives (event.Deliver msg) reaches = (asks_hold (known w) (lists w was stood) msg.payload (stood.stage.fit.shape.payloads msg reaches.1), small (has_in msg was (messages w) reaches.1), λ mine. own (has_in msg was (messages w) reaches.1) mine)
      where
        small : Has msg was ⊎ Has msg (messages w) → ContentSmall msg.payload
        small (inl h) = (stood.mine.own_at msg h).small
        small (inr h) = (stood.mine.others msg h).1

        own : Has msg was ⊎ Has msg (messages w) → msg.from.0 ≡ s.started.node.0 → OwnFits (awake_as s.started) s.files msg.payload
        own (inl h) mine = (stood.mine.own_at msg h).stands node r s (ap (λ (k : NodeId). node_in w.nodes k.0) reaches.0 ∙ found) is_up is_osd
        own (inr h) mine =
            let here : msg.from.0 ≡ msg.to.0 = mine ∙ ap (λ (k : NodeId). k.0) (node_is ∙ sym reaches.0) in
            absurd (false_true (sym (stood.mine.others msg h).0 ∙ equal msg.from.0 msg.to.0 here))
          where
            equal : (a b : ℕ) → a ≡ b → (a == b) ≡ true
            equal a b is = grind (arith, nat_tests)
    arrives event.Wake reaches = tt
    arrives (event.Call call) reaches = tt

    -- where a message to itself was left, it is one that comes
    comes_own : (happens : Event) → Reaches w was node.id happens → (m : Msg) → Has m was → IsOwn s happens
    comes_own (event.Deliver msg) reaches m h = of_first reaches.2
      where
        of_first : IsFirst msg was → msg.from.0 ≡ s.started.node.0
        of_first (inl none) = absurd (subst (Has m) none h)
        of_first (inr first) =
            ap (λ (k : NodeId). k.0) ((stood.mine.own_at msg (subst (Has msg) (sym first.1) (inl refl))).same ∙ reaches.0 ∙ sym node_is)
    comes_own event.Wake reaches m h = absurd (subst (Has m) reaches h)
    comes_own (event.Call call) reaches m h = absurd (subst (Has m) reaches h)

    pub after : (happens : Event) → Reaches w was node.id happens → OsdAfter s happens (step_of_osd (outside_of node.kept) s r.clock happens)
    unfolding step_of_osd
    after happens reaches =
        event_after (outside_of node.kept) s (max r.clock s.last) (λ f h. holds_of (known w) (lists w was stood) f (fits.0.fits f h)) files_stand fits.0.rises happens (is_silent s.started (max r.clock s.last)) (arrives happens reaches)

    osd_leaves : (happens : Event) → (reaches : Reaches w was node.id happens) → Leaves (osd (step_of_osd (outside_of node.kept) s r.clock happens).osd) (step_of_osd (outside_of node.kept) s r.clock happens).turned
    osd_leaves happens reaches =
        let step = step_of_osd (outside_of node.kept) s r.clock happens in
        let q = after happens reaches in
        let next = step_next w was node r (osd (step_of_osd (outside_of node.kept) s r.clock happens).osd) (step_of_osd (outside_of node.kept) s r.clock happens).turned stood.stage.fit.shape found is_up (of_osd s happens is_osd reaches) in
        record {
          rows = λ row h. rows next row h;
          core = subst (λ (id : NodeId). FilesStand id (step_of_osd (outside_of node.kept) s r.clock happens).osd.files) node_is q.stands;
          outs = λ m h. let x = small_of s.started.node step.turned.outs m q.outs h in (x.0 ∙ node_is, x.1);
          old = λ m h a b was_osd now_osd own.
              let a_is : s ≡ a = osd_same (sym is_osd ∙ was_osd) in
              let b_is : (step_of_osd (outside_of node.kept) s r.clock happens).osd ≡ b = osd_same now_osd in
              subst (λ (t : OsdState). OwnFits (awake_as t.started) t.files m.payload) b_is
              (subst (λ (t : Silent). OwnFits (awake_as t) step.osd.files m.payload) (sym q.started) (moved m.payload (comes_own happens reaches m h) (subst (λ (t : OsdState). OwnFits (awake_as t.started) t.files m.payload) (sym a_is) own)));
          is_osd = λ t now. (s, is_osd);
          new = λ m t now h.
              let b_is : (step_of_osd (outside_of node.kept) s r.clock happens).osd ≡ t = osd_same now in
              subst (λ (t : OsdState). OwnFits (awake_as t.started) t.files m.payload) b_is
              (subst (λ (t : Silent). OwnFits (awake_as t) step.osd.files m.payload) (sym q.started) (q.own m (subst (λ (id : NodeId). Has m (to_itself id step.turned.outs)) (sym node_is) h)));
        }
      where
        q : OsdAfter s happens (step_of_osd (outside_of node.kept) s r.clock happens)
        q = after happens reaches

        osd_same : {a b : OsdState} → osd a ≡ osd b → a ≡ b
        osd_same e = cc

        moved : (content : Payload) → IsOwn s happens → OwnFits (awake_as s.started) s.files content → OwnFits (awake_as s.started) (step_of_osd (outside_of node.kept) s r.clock happens).osd.files content
        moved content mine own =
            record {
              no_ask = own.no_ask;
              stands = λ file concerns primary. stands_more (file_at (awake_as s.started) s.files file).kept (file_at (awake_as s.started) (step_of_osd (outside_of node.kept) s r.clock happens).osd.files file).kept content (q.moves mine file) (own.stands file concerns primary);
            }

        -- it makes no file
        apart_then : AreApart (known_after w (step_of_osd (outside_of node.kept) s r.clock happens).turned)
        apart_then =
            subst AreApart (ap (λ (more : List PlacedFile). w.files ++ more) (sym (append-nil w.made) ∙ ap (λ (more : List PlacedFile). w.made ++ more) (sym (osd_makes_none (outside_of node.kept) s r.clock happens)))) (lists w was stood)

        rows_fit : (rec : Option Record) → (step_of_osd (outside_of node.kept) s r.clock happens).turned.rec ≡ rec → IsNext w was node r (osd (step_of_osd (outside_of node.kept) s r.clock happens).osd) (step_of_osd (outside_of node.kept) s r.clock happens).turned
            → RowsFit (known w) (fold_of (one_more node.kept rec)).files
        rows_fit None e next = (stood.stage.fit.shape.nodes node.id.0 node found).rows
        rows_fit (Some rec) e next = record_fits (known w) node.kept rec (next.rec rec e).0 (stood.stage.fit.shape.nodes node.id.0 node found).rows

        rows : IsNext w was node r (osd (step_of_osd (outside_of node.kept) s r.clock happens).osd) (step_of_osd (outside_of node.kept) s r.clock happens).turned
            → (row : FileRow) → Has row (fold_of (one_more node.kept (step_of_osd (outside_of node.kept) s r.clock happens).turned.rec)).files → RowStands row
        rows next row h =
            let step = step_of_osd (outside_of node.kept) s r.clock happens in
            let fit = rows_fit step.turned.rec refl next in
            let there = row_found (fold_of (one_more node.kept step.turned.rec)).files row fit.rises h in
            let agrees = next.core.2 row.file in
            let same : (file_at (awake_as s.started) step.osd.files row.file).kept ≡ row = ap (λ (t : Silent). (file_at (awake_as t) step.osd.files row.file).kept) (sym q.started) ∙ agrees ∙ there in
            let at = at_stands (site_of (outside_of node.kept) (awake_as s.started) r.clock) (awake_as s.started) step.osd.files (λ f h. holds_of (known_after w step.turned) apart_then f (next.core.0.fits f h)) q.stands row.file in
            subst RowStands same (at.0.head, at.1.head)

  -- ---- of another node

  -- it keeps no record of a file
  same_rows : (rec : Option Record) → IsMetaIfAny rec → (row : FileRow) → Has row (fold_of (one_more node.kept rec)).files → Has row (fold_of node.kept).files
  same_rows None is row h = h
  same_rows (Some (kept.Meta from number now nodes what)) is row h = subst (λ (rows : List FileRow). Has row rows) (ap (λ (f : Folded). f.files) (fold_of-push node.kept (kept.Meta from number now nodes what))) h
  same_rows (Some _) is row h = absurd is

  other_leaves : (next : Core) (turned : Turned) → ((t : OsdState) → next ≡ osd t → ⊥) → CoreStands node.id next → IsMetaIfAny turned.rec → ((m : Msg) → Has m turned.outs → (m.from ≡ node.id) × ContentSmall m.payload)
      → Leaves next turned
  other_leaves next turned no_osd core keeps says =
      record {
        rows = λ row h. (stood.mine.nodes_stand node.id.0 node found).rows row (same_rows turned.rec keeps row h);
        core = core;
        outs = says;
        old = λ m h s t a b own. absurd (no_osd t b);
        is_osd = λ t e. absurd (no_osd t e);
        new = λ m t e h. absurd (no_osd t e);
      }

  client_leaves : (step : Step WholeClient) → ClientGives node.id step → Leaves (client step.state) step.turned
  client_leaves step gives = other_leaves (client step.state) step.turned (no_osd step.state) tt (subst IsMetaIfAny (sym gives.rec) tt) (says step.turned.outs gives.sends)
    where
      no_osd : (c : WholeClient) (t : OsdState) → client c ≡ osd t → ⊥
      no_osd c t e = cc e

      asked_small : (number : ℕ) (asked : Request) → ContentSmall (payload_of number asked)
      asked_small number (request.Replicated capability asked) = tt
      asked_small number (request.Striped capability asked) = tt
      asked_small number (request.Meta user group asked) = tt
      asked_small number (request.Registry asked) = tt

      says : (outs : List Msg) → Sends AnyRequest node.id outs → (m : Msg) → Has m outs → (m.from ≡ node.id) × ContentSmall m.payload
      says _ sends_none m h = absurd h
      says _ (sends_one to number asked is) m (inl e) = subst (λ (k : Msg). (k.from ≡ node.id) × ContentSmall k.payload) (sym e) (refl, asked_small number asked)
      says _ (sends_one to number asked is) m (inr h) = absurd h

  -- a server stands at its own node
  pub stands_here : (core : Core) → r.core ≡ core → StandsAt node.id (role_of core)
  stands_here core is =
      let its = subst (IsOfRole node.role) is_up (stood.stage.fit.shape.nodes node.id.0 node found).role_is in
      subst (StandsAt node.id) (sym its ∙ ap role_of is) (stood.mine.nodes_stand node.id.0 node found).place

  mrc_leaves : (m : MrcState) (happens : Event) → r.core ≡ mrc m → (let step = step_of_mrc world_key m r.clock happens in Leaves (mrc step.mrc) step.turned)
  mrc_leaves m happens is_mrc =
      let step = step_of_mrc world_key m r.clock happens in
      let here = stands_here (mrc m) is_mrc in
      other_leaves (mrc step.mrc) step.turned (no_osd step.mrc) tt (mrc_serves world_key m r.clock happens).rec
      (λ x h. let said = small_of MRC_NODE step.turned.outs x (mrc_small world_key m r.clock happens) h in (said.0 ∙ sym here, said.1))
    where
      no_osd : (m : MrcState) (t : OsdState) → mrc m ≡ osd t → ⊥
      no_osd m t e = cc e

  dir_leaves : (s : DirState) (happens : Event) → r.core ≡ dir s → (let step = step_of_dir s happens in Leaves (dir step.dir) step.turned)
  dir_leaves s happens is_dir =
      let step = step_of_dir s happens in
      let here = stands_here (dir s) is_dir in
      other_leaves (dir step.dir) step.turned (no_osd step.dir) tt (dir_serves s happens).rec
      (λ x h. let said = small_of DIR_NODE step.turned.outs x (dir_small s happens) h in (said.0 ∙ sym here, said.1))
    where
      no_osd : (s : DirState) (t : OsdState) → dir s ≡ osd t → ⊥
      no_osd s t e = cc e

  pub step_leaves : (next : Core) (turned : Turned) → NodeStep w was node r next turned → Leaves next turned
  step_leaves _ _ (of_osd s happens is_osd reaches) = osd_leaves s is_osd happens reaches
  step_leaves _ _ (of_client c happens is_client reaches) = client_leaves (stepped node.id w.times c r.clock happens) (event_gives node.id w.times c r.clock happens)
  step_leaves _ _ (of_mrc m happens is_mrc reaches) = mrc_leaves m happens is_mrc
  step_leaves _ _ (of_dir s happens is_dir reaches) = dir_leaves s happens is_dir
  step_leaves _ _ (of_call c k is_client resting may found_file) = client_leaves (call_step w node r c k) (call_gives node.id w.times (ready_for w.files c k (called_file k)) r.clock k)
  step_leaves _ _ (of_again c is_client resting may) = client_leaves (called_again node.id w.times c r.clock) (again_gives node.id w.times c r.clock)

-- ---- what each thing leaves

not_equal : (a b c : ℕ) → a ≡ c → (b == c) ≡ false → (a == b) ≡ false
not_equal a b c is differ = grind (arith, nat_tests)

-- a whole step, or one that is cut
stepped_mine : (w : World) (was own : List Msg) (node : Node) (r : Running) (next : Core) (turned : Turned) (outs rest : List Msg) → ((m : Msg) → Has m own → Has m was) → (found : node_in w.nodes node.id.0 ≡ Some node) (is_up : node.up ≡ Some r) (stood : Stood w was)
    → Leaves w was node r found is_up stood next turned → turned.outs ≡ outs ++ rest
    → Mine (with_node w.nodes (next_node node r next turned)) (map (λ (s : Sent). s.message) (w.sent ++ numbered w.nodes node.id outs)) (own ++ to_itself node.id outs)
stepped_mine w was own node r next turned outs rest within found is_up stood q split =
    record {
      nodes_stand = λ n x is. replaced NodeStands w.nodes (next_node node r next turned) node n x found (record { place = (stood.mine.nodes_stand node.id.0 node found).place; rows = q.rows; up = q.core }) (λ y there. stood.mine.nodes_stand n y there) is;
      others = λ m h. elim (has_in m (messages w) (map (λ (s : Sent). s.message) (numbered w.nodes node.id outs)) (subst (Has m) (map-append (λ (s : Sent). s.message) w.sent (numbered w.nodes node.id outs)) h)) [
        | inl old ↦ stood.mine.others m old
        | inr mine ↦ numbered_so m mine
      ];
      own_at = λ m h. elim (has_in m own (to_itself node.id outs) h) [
        | inl old ↦ kept_at m (within m old) (stood.mine.own_at m (within m old))
        | inr mine ↦ new_at m mine
      ];
    }
  where
    fewer : (m : Msg) → Has m outs → Has m turned.outs
    fewer m h = subst (Has m) (sym split) (has_left m outs rest h)

    numbered_so : (m : Msg) → Has m (map (λ (s : Sent). s.message) (numbered w.nodes node.id outs)) → ((m.from.0 == m.to.0) ≡ false) × ContentSmall m.payload
    numbered_so m h =
        let f = has_filter (λ (k : Msg). not (k.to.0 == node.id.0) && is_some (node_in w.nodes k.to.0)) m outs (map_same (λ (s : Sent). s.message) pending (filter (λ (k : Msg). not (k.to.0 == node.id.0) && is_some (node_in w.nodes k.to.0)) outs) (λ k. refl) m h) in
        let out = q.outs m (fewer m f.0) in
        (not_equal m.from.0 m.to.0 node.id.0 (ap (λ (k : NodeId). k.0) out.0) (untrue (m.to.0 == node.id.0) (and_parts (not (m.to.0 == node.id.0)) (is_some (node_in w.nodes m.to.0)) f.1).0), out.1)
      where
        untrue : (b : Bool) → not b ≡ true → b ≡ false
        untrue true is = absurd (false_true is)
        untrue false is = refl

    -- a node of the new table is this one, or was there
    at_node : {P : Type 0} (n : ℕ) (x : Node) → node_in (with_node w.nodes (next_node node r next turned)) n ≡ Some x → (n ≡ node.id.0 → next_node node r next turned ≡ x → P) → (n ≢ node.id.0 → node_in w.nodes n ≡ Some x → P) → P
    at_node n x is here there = elim (same n node.id.0) [
      | inl e ↦ (let now : Some (next_node node r next turned) ≡ Some x = sym (ap (node_in (with_node w.nodes (next_node node r next turned))) e ∙ node_in-new w.nodes (next_node node r next turned) node found) ∙ is in let is_node : next_node node r next turned ≡ x = cc in here e is_node)
      | inr ne ↦ there ne (sym (node_in-other w.nodes (next_node node r next turned) n ne) ∙ is)
    ]

    core_of : (x : Node) (p : Running) (s : OsdState) → next_node node r next turned ≡ x → x.up ≡ Some p → p.core ≡ osd s → next ≡ osd s
    core_of x p s is up core =
        let ups : Some (record r { core = next }) ≡ Some p = ap (λ (y : Node). y.up) is ∙ up in
        let it : record r { core = next } ≡ p = cc in
        ap (λ (y : Running). y.core) it ∙ core

    kept_at : (m : Msg) → Has m was → OwnAt w.nodes m → OwnAt (with_node w.nodes (next_node node r next turned)) m
    kept_at m left at =
        record {
          same = at.same;
          small = at.small;
          stands = λ x p s is up core. at_node m.to.0 x is
              (λ e here. let now = core_of x p s here up core in let was_osd = q.is_osd s now in
              q.old m left was_osd.0 s was_osd.1 now (at.stands node r was_osd.0 (ap (node_in w.nodes) e ∙ found) is_up was_osd.1))
              (λ ne there. at.stands x p s there up core);
        }

    new_at : (m : Msg) → Has m (to_itself node.id outs) → OwnAt (with_node w.nodes (next_node node r next turned)) m
    new_at m h =
        let f = has_filter (λ (k : Msg). k.to.0 == node.id.0) m outs h in
        let out = q.outs m (fewer m f.0) in
        let to_is : m.to ≡ node.id = same_node m.to node.id (eqb-true m.to.0 node.id.0 f.1) in
        record {
          same = out.0 ∙ sym to_is;
          small = out.1;
          stands = λ x p s is up core. at_node m.to.0 x is
              (λ e here. q.new m s (core_of x p s here up core) (filter_has (λ (k : Msg). k.to.0 == node.id.0) m turned.outs (fewer m f.0) f.1))
              (λ ne there. absurd (ne (ap (λ (k : NodeId). k.0) to_is)));
        }

-- a node stops, and perhaps keeps a record more
halted_mine : (w : World) (own : List Msg) (node old : Node) → node_in w.nodes node.id.0 ≡ Some old → StandsAt node.id node.role → ((row : FileRow) → Has row (fold_of node.kept).files → RowStands row) → Mine w.nodes (messages w) own
    → Mine (with_node w.nodes (record node { up = None })) (messages w) []
halted_mine w own node old found place rows mine =
    put_nodes w.nodes (messages w) (record node { up = None }) old found (record { place = place; rows = rows; up = tt }) (record { nodes_stand = mine.nodes_stand; others = mine.others; own_at = λ m h. absurd h })

no_files : (row : FileRow) → Has row (fold_of []).files → RowStands row
no_files row h = absurd (subst (λ (f : Folded). Has row f.files) fold_of-nothing h)

nothing_mine : Mine [] [] []
nothing_mine = record { nodes_stand = λ n node is. absurd (let none : None ≡ Some node = sym (nobody n) ∙ is in cc); others = λ m h. absurd h; own_at = λ m h. absurd h }

-- ---- an OSD forgets

-- what stands of the own messages stands
pub stands_then : (keep : List KeepBody) (row : FileRow) (content : Payload) → Stands row content → Stands (row_without keep row) content
stands_then keep row (payload.Gather file epoch) is = is
stands_then keep row (payload.Status file epoch head) is = is
stands_then keep row (payload.Head file epoch head) is = is
stands_then keep row (payload.Stage file epoch object version bytes) is = is
stands_then keep row (payload.Staged file epoch object version) is = is
stands_then keep row (payload.Missing file epoch object version) is = is
stands_then keep row (payload.Update file update) is = is
stands_then keep row (payload.Ack file stamp) is = is
stands_then keep row (payload.Refused file epoch promised) is = is
stands_then keep row _ is = absurd is

pub own_then : (keep : List KeepBody) (s : OsdState) (content : Payload) → OwnFits (awake_as s.started) s.files content → OwnFits (awake_as (osd_without keep s).started) (osd_without keep s).files content
unfolding osd_without
own_then keep s content fits = record {
  no_ask = fits.no_ask;
  stands = λ file about lease. subst (λ (x : FileState). Stands x.kept content) (sym (at_without (awake_as s.started) keep s.files file))
      (stands_then keep (file_at (awake_as s.started) s.files file).kept content (fits.stands file about lease));
}

files_then : (id : NodeId) (keep : List KeepBody) (s : OsdState) → FilesStand id s.files → FilesStand id (osd_without keep s).files
unfolding osd_without
files_then id keep s are f h =
    let from = has_map (file_without keep) s.files f h in
    let old = are from.0 from.1 in
    subst (λ (x : FileState). FileStands id x × FileSmall x) (sym from.2)
    (record { head = old.0.head; tenure = old.0.tenure; ids = record { asks = old.0.ids.asks; tenure = old.0.ids.tenure }; seats = old.0.seats; few = old.0.few }, record { head = old.1.head; tenure = old.1.tenure })

forgotten_mine : (w : World) (own : List Msg) (node : Node) (r : Running) (s : OsdState) → node_in w.nodes node.id.0 ≡ Some node → node.up ≡ Some r → r.core ≡ osd s
    → Mine w.nodes (messages w) own → Mine (with_node w.nodes (rewritten_at node r s)) (messages w) own
forgotten_mine w own node r s found is_up is_osd mine =
    record {
      nodes_stand = λ n x is. replaced NodeStands w.nodes there node n x found new (λ y was. mine.nodes_stand n y was) is;
      others = mine.others;
      own_at = λ m h. record { same = (mine.own_at m h).same; small = (mine.own_at m h).small; stands = λ x q t at up core. own_stands m (mine.own_at m h) x q t at up core };
    }
  where
    keep : List KeepBody
    keep = keep_of s

    there : Node
    there = rewritten_at node r s

    old : NodeStands node
    old = mine.nodes_stand node.id.0 node found

    new : NodeStands (rewritten_at node r s)
    new = record {
      place = old.place;
      rows = λ row h. let from = has_map (row_without (keep_of s)) (fold_of node.kept).files row (subst (Has row) (rows_then (keep_of s) node.kept) h) in subst RowStands (sym from.2) (old.rows from.0 from.1);
      up = files_then node.id (keep_of s) s (subst (CoreStands node.id) is_osd (subst (UpStands node.id) is_up old.up));
    }

    own_stands : (m : Msg) → OwnAt w.nodes m → (x : Node) (q : Running) (t : OsdState) → node_in (with_node w.nodes (rewritten_at node r s)) m.to.0 ≡ Some x → x.up ≡ Some q → q.core ≡ osd t → OwnFits (awake_as t.started) t.files m.payload
    own_stands m fits x q t at up core = elim (same m.to.0 node.id.0) [
      | inl e ↦
          (let is_node : Some (rewritten_at node r s) ≡ Some x = sym (ap (node_in (with_node w.nodes (rewritten_at node r s))) e ∙ node_in-new w.nodes (rewritten_at node r s) node found) ∙ at in
          let is_up_then : Some (record r { core = osd (osd_without (keep_of s) s) }) ≡ Some q = ap (λ (o : Option Node). elim o [ None ↦ None | Some y ↦ y.up ]) is_node ∙ up in
          let is_core : osd (osd_without (keep_of s) s) ≡ osd t = ap (λ (o : Option Running). elim o [ None ↦ osd t | Some y ↦ y.core ]) is_up_then ∙ core in
          let is_state : osd_without (keep_of s) s ≡ t = cc is_core in
          subst (λ (z : OsdState). OwnFits (awake_as z.started) z.files m.payload) is_state
          (own_then (keep_of s) s m.payload (fits.stands node r s (ap (node_in w.nodes) e ∙ found) is_up is_osd)))
      | inr ne ↦ fits.stands x q t (sym (node_in-other w.nodes (rewritten_at node r s) m.to.0 ne) ∙ at) up core
    ]

pub stood_kept : IsKept Stood
stood_kept =
    record {
      begins = record { stage = stage_kept.begins; mine = nothing_mine };
      times = λ lease drift bound. record { stage = stage_kept.times lease drift bound; mine = nothing_mine };
      server_declared = λ w id its serves stands bound free p. record {
        stage = stage_kept.server_declared w id its serves stands bound free p.stage;
        mine = add_node w.nodes (messages w) (never_started id its) free (record { place = stands; rows = no_files; up = tt }) p.mine;
      };
      client_declared = λ w id clock bound free close p. record {
        stage = stage_kept.client_declared w id clock bound free close p.stage;
        mine = add_node w.nodes (messages w) (record { id = id; role = role.Client; kept = []; past = []; up = Some (runs first_boot clock (client (whole_client clock))) }) free (record { place = tt; rows = no_files; up = tt }) p.mine;
      };
      file_declared = λ w number location bound free p. record {
        stage = stage_kept.file_declared w number location bound free p.stage;
        mine = p.mine;
      };
      started = λ w node clock serves bound found down close p. record {
        stage = stage_kept.started w node clock serves bound found down close p.stage;
        mine =
            let old = p.mine.nodes_stand node.id.0 node found in
            put_nodes w.nodes (messages w) (record node { kept = node.kept ++ kept.Boot (next_boot node.kept) ∷ []; past = node.past ++ loads ∷ puts (kept.Boot (next_boot node.kept)) ∷ []; up = Some (runs (next_boot node.kept) clock (core_starting w.times node (next_boot node.kept) clock node.role)) }) node found
            (record {
              place = old.place;
              rows = λ row h. old.rows row (boot_rows node.kept (next_boot node.kept) row h);
              up = starting_stands w node (next_boot node.kept) clock node.role old;
            }) p.mine;
      };
      planned = λ w node r q found is_up boot clock core p. record {
        stage = stage_kept.planned w node r q found is_up boot clock core p.stage;
        mine =
            let old = p.mine.nodes_stand node.id.0 node found in
            put_nodes w.nodes (messages w) (record node { up = Some q }) node found (record { place = old.place; rows = old.rows; up = subst (CoreStands node.id) (sym core) (subst (UpStands node.id) is_up old.up) }) p.mine;
      };
      aimed_at = λ w node r c number target found is_up is_client p. record {
        stage = stage_kept.aimed_at w node r c number target found is_up is_client p.stage;
        mine =
            let old = p.mine.nodes_stand node.id.0 node found in
            put_nodes w.nodes (messages w) (record node { up = Some (record r { core = client (aimed_on c target (usable w.files c.held number)) }) }) node found (record { place = old.place; rows = old.rows; up = tt }) p.mine;
      };
      stopped = λ w own node r how found is_up p. record {
        stage = stage_kept.stopped w own node r how found is_up p.stage;
        mine = halted_mine w own node node found (p.mine.nodes_stand node.id.0 node found).place (p.mine.nodes_stand node.id.0 node found).rows p.mine;
      };
      clock_set = λ w node r clock bound found is_up rises close p. record {
        stage = stage_kept.clock_set w node r clock bound found is_up rises close p.stage;
        mine =
            let old = p.mine.nodes_stand node.id.0 node found in
            put_nodes w.nodes (messages w) (record node { up = Some (record r { clock = clock }) }) node found (record { place = old.place; rows = old.rows; up = subst (UpStands node.id) is_up old.up }) p.mine;
      };
      all_ticked = λ w count bound p. record { stage = stage_kept.all_ticked w count bound p.stage; mine = tick_nodes w.nodes (messages w) count p.mine };
      less_pending = λ w own number p. record {
        stage = stage_kept.less_pending w own number p.stage;
        mine = record { nodes_stand = p.mine.nodes_stand; others = λ m h. p.mine.others m (same_messages w.sent number m h); own_at = p.mine.own_at };
      };
      lost = λ w own left part p. record {
        stage = stage_kept.lost w own left part p.stage;
        mine = record { nodes_stand = p.mine.nodes_stand; others = p.mine.others; own_at = λ m h. p.mine.own_at m (left_within left own part m h) };
      };
      stepped = λ w was own node r next turned outs rest part found is_up step split p. record {
        stage = stage_kept.stepped w was own node r next turned outs rest part found is_up step split p.stage;
        mine = stepped_mine w was own node r next turned outs rest (left_within own was part) found is_up p (step_leaves w was node r found is_up p next turned step) split;
      };
      stopped_keeping = λ w own node r next turned rec found is_up step e p. record {
        stage = stage_kept.stopped_keeping w own node r next turned rec found is_up step e p.stage;
        mine = halted_mine w own (record node { kept = node.kept ++ rec ∷ []; past = node.past ++ puts rec ∷ [] }) node found (p.mine.nodes_stand node.id.0 node found).place
            (λ row h. (step_leaves w own node r found is_up p next turned step).rows row (subst (λ (x : Option Record). Has row (fold_of (one_more node.kept x)).files) (sym e) h)) p.mine;
      };
      forgotten = λ w own node r s found is_up is_osd p. record {
        stage = stage_kept.forgotten w own node r s found is_up is_osd p.stage;
        mine = forgotten_mine w own node r s found is_up is_osd p.mine;
      };
      lined = λ w l ended p. record { stage = stage_kept.lined w l ended p.stage; mine = p.mine };
    }
