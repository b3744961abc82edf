-- what holds of a world in the midst of a line, and that each step of a node leaves it so
use Rattle.std.proofs.Common.{◌≡◌, ℕ, ◌≤◌, ◌+◌, ◌<◌, inl, inr, List, [], ◌∷◌, ◌++◌, map, refl, arith, ap, sym, ◌∙◌, subst, Option, Some, None, true}
use Rattle.std.specs.Prelude.{◌⊎◌, filter, IsSomeAnd, nat_lt}
use Rattle.std.proofs.lemmas.List.{append-nil, map-append}
use Rattle.std.proofs.lemmas.Bool.Decides.{nat_tests}
use Rattle.xt_base.specs.TimeSettings.{TimeSettings}
use Rattle.xt_base.specs.declared.ids.NodeId.{NodeId}
use Rattle.xt_messages.specs.declared.message.Msg.{Msg}
use Rattle.xt_messages.specs.declared.record.Record.{Record}
use Rattle.xt_protocol.specs.declared.turned.Turned.{Turned}
use Rattle.xt_protocol.specs.Folds.{fold_of}
use Rattle.time_line.specs.declared.entry.Halt.{Halt}
use Rattle.lease_safety.specs.State.{Has}
use Rattle.lease_runs.specs.LeaseWorld.{LeaseSetting, LeaseNode, RowStep, row_stepped, IsReached, IsHolding}
use Rattle.lease_runs.proofs.Worlds.{one_holds}
use Rattle.lease_runs.proofs.Tests.{same_node}
use Rattle.xt_base.specs.declared.TheConstants.{MRC_NODE}
use Rattle.xt_base.specs.declared.ids.FileId.{FileId}
use Rattle.world_spec.specs.declared.PlacedFile.{PlacedFile}
use Rattle.world_spec.specs.declared.Role.TheVariants as role
use Rattle.time_line.specs.declared.entry.Entry.TheVariants as entry
use Rattle.world_spec.specs.declared.Sent.{Sent}
use Rattle.time_line.specs.TimeLine.{RunningBoot, standing, holds, holds_as, times_of, is_before_end}
use Rattle.world_spec.specs.World.{World, Node, Running, Core, osd, client, mrc, dir, node_in, with_node, file_in, known, up_of}
use Rattle.world_spec.specs.NodeSteps.{entry_of, files_marked, pending, numbered, to_itself, one_more, after_turn, halted}
use Rattle.world_spec.specs.Lines.{declared_file}
use Rattle.world_runs.specs.View.{file_setting, node_id, end_in, told, core_seen, up_seen, role_seen, node_seen, messages, lease_view}
use Rattle.world_runs.proofs.Lists.{has_in, has_left, has_right, has_filter, map_same}
use Rattle.world_runs.proofs.Tables.{same, node_in-new, node_in-other, file_in-id, AllStay, stay_made}
use Rattle.world_runs.proofs.Standings.{standing-push, other_down, own_down}
use Rattle.world_runs.proofs.Files.{RecordFits, record_fits, rows_more, payload_more}
use Rattle.world_runs.proofs.Clients.{node_more}
use Rattle.world_runs.proofs.Roles.{IsNoMrc, role_at, made_in, one_with, made_with}
use Rattle.world_runs.proofs.Marks.{MarksFit, standing_elsewhere}
use Rattle.world_runs.proofs.Moments.{ApartAt, IsSafe, safe-push, safe-marks, times-push, times-marks}
use Rattle.world_runs.proofs.Frame.{AreMembers, members_before, Good, IsStep, seen_osd, seen_other, osd_or_other, IsOther, next_node, after_reached, halts, fewer, fewer_outs}
use Rattle.world_runs.specs.Worlds.{PayloadFits, RowsFit, CoreFits, UpFits, role_of, NodeFits, AreDeclared, IsFront, MadeUp, IsMadeBy, IsOneServer, EndFits, Stands}

-- ---- worlds

-- What holds of a world in the midst of a line, with the messages of a node to itself that it hasn't handled.
pub record IsShaped (w : World) (own : List Msg) : Type 0 where
  pub good : Good w own
  pub nodes : (n : ℕ) (node : Node) → node_in w.nodes n ≡ Some node → NodeFits w.times (known w) node
  pub stands : (n number : ℕ) → Stands (standing (node_id n) number w.entries) (up_of (node_in w.nodes n))
  pub payloads : (m : Msg) → Has m (own ++ messages w) → PayloadFits (known w) m.payload
  pub declared : AreDeclared w.files
  pub made : IsMadeBy w.made (node_in w.nodes MRC_NODE.0)
  pub one_server : IsOneServer w.nodes
  pub times : times_of w.entries ≡ w.times

pub record IsFit (w : World) (own : List Msg) : Type 0 where
  pub shape : IsShaped w own
  pub safe : IsSafe w.entries

-- ---- a file of each number

-- the known file of this number; where there is none, one without members
abbrev pub found_file : ℕ → Option PlacedFile → FileId
found_file number None = declared_file number
found_file number (Some k) = k.file

abbrev pub found_members : Option PlacedFile → List NodeId
found_members None = []
found_members (Some k) = k.location.members

abbrev pub file_by : List PlacedFile → ℕ → FileId
file_by files number = found_file number (file_in files number)

abbrev pub members_by : List PlacedFile → ℕ → List NodeId
members_by files number = found_members (file_in files number)

pub number_by : (files : List PlacedFile) (number : ℕ) → (file_by files number).number ≡ number
number_by files number = at (file_in files number) refl
  where
    at : (o : Option PlacedFile) → file_in files number ≡ o → (found_file number o).number ≡ number
    at None is = refl
    at (Some k) is = file_in-id files number k is

pub are_members : (files : List PlacedFile) (number : ℕ) → AreMembers files (file_by files number) (members_by files number)
are_members files number k is = (sym (ap (found_file number) there), sym (ap found_members there))
  where
    there : file_in files number ≡ Some k
    there = ap (file_in files) (sym (number_by files number)) ∙ is

-- ---- nobody else holds

-- who holds by the trace is a running OSD that holds by the view
holder : (w : World) (own : List Msg) (shape : IsShaped w own) (file : FileId) (members : List NodeId) (a : NodeId) → holds w.entries a file.number ≡ true
    → IsHolding (file_setting w.times file members) ((lease_view (file_setting w.times file members) w own).node a.0)
holder w own shape file members a holding = at (node_in w.nodes a.0) refl (shape.stands a.0 number) (standing a number w.entries) refl holding
  where
    number : ℕ
    number = file.number

    g : LeaseSetting
    g = file_setting w.times file members

    less : (c d end : ℕ) → nat_lt (c + d) end ≡ true → c + d < end
    less c d end is = grind (arith, nat_tests)

    holding_end : (end : Option ℕ) (c : ℕ) → is_before_end c (times_of w.entries).drift end ≡ true → IsSomeAnd end (λ end. c + w.times.drift < end)
    holding_end None c is = absurd (cc)
    holding_end (Some end) c is = (let drift = ap (λ (t : TimeSettings). t.drift) shape.times in less c w.times.drift end (sym (ap (λ (d : ℕ). nat_lt (c + d) end) drift) ∙ is))

    no_end : (end : Option ℕ) (c : ℕ) → end ≡ None → is_before_end c (times_of w.entries).drift end ≡ true → ⊥
    no_end None c is before = cc
    no_end (Some end) c is before = cc

    by_core : (node : Node) (r : Running) (core : Core) (st : RunningBoot) → node_in w.nodes a.0 ≡ Some node → node.up ≡ Some r → r.core ≡ core → standing a number w.entries ≡ Some st → (st.clock ≡ r.clock) × EndFits st.end core
        → is_before_end st.clock (times_of w.entries).drift st.end ≡ true → IsHolding g (node_seen g a.0 (told number a.0 w.entries) (Some node))
    by_core node r (osd s) st found is_up is_osd is stands before =
        let its : node.role ≡ role.Osd = sym (role_at node r (shape.nodes a.0 node found).role_is is_up) ∙ ap role_of is_osd in
        subst (IsHolding g) (sym (seen_osd g a.0 (told number a.0 w.entries) node r its is_up ∙ ap (core_seen g a.0 (told number a.0 w.entries) node.kept r) is_osd))
        (refl, subst (λ (end : Option ℕ). IsSomeAnd end (λ end. r.clock + w.times.drift < end)) (sym (ap end_in is)) (subst (λ (c : ℕ). IsSomeAnd st.end (λ end. c + w.times.drift < end)) stands.0 (holding_end st.end st.clock before)))
    by_core node r (client c) st found is_up is_client is stands before = absurd (no_end st.end st.clock stands.1 before)
    by_core node r (mrc m) st found is_up is_mrc is stands before = absurd (no_end st.end st.clock stands.1 before)
    by_core node r (dir s) st found is_up is_dir is stands before = absurd (no_end st.end st.clock stands.1 before)

    at : (found : Option Node) → node_in w.nodes a.0 ≡ found → Stands (standing a number w.entries) (up_of (node_in w.nodes a.0)) → (o : Option RunningBoot) → standing a number w.entries ≡ o
        → holds_as (times_of w.entries).drift (standing a number w.entries) ≡ true → IsHolding g ((lease_view g w own).node a.0)
    at found is_found stands None is before = absurd (let none = ap (holds_as (times_of w.entries).drift) is in cc (none, before))
    at None is_found stands (Some st) is before = absurd (subst (λ (f : Option Node). Stands (Some st) (up_of f)) is_found (subst (λ (o : Option RunningBoot). Stands o (up_of (node_in w.nodes a.0))) is stands))
    at (Some node) is_found stands (Some st) is before = by_up node.up refl (subst (λ (f : Option Node). Stands (Some st) (up_of f)) is_found (subst (λ (o : Option RunningBoot). Stands o (up_of (node_in w.nodes a.0))) is stands))
      where
        by_up : (up : Option Running) → node.up ≡ up → Stands (Some st) node.up → IsHolding g ((lease_view g w own).node a.0)
        by_up None is_up there = absurd (subst (Stands (Some st)) is_up there)
        by_up (Some r) is_up there =
            subst (λ (f : Option Node). IsHolding g (node_seen g a.0 (told number a.0 w.entries) f)) (sym is_found)
            (by_core node r r.core st is_found is_up refl is (subst (Stands (Some st)) is_up there) (sym (ap (holds_as (times_of w.entries).drift) is) ∙ before))

pub apart_now : (w : World) (own : List Msg) → IsShaped w own → ApartAt w.entries
apart_now w own shape number a b one other =
    let file = file_by (known w) number in
    let members = members_by (known w) number in
    let g = file_setting w.times file members in
    let its = sym (number_by (known w) number) in
    same_node a b (one_holds g (lease_view g w own) a.0 b.0 (shape.good file members (are_members (known w) number))
    (holder w own shape file members a (subst (λ (k : ℕ). holds w.entries a k ≡ true) its one)) (holder w own shape file members b (subst (λ (k : ℕ). holds w.entries b k ≡ true) its other)))

-- ---- stops

-- the records of a node say how far its boots have come
boot_seen : (times : TimeSettings) (files : List PlacedFile) (g : LeaseSetting) (n : ℕ) (end : Option ℕ) (node : Node) → NodeFits times files node → (up_seen g n end node.kept node.up).boot ≤ (fold_of node.kept).boot.0
boot_seen times files g n end node fits = at node.up fits.up
  where
    by_core : (r : Running) (core : Core) → CoreFits times files node.id node.kept r core → (core_seen g n end node.kept r core).boot ≤ (fold_of node.kept).boot.0
    by_core r (osd s) is = is.1
    by_core r (client c) is = omega arith
    by_core r (mrc m) is = omega arith
    by_core r (dir s) is = omega arith

    at : (up : Option Running) → UpFits times files node.id node.kept up → (up_seen g n end node.kept up).boot ≤ (fold_of node.kept).boot.0
    at None is = omega arith
    at (Some r) is = by_core r r.core is

-- and so they do where it has stopped
stop_seen : (times : TimeSettings) (files : List PlacedFile) (g : LeaseSetting) (n : ℕ) (was end : Option ℕ) (node old : Node) → node.role ≡ old.role → NodeFits times files old
    → (fold_of old.kept).boot.0 ≤ (fold_of node.kept).boot.0 → (node_seen g n was (Some old)).boot ≤ (node_seen g n end (Some (record node { up = None }))).boot
stop_seen times files g n was end node old its fits boot =
    elim (osd_or_other old.role) [
      | inl is_osd ↦
          let before = ap (λ (x : LeaseNode). x.boot) (ap (role_seen g n was old) is_osd) in
          let now = ap (λ (x : LeaseNode). x.boot) (ap (role_seen g n end (record node { up = None })) (its ∙ is_osd)) in
          let below = boot_seen times files g n was old fits in
          omega (arith, before, now, below, boot)
      | inr other ↦
          let before = ap (λ (x : LeaseNode). x.boot) (seen_other g n was old other) in
          let now = ap (λ (x : LeaseNode). x.boot) (seen_other g n end (record node { up = None }) (subst IsOther (sym its) other)) in
          omega (arith, before, now)
    ]

-- a node that is found in a table with this one in its place
pub replaced : (P : Node → Type 0) (nodes : List Node) (node old : Node) (n : ℕ) (x : Node) → node_in nodes node.id.0 ≡ Some old → P node → ((y : Node) → node_in nodes n ≡ Some y → P y) → node_in (with_node nodes node) n ≡ Some x → P x
replaced P nodes node old n x found here others is =
    elim (same n node.id.0) [
      | inl e ↦ (let now : Some node ≡ Some x = sym (ap (node_in (with_node nodes node)) e ∙ node_in-new nodes node old found) ∙ is in let is_node : node ≡ x = cc in subst P is_node here)
      | inr ne ↦ others x (sym (node_in-other nodes node n ne) ∙ is)
    ]

pub id_seen : (n : ℕ) (id : NodeId) → n ≡ id.0 → node_id n ≡ id
id_seen n id e = ap (λ (k : ℕ). node_id k) e

-- a node stops, and perhaps keeps records more
pub halt_fits : (w : World) (own : List Msg) (node old : Node) (r : Running) (how : Halt) → node_in w.nodes node.id.0 ≡ Some old → node.role ≡ old.role → RowsFit (known w) (fold_of node.kept).files
    → (fold_of old.kept).boot.0 ≤ (fold_of node.kept).boot.0 → (node.role ≡ role.Mrc → MadeUp w.made (made_in old) old.up → IsFront w.made (made_in node)) → IsFit w own → IsFit (halted w node r how) []
halt_fits w own node old r how found its rows boot front fit =
    let end = halted w node r how in
    let there : Node = record node { up = None } in
    let shape : IsShaped end [] =
    record {
      good = λ file members are.
          let g = file_setting w.times file members in
          halts g w own node old r how found
          (λ end.
          let seen = ap (node_seen g node.id.0 (told file.number node.id.0 w.entries)) found in
          let below = stop_seen w.times (known w) g node.id.0 (told file.number node.id.0 w.entries) end node old its (fit.shape.nodes node.id.0 old found) boot in
          omega (arith, ap (λ (x : LeaseNode). x.boot) seen, below)) (fit.shape.good file members are);
      nodes = λ n x is. replaced (NodeFits w.times (known w)) w.nodes there old n x found (record { role_is = tt; rows = rows; up = tt }) (λ y was. fit.shape.nodes n y was) is;
      stands = λ n number. elim (same n node.id.0) [
        | inl e ↦ subst (λ (o : Option RunningBoot). Stands o (up_of (node_in end.nodes n))) (sym (standing-push (node_id n) number w.entries (entry.Down node.id r.clock how) ∙ own_down (node_id n) node.id number r.clock how _ (sym e)))
            (subst (λ (f : Option Node). Stands None (up_of f)) (sym (ap (node_in end.nodes) e ∙ node_in-new w.nodes there old found)) tt)
        | inr ne ↦ subst (λ (o : Option RunningBoot). Stands o (up_of (node_in end.nodes n))) (sym (standing-push (node_id n) number w.entries (entry.Down node.id r.clock how) ∙ other_down (node_id n) node.id number r.clock how _ (λ e. ne (sym e))))
            (subst (λ (f : Option Node). Stands (standing (node_id n) number w.entries) (up_of f)) (sym (node_in-other w.nodes there n ne)) (fit.shape.stands n number))
      ];
      payloads = λ m h. fit.shape.payloads m (has_right m own (messages w) h);
      declared = fit.shape.declared;
      made = made_with w.nodes there old found its fit.shape.one_server w.made w.made fit.shape.made front (λ no. refl);
      one_server = one_with w.nodes there old found its fit.shape.one_server;
      times = times-push w.entries (entry.Down node.id r.clock how) refl ∙ fit.shape.times;
    } in
    record { shape = shape; safe = safe-push w.entries (entry.Down node.id r.clock how) fit.safe (apart_now end [] shape) (λ number by acting. absurd (cc)) }

-- ---- steps

-- all files that are known once a step has reported the files that it made
abbrev pub known_after : World → Turned → List PlacedFile
known_after w turned = w.files ++ (w.made ++ files_marked turned.marks)

-- what must hold of a step of a node
pub record IsNext (w : World) (was : List Msg) (node : Node) (r : Running) (next : Core) (turned : Turned) : Type 0 where
  pub shows : (file : FileId) (members : List NodeId) → AreMembers (known w) file members
      → (step : RowStep) × IsStep (file_setting w.times file members) w node r next turned step × IsReached (file_setting w.times file members) (row_stepped (lease_view (file_setting w.times file members) w was) node.id step)
  pub role_is : role_of next ≡ node.role
  pub core : CoreFits w.times (known_after w turned) node.id (one_more node.kept turned.rec) (record r { core = next }) next
  pub rec : (rec : Record) → turned.rec ≡ Some rec → RecordFits (known w) rec × ((fold_of (node.kept ++ rec ∷ [])).boot ≡ (fold_of node.kept).boot)
  pub payloads : (m : Msg) → Has m turned.outs → PayloadFits (known_after w turned) m.payload
  pub made : node.role ≡ role.Mrc → w.made ≡ made_in node → w.made ++ files_marked turned.marks ≡ made_in (next_node node r next turned)
  pub none_made : IsNoMrc node.role → files_marked turned.marks ≡ []
  pub marks : MarksFit node.id w.entries turned.marks
  pub stands : (number : ℕ) → Stands (standing node.id number (w.entries ++ map (entry_of node.id) turned.marks)) (Some (record r { core = next }))

-- with fewer messages
pub fewer_next : (w : World) (was : List Msg) (node : Node) (r : Running) (next : Core) (turned : Turned) (outs : List Msg) → ((m : Msg) → Has m outs → Has m turned.outs)
    → IsNext w was node r next turned → IsNext w was node r next (record turned { outs = outs })
fewer_next w was node r next turned outs within is =
    record {
      shows = λ file members are.
          let shown = is.shows file members are in
          (shown.0, fewer_outs (file_setting w.times file members) w node r next turned shown.0 outs within shown.1, shown.2);
      role_is = is.role_is;
      core = is.core;
      rec = is.rec;
      payloads = λ m h. is.payloads m (within m h);
      made = is.made;
      none_made = is.none_made;
      marks = is.marks;
      stands = is.stands;
    }

kept_rows : (files : List PlacedFile) (records : List Record) (rec : Option Record) → ((x : Record) → rec ≡ Some x → RecordFits files x) → RowsFit files (fold_of records).files → RowsFit files (fold_of (one_more records rec)).files
kept_rows files records None fits rows = rows
kept_rows files records (Some rec) fits rows = record_fits files records rec (fits rec refl) rows

pub kept_boot : (records : List Record) (rec : Option Record) → ((x : Record) → rec ≡ Some x → (fold_of (records ++ x ∷ [])).boot ≡ (fold_of records).boot) → (fold_of (one_more records rec)).boot ≡ (fold_of records).boot
kept_boot records None keeps = refl
kept_boot records (Some rec) keeps = keeps rec refl

-- a message of the world after a whole step
pub sent_then : (w : World) (own : List Msg) (node : NodeId) (outs : List Msg) (m : Msg) → Has m ((own ++ to_itself node outs) ++ map (λ (s : Sent). s.message) (w.sent ++ numbered w.nodes node outs)) → Has m outs ⊎ Has m (own ++ messages w)
sent_then w own node outs m h =
    let old = map (λ (s : Sent). s.message) w.sent in
    let new = map (λ (s : Sent). s.message) (numbered w.nodes node outs) in
    let split = subst (λ (ms : List Msg). Has m ((own ++ to_itself node outs) ++ ms)) (map-append (λ (s : Sent). s.message) w.sent (numbered w.nodes node outs)) h in
    elim (has_in m (own ++ to_itself node outs) (old ++ new) split) [
      | inl q ↦ elim (has_in m own (to_itself node outs) q) [
        | inl was ↦ inr (has_left m own old was)
        | inr out ↦ inl (has_filter _ m outs out).0
      ]
      | inr s ↦ elim (has_in m old new s) [
        | inl was ↦ inr (has_right m own old was)
        | inr out ↦ inl (has_filter _ m outs (map_same (λ (s : Sent). s.message) pending (filter _ outs) (λ k. refl) m out)).0
      ]
    ]

-- a running metadata server's records have made what the trace reports
pub running_made : (made records_made : List PlacedFile) (up : Option Running) (r : Running) → up ≡ Some r → MadeUp made records_made up → made ≡ records_made
running_made made records_made up r is_up is = subst (MadeUp made records_made) is_up is

-- a whole step
pub after_fits : (w : World) (was own : List Msg) (node : Node) (r : Running) (next : Core) (turned : Turned) → ((k : Msg) → Has k own → Has k was) → node_in w.nodes node.id.0 ≡ Some node → node.up ≡ Some r
    → IsNext w was node r next turned → IsFit w was → IsFit (after_turn w node (record r { core = next }) turned) (own ++ to_itself node.id turned.outs)
after_fits w was own node r next turned within found is_up is fit =
    let end = after_turn w node (record r { core = next }) turned in
    let there = next_node node r next turned in
    let marks = map (entry_of node.id) turned.marks in
    let later = known_after w turned in
    let stay : AllStay (known w) later = stay_made w.files w.made (files_marked turned.marks) in
    let shape : IsShaped end (own ++ to_itself node.id turned.outs) =
    record {
      good = λ file members are.
          let shown = is.shows file members (members_before (known w) later file members stay are) in
          after_reached (file_setting w.times file members) w was own node r next turned shown.0 within found shown.1 shown.2;
      nodes = λ n x there_is. replaced (NodeFits w.times later) w.nodes there node n x found
          (record {
            role_is = is.role_is;
            rows = rows_more (known w) later stay (fold_of there.kept).files (kept_rows (known w) node.kept turned.rec (λ rec e. (is.rec rec e).0) (fit.shape.nodes node.id.0 node found).rows);
            up = is.core;
          }) (λ y before. node_more (known w) later stay w.times y (fit.shape.nodes n y before)) there_is;
      stands = λ n number. elim (same n node.id.0) [
        | inl e ↦ subst (λ (id : NodeId). Stands (standing id number end.entries) (up_of (node_in end.nodes n))) (sym (id_seen n node.id e))
            (subst (λ (f : Option Node). Stands (standing node.id number end.entries) (up_of f)) (sym (ap (node_in end.nodes) e ∙ node_in-new w.nodes there node found)) (is.stands number))
        | inr ne ↦ subst (λ (o : Option RunningBoot). Stands o (up_of (node_in end.nodes n))) (sym (standing_elsewhere number (node_id n) node.id w.entries turned.marks ne is.marks))
            (subst (λ (f : Option Node). Stands (standing (node_id n) number w.entries) (up_of f)) (sym (node_in-other w.nodes there n ne)) (fit.shape.stands n number))
      ];
      payloads = λ m h. elim (sent_then w own node.id turned.outs m h) [
        | inl out ↦ is.payloads m out
        | inr old ↦ payload_more (known w) later stay m.payload (elim (has_in m own (messages w) old) [
          | inl mine ↦ fit.shape.payloads m (has_left m was (messages w) (within m mine))
          | inr sent ↦ fit.shape.payloads m (has_right m was (messages w) sent)
        ])
      ];
      declared = fit.shape.declared;
      made = made_with w.nodes there node found refl fit.shape.one_server w.made (w.made ++ files_marked turned.marks) fit.shape.made
          (λ server before. is.made server (running_made w.made (made_in node) node.up r is_up before))
          (λ no. ap (λ (more : List PlacedFile). w.made ++ more) (is.none_made no) ∙ append-nil w.made);
      one_server = one_with w.nodes there node found refl fit.shape.one_server;
      times = times-marks node.id w.entries turned.marks ∙ fit.shape.times;
    } in
    record { shape = shape; safe = safe-marks node.id turned.marks w.entries is.marks fit.safe (apart_now w was fit.shape) (apart_now end (own ++ to_itself node.id turned.outs) shape) }

-- messages of a node to itself are lost
pub fewer_fits : (w : World) (own left : List Msg) → ((m : Msg) → Has m left → Has m own) → IsFit w own → IsFit w left
fewer_fits w own left within fit =
    record {
      shape =
          record {
            good = λ file members are. fewer (file_setting w.times file members) w own left within (fit.shape.good file members are);
            nodes = fit.shape.nodes;
            stands = fit.shape.stands;
            payloads = λ m h. elim (has_in m left (messages w) h) [
              | inl mine ↦ fit.shape.payloads m (has_left m own (messages w) (within m mine))
              | inr sent ↦ fit.shape.payloads m (has_right m own (messages w) sent)
            ];
            declared = fit.shape.declared;
            made = fit.shape.made;
            one_server = fit.shape.one_server;
            times = fit.shape.times;
          };
      safe = fit.safe;
    }
