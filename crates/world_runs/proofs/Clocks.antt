-- the lines that start a node or move clocks
use Rattle.std.proofs.Common.{◌≡◌, ◌≢◌, ℕ, ◌≤◌, ◌+◌, inl, inr, List, [], ◌∷◌, ◌++◌, map, refl, arith, ap, sym, ◌∙◌, subst, Option, Some, None, Bool, true, false}
use Rattle.std.specs.Prelude.{◌==◌, if◌then◌else◌, cond}
use Rattle.std.specs.Option.{option_map}
use Rattle.std.proofs.lemmas.Bool.Decides.{nat_tests}
use Rattle.std.proofs.lemmas.List.{append-nil, append_assoc}
use Rattle.xt_base.specs.TimeSettings.{TimeSettings}
use Rattle.xt_base.specs.declared.TheConstants.{MRC_NODE}
use Rattle.xt_base.specs.declared.ids.NodeId.{NodeId}
use Rattle.xt_base.specs.declared.ids.FileId.{FileId}
use Rattle.xt_base.specs.declared.ids.Boot.{Boot}
use Rattle.xt_messages.specs.declared.message.Msg.{Msg}
use Rattle.xt_messages.specs.declared.record.Record.{Record}
use Rattle.xt_messages.specs.declared.record.Record.TheVariants as kept
use Rattle.xt_messages.specs.declared.record.Folded.{Folded}
use Rattle.xt_messages.specs.declared.record.FileRow.{FileRow}
use Rattle.xt_protocol.specs.FileIds.{is_file}
use Rattle.xt_protocol.specs.Folds.{fold_of}
use Rattle.xt_protocol.proofs.Folds.{fold_of-push}
use Rattle.xt_protocol.specs.LeaseRows.{Awake}
use Rattle.lease_safety.specs.Legal.{IsClose}
use Rattle.lease_runs.specs.LeaseWorld.{LeaseSetting, LeaseRow, LeaseNode, IsSeenAs, IsReached, fresh_row, node_started}
use Rattle.lease_runs.proofs.Seen as seen_steps
use Rattle.lease_runs.proofs.Worlds.{clocks_close}
use Rattle.xt_protocol.specs.FileStates.{file_from}
use Rattle.xt_protocol.specs.OsdSteps.{file_at}
use Rattle.lease_runs.specs.LeaseView.{lease_row_of}
use Rattle.world_spec.specs.declared.PlacedFile.{PlacedFile}
use Rattle.time_line.specs.declared.entry.Entry.{Entry}
use Rattle.time_line.specs.declared.entry.Entry.TheVariants as entry
use Rattle.xt_messages.specs.declared.event.Mark.{Mark}
use Rattle.xt_messages.specs.declared.event.Mark.TheVariants as mark
use Rattle.server_rows.specs.Metadata.{Catalogue}
use Rattle.time_line.specs.TimeLine.{RunningBoot, standing, standing_after, holds, holds_as, times_of, reads, advances}
use Rattle.world_spec.specs.declared.Role.{Role}
use Rattle.world_spec.specs.declared.Role.TheVariants as role
use Rattle.world_spec.specs.World.{World, Node, Running, Core, osd, client, mrc, dir, world_key, node_in, with_node, known, up_of, loads, puts}
use Rattle.world_spec.specs.NodeSteps.{entry_of}
use Rattle.world_spec.specs.Lines.{runs, next_boot, osd_starting, core_starting, files_in, files_left, file_entry, starts_as, ticked, tells}
use Rattle.world_runs.specs.View.{file_setting, node_id, end_in, told, awake_as, unseen, core_seen, up_seen, role_seen, node_seen, lease_view}
use Rattle.world_runs.proofs.Tables.{same, node_in-new, node_in-other, node_in-ticked, AllStay, stay_made}
use Rattle.world_runs.proofs.Standings.{standing-push, own_up, other_up, own_clock, other_clock, AreInert, inert_still, still_standing}
use Rattle.world_runs.proofs.Marks.{inert}
use Rattle.world_runs.proofs.Files.{record_fits, starting_fits, start_agrees, rows_more, payload_more}
use Rattle.world_runs.proofs.Making.{boot_makes_none, dir_boot, start_made, start_makes_none}
use Rattle.world_runs.proofs.Roles.{IsNoMrc, role_at, made_in, one_with, made_with}
use Rattle.world_runs.proofs.Clients.{node_more, nothing_asked}
use Rattle.world_runs.proofs.Frame.{members_before, IsOther, osd_or_other, seen_osd, seen_other}
use Rattle.world_runs.proofs.Moments.{ApartAt, IsSafe, safe-push, safe-marks, times-push, times-marks}
use Rattle.world_runs.proofs.Fit.{IsShaped, IsFit, apart_now, replaced, running_made}
use Rattle.world_runs.specs.Worlds.{RowsFit, CoreFits, UpFits, role_of, IsOfRole, OsdFits, NodeFits, MadeUp, MadeByRole, IsMadeBy, EndFits, Stands}

-- ---- who runs

-- a node that is seen to run does
pub runs_at : (g : LeaseSetting) (w : World) (own : List Msg) (n : ℕ) → ((lease_view g w own).node n).runs ≡ true
    → (node : Node) × (r : Running) × (node_in w.nodes n ≡ Some node) × (node.up ≡ Some r) × (((lease_view g w own).node n).clock ≡ r.clock)
runs_at g w own n seen = at (node_in w.nodes n) refl seen
  where
    end : Option ℕ
    end = told g.file.number n w.entries

    by_core : (node : Node) (r : Running) (core : Core) → node.up ≡ Some r → (core_seen g n end node.kept r core).runs ≡ true → (core_seen g n end node.kept r core).clock ≡ r.clock
    by_core node r (osd s) is seen = refl
    by_core node r (client c) is seen = absurd (cc)
    by_core node r (mrc m) is seen = absurd (cc)
    by_core node r (dir s) is seen = absurd (cc)

    by_up : (node : Node) (up : Option Running) → node.up ≡ up → (up_seen g n end node.kept up).runs ≡ true → (r : Running) × (node.up ≡ Some r) × ((up_seen g n end node.kept up).clock ≡ r.clock)
    by_up node None is seen = absurd (cc)
    by_up node (Some r) is seen = (r, is, by_core node r r.core is seen)

    by_role : (node : Node) (its : Role) → (role_seen g n end node its).runs ≡ true → (r : Running) × (node.up ≡ Some r) × ((role_seen g n end node its).clock ≡ r.clock)
    by_role node role.Osd seen = by_up node node.up refl seen
    by_role node role.Client seen = absurd (cc)
    by_role node role.Mrc seen = absurd (cc)
    by_role node role.Dir seen = absurd (cc)

    at : (found : Option Node) → node_in w.nodes n ≡ found → (node_seen g n end found).runs ≡ true → (node : Node) × (r : Running) × (found ≡ Some node) × (node.up ≡ Some r) × ((node_seen g n end found).clock ≡ r.clock)
    at None is seen = absurd (cc)
    at (Some node) is seen = (let rest = by_role node node.role seen in (node, rest.0, refl, rest.1, rest.2))

-- ---- a start

-- a file's row at an OSD that has just started
fresh_at : (g : LeaseSetting) (awake : Awake) (rows : List FileRow) (file : FileId) → awake.times ≡ g.times → lease_row_of (file_at awake (map (file_from awake) rows) file) ≡ fresh_row g awake.node awake.boot
unfolding file_at
fresh_at g awake [] file is = ap (λ (t : TimeSettings). fresh_row (record g { times = t }) awake.node awake.boot) is
fresh_at g awake (r ∷ rs) file is = at (is_file r.file file) (fresh_at g awake rs file is)
  where
    at : (b : Bool) → lease_row_of (file_at awake (map (file_from awake) rs) file) ≡ fresh_row g awake.node awake.boot → lease_row_of (cond b (file_from awake r) (file_at awake (map (file_from awake) rs) file)) ≡ fresh_row g awake.node awake.boot
    at true rest = ap (λ (t : TimeSettings). fresh_row (record g { times = t }) awake.node awake.boot) is
    at false rest = rest

boot_pushed : (records : List Record) (boot : Boot) → (fold_of (records ++ kept.Boot boot ∷ [])).boot.0 ≡ boot.0
boot_pushed records boot = ap (λ (f : Folded). f.boot.0) (fold_of-push records (kept.Boot boot))

-- the files that a start reports are as marks of them
abbrev file_mark : PlacedFile → Mark
file_mark f = mark.File f.file f.location

as_marks : (node : NodeId) (files : List PlacedFile) → map file_entry files ≡ map (entry_of node) (map file_mark files)
as_marks node [] = refl
as_marks node (f ∷ fs) = ap (λ (es : List Entry). file_entry f ∷ es) (as_marks node fs)

are_inert : (files : List PlacedFile) → AreInert (map file_mark files)
are_inert [] = tt
are_inert (f ∷ fs) = (tt, are_inert fs)

-- what starts at a node is of its role, and holds nothing by the trace
starts_of : (times : TimeSettings) (node : Node) (boot : Boot) (clock : ℕ) (its : Role) → role_of (core_starting times node boot clock its) ≡ its
starts_of times node boot clock role.Osd = refl
starts_of times node boot clock role.Client = refl
starts_of times node boot clock role.Mrc = refl
starts_of times node boot clock role.Dir = refl

starts_free : (times : TimeSettings) (node : Node) (boot : Boot) (clock : ℕ) (its : Role) → EndFits None (core_starting times node boot clock its)
starts_free times node boot clock role.Osd = tt
starts_free times node boot clock role.Client = refl
starts_free times node boot clock role.Mrc = refl
starts_free times node boot clock role.Dir = refl

-- what it knows is what its records say
starts_so : (times : TimeSettings) (files : List PlacedFile) (node : Node) (clock : ℕ) (r : Running) (its : Role) → r.boot ≡ next_boot node.kept → r.clock ≡ clock → RowsFit files (fold_of node.kept).files
    → CoreFits times files node.id (node.kept ++ kept.Boot (next_boot node.kept) ∷ []) r (core_starting times node (next_boot node.kept) clock its)
starts_so times files node clock r role.Osd boot read rows =
    let now = next_boot node.kept in
    let is = boot_pushed node.kept now in (
      subst (λ (c : ℕ). OsdFits times files node.id r.boot c (osd_starting times node now clock)) (sym read)
          (subst (λ (b : Boot). OsdFits times files node.id b clock (osd_starting times node now clock)) (sym boot) (starting_fits times files node.id now clock (fold_of node.kept).files rows)),
      omega (arith, is, ap (λ (b : Boot). b.0) boot),
      start_agrees node.kept now (record { node = node.id; boot = now; times = times; start = clock }),
    )
starts_so times files node clock r role.Client boot read rows = nothing_asked files clock
starts_so times files node clock r role.Mrc boot read rows = sym (boot_makes_none world_key node.kept (next_boot node.kept))
starts_so times files node clock r role.Dir boot read rows = sym (dir_boot node.kept (next_boot node.kept))

-- a node starts
pub start_fits : (w : World) (node : Node) (clock : ℕ) → node_in w.nodes node.id.0 ≡ Some node → node.up ≡ None
    → ((n : ℕ) (other : Node) (r : Running) → n ≢ node.id.0 → node_in w.nodes n ≡ Some other → other.up ≡ Some r → IsClose w.times.drift clock r.clock)
    → IsFit w [] → IsFit (starts_as w node (next_boot node.kept) clock) []
start_fits w node clock found down close fit =
    let shape : IsShaped next [] =
    record {
      good = λ file members are.
          let g = file_setting w.times file members in
          let reached = fit.shape.good file members (members_before (known w) later file members stay are) in
          elim (osd_or_other node.role) [
            | inl its ↦ started_seen g its refl reached
            | inr other ↦ unmoved_seen g other reached
          ];
      nodes = λ n x is. replaced (NodeFits w.times later) w.nodes there node n x found
          (record {
            role_is = starts_of w.times node boot clock node.role;
            rows = rows_more (known w) later stay (fold_of there.kept).files (record_fits (known w) node.kept (kept.Boot boot) tt rows);
            up = starts_so w.times later node clock running node.role refl refl (rows_more (known w) later stay (fold_of node.kept).files rows);
          })
          (λ y was. node_more (known w) later stay w.times y (fit.shape.nodes n y was)) is;
      stands = λ n number. elim (same n node.id.0) [
        | inl e ↦ subst (λ (f : Option Node). Stands (standing (node_id n) number next.entries) (up_of f)) (sym (ap (node_in next.nodes) e ∙ node_in-new w.nodes there node found))
            (subst (λ (o : Option RunningBoot). Stands o (Some running)) (sym (own_standing n number e)) (refl, starts_free w.times node boot clock node.role))
        | inr ne ↦ subst (λ (f : Option Node). Stands (standing (node_id n) number next.entries) (up_of f)) (sym (node_in-other w.nodes there n ne))
            (subst (λ (o : Option RunningBoot). Stands o (up_of (node_in w.nodes n))) (sym (other_standing n number ne)) (fit.shape.stands n number))
      ];
      payloads = λ m h. payload_more (known w) later stay m.payload (fit.shape.payloads m h);
      declared = fit.shape.declared;
      made = made_with w.nodes there node found refl fit.shape.one_server w.made (w.made ++ left) fit.shape.made
          (λ server before. start_made w.made node server (subst (MadeUp w.made (made_in node)) down before) ∙ ap (λ (c : Catalogue). files_in c) (sym (boot_makes_none world_key node.kept boot)))
          (λ none. ap (λ (more : List PlacedFile). w.made ++ more) (start_makes_none w.made node node.role refl (λ e. subst IsNoMrc e none)) ∙ append-nil w.made);
      one_server = one_with w.nodes there node found refl fit.shape.one_server;
      times = times_next ∙ fit.shape.times;
    } in
    let apart = apart_now next [] shape in
    let apart_up : ApartAt with_up = λ number a b one other. apart number a b (holds_next a number ∙ one) (holds_next b number ∙ other) in
    record {
      shape = shape;
      safe = subst IsSafe (sym entries_are) (safe-marks node.id marks with_up (inert (are_inert left)) (safe-push w.entries (entry.Up node.id boot clock) fit.safe apart_up (λ number by acting. absurd (cc))) apart_up (subst ApartAt entries_are apart));
    }
  where
    boot : Boot
    boot = next_boot node.kept

    left : List PlacedFile
    left = files_left w.made node

    next : World
    next = starts_as w node boot clock

    later : List PlacedFile
    later = w.files ++ (w.made ++ left)

    stay : AllStay (known w) later
    stay = stay_made w.files w.made left

    running : Running
    running = runs boot clock (core_starting w.times node boot clock node.role)

    there : Node
    there = record node { kept = node.kept ++ kept.Boot boot ∷ []; past = node.past ++ loads ∷ puts (kept.Boot boot) ∷ []; up = Some running }

    rows : RowsFit (known w) (fold_of node.kept).files
    rows = (fit.shape.nodes node.id.0 node found).rows

    -- the trace
    marks : List Mark
    marks = map file_mark left

    with_up : List Entry
    with_up = w.entries ++ entry.Up node.id boot clock ∷ []

    entries_are : next.entries ≡ with_up ++ map (entry_of node.id) marks
    entries_are =
        ap (λ (es : List Entry). w.entries ++ (entry.Up node.id boot clock ∷ es)) (as_marks node.id left)
        ∙ sym (append_assoc w.entries (entry.Up node.id boot clock ∷ []) (map (entry_of node.id) marks))

    still : (id : NodeId) (number : ℕ) → standing id number next.entries ≡ standing id number with_up
    still id number = ap (standing id number) entries_are ∙ still_standing node.id marks id number with_up (inert_still node.id marks (are_inert left))

    standing_next : (id : NodeId) (number : ℕ) → standing id number next.entries ≡ standing_after id number (standing id number w.entries) (entry.Up node.id boot clock)
    standing_next id number = still id number ∙ standing-push id number w.entries (entry.Up node.id boot clock)

    own_standing : (n number : ℕ) → n ≡ node.id.0 → standing (node_id n) number next.entries ≡ Some (record { boot = boot; clock = clock; end = None })
    own_standing n number e = standing_next (node_id n) number ∙ own_up (node_id n) node.id number boot clock _ (sym e)

    other_standing : (n number : ℕ) → n ≢ node.id.0 → standing (node_id n) number next.entries ≡ standing (node_id n) number w.entries
    other_standing n number ne = standing_next (node_id n) number ∙ other_up (node_id n) node.id number boot clock _ (λ e. ne (sym e))

    same_times : times_of next.entries ≡ times_of with_up
    same_times = ap times_of entries_are ∙ times-marks node.id with_up marks

    times_next : times_of next.entries ≡ times_of w.entries
    times_next = same_times ∙ times-push w.entries (entry.Up node.id boot clock) refl

    holds_next : (id : NodeId) (number : ℕ) → holds next.entries id number ≡ holds with_up id number
    holds_next id number = ap (λ (t : TimeSettings). holds_as t.drift (standing id number next.entries)) same_times ∙ ap (holds_as (times_of with_up).drift) (still id number)

    -- the views
    others_seen : (g : LeaseSetting) (n : ℕ) → n ≢ node.id.0 → IsSeenAs ((lease_view g w []).node n) ((lease_view g next []).node n)
    others_seen g n ne =
        seen_steps.as_it_is _ _
        (ap (λ (end : Option ℕ). node_seen g n end (node_in next.nodes n)) (ap end_in (other_standing n g.file.number ne)) ∙ ap (node_seen g n (told g.file.number n w.entries)) (node_in-other w.nodes there n ne))

    -- a node that is no OSD
    unmoved_seen : (g : LeaseSetting) → IsOther node.role → IsReached g (lease_view g w []) → IsReached g (lease_view g next [])
    unmoved_seen g other reached =
        seen_steps.unmoved g (lease_view g w []) (lease_view g next []) reached
        (λ n. elim (same n node.id.0) [
          | inl e ↦
              seen_steps.as_it_is _ _
              (ap (node_seen g n (told g.file.number n next.entries)) (ap (node_in next.nodes) e ∙ node_in-new w.nodes there node found)
              ∙ (seen_other g n (told g.file.number n next.entries) there other
              ∙ sym (ap (node_seen g n (told g.file.number n w.entries)) (ap (node_in w.nodes) e ∙ found) ∙ seen_other g n (told g.file.number n w.entries) node other)))
          | inr ne ↦ others_seen g n ne
        ])
        (λ m h. h)

    -- an OSD
    started_seen : (g : LeaseSetting) → node.role ≡ role.Osd → g.times ≡ w.times → IsReached g (lease_view g w []) → IsReached g (lease_view g next [])
    started_seen g its same_setting reached =
        let view = lease_view g w [] in
        let s = osd_starting w.times node boot clock in
        let was : view.node node.id.0 ≡ unseen g node.id.0 node.kept =
        ap (node_seen g node.id.0 (told g.file.number node.id.0 w.entries)) found ∙ (ap (role_seen g node.id.0 (told g.file.number node.id.0 w.entries) node) its ∙ ap (up_seen g node.id.0 (told g.file.number node.id.0 w.entries) node.kept) down) in
        seen_steps.started g view (lease_view g next []) node.id boot clock reached
        (record {
          rises = omega (arith, ap (λ (x : LeaseNode). x.boot) was);
          close = λ n running.
              let at = runs_at g w [] n running in
              elim (same n node.id.0) [
                | inl e ↦ absurd (let gone : view.node n ≡ unseen g node.id.0 node.kept = ap view.node e ∙ was in let off = ap (λ (x : LeaseNode). x.runs) gone in cc (off, running))
                | inr ne ↦ subst (λ (t : TimeSettings). IsClose t.drift clock (view.node n).clock) (sym same_setting) (subst (IsClose w.times.drift clock) (sym at.4) (close n at.0 at.1 ne at.2 at.3))
              ];
        })
        (seen_steps.as_it_is (node_started g node.id boot clock) ((lease_view g next []).node node.id.0)
        (ap (node_seen g node.id.0 (told g.file.number node.id.0 next.entries)) (node_in-new w.nodes there node found)
        ∙ (seen_osd g node.id.0 (told g.file.number node.id.0 next.entries) there running its refl
        ∙ (ap (λ (its : Role). core_seen g node.id.0 (told g.file.number node.id.0 next.entries) there.kept running (core_starting w.times node boot clock its)) its
        ∙ (ap (λ (end : Option ℕ). core_seen g node.id.0 end there.kept running (osd s)) (ap end_in (own_standing node.id.0 g.file.number refl))
        ∙ ap (λ (row : LeaseRow). let x : LeaseNode = record { runs = true; boot = boot.0; clock = clock; started = clock; row = row; told = None } in x) (fresh_at g (awake_as s.started) (fold_of node.kept).files g.file (sym same_setting)))))))
        (λ n ne. others_seen g n ne)
        (λ m h. h)

-- ---- clocks advance

later_core : (times : TimeSettings) (files : List PlacedFile) (node : NodeId) (records : List Record) (r q : Running) (core : Core) → r.boot ≡ q.boot → r.clock ≤ q.clock → CoreFits times files node records r core → CoreFits times files node records q core
later_core times files node records r q (osd s) boot less fits = (
  record {
    started = subst (λ (b : Boot). s.started ≡ record { node = node; boot = b; times = times; start = s.started.start }) boot fits.0.started;
    last = (let before = fits.0.last in omega (arith, before, less));
    fits = fits.0.fits;
    rises = fits.0.rises;
  },
  subst (λ (b : Boot). b.0 ≤ (fold_of records).boot.0) boot fits.1,
  fits.2,
)
later_core times files node records r q (client c) boot less fits = fits
later_core times files node records r q (mrc m) boot less fits = fits
later_core times files node records r q (dir s) boot less fits = fits

-- the clock of a node is another, and nothing else changes of it
clock_seen : (g : LeaseSetting) (n : ℕ) (end : Option ℕ) (records : List Record) (r : Running) (clock now : ℕ) (core : Core) → now ≡ clock → IsSeenAs (record (core_seen g n end records r core) { clock = now }) (core_seen g n end records (record r { clock = clock }) core)
clock_seen g n end records r clock now (osd s) is = record { runs = refl; boot = omega arith; running = λ runs. ap (λ (c : ℕ). core_seen g n end records (record r { clock = c }) (osd s)) (sym is) }
clock_seen g n end records r clock now (client c) is = record { runs = refl; boot = omega arith; running = λ runs. absurd (cc) }
clock_seen g n end records r clock now (mrc m) is = record { runs = refl; boot = omega arith; running = λ runs. absurd (cc) }
clock_seen g n end records r clock now (dir s) is = record { runs = refl; boot = omega arith; running = λ runs. absurd (cc) }

unseen_clock : (g : LeaseSetting) (n : ℕ) (records : List Record) (now : ℕ) → IsSeenAs (record (unseen g n records) { clock = now }) (unseen g n records)
unseen_clock g n records now = record { runs = refl; boot = omega arith; running = λ runs. absurd (cc) }

-- so of any node
clock_node : (g : LeaseSetting) (n : ℕ) (end : Option ℕ) (node : Node) (r : Running) (clock now : ℕ) → node.up ≡ Some r → now ≡ clock
    → IsSeenAs (record (node_seen g n end (Some node)) { clock = now }) (node_seen g n end (Some (record node { up = Some (record r { clock = clock }) })))
clock_node g n end node r clock now is_up is = by_role node.role
  where
    by_role : (its : Role) → IsSeenAs (record (role_seen g n end node its) { clock = now }) (role_seen g n end (record node { up = Some (record r { clock = clock }) }) its)
    by_role role.Osd =
        subst (λ (u : Option Running). IsSeenAs (record (up_seen g n end node.kept u) { clock = now }) (core_seen g n end node.kept (record r { clock = clock }) r.core)) (sym is_up)
        (clock_seen g n end node.kept r clock now r.core is)
    by_role role.Client = unseen_clock g n [] now
    by_role role.Mrc = unseen_clock g n [] now
    by_role role.Dir = unseen_clock g n [] now

-- all clocks advance
ticked_seen : (g : LeaseSetting) (n : ℕ) (end : Option ℕ) (count : ℕ) (found : Option Node) → (let x = node_seen g n end found in IsSeenAs (record x { clock = x.clock + count }) (node_seen g n end (option_map (ticked count) found)))
ticked_seen g n end count None = unseen_clock g n [] (0 + count)
ticked_seen g n end count (Some node) = by_role node.role
  where
    by_core : (r : Running) (core : Core) → (let x = core_seen g n end node.kept r core in IsSeenAs (record x { clock = x.clock + count }) (core_seen g n end node.kept (record r { clock = r.clock + count }) core))
    by_core r (osd s) = clock_seen g n end node.kept r (r.clock + count) (r.clock + count) (osd s) refl
    by_core r (client c) = unseen_clock g n node.kept (0 + count)
    by_core r (mrc m) = unseen_clock g n node.kept (0 + count)
    by_core r (dir s) = unseen_clock g n node.kept (0 + count)

    at : (up : Option Running) → (let x = up_seen g n end node.kept up in IsSeenAs (record x { clock = x.clock + count }) (up_seen g n end node.kept (elim up [ None ↦ None | Some r ↦ Some (record r { clock = r.clock + count }) ])))
    at None = unseen_clock g n node.kept (0 + count)
    at (Some r) = by_core r r.core

    by_role : (its : Role) → (let x = role_seen g n end node its in IsSeenAs (record x { clock = x.clock + count }) (role_seen g n end (ticked count node) its))
    by_role role.Osd = at node.up
    by_role role.Client = unseen_clock g n [] (0 + count)
    by_role role.Mrc = unseen_clock g n [] (0 + count)
    by_role role.Dir = unseen_clock g n [] (0 + count)

ticked_node : (times : TimeSettings) (files : List PlacedFile) (count : ℕ) (node : Node) → NodeFits times files node → NodeFits times files (ticked count node)
ticked_node times files count node fits = record { role_is = of_role node.up fits.role_is; rows = fits.rows; up = at node.up fits.up }
  where
    of_role : (up : Option Running) → IsOfRole node.role up → IsOfRole node.role (elim up [ None ↦ None | Some r ↦ Some (record r { clock = r.clock + count }) ])
    of_role None is = tt
    of_role (Some r) is = is

    at : (up : Option Running) → UpFits times files node.id node.kept up → UpFits times files node.id node.kept (elim up [ None ↦ None | Some r ↦ Some (record r { clock = r.clock + count }) ])
    at None fits = tt
    at (Some r) fits = later_core times files node.id node.kept r (record r { clock = r.clock + count }) r.core refl (omega arith) fits

ticked_stands : (count : ℕ) (o : Option RunningBoot) (found : Option Node) → Stands o (up_of found) → Stands (advances count o) (up_of (option_map (ticked count) found))
ticked_stands count o None stands = at o stands
  where
    at : (o : Option RunningBoot) → Stands o None → Stands (advances count o) None
    at None stands = tt
    at (Some st) stands = absurd stands
ticked_stands count o (Some node) stands = at o node.up stands
  where
    at : (o : Option RunningBoot) (up : Option Running) → Stands o up → Stands (advances count o) (elim up [ None ↦ None | Some r ↦ Some (record r { clock = r.clock + count }) ])
    at None None stands = tt
    at None (Some r) stands = absurd stands
    at (Some st) None stands = absurd stands
    at (Some st) (Some r) stands = (ap (λ (c : ℕ). c + count) stands.0, stands.1)

of_mapped : (count : ℕ) (found : Option Node) (x : Node) → option_map (ticked count) found ≡ Some x → (node : Node) × (found ≡ Some node) × (ticked count node ≡ x)
of_mapped count None x is = absurd (cc)
of_mapped count (Some node) x is = (node, refl, (let same_node : ticked count node ≡ x = cc in same_node))

ticked_made : (made : List PlacedFile) (count : ℕ) (found : Option Node) → IsMadeBy made found → IsMadeBy made (option_map (ticked count) found)
ticked_made made count None is = is
ticked_made made count (Some node) is = by_role node.role is
  where
    by_up : (records_made : List PlacedFile) (up : Option Running) → MadeUp made records_made up → MadeUp made records_made (elim up [ None ↦ None | Some r ↦ Some (record r { clock = r.clock + count }) ])
    by_up records_made None is = is
    by_up records_made (Some r) is = is

    by_role : (its : Role) → MadeByRole made node its → MadeByRole made (ticked count node) its
    by_role role.Osd is = is
    by_role role.Client is = is
    by_role role.Mrc is = by_up (made_in node) node.up is
    by_role role.Dir is = is

pub tick_fits : (w : World) (count : ℕ) → IsFit w [] → IsFit (tells (record w { nodes = map (ticked count) w.nodes }) (entry.Tick count ∷ [])) []
tick_fits w count fit =
    let next = tells (record w { nodes = map (ticked count) w.nodes }) (entry.Tick count ∷ []) in
    let e = entry.Tick count in
    let shape : IsShaped next [] =
    record {
      good = λ file members are.
          let g = file_setting w.times file members in
          let view = lease_view g w [] in
          let reached = fit.shape.good file members are in
          seen_steps.went g view (lease_view g next []) (λ n. (view.node n).clock + count) reached
          (record { rises = λ n runs. omega arith; close = λ a b first second. (let near = clocks_close g view a b reached first second in omega (arith, near)) })
          (λ n. subst (λ (f : Option Node). IsSeenAs (record (view.node n) { clock = (view.node n).clock + count }) (node_seen g n (told file.number n next.entries) f)) (sym (node_in-ticked w.nodes count n))
          (subst (λ (end : Option ℕ). IsSeenAs (record (view.node n) { clock = (view.node n).clock + count }) (node_seen g n end (option_map (ticked count) (node_in w.nodes n))))
          (sym (ap end_in (standing-push (node_id n) file.number w.entries e) ∙ same_end (standing (node_id n) file.number w.entries)))
          (ticked_seen g n (told file.number n w.entries) count (node_in w.nodes n))))
          (λ m h. h);
      nodes = λ n x is.
          let from = of_mapped count (node_in w.nodes n) x (sym (node_in-ticked w.nodes count n) ∙ is) in
          subst (NodeFits w.times (known w)) from.2 (ticked_node w.times (known w) count from.0 (fit.shape.nodes n from.0 from.1));
      stands = λ n number.
          subst (λ (f : Option Node). Stands (standing (node_id n) number next.entries) (up_of f)) (sym (node_in-ticked w.nodes count n))
          (subst (λ (o : Option RunningBoot). Stands o (up_of (option_map (ticked count) (node_in w.nodes n)))) (sym (standing-push (node_id n) number w.entries e))
          (ticked_stands count (standing (node_id n) number w.entries) (node_in w.nodes n) (fit.shape.stands n number)));
      payloads = fit.shape.payloads;
      declared = fit.shape.declared;
      made = subst (IsMadeBy w.made) (sym (node_in-ticked w.nodes count MRC_NODE.0)) (ticked_made w.made count (node_in w.nodes MRC_NODE.0) fit.shape.made);
      one_server = λ n x is server.
          let from = of_mapped count (node_in w.nodes n) x (sym (node_in-ticked w.nodes count n) ∙ is) in
          fit.shape.one_server n from.0 from.1 (ap (λ (y : Node). y.role) from.2 ∙ server);
      times = times-push w.entries e refl ∙ fit.shape.times;
    } in
    record { shape = shape; safe = safe-push w.entries e fit.safe (apart_now next [] shape) (λ number by acting. absurd (cc)) }
  where
    same_end : (o : Option RunningBoot) → end_in (advances count o) ≡ end_in o
    same_end None = refl
    same_end (Some st) = refl

-- one clock is set
pub clock_fits : (w : World) (node : Node) (r : Running) (clock : ℕ) → node_in w.nodes node.id.0 ≡ Some node → node.up ≡ Some r → r.clock ≤ clock
    → ((n : ℕ) (other : Node) (q : Running) → n ≢ node.id.0 → node_in w.nodes n ≡ Some other → other.up ≡ Some q → IsClose w.times.drift clock q.clock)
    → IsFit w [] → IsFit (tells (record w { nodes = with_node w.nodes (record node { up = Some (record r { clock = clock }) }) }) (entry.Clock node.id clock ∷ [])) []
clock_fits w node r clock found is_up rises close fit =
    let there : Node = record node { up = Some (record r { clock = clock }) } in
    let next = tells (record w { nodes = with_node w.nodes there }) (entry.Clock node.id clock ∷ []) in
    let e = entry.Clock node.id clock in
    let shape : IsShaped next [] =
    record {
      good = λ file members are.
          let g = file_setting w.times file members in
          let view = lease_view g w [] in
          let reached = fit.shape.good file members are in
          let now : ℕ → ℕ = λ n. if n == node.id.0 then clock else (view.node n).clock in
          seen_steps.went g view (lease_view g next []) now reached
          (record {
            rises = λ n running. elim (same n node.id.0) [
              | inl x ↦ (let at = runs_at g w [] n running in let its = is_node n at.0 at.1 x at.2 at.3 in let here = now_here n (view.node n).clock x in omega (arith, at.4, ap (λ (q : Running). q.clock) its, rises, here))
              | inr ne ↦ (let here = now_there n (view.node n).clock ne in omega (arith, here))
            ];
            close = λ a b first second.
                let at = runs_at g w [] a first in
                let bt = runs_at g w [] b second in
                elim (same a node.id.0) [
                  | inl x ↦ elim (same b node.id.0) [
                    | inl y ↦ (let here = now_here a (view.node a).clock x in let too = now_here b (view.node b).clock y in omega (arith, here, too))
                    | inr ne ↦ (let here = now_here a (view.node a).clock x in let too = now_there b (view.node b).clock ne in let near = close b bt.0 bt.1 ne bt.2 bt.3 in omega (arith, here, too, near.0, bt.4))
                  ]
                  | inr ne ↦ elim (same b node.id.0) [
                    | inl y ↦ (let here = now_there a (view.node a).clock ne in let too = now_here b (view.node b).clock y in let near = close a at.0 at.1 ne at.2 at.3 in omega (arith, here, too, near.1, at.4))
                    | inr differ ↦ (let here = now_there a (view.node a).clock ne in let too = now_there b (view.node b).clock differ in let near = clocks_close g view a b reached first second in omega (arith, here, too, near))
                  ]
                ];
          })
          (λ n. elim (same n node.id.0) [
            | inl x ↦
                subst (λ (f : Option Node). IsSeenAs (record (view.node n) { clock = now n }) (node_seen g n (told file.number n next.entries) f)) (sym (ap (node_in next.nodes) x ∙ node_in-new w.nodes there node found))
                (subst (λ (y : LeaseNode). IsSeenAs (record y { clock = now n }) (node_seen g n (told file.number n next.entries) (Some there))) (sym (ap (node_seen g n (told file.number n w.entries)) (ap (node_in w.nodes) x ∙ found)))
                (subst (λ (end : Option ℕ). IsSeenAs (record (node_seen g n (told file.number n w.entries) (Some node)) { clock = now n }) (node_seen g n end (Some there))) (sym (same_told n file.number))
                (clock_node g n (told file.number n w.entries) node r clock (now n) is_up (now_here n (view.node n).clock x))))
            | inr ne ↦
                subst (λ (f : Option Node). IsSeenAs (record (view.node n) { clock = now n }) (node_seen g n (told file.number n next.entries) f)) (sym (node_in-other w.nodes there n ne))
                (subst (λ (end : Option ℕ). IsSeenAs (record (view.node n) { clock = now n }) (node_seen g n end (node_in w.nodes n))) (sym (same_told n file.number))
                (subst (λ (c : ℕ). IsSeenAs (record (view.node n) { clock = c }) (view.node n)) (sym (now_there n (view.node n).clock ne)) (seen_steps.as_it_is (view.node n) (view.node n) refl)))
          ])
          (λ m h. h);
      nodes = λ n x is. replaced (NodeFits w.times (known w)) w.nodes there node n x found
          (record {
            role_is = role_at node r (fit.shape.nodes node.id.0 node found).role_is is_up;
            rows = (fit.shape.nodes node.id.0 node found).rows;
            up = later_core w.times (known w) node.id node.kept r (record r { clock = clock }) r.core refl rises (subst (UpFits w.times (known w) node.id node.kept) is_up (fit.shape.nodes node.id.0 node found).up);
          }) (λ y was. fit.shape.nodes n y was) is;
      stands = λ n number. elim (same n node.id.0) [
        | inl x ↦
            subst (λ (f : Option Node). Stands (standing (node_id n) number next.entries) (up_of f)) (sym (ap (node_in next.nodes) x ∙ node_in-new w.nodes there node found))
            (subst (λ (o : Option RunningBoot). Stands o (Some (record r { clock = clock }))) (sym (standing-push (node_id n) number w.entries e ∙ own_clock (node_id n) node.id number clock _ (sym x)))
            (read_stands (standing (node_id n) number w.entries) (subst (Stands (standing (node_id n) number w.entries)) (ap up_of (ap (node_in w.nodes) x ∙ found) ∙ is_up) (fit.shape.stands n number))))
        | inr ne ↦
            subst (λ (f : Option Node). Stands (standing (node_id n) number next.entries) (up_of f)) (sym (node_in-other w.nodes there n ne))
            (subst (λ (o : Option RunningBoot). Stands o (up_of (node_in w.nodes n))) (sym (standing-push (node_id n) number w.entries e ∙ other_clock (node_id n) node.id number clock _ (λ x. ne (sym x)))) (fit.shape.stands n number))
      ];
      payloads = fit.shape.payloads;
      declared = fit.shape.declared;
      made = made_with w.nodes there node found refl fit.shape.one_server w.made w.made fit.shape.made (λ server before. running_made w.made (made_in node) node.up r is_up before) (λ none. refl);
      one_server = one_with w.nodes there node found refl fit.shape.one_server;
      times = times-push w.entries e refl ∙ fit.shape.times;
    } in
    record { shape = shape; safe = safe-push w.entries e fit.safe (apart_now next [] shape) (λ number by acting. absurd (cc)) }
  where
    now_here : (n c : ℕ) → n ≡ node.id.0 → (if n == node.id.0 then clock else c) ≡ clock
    now_here n c x = grind (arith, nat_tests)

    now_there : (n c : ℕ) → n ≢ node.id.0 → (if n == node.id.0 then clock else c) ≡ c
    now_there n c ne = grind (arith, nat_tests)

    is_node : (n : ℕ) (other : Node) (q : Running) → n ≡ node.id.0 → node_in w.nodes n ≡ Some other → other.up ≡ Some q → q ≡ r
    is_node n other q x is there_up =
        let one : Some node ≡ Some other = sym (ap (node_in w.nodes) x ∙ found) ∙ is in
        let same_node : node ≡ other = cc in
        let two : Some q ≡ Some r = sym there_up ∙ (ap (λ (y : Node). y.up) (sym same_node) ∙ is_up) in
        cc

    same_end : (n number : ℕ) (o : Option RunningBoot) → end_in (standing_after (node_id n) number o (entry.Clock node.id clock)) ≡ end_in o
    same_end n number None = grind (arith, nat_tests)
    same_end n number (Some st) = grind (arith, nat_tests)

    same_told : (n number : ℕ) → told number n (w.entries ++ entry.Clock node.id clock ∷ []) ≡ told number n w.entries
    same_told n number = ap end_in (standing-push (node_id n) number w.entries (entry.Clock node.id clock)) ∙ same_end n number (standing (node_id n) number w.entries)

    read_stands : (o : Option RunningBoot) → Stands o (Some r) → Stands (reads clock o) (Some (record r { clock = clock }))
    read_stands None stands = absurd stands
    read_stands (Some st) stands = (refl, stands.1)
