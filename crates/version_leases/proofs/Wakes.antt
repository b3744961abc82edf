-- what a Wake is in the lease world of a version
use Rattle.std.proofs.Common.{◌≡◌, ◌∙◌, ℕ, inl, inr, List, [], ◌∷◌, map, refl, ap, sym, subst, Option, Some, None, Bool, true, false, cond}
use Rattle.std.specs.Prelude.{filter, max}
use Rattle.std.specs.List.{AllByRecursion}
use Rattle.xt_base.specs.declared.ids.NodeId.{NodeId}
use Rattle.xt_base.specs.declared.ids.FileId.{FileId}
use Rattle.xt_base.specs.declared.ids.Boot.{Boot}
use Rattle.xt_messages.specs.declared.message.Msg.{Msg}
use Rattle.xt_messages.specs.declared.record.FileRow.{FileRow}
use Rattle.xt_messages.specs.declared.event.Event.TheVariants as event
use Rattle.xt_protocol.specs.FileIds.{is_file}
use Rattle.xt_protocol.proofs.Folds.{file-equal, file-itself}
use Rattle.xt_protocol.specs.LeaseRows.{Silent, LeaseState, awake_at, free, asking, writing, held, lease_expired}
use Rattle.xt_protocol.specs.FileStates.{FileState, Site, FileStep}
use Rattle.xt_protocol.specs.OsdSteps.{Outside, OsdState, OsdStep, file_at}
use Rattle.lease_safety.specs.State.{Has}
use Rattle.osd_invariants.specs.Sound.{IsHeld, IsStored}
use Rattle.lease_runs.specs.LeaseWorld.{LeaseSetting, LeaseRow, LeaseNode, LeaseWorld, RowStep, row_asks, row_expires, row_learns, expired_row, node_asking, lease_file, told_now}
use Rattle.lease_runs.specs.ActsView.{IsBusy}
use Rattle.lease_runs.specs.LeaseView.{ShowsRow, is_about, is_lease_or_ask, lease_outs, leases_and_asks, settled_row, stays_so}
use Rattle.list_rows.specs.ListRows.{is_closed, list_version}
use Rattle.list_rows.specs.ListSteps.{step_with_lists}
use Rattle.listed_leases.specs.ActsView.{IsFree, ClosedIsFree}
use Rattle.listed_leases.specs.LeaseView.{KeepsVersion, Wakes, lease_setting, listed_wake, renewed}
use Rattle.listed_leases.specs.LeaseView as view
use Rattle.listed_leases.specs.OsdView.{ShowsWake}
use Rattle.listed_leases.specs.VersionView.{row_at, IsOfOther, WakesAt, wakes_stored, wakes_later, wakes_left}
use Rattle.listed_leases.proofs.Follows.{wake_kept}
use Rattle.listed_leases.proofs.LeaseOuts.{wake_sends}
use Rattle.listed_leases.proofs.OsdLeases.{woken_step, woke_all, wake_all_shows}
use Rattle.listed_leases.proofs.Versions.{wake_at}
use Rattle.version_leases.specs.Seen.{awake_as, file_of, osd_seen, row_seen, is_of_version, IsPast, HasMembers, RunsIn, FileFits, OneEach}
use Rattle.version_leases.specs.Steps.{LeadsTo, of_others, IsMoves}
use Rattle.version_leases.proofs.Common.{at_stored, of_version_parts, about_same, none_of_other, outs_shown}
use Rattle.version_leases.proofs.Lists.{flat_has, AtMap, at_map, found_at, found_nowhere}
use Rattle.version_leases.proofs.Messages.{f, x, site, settled_is, not_closed, asking_is}
use Rattle.version_leases.proofs.Reaching.{Becomes, with_row, by_step, unmoved, leaves, expires, learns, asks}

-- what is held once what is overdue has expired was neither free nor a round
free_held : (l : LeaseState) (now : ℕ) → IsFree l → IsHeld (lease_expired l now) → ⊥
free_held (free p) now none is = is
free_held (asking r) now none is = none
free_held (writing r) now none is = none
free_held (held h) now none is = none

held_busy : (l : LeaseState) (now : ℕ) → IsHeld (lease_expired l now) → IsBusy l
held_busy (free p) now is = absurd is
held_busy (asking r) now is = tt
held_busy (writing r) now is = tt
held_busy (held h) now is = tt

no_end : (g : LeaseSetting) (node : NodeId) (now : ℕ) (y : LeaseRow) (l : LeaseState) → (row_asks g node now y l).end ≡ None
no_end g node now y (free p) = refl
no_end g node now y (asking r) = refl
no_end g node now y (writing r) = refl
no_end g node now y (held h) = refl

-- what stands where some are left out
has_filter : (p : Msg → Bool) (m : Msg) (xs : List Msg) → Has m (filter p xs) → Has m xs
has_filter p m [] h = absurd h
has_filter p m (z ∷ zs) h = at (p z) h (λ later. has_filter p m zs later)
  where
    at : (b : Bool) → Has m (cond b (z ∷ filter p zs) (filter p zs)) → (Has m (filter p zs) → Has m zs) → Has m (z ∷ zs)
    at true (inl e) rest = inl e
    at true (inr later) rest = inr (rest later)
    at false later rest = inr (rest later)

module _ (g : LeaseSetting) (closed : ℕ → Bool) (world : LeaseWorld) (node : NodeId) (gone : LeaseNode) (end : Option ℕ) (boot : Boot) (clock : ℕ) (s : OsdState) (outside : Outside)
    (is : RunsIn g world node gone end boot clock s) (closed_past : closed node.0 ≡ true → IsPast g.list (file_of g s).kept) (one_each : OneEach s)
    (all_fit : (k : FileState) → Has k s.files → FileFits k) (is_awake : awake_at s.started (max clock s.last) ≡ Some (awake_as s.started)) where
  abbrev woke : OsdStep
  woke = step_with_lists outside s clock event.Wake

  abbrev the_site : Site
  the_site = site g closed world node gone end boot clock s outside is closed_past

  abbrev woke_of : FileState → FileStep
  woke_of k = listed_wake the_site k

  abbrev file : FileState
  file = f g closed world node gone end boot clock s outside is closed_past

  abbrev row : LeaseRow
  row = x g closed world node gone end boot clock s outside is closed_past

  shown_woken : ShowsWake outside s clock (awake_as s.started)
  shown_woken = wake_all_shows outside s clock (awake_as s.started) is_awake

  whole_wake : woke ≡ woke_all outside s (max clock s.last) (awake_as s.started)
  whole_wake = woken_step outside s clock (awake_as s.started) is_awake

  same_start : woke.osd.started ≡ s.started
  same_start = ap (λ (o : OsdStep). o.osd.started) whole_wake

  -- the state of the file after it
  there_is : file_of g woke.osd ≡ file_at (awake_as s.started) (map (λ (k : FileState). (woke_of k).state) s.files) g.file
  there_is =
      ap (λ (t : Silent). file_at (awake_as t) woke.osd.files g.file) same_start
      ∙ ap (λ (fs : List FileState). file_at (awake_as s.started) fs g.file) shown_woken.files

  becomes : (r : LeaseRow) → row_at g.list (file_of g woke.osd) ≡ Some r → Becomes g closed world node gone end boot clock s is woke.osd r
  becomes r at = record { start = ap (λ (t : Silent). t.start) same_start; row = at }

  -- what is sent of the version comes of a file's step
  woke_sends : (m : Msg) → Has m woke.turned.outs → is_of_version g m ≡ true → (k : FileState) × Has k s.files × Has m (leases_and_asks (woke_of k).turned.outs)
  woke_sends m h about =
      flat_has (λ (k : FileState). leases_and_asks (woke_of k).turned.outs) s.files m (outs_shown g woke.turned.outs _ shown_woken.outs m h about)

  -- and that file is the world's
  sends_own : (m : Msg) (k : FileState) → Has m (leases_and_asks (woke_of k).turned.outs) → is_of_version g m ≡ true → is_file k.kept.file g.file ≡ true
  sends_own m k h about = by (is_file k.kept.file g.file) refl
    where
      parts : (is_about g.file (lease_file m.payload) ≡ true) × (m.list ≡ g.list)
      parts = of_version_parts g m about

      own : Has m (lease_outs k.kept.file (woke_of k).turned.outs)
      own = subst (Has m) (sym (wake_sends the_site k).own) h

      of_own : (xs : List Msg) → Has m (lease_outs k.kept.file xs) → is_about k.kept.file (lease_file m.payload) ≡ true
      of_own [] h = absurd h
      of_own (y ∷ ys) h = at (is_about k.kept.file (lease_file y.payload)) refl h (λ later. of_own ys later)
        where
          at : (b : Bool) → is_about k.kept.file (lease_file y.payload) ≡ b → Has m (cond b (y ∷ lease_outs k.kept.file ys) (lease_outs k.kept.file ys))
              → (Has m (lease_outs k.kept.file ys) → is_about k.kept.file (lease_file m.payload) ≡ true) → is_about k.kept.file (lease_file m.payload) ≡ true
          at true here (inl e) rest = subst (λ (z : Msg). is_about k.kept.file (lease_file z.payload) ≡ true) (sym e) here
          at true here (inr later) rest = rest later
          at false here later rest = rest later

      by : (b : Bool) → is_file k.kept.file g.file ≡ b → is_file k.kept.file g.file ≡ true
      by true same = same
      by false differs =
          absurd
          (let first = about_same k.kept.file (lease_file m.payload) (of_own (woke_of k).turned.outs own) in
          let second = about_same g.file (lease_file m.payload) parts.0 in
          let both : Some k.kept.file ≡ Some g.file = sym first ∙ second in
          let one : k.kept.file ≡ g.file = cc in
          let so : is_file k.kept.file g.file ≡ true = ap (λ (a : FileId). is_file a g.file) one ∙ file-itself g.file in
          cc (so, differs))

  -- so it is sent by the world's file
  sends_of : (m : Msg) → Has m woke.turned.outs → is_of_version g m ≡ true → ((k : FileState) → Has k s.files → is_file k.kept.file g.file ≡ true → k ≡ file) → Has m (leases_and_asks (woke_of file).turned.outs)
  sends_of m h about one =
      let sent = woke_sends m h about in
      subst (λ (k : FileState). Has m (leases_and_asks (woke_of k).turned.outs)) (one sent.0 sent.1 (sends_own m sent.0 sent.2 about)) sent.2

  one_file : (k : FileState) → Has k s.files → is_file k.kept.file g.file ≡ true → k ≡ file
  one_file k h own = one_each k h ∙ ap (file_at (awake_as s.started) s.files) (file-equal k.kept.file g.file own)

  abbrev Moves : Type 0
  Moves = IsMoves g closed world node gone end boot clock s outside event.Wake

  -- a closed file isn't held
  open_held : ClosedIsFree file → IsHeld (settled_row the_site file).lease → is_closed file.kept ≡ false
  open_held none held_is = by (is_closed file.kept) refl
    where
      by : (b : Bool) → is_closed file.kept ≡ b → is_closed file.kept ≡ false
      by false so = so
      by true so = absurd (free_held file.lease (max clock s.last) (none so) held_is)

  -- where the file stands at the OSD
  module _ (has : Has file s.files) (placed : file_of g woke.osd ≡ (woke_of file).state) where
    now_at : (r : RowStep) → ShowsRow (woke_of file) r → list_version (woke_of file).state.kept.location ≡ g.list → row_at g.list (file_of g woke.osd) ≡ Some r.row
    now_at r p same = ap (row_at g.list) placed ∙ at_stored g.list (woke_of file).state same ∙ ap (λ (y : LeaseRow). Some y) p.row

    sent_of : (r : RowStep) → ShowsRow (woke_of file) r → (m : Msg) → Has m woke.turned.outs → is_of_version g m ≡ true → Has m r.outs
    sent_of r p m h about = subst (Has m) p.outs (sends_of m h about one_file)

    none_of : AllByRecursion (IsOfOther g.list) (woke_of file).turned.outs → (m : Msg) → Has m woke.turned.outs → is_of_version g m ≡ true → ⊥
    none_of are m h about =
        none_of_other g (woke_of file).turned.outs are m (has_filter is_lease_or_ask m (woke_of file).turned.outs (sends_of m h about one_file)) about

    -- where nothing is reported
    quiet : (told : Option ℕ) → told ≡ None → LeadsTo g closed world node (osd_seen g gone (told_now told end) boot clock woke.osd) woke.turned.outs → Moves
    quiet told none leads =
        record {
          told = None;
          reports = of_others (λ own stored. own);
          leads = subst (λ (t : Option ℕ). LeadsTo g closed world node (osd_seen g gone (told_now t end) boot clock woke.osd) woke.turned.outs) none leads;
        }

    by_stored : list_version file.kept.location ≡ g.list → KeepsVersion file (woke_of file) → HasMembers g (woke_of file).state.kept.location → Wakes the_site file (woke_of file) → Moves
    by_stored same keeps members (view.renewing held_is p) =
        let was = at_stored g.list file same in
        let kept_same : list_version (woke_of file).state.kept.location ≡ g.list = keeps ∙ same in
        let step = node_asking g node (with_row g closed world node gone end boot clock s is end row) in
        let listed = subst (λ (k : FileRow). IsStored k.location) (sym (wake_kept the_site file)) ((all_fit file has).listed (held_busy file.lease (max clock s.last) held_is)) in
        let q =
        subst (ShowsRow (woke_of file))
        (asking_is g closed world node gone end boot clock s outside is closed_past (woke_of file).state.kept.location listed kept_same members) p in
        quiet step.end (no_end g node clock (expired_row clock row) (expired_row clock row).lease)
        (by_step g closed world node gone end boot clock s is row step woke.osd woke.turned.outs was
        (asks g closed world node gone end boot clock s is row was
        (not_closed g closed world node gone end boot clock s outside is closed_past same (open_held (all_fit file has).free held_is)))
        (becomes step.row (now_at step q kept_same)) (sent_of step q))
    by_stored same keeps members (view.resting p) =
        let was = at_stored g.list file same in
        let q = subst (λ (y : LeaseRow). ShowsRow (woke_of file) (stays_so y)) (settled_is g closed world node gone end boot clock s outside is closed_past) p in
        quiet None refl
        (by_step g closed world node gone end boot clock s is row (row_expires clock row) woke.osd woke.turned.outs was
        (expires g closed world node gone end boot clock s is row was)
        (becomes (row_expires clock row).row (now_at (row_expires clock row) q (keeps ∙ same))) (sent_of (row_expires clock row) q))

    in_place : HasMembers g (woke_of file).state.kept.location → WakesAt the_site file g.list (woke_of file) → Moves
    in_place members (wakes_stored same keeps wakes) = by_stored (sym same) keeps members wakes
    in_place members (wakes_later l) =
        quiet None refl
        (by_step g closed world node gone end boot clock s is (renewed row) (row_learns l.ballot (renewed row)) woke.osd woke.turned.outs l.was
        (learns g closed world node gone end boot clock s is (renewed row) l.ballot l.was)
        (becomes (row_learns l.ballot (renewed row)).row (ap (row_at g.list) placed ∙ l.row))
        (λ m h about. absurd (none_of l.outs m h about)))
    in_place members (wakes_left l) =
        quiet None refl
        (leaves g closed world node gone end boot clock s is woke.osd end woke.turned.outs (ap (row_at g.list) placed ∙ l.unseen) (λ m h about. none_of l.outs m h about))

  -- a Wake in the world of the version
  pub wake_moves : HasMembers g (file_of g woke.osd).kept.location → Moves
  wake_moves members = by (at_map (λ (k : FileState). (woke_of k).state) (awake_as s.started) s.files g.file (λ k. ap (λ (r : FileRow). r.file) (wake_kept the_site k)))
    where
      by : AtMap (λ (k : FileState). (woke_of k).state) (awake_as s.started) s.files g.file → Moves
      by (found_at has placed) =
          in_place has (there_is ∙ placed) (subst (λ (k : FileState). HasMembers g k.kept.location) (there_is ∙ placed) members) (wake_at the_site file g.list)
      by (found_nowhere none placed) =
          let same : file_of g woke.osd ≡ file_of g s = there_is ∙ placed in
          record {
            told = None;
            reports = of_others (λ own stored. own);
            leads =
                unmoved g closed world node gone end boot clock s is woke.osd end woke.turned.outs
                (ap (λ (t : Silent). row_seen gone end boot clock t.start (row_at g.list (file_of g woke.osd))) same_start
                ∙ ap (λ (k : FileState). row_seen gone end boot clock s.started.start (row_at g.list k)) same)
                (λ m h about.
                let sent = woke_sends m h about in
                let here = sends_own m sent.0 sent.2 about in
                let nowhere = none sent.0 sent.1 in
                cc (here, nowhere));
          }
