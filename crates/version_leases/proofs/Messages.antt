-- what a message is in the lease world of a version
use Rattle.std.proofs.Common.{◌≡◌, ◌∙◌, ℕ, ◌≤◌, ◌+◌, inl, inr, List, [], refl, ap, sym, subst, arith, Option, Some, None, Bool, true, false, cond}
use Rattle.std.specs.Prelude.{◌&&◌, ◌==◌, max}
use Rattle.std.proofs.lemmas.Bool.{eq-eqb}
use Rattle.std.proofs.lemmas.Bool.Decides.{nat_tests}
use Rattle.xt_base.specs.TimeSettings.{TimeSettings}
use Rattle.xt_base.specs.declared.ids.NodeId.{NodeId}
use Rattle.xt_base.specs.declared.ids.FileId.{FileId}
use Rattle.xt_base.specs.declared.ids.Boot.{Boot}
use Rattle.xt_messages.specs.declared.file.Location.{Location}
use Rattle.xt_messages.specs.declared.message.Msg.{Msg}
use Rattle.xt_messages.specs.declared.event.Event.TheVariants as event
use Rattle.xt_protocol.specs.FileIds.{is_file}
use Rattle.xt_protocol.proofs.Folds.{file-itself}
use Rattle.xt_protocol.specs.LeaseRows.{Silent, Awake, awake_at, is_silent}
use Rattle.xt_protocol.specs.FileStates.{FileState, Site, FileStep, members_of}
use Rattle.xt_protocol.specs.OsdSteps.{Outside, OsdState, OsdStep, file_at}
use Rattle.lease_safety.specs.State.{Has}
use Rattle.osd_invariants.specs.Sound.{IsStored}
use Rattle.closed_lists.specs.ClosedWorld.{IsReachedFrom}
use Rattle.lease_runs.specs.LeaseWorld.{LeaseSetting, LeaseRow, LeaseNode, LeaseWorld, RowStep, row_stepped, row_handles, row_asks, row_expires, row_lets_go, row_learns, expired_row, node_asking, node_handling, lease_file}
use Rattle.lease_runs.specs.LeaseView.{ShowsRow, is_about, lease_outs, lease_row_of, settled_row, stays_so}
use Rattle.lease_runs.specs.OsdView.{site_of, file_after}
use Rattle.lease_runs.proofs.OsdLeases.{at_file}
use Rattle.list_rows.specs.ListRows.{is_closed, list_version}
use Rattle.list_rows.specs.ListSteps.{file_named, step_with_lists}
use Rattle.list_laws.specs.Takes.{IsOpenAt}
use Rattle.listed_leases.specs.LeaseView.{Follows, Shows, KeepsVersion, lease_setting, renewed}
use Rattle.listed_leases.specs.LeaseView as view
use Rattle.listed_leases.specs.VersionView.{row_at, IsLater, IsLeft, ShowsAt, of_stored as at_stored_version, of_later, of_left}
use Rattle.listed_leases.specs.OsdView.{ShowsMessage}
use Rattle.listed_leases.proofs.OsdLeases.{handled, message_shows, message_step}
use Rattle.listed_leases.proofs.LeaseOuts.{message_sends}
use Rattle.version_leases.specs.Seen.{awake_as, file_of, osd_seen, row_seen, is_of_version, IsPast, HasMembers, RunsIn}
use Rattle.version_leases.specs.Steps.{Reports, nothing, of_stored, of_others, IsMoves}
use Rattle.version_leases.proofs.Common.{at_stored, of_version_parts, none_of_other, outs_shown, lease_concerns, unhandled}
use Rattle.version_leases.proofs.Lists.{filter_has}
use Rattle.version_leases.proofs.Reaching.{Becomes, with_row, by_step, unmoved, leaves, expires, learns, asks, handles, lets_go}

module _ (g : LeaseSetting) (closed : ℕ → Bool) (world : LeaseWorld) (node : NodeId) (gone : LeaseNode) (end : Option ℕ) (boot : Boot) (clock : ℕ) (s : OsdState) (outside : Outside)
    (is : RunsIn g world node gone end boot clock s) (closed_past : closed node.0 ≡ true → IsPast g.list (file_of g s).kept) where
  abbrev pub now : ℕ
  now = max clock s.last

  abbrev pub awake : Awake
  awake = awake_as s.started

  abbrev pub site : Site
  site = site_of outside (awake_as s.started) (max clock s.last)

  abbrev pub f : FileState
  f = file_at (awake_as s.started) s.files g.file

  abbrev pub x : LeaseRow
  x = lease_row_of (file_at (awake_as s.started) s.files g.file)

  pub now_is : max clock s.last ≡ clock
  now_is = (let below = is.last in omega (arith, below))

  pub node_is : s.started.node ≡ node
  node_is = ap (λ (t : Silent). t.node) is.started

  pub times_is : s.started.times ≡ g.times
  times_is = ap (λ (t : Silent). t.times) is.started

  pub its_file : (file_at (awake_as s.started) s.files g.file).kept.file ≡ g.file
  its_file = at_file (awake_as s.started) s.files g.file

  -- what is overdue, at the node's clock
  pub settled_is : settled_row site f ≡ expired_row clock x
  settled_is = ap (λ (t : ℕ). expired_row t (lease_row_of (file_at (awake_as s.started) s.files g.file))) now_is

  -- a node with an open list of this version isn't one of the closed ones
  not_past : list_version (file_of g s).kept.location ≡ g.list → is_closed (file_of g s).kept ≡ false → IsPast g.list (file_of g s).kept → ⊥
  not_past same open_list (inl later) = omega (arith, same, later)
  not_past same open_list (inr past) = (let so = past.1 in cc (so, open_list))

  pub not_closed : list_version (file_of g s).kept.location ≡ g.list → is_closed (file_of g s).kept ≡ false → closed node.0 ≡ false
  not_closed same open_list = by (closed node.0) refl
    where
      by : (b : Bool) → closed node.0 ≡ b → closed node.0 ≡ false
      by false c = c
      by true c = absurd (not_past same open_list (closed_past c))

  -- ---- the row of a lease that is asked for

  pub asking_is : (location : Option Location) → IsStored location → list_version location ≡ g.list → HasMembers g location
      → row_asks (lease_setting site f.kept.file location) site.node site.now (settled_row site f) (settled_row site f).lease
      ≡ node_asking g node (with_row g closed world node gone end boot clock s is end x)
  asking_is None stored same members = absurd stored
  asking_is (Some list) stored same members =
      let row = lease_row_of (file_at (awake_as s.started) s.files g.file) in
      ap (λ (t : ℕ). (let y = expired_row t row in row_asks (lease_setting site f.kept.file (Some list)) site.node t y y.lease)) now_is
      ∙ ap (λ (n : NodeId). (let y = expired_row clock row in row_asks (lease_setting site f.kept.file (Some list)) n clock y y.lease)) node_is
      ∙ ap (λ (k : FileId). (let y = expired_row clock row in row_asks (record { file = k; list = list.version; members = list.members; times = site.times }) node clock y y.lease)) its_file
      ∙ ap (λ (v : ℕ). (let y = expired_row clock row in row_asks (record { file = g.file; list = v; members = list.members; times = site.times }) node clock y y.lease)) same
      ∙ ap (λ (ms : List NodeId). (let y = expired_row clock row in row_asks (record { file = g.file; list = g.list; members = ms; times = site.times }) node clock y y.lease)) (members list refl same)

  -- ---- a message of this file

  module _ (msg : Msg) (mine : msg.to ≡ node) (came : is_of_version g msg ≡ true → Has msg world.sent) (loud : is_silent s.started now ≡ false) where
    pub is_awake : awake_at s.started (max clock s.last) ≡ Some (awake_as s.started)
    is_awake = ap (λ (b : Bool). cond b None (Some (awake_as s.started))) loud

    awake_since : s.started.start + (g.times.lease + g.times.drift) ≤ clock
    awake_since =
        (let lease_is = ap (λ (t : TimeSettings). t.lease) times_is in
        let drift_is = ap (λ (t : TimeSettings). t.drift) times_is in
        let clock_is = now_is in
        grind (arith, nat_tests))

    abbrev after : OsdStep
    after = step_with_lists outside s clock (event.Deliver msg)

    module _ (named : file_named msg.payload ≡ Some g.file) (members : HasMembers g (file_of g (step_with_lists outside s clock (event.Deliver msg)).osd).kept.location) where
      shows : ShowsMessage outside s clock msg g.file (awake_as s.started)
      shows = message_shows outside s clock msg g.file (awake_as s.started) is_awake named

      same_start : (step_with_lists outside s clock (event.Deliver msg)).osd.started ≡ s.started
      same_start = ap (λ (o : OsdStep). o.osd.started) (message_step outside s clock msg g.file (awake_as s.started) is_awake named)

      -- what the step leaves of the file
      abbrev step : FileStep
      step = file_after (awake_as s.started) (step_with_lists outside s clock (event.Deliver msg)) g.file

      there_is : file_of g (step_with_lists outside s clock (event.Deliver msg)).osd ≡ step.state
      there_is = ap (λ (t : Silent). file_at (awake_as t) (step_with_lists outside s clock (event.Deliver msg)).osd.files g.file) same_start

      becomes : (row : LeaseRow) → row_at g.list step.state ≡ Some row → Becomes g closed world node gone end boot clock s is after.osd row
      becomes row at = record { start = ap (λ (t : Silent). t.start) same_start; row = ap (row_at g.list) there_is ∙ at }

      its_members : HasMembers g step.state.kept.location
      its_members = subst (λ (t : FileState). HasMembers g t.kept.location) there_is members

      abbrev Moves : Type 0
      Moves = IsMoves g closed world node gone end boot clock s outside (event.Deliver msg)

      -- on the list that is stored
      module _ (same : list_version f.kept.location ≡ g.list) (keeps : KeepsVersion f step) where
        was : row_at g.list (file_of g s) ≡ Some x
        was = at_stored g.list f same

        kept_same : list_version step.state.kept.location ≡ g.list
        kept_same = keeps ∙ same

        now_at : (r : RowStep) → ShowsRow step r → row_at g.list step.state ≡ Some r.row
        now_at r p = at_stored g.list step.state kept_same ∙ ap (λ (y : LeaseRow). Some y) p.row

        shown : (r : RowStep) → IsReachedFrom g closed world (row_stepped world node r) → ShowsRow step r → Moves
        shown r reached p =
            record {
              told = r.end;
              reports = of_stored r.end named same p.ends;
              leads =
                  by_step g closed world node gone end boot clock s is x r after.osd after.turned.outs was reached (becomes r.row (now_at r p)) (outs_shown g after.turned.outs r.outs p.outs);
            }

        handling_is : row_handles (lease_setting site f.kept.file step.state.kept.location) site.node site.now (settled_row site f) msg.from msg.payload
            ≡ node_handling g (with_row g closed world node gone end boot clock s is end x) msg
        handling_is =
            let row = lease_row_of (file_at (awake_as s.started) s.files g.file) in
            let ms = members_of step.state.kept.location in
            ap (λ (t : ℕ). row_handles (lease_setting site f.kept.file step.state.kept.location) site.node t (expired_row t row) msg.from msg.payload) now_is
            ∙ ap (λ (n : NodeId). row_handles (lease_setting site f.kept.file step.state.kept.location) n clock (expired_row clock row) msg.from msg.payload) (node_is ∙ sym mine)
            ∙ ap (λ (k : FileId). row_handles (record { file = k; list = list_version step.state.kept.location; members = ms; times = site.times }) msg.to clock (expired_row clock row) msg.from msg.payload) its_file
            ∙ ap (λ (v : ℕ). row_handles (record { file = g.file; list = v; members = ms; times = site.times }) msg.to clock (expired_row clock row) msg.from msg.payload) kept_same

        -- it is about this file's lease, or about none
        by_lease : IsOpenAt f msg.list → (o : Option FileId) → lease_file msg.payload ≡ o → ShowsRow step (node_handling g (with_row g closed world node gone end boot clock s is end x) msg) → Moves
        by_lease open_at (Some k) about p =
            shown (node_handling g (with_row g closed world node gone end boot clock s is end x) msg)
            (handles g closed world node gone end boot clock s is x msg was mine (not_closed same open_at.open_list) (came of_this) awake_since) p
          where
            one_file : Some k ≡ Some g.file
            one_file = sym (lease_concerns msg.payload k about) ∙ named

            of_this : is_of_version g msg ≡ true
            of_this =
                ap (λ (o : Option FileId). is_about g.file o && (msg.list == g.list)) (about ∙ one_file)
                ∙ ap (λ (b : Bool). b && (msg.list == g.list)) (file-itself g.file)
                ∙ eq-eqb msg.list g.list (open_at.same ∙ same)
        by_lease open_at None about p =
            shown (row_expires clock x) (expires g closed world node gone end boot clock s is x was)
            (subst (ShowsRow step) (unhandled g msg.to clock (expired_row clock x) msg.from msg.payload about) p)

        by_follows : Follows site f msg.from msg.list msg.payload step → Moves
        by_follows (view.handles open_at p) = by_lease open_at (lease_file msg.payload) refl (subst (ShowsRow step) handling_is p)
        by_follows (view.asks is_ask open_list stored p) =
            shown (node_asking g node (with_row g closed world node gone end boot clock s is end x))
            (asks g closed world node gone end boot clock s is x was (not_closed same open_list))
            (subst (ShowsRow step) (asking_is step.state.kept.location stored kept_same its_members) p)
        by_follows (view.stays p) =
            shown (row_expires clock x) (expires g closed world node gone end boot clock s is x was) (subst (λ (y : LeaseRow). ShowsRow step (stays_so y)) settled_is p)
        by_follows (view.lets_go version closes kept_so p) =
            let q = subst (λ (y : LeaseRow). ShowsRow step (row_lets_go y)) settled_is p in
            record {
              told = None;
              reports = of_stored None named same q.ends;
              leads =
                  lets_go g closed world node gone end boot clock s is x after.osd after.turned.outs was (becomes (row_lets_go (row_expires clock x).row).row (now_at (row_lets_go (expired_row clock x)) q))
                  (λ m h about. outs_shown g after.turned.outs [] q.outs m h about);
            }

      -- of a later one, and of one that is left
      by_later : IsLater f g.list step → Moves
      by_later l =
          record {
            told = None;
            reports = of_others (λ own stored. omega (arith, stored, l.before));
            leads =
                by_step g closed world node gone end boot clock s is (renewed x) (row_learns l.ballot (renewed x)) after.osd after.turned.outs l.was
                (learns g closed world node gone end boot clock s is (renewed x) l.ballot l.was)
                (becomes (row_learns l.ballot (renewed x)).row l.row)
                (λ m h about. absurd (none_of_other g after.turned.outs l.outs m h about));
          }

      by_left : IsLeft g.list step → Moves
      by_left l =
          record {
            told = None;
            reports = reports shows.shows;
            leads =
                leaves g closed world node gone end boot clock s is after.osd end after.turned.outs (ap (row_at g.list) there_is ∙ l.unseen)
                (λ m h about. none_of_other g after.turned.outs l.outs m h about);
          }
        where
          -- a list that is taken is no lease
          reports : Shows site f msg.from msg.list msg.payload step → Reports g s (event.Deliver msg) after.turned.marks None
          reports (view.goes_on keeps follows) = of_others (λ own stored. (let left = l.after in omega (arith, left, keeps, stored)))
          reports (view.takes_list location head installs kept_so placed p) = nothing p.ends

      pub own_moves : Moves
      own_moves = by (shows.versions g.list)
        where
          by : ShowsAt site f msg.from msg.list msg.payload g.list step → Moves
          by (at_stored_version same keeps follows) = by_follows (sym same) keeps follows
          by (of_later l) = by_later l
          by (of_left l) = by_left l

    -- ---- a message of another file

    pub other_moves : (other : FileId) → file_named msg.payload ≡ Some other → is_file other g.file ≡ false → IsMoves g closed world node gone end boot clock s outside (event.Deliver msg)
    other_moves other named differs =
        record {
          told = None;
          reports = of_others (λ own stored. not_own own);
          leads = unmoved g closed world node gone end boot clock s is after.osd end after.turned.outs same_seen (λ m h about. none_sent m h about);
        }
      where
        whole : step_with_lists outside s clock (event.Deliver msg) ≡ handled outside s (max clock s.last) (awake_as s.started) msg (Some other)
        whole = message_step outside s clock msg other (awake_as s.started) is_awake named

        not_own : file_named msg.payload ≡ Some g.file → ⊥
        not_own own =
            (let both : Some other ≡ Some g.file = sym named ∙ own in
            let one : other ≡ g.file = cc in
            let so : is_file other g.file ≡ true = ap (λ (k : FileId). is_file k g.file) one ∙ file-itself g.file in
            cc (so, differs))

        same_state : file_of g after.osd ≡ file_of g s
        same_state =
            ap (λ (o : OsdStep). file_at (awake_as o.osd.started) after.osd.files g.file) whole
            ∙ (message_shows outside s clock msg other (awake_as s.started) is_awake named).others g.file differs

        same_seen : osd_seen g gone end boot clock after.osd ≡ osd_seen g gone end boot clock s
        same_seen =
            ap (λ (start : ℕ). row_seen gone end boot clock start (row_at g.list (file_of g after.osd))) (ap (λ (o : OsdStep). o.osd.started.start) whole)
            ∙ ap (λ (k : FileState). row_seen gone end boot clock s.started.start (row_at g.list k)) same_state

        its_other : (file_at (awake_as s.started) s.files other).kept.file ≡ other
        its_other = at_file (awake_as s.started) s.files other

        of_step : lease_outs g.file after.turned.outs ≡ []
        of_step =
            ap (λ (o : OsdStep). lease_outs g.file o.turned.outs) whole
            ∙ (message_sends site (file_at (awake_as s.started) s.files other) msg.from msg.list msg.payload).others g.file (ap (λ (k : FileId). is_file k g.file) its_other ∙ differs)

        none_sent : (m : Msg) → Has m after.turned.outs → is_of_version g m ≡ true → ⊥
        none_sent m h about = subst (Has m) of_step (filter_has (λ (k : Msg). is_about g.file (lease_file k.payload)) m after.turned.outs h (of_version_parts g m about).0)
