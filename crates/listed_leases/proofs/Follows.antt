-- the steps of a file show in its lease, where lists change
use Rattle.std.proofs.Common.{◌≡◌, ◌∙◌, ℕ, Bool, true, false, refl, ap, sym, subst, List, [], ◌++◌, Option, Some, None, cond}
use Rattle.std.specs.Prelude.{map}
use Rattle.std.proofs.lemmas.List.Elements.{filter-append}
use Rattle.xt_base.specs.declared.ids.NodeId.{NodeId}
use Rattle.xt_base.specs.declared.ids.FileId.{FileId}
use Rattle.xt_base.specs.declared.ids.Stamp.{Stamp}
use Rattle.xt_messages.specs.Limits.{is_of_list}
use Rattle.xt_messages.specs.declared.file.Capability.{Capability}
use Rattle.xt_messages.specs.declared.file.FileHead.{FileHead}
use Rattle.xt_messages.specs.declared.file.Location.{Location}
use Rattle.xt_messages.specs.declared.file.Op.{Op}
use Rattle.xt_messages.specs.declared.message.Msg.{Msg}
use Rattle.xt_messages.specs.declared.message.Payload.{Payload}
use Rattle.xt_messages.specs.declared.message.Payload.TheVariants as payload
use Rattle.xt_messages.specs.declared.reply.Reply.TheVariants as reply
use Rattle.xt_messages.specs.declared.record.FileRow.{FileRow}
use Rattle.xt_messages.specs.declared.record.Record.{Record}
use Rattle.xt_messages.specs.declared.record.Record.TheVariants as kept
use Rattle.xt_protocol.specs.Folds.{body_of}
use Rattle.xt_protocol.specs.Stamps.{has_version}
use Rattle.xt_protocol.specs.LeaseRows.{LeaseState, asking, free, held, writing}
use Rattle.xt_protocol.specs.Turns.{joined, the_record}
use Rattle.xt_protocol.specs.ReplicaRows.{kept_after}
use Rattle.xt_protocol.specs.Asks.{tells_each, tells_untold}
use Rattle.xt_protocol.specs.FileStates.{FileState, Site, FileStep, and_then}
use Rattle.xt_protocol.specs.Overdue.{expired}
use Rattle.xt_protocol.specs.FileSteps.{message_comes, step_of_file, wake_of_file}
use Rattle.osd_invariants.specs.Sound.{IsStored}
use Rattle.osd_invariants.proofs.Kept.{expired_quiet}
use Rattle.lease_runs.specs.LeaseWorld.{LeaseRow, LeaseSetting, RowStep, row_handles, row_asks, row_lets_go}
use Rattle.lease_runs.specs.LeaseView.{IsBare, ShowsRow, is_ask, is_lease_or_ask, lease_row_of, leases_and_asks, held_end, held_ends, settled_row, stays_so}
use Rattle.lease_runs.specs.LeaseView as before_lists
use Rattle.lease_runs.specs.OsdView.{wake_step}
use Rattle.lease_runs.proofs.Bare.{both_bare, each_told, untold}
use Rattle.lease_runs.proofs.LeaseSteps.{expired_shows}
use Rattle.lease_runs.proofs.LeaseSteps as lease_steps
use Rattle.lease_runs.proofs.OsdLeases as osd_leases
use Rattle.lease_runs.proofs.ActSteps as act_steps
use Rattle.list_rows.specs.ListRows as list_rows
use Rattle.list_rows.specs.ListRows.{as_version, closes, is_closed, list_version, step_of_message, wake_of_listed, with_version}
use Rattle.list_laws.specs.Takes.{AskPasses, IsOpenAt, PassesRows, of_list, asks}
use Rattle.list_laws.specs.Outcomes.{ClosesAt, InstallsOn, RowGives, speaks, stages, closing, installing}
use Rattle.list_invariants.specs.OpenLists.{StepIs, by_rows, by_own}
use Rattle.list_invariants.proofs.OpenLists.{kept_settled, open_along, passes_along, step_is}
use Rattle.listed_leases.specs.LeaseView.{Follows, KeepsVersion, Shows, Wakes, goes_on, lease_setting, listed_wake, renewed, renewing, resting, row_renewed, takes_list}
use Rattle.listed_leases.specs.LeaseView as shown
use Rattle.listed_leases.proofs.Outs.{IsVersioned, all_aside, asks_versioned, handles_versioned, leases_versioned, shown_then, versioned_shows}
use Rattle.listed_leases.proofs.Records.{AskIs, IsCalm, ask_is, calm, for_list, keeps_version}

-- what is overdue shows nothing
pub settled_bare : (site : Site) (s : FileState) → IsBare (expired site s).turned
settled_bare site s = let q = expired_shows site s in record { outs = q.outs; ends = q.ends }

settled_is : (site : Site) (s : FileState) → lease_row_of (expired site s).state ≡ settled_row site s
settled_is site s = (expired_shows site s).row

-- ---- the rows of one list

-- the setting of the first list, with the version of the one that is stored
abbrev first_setting : Site → FileId → Option Location → LeaseSetting
first_setting site file location = before_lists.lease_setting site file location

abbrev with_list : LeaseSetting → ℕ → LeaseSetting
with_list g version = record { file = g.file; list = version; members = g.members; times = g.times }

module _ (site : Site) (s : FileState) (from : NodeId) (list : ℕ) (content : Payload) where
  abbrev own_version : ℕ
  own_version = list_version s.kept.location

  abbrev rows : FileStep
  rows = step_of_file site s from content

  abbrev step : FileStep
  step = with_version own_version rows

  abbrev x : LeaseRow
  x = settled_row site s

  handled : IsOpenAt s list → list_version rows.state.kept.location ≡ own_version
      → ShowsRow rows (row_handles (first_setting site s.kept.file rows.state.kept.location) site.node site.now x from content) → Follows site s from list content step
  handled open_list same p =
      let g = first_setting site s.kept.file rows.state.kept.location in
      shown.handles open_list
      (subst (λ (v : ℕ). ShowsRow step (row_handles (with_list g v) site.node site.now x from content)) (sym same)
      (versioned_shows own_version rows (row_handles g site.node site.now x from content) (row_handles (with_list g own_version) site.node site.now x from content)
      (handles_versioned g own_version site.node site.now x from content) p))

  asked : is_ask content ≡ true → is_closed s.kept ≡ false → IsStored rows.state.kept.location → list_version rows.state.kept.location ≡ own_version
      → ShowsRow rows (row_asks (first_setting site s.kept.file rows.state.kept.location) site.node site.now x x.lease) → Follows site s from list content step
  asked is open_list has same p =
      let g = first_setting site s.kept.file rows.state.kept.location in
      shown.asks is open_list has
      (subst (λ (v : ℕ). ShowsRow step (row_asks (with_list g v) site.node site.now x x.lease)) (sym same)
      (versioned_shows own_version rows (row_asks g site.node site.now x x.lease) (row_asks (with_list g own_version) site.node site.now x x.lease)
      (asks_versioned g own_version site.node site.now x x.lease) p))

  stayed : ShowsRow rows (stays_so x) → Follows site s from list content step
  stayed p = shown.stays (versioned_shows own_version rows (stays_so x) (stays_so x) (record { row = refl; outs = refl; end = refl }) p)

no_ask : (content : Payload) {P : Type 0} → is_of_list content ≡ true → is_ask content ≡ true → P
no_ask (payload.Ask number capability asked) among is = absurd (cc)
no_ask _ among is = absurd (cc)

list_follows : (site : Site) (s : FileState) (from : NodeId) (list : ℕ) (content : Payload) → is_of_list content ≡ true → IsOpenAt s list
    → list_version (step_of_file site s from content).state.kept.location ≡ list_version s.kept.location
    → before_lists.Follows s.kept.file site (settled_row site s) (settled_row site s).lease from content (step_of_file site s from content)
    → Follows site s from list content (with_version (list_version s.kept.location) (step_of_file site s from content))
list_follows site s from list content among open_list same (before_lists.handles p) = handled site s from list content open_list same p
list_follows site s from list content among open_list same (before_lists.asks is stored p) = no_ask content among is
list_follows site s from list content among open_list same (before_lists.stays p) = stayed site s from list content p

ask_follows : (site : Site) (s : FileState) (from : NodeId) (list number : ℕ) (capability : Capability) (ask : Op) → is_closed s.kept ≡ false
    → list_version (step_of_file site s from (payload.Ask number capability ask)).state.kept.location ≡ list_version s.kept.location
    → before_lists.Follows s.kept.file site (settled_row site s) (settled_row site s).lease from (payload.Ask number capability ask) (step_of_file site s from (payload.Ask number capability ask))
    → Follows site s from list (payload.Ask number capability ask) (with_version (list_version s.kept.location) (step_of_file site s from (payload.Ask number capability ask)))
ask_follows site s from list number capability ask open_list same (before_lists.handles p) = stayed site s from list (payload.Ask number capability ask) p
ask_follows site s from list number capability ask open_list same (before_lists.asks is stored p) =
    asked site s from list (payload.Ask number capability ask) is open_list stored same p
ask_follows site s from list number capability ask open_list same (before_lists.stays p) = stayed site s from list (payload.Ask number capability ask) p

-- an ask that is calm after what is overdue leaves the lease
calm_shows : (site : Site) (s : FileState) (from : NodeId) (content : Payload) → IsCalm (expired site s).state (message_comes site (expired site s).state from content)
    → ShowsRow (with_version (list_version s.kept.location) (step_of_file site s from content)) (stays_so (settled_row site s))
unfolding step_of_file
calm_shows site s from content q =
    let e = (expired site s).state in
    let rest = message_comes site e from content in
    shown_then (list_version s.kept.location) (expired site s) (λ state. message_comes site state from content) (stays_so (settled_row site s)) (settled_bare site s) refl
    (record {
      row =
          ap (λ (l : LeaseState). let r : LeaseRow = record { acceptor = rest.state.acceptor; lease = l } in r) q.lease
          ∙ ap (λ a. let r : LeaseRow = record { acceptor = a; lease = e.lease } in r) q.acceptor
          ∙ settled_is site s;
      outs = q.outs;
      ends = ap held_ends q.marks;
    })

ask_shows : (site : Site) (s : FileState) (from : NodeId) (list number : ℕ) (capability : Capability) (ask : Op) → AskPasses site (expired site s).state (payload.Ask number capability ask)
    → list_version (step_of_file site s from (payload.Ask number capability ask)).state.kept.location ≡ list_version s.kept.location
    → Follows site s from list (payload.Ask number capability ask) (with_version (list_version s.kept.location) (step_of_file site s from (payload.Ask number capability ask)))
ask_shows site s from list number capability ask passes same = at (ask_is site (expired site s).state from number capability ask passes)
  where
    at : AskIs site (expired site s).state (record { client = from; number = number }) capability ask (message_comes site (expired site s).state from (payload.Ask number capability ask))
        → Follows site s from list (payload.Ask number capability ask) (with_version (list_version s.kept.location) (step_of_file site s from (payload.Ask number capability ask)))
    at (calm q) = shown.stays (calm_shows site s from (payload.Ask number capability ask) q)
    at (for_list open_list is) =
        ask_follows site s from list number capability ask (ap (λ (row : FileRow). is_closed row) (sym (kept_settled site s)) ∙ open_list.open_list) same
        (lease_steps.step_follows site s from (payload.Ask number capability ask))

rows_follow : (site : Site) (s : FileState) (from : NodeId) (list : ℕ) (content : Payload) → PassesRows site (expired site s).state list content
    → list_version (step_of_file site s from content).state.kept.location ≡ list_version s.kept.location
    → Follows site s from list content (with_version (list_version s.kept.location) (step_of_file site s from content))
rows_follow site s from list content (of_list among is) same =
    list_follows site s from list content among (open_along (expired site s).state s list (kept_settled site s) is) same (lease_steps.step_follows site s from content)
rows_follow site s from list content (asks passes) same = at content passes same
  where
    at : (c : Payload) → AskPasses site (expired site s).state c → list_version (step_of_file site s from c).state.kept.location ≡ list_version s.kept.location
        → Follows site s from list c (with_version (list_version s.kept.location) (step_of_file site s from c))
    at (payload.Ask number capability ask) q same = ask_shows site s from list number capability ask q same
    at _ q same = absurd q

-- ---- rows of their own

-- all asks are told that there is no lease
let_go_bare : (site : Site) (s : FileState) (outs : List Msg) → leases_and_asks outs ≡ []
    → leases_and_asks ((tells_untold site.node s.kept.file s.asks.issued (reply.NoLease s.last_end) ++ tells_each site.node s.kept.file s.asks.waiting (reply.NoLease s.last_end)) ++ outs) ≡ []
let_go_bare site s outs bare =
    let answer = reply.NoLease s.last_end in
    both_bare (tells_untold site.node s.kept.file s.asks.issued answer ++ tells_each site.node s.kept.file s.asks.waiting answer) outs
    (both_bare (tells_untold site.node s.kept.file s.asks.issued answer) (tells_each site.node s.kept.file s.asks.waiting answer)
    (untold site.node s.kept.file s.asks.issued answer) (each_told site.node s.kept.file s.asks.waiting answer)) bare

closes_shows : (site : Site) (s : FileState) (from : NodeId) (v : ℕ) → ShowsRow (closes site s from v) (row_lets_go (lease_row_of s))
closes_shows site s from v = record { row = let_go s.lease; outs = let_go_bare site s _ refl; ends = refl }
  where
    let_go : (l : LeaseState) → lease_row_of (closes site (record s { lease = l }) from v).state ≡ (row_lets_go (lease_row_of (record s { lease = l }))).row
    let_go (free p) = refl
    let_go (asking r) = refl
    let_go (writing r) = refl
    let_go (held h) = refl

takes_shows : (site : Site) (s : FileState) (from : NodeId) (location : Location) (head : FileHead) → ShowsRow (list_rows.takes_list site s from location head) (row_renewed (lease_row_of s))
takes_shows site s from location head = record { row = refl; outs = let_go_bare site s _ refl; ends = refl }

-- where the row is that of what is overdue
along : (step : FileStep) (site : Site) (s : FileState) (r : LeaseRow → RowStep) → ShowsRow step (r (lease_row_of (expired site s).state)) → ShowsRow step (r (settled_row site s))
along step site s r p = subst (λ (y : LeaseRow). ShowsRow step (r y)) (settled_is site s) p

settled_version : (site : Site) (s : FileState) → list_version (expired site s).state.kept.location ≡ list_version s.kept.location
settled_version site s = ap (λ (row : FileRow). list_version row.location) (kept_settled site s)

staged_list : (s : FileState) (object : ℕ) (version : Stamp) (bytes : List ℕ) (here : Bool)
    → (kept_after s.kept (cond here None (Some (kept.Stage s.kept.file object version bytes)))).location ≡ s.kept.location
staged_list s object version bytes true = refl
staged_list s object version bytes false = refl

closes_along : (s t : FileState) (content : Payload) (v : ℕ) → s.kept ≡ t.kept → ClosesAt s.kept content v → ClosesAt t.kept content v
closes_along s t content v same at = subst (λ (row : FileRow). ClosesAt row content v) same at

own_shows : (site : Site) (s : FileState) (from : NodeId) (list : ℕ) (content : Payload) (row : FileState → FileStep)
    → RowGives site (expired site s).state from content (row (expired site s).state)
    → Shows site s from list content (with_version (list_version s.kept.location) (and_then (expired site s) row))
own_shows site s from list content row gives = at gives
  where
    e : FileState
    e = (expired site s).state

    v : ℕ
    v = list_version s.kept.location

    whole : (r : LeaseRow → RowStep) → ((y : LeaseRow) → (r y).outs ≡ []) → ShowsRow (row e) (r (lease_row_of e)) → ShowsRow (with_version v (and_then (expired site s) row)) (r (settled_row site s))
    whole r none p = shown_then v (expired site s) row (r (settled_row site s)) (settled_bare site s) (none (settled_row site s)) (along (row e) site s r p)

    -- the record of the whole is that of the row
    whole_rec : (with_version v (and_then (expired site s) row)).turned.rec ≡ (row e).turned.rec
    whole_rec = ap (λ (r : Option Record). the_record r (row e).turned.rec) (expired_quiet site s).0

    same_file : e.kept.file ≡ s.kept.file
    same_file = ap (λ (k : FileRow). k.file) (kept_settled site s)

    same_version : (row e).state.kept.location ≡ e.kept.location → KeepsVersion s (with_version v (and_then (expired site s) row))
    same_version same = ap list_version same ∙ settled_version site s

    at : RowGives site e from content (row e) → Shows site s from list content (with_version v (and_then (expired site s) row))
    at (speaks outs aside is) =
        goes_on (same_version (ap (λ (st : FileStep). st.state.kept.location) is))
        (shown.stays (whole stays_so (λ y. refl)
        (subst (λ (st : FileStep). ShowsRow st (stays_so (lease_row_of e))) (sym is) (record { row = refl; outs = all_aside outs aside; ends = refl }))))
    at (stages file object version bytes outs said aside is) =
        goes_on (same_version (ap (λ (st : FileStep). st.state.kept.location) is ∙ staged_list e object version bytes (has_version e.kept.held (body_of object version))))
        (shown.stays (whole stays_so (λ y. refl)
        (subst (λ (st : FileStep). ShowsRow st (stays_so (lease_row_of e))) (sym is) (record { row = refl; outs = all_aside outs aside; ends = refl }))))
    at (closing version closes_at is) =
        goes_on (same_version (ap (λ (st : FileStep). st.state.kept.location) is))
        (shown.lets_go version (closes_along e s content version (kept_settled site s) closes_at)
        (whole_rec ∙ ap (λ (st : FileStep). st.turned.rec) is ∙ ap (λ (f : FileId). Some (kept.Close f version)) same_file)
        (whole row_lets_go (λ y. refl) (subst (λ (st : FileStep). ShowsRow st (row_lets_go (lease_row_of e))) (sym is) (closes_shows site e from version))))
    at (installing location head installs_on is) =
        takes_list location head (subst (λ (k : FileRow). InstallsOn k content location head) (kept_settled site s) installs_on)
        (whole_rec ∙ ap (λ (st : FileStep). st.turned.rec) is ∙ ap (λ (f : FileId). Some (kept.Install f location head)) same_file)
        (ap (λ (st : FileStep). st.state.kept.location) is)
        (whole row_renewed (λ y. refl) (subst (λ (st : FileStep). ShowsRow st (row_renewed (lease_row_of e))) (sym is) (takes_shows site e from location head)))

-- a row of its own sends nothing about leases
pub own_bare : (site : Site) (s : FileState) (from : NodeId) (content : Payload) (row : FileState → FileStep)
    → RowGives site (expired site s).state from content (row (expired site s).state)
    → leases_and_asks (with_version (list_version s.kept.location) (and_then (expired site s) row)).turned.outs ≡ []
own_bare site s from content row gives =
    leases_versioned (list_version s.kept.location) ((expired site s).turned.outs ++ (row e).turned.outs)
    ∙ ap (λ (ms : List Msg). map (as_version (list_version s.kept.location)) ms)
    (both_bare (expired site s).turned.outs (row e).turned.outs (settled_bare site s).outs (rest_bare (row e) gives))
  where
    e : FileState
    e = (expired site s).state

    rest_bare : (st : FileStep) → RowGives site e from content st → leases_and_asks st.turned.outs ≡ []
    rest_bare st (speaks outs aside is) = ap (λ (x : FileStep). leases_and_asks x.turned.outs) is ∙ all_aside outs aside
    rest_bare st (stages file object version bytes outs said aside is) = ap (λ (x : FileStep). leases_and_asks x.turned.outs) is ∙ all_aside outs aside
    rest_bare st (closing version closes_at is) = ap (λ (x : FileStep). leases_and_asks x.turned.outs) is ∙ (closes_shows site e from version).outs
    rest_bare st (installing location head installs_on is) = ap (λ (x : FileStep). leases_and_asks x.turned.outs) is ∙ (takes_shows site e from location head).outs

pub step_shows : (site : Site) (s : FileState) (from : NodeId) (list : ℕ) (content : Payload) → Shows site s from list content (step_of_message site s from list content)
step_shows site s from list content = of_is (step_is site s from list content)
  where
    of_is : StepIs site s from list content (step_of_message site s from list content) → Shows site s from list content (step_of_message site s from list content)
    of_is (by_rows passes is) =
        let there = passes_along site s (expired site s).state list content (sym (kept_settled site s)) passes in
        let same = keeps_version site s from list content there in
        subst (λ (st : FileStep). Shows site s from list content st) (sym is) (goes_on same (rows_follow site s from list content there same))
    of_is (by_own row gives is) = subst (λ (st : FileStep). Shows site s from list content st) (sym is) (own_shows site s from list content row gives)

-- ---- Wakes

-- a Wake of the rows of one list, with the version put on what the second part sends
woke_versioned : (version : ℕ) (first second : FileStep) (r r' : RowStep) → IsBare first.turned → IsVersioned version r r'
    → ShowsRow (record { state = second.state; turned = joined first.turned second.turned }) r
    → ShowsRow (record { state = second.state; turned = joined first.turned (with_version version second).turned }) r'
woke_versioned version first second r r' bare same p =
    record {
      row = p.row ∙ same.row;
      outs =
          filter-append is_lease_or_ask first.turned.outs (with_version version second).turned.outs
          ∙ ap (λ (ms : List Msg). ms ++ leases_and_asks (with_version version second).turned.outs) bare.outs
          ∙ leases_versioned version second.turned.outs
          ∙ ap (λ (ms : List Msg). map (as_version version) ms)
          (sym (filter-append is_lease_or_ask first.turned.outs second.turned.outs ∙ ap (λ (ms : List Msg). ms ++ leases_and_asks second.turned.outs) bare.outs) ∙ p.outs)
          ∙ same.outs;
      ends = p.ends ∙ ap before_lists.listed same.end;
    }

pub wake_kept : (site : Site) (s : FileState) → (listed_wake site s).state.kept ≡ s.kept
unfolding wake_of_listed
wake_kept site s = act_steps.wake_step_kept site s

pub wake_shows : (site : Site) (s : FileState) → Wakes site s (listed_wake site s)
unfolding wake_of_listed
wake_shows site s = at (osd_leases.each_wakes site s)
  where
    first : FileStep
    first = expired site s

    second : FileStep
    second = wake_of_file site first.state

    v : ℕ
    v = list_version first.state.kept.location

    x : LeaseRow
    x = settled_row site s

    same : list_version second.state.kept.location ≡ v
    same = ap (λ (row : FileRow). list_version row.location) (act_steps.wake_step_kept site s ∙ sym (kept_settled site s))

    at : before_lists.Wakes s.kept.file site x x.lease (wake_step site s) → Wakes site s (listed_wake site s)
    at (before_lists.renewing is p) =
        let g = first_setting site s.kept.file second.state.kept.location in
        renewing is
        (subst (λ (n : ℕ). ShowsRow (listed_wake site s) (row_asks (with_list g n) site.node site.now x x.lease)) (sym same)
        (woke_versioned v first second (row_asks g site.node site.now x x.lease) (row_asks (with_list g v) site.node site.now x x.lease) (settled_bare site s)
        (asks_versioned g v site.node site.now x x.lease) p))
    at (before_lists.resting p) =
        resting (woke_versioned v first second (stays_so x) (stays_so x) (settled_bare site s) (record { row = refl; outs = refl; end = refl }) p)
