-- a closed file has no round and no lease, row by row
use Rattle.std.proofs.Common.{◌≡◌, ◌∙◌, ℕ, Bool, true, false, refl, ap, sym, subst, List, Option, Some, None, cond}
use Rattle.xt_base.specs.declared.ids.NodeId.{NodeId}
use Rattle.xt_base.specs.declared.ids.FileId.{FileId}
use Rattle.xt_base.specs.declared.ids.Stamp.{Stamp}
use Rattle.xt_messages.specs.declared.message.Payload.{Payload}
use Rattle.xt_messages.specs.declared.message.Payload.TheVariants as payload
use Rattle.xt_messages.specs.declared.record.FileRow.{FileRow}
use Rattle.xt_messages.specs.declared.record.Record.{Record}
use Rattle.xt_messages.specs.declared.record.Record.TheVariants as kept
use Rattle.xt_protocol.specs.Folds.{body_of}
use Rattle.xt_protocol.specs.Stamps.{has_version}
use Rattle.xt_protocol.specs.LeaseRows.{LeaseState, asking, free, held, lease_expired, writing}
use Rattle.xt_protocol.specs.ReplicaRows.{kept_after}
use Rattle.xt_protocol.specs.FileStates.{FileState, Site, FileStep}
use Rattle.xt_protocol.specs.Overdue.{expired}
use Rattle.xt_protocol.specs.FileSteps.{message_comes, step_of_file}
use Rattle.osd_invariants.specs.Sound.{IsHeld}
use Rattle.osd_invariants.proofs.Kept as kept_steps
use Rattle.lease_runs.specs.LeaseWorld.{LeaseRow}
use Rattle.lease_runs.specs.LeaseView.{settled_row}
use Rattle.lease_runs.specs.ActsView as before_lists
use Rattle.lease_runs.proofs.LeaseSteps.{expired_shows}
use Rattle.lease_runs.proofs.ActSteps as act_steps
use Rattle.list_rows.specs.ListRows.{is_closed, is_version, list_version, step_of_message}
use Rattle.list_laws.specs.Takes.{AskPasses, PassesRows, of_list, asks}
use Rattle.list_laws.specs.Outcomes.{RowGives, speaks, stages, closing, installing}
use Rattle.list_invariants.specs.OpenLists.{StepIs, by_rows, by_own}
use Rattle.list_invariants.proofs.OpenLists.{kept_settled, passes_along, step_is}
use Rattle.listed_leases.specs.LeaseView.{Wakes, listed_wake, renewing, resting}
use Rattle.listed_leases.specs.ActsView.{ClosedIsFree, IsFree}
use Rattle.listed_leases.proofs.Follows.{wake_kept, wake_shows}
use Rattle.listed_leases.proofs.Records.{AskIs, ask_is, calm, for_list, keeps_version}

never : {P : Type 0} (row : FileRow) → is_closed row ≡ false → is_closed row ≡ true → P
never row no_it yes_it = let both : false ≡ true = sym no_it ∙ yes_it in absurd (cc)

-- ---- what is overdue

free_expired : (l : LeaseState) (now : ℕ) → IsFree l → IsFree (lease_expired l now)
free_expired (free p) now is = tt
free_expired (asking r) now is = absurd is
free_expired (writing r) now is = absurd is
free_expired (held h) now is = absurd is

settled_lease : (site : Site) (s : FileState) → (expired site s).state.lease ≡ lease_expired s.lease site.now
settled_lease site s = ap (λ (x : LeaseRow). x.lease) (expired_shows site s).row

pub expired_free : (site : Site) (s : FileState) → ClosedIsFree s → ClosedIsFree (expired site s).state
expired_free site s q closed =
    subst IsFree (sym (settled_lease site s))
    (free_expired s.lease site.now (q (sym (ap is_closed (kept_settled site s)) ∙ closed)))

-- ---- the rows of one list neither close nor open

closed_after : (file : FileId) (content : Payload) (row : FileRow) (rec : Option Record) → before_lists.RecordIs file content rec → (kept_after row rec).closed ≡ row.closed
closed_after file content row None is = refl
closed_after file content row (Some (kept.Promise f epoch)) is = refl
closed_after file content row (Some (kept.Update f update)) is = refl
closed_after file content row (Some (kept.Stage f object version bytes)) is = refl
closed_after file content row (Some (kept.Head f head)) is = refl
closed_after file content row (Some (kept.View f location)) is = refl
closed_after file content row (Some _) is = absurd is

rows_closed : (site : Site) (s : FileState) (from : NodeId) (list : ℕ) (content : Payload) → PassesRows site (expired site s).state list content
    → is_closed (step_of_file site s from content).state.kept ≡ is_closed s.kept
rows_closed site s from list content passes =
    let step = step_of_file site s from content in
    ap (λ (v : ℕ). is_version v step.state.kept.closed) (keeps_version site s from list content passes)
    ∙ ap (λ (o : Option ℕ). is_version (list_version s.kept.location) o)
    (ap (λ (row : FileRow). row.closed) (kept_steps.step_follows site s from content)
    ∙ closed_after s.kept.file content s.kept step.turned.rec (act_steps.step_rec site s from content))

-- an ask that is calm leaves the lease
calm_lease : (site : Site) (s : FileState) (from : NodeId) (content : Payload) → (message_comes site (expired site s).state from content).state.lease ≡ (expired site s).state.lease
    → (step_of_file site s from content).state.lease ≡ (expired site s).state.lease
unfolding step_of_file
calm_lease site s from content is = is

rows_free : (site : Site) (s : FileState) (from : NodeId) (list : ℕ) (content : Payload) → PassesRows site (expired site s).state list content → is_closed (expired site s).state.kept ≡ true
    → IsFree (expired site s).state.lease → IsFree (step_of_file site s from content).state.lease
rows_free site s from list content (of_list among is) closed q = never (expired site s).state.kept is.open_list closed
rows_free site s from list content (asks passes) closed q = at content passes
  where
    at : (c : Payload) → AskPasses site (expired site s).state c → IsFree (step_of_file site s from c).state.lease
    at (payload.Ask number capability asked) passes = of_ask (ask_is site (expired site s).state from number capability asked passes)
      where
        of_ask : AskIs site (expired site s).state (record { client = from; number = number }) capability asked (message_comes site (expired site s).state from (payload.Ask number capability asked))
            → IsFree (step_of_file site s from (payload.Ask number capability asked)).state.lease
        of_ask (for_list open_list is) = never (expired site s).state.kept open_list.open_list closed
        of_ask (calm same) = subst IsFree (sym (calm_lease site s from (payload.Ask number capability asked) same.lease)) q
    at _ passes = absurd passes

-- ---- rows of their own

staged_closed : (s : FileState) (object : ℕ) (version : Stamp) (bytes : List ℕ) (here : Bool)
    → is_closed (kept_after s.kept (cond here None (Some (kept.Stage s.kept.file object version bytes)))) ≡ is_closed s.kept
staged_closed s object version bytes true = refl
staged_closed s object version bytes false = refl

own_free : (site : Site) (s : FileState) (from : NodeId) (content : Payload) (step : FileStep) → RowGives site s from content step → ClosedIsFree s → ClosedIsFree step.state
own_free site s from content step (speaks outs aside is) q = subst (λ (st : FileStep). ClosedIsFree st.state) (sym is) q
own_free site s from content step (stages file object version bytes outs said aside is) q =
    subst (λ (st : FileStep). ClosedIsFree st.state) (sym is)
    (λ closed. q (sym (staged_closed s object version bytes (has_version s.kept.held (body_of object version))) ∙ closed))
own_free site s from content step (closing version at is) q = subst (λ (st : FileStep). ClosedIsFree st.state) (sym is) (λ closed. tt)
own_free site s from content step (installing location head on is) q = subst (λ (st : FileStep). ClosedIsFree st.state) (sym is) (λ closed. tt)

pub step_free : (site : Site) (s : FileState) (from : NodeId) (list : ℕ) (content : Payload) → ClosedIsFree s → ClosedIsFree (step_of_message site s from list content).state
step_free site s from list content q = of_is (step_is site s from list content)
  where
    of_is : StepIs site s from list content (step_of_message site s from list content) → ClosedIsFree (step_of_message site s from list content).state
    of_is (by_rows passes is) =
        let there = passes_along site s (expired site s).state list content (sym (kept_settled site s)) passes in
        subst (λ (st : FileStep). ClosedIsFree st.state) (sym is)
        (λ closed.
        let was : is_closed s.kept ≡ true = sym (rows_closed site s from list content there) ∙ closed in
        let settled : is_closed (expired site s).state.kept ≡ true = ap is_closed (kept_settled site s) ∙ was in
        rows_free site s from list content there settled (expired_free site s q settled))
    of_is (by_own row gives is) =
        subst (λ (st : FileStep). ClosedIsFree st.state) (sym is)
        (own_free site (expired site s).state from content (row (expired site s).state) gives (expired_free site s q))

-- ---- Wakes

held_free : (l : LeaseState) {P : Type 0} → IsFree l → IsHeld l → P
held_free (free p) is also = absurd also
held_free (asking r) is also = absurd is
held_free (writing r) is also = absurd is
held_free (held h) is also = absurd is

pub wake_free : (site : Site) (s : FileState) → ClosedIsFree s → ClosedIsFree (listed_wake site s).state
wake_free site s q closed = at (wake_shows site s)
  where
    settled : IsFree (settled_row site s).lease
    settled = free_expired s.lease site.now (q (sym (ap is_closed (wake_kept site s)) ∙ closed))

    at : Wakes site s (listed_wake site s) → IsFree (listed_wake site s).state.lease
    at (renewing is p) = held_free (settled_row site s).lease settled is
    at (resting p) = subst (λ (x : LeaseRow). IsFree x.lease) (sym p.row) settled
