-- what a step sends about leases is about the lease of its file
use Rattle.std.proofs.Common.{◌≡◌, refl, ap, sym, ◌∙◌, inl, inr, List, [], ◌∷◌, false}
use Rattle.std.specs.Prelude.{Option, Some, None, cond, is_some, ◌||◌, Bool, true}
use Rattle.xt_base.specs.declared.ids.NodeId.{NodeId}
use Rattle.xt_base.specs.declared.ids.FileId.{FileId}
use Rattle.xt_messages.specs.declared.message.Msg.{Msg}
use Rattle.xt_messages.specs.declared.message.Payload.{Payload}
use Rattle.xt_protocol.specs.FileIds.{is_file}
use Rattle.xt_protocol.proofs.Folds.{file-itself}
use Rattle.xt_protocol.specs.LeaseRows.{LeaseState}
use Rattle.lease_runs.specs.LeaseWorld.{LeaseSetting, LeaseRow, RowStep, lease_file}
use Rattle.lease_runs.proofs.Outs.{AreOf, handles_of, asks_of}
use Rattle.xt_protocol.specs.FileStates.{FileState, Site, FileStep}
use Rattle.xt_protocol.specs.FileSteps.{step_of_file}
use Rattle.lease_runs.specs.LeaseView.{is_ask, lease_setting, leases_and_asks, lease_outs, is_about, ShowsRow, Follows, handles, asks, stays, Wakes, renewing, resting, settled_row}
use Rattle.lease_runs.specs.OsdView.{wake_step}
use Rattle.lease_runs.specs.OutsView.{SendsOfFile}
use Rattle.lease_runs.proofs.LeaseSteps.{step_follows}
use Rattle.lease_runs.proofs.OsdLeases.{each_wakes}

-- only messages about leases count
outs_of_leases : (k : FileId) (ms : List Msg) → lease_outs k ms ≡ lease_outs k (leases_and_asks ms)
outs_of_leases k [] = refl
outs_of_leases k (m ∷ ms) = by_file (outs_of_leases k ms) (lease_file m.payload) refl
  where
    by_file : lease_outs k ms ≡ lease_outs k (leases_and_asks ms) → (o : Option FileId) → lease_file m.payload ≡ o → lease_outs k (m ∷ ms) ≡ lease_outs k (leases_and_asks (m ∷ ms))
    by_file rest None is = other (is_ask m.payload)
      where
        other : (b : Bool) → lease_outs k (m ∷ ms) ≡ lease_outs k (cond (is_some (lease_file m.payload) || b) (m ∷ leases_and_asks ms) (leases_and_asks ms))
        other true =
            ap (λ o. cond (is_about k o) (m ∷ lease_outs k ms) (lease_outs k ms)) is ∙ rest
            ∙ sym (ap (λ o. lease_outs k (cond (is_some o || true) (m ∷ leases_and_asks ms) (leases_and_asks ms))) is ∙ ap (λ o. cond (is_about k o) (m ∷ lease_outs k (leases_and_asks ms)) (lease_outs k (leases_and_asks ms))) is)
        other false =
            ap (λ o. cond (is_about k o) (m ∷ lease_outs k ms) (lease_outs k ms)) is ∙ rest
            ∙ sym (ap (λ o. lease_outs k (cond (is_some o || false) (m ∷ leases_and_asks ms) (leases_and_asks ms))) is)
    by_file rest (Some f) is =
        ap (λ others. cond (is_about k (lease_file m.payload)) (m ∷ others) others) rest
        ∙ sym (ap (λ o. lease_outs k (cond (is_some o || is_ask m.payload) (m ∷ leases_and_asks ms) (leases_and_asks ms))) is)

all_own : (g : LeaseSetting) (ms : List Msg) → AreOf g ms → lease_outs g.file ms ≡ ms
all_own g [] are = refl
all_own g (m ∷ ms) are =
    ap (λ b. cond b (m ∷ lease_outs g.file ms) (lease_outs g.file ms)) (ap (is_about g.file) (are m (inl refl)) ∙ file-itself g.file)
    ∙ ap (λ others. m ∷ others) (all_own g ms (λ x h. are x (inr h)))

none_other : (g : LeaseSetting) (ms : List Msg) (k : FileId) → is_file g.file k ≡ false → AreOf g ms → lease_outs k ms ≡ []
none_other g [] k differ are = refl
none_other g (m ∷ ms) k differ are =
    ap (λ b. cond b (m ∷ lease_outs k ms) (lease_outs k ms)) (ap (is_about k) (are m (inl refl)) ∙ differ)
    ∙ none_other g ms k differ (λ x h. are x (inr h))

sends_of : (g : LeaseSetting) (step : FileStep) (r : RowStep) → ShowsRow step r → AreOf g r.outs → SendsOfFile g.file step
sends_of g step r shows are =
    record {
      own = outs_of_leases g.file step.turned.outs ∙ ap (lease_outs g.file) shows.outs ∙ all_own g r.outs are ∙ sym shows.outs;
      others = λ k differ. outs_of_leases k step.turned.outs ∙ ap (lease_outs k) shows.outs ∙ none_other g r.outs k differ are;
    }

followed : (file : FileId) (site : Site) (x : LeaseRow) (l : LeaseState) (from : NodeId) (content : Payload) (step : FileStep)
    → Follows file site x l from content step → SendsOfFile file step
followed file site x l from content step (handles p) =
    let g = lease_setting site file step.state.kept.location in sends_of g step _ p (handles_of g site.node site.now x from content)
followed file site x l from content step (asks is stored p) =
    let g = lease_setting site file step.state.kept.location in sends_of g step _ p (asks_of g site.node site.now x l)
followed file site x l from content step (stays p) = sends_of (lease_setting site file step.state.kept.location) step _ p (λ m h. absurd h)

woken : (file : FileId) (site : Site) (x : LeaseRow) (l : LeaseState) (step : FileStep) → Wakes file site x l step → SendsOfFile file step
woken file site x l step (renewing is p) =
    let g = lease_setting site file step.state.kept.location in sends_of g step _ p (asks_of g site.node site.now x l)
woken file site x l step (resting p) = sends_of (lease_setting site file step.state.kept.location) step _ p (λ m h. absurd h)

pub message_sends : (site : Site) (s : FileState) (from : NodeId) (content : Payload) → SendsOfFile s.kept.file (step_of_file site s from content)
message_sends site s from content =
    followed s.kept.file site (settled_row site s) (settled_row site s).lease from content (step_of_file site s from content) (step_follows site s from content)

pub wake_sends : (site : Site) (s : FileState) → SendsOfFile s.kept.file (wake_step site s)
wake_sends site s = woken s.kept.file site (settled_row site s) (settled_row site s).lease (wake_step site s) (each_wakes site s)
