-- the messages about leases by their files, with the version of the list on them
use Rattle.std.proofs.Common.{◌≡◌, ◌∙◌, ℕ, Bool, true, false, refl, ap, sym, subst, List, [], ◌∷◌, ◌++◌, Option, Some, None, cond}
use Rattle.std.specs.Prelude.{map, ◌||◌, is_some}
use Rattle.std.proofs.lemmas.List.Elements.{filter-append}
use Rattle.xt_base.specs.declared.ids.NodeId.{NodeId}
use Rattle.xt_base.specs.declared.ids.FileId.{FileId}
use Rattle.xt_messages.specs.Limits.{is_of_list}
use Rattle.xt_messages.specs.declared.message.Msg.{Msg}
use Rattle.xt_messages.specs.declared.message.Payload.{Payload}
use Rattle.xt_protocol.specs.FileIds.{is_file}
use Rattle.xt_protocol.specs.FileStates.{FileState, Site, FileStep, and_then}
use Rattle.xt_protocol.specs.Overdue.{expired}
use Rattle.xt_protocol.specs.FileSteps.{step_of_file, wake_of_file}
use Rattle.lease_runs.specs.LeaseWorld.{lease_file}
use Rattle.lease_runs.specs.LeaseView.{is_about, is_ask, is_lease_or_ask, lease_outs, leases_and_asks}
use Rattle.lease_runs.specs.OsdView.{wake_step}
use Rattle.lease_runs.specs.OutsView.{SendsOfFile}
use Rattle.lease_runs.proofs.LeaseOuts as before_lists
use Rattle.list_rows.specs.ListRows.{as_version, list_version, step_of_message, wake_of_listed, with_version}
use Rattle.list_invariants.specs.OpenLists.{StepIs, by_rows, by_own}
use Rattle.list_invariants.proofs.OpenLists.{step_is}
use Rattle.listed_leases.specs.LeaseView.{listed_wake}
use Rattle.listed_leases.proofs.Outs.{leases_versioned}
use Rattle.listed_leases.proofs.Follows.{own_bare, settled_bare}

-- ---- one file's messages, with a version put on them

abbrev about : FileId → Msg → Bool
about file m = is_about file (lease_file m.payload)

same_test : (version : ℕ) (file : FileId) (m : Msg) → about file (as_version version m) ≡ about file m
same_test version file m = one_of (is_of_list m.payload)
  where
    one_of : (b : Bool) → about file (cond b (record m { list = version }) m) ≡ about file m
    one_of true = refl
    one_of false = refl

outs_versioned : (version : ℕ) (file : FileId) (outs : List Msg) → lease_outs file (map (as_version version) outs) ≡ map (as_version version) (lease_outs file outs)
outs_versioned version file [] = refl
outs_versioned version file (m ∷ ms) =
    ap (λ (b : Bool). cond b (as_version version m ∷ lease_outs file (map (as_version version) ms)) (lease_outs file (map (as_version version) ms))) (same_test version file m)
    ∙ one_of (about file m) (outs_versioned version file ms)
  where
    one_of : (b : Bool) → lease_outs file (map (as_version version) ms) ≡ map (as_version version) (lease_outs file ms)
        → cond b (as_version version m ∷ lease_outs file (map (as_version version) ms)) (lease_outs file (map (as_version version) ms))
        ≡ map (as_version version) (cond b (m ∷ lease_outs file ms) (lease_outs file ms))
    one_of true rest = ap (λ (others : List Msg). as_version version m ∷ others) rest
    one_of false rest = rest

-- a message about a lease is one of leases and asks
about_lease : (file : FileId) (m : Msg) → about file m ≡ true → is_lease_or_ask m ≡ true
about_lease file m is = at (lease_file m.payload) is
  where
    at : (o : Option FileId) → is_about file o ≡ true → (is_some o || is_ask m.payload) ≡ true
    at None is = absurd (cc)
    at (Some f) is = refl

-- where nothing is about leases, nothing is about that of a file
pub bare_file : (file : FileId) (outs : List Msg) → leases_and_asks outs ≡ [] → lease_outs file outs ≡ []
bare_file file [] none = refl
bare_file file (m ∷ ms) none = at (about file m) refl (is_lease_or_ask m) refl none (λ gone. bare_file file ms gone)
  where
    at : (a : Bool) → about file m ≡ a → (b : Bool) → is_lease_or_ask m ≡ b → cond b (m ∷ leases_and_asks ms) (leases_and_asks ms) ≡ []
        → (leases_and_asks ms ≡ [] → lease_outs file ms ≡ []) → cond a (m ∷ lease_outs file ms) (lease_outs file ms) ≡ []
    at true is true lease gone rest = absurd (cc)
    at true is false lease gone rest = let both : true ≡ false = sym (about_lease file m is) ∙ lease in absurd (cc)
    at false is true lease gone rest = absurd (cc)
    at false is false lease gone rest = rest gone

-- what is sent of a file is so with a version on it, also after messages that aren't about leases
pub sends_after : (version : ℕ) (file : FileId) (first : List Msg) (step : FileStep) (whole : FileStep) → leases_and_asks first ≡ [] → SendsOfFile file step
    → step.turned.outs ≡ first ++ whole.turned.outs → (after : FileStep) → after.turned.outs ≡ first ++ map (as_version version) whole.turned.outs
    → SendsOfFile file after
sends_after version file first step whole bare sends is after is_after =
    record {
      own =
          ap (lease_outs file) is_after
          ∙ part file whole.turned.outs
          ∙ ap (λ (ms : List Msg). map (as_version version) ms) own_rest
          ∙ sym (leases_versioned version whole.turned.outs)
          ∙ sym (ap leases_and_asks is_after ∙ filter-append is_lease_or_ask first (map (as_version version) whole.turned.outs)
          ∙ ap (λ (ms : List Msg). ms ++ leases_and_asks (map (as_version version) whole.turned.outs)) bare);
      others = λ other differ. ap (lease_outs other) is_after ∙ part other whole.turned.outs ∙ ap (λ (ms : List Msg). map (as_version version) ms) (other_rest other differ);
    }
  where
    -- of the first messages nothing is about a lease
    part : (k : FileId) (outs : List Msg) → lease_outs k (first ++ map (as_version version) outs) ≡ map (as_version version) (lease_outs k outs)
    part k outs =
        filter-append (about k) first (map (as_version version) outs)
        ∙ ap (λ (ms : List Msg). ms ++ lease_outs k (map (as_version version) outs)) (bare_file k first bare)
        ∙ outs_versioned version k outs

    rest_of : (k : FileId) → lease_outs k step.turned.outs ≡ lease_outs k whole.turned.outs
    rest_of k =
        ap (lease_outs k) is ∙ filter-append (about k) first whole.turned.outs
        ∙ ap (λ (ms : List Msg). ms ++ lease_outs k whole.turned.outs) (bare_file k first bare)

    own_rest : lease_outs file whole.turned.outs ≡ leases_and_asks whole.turned.outs
    own_rest =
        sym (rest_of file) ∙ sends.own ∙ ap leases_and_asks is ∙ filter-append is_lease_or_ask first whole.turned.outs
        ∙ ap (λ (ms : List Msg). ms ++ leases_and_asks whole.turned.outs) bare

    other_rest : (k : FileId) → is_file file k ≡ false → lease_outs k whole.turned.outs ≡ []
    other_rest k differ = sym (rest_of k) ∙ sends.others k differ

sends_nothing : (file : FileId) (step : FileStep) → leases_and_asks step.turned.outs ≡ [] → SendsOfFile file step
sends_nothing file step none =
    record { own = bare_file file step.turned.outs none ∙ sym none; others = λ other differ. bare_file other step.turned.outs none }

pub message_sends : (site : Site) (s : FileState) (from : NodeId) (list : ℕ) (content : Payload) → SendsOfFile s.kept.file (step_of_message site s from list content)
message_sends site s from list content = of_is (step_is site s from list content)
  where
    of_is : StepIs site s from list content (step_of_message site s from list content) → SendsOfFile s.kept.file (step_of_message site s from list content)
    of_is (by_rows passes is) =
        let rows = step_of_file site s from content in
        let v = list_version s.kept.location in
        subst (λ (st : FileStep). SendsOfFile s.kept.file st) (sym is)
        (sends_after v s.kept.file [] rows rows refl (before_lists.message_sends site s from content) refl (with_version v rows) refl)
    of_is (by_own row gives is) =
        subst (λ (st : FileStep). SendsOfFile s.kept.file st) (sym is)
        (sends_nothing s.kept.file (with_version (list_version s.kept.location) (and_then (expired site s) row)) (own_bare site s from content row gives))

pub wake_sends : (site : Site) (s : FileState) → SendsOfFile s.kept.file (listed_wake site s)
unfolding wake_of_listed
wake_sends site s =
    let first = expired site s in
    sends_after (list_version first.state.kept.location) s.kept.file first.turned.outs (wake_step site s) (wake_of_file site first.state) (settled_bare site s).outs
    (before_lists.wake_sends site s) refl (listed_wake site s) refl
