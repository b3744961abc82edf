-- what a step shows of each version of the list
use Rattle.std.proofs.Common.{◌≡◌, ◌≤◌, ◌<◌, ◌⊎◌, inl, inr, ◌∙◌, ℕ, Bool, true, false, refl, ap, sym, subst, List, [], ◌∷◌, ◌++◌, Option, Some, None, cond, arith}
use Rattle.std.specs.Prelude.{◌==◌, nat_le, nat_lt}
use Rattle.std.specs.List.{AllByRecursion}
use Rattle.std.proofs.lemmas.Bool.Decides.{nat_tests}
use Rattle.xt_base.specs.TimeSettings.{TimeSettings}
use Rattle.xt_base.specs.declared.ids.NodeId.{NodeId}
use Rattle.xt_messages.specs.declared.file.FileHead.{FileHead}
use Rattle.xt_messages.specs.declared.file.Location.{Location}
use Rattle.xt_messages.specs.declared.message.Msg.{Msg}
use Rattle.xt_messages.specs.declared.message.Payload.{Payload}
use Rattle.xt_messages.specs.declared.record.FileRow.{FileRow}
use Rattle.xt_protocol.specs.Register.{new_acceptor}
use Rattle.xt_protocol.specs.LeaseRows.{Awake, free}
use Rattle.xt_protocol.specs.FileStates.{FileState, Site, FileStep, file_from}
use Rattle.xt_protocol.specs.Overdue.{expired}
use Rattle.xt_protocol.specs.FileSteps.{wake_of_file}
use Rattle.lease_runs.specs.LeaseWorld.{LeaseRow, LeaseSetting, fresh_row}
use Rattle.lease_runs.specs.LeaseView.{ShowsRow, lease_row_of, settled_row}
use Rattle.list_rows.specs.ListRows.{list_version, proposer_of, step_of_message, wake_of_listed}
use Rattle.list_invariants.proofs.OpenLists.{kept_settled}
use Rattle.list_laws.specs.Outcomes.{InstallsOn}
use Rattle.list_laws.specs.Versions.{CarriesVersion}
use Rattle.list_laws.proofs.Versions.{all_carry}
use Rattle.listed_leases.specs.LeaseView.{Follows, KeepsVersion, Shows, Wakes, asks, goes_on, handles, lease_setting, lets_go, listed_wake, renewed, renewing, resting, row_renewed, stays, takes_list}
use Rattle.listed_leases.specs.VersionView.{IsLater, IsLeft, IsOfOther, ShowsAt, StartsAt, WakesAt, fresh, row_at, unseen}
use Rattle.listed_leases.specs.VersionView as at_version
use Rattle.listed_leases.proofs.Outs.{all_other, bare_other}
use Rattle.listed_leases.proofs.Learning.{GoesOn, as_ballot, asks_on, expired_on, handles_on, lets_go_on, on_then, renewed_learns, renewed_on, stays_on}
use Rattle.listed_leases.proofs.Follows.{settled_bare, step_shows, wake_kept, wake_shows}

-- ---- a file at a version

abbrev picked : Bool → Bool → LeaseRow → Option LeaseRow
picked left same x = cond left None (cond same (Some x) (Some (renewed x)))

at_stored : (version : ℕ) (s : FileState) → version ≡ list_version s.kept.location → row_at version s ≡ Some (lease_row_of s)
at_stored version s is =
    ap (λ (b : Bool). picked b (version == list_version s.kept.location) (lease_row_of s)) (not_below version (list_version s.kept.location) is)
    ∙ ap (λ (b : Bool). cond b (Some (lease_row_of s)) (Some (renewed (lease_row_of s)))) (equal version (list_version s.kept.location) is)
  where
    not_below : (a b : ℕ) → a ≡ b → nat_lt a b ≡ false
    not_below a b is = grind (arith, nat_tests, is)

    equal : (a b : ℕ) → a ≡ b → (a == b) ≡ true
    equal a b is = grind (arith, nat_tests, is)

at_later : (version : ℕ) (s : FileState) → list_version s.kept.location < version → row_at version s ≡ Some (renewed (lease_row_of s))
at_later version s less =
    ap (λ (b : Bool). picked b (version == list_version s.kept.location) (lease_row_of s)) (not_below version (list_version s.kept.location) less)
    ∙ ap (λ (b : Bool). cond b (Some (lease_row_of s)) (Some (renewed (lease_row_of s)))) (unequal version (list_version s.kept.location) less)
  where
    not_below : (a b : ℕ) → b < a → nat_lt a b ≡ false
    not_below a b less = grind (arith, nat_tests, less)

    unequal : (a b : ℕ) → b < a → (a == b) ≡ false
    unequal a b less = grind (arith, nat_tests, less)

at_left : (version : ℕ) (s : FileState) → version < list_version s.kept.location → row_at version s ≡ None
at_left version s less = ap (λ (b : Bool). picked b (version == list_version s.kept.location) (lease_row_of s)) (below version (list_version s.kept.location) less)
  where
    below : (a b : ℕ) → a < b → nat_lt a b ≡ true
    below a b less = grind (arith, nat_tests, less)

order : (a b : ℕ) → (a < b) ⊎ ((a ≡ b) ⊎ (b < a))
order a b = at (nat_lt a b) refl (nat_lt b a) refl
  where
    at : (p : Bool) → nat_lt a b ≡ p → (q : Bool) → nat_lt b a ≡ q → (a < b) ⊎ ((a ≡ b) ⊎ (b < a))
    at true is q more = inl (grind (arith, nat_tests, is))
    at false is true more = inr (inr (grind (arith, nat_tests, more)))
    at false is false more = inr (inl (grind (arith, nat_tests, is, more)))

less_along : (a b c : ℕ) → a < b → c ≡ b → a < c
less_along a b c less is = subst (λ (n : ℕ). a < n) (sym is) less

differ_less : (a b : ℕ) → a < b → b ≡ a → ⊥
differ_less a b less is = grind (arith, less, is)

differ_more : (a b : ℕ) → a < b → a ≡ b → ⊥
differ_more a b less is = grind (arith, less, is)

at_most : (a b c : ℕ) → b < a → c ≡ b → c ≤ a
at_most a b c less is = grind (arith, less, is)

-- ---- how a lease goes on

follows_on : (site : Site) (s : FileState) (from : NodeId) (list : ℕ) (content : Payload) (step : FileStep) → Follows site s from list content step
    → GoesOn (lease_row_of s) (lease_row_of step.state)
follows_on site s from list content step follows =
    on_then (lease_row_of s) (settled_row site s) (lease_row_of step.state) (expired_on site.now (lease_row_of s)) (rest follows)
  where
    x : LeaseRow
    x = settled_row site s

    rest : Follows site s from list content step → GoesOn x (lease_row_of step.state)
    rest (handles open_list p) =
        subst (λ (y : LeaseRow). GoesOn x y) (sym p.row) (handles_on (lease_setting site s.kept.file step.state.kept.location) site.node site.now x from content)
    rest (asks is open_list stored p) =
        subst (λ (y : LeaseRow). GoesOn x y) (sym p.row) (asks_on (lease_setting site s.kept.file step.state.kept.location) site.node site.now x x.lease refl)
    rest (stays p) = subst (λ (y : LeaseRow). GoesOn x y) (sym p.row) (stays_on x)
    rest (lets_go version closes rec p) = subst (λ (y : LeaseRow). GoesOn x y) (sym p.row) (lets_go_on x)

wakes_on : (site : Site) (s : FileState) (step : FileStep) → Wakes site s step → GoesOn (lease_row_of s) (lease_row_of step.state)
wakes_on site s step wakes = on_then (lease_row_of s) (settled_row site s) (lease_row_of step.state) (expired_on site.now (lease_row_of s)) (rest wakes)
  where
    x : LeaseRow
    x = settled_row site s

    rest : Wakes site s step → GoesOn x (lease_row_of step.state)
    rest (renewing is p) =
        subst (λ (y : LeaseRow). GoesOn x y) (sym p.row) (asks_on (lease_setting site s.kept.file step.state.kept.location) site.node site.now x x.lease refl)
    rest (resting p) = subst (λ (y : LeaseRow). GoesOn x y) (sym p.row) (stays_on x)

-- ---- a version that isn't the stored one, where the stored one goes on

is_later : (s : FileState) (version : ℕ) (step : FileStep) → list_version s.kept.location < version → KeepsVersion s step → GoesOn (lease_row_of s) (lease_row_of step.state)
    → AllByRecursion (IsOfOther version) step.turned.outs → IsLater s version step
is_later s version step less same on outs =
    record {
      ballot = as_ballot (proposer_of step.state.lease);
      before = less;
      after = at_most version (list_version s.kept.location) (list_version step.state.kept.location) less same;
      was = at_later version s less;
      row =
          at_later version step.state (subst (λ (n : ℕ). n < version) (sym same) less)
          ∙ ap (λ (y : LeaseRow). Some y) (renewed_learns (lease_row_of s) (lease_row_of step.state) on);
      outs = outs;
    }

is_left : (s : FileState) (version : ℕ) (step : FileStep) → version < list_version step.state.kept.location → AllByRecursion (IsOfOther version) step.turned.outs → IsLeft version step
is_left s version step less outs = record { after = less; unseen = at_left version step.state less; outs = outs }

-- ---- a message

pub message_carries : (site : Site) (s : FileState) (from : NodeId) (list : ℕ) (content : Payload)
    → AllByRecursion (CarriesVersion (list_version s.kept.location)) (step_of_message site s from list content).turned.outs
unfolding step_of_message
message_carries site s from list content = all_carry (list_version s.kept.location) _

pub message_at : (site : Site) (s : FileState) (from : NodeId) (list : ℕ) (content : Payload) (version : ℕ)
    → ShowsAt site s from list content version (step_of_message site s from list content)
message_at site s from list content version = at (step_shows site s from list content)
  where
    step : FileStep
    step = step_of_message site s from list content

    stored : ℕ
    stored = list_version s.kept.location

    outs : (stored ≡ version → ⊥) → AllByRecursion (IsOfOther version) step.turned.outs
    outs differ = all_other stored version differ step.turned.outs (message_carries site s from list content)

    going : KeepsVersion s step → Follows site s from list content step → (version < stored) ⊎ ((version ≡ stored) ⊎ (stored < version)) → ShowsAt site s from list content version step
    going same follows (inl less) =
        at_version.of_left (is_left s version step (less_along version stored (list_version step.state.kept.location) less same) (outs (differ_less version stored less)))
    going same follows (inr (inl is)) = at_version.of_stored is same follows
    going same follows (inr (inr less)) =
        at_version.of_later (is_later s version step less same (follows_on site s from list content step follows) (outs (differ_more stored version less)))

    -- a later list is taken
    past : (l : ℕ) (v : ℕ) → nat_le l v ≡ false → v < l
    past l v is = grind (arith, nat_tests, is)

    through : (a b c : ℕ) → a < b → b < c → a < c
    through a b c first second = grind (arith, first, second)

    taking : (location : Location) (head : FileHead) → InstallsOn s.kept content location head → step.state.kept.location ≡ Some location
        → ShowsRow step (row_renewed (settled_row site s))
        → (version < location.version) ⊎ ((version ≡ location.version) ⊎ (location.version < version)) → ShowsAt site s from list content version step
    taking location head on is p (inl less) =
        at_version.of_left (is_left s version step (less_along version location.version (list_version step.state.kept.location) less (ap list_version is)) (bare_other version step.turned.outs p.outs))
    taking location head on is p (inr (inl same)) =
        let later : stored < version = less_along stored location.version version (past location.version stored on.later) same in
        let x = settled_row site s in
        let go = on_then (lease_row_of s) x (renewed x) (expired_on site.now (lease_row_of s)) (renewed_on x) in
        at_version.of_later (record {
          ballot = as_ballot (proposer_of x.lease);
          before = later;
          after = subst (λ (n : ℕ). n ≤ version) (sym (ap list_version is)) (subst (λ (n : ℕ). location.version ≤ n) (sym same) (itself location.version));
          was = at_later version s later;
          row =
              at_stored version step.state (same ∙ sym (ap list_version is))
              ∙ ap (λ (y : LeaseRow). Some y) (p.row ∙ renewed_learns (lease_row_of s) (renewed x) go);
          outs = bare_other version step.turned.outs p.outs;
        })
      where
        itself : (n : ℕ) → n ≤ n
        itself n = grind (arith)
    taking location head on is p (inr (inr less)) =
        let later : stored < version = through stored location.version version (past location.version stored on.later) less in
        let x = settled_row site s in
        let go = on_then (lease_row_of s) x (renewed x) (expired_on site.now (lease_row_of s)) (renewed_on x) in
        at_version.of_later (record {
          ballot = as_ballot (proposer_of x.lease);
          before = later;
          after = at_most version location.version (list_version step.state.kept.location) less (ap list_version is);
          was = at_later version s later;
          row =
              at_later version step.state (subst (λ (n : ℕ). n < version) (sym (ap list_version is)) less)
              ∙ ap (λ (y : LeaseRow). Some (renewed y)) p.row
              ∙ ap (λ (y : LeaseRow). Some y) (renewed_learns (lease_row_of s) (renewed x) go);
          outs = bare_other version step.turned.outs p.outs;
        })

    at : Shows site s from list content step → ShowsAt site s from list content version step
    at (goes_on same follows) = going same follows (order version stored)
    at (takes_list location head on rec is p) = taking location head on is p (order version location.version)

-- ---- a Wake

all_both : (P : Msg → Type 0) (xs ys : List Msg) → AllByRecursion P xs → AllByRecursion P ys → AllByRecursion P (xs ++ ys)
all_both P [] ys first second = second
all_both P (x ∷ xs) ys first second = (first.0, all_both P xs ys first.1 second)

wake_others : (site : Site) (s : FileState) (version : ℕ) → (list_version s.kept.location ≡ version → ⊥) → AllByRecursion (IsOfOther version) (listed_wake site s).turned.outs
unfolding wake_of_listed
wake_others site s version differ =
    let first = expired site s in
    let stored = list_version first.state.kept.location in
    all_both (IsOfOther version) first.turned.outs _ (bare_other version first.turned.outs (settled_bare site s).outs)
    (all_other stored version (λ is. differ (ap (λ (row : FileRow). list_version row.location) (sym (kept_settled site s)) ∙ is)) _
    (all_carry stored (wake_of_file site first.state).turned.outs))

pub wake_at : (site : Site) (s : FileState) (version : ℕ) → WakesAt site s version (listed_wake site s)
wake_at site s version = at (order version (list_version s.kept.location))
  where
    step : FileStep
    step = listed_wake site s

    same : KeepsVersion s step
    same = ap (λ (row : FileRow). list_version row.location) (wake_kept site s)

    at : (version < list_version s.kept.location) ⊎ ((version ≡ list_version s.kept.location) ⊎ (list_version s.kept.location < version)) → WakesAt site s version step
    at (inl less) =
        at_version.wakes_left (is_left s version step (less_along version (list_version s.kept.location) (list_version step.state.kept.location) less same)
        (wake_others site s version (differ_less version (list_version s.kept.location) less)))
    at (inr (inl is)) = at_version.wakes_stored is same (wake_shows site s)
    at (inr (inr less)) =
        at_version.wakes_later (is_later s version step less same (wakes_on site s step (wake_shows site s)) (wake_others site s version (differ_more (list_version s.kept.location) version less)))

-- ---- a start

pub start_at : (g : LeaseSetting) (awake : Awake) (row : FileRow) (version : ℕ) → g.times ≡ awake.times → StartsAt g awake version (row_at version (file_from awake row))
start_at g awake row version times = at (order version (list_version row.location))
  where
    s : FileState
    s = file_from awake row

    its : lease_row_of s ≡ fresh_row g awake.node awake.boot
    its =
        ap (λ (t : TimeSettings). let r : LeaseRow = record { acceptor = new_acceptor awake.boot; lease = free (record { node = awake.node; boot = awake.boot; times = t; known = 0 }) } in r)
        (sym times)

    at : (version < list_version row.location) ⊎ ((version ≡ list_version row.location) ⊎ (list_version row.location < version)) → StartsAt g awake version (row_at version s)
    at (inl less) = unseen (at_left version s less)
    at (inr (inl is)) = fresh (at_stored version s is ∙ ap (λ (y : LeaseRow). Some y) its)
    at (inr (inr less)) = fresh (at_later version s less ∙ ap (λ (y : LeaseRow). Some y) its)
