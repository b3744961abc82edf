-- what a Wake makes of a file, by its lease
use Rattle.std.proofs.Common.{◌≡◌, ◌∙◌, ℕ, Bool, true, false, refl, ap, sym, subst, List, Option, Some, None, cond}
use Rattle.std.specs.Prelude.{is_some}
use Rattle.xt_base.specs.declared.ids.NodeId.{NodeId}
use Rattle.xt_messages.specs.declared.file.Location.{Location}
use Rattle.xt_messages.specs.declared.record.Record.{Record}
use Rattle.xt_protocol.specs.declared.states.Asks.{Asks}
use Rattle.xt_protocol.specs.declared.turned.Turned.{Turned}
use Rattle.xt_protocol.specs.LeaseRows.{LeaseState, Held, Turn, free, asking, writing, held, has_run_out, has_turn, is_renewal_due, lease_expired, renewal_left, renewal_starts, round_over, round_starts}
use Rattle.flease.specs.declared.news.Expiry.TheVariants.{Stands, RanOut, Lapsed}
use Rattle.flease.specs.Shown.{expiry_of}
use Rattle.flease.specs.Moves.{turn_of, renews_at, IsSettled}
use Rattle.xt_protocol.specs.AskRows.{reads_of}
use Rattle.xt_protocol.specs.Turns.{quiet, joined}
use Rattle.xt_protocol.specs.Overdue.{deadlines_under, expired}
use Rattle.xt_protocol.specs.FileStates.{FileState, FileStep, Site, ground_of, members_of, nothing, staged_after, steps_to, stripe_of}
use Rattle.xt_protocol.specs.ReplicaRows.{kept_after}
use Rattle.xt_protocol.specs.Serving.{wakes}
use Rattle.xt_protocol.specs.FileSteps.{wake_of_file, wakes_under_lease, renews}
use Rattle.osd_invariants.specs.Sound.{IsStored, ListUnder}
use Rattle.osd_invariants.proofs.Kept.{wake_keeps}
use Rattle.osd_files.specs.Answers.{HasTurn}
use Rattle.osd_files.specs.Rows.{Becomes, Gives}
use Rattle.osd_files.specs.Views.{FileView, site_at, with_lease}
use Rattle.osd_files.proofs.Over.{deadlines_left, lease_after, overdue, settled_so}
use Rattle.osd_files.proofs.Rows.{behind_it}

-- a lease that gives a turn is held
pub held_by : (l : LeaseState) (now : ℕ) (turn : Turn) → turn_of l now ≡ Some turn → (h : Held) × (l ≡ held h)
held_by (held h) now turn is = (h, refl)
held_by (free p) now turn is = absurd cc
held_by (asking r) now turn is = absurd cc
held_by (writing r) now turn is = absurd cc

pub held_by_turn : (l : LeaseState) (now : ℕ) → HasTurn l now → (h : Held) × (l ≡ held h)
held_by_turn (held h) now has = (h, refl)
held_by_turn (free p) now has = absurd cc
held_by_turn (asking r) now has = absurd cc
held_by_turn (writing r) now has = absurd cc

pub stored_by_turn : (l : LeaseState) (now : ℕ) (location : Option Location) → HasTurn l now → ListUnder l location → IsStored location
stored_by_turn (held h) now location has stored = stored
stored_by_turn (free p) now location has stored = absurd cc
stored_by_turn (asking r) now location has stored = absurd cc
stored_by_turn (writing r) now location has stored = absurd cc

pub none_of : {A : Type 0} (o : Option A) → is_some o ≡ false → o ≡ None
none_of None is = refl
none_of (Some a) is = absurd cc

pub woken : (site : Site) (s : FileState) (h : Held) (woke : Turned) → s.lease ≡ held h → woke ≡ wakes (ground_of site s).place s.primary
    → wake_of_file site s ≡ behind_it woke (renews site s h)
unfolding wake_of_file
woken site s h woke is sent =
    let all = wakes (ground_of site s).place s.primary in
    ap (λ (l : LeaseState). wakes_under_lease site s l) is
    ∙ ap (λ (rec : Option Record). behind_it all (renews site (record s { kept = kept_after s.kept rec; staged = staged_after s.staged rec }) h)) (wake_keeps (ground_of site s).place s.primary)
    ∙ ap (λ (t : Turned). behind_it t (renews site s h)) (sym sent)

pub settled_turn : (b : Bool) (t : Turn) → b ≡ true → cond b (Some t) None ≡ None → ⊥
settled_turn true t is none = cc
settled_turn false t is none = cc

-- without a turn nothing comes of it
unturned : (site : Site) (s : FileState) (l : LeaseState) → turn_of l site.now ≡ None → IsSettled l site.now → wakes_under_lease site s l ≡ nothing s
unturned site s (held h) none settled = absurd (settled_turn (has_turn h site.now) (record { node = h.proposer.node; moment = site.now }) settled none)
unturned site s (free p) none settled = refl
unturned site s (asking r) none settled = refl
unturned site s (writing r) none settled = refl

pub sleeps : (site : Site) (s : FileState) → turn_of s.lease site.now ≡ None → IsSettled s.lease site.now → wake_of_file site s ≡ nothing s
unfolding wake_of_file
sleeps site s none settled = unturned site s s.lease none settled

-- A renewal.

abbrev pub kept_by : FileState → Option Record → FileState
kept_by s rec = record s { kept = kept_after s.kept rec; staged = staged_after s.staged rec }

-- the lease once a renewal that was due has started
renewed_if : (site : Site) (s : FileState) (h : Held) (members : List NodeId) → members_of s.kept.location ≡ members
    → (renews site (record s { lease = held h }) h).state ≡ record s { lease = renews_at (held h) site.now s.used members }
renewed_if site s h members is =
    by (is_renewal_due h site.now s.used)
    ∙ ap (λ (m : List NodeId). let l : FileState = record s { lease = renews_at (held h) site.now s.used m } in l) is
  where
    by : (b : Bool)
        → (cond b (steps_to (record s { lease = held (renewal_starts h site.now (members_of s.kept.location)) }) (reads_of site (record s { lease = held h }) (members_of s.kept.location) (round_starts h.proposer site.now (members_of s.kept.location))))
        (nothing (record s { lease = held h }))).state
        ≡ record s { lease = cond b (held (renewal_starts h site.now (members_of s.kept.location))) (held h) }
    by true = refl
    by false = refl

woken_by : (site : Site) (s : FileState) (l : LeaseState) (members : List NodeId) → members_of s.kept.location ≡ members
    → (wakes_under_lease site (record s { lease = l }) l).state ≡ record s { lease = renews_at l site.now s.used members }
woken_by site s (held h) members is =
    let after : FileState = record s { lease = held h } in
    ap (λ (rec : Option Record). (renews site (kept_by after rec) h).state) (wake_keeps (ground_of site s).place s.primary)
    ∙ renewed_if site s h members is
woken_by site s (free p) members is = refl
woken_by site s (asking r) members is = refl
woken_by site s (writing r) members is = refl

pub renewed : (now : ℕ) (v : FileView) (location : Location) (l : LeaseState) → Some location ≡ v.state.kept.location
    → l ≡ renews_at v.state.lease now v.state.used location.members → Becomes wake_of_file now v (with_lease v l)
unfolding wake_of_file
renewed now v location l is-at is =
    record {
      here = refl;
      state = λ sealed body.
          woken_by (site_at v.awake now sealed body) v.state v.state.lease location.members (ap members_of (sym is-at))
          ∙ ap (λ (x : LeaseState). let after : FileState = record v.state { lease = x } in after) (sym is);
    }

-- no lease is held, and no renewal starts, where no list is stored
unlisted : (site : Site) (s : FileState) (l : LeaseState) (location : Option Location) → location ≡ None → ListUnder l location → wakes_under_lease site s l ≡ nothing s
unlisted site s (held h) None is stored = absurd stored
unlisted site s (held h) (Some location) is stored = absurd cc
unlisted site s (free p) location is stored = refl
unlisted site s (asking r) location is stored = refl
unlisted site s (writing r) location is stored = refl

pub unrenewed : (now : ℕ) (v : FileView) → None ≡ v.state.kept.location → ListUnder v.state.lease v.state.kept.location → Becomes wake_of_file now v v
unfolding wake_of_file
unrenewed now v is stored =
    record {
      here = refl;
      state = λ sealed body. ap (λ (st : FileStep). st.state) (unlisted (site_at v.awake now sealed body) v.state v.state.lease v.state.kept.location (sym is) stored);
    }

-- What a Wake gives after what is overdue, by the lease that this leaves.

pub gives_asleep : (now : ℕ) (v : FileView) (l : LeaseState) (turned : Turned) → l ≡ lease_expired v.state.lease now → turn_of l now ≡ None → turned ≡ quiet
    → Gives (λ site s. wake_of_file site (expired site s).state) now v turned
gives_asleep now v l turned is none made =
    λ sealed body.
    let site = site_at v.awake now sealed body in
    let after = (expired site v.state).state in
    let is-after : l ≡ after.lease = is ∙ sym (lease_after site v.state) in
    ap (λ (st : FileStep). st.turned)
    (sleeps site after (subst (λ (x : LeaseState). turn_of x now ≡ None) is-after none) (subst (λ (x : LeaseState). IsSettled x now) is-after (settled_so l v.state.lease now is)))
    ∙ sym made

-- a lease that is held after expiry stood
stood : (l : LeaseState) (now : ℕ) (h : Held) → lease_expired l now ≡ held h → expiry_of l now ≡ Stands
stood (free p) now h is = absurd cc
stood (asking r) now h is = by (has_run_out r now) is
  where
    by : (b : Bool) → cond b (free (round_over r)) (asking r) ≡ held h → cond b RanOut Stands ≡ Stands
    by true is = absurd cc
    by false is = absurd cc
stood (writing r) now h is = by (has_run_out r now) is
  where
    by : (b : Bool) → cond b (free (round_over r)) (writing r) ≡ held h → cond b RanOut Stands ≡ Stands
    by true is = absurd cc
    by false is = absurd cc
stood (held h2) now h is = by (has_turn h2 now) is
  where
    by : (b : Bool) → cond b (held (record h2 { renewal = renewal_left h2.renewal now })) (free h2.proposer) ≡ held h → cond b Stands Lapsed ≡ Stands
    by true is = refl
    by false is = absurd cc

-- a renewal looks neither at the lease of the file nor at its asks
renewal_said : (site : Site) (s : FileState) (l : LeaseState) (asks : Asks) (h : Held) → (renews site (record s { lease = l; asks = asks }) h).turned ≡ (renews site s h).turned
renewal_said site s l asks h =
    by (is_renewal_due h site.now s.used)
  where
    by : (b : Bool)
        → (cond b (steps_to (record s { lease = held (renewal_starts h site.now (members_of s.kept.location)); asks = asks }) (reads_of site (record s { lease = l; asks = asks }) (members_of s.kept.location) (round_starts h.proposer site.now (members_of s.kept.location))))
        (nothing (record s { lease = l; asks = asks }))).turned
        ≡ (cond b (steps_to (record s { lease = held (renewal_starts h site.now (members_of s.kept.location)) }) (reads_of site s (members_of s.kept.location) (round_starts h.proposer site.now (members_of s.kept.location)))) (nothing s)).turned
    by true = refl
    by false = refl

pub gives_awake : (now : ℕ) (v : FileView) (l : LeaseState) (h : Held) (woke next turned : Turned) → l ≡ lease_expired v.state.lease now → l ≡ held h
    → woke ≡ wakes (record { node = v.awake.node; file = v.state.kept.file; stripe = stripe_of v.state.kept.location }) v.state.primary
    → Gives (λ site s. renews site s h) now v next → turned ≡ joined woke next
    → Gives (λ site s. wake_of_file site (expired site s).state) now v turned
gives_awake now v l h woke next turned is-l is-h sent given made =
    λ sealed body.
    let site = site_at v.awake now sealed body in
    let s = v.state in
    let mid : FileState = record s { lease = l } in
    let under = (deadlines_under site mid s.primary.tenure).state in
    let row : FileState → Turned = λ x. (wake_of_file site x).turned in
    ap (λ (st : FileStep). row st.state) (overdue site s l Stands is-l (sym (stood s.lease now h (sym is-l ∙ is-h))))
    ∙ ap row (deadlines_left site mid s.primary.tenure)
    ∙ ap (λ (st : FileStep). st.turned) (woken site (record mid { asks = under.asks }) h woke is-h sent)
    ∙ ap (λ (t : Turned). joined woke t) (renewal_said site s l under.asks h ∙ given sealed body)
    ∙ sym made
