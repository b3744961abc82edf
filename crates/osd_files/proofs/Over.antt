-- what is overdue at a file, by what became of its lease
use Rattle.std.proofs.Common.{◌≡◌, ◌∙◌, ℕ, Bool, true, false, refl, ap, sym, subst, cond, Option, Some, None, [], List, inl, inr}
use Rattle.std.specs.Prelude.{◌⊎◌, ◌++◌, filter, is_none, not}
use Rattle.xt_base.specs.declared.ids.FileId.{FileId}
use Rattle.xt_base.specs.declared.ids.Stamp.{Stamp}
use Rattle.xt_messages.specs.declared.file.Capability.{Capability}
use Rattle.xt_messages.specs.declared.message.Msg.{Msg}
use Rattle.xt_messages.specs.declared.reply.Reply.{Reply}
use Rattle.xt_messages.specs.declared.reply.Reply.TheVariants.{NoMajority}
use Rattle.xt_protocol.specs.declared.turned.Turned.{Turned}
use Rattle.xt_protocol.specs.LeaseRows.{LeaseState, free, asking, writing, held, lease_expired, has_run_out, has_turn, round_over, renewal_left}
use Rattle.flease.specs.declared.news.Expiry.{Expiry}
use Rattle.flease.specs.declared.news.Expiry.TheVariants.{Stands, RanOut, Lapsed}
use Rattle.flease.specs.Shown.{expiry_of}
use Rattle.flease.specs.Moves.{IsSettled, NothingOverdue}
use Rattle.osd_requests.specs.Due.{NoneDue}
use Rattle.xt_protocol.specs.declared.states.IssuedAsk.{IssuedAsk}
use Rattle.xt_protocol.specs.declared.states.Tenure.{Tenure}
use Rattle.xt_protocol.specs.declared.states.WaitingAsk.{WaitingAsk}
use Rattle.xt_protocol.specs.Asks.{tells_each, tells_untold}
use Rattle.xt_protocol.specs.Primaries.{have_in, majority_among}
use Rattle.xt_protocol.specs.Turns.{quiet, sends}
use Rattle.xt_protocol.specs.FileStates.{FileState, Site, FileStep, nothing, steps_to}
use Rattle.xt_protocol.specs.Overdue.{expired, is_due, issued_due, lease_became, lease_lapses, newly_due, no_lease_for_all, deadlines_come, deadlines_under}
use Rattle.osd_files.specs.Counts.{no_majority}
use Rattle.osd_files.specs.Rows.{Becomes, Gives, IsRow}
use Rattle.osd_files.specs.Views.{FileView, site_at, with_lease}

-- the row that is meant by what was overdue
abbrev pub row_of : Expiry → Site → FileState → FileStep
row_of Lapsed site s = lease_lapses site s
row_of RanOut site s = no_lease_for_all site s
row_of Stands site s = deadlines_under site s s.primary.tenure

became : (site : Site) (s : FileState) (l : LeaseState) (now : ℕ) → lease_became site s l (lease_expired l now) ≡ row_of (expiry_of l now) site s
became site s (free p) now = refl
became site s (asking r) now =
    by (has_run_out r now)
  where
    by : (b : Bool) → lease_became site s (asking r) (cond b (free (round_over r)) (asking r)) ≡ row_of (cond b RanOut Stands) site s
    by true = refl
    by false = refl
became site s (writing r) now =
    by (has_run_out r now)
  where
    by : (b : Bool) → lease_became site s (writing r) (cond b (free (round_over r)) (writing r)) ≡ row_of (cond b RanOut Stands) site s
    by true = refl
    by false = refl
became site s (held h) now =
    by (has_turn h now)
  where
    by : (b : Bool) → lease_became site s (held h) (cond b (held (record h { renewal = renewal_left h.renewal now })) (free h.proposer)) ≡ row_of (cond b Stands Lapsed) site s
    by true = refl
    by false = refl

-- what is overdue, by the lease after it and by what became of it
pub overdue : (site : Site) (s : FileState) (l : LeaseState) (e : Expiry) → l ≡ lease_expired s.lease site.now → e ≡ expiry_of s.lease site.now
    → expired site s ≡ row_of e site (record s { lease = l })
unfolding expired
overdue site s l e is-l is-e =
    let after = lease_expired s.lease site.now in
    became site (record s { lease = after }) s.lease site.now
    ∙ ap (λ (x : LeaseState). row_of (expiry_of s.lease site.now) site (record s { lease = x })) (sym is-l)
    ∙ ap (λ (x : Expiry). row_of x site (record s { lease = l })) (sym is-e)

settled : (l : LeaseState) (now : ℕ) → IsSettled (lease_expired l now) now
settled (free p) now = tt
settled (asking r) now =
    by (has_run_out r now)
  where
    by : (b : Bool) → IsSettled (cond b (free (round_over r)) (asking r)) now
    by true = tt
    by false = tt
settled (writing r) now =
    by (has_run_out r now)
  where
    by : (b : Bool) → IsSettled (cond b (free (round_over r)) (writing r)) now
    by true = tt
    by false = tt
settled (held h) now =
    by (has_turn h now) refl
  where
    by : (b : Bool) → has_turn h now ≡ b → IsSettled (cond b (held (record h { renewal = renewal_left h.renewal now })) (free h.proposer)) now
    by true is = is
    by false is = tt

pub settled_so : (l old : LeaseState) (now : ℕ) → l ≡ lease_expired old now → IsSettled l now
settled_so l old now is = let P : LeaseState → Type 0 = λ x. IsSettled x now in subst P (sym is) (settled old now)

-- Deadlines, where the lease stands.

abbrev pub told_under : Site → FileState → Option Reply → FileStep
told_under site s None = nothing s
told_under site s (Some answer) = deadlines_come site s answer

deadlines_by : (site : Site) (s : FileState) (tenure : Option Tenure) → deadlines_under site s tenure ≡ told_under site s (no_majority tenure)
deadlines_by site s None = refl
deadlines_by site s (Some t) = refl

-- by the answer to the asks that are due
pub deadlines_given : (now : ℕ) (v : FileView) (o : Option Reply) (turned : Turned) → o ≡ no_majority v.state.primary.tenure
    → Gives (λ site s. told_under site s o) now v turned → Gives (λ site s. deadlines_under site s s.primary.tenure) now v turned
deadlines_given now v o turned is given =
    λ sealed body.
    let site = site_at v.awake now sealed body in
    ap (λ (st : FileStep). st.turned) (deadlines_by site v.state v.state.primary.tenure ∙ ap (told_under site v.state) (sym is)) ∙ given sealed body

-- only asks change where deadlines come
pub deadlines_left : (site : Site) (s : FileState) (tenure : Option Tenure)
    → (deadlines_under site s tenure).state ≡ record s { asks = (deadlines_under site s tenure).state.asks }
deadlines_left site s None = refl
deadlines_left site s (Some t) = refl

-- The two parts of what is overdue, by what became of the lease.

pub gives_overdue : (now : ℕ) (v : FileView) (l : LeaseState) (e : Expiry) (turned : Turned) → l ≡ lease_expired v.state.lease now → e ≡ expiry_of v.state.lease now
    → Gives (row_of e) now (with_lease v l) turned → Gives expired now v turned
gives_overdue now v l e turned is-l is-e given =
    λ sealed body. ap (λ (st : FileStep). st.turned) (overdue (site_at v.awake now sealed body) v.state l e is-l is-e) ∙ given sealed body

-- without a lease, or without a round
pub gives_no_lease : (now : ℕ) (v : FileView) (l : LeaseState) (e : Expiry) (turned : Turned) → (e ≡ Lapsed) ⊎ (e ≡ RanOut)
    → l ≡ lease_expired v.state.lease now → e ≡ expiry_of v.state.lease now → Gives no_lease_for_all now v turned → Gives expired now v turned
gives_no_lease now v l e turned (inl is) is-l is-e given = gives_overdue now v l Lapsed turned is-l (sym is ∙ is-e) given
gives_no_lease now v l e turned (inr is) is-l is-e given = gives_overdue now v l RanOut turned is-l (sym is ∙ is-e) given

deadlines_said : (site : Site) (s : FileState) (l : LeaseState) (tenure : Option Tenure) → (deadlines_under site (record s { lease = l }) tenure).turned ≡ (deadlines_under site s tenure).turned
deadlines_said site s l None = refl
deadlines_said site s l (Some t) = refl

-- where the lease stands
pub gives_deadlines : (now : ℕ) (v : FileView) (l : LeaseState) (turned : Turned) → l ≡ lease_expired v.state.lease now → Stands ≡ expiry_of v.state.lease now
    → Gives (λ site s. deadlines_under site s s.primary.tenure) now v turned → Gives expired now v turned
gives_deadlines now v l turned is-l is-e given =
    gives_overdue now v l Stands turned is-l is-e (λ sealed body. deadlines_said (site_at v.awake now sealed body) v.state l v.state.primary.tenure ∙ given sealed body)

pub becomes_overdue : (now : ℕ) (old new : FileView) (l : LeaseState) (e : Expiry) → l ≡ lease_expired old.state.lease now → e ≡ expiry_of old.state.lease now
    → Becomes (row_of e) now (with_lease old l) new → Becomes expired now old new
becomes_overdue now old new l e is-l is-e row =
    record {
      here = row.here;
      state = λ sealed body. ap (λ (st : FileStep). st.state) (overdue (site_at old.awake now sealed body) old.state l e is-l is-e) ∙ row.state sealed body;
    }

lease_by : (e : Expiry) (site : Site) (s : FileState) → (row_of e site s).state.lease ≡ s.lease
lease_by Lapsed site s = refl
lease_by RanOut site s = refl
lease_by Stands site s = ap (λ (x : FileState). x.lease) (deadlines_left site s s.primary.tenure)

-- the lease is what expiry leaves of it
pub lease_after : (site : Site) (s : FileState) → (expired site s).state.lease ≡ lease_expired s.lease site.now
lease_after site s =
    let l = lease_expired s.lease site.now in
    let e = expiry_of s.lease site.now in
    ap (λ (st : FileStep). st.state.lease) (overdue site s l e refl refl) ∙ lease_by e site (record s { lease = l })

pub settled_after : (now : ℕ) (old new : FileView) → Becomes expired now old new → IsSettled new.state.lease now
settled_after now old new row =
    let test : Capability → Bool = λ _. true in
    let body : FileId → ℕ → Stamp → List ℕ = λ _ _ _. [] in
    settled_so new.state.lease old.state.lease now
    (sym (ap (λ (s : FileState). s.lease) (row.state test body)) ∙ lease_after (site_at old.awake now test body) old.state)

-- Nothing is overdue.

-- no deadline comes where none is due
none_come : (site : Site) (s : FileState) (answer : Reply) → NoneDue site.now s.asks → deadlines_come site s answer ≡ nothing s
none_come site s answer none =
    let step : List WaitingAsk → List WaitingAsk → Option IssuedAsk → List Msg → FileStep = λ due left issued outs.
    steps_to (record s { asks = record { waiting = left; issued = issued } }) (sends (tells_each site.node s.kept.file due answer ++ outs)) in
    let left = filter (λ w. not (is_due site.now w)) s.asks.waiting in
    let issued = issued_due site.now s.asks.issued in
    let outs = tells_untold site.node s.kept.file (newly_due site.now s.asks.issued) answer in
    ap (λ (due : List WaitingAsk). step due left issued outs) none.due
    ∙ ap (λ (l : List WaitingAsk). step [] l issued outs) none.left
    ∙ ap (λ (i : Option IssuedAsk). step [] s.asks.waiting i outs) none.issued
    ∙ ap (λ (o : List Msg). step [] s.asks.waiting s.asks.issued o) (none.untold site.node s.kept.file answer)

none_under : (site : Site) (s : FileState) (tenure : Option Tenure) → NoneDue site.now s.asks → deadlines_under site s tenure ≡ nothing s
none_under site s None none = refl
none_under site s (Some t) none = none_come site s (NoMajority (have_in t.peers t.progress) (majority_among t.peers)) none

idle_under : (site : Site) (s : FileState) (tenure : Option Tenure) → is_none tenure ≡ true → deadlines_under site s tenure ≡ nothing s
idle_under site s None idle = refl
idle_under site s (Some t) idle = absurd cc

still : (now : ℕ) (v : FileView) → NothingOverdue v.state.lease now
    → ((sealed : Capability → Bool) (body : FileId → ℕ → Stamp → List ℕ) → deadlines_under (site_at v.awake now sealed body) v.state v.state.primary.tenure ≡ nothing v.state)
    → IsRow expired now v v quiet
still now v none under =
    λ sealed body.
    record { here = refl; step = overdue (site_at v.awake now sealed body) v.state v.state.lease Stands (sym none.same) (sym none.stands) ∙ under sealed body }

pub still_idle : (now : ℕ) (v : FileView) → NothingOverdue v.state.lease now → is_none v.state.primary.tenure ≡ true → IsRow expired now v v quiet
still_idle now v none idle = still now v none (λ sealed body. idle_under (site_at v.awake now sealed body) v.state v.state.primary.tenure idle)

pub still_waiting : (now : ℕ) (v : FileView) → NothingOverdue v.state.lease now → NoneDue now v.state.asks → IsRow expired now v v quiet
still_waiting now v none due = still now v none (λ sealed body. none_under (site_at v.awake now sealed body) v.state v.state.primary.tenure due)
