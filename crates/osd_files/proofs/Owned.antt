-- whatever becomes of a lease, it stays this node's, by its times
use Rattle.std.proofs.Common.{◌≡◌, ◌∙◌, ℕ, Bool, true, false, refl, Option, Some, None, List, [], ◌∷◌, cond, map}
use Rattle.std.specs.Prelude.{nat_le, count_by}
use Rattle.std.specs.List.{list_any}
use Rattle.xt_base.specs.declared.ids.NodeId.{NodeId}
use Rattle.xt_base.specs.declared.ids.Boot.{Boot}
use Rattle.xt_base.specs.declared.ids.Ballot.{Ballot}
use Rattle.xt_base.specs.declared.ids.Lease.{Lease}
use Rattle.xt_messages.specs.declared.message.Payload.{Payload}
use Rattle.xt_messages.specs.declared.message.Payload.TheVariants as payload
use Rattle.xt_protocol.specs.Register.{Round, Promised, Took, ignored, counted, write_to, alive, on_promise, report_taken, promise_counted, promise_ignored, same_ballot, lease_of, on_acceptance, with_promise, counted_pairs, majority_of, has_promise, report_after_write, live_report, bars, awaits_promise}
use Rattle.xt_protocol.specs.LeaseRows.{LeaseState, LeaseStep, Held, Renewing, asked_by, Written, written_still, written_won, free, asking, writing, held, lease_expired, has_run_out, has_turn, is_inside, renewal_left, on_answer, renewal_under, renewal_answered, renewal_promised, renewal_accepted, renewal_ignores, renewal_outrun, answer_asking, answer_writing, step_of_asking, step_of_written, round_won, round_over, lease_won, won_too_late, outrun_learnt, can_ask, round_starts, is_renewal_due, renewal_starts, without_renewal, with_renewal, no_news, renewed, ends, nothing, news_of_targets, targets_of, writing_accepted}
use Rattle.flease.specs.Moves.{asks_at, renews_at}
use Rattle.osd_files.specs.Owners.{Owner, owner_of, renewer_of, renewer_in, owner_of_round, owner_of_proposer}

-- a lease of this owner
pub record IsOwn (owner : Owner) (l : LeaseState) : Type 0 where
  pub lease : owner_of l ≡ owner
  pub renewal : renewer_of owner l ≡ owner

-- a choice of two
pub either : {A : Type 0} (P : A → Type 0) (b : Bool) (x y : A) → P x → P y → P (cond b x y)
either P true x y px py = px
either P false x y px py = py

-- a promise leaves the round's owner
counted_own : (r : Round) (from : NodeId) (boot : Boot) → owner_of_round (promise_counted r from boot).round ≡ owner_of_round r
counted_own r from boot =
    let P : Promised → Type 0 = λ p. owner_of_round p.round ≡ owner_of_round r in
    let seats = map (with_promise from boot) r.seats in
    let counting : Round = record r { seats = seats } in
    let again : Promised = record { round = counting; took = write_to ((from, boot) ∷ []) } in
    let first : Promised = record { round = record counting { written = true }; took = write_to (counted_pairs seats) } in
    let more : Promised = record { round = counting; took = counted } in
    let b = nat_le (majority_of r) (count_by has_promise seats) in
    either P r.written again (cond b first more) refl (either P b first more refl refl)

report_own : (report : Option Lease) (r : Round) (now : ℕ) (from : NodeId) (boot : Boot) → owner_of_round (report_taken report r now from boot).round ≡ owner_of_round r
report_own None r now from boot = counted_own r from boot
report_own (Some lease) r now from boot =
    let P : Promised → Type 0 = λ p. owner_of_round p.round ≡ owner_of_round r in
    let after = report_after_write r in
    let live = live_report r lease in
    either P (bars r now lease) (cond r.written after live) (promise_counted r from boot) (either P r.written after live refl refl) (counted_own r from boot)

promised_own : (r : Round) (now : ℕ) (from : NodeId) (boot : Boot) (report : Option Lease) → owner_of_round (on_promise r now from boot report).round ≡ owner_of_round r
promised_own r now from boot report =
    let P : Promised → Type 0 = λ p. owner_of_round p.round ≡ owner_of_round r in
    either P (list_any (awaits_promise from) r.seats) (report_taken report r now from boot) (promise_ignored r) (report_own report r now from boot) refl

-- A round that asks.

took_own : (owner : Owner) (took : Took) (r : Round) (ballot : Ballot) (lease : Lease) → owner_of_round r ≡ owner
    → IsOwn owner (step_of_asking ballot lease (asked_by took r)).state
took_own owner ignored r ballot lease own = record { lease = own; renewal = refl }
took_own owner counted r ballot lease own = record { lease = own; renewal = refl }
took_own owner (write_to targets) r ballot lease own = record { lease = own; renewal = refl }
took_own owner (alive found) r ballot lease own = record { lease = own; renewal = refl }

asking_own : (owner : Owner) (r : Round) (now : ℕ) (from : NodeId) (content : Payload) → owner_of_round r ≡ owner
    → IsOwn owner (answer_asking r now from content).state
asking_own owner r now from (payload.Promise file ballot boot report) own =
    let P : LeaseStep → Type 0 = λ s. IsOwn owner s.state in
    let promised = on_promise r now from boot report in
    let still : LeaseStep = record { state = asking r; news = nothing } in
    either P (same_ballot ballot r.ballot) (step_of_asking r.ballot (lease_of r) (asked_by promised.took promised.round)) still
    (took_own owner (on_promise r now from boot report).took (on_promise r now from boot report).round r.ballot (lease_of r) (promised_own r now from boot report ∙ own))
    (record { lease = own; renewal = refl })
asking_own owner r now from (payload.Outrun file ballot seen) own =
    let P : LeaseStep → Type 0 = λ s. IsOwn owner s.state in
    let over : LeaseStep = record { state = free (outrun_learnt (round_over r) seen); news = ends } in
    let still : LeaseStep = record { state = asking r; news = nothing } in
    either P (same_ballot ballot r.ballot) over still (record { lease = own; renewal = refl }) (record { lease = own; renewal = refl })
asking_own owner r now from _ own = record { lease = own; renewal = refl }

-- A round that writes.

won_own : (owner : Owner) (r : Round) (now : ℕ) → owner_of_round r ≡ owner → IsOwn owner (step_of_written (round_won r now)).state
won_own owner r now own =
    let P : Written → Type 0 = λ w. IsOwn owner (step_of_written w).state in
    either P (is_inside (lease_of r).end r.times now) (written_won (lease_won r)) (won_too_late r) (record { lease = own; renewal = refl }) (record { lease = own; renewal = refl })

written_own : (owner : Owner) (r : Round) (now : ℕ) (from : NodeId) (boot : Boot) → owner_of_round r ≡ owner
    → IsOwn owner (step_of_written (writing_accepted r now from boot)).state
written_own owner r now from boot own =
    let P : Written → Type 0 = λ w. IsOwn owner (step_of_written w).state in
    let taken = on_acceptance r from boot in
    either P taken.wins (round_won taken.round now) (written_still taken.round) (won_own owner taken.round now own) (record { lease = own; renewal = refl })

writing_own : (owner : Owner) (r : Round) (now : ℕ) (from : NodeId) (content : Payload) → owner_of_round r ≡ owner
    → IsOwn owner (answer_writing r now from content).state
writing_own owner r now from (payload.Promise file ballot boot report) own =
    let P : LeaseStep → Type 0 = λ s. IsOwn owner s.state in
    let promised = on_promise r now from boot report in
    let more : LeaseStep = record { state = writing promised.round; news = news_of_targets r.ballot (lease_of r) (targets_of promised.took) } in
    let still : LeaseStep = record { state = writing r; news = nothing } in
    either P (same_ballot ballot r.ballot) more still (record { lease = promised_own r now from boot report ∙ own; renewal = refl }) (record { lease = own; renewal = refl })
writing_own owner r now from (payload.Accepted file ballot boot) own =
    let P : LeaseStep → Type 0 = λ s. IsOwn owner s.state in
    let still : LeaseStep = record { state = writing r; news = nothing } in
    either P (same_ballot ballot r.ballot) (step_of_written (writing_accepted r now from boot)) still (written_own owner r now from boot own) (record { lease = own; renewal = refl })
writing_own owner r now from (payload.Outrun file ballot seen) own =
    let P : LeaseStep → Type 0 = λ s. IsOwn owner s.state in
    let over : LeaseStep = record { state = free (outrun_learnt (round_over r) seen); news = ends } in
    let still : LeaseStep = record { state = writing r; news = nothing } in
    either P (same_ballot ballot r.ballot) over still (record { lease = own; renewal = refl }) (record { lease = own; renewal = refl })
writing_own owner r now from _ own = record { lease = own; renewal = refl }

-- A lease that is held.

renewal_took : (owner : Owner) (took : Took) (h : Held) (r : Round) → owner_of_proposer h.proposer ≡ owner → owner_of_round r ≡ owner
    → IsOwn owner (held (renewal_promised took h r).held)
renewal_took owner ignored h r own mine = record { lease = own; renewal = mine }
renewal_took owner counted h r own mine = record { lease = own; renewal = mine }
renewal_took owner (write_to targets) h r own mine = record { lease = own; renewal = mine }
renewal_took owner (alive found) h r own mine = record { lease = own; renewal = refl }

renewed_own : (owner : Owner) (h : Held) (r : Round) (now : ℕ) (from : NodeId) (boot : Boot) → owner_of_proposer h.proposer ≡ owner → owner_of_round r ≡ owner
    → IsOwn owner (held (renewal_accepted h r now from boot).held)
renewed_own owner h r now from boot own mine =
    let P : Renewing → Type 0 = λ n. IsOwn owner (held n.held) in
    let taken = on_acceptance r from boot in
    let end = (lease_of taken.round).end in
    let later : Renewing = record { held = record { proposer = h.proposer; end = end; renewal = None }; renewal = renewed end } in
    let late : Renewing = record { held = without_renewal h; renewal = no_news } in
    let still : Renewing = record { held = with_renewal h taken.round; renewal = no_news } in
    let b = is_inside end taken.round.times now in
    either P taken.wins (cond b later late) still
    (either P b later late (record { lease = own; renewal = refl }) (record { lease = own; renewal = refl }))
    (record { lease = own; renewal = mine })

renewing_own : (owner : Owner) (h : Held) (r : Round) (now : ℕ) (from : NodeId) (content : Payload) → owner_of_proposer h.proposer ≡ owner → owner_of_round r ≡ owner
    → renewer_in owner h.renewal ≡ owner → IsOwn owner (held (renewal_answered h r now from content).held)
renewing_own owner h r now from (payload.Promise file ballot boot report) own mine same =
    let P : Renewing → Type 0 = λ n. IsOwn owner (held n.held) in
    let promised = on_promise r now from boot report in
    either P (same_ballot ballot r.ballot) (renewal_promised promised.took h promised.round) (renewal_ignores h)
    (renewal_took owner (on_promise r now from boot report).took h (on_promise r now from boot report).round own (promised_own r now from boot report ∙ mine))
    (record { lease = own; renewal = same })
renewing_own owner h r now from (payload.Accepted file ballot boot) own mine same =
    let P : Renewing → Type 0 = λ n. IsOwn owner (held n.held) in
    either P (same_ballot ballot r.ballot) (renewal_accepted h r now from boot) (renewal_ignores h) (renewed_own owner h r now from boot own mine) (record { lease = own; renewal = same })
renewing_own owner h r now from (payload.Outrun file ballot seen) own mine same =
    let P : Renewing → Type 0 = λ n. IsOwn owner (held n.held) in
    either P (same_ballot ballot r.ballot) (renewal_outrun h seen) (renewal_ignores h) (record { lease = own; renewal = refl }) (record { lease = own; renewal = same })
renewing_own owner h r now from _ own mine same = record { lease = own; renewal = same }

held_own : (owner : Owner) (renewal : Option Round) (h : Held) (now : ℕ) (from : NodeId) (content : Payload) → owner_of_proposer h.proposer ≡ owner
    → renewer_in owner renewal ≡ owner → renewer_in owner h.renewal ≡ owner → IsOwn owner (held (renewal_under renewal h now from content).held)
held_own owner None h now from content own mine same = record { lease = own; renewal = same }
held_own owner (Some r) h now from content own mine same = renewing_own owner h r now from content own mine same

-- An answer, what is overdue, a new round, a renewal.

pub answered_own : (owner : Owner) (l : LeaseState) (now : ℕ) (from : NodeId) (content : Payload) → IsOwn owner l → IsOwn owner (on_answer l now from content).state
answered_own owner (free p) now from content own = own
answered_own owner (asking r) now from content own = asking_own owner r now from content own.lease
answered_own owner (writing r) now from content own = writing_own owner r now from content own.lease
answered_own owner (held h) now from content own = held_own owner h.renewal h now from content own.lease own.renewal own.renewal

left_own : (owner : Owner) (renewal : Option Round) (now : ℕ) → renewer_in owner renewal ≡ owner → renewer_in owner (renewal_left renewal now) ≡ owner
left_own owner None now own = own
left_own owner (Some r) now own = either (λ n. renewer_in owner n ≡ owner) (has_run_out r now) None (Some r) refl own

pub expired_own : (owner : Owner) (l : LeaseState) (now : ℕ) → IsOwn owner l → IsOwn owner (lease_expired l now)
expired_own owner (free p) now own = own
expired_own owner (asking r) now own = either (IsOwn owner) (has_run_out r now) (free (round_over r)) (asking r) (record { lease = own.lease; renewal = refl }) own
expired_own owner (writing r) now own = either (IsOwn owner) (has_run_out r now) (free (round_over r)) (writing r) (record { lease = own.lease; renewal = refl }) own
expired_own owner (held h) now own =
    either (IsOwn owner) (has_turn h now) (held (record h { renewal = renewal_left h.renewal now })) (free h.proposer)
    (record { lease = own.lease; renewal = left_own owner h.renewal now own.renewal })
    (record { lease = own.lease; renewal = refl })

pub asked_own : (owner : Owner) (l : LeaseState) (now : ℕ) (members : List NodeId) → IsOwn owner l → IsOwn owner (asks_at l now members)
asked_own owner (free p) now members own = either (IsOwn owner) (can_ask p) (asking (round_starts p now members)) (free p) (record { lease = own.lease; renewal = refl }) own
asked_own owner (asking r) now members own = own
asked_own owner (writing r) now members own = own
asked_own owner (held h) now members own = own

pub renewed_anew : (owner : Owner) (l : LeaseState) (now used : ℕ) (members : List NodeId) → IsOwn owner l → IsOwn owner (renews_at l now used members)
renewed_anew owner (held h) now used members own =
    either (IsOwn owner) (is_renewal_due h now used) (held (renewal_starts h now members)) (held h) (record { lease = own.lease; renewal = own.lease }) own
renewed_anew owner (free p) now used members own = own
renewed_anew owner (asking r) now used members own = own
renewed_anew owner (writing r) now used members own = own
