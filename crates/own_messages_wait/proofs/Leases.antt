-- what the messages of a lease come to at its own node: one follows another, and where it is won an epoch is drawn
use Rattle.std.proofs.Common.{◌≡◌, ℕ, ◌≤◌, Bool, true, false, List, [], ◌∷◌, map, refl, sym, ap, ap₂, subst, ◌∙◌, arith, Option, Some, None, count_by, le_refl}
use Rattle.std.specs.Prelude.{◌&&◌, ◌||◌, not, cond, ◌==◌, nat_le}
use Rattle.std.specs.List.{cons_option, list_any}
use Rattle.std.proofs.lemmas.Bool.{and_parts, eqb-true}
use Rattle.xt_base.specs.MemberList.{has_node, are_distinct}
use Rattle.xt_base.specs.declared.ids.NodeId.{NodeId}
use Rattle.xt_base.specs.declared.ids.FileId.{FileId}
use Rattle.xt_base.specs.declared.ids.Boot.{Boot}
use Rattle.xt_base.specs.declared.ids.Ballot.{Ballot}
use Rattle.xt_base.specs.declared.ids.Lease.{Lease}
use Rattle.xt_messages.specs.declared.message.Msg.{Msg}
use Rattle.xt_messages.specs.declared.message.Payload.{Payload}
use Rattle.xt_messages.specs.declared.message.Payload.TheVariants as payload
use Rattle.xt_protocol.specs.Register.{Round, Seat, Took, ignored, counted, write_to, alive, Promised, on_promise, report_taken, promise_counted, with_promise, awaits_promise, with_acceptance, awaits_acceptance, counted_pairs, pair_of, on_acceptance, bars, majority_of, has_promise, same_ballot, lease_of}
use Rattle.xt_protocol.specs.LeaseRows.{LeaseState, running_round, free, asking, writing, held, Held, Proposer, LeaseNews, LeaseStep, sends_write, holds, finds, ends, on_answer, answer_asking, asking_promised, asked_by, Asked, asked_still, asked_write, asked_found, step_of_asking, answer_writing, writing_accepted, Written, written_still, written_won, written_late, round_won, step_of_written, news_of_targets, on_renewal, renewal_under, renewal_answered, renewal_promised, renewal_accepted, renewal_won, renewal_outrun, Renewing, Renewal, no_news, renewal_write, renewed, news_of_renewal, round_starts, is_inside}
use Rattle.xt_protocol.specs.LeaseRows as lease
use Rattle.xt_protocol.specs.Turns.{message}
use Rattle.world_spec.specs.NodeSteps.{to_itself}
use Rattle.osd_invariants.specs.Sound.{IsHeld}
use Rattle.lease_runs.proofs.Tests.{same_node}
use Rattle.own_messages_wait.proofs.Weights.{is_lease, lease_rank}
use Rattle.own_messages_wait.proofs.Standing.{IfAbout}
use Rattle.own_messages_wait.proofs.Tests.{false_true}
use Rattle.own_messages_wait.proofs.Mine.{token}

-- ---- rounds

abbrev pub seat_nodes : List Seat → List NodeId
seat_nodes seats = map (λ (seat : Seat). seat.node) seats

-- each member has one seat
abbrev pub IsSeated : Round → Type 0
IsSeated r = are_distinct (seat_nodes r.seats) ≡ true

abbrev pub IfSeated : Option Round → Type 0
IfSeated None = Unit {0}
IfSeated (Some r) = IsSeated r

abbrev pub pair_nodes : List (NodeId × Boot) → List NodeId
pair_nodes pairs = map (λ (p : NodeId × Boot). p.0) pairs

promised_nodes : (from : NodeId) (boot : Boot) (seats : List Seat) → seat_nodes (map (with_promise from boot) seats) ≡ seat_nodes seats
promised_nodes from boot [] = refl
promised_nodes from boot (s ∷ ss) = ap₂ (λ (n : NodeId) (ns : List NodeId). n ∷ ns) (at (awaits_promise from s)) (promised_nodes from boot ss)
  where
    at : (b : Bool) → (let seat : Seat = cond b (record s { counted = Some boot }) s in seat.node) ≡ s.node
    at true = refl
    at false = refl

accepted_nodes : (from : NodeId) (boot : Boot) (seats : List Seat) → seat_nodes (map (with_acceptance from boot) seats) ≡ seat_nodes seats
accepted_nodes from boot [] = refl
accepted_nodes from boot (s ∷ ss) = ap₂ (λ (n : NodeId) (ns : List NodeId). n ∷ ns) (at (awaits_acceptance from boot s)) (accepted_nodes from boot ss)
  where
    at : (b : Bool) → (let seat : Seat = cond b (record s { accepted = true }) s in seat.node) ≡ s.node
    at true = refl
    at false = refl

-- who is counted has a seat
seated : (seats : List Seat) (n : ℕ) → has_node (seat_nodes seats) n ≡ false → has_node (pair_nodes (counted_pairs seats)) n ≡ false
seated [] n none = refl
seated (s ∷ ss) n none = at s.counted (s.node.0 == n) refl none (λ d. seated ss n d)
  where
    at : (o : Option Boot) (b : Bool) → (s.node.0 == n) ≡ b → (b || has_node (seat_nodes ss) n) ≡ false → (has_node (seat_nodes ss) n ≡ false → has_node (pair_nodes (counted_pairs ss)) n ≡ false)
        → has_node (pair_nodes (cons_option (pair_of s.node o) (counted_pairs ss))) n ≡ false
    at o true is none rest = absurd (false_true (sym none))
    at None false is none rest = rest none
    at (Some boot) false is none rest = ap (λ (b : Bool). b || has_node (pair_nodes (counted_pairs ss)) n) is ∙ rest none

pairs_apart : (seats : List Seat) → are_distinct (seat_nodes seats) ≡ true → are_distinct (pair_nodes (counted_pairs seats)) ≡ true
pairs_apart [] apart = refl
pairs_apart (s ∷ ss) apart = at s.counted (pairs_apart ss parts.1)
  where
    parts : (not (has_node (seat_nodes ss) s.node.0) ≡ true) × (are_distinct (seat_nodes ss) ≡ true)
    parts = and_parts (not (has_node (seat_nodes ss) s.node.0)) (are_distinct (seat_nodes ss)) apart

    untrue : (b : Bool) → not b ≡ true → b ≡ false
    untrue true is = absurd (false_true is)
    untrue false is = refl

    both : (a b : Bool) → a ≡ true → b ≡ true → (a && b) ≡ true
    both true b p q = q
    both false b p q = absurd (false_true p)

    at : (o : Option Boot) → are_distinct (pair_nodes (counted_pairs ss)) ≡ true
        → are_distinct (pair_nodes (cons_option (pair_of s.node o) (counted_pairs ss))) ≡ true
    at None rest = rest
    at (Some boot) rest = both (not (has_node (pair_nodes (counted_pairs ss)) s.node.0)) (are_distinct (pair_nodes (counted_pairs ss))) (ap not (seated ss s.node.0 (untrue (has_node (seat_nodes ss) s.node.0) parts.0))) rest

-- ---- answers to a round

-- the pairs to which a promise sends Write are of different nodes
abbrev pub TookFits : Took → Type 0
TookFits ignored = Unit {0}
TookFits counted = Unit {0}
TookFits (write_to targets) = are_distinct (pair_nodes targets) ≡ true
TookFits (alive x) = Unit {0}

pub record PromisedFits (p : Promised) : Type 0 where
  pub round : IsSeated p.round
  pub took : TookFits p.took

either_promised : (b : Bool) (x y : Promised) → PromisedFits x → PromisedFits y → PromisedFits (cond b x y)
either_promised true x y p q = p
either_promised false x y p q = q

counted_fits : (r : Round) (from : NodeId) (boot : Boot) → IsSeated r → PromisedFits (promise_counted r from boot)
counted_fits r from boot fit =
    let seats = map (with_promise from boot) r.seats in
    let same : are_distinct (seat_nodes (map (with_promise from boot) r.seats)) ≡ true = ap are_distinct (promised_nodes from boot r.seats) ∙ fit in
    either_promised r.written _ _ (record { round = same; took = refl })
    (either_promised (nat_le (majority_of r) (count_by has_promise seats)) _ _ (record { round = same; took = pairs_apart (map (with_promise from boot) r.seats) same }) (record { round = same; took = tt }))

taken_fits : (report : Option Lease) (r : Round) (now : ℕ) (from : NodeId) (boot : Boot) → IsSeated r → PromisedFits (report_taken report r now from boot)
taken_fits None r now from boot fit = counted_fits r from boot fit
taken_fits (Some x) r now from boot fit =
    either_promised (bars r now x) _ _ (either_promised r.written _ _ (record { round = fit; took = tt }) (record { round = fit; took = tt })) (counted_fits r from boot fit)

promise_fits : (r : Round) (now : ℕ) (from : NodeId) (boot : Boot) (report : Option Lease) → IsSeated r → PromisedFits (on_promise r now from boot report)
promise_fits r now from boot report fit = either_promised (list_any (awaits_promise from) r.seats) _ _ (taken_fits report r now from boot fit) (record { round = fit; took = tt })

accepting_fits : (r : Round) (from : NodeId) (boot : Boot) → IsSeated r → IsSeated (on_acceptance r from boot).round
accepting_fits r from boot fit = ap are_distinct (accepted_nodes from boot r.seats) ∙ fit

-- ---- what becomes of the lease

abbrev pub IsFree : LeaseState → Type 0
IsFree (free p) = Unit {0}
IsFree (asking r) = ⊥
IsFree (writing r) = ⊥
IsFree (held h) = ⊥

-- a free lease stays free, and a lease that is held stays held
pub record GoesOn (l m : LeaseState) : Type 0 where
  pub still_free : IsFree l → IsFree m
  pub still_held : IsHeld l → IsHeld m

-- the round is over, and nothing is held
pub record IsOver (l m : LeaseState) : Type 0 where
  pub unheld : IsHeld l → ⊥
  pub free_now : IsFree m

-- the lease is held from now on, or longer
pub record IsWon (l m : LeaseState) : Type 0 where
  pub not_free : IsFree l → ⊥
  pub held_now : IsHeld m

abbrev pub NewsFits : LeaseState → LeaseState → LeaseNews → Type 0
NewsFits l m lease.nothing = GoesOn l m
NewsFits l m (sends_write ballot x targets) = GoesOn l m × (are_distinct (pair_nodes targets) ≡ true) × (IsFree m → ⊥)
NewsFits l m (holds end) = IsWon l m
NewsFits l m (finds x) = IsOver l m
NewsFits l m ends = IsOver l m

-- only a promise makes a Write
abbrev pub WritesBehind : Payload → LeaseNews → Type 0
WritesBehind content (sends_write ballot x targets) = 3 ≤ lease_rank content
WritesBehind content _ = Unit {0}

pub record StepFits (l : LeaseState) (content : Payload) (step : LeaseStep) : Type 0 where
  pub seats : IfSeated (running_round step.state)
  pub writes : WritesBehind content step.news
  pub news : NewsFits l step.state step.news

either_step : {l : LeaseState} {content : Payload} (b : Bool) (x y : LeaseStep) → StepFits l content x → StepFits l content y → StepFits l content (cond b x y)
either_step true x y p q = p
either_step false x y p q = q

asked_fits : (r : Round) (ballot : Ballot) (x : Lease) (content : Payload) (p : Promised) → 3 ≤ lease_rank content → PromisedFits p → StepFits (asking r) content (step_of_asking ballot x (asked_by p.took p.round))
asked_fits r ballot x content p three fit = at p.took fit.took
  where
    at : (took : Took) → TookFits took → StepFits (asking r) content (step_of_asking ballot x (asked_by took p.round))
    at ignored is = record { seats = fit.round; writes = tt; news = record { still_free = λ i. i; still_held = λ i. absurd i } }
    at counted is = record { seats = fit.round; writes = tt; news = record { still_free = λ i. i; still_held = λ i. absurd i } }
    at (write_to targets) is = record { seats = fit.round; writes = three; news = (record { still_free = λ i. absurd i; still_held = λ i. absurd i }, is, λ f. f) }
    at (alive found) is = record { seats = tt; writes = tt; news = record { unheld = λ i. i; free_now = tt } }

asking_fits : (r : Round) (now : ℕ) (from : NodeId) (content : Payload) → IsSeated r → StepFits (asking r) content (answer_asking r now from content)
asking_fits r now from (payload.Promise file ballot boot report) fit =
    either_step (same_ballot ballot r.ballot) _ _ (asked_fits r r.ballot (lease_of r) (payload.Promise file ballot boot report) (on_promise r now from boot report) (le_refl 3) (promise_fits r now from boot report fit))
    (record { seats = fit; writes = tt; news = record { still_free = λ i. i; still_held = λ i. i } })
asking_fits r now from (payload.Outrun file ballot seen) fit =
    either_step (same_ballot ballot r.ballot) _ _ (record { seats = tt; writes = tt; news = record { unheld = λ i. i; free_now = tt } })
    (record { seats = fit; writes = tt; news = record { still_free = λ i. i; still_held = λ i. i } })
asking_fits r now from _ fit = record { seats = fit; writes = tt; news = record { still_free = λ i. i; still_held = λ i. i } }

won_fits : (r q : Round) (now : ℕ) (content : Payload) → StepFits (writing r) content (step_of_written (round_won q now))
won_fits r q now content = at (is_inside (lease_of q).end q.times now)
  where
    at : (b : Bool) → StepFits (writing r) content (step_of_written (cond b (written_won (lease.lease_won q)) (lease.won_too_late q)))
    at true = record { seats = tt; writes = tt; news = record { not_free = λ i. i; held_now = tt } }
    at false = record { seats = tt; writes = tt; news = record { unheld = λ i. i; free_now = tt } }

accepted_fits : (r : Round) (now : ℕ) (from : NodeId) (boot : Boot) (content : Payload) → IsSeated r → StepFits (writing r) content (step_of_written (writing_accepted r now from boot))
accepted_fits r now from boot content fit = at (on_acceptance r from boot).wins
  where
    at : (b : Bool) → StepFits (writing r) content (step_of_written (cond b (round_won (on_acceptance r from boot).round now) (written_still (on_acceptance r from boot).round)))
    at true = won_fits r (on_acceptance r from boot).round now content
    at false = record { seats = accepting_fits r from boot fit; writes = tt; news = record { still_free = λ i. i; still_held = λ i. i } }

more_fits : (r : Round) (content : Payload) (p : Promised) → 3 ≤ lease_rank content → PromisedFits p → StepFits (writing r) content (record { state = writing p.round; news = news_of_targets r.ballot (lease_of r) (lease.targets_of p.took) })
more_fits r content p three fit = at p.took fit.took
  where
    at : (took : Took) → TookFits took → StepFits (writing r) content (record { state = writing p.round; news = news_of_targets r.ballot (lease_of r) (lease.targets_of took) })
    at ignored is = record { seats = fit.round; writes = tt; news = record { still_free = λ i. i; still_held = λ i. i } }
    at counted is = record { seats = fit.round; writes = tt; news = record { still_free = λ i. i; still_held = λ i. i } }
    at (write_to targets) is = record { seats = fit.round; writes = three; news = (record { still_free = λ i. i; still_held = λ i. i }, is, λ f. f) }
    at (alive found) is = record { seats = fit.round; writes = tt; news = record { still_free = λ i. i; still_held = λ i. i } }

writing_fits : (r : Round) (now : ℕ) (from : NodeId) (content : Payload) → IsSeated r → StepFits (writing r) content (answer_writing r now from content)
writing_fits r now from (payload.Promise file ballot boot report) fit =
    either_step (same_ballot ballot r.ballot) _ _ (more_fits r (payload.Promise file ballot boot report) (on_promise r now from boot report) (le_refl 3) (promise_fits r now from boot report fit))
    (record { seats = fit; writes = tt; news = record { still_free = λ i. i; still_held = λ i. i } })
writing_fits r now from (payload.Accepted file ballot boot) fit =
    either_step (same_ballot ballot r.ballot) _ _ (accepted_fits r now from boot (payload.Accepted file ballot boot) fit) (record { seats = fit; writes = tt; news = record { still_free = λ i. i; still_held = λ i. i } })
writing_fits r now from (payload.Outrun file ballot seen) fit =
    either_step (same_ballot ballot r.ballot) _ _ (record { seats = tt; writes = tt; news = record { unheld = λ i. i; free_now = tt } })
    (record { seats = fit; writes = tt; news = record { still_free = λ i. i; still_held = λ i. i } })
writing_fits r now from _ fit = record { seats = fit; writes = tt; news = record { still_free = λ i. i; still_held = λ i. i } }

-- a renewal
pub record RenewingFits (h : Held) (r : Round) (content : Payload) (x : Renewing) : Type 0 where
  pub seats : IfSeated x.held.renewal
  pub writes : WritesBehind content (news_of_renewal (Some r) x.renewal)
  pub news : NewsFits (held h) (held x.held) (news_of_renewal (Some r) x.renewal)

either_renewing : {h : Held} {r : Round} {content : Payload} (b : Bool) (x y : Renewing) → RenewingFits h r content x → RenewingFits h r content y → RenewingFits h r content (cond b x y)
either_renewing true x y p q = p
either_renewing false x y p q = q

renewed_fits : (h : Held) (r : Round) (content : Payload) (p : Promised) → 3 ≤ lease_rank content → PromisedFits p → RenewingFits h r content (renewal_promised p.took h p.round)
renewed_fits h r content p three fit = at p.took fit.took
  where
    at : (took : Took) → TookFits took → RenewingFits h r content (renewal_promised took h p.round)
    at ignored is = record { seats = fit.round; writes = tt; news = record { still_free = λ i. i; still_held = λ i. i } }
    at counted is = record { seats = fit.round; writes = tt; news = record { still_free = λ i. i; still_held = λ i. i } }
    at (write_to targets) is = record { seats = fit.round; writes = three; news = (record { still_free = λ i. i; still_held = λ i. i }, is, λ f. f) }
    at (alive found) is = record { seats = tt; writes = tt; news = record { still_free = λ i. i; still_held = λ i. i } }

ignores_fits : (h : Held) (r : Round) (content : Payload) → h.renewal ≡ Some r → IsSeated r → RenewingFits h r content (lease.renewal_ignores h)
ignores_fits h r content is fit = record { seats = subst IfSeated (sym is) fit; writes = tt; news = record { still_free = λ i. i; still_held = λ i. i } }

extended_fits : (h : Held) (r q : Round) (now : ℕ) (content : Payload) → RenewingFits h r content (renewal_won h q now)
extended_fits h r q now content = either_renewing (is_inside (lease_of q).end q.times now) _ _ (record { seats = tt; writes = tt; news = record { not_free = λ i. i; held_now = tt } }) (record { seats = tt; writes = tt; news = record { still_free = λ i. i; still_held = λ i. i } })

renewal_fits : (h : Held) (r : Round) (now : ℕ) (from : NodeId) (content : Payload) → h.renewal ≡ Some r → IsSeated r → RenewingFits h r content (renewal_answered h r now from content)
renewal_fits h r now from (payload.Promise file ballot boot report) is fit =
    either_renewing (same_ballot ballot r.ballot) _ _ (renewed_fits h r (payload.Promise file ballot boot report) (on_promise r now from boot report) (le_refl 3) (promise_fits r now from boot report fit)) (ignores_fits h r (payload.Promise file ballot boot report) is fit)
renewal_fits h r now from (payload.Accepted file ballot boot) is fit =
    either_renewing (same_ballot ballot r.ballot) _ _
    (either_renewing (on_acceptance r from boot).wins _ _ (extended_fits h r (on_acceptance r from boot).round now (payload.Accepted file ballot boot)) (record { seats = accepting_fits r from boot fit; writes = tt; news = record { still_free = λ i. i; still_held = λ i. i } }))
    (ignores_fits h r (payload.Accepted file ballot boot) is fit)
renewal_fits h r now from (payload.Outrun file ballot seen) is fit =
    either_renewing (same_ballot ballot r.ballot) _ _ (record { seats = tt; writes = tt; news = record { still_free = λ i. i; still_held = λ i. i } }) (ignores_fits h r (payload.Outrun file ballot seen) is fit)
renewal_fits h r now from content is fit = ignores_fits h r content is fit

holder_fits : (h : Held) (o : Option Round) (now : ℕ) (from : NodeId) (content : Payload) → h.renewal ≡ o → IfSeated o
    → StepFits (held h) content (let x = renewal_under o h now from content in record { state = held x.held; news = news_of_renewal o x.renewal })
holder_fits h None now from content is fit = record { seats = subst IfSeated (sym is) tt; writes = tt; news = record { still_free = λ i. i; still_held = λ i. i } }
holder_fits h (Some r) now from content is fit = let x = renewal_fits h r now from content is fit in record { seats = x.seats; writes = x.writes; news = x.news }

-- What an answer makes of the lease.
pub answer_fits : (l : LeaseState) (now : ℕ) (from : NodeId) (content : Payload) → IfSeated (running_round l) → StepFits l content (on_answer l now from content)
answer_fits (free p) now from content fit = record { seats = tt; writes = tt; news = record { still_free = λ i. i; still_held = λ i. i } }
answer_fits (asking r) now from content fit = asking_fits r now from content fit
answer_fits (writing r) now from content fit = writing_fits r now from content fit
answer_fits (held h) now from content fit = holder_fits h h.renewal now from content refl fit

-- ---- writes

-- a message of the lease to the own node of at most this rank, or none
abbrev pub IsLeaseOf : ℕ → Option Payload → Type 0
IsLeaseOf k None = Unit {0}
IsLeaseOf k (Some content) = (is_lease content ≡ true) × (lease_rank content ≤ k)

pub record OneWrite (n : NodeId) (file : FileId) (ms : List Msg) : Type 0 where
  pub content : Option Payload
  pub is : ms ≡ token n content
  pub low : IsLeaseOf 2 content
  pub about : IfAbout file content

abbrev pub write_for : NodeId → FileId → Ballot → Lease → NodeId × Boot → Msg
write_for n file ballot x target = message n target.0 (payload.Write file ballot target.1 x)

no_write : (n : NodeId) (file : FileId) (ballot : Ballot) (x : Lease) (targets : List (NodeId × Boot)) → has_node (pair_nodes targets) n.0 ≡ false → to_itself n (map (write_for n file ballot x) targets) ≡ []
no_write n file ballot x [] none = refl
no_write n file ballot x (t ∷ ts) none = at (t.0.0 == n.0) (λ d. no_write n file ballot x ts d) none
  where
    at : (b : Bool) → (has_node (pair_nodes ts) n.0 ≡ false → to_itself n (map (write_for n file ballot x) ts) ≡ []) → (b || has_node (pair_nodes ts) n.0) ≡ false
        → cond b (write_for n file ballot x t ∷ to_itself n (map (write_for n file ballot x) ts)) (to_itself n (map (write_for n file ballot x) ts)) ≡ []
    at true rest none = absurd (false_true (sym none))
    at false rest none = rest none

pub one_write : (n : NodeId) (file : FileId) (ballot : Ballot) (x : Lease) (targets : List (NodeId × Boot)) → are_distinct (pair_nodes targets) ≡ true → OneWrite n file (to_itself n (map (write_for n file ballot x) targets))
one_write n file ballot x [] apart = record { content = None; is = refl; low = tt; about = tt }
one_write n file ballot x (t ∷ ts) apart = at (t.0.0 == n.0) refl (λ d. one_write n file ballot x ts d)
  where
    parts : (not (has_node (pair_nodes ts) t.0.0) ≡ true) × (are_distinct (pair_nodes ts) ≡ true)
    parts = and_parts (not (has_node (pair_nodes ts) t.0.0)) (are_distinct (pair_nodes ts)) apart

    untrue : (b : Bool) → not b ≡ true → b ≡ false
    untrue true is = absurd (false_true is)
    untrue false is = refl

    two : 2 ≤ 2
    two = omega arith

    at : (b : Bool) → (t.0.0 == n.0) ≡ b → (are_distinct (pair_nodes ts) ≡ true → OneWrite n file (to_itself n (map (write_for n file ballot x) ts)))
        → OneWrite n file (cond b (write_for n file ballot x t ∷ to_itself n (map (write_for n file ballot x) ts)) (to_itself n (map (write_for n file ballot x) ts)))
    at true is rest =
        let same = same_node t.0 n (eqb-true t.0.0 n.0 is) in
        let none : has_node (pair_nodes ts) n.0 ≡ false = ap (λ (k : NodeId). has_node (pair_nodes ts) k.0) (sym same) ∙ untrue (has_node (pair_nodes ts) t.0.0) parts.0 in
        record {
          content = Some (payload.Write file ballot t.1 x);
          is = ap₂ (λ (k : NodeId) (rest : List Msg). message n k (payload.Write file ballot t.1 x) ∷ rest) same (no_write n file ballot x ts none);
          low = (refl, two);
          about = refl;
        }
    at false is rest = rest parts.1
