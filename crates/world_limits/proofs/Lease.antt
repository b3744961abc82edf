-- the register and the lease of a file: what their rows give is within the limits
use Rattle.std.proofs.Common.{◌≡◌, ℕ, ◌+◌, ◌<◌, ◌^◌, max, List, [], ◌∷◌, map, Option, Some, None, Bool, true, nat_lt, nat_le, arith}
use Rattle.std.specs.Prelude.{count_by, cond, ◌-◌}
use Rattle.std.specs.Option.{IfSome}
use Rattle.std.specs.List.{AllByRecursion, list_any}
use Rattle.std.proofs.lemmas.Bool.Decides.{nat_tests}
use Rattle.xt_base.specs.declared.ids.NodeId.{NodeId}
use Rattle.xt_base.specs.declared.ids.Boot.{Boot}
use Rattle.xt_base.specs.declared.ids.Ballot.{Ballot}
use Rattle.xt_base.specs.declared.ids.Lease.{Lease}
use Rattle.xt_messages.specs.declared.message.Payload.{Payload}
use Rattle.xt_messages.specs.declared.message.Payload.TheVariants as payload
use Rattle.xt_messages.specs.Limits.{FitsBoot, FitsBallot, FitsLease, FitsNode, FitsPayload}
use Rattle.xt_protocol.specs.Register.{Seat, Round, Took, ignored, counted, write_to, alive, Promised, on_promise, report_taken, promise_counted, promise_ignored, live_report, report_after_write, bars, awaits_promise, with_promise, has_promise, majority_of, counted_pairs, awaits_acceptance, with_acceptance, on_acceptance, lease_of, same_ballot, empty_seat}
use Rattle.xt_protocol.specs.LeaseRows.{Proposer, Held, LeaseState, free, asking, writing, held, LeaseNews, sends_write, holds, finds, ends, LeaseStep, Renewal, no_news, renewal_write, renewed, Renewing, Written, written_still, written_won, written_late, Asked, asked_still, asked_write, asked_found, asked_by, on_answer, asking_promised, answer_asking, answer_writing, writing_accepted, round_won, is_inside, round_over, outrun_learnt, step_of_asking, step_of_written, targets_of, news_of_targets, news_of_renewal, renewal_answered, renewal_promised, renewal_accepted, renewal_won, renewal_under, on_renewal, can_ask, round_starts, renewal_starts, lease_expired, has_run_out, has_turn, renewal_left, with_renewal, without_renewal}
use Rattle.xt_protocol.specs.LeaseRows as lease
use Rattle.object_versions.proofs.HeadLimits.{either}
use Rattle.world_limits.proofs.Lists.{all_map, all_weaker}
use Rattle.world_limits.specs.States.{ProposerIs, SeatIs, RoundIs, HeldIs, LeaseIs, TargetIs}

-- ---- rounds

-- a round's lease
pub lease_is : (r : Round) → RoundIs r → FitsLease (lease_of r)
lease_is r is = record { holder = is.number.proposer; start = is.number.start; clock = end_is r.start r.times.lease is.clock is.short }
  where
    end_is : (a b : ℕ) → a < 2 ^ 62 → b < 2 ^ 40 → a + b < 2 ^ 64
    end_is a b x y = omega arith

over_is : (r : Round) → RoundIs r → ProposerIs (round_over r)
over_is r is = record { who = is.number.proposer; start = is.number.start; short = is.short; rounds = is.number.rounds }

max_is : (a b : ℕ) → a < 2 ^ 62 → b < 2 ^ 62 → max a b < 2 ^ 62
max_is a b x y = omega arith

outrun_is : (p : Proposer) (seen : Ballot) → ProposerIs p → FitsBallot seen → ProposerIs (outrun_learnt p seen)
outrun_is p seen is fits = record { who = is.who; start = is.start; short = is.short; rounds = max_is p.known seen.count is.rounds fits.rounds }

seats_is : (members : List NodeId) → AllByRecursion FitsNode members → AllByRecursion SeatIs (map empty_seat members)
seats_is [] all = tt
seats_is (m ∷ ms) all = ((all.0, tt), seats_is ms all.1)

pub starts_is : (p : Proposer) (now : ℕ) (members : List NodeId) → ProposerIs p → now < 2 ^ 62 → AllByRecursion FitsNode members → can_ask p ≡ true → RoundIs (round_starts p now members)
starts_is p now members is clock all can = record {
  number = record { rounds = one_more p.known can; proposer = is.who; start = is.start };
  clock = clock;
  short = is.short;
  members = seats_is members all;
}
  where
    one_more : (k : ℕ) → nat_lt k (2 ^ 62 - 1) ≡ true → k + 1 < 2 ^ 62
    one_more k can = grind (arith, nat_tests)

-- ---- promises

abbrev pub TookIs : Took → Type 0
TookIs ignored = Unit {0}
TookIs counted = Unit {0}
TookIs (write_to targets) = AllByRecursion TargetIs targets
TookIs (alive l) = FitsLease l

pub record PromisedIs (p : Promised) : Type 0 where
  pub round : RoundIs p.round
  pub took : TookIs p.took

promised_seat : (from : NodeId) (boot : Boot) (seat : Seat) → FitsBoot boot → SeatIs seat → SeatIs (with_promise from boot seat)
promised_seat from boot seat fits is = either SeatIs (awaits_promise from seat) (record seat { counted = Some boot }) seat (is.0, fits) is

promised_seats : (from : NodeId) (boot : Boot) (seats : List Seat) → FitsBoot boot → AllByRecursion SeatIs seats → AllByRecursion SeatIs (map (with_promise from boot) seats)
promised_seats from boot seats fits all = all_map SeatIs (with_promise from boot) seats (all_weaker SeatIs (λ (s : Seat). SeatIs (with_promise from boot s)) seats (λ s is. promised_seat from boot s fits is) all)

accepted_seat : (from : NodeId) (boot : Boot) (seat : Seat) → SeatIs seat → SeatIs (with_acceptance from boot seat)
accepted_seat from boot seat is = either SeatIs (awaits_acceptance from boot seat) (record seat { accepted = true }) seat is is

accepted_seats : (from : NodeId) (boot : Boot) (seats : List Seat) → AllByRecursion SeatIs seats → AllByRecursion SeatIs (map (with_acceptance from boot) seats)
accepted_seats from boot seats all = all_map SeatIs (with_acceptance from boot) seats (all_weaker SeatIs (λ (s : Seat). SeatIs (with_acceptance from boot s)) seats (λ s is. accepted_seat from boot s is) all)

pairs_are : (seats : List Seat) → AllByRecursion SeatIs seats → AllByRecursion TargetIs (counted_pairs seats)
pairs_are [] all = tt
pairs_are (s ∷ ss) all = at s.counted all.0.1 (pairs_are ss all.1)
  where
    at : (o : Option Boot) → IfSome o FitsBoot → AllByRecursion TargetIs (counted_pairs ss) → AllByRecursion TargetIs (counted_pairs (record s { counted = o } ∷ ss))
    at None is rest = rest
    at (Some boot) is rest = ((all.0.0, is), rest)

counted_is : (r : Round) (from : NodeId) (boot : Boot) → RoundIs r → FitsNode from → FitsBoot boot → PromisedIs (promise_counted r from boot)
counted_is r from boot is node fits =
    let seats = map (with_promise from boot) r.seats in
    let all = promised_seats from boot r.seats fits is.members in
    let counting : RoundIs (record r { seats = seats }) = record { number = is.number; clock = is.clock; short = is.short; members = all } in
    let wrote : RoundIs (record r { seats = seats; written = true }) = record { number = is.number; clock = is.clock; short = is.short; members = all } in
    either PromisedIs r.written _ _
    (record { round = counting; took = ((node, fits), tt) })
    (either PromisedIs (nat_le (majority_of r) (count_by has_promise seats)) _ _
    (record { round = wrote; took = pairs_are seats all })
    (record { round = counting; took = tt }))

abbrev pub ReportIs : Option Lease → Type 0
ReportIs report = IfSome report FitsLease

report_is : (report : Option Lease) (r : Round) (now : ℕ) (from : NodeId) (boot : Boot) → RoundIs r → FitsNode from → FitsBoot boot → ReportIs report → PromisedIs (report_taken report r now from boot)
report_is None r now from boot is node fits told = counted_is r from boot is node fits
report_is (Some l) r now from boot is node fits told =
    either PromisedIs (bars r now l) _ _
    (either PromisedIs r.written (report_after_write r) (live_report r l) (record { round = is; took = tt }) (record { round = is; took = told }))
    (counted_is r from boot is node fits)

promise_is : (r : Round) (now : ℕ) (from : NodeId) (boot : Boot) (report : Option Lease) → RoundIs r → FitsNode from → FitsBoot boot → ReportIs report → PromisedIs (on_promise r now from boot report)
promise_is r now from boot report is node fits told =
    either PromisedIs (list_any (awaits_promise from) r.seats) (report_taken report r now from boot) (promise_ignored r) (report_is report r now from boot is node fits told) (record { round = is; took = tt })

acceptance_is : (r : Round) (from : NodeId) (boot : Boot) → RoundIs r → RoundIs (on_acceptance r from boot).round
acceptance_is r from boot is = record { number = is.number; clock = is.clock; short = is.short; members = accepted_seats from boot r.seats is.members }

-- ---- answers

abbrev pub NewsIs : LeaseNews → Type 0
NewsIs lease.nothing = Unit {0}
NewsIs (sends_write ballot l targets) = FitsBallot ballot × FitsLease l × AllByRecursion TargetIs targets
NewsIs (holds end) = end < 2 ^ 64
NewsIs (finds l) = FitsLease l
NewsIs ends = Unit {0}

pub record LeaseStepIs (step : LeaseStep) : Type 0 where
  pub state : LeaseIs step.state
  pub news : NewsIs step.news

won_is : (r : Round) → RoundIs r → HeldIs (lease.lease_won r)
won_is r is = record { who = over_is r is; clock = (lease_is r is).clock; round = tt }

asking_is : (r : Round) (now : ℕ) (from : NodeId) (boot : Boot) (report : Option Lease) → RoundIs r → FitsNode from → FitsBoot boot → ReportIs report
    → LeaseStepIs (step_of_asking r.ballot (lease_of r) (asking_promised r now from boot report))
asking_is r now from boot report is node fits told =
    let p = promise_is r now from boot report is node fits told in
    at (on_promise r now from boot report).took (on_promise r now from boot report).round p.took p.round
  where
    at : (took : Took) (q : Round) → TookIs took → RoundIs q → LeaseStepIs (step_of_asking r.ballot (lease_of r) (asked_by took q))
    at ignored q t k = record { state = k; news = tt }
    at counted q t k = record { state = k; news = tt }
    at (write_to targets) q t k = record { state = k; news = (is.number, lease_is r is, t) }
    at (alive l) q t k = record { state = over_is q k; news = t }

step_either : (b : Bool) (x y : LeaseStep) → LeaseStepIs x → LeaseStepIs y → LeaseStepIs (cond b x y)
step_either b x y p q = either LeaseStepIs b x y p q

asking_answers : (r : Round) (now : ℕ) (from : NodeId) (content : Payload) → RoundIs r → FitsNode from → FitsPayload content → LeaseStepIs (answer_asking r now from content)
asking_answers r now from (payload.Promise file ballot boot report) is node fits =
    step_either (same_ballot ballot r.ballot) _ _ (asking_is r now from boot report is node fits.2 fits.3) (record { state = is; news = tt })
asking_answers r now from (payload.Outrun file ballot seen) is node fits =
    step_either (same_ballot ballot r.ballot) _ _ (record { state = outrun_is (round_over r) seen (over_is r is) fits.2; news = tt }) (record { state = is; news = tt })
asking_answers r now from _ is node fits = record { state = is; news = tt }

writing_promise : (r : Round) (q : Round) (took : Took) → RoundIs r → RoundIs q → TookIs took → LeaseStepIs (record { state = writing q; news = news_of_targets r.ballot (lease_of r) (targets_of took) })
writing_promise r q ignored is k t = record { state = k; news = tt }
writing_promise r q counted is k t = record { state = k; news = tt }
writing_promise r q (write_to targets) is k t = record { state = k; news = (is.number, lease_is r is, t) }
writing_promise r q (alive l) is k t = record { state = k; news = tt }

written_is : (r : Round) (now : ℕ) → RoundIs r → LeaseStepIs (step_of_written (round_won r now))
written_is r now is =
    either (λ w. LeaseStepIs (step_of_written w)) (is_inside (lease_of r).end r.times now) (written_won (lease.lease_won r)) (lease.won_too_late r)
    (record { state = won_is r is; news = (lease_is r is).clock }) (record { state = over_is r is; news = tt })

accepting_is : (r : Round) (now : ℕ) (from : NodeId) (boot : Boot) → RoundIs r → LeaseStepIs (step_of_written (writing_accepted r now from boot))
accepting_is r now from boot is =
    let taken = on_acceptance r from boot in
    either (λ w. LeaseStepIs (step_of_written w)) taken.wins (round_won taken.round now) (written_still taken.round)
    (written_is taken.round now (acceptance_is r from boot is)) (record { state = acceptance_is r from boot is; news = tt })

writing_answers : (r : Round) (now : ℕ) (from : NodeId) (content : Payload) → RoundIs r → FitsNode from → FitsPayload content → LeaseStepIs (answer_writing r now from content)
writing_answers r now from (payload.Promise file ballot boot report) is node fits =
    let p = promise_is r now from boot report is node fits.2 fits.3 in
    let promised = on_promise r now from boot report in
    step_either (same_ballot ballot r.ballot) _ _ (writing_promise r promised.round promised.took is p.round p.took) (record { state = is; news = tt })
writing_answers r now from (payload.Accepted file ballot boot) is node fits =
    step_either (same_ballot ballot r.ballot) _ _ (accepting_is r now from boot is) (record { state = is; news = tt })
writing_answers r now from (payload.Outrun file ballot seen) is node fits =
    step_either (same_ballot ballot r.ballot) _ _ (record { state = outrun_is (round_over r) seen (over_is r is) fits.2; news = tt }) (record { state = is; news = tt })
writing_answers r now from _ is node fits = record { state = is; news = tt }

-- ---- renewals

abbrev pub RenewalIs : Renewal → Type 0
RenewalIs no_news = Unit {0}
RenewalIs (renewal_write targets) = AllByRecursion TargetIs targets
RenewalIs (renewed end) = end < 2 ^ 64

pub record RenewingIs (x : Renewing) : Type 0 where
  pub holder : HeldIs x.held
  pub news : RenewalIs x.renewal

without_is : (h : Held) → HeldIs h → HeldIs (without_renewal h)
without_is h is = record { who = is.who; clock = is.clock; round = tt }

with_is : (h : Held) (r : Round) → HeldIs h → RoundIs r → HeldIs (with_renewal h r)
with_is h r is k = record { who = is.who; clock = is.clock; round = k }

renewal_promise : (took : Took) (h : Held) (q : Round) → HeldIs h → RoundIs q → TookIs took → RenewingIs (renewal_promised took h q)
renewal_promise ignored h q is k t = record { holder = with_is h q is k; news = tt }
renewal_promise counted h q is k t = record { holder = with_is h q is k; news = tt }
renewal_promise (write_to targets) h q is k t = record { holder = with_is h q is k; news = t }
renewal_promise (alive l) h q is k t = record { holder = without_is h is; news = tt }

renewal_win : (h : Held) (r : Round) (now : ℕ) → HeldIs h → RoundIs r → RenewingIs (renewal_won h r now)
renewal_win h r now is k =
    either RenewingIs (is_inside (lease_of r).end r.times now) _ _
    (record { holder = record { who = is.who; clock = (lease_is r k).clock; round = tt }; news = (lease_is r k).clock })
    (record { holder = without_is h is; news = tt })

renewal_accept : (h : Held) (r : Round) (now : ℕ) (from : NodeId) (boot : Boot) → HeldIs h → RoundIs r → RenewingIs (renewal_accepted h r now from boot)
renewal_accept h r now from boot is k =
    let taken = on_acceptance r from boot in
    either RenewingIs taken.wins _ _ (renewal_win h taken.round now is (acceptance_is r from boot k)) (record { holder = with_is h taken.round is (acceptance_is r from boot k); news = tt })

renewal_answers : (h : Held) (r : Round) (now : ℕ) (from : NodeId) (content : Payload) → HeldIs h → RoundIs r → FitsNode from → FitsPayload content → RenewingIs (renewal_answered h r now from content)
renewal_answers h r now from (payload.Promise file ballot boot report) is k node fits =
    let p = promise_is r now from boot report k node fits.2 fits.3 in
    let promised = on_promise r now from boot report in
    either RenewingIs (same_ballot ballot r.ballot) _ _ (renewal_promise promised.took h promised.round is p.round p.took) (record { holder = is; news = tt })
renewal_answers h r now from (payload.Accepted file ballot boot) is k node fits =
    either RenewingIs (same_ballot ballot r.ballot) _ _ (renewal_accept h r now from boot is k) (record { holder = is; news = tt })
renewal_answers h r now from (payload.Outrun file ballot seen) is k node fits =
    either RenewingIs (same_ballot ballot r.ballot) _ _
    (record { holder = record { who = outrun_is h.proposer seen is.who fits.2; clock = is.clock; round = tt }; news = tt }) (record { holder = is; news = tt })
renewal_answers h r now from _ is k node fits = record { holder = is; news = tt }

renewal_news : (r : Round) (n : Renewal) → RoundIs r → RenewalIs n → NewsIs (news_of_renewal (Some r) n)
renewal_news r no_news is t = tt
renewal_news r (renewal_write targets) is t = (is.number, lease_is r is, t)
renewal_news r (renewed end) is t = t

held_answers : (h : Held) (o : Option Round) (now : ℕ) (from : NodeId) (content : Payload) → HeldIs h → IfSome o RoundIs → FitsNode from → FitsPayload content
    → (let x = renewal_under o h now from content in LeaseStepIs (record { state = held x.held; news = news_of_renewal o x.renewal }))
held_answers h None now from content is k node fits = record { state = is; news = tt }
held_answers h (Some r) now from content is k node fits =
    let x = renewal_answers h r now from content is k node fits in
    record { state = x.holder; news = renewal_news r (renewal_answered h r now from content).renewal k x.news }

-- an answer to a round leaves the lease within its limits
pub answer_is : (l : LeaseState) (now : ℕ) (from : NodeId) (content : Payload) → LeaseIs l → FitsNode from → FitsPayload content → LeaseStepIs (on_answer l now from content)
answer_is (free p) now from content is node fits = record { state = is; news = tt }
answer_is (asking r) now from content is node fits = asking_answers r now from content is node fits
answer_is (writing r) now from content is node fits = writing_answers r now from content is node fits
answer_is (held h) now from content is node fits = held_answers h h.renewal now from content is is.round node fits

-- ---- what is overdue, and renewals

pub renewing_is : (h : Held) (now : ℕ) (members : List NodeId) → HeldIs h → now < 2 ^ 62 → AllByRecursion FitsNode members → can_ask h.proposer ≡ true → HeldIs (renewal_starts h now members)
renewing_is h now members is clock all can = record {
  who = record { who = is.who.who; start = is.who.start; short = is.who.short; rounds = (starts_is h.proposer now members is.who clock all can).number.rounds };
  clock = is.clock;
  round = starts_is h.proposer now members is.who clock all can;
}

left_is : (o : Option Round) (now : ℕ) → IfSome o RoundIs → IfSome (renewal_left o now) RoundIs
left_is None now is = tt
left_is (Some r) now is = either (λ o. IfSome o RoundIs) (has_run_out r now) None (Some r) tt is

pub expires_is : (l : LeaseState) (now : ℕ) → LeaseIs l → LeaseIs (lease_expired l now)
expires_is (free p) now is = is
expires_is (asking r) now is = either LeaseIs (has_run_out r now) (free (round_over r)) (asking r) (over_is r is) is
expires_is (writing r) now is = either LeaseIs (has_run_out r now) (free (round_over r)) (writing r) (over_is r is) is
expires_is (held h) now is =
    either LeaseIs (has_turn h now) (held (record h { renewal = renewal_left h.renewal now })) (free h.proposer)
    (record { who = is.who; clock = is.clock; round = left_is h.renewal now is.round }) is.who
