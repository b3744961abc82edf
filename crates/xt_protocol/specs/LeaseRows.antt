-- how the lease of a file is asked for, held, renewed and lost, row by row
use Rattle.std.specs.Prelude.{ℕ, Bool, false, ◌&&◌, nat_lt, nat_le, if◌then◌else◌, ◌+◌, ◌-◌, ◌/◌, ◌^◌, max, Option, Some, None, Result, Ok, Err, is_none, List}
use Rattle.xt_base.specs.declared.ids.NodeId.{NodeId}
use Rattle.xt_base.specs.declared.ids.Boot.{Boot}
use Rattle.xt_base.specs.declared.ids.Ballot.{Ballot}
use Rattle.xt_base.specs.declared.ids.Lease.{Lease}
use Rattle.xt_messages.specs.declared.message.Payload.{Payload}
use Rattle.xt_messages.specs.declared.message.Payload.TheVariants as payload
use Rattle.xt_base.specs.TimeSettings.{TimeSettings}
use Rattle.xt_protocol.specs.Register.{Round, new_round, lease_of, same_ballot, on_promise, takes_promise, Took, ignored, counted, write_to, alive, on_acceptance}

-- Silence after a start.

-- a started OSD: its times, its node and boot, and the clock at its start
pub record Silent : Type 0 where
  pub node : NodeId
  pub boot : Boot
  pub times : TimeSettings
  pub start : ℕ

-- one whose silence is over
pub record Awake : Type 0 where
  pub node : NodeId
  pub boot : Boot
  pub times : TimeSettings

-- every message is dropped until the clock has advanced by the lease length and the drift
abbrev pub is_silent : Silent → ℕ → Bool
is_silent s now = nat_lt now (s.start + s.times.lease + s.times.drift)

-- silence ends
abbrev pub awake_at : Silent → ℕ → Option Awake
awake_at s now = if is_silent s now then None else Some (record { node = s.node; boot = s.boot; times = s.times })

-- No lease and no round.

-- who asks for a file's lease: a boot of a node, its times, and the greatest count known of its own rounds and of those learnt
pub record Proposer : Type 0 where
  pub node : NodeId
  pub boot : Boot
  pub times : TimeSettings
  pub known : ℕ

-- a boot begins with no count
abbrev pub new_proposer : Awake → Proposer
new_proposer a = record { node = a.node; boot = a.boot; times = a.times; known = 0 }

-- whether there is a count for one more round
abbrev pub can_ask : Proposer → Bool
can_ask p = nat_lt p.known (2 ^ 62 - 1)

-- round starts: its count is one above the greatest known; a Read goes to all
abbrev pub round_starts : Proposer → ℕ → List NodeId → Round
round_starts p now members = new_round p.node p.boot (p.known + 1) now members p.times

-- a round is over: its count is the greatest known
abbrev pub round_over : Round → Proposer
round_over r = record { node = r.ballot.node; boot = r.ballot.boot; times = r.times; known = r.ballot.count }

-- outrun learnt: the count of the ballot that outran the round
abbrev pub outrun_learnt : Proposer → Ballot → Proposer
outrun_learnt p seen = record p { known = max p.known seen.count }

-- A round that asks.

-- what a promise makes of it: it goes on, it sends Write to these, or it has found another's lease
pub data Asked : Type 0 where
  asked_still : Round → Asked
  asked_write : Round → List (NodeId × Boot) → Asked
  asked_found : Proposer → Lease → Asked

abbrev pub asked_by : Took → Round → Asked
asked_by ignored r = asked_still r
asked_by counted r = asked_still r
asked_by (write_to targets) r = asked_write r targets
asked_by (alive lease) r = asked_found (round_over r) lease

abbrev pub asking_promised : Round → ℕ → NodeId → Boot → Option Lease → Asked
asking_promised r now from boot report =
    let promised = on_promise r now from boot report in
    asked_by promised.took promised.round

-- A round that writes.

-- where a promise sends one Write more
abbrev pub targets_of : Took → Option (List (NodeId × Boot))
targets_of ignored = None
targets_of counted = None
targets_of (write_to targets) = Some targets
targets_of (alive lease) = None

-- a lease that is held: until when, and the round that renews it, if any
pub record Held : Type 0 where
  pub proposer : Proposer
  pub end : ℕ
  pub renewal : Option Round

-- a node may act until the drift before the end
abbrev pub is_inside : ℕ → TimeSettings → ℕ → Bool
is_inside end times now = nat_lt (now + times.drift) end

-- what an acceptance makes of it: it goes on, the lease is held, or it was too late
pub data Written : Type 0 where
  written_still : Round → Written
  written_won : Held → Written
  written_late : Proposer → Written

-- lease won: until its round's start plus the lease length
abbrev pub lease_won : Round → Held
lease_won r = record { proposer = round_over r; end = (lease_of r).end; renewal = None }

-- won too late: the round is over
abbrev pub won_too_late : Round → Written
won_too_late r = written_late (round_over r)

-- what a majority of acceptances makes
abbrev pub round_won : Round → ℕ → Written
round_won r now = if is_inside (lease_of r).end r.times now then written_won (lease_won r) else won_too_late r

abbrev pub writing_accepted : Round → ℕ → NodeId → Boot → Written
writing_accepted r now from boot =
    let taken = on_acceptance r from boot in
    if taken.wins then round_won taken.round now else written_still taken.round

-- A lease that is held.

-- a node at a moment at which it holds a lease
pub record Turn : Type 0 where
  pub node : NodeId
  pub moment : ℕ

-- whether the holder may act
abbrev pub has_turn : Held → ℕ → Bool
has_turn h now = is_inside h.end h.proposer.times now

-- a turn: of this node at this moment
abbrev pub turn_at : Held → ℕ → Option Turn
turn_at h now = if has_turn h now then Some (record { node = h.proposer.node; moment = now }) else None

-- lease lapses: with it its renewal
abbrev pub lapsed_at : Held → ℕ → Result Held Proposer
lapsed_at h now = if has_turn h now then Ok h else Err h.proposer

-- renewal starts
abbrev pub renewal_starts : Held → ℕ → List NodeId → Held
renewal_starts h now members =
    let proposer = record h.proposer { known = h.proposer.known + 1 } in
    record { proposer = proposer; end = h.end; renewal = Some (round_starts h.proposer now members) }

-- what an answer to a renewal made: nothing to send or to report, a Write to these, or a later end
pub data Renewal : Type 0 where
  no_news : Renewal
  renewal_write : List (NodeId × Boot) → Renewal
  renewed : ℕ → Renewal

-- a holder after an answer
pub record Renewing : Type 0 where
  pub held : Held
  pub renewal : Renewal

-- the lease without a renewal
abbrev pub without_renewal : Held → Held
without_renewal h = record h { renewal = None }

-- the lease with its renewal so far
abbrev pub with_renewal : Held → Round → Held
with_renewal h r = record h { renewal = Some r }

-- a promise: a live report ends the renewal alone
abbrev pub renewal_promised : Took → Held → Round → Renewing
renewal_promised ignored h r = record { held = with_renewal h r; renewal = no_news }
renewal_promised counted h r = record { held = with_renewal h r; renewal = no_news }
renewal_promised (write_to targets) h r = record { held = with_renewal h r; renewal = renewal_write targets }
renewal_promised (alive lease) h r = record { held = without_renewal h; renewal = no_news }

-- the renewal is won, or won too late
abbrev pub renewal_won : Held → Round → ℕ → Renewing
renewal_won h r now =
    let end = (lease_of r).end in
    if is_inside end r.times now
    then record { held = record { proposer = h.proposer; end = end; renewal = None }; renewal = renewed end }
    else record { held = without_renewal h; renewal = no_news }

abbrev pub renewal_accepted : Held → Round → ℕ → NodeId → Boot → Renewing
renewal_accepted h r now from boot =
    let taken = on_acceptance r from boot in
    if taken.wins then renewal_won h taken.round now else record { held = with_renewal h taken.round; renewal = no_news }

-- the renewal was outrun
abbrev pub renewal_outrun : Held → Ballot → Renewing
renewal_outrun h seen =
    record { held = record { proposer = outrun_learnt h.proposer seen; end = h.end; renewal = None }; renewal = no_news }

-- what does nothing
abbrev pub renewal_ignores : Held → Renewing
renewal_ignores h = record { held = h; renewal = no_news }

-- an answer to the running renewal; an answer to another round does nothing
abbrev pub renewal_answered : Held → Round → ℕ → NodeId → Payload → Renewing
renewal_answered h r now from (payload.Promise file ballot boot report) =
    let promised = on_promise r now from boot report in
    if same_ballot ballot r.ballot then renewal_promised promised.took h promised.round else renewal_ignores h
renewal_answered h r now from (payload.Accepted file ballot boot) =
    if same_ballot ballot r.ballot then renewal_accepted h r now from boot else renewal_ignores h
renewal_answered h r now from (payload.Outrun file ballot seen) =
    if same_ballot ballot r.ballot then renewal_outrun h seen else renewal_ignores h
renewal_answered h r now from _ = renewal_ignores h

-- an answer to a holder
abbrev pub renewal_under : Option Round → Held → ℕ → NodeId → Payload → Renewing
renewal_under None h now from answer = renewal_ignores h
renewal_under (Some r) h now from answer = renewal_answered h r now from answer

abbrev pub on_renewal : Held → ℕ → NodeId → Payload → Renewing
on_renewal h now from answer = renewal_under h.renewal h now from answer

-- whether an answer to a holder is a promise that its renewal takes
abbrev pub renewal_takes_answer : Round → ℕ → NodeId → Payload → Bool
renewal_takes_answer r now from (payload.Promise file ballot boot report) = same_ballot ballot r.ballot && takes_promise r now from report
renewal_takes_answer r now from _ = false

abbrev pub renewal_takes_under : Option Round → ℕ → NodeId → Payload → Bool
renewal_takes_under None now from answer = false
renewal_takes_under (Some r) now from answer = renewal_takes_answer r now from answer

abbrev pub renewal_takes : Held → ℕ → NodeId → Payload → Bool
renewal_takes h now from answer = renewal_takes_under h.renewal now from answer

-- round runs out: half the lease length after its start
abbrev pub has_run_out : Round → ℕ → Bool
has_run_out r now = nat_le (r.start + r.times.lease / 2) now

-- a renewal that has run out just ends
abbrev pub renewal_left : Option Round → ℕ → Option Round
renewal_left None now = None
renewal_left (Some r) now = if has_run_out r now then None else Some r

-- whether a renewal is due at a Wake: none runs, the end is at most half the lease length away, and the file was used in
-- the last lease length
abbrev pub is_renewal_due : Held → ℕ → ℕ → Bool
is_renewal_due h now used =
    is_none h.renewal
    && nat_le h.end (now + h.proposer.times.lease / 2)
    && nat_lt now (used + h.proposer.times.lease)
    && can_ask h.proposer

-- The lease of a file at an OSD.

pub data LeaseState : Type 0 where
  free : Proposer → LeaseState
  asking : Round → LeaseState
  writing : Round → LeaseState
  held : Held → LeaseState

-- the round that runs: for a lease, or to renew it
abbrev pub running_round : LeaseState → Option Round
running_round (free p) = None
running_round (asking r) = Some r
running_round (writing r) = Some r
running_round (held h) = h.renewal

-- what is overdue, before any row: lease lapses; round runs out
abbrev pub lease_expired : LeaseState → ℕ → LeaseState
lease_expired (free p) now = free p
lease_expired (asking r) now = if has_run_out r now then free (round_over r) else asking r
lease_expired (writing r) now = if has_run_out r now then free (round_over r) else writing r
lease_expired (held h) now = if has_turn h now then held (record h { renewal = renewal_left h.renewal now }) else free h.proposer

-- what an answer to the running round brings about
pub data LeaseNews : Type 0 where
  nothing : LeaseNews
  -- this Write goes to these pairs
  sends_write : Ballot → Lease → List (NodeId × Boot) → LeaseNews
  -- the lease, or its renewal, is held until this end
  holds : ℕ → LeaseNews
  -- a live report has ended the round: this lease
  finds : Lease → LeaseNews
  -- the round has ended otherwise
  ends : LeaseNews

-- the lease after an answer
pub record LeaseStep : Type 0 where
  pub state : LeaseState
  pub news : LeaseNews

abbrev pub step_of_asking : Ballot → Lease → Asked → LeaseStep
step_of_asking ballot lease (asked_still r) = record { state = asking r; news = nothing }
step_of_asking ballot lease (asked_write r targets) = record { state = writing r; news = sends_write ballot lease targets }
step_of_asking ballot lease (asked_found p found) = record { state = free p; news = finds found }

abbrev pub news_of_targets : Ballot → Lease → Option (List (NodeId × Boot)) → LeaseNews
news_of_targets ballot lease None = nothing
news_of_targets ballot lease (Some targets) = sends_write ballot lease targets

abbrev pub step_of_written : Written → LeaseStep
step_of_written (written_still r) = record { state = writing r; news = nothing }
step_of_written (written_won h) = record { state = held h; news = holds h.end }
step_of_written (written_late p) = record { state = free p; news = ends }

abbrev pub news_of_renewal : Option Round → Renewal → LeaseNews
news_of_renewal None renewal = nothing
news_of_renewal (Some r) no_news = nothing
news_of_renewal (Some r) (renewal_write targets) = sends_write r.ballot (lease_of r) targets
news_of_renewal (Some r) (renewed end) = holds end

abbrev pub answer_asking : Round → ℕ → NodeId → Payload → LeaseStep
answer_asking r now from (payload.Promise file ballot boot report) =
    if same_ballot ballot r.ballot
    then step_of_asking r.ballot (lease_of r) (asking_promised r now from boot report)
    else record { state = asking r; news = nothing }
answer_asking r now from (payload.Outrun file ballot seen) =
    if same_ballot ballot r.ballot
    then record { state = free (outrun_learnt (round_over r) seen); news = ends }
    else record { state = asking r; news = nothing }
answer_asking r now from _ = record { state = asking r; news = nothing }

abbrev pub answer_writing : Round → ℕ → NodeId → Payload → LeaseStep
answer_writing r now from (payload.Promise file ballot boot report) =
    let promised = on_promise r now from boot report in
    if same_ballot ballot r.ballot
    then record { state = writing promised.round; news = news_of_targets r.ballot (lease_of r) (targets_of promised.took) }
    else record { state = writing r; news = nothing }
answer_writing r now from (payload.Accepted file ballot boot) =
    if same_ballot ballot r.ballot
    then step_of_written (writing_accepted r now from boot)
    else record { state = writing r; news = nothing }
answer_writing r now from (payload.Outrun file ballot seen) =
    if same_ballot ballot r.ballot
    then record { state = free (outrun_learnt (round_over r) seen); news = ends }
    else record { state = writing r; news = nothing }
answer_writing r now from _ = record { state = writing r; news = nothing }

-- an answer of this node to the running round, if there is one; an answer to another round does nothing
abbrev pub on_answer : LeaseState → ℕ → NodeId → Payload → LeaseStep
on_answer (free p) now from answer = record { state = free p; news = nothing }
on_answer (asking r) now from answer = answer_asking r now from answer
on_answer (writing r) now from answer = answer_writing r now from answer
on_answer (held h) now from answer =
    let renewing = on_renewal h now from answer in
    record { state = held renewing.held; news = news_of_renewal h.renewal renewing.renewal }
