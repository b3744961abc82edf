-- the lease of a file of three members at node 1, from event to event
use Rattle.std.specs.Prelude.{ℕ, Option, Some, None, List, [], ◌∷◌, if◌then◌else◌, map, scan, option_map}
use Rattle.xt_base.specs.declared.ids.NodeId.{NodeId}
use Rattle.xt_base.specs.declared.ids.Boot.{Boot}
use Rattle.xt_base.specs.declared.ids.Ballot.{Ballot}
use Rattle.xt_base.specs.declared.ids.Lease.{Lease}
use Rattle.xt_base.specs.declared.ids.FileId.{FileId}
use Rattle.xt_base.specs.TimeSettings.{TimeSettings}
use Rattle.xt_messages.specs.declared.message.Payload.TheVariants as payload
use Rattle.xt_protocol.specs.Register.{Round, no_ballot}
use Rattle.xt_protocol.specs.LeaseRows.{Silent, Awake, Proposer, new_proposer, can_ask, round_starts, round_over, Held, renewal_starts, LeaseState, free, asking, writing, held, lease_expired, on_answer}
use Rattle.spec_examples.specs.Values.{node}

abbrev pub first_boot : Boot
first_boot = record { 0 = 1 }

abbrev pub members : List NodeId
members = map node (1 ∷ 2 ∷ 3 ∷ [])

abbrev pub times : TimeSettings
times = record { lease = 1000; drift = 100 }

abbrev pub started : Silent
started = record { node = node 1; boot = first_boot; times = times; start = 3900 }

abbrev pub awake : Awake
awake = record { node = node 1; boot = first_boot; times = times }

pub data Event : Type 0 where
  -- a round starts, or a renewal
  ask : Event
  -- a promise comes, with the end of a lease of node 3 that it reports
  promise : Option ℕ → Event
  accepted : Event
  -- node 3 has outrun the round by this count
  outrun : ℕ → Event
  give_up : Event
  lapse : Event

-- a round by its count, a lease by its end
pub data Seen : Type 0 where
  sees_free : Seen
  sees_asking : ℕ → Seen
  sees_writing : ℕ → Seen
  sees_held : ℕ → Seen

-- the clock, from whom, what, and what is seen after it
abbrev pub Row : Type 0
Row = ℕ × ℕ × Event × Seen

abbrev pub wanted : Row → Seen
wanted row = row.3

abbrev pub seen : LeaseState → Seen
seen (free p) = sees_free
seen (asking r) = sees_asking r.ballot.count
seen (writing r) = sees_writing r.ballot.count
seen (held h) = sees_held h.end

abbrev pub asked : LeaseState → ℕ → LeaseState
asked (free p) now = if can_ask p then asking (round_starts p now members) else free p
asked (asking r) now = asking r
asked (writing r) now = writing r
asked (held h) now = held (renewal_starts h now members)

abbrev pub given_up : LeaseState → LeaseState
given_up (free p) = free p
given_up (asking r) = free (round_over r)
given_up (writing r) = free (round_over r)
given_up (held h) = free h.proposer

abbrev pub ballot_under : Option Round → Ballot
ballot_under None = no_ballot
ballot_under (Some r) = r.ballot

-- of the round or the renewal that runs
abbrev pub ballot_in : LeaseState → Ballot
ballot_in (free p) = no_ballot
ballot_in (asking r) = r.ballot
ballot_in (writing r) = r.ballot
ballot_in (held h) = ballot_under h.renewal

abbrev pub file : FileId
file = record { volume = []; number = 1 }

abbrev pub reported : ℕ → Lease
reported end = record { node = node 3; boot = first_boot; end = end }

abbrev pub outrunning : ℕ → Ballot
outrunning count = record { count = count; node = node 3; boot = first_boot }

abbrev pub after_event : LeaseState → ℕ → NodeId → Event → LeaseState
after_event s now from ask = asked s now
after_event s now from (promise end) =
    (on_answer s now from (payload.Promise file (ballot_in s) first_boot (option_map reported end))).state
after_event s now from accepted = (on_answer s now from (payload.Accepted file (ballot_in s) first_boot)).state
after_event s now from (outrun count) =
    (on_answer s now from (payload.Outrun file (ballot_in s) (outrunning count))).state
after_event s now from give_up = given_up s
after_event s now from lapse = lease_expired s now

abbrev pub after : LeaseState → Row → LeaseState
after s row = after_event s row.0 (node row.1) row.2

-- what is seen after each row
abbrev pub seen_after : LeaseState → List Row → List Seen
seen_after s rows = scan after (λ s row. seen (after s row)) s rows

abbrev pub start : LeaseState
start = free (new_proposer awake)

-- each row ends where the next may begin
abbrev pub life : List Row
life =
    -- a round that is given up leaves its count
    (5000, 1, ask, sees_asking 1)
    ∷ (5000, 1, promise None, sees_asking 1)
    ∷ (5000, 1, give_up, sees_free)
    -- one that is outrun leaves the count that outran it
    ∷ (5000, 1, ask, sees_asking 2)
    ∷ (5000, 3, outrun 8, sees_free)
    -- the lease of another lives; it ends a round that asks
    ∷ (5100, 1, ask, sees_asking 9)
    ∷ (5199, 3, promise (Some 5200), sees_free)
    -- and does nothing to one that writes
    ∷ (5100, 1, ask, sees_asking 10)
    ∷ (5101, 1, promise None, sees_asking 10)
    ∷ (5101, 2, promise None, sees_writing 10)
    ∷ (5199, 3, promise (Some 5200), sees_writing 10)
    ∷ (5200, 3, promise (Some 5200), sees_writing 10)
    ∷ (5200, 3, outrun 3, sees_free)
    -- a lease that is won within the drift of its end is won too late
    ∷ (5000, 1, ask, sees_asking 11)
    ∷ (5000, 1, promise None, sees_asking 11)
    ∷ (5001, 2, promise None, sees_writing 11)
    ∷ (5002, 1, accepted, sees_writing 11)
    ∷ (5900, 2, accepted, sees_free)
    -- the end is counted from the start of the round
    ∷ (5000, 1, ask, sees_asking 12)
    ∷ (5000, 1, promise None, sees_asking 12)
    ∷ (5001, 2, promise None, sees_writing 12)
    ∷ (5002, 1, accepted, sees_writing 12)
    ∷ (5899, 2, accepted, sees_held 6000)
    -- and the holder acts until the drift before it
    ∷ (5899, 1, lapse, sees_held 6000)
    ∷ (5900, 1, lapse, sees_free)
    ∷ (5900, 1, ask, sees_asking 13)
    ∷ (5900, 1, give_up, sees_free)
    ∷ []

-- the holder once the first round is won, which started at 5000
abbrev pub proposer : ℕ → Proposer
proposer known = record { node = node 1; boot = first_boot; times = times; known = known }

abbrev pub holder : Held
holder = record { proposer = proposer 1; end = 6000; renewal = None }

abbrev pub first_round : List Row
first_round =
    (5000, 1, ask, sees_asking 1)
    ∷ (5000, 1, promise None, sees_asking 1)
    ∷ (5000, 2, promise None, sees_writing 1)
    ∷ (5000, 1, accepted, sees_writing 1)
    ∷ (5000, 2, accepted, sees_held 6000)
    ∷ []

-- its renewal from 5500 on
abbrev pub renewal : List Row
renewal =
    (5500, 1, ask, sees_held 6000)
    ∷ (5501, 1, promise None, sees_held 6000)
    ∷ (5501, 2, promise None, sees_held 6000)
    ∷ (5501, 1, accepted, sees_held 6000)
    ∷ (5501, 1, accepted, sees_held 6000)
    ∷ (5501, 2, accepted, sees_held 6500)
    ∷ []
