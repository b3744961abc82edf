-- the register in which a file's lease is chosen: what an acceptor promises and accepts, and how a round counts answers
use Rattle.std.specs.Prelude.{ℕ, Bool, true, false, not, ◌&&◌, ◌||◌, ◌==◌, nat_lt, nat_le, if◌then◌else◌, ◌+◌, ◌/◌, Option, Some, None, List, [], ◌∷◌, length, map, count_by, filter_map}
use Rattle.std.specs.List.{list_any}
use Rattle.xt_base.specs.declared.ids.NodeId.{NodeId}
use Rattle.xt_base.specs.declared.ids.Boot.{Boot}
use Rattle.xt_base.specs.declared.ids.Ballot.{Ballot}
use Rattle.xt_base.specs.declared.ids.Lease.{Lease}
use Rattle.xt_base.specs.TimeSettings.{TimeSettings}

-- ballots are ordered by count, then node, then boot
abbrev pub ballot_lt : Ballot → Ballot → Bool
ballot_lt k j =
    nat_lt k.count j.count || k.count == j.count && (nat_lt k.node.0 j.node.0 || k.node.0 == j.node.0 && nat_lt k.boot.0 j.boot.0)

-- whether two ballots are equal
abbrev pub same_ballot : Ballot → Ballot → Bool
same_ballot k j = k.count == j.count && k.node.0 == j.node.0 && k.boot.0 == j.boot.0

-- The acceptor.

-- one boot of a node as an acceptor: the ballot that it promised last and the lease that it accepted last, none at first
pub record Acceptor : Type 0 where
  pub boot : Boot
  pub promised : Option Ballot
  pub accepted : Option Lease

-- a start of the node makes a new acceptor
abbrev pub new_acceptor : Boot → Acceptor
new_acceptor boot = record { boot = boot; promised = None; accepted = None }

-- the answer to a Read: a promise with the accepted lease, or the promised ballot that outran it
pub data ReadAnswer : Type 0 where
  promise : Option Lease → ReadAnswer
  read_refused : Ballot → ReadAnswer

-- an acceptor after a Read, and its answer
pub record Read : Type 0 where
  pub acceptor : Acceptor
  pub answer : ReadAnswer

-- read outrun: the promised ballot isn't below the Read's; nothing changes
abbrev pub read_outrun : Acceptor → Ballot → Read
read_outrun a promised = record { acceptor = a; answer = read_refused promised }

-- read promised: the ballot is promised, and the accepted lease reported
abbrev pub read_promised : Acceptor → Ballot → Read
read_promised a ballot = record { acceptor = record a { promised = Some ballot }; answer = promise a.accepted }

-- what a Read does to an acceptor with this promise: before any promise every ballot is promised
abbrev pub read_under : Option Ballot → Acceptor → Ballot → Read
read_under None a ballot = read_promised a ballot
read_under (Some promised) a ballot = if ballot_lt promised ballot then read_promised a ballot else read_outrun a promised

-- what a Read does
abbrev pub on_read : Acceptor → Ballot → Read
on_read a ballot = read_under a.promised a ballot

-- the answer to a Write
pub data WriteAnswer : Type 0 where
  accepted : WriteAnswer
  write_refused : Ballot → WriteAnswer
  other_boot : WriteAnswer

-- an acceptor after a Write, and its answer
pub record Write : Type 0 where
  pub acceptor : Acceptor
  pub answer : WriteAnswer

-- other boot: the Write was meant for another boot of the node; nothing changes and nothing is answered
abbrev pub write_other_boot : Acceptor → Write
write_other_boot a = record { acceptor = a; answer = other_boot }

-- what an Outrun of a Write carries where nothing was promised
abbrev pub no_ballot : Ballot
no_ballot = record { count = 0; node = record { 0 = 0 }; boot = record { 0 = 0 } }

-- write outrun: the ballot promised last isn't the Write's; nothing changes
abbrev pub write_outrun : Acceptor → Ballot → Write
write_outrun a promised = record { acceptor = a; answer = write_refused promised }

-- write accepted: the lease is taken
abbrev pub write_accepted : Acceptor → Lease → Write
write_accepted a lease = record { acceptor = record a { accepted = Some lease }; answer = accepted }

-- what a Write for this boot does to an acceptor with this promise
abbrev pub write_under : Option Ballot → Acceptor → Ballot → Lease → Write
write_under None a ballot lease = write_outrun a no_ballot
write_under (Some promised) a ballot lease = if same_ballot promised ballot then write_accepted a lease else write_outrun a promised

-- what a Write does
abbrev pub on_write : Acceptor → Ballot → Boot → Lease → Write
on_write a ballot boot lease = if a.boot.0 == boot.0 then write_under a.promised a ballot lease else write_other_boot a

-- The round.

-- a member in a round: the boot whose promise was counted, if any, and whether that boot has accepted
pub record Seat : Type 0 where
  pub node : NodeId
  pub counted : Option Boot
  pub accepted : Bool

-- a round: its ballot, the clock at its start, the times it goes by, a seat a member in list order, and whether Write was sent
pub record Round : Type 0 where
  pub ballot : Ballot
  pub start : ℕ
  pub times : TimeSettings
  pub seats : List Seat
  pub written : Bool

-- a seat whose member has answered nothing
abbrev pub empty_seat : NodeId → Seat
empty_seat node = record { node = node; counted = None; accepted = false }

-- round starts: nobody is counted
abbrev pub new_round : NodeId → Boot → ℕ → ℕ → List NodeId → TimeSettings → Round
new_round node boot count now members times =
    record {
      ballot = record { count = count; node = node; boot = boot };
      start = now;
      times = times;
      seats = map empty_seat members;
      written = false;
    }

-- the lease that a round writes is its own node's and boot's, and ends the lease length after the round's START
abbrev pub lease_of : Round → Lease
lease_of r = record { node = r.ballot.node; boot = r.ballot.boot; end = r.start + r.times.lease }

-- more than half of all members
abbrev pub majority_of : Round → ℕ
majority_of r = length r.seats / 2 + 1

-- whether no promise was counted here
abbrev pub is_free : Option Boot → Bool
is_free None = true
is_free (Some boot) = false

-- whether this is the boot that was counted here
abbrev pub is_counted : Option Boot → Boot → Bool
is_counted None boot = false
is_counted (Some counted) boot = counted.0 == boot.0

-- whether a promise of this node is to be counted here: its own seat, with nothing counted yet
abbrev pub awaits_promise : NodeId → Seat → Bool
awaits_promise from seat = seat.node.0 == from.0 && is_free seat.counted

-- the seat once the promise is counted
abbrev pub with_promise : NodeId → Boot → Seat → Seat
with_promise from boot seat = if awaits_promise from seat then record seat { counted = Some boot } else seat

-- whether an acceptance by this node and boot is to be counted here: the pair was counted, and hasn't accepted yet
abbrev pub awaits_acceptance : NodeId → Boot → Seat → Bool
awaits_acceptance from boot seat = seat.node.0 == from.0 && is_counted seat.counted boot && not seat.accepted

-- the seat once the acceptance is counted
abbrev pub with_acceptance : NodeId → Boot → Seat → Seat
with_acceptance from boot seat = if awaits_acceptance from boot seat then record seat { accepted = true } else seat

-- whether a promise was counted here
abbrev pub has_promise : Seat → Bool
has_promise seat = not (is_free seat.counted)

-- whether the counted boot has accepted
abbrev pub has_accepted : Seat → Bool
has_accepted seat = seat.accepted

-- the node and the counted boot, if any
abbrev pub pair_of : NodeId → Option Boot → Option (NodeId × Boot)
pair_of node None = None
pair_of node (Some boot) = Some (node, boot)

-- the counted pairs in list order, to which a Write goes
abbrev pub counted_pairs : List Seat → List (NodeId × Boot)
counted_pairs seats = filter_map (λ seat. pair_of seat.node seat.counted) seats

-- whether a reported lease ends a round: it is of another node or boot, and not over by the proposer's clock
abbrev pub bars : Round → ℕ → Lease → Bool
bars r now lease = nat_lt now lease.end && not (lease.node.0 == r.ballot.node.0 && lease.boot.0 == r.ballot.boot.0)

-- whether a member's report is taken: one that ends a round does nothing once Write was sent
abbrev pub takes_report : Option Lease → Round → ℕ → Bool
takes_report None r now = true
takes_report (Some lease) r now = not (bars r now lease && r.written)

-- whether a promise is taken: it is counted, or it ends the round
abbrev pub takes_promise : Round → ℕ → NodeId → Option Lease → Bool
takes_promise r now from report = list_any (awaits_promise from) r.seats && takes_report report r now

-- what a promise did: nothing, it was counted, a Write goes to these pairs, or it reported a lease that lives
pub data Took : Type 0 where
  ignored : Took
  counted : Took
  write_to : List (NodeId × Boot) → Took
  alive : Lease → Took

-- a round after a promise, and what the promise did
pub record Promised : Type 0 where
  pub round : Round
  pub took : Took

-- promise ignored: the sender is no member, or was counted
abbrev pub promise_ignored : Round → Promised
promise_ignored r = record { round = r; took = ignored }

-- live report ends the round
abbrev pub live_report : Round → Lease → Promised
live_report r lease = record { round = r; took = alive lease }

-- report after the write ignored
abbrev pub report_after_write : Round → Promised
report_after_write r = record { round = r; took = ignored }

-- promise counted: once Write was sent, a Write goes to the new pair too; at a majority Write goes to all counted
abbrev pub promise_counted : Round → NodeId → Boot → Promised
promise_counted r from boot =
    let seats = map (with_promise from boot) r.seats in
    let counting = record r { seats = seats } in
    if r.written
    then record { round = counting; took = write_to ((from, boot) ∷ []) }
    else if nat_le (majority_of r) (count_by has_promise seats)
    then record { round = record counting { written = true }; took = write_to (counted_pairs seats) }
    else record { round = counting; took = counted }

-- what a promise with this report does, from a member that isn't counted
abbrev pub report_taken : Option Lease → Round → ℕ → NodeId → Boot → Promised
report_taken None r now from boot = promise_counted r from boot
report_taken (Some lease) r now from boot =
    if bars r now lease
    then (if r.written then report_after_write r else live_report r lease)
    else promise_counted r from boot

-- what a promise does
abbrev pub on_promise : Round → ℕ → NodeId → Boot → Option Lease → Promised
on_promise r now from boot report =
    if list_any (awaits_promise from) r.seats then report_taken report r now from boot else promise_ignored r

-- a round after an acceptance, and whether this one makes the majority
pub record AcceptanceTaken : Type 0 where
  pub round : Round
  pub wins : Bool

-- what an acceptance does: only of a counted pair, and of each once
abbrev pub on_acceptance : Round → NodeId → Boot → AcceptanceTaken
on_acceptance r from boot =
    let seats = map (with_acceptance from boot) r.seats in
    record {
      round = record r { seats = seats };
      wins = list_any (awaits_acceptance from boot) r.seats && count_by has_accepted seats == majority_of r;
    }
