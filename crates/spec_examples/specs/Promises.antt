-- rounds and acceptors of a lease among five members, from message to message
use Rattle.std.specs.Prelude.{ℕ, Bool, true, false, Option, Some, None, List, [], ◌∷◌, ◌-◌, if◌then◌else◌, length, map, scan, fold, option_map, replicate, slice_set, slice_index_or}
use Rattle.xt_base.specs.declared.ids.NodeId.{NodeId}
use Rattle.xt_base.specs.declared.ids.Boot.{Boot}
use Rattle.xt_base.specs.declared.ids.Lease.{Lease}
use Rattle.xt_base.specs.declared.ids.Ballot.{Ballot}
use Rattle.xt_protocol.specs.Register.{Acceptor, new_acceptor, Round, new_round, lease_of, on_promise, takes_promise, on_acceptance, on_read, on_write, Promised, Took, ignored, counted, write_to, alive, Read, ReadAnswer, promise, read_refused, Write, WriteAnswer, accepted, write_refused, other_boot, AcceptanceTaken}
use Rattle.spec_examples.specs.LeaseLife.{first_boot, times}
use Rattle.spec_examples.specs.Values.{node}

abbrev pub second_boot : Boot
second_boot = record { 0 = 2 }

-- the round of this node that starts at 1100
abbrev pub round_of : ℕ → Round
round_of number = new_round (node number) first_boot 1 1100 (map node (1 ∷ 2 ∷ 3 ∷ 4 ∷ 5 ∷ [])) times

-- what a message to an acceptor, and its answer to the round, came to
pub data Came : Type 0 where
  comes_counted : Came
  -- Write goes to so many
  comes_written : ℕ → Came
  -- nothing, of a report of a lease that lives too
  comes_ignored : Came
  -- such a report ends the round
  comes_ended : Came
  comes_accepted : Came
  comes_won : Came
  comes_outrun : Came
  comes_other_boot : Came

abbrev pub came_of : Took → Came
came_of ignored = comes_ignored
came_of counted = comes_counted
came_of (write_to targets) = comes_written (length targets)
came_of (alive lease) = comes_ended

-- A promise with a report.

-- a promise of this node with this report: whether it is taken, and what it comes to
abbrev pub report_comes : Round → ℕ → ℕ → Option Lease → Bool × Came
report_comes r now from report =
    (takes_promise r now (node from) report, came_of (on_promise r now (node from) first_boot report).took)

-- the clock, who promises, the end of the lease of node 2 that is reported, whether it is taken, and what it comes to
abbrev pub Report : Type 0
Report = ℕ × ℕ × Option ℕ × Bool × Came

abbrev pub reported : Report → Option Lease
reported row = option_map (λ end. record { node = node 2; boot = first_boot; end = end }) row.2

abbrev pub round_after : Round → Report → Round
round_after r row = (on_promise r row.0 (node row.1) first_boot (reported row)).round

abbrev pub came_behind : Round → Report → Bool × Came
came_behind r row = report_comes r row.0 row.1 (reported row)

abbrev pub report_wanted : Report → Bool × Came
report_wanted row = (row.3, row.4)

-- a report ends the round until its lease is over
abbrev pub reports : List Report
reports =
    (1199, 2, Some 1200, true, comes_ended)
    ∷ (1200, 2, Some 1200, true, comes_counted)
    ∷ (1200, 2, None, false, comes_ignored)
    ∷ (1200, 9, None, false, comes_ignored)
    ∷ []

-- what they come to, one after another
abbrev pub came_of_reports : List (Bool × Came)
came_of_reports = scan round_after came_behind (round_of 1) reports

-- a promise that reports the round's own lease
abbrev pub came_of_own : Bool × Came
came_of_own = report_comes (round_of 1) 1200 1 (Some (lease_of (round_of 1)))

-- Two rounds and five acceptors.

pub record Parties : Type 0 where
  pub rounds : List Round
  pub acceptors : List Acceptor

-- who asks, of nodes 1 and 2; whether it sends a Write, the acceptor's node, and what it comes to
abbrev pub Exchange : Type 0
Exchange = ℕ × Bool × ℕ × Came

abbrev pub wanted : Exchange → Came
wanted row = row.3

-- a round and an acceptor after a message, and what it came to
pub record Exchanged : Type 0 where
  pub round : Round
  pub acceptor : Acceptor
  pub came : Came

abbrev pub promised : Acceptor → Promised → Exchanged
promised a after = record { round = after.round; acceptor = a; came = came_of after.took }

abbrev pub read_answered : Round → ℕ → Acceptor → ReadAnswer → Exchanged
read_answered r from a (promise report) = promised a (on_promise r 1100 (node from) first_boot report)
read_answered r from a (read_refused seen) = record { round = r; acceptor = a; came = comes_outrun }

abbrev pub accepted_by : Acceptor → AcceptanceTaken → Exchanged
accepted_by a taken =
    record { round = taken.round; acceptor = a; came = if taken.wins then comes_won else comes_accepted }

abbrev pub write_answered : Round → ℕ → Acceptor → WriteAnswer → Exchanged
write_answered r from a accepted = accepted_by a (on_acceptance r (node from) first_boot)
write_answered r from a (write_refused seen) = record { round = r; acceptor = a; came = comes_outrun }
write_answered r from a other_boot = record { round = r; acceptor = a; came = comes_other_boot }

abbrev pub read : Round → ℕ → Read → Exchanged
read r from done = read_answered r from done.acceptor done.answer

abbrev pub written : Round → ℕ → Write → Exchanged
written r from done = write_answered r from done.acceptor done.answer

abbrev pub exchanged : Round → Bool → ℕ → Acceptor → Exchanged
exchanged r writes from a =
    if writes then written r from (on_write a r.ballot first_boot (lease_of r)) else read r from (on_read a r.ballot)

abbrev pub exchange : Parties → Exchange → Exchanged
exchange p row =
    exchanged (slice_index_or p.rounds (row.0 - 1) (round_of 0)) row.1 row.2
    (slice_index_or p.acceptors (row.2 - 1) (new_acceptor first_boot))

abbrev pub with_exchanged : Parties → Exchange → Exchanged → Parties
with_exchanged p row done =
    record {
      rounds = slice_set p.rounds (row.0 - 1) done.round;
      acceptors = slice_set p.acceptors (row.2 - 1) done.acceptor;
    }

abbrev pub after : Parties → Exchange → Parties
after p row = with_exchanged p row (exchange p row)

abbrev pub came_after : Parties → List Exchange → List Came
came_after p rows = scan after (λ p row. (exchange p row).came) p rows

abbrev pub start : Parties
start = record { rounds = round_of 1 ∷ round_of 2 ∷ []; acceptors = replicate 5 (new_acceptor first_boot) }

-- node 1 hears of itself, 4 and 5; node 2 of itself, 3 and 4
abbrev pub before : List Exchange
before =
    (1, false, 1, comes_counted)
    ∷ (2, false, 2, comes_counted)
    ∷ (1, false, 4, comes_counted)
    ∷ (1, false, 5, comes_written 3)
    ∷ (1, true, 1, comes_accepted)
    ∷ (2, false, 3, comes_counted)
    ∷ (2, false, 4, comes_written 3)
    ∷ (2, true, 2, comes_accepted)
    ∷ []

abbrev pub with_third_anew : Parties → Parties
with_third_anew p = record p { acceptors = slice_set p.acceptors 2 (new_acceptor second_boot) }

abbrev pub third_anew : Parties
third_anew = with_third_anew (fold after start before)

-- with a new boot of node 3; node 5 reports node 1's lease, and gets no Write
abbrev pub behind : List Exchange
behind =
    (1, true, 5, comes_accepted)
    ∷ (2, true, 4, comes_accepted)
    ∷ (1, true, 4, comes_outrun)
    ∷ (2, true, 3, comes_other_boot)
    ∷ (2, false, 5, comes_ignored)
    ∷ []

-- whose lease each acceptor accepted last
abbrev pub lease_nodes : Parties → List (Option NodeId)
lease_nodes p = map (λ a. option_map (λ lease. lease.node) a.accepted) p.acceptors

-- the Write of node 1's round
abbrev pub write_by_first : Acceptor → Write
write_by_first a = on_write a (round_of 1).ballot first_boot (lease_of (round_of 1))

abbrev pub least : Ballot
least = record { count = 0; node = node 0; boot = record { 0 = 0 } }
