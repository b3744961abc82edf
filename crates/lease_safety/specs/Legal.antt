-- Which moves are legal, and why each condition is asked.
use Rattle.std.specs.Prelude.{◌≡◌, ℕ, ◌+◌, ◌*◌, ◌<◌, ◌≤◌, Bool, true, false, Option, None, Some, IfSome, List, [], ◌∷◌, ◌⊎◌, length, count_by}
use Rattle.lease_safety.specs.Rounds.{Ballot, IsBelow, IsSameProposer, Round, end_of}
use Rattle.lease_safety.specs.State.{Setting, Nodes, Promise, Vote, State, Has}
use Rattle.lease_safety.specs.Moves.{Move, Boot_starts, Boot_stops, Clocks_advance, Round_begins, Round_promised, Promise_counted, Round_accepted, Round_held, state_after}

-- Which conditions are asked. The theorem asks them all. Each can be left out alone, to show what it is for.
pub record Rules : Type 0 where
  pub boots_rise : Bool
  pub clocks_rise : Bool
  pub clocks_are_close : Bool
  pub rounds_are_of_the_present_boot : Bool
  pub leases_count_from_the_beginning : Bool
  pub counts_rise : Bool
  pub promised_rounds_have_begun : Bool
  pub promising_boots_run : Bool
  pub boots_are_silent : Bool
  pub promises_rise : Bool
  pub promises_are_made : Bool
  pub live_reports_stop : Bool
  pub counting_boots_run : Bool
  pub promises_are_kept : Bool
  pub accepts_are_counted : Bool
  pub leases_are_of_the_present_boot : Bool
  pub majorities_accept : Bool

abbrev pub every_rule : Rules
every_rule =
    record {
      boots_rise = true;
      clocks_rise = true;
      clocks_are_close = true;
      rounds_are_of_the_present_boot = true;
      leases_count_from_the_beginning = true;
      counts_rise = true;
      promised_rounds_have_begun = true;
      promising_boots_run = true;
      boots_are_silent = true;
      promises_rise = true;
      promises_are_made = true;
      live_reports_stop = true;
      counting_boots_run = true;
      promises_are_kept = true;
      accepts_are_counted = true;
      leases_are_of_the_present_boot = true;
      majorities_accept = true;
    }

-- The condition, where it is asked.
abbrev pub Asked : Bool → Type 0 → Type 0
Asked true condition = condition
Asked false condition = Unit {0}

-- The clocks a and b are at most the drift apart.
abbrev pub IsClose : ℕ → ℕ → ℕ → Type 0
IsClose drift a b = (a ≤ b + drift) × (b ≤ a + drift)

-- The boot may start on the node, at this clock.
pub record BootMayStart (rules : Rules) (drift : ℕ) (nodes : Nodes) (node boot clock : ℕ) : Type 0 where
  -- boots are numbered upwards: what an earlier boot did is never taken for this one's
  pub rises : Asked rules.boots_rise (nodes.boot node < boot)
  -- no running clock is further away than the drift
  pub close : Asked rules.clocks_are_close ((other : ℕ) → nodes.runs other ≡ true → IsClose drift clock (nodes.clock other))

-- The clocks may advance to these.
pub record ClocksMayAdvance (rules : Rules) (drift : ℕ) (nodes : Nodes) (now : ℕ → ℕ) : Type 0 where
  -- no running clock goes back: a lease that is over stays over
  pub rises : Asked rules.clocks_rise ((node : ℕ) → nodes.runs node ≡ true → nodes.clock node ≤ now node)
  -- running clocks stay within the drift of each other: what is over by one clock is nearly over by the others
  pub close : Asked rules.clocks_are_close ((a b : ℕ) → nodes.runs a ≡ true → nodes.runs b ≡ true → now a ≤ now b + drift)

-- A proposer may begin the round. (That it runs isn't asked: a boot that has stopped never holds a lease again.)
pub record RoundMayBegin (rules : Rules) (state : State) (round : Round) : Type 0 where
  -- it is a round of the node's present boot, not of one to come
  pub boot : Asked rules.rounds_are_of_the_present_boot (state.nodes.boot round.ballot.node ≡ round.ballot.boot)
  -- the lease counts from now, by its proposer's clock: its end is known to be at most a lease and the drift away
  pub clock : Asked rules.leases_count_from_the_beginning (round.began ≡ state.nodes.clock round.ballot.node)
  -- a boot counts its rounds upwards: of its leases the one of the higher ballot ends last
  pub rises : Asked rules.counts_rise ((earlier : Round) → Has earlier state.rounds → IsSameProposer earlier.ballot round.ballot → earlier.ballot.count < round.ballot.count)

-- The node's present boot may promise the round.
pub record MayPromise (rules : Rules) (setting : Setting) (state : State) (node : ℕ) (round : Round) : Type 0 where
  -- only a round that has begun is asked for
  pub begun : Asked rules.promised_rounds_have_begun (Has round state.rounds)
  -- it runs, so that its clock counts
  pub runs : Asked rules.promising_boots_run (state.nodes.runs node ≡ true)
  -- it has been silent since its start for a lease and the drift: every lease that an earlier boot of the node promised
  -- is over, so that it does no harm to have forgotten them. (A silent boot that promises nothing accepts nothing.)
  pub silent : Asked rules.boots_are_silent (state.nodes.started node + (setting.lease + setting.drift) ≤ state.nodes.clock node)
  -- it has promised nothing as high: whoever accepts a round has reported all rounds below it that it ever accepts
  pub rises : Asked rules.promises_rise (IfSome (state.promised node) (λ last. IsBelow last.ballot round.ballot))

-- The report is of no lease that another proposer may still hold: it is of none, of one of the counting proposer's own,
-- or of one that is over by the counting proposer's clock, which counts while it runs.
abbrev pub IsHarmless : Rules → Setting → Nodes → Ballot → Option Round → Type 0
IsHarmless rules setting nodes ballot None = Unit {0}
IsHarmless rules setting nodes ballot (Some lease) =
    IsSameProposer lease.ballot ballot ⊎ (Asked rules.counting_boots_run (nodes.runs ballot.node ≡ true) × (end_of setting.lease lease ≤ nodes.clock ballot.node))

-- The proposer of the promised round may count the promise.
pub record MayCount (rules : Rules) (setting : Setting) (state : State) (promise : Promise) : Type 0 where
  -- it was made
  pub made : Asked rules.promises_are_made (Has promise state.promises)
  -- a live lease of another proposer stops the round before its first accept
  pub harmless : Asked rules.live_reports_stop (IsHarmless rules setting state.nodes promise.round.ballot promise.report)

-- The node's present boot may accept the round. (That it still runs isn't asked: it ran when it promised.)
pub record MayAccept (rules : Rules) (state : State) (node : ℕ) (round : Round) : Type 0 where
  -- it has promised no other round since: whoever asked it later knows of all that it accepts
  pub promised : Asked rules.promises_are_kept (state.promised node ≡ Some round)
  -- this very boot's promise was counted, so its report was harmless
  pub counted : Asked rules.accepts_are_counted (Has (record { node = node; boot = state.nodes.boot node; round = round }) state.counted)

-- Some boot of the node has accepted the round.
abbrev pub HasAccepted : List Vote → Round → ℕ → Type 0
HasAccepted accepts round node = (boot : ℕ) × Has (record { node = node; boot = boot; round = round }) accepts

-- More than half of the members, those marked by a test, are so.
abbrev pub Majority : List ℕ → (ℕ → Type 0) → Type 0
Majority members IsSo = (test : ℕ → Bool) × (length members < 2 * count_by test members) × ((node : ℕ) → test node ≡ true → IsSo node)

-- The round's proposer may hold its lease. (That the lease isn't over yet isn't asked: who holds is decided by the clock at
-- each moment.)
pub record MayHold (rules : Rules) (setting : Setting) (state : State) (round : Round) : Type 0 where
  -- it is a round of the node's present boot
  pub boot : Asked rules.leases_are_of_the_present_boot (state.nodes.boot round.ballot.node ≡ round.ballot.boot)
  -- a majority of the members have accepted it: any two majorities share a member
  pub majority : Asked rules.majorities_accept (Majority setting.members (HasAccepted state.accepts round))

-- The move is legal under these rules.
abbrev pub IsLegalUnder : Rules → Setting → State → Move → Type 0
IsLegalUnder rules setting state (Boot_starts node boot clock) = BootMayStart rules setting.drift state.nodes node boot clock
-- a node may stop at any time
IsLegalUnder rules setting state (Boot_stops node) = Unit {0}
IsLegalUnder rules setting state (Clocks_advance now) = ClocksMayAdvance rules setting.drift state.nodes now
IsLegalUnder rules setting state (Round_begins round) = RoundMayBegin rules state round
IsLegalUnder rules setting state (Round_promised node round) = MayPromise rules setting state node round
IsLegalUnder rules setting state (Promise_counted promise) = MayCount rules setting state promise
IsLegalUnder rules setting state (Round_accepted node round) = MayAccept rules state node round
IsLegalUnder rules setting state (Round_held round) = MayHold rules setting state round

-- A chain of legal moves from the empty state, of which the newest stands first.
abbrev pub IsHistoryUnder : Rules → Setting → List Move → Type 0
IsHistoryUnder rules setting [] = Unit {0}
IsHistoryUnder rules setting (move ∷ moves) = IsLegalUnder rules setting (state_after moves) move × IsHistoryUnder rules setting moves

-- The move is legal.
abbrev pub IsLegal : Setting → State → Move → Type 0
IsLegal setting state move = IsLegalUnder every_rule setting state move

-- A chain of legal moves.
abbrev pub IsHistory : Setting → List Move → Type 0
IsHistory setting moves = IsHistoryUnder every_rule setting moves
