-- Rules that come close to those that are asked, and histories that keep them in which two nodes hold at once.
use Rattle.std.specs.Prelude.{◌≡◌, ℕ, ◌+◌, ◌≤◌, Option, None, Some, List, [], ◌∷◌, ◌++◌, ◌⊎◌}
use Rattle.lease_safety.specs.Rounds.{IsBelow, Round}
use Rattle.lease_safety.specs.State.{Promise, State, Has, put}
use Rattle.lease_safety.specs.Moves.{Move, Boot_starts, Clocks_advance, Round_begins, Round_promised, Promise_counted, Round_accepted, Round_held, state_after}
use Rattle.lease_safety.specs.Legal.{Rules, every_rule, IsHarmless}
use Rattle.lease_safety.specs.Examples.{trio, continued, round, told, voted, ready, one_holds, ahead, rival_after_silence, TwoHold}

-- Each move keeps this rule.
abbrev pub KeepsAlong : (State → Move → Type 0) → List Move → Type 0
KeepsAlong Keeps [] = Unit {0}
KeepsAlong Keeps (move ∷ moves) = Keeps (state_after moves) move × KeepsAlong Keeps moves

-- The history keeps every rule that these ask and the changed one, and in the end two nodes hold.
pub record AreUnsafe (rules : Rules) (Keeps : State → Move → Type 0) (moves : List Move) : Type 0 where
  pub two : TwoHold rules moves
  pub kept : KeepsAlong Keeps moves

-- A boot is silent for the lease length alone.
abbrev pub SilentForLease : State → Move → Type 0
SilentForLease state (Round_promised node round) = state.nodes.started node + trio.lease ≤ state.nodes.clock node
SilentForLease state _ = Unit {0}

-- A round is accepted where a promise of the node was counted, whichever boot's.
abbrev pub CountedOfNode : State → Move → Type 0
CountedOfNode state (Round_accepted node round) = (boot : ℕ) × Has (record { node = node; boot = boot; round = round }) state.counted
CountedOfNode state _ = Unit {0}

-- a promise of the same round was counted, with a harmless report of a higher round than this one
pub record HasHigherReport (state : State) (promise : Promise) (report : Round) : Type 0 where
  pub other : Promise
  pub high : Round
  pub same : other.round ≡ promise.round
  pub counted : Has (record { node = other.node; boot = other.boot; round = other.round }) state.counted
  pub reported : other.report ≡ Some high
  pub higher : IsBelow report.ballot high.ballot
  pub harmless : IsHarmless every_rule trio state.nodes promise.round.ballot (Some high)

abbrev pub IsOutdone : State → Promise → Option Round → Type 0
IsOutdone state promise None = Unit {0}
IsOutdone state promise (Some report) = IsHarmless every_rule trio state.nodes promise.round.ballot (Some report) ⊎ HasHigherReport state promise report

-- Of the reports that are counted only that of the highest round must be harmless.
abbrev pub HighestHarmless : State → Move → Type 0
HighestHarmless state (Promise_counted promise) = Has promise state.promises × IsOutdone state promise promise.report
HighestHarmless state _ = Unit {0}

-- Node 3 starts again with a clock that lags by the drift, and is silent for a lease. Meanwhile the clock of node 1 goes
-- slower, until it lags by the drift.
abbrev pub after_a_lease : Round
after_a_lease = round 2 2 1 200

abbrev pub silent_for_a_lease : List Move
silent_for_a_lease =
    continued one_holds (
    Boot_starts 3 2 100 ∷ Clocks_advance (put (λ n. 200) 1 190) ∷ Round_begins after_a_lease
    ∷ voted 2 1 after_a_lease None ++ voted 3 2 after_a_lease None ++ Round_held after_a_lease ∷ []
    )

-- Node 1 begins a round, and counts a boot of node 3. Its next boot accepts the lease of node 2, and then the old round of
-- node 1, for which it wasn't counted; so it reports that alone, which is over, when node 1 begins its next one.
abbrev pub old_high : Round
old_high = round 5 1 1 110

abbrev pub lower_lease : Round
lower_lease = round 2 2 1 220

abbrev pub next_of_one : Round
next_of_one = round 6 1 1 220

abbrev pub accepted_by_another_boot : List Move
accepted_by_another_boot =
    continued ready (
    Round_begins old_high ∷ told 3 1 old_high None ++ Boot_starts 3 2 110 ∷ Clocks_advance (λ n. 220)
    ∷ Round_begins lower_lease ∷ voted 2 1 lower_lease None ++ voted 3 2 lower_lease None ++ Round_held lower_lease
    ∷ Round_promised 3 old_high ∷ Round_accepted 3 old_high
    ∷ Round_begins next_of_one ∷ voted 1 1 next_of_one None ++ voted 3 2 next_of_one (Some old_high) ++ Round_held next_of_one ∷ []
    )

-- Node 2 alone accepts its own high round. Node 1 holds a lower one, which it begins later, by the members 1 and 3. Then
-- node 2 counts its own report, and with it that of node 3, which reports the live lease of the lower round.
abbrev pub high_alone : Round
high_alone = round 5 2 1 110

abbrev pub low_later : Round
low_later = round 3 1 1 150

abbrev pub highest : Round
highest = round 6 2 1 210

abbrev pub highest_report_alone : List Move
highest_report_alone =
    continued ready (
    Round_begins high_alone ∷ voted 2 1 high_alone None ++ Clocks_advance (λ n. 150)
    ∷ Round_begins low_later ∷ voted 1 1 low_later None ++ voted 3 1 low_later None ++ Round_held low_later
    ∷ Clocks_advance (λ n. 210) ∷ Round_begins highest ∷ voted 2 1 highest (Some high_alone) ++ voted 3 1 highest (Some low_later) ++ Round_held highest ∷ []
    )

-- A lease counts from its proposer's clock at the end of its round.
abbrev pub CountedFromEnd : State → Move → Type 0
CountedFromEnd state (Round_held round) = round.began ≡ state.nodes.clock round.ballot.node
CountedFromEnd state _ = Unit {0}

-- Node 3 accepts a round of node 1, starts again, and is silent. Its accept comes late, and the lease counts from there; so it goes on
-- when the silence is over.
abbrev pub counted_from_the_end : List Move
counted_from_the_end =
    continued ready (
    Round_begins ahead ∷ voted 1 1 ahead None ++ voted 3 1 ahead None ++ Boot_starts 3 2 110 ∷ Clocks_advance (λ n. 200) ∷ Round_held ahead
    ∷ Clocks_advance (λ n. 220) ∷ Round_begins rival_after_silence ∷ voted 2 1 rival_after_silence None ++ voted 3 2 rival_after_silence None ++ Round_held rival_after_silence ∷ []
    )
