-- Histories of three members: two in which a node holds the lease, and for each rule one that breaks that rule alone and in
-- which two nodes hold at once.
use Rattle.std.specs.Prelude.{ℕ, Option, None, Some, List, [], ◌∷◌, ◌++◌}
use Rattle.lease_safety.specs.Rounds.{Round}
use Rattle.lease_safety.specs.State.{Setting, put}
use Rattle.lease_safety.specs.Moves.{Move, Boot_starts, Boot_stops, Clocks_advance, Round_begins, Round_promised, Promise_counted, Round_accepted, Round_held, state_after}
use Rattle.lease_safety.specs.Legal.{Rules, IsHistoryUnder}
use Rattle.lease_safety.specs.Leases.{Holds}

-- Three members, a lease of 100 and a drift of 10. So a boot is silent for 110.
abbrev pub trio : Setting
trio = record { members = 1 ∷ 2 ∷ 3 ∷ []; lease = 100; drift = 10 }

-- A history that goes on by these moves, listed in the order of time.
abbrev pub continued : List Move → List Move → List Move
continued history [] = history
continued history (move ∷ moves) = continued (move ∷ history) moves

abbrev pub round : (count node boot began : ℕ) → Round
round count node boot began = record { ballot = record { count = count; node = node; boot = boot }; began = began }

-- A boot of a node promises the round with this report, and the promise is counted.
abbrev pub told : (node boot : ℕ) → Round → Option Round → List Move
told node boot r report =
    Round_promised node r ∷ Promise_counted (record { node = node; boot = boot; round = r; report = report }) ∷ []

-- And the boot accepts the round.
abbrev pub voted : (node boot : ℕ) → Round → Option Round → List Move
voted node boot r report = told node boot r report ++ Round_accepted node r ∷ []

-- The members have started at the clock 0, and have been silent.
abbrev pub ready : List Move
ready = continued [] (Boot_starts 1 1 0 ∷ Boot_starts 2 1 0 ∷ Boot_starts 3 1 0 ∷ Clocks_advance (λ n. 110) ∷ [])

-- A round of node 1, and one of node 2, which begin right after the silence; and one of node 2, which begins when the lease
-- of the first is over.
abbrev pub first : Round
first = round 1 1 1 110

abbrev pub rival : Round
rival = round 2 2 1 110

abbrev pub next : Round
next = round 2 2 1 210

-- Node 1 holds the lease, by the members 1 and 3.
abbrev pub one_holds : List Move
one_holds = continued ready (Round_begins first ∷ voted 1 1 first None ++ voted 3 1 first None ++ Round_held first ∷ [])

-- When the lease is over, node 2 takes it, by the members 2 and 3.
abbrev pub another_holds : List Move
another_holds =
    continued one_holds (Clocks_advance (λ n. 210) ∷ Round_begins next ∷ voted 2 1 next None ++ voted 3 1 next (Some first) ++ Round_held next ∷ [])

-- The history is legal but for what these rules leave out, and in the end the nodes 1 and 2 both hold.
pub record TwoHold (rules : Rules) (moves : List Move) : Type 0 where
  pub legal : IsHistoryUnder rules trio moves
  pub one : Holds trio (state_after moves) 1
  pub another : Holds trio (state_after moves) 2

-- Node 3 forgets its accept with its boot, and its next boot promises the rival at once.
abbrev pub promised_in_silence : List Move
promised_in_silence =
    continued one_holds (Boot_starts 3 2 110 ∷ Round_begins rival ∷ voted 2 1 rival None ++ voted 3 2 rival None ++ Round_held rival ∷ [])

-- The clocks of the nodes 2 and 3 run a whole lease ahead of that of node 1.
abbrev pub clocks_apart : List Move
clocks_apart =
    continued one_holds (Clocks_advance (put (λ n. 210) 1 110) ∷ Round_begins next ∷ voted 2 1 next None ++ voted 3 1 next (Some first) ++ Round_held next ∷ [])

-- Node 3 reports the live lease and isn't counted, but accepts the rival all the same.
abbrev pub accepted_uncounted : List Move
accepted_uncounted =
    continued one_holds (Round_begins rival ∷ voted 2 1 rival None ++ Round_promised 3 rival ∷ Round_accepted 3 rival ∷ Round_held rival ∷ [])

-- Node 3 reports the live lease, and is counted.
abbrev pub live_report_counted : List Move
live_report_counted = continued one_holds (Round_begins rival ∷ voted 2 1 rival None ++ voted 3 1 rival (Some first) ++ Round_held rival ∷ [])

-- A promise of node 3 is counted that reports no lease, and that it never made.
abbrev pub invented_promise_counted : List Move
invented_promise_counted = continued one_holds (Round_begins rival ∷ voted 2 1 rival None ++ voted 3 1 rival None ++ Round_held rival ∷ [])

-- Node 2 alone accepts the rival.
abbrev pub held_by_a_minority : List Move
held_by_a_minority = continued one_holds (Round_begins rival ∷ voted 2 1 rival None ++ Round_held rival ∷ [])

-- Node 3 promises both rounds before it has accepted any, and then accepts both.
abbrev pub promise_broken : List Move
promise_broken =
    continued ready (
    Round_begins first ∷ Round_begins rival ∷ told 3 1 first None ++ told 3 1 rival None ++ Round_accepted 3 first ∷ Round_accepted 3 rival
    ∷ voted 1 1 first None ++ Round_held first ∷ voted 2 1 rival None ++ Round_held rival ∷ []
    )

-- Node 3 promises the higher round, then the lower one, which it accepts, then the higher one again, by which it was
-- counted long ago.
abbrev pub lower_round_promised : List Move
lower_round_promised =
    continued ready (
    Round_begins first ∷ Round_begins rival ∷ told 3 1 rival None ++ voted 3 1 first None ++ Round_promised 3 rival ∷ Round_accepted 3 rival
    ∷ voted 1 1 first None ++ Round_held first ∷ voted 2 1 rival None ++ Round_held rival ∷ []
    )

-- All clocks go back by a lease.
abbrev pub clocks_back : List Move
clocks_back = continued another_holds (Clocks_advance (λ n. 110) ∷ [])

-- The lease of node 1 counts from the clock 200, which is still to come. Node 3 forgets it, and is silent.
abbrev pub ahead : Round
ahead = round 1 1 1 200

abbrev pub rival_after_silence : Round
rival_after_silence = round 2 2 1 220

abbrev pub forgotten_ahead : List Move
forgotten_ahead =
    voted 1 1 ahead None ++ voted 3 1 ahead None ++ Round_held ahead ∷ Boot_starts 3 2 110 ∷ Clocks_advance (λ n. 220)
    ∷ Round_begins rival_after_silence ∷ voted 2 1 rival_after_silence None ++ voted 3 2 rival_after_silence None ++ Round_held rival_after_silence ∷ []

abbrev pub counted_from_ahead : List Move
counted_from_ahead = continued ready (Round_begins ahead ∷ forgotten_ahead)

-- The same without a beginning.
abbrev pub never_begun : List Move
never_begun = continued ready forgotten_ahead

-- Node 1 begins a lower round after a higher one, and holds the lower. Node 3 then accepts the higher, which ends earlier,
-- and reports that alone.
abbrev pub high : Round
high = round 5 1 1 110

abbrev pub low : Round
low = round 3 1 1 150

abbrev pub higher_still : Round
higher_still = round 6 2 1 210

abbrev pub lower_round_begun : List Move
lower_round_begun =
    continued ready (
    Round_begins high ∷ Clocks_advance (λ n. 150) ∷ Round_begins low ∷ voted 1 1 low None ++ voted 3 1 low None ++ Round_held low
    ∷ voted 3 1 high (Some low) ++ Clocks_advance (λ n. 210) ∷ Round_begins higher_still
    ∷ voted 2 1 higher_still None ++ voted 3 1 higher_still (Some high) ++ Round_held higher_still ∷ []
    )

-- All nodes stop, and start again with clocks that are far behind.
abbrev pub ready_late : List Move
ready_late = continued [] (Boot_starts 1 1 1000 ∷ Boot_starts 2 1 1000 ∷ Boot_starts 3 1 1000 ∷ Clocks_advance (λ n. 1110) ∷ [])

abbrev pub all_stop : List Move
all_stop = Boot_stops 1 ∷ Boot_stops 2 ∷ Boot_stops 3 ∷ []

abbrev pub others_start_again : List Move
others_start_again = Boot_starts 2 2 0 ∷ Boot_starts 3 2 0 ∷ Clocks_advance (λ n. 110) ∷ []

abbrev pub rival_again : Round
rival_again = round 2 2 2 110

abbrev pub rival_is_held : List Move
rival_is_held = Round_begins rival_again ∷ voted 2 2 rival_again None ++ voted 3 2 rival_again None ++ Round_held rival_again ∷ []

-- Node 1 starts again as the same boot, and holds what that boot was granted.
abbrev pub far : Round
far = round 1 1 1 1110

abbrev pub boot_twice : List Move
boot_twice =
    continued ready_late (
    Round_begins far ∷ voted 1 1 far None ++ voted 3 1 far None ++ all_stop ++ Boot_starts 1 1 0 ∷ others_start_again ++ Round_held far ∷ rival_is_held
    )

-- Node 1 starts again as another boot, and holds what its earlier boot was granted.
abbrev pub earlier_boots_lease_held : List Move
earlier_boots_lease_held =
    continued ready_late (
    Round_begins far ∷ voted 1 1 far None ++ voted 3 1 far None ++ all_stop ++ Boot_starts 1 2 0 ∷ others_start_again ++ Round_held far ∷ rival_is_held
    )

-- Node 1 begins a round in the name of its next boot, which then holds it.
abbrev pub far_next_boot : Round
far_next_boot = round 1 1 2 1110

abbrev pub next_boots_round_begun : List Move
next_boots_round_begun =
    continued ready_late (
    Round_begins far_next_boot ∷ voted 1 1 far_next_boot None ++ voted 3 1 far_next_boot None ++ all_stop ++ Boot_starts 1 2 0 ∷ others_start_again
    ++ Round_held far_next_boot ∷ rival_is_held
    )

-- Node 3 starts again and stops, its clock is set ahead, and it promises the rival as if it had been silent.
abbrev pub promised_while_stopped : List Move
promised_while_stopped =
    continued one_holds (
    Boot_starts 3 2 110 ∷ Boot_stops 3 ∷ Clocks_advance (put (λ n. 110) 3 220) ∷ Round_begins rival
    ∷ voted 2 1 rival None ++ voted 3 2 rival None ++ Round_held rival ∷ []
    )

-- Node 4, no member, begins a round, and node 1 a lower one, which it holds. Node 4 stops, its clock is set ahead, and it
-- counts the report of node 3, which then accepts the round of node 4, which ends earlier, and reports that alone.
abbrev pub stranger : Round
stranger = round 2 4 1 110

abbrev pub first_later : Round
first_later = round 1 1 1 150

abbrev pub next_higher : Round
next_higher = round 3 2 1 210

abbrev pub counted_while_stopped : List Move
counted_while_stopped =
    continued ready (
    Boot_starts 4 1 110 ∷ Round_begins stranger ∷ Clocks_advance (λ n. 150) ∷ Round_begins first_later
    ∷ voted 1 1 first_later None ++ voted 3 1 first_later None ++ Round_held first_later
    ∷ Boot_stops 4 ∷ Clocks_advance (put (λ n. 150) 4 250) ∷ voted 3 1 stranger (Some first_later) ++ Clocks_advance (λ n. 210)
    ∷ Round_begins next_higher ∷ voted 2 1 next_higher None ++ voted 3 1 next_higher (Some stranger) ++ Round_held next_higher ∷ []
    )
