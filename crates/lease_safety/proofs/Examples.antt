-- The example histories are as legal as they are said to be.
use Rattle.std.proofs.Common.{◌≡◌, ℕ, ◌<◌, List, [], ◌∷◌, arith, refl, sym, ◌∙◌, inl, inr, subst}
use Rattle.std.proofs.lemmas.Bool.Decides.{nat_tests}
use Rattle.std.specs.Prelude.{true, false, Bool, Option, Some, None}
use Rattle.lease_safety.specs.Rounds.{Ballot, Round, IsSameProposer}
use Rattle.lease_safety.specs.State.{Setting, Nodes, State, Has, put}
use Rattle.lease_safety.specs.Moves.{Move, Boot_starts, Boot_stops, Clocks_advance, Round_begins, Round_promised, Promise_counted, Round_accepted, Round_held, state_after}
use Rattle.lease_safety.specs.Legal.{Rules, every_rule, Asked, IsHarmless, IsLegal, IsLegalUnder, IsHistory, IsHistoryUnder}
use Rattle.lease_safety.specs.Leases.{Holds}
use Rattle.lease_safety.specs.Examples.{trio, TwoHold, ready, ready_late, one_holds, another_holds, promised_in_silence, clocks_apart, accepted_uncounted, live_report_counted, invented_promise_counted, held_by_a_minority, promise_broken, lower_round_promised, clocks_back, counted_from_ahead, never_begun, lower_round_begun, boot_twice, earlier_boots_lease_held, next_boots_round_begun, promised_while_stopped, counted_while_stopped, first, rival, next, ahead, rival_after_silence, rival_again, far, far_next_boot, stranger, first_later, next_higher}
use Rattle.lease_safety.proofs.Lists.{put-other, same_or_other, each}

infixl 40 ◌▷◌
-- What is legal under every rule is legal under fewer.
given : (b : Bool) (P : Type 0) → P → Asked b P
given true P p = p
given false P p = tt

harmless_under : (rules : Rules) (g : Setting) (nodes : Nodes) (ballot : Ballot) (report : Option Round) → IsHarmless every_rule g nodes ballot report → IsHarmless rules g nodes ballot report
harmless_under rules g nodes ballot None h = tt
harmless_under rules g nodes ballot (Some r) (inl own) = inl own
harmless_under rules g nodes ballot (Some r) (inr over) = inr (given rules.counting_boots_run _ over.0, over.1)

move_under : (rules : Rules) (g : Setting) (s : State) (move : Move) → IsLegal g s move → IsLegalUnder rules g s move
move_under rules g s (Boot_starts node boot clock) may = record { rises = given rules.boots_rise _ may.rises; close = given rules.clocks_are_close _ may.close }
move_under rules g s (Boot_stops node) may = tt
move_under rules g s (Clocks_advance now) may = record { rises = given rules.clocks_rise _ may.rises; close = given rules.clocks_are_close _ may.close }
move_under rules g s (Round_begins round) may =
    record {
      boot = given rules.rounds_are_of_the_present_boot _ may.boot;
      clock = given rules.leases_count_from_the_beginning _ may.clock;
      rises = given rules.counts_rise _ may.rises;
    }
move_under rules g s (Round_promised node round) may =
    record {
      begun = given rules.promised_rounds_have_begun _ may.begun;
      runs = given rules.promising_boots_run _ may.runs;
      silent = given rules.boots_are_silent _ may.silent;
      rises = given rules.promises_rise _ may.rises;
    }
move_under rules g s (Promise_counted p) may =
    record {
      made = given rules.promises_are_made _ may.made;
      harmless = given rules.live_reports_stop _ (harmless_under rules g s.nodes p.round.ballot p.report may.harmless);
    }
move_under rules g s (Round_accepted node round) may =
    record { promised = given rules.promises_are_kept _ may.promised; counted = given rules.accepts_are_counted _ may.counted }
move_under rules g s (Round_held round) may =
    record { boot = given rules.leases_are_of_the_present_boot _ may.boot; majority = given rules.majorities_accept _ may.majority }

-- A history in the order of time: each move beside why it is legal.
pub data Told (rules : Rules) : List Move → Type 0 where
  begin : Told rules []
  ◌▷◌ : {moves : List Move} {move : Move} → Told rules moves → IsLegalUnder rules trio (state_after moves) move → Told rules (move ∷ moves)

pub history_of : (rules : Rules) (moves : List Move) → Told rules moves → IsHistoryUnder rules trio moves
history_of rules [] told = tt
history_of rules (move ∷ moves) (before ▷ legal) = (legal, history_of rules moves before)

pub two : {rules : Rules} {moves : List Move} → Told rules moves → Holds trio (state_after moves) 1 → Holds trio (state_after moves) 2 → TwoHold rules moves
two {rules} {moves} told one another = record { legal = history_of rules moves told; one = one; another = another }

pub told_of : (rules : Rules) (moves : List Move) → IsHistory trio moves → Told rules moves
told_of rules [] h = begin
told_of rules (move ∷ moves) h = told_of rules moves h.1 ▷ move_under rules trio (state_after moves) move h.0

-- A round's count is above those of its boot's rounds.
abbrev pub Fresh : Round → List Round → Type 0
Fresh r rounds = (earlier : Round) → Has earlier rounds → IsSameProposer earlier.ballot r.ballot → earlier.ballot.count < r.ballot.count

pub fresh_at_first : (r : Round) → Fresh r []
fresh_at_first r earlier h same = absurd h

pub fresh_beside : (r e : Round) (rounds : List Round) → (IsSameProposer e.ballot r.ballot → e.ballot.count < r.ballot.count) → Fresh r rounds → Fresh r (e ∷ rounds)
fresh_beside r e rounds one rest = each (λ (x : Round). IsSameProposer x.ballot r.ballot → x.ballot.count < r.ballot.count) e rounds one rest

-- Two members, marked.
abbrev pub marks : ℕ → ℕ → ℕ → Bool
marks a b = put (put (λ n. false) a true) b true

pub marked : (a b : ℕ) (P : ℕ → Type 0) → P a → P b → (n : ℕ) → marks a b n ≡ true → P n
marked a b P pa pb n is =
    elim (same_or_other n b) [
      | inl e ↦ subst P (sym e) pb
      | inr nb ↦ elim (same_or_other n a) [
        | inl e ↦ subst P (sym e) pa
        | inr na ↦ absurd (let found : marks a b n ≡ false = put-other (put (λ m. false) a true) b n true nb ∙ put-other (λ m. false) a n true na in cc)
      ]
    ]

pub ready_legal : IsHistory trio ready
ready_legal =
    history_of every_rule ready (
    begin
    ▷ (record { rises = omega arith; close = λ other runs. grind (arith, nat_tests) })
    ▷ (record { rises = omega arith; close = λ other runs. grind (arith, nat_tests) })
    ▷ (record { rises = omega arith; close = λ other runs. grind (arith, nat_tests) })
    ▷ (record { rises = λ n runs. grind (arith, nat_tests); close = λ a b ra rb. grind (arith, nat_tests) })
    )

pub one_holds_legal : IsHistory trio one_holds
one_holds_legal =
    history_of every_rule one_holds (
    told_of every_rule ready ready_legal
    ▷ (record { boot = refl; clock = refl; rises = fresh_at_first first })
    ▷ (record { begun = inl refl; runs = refl; silent = omega arith; rises = tt })
    ▷ (record { made = inl refl; harmless = tt })
    ▷ (record { promised = refl; counted = inl refl })
    ▷ (record { begun = inl refl; runs = refl; silent = omega arith; rises = tt })
    ▷ (record { made = inl refl; harmless = tt })
    ▷ (record { promised = refl; counted = inl refl })
    ▷ (record { boot = refl; majority = (marks 1 3, omega arith, marked 1 3 _ (1, inr (inl refl)) (1, inl refl)) })
    )

pub another_holds_legal : IsHistory trio another_holds
another_holds_legal =
    history_of every_rule another_holds (
    told_of every_rule one_holds one_holds_legal
    ▷ (record { rises = λ n runs. grind (arith, nat_tests); close = λ a b ra rb. grind (arith, nat_tests) })
    ▷ (record { boot = refl; clock = refl; rises = fresh_beside next first [] (λ same. omega (arith, same.0)) (fresh_at_first next) })
    ▷ (record { begun = inl refl; runs = refl; silent = omega arith; rises = tt })
    ▷ (record { made = inl refl; harmless = tt })
    ▷ (record { promised = refl; counted = inl refl })
    ▷ (record { begun = inl refl; runs = refl; silent = omega arith; rises = inl (omega arith) })
    ▷ (record { made = inl refl; harmless = inr (refl, omega arith) })
    ▷ (record { promised = refl; counted = inl refl })
    ▷ (record { boot = refl; majority = (marks 2 3, omega arith, marked 2 3 _ (1, inr (inl refl)) (1, inl refl)) })
    )

pub ready_late_legal : IsHistory trio ready_late
ready_late_legal =
    history_of every_rule ready_late (
    begin
    ▷ (record { rises = omega arith; close = λ other runs. grind (arith, nat_tests) })
    ▷ (record { rises = omega arith; close = λ other runs. grind (arith, nat_tests) })
    ▷ (record { rises = omega arith; close = λ other runs. grind (arith, nat_tests) })
    ▷ (record { rises = λ n runs. grind (arith, nat_tests); close = λ a b ra rb. grind (arith, nat_tests) })
    )

pub boot_twice_two : TwoHold (record every_rule { boots_rise = false }) boot_twice
boot_twice_two =
    two (
    told_of _ ready_late ready_late_legal
    ▷ (record { boot = refl; clock = refl; rises = fresh_at_first far })
    ▷ (record { begun = inl refl; runs = refl; silent = omega arith; rises = tt })
    ▷ (record { made = inl refl; harmless = tt })
    ▷ (record { promised = refl; counted = inl refl })
    ▷ (record { begun = inl refl; runs = refl; silent = omega arith; rises = tt })
    ▷ (record { made = inl refl; harmless = tt })
    ▷ (record { promised = refl; counted = inl refl })
    ▷ tt
    ▷ tt
    ▷ tt
    ▷ (record { rises = tt; close = λ other runs. grind (arith, nat_tests) })
    ▷ (record { rises = tt; close = λ other runs. grind (arith, nat_tests) })
    ▷ (record { rises = tt; close = λ other runs. grind (arith, nat_tests) })
    ▷ (record { rises = λ n runs. grind (arith, nat_tests); close = λ a b ra rb. grind (arith, nat_tests) })
    ▷ (record { boot = refl; majority = (marks 1 3, omega arith, marked 1 3 _ (1, inr (inl refl)) (1, inl refl)) })
    ▷ (record { boot = refl; clock = refl; rises = fresh_beside rival_again far [] (λ same. omega (arith, same.0)) (fresh_at_first rival_again) })
    ▷ (record { begun = inl refl; runs = refl; silent = omega arith; rises = tt })
    ▷ (record { made = inl refl; harmless = tt })
    ▷ (record { promised = refl; counted = inl refl })
    ▷ (record { begun = inl refl; runs = refl; silent = omega arith; rises = tt })
    ▷ (record { made = inl refl; harmless = tt })
    ▷ (record { promised = refl; counted = inl refl })
    ▷ (record { boot = refl; majority = (marks 2 3, omega arith, marked 2 3 _ (2, inr (inl refl)) (2, inl refl)) })
    ) (refl, omega arith) (refl, omega arith)

pub clocks_back_two : TwoHold (record every_rule { clocks_rise = false }) clocks_back
clocks_back_two =
    two (
    told_of _ another_holds another_holds_legal
    ▷ (record { rises = tt; close = λ a b ra rb. grind (arith, nat_tests) })
    ) (refl, omega arith) (refl, omega arith)

pub clocks_apart_two : TwoHold (record every_rule { clocks_are_close = false }) clocks_apart
clocks_apart_two =
    two (
    told_of _ one_holds one_holds_legal
    ▷ (record { rises = λ n runs. grind (arith, nat_tests); close = tt })
    ▷ (record { boot = refl; clock = refl; rises = fresh_beside next first [] (λ same. omega (arith, same.0)) (fresh_at_first next) })
    ▷ (record { begun = inl refl; runs = refl; silent = omega arith; rises = tt })
    ▷ (record { made = inl refl; harmless = tt })
    ▷ (record { promised = refl; counted = inl refl })
    ▷ (record { begun = inl refl; runs = refl; silent = omega arith; rises = inl (omega arith) })
    ▷ (record { made = inl refl; harmless = inr (refl, omega arith) })
    ▷ (record { promised = refl; counted = inl refl })
    ▷ (record { boot = refl; majority = (marks 2 3, omega arith, marked 2 3 _ (1, inr (inl refl)) (1, inl refl)) })
    ) (refl, omega arith) (refl, omega arith)

pub next_boots_round_begun_two : TwoHold (record every_rule { rounds_are_of_the_present_boot = false }) next_boots_round_begun
next_boots_round_begun_two =
    two (
    told_of _ ready_late ready_late_legal
    ▷ (record { boot = tt; clock = refl; rises = fresh_at_first far_next_boot })
    ▷ (record { begun = inl refl; runs = refl; silent = omega arith; rises = tt })
    ▷ (record { made = inl refl; harmless = tt })
    ▷ (record { promised = refl; counted = inl refl })
    ▷ (record { begun = inl refl; runs = refl; silent = omega arith; rises = tt })
    ▷ (record { made = inl refl; harmless = tt })
    ▷ (record { promised = refl; counted = inl refl })
    ▷ tt
    ▷ tt
    ▷ tt
    ▷ (record { rises = omega arith; close = λ other runs. grind (arith, nat_tests) })
    ▷ (record { rises = omega arith; close = λ other runs. grind (arith, nat_tests) })
    ▷ (record { rises = omega arith; close = λ other runs. grind (arith, nat_tests) })
    ▷ (record { rises = λ n runs. grind (arith, nat_tests); close = λ a b ra rb. grind (arith, nat_tests) })
    ▷ (record { boot = refl; majority = (marks 1 3, omega arith, marked 1 3 _ (1, inr (inl refl)) (1, inl refl)) })
    ▷ (record { boot = tt; clock = refl; rises = fresh_beside rival_again far_next_boot [] (λ same. omega (arith, same.0)) (fresh_at_first rival_again) })
    ▷ (record { begun = inl refl; runs = refl; silent = omega arith; rises = tt })
    ▷ (record { made = inl refl; harmless = tt })
    ▷ (record { promised = refl; counted = inl refl })
    ▷ (record { begun = inl refl; runs = refl; silent = omega arith; rises = tt })
    ▷ (record { made = inl refl; harmless = tt })
    ▷ (record { promised = refl; counted = inl refl })
    ▷ (record { boot = refl; majority = (marks 2 3, omega arith, marked 2 3 _ (2, inr (inl refl)) (2, inl refl)) })
    ) (refl, omega arith) (refl, omega arith)

pub counted_from_ahead_two : TwoHold (record every_rule { leases_count_from_the_beginning = false }) counted_from_ahead
counted_from_ahead_two =
    two (
    told_of _ ready ready_legal
    ▷ (record { boot = refl; clock = tt; rises = fresh_at_first ahead })
    ▷ (record { begun = inl refl; runs = refl; silent = omega arith; rises = tt })
    ▷ (record { made = inl refl; harmless = tt })
    ▷ (record { promised = refl; counted = inl refl })
    ▷ (record { begun = inl refl; runs = refl; silent = omega arith; rises = tt })
    ▷ (record { made = inl refl; harmless = tt })
    ▷ (record { promised = refl; counted = inl refl })
    ▷ (record { boot = refl; majority = (marks 1 3, omega arith, marked 1 3 _ (1, inr (inl refl)) (1, inl refl)) })
    ▷ (record { rises = omega arith; close = λ other runs. grind (arith, nat_tests) })
    ▷ (record { rises = λ n runs. grind (arith, nat_tests); close = λ a b ra rb. grind (arith, nat_tests) })
    ▷ (record { boot = refl; clock = tt; rises = fresh_beside rival_after_silence ahead [] (λ same. omega (arith, same.0)) (fresh_at_first rival_after_silence) })
    ▷ (record { begun = inl refl; runs = refl; silent = omega arith; rises = tt })
    ▷ (record { made = inl refl; harmless = tt })
    ▷ (record { promised = refl; counted = inl refl })
    ▷ (record { begun = inl refl; runs = refl; silent = omega arith; rises = tt })
    ▷ (record { made = inl refl; harmless = tt })
    ▷ (record { promised = refl; counted = inl refl })
    ▷ (record { boot = refl; majority = (marks 2 3, omega arith, marked 2 3 _ (1, inr (inl refl)) (2, inl refl)) })
    ) (refl, omega arith) (refl, omega arith)

pub lower_round_begun_two : TwoHold (record every_rule { counts_rise = false }) lower_round_begun
lower_round_begun_two =
    two (
    told_of _ ready ready_legal
    ▷ (record { boot = refl; clock = refl; rises = tt })
    ▷ (record { rises = λ n runs. grind (arith, nat_tests); close = λ a b ra rb. grind (arith, nat_tests) })
    ▷ (record { boot = refl; clock = refl; rises = tt })
    ▷ (record { begun = inl refl; runs = refl; silent = omega arith; rises = tt })
    ▷ (record { made = inl refl; harmless = tt })
    ▷ (record { promised = refl; counted = inl refl })
    ▷ (record { begun = inl refl; runs = refl; silent = omega arith; rises = tt })
    ▷ (record { made = inl refl; harmless = tt })
    ▷ (record { promised = refl; counted = inl refl })
    ▷ (record { boot = refl; majority = (marks 1 3, omega arith, marked 1 3 _ (1, inr (inl refl)) (1, inl refl)) })
    ▷ (record { begun = inr (inl refl); runs = refl; silent = omega arith; rises = inl (omega arith) })
    ▷ (record { made = inl refl; harmless = inl (refl, refl) })
    ▷ (record { promised = refl; counted = inl refl })
    ▷ (record { rises = λ n runs. grind (arith, nat_tests); close = λ a b ra rb. grind (arith, nat_tests) })
    ▷ (record { boot = refl; clock = refl; rises = tt })
    ▷ (record { begun = inl refl; runs = refl; silent = omega arith; rises = tt })
    ▷ (record { made = inl refl; harmless = tt })
    ▷ (record { promised = refl; counted = inl refl })
    ▷ (record { begun = inl refl; runs = refl; silent = omega arith; rises = inl (omega arith) })
    ▷ (record { made = inl refl; harmless = inr (refl, omega arith) })
    ▷ (record { promised = refl; counted = inl refl })
    ▷ (record { boot = refl; majority = (marks 2 3, omega arith, marked 2 3 _ (1, inr (inl refl)) (1, inl refl)) })
    ) (refl, omega arith) (refl, omega arith)

pub never_begun_two : TwoHold (record every_rule { promised_rounds_have_begun = false }) never_begun
never_begun_two =
    two (
    told_of _ ready ready_legal
    ▷ (record { begun = tt; runs = refl; silent = omega arith; rises = tt })
    ▷ (record { made = inl refl; harmless = tt })
    ▷ (record { promised = refl; counted = inl refl })
    ▷ (record { begun = tt; runs = refl; silent = omega arith; rises = tt })
    ▷ (record { made = inl refl; harmless = tt })
    ▷ (record { promised = refl; counted = inl refl })
    ▷ (record { boot = refl; majority = (marks 1 3, omega arith, marked 1 3 _ (1, inr (inl refl)) (1, inl refl)) })
    ▷ (record { rises = omega arith; close = λ other runs. grind (arith, nat_tests) })
    ▷ (record { rises = λ n runs. grind (arith, nat_tests); close = λ a b ra rb. grind (arith, nat_tests) })
    ▷ (record { boot = refl; clock = refl; rises = fresh_at_first rival_after_silence })
    ▷ (record { begun = tt; runs = refl; silent = omega arith; rises = tt })
    ▷ (record { made = inl refl; harmless = tt })
    ▷ (record { promised = refl; counted = inl refl })
    ▷ (record { begun = tt; runs = refl; silent = omega arith; rises = tt })
    ▷ (record { made = inl refl; harmless = tt })
    ▷ (record { promised = refl; counted = inl refl })
    ▷ (record { boot = refl; majority = (marks 2 3, omega arith, marked 2 3 _ (1, inr (inl refl)) (2, inl refl)) })
    ) (refl, omega arith) (refl, omega arith)

pub promised_while_stopped_two : TwoHold (record every_rule { promising_boots_run = false }) promised_while_stopped
promised_while_stopped_two =
    two (
    told_of _ one_holds one_holds_legal
    ▷ (record { rises = omega arith; close = λ other runs. grind (arith, nat_tests) })
    ▷ tt
    ▷ (record { rises = λ n runs. grind (arith, nat_tests); close = λ a b ra rb. grind (arith, nat_tests) })
    ▷ (record { boot = refl; clock = refl; rises = fresh_beside rival first [] (λ same. omega (arith, same.0)) (fresh_at_first rival) })
    ▷ (record { begun = inl refl; runs = tt; silent = omega arith; rises = tt })
    ▷ (record { made = inl refl; harmless = tt })
    ▷ (record { promised = refl; counted = inl refl })
    ▷ (record { begun = inl refl; runs = tt; silent = omega arith; rises = tt })
    ▷ (record { made = inl refl; harmless = tt })
    ▷ (record { promised = refl; counted = inl refl })
    ▷ (record { boot = refl; majority = (marks 2 3, omega arith, marked 2 3 _ (1, inr (inl refl)) (2, inl refl)) })
    ) (refl, omega arith) (refl, omega arith)

pub promised_in_silence_two : TwoHold (record every_rule { boots_are_silent = false }) promised_in_silence
promised_in_silence_two =
    two (
    told_of _ one_holds one_holds_legal
    ▷ (record { rises = omega arith; close = λ other runs. grind (arith, nat_tests) })
    ▷ (record { boot = refl; clock = refl; rises = fresh_beside rival first [] (λ same. omega (arith, same.0)) (fresh_at_first rival) })
    ▷ (record { begun = inl refl; runs = refl; silent = tt; rises = tt })
    ▷ (record { made = inl refl; harmless = tt })
    ▷ (record { promised = refl; counted = inl refl })
    ▷ (record { begun = inl refl; runs = refl; silent = tt; rises = tt })
    ▷ (record { made = inl refl; harmless = tt })
    ▷ (record { promised = refl; counted = inl refl })
    ▷ (record { boot = refl; majority = (marks 2 3, omega arith, marked 2 3 _ (1, inr (inl refl)) (2, inl refl)) })
    ) (refl, omega arith) (refl, omega arith)

pub lower_round_promised_two : TwoHold (record every_rule { promises_rise = false }) lower_round_promised
lower_round_promised_two =
    two (
    told_of _ ready ready_legal
    ▷ (record { boot = refl; clock = refl; rises = fresh_at_first first })
    ▷ (record { boot = refl; clock = refl; rises = fresh_beside rival first [] (λ same. omega (arith, same.0)) (fresh_at_first rival) })
    ▷ (record { begun = inl refl; runs = refl; silent = omega arith; rises = tt })
    ▷ (record { made = inl refl; harmless = tt })
    ▷ (record { begun = inr (inl refl); runs = refl; silent = omega arith; rises = tt })
    ▷ (record { made = inl refl; harmless = tt })
    ▷ (record { promised = refl; counted = inl refl })
    ▷ (record { begun = inl refl; runs = refl; silent = omega arith; rises = tt })
    ▷ (record { promised = refl; counted = inr (inl refl) })
    ▷ (record { begun = inr (inl refl); runs = refl; silent = omega arith; rises = tt })
    ▷ (record { made = inl refl; harmless = tt })
    ▷ (record { promised = refl; counted = inl refl })
    ▷ (record { boot = refl; majority = (marks 3 1, omega arith, marked 3 1 _ (1, inr (inr (inl refl))) (1, inl refl)) })
    ▷ (record { begun = inl refl; runs = refl; silent = omega arith; rises = tt })
    ▷ (record { made = inl refl; harmless = tt })
    ▷ (record { promised = refl; counted = inl refl })
    ▷ (record { boot = refl; majority = (marks 3 2, omega arith, marked 3 2 _ (1, inr (inr (inl refl))) (1, inl refl)) })
    ) (refl, omega arith) (refl, omega arith)

pub invented_promise_counted_two : TwoHold (record every_rule { promises_are_made = false }) invented_promise_counted
invented_promise_counted_two =
    two (
    told_of _ one_holds one_holds_legal
    ▷ (record { boot = refl; clock = refl; rises = fresh_beside rival first [] (λ same. omega (arith, same.0)) (fresh_at_first rival) })
    ▷ (record { begun = inl refl; runs = refl; silent = omega arith; rises = tt })
    ▷ (record { made = tt; harmless = tt })
    ▷ (record { promised = refl; counted = inl refl })
    ▷ (record { begun = inl refl; runs = refl; silent = omega arith; rises = inl (omega arith) })
    ▷ (record { made = tt; harmless = tt })
    ▷ (record { promised = refl; counted = inl refl })
    ▷ (record { boot = refl; majority = (marks 2 3, omega arith, marked 2 3 _ (1, inr (inl refl)) (1, inl refl)) })
    ) (refl, omega arith) (refl, omega arith)

pub live_report_counted_two : TwoHold (record every_rule { live_reports_stop = false }) live_report_counted
live_report_counted_two =
    two (
    told_of _ one_holds one_holds_legal
    ▷ (record { boot = refl; clock = refl; rises = fresh_beside rival first [] (λ same. omega (arith, same.0)) (fresh_at_first rival) })
    ▷ (record { begun = inl refl; runs = refl; silent = omega arith; rises = tt })
    ▷ (record { made = inl refl; harmless = tt })
    ▷ (record { promised = refl; counted = inl refl })
    ▷ (record { begun = inl refl; runs = refl; silent = omega arith; rises = inl (omega arith) })
    ▷ (record { made = inl refl; harmless = tt })
    ▷ (record { promised = refl; counted = inl refl })
    ▷ (record { boot = refl; majority = (marks 2 3, omega arith, marked 2 3 _ (1, inr (inl refl)) (1, inl refl)) })
    ) (refl, omega arith) (refl, omega arith)

pub counted_while_stopped_two : TwoHold (record every_rule { counting_boots_run = false }) counted_while_stopped
counted_while_stopped_two =
    two (
    told_of _ ready ready_legal
    ▷ (record { rises = omega arith; close = λ other runs. grind (arith, nat_tests) })
    ▷ (record { boot = refl; clock = refl; rises = fresh_at_first stranger })
    ▷ (record { rises = λ n runs. grind (arith, nat_tests); close = λ a b ra rb. grind (arith, nat_tests) })
    ▷ (record { boot = refl; clock = refl; rises = fresh_beside first_later stranger [] (λ same. omega (arith, same.0)) (fresh_at_first first_later) })
    ▷ (record { begun = inl refl; runs = refl; silent = omega arith; rises = tt })
    ▷ (record { made = inl refl; harmless = tt })
    ▷ (record { promised = refl; counted = inl refl })
    ▷ (record { begun = inl refl; runs = refl; silent = omega arith; rises = tt })
    ▷ (record { made = inl refl; harmless = tt })
    ▷ (record { promised = refl; counted = inl refl })
    ▷ (record { boot = refl; majority = (marks 1 3, omega arith, marked 1 3 _ (1, inr (inl refl)) (1, inl refl)) })
    ▷ tt
    ▷ (record { rises = λ n runs. grind (arith, nat_tests); close = λ a b ra rb. grind (arith, nat_tests) })
    ▷ (record { begun = inr (inl refl); runs = refl; silent = omega arith; rises = inl (omega arith) })
    ▷ (record { made = inl refl; harmless = inr (tt, omega arith) })
    ▷ (record { promised = refl; counted = inl refl })
    ▷ (record { rises = λ n runs. grind (arith, nat_tests); close = λ a b ra rb. grind (arith, nat_tests) })
    ▷ (record { boot = refl; clock = refl; rises = fresh_beside next_higher first_later (stranger ∷ []) (λ same. omega (arith, same.0)) (fresh_beside next_higher stranger [] (λ same. omega (arith, same.0)) (fresh_at_first next_higher)) })
    ▷ (record { begun = inl refl; runs = refl; silent = omega arith; rises = tt })
    ▷ (record { made = inl refl; harmless = tt })
    ▷ (record { promised = refl; counted = inl refl })
    ▷ (record { begun = inl refl; runs = refl; silent = omega arith; rises = inl (omega arith) })
    ▷ (record { made = inl refl; harmless = inr (tt, omega arith) })
    ▷ (record { promised = refl; counted = inl refl })
    ▷ (record { boot = refl; majority = (marks 2 3, omega arith, marked 2 3 _ (1, inr (inl refl)) (1, inl refl)) })
    ) (refl, omega arith) (refl, omega arith)

pub promise_broken_two : TwoHold (record every_rule { promises_are_kept = false }) promise_broken
promise_broken_two =
    two (
    told_of _ ready ready_legal
    ▷ (record { boot = refl; clock = refl; rises = fresh_at_first first })
    ▷ (record { boot = refl; clock = refl; rises = fresh_beside rival first [] (λ same. omega (arith, same.0)) (fresh_at_first rival) })
    ▷ (record { begun = inr (inl refl); runs = refl; silent = omega arith; rises = tt })
    ▷ (record { made = inl refl; harmless = tt })
    ▷ (record { begun = inl refl; runs = refl; silent = omega arith; rises = inl (omega arith) })
    ▷ (record { made = inl refl; harmless = tt })
    ▷ (record { promised = tt; counted = inr (inl refl) })
    ▷ (record { promised = tt; counted = inl refl })
    ▷ (record { begun = inr (inl refl); runs = refl; silent = omega arith; rises = tt })
    ▷ (record { made = inl refl; harmless = tt })
    ▷ (record { promised = tt; counted = inl refl })
    ▷ (record { boot = refl; majority = (marks 3 1, omega arith, marked 3 1 _ (1, inr (inr (inl refl))) (1, inl refl)) })
    ▷ (record { begun = inl refl; runs = refl; silent = omega arith; rises = tt })
    ▷ (record { made = inl refl; harmless = tt })
    ▷ (record { promised = tt; counted = inl refl })
    ▷ (record { boot = refl; majority = (marks 3 2, omega arith, marked 3 2 _ (1, inr (inr (inl refl))) (1, inl refl)) })
    ) (refl, omega arith) (refl, omega arith)

pub accepted_uncounted_two : TwoHold (record every_rule { accepts_are_counted = false }) accepted_uncounted
accepted_uncounted_two =
    two (
    told_of _ one_holds one_holds_legal
    ▷ (record { boot = refl; clock = refl; rises = fresh_beside rival first [] (λ same. omega (arith, same.0)) (fresh_at_first rival) })
    ▷ (record { begun = inl refl; runs = refl; silent = omega arith; rises = tt })
    ▷ (record { made = inl refl; harmless = tt })
    ▷ (record { promised = refl; counted = tt })
    ▷ (record { begun = inl refl; runs = refl; silent = omega arith; rises = inl (omega arith) })
    ▷ (record { promised = refl; counted = tt })
    ▷ (record { boot = refl; majority = (marks 2 3, omega arith, marked 2 3 _ (1, inr (inl refl)) (1, inl refl)) })
    ) (refl, omega arith) (refl, omega arith)

pub earlier_boots_lease_held_two : TwoHold (record every_rule { leases_are_of_the_present_boot = false }) earlier_boots_lease_held
earlier_boots_lease_held_two =
    two (
    told_of _ ready_late ready_late_legal
    ▷ (record { boot = refl; clock = refl; rises = fresh_at_first far })
    ▷ (record { begun = inl refl; runs = refl; silent = omega arith; rises = tt })
    ▷ (record { made = inl refl; harmless = tt })
    ▷ (record { promised = refl; counted = inl refl })
    ▷ (record { begun = inl refl; runs = refl; silent = omega arith; rises = tt })
    ▷ (record { made = inl refl; harmless = tt })
    ▷ (record { promised = refl; counted = inl refl })
    ▷ tt
    ▷ tt
    ▷ tt
    ▷ (record { rises = omega arith; close = λ other runs. grind (arith, nat_tests) })
    ▷ (record { rises = omega arith; close = λ other runs. grind (arith, nat_tests) })
    ▷ (record { rises = omega arith; close = λ other runs. grind (arith, nat_tests) })
    ▷ (record { rises = λ n runs. grind (arith, nat_tests); close = λ a b ra rb. grind (arith, nat_tests) })
    ▷ (record { boot = tt; majority = (marks 1 3, omega arith, marked 1 3 _ (1, inr (inl refl)) (1, inl refl)) })
    ▷ (record { boot = refl; clock = refl; rises = fresh_beside rival_again far [] (λ same. omega (arith, same.0)) (fresh_at_first rival_again) })
    ▷ (record { begun = inl refl; runs = refl; silent = omega arith; rises = tt })
    ▷ (record { made = inl refl; harmless = tt })
    ▷ (record { promised = refl; counted = inl refl })
    ▷ (record { begun = inl refl; runs = refl; silent = omega arith; rises = tt })
    ▷ (record { made = inl refl; harmless = tt })
    ▷ (record { promised = refl; counted = inl refl })
    ▷ (record { boot = tt; majority = (marks 2 3, omega arith, marked 2 3 _ (2, inr (inl refl)) (2, inl refl)) })
    ) (refl, omega arith) (refl, omega arith)

pub held_by_a_minority_two : TwoHold (record every_rule { majorities_accept = false }) held_by_a_minority
held_by_a_minority_two =
    two (
    told_of _ one_holds one_holds_legal
    ▷ (record { boot = refl; clock = refl; rises = fresh_beside rival first [] (λ same. omega (arith, same.0)) (fresh_at_first rival) })
    ▷ (record { begun = inl refl; runs = refl; silent = omega arith; rises = tt })
    ▷ (record { made = inl refl; harmless = tt })
    ▷ (record { promised = refl; counted = inl refl })
    ▷ (record { boot = refl; majority = tt })
    ) (refl, omega arith) (refl, omega arith)
