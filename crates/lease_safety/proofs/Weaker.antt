-- The histories of the changed rules keep them, and are otherwise legal.
use Rattle.std.proofs.Common.{[], ◌∷◌, arith, refl, inl, inr}
use Rattle.std.proofs.lemmas.Bool.Decides.{nat_tests}
use Rattle.std.specs.Prelude.{false, Some}
use Rattle.lease_safety.specs.Legal.{every_rule}
use Rattle.lease_safety.specs.Examples.{TwoHold, ready, one_holds, first, ahead, rival_after_silence}
use Rattle.lease_safety.specs.Weaker.{AreUnsafe, SilentForLease, CountedOfNode, HighestHarmless, after_a_lease, silent_for_a_lease, old_high, lower_lease, next_of_one, accepted_by_another_boot, high_alone, low_later, highest, highest_report_alone, CountedFromEnd, counted_from_the_end}
use Rattle.lease_safety.proofs.Examples.{◌▷◌, two, told_of, fresh_at_first, fresh_beside, marks, marked, ready_legal, one_holds_legal}

pub silent_for_a_lease_two : TwoHold (record every_rule { boots_are_silent = false }) silent_for_a_lease
silent_for_a_lease_two =
    two (
    told_of _ one_holds one_holds_legal
    ▷ (record { rises = omega arith; close = λ other runs. grind (arith, nat_tests) })
    ▷ (record { rises = λ n runs. grind (arith, nat_tests); close = λ a b ra rb. grind (arith, nat_tests) })
    ▷ (record { boot = refl; clock = refl; rises = fresh_beside after_a_lease first [] (λ same. omega (arith, same.0)) (fresh_at_first after_a_lease) })
    ▷ (record { begun = inl refl; runs = refl; silent = tt; rises = tt })
    ▷ (record { made = inl refl; harmless = tt })
    ▷ (record { promised = refl; counted = inl refl })
    ▷ (record { begun = inl refl; runs = refl; silent = tt; rises = tt })
    ▷ (record { made = inl refl; harmless = tt })
    ▷ (record { promised = refl; counted = inl refl })
    ▷ (record { boot = refl; majority = (marks 2 3, omega arith, marked 2 3 _ (1, inr (inl refl)) (2, inl refl)) })
    ) (refl, omega arith) (refl, omega arith)

pub silent_for_a_lease_unsafe : AreUnsafe (record every_rule { boots_are_silent = false }) SilentForLease silent_for_a_lease
silent_for_a_lease_unsafe =
    record {
      two = silent_for_a_lease_two;
      kept = (tt, (tt, (tt, (omega arith, (tt, (tt, (omega arith, (tt, (tt, (tt, (tt, (tt, (tt, (omega arith, (tt, (tt, (omega arith, (tt, (tt, (tt, (tt, (tt, tt))))))))))))))))))))));
    }

pub accepted_by_another_boot_two : TwoHold (record every_rule { accepts_are_counted = false }) accepted_by_another_boot
accepted_by_another_boot_two =
    two (
    told_of _ ready ready_legal
    ▷ (record { boot = refl; clock = refl; rises = fresh_at_first old_high })
    ▷ (record { begun = inl refl; runs = refl; silent = omega arith; rises = tt })
    ▷ (record { made = inl refl; harmless = tt })
    ▷ (record { rises = omega arith; close = λ other runs. grind (arith, nat_tests) })
    ▷ (record { rises = λ n runs. grind (arith, nat_tests); close = λ a b ra rb. grind (arith, nat_tests) })
    ▷ (record { boot = refl; clock = refl; rises = fresh_beside lower_lease old_high [] (λ same. omega (arith, same.0)) (fresh_at_first lower_lease) })
    ▷ (record { begun = inl refl; runs = refl; silent = omega arith; rises = tt })
    ▷ (record { made = inl refl; harmless = tt })
    ▷ (record { promised = refl; counted = tt })
    ▷ (record { begun = inl refl; runs = refl; silent = omega arith; rises = tt })
    ▷ (record { made = inl refl; harmless = tt })
    ▷ (record { promised = refl; counted = tt })
    ▷ (record { boot = refl; majority = (marks 2 3, omega arith, marked 2 3 _ (1, inr (inl refl)) (2, inl refl)) })
    ▷ (record { begun = inr (inl refl); runs = refl; silent = omega arith; rises = inl (omega arith) })
    ▷ (record { promised = refl; counted = tt })
    ▷ (record { boot = refl; clock = refl; rises = fresh_beside next_of_one lower_lease (old_high ∷ []) (λ same. omega (arith, same.0)) (fresh_beside next_of_one old_high [] (λ same. omega arith) (fresh_at_first next_of_one)) })
    ▷ (record { begun = inl refl; runs = refl; silent = omega arith; rises = tt })
    ▷ (record { made = inl refl; harmless = tt })
    ▷ (record { promised = refl; counted = tt })
    ▷ (record { begun = inl refl; runs = refl; silent = omega arith; rises = inl (omega arith) })
    ▷ (record { made = inl refl; harmless = inl (refl, refl) })
    ▷ (record { promised = refl; counted = tt })
    ▷ (record { boot = refl; majority = (marks 1 3, omega arith, marked 1 3 _ (1, inr (inl refl)) (2, inl refl)) })
    ) (refl, omega arith) (refl, omega arith)

pub accepted_by_another_boot_unsafe : AreUnsafe (record every_rule { accepts_are_counted = false }) CountedOfNode accepted_by_another_boot
accepted_by_another_boot_unsafe = record { two = accepted_by_another_boot_two; kept = (tt, ((2, inl refl), (tt, (tt, ((1, inl refl), (tt, (tt, (tt, ((1, inr (inr (inl refl))), (tt, (tt, ((2, inl refl), (tt, (tt, ((1, inl refl), (tt, (tt, (tt, (tt, (tt, (tt, (tt, (tt, (tt, (tt, (tt, (tt, tt))))))))))))))))))))))))))) }

pub highest_report_alone_two : TwoHold (record every_rule { live_reports_stop = false }) highest_report_alone
highest_report_alone_two =
    two (
    told_of _ ready ready_legal
    ▷ (record { boot = refl; clock = refl; rises = fresh_at_first high_alone })
    ▷ (record { begun = inl refl; runs = refl; silent = omega arith; rises = tt })
    ▷ (record { made = inl refl; harmless = tt })
    ▷ (record { promised = refl; counted = inl refl })
    ▷ (record { rises = λ n runs. grind (arith, nat_tests); close = λ a b ra rb. grind (arith, nat_tests) })
    ▷ (record { boot = refl; clock = refl; rises = fresh_beside low_later high_alone [] (λ same. omega (arith, same.0)) (fresh_at_first low_later) })
    ▷ (record { begun = inl refl; runs = refl; silent = omega arith; rises = tt })
    ▷ (record { made = inl refl; harmless = tt })
    ▷ (record { promised = refl; counted = inl refl })
    ▷ (record { begun = inl refl; runs = refl; silent = omega arith; rises = tt })
    ▷ (record { made = inl refl; harmless = tt })
    ▷ (record { promised = refl; counted = inl refl })
    ▷ (record { boot = refl; majority = (marks 1 3, omega arith, marked 1 3 _ (1, inr (inl refl)) (1, inl refl)) })
    ▷ (record { rises = λ n runs. grind (arith, nat_tests); close = λ a b ra rb. grind (arith, nat_tests) })
    ▷ (record { boot = refl; clock = refl; rises = fresh_beside highest low_later (high_alone ∷ []) (λ same. omega (arith, same.0)) (fresh_beside highest high_alone [] (λ same. omega arith) (fresh_at_first highest)) })
    ▷ (record { begun = inl refl; runs = refl; silent = omega arith; rises = inl (omega arith) })
    ▷ (record { made = inl refl; harmless = tt })
    ▷ (record { promised = refl; counted = inl refl })
    ▷ (record { begun = inl refl; runs = refl; silent = omega arith; rises = inl (omega arith) })
    ▷ (record { made = inl refl; harmless = tt })
    ▷ (record { promised = refl; counted = inl refl })
    ▷ (record { boot = refl; majority = (marks 2 3, omega arith, marked 2 3 _ (1, inr (inl refl)) (1, inl refl)) })
    ) (refl, omega arith) (refl, omega arith)

pub highest_report_alone_unsafe : AreUnsafe (record every_rule { live_reports_stop = false }) HighestHarmless highest_report_alone
highest_report_alone_unsafe =
    record { two = highest_report_alone_two; kept = (tt, (tt, ((inl refl, inr (record { other = record { node = 2; boot = 1; round = highest; report = Some high_alone }; high = high_alone; same = refl; counted = inl refl; reported = refl; higher = inl (omega arith); harmless = inl (refl, refl) })), (tt, (tt, ((inl refl, inl (inl (refl, refl))), (tt, (tt, (tt, (tt, (tt, ((inl refl, tt), (tt, (tt, ((inl refl, tt), (tt, (tt, (tt, (tt, ((inl refl, tt), (tt, (tt, (tt, (tt, (tt, (tt, tt)))))))))))))))))))))))))) }

pub counted_from_the_end_two : TwoHold (record every_rule { leases_count_from_the_beginning = false }) counted_from_the_end
counted_from_the_end_two =
    two (
    told_of _ ready ready_legal
    ▷ (record { boot = refl; clock = tt; rises = fresh_at_first ahead })
    ▷ (record { begun = inl refl; runs = refl; silent = omega arith; rises = tt })
    ▷ (record { made = inl refl; harmless = tt })
    ▷ (record { promised = refl; counted = inl refl })
    ▷ (record { begun = inl refl; runs = refl; silent = omega arith; rises = tt })
    ▷ (record { made = inl refl; harmless = tt })
    ▷ (record { promised = refl; counted = inl refl })
    ▷ (record { rises = omega arith; close = λ other runs. grind (arith, nat_tests) })
    ▷ (record { rises = λ n runs. grind (arith, nat_tests); close = λ a b ra rb. grind (arith, nat_tests) })
    ▷ (record { boot = refl; majority = (marks 1 3, omega arith, marked 1 3 _ (1, inr (inl refl)) (1, inl refl)) })
    ▷ (record { rises = λ n runs. grind (arith, nat_tests); close = λ a b ra rb. grind (arith, nat_tests) })
    ▷ (record { boot = refl; clock = tt; rises = fresh_beside rival_after_silence ahead [] (λ same. omega (arith, same.0)) (fresh_at_first rival_after_silence) })
    ▷ (record { begun = inl refl; runs = refl; silent = omega arith; rises = tt })
    ▷ (record { made = inl refl; harmless = tt })
    ▷ (record { promised = refl; counted = inl refl })
    ▷ (record { begun = inl refl; runs = refl; silent = omega arith; rises = tt })
    ▷ (record { made = inl refl; harmless = tt })
    ▷ (record { promised = refl; counted = inl refl })
    ▷ (record { boot = refl; majority = (marks 2 3, omega arith, marked 2 3 _ (1, inr (inl refl)) (2, inl refl)) })
    ) (refl, omega arith) (refl, omega arith)

pub counted_from_the_end_unsafe : AreUnsafe (record every_rule { leases_count_from_the_beginning = false }) CountedFromEnd counted_from_the_end
counted_from_the_end_unsafe =
    record {
      two = counted_from_the_end_two;
      kept = (refl, (tt, (tt, (tt, (tt, (tt, (tt, (tt, (tt, (refl, (tt, (tt, (tt, (tt, (tt, (tt, (tt, (tt, (tt, (tt, (tt, (tt, (tt, tt)))))))))))))))))))))));
    }
