use Rattle.lease_safety.proofs.Examples
use Rattle.lease_safety.proofs.every_rule_is_needed.Goals as goal

pub returns-clause-boots_rise : goal.returns-clause-boots_rise
returns-clause-boots_rise c = Examples.boot_twice_two

pub returns-clause-clocks_rise : goal.returns-clause-clocks_rise
returns-clause-clocks_rise c = Examples.clocks_back_two

pub returns-clause-clocks_are_close : goal.returns-clause-clocks_are_close
returns-clause-clocks_are_close c = Examples.clocks_apart_two

pub returns-clause-rounds_are_of_the_present_boot : goal.returns-clause-rounds_are_of_the_present_boot
returns-clause-rounds_are_of_the_present_boot c = Examples.next_boots_round_begun_two

pub returns-clause-leases_count_from_the_beginning : goal.returns-clause-leases_count_from_the_beginning
returns-clause-leases_count_from_the_beginning c = Examples.counted_from_ahead_two

pub returns-clause-counts_rise : goal.returns-clause-counts_rise
returns-clause-counts_rise c = Examples.lower_round_begun_two

pub returns-clause-promised_rounds_have_begun : goal.returns-clause-promised_rounds_have_begun
returns-clause-promised_rounds_have_begun c = Examples.never_begun_two

pub returns-clause-promising_boots_run : goal.returns-clause-promising_boots_run
returns-clause-promising_boots_run c = Examples.promised_while_stopped_two

pub returns-clause-boots_are_silent : goal.returns-clause-boots_are_silent
returns-clause-boots_are_silent c = Examples.promised_in_silence_two

pub returns-clause-promises_rise : goal.returns-clause-promises_rise
returns-clause-promises_rise c = Examples.lower_round_promised_two

pub returns-clause-promises_are_made : goal.returns-clause-promises_are_made
returns-clause-promises_are_made c = Examples.invented_promise_counted_two

pub returns-clause-live_reports_stop : goal.returns-clause-live_reports_stop
returns-clause-live_reports_stop c = Examples.live_report_counted_two

pub returns-clause-counting_boots_run : goal.returns-clause-counting_boots_run
returns-clause-counting_boots_run c = Examples.counted_while_stopped_two

pub returns-clause-promises_are_kept : goal.returns-clause-promises_are_kept
returns-clause-promises_are_kept c = Examples.promise_broken_two

pub returns-clause-accepts_are_counted : goal.returns-clause-accepts_are_counted
returns-clause-accepts_are_counted c = Examples.accepted_uncounted_two

pub returns-clause-leases_are_of_the_present_boot : goal.returns-clause-leases_are_of_the_present_boot
returns-clause-leases_are_of_the_present_boot c = Examples.earlier_boots_lease_held_two

pub returns-clause-majorities_accept : goal.returns-clause-majorities_accept
returns-clause-majorities_accept c = Examples.held_by_a_minority_two
