use Rattle.lease_safety.proofs.Weaker
use Rattle.lease_safety.proofs.weaker_rules_are_unsafe.Goals as goal

pub returns : goal.returns
returns c = record { shorter_silence = Weaker.silent_for_a_lease_unsafe; another_boot = Weaker.accepted_by_another_boot_unsafe; highest_report = Weaker.highest_report_alone_unsafe; from_the_end = Weaker.counted_from_the_end_unsafe }
