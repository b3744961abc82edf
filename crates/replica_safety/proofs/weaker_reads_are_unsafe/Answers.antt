-- Each history was tested in proofs/Checker.antt.
use Rattle.replica_safety.proofs.Checker.{read_issued, read_late}
use Rattle.replica_safety.proofs.weaker_reads_are_unsafe.Goals as goal

pub returns-clause-issued : goal.returns-clause-issued
returns-clause-issued c = read_issued

pub returns-clause-late : goal.returns-clause-late
returns-clause-late c = read_late
