-- Trace and entries are walked together.
use Rattle.file_runs.proofs.Issued.{issue_first}
use Rattle.file_runs.proofs.writes_are_issued_first.Goals as goal

pub returns : goal.returns
returns c = issue_first
