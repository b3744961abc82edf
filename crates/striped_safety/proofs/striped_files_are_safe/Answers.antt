use Rattle.striped_safety.proofs.Safe.{run_safe, part_safe}
use Rattle.striped_safety.proofs.striped_files_are_safe.Goals as goal

pub returns-clause-whole : goal.returns-clause-whole
returns-clause-whole c room lines are = run_safe room lines are

pub returns-clause-part : goal.returns-clause-part
returns-clause-part c room lines l entries are allowed into = part_safe room lines l entries are allowed into
