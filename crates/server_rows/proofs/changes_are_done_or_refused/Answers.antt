use Rattle.server_rows.proofs.Refusing.{changes_settle}
use Rattle.server_rows.proofs.changes_are_done_or_refused.Goals as goal

pub returns : goal.returns
returns c = changes_settle
