use Rattle.server_rows.proofs.Refusing.{refusal_changes_nothing}
use Rattle.server_rows.proofs.a_refusal_changes_nothing_else.Goals as goal

pub returns : goal.returns
returns c = refusal_changes_nothing
