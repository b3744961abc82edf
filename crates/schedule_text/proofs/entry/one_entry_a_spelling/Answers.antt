use Rattle.schedule_text.proofs.EntryAgain.{one_entry}
use Rattle.schedule_text.proofs.entry.one_entry_a_spelling.Goals as goal

pub returns : goal.returns
returns c = one_entry
