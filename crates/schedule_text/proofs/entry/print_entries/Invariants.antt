use Rattle.std.proofs.Common.{◌≡◌, take}
use Rattle.schedule_text.specs.EntryText.{trace_text}
use Rattle.schedule_text.proofs.entry.print_entries.Given as goal

-- the entries so far are spelled
abbrev pub invariant-loop-entry : goal.invariant-loop-entry
invariant-loop-entry l = l.out.items ≡ trace_text (take l.entry-index l.entries)
