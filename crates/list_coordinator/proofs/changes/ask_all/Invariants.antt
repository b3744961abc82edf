use Rattle.std.proofs.Common.{◌≡◌, ◌++◌, drop}
use Rattle.change_rows.specs.Coordinating.{all_reminders}
use Rattle.list_coordinator.proofs.changes.ask_all.Given as goal

-- what the others are asked comes after what was asked
abbrev pub invariant-loop-carried : goal.invariant-loop-carried
invariant-loop-carried l = l.outs ++ all_reminders (drop l.carried-index l.files) ≡ l.initial.outs ++ all_reminders l.files
