-- A disk keeps a journal of payloads in one way at most.
use Rattle.std.specs.Prelude.{ℕ, Bool, List, IsTrue}
use Rattle.std.proofs.Props.{props}
use Rattle.disk_model.specs.Disk.{Kept}
use Rattle.xt_journal.specs.Format.{KeepsJournal}

pub keeps_prop : (kept : Kept) (payloads : List (List ℕ)) → IsProp (KeepsJournal kept payloads)
keeps_prop kept payloads = hlevel props

pub told_keeps_prop : (told : Bool) (kept : Kept) (payloads : List (List ℕ)) → IsProp (IsTrue told → KeepsJournal kept payloads)
told_keeps_prop told kept payloads = hlevel (props, keeps_prop)
