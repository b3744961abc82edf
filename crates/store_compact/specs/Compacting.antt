-- what a compaction does
use Rattle.std.specs.Prelude.{◌≡◌, List, Result}
use Rattle.disk_model.specs.declared.disk.Disk.{Ghosts}
use Rattle.xt_messages.specs.declared.record.KeepBody.{KeepBody}
use Rattle.xt_messages.specs.declared.record.Record.{Record}
use Rattle.xt_protocol.specs.Forgetting.{rewritten}
use Rattle.replica_records.specs.Known.{known_of}
use Rattle.object_store.specs.declared.store.Store.{Store}
use Rattle.object_store.specs.declared.errors.AppendErr.{AppendErr}
use Rattle.object_store.specs.Access.{records_of}
use Rattle.object_store.specs.Swaps.{Swaps}

-- The store's records are swapped for others, of which so much is known: they are its records, rewritten with these bodies.
pub record IsCompacted {D : Type 0} {g : Ghosts D} (keep : List KeepBody) (store : Store D g) (result : Result (Store D g) (AppendErr D g)) : Type 0 where
  pub made : List Record
  pub known : known_of g.is_told made ≡ rewritten keep (records_of store)
  pub swaps : Swaps store made result
