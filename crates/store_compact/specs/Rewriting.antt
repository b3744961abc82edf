-- when rewritten records can take the place of the old ones
use Rattle.std.specs.Prelude.{List}
use Rattle.xt_messages.specs.declared.record.KeepBody.{KeepBody}
use Rattle.xt_messages.specs.declared.record.Record.{Record}
use Rattle.xt_protocol.specs.Folds.{nothing_kept, fold_of, AreInPlace}
use Rattle.xt_protocol.specs.Forgetting.{rewritten}
use Rattle.forgetting.specs.Rewritten.{NamedAreKept}
use Rattle.replica_records.specs.Heads.{heads_of}
use Rattle.object_store.specs.Texts.{AreRecords}

-- Records that are each within their limits and in their place are rewritten to such records, where no version that a head names is forgotten.
abbrev pub StayKept : Type 0
StayKept =
    (keep : List KeepBody) (records : List Record) → AreRecords records → NamedAreKept keep (fold_of records).files
    → AreRecords (rewritten keep records)

-- With the bodies that the heads name none of these is forgotten.
abbrev pub HeadsNameThem : Type 0
HeadsNameThem =
    (records : List Record) → AreInPlace nothing_kept records → NamedAreKept (heads_of (fold_of records)) (fold_of records).files
