-- Records can be rewritten with the bodies that heads name.
use Rattle.std.proofs.Common.{◌≡◌, List, sym, subst}
use Rattle.xt_messages.specs.declared.record.KeepBody.{KeepBody}
use Rattle.xt_messages.specs.declared.record.Record.{Record}
use Rattle.xt_protocol.specs.Folds.{fold_of}
use Rattle.xt_protocol.specs.Forgetting.{rewritten}
use Rattle.replica_records.specs.Heads.{heads_of}
use Rattle.object_store.specs.Texts.{AreRecords}
use Rattle.store_compact.specs.Rewriting.{HeadsNameThem, StayKept}

pub may_compact : HeadsNameThem → StayKept → (records : List Record) (keep : List KeepBody) → AreRecords records → keep ≡ heads_of (fold_of records) → AreRecords (rewritten keep records)
may_compact heads_name_them stay_kept records keep are is =
    let named = heads_of (fold_of records) in
    let made = stay_kept named records are (heads_name_them records are.placed) in
    subst (λ (k : List KeepBody). AreRecords (rewritten k records)) (sym is) made
