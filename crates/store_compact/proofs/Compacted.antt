-- what is known of rewritten records
use Rattle.std.proofs.Common.{◌≡◌, Bool, List, ◌∙◌, ap}
use Rattle.xt_messages.specs.declared.record.KeepBody.{KeepBody}
use Rattle.xt_messages.specs.declared.record.Record.{Record}
use Rattle.xt_protocol.specs.Forgetting.{rewritten}
use Rattle.replica_records.specs.Known.{known_of}
use Rattle.replica_records.proofs.Known.{rewritten_known}

-- they are known as much as the old ones
pub rewritten_same : (told : Bool) (keep : List KeepBody) (records : List Record) → known_of told records ≡ records → known_of told (rewritten keep records) ≡ rewritten keep records
rewritten_same told keep records known = rewritten_known told keep records ∙ ap (rewritten keep) known
