-- a record's text ends with its body
use Rattle.std.proofs.Common.{◌≡◌, ◌≤◌, ◌-◌, length, drop, ap, ◌∙◌, arith, length-append}
use Rattle.std.proofs.lemmas.List.{drop_at}
use Rattle.xt_messages.specs.declared.record.Record.{Record}
use Rattle.replica_records.specs.Bare.{body_in}
use Rattle.replica_records.specs.Fronts.{front_text}
use Rattle.replica_records.specs.RecordText.{record_text}
use Rattle.replica_records.proofs.FrontText.{front_and_own}

pub body_shorter : (rec : Record) → length (body_in rec) ≤ length (record_text rec)
body_shorter rec = omega (arith, ap length (front_and_own rec), length-append (front_text (length (body_in rec)) rec) (body_in rec))

-- its last bytes are the body
pub body_last : (rec : Record) → drop (length (record_text rec) - length (body_in rec)) (record_text rec) ≡ body_in rec
body_last rec =
    let front = front_text (length (body_in rec)) rec in
    let before : length front ≡ length (record_text rec) - length (body_in rec) = omega (arith, ap length (front_and_own rec), length-append front (body_in rec)) in
    ap (drop (length (record_text rec) - length (body_in rec))) (front_and_own rec) ∙ drop_at front (body_in rec) (length (record_text rec) - length (body_in rec)) before
