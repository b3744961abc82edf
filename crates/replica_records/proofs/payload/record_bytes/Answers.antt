use Rattle.std.proofs.Common.{◌≡◌, ◌∙◌, ◌++◌, ap, length, arith}
use Rattle.replica_records.specs.RecordText.{record_text}
use Rattle.replica_records.proofs.PayloadLength.{text_bound}
use Rattle.replica_records.proofs.payload.record_bytes.Goals as goal

pub returns-clause-short : goal.returns-clause-short
returns-clause-short c =
    let is : c.in_ok-made.made ≡ record_text c.args.rec.now = c.in_ok-made.ensures ∙ c.in_ok-put_record.ensures ∙ ap (λ t. t ++ record_text c.args.rec.now) c.in_ok-writer.ensures in
    omega (arith, ap length is, (text_bound c.args.rec.now c.requires).1)
