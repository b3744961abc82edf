use Rattle.std.proofs.Common.{arith}
use Rattle.replica_records.proofs.RecordLaws.{is_found, is_read}
use Rattle.replica_records.proofs.payload.read_record.Goals as goal

pub returns-clause-found : goal.returns-clause-found
returns-clause-found c = is_found c.args.bytes.now c.whole_record.result (λ i. omega (arith, c.type_inv.bytes i)) c.whole_record.ensures

pub returns-clause-only : goal.returns-clause-only
returns-clause-only c = is_read c.args.bytes.now c.whole_record.result c.whole_record.ensures
