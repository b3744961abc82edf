use Rattle.std.proofs.Common.{arith}
use Rattle.xt_frames.proofs.DecodingLaws.{is_found, is_read}
use Rattle.xt_frames.proofs.decoding.decode.Goals as goal

pub returns-clause-found : goal.returns-clause-found
returns-clause-found c = is_found c.args.bytes.now c.first_frame.result (λ i. omega (arith, c.type_inv.bytes i)) c.first_frame.ensures

pub returns-clause-only : goal.returns-clause-only
returns-clause-only c = is_read c.args.bytes.now c.first_frame.result c.first_frame.ensures
