use Rattle.xt_fields.specs.BasicFields.{word_bytes}
use Rattle.xt_fields.proofs.Lengths.{written_over}
use Rattle.xt_fields.proofs.writer.put_front.Goals as goal

pub returns : goal.returns
unfolding word_bytes
returns c = rw c.to_be_bytes.ensures (written_over c.args.bytes.now _ _ _ _ c.requires)
