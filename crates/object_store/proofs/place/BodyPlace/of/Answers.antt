use Rattle.std.proofs.Common.{ap, length, arith}
use Rattle.replica_records.proofs.PayloadLength.{text_bound}
use Rattle.replica_records.proofs.BodyText.{body_shorter}
use Rattle.object_store.proofs.place.BodyPlace.of.Goals as goal

pub overflow_sub-before : goal.overflow_sub-before
overflow_sub-before c = omega (arith, ap length c.body_in-len.ensures, body_shorter c.args.rec.now, c.requires.whole)

pub overflow_add-before : goal.overflow_add-before
overflow_add-before c = omega (arith, (text_bound c.args.rec.now c.requires.fits).1, c.requires.whole)
