use Rattle.std.proofs.Common.{◌+◌, ap, arith, drop}
use Rattle.journal_moves.specs.Gathering.{size_of_area}
use Rattle.journal_moves.proofs.Areas.{area_some, fits, next}
use Rattle.journal_moves.proofs.area.size_of.Goals as goal

pub len-requires : goal.len-requires
len-requires c = omega (arith, c.requires, fits c.args.payloads.now c.loop-payload.payload-index c.payload-item.result c.loop-payload-test.true c.payload-item.is)

pub overflow_add-len : goal.overflow_add-len
overflow_add-len c = omega (arith, c.requires, c.len.ensures, fits c.args.payloads.now c.loop-payload.payload-index c.payload-item.result c.loop-payload-test.true c.payload-item.is)

pub returns-in-None : goal.returns-in-None
returns-in-None c =
    let i = c.loop-payload.payload-index in
    omega (
      arith,
      c.in-None.ensures,
      c.len.ensures,
      c.loop-payload.invariant,
      ap size_of_area (next c.args.payloads.now i c.payload-item.result c.loop-payload-test.true c.payload-item.is),
      area_some (drop (i + 1) c.args.payloads.now),
    )
