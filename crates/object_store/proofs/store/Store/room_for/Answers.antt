use Rattle.std.proofs.Common.{arith}
use Rattle.object_store.proofs.store.Store.room_for.Goals as goal

pub returns-in-Ok-clause-room : goal.returns-in-Ok-clause-room
returns-in-Ok-clause-room g c = omega (arith, c.in-Ok.ensures.0, c.in-Ok.ensures.1, c.in-Ok.ensures.2, c.saturating_add-len.ensures)

pub returns-in-Err-clause-full : goal.returns-in-Err-clause-full
returns-in-Err-clause-full g c = record {
  over = omega (arith, c.in-Err.ensures.1, c.saturating_add-len.ensures);
  need_is = omega (arith, c.in-Err.ensures.0, c.saturating_add-len.ensures);
  limit_is = c.limit.ensures;
}
