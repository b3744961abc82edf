use Rattle.std.proofs.Common.{refl}
use Rattle.replica_records.proofs.AfterUpdate.{follows}
use Rattle.replica_records.proofs.order.follows_fitting.Goals as goal

pub returns-then-is_next : goal.returns-then-is_next
returns-then-is_next c =
    let same = follows c.args.head.now c.args.update.now c.requires.lists c.requires.fits (c.if-is_next.ensures.0 refl) in
    (λ yes. same.0 (c.has_room.ensures.0 yes), λ is. c.has_room.ensures.1 (same.1 is))
