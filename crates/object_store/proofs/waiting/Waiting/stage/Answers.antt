use Rattle.std.proofs.Common.{arith}
use Rattle.object_store.proofs.Waited.{AreWaiting, are_after, stages}
use Rattle.object_store.proofs.waiting.Waiting.stage.Goals as goal

pub invariant_of-self : goal.invariant_of-self
invariant_of-self g c =
    let old = c.args.self.now in
    let new = c.add.new.bytes in
    let was : AreWaiting old.bytes.items old.log = record { written = old.written; laid = old.laid; fit = old.fit } in
    let are =
    are_after {g = g.D.Disk} c.args.store.now c.args.rec.now old.bytes.items new.items old.log c.add.new.log c.add.result was c.requires.fits
    (omega (arith, new.ok.0, new.ok.1, new.small)) c.add.ensures in
    record { written = are.written; laid = are.laid; fit = are.fit }

pub returns : goal.returns
returns g c =
    let new = c.add.new.bytes in
    stages {g = g.D.Disk} c.args.store.now c.args.self.now _ c.args.rec.now c.add.result c.requires.fits c.requires.others c.requires.placed
    (omega (arith, new.ok.0, new.ok.1, new.small)) c.add.ensures
