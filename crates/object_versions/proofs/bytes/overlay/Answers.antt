use Rattle.std.proofs.Common.{ap, length, arith}
use Rattle.object_versions.proofs.WholeBodies.{all_written}
use Rattle.object_versions.proofs.bytes.overlay.Goals as goal

-- src/bytes.rt:50:9
pub returns-then-as_slice : goal.returns-then-as_slice
returns-then-as_slice c =
    all_written c.copy.result c.args.old.now c.args.new.now c.args.at c.if-at-eq0.true
    (omega (arith, c.if-as_slice.true, ap length c.as_slice.ensures, ap length c.as_slice-then-at-eq0.ensures)) c.copy.ensures
