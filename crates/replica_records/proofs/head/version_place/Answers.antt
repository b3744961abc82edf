use Rattle.replica_records.proofs.HeadRows.{version_passed, version_here}
use Rattle.replica_records.proofs.head.version_place.Goals as goal

pub loop-place-preserved : goal.loop-place-preserved
loop-place-preserved c =
    λ version.
    version_passed c.args.versions.now c.args.object version c.loop-place.place _ c.loop-place-test.true c.if-row-object.false c.if-row-object-2.false
    (c.loop-place.invariant version)

pub returns-then-row-object : goal.returns-then-row-object
returns-then-row-object c = (
  c.loop-place-test.true,
  λ row same.
      version_here c.args.versions.now c.args.object c.loop-place.place row _ c.loop-place-test.true c.if-row-object.true same
      (c.loop-place.invariant row.version),
)
