use Rattle.std.proofs.Common.{sym, ◌∙◌}
use Rattle.replica_records.proofs.HeadRows.{session_passed, session_here}
use Rattle.replica_records.proofs.head.session_place.Goals as goal

pub loop-place-preserved : goal.loop-place-preserved
loop-place-preserved c =
    λ row same.
    session_passed c.args.sessions.now row c.args.client.0 c.loop-place.place _ c.loop-place-test.true c.if-row-client.false c.if-row-client-2.false same
    (c.loop-place.invariant row same)

pub returns-then-row-client : goal.returns-then-row-client
returns-then-row-client c = (
  c.loop-place-test.true,
  λ row same.
      session_here c.args.sessions.now row c.loop-place.place _ c.loop-place-test.true (c.if-row-client.true ∙ sym same)
      (c.loop-place.invariant row same),
)
