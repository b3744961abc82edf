use Rattle.std.proofs.Common.{◌≡◌, ◌++◌, take, drop}
use Rattle.xt_messages.specs.declared.file.Session.{Session}
use Rattle.xt_protocol.specs.Heads.{with_session}
use Rattle.replica_records.proofs.head.session_place.Given as goal

abbrev pub invariant-loop-place : goal.invariant-loop-place
invariant-loop-place l =
    (row : Session) → row.client.0 ≡ l.client.0 → with_session l.sessions row ≡ take l.place l.sessions ++ with_session (drop l.place l.sessions) row
