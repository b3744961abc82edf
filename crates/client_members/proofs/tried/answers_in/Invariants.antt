use Rattle.std.proofs.Common.{◌≡◌, take}
use Rattle.client_rows.specs.Clients.{answers_in}
use Rattle.client_members.proofs.tried.answers_in.Given as goal

abbrev pub invariant-loop-node : goal.invariant-loop-node
invariant-loop-node l = l.answers ≡ answers_in l.tried (take l.node-index l.members)
