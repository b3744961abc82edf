use Rattle.std.proofs.Common.{◌≡◌, ◌++◌, take}
use Rattle.world_spec.specs.NodeSteps.{numbered}
use Rattle.world_step.proofs.stepper.send.Given as goal

abbrev pub invariant-loop-message : goal.invariant-loop-message
invariant-loop-message g l =
    record {
      sent : l.sent ≡ l.initial.sent ++ numbered l.initial.nodes.nodes l.node (take l.message-index l.outs);
      same : l.nodes ≡ l.initial.nodes;
    }
