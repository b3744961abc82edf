use Rattle.std.proofs.Common.{◌≡◌, ◌*◌}
use Rattle.world_spec.specs.Lines.{goes_on, steps}
use Rattle.world_step.specs.Steps.{WentOn}
use Rattle.world_core.proofs.state.State.run.Given as goal

abbrev pub invariant-loop-event : goal.invariant-loop-event
invariant-loop-event g l =
    record {
      came : steps (l.event * l.count) g.H.Hull.room (goes_on l.initial.self.doing) ≡ goes_on l.self.doing;
      went_on : WentOn l.initial.self l.self;
    }
