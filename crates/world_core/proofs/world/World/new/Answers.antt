use Rattle.std.proofs.Common.{◌≡◌, sym, subst}
use Rattle.time_line.specs.Bounds.{AreLines}
use Rattle.world_spec.specs.Runs.{run_of}
use Rattle.world_step.specs.Steps.{Working}
use Rattle.world_core.proofs.Runs.{no_run}
use Rattle.world_core.proofs.world.World.new.Goals as goal

pub invariant_of-result : goal.invariant_of-result
invariant_of-result g c = λ going.
    subst (λ (x : Working). (x.doing.world ≡ run_of g.H.Hull.room x.doing.world.lines) × AreLines x.doing.world.lines) (sym c.new.ensures) (no_run g.H.Hull.room, tt)
