use Rattle.std.proofs.Common.{[], sym, subst}
use Rattle.world_limits.specs.Fits.{FitsWorld}
use Rattle.world_limits.proofs.Coming.{delivered}
use Rattle.world_step.specs.Steps.{Working}
use Rattle.world_core.proofs.state.State.settle.Goals as goal

pub deliver-requires-clause-fits : goal.deliver-requires-clause-fits
deliver-requires-clause-fits g c =
    delivered _ [] c.in-Some.number (subst (λ (x : Working). FitsWorld x.doing.world []) (sym c.self.view_is) c.requires.fits)
