use Rattle.std.proofs.Common.{ℕ, ◌≤◌, ◌<◌, [], refl, subst}
use Rattle.xt_messages.specs.declared.status.Limited.TheVariants as limited
use Rattle.world_spec.specs.Lines.{declares, never_started}
use Rattle.world_spec.specs.NodeSteps.{Doing}
use Rattle.world_core.proofs.FirstSteps.{from_view, limit_said, same_untold, resting_refused, resting_declared}
use Rattle.world_core.proofs.state.State.declare.Goals as goal

pub returns-then-len-ge-NODES : goal.returns-then-len-ge-NODES
returns-then-len-ge-NODES g c = (
  limit_said _ _ (λ (d : Doing). declares d (never_started c.args.node c.args.role) []) limited.Nodes c.limit.result c.self.view_is c.limit.ensures
      (resting_refused _ c.args.node c.args.role (subst (λ (n : ℕ). 64 ≤ n) c.len.ensures c.if-len-ge-NODES.true)),
  same_untold c.args.self.now,
)

pub returns : goal.returns
returns g c =
    from_view _ _ _ (λ (d : Doing). declares d (never_started c.args.node c.args.role) []) c.self.view_is
    (resting_declared _ c.args.node c.args.role c.declare.new.self (subst (λ (n : ℕ). n < 64) c.len.ensures c.if-len-ge-NODES.false) c.in_ok-declare.ensures, record { rest = refl; lines = refl; ended = refl })
