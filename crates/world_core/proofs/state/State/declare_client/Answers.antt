use Rattle.std.proofs.Common.{refl}
use Rattle.world_spec.specs.Lines.{first_step}
use Rattle.world_spec.specs.NodeSteps.{Doing}
use Rattle.time_line.specs.declared.line.Line.TheVariants as line
use Rattle.world_core.proofs.FirstSteps.{from_view, limit_said, same_untold, client_refused, client_declared}
use Rattle.std.proofs.Common.{ℕ, ◌≤◌, ◌<◌, subst}
use Rattle.xt_messages.specs.declared.status.Limited.TheVariants as limited
use Rattle.world_core.proofs.state.State.declare_client.Goals as goal

pub returns-then-len-ge-NODES : goal.returns-then-len-ge-NODES
returns-then-len-ge-NODES g c = (
  limit_said _ _ (λ (d : Doing). first_step g.H.Hull.room d (line.Client c.args.node c.args.clock)) limited.Nodes c.limit.result c.self.view_is c.limit.ensures
      (client_refused g.H.Hull.room _ c.args.node c.args.clock (subst (λ (n : ℕ). 64 ≤ n) c.len.ensures c.if-len-ge-NODES.true)),
  same_untold c.args.self.now,
)

pub returns : goal.returns
returns g c =
    from_view _ _ _ (λ (d : Doing). first_step g.H.Hull.room d (line.Client c.args.node c.args.clock)) c.self.view_is
    (client_declared g.H.Hull.room _ c.args.node c.args.clock c.declare_client.new.self _ (subst (λ (n : ℕ). n < 64) c.len.ensures c.if-len-ge-NODES.false) c.in_ok-declare_client.ensures c.in_ok-tell.ensures.items, record { rest = refl; lines = refl; ended = refl })
