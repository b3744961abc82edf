-- what a client sends fits, and in a rest the call may be made again
use Rattle.std.proofs.Common.{ℕ, List, ◌≡◌, sym, ap, subst}
use Rattle.std.specs.List.{All}
use Rattle.std.proofs.lemmas.List.Elements.{All-from_recursion}
use Rattle.xt_messages.specs.Limits.{FitsNode, FitsMessage, FitsEvent}
use Rattle.xt_messages.specs.declared.message.Msg.{Msg}
use Rattle.xt_messages.specs.declared.event.Event.{Event}
use Rattle.xt_messages.specs.declared.event.Call.{Call}
use Rattle.client_core.specs.Views.{ClientView}
use Rattle.client_rows.specs.Rows as rows
use Rattle.client_limits.specs.Fits.{FitsCall, FitsClient}
use Rattle.client_limits.proofs.Limits.{again_fits, called_fits, stepped_fits}

module _ (c new : ClientView) (now : ℕ) (who : FitsNode c.node) (is : FitsClient c.state) where
  pub outs_of_call : (asked : Call) (outs : List Msg) → FitsCall asked
      → outs ≡ (rows.called c.node c.times c.state now asked).turned.outs → All FitsMessage outs
  outs_of_call asked outs fits e =
      subst (All FitsMessage) (sym e) (All-from_recursion FitsMessage _ (called_fits c.node c.times c.state now asked who is fits).messages)

  pub client_of_call : (asked : Call) → FitsCall asked
      → new ≡ record c { state = (rows.called c.node c.times c.state now asked).state } → FitsClient new.state
  client_of_call asked fits e =
      subst FitsClient (sym (ap (λ (x : ClientView). x.state) e)) (called_fits c.node c.times c.state now asked who is fits).client

  pub outs_of_again : (outs : List Msg) → outs ≡ (rows.called_again c.node c.times c.state now).turned.outs → All FitsMessage outs
  outs_of_again outs e =
      subst (All FitsMessage) (sym e) (All-from_recursion FitsMessage _ (again_fits c.node c.times c.state now who is).messages)

  pub client_of_again : new ≡ record c { state = (rows.called_again c.node c.times c.state now).state } → FitsClient new.state
  client_of_again e = subst FitsClient (sym (ap (λ (x : ClientView). x.state) e)) (again_fits c.node c.times c.state now who is).client

  pub outs_of_step : (happens : Event) (outs : List Msg) → FitsEvent happens
      → outs ≡ (rows.stepped c.node c.times c.state now happens).turned.outs → All FitsMessage outs
  outs_of_step happens outs fits e =
      subst (All FitsMessage) (sym e) (All-from_recursion FitsMessage _ (stepped_fits c.node c.times c.state now happens who is fits).messages)

  pub client_of_step : (happens : Event) → FitsEvent happens
      → new ≡ record c { state = (rows.stepped c.node c.times c.state now happens).state } → FitsClient new.state
  client_of_step happens fits e =
      subst FitsClient (sym (ap (λ (x : ClientView). x.state) e)) (stepped_fits c.node c.times c.state now happens who is fits).client
