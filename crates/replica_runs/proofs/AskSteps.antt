-- A file's asks stay within their limits.
use Rattle.std.proofs.Common.{ℕ, List, [], ◌∷◌, refl, sym, subst, inl, inr, Option, Some, None}
use Rattle.std.specs.List.{AllByRecursion}
use Rattle.xt_base.specs.declared.ids.NodeId.{NodeId}
use Rattle.xt_messages.specs.declared.file.Op.{Op}
use Rattle.xt_messages.specs.declared.message.Payload.{Payload}
use Rattle.xt_messages.specs.declared.message.Payload.TheVariants as payload
use Rattle.xt_protocol.specs.Asks.{no_asks}
use Rattle.xt_protocol.specs.FileStates.{FileState, Site, FileStep, and_then}
use Rattle.xt_protocol.specs.FileSteps.{step_of_file, wake_of_file}
use Rattle.xt_protocol.specs.Overdue.{expired}
use Rattle.xt_protocol.specs.declared.states.Asks.{Asks}
use Rattle.xt_protocol.specs.declared.states.IssuedAsk.{IssuedAsk}
use Rattle.xt_protocol.specs.declared.states.WaitingAsk.{WaitingAsk}
use Rattle.osd_invariants.specs.OpenAsks.{AskIs, AsksAre, IssuedIs}
use Rattle.osd_invariants.proofs.OpenAsks.{none_are, expired_are, step_are, wake_are}
use Rattle.replica_safety.specs.Lists.{Has}
use Rattle.replica_runs.specs.AskFits.{AskFits, AsksFit, IssuedAskFits}
use Rattle.replica_runs.specs.FileView.{AskComes}

module _ (stripe : ℕ) (ops : ℕ × ℕ → Op) where
  abbrev Fit : WaitingAsk → Type 0
  Fit ask = AskFits stripe ops ask

  -- of each that is among these, or of these one by one
  one_by_one : (ws : List WaitingAsk) → ((w : WaitingAsk) → Has w ws → Fit w) → AllByRecursion Fit ws
  one_by_one [] of = tt
  one_by_one (w ∷ ws) of = (of w (inl refl), one_by_one ws (λ x h. of x (inr h)))

  each_of : (ws : List WaitingAsk) → AllByRecursion Fit ws → (w : WaitingAsk) → Has w ws → Fit w
  each_of [] all w h = absurd h
  each_of (x ∷ ws) all w (inl p) = subst Fit (sym p) all.0
  each_of (x ∷ ws) all w (inr h) = each_of ws all.1 w h

  issued_is : (o : Option IssuedAsk) → IssuedAskFits stripe ops o → IssuedIs Fit o
  issued_is None fit = tt
  issued_is (Some i) fit = fit

  issued_fit : (o : Option IssuedAsk) → IssuedIs Fit o → IssuedAskFits stripe ops o
  issued_fit None is = tt
  issued_fit (Some i) is = is

  asks_are : (asks : Asks) → AsksFit stripe ops asks → AsksAre Fit asks
  asks_are asks fit = record { waiting = one_by_one asks.waiting fit.waiting; issued = issued_is asks.issued fit.issued }

  asks_fit : (asks : Asks) → AsksAre Fit asks → AsksFit stripe ops asks
  asks_fit asks are = record { waiting = each_of asks.waiting are.waiting; issued = issued_fit asks.issued are.issued }

  known : (members : List ℕ) (from : NodeId) (content : Payload) → AskComes stripe ops members from content → AskIs Fit from content
  known members from (payload.Ask number capability asked) comes = comes.1
  known members from content comes = tt

  pub none_fit : AsksFit stripe ops no_asks
  none_fit = asks_fit no_asks (none_are Fit)

  module _ (site : Site) where
    abbrev Stay : FileStep → Type 0
    Stay step = AsksFit stripe ops step.state.asks

    pub expired_fit : (s : FileState) → AsksFit stripe ops s.asks → Stay (expired site s)
    expired_fit s fit = asks_fit (expired site s).state.asks (expired_are Fit site s (asks_are s.asks fit))

    pub step_fit : (members : List ℕ) (s : FileState) (from : NodeId) (content : Payload) → AsksFit stripe ops s.asks → AskComes stripe ops members from content → Stay (step_of_file site s from content)
    step_fit members s from content fit comes =
        asks_fit (step_of_file site s from content).state.asks (step_are Fit site s from content (asks_are s.asks fit) (known members from content comes))

    pub wake_fit : (s : FileState) → AsksFit stripe ops s.asks → Stay (and_then (expired site s) (wake_of_file site))
    wake_fit s fit = asks_fit (wake_of_file site (expired site s).state).state.asks (wake_are Fit site (expired site s).state (expired_are Fit site s (asks_are s.asks fit)))
