-- how asks that wait are served after a row of the primary, and what a call on a file does then
use Rattle.std.specs.Prelude.{Bool, ◌≡◌, ◌&&◌, not, if◌then◌else◌, List}
use Rattle.xt_messages.specs.declared.file.FileHead.{FileHead}
use Rattle.xt_messages.specs.declared.file.ObjectVersion.{ObjectVersion}
use Rattle.xt_messages.specs.declared.record.Record.{Record}
use Rattle.xt_protocol.specs.declared.turned.Turned.{Turned}
use Rattle.xt_protocol.specs.declared.states.Asks.{Asks}
use Rattle.xt_protocol.specs.declared.states.PrimaryState.{PrimaryState}
use Rattle.xt_protocol.specs.declared.states.WaitingAsk.{WaitingAsk}
use Rattle.xt_protocol.specs.Turns.{quiet, joined}
use Rattle.xt_protocol.specs.Primaries.{Ground, is_ready}
use Rattle.xt_protocol.specs.Asks.{Served, asks_behind, serves_all, serves_waiting}
use Rattle.xt_protocol.specs.FileStates.{stripe_of}
use Rattle.replica_primary.specs.Written.{ground}
use Rattle.osd_files.specs.Views.{FileView}

-- the ground of the file's primary over the bodies of these records, by this head and these held versions of its replica
abbrev pub ground_at : FileView → List Record → FileHead → List ObjectVersion → Ground
ground_at v records own held = ground (record { node = v.awake.node; file = v.state.kept.file; stripe = stripe_of v.state.kept.location }) records own held

-- the primary and the asks of a file, and what was given
abbrev pub served_in : FileView → Turned → Served
served_in v turned = record { primary = v.state.primary; asks = v.state.asks; turned = turned }

-- all but the primary and the asks is as it was
abbrev pub OnlyServes : FileView → FileView → Type 0
OnlyServes old new = new ≡ record old { state = record old.state { primary = new.state.primary; asks = new.state.asks } }

-- A waiting ask was served, or stays, as its row says, whatever was given before. The row doesn't look at the own replica.
pub record ServesOne (ask : WaitingAsk) (records : List Record) (old new : FileView) (turned : Turned) : Type 0 where
  pub rest : OnlyServes old new
  pub step : (before : Turned) (own : FileHead) (held : List ObjectVersion)
      → served_in new (joined before turned) ≡ serves_waiting (ground_at old records own held) (served_in old before) ask

-- the same after what was given before
pub record ServesNext (ask : WaitingAsk) (before : Turned) (records : List Record) (old new : FileView) (turned : Turned) : Type 0 where
  pub rest : OnlyServes old new
  pub step : (own : FileHead) (held : List ObjectVersion)
      → served_in new turned ≡ serves_waiting (ground_at old records own held) (served_in old before) ask

-- All waiting asks were served, in order.
pub record ServesAll (records : List Record) (old new : FileView) (turned : Turned) : Type 0 where
  pub rest : OnlyServes old new
  pub step : (own : FileHead) (held : List ObjectVersion)
      → served_in new turned ≡ serves_all (ground_at old records own held) old.state.primary old.state.asks.waiting

-- The asks wait on after the primary, and nothing is given.
pub record AsksWait (old new : FileView) (turned : Turned) : Type 0 where
  pub rest : OnlyServes old new
  pub step : served_in new turned ≡ record { primary = old.state.primary; asks = asks_behind old.state.primary.tenure old.state.asks; turned = quiet }

-- the asks after a primary that was ready before or wasn't: where it has become ready they are served
abbrev pub asks_after : Ground → Bool → PrimaryState → Asks → Served
asks_after g was_ready p asks =
    if is_ready p.tenure && not was_ready then serves_all g p asks.waiting
    else record { primary = p; asks = asks_behind p.tenure asks; turned = quiet }

-- The asks follow a row of the primary.
pub record AsksFollow (was_ready : Bool) (records : List Record) (old new : FileView) (turned : Turned) : Type 0 where
  pub rest : OnlyServes old new
  pub step : (own : FileHead) (held : List ObjectVersion)
      → served_in new turned ≡ asks_after (ground_at old records own held) was_ready old.state.primary old.state.asks
