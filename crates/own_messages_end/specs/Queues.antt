-- an OSD that keeps its records and forgets what it doesn't need, with its messages to itself that it hasn't handled
use Rattle.std.specs.Prelude.{ℕ, ◌≡◌, ◌<◌, ◌≤◌, ◌^◌, ◌==◌, Bool, false, List, [], ◌∷◌, ◌++◌, suc}
use Rattle.xt_base.specs.TimeSettings.{AreTimes}
use Rattle.xt_base.specs.declared.ids.NodeId.{NodeId}
use Rattle.xt_messages.specs.declared.file.Capability.{Capability}
use Rattle.xt_messages.specs.declared.event.Event.{Event}
use Rattle.xt_messages.specs.declared.event.Event.TheVariants as event
use Rattle.xt_messages.specs.declared.message.Msg.{Msg}
use Rattle.xt_messages.specs.declared.record.Record.{Record}
use Rattle.xt_messages.specs.declared.record.Record.TheVariants as kept
use Rattle.xt_messages.specs.Limits.{FitsEvent}
use Rattle.xt_protocol.specs.Folds.{fold_of}
use Rattle.xt_protocol.specs.Forgetting.{keep_of, osd_without, rewritten}
use Rattle.xt_protocol.specs.LeaseRows.{Silent}
use Rattle.xt_protocol.specs.OsdSteps.{OsdState, OsdStep, osd_from, step_of_osd}
use Rattle.world_spec.specs.NodeSteps.{one_more, to_itself}
use Rattle.world_limits.specs.Fits.{FitsKept}
use Rattle.world_limits.specs.States.{outside_by}

-- An OSD: its state, the records that it keeps, and its messages to itself that it hasn't handled, first in first out.
pub record Working : Type 0 where
  pub osd : OsdState
  pub kept : List Record
  pub own : List Msg

-- the record of a step is kept, and its messages to itself wait after the others
abbrev pub after_step : Working → OsdStep → Working
after_step w step =
    record { osd = step.osd; kept = one_more w.kept step.turned.rec; own = w.own ++ to_itself w.osd.started.node step.turned.outs }

-- it forgets what it doesn't need, and its records are rewritten
abbrev pub forgotten : Working → Working
forgotten w = record { osd = osd_without (keep_of w.osd) w.osd; kept = rewritten (keep_of w.osd) w.kept; own = w.own }

-- what it does while it has messages to itself: it handles the first one, or it forgets
pub data Move : Type 0 where
  handle : Move
  forget : Move

-- how many of these handle a message
unfoldable pub handled : List Move → ℕ
handled [] = 0
handled (handle ∷ moves) = suc (handled moves)
handled (forget ∷ moves) = handled moves

module _ (sealed : Capability → Bool) where
  -- it handles an event at a reading of its clock; these capabilities pass
  abbrev pub handles : Working → ℕ → Event → Working
  handles w reading happens = after_step w (step_of_osd (outside_by sealed w.kept) w.osd reading happens)

  -- it handles the first of its messages to itself, where there is one
  abbrev pub handles_first : ℕ → Working → List Msg → Working
  handles_first reading w [] = w
  handles_first reading w (m ∷ rest) = handles (record w { own = rest }) reading (event.Deliver m)

  -- and so on, at one reading of the clock
  unfoldable pub goes_on : ℕ → List Move → Working → Working
  goes_on reading [] w = w
  goes_on reading (handle ∷ moves) w = goes_on reading moves (handles_first reading w w.own)
  goes_on reading (forget ∷ moves) w = goes_on reading moves (forgotten w)

  -- Once it has handled so many of them none is left, wherever it forgets in between.
  abbrev pub AreEnough : ℕ → ℕ → Working → Type 0
  AreEnough reading k w = (moves : List Move) → k ≤ handled moves → (goes_on reading moves w).own ≡ []

-- an event from outside: a Wake, or a message that doesn't say that the node itself has sent it
abbrev pub IsOutside : NodeId → Event → Type 0
IsOutside node (event.Deliver m) = (m.from.0 == node.0) ≡ false
IsOutside node _ = Unit {0}

-- What an OSD can reach: it starts from records that fit, and keeps its boot; then events come to it from outside, whatever they
-- hold within the limits, each when it has no message to itself left; it handles its messages to itself; and it forgets at any time.
pub data Reaches (sealed : Capability → Bool) : Working → Type 0 where
  starts : (records : List Record) (silent : Silent) → FitsKept records → silent.node.0 < 2 ^ 32 → silent.boot.0 < 2 ^ 62
      → AreTimes silent.times.lease silent.times.drift → silent.start < 2 ^ 62
      → Reaches sealed (record { osd = osd_from silent (fold_of records).files; kept = records ++ kept.Boot silent.boot ∷ []; own = [] })
  meets : (w : Working) (reading : ℕ) (happens : Event) → Reaches sealed w → w.own ≡ [] → reading < 2 ^ 62 → FitsEvent happens
      → IsOutside w.osd.started.node happens → Reaches sealed (handles sealed w reading happens)
  tells_itself : (w : Working) (reading : ℕ) (m : Msg) (rest : List Msg) → Reaches sealed w → w.own ≡ m ∷ rest → reading < 2 ^ 62
      → Reaches sealed (handles sealed (record w { own = rest }) reading (event.Deliver m))
  forgets : (w : Working) → Reaches sealed w → Reaches sealed (forgotten w)
