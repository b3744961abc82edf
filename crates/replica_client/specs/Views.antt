-- a client, as contracts see it, and how they say that what it does is a row
use Rattle.std.specs.Prelude.{ℕ, Bool, false, ◌≡◌, ◌==◌, ◌&&◌, Option, Some, None}
use Rattle.xt_base.specs.TimeSettings.{TimeSettings}
use Rattle.xt_base.specs.declared.ids.NodeId.{NodeId}
use Rattle.xt_messages.specs.declared.event.Outcome.{Outcome}
use Rattle.xt_protocol.specs.declared.turned.Turned.{Turned}
use Rattle.client_rows.specs.declared.RunningCall.{RunningCall}
use Rattle.client_rows.specs.declared.ClientState.{ClientState}
use Rattle.client_rows.specs.Steps.{Step, stays}
use Rattle.client_rows.specs.Clients.{ClientSite, was_tried}
use Rattle.client_rows.specs.Ends.{ended_by}

-- which node it is, the times that it goes by, its state, and how the call that ended last ended, until that is taken
pub record ClientView : Type 0 where
  pub node : NodeId
  pub times : TimeSettings
  pub state : ClientState
  pub ended : Option Outcome

-- the client at a moment
abbrev pub site_at : ClientView → ℕ → ClientSite
site_at client now = record { node = client.node; times = client.times; now = now }

-- its state once this is the clock that it used last
abbrev pub at_clock : ClientView → ℕ → ClientState
at_clock client now = record client.state { last = now }

-- what a client does at a clock is this row: it has the row's state then, and gives what the row gives
abbrev pub Acts : (ClientSite → ClientState → Step ClientState) → ℕ → ClientView → ClientView → Turned → Type 0
Acts row now old new turned =
    let step = row (site_at old now) (at_clock old now) in
    (new ≡ record old { state = step.state; ended = ended_by old.ended step.turned.marks }) × (turned ≡ step.turned)

-- a row of the running call; nothing comes of it where none runs
abbrev pub where_running : (RunningCall → Step ClientState) → ClientState → Option RunningCall → Step ClientState
where_running row client None = stays ClientState client
where_running row client (Some call) = row call

-- what a client does at a clock is this row of its running call
abbrev pub CallActs : (ClientSite → ClientState → RunningCall → Step ClientState) → ℕ → ClientView → ClientView → Turned → Type 0
CallActs row now old new turned = Acts (λ site client. where_running (row site client) client client.running) now old new turned

-- whether a reply of this number, from this node, is one that the running call waits for
abbrev pub awaits : Option RunningCall → NodeId → ℕ → Bool
awaits None from number = false
awaits (Some call) from number = number == call.number && was_tried call.tried from
