-- a client, as contracts see it, and how they say that what it does is a row
use Rattle.std.specs.Prelude.{ℕ, ◌≡◌, Option, Some, None}
use Rattle.xt_base.specs.TimeSettings.{TimeSettings}
use Rattle.xt_base.specs.declared.ids.NodeId.{NodeId}
use Rattle.xt_protocol.specs.declared.turned.Turned.{Turned}
use Rattle.client_rows.specs.declared.ClientState.{ClientState}
use Rattle.client_rows.specs.Steps.{Step, stays}
use Rattle.client_rows.specs.Clients.{ClientSite}
use Rattle.replica_client.specs.Views as replica
use Rattle.client_rows.specs.declared.requests.MadeCall.{MadeCall}
use Rattle.client_rows.specs.Rows.{WholeClient, at_clock}

-- which node it is, the times that it goes by, and its state
pub record ClientView : Type 0 where
  pub node : NodeId
  pub times : TimeSettings
  pub state : WholeClient

-- the client at a moment
abbrev pub site_at : ClientView → ℕ → ClientSite
site_at client now = record { node = client.node; times = client.times; now = now }

-- what a client does is this step: it has the step's state then, and gives what the step gives
abbrev pub Does : Step WholeClient → ClientView → ClientView → Turned → Type 0
Does step old new turned = (new ≡ record old { state = step.state }) × (turned ≡ step.turned)

-- what a client does at a clock is this row
abbrev pub Acts : (ClientSite → WholeClient → Step WholeClient) → ℕ → ClientView → ClientView → Turned → Type 0
Acts row now old new turned = Does (row (site_at old now) (at_clock old.state now)) old new turned

-- a row of the last call; nothing comes of it where none was made
abbrev pub where_made : (MadeCall → Step WholeClient) → WholeClient → Option MadeCall → Step WholeClient
where_made row client None = stays WholeClient client
where_made row client (Some made) = row made

-- what a client does at a clock is this row of its last call
abbrev pub CallActs : (ClientSite → WholeClient → MadeCall → Step WholeClient) → ℕ → ClientView → ClientView → Turned → Type 0
CallActs row now old new turned = Acts (λ site client. where_made (row site client) client client.made) now old new turned

-- what the calls on replicated files do is this step
abbrev pub Starts : Step ClientState → replica.ClientView → replica.ClientView → Turned → Type 0
Starts step old new turned = (new ≡ record old { state = step.state }) × (turned ≡ step.turned)
