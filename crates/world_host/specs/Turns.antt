-- what comes of a node that an event or a call comes to
use Rattle.std.specs.Prelude.{ℕ, ◌≡◌, Option, Some, None, List}
use Rattle.xt_base.specs.TimeSettings.{TimeSettings}
use Rattle.xt_base.specs.declared.ids.NodeId.{NodeId}
use Rattle.xt_messages.specs.declared.event.Call.{Call}
use Rattle.xt_messages.specs.declared.event.Event.{Event}
use Rattle.xt_messages.specs.declared.record.Record.{Record}
use Rattle.xt_protocol.specs.declared.turned.Turned.{Turned}
use Rattle.client_rows.specs.Steps.{Step}
use Rattle.client_rows.specs.Rows.{WholeClient, called, called_again}
use Rattle.world_spec.specs.declared.PlacedFile.{PlacedFile}
use Rattle.world_spec.specs.World.{Running, Core, osd, client, mrc, dir}
use Rattle.world_spec.specs.NodeSteps.{core_step, client_steps}
use Rattle.world_spec.specs.Lines.{about_to_use}
use Rattle.world_host.specs.declared.running.Moment.{Moment}
use Rattle.world_host.specs.Hosts.{HostView, node_with}

-- the step of a client's call, at a clock; of a file that a schedule declares it is given the capability first
abbrev pub call_step : HostView → ℕ → WholeClient → Call → Option PlacedFile → Step Core
call_step host clock state c declared = client_steps (called host.id host.times (about_to_use state c declared) clock c)

-- the step of a client's last call once more, at a clock
abbrev pub again_step : HostView → ℕ → WholeClient → Step Core
again_step host clock state = client_steps (called_again host.id host.times state clock)

-- A core took this step at every node that it may be of.
abbrev pub IsCoreStep : {C : Type 0} → (C → Core) → (NodeId → TimeSettings → C → Type 0) → (HostView → Step Core) → C → C → Turned → Type 0
IsCoreStep state is_of step old new turned =
    (host : HostView) → is_of host.id host.times old
    → (step host ≡ record { state = state new; turned = turned }) × is_of host.id host.times new

-- no client runs there
abbrev pub IsNoClient : Core → Type 0
IsNoClient (osd state) = Unit {0}
IsNoClient (client state) = ⊥
IsNoClient (mrc state) = Unit {0}
IsNoClient (dir state) = Unit {0}

-- A client took this step from its state; any other node took none.
abbrev pub IsClientStep : {C : Type 0} → (C → Core) → (NodeId → TimeSettings → C → Type 0) → (HostView → WholeClient → Step Core) → C → C → Option Turned → Type 0
IsClientStep state is_of step old new None = IsNoClient (state old) × (new ≡ old)
IsClientStep state is_of step old new (Some turned) =
    (its : WholeClient) × (state old ≡ client its) × IsCoreStep state is_of (λ host. step host its) old new turned

-- a client's call, if it is one
abbrev pub IsCoreCall : {C : Type 0} → (C → Core) → (NodeId → TimeSettings → C → Type 0) → ℕ → Call → Option PlacedFile → C → C → Option Turned → Type 0
IsCoreCall state is_of clock c declared old new turned =
    IsClientStep state is_of (λ host its. call_step host clock its c declared) old new turned

-- a client's last call once more, if it is one
abbrev pub IsCoreCallAgain : {C : Type 0} → (C → Core) → (NodeId → TimeSettings → C → Type 0) → ℕ → C → C → Option Turned → Type 0
IsCoreCallAgain state is_of clock old new turned = IsClientStep state is_of (λ host its. again_step host clock its) old new turned

-- A running node took this step, which left it this core.
abbrev pub Took : HostView → Running → Step Core → HostView → Turned → Type 0
Took old running step new turned =
    (old.up ≡ Some running) × (new ≡ record old { up = Some (record running { core = step.state }) }) × (turned ≡ step.turned)

-- An event came to a node, which keeps these records; one that doesn't run took no step.
abbrev pub Handles : List Record → Event → HostView → HostView → Option Turned → Type 0
Handles kept happens old new None = (old.up ≡ None) × (new ≡ old)
Handles kept happens old new (Some turned) =
    (running : Running) × Took old running (core_step old.times (node_with kept old) running.core running.clock happens) new turned

-- A running client took this step from its state; any other node, and one that doesn't run, took none.
abbrev pub ClientTook : (HostView → Running → WholeClient → Step Core) → HostView → HostView → Option Turned → Type 0
ClientTook step old new None = ((running : Running) → old.up ≡ Some running → IsNoClient running.core) × (new ≡ old)
ClientTook step old new (Some turned) =
    (running : Running) × (state : WholeClient) × (running.core ≡ client state) × Took old running (step old running state) new turned

-- a client made a call
abbrev pub Calls : Call → Option PlacedFile → HostView → HostView → Option Turned → Type 0
Calls c declared old new turned = ClientTook (λ host running state. call_step host running.clock state c declared) old new turned

-- a client made its last call again
abbrev pub CallsAgain : HostView → HostView → Option Turned → Type 0
CallsAgain old new turned = ClientTook (λ host running state. again_step host running.clock state) old new turned

-- what is seen of a running node
abbrev pub moment_of : Running → Moment
moment_of running = record { clock = running.clock; crash = running.crash; cut = running.cut }
