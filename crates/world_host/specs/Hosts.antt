-- a node of the world without what is stored for it, which a hull has
use Rattle.std.specs.Prelude.{ℕ, ◌+◌, Option, Some, None, List, []}
use Rattle.xt_base.specs.TimeSettings.{TimeSettings}
use Rattle.xt_base.specs.declared.ids.NodeId.{NodeId}
use Rattle.xt_messages.specs.declared.record.Record.{Record}
use Rattle.world_spec.specs.declared.Role.{Role}
use Rattle.world_spec.specs.World.{Node, Deed, Running}

-- a declared node, with the times of its steps
pub record HostView : Type 0 where
  pub id : NodeId
  pub role : Role
  pub times : TimeSettings
  pub up : Option Running

-- what is stored for a node: the records that it keeps, and what was done to them
pub record Stored : Type 0 where
  pub kept : List Record
  pub past : List Deed

-- no record yet
abbrev pub nothing_stored : Stored
nothing_stored = record { kept = []; past = [] }

-- what a hull has stored for each node, by its records and by what was done to them
abbrev pub stored_in : {H : Type 0} → (H → ℕ → List Record) → (H → ℕ → List Deed) → H → ℕ → Stored
stored_in kept past hull id = record { kept = kept hull id; past = past hull id }

-- the node, with what is stored for it
abbrev pub node_of : Stored → HostView → Node
node_of stored host = record { id = host.id; role = host.role; kept = stored.kept; past = stored.past; up = host.up }

-- The node as its steps see it: they read its records, and not what was done to them.
abbrev pub node_with : List Record → HostView → Node
node_with kept host = node_of (record { kept = kept; past = [] }) host

-- its clock advances, where it runs
abbrev pub host_ticked : ℕ → HostView → HostView
host_ticked count host =
    record host { up = elim host.up [ None ↦ None | Some running ↦ Some (record running { clock = running.clock + count }) ] }
