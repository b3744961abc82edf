-- lists of nodes as code has them
use Rattle.std.specs.Prelude.{ℕ, ◌≡◌, ◌+◌, ◌<◌, List, map, slice_index_or, slice_set}
use Rattle.std.specs.Option.{option_map, IfSome}
use Rattle.xt_base.specs.declared.TheConstants.{COUNTS}
use Rattle.world_spec.specs.World.{Node}
use Rattle.world_spec.specs.Lines.{reads_clock}
use Rattle.world_host.specs.Hosts.{HostView, Stored, node_of}

-- the nodes, with what is stored for them
abbrev pub nodes_of : (ℕ → Stored) → List HostView → List Node
nodes_of stored hosts = map (λ h. node_of (stored h.id.0) h) hosts

-- no running clock would reach the end after so many milliseconds
abbrev pub MayTick : ℕ → HostView → Type 0
MayTick count host = IfSome host.up (λ running. running.clock + count < COUNTS)

-- a node whose clock is set, where it runs
abbrev pub clock_set : ℕ → HostView → HostView
clock_set clock host = record host { up = option_map (reads_clock clock) host.up }

-- the clock of the one that is there is set, and no other
abbrev pub SetsClock : List HostView → ℕ → ℕ → List HostView → Type 0
SetsClock old place clock new = (host : HostView) × (host ≡ slice_index_or old place host) × (new ≡ slice_set old place (clock_set clock host))
