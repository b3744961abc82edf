-- what the code of a running node is in a run
use Rattle.std.specs.Prelude.{◌≡◌, Some}
use Rattle.xt_base.specs.TimeSettings.{TimeSettings}
use Rattle.xt_base.specs.declared.ids.NodeId.{NodeId}
use Rattle.world_spec.specs.World as world
use Rattle.world_spec.specs.World.{world_key}
use Rattle.world_cores.specs.declared.roles.Core.{Core}
use Rattle.world_cores.specs.declared.roles.Core.TheVariants as core

-- its state
abbrev pub core_of : Core → world.Core
core_of (core.Osd o) = world.osd o.state
core_of (core.Client alloc c) = world.client c.state
core_of (core.Mrc m) = world.mrc m.state
core_of (core.Dir alloc d) = world.dir d.state

-- A core is the node's: an OSD and the metadata server of a world have the key under which the world seals the capabilities of
-- declared files; a client sends as this node, with these times. What the directory service does asks for none of these.
abbrev pub IsOf : NodeId → TimeSettings → Core → Type 0
IsOf id times (core.Osd o) = o.key ≡ Some world_key
IsOf id times (core.Client alloc c) = (c.node ≡ id) × (c.times ≡ times)
IsOf id times (core.Mrc m) = m.secret ≡ world_key
IsOf id times (core.Dir alloc d) = Unit {0}
