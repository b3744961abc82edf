-- what the code of a running node is in a run
use Rattle.std.specs.Prelude.{◌≡◌, Option, Some, None, List, []}
use Rattle.std.specs.Option.{option_map, IfSome}
use Rattle.std.specs.List.{AllByRecursion}
use Rattle.xt_base.specs.TimeSettings.{TimeSettings}
use Rattle.xt_base.specs.declared.ids.NodeId.{NodeId}
use Rattle.xt_messages.specs.Limits.{FitsRecord}
use Rattle.xt_messages.specs.declared.record.Folded.{Folded}
use Rattle.xt_messages.specs.declared.record.Record.{Record}
use Rattle.xt_protocol.specs.Folds.{nothing_kept, fold_of, logged_of, AreInPlace}
use Rattle.world_spec.specs.declared.PlacedFile.{PlacedFile}
use Rattle.world_spec.specs.World as world
use Rattle.world_spec.specs.Lines.{files_in}
use Rattle.world_host.specs.declared.loaded.Loaded.{Loaded}
use Rattle.world_host.specs.declared.running.Running.{Running}

-- records that a node may keep: each is within its limits, and in its place after those before it
abbrev pub MayBeKept : List Record → Type 0
MayBeKept kept = AllByRecursion FitsRecord kept × AreInPlace nothing_kept kept

-- what some records say that a node may keep
abbrev pub IsSaid : Folded → Type 0
IsSaid folded = (kept : List Record) × MayBeKept kept × (folded ≡ fold_of kept)

-- the records of requests among these are within their limits
abbrev pub AreRequests : List Record → Type 0
AreRequests records = AllByRecursion FitsRecord (logged_of records)

-- records say what these say, with their requests in their order
pub record SayTheSame (found kept : List Record) : Type 0 where
  pub rows : fold_of found ≡ fold_of kept
  pub requests : logged_of found ≡ logged_of kept

-- Records as they are loaded for a start: they say the same as some that a node may keep.
pub record AreLoaded (found : List Record) : Type 0 where
  pub kept : List Record
  pub may : MayBeKept kept
  pub same : SayTheSame found kept

-- they were loaded, with what they say
abbrev pub IsLoaded : Loaded → Type 0
IsLoaded loaded = AreLoaded loaded.records.items × (loaded.folded ≡ fold_of loaded.records.items)

-- the files that a running node has made, in the order of making
abbrev pub made_by : world.Core → List PlacedFile
made_by (world.osd state) = []
made_by (world.client state) = []
made_by (world.mrc state) = files_in state.catalogue
made_by (world.dir state) = []

abbrev pub made_at : Option world.Running → List PlacedFile
made_at None = []
made_at (Some running) = made_by running.core

-- a running node, by the state of its core
abbrev pub running_of : {C : Type 0} → (C → world.Core) → Running C → world.Running
running_of state r = record { boot = r.boot; clock = r.clock; crash = r.crash; cut = r.cut; core = state r.core }

abbrev pub up_of : {C : Type 0} → (C → world.Core) → Option (Running C) → Option world.Running
up_of state up = option_map (running_of state) up

-- the core of a node, where it runs, is the node's
abbrev pub IsUpOf : {C : Type 0} → (NodeId → TimeSettings → C → Type 0) → NodeId → TimeSettings → Option (Running C) → Type 0
IsUpOf is_of id times up = IfSome up (λ r. is_of id times r.core)

-- a core was changed so, at every node that it may be of
abbrev pub IsCoreChanged : {C : Type 0} → (C → world.Core) → (NodeId → TimeSettings → C → Type 0) → (world.Core → world.Core) → C → C → Type 0
IsCoreChanged state is_of change old new =
    (state new ≡ change (state old)) × ((id : NodeId) (times : TimeSettings) → is_of id times old → is_of id times new)
