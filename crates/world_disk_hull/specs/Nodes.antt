-- the nodes, where each that has kept or loaded a record has a store of its own
use Rattle.std.specs.Prelude.{ℕ, ◌≡◌, ◌==◌, false, List, unwrap_or}
use Rattle.std.specs.Ordering.{nat_cmp}
use Rattle.std.specs.BTreeMap.{get}
use Rattle.disk_model.specs.Changes.{Memory}
use Rattle.xt_base.specs.declared.ids.NodeId.{NodeId}
use Rattle.xt_messages.specs.declared.record.Record.{Record}
use Rattle.world_spec.specs.World.{Deed}
use Rattle.world_disk_hull.specs.Views.{StoredView, none_stored}
use Rattle.world_disk_hull.specs.declared.disk_hull.DiskHull.{DiskHull}

-- what the node has, no record on a disk without a byte where it has no store
abbrev pub node_of : DiskHull → ℕ → StoredView
node_of hull node = unwrap_or (get nat_cmp hull.nodes node) none_stored

-- its records
abbrev pub records_of : DiskHull → ℕ → List Record
records_of hull node = (node_of hull node).records

-- what was done to them
abbrev pub past_of : DiskHull → ℕ → List Deed
past_of hull node = (node_of hull node).past

-- its disk
abbrev pub disk_of : DiskHull → ℕ → Memory
disk_of hull node = (node_of hull node).disk

-- every other node's records and disk are as they were
abbrev pub AreOtherNodesSame : DiskHull → DiskHull → NodeId → Type 0
AreOtherNodesSame old new node = (n : ℕ) → (n == node.0) ≡ false → node_of new n ≡ node_of old n
