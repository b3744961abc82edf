-- what an append leaves of a node's disk
use Rattle.std.specs.Prelude.{Option, None, Some, List}
use Rattle.disk_model.specs.Changes.{Memory}
use Rattle.disk_model.specs.declared.plan.Stop.{Stop}
use Rattle.xt_messages.specs.declared.record.Record.{Record}
use Rattle.world_disk.specs.Ends.{IsReadAfter}

-- the node's disk after an append with this stop in it, or none
abbrev pub IsDiskAfter : Option Stop → List Record → Record → Memory → Type 0
IsDiskAfter None records rec new = Unit {0}
IsDiskAfter (Some stop) records rec new = IsReadAfter stop records rec new
