-- the records of each node, where each has a log of its own
use Rattle.std.specs.Prelude.{ℕ, List, [], unwrap_or}
use Rattle.std.specs.Option.{option_map}
use Rattle.std.specs.Ordering.{nat_cmp}
use Rattle.std.specs.BTreeMap.{get}
use Rattle.xt_messages.specs.declared.record.Record.{Record}
use Rattle.replica_records.specs.Logs.{records_in}
use Rattle.world_spec.specs.World.{Deed}
use Rattle.world_hull.specs.declared.list_hull.ListHull.{ListHull}

-- what the node's log has, nothing where it has none
abbrev pub records_of : ListHull → ℕ → List Record
records_of hull node = unwrap_or (option_map (λ own. records_in own.log) (get nat_cmp hull.logs node)) []

-- what was done to it
abbrev pub past_of : ListHull → ℕ → List Deed
past_of hull node = unwrap_or (option_map (λ own. own.past.deeds) (get nat_cmp hull.logs node)) []
