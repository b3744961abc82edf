-- what a change that was worked out makes of the registry
use Rattle.std.specs.Prelude.{◌≡◌, ◌<◌, ◌+◌, ◌^◌}
use Rattle.xt_messages.specs.declared.registry.RegistryReq.{RegistryReq}
use Rattle.xt_messages.specs.declared.registry.RegistryReq.TheVariants as wish
use Rattle.registry_table.specs.declared.registry.Change.{Change}
use Rattle.registry_table.specs.declared.registry.Change.TheVariants as change
use Rattle.registry_table.specs.Registry.{Rows, row_of, version_in, with_row, without_row}

abbrev pub applied : Rows → Change → Rows
applied rows change.Stay = rows
applied rows (change.Put node row) = with_row rows node.0 row
applied rows (change.Remove node) = without_row rows node.0

-- the version that a Set would make fits a field of eight bytes
abbrev pub HasRoom : Rows → RegistryReq → Type 0
HasRoom rows (wish.Set node kind address expected) = version_in (row_of rows node.0) ≡ expected → expected + 1 < 2 ^ 64
HasRoom rows _ = Unit {0}
