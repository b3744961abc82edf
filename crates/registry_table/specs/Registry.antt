-- The registry as a flat list of rows, and what comes of a request to it.
use Rattle.std.specs.Prelude.{ℕ, Bool, true, false, ◌&&◌, ◌==◌, not, nat_lt, nat_le, ◌+◌, if◌then◌else◌, Option, Some, None, List, map, filter, take}
use Rattle.std.specs.Ordering.{nat_cmp, is_eq}
use Rattle.std.specs.BTreeMap.{insert_entry}
use Rattle.std.specs.Map.{lookup, remove_entry}
use Rattle.xt_base.specs.declared.TheConstants.{COUNTS}
use Rattle.xt_messages.specs.declared.registry.RegistryReq.{RegistryReq}
use Rattle.xt_messages.specs.declared.registry.RegistryReq.TheVariants as wish
use Rattle.xt_messages.specs.declared.registry.RegistryRow.{RegistryRow}
use Rattle.xt_messages.specs.declared.registry.RegistryAnswer.{RegistryAnswer}
use Rattle.xt_messages.specs.declared.registry.RegistryAnswer.TheVariants as told
use Rattle.registry_table.specs.declared.registry.Registered.{Registered}

-- the registry: what is registered of each node, rising by node
abbrev pub Rows : Type 0
Rows = List (ℕ × Registered)

-- what is registered of a node
abbrev pub row_of : Rows → ℕ → Option Registered
row_of rows node = lookup (λ n. is_eq (nat_cmp node n)) rows

-- the rows with this one in its place
abbrev pub with_row : Rows → ℕ → Registered → Rows
with_row rows node row = insert_entry nat_cmp rows node row

-- the rows without that of a node
abbrev pub without_row : Rows → ℕ → Rows
without_row rows node = remove_entry (λ n. is_eq (nat_cmp node n)) rows

-- a row as it is reported
abbrev pub shown : ℕ × Registered → RegistryRow
shown row = record { node = record { 0 = row.0 }; kind = row.1.kind; address = row.1.address; version = row.1.version }

-- whether a row is one of a list of a kind after a node
abbrev pub is_listed : ℕ → ℕ → ℕ × Registered → Bool
is_listed kind after row = nat_lt after row.0 && row.1.kind == kind

-- a page of a list: the first 256 rows of the kind with nodes above the one after which the list goes on
abbrev pub page_of : Rows → ℕ → ℕ → List RegistryRow
page_of rows kind after = take 256 (map shown (filter (is_listed kind after) rows))

-- a node's version: an absent one has version 0
abbrev pub version_in : Option Registered → ℕ
version_in None = 0
version_in (Some row) = row.version

-- the registry after a request, and what is answered
pub record Outcome : Type 0 where
  pub rows : Rows
  pub answer : RegistryAnswer

-- nothing changes
abbrev pub tells : Rows → RegistryAnswer → Outcome
tells rows answer = record { rows = rows; answer = answer }

-- Set: changed meanwhile, where the version isn't the expected one; else the row has the next version.
abbrev pub row_set : Rows → ℕ → ℕ → List ℕ → ℕ → ℕ → Outcome
row_set rows node kind address expected version =
    if not (version == expected) then tells rows (told.Changed version)
    else
    record {
      rows = with_row rows node (record { kind = kind; address = address; version = version + 1 });
      answer = told.Done (version + 1);
    }

-- Remove: changed meanwhile, where the version isn't the expected one; absent, where there is no row; else it is gone.
abbrev pub row_removed : Rows → ℕ → ℕ → ℕ → Outcome
row_removed rows node expected version =
    if not (version == expected) then tells rows (told.Changed version)
    else if version == 0 then tells rows told.Absent
    else record { rows = without_row rows node; answer = told.Done 0 }

-- Get: the row, or absent.
abbrev pub row_told : ℕ → Option Registered → RegistryAnswer
row_told node None = told.Absent
row_told node (Some row) = told.Row (shown (node, row))

-- what comes of a request
abbrev pub outcome_of : Rows → RegistryReq → Outcome
outcome_of rows (wish.Set node kind address expected) = row_set rows node.0 kind address expected (version_in (row_of rows node.0))
outcome_of rows (wish.Get node) = tells rows (row_told node.0 (row_of rows node.0))
outcome_of rows (wish.List kind after) = tells rows (told.Rows (page_of rows kind after.0))
outcome_of rows (wish.Remove node expected) = row_removed rows node.0 expected (version_in (row_of rows node.0))

-- a request that may change the registry is recorded, refused or not
abbrev pub is_recorded : RegistryReq → Bool
is_recorded (wish.Set node kind address expected) = true
is_recorded (wish.Get node) = false
is_recorded (wish.List kind after) = false
is_recorded (wish.Remove node expected) = true

-- whether a Set would make a version past the last one
abbrev pub is_spent : Rows → RegistryReq → Bool
is_spent rows (wish.Set node kind address expected) =
    version_in (row_of rows node.0) == expected && nat_le COUNTS (expected + 1)
is_spent rows (wish.Get node) = false
is_spent rows (wish.List kind after) = false
is_spent rows (wish.Remove node expected) = false
