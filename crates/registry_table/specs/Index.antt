-- the index beside the rows: the nodes of each kind, in order
use Rattle.std.specs.Prelude.{ℕ, ◌≡◌, Bool, false, ◌==◌, Option, Some, None, filter, ◌∷◌, []}
use Rattle.std.specs.declared.cmp.Ordering.{Ordering}
use Rattle.std.specs.Ordering.{nat_cmp, ordering_then}
use Rattle.std.specs.BTreeMap.{BTreeMap, IsOrdered}
use Rattle.std.specs.BTreeSet.{BTreeSet, contains}
use Rattle.registry_table.specs.declared.registry.Registered.{Registered}
use Rattle.registry_table.specs.Registry.{Rows, row_of, is_listed}

-- nodes of kinds are in order by the kind first
abbrev pub kind_cmp : ℕ × ℕ → ℕ × ℕ → Ordering
kind_cmp x y = ordering_then (nat_cmp x.0 y.0) (nat_cmp x.1 y.1)

-- whether there is a row, and it is of this kind
abbrev pub has_kind : ℕ → Option Registered → Bool
has_kind kind None = false
has_kind kind (Some row) = row.kind == kind

-- The rows rise by node, and the index has the nodes of each kind, and no others.
pub record IsIndexed (rows : BTreeMap ℕ Registered) (kinds : BTreeSet (ℕ × ℕ)) : Type 0 where
  pub ordered : IsOrdered nat_cmp rows
  pub has : (kind node : ℕ) → contains kind_cmp kinds (kind, node) ≡ has_kind kind (row_of rows.entries node)

-- the first row of a kind after a node: it is followed by those after its own node; where there is none, no row is left
abbrev pub IsFirstListed : Rows → ℕ → ℕ → Option (ℕ × Registered) → Type 0
IsFirstListed rows kind after None = filter (is_listed kind after) rows ≡ []
IsFirstListed rows kind after (Some row) = filter (is_listed kind after) rows ≡ row ∷ filter (is_listed kind row.0) rows
