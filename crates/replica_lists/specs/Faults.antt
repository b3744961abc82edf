-- why no OSDs were picked
use Rattle.std.specs.Prelude.{◌≡◌, ◌<◌, ℕ, List, length}
use Rattle.xt_base.specs.declared.ids.NodeId.{NodeId}
use Rattle.replica_lists.specs.declared.PickErr.{PickErr}
use Rattle.replica_lists.specs.declared.PickErr.TheVariants as fault

-- there are fewer than are wanted, and so many; or no memory was left
abbrev pub Explains : List NodeId → ℕ → PickErr → Type 0
Explains osds n (fault.TooFew have) = (have ≡ length osds) × (length osds < n)
Explains osds n fault.OutOfMemory = Unit {0}
