use Rattle.std.proofs.Common.{◌≡◌, take}
use Rattle.world_disk.proofs.node_store.NodeStore.copies.Given as goal

-- the records so far are made
abbrev pub invariant-loop-rec : goal.invariant-loop-rec
invariant-loop-rec l = l.made.items ≡ take l.rec-index l.rec-items
