use Rattle.std.proofs.Common.{◌≡◌, take}
use Rattle.std.specs.Prelude.{flat_map}
use Rattle.scrub.specs.Items.{items_of_row}
use Rattle.scrub.proofs.listing.items.Given as goal

-- the items of the files so far
abbrev pub invariant-loop-row : goal.invariant-loop-row
invariant-loop-row l = l.list.items ≡ flat_map (items_of_row l.records) (take l.row-index l.row-items)
