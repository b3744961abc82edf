use Rattle.std.proofs.Common.{◌≡◌, ◌++◌, List, map, take}
use Rattle.xt_messages.specs.declared.record.Record.{Record}
use Rattle.body_digests.specs.Digests.{AreDigestsIn}
use Rattle.scrub.specs.Items.{item_of}
use Rattle.scrub.proofs.listing.put_items.Given as goal

-- the items of the versions so far
abbrev pub invariant-loop-version : goal.invariant-loop-version
invariant-loop-version l =
    (records : List Record) → AreDigestsIn l.digests records
    → l.list.items ≡ l.initial.list.items ++ map (item_of records l.row.file) (take l.version-index l.version-items)
