use Rattle.std.proofs.Common.{◌≡◌, take}
use Rattle.xt_base.proofs.lists.SeqCopies.copy.Given as goal

-- the items so far are made
abbrev pub invariant-loop-item : goal.invariant-loop-item
invariant-loop-item g l = l.made.items ≡ take l.item-index l.item-items
