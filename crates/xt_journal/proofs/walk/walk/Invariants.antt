use Rattle.std.proofs.Common.{◌≡◌, ◌<◌, ◌≤◌, ◌-◌, IsTrue}
use Rattle.xt_journal.specs.Ahead.{size_of, source_of}
use Rattle.xt_journal.specs.Located.{IsLocated}
use Rattle.xt_journal.specs.Parsed.{IsRead}
use Rattle.xt_journal.specs.Placed.{AreWithin}
use Rattle.xt_journal.proofs.walk.walk.Given as goal

abbrev pub invariant-loop-extents : goal.invariant-loop-extents
invariant-loop-extents g l = record {
  source : source_of l.ahead ≡ source_of l.initial.ahead;
  size : size_of l.ahead ≡ size_of l.initial.ahead;
  low : 12 ≤ l.end;
  inside : l.end < size_of l.initial.ahead;
  located : IsLocated l.superblock l.end;
  within : AreWithin l.end l.extents.items;
  read : IsTrue g.D.Disk.is_told → IsRead (g.D.Disk.kept (source_of l.initial.ahead)).read l.superblock l.end l.extents.items;
}

abbrev pub decreases-loop-extents : goal.decreases-loop-extents
decreases-loop-extents g l = size_of l.initial.ahead - l.end
