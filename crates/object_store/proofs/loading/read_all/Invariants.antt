use Rattle.std.proofs.Common.{◌≡◌, take}
use Rattle.xt_journal.specs.Access.{disk_of, place_of}
use Rattle.xt_journal.specs.Ahead.{size_of, source_of}
use Rattle.object_store.proofs.Loaded.{IsSoFarFrom}
use Rattle.object_store.proofs.loading.read_all.Given as goal

-- those so far are read
abbrev pub invariant-loop-extent : goal.invariant-loop-extent
invariant-loop-extent g l = record {
  source : source_of l.ahead ≡ disk_of l.journal;
  size : size_of l.ahead ≡ place_of l.journal;
  so_far : IsSoFarFrom g.D.Disk.is_told (g.D.Disk.kept (disk_of l.journal)).read (take l.extent-index l.extents) l.log l.folding;
}
