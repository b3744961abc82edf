use Rattle.std.proofs.Common.{◌≡◌, take}
use Rattle.server_rows.specs.Metadata.{catalogue_of}
use Rattle.mrc_core.proofs.mrc.take_all.Given as goal

abbrev pub invariant-loop-rec : goal.invariant-loop-rec
invariant-loop-rec l = l.catalogue ≡ catalogue_of l.key (take l.rec-index l.records)
