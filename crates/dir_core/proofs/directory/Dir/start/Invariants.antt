use Rattle.std.proofs.Common.{◌≡◌, take}
use Rattle.server_rows.specs.Directory.{dir_of}
use Rattle.dir_core.proofs.directory.Dir.start.Given as goal

abbrev pub invariant-loop-rec : goal.invariant-loop-rec
invariant-loop-rec l = l.dir ≡ record { secret = l.key; state = dir_of (take l.rec-index l.records) }
