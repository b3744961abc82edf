use Rattle.std.proofs.Common.{take}
use Rattle.world_tables.specs.Places.{AreNumbers}
use Rattle.world_tables.proofs.made.numbers_of.Given as goal

abbrev pub invariant-loop-file : goal.invariant-loop-file
invariant-loop-file l = AreNumbers (take l.file-index l.files) l.numbers
