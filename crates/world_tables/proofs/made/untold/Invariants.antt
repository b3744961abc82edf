use Rattle.std.proofs.Common.{◌≡◌, take}
use Rattle.std.specs.Prelude.{filter}
use Rattle.world_spec.specs.Lines.{is_untold}
use Rattle.world_tables.proofs.made.untold.Given as goal

abbrev pub invariant-loop-file : goal.invariant-loop-file
invariant-loop-file l = l.left.items ≡ filter (is_untold l.initial.told) (take l.file-index l.files)
