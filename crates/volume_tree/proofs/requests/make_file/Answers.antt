use Rattle.std.proofs.Common.{◌∙◌, sym}
use Rattle.volume_tree.proofs.Placing.{place_tested}
use Rattle.volume_tree.proofs.requests.make_file.Goals as goal

pub add-requires-clause-place : goal.add-requires-clause-place
add-requires-clause-place c = place_tested c.args.who c.args.table.now.rows c.args.names.now _ (sym c.no_making.ensures ∙ c.in_default.is) c.requires.below
