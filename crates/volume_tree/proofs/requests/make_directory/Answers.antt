use Rattle.std.proofs.Common.{◌∙◌, sym}
use Rattle.volume_tree.proofs.Placing.{place_tested}
use Rattle.volume_tree.proofs.requests.make_directory.Goals as goal

pub put-requires-clause-place : goal.put-requires-clause-place
put-requires-clause-place c = place_tested c.args.who c.args.table.now.rows c.args.names.now _ (sym c.no_making.ensures ∙ c.in_default.is) c.requires
