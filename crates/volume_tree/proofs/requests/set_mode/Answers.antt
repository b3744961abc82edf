use Rattle.std.proofs.Common.{◌∙◌, sym}
use Rattle.volume_tree.proofs.Placing.{place_of}
use Rattle.volume_tree.proofs.requests.set_mode.Goals as goal

pub put-requires-clause-place : goal.put-requires-clause-place
put-requires-clause-place c = place_of c.args.who c.args.table.now.rows c.args.names.now (sym c.ancestors.ensures ∙ c.in_default.is) c.requires
