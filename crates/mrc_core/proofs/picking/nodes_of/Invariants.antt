use Rattle.std.proofs.Common.{◌≡◌, take}
use Rattle.server_rows.specs.Metadata.{nodes_of}
use Rattle.mrc_core.proofs.picking.nodes_of.Given as goal

abbrev pub invariant-loop-row : goal.invariant-loop-row
invariant-loop-row l = l.nodes.items ≡ nodes_of (take l.row-index l.rows)
