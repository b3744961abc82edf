use Rattle.xt_parts.proofs.Spelling.{reads_layout, reads_layout_only}
use Rattle.xt_parts.proofs.laws.reads_the_layout.Goals as goal

pub returns : goal.returns
returns c = record { found = reads_layout; only = reads_layout_only }
