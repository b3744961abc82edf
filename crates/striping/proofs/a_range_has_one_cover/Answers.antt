use Rattle.striping.proofs.OneCover.{same_pieces}
use Rattle.striping.proofs.a_range_has_one_cover.Goals as goal

pub returns : goal.returns
returns c stripe width from end one other covers again = same_pieces stripe width from end one other covers again
