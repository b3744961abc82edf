use Rattle.std.proofs.Common.{refl}
use Rattle.xt_parts.specs.Part.{is_part}
use Rattle.spec_examples.proofs.parts.other_bytes_are_no_part.Goals as goal

pub returns : goal.returns
unfolding is_part
returns c = refl
