use Rattle.std.proofs.Common.{refl}
use Rattle.xt_parts.specs.Part.{part_of, is_part, header_of}
use Rattle.spec_examples.proofs.parts.a_message_is_cut_and_joined.Goals as goal

pub returns-clause-cut : goal.returns-clause-cut
unfolding part_of
returns-clause-cut c = refl

pub returns-clause-joined : goal.returns-clause-joined
unfolding is_part header_of
returns-clause-joined c = refl
