use Rattle.scrub.proofs.Mended.{scrubs_say_nothing}
use Rattle.scrub.proofs.laws.scrubs_say_nothing.Goals as goal

pub returns : goal.returns
returns c = scrubs_say_nothing
