-- Each entry keeps what a reading says.
use Rattle.trace_judge.proofs.Clocks.{readings_tell as lemma}
use Rattle.trace_judge.proofs.readings_tell.Goals as goal

pub returns : goal.returns
returns c = lemma
