use Rattle.list_laws.proofs.Versions
use Rattle.list_laws.proofs.messages_carry_the_version.Goals as goal

pub returns-clause-carried : goal.returns-clause-carried
returns-clause-carried c = λ version step. Versions.all_carry version step.turned.outs

pub returns-clause-said : goal.returns-clause-said
returns-clause-said c = λ version step. Versions.all_say version step.turned.outs
