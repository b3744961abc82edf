use Rattle.client_steps.specs.Tests.{Passes}
use Rattle.client_steps.proofs.Steps
use Rattle.client_steps.proofs.asks_are_of_calls.Goals as goal

pub returns-clause-stepped : goal.returns-clause-stepped
returns-clause-stepped c = λ test. Steps.stepped_is (Passes test)

pub returns-clause-called : goal.returns-clause-called
returns-clause-called c = λ test. Steps.called_is (Passes test)

pub returns-clause-again : goal.returns-clause-again
returns-clause-again c = λ test. Steps.called_again_is (Passes test)
