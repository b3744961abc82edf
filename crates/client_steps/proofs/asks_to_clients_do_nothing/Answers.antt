use Rattle.client_steps.proofs.Asks
use Rattle.client_steps.proofs.asks_to_clients_do_nothing.Goals as goal

pub returns : goal.returns
returns c = Asks.ask_rests
