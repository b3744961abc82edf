use Rattle.striped_safety.proofs.Example.{shows_a_byte}
use Rattle.striped_safety.proofs.a_read_shows_a_byte.Goals as goal

pub returns : goal.returns
returns c = shows_a_byte
