use Rattle.std.proofs.Common.{refl}
use Rattle.xt_protocol.specs.Primaries.{fed, peer_in, with_peer}
use Rattle.xt_protocol.specs.PrimaryRows.{hears}
use Rattle.xt_protocol.specs.Stamps.{with_held}
use Rattle.catch_up.proofs.a_peer_gets_what_it_lacks.Goals as goal

pub returns : goal.returns
unfolding hears fed peer_in with_peer with_held
returns c = refl
