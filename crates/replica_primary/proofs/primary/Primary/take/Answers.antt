use Rattle.std.proofs.Common.{sym, subst, Option}
use Rattle.xt_protocol.specs.declared.states.Tenure.{Tenure}
use Rattle.peer_searches.specs.Sound.{AreSound}
use Rattle.peer_searches.proofs.Set.{none_fed}
use Rattle.replica_primary.specs.Moves.{peers_under}
use Rattle.replica_primary.specs.Shown.{shown_under}
use Rattle.replica_primary.proofs.primary.Primary.take.Goals as goal

pub returns-else-is_light_led-clause-sound : goal.returns-else-is_light_led-clause-sound
returns-else-is_light_led-clause-sound g c =
    let versions = c.args.own.now.versions in
    let P : Option Tenure → Type 0 = λ tenure. AreSound versions (peers_under (shown_under tenure)) c.hears.new.searches in
    subst P (sym c.put.ensures) (none_fed versions c.hears.new.searches)
