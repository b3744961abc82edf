use Rattle.std.proofs.Common.{subst, sym}
use Rattle.peer_searches.specs.Sound.{AreSound}
use Rattle.peer_searches.proofs.Set.{none_fed}
use Rattle.replica_primary.specs.Moves.{peers_under}
use Rattle.osd_files.specs.Leads.{LeadView}
use Rattle.osd_files.proofs.overdue.end_lapsed.Goals as goal

pub invariant_of-file-clause-sound : goal.invariant_of-file-clause-sound
invariant_of-file-clause-sound c =
    let f = c.args.file.now in
    let P : LeadView → Type 0 = λ lead. AreSound f.replica.head.versions (peers_under lead.primary.tenure) f.searches in
    subst P (sym c.idle.ensures) (none_fed f.replica.head.versions f.searches)
