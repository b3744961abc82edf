use Rattle.std.proofs.Common.{sym, subst}
use Rattle.replica_records.specs.Sound.{AreSoundRows}
use Rattle.replica_records.proofs.SoundRows.{sound_after}
use Rattle.replica_records.proofs.folding.Folding.take.Goals as goal

pub invariant_of-self-in_default : goal.invariant_of-self-in_default
invariant_of-self-in_default c =
    subst (λ rows. AreSoundRows c.stays_within-self-inside.result rows) (sym c.in_ok-change_files.ensures.after)
    (sound_after c.self.inside.within c.stays_within-self-inside.result c.self.inside.folded.files c.args.rec.now c.stays_within-self-inside.ensures c.self.invariant)
