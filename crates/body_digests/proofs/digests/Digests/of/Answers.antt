use Rattle.body_digests.proofs.Sealing.{none_kept}
use Rattle.body_digests.proofs.digests.Digests.of.Goals as goal

pub loop-rec-init : goal.loop-rec-init
loop-rec-init c = none_kept (record { files = c.new.result }) c.new.ensures.empty
