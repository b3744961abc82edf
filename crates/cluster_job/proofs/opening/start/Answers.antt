use Rattle.cluster_job.specs.Opening.{at_clock}
use Rattle.cluster_job.proofs.Opened.{unread_same}
use Rattle.cluster_job.proofs.opening.start.Goals as goal

pub returns-in-Err-read-clause-cannot : goal.returns-in-Err-read-clause-cannot
returns-in-Err-read-clause-cannot g c given sent losses link source =
    at_clock c.in_default.ensures.started _ c.in-Err-read.ensures.unread.0 (c.in-Err-read.ensures.cause link source) c.in_default.ensures.sound
    (unread_same given sent losses _ _ c.in-Err-read.ensures.unread.1)
