use Rattle.std.proofs.Common.{◌∙◌, sym}
use Rattle.client_loop.proofs.Looking.{read_same}
use Rattle.cluster_job.proofs.Opened.{only_reads, went_well, cannot_read}
use Rattle.cluster_job.proofs.opening.open.Goals as goal

pub returns-in-Err-clause-cannot : goal.returns-in-Err-clause-cannot
returns-in-Err-clause-cannot g c source =
    let e = c.bind.ensures in
    cannot_read _ _ _ _ _ _ source c.in-Err.why _ c.in-Err.ensures.unread.0
    (only_reads _ _ _ _ _ _ _ _ _ e.given e.sent e.losses (read_same _ _ c.in-Err.ensures.unread.1))
    (went_well _ _ _ (sym c.is_err.ensures.value ∙ c.if-is_err.false) e.faults)
    (c.in-Err.ensures.cause _ source)
