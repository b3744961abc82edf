use Rattle.std.proofs.Common.{inr}
use Rattle.std.proofs.lemmas.Result.{IfErr-weaker}
use Rattle.store_loading.specs.Loading.{IsUnloaded}
use Rattle.node_jobs.specs.Disks.{CannotOpen}
use Rattle.store_loading.proofs.Disks.{medium_of}
use Rattle.node_jobs.proofs.opening.opened.Goals as goal

pub returns-clause-ends : goal.returns-clause-ends
returns-clause-ends g c =
    let m = medium_of g.D.Disk in
    let disk = c.args.disk in
    IfErr-weaker c.store_at.result (λ ended. IsUnloaded m disk ended.disk ended.status) (λ ended. CannotOpen m disk ended.disk ended.status)
    (λ ended is. inr is) c.store_at.ensures.ends
