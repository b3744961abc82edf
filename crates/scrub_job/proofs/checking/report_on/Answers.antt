use Rattle.std.proofs.Common.{◌≡◌, ◌∙◌, ◌++◌, List, subst, sym, take-append-drop}
use Rattle.object_store.specs.Access.{records_of}
use Rattle.scrub.specs.declared.found.Found.{Found}
use Rattle.scrub.specs.declared.listing.Item.{Item}
use Rattle.scrub_job.proofs.Checked.{HasGoneOn, gone_more}
use Rattle.scrub_job.proofs.checking.report_on.Goals as goal

pub loop-rest-preserved : goal.loop-rest-preserved
loop-rest-preserved g c =
    let front = c.split_at.result.0.now in
    let back = c.split_at.result.1.now in
    let split : c.loop-rest.rest.now ≡ front ++ back =
    sym (take-append-drop c.min.result c.loop-rest.rest.now) ∙ (λ i. sym c.split_at.ensures.front i ++ sym c.split_at.ensures.back i) in
    subst (λ (report : List Found). HasGoneOn g.D.Disk.is_told (records_of c.args.store.now) c.args.items.now back report) (sym c.in_ok-append.ensures.items)
    (gone_more g.D.Disk.is_told (records_of c.args.store.now) c.args.items.now c.loop-rest.rest.now front back c.loop-rest.report.items c.in_ok-found.found.items split
    c.loop-rest.invariant c.in_ok-found.ensures)
