use Rattle.std.proofs.Common.{◌∙◌}
use Rattle.std.proofs.lemmas.Result.{IfOk-weaker}
use Rattle.object_store.specs.Access.{records_of}
use Rattle.sweep_job.proofs.Found.{all_taken, files_known}
use Rattle.sweep_job.proofs.listing.files_in.Goals as goal

pub start-requires-clause-can : goal.start-requires-clause-can
start-requires-clause-can g c = all_taken c.records.result.now (records_of c.args.store.now) c.records.ensures c.requires.are

pub returns : goal.returns
returns g c =
    let store = c.args.store.now in
    IfOk-weaker c.files.result _ _ (λ files is. is
    ∙ files_known c.args.key.now c.records.result.now (records_of store) c.args.now c.in_ok-mrc.mrc c.records.ensures c.in_ok-mrc.ensures) c.files.ensures
