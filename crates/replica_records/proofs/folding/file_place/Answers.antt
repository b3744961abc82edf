use Rattle.std.proofs.Common.{rules}
use Rattle.std.proofs.lemmas.List.Sorted.{answers_always}
use Rattle.replica_records.proofs.FileRows.{searched}
use Rattle.replica_records.proofs.folding.file_place.Goals as goal

-- the closure gives a row's file
pub returns : goal.returns
returns c =
    let facts = c.binary_search_by_key.ensures in
    searched c.args.rows.now c.args.file.now c.binary_search_by_key.result c.requires
    (facts.position (λ row. row.file) (answers_always _ _ _ (λ f a r g called. search rules))) facts.bound
