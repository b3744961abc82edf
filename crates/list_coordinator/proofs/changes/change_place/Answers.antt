use Rattle.std.proofs.Common.{rules}
use Rattle.std.proofs.lemmas.List.Sorted.{answers_always}
use Rattle.change_rows.specs.Coordinating.{file_of}
use Rattle.list_coordinator.proofs.Places.{searched}
use Rattle.list_coordinator.proofs.changes.change_place.Goals as goal

-- the closure gives the file of a change
pub returns : goal.returns
returns c =
    let facts = c.binary_search_by_key.ensures in
    searched c.args.files.now c.args.file.now c.binary_search_by_key.result c.requires
    (facts.position (λ carried. file_of carried) (answers_always _ _ _ (λ f a r g called. search rules))) facts.bound
