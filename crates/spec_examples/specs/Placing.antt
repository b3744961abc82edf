-- OSDs that are picked, and marks of sizes that are reported
use Rattle.std.specs.Prelude.{ℕ, List, [], ◌∷◌, map, scan}
use Rattle.xt_base.specs.declared.ids.NodeId.{NodeId}
use Rattle.xt_base.specs.declared.ids.SizeMark.{SizeMark}
use Rattle.truncate_epochs.specs.SizeMarks.{merged}
use Rattle.replica_lists.specs.Picking.{picked}
use Rattle.spec_examples.specs.Values.{node}
use Rattle.spec_examples.specs.ClientScenes.{size_at}

-- a file's number, how many OSDs it asks for, and the ids that it gets of 7, 3, 9 and 5
abbrev pub Pick : Type 0
Pick = ℕ × ℕ × List ℕ

abbrev pub got : Pick → List NodeId
got row = picked (map node (7 ∷ 3 ∷ 9 ∷ 5 ∷ [])) row.0 row.1

abbrev pub picks_wanted : Pick → List NodeId
picks_wanted row = map node row.2

abbrev pub picks : List Pick
picks =
    (0, 1, 3 ∷ [])
    ∷ (1, 2, 5 ∷ 7 ∷ [])
    ∷ (2, 3, 7 ∷ 9 ∷ 3 ∷ [])
    ∷ (3, 4, 9 ∷ 3 ∷ 5 ∷ 7 ∷ [])
    ∷ (1000000, 3, 3 ∷ 5 ∷ 7 ∷ [])
    ∷ (1000007, 1, 9 ∷ [])
    ∷ []

-- a report, and the mark after it
abbrev pub Report : Type 0
Report = SizeMark × SizeMark

abbrev pub mark_wanted : Report → SizeMark
mark_wanted row = row.1

abbrev pub after_report : SizeMark → Report → SizeMark
after_report mark row = merged mark row.0

abbrev pub marks_after : List Report → List SizeMark
marks_after rows = scan after_report after_report (size_at 0 0) rows

abbrev pub reports : List Report
reports =
    (size_at 2 10, size_at 2 10)
    ∷ (size_at 1 99, size_at 2 10)
    ∷ (size_at 2 7, size_at 2 10)
    ∷ (size_at 2 10, size_at 2 10)
    ∷ []
