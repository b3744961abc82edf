-- what holds of each sweep
use Rattle.std.specs.Prelude.{◌≡◌, ℕ, not, Option, List, filter}
use Rattle.std.specs.List.{All}
use Rattle.xt_base.specs.TimeSettings.{TimeSettings}
use Rattle.xt_base.specs.declared.ids.FileId.{FileId}
use Rattle.xt_messages.specs.declared.record.Folded.{Folded}
use Rattle.xt_messages.specs.declared.record.Record.{Record}
use Rattle.xt_protocol.specs.Folds.{fold_of}
use Rattle.object_store.specs.Texts.{AreRecords}
use Rattle.orphan_sweep.specs.Fates.{FitsFate, fate_of, fates_of, is_orphan, orphans_of}
use Rattle.orphan_sweep.specs.Swept.{folded_but}

-- all files that records speak of, but for the orphans
abbrev pub unswept : Folded → List (FileId × Option ℕ) → TimeSettings → ℕ → Folded
unswept folded files times now = record folded { files = filter (λ row. not (is_orphan (fate_of files times now row.file))) folded.files }

abbrev pub OthersStay : Type 0
OthersStay =
    (folded : Folded) (files : List (FileId × Option ℕ)) (times : TimeSettings) (now : ℕ)
    → folded_but (orphans_of (fates_of folded files times now)) folded ≡ unswept folded files times now

-- the files that records speak of can be named in records
abbrev pub FilesFit : Type 0
FilesFit =
    (records : List Record) → AreRecords records → (files : List (FileId × Option ℕ)) (times : TimeSettings) (now : ℕ)
    → All FitsFate (fates_of (fold_of records) files times now)
