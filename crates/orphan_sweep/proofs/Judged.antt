-- what a map of made files has, entry by entry
use Rattle.std.proofs.Common.{◌≡◌, ℕ, Bool, cond, List, [], ◌∷◌, ◌++◌, Option, None, Some, sym, ◌∙◌, ap}
use Rattle.std.specs.BTreeMap.{get, IsEmpty}
use Rattle.std.specs.Map.{lookup}
use Rattle.std.specs.Ordering.{is_eq}
use Rattle.std.proofs.lemmas.List.Sums.{fold-append}
use Rattle.xt_base.specs.declared.ids.FileId.{FileId}
use Rattle.xt_protocol.specs.FileIds.{file_cmp, is_file}
use Rattle.xt_protocol.proofs.Folds.{is_file-file_cmp}
use Rattle.orphan_sweep.specs.declared.judging.MadeFiles.{MadeFiles}
use Rattle.orphan_sweep.specs.Fates.{AreKnownIn, known_after, known_by}

-- an empty map has nothing
pub none_known : (made : MadeFiles) → IsEmpty made.files → AreKnownIn made []
unfolding known_by
none_known made empty file = ap (λ entries. lookup (λ key. is_eq (file_cmp file key)) entries) empty

-- an entry more
pub one_known : (old new : MadeFiles) (files : List (FileId × Option ℕ)) (file : FileId) (unlinked : Option ℕ) → AreKnownIn old files
    → ((f : FileId) → get file_cmp new.files f ≡ cond (is_eq (file_cmp file f)) (Some unlinked) (get file_cmp old.files f))
    → AreKnownIn new (files ++ (file, unlinked) ∷ [])
unfolding known_by
one_known old new files file unlinked known puts f =
    puts f
    ∙ ap (λ (same : Bool). cond same (Some unlinked) (get file_cmp old.files f)) (sym (is_file-file_cmp file f))
    ∙ ap (λ (before : Option (Option ℕ)). cond (is_file file f) (Some unlinked) before) (known f)
    ∙ sym (fold-append (known_after f) None files ((file, unlinked) ∷ []))
