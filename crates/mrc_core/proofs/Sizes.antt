-- sizes of a file that isn't there set nothing
use Rattle.std.proofs.Common.{◌≡◌, ℕ, List, [], ◌∷◌, refl, ap, Bool, true, false, cond}
use Rattle.std.specs.Prelude.{Option, Some, None}
use Rattle.xt_base.specs.declared.ids.FileId.{FileId}
use Rattle.xt_base.specs.declared.ids.SizeMark.{SizeMark}
use Rattle.volume_rows.specs.declared.Stored.{Stored}
use Rattle.volume_rows.specs.Paths.{Path}
use Rattle.volume_rows.specs.Rows.{Row}
use Rattle.volume_rows.specs.Grants.{stored_of, is_row_of, holds_file, sizes_of, sizes_in, sizes_set, with_sizes}

held : (file : FileId) (path : Path) (stored : Option Stored) → is_row_of file path stored ≡ true → sizes_of stored ≡ None → ⊥
held file path None is none = absurd (cc is)
held file path (Some stored) is none = absurd (cc none)

pub sets_nothing : (file : FileId) (epoch : ℕ) (mark : SizeMark) (rows : List Row) → sizes_in rows file ≡ None → sizes_set file epoch mark rows ≡ rows
sets_nothing file epoch mark [] none = refl
sets_nothing file epoch mark (r ∷ rs) none = go (holds_file file r) refl (sets_nothing file epoch mark rs) none where
  go : (holds : Bool) → holds_file file r ≡ holds → (sizes_in rs file ≡ None → sizes_set file epoch mark rs ≡ rs) → cond holds (sizes_of (stored_of r.entry.content)) (sizes_in rs file) ≡ None →
      cond holds (record { path = r.path; entry = record r.entry { content = with_sizes epoch mark r.entry.content } }) r ∷ sizes_set file epoch mark rs ≡ r ∷ rs
  go true is later none = absurd (held file r.path (stored_of r.entry.content) is none)
  go false is later none = ap (λ (rows : List Row). r ∷ rows) (later none)
