-- the sizes of a file that are reported and set
use Rattle.std.proofs.Common.{◌≡◌, ◌∙◌, ℕ, List, [], ◌∷◌, refl, sym, ap, Bool, true, false, cond}
use Rattle.std.specs.Prelude.{◌==◌, ◌&&◌, Option, Some, None}
use Rattle.std.specs.Str.{bytes_eq}
use Rattle.std.specs.List.{AllByRecursion, cons_option}
use Rattle.std.proofs.lemmas.Bool.Decides.{Decides-eqb}
use Rattle.std.proofs.lemmas.Slice.Eq.{bytes_eq-Decides}
use Rattle.xt_base.specs.declared.ids.FileId.{FileId}
use Rattle.xt_base.specs.declared.ids.SizeMark.{SizeMark}
use Rattle.volume_rows.specs.declared.Stored.{Stored}
use Rattle.volume_rows.specs.declared.Content.{Content}
use Rattle.volume_rows.specs.declared.Content.TheVariants as content
use Rattle.volume_rows.specs.Paths.{Path}
use Rattle.volume_rows.specs.Rows.{Row}
use Rattle.volume_rows.specs.Grants.{volume_of, stored_of, is_row_of, holds_file, sizes_of, sizes_in, sizes_set, with_sizes}
use Rattle.volume_tree.specs.declared.table.Sizes.{Sizes}
use Rattle.volume_tree.specs.Tables.{Kept, stored_sized, content_sized, row_sized, volume_if, volume_numbered, volumes_numbered}
use Rattle.volume_tree.proofs.Framing.{all_sized}
use Rattle.volume_tree.proofs.Numbers.{number_sized, first_none}

-- whether a row is that of a file doesn't turn on its sizes
held_sized : (file : FileId) (path : Path) (kept : Kept) (what : Content) → is_row_of file path (stored_of (content_sized kept what)) ≡ is_row_of file path (stored_of what)
held_sized file path kept content.Directory = refl
held_sized file path kept (content.File stored) = ap (λ (n : ℕ). bytes_eq (volume_of path) file.volume && (n == file.number)) (number_sized (kept stored.number) stored)

and_false : (b : Bool) → (b && false) ≡ false
and_false true = refl
and_false false = refl

and_true : (b : Bool) → (b && true) ≡ b
and_true true = refl
and_true false = refl

-- a row without the file's number isn't that of the file, and one with it is where its volume is
held_not : (file : FileId) (path : Path) (o : Option Stored) → volume_if file.number path o ≡ None → is_row_of file path o ≡ false
held_not file path None none = refl
held_not file path (Some stored) none = go (stored.number == file.number) none where
  go : (b : Bool) → cond b (Some (volume_of path)) None ≡ None → (bytes_eq (volume_of path) file.volume && b) ≡ false
  go true h = absurd (cc)
  go false h = and_false (bytes_eq (volume_of path) file.volume)

held_if : (file : FileId) (path : Path) (o : Option Stored) (volume : List ℕ) → volume_if file.number path o ≡ Some volume → is_row_of file path o ≡ bytes_eq volume file.volume
held_if file path None volume has = absurd (cc)
held_if file path (Some stored) volume has = go (stored.number == file.number) has where
  go : (b : Bool) → cond b (Some (volume_of path)) None ≡ Some volume → (bytes_eq (volume_of path) file.volume && b) ≡ bytes_eq volume file.volume
  go true h = let is : volume_of path ≡ volume = cc in and_true (bytes_eq (volume_of path) file.volume) ∙ ap (λ (v : List ℕ). bytes_eq v file.volume) is
  go false h = absurd (cc)

-- what is known of a file with a number
told_sized : (number : ℕ) (path : Path) (kept : Kept) (sizes : Sizes) (what : Content) (volume : List ℕ) → kept number ≡ Some sizes → volume_if number path (stored_of what) ≡ Some volume → sizes_of (stored_of (content_sized kept what)) ≡ Some (sizes.epoch, sizes.mark)
told_sized number path kept sizes content.Directory volume is has = absurd (cc)
told_sized number path kept sizes (content.File stored) volume is has = go (stored.number == number) refl has where
  go : (b : Bool) → (stored.number == number) ≡ b → cond b (Some (volume_of path)) None ≡ Some volume → sizes_of (Some (stored_sized (kept stored.number) stored)) ≡ Some (sizes.epoch, sizes.mark)
  go true e h = ap (λ (o : Option Sizes). sizes_of (Some (stored_sized o stored))) (ap kept ((Decides-eqb stored.number number).0 e) ∙ is)
  go false e h = absurd (cc)

-- nothing is known where no file has the number
pub sizes_none : (file : FileId) (kept : Kept) (rows : List Row) → volumes_numbered file.number rows ≡ [] → sizes_in (all_sized kept rows) file ≡ None
sizes_none file kept [] none = refl
sizes_none file kept (r ∷ rs) none =
    let empty = first_none (volume_numbered file.number r) (volumes_numbered file.number rs) none in
    let other : holds_file file (row_sized kept r) ≡ false = held_sized file r.path kept r.entry.content ∙ held_not file r.path (stored_of r.entry.content) empty.0 in
    rw other (sizes_none file kept rs empty.1)

-- and where one has, what is kept of it, if its volume is the file's
pub sizes_one : (file : FileId) (kept : Kept) (rows : List Row) (sizes : Sizes) (volume : List ℕ) → volumes_numbered file.number rows ≡ volume ∷ [] → kept file.number ≡ Some sizes → sizes_in (all_sized kept rows) file ≡ cond (bytes_eq volume file.volume) (Some (sizes.epoch, sizes.mark)) None
sizes_one file kept [] sizes volume one is = absurd (cc)
sizes_one file kept (r ∷ rs) sizes volume one is = go (volume_numbered file.number r) refl one (λ h. sizes_one file kept rs sizes volume h is) where
  sized : holds_file file (row_sized kept r) ≡ is_row_of file r.path (stored_of r.entry.content)
  sized = held_sized file r.path kept r.entry.content

  go : (o : Option (List ℕ)) → volume_numbered file.number r ≡ o → cons_option o (volumes_numbered file.number rs) ≡ volume ∷ [] → (volumes_numbered file.number rs ≡ volume ∷ [] → sizes_in (all_sized kept rs) file ≡ cond (bytes_eq volume file.volume) (Some (sizes.epoch, sizes.mark)) None) → sizes_in (all_sized kept (r ∷ rs)) file ≡ cond (bytes_eq volume file.volume) (Some (sizes.epoch, sizes.mark)) None
  go None e h later =
      let other : holds_file file (row_sized kept r) ≡ false = sized ∙ held_not file r.path (stored_of r.entry.content) e in
      rw other (later h)
  go (Some v) e h later =
      let same : v ≡ volume = cc in
      let rest : volumes_numbered file.number rs ≡ [] = cc in
      let here : holds_file file (row_sized kept r) ≡ bytes_eq volume file.volume = sized ∙ held_if file r.path (stored_of r.entry.content) v e ∙ ap (λ (x : List ℕ). bytes_eq x file.volume) same in
      ap (λ (b : Bool). cond b (sizes_of (stored_of (content_sized kept r.entry.content))) (sizes_in (all_sized kept rs) file)) here
      ∙ ap (λ (o : Option (ℕ × SizeMark)). cond (bytes_eq volume file.volume) o (sizes_in (all_sized kept rs) file)) (told_sized file.number r.path kept sizes r.entry.content v is e)
      ∙ ap (λ (o : Option (ℕ × SizeMark)). cond (bytes_eq volume file.volume) (Some (sizes.epoch, sizes.mark)) o) (sizes_none file kept rs rest)

-- sizes that are set in what is kept are set in the rows of the file
set_over : (o : Option Sizes) (stored : Stored) (epoch : ℕ) (mark : SizeMark) → record (stored_sized o stored) { epoch = epoch; mark = mark } ≡ record stored { epoch = epoch; mark = mark }
set_over None stored epoch mark = refl
set_over (Some sizes) stored epoch mark = refl

pub sizes_put : (file : FileId) (kept new : Kept) (sizes : Sizes) (rows : List Row) → AllByRecursion (λ volume. volume ≡ file.volume) (volumes_numbered file.number rows) → ((q : ℕ) → (q == file.number) ≡ false → new q ≡ kept q) → new file.number ≡ Some sizes → all_sized new rows ≡ sizes_set file sizes.epoch sizes.mark (all_sized kept rows)
sizes_put file kept new sizes [] all other is = refl
sizes_put file kept new sizes (r ∷ rs) all other is = go (volume_numbered file.number r) refl all (λ h. sizes_put file kept new sizes rs h other is) where
  at : Content → Row
  at what = record { path = r.path; entry = record r.entry { content = what } }

  apart : (what : Content) → volume_if file.number r.path (stored_of what) ≡ None → content_sized new what ≡ content_sized kept what
  apart content.Directory none = refl
  apart (content.File stored) none = ap (λ (o : Option Sizes). content.File (stored_sized o stored)) (other stored.number (differs (stored.number == file.number) none)) where
    differs : (b : Bool) → cond b (Some (volume_of r.path)) None ≡ None → b ≡ false
    differs true h = absurd (cc)
    differs false h = refl

  here : (what : Content) (v : List ℕ) → volume_if file.number r.path (stored_of what) ≡ Some v → content_sized new what ≡ with_sizes sizes.epoch sizes.mark (content_sized kept what)
  here content.Directory v has = absurd (cc)
  here (content.File stored) v has =
      ap (λ (o : Option Sizes). content.File (stored_sized o stored)) (ap new (same (stored.number == file.number) refl has) ∙ is)
      ∙ ap (λ (s : Stored). content.File s) (sym (set_over (kept stored.number) stored sizes.epoch sizes.mark)) where
        same : (b : Bool) → (stored.number == file.number) ≡ b → cond b (Some (volume_of r.path)) None ≡ Some v → stored.number ≡ file.number
        same true e h = (Decides-eqb stored.number file.number).0 e
        same false e h = absurd (cc)

  sized : holds_file file (row_sized kept r) ≡ is_row_of file r.path (stored_of r.entry.content)
  sized = held_sized file r.path kept r.entry.content

  go : (o : Option (List ℕ)) → volume_numbered file.number r ≡ o → AllByRecursion (λ volume. volume ≡ file.volume) (cons_option o (volumes_numbered file.number rs)) → (AllByRecursion (λ volume. volume ≡ file.volume) (volumes_numbered file.number rs) → all_sized new rs ≡ sizes_set file sizes.epoch sizes.mark (all_sized kept rs)) → all_sized new (r ∷ rs) ≡ sizes_set file sizes.epoch sizes.mark (all_sized kept (r ∷ rs))
  go None e h later =
      let not_it : holds_file file (row_sized kept r) ≡ false = sized ∙ held_not file r.path (stored_of r.entry.content) e in
      ap (λ (what : Content). at what ∷ all_sized new rs) (apart r.entry.content e)
      ∙ ap (λ (list : List Row). row_sized kept r ∷ list) (later h)
      ∙ ap (λ (b : Bool). cond b (at (with_sizes sizes.epoch sizes.mark (content_sized kept r.entry.content))) (row_sized kept r) ∷ sizes_set file sizes.epoch sizes.mark (all_sized kept rs)) (sym not_it)
  go (Some v) e h later =
      let it : holds_file file (row_sized kept r) ≡ true = sized ∙ held_if file r.path (stored_of r.entry.content) v e ∙ (bytes_eq-Decides v file.volume).1 h.0 in
      ap (λ (what : Content). at what ∷ all_sized new rs) (here r.entry.content v e)
      ∙ ap (λ (list : List Row). at (with_sizes sizes.epoch sizes.mark (content_sized kept r.entry.content)) ∷ list) (later h.1)
      ∙ ap (λ (b : Bool). cond b (at (with_sizes sizes.epoch sizes.mark (content_sized kept r.entry.content))) (row_sized kept r) ∷ sizes_set file sizes.epoch sizes.mark (all_sized kept rs)) (sym it)
