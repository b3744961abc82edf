-- Of which sort a record is: what is said of a record by its sort alone is said once, and not for each kind.
use Rattle.std.proofs.Common.{◌≡◌, ◌⊎◌, inl, inr, ◌∙◌, ℕ, Bool, true, false, Option, Some, None, refl, sym, ap}
use Rattle.xt_base.specs.declared.ids.FileId.{FileId}
use Rattle.xt_base.specs.declared.ids.Epoch.{Epoch}
use Rattle.xt_base.specs.declared.ids.Stamp.{Stamp}
use Rattle.xt_messages.specs.declared.file.FileHead.{FileHead}
use Rattle.xt_messages.specs.declared.file.Location.{Location}
use Rattle.xt_messages.specs.declared.file.Update.{Update}
use Rattle.xt_messages.specs.declared.record.FileRow.{FileRow}
use Rattle.xt_messages.specs.declared.record.Record.{Record}
use Rattle.xt_messages.specs.declared.record.Record.TheVariants as kept
use Rattle.xt_protocol.specs.Folds.{new_row, row_after, boot_after, file_of, forgets, is_logged, held_after, body_of}
use Rattle.xt_protocol.specs.Heads.{head_after, head_installed}
use Rattle.xt_protocol.specs.Stamps.{with_held}

-- what a record changes in the row of its file
pub data Change : Type 0 where
  Promised : Epoch → Change
  Updated : Update → Change
  Staged : ℕ → Stamp → Change
  Took : FileHead → Change
  Moved : Location → Change
  Closed : ℕ → Change
  Installed : Location → FileHead → Change
  Removed : Change

abbrev pub row_by : FileRow → Change → FileRow
row_by row (Promised epoch) = record row { head = record row.head { promised = epoch } }
row_by row (Updated update) = record row { head = head_after row.head update; held = held_after row.held update }
row_by row (Staged object version) = record row { held = with_held row.held (body_of object version) }
row_by row (Took head) = record row { head = head }
row_by row (Moved location) = record row { location = Some location }
row_by row (Closed version) = record row { closed = Some version }
row_by row (Installed location head) = record row { head = head_installed row.head head; location = Some location }
row_by row Removed = new_row row.file

abbrev pub removes : Change → Bool
removes Removed = true
removes _ = false

-- it is of a file, and changes its row so
pub record Changes (rec : Record) : Type 0 where
  pub file : FileId
  pub change : Change
  pub of : file_of rec ≡ Some file
  pub row : (row : FileRow) → row_after row rec ≡ row_by row change
  pub gone : forgets rec ≡ removes change
  pub boot : (b : ℕ) → boot_after b rec ≡ b
  pub request : is_logged rec ≡ false

-- it is of no file; whether it is of a request
pub record Rests (logged : Bool) (rec : Record) : Type 0 where
  pub of : file_of rec ≡ None
  pub row : (row : FileRow) → row_after row rec ≡ row
  pub request : is_logged rec ≡ logged

changes : (rec : Record) (file : FileId) (change : Change) → file_of rec ≡ Some file → ((row : FileRow) → row_after row rec ≡ row_by row change)
    → forgets rec ≡ removes change → ((b : ℕ) → boot_after b rec ≡ b) → is_logged rec ≡ false → Rests false rec ⊎ (Rests true rec ⊎ Changes rec)
changes rec f c of row gone boot request = inr (inr (record { file = f; change = c; of = of; row = row; gone = gone; boot = boot; request = request }))

asks : (rec : Record) → file_of rec ≡ None → ((row : FileRow) → row_after row rec ≡ row) → is_logged rec ≡ true → Rests false rec ⊎ (Rests true rec ⊎ Changes rec)
asks rec of row request = inr (inl (record { of = of; row = row; request = request }))

pub sort_of : (rec : Record) → Rests false rec ⊎ (Rests true rec ⊎ Changes rec)
sort_of (kept.Boot boot) = inl (record { of = refl; row = λ row. refl; request = refl })
sort_of (kept.Seal file object version digest) = inl (record { of = refl; row = λ row. refl; request = refl })
sort_of (kept.Meta from number now nodes request) = asks (kept.Meta from number now nodes request) refl (λ row. refl) refl
sort_of (kept.Choice f location head source) = asks (kept.Choice f location head source) refl (λ row. refl) refl
sort_of (kept.OldChoice f location head source) = asks (kept.OldChoice f location head source) refl (λ row. refl) refl
sort_of (kept.Listed f version) = asks (kept.Listed f version) refl (λ row. refl) refl
sort_of (kept.Promise f epoch) = changes (kept.Promise f epoch) f (Promised epoch) refl (λ row. refl) refl (λ b. refl) refl
sort_of (kept.Update f update) = changes (kept.Update f update) f (Updated update) refl (λ row. refl) refl (λ b. refl) refl
sort_of (kept.OldUpdate f update) = changes (kept.OldUpdate f update) f (Updated update) refl (λ row. refl) refl (λ b. refl) refl
sort_of (kept.Stage f object version bytes) = changes (kept.Stage f object version bytes) f (Staged object version) refl (λ row. refl) refl (λ b. refl) refl
sort_of (kept.OldStage f object version bytes) = changes (kept.OldStage f object version bytes) f (Staged object version) refl (λ row. refl) refl (λ b. refl) refl
sort_of (kept.Head f head) = changes (kept.Head f head) f (Took head) refl (λ row. refl) refl (λ b. refl) refl
sort_of (kept.OldHead f head) = changes (kept.OldHead f head) f (Took head) refl (λ row. refl) refl (λ b. refl) refl
sort_of (kept.View f location) = changes (kept.View f location) f (Moved location) refl (λ row. refl) refl (λ b. refl) refl
sort_of (kept.Close f version) = changes (kept.Close f version) f (Closed version) refl (λ row. refl) refl (λ b. refl) refl
sort_of (kept.Install f location head) = changes (kept.Install f location head) f (Installed location head) refl (λ row. refl) refl (λ b. refl) refl
sort_of (kept.OldInstall f location head) = changes (kept.OldInstall f location head) f (Installed location head) refl (λ row. refl) refl (λ b. refl) refl
sort_of (kept.Forget f) = changes (kept.Forget f) f Removed refl (λ row. refl) refl (λ b. refl) refl

-- a record of a file is of no start
pub no_boot : (boot : ℕ) (rec : Record) (file : FileId) → file_of rec ≡ Some file → boot_after boot rec ≡ boot
no_boot boot rec file is = at (sort_of rec)
  where
    none : file_of rec ≡ None → boot_after boot rec ≡ boot
    none of = absurd (let differ : None ≡ Some file = sym of ∙ is in cc)

    at : Rests false rec ⊎ (Rests true rec ⊎ Changes rec) → boot_after boot rec ≡ boot
    at (inl starts) = none starts.of
    at (inr (inl asked)) = none asked.of
    at (inr (inr of)) = of.boot boot

-- a request's record is of no file
pub of_none : (rec : Record) → is_logged rec ≡ true → file_of rec ≡ None
of_none rec is = at (sort_of rec)
  where
    at : Rests false rec ⊎ (Rests true rec ⊎ Changes rec) → file_of rec ≡ None
    at (inl starts) = absurd (let differ : false ≡ true = sym starts.request ∙ is in cc)
    at (inr (inl asked)) = asked.of
    at (inr (inr of)) = absurd (let differ : false ≡ true = sym of.request ∙ is in cc)
