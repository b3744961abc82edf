-- what comes of a request to the volumes
use Rattle.std.specs.Prelude.{ℕ, ◌+◌, nat_le, if◌then◌else◌, Option, Some, None, List, [], ◌∷◌, length}
use Rattle.xt_messages.specs.declared.file.Location.{Location}
use Rattle.xt_messages.specs.declared.meta.MetaReq.{MetaReq}
use Rattle.xt_messages.specs.declared.meta.MetaReq.TheVariants as ask
use Rattle.xt_messages.specs.declared.meta.MetaRefusal.{MetaRefusal}
use Rattle.xt_messages.specs.declared.meta.MetaRefusal.TheVariants as refusal
use Rattle.xt_messages.specs.declared.meta.MetaAnswer.{MetaAnswer}
use Rattle.xt_messages.specs.declared.meta.MetaAnswer.TheVariants as answer
use Rattle.xt_messages.specs.declared.meta.RowKind.{RowKind}
use Rattle.xt_messages.specs.declared.meta.RowKind.TheVariants as row_kind
use Rattle.volume_rows.specs.declared.Asker.{Asker}
use Rattle.volume_rows.specs.declared.Entry.{Entry}
use Rattle.volume_rows.specs.declared.Content.{Content}
use Rattle.volume_rows.specs.declared.Content.TheVariants as content
use Rattle.volume_rows.specs.declared.Picked.{Picked}
use Rattle.volume_rows.specs.declared.Picked.TheVariants as picked
use Rattle.volume_rows.specs.Paths.{Name, Path, path_in}
use Rattle.volume_rows.specs.Rows.{Row, Volumes, entry_at, with_row, without_row, renamed, page_of, mark_of}
use Rattle.volume_rows.specs.Rights.{reading, rule_of_read, first_of, ancestors, there, absent, directory, file, allowed, owned, parent_writable, empty, same_volume, outside}

-- the volumes after a request, and what is answered
pub record Outcome : Type 0 where
  pub volumes : Volumes
  pub answer : MetaAnswer

-- refused: nothing changes
abbrev pub refused : Volumes → MetaRefusal → Outcome
refused volumes why = record { volumes = volumes; answer = answer.Refused why }

-- answered, and nothing changes
abbrev pub tells : Volumes → MetaAnswer → Outcome
tells volumes what = record { volumes = volumes; answer = what }

-- done: the rows are these
abbrev pub done : Volumes → List Row → Outcome
done volumes rows = record { volumes = record volumes { rows = rows }; answer = answer.Done }

-- refused by the first test that fails, else this
abbrev pub after_tests : Volumes → Option MetaRefusal → Outcome → Outcome
after_tests volumes (Some why) passed = refused volumes why
after_tests volumes None passed = passed

-- a path with so many names at least
abbrev pub has_names : ℕ → Option Path → Option Path
has_names least None = None
has_names least (Some path) = if nat_le least (length path) then Some path else None

-- a request on a path: a bad one is refused before all else
abbrev pub on_path : Volumes → Option Path → (Path → Outcome) → Outcome
on_path volumes None on = refused volumes refusal.NameBad
on_path volumes (Some path) on = on path

-- what an asker makes is the asker's
abbrev pub made : Asker → ℕ → Content → Path → Row
made who mode what path =
    record { path = path; entry = record { owner = who.user; group = who.group; mode = mode; content = what } }

-- Mkdir: there already; the directory above may not be written.
abbrev pub directory_made : Volumes → Asker → ℕ → Path → Outcome
directory_made volumes who mode path =
    let rows = volumes.rows in
    after_tests volumes (first_of (ancestors who rows path ∷ absent (entry_at rows path) ∷ parent_writable who rows path ∷ []))
    (done volumes (with_row rows (made who mode content.Directory path)))

-- a new file: the next number, nothing issued, and no size
abbrev pub new_file : ℕ → Location → Content
new_file number location =
    content.File (record { number = number; location = location; epoch = 0; mark = record { epoch = 0; size = 0 } })

-- the file is made where OSDs were picked for it
abbrev pub file_placed : Volumes → Asker → ℕ → Path → Picked → Outcome
file_placed volumes who mode path (picked.TooFew have) = refused volumes (refusal.TooFew have)
file_placed volumes who mode path (picked.On location) =
    record {
      volumes =
          record {
            rows = with_row volumes.rows (made who mode (new_file volumes.next location) path);
            next = volumes.next + 1;
          };
      answer = answer.Done;
    }

-- Create: there already; the directory above may not be written; too few OSDs.
abbrev pub file_made : Volumes → Asker → ℕ → Picked → Path → Outcome
file_made volumes who mode place path =
    let rows = volumes.rows in
    after_tests volumes (first_of (ancestors who rows path ∷ absent (entry_at rows path) ∷ parent_writable who rows path ∷ []))
    (file_placed volumes who mode path place)

-- Rename: another volume; the source isn't there; the target is the source or below it; the target's ancestors; the target
-- is there; either directory above may not be written.
abbrev pub path_renamed : Volumes → Asker → Path → Path → Outcome
path_renamed volumes who from to =
    let rows = volumes.rows in
    after_tests volumes
    (first_of
    (ancestors who rows from ∷ same_volume from to ∷ there (entry_at rows from) ∷ outside from to ∷ ancestors who rows to ∷ absent (entry_at rows to)
    ∷ parent_writable who rows from
    ∷ parent_writable who rows to
    ∷ []))
    (done volumes (renamed rows from to))

-- Unlink: not there; a directory; the directory above may not be written.
abbrev pub file_unlinked : Volumes → Asker → Path → Outcome
file_unlinked volumes who path =
    let rows = volumes.rows in
    after_tests volumes
    (first_of (ancestors who rows path ∷ there (entry_at rows path) ∷ file (entry_at rows path) ∷ parent_writable who rows path ∷ []))
    (done volumes (without_row rows path))

-- Rmdir: not there; not a directory; not empty; the directory above may not be written.
abbrev pub directory_removed : Volumes → Asker → Path → Outcome
directory_removed volumes who path =
    let rows = volumes.rows in
    after_tests volumes
    (first_of
    (ancestors who rows path ∷ there (entry_at rows path) ∷ directory (entry_at rows path) ∷ empty rows path ∷ parent_writable who rows path ∷ []))
    (done volumes (without_row rows path))

-- List: not there; not a directory; it may not be read.
abbrev pub names_listed : Volumes → Asker → Name → Path → Outcome
names_listed volumes who after path =
    let rows = volumes.rows in
    after_tests volumes
    (first_of
    (ancestors who rows path ∷ there (entry_at rows path) ∷ directory (entry_at rows path) ∷ allowed who reading rule_of_read (entry_at rows path) ∷ []))
    (tells volumes (answer.Names (page_of rows path after)))

abbrev pub kind_of : Content → RowKind
kind_of content.Directory = row_kind.Directory
kind_of (content.File stored) = row_kind.File

-- the answer about an entry
abbrev pub row_told : Volumes → Option Entry → Outcome
row_told volumes None = refused volumes refusal.NotFound
row_told volumes (Some entry) =
    tells volumes (answer.Row (kind_of entry.content) entry.owner entry.group entry.mode (mark_of entry.content))

-- Stat: not there.
abbrev pub entry_told : Volumes → Asker → Path → Outcome
entry_told volumes who path =
    let rows = volumes.rows in after_tests volumes (ancestors who rows path) (row_told volumes (entry_at rows path))

-- an entry's mode is set
abbrev pub mode_put : Volumes → Path → ℕ → Option Entry → Outcome
mode_put volumes path mode None = refused volumes refusal.NotFound
mode_put volumes path mode (Some entry) =
    done volumes (with_row volumes.rows (record { path = path; entry = record entry { mode = mode } }))

-- Chmod: not there; not the owner.
abbrev pub mode_set : Volumes → Asker → ℕ → Path → Outcome
mode_set volumes who mode path =
    let rows = volumes.rows in
    after_tests volumes (first_of (ancestors who rows path ∷ there (entry_at rows path) ∷ owned who (entry_at rows path) ∷ []))
    (mode_put volumes path mode (entry_at rows path))

-- two paths, of which either may be bad
abbrev pub on_paths : Volumes → Option Path → Option Path → (Path → Path → Outcome) → Outcome
on_paths volumes (Some from) (Some to) on = on from to
on_paths volumes _ _ on = refused volumes refusal.NameBad

-- A request, by its kind. The root is only listed, and a file is in a volume. Grants and reports, and what is asked of a file's
-- list, are handled beside it.
abbrev pub applied : Volumes → Asker → Picked → MetaReq → Outcome
applied volumes who place (ask.Mkdir path mode) = on_path volumes (has_names 1 (path_in path)) (directory_made volumes who mode)
applied volumes who place (ask.Create path mode kind n stripe) = on_path volumes (has_names 2 (path_in path)) (file_made volumes who mode place)
applied volumes who place (ask.Rename from to) = on_paths volumes (has_names 1 (path_in from)) (has_names 1 (path_in to)) (path_renamed volumes who)
applied volumes who place (ask.Unlink path) = on_path volumes (has_names 1 (path_in path)) (file_unlinked volumes who)
applied volumes who place (ask.Rmdir path) = on_path volumes (has_names 1 (path_in path)) (directory_removed volumes who)
applied volumes who place (ask.List path after) = on_path volumes (path_in path) (names_listed volumes who after)
applied volumes who place (ask.Stat path) = on_path volumes (has_names 1 (path_in path)) (entry_told volumes who)
applied volumes who place (ask.Chmod path mode) = on_path volumes (has_names 1 (path_in path)) (mode_set volumes who mode)
applied volumes who place (ask.Grant path want) = tells volumes answer.Done
applied volumes who place (ask.Report capability mark) = tells volumes answer.Done
applied volumes who place (ask.Change path nodes) = tells volumes answer.Done
applied volumes who place (ask.Locate path) = tells volumes answer.Done
