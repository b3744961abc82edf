-- the tests of a request, each with its refusal
use Rattle.std.specs.Prelude.{ℕ, Bool, true, false, ◌==◌, not, ◌*◌, ◌/◌, ◌%◌, if◌then◌else◌, Option, Some, None, List, [], ◌∷◌, ◌++◌, length}
use Rattle.std.specs.Str.{bytes_eq}
use Rattle.xt_messages.specs.declared.meta.MetaRefusal.{MetaRefusal}
use Rattle.xt_messages.specs.declared.meta.MetaRefusal.TheVariants as refusal
use Rattle.volume_rows.specs.declared.Asker.{Asker}
use Rattle.volume_rows.specs.declared.Entry.{Entry}
use Rattle.volume_rows.specs.declared.Content.{Content}
use Rattle.volume_rows.specs.declared.Content.TheVariants as content
use Rattle.volume_rows.specs.Paths.{Path, is_within, parent_of}
use Rattle.volume_rows.specs.Rows.{Row, entry_at, names_in}

-- what a bit of a mode allows: reading, writing or searching
abbrev pub reading : ℕ
reading = 4

abbrev pub writing : ℕ
writing = 2

abbrev pub searching : ℕ
searching = 1

-- which three bits of a mode count: bits 6 to 8 for the owner, else 3 to 5 for the owner's group, else 0 to 2
abbrev pub scale_of : Asker → Entry → ℕ
scale_of who entry = if who.user == entry.owner then 64 else if who.group == entry.group then 8 else 1

-- whether an entry's mode allows something
abbrev pub allows : Asker → ℕ → Entry → Bool
allows who right entry = entry.mode / (scale_of who entry * right) % 2 == 1

abbrev pub is_directory : Content → Bool
is_directory content.Directory = true
is_directory (content.File stored) = false

-- the rules of Forbidden
abbrev pub rule_of_search : MetaRefusal
rule_of_search = refusal.Forbidden 1

abbrev pub rule_of_write : MetaRefusal
rule_of_write = refusal.Forbidden 2

abbrev pub rule_of_read : MetaRefusal
rule_of_read = refusal.Forbidden 3

abbrev pub rule_of_owner : MetaRefusal
rule_of_owner = refusal.Forbidden 4

-- Tests: each gives its refusal where it fails.

-- the first refusal of tests in order
abbrev pub first_of : List (Option MetaRefusal) → Option MetaRefusal
first_of [] = None
first_of (Some answer ∷ tests) = Some answer
first_of (None ∷ tests) = first_of tests

abbrev pub unless : Bool → MetaRefusal → Option MetaRefusal
unless passed answer = if passed then None else Some answer

-- an ancestor is there, is a directory, and may be searched
abbrev pub passes : Asker → Option Entry → Option MetaRefusal
passes who None = Some refusal.NotFound
passes who (Some entry) =
    first_of (unless (is_directory entry.content) refusal.NotDir ∷ unless (allows who searching entry) rule_of_search ∷ [])

-- the ancestors of a path below another one, from the top down: the first that fails
abbrev pub ancestors_from : Asker → List Row → Path → Path → Option MetaRefusal
ancestors_from who rows above [] = None
ancestors_from who rows above (name ∷ []) = None
ancestors_from who rows above (name ∷ next ∷ names) =
    first_of (passes who (entry_at rows (above ++ name ∷ [])) ∷ ancestors_from who rows (above ++ name ∷ []) (next ∷ names) ∷ [])

abbrev pub ancestors : Asker → List Row → Path → Option MetaRefusal
ancestors who rows path = ancestors_from who rows [] path

abbrev pub there : Option Entry → Option MetaRefusal
there None = Some refusal.NotFound
there (Some entry) = None

abbrev pub absent : Option Entry → Option MetaRefusal
absent None = None
absent (Some entry) = Some refusal.Exists

abbrev pub directory : Option Entry → Option MetaRefusal
directory None = None
directory (Some entry) = unless (is_directory entry.content) refusal.NotDir

abbrev pub file : Option Entry → Option MetaRefusal
file None = None
file (Some entry) = unless (not (is_directory entry.content)) refusal.IsDir

abbrev pub allowed : Asker → ℕ → MetaRefusal → Option Entry → Option MetaRefusal
allowed who right rule None = None
allowed who right rule (Some entry) = unless (allows who right entry) rule

abbrev pub owned : Asker → Option Entry → Option MetaRefusal
owned who None = None
owned who (Some entry) = unless (who.user == entry.owner) rule_of_owner

-- the directory that a path is in may be written
abbrev pub parent_writable : Asker → List Row → Path → Option MetaRefusal
parent_writable who rows path = allowed who writing rule_of_write (entry_at rows (parent_of path))

-- nothing is in a directory
abbrev pub empty : List Row → Path → Option MetaRefusal
empty rows path = unless (length (names_in rows path) == 0) refusal.NotEmpty

-- two paths are below the same volume
abbrev pub same_volume : Path → Path → Option MetaRefusal
same_volume (volume ∷ name ∷ names) (other ∷ target ∷ targets) = unless (bytes_eq volume other) refusal.OtherVolume
same_volume _ _ = Some refusal.OtherVolume

-- a path isn't another one, nor below it
abbrev pub outside : Path → Path → Option MetaRefusal
outside from to = unless (not (is_within from to)) refusal.IntoSelf
