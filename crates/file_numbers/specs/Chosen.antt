-- the lists that were chosen for a file, and those that became the file's, by the records of a metadata server, and what follows from them
use Rattle.std.specs.Prelude.{ℕ, ◌≡◌, ◌≤◌, ◌+◌, ◌⊎◌, Bool, if◌then◌else◌, Option, Some, None, List, [], ◌∷◌, ◌++◌, length}
use Rattle.std.specs.List.{filter_map}
use Rattle.xt_base.specs.declared.ids.FileId.{FileId}
use Rattle.xt_messages.specs.declared.file.Location.{Location}
use Rattle.xt_messages.specs.declared.record.Record.{Record}
use Rattle.xt_messages.specs.declared.record.Record.TheVariants as kept
use Rattle.xt_protocol.specs.FileIds.{is_file}
use Rattle.change_rows.specs.declared.Choice.{Choice}
use Rattle.change_rows.specs.Coordinating.{Running}

-- the list of the file in the record of a choice
abbrev pub list_chosen : FileId → Record → Option Location
list_chosen file (kept.Choice f location head source) = if is_file f file then Some location else None
list_chosen file (kept.OldChoice f location head source) = if is_file f file then Some location else None
list_chosen file _ = None

-- the lists that were chosen for the file, the first one first
abbrev pub lists_chosen : FileId → List Record → List Location
lists_chosen file records = filter_map (list_chosen file) records

-- the version of the list that is the file's from this record on
abbrev pub version_listed : FileId → Record → Option ℕ
version_listed file (kept.Listed f version) = if is_file f file then Some version else None
version_listed file _ = None

abbrev pub versions_listed : FileId → List Record → List ℕ
versions_listed file records = filter_map (version_listed file) records

-- a list of the version after another one's, which differs in its members alone
pub record IsNextList (old new : Location) : Type 0 where
  pub version : new.version ≡ old.version + 1
  pub kind : new.kind ≡ old.kind
  pub stripe : new.stripe ≡ old.stripe

-- each of these lists comes after the one before it, and the first after this one
abbrev pub FollowOn : Location → List Location → Type 0
FollowOn old [] = Unit {0}
FollowOn old (new ∷ later) = IsNextList old new × FollowOn new later

-- the last of these lists, or this one where there is none
abbrev pub last_of : Location → List Location → Location
last_of made [] = made
last_of made (list ∷ later) = last_of list later

-- these numbers count up from this one
abbrev pub CountUp : ℕ → List ℕ → Type 0
CountUp from [] = Unit {0}
CountUp from (number ∷ later) = (number ≡ from) × CountUp (from + 1) later

-- as many lists became the file's as were chosen, or one less, where the last one hasn't yet
abbrev pub AreAsMany : List Location → List ℕ → Bool → Type 0
AreAsMany chosen listed ended = length chosen ≡ (if ended then length listed else length listed + 1)

-- A file's change among the lists that were chosen so far: one without a choice begins at the last list; one with a choice led to it.
abbrev pub Leads : Location → List Location → List ℕ → Running → Option Choice → Type 0
Leads made chosen listed r None = (r.change.before ≡ last_of made chosen) × (length chosen ≡ length listed)
Leads made chosen listed r (Some choice) =
    (earlier : List Location) × (chosen ≡ earlier ++ choice.location ∷ []) × (r.change.before ≡ last_of made earlier) × AreAsMany chosen listed r.listed

-- A file without a change has never had one, or no row is of its number any more.
abbrev pub Stands : Location → List Location → List ℕ → ℕ → Option Running → Type 0
Stands made chosen listed rows None = ((chosen ≡ []) × (listed ≡ [])) ⊎ ((rows ≡ 0) × (length listed ≤ length chosen))
Stands made chosen listed rows (Some r) = Leads made chosen listed r r.choice
