-- what always holds of the files of a metadata server that changes lists, and of what its records say of them
use Rattle.std.specs.Prelude.{ℕ, ◌≡◌, ◌+◌, ◌⊎◌, List, [], length}
use Rattle.xt_base.specs.TimeSettings.{TimeSettings}
use Rattle.xt_base.specs.declared.ids.FileId.{FileId}
use Rattle.xt_messages.specs.declared.file.Location.{Location}
use Rattle.xt_messages.specs.declared.record.Record.{Record}
use Rattle.lease_safety.specs.State.{Has}
use Rattle.server_rows.specs.Naming.{Made, IsMadeAs, Holds}
use Rattle.change_rows.specs.Coordinating.{Running, file_of, running_of}
use Rattle.list_changes.specs.Recorded.{Recorded, recorded_of}
use Rattle.list_changes.specs.Laws.{without_clients}
use Rattle.file_numbers.specs.Numbers.{NumbersFit, rows_numbered}
use Rattle.file_numbers.specs.Chosen.{lists_chosen, versions_listed, FollowOn, CountUp, Stands}

-- the file was made, somewhere
abbrev pub IsMade : Made → FileId → Type 0
IsMade made file = (place : Location) × IsMadeAs made file place

-- each file was made with its first list
abbrev pub AreFirst : Made → Type 0
AreFirst made = (file : FileId) (place : Location) → IsMadeAs made file place → place.version ≡ 1

-- nothing was chosen for the file, and nothing became its list
pub record IsUntouched (records : List Record) (file : FileId) : Type 0 where
  pub chosen : lists_chosen file records ≡ []
  pub listed : versions_listed file records ≡ []

-- the lists that were chosen for a file come one after the other, the first after the one with which the file was made; those that became the
-- file's did so in their order; and the file's change stands among them
pub record FileFits (records : List Record) (known : Recorded) (file : FileId) (place : Location) : Type 0 where
  pub follow : FollowOn place (lists_chosen file records)
  pub listed : CountUp 2 (versions_listed file records)
  pub stands : Stands place (lists_chosen file records) (versions_listed file records) (rows_numbered file.number known.catalogue.volumes.rows)
      (running_of known.running file)

-- What these records say, where this is known by them: the numbers of files fit, and rows name files as they were made; files are made with
-- their first lists; only files that were made have a change, or a list that was chosen for them; and the lists of each file fit.
pub record Fit (records : List Record) (known : Recorded) : Type 0 where
  pub numbers : NumbersFit known.catalogue.volumes
  pub files : Holds (without_clients known.catalogue)
  pub first : AreFirst known.catalogue.made
  pub changed : (r : Running) → Has r known.running → IsMade known.catalogue.made (file_of r)
  pub touched : (file : FileId) → IsUntouched records file ⊎ IsMade known.catalogue.made file
  pub each : (file : FileId) (place : Location) → IsMadeAs known.catalogue.made file place → FileFits records known file place

-- So are the records of a metadata server.
abbrev pub ListsFit : List ℕ → TimeSettings → List Record → Type 0
ListsFit key times records = Fit records (recorded_of key times records)

-- this list is the one with which the file was made, or one of those that were chosen
abbrev pub IsOneOf : Location → List Location → Location → Type 0
IsOneOf made chosen list = (list ≡ made) ⊎ Has list chosen

-- the version of a file's list in force: the one after as many as became the file's
abbrev pub IsInForce : Location → List ℕ → Location → Type 0
IsInForce made listed list = list.version ≡ made.version + length listed
