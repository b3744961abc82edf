-- what is found of the bodies of a store, as they were read
use Rattle.std.specs.Prelude.{◌≡◌, Bool, IsTrue, List}
use Rattle.std.specs.List.{AllZip}
use Rattle.xt_messages.specs.declared.record.Record.{Record}
use Rattle.xt_protocol.specs.Folds.{fold_of}
use Rattle.replica_records.specs.Known.{Sees}
use Rattle.scrub.specs.declared.found.Found.{Found}
use Rattle.scrub.specs.declared.listing.Item.{Item}
use Rattle.scrub.specs.Items.{items_of}
use Rattle.scrub.specs.Reading.{HasBody}
use Rattle.scrub.specs.Report.{found_of, body_of_item, report_of, seals_of}
use Rattle.scrub_job.specs.declared.checking.Findings.{Findings}

-- the bodies that are checked of these records
abbrev pub items_in : List Record → List Item
items_in records = items_of (fold_of records) records

-- Whoever reads the bodies of records of which this much is known finds one for this item.
abbrev pub IsThere : Bool → List Record → Item → Type 0
IsThere told known item = (seen : List Record) → Sees told known seen → HasBody seen item

-- This is found of an item of records of which this much is known, by its body as it was read.
pub record IsFound (told : Bool) (known : List Record) (item : Item) (found : Found) : Type 0 where
  pub seen : List Record
  pub sees : Sees told known seen
  pub is : found ≡ found_of item (body_of_item seen item)

-- so of each of these items, in order
abbrev pub AreFound : Bool → List Record → List Item → List Found → Type 0
AreFound told known items report = AllZip (IsFound told known) items report

-- The report on the bodies of records of which this much is known: what is found of each. Where contracts know what the disk keeps, it is
-- that of one item after the other of the definition.
pub record IsReportOn (told : Bool) (known : List Record) (report : List Found) : Type 0 where
  pub each : AreFound told known (items_in known) report
  pub sure : IsTrue told → report ≡ report_of known (items_in known)

-- the report, and the seals of the new ones
pub record HasFound (told : Bool) (known : List Record) (findings : Findings) : Type 0 where
  pub is : IsReportOn told known findings.report.items
  pub new : findings.seals.items ≡ seals_of (items_in known) findings.report.items
