-- what the servers know and give is within its limits
use Rattle.std.specs.Prelude.{◌<◌, ◌≤◌, ◌^◌, ℕ, List, IfSome, IsTrue}
use Rattle.std.specs.List.{AllByRecursion}
use Rattle.xt_base.specs.FieldLimits.{IsCount, FitsName}
use Rattle.xt_base.specs.MemberList.{are_distinct}
use Rattle.xt_messages.specs.declared.meta.MetaAnswer.{MetaAnswer}
use Rattle.xt_messages.specs.declared.registry.RegistryAnswer.{RegistryAnswer}
use Rattle.xt_messages.specs.declared.event.Mark.{Mark}
use Rattle.xt_messages.specs.declared.event.Mark.TheVariants as mark
use Rattle.xt_messages.specs.declared.record.Record.{Record}
use Rattle.xt_messages.specs.declared.record.Record.TheVariants as kept
use Rattle.xt_messages.specs.Limits.{FitsNode, FitsFile, FitsLocation, FitsMark, FitsMetaAnswer, FitsRegistryAnswer, FitsRow, FitsMessage, FitsRecord}
use Rattle.xt_protocol.specs.declared.turned.Turned.{Turned}
use Rattle.reply_cache.specs.declared.Kept.{Kept}
use Rattle.registry_table.specs.Registry.{Rows, shown}
use Rattle.volume_rows.specs.declared.Entry.{Entry}
use Rattle.volume_rows.specs.declared.Stored.{Stored}
use Rattle.volume_rows.specs.declared.Content.{Content}
use Rattle.volume_rows.specs.declared.Content.TheVariants as content
use Rattle.volume_rows.specs.Rows.{Row, Volumes}
use Rattle.server_rows.specs.declared.MadeFile.{MadeFile}
use Rattle.server_rows.specs.Metadata.{Catalogue, MrcState, MrcStep}
use Rattle.server_rows.specs.Directory.{DirState, DirStep}

-- ---- what a step gives

-- a file's number that a metadata server gives
pub record IsGiven (number : ℕ) : Type 0 where
  pub least : 1000000 ≤ number
  pub most : number < 2 ^ 62

-- a server marks nothing but files that it made
abbrev pub FitsShown : Mark → Type 0
FitsShown (mark.File file location) = IsGiven file.number × FitsFile file × FitsLocation location
FitsShown _ = ⊥

-- a server keeps the records of requests, and no others
abbrev pub FitsKept : Record → Type 0
FitsKept (kept.Meta from number now nodes request) = FitsRecord (kept.Meta from number now nodes request)
FitsKept _ = ⊥

pub record FitsTurned (turned : Turned) : Type 0 where
  pub kept : IfSome turned.rec FitsKept
  pub messages : AllByRecursion FitsMessage turned.outs
  pub marks : AllByRecursion FitsShown turned.marks

-- ---- the directory service

abbrev pub FitsRows : Rows → Type 0
FitsRows rows = AllByRecursion (λ row. FitsRow (shown row)) rows

abbrev pub FitsRegistryAnswers : List (ℕ × Kept RegistryAnswer) → Type 0
FitsRegistryAnswers clients = AllByRecursion (λ last. FitsRegistryAnswer last.1.answer) clients

pub record FitsDir (dir : DirState) : Type 0 where
  pub rows : FitsRows dir.rows
  pub answers : FitsRegistryAnswers dir.clients

pub record FitsDirStep (step : DirStep) : Type 0 where
  pub state : FitsDir step.dir
  pub gives : FitsTurned step.turned

-- ---- the metadata server

pub record FitsStored (stored : Stored) : Type 0 where
  pub own : IsCount stored.number
  pub place : FitsLocation stored.location
  pub issued : IsCount stored.epoch
  pub size : FitsMark stored.mark

abbrev pub FitsContent : Content → Type 0
FitsContent content.Directory = Unit {0}
FitsContent (content.File stored) = FitsStored stored

pub record FitsEntry (entry : Entry) : Type 0 where
  pub user : entry.owner < 2 ^ 32
  pub users : entry.group < 2 ^ 32
  pub rights : entry.mode < 2 ^ 16
  pub what : FitsContent entry.content

pub record FitsPlace (row : Row) : Type 0 where
  pub names : AllByRecursion FitsName row.path
  pub stands : FitsEntry row.entry

-- the next number is the first that is given or a later one; after the last one none is left
pub record FitsVolumes (volumes : Volumes) : Type 0 where
  pub rows : AllByRecursion FitsPlace volumes.rows
  pub least : 1000000 ≤ volumes.next
  pub most : volumes.next ≤ 2 ^ 62

pub record FitsMade (which : MadeFile) : Type 0 where
  pub own : FitsFile which.file
  pub given : IsGiven which.file.number
  pub place : FitsLocation which.location

abbrev pub AreMade : List (ℕ × MadeFile) → Type 0
AreMade made = AllByRecursion (λ entry. FitsMade entry.1) made

abbrev pub FitsMetaAnswers : List (ℕ × Kept MetaAnswer) → Type 0
FitsMetaAnswers clients = AllByRecursion (λ last. FitsMetaAnswer last.1.answer) clients

pub record FitsCatalogue (catalogue : Catalogue) : Type 0 where
  pub volumes : FitsVolumes catalogue.volumes
  pub made : AreMade catalogue.made
  pub answers : FitsMetaAnswers catalogue.clients

pub record FitsMrc (mrc : MrcState) : Type 0 where
  pub catalogue : FitsCatalogue mrc.catalogue
  pub different : IsTrue (are_distinct mrc.osds)
  pub nodes : AllByRecursion FitsNode mrc.osds
  pub clock : mrc.last < 2 ^ 62

pub record FitsMrcStep (step : MrcStep) : Type 0 where
  pub state : FitsMrc step.mrc
  pub gives : FitsTurned step.turned
