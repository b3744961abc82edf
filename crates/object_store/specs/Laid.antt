-- whether a store's log has the places of the bodies in its journal
use Rattle.std.specs.Prelude.{◌≡◌, Bool, Option, List, IsTrue}
use Rattle.std.proofs.Props.{props}
use Rattle.journal_areas.specs.declared.superblock.Superblock.{Superblock}
use Rattle.xt_messages.specs.declared.record.Record.{Record}
use Rattle.xt_journal.specs.Reading.{placed_in}
use Rattle.object_store.specs.declared.log.StoreLog.{StoreLog}
use Rattle.object_store.specs.Logs.{places_in}
use Rattle.object_store.specs.Places.{places_of}
use Rattle.object_store.specs.Texts.{texts_of}

-- Its places are those of the bodies of these records, in a journal with this superblock or none.
abbrev pub IsLaid : Option Superblock → List Record → StoreLog → Type 0
IsLaid super records log = places_in log ≡ places_of (placed_in super (texts_of records)) records

pub told_laid_prop : (told : Bool) (super : Option Superblock) (records : List Record) (log : StoreLog) → IsProp (IsTrue told → IsLaid super records log)
told_laid_prop told super records log = hlevel props
