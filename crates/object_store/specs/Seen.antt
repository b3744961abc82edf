-- what a reader of a store shows
use Rattle.std.specs.Prelude.{List}
use Rattle.disk_model.specs.declared.disk.Disk.{Ghosts}
use Rattle.xt_messages.specs.declared.record.Record.{Record}
use Rattle.object_store.specs.declared.read_body.ReadBody.{ReadBody}
use Rattle.object_store.specs.declared.reader.Reader.{Reader}
use Rattle.object_store.specs.declared.store.Store.{Store}
use Rattle.object_store.specs.Access.{records_of}
use Rattle.object_store.specs.Readers.{Agrees}

module _ {D : Type 0} {g : Ghosts D} where
  abbrev pub store_of : Reader D g → Store D g
  store_of reader = reader.store.now

  -- what was read of it
  abbrev pub read_of : Reader D g → List ReadBody
  read_of reader = reader.read.items

  -- These records agree with what is known of the store and with what was read of it.
  abbrev pub agreed : Reader D g → List Record → Type 0
  agreed reader records = Agrees g.is_told (records_of (store_of reader)) (read_of reader) records
