-- what a replica shows
use Rattle.std.specs.Prelude.{List}
use Rattle.disk_model.specs.declared.disk.Disk.{Ghosts}
use Rattle.xt_messages.specs.declared.record.Record.{Record}
use Rattle.object_store.specs.declared.store.Store.{Store}
use Rattle.object_store.specs.Access as store
use Rattle.ronly_replica.specs.declared.pin.Pin.{Pin}
use Rattle.ronly_replica.specs.declared.replica.Ronly.{Ronly}

module _ {D : Type 0} {g : Ghosts D} where
  abbrev pub store_of : Ronly D g → Store D g
  store_of replica = replica.store

  abbrev pub pin_of : Ronly D g → Pin
  pin_of replica = replica.pin

  abbrev pub disk_of : Ronly D g → D
  disk_of replica = store.disk_of replica.store

  -- the records that it keeps, as contracts know them
  abbrev pub records_of : Ronly D g → List Record
  records_of replica = store.records_of replica.store
