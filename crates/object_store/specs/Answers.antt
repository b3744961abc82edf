-- What putting answers.
use Rattle.std.specs.Prelude.{ℕ, Option, None, Some, Result, Ok, Err}
use Rattle.disk_model.specs.declared.disk.Disk.{Ghosts}
use Rattle.object_store.specs.declared.store.Store.{Store}
use Rattle.object_store.specs.declared.errors.AppendErr.{AppendErr}
use Rattle.object_store.specs.declared.errors.AppendErr.TheVariants as append
use Rattle.object_store.specs.declared.errors.PutAllErr.{PutAllErr}
use Rattle.object_store.specs.declared.errors.PutAllErr.TheVariants as put
use Rattle.object_store.specs.Access.{disk_of}

module _ {D : Type 0} {g : Ghosts D} where
  -- the disk that a put hands back
  abbrev pub disk_after_put : Result (Store D g) (AppendErr D g) → D
  disk_after_put (Ok store) = disk_of store
  disk_after_put (Err (append.Broken count disk)) = disk
  disk_after_put (Err (append.Full store need limit)) = disk_of store
  disk_after_put (Err (append.OutOfMemory store)) = disk_of store

  -- the count of faults that a put reports
  abbrev pub put_fault : Result (Store D g) (AppendErr D g) → Option ℕ
  put_fault (Ok store) = None
  put_fault (Err (append.Broken count disk)) = Some count
  put_fault (Err (append.Full store need limit)) = None
  put_fault (Err (append.OutOfMemory store)) = None

  -- the same of a put of several records
  abbrev pub disk_after_put_all : Result (Store D g) (PutAllErr D) → D
  disk_after_put_all (Ok store) = disk_of store
  disk_after_put_all (Err (put.Broken count disk)) = disk
  disk_after_put_all (Err (put.OutOfMemory disk)) = disk

  abbrev pub put_all_fault : Result (Store D g) (PutAllErr D) → Option ℕ
  put_all_fault (Ok store) = None
  put_all_fault (Err (put.Broken count disk)) = Some count
  put_all_fault (Err (put.OutOfMemory disk)) = None
