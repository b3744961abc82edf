-- records that are put after others, with bodies that are copied from a store
use Rattle.std.specs.Prelude.{◌≡◌, ◌++◌, List}
use Rattle.std.specs.List.{All}
use Rattle.disk_model.specs.declared.disk.Disk.{Ghosts}
use Rattle.xt_messages.specs.declared.record.Record.{Record}
use Rattle.object_store.specs.declared.copied.Copied.{Copied}
use Rattle.object_store.specs.declared.store.Store.{Store}
use Rattle.object_store.specs.Access.{disk_of, log_of}
use Rattle.object_store.specs.Copying.{IsCopiedFrom, copied, copied_in}
use Rattle.object_store.specs.Logs.{places_in}

-- a record that puts no body
abbrev pub plain : Record → Copied
plain rec = record { bare = rec; body = record { at = 0; len = 0 } }

module _ {D : Type 0} {g : Ghosts D} where
  -- a record with its body, as contracts know it from the store's disk
  abbrev pub copied_of : Store D g → Copied → Record
  copied_of store made = copied_in g.is_told (g.kept (disk_of store)).read made

  abbrev pub all_copied_of : Store D g → List Copied → List Record
  all_copied_of store made = copied g.is_told (g.kept (disk_of store)).read made

  -- its body is empty, or is one of the store's
  abbrev pub IsOf : Store D g → Copied → Type 0
  IsOf store made = IsCopiedFrom (places_in (log_of store)) made

-- These records come after the old ones, and their bodies are the store's.
pub record AreAdded {D : Type 0} {g : Ghosts D} (store : Store D g) (old new : List Copied) (added : List Record) : Type 0 where
  pub are : all_copied_of store new ≡ all_copied_of store old ++ added
  pub of : All (IsOf store) old → All (IsOf store) new
