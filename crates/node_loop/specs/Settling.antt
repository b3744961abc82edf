-- a look at the records of a served node after a Wake
use Rattle.std.specs.Prelude.{ℕ, ◌≡◌, List, [], ◌∷◌, Result, IfOk, IfErr}
use Rattle.disk_model.specs.declared.disk.Disk.{Ghosts}
use Rattle.xt_messages.specs.declared.record.Record.{Record}
use Rattle.object_store.specs.declared.store.Store.{Store}
use Rattle.object_store.specs.Access.{records_of, disk_of}
use Rattle.node_runs.specs.Keeping.{KeepsOn}
use Rattle.node_runs.specs.Runs.{Role, Served}
use Rattle.node_runs.specs.BatchEnds.{KeepsDoing}
use Rattle.node_loop.specs.Passing.{Settles}
use Rattle.node_loop.specs.declared.event.Ended.{Ended}
use Rattle.node_loop.specs.declared.site.Site.{Site}
use Rattle.node_loop.specs.Events.{HasDiskCause}
use Rattle.node_loop.specs.Stores.{journal_at}
use Rattle.node_loop.specs.Turns.{standing, EndsSettling}

-- the node as the loop holds it, with its records in this store
abbrev pub served_of : {N S D : Type 0} {d : Ghosts D} → (N → S) → Site N → Store D d → Served S
served_of state site store =
    standing (state site.node) (records_of store) (journal_at store) site.own site.ears site.clock site.due site.sender.count site.woken

-- The node has looked at its records after a Wake. Nothing changes but its core, its records, and that no look is due.
pub record HasSettled {N S D : Type 0} {d : Ghosts D} (role : N → Role S) (state : N → S) (runs_on : N → List Record → Type 0) (old new : Site N) (store : Store D d)
    (result : Result (Store D d) (Ended D)) : Type 0 where
  pub same : (new.sender ≡ old.sender) × (new.ears ≡ old.ears) × (new.own ≡ old.own) × (new.clock ≡ old.clock) × (new.due ≡ old.due)
  pub same_role : IfOk result (λ kept. role new.node ≡ role old.node)
  pub runs : IfOk result (λ kept. runs_on new.node (records_of kept))
  -- at `Ok` they were rewritten or left
  pub settles : (period : ℕ) → IfOk result (λ kept.
      Settles d.is_told (role old.node) old.sender.boot period (served_of state old store) (served_of state new kept))
  -- at `Err` it ended the node
  pub ends : (period : ℕ) → IfErr result (λ ended.
      EndsSettling (role old.node) old.sender.boot period (served_of state old store)
      (KeepsDoing d.is_told d.moment d.left_since (disk_of store) ended.disk (records_of store)) ended.status)
  -- the disk kept the old records, and keeps the new ones; no call of it failed
  pub keeps : IfOk result (λ kept. KeepsOn d.is_told d.moment d.left_since (disk_of store) (disk_of kept) (records_of store ∷ records_of kept ∷ []))
  pub disk : IfOk result (λ kept. d.fault_count (disk_of kept) ≡ d.fault_count (disk_of store))
  pub disk_cause : IfErr result (λ ended. HasDiskCause (d.fault_count (disk_of store)) (d.fault_count ended.disk) ended.status)
