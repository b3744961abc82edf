-- records that wait to be put after those of a store
use Rattle.std.specs.Prelude.{ℕ, ◌≡◌, ◌+◌, ◌<◌, ◌≤◌, true, List, [], ◌∷◌, ◌++◌, length, Result, Ok, Err}
use Rattle.std.specs.List.{fold}
use Rattle.disk_model.specs.declared.disk.Disk.{Ghosts}
use Rattle.xt_base.specs.Faults.{counted}
use Rattle.xt_messages.specs.declared.record.Record.{Record}
use Rattle.xt_protocol.specs.Folds.{fold_of, AreInPlace}
use Rattle.xt_journal.specs.Access.{place_of, limit_of}
use Rattle.replica_records.specs.Known.{as_known, known_of}
use Rattle.replica_records.specs.RecordText.{record_text}
use Rattle.xt_journal.specs.Format.{open_gate, record_of}
use Rattle.xt_journal.specs.Reading.{placed_from}
use Rattle.object_store.specs.declared.log.StoreLog.{StoreLog}
use Rattle.object_store.specs.declared.store.Store.{Store}
use Rattle.object_store.specs.declared.waiting.Waiting.{Waiting}
use Rattle.object_store.specs.declared.waiting.StageErr.{StageErr}
use Rattle.object_store.specs.declared.waiting.StageErr.TheVariants.{Full, OutOfMemory}
use Rattle.object_store.specs.Access.{journal_of, records_of}
use Rattle.object_store.specs.Bare.{bare_of}
use Rattle.object_store.specs.Logs.{bare_in, places_in, records_in}
use Rattle.object_store.specs.Places.{places_of}

-- their bytes, as they will be on the disk from the journal's end on: each payload after an open gate and its length
abbrev pub bytes_of : Waiting → List ℕ
bytes_of waiting = waiting.bytes.items

-- the records that wait, the first of them first
abbrev pub recs_of : Waiting → List Record
recs_of waiting = records_in true waiting.bytes.items waiting.log

-- where a journal ends with these records that ended here: each has a gate, a length and its payload
abbrev pub end_after : ℕ → List Record → ℕ
end_after end recs = fold (λ e rec. e + (5 + length (record_text rec))) end recs

-- How long a journal has to be for these records that ends here: they, and the next gate. Nothing is needed for none.
abbrev pub needed_after : ℕ → List Record → ℕ
needed_after end [] = 0
needed_after end (rec ∷ []) = end + (6 + length (record_text rec))
needed_after end (rec ∷ (next ∷ recs)) = needed_after (end + (5 + length (record_text rec))) (next ∷ recs)

module _ {D : Type 0} {g : Ghosts D} where
  -- the records of a store, and after them what is known of those that wait
  abbrev pub records_with : Store D g → List Record → List Record
  records_with store recs = records_of store ++ known_of g.is_told recs

  -- where the journal ends once these are put
  abbrev pub end_with : Store D g → List Record → ℕ
  end_with store recs = end_after (place_of (journal_of store)) recs

-- These records can be put after those of the store: each is in its place, and there is room for all.
pub record CanBePut {D : Type 0} {g : Ghosts D} (store : Store D g) (recs : List Record) : Type 0 where
  pub placed : AreInPlace (fold_of (records_of store)) recs
  pub room : needed_after (place_of (journal_of store)) recs ≤ limit_of (journal_of store)

-- A record more waits after the others, and all of them can be put.
pub record IsStaged {D : Type 0} {g : Ghosts D} (store : Store D g) (old : Waiting) (rec : Record) (new : Waiting) : Type 0 where
  pub recs : recs_of new ≡ recs_of old ++ rec ∷ []
  pub known : records_with store (recs_of new) ≡ records_with store (recs_of old) ++ as_known g.is_told rec ∷ []
  pub end : end_with store (recs_of new) ≡ end_with store (recs_of old) + (5 + length (record_text rec))
  pub size : length (bytes_of new) ≡ length (bytes_of old) + (5 + length (record_text rec))
  pub room : end_with store (recs_of old) + (6 + length (record_text rec)) ≤ limit_of (journal_of store)
  pub can : CanBePut store (recs_of new)

-- The journal would need this many bytes, which is more than its limit. Both are reported.
pub record IsOverLimit {D : Type 0} {g : Ghosts D} (store : Store D g) (needed need limit : ℕ) : Type 0 where
  pub over : limit_of (journal_of store) < needed
  pub need_is : need ≡ counted needed
  pub limit_is : limit ≡ limit_of (journal_of store)

-- why a record isn't staged, for which the journal would need this many bytes
abbrev pub IsRefused : {D : Type 0} {g : Ghosts D} → Store D g → ℕ → StageErr → Type 0
IsRefused store needed (Full need limit) = IsOverLimit store needed need limit
IsRefused store needed OutOfMemory = Unit {0}

-- nothing waits but what waited before
abbrev pub IsStill : Waiting → Waiting → Type 0
IsStill old new = (recs_of new ≡ recs_of old) × (bytes_of new ≡ bytes_of old)

-- how staging a record ends
abbrev pub Stages : {D T : Type 0} {g : Ghosts D} → Store D g → Waiting → Record → Waiting → Result T StageErr → Type 0
Stages store old rec new (Ok done) = IsStaged store old rec new
Stages store old rec new (Err (Full need limit)) =
    IsOverLimit store (end_with store (recs_of old) + (6 + length (record_text rec))) need limit × IsStill old new
Stages store old rec new (Err OutOfMemory) = IsStill old new

-- ---- the parts of what waits, while a record is added to them

-- it is after the others, and the journal has room for all of them
pub record IsAdded {D : Type 0} {g : Ghosts D} (store : Store D g) (rec : Record) (old new : List ℕ) (old_log new_log : StoreLog) : Type 0 where
  pub bytes : new ≡ old ++ open_gate ∷ record_of (record_text rec)
  pub bare : bare_in new_log ≡ bare_in old_log ++ bare_of (rec ∷ [])
  pub places : places_in new_log ≡ places_in old_log ++ places_of (placed_from (length old) (record_text rec ∷ [])) (rec ∷ [])
  pub room : (place_of (journal_of store) + length old) + (6 + length (record_text rec)) ≤ limit_of (journal_of store)

-- nothing was added
pub record IsUnadded (old new : List ℕ) (old_log new_log : StoreLog) : Type 0 where
  pub bytes : new ≡ old
  pub bare : bare_in new_log ≡ bare_in old_log
  pub places : places_in new_log ≡ places_in old_log

abbrev pub Adds : {D T : Type 0} {g : Ghosts D} → Store D g → Record → List ℕ → List ℕ → StoreLog → StoreLog → Result T StageErr → Type 0
Adds store rec old new old_log new_log (Ok done) = IsAdded store rec old new old_log new_log
Adds store rec old new old_log new_log (Err error) =
    IsUnadded old new old_log new_log × IsRefused store ((place_of (journal_of store) + length old) + (6 + length (record_text rec))) error
