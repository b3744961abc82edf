-- What those who call a store need of it.
use Rattle.std.proofs.Common.{◌≡◌, ◌++◌, ◌∷◌, [], ℕ, Bool, List, true, sym, ◌∙◌, ap, subst, Option, arith}
use Rattle.std.specs.List.{All}
use Rattle.std.proofs.lemmas.List.Elements.{All-append}
use Rattle.std.specs.Prelude.{IsTrue}
use Rattle.std.proofs.Props.{props}
use Rattle.std.proofs.Math.Logic.{∥∥₁_elim}
use Rattle.disk_model.specs.declared.disk.Disk.{Ghosts}
use Rattle.journal_areas.specs.declared.superblock.Superblock.{Superblock}
use Rattle.journal_moves.specs.declared.extent.Extent.{Extent}
use Rattle.journal_areas.proofs.Once.{stands_once}
use Rattle.xt_messages.specs.Limits.{FitsRecord}
use Rattle.xt_messages.specs.declared.record.Record.{Record}
use Rattle.xt_journal.specs.declared.journal.Journal.{Journal}
use Rattle.xt_journal.specs.Placed.{Placed, placed_on}
use Rattle.xt_journal.specs.Access.{disk_of, superblock_of}
use Rattle.xt_journal.specs.Format.{KeepsJournal, StandsIn}
use Rattle.xt_journal.specs.Reading.{IsTheReading, Stands, payloads_of, payloads_on, placed_in}
use Rattle.replica_records.specs.Known.{known_of, Sees}
use Rattle.replica_records.proofs.Known.{known_again, known_append, sees_told}
use Rattle.object_store.specs.declared.reader.Reader.{Reader}
use Rattle.object_store.specs.declared.store.Store.{Store}
use Rattle.object_store.specs.declared.waiting.Waiting.{Waiting}
use Rattle.object_store.specs.Access.{records_of}
use Rattle.object_store.specs.FitProps.{all_fit_prop}
use Rattle.object_store.specs.Layers.{AgreesOver}
use Rattle.object_store.specs.Loading.{ArePlaced, IsLoaded}
use Rattle.object_store.specs.Puts.{ArePut, IsPut}
use Rattle.object_store.specs.Seen.{agreed, store_of}
use Rattle.object_store.specs.Swaps.{IsSwapped}
use Rattle.object_store.specs.Waits.{CanBePut, records_with, recs_of}
use Rattle.object_store.proofs.Stored.{known_in, known_there}
use Rattle.object_store.proofs.Stores.{all_fit_known}

-- ---- loading

-- payloads are placed as the bytes are read
pub placed_as_read : (bytes : List ℕ) (super : Option Superblock) (placed : List Placed) → IsTheReading bytes (Stands placed) → StandsIn super bytes (payloads_of placed)
    → placed ≡ placed_in super (payloads_of placed)
placed_as_read bytes super placed reading stands =
    ∥∥₁_elim reading.reads (hlevel props)
    (λ read. read.1.places ∙ ap (λ (s : Option Superblock). placed_in s (payloads_of placed)) (stands_once bytes read.0 super (payloads_of placed) (payloads_of placed) read.1.stands stands).0)

module _ {D : Type 0} {g : Ghosts D} where
  -- what loading a journal ensures is what loading a store requires
  pub are_placed : (journal : Journal D g) (bytes : List ℕ) (extents : List Extent) → KeepsJournal (g.kept (disk_of journal)) (payloads_on bytes extents)
      → IsTheReading bytes (Stands (placed_on true bytes extents)) → StandsIn (superblock_of journal) bytes (payloads_on bytes extents)
      → placed_on true (g.kept (disk_of journal)).read extents ≡ placed_on true bytes extents → ArePlaced journal extents
  are_placed journal bytes extents keeps reading stands stays =
      let super = superblock_of journal in
      record {
        keeps = subst (λ (placed : List Placed). KeepsJournal (g.kept (disk_of journal)) (payloads_of placed)) (sym stays) keeps;
        places = subst (λ (placed : List Placed). placed ≡ placed_in super (payloads_of placed)) (sym stays) (placed_as_read bytes super (placed_on true bytes extents) reading stands);
      }

  -- ---- the very records, where contracts know what the disk keeps

  pub loaded_told : (journal : Journal D g) (payloads : List (List ℕ)) (store : Store D g) (is : IsLoaded journal payloads store) → IsTrue g.is_told → records_of store ≡ is.records
  loaded_told journal payloads store is told = is.known ∙ known_there g.is_told is.records told

  pub all_put_told : (old : Store D g) (recs : List Record) (new : Store D g) → ArePut old recs new → IsTrue g.is_told → records_of new ≡ records_of old ++ recs
  all_put_told old recs new is told = is.records ∙ ap (λ (l : List Record). records_of old ++ l) (known_there g.is_told recs told)

  pub put_told : (old : Store D g) (rec : Record) (new : Store D g) → IsPut old rec new → IsTrue g.is_told → records_of new ≡ records_of old ++ rec ∷ []
  put_told old rec new is told = all_put_told old (rec ∷ []) new is told

  pub swapped_told : (old : Store D g) (made : List Record) (new : Store D g) → IsSwapped old made new → IsTrue g.is_told → records_of new ≡ made
  swapped_told old made new is told = is.records ∙ known_there g.is_told made told

  -- what is known of a store is known
  pub store_known : (store : Store D g) → known_of g.is_told (records_of store) ≡ records_of store
  store_known store = known_in g.is_told (g.kept store.journal.disk).read store.log

  -- ---- records that wait

  -- none can always be put
  pub none_waits : (store : Store D g) → CanBePut store []
  none_waits store = record { placed = tt; room = omega arith }

  -- what is known of them and of the store's is within the limits, and known
  pub sees_waiting : (store : Store D g) (waiting : Waiting) → Sees g.is_told (records_with store (recs_of waiting)) (records_with store (recs_of waiting))
  sees_waiting store waiting = record {
    same =
        known_append g.is_told (records_of store) (known_of g.is_told (recs_of waiting))
        ∙ ap (λ (l : List Record). l ++ known_of g.is_told (known_of g.is_told (recs_of waiting))) (store_known store)
        ∙ ap (λ (l : List Record). records_of store ++ l) (known_again g.is_told (recs_of waiting));
    fit =
        All-append FitsRecord (records_of store) (known_of g.is_told (recs_of waiting)) (∥∥₁_elim store.sound (all_fit_prop (records_of store)) (λ are. are.fit))
        (all_fit_known g.is_told (recs_of waiting) waiting.fit);
  }

  -- What agrees with bodies that were read from the store, and then those that wait, is what somebody sees of all.
  pub layered_sees : (store : Store D g) (waiting : Waiting) (agrees : List Record → Type 0)
      → ((records : List Record) → agrees records → Sees g.is_told (records_of store) records)
      → (records : List Record) → AgreesOver agrees (recs_of waiting) records → Sees g.is_told (records_with store (recs_of waiting)) records
  layered_sees store waiting agrees sees records over =
      let recs = recs_of waiting in
      let below = sees over.lower over.agree in
      record {
        same =
            ap (known_of g.is_told) over.are ∙ known_append g.is_told over.lower recs
            ∙ ap (λ (l : List Record). l ++ known_of g.is_told recs) below.same;
        fit = subst (All FitsRecord) (sym over.are) (All-append FitsRecord over.lower recs below.fit waiting.fit);
      }

  -- ---- readers

  -- what agrees with what was read is what somebody sees of the store
  pub agreed_sees : (reader : Reader D g) (records : List Record) → agreed reader records → Sees g.is_told (records_of (store_of reader)) records
  agreed_sees reader records agrees = agrees.sees

  -- and where contracts know what the disk keeps it is the store's records
  pub agreed_told : (reader : Reader D g) (records : List Record) → IsTrue g.is_told → agreed reader records → records ≡ records_of (store_of reader)
  agreed_told reader records told agrees =
      sees_told (records_of (store_of reader)) records
      (subst (λ (t : Bool). Sees t (records_of (store_of reader)) records) told agrees.sees)
