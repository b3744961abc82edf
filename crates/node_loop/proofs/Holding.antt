-- a node as the loop holds it, with what waits
use Rattle.std.proofs.Common.{ℕ, ◌≡◌, ◌≤◌, ◌+◌, refl, sym, ◌∙◌, ap, subst, Bool, List, [], ◌∷◌, length, arith}
use Rattle.std.proofs.lemmas.List.{append-nil}
use Rattle.disk_model.specs.declared.disk.Disk.{Ghosts}
use Rattle.xt_messages.specs.declared.record.Record.{Record}
use Rattle.replica_records.specs.Known.{known_of}
use Rattle.replica_records.specs.RecordText.{record_text}
use Rattle.object_store.specs.declared.store.Store.{Store}
use Rattle.object_store.specs.Access.{records_of}
use Rattle.object_store.specs.Waits.{CanBePut, end_after, end_with, needed_after, recs_of, records_with}
use Rattle.node_runs.specs.Batches.{HasRoom}
use Rattle.node_runs.specs.Runs.{JournalAt}
use Rattle.node_loop.specs.declared.batch.Batch.{Batch}
use Rattle.node_loop.specs.declared.site.Site.{Site}
use Rattle.node_loop.specs.Batched.{held_of, journal_then, kept_of, posts_of}
use Rattle.node_loop.specs.Settling.{served_of}
use Rattle.node_loop.specs.Stores.{journal_at}
use Rattle.node_loop.specs.Turns.{standing}
use Rattle.node_loop.proofs.Coming.{IsHeld}

-- records need the gate after them
needed_is : (end : ℕ) (rec : Record) (recs : List Record) → needed_after end (rec ∷ recs) ≡ end_after end (rec ∷ recs) + 1
needed_is end rec [] = omega arith
needed_is end rec (next ∷ recs) = needed_is (end + (5 + length (record_text rec))) next recs

has_room : (told : Bool) (recs : List Record) (journal : JournalAt) (end : ℕ) → journal.end ≡ end_after end recs → needed_after end recs ≤ journal.limit
    → HasRoom (known_of told recs) journal
has_room told [] journal end is room = tt
has_room told (rec ∷ recs) journal end is room = omega (arith, needed_is end rec recs, is, room)

module _ {N S D : Type 0} {g : Ghosts D} (state : N → S) (site : Site N) (store : Store D g) (batch : Batch) where
  pub is_held : CanBePut store (recs_of batch.records) → IsHeld (held_of state site store batch) (records_of store)
  is_held can = record {
    kept = refl;
    room = has_room g.is_told (recs_of batch.records) (journal_then store batch) (journal_at store).end refl can.room;
  }

  -- the same records wait
  pub now_with : (other : Batch) → recs_of other.records ≡ recs_of batch.records → (held_of state site store other).now ≡ (held_of state site store batch).now
  now_with other same =
      λ i. standing (state site.node) (records_with store (same i)) (record (journal_at store) { end = end_with store (same i) }) site.own site.ears site.clock site.due site.sender.count
      site.woken

  -- ---- where no record waits

  pub kept_alone : recs_of batch.records ≡ [] → kept_of store batch ≡ records_of store
  kept_alone none = ap (λ (rs : List Record). records_with store rs) none ∙ append-nil (records_of store)

  pub now_alone : recs_of batch.records ≡ [] → (held_of state site store batch).now ≡ served_of state site store
  now_alone none =
      let kept = kept_alone none in
      let journal : journal_then store batch ≡ journal_at store = ap (λ (rs : List Record). record (journal_at store) { end = end_with store rs }) none in
      λ i. standing (state site.node) (kept i) (journal i) site.own site.ears site.clock site.due site.sender.count site.woken

  pub held_alone : recs_of batch.records ≡ [] → posts_of batch ≡ [] → held_of state site store batch ≡ record { now = served_of state site store; puts = []; posts = [] }
  held_alone none unsent =
      let now = now_alone none in
      λ i. record { now = now i; puts = known_of g.is_told (none i); posts = unsent i }

-- no records more
pub with_none : {D : Type 0} {g : Ghosts D} (store : Store D g) (recs : List Record) → recs ≡ [] → records_with store recs ≡ records_of store
with_none store recs none = ap (λ (rs : List Record). records_with store rs) none ∙ append-nil (records_of store)

pub ends_with_none : {D : Type 0} {g : Ghosts D} (store : Store D g) (recs : List Record) → recs ≡ [] → record (journal_at store) { end = end_with store recs } ≡ journal_at store
ends_with_none store recs none = ap (λ (rs : List Record). record (journal_at store) { end = end_with store rs }) none

-- none can be put
pub none_can : {D : Type 0} {g : Ghosts D} (store : Store D g) (recs : List Record) → recs ≡ [] → CanBePut store recs
none_can store recs none = subst (λ (rs : List Record). CanBePut store rs) (sym none) (record { placed = tt; room = omega arith })
