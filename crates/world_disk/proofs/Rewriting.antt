-- a store whose records are rewritten
use Rattle.std.proofs.Common.{◌≡◌, ℕ, ◌≤◌, nat_lt, if◌then◌else◌, Bool, true, false, List, Option, Some, None, Result, is_none, IsTrue, sym, ◌∙◌, ap, subst, arith}
use Rattle.std.proofs.lemmas.Bool.Decides.{nat_tests}
use Rattle.disk_model.specs.Changes.{Memory}
use Rattle.disk_model.specs.declared.disk.Disk.{Ghosts}
use Rattle.journal_areas.specs.declared.superblock.Superblock.{Superblock}
use Rattle.journal_areas.specs.Sites.{moved, need_for}
use Rattle.journal_moves.specs.Answers.{full_need}
use Rattle.journal_moves.specs.Moves.{FailsWithin}
use Rattle.xt_messages.specs.declared.record.KeepBody.{KeepBody}
use Rattle.xt_messages.specs.declared.record.Record.{Record}
use Rattle.xt_protocol.specs.Forgetting.{rewritten}
use Rattle.xt_journal.specs.Access.{place_of, limit_of, superblock_of}
use Rattle.object_store.specs.declared.errors.AppendErr.{AppendErr}
use Rattle.object_store.specs.declared.store.Store.{Store}
use Rattle.object_store.specs.Access.{journal_of, disk_of, records_of}
use Rattle.object_store.specs.Swaps.{IsSwapped, IsSwapFull, Swaps, size_of}
use Rattle.object_store.specs.Texts.{texts_of}
use Rattle.object_store.proofs.Stored.{known_there}
use Rattle.store_compact.specs.Compacting.{IsCompacted}
use Rattle.world_disk.specs.Disks.{IsCalm}
use Rattle.world_disk.specs.Room.{has_room_for, moved_to, place_in}
use Rattle.world_disk.specs.Stored.{Stored}
use Rattle.world_disk.specs.declared.TheConstants.{JOURNAL}
use Rattle.world_disk.proofs.Rooms.{keeps_here, place_here}
use Rattle.world_disk.proofs.Stopping.{false_ne_true}
use Rattle.world_disk.proofs.StoredRecords.{ready_moved}
use Rattle.xt_journal.specs.Format.{KeepsIn}
use Rattle.xt_journal.specs.Loaded.{IsReady}

inside : (n limit : ℕ) (over : ℕ) (or : Option ℕ) → (if nat_lt limit n then Some over else or) ≡ None → n ≤ limit
inside n limit over or is = grind (arith, nat_tests)

-- the very records are swapped for others, where contracts know what the disk keeps
pub swaps_told : {D : Type 0} {g : Ghosts D} (keep : List KeepBody) (old : Store D g) (result : Result (Store D g) (AppendErr D g)) → IsTrue g.is_told
    → IsCompacted keep old result → Swaps old (rewritten keep (records_of old)) result
swaps_told {g = g} keep old result told ended =
    subst (λ (rs : List Record). Swaps old rs result) (sym (known_there g.is_told ended.made told) ∙ ended.known) ended.swaps

pub none_failed : (fails : ℕ → ℕ → Bool) (calls : ℕ) → ((looks changes : ℕ) → fails looks changes ≡ false) → FailsWithin calls fails → ⊥
none_failed fails calls never failed = false_ne_true (sym (never 0 failed.0) ∙ failed.3.fails_there)

-- a store and its new records
module _ {D : Type 0} {g : Ghosts D} (old : Store D g) (told : IsTrue g.is_told) (limited : limit_of (journal_of old) ≡ JOURNAL) (made : List Record) where
  abbrev super : Option Superblock
  super = superblock_of (journal_of old)

  -- whether it has room, by its superblock and its records
  same_need : full_need super (place_of (journal_of old)) (size_of made) (limit_of (journal_of old)) ≡ full_need super (place_in super (records_of old)) (size_of made) JOURNAL
  same_need =
      ap (λ (place : ℕ). full_need super place (size_of made) (limit_of (journal_of old))) (place_here old told)
      ∙ ap (full_need super (place_in super (records_of old)) (size_of made)) limited

  module _ (new : Store D g) (swapped : IsSwapped old made new) where
    pub swapped_room : true ≡ has_room_for (superblock_of (journal_of old)) (records_of old) made
    swapped_room = sym (ap is_none (sym same_need ∙ swapped.room))

    pub swapped_superblock : superblock_of (journal_of new) ≡ Some (moved_to (superblock_of (journal_of old)) (records_of old) made)
    swapped_superblock =
        swapped.superblock ∙ ap (λ (place : ℕ). Some (moved super place (size_of made))) (place_here old told)

    pub swapped_short : place_in (superblock_of (journal_of new)) (records_of new) ≤ JOURNAL
    swapped_short =
        omega (
          arith,
          place_here new told,
          swapped.place,
          limited,
          inside (need_for super (place_of (journal_of old)) (size_of made)) (limit_of (journal_of old)) _ _ swapped.room,
        )

    pub swapped_ready : IsReady (g.kept (disk_of new)).read
    swapped_ready =
        ready_moved (g.kept (disk_of new)) (moved super (place_of (journal_of old)) (size_of made)) (texts_of (records_of new))
        (subst (λ (s : Option Superblock). KeepsIn s (g.kept (disk_of new)) (texts_of (records_of new))) swapped.superblock (keeps_here new told))

  pub full_room : (new : Store D g) (need limit : ℕ) → IsSwapFull old made new need limit → false ≡ has_room_for (superblock_of (journal_of old)) (records_of old) made
  full_room new need limit full = sym (ap is_none (sym same_need ∙ full.needed))

-- what is the same has what it had
pub calm_same : (old new : Memory) (records later : List Record) (limit same : ℕ) (block one : Option Superblock) → new ≡ old → later ≡ records → same ≡ limit → one ≡ block
    → IsCalm old records limit block → IsCalm new later same one
calm_same old new records later limit same block one disk are bound still calm =
    subst (λ (d : Memory). IsCalm d later same one) (sym disk)
    (subst (λ (rs : List Record). IsCalm old rs same one) (sym are)
    (subst (λ (l : ℕ). IsCalm old records l one) (sym bound)
    (subst (λ (s : Option Superblock). IsCalm old records limit s) (sym still) calm)))

pub stored_same : (new old : Stored) → new.records ≡ old.records → new.superblock ≡ old.superblock → new.disk ≡ old.disk → new ≡ old
stored_same new old records superblock disk =
    ap (λ (rs : List Record). record { records = rs; superblock = new.superblock; disk = new.disk }) records
    ∙ ap (λ (s : Option Superblock). record { records = old.records; superblock = s; disk = new.disk }) superblock
    ∙ ap (λ (d : Memory). record { records = old.records; superblock = old.superblock; disk = d }) disk
