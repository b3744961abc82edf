-- records that a store's are swapped for
use Rattle.std.proofs.Common.{◌+◌, ◌≤◌, ⊎_elim, inl, inr, ℕ, Bool, List, [], ◌∷◌, length, map, arith}
use Rattle.std.specs.Prelude.{Contains, IsTrue}
use Rattle.std.specs.List.{All, AllByRecursion}
use Rattle.std.proofs.lemmas.List.Elements.{All-from_recursion, recursion_from_All}
use Rattle.disk_model.specs.declared.disk.Disk.{Ghosts}
use Rattle.journal_areas.specs.declared.site.Area.{Area}
use Rattle.journal_moves.specs.Gathering.{IsHeld, IsThere}
use Rattle.xt_messages.specs.Limits.{FitsRecord}
use Rattle.xt_journal.specs.Access as access
use Rattle.object_store.specs.declared.copied.Copied.{Copied}
use Rattle.object_store.specs.declared.place.BodyPlace.{BodyPlace}
use Rattle.object_store.specs.declared.store.Store.{Store}
use Rattle.object_store.specs.Access.{area_of, disk_of, journal_of, records_of}
use Rattle.object_store.specs.Copying.{IsCopiedFrom, copied}
use Rattle.object_store.specs.Logs.{places_in}
use Rattle.object_store.specs.Swapping.{FitsCopied, payload_of}
use Rattle.object_store.specs.Texts.{texts_of, AreRecords}
use Rattle.object_store.proofs.Copying.{IsWhole, fit_copied, size_there}
use Rattle.object_store.proofs.Held.{places_held}
use Rattle.object_store.proofs.Stored.{is_here}

-- they have the bytes of their bodies, which are in places that can be read
all_whole : (told : Bool) (read : List ℕ) (places : List BodyPlace) (records : List Copied)
    → (IsTrue told → (place : BodyPlace) → Contains places place → place.at + place.len ≤ length read) → AllByRecursion (IsCopiedFrom places) records
    → AllByRecursion FitsRecord (copied told read records) → AllByRecursion (IsWhole told read) records
all_whole told read places [] inside from fit = tt
all_whole told read places (c ∷ records) inside from fit = (
  record {
    pair = from.0.pair;
    size = size_there told read c.body (λ is. ⊎_elim inl (λ among. inr (inside is c.body among)) from.0.place);
    fits = fit.0;
  },
  all_whole told read places records inside from.1 fit.1,
)

all_there : (read : List ℕ) (area : Area) (places : List BodyPlace) (records : List Copied)
    → ((place : BodyPlace) → Contains places place → IsHeld read area (record { at = place.at; len = place.len })) → AllByRecursion (IsCopiedFrom places) records
    → AllByRecursion (IsThere read area) (map payload_of records)
all_there read area places [] held from = tt
all_there read area places (c ∷ records) held from = (⊎_elim inl (λ among. inr (held c.body among)) from.0.place, all_there read area places records held from.1)

module _ {D : Type 0} {g : Ghosts D} (store : Store D g) (records : List Copied) (from : All (IsCopiedFrom (places_in store.log)) records)
    (are : AreRecords (copied g.is_told (g.kept (disk_of store)).read records)) where
  each : AllByRecursion (IsCopiedFrom (places_in store.log)) records
  each = recursion_from_All (IsCopiedFrom (places_in store.log)) records from

  held : IsTrue g.is_told → (place : BodyPlace) → Contains (places_in store.log) place → IsHeld (g.kept (disk_of store)).read (area_of store) (record { at = place.at; len = place.len })
  held told place among =
      places_held (g.kept (disk_of store)).read (access.superblock_of (journal_of store)) (access.place_of (journal_of store)) (records_of store) store.log
      (omega (arith, store.journal.located.small)) (store.laid told) (is_here (journal_of store) (texts_of (records_of store)) told (store.keeps told)) place among

  pub whole : AllByRecursion (IsWhole g.is_told (g.kept (disk_of store)).read) records
  whole =
      all_whole g.is_told (g.kept (disk_of store)).read (places_in store.log) records (λ told place among. (held told place among).inside) each
      (recursion_from_All FitsRecord (copied g.is_told (g.kept (disk_of store)).read records) are.fit)

  pub fit : All FitsCopied records
  fit = All-from_recursion FitsCopied records (fit_copied g.is_told (g.kept (disk_of store)).read records whole)

  pub there : IsTrue g.is_told → All (IsThere (g.kept (disk_of store)).read (area_of store)) (map payload_of records)
  there told =
      All-from_recursion (IsThere (g.kept (disk_of store)).read (area_of store)) (map payload_of records)
      (all_there (g.kept (disk_of store)).read (area_of store) (places_in store.log) records (held told) each)
