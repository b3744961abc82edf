-- stores: what is known of their records after a call
use Rattle.std.proofs.Common.{◌≡◌, ◌≤◌, ◌+◌, ℕ, true, false, Bool, List, ◌++◌, map, get_or, refl, sym, ◌∙◌, ap, subst, arith, Option, Some, None}
use Rattle.std.specs.Prelude.{IsTrue}
use Rattle.std.proofs.Math.Logic.{∥∥₁_map}
use Rattle.std.proofs.lemmas.List.{map-append}
use Rattle.std.specs.List.{All}
use Rattle.std.proofs.lemmas.List.Elements.{All-map}
use Rattle.disk_model.specs.declared.disk.Disk.{Ghosts}
use Rattle.disk_model.specs.Disk.{Kept}
use Rattle.journal_areas.specs.declared.site.Area.{Area}
use Rattle.journal_areas.specs.declared.superblock.Slot.{Slot}
use Rattle.journal_areas.specs.declared.superblock.Superblock.{Superblock}
use Rattle.journal_areas.specs.Sites.{area_by, area_of, area_size, new_area_of}
use Rattle.journal_areas.specs.Superblocks.{current}
use Rattle.xt_messages.specs.Limits.{FitsRecord}
use Rattle.xt_messages.specs.declared.record.Record.{Record}
use Rattle.xt_protocol.specs.Folds.{fold_of, AreInPlace, nothing_kept}
use Rattle.xt_journal.specs.declared.journal.Journal.{Journal}
use Rattle.xt_journal.specs.Placed.{Placed}
use Rattle.xt_journal.specs.Access as access
use Rattle.xt_journal.specs.Format.{records, KeepsJournal}
use Rattle.xt_journal.specs.Reading.{payloads_of, placed_by, placed_from, placed_in}
use Rattle.xt_journal.proofs.Push.{payloads_in, payloads_of_placed}
use Rattle.replica_records.specs.Known.{as_known, known_of}
use Rattle.replica_records.proofs.Known.{are_in_place_known, fits_known, known_append}
use Rattle.object_store.specs.declared.log.StoreLog.{StoreLog}
use Rattle.object_store.specs.declared.place.BodyPlace.{BodyPlace}
use Rattle.object_store.specs.declared.store.Store.{Store}
use Rattle.object_store.specs.Access.{disk_of, journal_of, records_of}
use Rattle.object_store.specs.Bare.{bare, bare_of}
use Rattle.object_store.specs.Laid.{IsLaid}
use Rattle.object_store.specs.Logs.{bare_in, places_in, records_in}
use Rattle.object_store.specs.Places as places
use Rattle.object_store.specs.Texts.{texts_of, AreRecords}
use Rattle.object_store.proofs.ReadBack.{places_later}
use Rattle.object_store.proofs.Reading.{are-append}
use Rattle.object_store.proofs.Stored.{bare_known, is_here, known_in, known_read, known_there, laid-append, zeros-append}

pub all_fit_known : (told : Bool) (records : List Record) → All FitsRecord records → All FitsRecord (known_of told records)
all_fit_known told records fit = All-map FitsRecord (as_known told) records (λ k d less. fits_known told (get_or records k d) (fit k d less))

-- what is known of records is such records too
pub known_are : (told : Bool) (records : List Record) → AreRecords records → AreRecords (known_of told records)
known_are told records are = record {
  fit = all_fit_known told records are.fit;
  placed = are_in_place_known told nothing_kept records are.placed;
}

-- ---- the ghost fields of a store

-- they hold where this much is known of these records
pub record AreKept {D : Type 0} {g : Ghosts D} (journal : Journal D g) (log : StoreLog) : Type 0 where
  pub keeps : IsTrue g.is_told → KeepsJournal (g.kept (access.disk_of journal)) (texts_of (records_in g.is_told (g.kept (access.disk_of journal)).read log))
  pub laid : IsTrue g.is_told → IsLaid (access.superblock_of journal) (records_in g.is_told (g.kept (access.disk_of journal)).read log) log
  pub sound : ∥ AreRecords (records_in g.is_told (g.kept (access.disk_of journal)).read log) ∥₁

module _ {D : Type 0} {g : Ghosts D} (journal : Journal D g) (log : StoreLog) where
  -- the disk keeps the texts of these records, which the log has without their bodies, with the places of these
  module _ (made : List Record) (placed : List Placed) (bare_is : bare_in log ≡ bare_of made) (places_is : places_in log ≡ places.places_of placed made)
      (texts : payloads_of placed ≡ texts_of made) (keeps : IsTrue g.is_told → KeepsJournal (g.kept (access.disk_of journal)) (texts_of made))
      (placed_is : IsTrue g.is_told → placed ≡ placed_in (access.superblock_of journal) (texts_of made)) (are : AreRecords made) where
    pub made_known : records_in g.is_told (g.kept (access.disk_of journal)).read log ≡ known_of g.is_told made
    made_known =
        known_read g.is_told (g.kept (access.disk_of journal)).read (access.superblock_of journal) (access.place_of journal) placed made log bare_is places_is texts
        (omega (arith, journal.located.small)) placed_is (λ told. is_here journal (texts_of made) told (keeps told))

    told_made : IsTrue g.is_told → records_in g.is_told (g.kept (access.disk_of journal)).read log ≡ made
    told_made told = made_known ∙ known_there g.is_told made told

    pub made_kept : AreKept journal log
    made_kept = record {
      keeps = λ told. subst (λ (rs : List Record). KeepsJournal (g.kept (access.disk_of journal)) (texts_of rs)) (sym (told_made told)) (keeps told);
      laid = λ told.
          subst (λ (rs : List Record). IsLaid (access.superblock_of journal) rs log) (sym (told_made told))
          (places_is ∙ ap (λ (ps : List Placed). places.places_of ps made) (placed_is told));
      sound = ∣ subst AreRecords (sym made_known) (known_are g.is_told made are) ∣₁;
    }

  -- ---- records more

  module _ (old : Store D g) (recs : List Record) (bare_is : bare_in log ≡ bare_in old.log ++ bare_of recs)
      (places_is : places_in log ≡ places_in old.log ++ places.places_of (placed_from (access.place_of (journal_of old)) (texts_of recs)) recs)
      (keeps : IsTrue g.is_told → KeepsJournal (g.kept (access.disk_of journal)) (texts_of (records_of old ++ recs)))
      (super_is : access.superblock_of journal ≡ access.superblock_of (journal_of old)) where
    bare_more : bare_in log ≡ bare_of (records_of old ++ recs)
    bare_more =
        bare_is ∙ ap (λ (l : List Record). l ++ bare_of recs) (sym (bare_known g.is_told (g.kept (disk_of old)).read old.log))
        ∙ sym (map-append bare (records_of old) recs)

    laid_more : IsTrue g.is_told → IsLaid (access.superblock_of journal) (records_of old ++ recs) log
    laid_more told =
        subst (λ (s : Option Superblock). IsLaid s (records_of old ++ recs) log) (sym super_is)
        (laid-append (access.superblock_of (journal_of old)) (g.kept (disk_of old)).read (access.place_of (journal_of old)) (records_of old) recs old.log log
        (is_here (journal_of old) (texts_of (records_of old)) told (old.keeps told)) (old.laid told) places_is)

    pub put_known : records_in g.is_told (g.kept (access.disk_of journal)).read log ≡ records_of old ++ known_of g.is_told recs
    put_known = at g.is_told refl
      where
        at : (t : Bool) → g.is_told ≡ t → records_in g.is_told (g.kept (access.disk_of journal)).read log ≡ records_of old ++ known_of g.is_told recs
        at true told =
            let s = access.superblock_of journal in
            let texts = texts_of (records_of old ++ recs) in
            known_read g.is_told (g.kept (access.disk_of journal)).read s (access.place_of journal) (placed_in s texts) (records_of old ++ recs) log bare_more (laid_more told)
            (payloads_in s texts) (omega (arith, journal.located.small)) (λ told. refl) (λ told. is_here journal texts told (keeps told))
            ∙ known_append g.is_told (records_of old) recs
            ∙ ap (λ (l : List Record). l ++ known_of g.is_told recs) (known_in g.is_told (g.kept (disk_of old)).read old.log)
        at false unknown =
            let end = access.place_of (journal_of old) in
            subst (λ (t : Bool). records_in t (g.kept (access.disk_of journal)).read log ≡ records_in t (g.kept (disk_of old)).read old.log ++ known_of t recs) (sym unknown)
            (zeros-append (g.kept (disk_of old)).read (g.kept (access.disk_of journal)).read (placed_from end (texts_of recs)) recs old.log log bare_is places_is
            (payloads_of_placed end (texts_of recs)))

    put_there : IsTrue g.is_told → records_in g.is_told (g.kept (access.disk_of journal)).read log ≡ records_of old ++ recs
    put_there told = put_known ∙ ap (λ (l : List Record). records_of old ++ l) (known_there g.is_told recs told)

    pub put_kept : All FitsRecord recs → AreInPlace (fold_of (records_of old)) recs → AreKept journal log
    put_kept fit there = record {
      keeps = λ told. subst (λ (rs : List Record). KeepsJournal (g.kept (access.disk_of journal)) (texts_of rs)) (sym (put_there told)) (keeps told);
      laid = λ told. subst (λ (rs : List Record). IsLaid (access.superblock_of journal) rs log) (sym (put_there told)) (laid_more told);
      sound =
          ∥∥₁_map old.sound
          (λ are. subst AreRecords (sym put_known)
          (are-append (records_of old) (known_of g.is_told recs) are (all_fit_known g.is_told recs fit)
          (are_in_place_known g.is_told (fold_of (records_of old)) recs there)));
    }

  -- ---- the same records

  module _ (old : Store D g) (bare_is : bare_in log ≡ bare_in old.log) (places_is : places_in log ≡ places_in old.log)
      (kept_is : g.kept (access.disk_of journal) ≡ g.kept (disk_of old)) (super_is : access.superblock_of journal ≡ access.superblock_of (journal_of old)) where
    pub same_known : records_in g.is_told (g.kept (access.disk_of journal)).read log ≡ records_of old
    same_known =
        ap (λ (k : Kept). records_in g.is_told k.read log) kept_is
        ∙ ap (λ (rs : List Record). places.filled (places.bytes_at g.is_told (g.kept (disk_of old)).read) rs (places_in log)) bare_is
        ∙ ap (λ (ps : List BodyPlace). places.filled (places.bytes_at g.is_told (g.kept (disk_of old)).read) (bare_in old.log) ps) places_is

    pub same_kept : AreKept journal log
    same_kept = record {
      keeps = λ told.
          subst (λ (k : Kept). KeepsJournal k (texts_of (records_in g.is_told (g.kept (access.disk_of journal)).read log))) (sym kept_is)
          (subst (λ (rs : List Record). KeepsJournal (g.kept (disk_of old)) (texts_of rs)) (sym same_known) (old.keeps told));
      laid = λ told.
          places_is ∙ old.laid told
          ∙ ap (λ (s : Option Superblock). places.places_of (placed_in s (texts_of (records_of old))) (records_of old)) (sym super_is)
          ∙ ap (λ (rs : List Record). places.places_of (placed_in (access.superblock_of journal) (texts_of rs)) rs) (sym same_known);
      sound = subst (λ (rs : List Record). ∥ AreRecords rs ∥₁) (sym same_known) old.sound;
    }

-- ---- an area that counts

-- the payloads of an area that isn't the first one begin where it begins
area_placed : (s : Superblock) (end : ℕ) (texts : List (List ℕ)) (area : Area) → area_of (Some s) end ≡ area → 1 ≤ area.first → placed_in (Some s) texts ≡ placed_from area.place texts
area_placed s end texts area is some = at (current s) is
  where
    at : (c : Option Slot) → area_by end c ≡ area → placed_by s c texts ≡ placed_from area.place texts
    at None is = absurd (omega (arith, some, ap (λ (a : Area). a.first) is))
    at (Some slot) is = ap (λ (a : Area). placed_from a.place texts) is

pub moved_placed : (super : Option Superblock) (s : Superblock) (end old_end : ℕ) (old_super : Option Superblock) (texts : List (List ℕ)) (area : Area) → super ≡ Some s
    → area ≡ area_of super end → area_of super end ≡ new_area_of old_super old_end (area_size texts) → placed_from (area.place + 0) texts ≡ placed_in super texts
moved_placed super s end old_end old_super texts area is_super is_area is_new =
    let there : area_of (Some s) end ≡ area = ap (λ (p : Option Superblock). area_of p end) (sym is_super) ∙ sym is_area in
    let some : 1 ≤ area.first = omega (arith, ap (λ (a : Area). a.first) (is_area ∙ is_new)) in
    let here : area.place + 0 ≡ area.place = omega arith in
    ap (λ (gate : ℕ). placed_from gate texts) here ∙ sym (area_placed s end texts area there some) ∙ ap (λ (p : Option Superblock). placed_in p texts) (sym is_super)

-- the places in it
pub moved_places : (by : ℕ) (made : List Record) (log : List BodyPlace) (moved : List BodyPlace) → log ≡ places.places_of (placed_from 0 (texts_of made)) made
    → moved ≡ map (places.later by) log → moved ≡ places.places_of (placed_from (by + 0) (texts_of made)) made
moved_places by made log moved is more = more ∙ ap (map (places.later by)) is ∙ places_later by 0 (texts_of made) made
