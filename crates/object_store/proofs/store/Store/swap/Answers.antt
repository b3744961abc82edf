use Rattle.std.proofs.Common.{refl, ◌≡◌, ◌+◌, ℕ, List, length, map, sym, ◌∙◌, ap, subst}
use Rattle.std.specs.List.{All}
use Rattle.journal_moves.specs.declared.gathered.Gathered.{Gathered}
use Rattle.journal_areas.specs.Sites.{area_size, moved}
use Rattle.xt_journal.specs.Access as access
use Rattle.xt_journal.specs.Format.{AreGiven, KeepsJournal}
use Rattle.xt_journal.specs.Reading.{placed_from}
use Rattle.xt_journal.proofs.Push.{payloads_of_placed}
use Rattle.journal_moves.specs.Gathering.{IsThere, gathered, sizes_of}
use Rattle.journal_moves.specs.Moves.{MakesCalls, FailsWithin, move_calls}
use Rattle.object_store.specs.Access.{area_of, records_of}
use Rattle.object_store.specs.Copying.{copied}
use Rattle.object_store.proofs.Copies.{fit, there, whole}
use Rattle.object_store.proofs.Copying.{bare_copied, gathered_sizes, gathered_texts, places_copied}
use Rattle.object_store.specs.Texts.{texts_of}
use Rattle.object_store.proofs.RecordKinds.{given_texts}
use Rattle.object_store.proofs.Stores.{made_kept, made_known, moved_placed, moved_places, same_kept, same_known}
use Rattle.object_store.proofs.Swapped.{area_as, either_as, moments_as, need_as, not_tried, place_as, stands_as, stopped_as, superblock_as}
use Rattle.object_store.proofs.store.Store.swap.Goals as goal

pub prepared-requires : goal.prepared-requires
prepared-requires g c = fit {g = g.D.Disk} c.args.self c.args.records.items c.requires.there c.requires.are

pub swap-requires : goal.swap-requires
swap-requires g c =
    let D = g.D.Disk in
    let read = (D.kept c.args.self.journal.disk).read in
    let records = c.args.records.items in
    let all = whole {g = D} c.args.self records c.requires.there c.requires.are in
    let made = copied D.is_told read records in
    let given = c.as_slice.ensures.value ∙ c.in-Ok.ensures.payloads in
    let texts : gathered D.is_told read c.as_slice.result.now ≡ texts_of made = ap (gathered D.is_told read) given ∙ gathered_texts D.is_told read records all in
    record {
      there = λ told. subst (λ (ps : List Gathered). All (IsThere read (area_of {g = D} c.args.self)) ps) (sym given) (there {g = D} c.args.self records c.requires.there c.requires.are told);
      given = subst AreGiven (sym texts) (given_texts made c.requires.are.fit);
    }

pub returns-in_default : goal.returns-in_default
returns-in_default g c =
    let D = g.D.Disk in
    let store = c.args.self in
    not_tried {g = D} store (copied D.is_told (D.kept store.journal.disk).read c.args.records.items) (λ image told left. g.met.D.Disk.only_now store.journal.disk image told left)

pub returns-in-Ok-swap : goal.returns-in-Ok-swap
returns-in-Ok-swap g c =
    let D = g.D.Disk in
    let read = (D.kept c.args.self.journal.disk).read in
    let records = c.args.records.items in
    let all = whole {g = D} c.args.self records c.requires.there c.requires.are in
    let made = copied D.is_told read records in
    let given = c.as_slice.ensures.value ∙ c.in-Ok.ensures.payloads in
    let store = c.args.self in
    let old = texts_of (records_of {g = D} store) in
    let super = store.journal.superblock in
    let end = store.journal.end in
    let journal = c.in-Ok-swap.journal in
    let facts = c.in-Ok-swap.ensures in
    let texts : gathered D.is_told read c.as_slice.result.now ≡ texts_of made = ap (gathered D.is_told read) given ∙ gathered_texts D.is_told read records all in
    let sizes : sizes_of c.as_slice.result.now ≡ map length (texts_of made) = ap sizes_of given ∙ gathered_sizes D.is_told read records all in
    record {
      end = record {
        records =
            made_known {g = D} journal c.move_on.new.self made (placed_from (c.area.result.place + 0) (texts_of made)) (c.move_on.ensures.bare ∙ c.in-Ok.ensures.bare ∙ bare_copied D.is_told read records all)
            (moved_places c.area.result.place made _ _ (c.in-Ok.ensures.places ∙ places_copied D.is_told read records 0 0 all refl) c.move_on.ensures.places) (payloads_of_placed (c.area.result.place + 0) (texts_of made))
            (λ told. subst (λ (ps : List (List ℕ)). KeepsJournal (D.kept (access.disk_of journal)) ps) texts (facts.done told old (store.keeps told)))
            (λ told.
            moved_placed (access.superblock_of journal) (moved super end (area_size (gathered D.is_told read c.as_slice.result.now))) (access.place_of journal) end super (texts_of made) c.area.result facts.superblock
            c.area.ensures (area_as _ _ texts super end _ facts.area)) c.requires.are;
        acknowledged = λ told image is. stands_as _ _ texts image (facts.acknowledged told old (store.keeps told) image is);
        area = area_as _ _ texts super end _ facts.area;
        superblock = superblock_as _ _ texts super end _ facts.superblock;
        place = place_as _ _ texts super end _ facts.place;
        limit = facts.limit;
        calls = λ told. subst (λ (ns : List ℕ). MakesCalls (move_calls super end ns) (D.fails store.journal.disk) (D.fails journal.disk)) sizes (facts.made told);
        room = need_as _ _ texts super end store.journal.limit _ facts.full;
      };
      any_moment = λ told. moments_as _ _ texts D.moment D.left_since _ _ old (facts.any_moment told old (store.keeps told));
      faults = facts.count;
    }

pub returns-in-Err-Broken : goal.returns-in-Err-Broken
returns-in-Err-Broken g c =
    let D = g.D.Disk in
    let read = (D.kept c.args.self.journal.disk).read in
    let records = c.args.records.items in
    let all = whole {g = D} c.args.self records c.requires.there c.requires.are in
    let made = copied D.is_told read records in
    let given = c.as_slice.ensures.value ∙ c.in-Ok.ensures.payloads in
    let old = texts_of (records_of {g = D} c.args.self) in
    let super = c.args.self.journal.superblock in
    let end = c.args.self.journal.end in
    let facts = rw c.in-Err-Broken.field-0-is at c.in-Err-Broken.ensures in
    let texts : gathered D.is_told read c.as_slice.result.now ≡ texts_of made = ap (gathered D.is_told read) given ∙ gathered_texts D.is_told read records all in
    let sizes : sizes_of c.as_slice.result.now ≡ map length (texts_of made) = ap sizes_of given ∙ gathered_sizes D.is_told read records all in
    record {
      end = record {
        left = λ told image is. either_as _ _ texts old image (facts.broken told old (c.args.self.keeps told) refl image is);
        failed = λ told. subst (λ (ns : List ℕ). FailsWithin (move_calls super end ns) (D.fails c.args.self.journal.disk)) sizes (facts.failed told refl);
        stopped = λ told. stopped_as _ _ texts super end _ _ sizes (D.fails c.args.self.journal.disk) _ old (facts.stopped told old (c.args.self.keeps told) refl);
        fault = facts.fault;
        room = need_as _ _ texts super end c.args.self.journal.limit _ facts.full;
      };
      any_moment = λ told. moments_as _ _ texts D.moment D.left_since _ _ old (facts.any_moment told old (c.args.self.keeps told));
      faults = facts.count;
    }

pub returns-in-Err-Full : goal.returns-in-Err-Full
returns-in-Err-Full g c =
    let D = g.D.Disk in
    let read = (D.kept c.args.self.journal.disk).read in
    let records = c.args.records.items in
    let all = whole {g = D} c.args.self records c.requires.there c.requires.are in
    let made = copied D.is_told read records in
    let given = c.as_slice.ensures.value ∙ c.in-Ok.ensures.payloads in
    let store = c.args.self in
    let old = texts_of (records_of {g = D} store) in
    let super = store.journal.superblock in
    let end = store.journal.end in
    let facts = rw c.in-Err-Full.field-0-is at c.in-Err-Full.ensures in
    let texts : gathered D.is_told read c.as_slice.result.now ≡ texts_of made = ap (gathered D.is_told read) given ∙ gathered_texts D.is_told read records all in
    record {
      end = record {
        needed = need_as _ _ texts super end store.journal.limit _ facts.full.0;
        records = same_known {g = D} c.in-Err-Full.journal store.log store refl refl (ap D.kept facts.full.1.disk) facts.full.1.superblock;
        disk = facts.full.1.disk;
        place = facts.full.1.place;
        limit = facts.full.1.limit;
        superblock = facts.full.1.superblock;
        limit_is = facts.full.2;
      };
      any_moment = λ told. moments_as _ _ texts D.moment D.left_since _ _ old (facts.any_moment told old (store.keeps told));
      faults = facts.count;
    }

pub invariant_of-result : goal.invariant_of-result
invariant_of-result g c =
    let D = g.D.Disk in
    let read = (D.kept c.args.self.journal.disk).read in
    let records = c.args.records.items in
    let all = whole {g = D} c.args.self records c.requires.there c.requires.are in
    let made = copied D.is_told read records in
    let given = c.as_slice.ensures.value ∙ c.in-Ok.ensures.payloads in
    let store = c.args.self in
    let super = store.journal.superblock in
    let end = store.journal.end in
    let journal = c.in-Ok-swap.journal in
    let facts = c.in-Ok-swap.ensures in
    let texts : gathered D.is_told read c.as_slice.result.now ≡ texts_of made = ap (gathered D.is_told read) given ∙ gathered_texts D.is_told read records all in
    let kept =
    made_kept {g = D} journal c.move_on.new.self made (placed_from (c.area.result.place + 0) (texts_of made)) (c.move_on.ensures.bare ∙ c.in-Ok.ensures.bare ∙ bare_copied D.is_told read records all)
    (moved_places c.area.result.place made _ _ (c.in-Ok.ensures.places ∙ places_copied D.is_told read records 0 0 all refl) c.move_on.ensures.places) (payloads_of_placed (c.area.result.place + 0) (texts_of made))
    (λ told. subst (λ (ps : List (List ℕ)). KeepsJournal (D.kept (access.disk_of journal)) ps) texts (facts.done told (texts_of (records_of {g = D} store)) (store.keeps told)))
    (λ told.
    moved_placed (access.superblock_of journal) (moved super end (area_size (gathered D.is_told read c.as_slice.result.now))) (access.place_of journal) end super (texts_of made) c.area.result facts.superblock
    c.area.ensures (area_as _ _ texts super end _ facts.area)) c.requires.are in
    record { keeps = kept.keeps; laid = kept.laid; sound = kept.sound }

pub invariant_of-store : goal.invariant_of-store
invariant_of-store g c =
    let D = g.D.Disk in
    let facts = rw c.in-Err-Full.field-0-is at c.in-Err-Full.ensures in
    let kept = same_kept {g = D} c.in-Err-Full.journal c.args.self.log c.args.self refl refl (ap D.kept facts.full.1.disk) facts.full.1.superblock in
    record { keeps = kept.keeps; laid = kept.laid; sound = kept.sound }

pub invariant_of-store-in-Err-OutOfMemory : goal.invariant_of-store-in-Err-OutOfMemory
invariant_of-store-in-Err-OutOfMemory g c =
    let facts = rw c.in-Err-OutOfMemory.field-0-is at c.in-Err-OutOfMemory.ensures in
    let kept = same_kept {g = g.D.Disk} c.in-Err-OutOfMemory.journal c.args.self.log c.args.self refl refl facts.memory.0 facts.memory.3 in
    record { keeps = kept.keeps; laid = kept.laid; sound = kept.sound }

pub returns : goal.returns
returns g c =
    let D = g.D.Disk in
    let read = (D.kept c.args.self.journal.disk).read in
    let records = c.args.records.items in
    let all = whole {g = D} c.args.self records c.requires.there c.requires.are in
    let made = copied D.is_told read records in
    let given = c.as_slice.ensures.value ∙ c.in-Ok.ensures.payloads in
    let store = c.args.self in
    let old = texts_of (records_of {g = D} store) in
    let facts = rw c.in-Err-OutOfMemory.field-0-is at c.in-Err-OutOfMemory.ensures in
    let texts : gathered D.is_told read c.as_slice.result.now ≡ texts_of made = ap (gathered D.is_told read) given ∙ gathered_texts D.is_told read records all in
    record {
      end = record {
        records = same_known {g = D} c.in-Err-OutOfMemory.journal store.log store refl refl facts.memory.0 facts.memory.3;
        kept = facts.memory.0;
        place = facts.memory.1;
        limit = facts.memory.2;
        superblock = facts.memory.3;
        no_call = facts.no_call;
      };
      any_moment = λ told. moments_as _ _ texts D.moment D.left_since _ _ old (facts.any_moment told old (store.keeps told));
      faults = facts.count;
    }
