use Rattle.std.proofs.Common.{refl, ◌≡◌, ◌++◌, ◌∷◌, [], List, ℕ, ◌∙◌, ap, sym, subst}
use Rattle.disk_model.proofs.Moments.{begun}
use Rattle.xt_messages.specs.declared.record.Record.{Record}
use Rattle.xt_journal.specs.Access as access
use Rattle.xt_journal.specs.Append.{IsWithOrWithout}
use Rattle.xt_journal.proofs.Steps.{rests_with}
use Rattle.replica_records.specs.RecordText.{record_text}
use Rattle.object_store.specs.declared.place.BodyPlace.{BodyPlace}
use Rattle.object_store.specs.Access.{records_of}
use Rattle.object_store.specs.Bare.{bare}
use Rattle.object_store.specs.Logs.{bare_in, places_in}
use Rattle.object_store.specs.Places.{IsPair, place_of}
use Rattle.object_store.specs.Texts.{texts_of}
use Rattle.object_store.proofs.Filled.{pair_of_bare}
use Rattle.object_store.proofs.Reading.{one_fits}
use Rattle.object_store.proofs.Outcomes.{keeps_longer, stands_longer, place_with, room_with, over_with, need_with, left_with, stopped_with, moments_with, goes_on_itself}
use Rattle.object_store.proofs.Stores.{put_known, put_kept, same_known, same_kept}
use Rattle.object_store.proofs.store.Store.put.Goals as goal

-- nothing was done where memory ran out before
pub returns-in_default : goal.returns-in_default
returns-in_default g c =
    let D = g.D.Disk in
    let store = c.args.self in
    let disk = store.journal.disk in
    let texts = texts_of (records_of {g = D} store) in
    let text = record_text c.args.rec.now in
    record {
      end = record {
        records = same_known {g = D} store.journal c.prepare.new.log store c.prepare.ensures.records c.prepare.ensures.places refl refl;
        kept = refl;
        place = refl;
        limit = refl;
        superblock = refl;
        no_call = λ told. goes_on_itself (D.fails disk);
      };
      any_moment = λ told.
          begun D.moment D.left_since disk (IsWithOrWithout texts text)
          (λ image left. rests_with (D.kept disk) texts text image (store.keeps told) (g.met.D.Disk.only_now disk image told left));
      faults = refl;
    }

pub returns-in-Ok-append : goal.returns-in-Ok-append
returns-in-Ok-append g c =
    let D = g.D.Disk in
    let store = c.args.self in
    let old = records_of {g = D} store in
    let rec = c.args.rec.now in
    let facts = c.in-Ok-append.ensures in
    let bytes : c.as_slice.result.now ≡ record_text rec = c.as_slice.ensures ∙ c.in-Ok.ensures.bytes in
    let bare_is : bare_in c.put.new.self ≡ bare_in store.log ++ bare rec ∷ [] =
    c.put.ensures.bare ∙ ap (λ (l : List Record). l ++ c.in-Ok.made.bare ∷ []) c.prepare.ensures.records ∙ ap (λ (r : Record). bare_in store.log ++ r ∷ []) c.in-Ok.ensures.bare in
    let places_is : places_in c.put.new.self ≡ places_in store.log ++ place_of (record { gate = store.journal.end; bytes = record_text rec }) rec ∷ [] =
    c.put.ensures.places ∙ ap (λ (l : List BodyPlace). l ++ c.in-Ok.made.place ∷ []) c.prepare.ensures.places
    ∙ ap (λ (p : BodyPlace). places_in store.log ++ p ∷ [])
    (c.in-Ok.ensures.place ∙ ap (λ (gate : ℕ). place_of (record { gate = gate; bytes = record_text rec }) rec) c.end.ensures) in
    record {
      end = record {
        records =
            put_known {g = D} c.in-Ok-append.journal c.put.new.self store (rec ∷ []) bare_is places_is
            (λ told. keeps_longer _ old (old ++ rec ∷ []) rec c.as_slice.result.now refl bytes (facts.done told (texts_of old) (store.keeps told))) facts.superblock;
        acknowledged = λ told image is. stands_longer image old rec c.as_slice.result.now bytes (facts.acknowledged told (texts_of old) (store.keeps told) image is);
        place = place_with _ _ bytes _ _ facts.place;
        limit = facts.limit;
        superblock = facts.superblock;
        succeeded = facts.succeeded;
        plan = facts.plan;
        room = room_with _ _ bytes _ _ facts.full;
      };
      any_moment = λ told. moments_with _ _ bytes D.moment D.left_since _ _ (texts_of old) (facts.any_moment told (texts_of old) (store.keeps told));
      faults = facts.count;
    }

pub returns-in-Err-Broken : goal.returns-in-Err-Broken
returns-in-Err-Broken g c =
    let D = g.D.Disk in
    let texts = texts_of (records_of {g = D} c.args.self) in
    let facts = rw c.in-Err-Broken.field-0-is at c.in-Err-Broken.ensures in
    let bytes : c.as_slice.result.now ≡ record_text c.args.rec.now = c.as_slice.ensures ∙ c.in-Ok.ensures.bytes in
    record {
      end = record {
        left = λ told image is. left_with _ _ bytes texts image (facts.broken told texts (c.args.self.keeps told) refl image is);
        stopped = λ told. stopped_with _ _ bytes _ _ _ texts (facts.stopped told texts (c.args.self.keeps told) refl);
        fault = facts.fault;
        room = room_with _ _ bytes _ _ facts.full;
      };
      any_moment = λ told. moments_with _ _ bytes D.moment D.left_since _ _ texts (facts.any_moment told texts (c.args.self.keeps told));
      faults = facts.count;
    }

pub returns-in-Err-Full : goal.returns-in-Err-Full
returns-in-Err-Full g c =
    let D = g.D.Disk in
    let store = c.args.self in
    let texts = texts_of (records_of {g = D} store) in
    let facts = rw c.in-Err-Full.field-0-is at c.in-Err-Full.ensures in
    let bytes : c.as_slice.result.now ≡ record_text c.args.rec.now = c.as_slice.ensures ∙ c.in-Ok.ensures.bytes in
    record {
      end = record {
        over = over_with _ _ bytes _ _ facts.full.0;
        journal = facts.full.1;
        records =
            same_known {g = D} c.in-Err-Full.journal c.prepare.new.log store c.prepare.ensures.records c.prepare.ensures.places
            (ap (λ j. D.kept (access.disk_of j)) facts.full.1) (ap (λ j. access.superblock_of j) facts.full.1);
        need_is = need_with _ _ bytes _ _ facts.full.2;
        limit_is = facts.full.3;
      };
      any_moment = λ told. moments_with _ _ bytes D.moment D.left_since _ _ texts (facts.any_moment told texts (store.keeps told));
      faults = facts.count;
    }

pub returns-in-Err-OutOfMemory : goal.returns-in-Err-OutOfMemory
returns-in-Err-OutOfMemory g c =
    let D = g.D.Disk in
    let store = c.args.self in
    let texts = texts_of (records_of {g = D} store) in
    let facts = rw c.in-Err-OutOfMemory.field-0-is at c.in-Err-OutOfMemory.ensures in
    let bytes : c.as_slice.result.now ≡ record_text c.args.rec.now = c.as_slice.ensures ∙ c.in-Ok.ensures.bytes in
    record {
      end = record {
        records =
            same_known {g = D} c.in-Err-OutOfMemory.journal c.prepare.new.log store c.prepare.ensures.records c.prepare.ensures.places facts.memory.0 facts.memory.3;
        kept = facts.memory.0;
        place = facts.memory.1;
        limit = facts.memory.2;
        superblock = facts.memory.3;
        no_call = facts.no_call;
      };
      any_moment = λ told. moments_with _ _ bytes D.moment D.left_since _ _ texts (facts.any_moment told texts (store.keeps told));
      faults = facts.count;
    }

pub invariant_of-result : goal.invariant_of-result
invariant_of-result g c =
    let D = g.D.Disk in
    let store = c.args.self in
    let old = records_of {g = D} store in
    let rec = c.args.rec.now in
    let facts = c.in-Ok-append.ensures in
    let bytes : c.as_slice.result.now ≡ record_text rec = c.as_slice.ensures ∙ c.in-Ok.ensures.bytes in
    let bare_is : bare_in c.put.new.self ≡ bare_in store.log ++ bare rec ∷ [] =
    c.put.ensures.bare ∙ ap (λ (l : List Record). l ++ c.in-Ok.made.bare ∷ []) c.prepare.ensures.records ∙ ap (λ (r : Record). bare_in store.log ++ r ∷ []) c.in-Ok.ensures.bare in
    let places_is : places_in c.put.new.self ≡ places_in store.log ++ place_of (record { gate = store.journal.end; bytes = record_text rec }) rec ∷ [] =
    c.put.ensures.places ∙ ap (λ (l : List BodyPlace). l ++ c.in-Ok.made.place ∷ []) c.prepare.ensures.places
    ∙ ap (λ (p : BodyPlace). places_in store.log ++ p ∷ [])
    (c.in-Ok.ensures.place ∙ ap (λ (gate : ℕ). place_of (record { gate = gate; bytes = record_text rec }) rec) c.end.ensures) in
    let kept =
    put_kept {g = D} c.in-Ok-append.journal c.put.new.self store (rec ∷ []) bare_is places_is
    (λ told. keeps_longer _ old (old ++ rec ∷ []) rec c.as_slice.result.now refl bytes (facts.done told (texts_of old) (store.keeps told))) facts.superblock
    (one_fits rec c.requires.fits) (c.requires.placed, tt) in
    record { keeps = kept.keeps; laid = kept.laid; sound = kept.sound }

pub invariant_of-store : goal.invariant_of-store
invariant_of-store g c =
    let store = c.args.self in
    let kept = same_kept {g = g.D.Disk} store.journal c.prepare.new.log store c.prepare.ensures.records c.prepare.ensures.places refl refl in
    record { keeps = kept.keeps; laid = kept.laid; sound = kept.sound }

pub invariant_of-store-in-Err-Full : goal.invariant_of-store-in-Err-Full
invariant_of-store-in-Err-Full g c =
    let D = g.D.Disk in
    let facts = rw c.in-Err-Full.field-0-is at c.in-Err-Full.ensures in
    let kept =
    same_kept {g = D} c.in-Err-Full.journal c.prepare.new.log c.args.self c.prepare.ensures.records c.prepare.ensures.places
    (ap (λ j. D.kept (access.disk_of j)) facts.full.1) (ap (λ j. access.superblock_of j) facts.full.1) in
    record { keeps = kept.keeps; laid = kept.laid; sound = kept.sound }

pub invariant_of-store-in-Err-OutOfMemory : goal.invariant_of-store-in-Err-OutOfMemory
invariant_of-store-in-Err-OutOfMemory g c =
    let facts = rw c.in-Err-OutOfMemory.field-0-is at c.in-Err-OutOfMemory.ensures in
    let kept =
    same_kept {g = g.D.Disk} c.in-Err-OutOfMemory.journal c.prepare.new.log c.args.self c.prepare.ensures.records c.prepare.ensures.places facts.memory.0 facts.memory.3 in
    record { keeps = kept.keeps; laid = kept.laid; sound = kept.sound }

-- the record without its body, and the body's place
pub put-requires-clause-pair : goal.put-requires-clause-pair
put-requires-clause-pair g c =
    subst (λ (r : Record). IsPair r c.in-Ok.made.place) (sym c.in-Ok.ensures.bare)
    (pair_of_bare c.args.rec.now c.in-Ok.made.place (ap (λ (p : BodyPlace). p.len) c.in-Ok.ensures.place))
