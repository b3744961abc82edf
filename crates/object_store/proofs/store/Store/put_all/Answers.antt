use Rattle.std.proofs.Common.{refl, ◌≡◌, ◌-◌, ◌++◌, ◌∷◌, [], ℕ, ◌∙◌, ap, sym, subst, length, take, drop, length-append, arith}
use Rattle.std.proofs.lemmas.List.{length-drop}
use Rattle.disk_model.proofs.Moments.{begun}
use Rattle.disk_model.specs.Disk.{LeavesOnly}
use Rattle.xt_journal.specs.Append.{IsRunOf, IsWithAllOrNone}
use Rattle.xt_journal.specs.Reading.{placed_from}
use Rattle.xt_journal.proofs.Steps.{rests_with_all}
use Rattle.journal_records.specs.Calls.{GoesOn}
use Rattle.object_store.specs.Access.{records_of}
use Rattle.object_store.specs.Logs.{places_in}
use Rattle.object_store.specs.Places.{places_of}
use Rattle.object_store.specs.Texts.{texts_of}
use Rattle.object_store.specs.Waits.{recs_of}
use Rattle.object_store.proofs.AtOnce.{all_kept, all_stand, but_first, some_wait, their_run}
use Rattle.object_store.proofs.Outcomes.{goes_on_itself}
use Rattle.object_store.proofs.Stores.{put_known, put_kept}
use Rattle.object_store.proofs.Waited.{bare_after, ends_there, never_full, places_after}
use Rattle.object_store.proofs.store.Store.put_all.Goals as goal

-- nothing was done where memory ran out before
pub returns-in_default : goal.returns-in_default
returns-in_default g c =
    let D = g.D.Disk in
    let store = c.args.self in
    let texts = texts_of (records_of {g = D} store) in
    let more = texts_of (recs_of c.args.waiting) in
    record {
      end = record {
        kept = ap D.kept c.close-disk.ensures;
        no_call = λ told. subst (λ d. GoesOn 0 0 (D.fails store.journal.disk) (D.fails d)) (sym c.close-disk.ensures) (goes_on_itself (D.fails store.journal.disk));
      };
      any_moment = λ told.
          subst (λ d. LeavesOnly D.moment D.left_since store.journal.disk d (IsWithAllOrNone texts more)) (sym c.close-disk.ensures)
          (begun D.moment D.left_since store.journal.disk (IsWithAllOrNone texts more)
          (λ image left. rests_with_all (D.kept store.journal.disk) texts more image (store.keeps told) (g.met.D.Disk.only_now store.journal.disk image told left)));
      faults = ap D.fault_count c.close-disk.ensures;
    }

pub append_all-requires-clause-some : goal.append_all-requires-clause-some
append_all-requires-clause-some g c =
    let bytes = c.as_slice.result.now in
    let waiting = c.args.waiting in
    omega (
      arith,
      ap length (but_first bytes),
      length-drop 1 bytes,
      ap length (c.as_slice.ensures.value ∙ c.in-Ok.ensures.bytes),
      length-append waiting.bytes.items (0 ∷ []),
      some_wait waiting c.requires.some,
    )

pub append_all-requires-clause-run : goal.append_all-requires-clause-run
append_all-requires-clause-run g c =
    let bytes = c.as_slice.result.now in
    ∣ (texts_of (recs_of c.args.waiting), their_run c.args.waiting c.requires.some bytes (c.as_slice.ensures.value ∙ c.in-Ok.ensures.bytes)) ∣₁

pub returns-in-Ok-append_all : goal.returns-in-Ok-append_all
returns-in-Ok-append_all g c =
    let D = g.D.Disk in
    let store = c.args.self in
    let waiting = c.args.waiting in
    let old = records_of {g = D} store in
    let recs = recs_of waiting in
    let log = c.prepare_all.new.log in
    let facts = c.in-Ok-append_all.ensures in
    let bytes = c.as_slice.result.now in
    let piece = take (length bytes - 1) (drop 1 bytes) in
    let run : IsRunOf piece (texts_of recs) = their_run waiting c.requires.some bytes (c.as_slice.ensures.value ∙ c.in-Ok.ensures.bytes) in
    let places_is : places_in log ≡ places_in store.log ++ places_of (placed_from store.journal.end (texts_of recs)) recs =
    places_after waiting store.log log c.end.result c.in-Ok.ensures.places
    ∙ ap (λ (e : ℕ). places_in store.log ++ places_of (placed_from e (texts_of recs)) recs) c.end.ensures in
    record {
      end = record {
        records =
            put_known {g = D} c.in-Ok-append_all.journal log store recs (bare_after waiting store.log log c.end.result c.in-Ok.ensures.records) places_is
            (λ told. all_kept _ old recs (facts.done told (texts_of old) (texts_of recs) (store.keeps told) run)) facts.superblock;
        acknowledged = λ told image is. all_stand image old recs (facts.acknowledged told (texts_of old) (texts_of recs) (store.keeps told) run image is);
        place = ends_there {g = D} store recs c.requires.some c.requires.can piece run _ facts.place;
        limit = facts.limit;
        superblock = facts.superblock;
        succeeded = facts.succeeded;
        plan = facts.plan;
        room = c.requires.can.room;
      };
      any_moment = λ told. facts.any_moment told (texts_of old) (texts_of recs) (store.keeps told) run;
      faults = facts.count;
    }

pub returns-in-Err-Broken : goal.returns-in-Err-Broken
returns-in-Err-Broken g c =
    let D = g.D.Disk in
    let store = c.args.self in
    let waiting = c.args.waiting in
    let texts = texts_of (records_of {g = D} store) in
    let more = texts_of (recs_of waiting) in
    let bytes = c.as_slice.result.now in
    let facts = rw c.in-Err-Broken.field-0-is at c.in-Err-Broken.ensures in
    let run : IsRunOf (take (length bytes - 1) (drop 1 bytes)) more = their_run waiting c.requires.some bytes (c.as_slice.ensures.value ∙ c.in-Ok.ensures.bytes) in
    record {
      end = record {
        left = λ told image is. facts.broken told texts more (store.keeps told) run refl image is;
        stopped = λ told. facts.stopped told texts more (store.keeps told) run refl;
        fault = facts.fault;
        room = c.requires.can.room;
      };
      any_moment = λ told. facts.any_moment told texts more (store.keeps told) run;
      faults = facts.count;
    }

-- there is room for all of them
pub unreachable-requires : goal.unreachable-requires
unreachable-requires g c =
    let D = g.D.Disk in
    let waiting = c.args.waiting in
    let bytes = c.as_slice.result.now in
    let piece = take (length bytes - 1) (drop 1 bytes) in
    let facts = rw c.in-Err-Full.field-0-is at c.in-Err-Full.ensures in
    let run : IsRunOf piece (texts_of (recs_of waiting)) = their_run waiting c.requires.some bytes (c.as_slice.ensures.value ∙ c.in-Ok.ensures.bytes) in
    never_full {g = D} c.args.self (recs_of waiting) c.requires.some c.requires.can piece run facts.full.0

pub returns : goal.returns
returns g c =
    let D = g.D.Disk in
    let store = c.args.self in
    let waiting = c.args.waiting in
    let texts = texts_of (records_of {g = D} store) in
    let more = texts_of (recs_of waiting) in
    let bytes = c.as_slice.result.now in
    let facts = rw c.in-Err-OutOfMemory.field-0-is at c.in-Err-OutOfMemory.ensures in
    let run : IsRunOf (take (length bytes - 1) (drop 1 bytes)) more = their_run waiting c.requires.some bytes (c.as_slice.ensures.value ∙ c.in-Ok.ensures.bytes) in
    record {
      end = record {
        kept = ap D.kept c.close-disk-in-Err-OutOfMemory.ensures ∙ facts.memory.0;
        no_call = λ told. subst (λ d. GoesOn 0 0 (D.fails store.journal.disk) (D.fails d)) (sym c.close-disk-in-Err-OutOfMemory.ensures) (facts.no_call told);
      };
      any_moment = λ told.
          subst (λ d. LeavesOnly D.moment D.left_since store.journal.disk d (IsWithAllOrNone texts more)) (sym c.close-disk-in-Err-OutOfMemory.ensures)
          (facts.any_moment told texts more (store.keeps told) run);
      faults = ap D.fault_count c.close-disk-in-Err-OutOfMemory.ensures ∙ facts.count;
    }

pub invariant_of-result : goal.invariant_of-result
invariant_of-result g c =
    let D = g.D.Disk in
    let store = c.args.self in
    let waiting = c.args.waiting in
    let old = records_of {g = D} store in
    let recs = recs_of waiting in
    let log = c.prepare_all.new.log in
    let facts = c.in-Ok-append_all.ensures in
    let bytes = c.as_slice.result.now in
    let run : IsRunOf (take (length bytes - 1) (drop 1 bytes)) (texts_of recs) = their_run waiting c.requires.some bytes (c.as_slice.ensures.value ∙ c.in-Ok.ensures.bytes) in
    let places_is : places_in log ≡ places_in store.log ++ places_of (placed_from store.journal.end (texts_of recs)) recs =
    places_after waiting store.log log c.end.result c.in-Ok.ensures.places
    ∙ ap (λ (e : ℕ). places_in store.log ++ places_of (placed_from e (texts_of recs)) recs) c.end.ensures in
    let kept =
    put_kept {g = D} c.in-Ok-append_all.journal log store recs (bare_after waiting store.log log c.end.result c.in-Ok.ensures.records) places_is
    (λ told. all_kept _ old recs (facts.done told (texts_of old) (texts_of recs) (store.keeps told) run)) facts.superblock waiting.fit c.requires.can.placed in
    record { keeps = kept.keeps; laid = kept.laid; sound = kept.sound }
