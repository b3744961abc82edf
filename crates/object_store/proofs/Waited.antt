-- records that wait in memory, as the bytes that they will be on the disk
use Rattle.std.proofs.Common.{◌≡◌, ℕ, ◌+◌, ◌≤◌, ◌<◌, ◌^◌, true, List, [], ◌∷◌, ◌++◌, length, drop, map, refl, sym, ◌∙◌, ap, subst, arith, append_assoc, length-append}
use Rattle.std.specs.Prelude.{Contains, Result, Ok, Err}
use Rattle.std.specs.List.{All}
use Rattle.std.proofs.lemmas.List.{append-nil, map-append}
use Rattle.std.proofs.lemmas.List.Elements.{All-from_recursion, All-push}
use Rattle.std.proofs.lemmas.List.Sums.{fold-append}
use Rattle.disk_model.specs.declared.disk.Disk.{Ghosts}
use Rattle.journal_areas.proofs.Records.{length-push, length-record, records-append}
use Rattle.xt_base.specs.Faults.{counted}
use Rattle.xt_messages.specs.Limits.{FitsRecord}
use Rattle.xt_messages.specs.declared.record.Folded.{Folded}
use Rattle.xt_messages.specs.declared.record.Record.{Record}
use Rattle.xt_protocol.specs.Folds.{fold_of, IsInPlace}
use Rattle.xt_journal.specs.Access.{place_of, limit_of}
use Rattle.xt_journal.specs.Append.{IsRunOf}
use Rattle.xt_journal.specs.Format.{open_gate, record_of, records}
use Rattle.xt_journal.specs.Placed.{Placed}
use Rattle.xt_journal.specs.Reading.{placed_from}
use Rattle.xt_journal.proofs.Push.{payloads_of_placed, placed_from-push}
use Rattle.xt_journal.proofs.Steps.{length-run}
use Rattle.replica_records.specs.Known.{as_known, known_of}
use Rattle.replica_records.specs.RecordText.{record_text}
use Rattle.replica_records.proofs.Known.{fold_known, known_append}
use Rattle.object_store.specs.declared.log.StoreLog.{StoreLog}
use Rattle.object_store.specs.declared.place.BodyPlace.{BodyPlace}
use Rattle.object_store.specs.declared.store.Store.{Store}
use Rattle.object_store.specs.declared.waiting.StageErr.{StageErr}
use Rattle.object_store.specs.declared.waiting.StageErr.TheVariants.{Full, OutOfMemory}
use Rattle.object_store.specs.declared.waiting.Waiting.{Waiting}
use Rattle.object_store.specs.Access.{journal_of, records_of}
use Rattle.object_store.specs.Bare.{bare, bare_of}
use Rattle.object_store.specs.Logs.{bare_in, places_in, records_in}
use Rattle.object_store.specs.Places as places
use Rattle.object_store.specs.Texts.{texts_of}
use Rattle.object_store.specs.Waits.{Adds, CanBePut, IsAdded, IsStaged, IsStill, IsUnadded, Stages, bytes_of, end_after, end_with, needed_after, recs_of, records_with}
use Rattle.object_store.proofs.Callers.{store_known}
use Rattle.object_store.proofs.ReadBack.{IsReadable, filled_back, places-push, places_inside, places_later}
use Rattle.object_store.proofs.Reading.{in_place-append, texts-push}
use Rattle.object_store.proofs.RecordKinds.{given_texts}
use Rattle.object_store.proofs.Standing.{AreInside, inside_from}
use Rattle.object_store.proofs.Stored.{bare_known}

-- ---- their bytes

module _ (bytes : List ℕ) (recs : List Record) (small : length bytes < 2 ^ 64) (fit : All FitsRecord recs) (are : bytes ≡ records (texts_of recs)) where
  inside : AreInside bytes (length bytes) (placed_from 0 (texts_of recs))
  inside =
      inside_from bytes [] 0 (length bytes) (texts_of recs) [] (given_texts recs fit) (are ∙ sym (append-nil (records (texts_of recs)))) refl (omega (arith, ap length are))

  -- they are read as they were put
  pub waiting_read : (log : StoreLog) → bare_in log ≡ bare_of recs → places_in log ≡ places.places_of (placed_from 0 (texts_of recs)) recs
      → records_in true bytes log ≡ recs
  waiting_read log bare_is places_is =
      ap (λ (rs : List Record). places.filled (places.bytes_at true bytes) rs (places_in log)) bare_is
      ∙ ap (λ (ps : List BodyPlace). places.filled (places.bytes_at true bytes) (bare_of recs) ps) places_is
      ∙ filled_back bytes (length bytes) (placed_from 0 (texts_of recs)) recs small inside (payloads_of_placed 0 (texts_of recs))

  -- each body is among the bytes
  pub waiting_inside : (log : StoreLog) → places_in log ≡ places.places_of (placed_from 0 (texts_of recs)) recs → (place : BodyPlace) → Contains (places_in log) place
      → IsReadable bytes place
  waiting_inside log places_is place among =
      let all = All-from_recursion (IsReadable bytes) (places.places_of (placed_from 0 (texts_of recs)) recs)
      (places_inside bytes (length bytes) (placed_from 0 (texts_of recs)) recs small inside (payloads_of_placed 0 (texts_of recs))) in
      let moved = subst (λ (ps : List BodyPlace). Contains ps place) places_is among in
      subst (IsReadable bytes) moved.2 (all moved.0 place moved.1)

-- ---- what is known of them

-- the ghost fields of records that wait
pub record AreWaiting (bytes : List ℕ) (log : StoreLog) : Type 0 where
  pub written : bytes ≡ records (texts_of (records_in true bytes log))
  pub laid : places_in log ≡ places.places_of (placed_from 0 (texts_of (records_in true bytes log))) (records_in true bytes log)
  pub fit : All FitsRecord (records_in true bytes log)

module _ (bytes : List ℕ) (log : StoreLog) (recs : List Record) (small : length bytes < 2 ^ 64) (fit : All FitsRecord recs) (are : bytes ≡ records (texts_of recs))
    (bare_is : bare_in log ≡ bare_of recs) (places_is : places_in log ≡ places.places_of (placed_from 0 (texts_of recs)) recs) where
  pub waiting_are : AreWaiting bytes log
  waiting_are =
      let same = sym (waiting_read bytes recs small fit are log bare_is places_is) in
      record {
        written = are ∙ ap (λ (rs : List Record). records (texts_of rs)) same;
        laid = places_is ∙ ap (λ (rs : List Record). places.places_of (placed_from 0 (texts_of rs)) rs) same;
        fit = subst (All FitsRecord) same fit;
      }

-- the same, where there is only more room for them
module _ (old : List ℕ) (log : StoreLog) (was : AreWaiting old log) (bytes : List ℕ) (new : StoreLog) (same : bytes ≡ old) (bare_is : bare_in new ≡ bare_in log)
    (places_is : places_in new ≡ places_in log) where
  pub still_recs : records_in true bytes new ≡ records_in true old log
  still_recs =
      ap (λ (b : List ℕ). records_in true b new) same
      ∙ ap (λ (rs : List Record). places.filled (places.bytes_at true old) rs (places_in new)) bare_is
      ∙ ap (λ (ps : List BodyPlace). places.filled (places.bytes_at true old) (bare_in log) ps) places_is

  pub still_are : AreWaiting bytes new
  still_are =
      let recs = sym still_recs in
      record {
        written = same ∙ was.written ∙ ap (λ (rs : List Record). records (texts_of rs)) recs;
        laid = places_is ∙ was.laid ∙ ap (λ (rs : List Record). places.places_of (placed_from 0 (texts_of rs)) rs) recs;
        fit = subst (All FitsRecord) recs was.fit;
      }

-- a record more
module _ (old : List ℕ) (log : StoreLog) (was : AreWaiting old log) (rec : Record) (fits : FitsRecord rec) (bytes : List ℕ) (new : StoreLog)
    (small : length bytes < 2 ^ 64) (more : bytes ≡ old ++ open_gate ∷ record_of (record_text rec)) (bare_is : bare_in new ≡ bare_in log ++ bare rec ∷ [])
    (places_is : places_in new ≡ places_in log ++ places.place_of (record { gate = length old; bytes = record_text rec }) rec ∷ []) where
  abbrev recs : List Record
  recs = records_in true old log

  more_fit : All FitsRecord (recs ++ rec ∷ [])
  more_fit = All-push FitsRecord recs rec was.fit fits

  more_written : bytes ≡ records (texts_of (recs ++ rec ∷ []))
  more_written =
      more ∙ ap (λ (l : List ℕ). old ++ open_gate ∷ l) (sym (append-nil (record_of (record_text rec))))
      ∙ ap (λ (l : List ℕ). l ++ records (record_text rec ∷ [])) was.written ∙ sym (records-append (texts_of recs) (record_text rec ∷ []))
      ∙ ap records (sym (texts-push recs rec))

  more_bare : bare_in new ≡ bare_of (recs ++ rec ∷ [])
  more_bare = bare_is ∙ ap (λ (l : List Record). l ++ bare rec ∷ []) (sym (bare_known true old log)) ∙ sym (map-append bare recs (rec ∷ []))

  more_laid : places_in new ≡ places.places_of (placed_from 0 (texts_of (recs ++ rec ∷ []))) (recs ++ rec ∷ [])
  more_laid =
      let texts = texts_of recs in
      let text = record_text rec in
      let gate : length old ≡ 0 + length (records texts) = omega (arith, ap length was.written) in
      let last : ℕ → Placed = λ g. record { gate = g; bytes = text } in
      places_is
      ∙ ap (λ (ps : List BodyPlace). ps ++ places.place_of (last (length old)) rec ∷ []) was.laid
      ∙ sym (places-push (placed_from 0 texts) recs (last (length old)) rec (payloads_of_placed 0 texts))
      ∙ ap (λ (g : ℕ). places.places_of (placed_from 0 texts ++ last g ∷ []) (recs ++ rec ∷ [])) gate
      ∙ ap (λ (ps : List Placed). places.places_of ps (recs ++ rec ∷ [])) (sym (ap (placed_from 0) (texts-push recs rec) ∙ placed_from-push 0 texts text))

  pub staged_recs : records_in true bytes new ≡ recs ++ rec ∷ []
  staged_recs = waiting_read bytes (recs ++ rec ∷ []) small more_fit more_written new more_bare more_laid

  pub staged_are : AreWaiting bytes new
  staged_are = waiting_are bytes new (recs ++ rec ∷ []) small more_fit more_written more_bare more_laid

-- ---- where they end

-- how many bytes a record takes
pub length_one : (payload : List ℕ) → length (records (payload ∷ [])) ≡ 5 + length payload
length_one payload = omega (arith, length-push [] payload)

pub end_after-push : (end : ℕ) (recs : List Record) (rec : Record) → end_after end (recs ++ rec ∷ []) ≡ end_after end recs + (5 + length (record_text rec))
end_after-push end recs rec = fold-append (λ e r. e + (5 + length (record_text r))) end recs (rec ∷ [])

pub end_after-bytes : (end : ℕ) (recs : List Record) → end_after end recs ≡ end + length (records (texts_of recs))
end_after-bytes end [] = omega arith
end_after-bytes end (r ∷ recs) =
    omega (
      arith,
      end_after-bytes (end + (5 + length (record_text r))) recs,
      length-append (record_of (record_text r)) (records (texts_of recs)),
      length-record (record_text r),
    )

pub needed_after-push : (end : ℕ) (recs : List Record) (rec : Record) → needed_after end (recs ++ rec ∷ []) ≡ end_after end recs + (6 + length (record_text rec))
needed_after-push end [] rec = refl
needed_after-push end (r ∷ []) rec = refl
needed_after-push end (r ∷ (s ∷ recs)) rec = needed_after-push (end + (5 + length (record_text r))) (s ∷ recs) rec

pub needed_after-bytes : (end : ℕ) (recs : List Record) → 1 ≤ length recs → needed_after end recs ≡ end + (1 + length (records (texts_of recs)))
needed_after-bytes end [] some = absurd (omega (arith, some))
needed_after-bytes end (r ∷ []) some = omega (arith, length_one (record_text r))
needed_after-bytes end (r ∷ (s ∷ recs)) some =
    omega (
      arith,
      needed_after-bytes (end + (5 + length (record_text r))) (s ∷ recs) (omega arith),
      length-append (record_of (record_text r)) (records (texts_of (s ∷ recs))),
      length-record (record_text r),
    )

-- ---- after the records of a store

module _ {D : Type 0} {g : Ghosts D} (store : Store D g) (recs : List Record) where
  -- they say what is known of them
  says_so : fold_of (records_with store recs) ≡ fold_of (records_of store ++ recs)
  says_so =
      ap (λ (l : List Record). fold_of (l ++ known_of g.is_told recs)) (sym (store_known store)) ∙ ap fold_of (sym (known_append g.is_told (records_of store) recs))
      ∙ fold_known g.is_told (records_of store ++ recs)

  pub known_more : (rec : Record) → records_with store (recs ++ rec ∷ []) ≡ records_with store recs ++ as_known g.is_told rec ∷ []
  known_more rec =
      ap (λ (l : List Record). records_of store ++ l) (known_append g.is_told recs (rec ∷ []))
      ∙ sym (append_assoc (records_of store) (known_of g.is_told recs) (as_known g.is_told rec ∷ []))

  pub can_more : (rec : Record) → CanBePut store recs → IsInPlace (fold_of (records_with store recs)) rec
      → end_after (place_of (journal_of store)) recs + (6 + length (record_text rec)) ≤ limit_of (journal_of store) → CanBePut store (recs ++ rec ∷ [])
  can_more rec can there room = record {
    placed = in_place-append (records_of store) recs (rec ∷ []) can.placed (subst (λ (f : Folded). IsInPlace f rec) says_so there, tt);
    room = omega (arith, room, needed_after-push (place_of (journal_of store)) recs rec);
  }

-- ---- how adding a record ends

-- whatever that is, what waits is as it should be
pub are_after : {D T : Type 0} {g : Ghosts D} (store : Store D g) (rec : Record) (old bytes : List ℕ) (log new : StoreLog) (result : Result T StageErr) → AreWaiting old log
    → FitsRecord rec → length bytes < 2 ^ 64 → Adds store rec old bytes log new result → AreWaiting bytes new
are_after store rec old bytes log new (Ok done) was fits small added = staged_are old log was rec fits bytes new small added.bytes added.bare added.places
are_after store rec old bytes log new (Err error) was fits small end = still_are old log was bytes new end.0.bytes end.0.bare end.0.places

module _ {D : Type 0} {g : Ghosts D} (store : Store D g) (old new : Waiting) (rec : Record) where
  small_old : end_with store (recs_of old) ≡ place_of (journal_of store) + length (bytes_of old)
  small_old = omega (arith, end_after-bytes (place_of (journal_of store)) (recs_of old), ap length old.written)

  staged : FitsRecord rec → CanBePut store (recs_of old) → IsInPlace (fold_of (records_with store (recs_of old))) rec → length (bytes_of new) < 2 ^ 64
      → IsAdded store rec (bytes_of old) (bytes_of new) old.log new.log → IsStaged store old rec new
  staged fits can there small added =
      let end = place_of (journal_of store) in
      let was : AreWaiting (bytes_of old) old.log = record { written = old.written; laid = old.laid; fit = old.fit } in
      let recs : recs_of new ≡ recs_of old ++ rec ∷ [] = staged_recs (bytes_of old) old.log was rec fits (bytes_of new) new.log small added.bytes added.bare added.places in
      let room : end_with store (recs_of old) + (6 + length (record_text rec)) ≤ limit_of (journal_of store) = omega (arith, added.room, small_old) in
      record {
        recs = recs;
        known = ap (records_with store) recs ∙ known_more store (recs_of old) rec;
        end = ap (end_with store) recs ∙ end_after-push end (recs_of old) rec;
        size = omega (arith, ap length added.bytes, length-append (bytes_of old) (open_gate ∷ record_of (record_text rec)), length-record (record_text rec));
        room = room;
        can = subst (CanBePut store) (sym recs) (can_more store (recs_of old) rec can there room);
      }

  still : IsUnadded (bytes_of old) (bytes_of new) old.log new.log → IsStill old new
  still is = (still_recs (bytes_of old) old.log (record { written = old.written; laid = old.laid; fit = old.fit }) (bytes_of new) new.log is.bytes is.bare is.places, is.bytes)

  pub stages : {T : Type 0} (result : Result T StageErr) → FitsRecord rec → CanBePut store (recs_of old) → IsInPlace (fold_of (records_with store (recs_of old))) rec
      → length (bytes_of new) < 2 ^ 64 → Adds store rec (bytes_of old) (bytes_of new) old.log new.log result → Stages store old rec new result
  stages (Ok done) fits can there small added = staged fits can there small added
  stages (Err (Full need limit)) fits can there small end = (
    record {
      over = omega (arith, end.1.over, small_old);
      need_is = end.1.need_is ∙ ap (λ (n : ℕ). counted (n + (6 + length (record_text rec)))) (sym small_old);
      limit_is = end.1.limit_is;
    },
    still end.0,
  )
  stages (Err OutOfMemory) fits can there small end = still end.0

-- ---- what is appended

first_gate : (recs : List Record) → 1 ≤ length recs → open_gate ∷ drop 1 (records (texts_of recs) ++ 0 ∷ []) ≡ records (texts_of recs) ++ 0 ∷ []
first_gate [] some = absurd (omega (arith, some))
first_gate (r ∷ rs) some = refl

-- their bytes after the first gate, and the next gate, closed
pub run_of : (bytes piece : List ℕ) (recs : List Record) → All FitsRecord recs → bytes ≡ records (texts_of recs) → 1 ≤ length recs → piece ≡ drop 1 (bytes ++ 0 ∷ [])
    → IsRunOf piece (texts_of recs)
run_of bytes piece recs fit are some is = record {
  given = given_texts recs fit;
  are = ap (λ (l : List ℕ). open_gate ∷ l) (is ∙ ap (λ (l : List ℕ). drop 1 (l ++ 0 ∷ [])) are) ∙ first_gate recs some;
}

module _ {D : Type 0} {g : Ghosts D} (store : Store D g) (recs : List Record) (some : 1 ≤ length recs) (can : CanBePut store recs) (piece : List ℕ)
    (run : IsRunOf piece (texts_of recs)) where
  -- there is room for them
  pub never_full : limit_of (journal_of store) < place_of (journal_of store) + (1 + length piece) → ⊥
  never_full over =
      omega (arith, over, can.room, needed_after-bytes (place_of (journal_of store)) recs some, length-run piece (texts_of recs) run)

  pub ends_there : (end : ℕ) → end ≡ place_of (journal_of store) + length piece → end ≡ end_after (place_of (journal_of store)) recs
  ends_there end is = omega (arith, is, end_after-bytes (place_of (journal_of store)) recs, length-run piece (texts_of recs) run)

-- the log of a store with what waits after it
module _ (waiting : Waiting) (old new : StoreLog) (end : ℕ) where
  pub bare_after : bare_in new ≡ bare_in old ++ bare_in waiting.log → bare_in new ≡ bare_in old ++ bare_of (recs_of waiting)
  bare_after is = is ∙ ap (λ (l : List Record). bare_in old ++ l) (sym (bare_known true (bytes_of waiting) waiting.log))

  pub places_after : places_in new ≡ places_in old ++ map (places.later end) (places_in waiting.log)
      → places_in new ≡ places_in old ++ places.places_of (placed_from end (texts_of (recs_of waiting))) (recs_of waiting)
  places_after is =
      let recs = recs_of waiting in
      let here : end + 0 ≡ end = omega arith in
      is
      ∙ ap (λ (l : List BodyPlace). places_in old ++ map (places.later end) l) waiting.laid
      ∙ ap (λ (l : List BodyPlace). places_in old ++ l)
      (places_later end 0 (texts_of recs) recs ∙ ap (λ (g : ℕ). places.places_of (placed_from g (texts_of recs)) recs) here)

-- ---- no record

pub none_waiting : (bytes : List ℕ) (log : StoreLog) → bytes ≡ [] → bare_in log ≡ [] → places_in log ≡ [] → AreWaiting bytes log
none_waiting bytes log is bare_is places_is =
    waiting_are bytes log [] (omega (arith, ap length is)) (λ k d less. absurd (omega (arith, less))) is bare_is places_is

pub none_there : (bytes : List ℕ) (log : StoreLog) → bytes ≡ [] → bare_in log ≡ [] → places_in log ≡ [] → records_in true bytes log ≡ []
none_there bytes log is bare_is places_is =
    waiting_read bytes [] (omega (arith, ap length is)) (λ k d less. absurd (omega (arith, less))) is log bare_is places_is
