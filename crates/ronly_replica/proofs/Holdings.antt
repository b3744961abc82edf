-- what comes of one object, as the code goes through the cases, and of objects one after the other
use Rattle.std.proofs.Common.{◌≡◌, ℕ, zero, suc, ◌+◌, ◌-◌, ◌<◌, ◌≤◌, inl, inr, List, [], ◌∷◌, ◌++◌, append_assoc, arith, refl, ap, sym, ◌∙◌, subst, Option, Some, None, Bool, true, false}
use Rattle.std.specs.Prelude.{Result, Ok, Err, is_some, IsTrue}
use Rattle.std.specs.List.{range_with_len}
use Rattle.disk_model.specs.declared.disk.Disk.{Ghosts}
use Rattle.xt_journal.specs.Format.{StandsFor}
use Rattle.xt_journal.specs.Append.{IsWithAllOrNone}
use Rattle.xt_messages.specs.declared.record.Record.{Record}
use Rattle.replica_records.specs.Known.{as_known}
use Rattle.object_store.specs.Texts.{texts_of}
use Rattle.ronly_replica.specs.declared.pin.Pin.{Pin}
use Rattle.ronly_replica.specs.declared.origin.Fetched.{Fetched}
use Rattle.ronly_replica.specs.declared.origin.OriginErr.{OriginErr}
use Rattle.ronly_replica.specs.Faults.{is_memory}
use Rattle.ronly_replica.specs.declared.replica.Ronly.{Ronly}
use Rattle.ronly_replica.specs.declared.errors.RonlyErr.{RonlyErr}
use Rattle.ronly_replica.specs.declared.errors.RonlyErr.TheVariants as err
use Rattle.ronly_replica.specs.Pins.{stage_of, held_in}
use Rattle.ronly_replica.specs.Access.{pin_of, records_of, disk_of}
use Rattle.ronly_replica.specs.Disks.{LeftSo, Leaves, limit_in}
use Rattle.ronly_replica.specs.Holding.{Fetching, Holds, begun, was_held, fetched, LeavesHeld, LeavesTaken, IsWith, EndsAt, StopsAt, PutEnds, TakeEnds, HoldEnds}
use Rattle.ronly_replica.proofs.Chains.{range_more, joined}
use Rattle.ronly_replica.proofs.Left as disks
use Rattle.ronly_replica.proofs.Left.{texts-append}

not_some : {X : Type 0} (o : Option X) → is_some o ≡ false → o ≡ None
not_some None h = refl
not_some (Some x) h = absurd cc

some_value : {X : Type 0} (o : Option X) → is_some o ≡ true → (x : X) × (o ≡ Some x)
some_value None h = absurd cc
some_value (Some x) h = (x, refl)

-- ---- one object

known_whole : (told : Bool) (rec : Record) → IsTrue told → as_known told rec ≡ rec
known_whole true rec h = refl
known_whole false rec h = absurd cc

module _ {D : Type 0} {g : Ghosts D} where
  -- what comes of putting an object that was fetched at the pin's count
  pub takes : (old : Ronly D g) (object : ℕ) (made : Fetched) (result : Result (Ronly D g) (RonlyErr D g)) → made.count ≡ (pin_of old).count
      → PutEnds old (stage_of (pin_of old) object made.bytes) result → TakeEnds old object made result
  takes old object made (Ok new) same ends = (same, ends)
  takes old object made (Err (err.OutOfMemory replica)) same ends = ends
  takes old object made (Err (err.Full replica need limit)) same ends = (ends.0, ends.1, same)
  takes old object made (Err (err.Broken count disk)) same ends = (ends, same)
  takes old object made (Err (err.PinStore back pins)) same ends = absurd ends
  takes old object made (Err (err.Unloaded back)) same ends = absurd ends
  takes old object made (Err (err.Moved replica count)) same ends = absurd ends
  takes old object made (Err (err.Origin replica why)) same ends = absurd ends
  takes old object made (Err (err.Bodies count disk)) same ends = absurd ends

  pub taken_left : (old : Ronly D g) (object : ℕ) (made : Fetched) (result : Result (Ronly D g) (RonlyErr D g)) → made.count ≡ (pin_of old).count
      → Leaves old (IsWithAllOrNone (texts_of (records_of old)) (texts_of (stage_of (pin_of old) object made.bytes ∷ []))) result
      → Leaves old (LeavesTaken (pin_of old) (records_of old) object made) result
  taken_left old object made result same left =
      let staged = stage_of (pin_of old) object made.bytes ∷ [] in
      disks.weaker old (IsWithAllOrNone (texts_of (records_of old)) (texts_of staged)) (LeavesTaken (pin_of old) (records_of old) object made) result left
      (λ told image is. elim is [
        | inl without ↦ inl without
        | inr there ↦ inr (same, subst (StandsFor image) (sym (texts-append (records_of old) staged)) there)
      ])

module _ {D : Type 0} {g : Ghosts D} {O : Type 0} (fetches : Fetching O) where
  pub already : (old : Ronly D g) (start : O) (object : ℕ) → is_some (held_in (pin_of old) (records_of old) object) ≡ true → HoldEnds fetches old start start (object ∷ []) (Ok old)
  already old start object h =
      let here = some_value (held_in (pin_of old) (records_of old) object) h in
      (refl, was_held [] (records_of old) start object here.0 begun here.1)

  -- the object isn't held, and isn't put
  stops : (old : Ronly D g) (start after : O) (object : ℕ) (why : RonlyErr D g) → is_some (held_in (pin_of old) (records_of old) object) ≡ false
      → EndsAt fetches (pin_of old) (records_of old) start after object why → StopsAt fetches (pin_of old) (records_of old) start after (object ∷ []) why
  stops old start after object why h ends =
      record {
        front = [];
        object = object;
        rest = [];
        split = refl;
        now = records_of old;
        between = start;
        holds = begun;
        lacks = not_some (held_in (pin_of old) (records_of old) object) h;
        ends = ends;
      }

  same : (old : Ronly D g) → IsWith (pin_of old) (records_of old) old
  same old = record { pinned = refl; kept = refl }

  pub taken : (old : Ronly D g) (start after : O) (object : ℕ) (made : Fetched) (result : Result (Ronly D g) (RonlyErr D g))
      → is_some (held_in (pin_of old) (records_of old) object) ≡ false → fetches start object (Ok made) after → TakeEnds old object made result
      → HoldEnds fetches old start after (object ∷ []) result
  taken old start after object made (Ok new) h does t = (
    t.1.pinned,
    subst (λ rs. Holds fetches g.is_told (pin_of old) (records_of old) start (object ∷ []) rs after) (sym t.1.kept)
        (fetched [] (records_of old) start after object made begun (not_some (held_in (pin_of old) (records_of old) object) h) does t.0),
  )
  taken old start after object made (Err (err.Moved replica count)) h does t =
      stops old start after object (err.Moved replica count) h (t.0, record { made = made; fetched = does; other = t.1; told = t.2 })
  taken old start after object made (Err (err.OutOfMemory replica)) h does t =
      stops old start after object (err.OutOfMemory replica) h (t, record { result = Ok made; asked = does })
  taken old start after object made (Err (err.Full replica need limit)) h does t =
      stops old start after object (err.Full replica need limit) h (t.0, (record { made = made; fetched = does; same = t.2 }, t.1))
  taken old start after object made (Err (err.Broken count disk)) h does t =
      stops old start after object (err.Broken count disk) h (t.0, record { made = made; fetched = does; same = t.1 })
  taken old start after object made (Err (err.PinStore back pins)) h does t = absurd t
  taken old start after object made (Err (err.Unloaded back)) h does t = absurd t
  taken old start after object made (Err (err.Origin replica why)) h does t = absurd t
  taken old start after object made (Err (err.Bodies count disk)) h does t = absurd t

  pub unfetched : (old : Ronly D g) (start after : O) (object : ℕ) (why : OriginErr) → is_some (held_in (pin_of old) (records_of old) object) ≡ false
      → fetches start object (Err why) after → is_memory why ≡ false → StopsAt fetches (pin_of old) (records_of old) start after (object ∷ []) (err.Origin old why)
  unfetched old start after object why h does other =
      stops old start after object (err.Origin old why) h (same old, record { failed = does; other = other })

  pub no_memory : (old : Ronly D g) (start after : O) (object : ℕ) (why : OriginErr) → is_some (held_in (pin_of old) (records_of old) object) ≡ false
      → fetches start object (Err why) after → StopsAt fetches (pin_of old) (records_of old) start after (object ∷ []) (err.OutOfMemory old)
  no_memory old start after object why h does = stops old start after object (err.OutOfMemory old) h (same old, record { result = Err why; asked = does })

  -- a crash meanwhile leaves the object held, or as it was
  pub held_left : (old : Ronly D g) (start after : O) (object : ℕ) (made : Fetched) (result : Result (Ronly D g) (RonlyErr D g))
      → is_some (held_in (pin_of old) (records_of old) object) ≡ false → fetches start object (Ok made) after
      → Leaves old (LeavesTaken (pin_of old) (records_of old) object made) result
      → Leaves old (LeavesHeld fetches g.is_told (pin_of old) (records_of old) start (object ∷ [])) result
  held_left old start after object made result h does left =
      let pin = pin_of old in
      let records = records_of old in
      let staged = stage_of pin object made.bytes in
      disks.weaker old (LeavesTaken pin records object made) (LeavesHeld fetches g.is_told pin records start (object ∷ [])) result left
      (λ told image is. elim is [
        | inl without ↦ record { front = []; rest = object ∷ []; split = refl; now = records; between = start; holds = begun; stands = without }
        | inr there ↦ record {
          front = object ∷ [];
          rest = [];
          split = refl;
          now = records ++ as_known g.is_told staged ∷ [];
          between = after;
          holds = fetched [] records start after object made begun (not_some (held_in pin records object) h) does there.0;
          stands = subst (λ rec. StandsFor image (texts_of (records ++ rec ∷ []))) (sym (known_whole g.is_told staged told)) there.1;
        }
      ])

-- ---- objects from the first one on

pub none_yet : (first : ℕ) → range_with_len first (first - first) ≡ []
none_yet first = let none : first - first ≡ 0 = omega arith in ap (range_with_len first) none

-- those before this one, this one, and those behind it
range_split : (first count more : ℕ) → range_with_len first (count + more) ≡ range_with_len first count ++ range_with_len (first + count) more
range_split first zero more =
    let all : zero + more ≡ more = omega arith in
    let same : first ≡ first + zero = omega arith in
    ap (range_with_len first) all ∙ ap (λ n. range_with_len n more) same
range_split first (suc count) more =
    let all : suc count + more ≡ suc (count + more) = omega arith in
    let same : first + 1 + count ≡ first + suc count = omega arith in
    ap (range_with_len first) all
    ∙ ap (λ xs. first ∷ xs) (range_split (first + 1) count more ∙ ap (λ n. range_with_len (first + 1) count ++ range_with_len n more) same)

around : (first object end : ℕ) → first ≤ object → object < end
    → range_with_len first (end - first) ≡ range_with_len first (object - first) ++ object ∷ range_with_len (object + 1) (end - object - 1)
around first object end le lt =
    let count : end - first ≡ (object - first) + suc (end - object - 1) = omega arith in
    let here : first + (object - first) ≡ object = omega arith in
    ap (range_with_len first) count ∙ range_split first (object - first) (suc (end - object - 1))
    ∙ ap (λ n. range_with_len first (object - first) ++ range_with_len n (suc (end - object - 1))) here

-- a front of later objects that is held is one of all objects
held_later : {O : Type 0} (fetches : Fetching O) (told : Bool) (pin : Pin) (records now : List Record) (start between : O) (before objects behind image : List ℕ)
    → Holds fetches told pin records start before now between → LeavesHeld fetches told pin now between objects image
    → LeavesHeld fetches told pin records start (before ++ (objects ++ behind)) image
held_later fetches told pin records now start between before objects behind image so_far held =
    record {
      front = before ++ held.front;
      rest = held.rest ++ behind;
      split = ap (λ xs. before ++ xs) (ap (λ xs. xs ++ behind) held.split ∙ append_assoc held.front held.rest behind)
          ∙ sym (append_assoc before held.front (held.rest ++ behind));
      now = held.now;
      between = held.between;
      holds = joined fetches told pin records now start between before held.front held.now held.between so_far held.holds;
      stands = held.stands;
    }

module _ {D : Type 0} {g : Ghosts D} {O : Type 0} (fetches : Fetching O) (pin : Pin) (records : List Record) (start : O) where
  -- so far the objects before this one are held, and now this one is
  pub goes_on : (first object : ℕ) (now next : Ronly D g) (between after : O) → first ≤ object → pin_of now ≡ pin
      → Holds fetches g.is_told pin records start (range_with_len first (object - first)) (records_of now) between
      → HoldEnds fetches now between after (object ∷ []) (Ok next)
      → (pin_of next ≡ pin) × Holds fetches g.is_told pin records start (range_with_len first (object + 1 - first)) (records_of next) after
  goes_on first object now next between after le pinned so_far ends =
      let one : Holds fetches g.is_told pin (records_of now) between (object ∷ []) (records_of next) after
      = subst (λ p. Holds fetches g.is_told p (records_of now) between (object ∷ []) (records_of next) after) pinned ends.1 in
      let all = joined fetches g.is_told pin records (records_of now) start between (range_with_len first (object - first)) (object ∷ []) (records_of next) after so_far one in
      let here : first + (object - first) ≡ object = omega arith in
      let count : object + 1 - first ≡ object - first + 1 = omega arith in
      let more : range_with_len first (object - first) ++ object ∷ [] ≡ range_with_len first (object + 1 - first)
      = ap (λ n. range_with_len first (object - first) ++ n ∷ []) (sym here) ∙ sym (range_more first (object - first)) ∙ ap (range_with_len first) (sym count) in
      (ends.0 ∙ pinned, subst (λ l. Holds fetches g.is_told pin records start l (records_of next) after) more all)

  -- or it isn't put
  pub stops_there : (first object end : ℕ) (now : Ronly D g) (between after : O) (why : RonlyErr D g) → first ≤ object → object < end → pin_of now ≡ pin
      → Holds fetches g.is_told pin records start (range_with_len first (object - first)) (records_of now) between
      → StopsAt fetches (pin_of now) (records_of now) between after (object ∷ []) why
      → StopsAt fetches pin records start after (range_with_len first (end - first)) why
  stops_there first object end now between after why le lt pinned so_far stop =
      let s = subst (λ p. StopsAt fetches p (records_of now) between after (object ∷ []) why) pinned stop in
      let before = range_with_len first (object - first) in
      let behind = range_with_len (object + 1) (end - object - 1) in
      let whole : range_with_len first (end - first) ≡ (before ++ s.front) ++ s.object ∷ (s.rest ++ behind)
      = around first object end le lt ∙ ap (λ xs. before ++ xs) (ap (λ xs. xs ++ behind) s.split ∙ append_assoc s.front (s.object ∷ s.rest) behind)
      ∙ sym (append_assoc before s.front (s.object ∷ (s.rest ++ behind))) in
      record {
        front = before ++ s.front;
        object = s.object;
        rest = s.rest ++ behind;
        split = whole;
        now = s.now;
        between = s.between;
        holds = joined fetches g.is_told pin records (records_of now) start between before s.front s.now s.between so_far s.holds;
        lacks = s.lacks;
        ends = s.ends;
      }

module _ {D : Type 0} {g : Ghosts D} {O : Type 0} (fetches : Fetching O) (old : Ronly D g) (start : O) (first end : ℕ) where
  -- what a crash leaves while the objects from the first one on are held; the disk has failed no more, and the journal's limit is the same
  pub record IsLeftAt (now : Ronly D g) : Type 0 where
    pub left : LeftSo g (disk_of old) (disk_of now) (LeavesHeld fetches g.is_told (pin_of old) (records_of old) start (range_with_len first (end - first)))
    pub sound : g.fault_count (disk_of now) ≡ g.fault_count (disk_of old)
    pub limit : limit_in now ≡ limit_in old

  pub at_first : IsLeftAt old
  at_first = record { left = λ told. inl refl; sound = refl; limit = refl }

  -- one object more
  pub left_more : (object : ℕ) (now : Ronly D g) (between : O) (result : Result (Ronly D g) (RonlyErr D g)) → first ≤ object → object < end → pin_of now ≡ pin_of old
      → Holds fetches g.is_told (pin_of old) (records_of old) start (range_with_len first (object - first)) (records_of now) between → IsLeftAt now
      → Leaves now (LeavesHeld fetches g.is_told (pin_of now) (records_of now) between (object ∷ [])) result
      → Leaves old (LeavesHeld fetches g.is_told (pin_of old) (records_of old) start (range_with_len first (end - first))) result
  left_more object now between result le lt pinned so_far at later =
      let pin = pin_of old in
      let whole = range_with_len first (end - first) in
      let before = range_with_len first (object - first) in
      let behind = range_with_len (object + 1) (end - object - 1) in
      let all : List ℕ → Type 0 = LeavesHeld fetches g.is_told pin (records_of old) start whole in
      disks.goes_on old now all result at.left at.sound at.limit
      (disks.weaker now (LeavesHeld fetches g.is_told (pin_of now) (records_of now) between (object ∷ [])) all result later
      (λ told image is.
      let one = subst (λ p. LeavesHeld fetches g.is_told p (records_of now) between (object ∷ []) image) pinned is in
      subst (λ xs. LeavesHeld fetches g.is_told pin (records_of old) start xs image) (sym (around first object end le lt))
      (held_later fetches g.is_told pin (records_of old) (records_of now) start between before (object ∷ []) behind image so_far one)))

  pub left_then : (next : Ronly D g) → Leaves old (LeavesHeld fetches g.is_told (pin_of old) (records_of old) start (range_with_len first (end - first))) (Ok next) → IsLeftAt next
  left_then next later = record { left = later.any_moment; sound = later.faults; limit = later.limit }

  pub left_at_last : (now : Ronly D g) → IsLeftAt now → Leaves old (LeavesHeld fetches g.is_told (pin_of old) (records_of old) start (range_with_len first (end - first))) (Ok now)
  left_at_last now at = record { any_moment = at.left; faults = at.sound; limit = at.limit }
