-- a read of held objects that are the ranges of a content is the range of it
use Rattle.std.proofs.Common.{◌≡◌, ℕ, ◌+◌, ◌-◌, ◌*◌, ◌/◌, ◌<◌, ◌≤◌, inl, inr, List, [], length, map, take, drop, refl, ap, sym, ◌∙◌, subst, arith, Option, Some, Bool, true, false}
use Rattle.std.specs.Prelude.{Result, Ok, Err, IfOk, IsTrue, min, ◌==◌, nat_lt, if◌then◌else◌}
use Rattle.std.specs.List.{range_with_len, concat}
use Rattle.std.proofs.lemmas.Bool.{cases_lt}
use Rattle.std.proofs.lemmas.Bool.Decides.{nat_tests}
use Rattle.std.proofs.lemmas.List.{length-drop, take_min}
use Rattle.std.proofs.Math.Nat.{le-div_iff_mul-le, div-mul-le_self}
use Rattle.disk_model.specs.declared.disk.Disk.{Ghosts}
use Rattle.xt_messages.specs.declared.record.Record.{Record}
use Rattle.time_line.specs.Content.{range_of}
use Rattle.striping.specs.Cover.{Covers, object_of, bytes_of}
use Rattle.striping.proofs.Joined.{joined}
use Rattle.ronly_replica.specs.declared.pin.Pin.{Pin}
use Rattle.ronly_replica.specs.declared.origin.Fetched.{Fetched}
use Rattle.ronly_replica.specs.declared.origin.OriginErr.{OriginErr}
use Rattle.ronly_replica.specs.declared.replica.Ronly.{Ronly}
use Rattle.ronly_replica.specs.declared.errors.RonlyErr.{RonlyErr}
use Rattle.ronly_replica.specs.declared.errors.RonlyErr.TheVariants as err
use Rattle.ronly_replica.specs.Pins.{shown_in, objects_below, end_of, objects_of, IsPinOf}
use Rattle.ronly_replica.specs.Access.{pin_of, records_of, disk_of}
use Rattle.ronly_replica.specs.Disks.{Leaves, without_bytes, limit_in}
use Rattle.ronly_replica.specs.Making.{ShownEnds}
use Rattle.ronly_replica.specs.Holding.{Fetching, Holds, begun, Shows, length_of, StopsAt, HoldEnds, ReadEnds, ShowsFrozen, KeepsFrozen}
use Rattle.ronly_replica.proofs.Frozen.{IsFrozen, frozen_along}
use Rattle.ronly_replica.proofs.HeldRanges.{all_held, shown_pieces}
use Rattle.ronly_replica.proofs.Left as disks

-- ---- ranges

-- the objects of a range begin below their end
first_below : (stripe at end : ℕ) → 0 < stripe → at < end → at / stripe + (objects_below stripe end - at / stripe) ≡ objects_below stripe end
first_below stripe at end some lt =
    let low : at / stripe * stripe ≤ at = div-mul-le_self at stripe in
    let first : at / stripe ≤ (end - 1) / stripe = (le-div_iff_mul-le {k = stripe} {x = at / stripe} {y = end - 1} some).1 (omega arith) in
    let there : objects_below stripe end ≡ (end - 1) / stripe + 1 = ap (λ b. if b then 0 else (end - 1) / stripe + 1) (not_none end (omega arith)) in
    omega (arith, there, first)
  where
    not_none : (n : ℕ) → 0 < n → (n == 0) ≡ false
    not_none n more = grind (arith, nat_tests)

-- what is below the size of a content is all of a range that it has
cut_range : (whole : List ℕ) (at len : ℕ) → range_of whole at (min (at + len) (length whole) - at) ≡ range_of whole at len
cut_range whole at len =
    let size : min (at + len) (length whole) - at ≡ min len (length (drop at whole)) = omega (arith, length-drop at whole) in
    ap (λ n. take n (drop at whole)) size ∙ take_min len (drop at whole)

-- nothing is there behind its end
pub empty_range : (whole : List ℕ) (at len : ℕ) → min (at + len) (length whole) ≤ at → range_of whole at len ≡ []
empty_range whole at len le =
    let none : min (at + len) (length whole) - at ≡ 0 = omega arith in
    sym (cut_range whole at len) ∙ ap (λ n. take n (drop at whole)) none

holds_told : {O : Type 0} (fetches : Fetching O) (b : Bool) (pin : Pin) (records : List Record) (start : O) (objects : List ℕ) (now : List Record) (origin : O)
    → IsTrue b → Holds fetches b pin records start objects now origin → Holds fetches true pin records start objects now origin
holds_told fetches true pin records start objects now origin told h = h
holds_told fetches false pin records start objects now origin told h = absurd cc

module _ {O : Type 0} (content : O → ℕ → Option (List ℕ)) (stripe : O → ℕ) (fetches : Fetching O)
    (tells : (old new : O) (object : ℕ) (made : Fetched) (whole : List ℕ) → fetches old object (Ok made) new → content old made.count ≡ Some whole
    → (made.bytes ≡ object_of (stripe old) whole object) × (made.mark.size ≡ length whole))
    (stays : (old new : O) (object : ℕ) (result : Result Fetched OriginErr) (count : ℕ) → fetches old object result new
    → (content new count ≡ content old count) × (stripe new ≡ stripe old)) where
  module _ (pin : Pin) (whole : List ℕ) (records : List Record) (start : O) (frozen : IsFrozen content stripe pin whole records start) (size : IsPinOf pin whole) (some : 0 < pin.location.stripe) where
    shown_range : (now : List Record) (origin : O) (at len : ℕ) (bytes : List ℕ) → at < end_of pin at len
        → Holds fetches true pin records start (range_with_len (at / pin.location.stripe) (objects_below pin.location.stripe (end_of pin at len) - at / pin.location.stripe)) now origin
        → Shows pin now at (length_of pin at len) bytes → bytes ≡ range_of whole at len
    shown_range now origin at len bytes lt holds shown =
        let end = end_of pin at len in
        let ranges = (frozen_along content stripe fetches tells stays pin whole records start _ now origin holds frozen).ranges in
        let held = all_held fetches pin records start _ now origin holds in
        let ends : at + (end - at) ≡ end = omega arith in
        let within : end ≤ length whole = omega (arith, size.size) in
        let cover : Covers pin.location.stripe 1 at end shown.pieces = subst (λ e. Covers pin.location.stripe 1 at e shown.pieces) ends shown.cover in
        let same : map (shown_in pin now) shown.pieces ≡ map (bytes_of pin.location.stripe whole) shown.pieces
        = shown_pieces pin whole now ranges at at end (at / pin.location.stripe) (objects_below pin.location.stripe end - at / pin.location.stripe) shown.pieces some within (omega arith) refl
        (first_below pin.location.stripe at end some lt) held cover in
        shown.are ∙ ap concat same ∙ joined pin.location.stripe 1 at end (end - at) whole shown.pieces cover ends
        ∙ ap (λ s. range_of whole at (min (at + len) s - at)) size.size ∙ cut_range whole at len

    read_range : (now : List Record) (origin : O) (at len : ℕ) (bytes : List ℕ) (b : Bool) → nat_lt at (end_of pin at len) ≡ b
        → Holds fetches true pin records start (if b then range_with_len (at / pin.location.stripe) (objects_below pin.location.stripe (end_of pin at len) - at / pin.location.stripe) else []) now origin
        → Shows pin now at (length_of pin at len) bytes → at < end_of pin at len → bytes ≡ range_of whole at len
    read_range now origin at len bytes true is holds shown lt = shown_range now origin at len bytes lt holds shown
    read_range now origin at len bytes false is holds shown lt = absurd (grind (arith, nat_tests))

  -- ---- the theorem

  pub fills_frozen : {D : Type 0} {g : Ghosts D} (old new : Ronly D g) (start after : O) (objects : List ℕ) → HoldEnds fetches old start after objects (Ok new) → KeepsFrozen content stripe old start new
  fills_frozen {g = g} old new start after objects ends whole told there wide ranges =
      (frozen_along content stripe fetches tells stays (pin_of old) whole (records_of old) start objects (records_of new) after
      (holds_told fetches g.is_told (pin_of old) (records_of old) start objects (records_of new) after told ends.1)
      (record { told = there; size = wide; ranges = ranges })).ranges

  pub reads_frozen : {D : Type 0} {g : Ghosts D} (old new : Ronly D g) (start after : O) (at len : ℕ) (bytes : List ℕ) → 0 < (pin_of old).location.stripe → at < end_of (pin_of old) at len
      → HoldEnds fetches old start after (objects_of (pin_of old) at len) (Ok new)
      → (IsTrue g.is_told → Shows (pin_of old) (records_of new) at (length_of (pin_of old) at len) bytes)
      → ShowsFrozen content stripe old start at len (new, bytes)
  reads_frozen {g = g} old new start after at len bytes some lt ends shown whole told there wide size ranges =
      let pin = pin_of old in
      let holds = holds_told fetches g.is_told pin (records_of old) start (objects_of pin at len) (records_of new) after told ends.1 in
      let frozen : IsFrozen content stripe pin whole (records_of old) start = record { told = there; size = wide; ranges = ranges } in (
        read_range pin whole (records_of old) start frozen size some (records_of new) after at len bytes (nat_lt at (end_of pin at len)) refl holds (shown told) lt,
        fills_frozen old new start after (objects_of pin at len) ends whole told there wide ranges,
      )

  pub empty_frozen : {D : Type 0} {g : Ghosts D} (old : Ronly D g) (start : O) (at len : ℕ) → end_of (pin_of old) at len ≤ at → ShowsFrozen content stripe old start at len (old, [])
  empty_frozen old start at len le whole told there wide size ranges =
      (sym (empty_range whole at len (subst (λ s. min (at + len) s ≤ at) size.size le)), ranges)

-- ---- a range with bytes

pub some_objects : (pin : Pin) (at len first end : ℕ) → at < end_of pin at len → first ≡ at / pin.location.stripe → end ≡ objects_below pin.location.stripe (end_of pin at len)
    → range_with_len first (end - first) ≡ objects_of pin at len
some_objects pin at len first end lt first_is end_is =
    let some : nat_lt at (end_of pin at len) ≡ true = grind (arith, nat_tests) in
    ap (λ f. range_with_len f (end - f)) first_is ∙ ap (λ e. range_with_len (at / pin.location.stripe) (e - at / pin.location.stripe)) end_is
    ∙ sym (ap (λ b. if b then range_with_len (at / pin.location.stripe) (objects_below pin.location.stripe (end_of pin at len) - at / pin.location.stripe) else []) some)

-- a range behind the end has none
no_objects : (pin : Pin) (at len : ℕ) → end_of pin at len ≤ at → objects_of pin at len ≡ []
no_objects pin at len le =
    let none : nat_lt at (end_of pin at len) ≡ false = grind (arith, nat_tests) in
    ap (λ b. if b then range_with_len (at / pin.location.stripe) (objects_below pin.location.stripe (end_of pin at len) - at / pin.location.stripe) else []) none

-- the objects of the whole file are all from the first one on
pub all_objects : (pin : Pin) (end : ℕ) → 0 < pin.location.stripe → end ≡ objects_below pin.location.stripe pin.mark.size → range_with_len 0 (end - 0) ≡ objects_of pin 0 pin.mark.size
all_objects pin end some end_is = elim (cases_lt 0 pin.mark.size) as (λ w. range_with_len 0 (end - 0) ≡ objects_of pin 0 pin.mark.size) [
  | inl more ↦
      (let last : end_of pin 0 pin.mark.size ≡ pin.mark.size = omega arith in
      let lt : 0 < end_of pin 0 pin.mark.size = omega (arith, last, more) in
      let first : 0 ≡ 0 / pin.location.stripe = zero_below pin.location.stripe some in
      some_objects pin 0 pin.mark.size 0 end lt first (end_is ∙ ap (objects_below pin.location.stripe) (sym last)))
  | inr none ↦
      (let nothing : pin.mark.size ≡ 0 = omega arith in
      let no_end : end ≡ 0 = end_is ∙ ap (objects_below pin.location.stripe) nothing in
      let behind : end_of pin 0 pin.mark.size ≤ 0 = omega (arith, nothing) in
      ap (λ n. range_with_len 0 (n - 0)) no_end ∙ sym (no_objects pin 0 pin.mark.size behind))
]
  where
    zero_below : (stripe : ℕ) → 0 < stripe → 0 ≡ 0 / stripe
    zero_below stripe some = elim (cases_lt 0 (0 / stripe)) as (λ w. 0 ≡ 0 / stripe) [
      | inl above ↦ absurd (let long : 1 * stripe ≤ 0 = (le-div_iff_mul-le {k = stripe} {x = 1} {y = 0} some).0 above in omega arith)
      | inr le ↦ omega arith
    ]

module _ {O : Type 0} (content : O → ℕ → Option (List ℕ)) (stripe : O → ℕ) (fetches : Fetching O)
    (tells : (old new : O) (object : ℕ) (made : Fetched) (whole : List ℕ) → fetches old object (Ok made) new → content old made.count ≡ Some whole
    → (made.bytes ≡ object_of (stripe old) whole object) × (made.mark.size ≡ length whole))
    (stays : (old new : O) (object : ℕ) (result : Result Fetched OriginErr) (count : ℕ) → fetches old object result new
    → (content new count ≡ content old count) × (stripe new ≡ stripe old)) where
  pub filled : {D : Type 0} {g : Ghosts D} (old : Ronly D g) (start after : O) (objects : List ℕ) (result : Result (Ronly D g) (RonlyErr D g))
      → HoldEnds fetches old start after objects result → IfOk result (KeepsFrozen content stripe old start)
  filled old start after objects (Ok new) ends = fills_frozen content stripe fetches tells stays old new start after objects ends
  filled old start after objects (Err why) ends = tt

  pub shown_frozen : {D : Type 0} {g : Ghosts D} (old replica : Ronly D g) (start after : O) (at len first end below : ℕ) (result : Result (Ronly D g × List ℕ) (RonlyErr D g))
      → 0 < (pin_of old).location.stripe → at < end_of (pin_of old) at len → first ≡ at / (pin_of old).location.stripe
      → end ≡ objects_below (pin_of old).location.stripe (end_of (pin_of old) at len) → below ≡ length_of (pin_of old) at len
      → HoldEnds fetches old start after (range_with_len first (end - first)) (Ok replica) → ShownEnds replica at below result → IfOk result (ShowsFrozen content stripe old start at len)
  shown_frozen {g = g} old replica start after at len first end below (Ok made) some lt first_is end_is below_is ends shown =
      let pin = pin_of old in
      let all : HoldEnds fetches old start after (objects_of pin at len) (Ok replica)
      = (ends.0, subst (λ l. Holds fetches g.is_told pin (records_of old) start l (records_of replica) after) (some_objects pin at len first end lt first_is end_is) ends.1) in
      let shows : IsTrue g.is_told → Shows pin (records_of replica) at (length_of pin at len) made.1
      = (λ told. subst (λ n. Shows pin (records_of replica) at n made.1) below_is (subst (λ p. Shows p (records_of replica) at below made.1) ends.0 (shown.1 told))) in
      let there = reads_frozen content stripe fetches tells stays old replica start after at len made.1 some lt all shows in
      subst (λ r. ShowsFrozen content stripe old start at len (r, made.1)) (sym shown.0) there
  shown_frozen old replica start after at len first end below (Err why) some lt first_is end_is below_is ends shown = tt

pub nothing_shown : {D : Type 0} {g : Ghosts D} {O : Type 0} (fetches : Fetching O) (old : Ronly D g) (start : O) (at len : ℕ) (bytes : List ℕ) → end_of (pin_of old) at len ≤ at → bytes ≡ []
    → HoldEnds fetches old start start (objects_of (pin_of old) at len) (Ok old) × (IsTrue g.is_told → Shows (pin_of old) (records_of old) at (length_of (pin_of old) at len) bytes)
nothing_shown {g = g} fetches old start at len bytes le none =
    let pin = pin_of old in
    let length : length_of pin at len ≡ 0 = omega arith in
    let ends : at ≡ at + length_of pin at len = omega arith in (
      (refl, subst (λ l. Holds fetches g.is_told pin (records_of old) start l (records_of old) start) (sym (no_objects pin at len le)) begun),
      (λ told. record { pieces = []; cover = ends; are = none }),
    )

-- ---- how a read ends

module _ {D : Type 0} {g : Ghosts D} {O : Type 0} (fetches : Fetching O) (old : Ronly D g) (start after : O) (at len : ℕ) where
  -- its objects are held, and a range is shown of them
  pub read_shown : (replica : Ronly D g) (below : ℕ) (result : Result (Ronly D g × List ℕ) (RonlyErr D g)) → below ≡ length_of (pin_of old) at len
      → HoldEnds fetches old start after (objects_of (pin_of old) at len) (Ok replica) → ShownEnds replica at below result → ReadEnds fetches old start after at len result
  read_shown replica below (Ok made) below_is ends shown = (
    subst (λ r. HoldEnds fetches old start after (objects_of (pin_of old) at len) (Ok r)) (sym shown.0) ends,
    (λ told.
        let here = subst (λ p. Shows p (records_of replica) at below made.1) ends.0 (shown.1 told) in
        subst (λ r. Shows (pin_of old) (records_of r) at (length_of (pin_of old) at len) made.1) (sym shown.0)
        (subst (λ n. Shows (pin_of old) (records_of replica) at n made.1) below_is here)),
  )
  read_shown replica below (Err (err.OutOfMemory back)) below_is ends shown =
      inr (subst (λ r. HoldEnds fetches old start after (objects_of (pin_of old) at len) (Ok r)) (sym shown) ends)
  read_shown replica below (Err (err.Bodies count disk)) below_is ends shown =
      (shown.0, record { now = records_of replica; holds = ends.1; untold = shown.2 })
  read_shown replica below (Err (err.PinStore back pins)) below_is ends shown = absurd shown
  read_shown replica below (Err (err.Unloaded back)) below_is ends shown = absurd shown
  read_shown replica below (Err (err.Moved back count)) below_is ends shown = absurd shown
  read_shown replica below (Err (err.Origin back why)) below_is ends shown = absurd shown
  read_shown replica below (Err (err.Broken count disk)) below_is ends shown = absurd shown
  read_shown replica below (Err (err.Full back need limit)) below_is ends shown = absurd shown

  -- an object isn't put
  pub read_stopped : (why : RonlyErr D g) → StopsAt fetches (pin_of old) (records_of old) start after (objects_of (pin_of old) at len) why
      → ReadEnds fetches old start after at len (Err why)
  read_stopped (err.OutOfMemory back) stops = inl stops
  read_stopped (err.Bodies count disk) stops = absurd stops.ends
  read_stopped (err.PinStore back pins) stops = stops
  read_stopped (err.Unloaded back) stops = stops
  read_stopped (err.Moved back count) stops = stops
  read_stopped (err.Origin back why) stops = stops
  read_stopped (err.Broken count disk) stops = stops
  read_stopped (err.Full back need limit) stops = stops

-- showing leaves the disk alone
shown_left : {D : Type 0} {g : Ghosts D} (replica : Ronly D g) (at below : ℕ) (P : List ℕ → Type 0) (result : Result (Ronly D g × List ℕ) (RonlyErr D g))
    → ShownEnds replica at below result → Leaves replica P (without_bytes result)
shown_left replica at below P (Ok made) shown = disks.untouched replica P (Ok made.0) (ap disk_of shown.0) refl (ap limit_in shown.0)
shown_left replica at below P (Err (err.OutOfMemory back)) shown = disks.untouched replica P (Err (err.OutOfMemory back)) (ap disk_of shown) refl tt
shown_left replica at below P (Err (err.Bodies count disk)) shown =
    record { any_moment = λ told. absurd (shown.2 told); faults = sym shown.0 ∙ shown.1; limit = tt }
shown_left replica at below P (Err (err.PinStore back pins)) shown = absurd shown
shown_left replica at below P (Err (err.Unloaded back)) shown = absurd shown
shown_left replica at below P (Err (err.Moved back count)) shown = absurd shown
shown_left replica at below P (Err (err.Origin back why)) shown = absurd shown
shown_left replica at below P (Err (err.Broken count disk)) shown = absurd shown
shown_left replica at below P (Err (err.Full back need limit)) shown = absurd shown

pub read_left : {D : Type 0} {g : Ghosts D} (old replica : Ronly D g) (at below : ℕ) (P : List ℕ → Type 0) (result : Result (Ronly D g × List ℕ) (RonlyErr D g))
    → Leaves old P (Ok replica) → ShownEnds replica at below result → Leaves old P (without_bytes result)
read_left old replica at below P result held shown =
    disks.goes_on old replica P (without_bytes result) held.any_moment held.faults held.limit (shown_left replica at below P result shown)
