-- over an origin that tells a content, held objects stay its ranges
use Rattle.std.proofs.Common.{◌≡◌, ℕ, List, [], ◌∷◌, ◌++◌, length, refl, ap, sym, ◌∙◌, subst, arith, Option, Some, None, Bool, true, false}
use Rattle.std.specs.Prelude.{Result, Ok, ◌==◌, ◌&&◌, if◌then◌else◌}
use Rattle.std.proofs.lemmas.Bool.Decides.{nat_tests}
use Rattle.std.proofs.lemmas.Grind.{fold-append}
use Rattle.xt_base.specs.declared.ids.Stamp.{Stamp}
use Rattle.xt_messages.specs.declared.record.Record.{Record}
use Rattle.xt_protocol.specs.FileIds.{is_file}
use Rattle.xt_protocol.specs.Stamps.{is_stamp}
use Rattle.xt_protocol.specs.Folds.{body_put, newer, body_after, body_kept}
use Rattle.xt_protocol.proofs.Folds.{file-itself}
use Rattle.striping.specs.Cover.{object_of}
use Rattle.ronly_replica.specs.declared.pin.Pin.{Pin}
use Rattle.ronly_replica.specs.declared.origin.Fetched.{Fetched}
use Rattle.ronly_replica.specs.declared.origin.OriginErr.{OriginErr}
use Rattle.ronly_replica.specs.Pins.{pinned_version, stage_of, held_in, IsRangeOf, AreRanges}
use Rattle.ronly_replica.specs.Holding.{Fetching, Holds, begun, was_held, fetched}

stamp_self : (s : Stamp) → is_stamp s s ≡ true
stamp_self s = grind (arith, nat_tests)

-- ---- an object more

pub held_push : (pin : Pin) (records : List Record) (rec : Record) (object : ℕ)
    → held_in pin (records ++ rec ∷ []) object ≡ newer (held_in pin records object) (body_put pin.file object (pinned_version pin.count) rec)
unfolding body_kept
held_push pin records rec object = fold-append (body_after pin.file object (pinned_version pin.count)) None records (rec ∷ [])

-- what is held stays held, and a staged object is held
pub still_held : (before put : Option (List ℕ)) (bytes : List ℕ) → before ≡ Some bytes → (now : List ℕ) × (newer before put ≡ Some now)
still_held before None bytes h = (bytes, h)
still_held before (Some now) bytes h = (now, refl)

both_true : (a b c : Bool) → a ≡ true → b ≡ true → c ≡ true → (a && b && c) ≡ true
both_true a b c p q r = rw (p, q, r) refl

pub staged_here : (pin : Pin) (records : List Record) (object : ℕ) (bytes : List ℕ) → held_in pin (records ++ stage_of pin object bytes ∷ []) object ≡ Some bytes
staged_here pin records object bytes =
    let version = pinned_version pin.count in
    let same : (is_file pin.file pin.file && (object == object) && is_stamp version version) ≡ true
    = both_true (is_file pin.file pin.file) (object == object) (is_stamp version version) (file-itself pin.file) (grind (arith, nat_tests)) (stamp_self version) in
    held_push pin records (stage_of pin object bytes) object
    ∙ ap (λ (b : Bool). newer (held_in pin records object) (if b then Some bytes else None)) same

middle : (a b c : Bool) → (a && b && c) ≡ true → b ≡ true
middle true true c h = refl
middle true false c h = absurd cc
middle false b c h = absurd cc

same_object : (a b : ℕ) → (a == b) ≡ true → a ≡ b
same_object a b h = grind (arith, nat_tests)

module _ (pin : Pin) (whole : List ℕ) where
  -- a range among ranges
  staged_range : (records : List Record) (object other : ℕ) (bytes : List ℕ) (b : Bool)
      → (is_file pin.file pin.file && (object == other) && is_stamp (pinned_version pin.count) (pinned_version pin.count)) ≡ b
      → bytes ≡ object_of pin.location.stripe whole object → IsRangeOf pin.location.stripe whole other (held_in pin records other)
      → IsRangeOf pin.location.stripe whole other (newer (held_in pin records other) (if b then Some bytes else None))
  staged_range records object other bytes true is range before =
      let same : object ≡ other = same_object object other (middle (is_file pin.file pin.file) (object == other) (is_stamp (pinned_version pin.count) (pinned_version pin.count)) is) in
      range ∙ ap (object_of pin.location.stripe whole) same
  staged_range records object other bytes false is range before = before

  pub stays_ranges : (records : List Record) (object : ℕ) (bytes : List ℕ) → bytes ≡ object_of pin.location.stripe whole object
      → AreRanges pin records whole → AreRanges pin (records ++ stage_of pin object bytes ∷ []) whole
  stays_ranges records object bytes range all other =
      subst (IsRangeOf pin.location.stripe whole other) (sym (held_push pin records (stage_of pin object bytes) other))
      (staged_range records object other bytes
      (is_file pin.file pin.file && (object == other) && is_stamp (pinned_version pin.count) (pinned_version pin.count)) refl range (all other))

-- what is known of an origin, and of held objects
pub record IsFrozen {O : Type 0} (content : O → ℕ → Option (List ℕ)) (stripe : O → ℕ) (pin : Pin) (whole : List ℕ) (records : List Record) (origin : O) : Type 0 where
  pub told : content origin pin.count ≡ Some whole
  pub size : stripe origin ≡ pin.location.stripe
  pub ranges : AreRanges pin records whole

module _ {O : Type 0} (content : O → ℕ → Option (List ℕ)) (stripe : O → ℕ) (fetches : Fetching O)
    (tells : (old new : O) (object : ℕ) (made : Fetched) (whole : List ℕ) → fetches old object (Ok made) new → content old made.count ≡ Some whole
    → (made.bytes ≡ object_of (stripe old) whole object) × (made.mark.size ≡ length whole))
    (stays : (old new : O) (object : ℕ) (result : Result Fetched OriginErr) (count : ℕ) → fetches old object result new
    → (content new count ≡ content old count) × (stripe new ≡ stripe old))
    (pin : Pin) (whole : List ℕ) where
  pub frozen_along : (records : List Record) (start : O) (objects : List ℕ) (now : List Record) (origin : O) → Holds fetches true pin records start objects now origin
      → IsFrozen content stripe pin whole records start → IsFrozen content stripe pin whole now origin
  frozen_along records start objects now origin begun h = h
  frozen_along records start objects now origin (was_held front later o object bytes so_far here) h =
      frozen_along records start front later o so_far h
  frozen_along records start objects now origin (fetched front later between after object made so_far none does same) h =
      let before = frozen_along records start front later between so_far h in
      let there : content between made.count ≡ Some whole = ap (content between) same ∙ before.told in
      let range : made.bytes ≡ object_of pin.location.stripe whole object
      = (tells between after object made whole does there).0 ∙ ap (λ s. object_of s whole object) before.size in
      let kept = stays between after object (Ok made) pin.count does in
      record {
        told = kept.0 ∙ before.told;
        size = kept.1 ∙ before.size;
        ranges = stays_ranges pin whole later object made.bytes range before.ranges;
      }
