-- the places of the bodies lie in the area that counts
use Rattle.std.proofs.Common.{◌≡◌, ◌+◌, ◌-◌, ◌≤◌, ◌<◌, ◌^◌, ℕ, true, false, Bool, cond, List, [], ◌∷◌, length, map, refl, ap, subst, arith, Option, Some, None}
use Rattle.std.specs.Prelude.{Contains, nat_lt}
use Rattle.std.specs.List.{AllByRecursion}
use Rattle.std.proofs.Props.{props}
use Rattle.std.proofs.Math.Logic.{∥∥₁_elim}
use Rattle.std.proofs.lemmas.List.Elements.{All-from_recursion}
use Rattle.journal_areas.specs.declared.superblock.Slot.{Slot}
use Rattle.journal_areas.specs.declared.superblock.Superblock.{Superblock}
use Rattle.journal_areas.specs.Sites.{area_by, area_of, slot_of}
use Rattle.journal_areas.specs.Superblocks.{current}
use Rattle.journal_moves.specs.Gathering.{IsHeld}
use Rattle.xt_messages.specs.declared.record.Record.{Record}
use Rattle.xt_journal.specs.Placed.{Placed}
use Rattle.xt_journal.specs.Reading.{past, payloads_of, placed_by, placed_from, placed_in}
use Rattle.xt_journal.proofs.Push.{payloads_in}
use Rattle.replica_records.specs.RecordText.{record_text}
use Rattle.replica_records.specs.Places.{body_in}
use Rattle.replica_records.proofs.BodyText.{body_shorter}
use Rattle.object_store.specs.declared.log.StoreLog.{StoreLog}
use Rattle.object_store.specs.declared.place.BodyPlace.{BodyPlace}
use Rattle.object_store.specs.Laid.{IsLaid}
use Rattle.object_store.specs.Logs.{places_in}
use Rattle.object_store.specs.Places.{place_of, places_of}
use Rattle.object_store.specs.Texts.{texts_of}
use Rattle.object_store.proofs.ReadBack.{first_text, other_texts}
use Rattle.object_store.proofs.Standing.{AreInside, IsInside}
use Rattle.object_store.proofs.Stored.{IsHere, inside_here, places_known}

-- ---- no payload of an area has its gate before the area

module _ (low : ℕ) where
  abbrev BeginsFrom : Placed → Type 0
  BeginsFrom p = low ≤ p.gate

  from_gate : (gate : ℕ) (payloads : List (List ℕ)) → low ≤ gate → AllByRecursion BeginsFrom (placed_from gate payloads)
  from_gate gate [] above = tt
  from_gate gate (p ∷ payloads) above = (above, from_gate (gate + (5 + length p)) payloads (omega (arith, above)))

  one_past : (place gate : ℕ) → low ≤ gate → low ≤ (past place (record { gate = gate; bytes = [] })).gate
  one_past place gate above = at (nat_lt gate place)
    where
      at : (before : Bool) → low ≤ cond before gate (gate + 56)
      at true = above
      at false = omega (arith, above)

  all_past : (place : ℕ) (placed : List Placed) → AllByRecursion BeginsFrom placed → AllByRecursion BeginsFrom (map (past place) placed)
  all_past place [] all = tt
  all_past place (p ∷ placed) all = (one_past place p.gate all.0, all_past place placed all.1)

in_area : (super : Option Superblock) (end : ℕ) (payloads : List (List ℕ)) → AllByRecursion (BeginsFrom (area_of super end).place) (placed_in super payloads)
in_area None end payloads = from_gate 12 12 payloads (omega arith)
in_area (Some s) end payloads = at (current s)
  where
    at : (c : Option Slot) → AllByRecursion (BeginsFrom (area_by end c).place) (placed_by s c payloads)
    at None = all_past 12 s.gate (placed_from 12 payloads) (from_gate 12 12 payloads (omega arith))
    at (Some slot) = from_gate slot.place slot.place payloads (omega arith)

area_length : (super : Option Superblock) (end : ℕ) → (area_of super end).length ≡ end + 1 - (area_of super end).place
area_length super end = at (slot_of super)
  where
    at : (c : Option Slot) → (area_by end c).length ≡ end + 1 - (area_by end c).place
    at None = refl
    at (Some slot) = refl

-- ---- the bodies

record IsBetween (low end : ℕ) (place : BodyPlace) : Type 0 where
  from : low ≤ place.at
  until : place.at + place.len ≤ end

one_between : (bytes : List ℕ) (low end : ℕ) (p : Placed) (rec : Record) → end < 2 ^ 64 → IsInside bytes end p → low ≤ p.gate → p.bytes ≡ record_text rec → IsBetween low end (place_of p rec)
one_between bytes low end p rec small inside above text =
    let exact : (place_of p rec).at ≡ (p.gate + 5) + (length p.bytes - length (body_in rec)) = omega (arith, inside.before, small) in
    record { from = omega (arith, exact, above); until = omega (arith, exact, inside.before, ap length text, body_shorter rec) }

all_between : (bytes : List ℕ) (low end : ℕ) (placed : List Placed) (records : List Record) → end < 2 ^ 64 → AreInside bytes end placed → AllByRecursion (BeginsFrom low) placed
    → payloads_of placed ≡ texts_of records → AllByRecursion (IsBetween low end) (places_of placed records)
all_between bytes low end [] records small inside above texts = tt
all_between bytes low end (p ∷ placed) [] small inside above texts = tt
all_between bytes low end (p ∷ placed) (r ∷ records) small inside above texts =
    (one_between bytes low end p r small inside.0 above.0 (first_text _ _ _ _ texts), all_between bytes low end placed records small inside.1 above.1 (other_texts _ _ _ _ texts))

-- what is in the place of a body is held by the area that counts
pub places_held : (read : List ℕ) (super : Option Superblock) (end : ℕ) (records : List Record) (log : StoreLog) → end < 2 ^ 64 → IsLaid super records log
    → ∥ IsHere super read end (texts_of records) ∥₁ → (place : BodyPlace) → Contains (places_in log) place
    → IsHeld read (area_of super end) (record { at = place.at; len = place.len })
places_held read super end records log small laid here place among =
    let area = area_of super end in
    let between : IsBetween area.place end place =
    ∥∥₁_elim here (hlevel props)
    (λ is.
    let all = All-from_recursion (IsBetween area.place end) (places_of (placed_in super (texts_of records)) records)
    (all_between read area.place end (placed_in super (texts_of records)) records small (inside_here super read end (texts_of records) is) (in_area super end (texts_of records))
    (payloads_in super (texts_of records))) in
    let moved = subst (λ (ps : List BodyPlace). Contains ps place) laid among in
    subst (IsBetween area.place end) moved.2 (all moved.0 place moved.1)) in
    record {
      from = between.from;
      until = omega (arith, between.from, between.until, area_length super end);
      inside = places_known read super end records log small laid here place among;
    }
