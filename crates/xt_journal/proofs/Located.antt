-- where a journal stands, by how far it is read
use Rattle.std.proofs.Common.{◌≡◌, ℕ, ◌+◌, ◌^◌, ◌<◌, ◌≤◌, List, [], ◌∷◌, ◌++◌, length, sym, ap, subst, arith, Option, Some, None}
use Rattle.std.proofs.lemmas.List.Elements.{All-push}
use Rattle.journal_areas.specs.declared.superblock.Slot.{Slot}
use Rattle.journal_areas.specs.declared.superblock.Superblock.{Superblock}
use Rattle.journal_areas.specs.Sites.{area_by, slot_of}
use Rattle.journal_areas.specs.Superblocks.{current, IsSound}
use Rattle.journal_areas.proofs.Reaching.{counts_inside}
use Rattle.journal_moves.specs.declared.extent.Extent.{Extent}
use Rattle.journal_moves.specs.Answers.{IsPlaced}
use Rattle.xt_journal.specs.Located.{IsLocated}
use Rattle.xt_journal.specs.Placed.{AreWithin, IsWithin}

-- after a superblock whose slots are shut
pub located_shut : (s : Superblock) (end : ℕ) → s.gate ≡ end → 12 ≤ end → current s ≡ None → end + 57 < 2 ^ 64 → IsLocated (Some s) (end + 56)
located_shut s end gate low none small = record {
  placed = omega (arith, gate);
  began = subst (λ (c : Option Slot). (area_by (end + 56) c).place ≤ end + 56) (sym none) (omega (arith, low));
  small = omega (arith, small);
}

-- in the area that counts
pub located_open : (size : ℕ) (s : Superblock) (slot : Slot) → IsSound size s → current s ≡ Some slot → size < 2 ^ 64 → IsLocated (Some s) slot.place
located_open size s slot sound counts small =
    let site = counts_inside size s slot sound counts in
    record {
      placed = omega (arith, site.0);
      began = subst (λ (c : Option Slot). (area_by slot.place c).place ≤ slot.place) (sym counts) (omega arith);
      small = omega (arith, site.1, small);
    }

placed_later : (super : Option Superblock) (end later : ℕ) → end ≤ later → IsPlaced super end → IsPlaced super later
placed_later None end later up is = tt
placed_later (Some s) end later up is = omega (arith, up, is)

began_later : (end later : ℕ) (slot : Option Slot) → end ≤ later → (area_by end slot).place ≤ end → (area_by later slot).place ≤ later
began_later end later None up is = omega (arith, up, is)
began_later end later (Some slot) up is = omega (arith, up, is)

-- and after a record more
pub located_later : (super : Option Superblock) (end later : ℕ) → end ≤ later → later + 1 < 2 ^ 64 → IsLocated super end → IsLocated super later
located_later super end later up small is = record { placed = placed_later super end later up is.placed; began = began_later end later (slot_of super) up is.began; small = small }

-- ---- where payloads may be

pub within_later : (end later : ℕ) (extents : List Extent) → end ≤ later → AreWithin end extents → AreWithin later extents
within_later end later extents up are = λ k d less. record { after = (are k d less).after; before = omega (arith, up, (are k d less).before) }

pub none_within : (end : ℕ) (extents : List Extent) → extents ≡ [] → AreWithin end extents
none_within end extents none = λ k d less. absurd (omega (arith, less, ap length none))

-- one more
pub within-push : (end len : ℕ) (extents after : List Extent) → 12 ≤ end → AreWithin end extents → after ≡ extents ++ record { at = end + 5; len = len } ∷ []
    → AreWithin (end + (5 + len)) after
within-push end len extents after low are is =
    subst (AreWithin (end + (5 + len))) (sym is)
    (All-push (IsWithin (end + (5 + len))) extents (record { at = end + 5; len = len }) (within_later end (end + (5 + len)) extents (omega arith) are)
    (record { after = omega (arith, low); before = omega arith }))
