-- Where a journal stands once its payloads were swapped, and what its disk keeps.
use Rattle.std.proofs.Common.{◌≡◌, ℕ, ◌+◌, ◌-◌, ◌^◌, ◌<◌, ◌≤◌, List, refl, sym, ◌∙◌, ap, subst, arith, Option, Some, None}
use Rattle.std.proofs.Math.Logic.{∥∥₁_map}
use Rattle.disk_model.specs.Disk.{Kept}
use Rattle.journal_areas.specs.declared.superblock.Superblock.{Superblock}
use Rattle.journal_areas.specs.declared.site.Area.{Area}
use Rattle.journal_areas.specs.Superblocks.{current}
use Rattle.journal_areas.specs.Sites.{area_by, area_of, is_second, moved, need_for, new_area_of, new_slot, number_after, site, slot_of, superblock_at}
use Rattle.journal_areas.proofs.Slots.{current_open}
use Rattle.journal_moves.specs.declared.moving.Located.{Located}
use Rattle.journal_moves.specs.Answers.{IsPlaced, located_after}
use Rattle.xt_journal.specs.Format.{end_in, KeepsIn, EndsAt}
use Rattle.xt_journal.specs.Located.{IsLocated}

-- ---- its area

slot_counts : (super : Option Superblock) (end : ℕ) → slot_of super ≡ current (superblock_at super end)
slot_counts None end = refl
slot_counts (Some s) end = refl

pub moved_area : (super : Option Superblock) (end size : ℕ) → 1 ≤ size → area_of (Some (moved super end size)) (need_for super end size - 1) ≡ new_area_of super end size
moved_area super end size some =
    let s = superblock_at super end in
    let slot = new_slot super end size in
    let counts : current (moved super end size) ≡ Some slot = current_open (is_second s) s slot refl refl (ap number_after (slot_counts super end)) in
    let long : need_for super end size - 1 + 1 - site super end size ≡ size = omega (arith, some) in
    ap (area_by (need_for super end size - 1)) counts
    ∙ ap (λ (n : ℕ). record (new_area_of super end size) { length = n }) long

module _ (super : Option Superblock) (end size : ℕ) (new : Located) (some : 1 ≤ size) (is : new ≡ located_after super end size) where
  pub new_area : area_of new.superblock new.end ≡ new_area_of super end size
  new_area = ap (λ (l : Located). area_of l.superblock l.end) is ∙ moved_area super end size some

  pub located_moved : new.end + 1 < 2 ^ 64 → IsPlaced new.superblock new.end → IsLocated new.superblock new.end
  located_moved small placed =
      let ends : new.end ≡ need_for super end size - 1 = ap (λ (l : Located). l.end) is in
      let begins : (area_of new.superblock new.end).place ≡ site super end size = ap (λ (a : Area). a.place) new_area in
      record { placed = placed; began = omega (arith, ends, begins, some); small = small }

-- ---- its disk

pub ends_there : (super : Option Superblock) (kept : Kept) (end : ℕ) (new : Option Superblock) (after : Kept) (later : ℕ) (payloads : List (List ℕ)) → ∥ EndsAt super kept end ∥₁
    → later ≡ end_in new payloads → ((old : List (List ℕ)) → KeepsIn super kept old → end ≡ end_in super old → KeepsIn new after payloads) → ∥ EndsAt new after later ∥₁
ends_there super kept end new after later payloads ends place done =
    ∥∥₁_map ends (λ was. record { payloads = payloads; keeps = done was.payloads was.keeps was.place; place = place })

-- a disk on which nothing was done
pub ends_same : (super : Option Superblock) (kept same : Kept) (end : ℕ) → same ≡ kept → ∥ EndsAt super kept end ∥₁ → ∥ EndsAt super same end ∥₁
ends_same super kept same end is ends = subst (λ (k : Kept). ∥ EndsAt super k end ∥₁) (sym is) ends
