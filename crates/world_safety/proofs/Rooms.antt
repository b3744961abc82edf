-- events after others, and room for a step that leaves the lease held
use Rattle.std.proofs.Common.{◌≡◌, ℕ, inl, inr, List, [], ◌∷◌, ◌++◌, refl}
use Rattle.std.specs.Prelude.{◌⊎◌}
use Rattle.xt_base.specs.declared.ids.FileId.{FileId}
use Rattle.xt_messages.specs.declared.file.Op.{Op}
use Rattle.xt_protocol.specs.LeaseRows.{LeaseState, free, asking, writing, held}
use Rattle.osd_invariants.specs.Sound.{IsHeld}
use Rattle.replica_runs.specs.FileView.{IsFree}
use Rattle.file_runs.specs.FileRuns.{FileWorld, Event, MayAll, after, after_all}
use Rattle.world_spec.specs.World.{World}
use Rattle.world_runs.specs.Worlds.{Leads}
use Rattle.world_safety.specs.Seen.{Sees}
use Rattle.world_safety.specs.May.{LeadersHold, IsFreed}
use Rattle.world_safety.proofs.May.{holders_make_room}

pub may_append : (stripe : ℕ) (ops : ℕ × ℕ → Op) (members : List ℕ) (v : FileWorld) (xs ys : List Event) → MayAll stripe ops members v xs → MayAll stripe ops members (after_all v xs) ys
    → MayAll stripe ops members v (xs ++ ys)
may_append stripe ops members v [] ys first later = later
may_append stripe ops members v (x ∷ xs) ys first later = (first.0, may_append stripe ops members (after v x) xs ys first.1 later)

pub after_append : (v : FileWorld) (xs ys : List Event) → after_all v (xs ++ ys) ≡ after_all (after_all v xs) ys
after_append v [] ys = refl
after_append v (x ∷ xs) ys = after_append (after v x) xs ys

held_or_not : (l : LeaseState) → IsHeld l ⊎ (IsHeld l → ⊥)
held_or_not (free p) = inr (λ h. h)
held_or_not (asking r) = inr (λ h. h)
held_or_not (writing r) = inr (λ h. h)
held_or_not (held h) = inl tt

module _ (stripe : ℕ) (ops : ℕ × ℕ → Op) (members : List ℕ) (file : FileId) (w : World) (n : ℕ) where
  -- Who doesn't lead has lost the file, where this lease is held.
  pub record Room (lease : LeaseState) (v : FileWorld) : Type 0 where
    pub lost : List Event
    pub may : MayAll stripe ops members v lost
    pub sees : Sees file w (after_all v lost)
    pub leaders : LeadersHold file w (after_all v lost)
    pub same_sent : (after_all v lost).sent ≡ v.sent
    pub same_tales : (after_all v lost).tales ≡ v.tales
    pub free : IsHeld lease → IsFree n (after_all v lost).holder

  pub makes_room : (lease : LeaseState) (v : FileWorld) → Sees file w v → LeadersHold file w v → (IsHeld lease → (m : ℕ) → Leads w file m → m ≡ n) → Room lease v
  makes_room lease v sees leaders alone = at (held_or_not lease)
    where
      freed : IsFreed stripe ops members file w n v → Room lease v
      freed x = record { lost = x.lost; may = x.may; sees = x.sees; leaders = x.leaders; same_sent = x.same_sent; same_tales = x.same_tales; free = λ is. x.free }

      at : IsHeld lease ⊎ (IsHeld lease → ⊥) → Room lease v
      at (inl is) = freed (holders_make_room stripe ops members file w n v sees leaders (alone is))
      at (inr lacks) = record { lost = []; may = tt; sees = sees; leaders = leaders; same_sent = refl; same_tales = refl; free = λ is. absurd (lacks is) }
