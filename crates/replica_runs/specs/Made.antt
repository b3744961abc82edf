-- What an update does to the file's content, object by object, and what it is made from.
use Rattle.std.specs.Prelude.{◌≡◌, ℕ, suc, ◌+◌, ◌*◌, ◌<◌, ◌≤◌, ◌==◌, ◌⊎◌, nat_lt, max, if◌then◌else◌, List, [], ◌∷◌, length, take, map}
use Rattle.xt_messages.specs.declared.file.Op.{Op}
use Rattle.xt_messages.specs.declared.file.Op.TheVariants.{Read, Write, Truncate}
use Rattle.xt_messages.specs.declared.file.Update.{Update}
use Rattle.xt_base.specs.declared.TheConstants.{NO_OBJECT, OBJECTS}
use Rattle.xt_base.specs.Overlay.{overlay}
use Rattle.replica_safety.specs.Epochs.{name}
use Rattle.replica_safety.specs.Lists.{Has}

-- The bodies of all objects after an update: its object has its body, and those from `drop_from` on have none.
abbrev pub bodies_after : (ℕ → List ℕ) → Update → ℕ → List ℕ
bodies_after bodies u o = if o == u.object then u.body else if nat_lt o u.drop_from then bodies o else []

abbrev pub bodies_from : (ℕ → List ℕ) → List Update → ℕ → List ℕ
bodies_from bodies [] = bodies
bodies_from bodies (u ∷ us) = bodies_from (bodies_after bodies u) us

abbrev pub no_bodies : ℕ → List ℕ
no_bodies o = []

abbrev pub bodies_of : List Update → ℕ → List ℕ
bodies_of us = bodies_from no_bodies us

-- The size after updates: the last one's mark.
abbrev pub size_from : ℕ → List Update → ℕ
size_from size [] = size
size_from size (u ∷ us) = size_from u.mark.size us

abbrev pub size_of : List Update → ℕ
size_of us = size_from 0 us

-- The update that a write makes of an object's old body.
pub record MadeByWrite (stripe : ℕ) (bodies : ℕ → List ℕ) (size : ℕ) (u : Update) (object at : ℕ) (bytes : List ℕ) : Type 0 where
  pub fits : at + length bytes ≤ stripe
  pub some : 0 < length bytes
  pub low : object < OBJECTS
  pub is_object : u.object ≡ object
  pub drops : u.drop_from ≡ NO_OBJECT
  pub is_body : u.body ≡ overlay (bodies object) at bytes
  pub is_size : u.mark.size ≡ max size (object * stripe + at + length bytes)

-- The update that a truncation makes: the size is `last * stripe + rest`. With no rest the objects from `last` on go, else
-- those above it, and the last one is cut where it is longer than the rest.
pub record MadeByTruncation (stripe : ℕ) (bodies : ℕ → List ℕ) (u : Update) (size : ℕ) : Type 0 where
  pub last : ℕ
  pub rest : ℕ
  pub splits : last * stripe + rest ≡ size
  pub less : rest < stripe
  pub low : size ≤ OBJECTS * stripe
  pub is_size : u.mark.size ≡ size
  pub drops : ((rest ≡ 0) × (u.drop_from ≡ last)) ⊎ ((0 < rest) × (u.drop_from ≡ last + 1))
  pub cuts : ((0 < rest) × (rest < length (bodies last)) × (u.object ≡ last) × (u.body ≡ take rest (bodies last)))
      ⊎ (((rest ≡ 0) ⊎ (length (bodies last) ≤ rest)) × (u.object ≡ NO_OBJECT) × (u.body ≡ []))

abbrev pub IsMadeBy : ℕ → (ℕ → List ℕ) → ℕ → Update → Op → Type 0
IsMadeBy stripe bodies size u (Read object at len) = ⊥
IsMadeBy stripe bodies size u (Write object at bytes) = MadeByWrite stripe bodies size u object at bytes
IsMadeBy stripe bodies size u (Truncate z) = MadeByTruncation stripe bodies u z

-- An update is the next one, and its number is above all of its client's before it.
pub record IsNext (before : List Update) (u : Update) : Type 0 where
  pub place : u.stamp.count ≡ suc (length before)
  pub above : (w : Update) → Has w before → w.id.client.0 ≡ u.id.client.0 → w.id.number < u.id.number

-- The update is what its operation makes of the file after those before it.
abbrev pub IsMade : ℕ → (ℕ × ℕ → Op) → List Update → Update → Type 0
IsMade stripe ops before u = IsNext before u × IsMadeBy stripe (bodies_of before) (size_of before) u (ops (name u))

-- The operations of updates.
abbrev pub ops_of : (ℕ × ℕ → Op) → List Update → List Op
ops_of ops us = map (λ u. ops (name u)) us
