-- lists that rise, and where an item stands in one
use Rattle.std.specs.Prelude.{ℕ, Bool, true, false, ◌&&◌, ◌≡◌, ◌<◌, ◌≤◌, nat_lt, Some, None, Result, Ok, Err, List, [], ◌∷◌, length, map, slice_index_or, slice_set, IsTrue}
use Rattle.std.specs.List.{insert}
use Rattle.xt_messages.specs.declared.file.ObjectVersion.{ObjectVersion}
use Rattle.xt_messages.specs.declared.file.Session.{Session}
use Rattle.xt_messages.specs.declared.file.FileHead.{FileHead}
use Rattle.xt_messages.specs.Limits.{rise}
use Rattle.xt_protocol.specs.Stamps.{comes_before, has_version, with_held}
use Rattle.xt_protocol.specs.Heads.{version_of, with_version, session_of, with_session}

-- each item comes before the next one
abbrev pub rises : {R : Type 0} → (R → R → Bool) → List R → Bool
rises before [] = true
rises before (a ∷ []) = true
rises before (a ∷ b ∷ rest) = before a b && rises before (b ∷ rest)

-- held versions rise by object, then stamp; those of a head rise by object, and sessions by client
abbrev pub held_rise : List ObjectVersion → Bool
held_rise held = rises comes_before held

abbrev pub is_object_before : ObjectVersion → ObjectVersion → Bool
is_object_before a b = nat_lt a.object b.object

abbrev pub is_client_before : Session → Session → Bool
is_client_before a b = nat_lt a.client.0 b.client.0

-- the version is held, and is there; or it belongs there
abbrev pub IsHeldPlace : List ObjectVersion → ObjectVersion → Result ℕ ℕ → Type 0
IsHeldPlace held v (Ok place) = (place < length held) × (has_version held v ≡ true) × (with_held held v ≡ held)
IsHeldPlace held v (Err place) = (place ≤ length held) × (has_version held v ≡ false) × (with_held held v ≡ insert held place v)

-- the version of the object is there; or it belongs there
abbrev pub IsVersionPlace : List ObjectVersion → ℕ → Result ℕ ℕ → Type 0
IsVersionPlace rows object (Ok place) =
    (place < length rows)
    × ((d : ObjectVersion) → version_of rows object ≡ Some (slice_index_or rows place d).version)
    × ((row : ObjectVersion) → row.object ≡ object → with_version rows object row.version ≡ slice_set rows place row)
IsVersionPlace rows object (Err place) =
    (place ≤ length rows)
    × (version_of rows object ≡ None)
    × ((row : ObjectVersion) → row.object ≡ object → with_version rows object row.version ≡ insert rows place row)

-- the session of the client is there; or it belongs there
abbrev pub IsSessionPlace : List Session → ℕ → Result ℕ ℕ → Type 0
IsSessionPlace rows client (Ok place) =
    (place < length rows)
    × ((d : Session) → session_of rows client ≡ Some (slice_index_or rows place d))
    × ((row : Session) → row.client.0 ≡ client → with_session rows row ≡ slice_set rows place row)
IsSessionPlace rows client (Err place) =
    (place ≤ length rows)
    × (session_of rows client ≡ None)
    × ((row : Session) → row.client.0 ≡ client → with_session rows row ≡ insert rows place row)

-- the versions of a head rise by object, and its sessions by client
pub record HeadRises (head : FileHead) : Type 0 where
  pub versions : IsTrue (rise (map (λ v. v.object) head.versions))
  pub sessions : IsTrue (rise (map (λ s. s.client.0) head.sessions))
