-- Payloads of a new area, of which the disk already has the last bytes.
use Rattle.std.specs.Prelude.{ℕ, ◌+◌, ◌<◌, ◌≤◌, ◌≡◌, ◌⊎◌, Bool, max, nat_le, if◌then◌else◌, List, [], ◌∷◌, ◌++◌, length, map}
use Rattle.journal_areas.specs.declared.site.Area.{Area}
use Rattle.journal_moves.specs.declared.extent.Extent.{Extent}
use Rattle.journal_moves.specs.declared.gathered.Gathered.{Gathered}
use Rattle.journal_moves.specs.Extents.{bytes_in}

-- a payload as contracts know it, on a disk of which a read gives these bytes
abbrev pub gathered_in : Bool → List ℕ → Gathered → List ℕ
gathered_in told read payload = payload.front ++ bytes_in told read payload.rest

abbrev pub gathered : Bool → List ℕ → List Gathered → List (List ℕ)
gathered told read payloads = map (gathered_in told read) payloads

-- these bytes have what an extent says, in this area, before the area's last gate
pub record IsHeld (read : List ℕ) (area : Area) (rest : Extent) : Type 0 where
  pub from : area.place ≤ rest.at
  pub until : rest.at + rest.len < area.place + area.length
  pub inside : rest.at + rest.len ≤ length read

-- its rest is empty, or is held
abbrev pub IsThere : List ℕ → Area → Gathered → Type 0
IsThere read area payload = (payload.rest.len ≡ 0) ⊎ IsHeld read area payload.rest

-- ---- their lengths

abbrev pub size_in : Gathered → ℕ
size_in payload = length payload.front + payload.rest.len

abbrev pub sizes_of : List Gathered → List ℕ
sizes_of payloads = map size_in payloads

abbrev pub longest : List Gathered → ℕ
longest [] = 0
longest (payload ∷ payloads) = max (size_in payload) (longest payloads)

-- how long an area of them is: each after an open gate and its length, and a closed gate
abbrev pub size_of_area : List Gathered → ℕ
size_of_area [] = 1
size_of_area (payload ∷ payloads) = 5 + size_in payload + size_of_area payloads

-- ---- the writes of an area

-- what the buffer takes before it is written
abbrev pub chunk : ℕ
chunk = 0x10_0000

-- once a payload was put and the buffer has this many bytes it is written, or not yet
abbrev pub chunk_calls : ℕ → ℕ
chunk_calls count = if nat_le chunk count then 1 else 0

abbrev pub held_after : ℕ → ℕ
held_after count = if nat_le chunk count then 0 else count

-- how often it is written for payloads of these sizes, where it has so many bytes already
abbrev pub chunks : ℕ → List ℕ → ℕ
chunks held [] = 0
chunks held (size ∷ sizes) = chunk_calls (held + (5 + size)) + chunks (held_after (held + (5 + size))) sizes

-- how many calls write an area of payloads of these sizes and sync it: the last write has what is left
abbrev pub area_calls : List ℕ → ℕ
area_calls sizes = chunks 0 sizes + 2
