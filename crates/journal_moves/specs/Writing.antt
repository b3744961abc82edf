-- What a disk has while an area is written.
use Rattle.std.specs.Prelude.{ℕ, ◌+◌, ◌-◌, ◌<◌, ◌≤◌, ◌≡◌, ◌⊎◌, List, ◌++◌, length, take, drop, slice_index}
use Rattle.std.specs.List.{All}
use Rattle.disk_model.specs.Disk.{Kept, Range}
use Rattle.journal_moves.specs.declared.extent.Extent.{Extent}
use Rattle.journal_moves.specs.declared.gathered.Gathered.{Gathered}

-- these bytes are still there outside of the places from this one up to this end
pub record StaysOutside (bytes image : List ℕ) (place end : ℕ) : Type 0 where
  pub long : length bytes ≤ length image
  pub same : (k : ℕ) → k < length bytes → (k < place) ⊎ (end ≤ k) → slice_index image k ≡ slice_index bytes k

pub record IsBetween (place end : ℕ) (range : Range) : Type 0 where
  pub from : place ≤ range.start
  pub until : range.end ≤ end

-- These bytes are synced, and what was written since lies from this place on before this end. What was put so far is what a read gives from
-- this place on up to the next write, and after that what is held in memory.
pub record IsUnderway (bytes : List ℕ) (place end : ℕ) (kept : Kept) (at : ℕ) (held so_far : List ℕ) : Type 0 where
  pub synced : kept.synced ≡ bytes
  pub within : All (IsBetween place end) kept.written
  pub stays : StaysOutside bytes kept.read place end
  pub from : place ≤ at
  pub are : take (at - place) (drop place kept.read) ++ held ≡ so_far
  pub size : at + length held ≡ place + length so_far

-- a piece is written at this place, and the rest is as it was
pub record IsWritten (bytes image : List ℕ) (place end : ℕ) (piece : List ℕ) : Type 0 where
  pub stays : StaysOutside bytes image place end
  pub there : take (length piece) (drop place image) ≡ piece

-- the extent is empty, or in these bytes
abbrev pub IsIn : List ℕ → Extent → Type 0
IsIn read rest = (rest.len ≡ 0) ⊎ (rest.at + rest.len ≤ length read)

pub record IsAside (read : List ℕ) (place end : ℕ) (rest : Extent) : Type 0 where
  pub inside : rest.at + rest.len ≤ length read
  pub away : (rest.at + rest.len ≤ place) ⊎ (end ≤ rest.at)

-- and not between this place and this end
abbrev pub IsApart : List ℕ → ℕ → ℕ → Gathered → Type 0
IsApart read place end payload = (payload.rest.len ≡ 0) ⊎ IsAside read place end payload.rest
