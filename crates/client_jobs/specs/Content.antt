-- what `put` writes
use Rattle.std.specs.Prelude.{ℕ, ◌≡◌, ◌≤◌, ◌<◌, suc, zero, ◌+◌, ◌%◌, nat_lt, Bool, true, false, Option, List, [], ◌∷◌, ◌++◌, length}
use Rattle.node_links.specs.Streams.{Takes, IsAtEnd}
use Rattle.client_jobs.specs.declared.content.ReadErr.{ReadErr}
use Rattle.client_jobs.specs.declared.content.ReadErr.TheVariants as read
use Rattle.xt_base.specs.Faults.{Rose}

-- so many bytes of the pattern, from this place on
unfoldable pub pattern_from : ℕ → ℕ → List ℕ
pattern_from place zero = []
pattern_from place (suc count) = place % 251 ∷ pattern_from (place + 1) count

-- the source's count of faults rose exactly where its failure is reported, with that count
abbrev pub HasReadCause : ℕ → ℕ → ReadErr → Type 0
HasReadCause before later (read.Failed count) = Rose before later × (count ≡ later)
HasReadCause before later read.OutOfMemory = later ≡ before

-- Bytes were taken of a source, at least one and so many at most, and appended to those that were there; or none, at its end.
abbrev pub HasMore : Bool → Option (List ℕ) → Option (List ℕ) → ℕ → List ℕ → List ℕ → Type 0
HasMore true before after room bytes longer =
    (front : List ℕ) × Takes before after front × (longer ≡ bytes ++ front) × (1 ≤ length front) × (length front ≤ room)
HasMore false before after room bytes longer = Takes before after [] × IsAtEnd after × (longer ≡ bytes)

-- A piece was taken of a source, so many bytes at most, and it has fewer only at the end. Where the source was at its end before, it is
-- left alone.
abbrev pub HasRead : Bool → Bool → Option (List ℕ) → Option (List ℕ) → ℕ → List ℕ → Type 0
HasRead true ended before after room piece = (piece ≡ []) × (after ≡ before) × (ended ≡ true)
HasRead false ended before after room piece =
    Takes before after piece × (length piece ≤ room) × (ended ≡ nat_lt (length piece) room) × (length piece < room → IsAtEnd after)

-- A piece wasn't taken for which there was room, or in part, from a source that wasn't at its end before: it failed, or memory ran out.
pub record HasPartRead (ended : Bool) (before after : Option (List ℕ)) (room : ℕ) : Type 0 where
  pub front : List ℕ
  pub takes : Takes before after front
  pub few : length front ≤ room
  pub some : 1 ≤ room
  pub open_end : ended ≡ false
