-- what was handed to a link
use Rattle.std.specs.Prelude.{ℕ, Bool, true, false, ◌≡◌, Option, Some, None, List, [], ◌∷◌, length, not, fold}
use Rattle.xt_base.specs.Faults.{fault_count_after}
use Rattle.node_links.specs.declared.link.Datagram.{Datagram}
use Rattle.node_links.specs.Streams.{Puts}
use Rattle.node_links.specs.Links.{next_reading, readings_left}

-- those of a list that were taken
abbrev pub taken_of : List Bool → List Datagram → List Datagram
taken_of (true ∷ taken) (d ∷ ds) = d ∷ taken_of taken ds
taken_of (false ∷ taken) (d ∷ ds) = taken_of taken ds
taken_of _ _ = []

-- each one that wasn't is counted
abbrev pub count_lost : ℕ → List Bool → ℕ
count_lost before taken = fold (λ losses ok. fault_count_after (not ok) losses) before taken

-- These datagrams were handed to a link, one after the other: each was taken, or was lost and counted.
pub record Sends (before after : Option (List Datagram)) (losses_before losses_after : ℕ) (posted : List Datagram) : Type 0 where
  pub taken : List Bool
  pub each : length taken ≡ length posted
  pub sent : Puts before after (taken_of taken posted)
  pub losses : losses_after ≡ count_lost losses_before taken

-- what one send did: it went, or was lost and counted
abbrev pub what_went : Bool → Datagram → List Datagram
what_went true d = d ∷ []
what_went false d = []

pub record OneSent (before after : Option (List Datagram)) (losses later : ℕ) (d : Datagram) (ok : Bool) : Type 0 where
  pub went : Puts before after (what_went ok d)
  pub counts : later ≡ fault_count_after (not ok) losses

-- A clock was read once for each of these readings, and gave them. What isn't known of it before isn't known after.
abbrev pub Reads : Option (List ℕ) → Option (List ℕ) → List ℕ → Type 0
Reads None after read = after ≡ None
Reads (Some left) after [] = after ≡ Some left
Reads (Some left) after (reading ∷ read) = (reading ≡ next_reading left) × Reads (Some (readings_left left)) after read
