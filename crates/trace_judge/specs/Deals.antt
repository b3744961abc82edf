-- where the entries of each file stand in a trace, and how far the clocks have advanced before each
use Rattle.std.specs.Prelude.{ℕ, Bool, ◌≡◌, ◌≤◌, ◌+◌, ◌⊎◌, if◌then◌else◌, Option, Some, None, option_map, List, [], ◌∷◌}
use Rattle.std.specs.Borrow.{Bor}
use Rattle.std.specs.Ordering.{nat_cmp}
use Rattle.std.specs.BTreeMap.{BTreeMap, get}
use Rattle.std.proofs.Common.{Vec, Global}
use Rattle.xt_base.specs.declared.ids.OpId.{OpId}
use Rattle.xt_messages.specs.declared.file.Location.{Location}
use Rattle.xt_messages.specs.declared.event.Call.{Call}
use Rattle.time_line.specs.declared.entry.Entry.{Entry}
use Rattle.time_line.specs.TimeLine.{is_replicated_at, stripe_at}
use Rattle.judging.specs.Dealt.{file_of, is_file, ticks_of}

-- the places, counted from 0, of those of these entries that the test picks, after so many others
unfoldable pub places_from : (Entry → Bool) → ℕ → List Entry → List ℕ
places_from test count [] = []
places_from test count (e ∷ es) = if test e then count ∷ places_from test (count + 1) es else places_from test (count + 1) es

-- how far the clocks have advanced before each of these entries, after others by which they have so far
unfoldable pub ticks_from : ℕ → List Entry → List ℕ
ticks_from ticks [] = []
ticks_from ticks (e ∷ es) = ticks ∷ ticks_from (ticks + ticks_of e) es

-- whether the entry is of the file, and not of every file
abbrev pub is_of : (OpId → Option Call) → ℕ → Entry → Bool
is_of calls file e = is_file file (file_of calls e)

-- where a file is, and the places of its entries
abbrev pub location_at : BTreeMap ℕ (Bor Location) → ℕ → Option Location
location_at rows file = option_map (λ l. l.now) (get nat_cmp rows file)

-- the size of a file's objects, where it is a replicated one
abbrev pub stripe_if : Option Location → Option ℕ
stripe_if location = if is_replicated_at location then Some (stripe_at location) else None

abbrev pub places_or_none : Option (Vec ℕ Global) → List ℕ
places_or_none None = []
places_or_none (Some places) = places.items

abbrev pub places_in : BTreeMap ℕ (Vec ℕ Global) → ℕ → List ℕ
places_in rows file = places_or_none (get nat_cmp rows file)

-- no number of the list is less, where it is in order
abbrev pub IsFirst : ℕ → List ℕ → Type 0
IsFirst n [] = Unit {0}
IsFirst n (m ∷ ms) = n ≤ m

-- The next of two lists that are in order: the first number of one of them, which is taken from it.
abbrev pub IsNext : List ℕ → List ℕ → Option ℕ → List ℕ → List ℕ → Type 0
IsNext one other None one_left other_left = (one ≡ []) × (other ≡ [])
IsNext one other (Some n) one_left other_left =
    ((one ≡ n ∷ one_left) × IsFirst n other × (other ≡ other_left)) ⊎ ((other ≡ n ∷ other_left) × IsFirst n one × (one ≡ one_left))
