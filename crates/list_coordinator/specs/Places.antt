-- where the change of a file stands or belongs among those of a server
use Rattle.std.specs.Prelude.{ℕ, ◌≡◌, ◌<◌, ◌≤◌, ◌+◌, true, Some, None, List, [], ◌∷◌, ◌++◌, length, take, drop, slice_set, slice_index_or, Result, Ok, Err}
use Rattle.std.specs.List.{insert, AllByRecursion, AllByRecursion-prop}
use Rattle.std.specs.Coded.{Coded-set, coded_bool, Unit-prop, ×_prop}
use Rattle.xt_base.specs.declared.ids.FileId.{FileId}
use Rattle.xt_protocol.specs.FileIds.{is_before}
use Rattle.change_rows.specs.Coordinating.{Running, file_of, running_of, with_running, without_file}

-- each file comes before all files after it
abbrev pub ChangesRise : List Running → Type 0
ChangesRise [] = Unit {0}
ChangesRise (r ∷ rs) = AllByRecursion (λ later. is_before (file_of r) (file_of later) ≡ true) rs × ChangesRise rs

-- there is one proof of it at most
pub rise_prop : (running : List Running) → IsProp (ChangesRise running)
rise_prop [] = Unit-prop
rise_prop (r ∷ rs) =
    ×_prop (AllByRecursion-prop (λ later. is_before (file_of r) (file_of later) ≡ true) (λ later. Coded-set coded_bool (is_before (file_of r) (file_of later)) true) rs) (rise_prop rs)

-- the change of the file is there; or a new one belongs there
abbrev pub IsChangePlace : List Running → FileId → Result ℕ ℕ → Type 0
IsChangePlace running file (Ok place) =
    (place < length running)
    × ((d : Running) → running_of running file ≡ Some (slice_index_or running place d))
    × ((r : Running) → file_of r ≡ file → with_running running r ≡ slice_set running place r)
    × (without_file running file ≡ take place running ++ drop (place + 1) running)
IsChangePlace running file (Err place) =
    (place ≤ length running)
    × (running_of running file ≡ None)
    × ((r : Running) → file_of r ≡ file → with_running running r ≡ insert running place r)
    × (without_file running file ≡ running)
