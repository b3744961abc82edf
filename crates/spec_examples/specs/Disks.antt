-- A disk in memory: which of its calls fail, and what a crash leaves of it.
use Rattle.std.specs.Prelude.{ℕ, Bool, true, false, Option, None, Some, List, [], ◌∷◌, map}
use Rattle.disk_model.specs.declared.plan.Stop.{Stop}
use Rattle.disk_model.specs.declared.plan.Plan.{Plan}
use Rattle.disk_model.specs.Plan.{planned}
use Rattle.disk_model.specs.Disk.{Kept, at_rest}
use Rattle.disk_model.specs.Changes.{Change, Write, Sync, kept_after}

-- a look, two writes with a sync after each, and a look: how many calls looked and changed, up to each
abbrev pub six_calls : List (ℕ × ℕ)
six_calls = (1, 0) ∷ (1, 1) ∷ (1, 2) ∷ (1, 3) ∷ (1, 4) ∷ (2, 4) ∷ []

abbrev pub plan_of : List ℕ × Option Stop → Plan
plan_of row = record { failing = row.0; stop = row.1; calls = 0; changes = 0; faults = 0 }

-- which of the six fail
abbrev pub failed : List ℕ × Option Stop → List Bool
failed row = map (λ made. planned (plan_of row) made.0 made.1) six_calls

abbrev pub stop_in : ℕ → Option Stop
stop_in call = Some (record { call = call; fill = 0x37 })

-- the calls that are to fail, by their numbers; in which write or sync the disk stops
abbrev pub plans : List (List ℕ × Option Stop)
plans =
    ([], None) ∷ (1 ∷ 6 ∷ [], None) ∷ (2 ∷ 3 ∷ [], None) ∷ (4 ∷ [], None)
    ∷ ([], stop_in 1) ∷ ([], stop_in 2) ∷ ([], stop_in 3) ∷ ([], stop_in 4) ∷ []

abbrev pub failed_wanted : List (List Bool)
failed_wanted =
    (false ∷ false ∷ false ∷ false ∷ false ∷ false ∷ [])
    ∷ (true ∷ false ∷ false ∷ false ∷ false ∷ true ∷ [])
    ∷ (false ∷ true ∷ true ∷ false ∷ false ∷ false ∷ [])
    ∷ (false ∷ false ∷ false ∷ true ∷ false ∷ false ∷ [])
    ∷ (false ∷ true ∷ true ∷ true ∷ true ∷ true ∷ [])
    ∷ (false ∷ false ∷ true ∷ true ∷ true ∷ true ∷ [])
    ∷ (false ∷ false ∷ false ∷ true ∷ true ∷ true ∷ [])
    ∷ (false ∷ false ∷ false ∷ false ∷ true ∷ true ∷ [])
    ∷ []

-- what four bytes are after these changes
abbrev pub four_after : List Change → Kept
four_after changes = kept_after changes (at_rest (1 ∷ 2 ∷ 3 ∷ 4 ∷ []))

abbrev pub one_byte : Change
one_byte = Write 1 (9 ∷ [])

-- over the end
abbrev pub three_bytes : Change
three_bytes = Write 3 (8 ∷ 8 ∷ 8 ∷ [])

-- nothing was synced since the start
abbrev pub unsynced : Kept
unsynced = four_after (one_byte ∷ three_bytes ∷ [])

-- the first write was
abbrev pub half_synced : Kept
half_synced = four_after (one_byte ∷ Sync ∷ three_bytes ∷ [])
