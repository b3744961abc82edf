-- What an append has done, by its answer.
use Rattle.std.specs.Prelude.{ℕ, Bool, Option, List, [], ◌∷◌, ◌++◌, Result, Ok, Err}
use Rattle.disk_model.specs.Disk.{Kept}
use Rattle.journal_areas.specs.declared.superblock.Superblock.{Superblock}
use Rattle.xt_journal.specs.declared.append.Refusal.{Refusal}
use Rattle.xt_journal.specs.declared.append.Refusal.TheVariants.{Broken, OutOfMemory}
use Rattle.xt_journal.specs.Append.{AreStopped}
use Rattle.journal_records.specs.Calls.{GoesOn, AllSucceed}
use Rattle.xt_journal.specs.Format.{KeepsIn}

-- the disk has the payloads in its journal, or was stopped at them
abbrev pub AppendsAll : {T : Type 0} → Option Superblock → (ℕ → ℕ → Bool) → Kept → List (List ℕ) → List (List ℕ) → Result T Refusal → Type 0
AppendsAll super fails kept payloads more (Ok value) = KeepsIn super kept (payloads ++ more)
AppendsAll super fails kept payloads more (Err Broken) = AreStopped super fails kept payloads more
AppendsAll super fails kept payloads more (Err OutOfMemory) = Unit {0}

-- the same of one payload
abbrev pub Appends : {T : Type 0} → Option Superblock → (ℕ → ℕ → Bool) → Kept → List (List ℕ) → List ℕ → Result T Refusal → Type 0
Appends super fails kept payloads payload result = AppendsAll super fails kept payloads (payload ∷ []) result

-- all four calls were made, or none was where memory ran out
abbrev pub MakesCalls : {T : Type 0} → (ℕ → ℕ → Bool) → (ℕ → ℕ → Bool) → Result T Refusal → Type 0
MakesCalls old new (Ok value) = AllSucceed old 4 × GoesOn 0 4 old new
MakesCalls old new (Err Broken) = Unit {0}
MakesCalls old new (Err OutOfMemory) = GoesOn 0 0 old new
