-- what stands in the trace before the acts of a primary that name a call
use Rattle.std.specs.Prelude.{◌≡◌, ◌==◌, ℕ, if◌then◌else◌, Option, Some, None, List}
use Rattle.xt_base.specs.declared.ids.OpId.{OpId}
use Rattle.time_line.specs.declared.entry.Entry.{Entry}
use Rattle.time_line.specs.declared.entry.Entry.TheVariants as entry
use Rattle.time_line.specs.Clauses.{IsBefore, HasBegunOn}

-- the call whose write is issued or committed, or that is answered, on this file
abbrev pub acted_for : ℕ → Entry → Option OpId
acted_for file (entry.Issue node f count id) = if f == file then Some id else None
acted_for file (entry.Commit node f count id) = if f == file then Some id else None
acted_for file (entry.Answer node f id count bytes) = if f == file then Some id else None
acted_for file _ = None

-- It had begun on that file before.
abbrev pub ActsHaveBegun : ℕ → List Entry → Type 0
ActsHaveBegun file entries =
    (before : List Entry) (e : Entry) (id : OpId) → IsBefore before e entries → acted_for file e ≡ Some id → HasBegunOn file before id
