-- what is put to a sink, and what comes of it
use Rattle.std.specs.Prelude.{ℕ, ◌≡◌, ◌⊎◌, Option, Some, None, List, []}
use Rattle.xt_messages.specs.declared.status.Status.{Status}
use Rattle.xt_messages.specs.declared.status.Status.TheVariants as status
use Rattle.node_links.specs.Streams.{Puts}
use Rattle.schedule_text.specs.StatusText.{last_line}
use Rattle.schedule_lines.specs.Fronts.{PutsFront}

-- the text was put, or the sink failed after a front of it, or there was no memory for the text
abbrev pub IsPut : Option (List ℕ) → Option (List ℕ) → List ℕ → Option Status → Type 0
IsPut old new text None = Puts old new text
IsPut old new text (Some (status.SinkFault count)) = PutsFront old new text
IsPut old new text (Some status.OutOfMemory) = Puts old new []
IsPut old new text (Some _) = ⊥

-- the last line of the status was put, or the sink failed after a front of it, or there was no memory for its text
abbrev pub IsFinished : Option (List ℕ) → Option (List ℕ) → Status → Status → Type 0
IsFinished old new s given =
    ((given ≡ s) × Puts old new (last_line s))
    ⊎ ((count : ℕ) × (given ≡ status.SinkFault count) × PutsFront old new (last_line s))
    ⊎ ((given ≡ status.OutOfMemory) × Puts old new [])

-- the status doesn't report a fault of the sink
abbrev pub IsNoSinkFault : Status → Type 0
IsNoSinkFault (status.SinkFault count) = ⊥
IsNoSinkFault _ = Unit {0}
