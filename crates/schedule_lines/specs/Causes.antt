-- What becomes of the counts of faults of a source and a sink. A fault ends the job that meets it, and is reported with its
-- count, so a job that ends otherwise met none.
use Rattle.std.specs.Prelude.{ℕ, ◌≡◌, ◌⊎◌, Option, Some, None}
use Rattle.xt_messages.specs.declared.status.Status.{Status}
use Rattle.xt_messages.specs.declared.status.Status.TheVariants as status
use Rattle.xt_base.specs.Faults.{Rose}

-- the sink's count of faults rose exactly where the status reports that it failed, with that count
abbrev pub CausesPut : ℕ → ℕ → Option Status → Type 0
CausesPut before later None = later ≡ before
CausesPut before later (Some (status.SinkFault count)) = Rose before later × (count ≡ later)
CausesPut before later (Some _) = later ≡ before

-- the same of a status
abbrev pub CausesEnd : ℕ → ℕ → Status → Type 0
CausesEnd before later s = CausesPut before later (Some s)

-- the count stayed as it was, or rose
abbrev pub MayHaveRisen : ℕ → ℕ → Type 0
MayHaveRisen before later = (later ≡ before) ⊎ Rose before later

-- The counts of the source and of the sink, before and after a job that ends with this status.
abbrev pub HasCause : ℕ → ℕ → ℕ → ℕ → Status → Type 0
-- the source failed, and the sink didn't
HasCause source_before source_after sink_before sink_after (status.SourceFault count) =
    Rose source_before source_after × (count ≡ source_after) × (sink_after ≡ sink_before)
-- the sink failed, maybe while a fault of the source was reported
HasCause source_before source_after sink_before sink_after (status.SinkFault count) =
    Rose sink_before sink_after × (count ≡ sink_after) × MayHaveRisen source_before source_after
-- memory ran out, maybe while a fault of the source was reported
HasCause source_before source_after sink_before sink_after status.OutOfMemory =
    MayHaveRisen source_before source_after × (sink_after ≡ sink_before)
-- with any other status neither failed
HasCause source_before source_after sink_before sink_after _ =
    (source_after ≡ source_before) × (sink_after ≡ sink_before)
