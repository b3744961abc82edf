-- the counts of faults where a line isn't read, and where something is put
use Rattle.std.proofs.Common.{◌≡◌, ℕ, Option, Some, List, refl, sym, subst, inl, inr}
use Rattle.xt_messages.specs.declared.status.Status.{Status}
use Rattle.xt_messages.specs.declared.status.Status.TheVariants as status
use Rattle.schedule_lines.specs.NextLine.{StopsReading, CountsFaults}
use Rattle.schedule_lines.specs.declared.next.NextLine.TheVariants as next
use Rattle.schedule_lines.specs.Putting.{IsPut, IsFinished}
use Rattle.schedule_lines.specs.Causes.{CausesPut, CausesEnd, MayHaveRisen, HasCause}

-- whatever is reported, the source's count stayed or rose
pub source_moved : (source_before source_after sink_before sink_after : ℕ) (s : Status) → HasCause source_before source_after sink_before sink_after s → MayHaveRisen source_before source_after
source_moved sb sa kb ka (status.SourceFault count) cause = inr cause.0
source_moved sb sa kb ka (status.SinkFault count) cause = cause.2
source_moved sb sa kb ka status.OutOfMemory cause = cause.0
source_moved sb sa kb ka _ cause = inl cause.0

-- a status whose last line was put
pub told_cause : (source_before source_after sink_before sink_after : ℕ) (s : Status)
    → CausesEnd sink_before sink_after s
    → HasCause source_before source_after sink_before sink_before s
    → HasCause source_before source_after sink_before sink_after s
told_cause sb sa kb ka (status.SourceFault count) told cause = (cause.0, cause.1, told)
told_cause sb sa kb ka (status.SinkFault count) told cause = (told.0, told.1, cause.2)
told_cause sb sa kb ka status.OutOfMemory told cause = (cause.0, told)
told_cause sb sa kb ka _ told cause = (cause.0, told)

-- a status that was reported, or that reporting it gave
pub finished_cause : (source_before source_after sink_before sink_after : ℕ) (held_before held_after : Option (List ℕ)) (s given : Status)
    → IsFinished held_before held_after s given
    → CausesEnd sink_before sink_after given
    → HasCause source_before source_after sink_before sink_before s
    → HasCause source_before source_after sink_before sink_after given
finished_cause sb sa kb ka hb ha s given (inl (same, put)) told cause =
    subst (HasCause sb sa kb ka) (sym same) (told_cause sb sa kb ka s (subst (CausesEnd kb ka) same told) cause)
finished_cause sb sa kb ka hb ha s given (inr (inl (count, same, front))) told cause =
    let risen : CausesEnd kb ka (status.SinkFault count) = subst (CausesEnd kb ka) same told in
    subst (HasCause sb sa kb ka) (sym same) (risen.0, risen.1, source_moved sb sa kb kb s cause)
finished_cause sb sa kb ka hb ha s given (inr (inr (same, put))) told cause =
    let kept : CausesEnd kb ka status.OutOfMemory = subst (CausesEnd kb ka) same told in
    subst (HasCause sb sa kb ka) (sym same) (source_moved sb sa kb kb s cause, kept)

-- no line was read, and nothing was put
pub stopped_cause : (source_before source_after sink before : ℕ) (taken : List ℕ) (left : Option (List ℕ)) (s : Status)
    → StopsReading before taken left s
    → CountsFaults source_before source_after (next.Stopped s)
    → HasCause source_before source_after sink sink s
stopped_cause sb sa k before taken left (status.SourceFault count) stops counts = (counts.0, counts.1, refl)
stopped_cause sb sa k before taken left (status.SinkFault count) stops counts = absurd stops
stopped_cause sb sa k before taken left status.OutOfMemory stops counts = (inl counts, refl)
stopped_cause sb sa k before taken left _ stops counts = (counts, refl)

-- the entries couldn't be put, and the source didn't fail
pub put_cause : (source_before source_after sink_before sink_after : ℕ) (held_before held_after : Option (List ℕ)) (text : List ℕ) (s : Status)
    → source_after ≡ source_before
    → IsPut held_before held_after text (Some s)
    → CausesPut sink_before sink_after (Some s)
    → HasCause source_before source_after sink_before sink_after s
put_cause sb sa kb ka hb ha text (status.SinkFault count) kept put told = (told.0, told.1, inl kept)
put_cause sb sa kb ka hb ha text status.OutOfMemory kept put told = (inl kept, told)
put_cause sb sa kb ka hb ha text _ kept put told = absurd put
