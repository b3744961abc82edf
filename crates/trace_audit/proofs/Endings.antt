-- what is found of a trace, and what is reported of it
use Rattle.std.proofs.Common.{◌≡◌, ◌≢◌, ◌∙◌, ℕ, length, Option, List, [], refl, sym, subst, inl, inr, append-nil}
use Rattle.xt_messages.specs.declared.status.Status.{Status}
use Rattle.xt_messages.specs.declared.status.Status.TheVariants as status
use Rattle.node_links.specs.Streams.{Takes, IsAtEnd, Puts}
use Rattle.time_line.specs.declared.entry.Entry.{Entry}
use Rattle.schedule_text.specs.EntryText.{trace_text}
use Rattle.schedule_text.specs.StatusText.{last_line}
use Rattle.schedule_lines.specs.Causes.{CausesEnd, HasCause}
use Rattle.schedule_lines.specs.Putting.{IsFinished, IsNoSinkFault}
use Rattle.schedule_lines.proofs.Counted.{source_moved, told_cause}
use Rattle.trace_audit.specs.NextEntry.{StopsAudit, CountsStop}
use Rattle.trace_audit.specs.Audit.{IsWhole, IsReadTo, IsFound, IsSaid, IsTold, EndsWith, room_behind, text_of}

-- the reading stopped
stop_ends : (entries : List Entry) (taken : List ℕ) (left : Option (List ℕ)) (s : Status) → StopsAudit (length entries) (room_behind entries) taken left s → EndsWith entries taken left s
stop_ends entries taken left status.Done stop = absurd stop
stop_ends entries taken left (status.Broken clause entry) stop = absurd stop
stop_ends entries taken left _ stop = stop

pub stopped_found : (old new : Option (List ℕ)) (s : Status) → IsReadTo old new s → IsFound old new s
stopped_found old new s read = record { entries = read.entries; trace = read.trace; taken = read.taken; source = read.source; ending = stop_ends read.entries read.taken new s read.stop }

stop_cause : (source_before source_after sink before room : ℕ) (taken : List ℕ) (left : Option (List ℕ)) (s : Status)
    → StopsAudit before room taken left s
    → CountsStop source_before source_after s
    → HasCause source_before source_after sink sink s
stop_cause sb sa k before room taken left (status.SourceFault count) stops counts = (counts.0, counts.1, refl)
stop_cause sb sa k before room taken left (status.SinkFault count) stops counts = absurd stops
stop_cause sb sa k before room taken left status.OutOfMemory stops counts = (inl counts, refl)
stop_cause sb sa k before room taken left _ stops counts = (counts, refl)

pub stopped_cause : (old new : Option (List ℕ)) (source_before source_after sink : ℕ) (s : Status) → IsReadTo old new s → CountsStop source_before source_after s → HasCause source_before source_after sink sink s
stopped_cause old new sb sa k s read counts = stop_cause sb sa k (length read.entries) (room_behind read.entries) read.taken new s read.stop counts

stop_unput : (before room : ℕ) (taken : List ℕ) (left : Option (List ℕ)) (s : Status) → StopsAudit before room taken left s → IsNoSinkFault s
stop_unput before room taken left (status.SinkFault count) stops = stops
stop_unput before room taken left _ stops = tt

pub stopped_unput : (old new : Option (List ℕ)) (s : Status) → IsReadTo old new s → IsNoSinkFault s
stopped_unput old new s read = stop_unput (length read.entries) (room_behind read.entries) read.taken new s read.stop

-- the trace was read whole
said_ends : (entries : List Entry) (left : Option (List ℕ)) (s : Status) → IsAtEnd left → IsSaid entries s → EndsWith entries [] left s
said_ends entries left status.Done end said = (refl, end, said)
said_ends entries left (status.Broken clause entry) end said = (refl, end, said)
said_ends entries left status.OutOfMemory end said = tt
said_ends entries left _ end said = absurd said

pub said_found : (old new : Option (List ℕ)) (entries : List Entry) (s : Status) → IsWhole old new entries → IsSaid entries s → IsFound old new s
said_found old new entries s read said =
    record {
      entries = entries;
      trace = read.trace;
      taken = [];
      source = subst (Takes old new) (sym (append-nil (trace_text entries))) read.source;
      ending = said_ends entries new s read.end said;
    }

pub said_cause : (entries : List Entry) (source_before source_after sink : ℕ) (s : Status) → IsSaid entries s → source_after ≡ source_before → HasCause source_before source_after sink sink s
said_cause entries sb sa k (status.SourceFault count) said kept = absurd said
said_cause entries sb sa k (status.SinkFault count) said kept = absurd said
said_cause entries sb sa k status.OutOfMemory said kept = (inl kept, refl)
said_cause entries sb sa k _ said kept = (kept, refl)

pub said_unput : (entries : List Entry) (s : Status) → IsSaid entries s → IsNoSinkFault s
said_unput entries (status.SinkFault count) said = said
said_unput entries _ said = tt

-- a status that isn't good is reported by its last line
line_text : (s : Status) → s ≢ status.Done → last_line s ≡ text_of s
line_text status.Done other = absurd (other refl)
line_text _ other = refl

pub finished_told : (old new : Option (List ℕ)) (s given : Status) → s ≢ status.Done → IsFinished old new s given → IsTold old new s given
finished_told old new s given other (inl (same, put)) = inl (same, subst (Puts old new) (line_text s other) put)
finished_told old new s given other (inr (inl (count, same, (front, put, is_front)))) =
    inr (inl (count, same, (front, put, (is_front.0, sym (line_text s other) ∙ is_front.1, is_front.2))))
finished_told old new s given other (inr (inr (same, put))) = inr (inr (same, other, put))

-- a status that was reported, or that reporting it gave
pub told_all : (source_before source_after sink_before sink_after : ℕ) (held_before held_after : Option (List ℕ)) (s given : Status)
    → IsTold held_before held_after s given
    → CausesEnd sink_before sink_after given
    → HasCause source_before source_after sink_before sink_before s
    → HasCause source_before source_after sink_before sink_after given
told_all sb sa kb ka hb ha s given (inl (same, put)) told cause =
    subst (HasCause sb sa kb ka) (sym same) (told_cause sb sa kb ka s (subst (CausesEnd kb ka) same told) cause)
told_all sb sa kb ka hb ha s given (inr (inl (count, same, front))) told cause =
    let risen : CausesEnd kb ka (status.SinkFault count) = subst (CausesEnd kb ka) same told in
    subst (HasCause sb sa kb ka) (sym same) (risen.0, risen.1, source_moved sb sa kb kb s cause)
told_all sb sa kb ka hb ha s given (inr (inr (same, other, put))) told cause =
    let kept : CausesEnd kb ka status.OutOfMemory = subst (CausesEnd kb ka) same told in
    subst (HasCause sb sa kb ka) (sym same) (source_moved sb sa kb kb s cause, kept)
