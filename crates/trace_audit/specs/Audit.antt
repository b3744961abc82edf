-- what an audit takes and puts, and why it ends
use Rattle.std.specs.Prelude.{ℕ, ◌==◌, ◌≡◌, ◌≢◌, ◌≤◌, ◌+◌, ◌-◌, ◌⊎◌, Option, Some, List, [], ◌∷◌, ◌++◌, length, codes}
use Rattle.std.specs.List.{AllByRecursion}
use Rattle.xt_messages.specs.declared.status.Status.{Status}
use Rattle.xt_messages.specs.declared.status.Status.TheVariants as status
use Rattle.node_links.specs.Streams.{Takes, IsAtEnd, Puts}
use Rattle.time_line.specs.declared.entry.Entry.{Entry}
use Rattle.time_line.specs.Verdicts.{Break, number_of, IsSafe, IsBroken}
use Rattle.time_line.specs.declared.TheConstants.{LINE_BYTES}
use Rattle.schedule_text.specs.EntryText.{entry_text, trace_text, IsEntryAt}
use Rattle.schedule_text.specs.StatusText.{last_line}
use Rattle.schedule_lines.specs.RawLine.{line_feed}
use Rattle.schedule_lines.specs.Fronts.{PutsFront}
use Rattle.trace_audit.specs.declared.TheConstants.{TRACE_BYTES}
use Rattle.trace_audit.specs.NextEntry.{StopsAudit}

-- each entry is one of a trace, after so many others; only the first may give the times
abbrev pub AreOfTrace : ℕ → List Entry → Type 0
AreOfTrace before [] = Unit {0}
AreOfTrace before (e ∷ es) = IsEntryAt (before == 0) e × AreOfTrace (before + 1) es

-- the entries of a trace that has no more bytes than it may
pub record IsTrace (entries : List Entry) : Type 0 where
  pub formed : AreOfTrace 0 entries
  pub few : length (trace_text entries) ≤ TRACE_BYTES

-- how many bytes the trace may have after these entries
abbrev pub room_behind : List Entry → ℕ
room_behind entries = TRACE_BYTES - length (trace_text entries)

-- Why an audit ends after these entries, by the bytes that it takes from there on and what is left of the source.
abbrev pub EndsWith : List Entry → List ℕ → Option (List ℕ) → Status → Type 0
-- the source is at its end, and the trace is safe
EndsWith entries taken left status.Done = (taken ≡ []) × IsAtEnd left × IsSafe entries
-- the source is at its end, and the trace is broken first by this entry, in this clause
EndsWith entries taken left (status.Broken clause entry) =
    (taken ≡ []) × IsAtEnd left × ((b : Break) × (number_of b.clause ≡ clause) × (b.entry ≡ entry) × IsBroken b entries)
-- the next line isn't read, or memory ran out
EndsWith entries taken left s = StopsAudit (length entries) (room_behind entries) taken left s

-- what is put where an audit ends so
abbrev pub text_of : Status → List ℕ
text_of status.Done = codes "safe" ++ line_feed ∷ []
text_of s = last_line s

-- the text of a status was put, or the sink failed after a front of it, or there was no memory for it
abbrev pub IsTold : Option (List ℕ) → Option (List ℕ) → Status → Status → Type 0
IsTold old new s given =
    ((given ≡ s) × Puts old new (text_of s))
    ⊎ ((count : ℕ) × (given ≡ status.SinkFault count) × PutsFront old new (text_of s))
    ⊎ ((given ≡ status.OutOfMemory) × (s ≢ status.Done) × Puts old new [])

-- An audit: the entries that it read, the bytes that it took after their text, and why it ended, which it reports.
pub record IsAudit (source_before source_after sink_before sink_after : Option (List ℕ)) (given : Status) : Type 0 where
  pub entries : List Entry
  pub trace : IsTrace entries
  pub taken : List ℕ
  pub source : Takes source_before source_after (trace_text entries ++ taken)
  pub said : Status
  pub ending : EndsWith entries taken source_after said
  pub told : IsTold sink_before sink_after said given

-- What was read of a source: all of a trace, or the entries before the line that stopped the reading.
pub record IsReadTo (old new : Option (List ℕ)) (s : Status) : Type 0 where
  pub entries : List Entry
  pub trace : IsTrace entries
  pub taken : List ℕ
  pub source : Takes old new (trace_text entries ++ taken)
  pub stop : StopsAudit (length entries) (room_behind entries) taken new s

pub record IsWhole (old new : Option (List ℕ)) (entries : List Entry) : Type 0 where
  pub trace : IsTrace entries
  pub source : Takes old new (trace_text entries)
  pub end : IsAtEnd new

-- What was found of a source's trace.
pub record IsFound (old new : Option (List ℕ)) (s : Status) : Type 0 where
  pub entries : List Entry
  pub trace : IsTrace entries
  pub taken : List ℕ
  pub source : Takes old new (trace_text entries ++ taken)
  pub ending : EndsWith entries taken new s

-- What is said of a trace that was read whole: that it is safe, or by which entry and in which clause it is broken first, or that memory
-- ran out.
abbrev pub IsSaid : List Entry → Status → Type 0
IsSaid entries status.Done = IsSafe entries
IsSaid entries (status.Broken clause entry) = (b : Break) × (number_of b.clause ≡ clause) × (b.entry ≡ entry) × IsBroken b entries
IsSaid entries status.OutOfMemory = Unit {0}
IsSaid entries _ = ⊥

-- how the audit of a good trace may end: with its verdict, which was put, unless memory runs out
abbrev pub IsWholeAudit : List Entry → Option (List ℕ) → Option (List ℕ) → Status → Type 0
IsWholeAudit entries sink_before sink_after status.OutOfMemory = Unit {0}
IsWholeAudit entries sink_before sink_after s = IsSaid entries s × Puts sink_before sink_after (text_of s)

-- each line is no longer than a line may be
abbrev pub AreShort : List Entry → Type 0
AreShort entries = AllByRecursion (λ e. length (entry_text e) ≤ LINE_BYTES) entries

-- Where the source has a trace whose lines and bytes are within the limits, it is judged, and its verdict is put, unless memory runs out.
abbrev pub Completes : Option (List ℕ) → Option (List ℕ) → Option (List ℕ) → Status → Type 0
Completes source_before sink_before sink_after s =
    (entries : List Entry) → source_before ≡ Some (trace_text entries) → IsTrace entries → AreShort entries
    → IsWholeAudit entries sink_before sink_after s
