-- The verdict on a file by fewer entries: those that are dealt to it, each with its number in the trace.
use Rattle.std.specs.Prelude.{ℕ, Bool, true, false, ◌||◌, ◌==◌, ◌≡◌, ◌+◌, if◌then◌else◌, Option, Some, None, List, [], ◌∷◌}
use Rattle.std.specs.Option.{option_or}
use Rattle.xt_base.specs.declared.ids.OpId.{OpId}
use Rattle.xt_messages.specs.declared.event.Call.{Call}
use Rattle.xt_messages.specs.declared.event.Call.TheVariants as call
use Rattle.time_line.specs.declared.entry.Entry.{Entry}
use Rattle.time_line.specs.declared.entry.Entry.TheVariants as entry
use Rattle.time_line.specs.TimeLine.{id_of, begun, advances, location_told, is_replicated, stripe_of, times_of}
use Rattle.time_line.specs.Verdicts.{Break}
use Rattle.judging.specs.Pass.{Kept, nothing, after, is_told, least_broken, break_at, judged}

-- the file on whose content a call is, if it is on one
abbrev pub file_called : Option Call → Option ℕ
file_called (Some (call.Read f object at len)) = Some f
file_called (Some (call.Write f object at bytes)) = Some f
file_called (Some (call.Truncate f size epoch)) = Some f
file_called _ = None

-- The file of an entry, where `calls` are those of the whole trace: the file that it names, or that of the call which begins or ends by it. Of two
-- calls with one id the first counts, also for what stands before it.
abbrev pub file_of : (OpId → Option Call) → Entry → Option ℕ
file_of calls (entry.File number location) = Some number
file_of calls (entry.Begin client number c) = file_called (calls (id_of client number))
file_of calls (entry.Held node f end) = Some f
file_of calls (entry.Active node f count id) = Some f
file_of calls (entry.Issue node f count id) = Some f
file_of calls (entry.Commit node f count id) = Some f
file_of calls (entry.Answer node f id count bytes) = Some f
file_of calls (entry.Done client number ended) = file_called (calls (id_of client number))
file_of calls _ = None

-- whether the entry is of every file: a node starts or stops, or its clock is set
abbrev pub is_common : Entry → Bool
is_common (entry.Clock node clock) = true
is_common (entry.Up node boot clock) = true
is_common (entry.Down node clock how) = true
is_common _ = false

abbrev pub is_file : ℕ → Option ℕ → Bool
is_file file None = false
is_file file (Some f) = f == file

-- whether the entry is dealt to the file
abbrev pub is_dealt : ℕ → (OpId → Option Call) → Entry → Bool
is_dealt file calls e = is_common e || is_file file (file_of calls e)

-- how far the running clocks advance by an entry
abbrev pub ticks_of : Entry → ℕ
ticks_of (entry.Tick count) = count
ticks_of _ = 0

-- An entry that is dealt to a file: its number in the trace, counted from 1, and how far the running clocks have advanced since the one before it that
-- is dealt, or since the start.
pub record Dealt : Type 0 where
  pub number : ℕ
  pub ticks : ℕ
  pub entry : Entry

-- those of these entries that are dealt, after so many others, where the clocks have advanced so far since the last one dealt
unfoldable pub dealt : (Entry → Bool) → ℕ → ℕ → List Entry → List Dealt
dealt test ticks count [] = []
dealt test ticks count (e ∷ es) =
    if test e then (let d : Dealt = record { number = count + 1; ticks = ticks; entry = e } in d) ∷ dealt test 0 (count + 1) es
    else dealt test (ticks + ticks_of e) (count + 1) es

abbrev pub dealt_to : ℕ → List Entry → List Dealt
dealt_to file entries = dealt (is_dealt file (λ id. begun id entries)) 0 0 entries

-- what is kept when the running clocks have advanced so far
abbrev pub advanced : ℕ → Kept → Kept
advanced ticks k = record k { stands = λ node. advances ticks (k.stands node) }

-- Where the file is broken by one of the entries dealt to it, after others of which this is kept. Nothing counts as broken before its place
-- is reported.
unfoldable pub found_from : ℕ → ℕ → ℕ → Kept → Bool → List Dealt → Option Break
found_from drift stripe file k placed [] = None
found_from drift stripe file k placed (d ∷ ds) =
    option_or (break_at (placed || is_told (location_told file d.entry)) (least_broken (after drift stripe file (advanced d.ticks k) d.entry).says) d.number)
    (found_from drift stripe file (after drift stripe file (advanced d.ticks k) d.entry) (placed || is_told (location_told file d.entry)) ds)

-- The verdict on a file by the entries that are dealt to it.
unfoldable pub judged_by_dealt : ℕ → List Entry → Option Break
judged_by_dealt file entries =
    if is_replicated file entries then found_from (times_of entries).drift (stripe_of file entries) file nothing false (dealt_to file entries) else None

-- It is the verdict by all entries.
abbrev pub DealtJudge : Type 0
DealtJudge = (file : ℕ) (entries : List Entry) → judged_by_dealt file entries ≡ judged file entries
