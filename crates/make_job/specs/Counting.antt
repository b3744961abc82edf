-- what a make counts in a trace, and the line that reports it
use Rattle.std.specs.Prelude.{ℕ, Bool, true, false, List, [], ◌∷◌, ◌+◌, if◌then◌else◌, count_by, codes}
use Rattle.std.specs.Fmt.{decimal}
use Rattle.xt_messages.specs.declared.event.Call.TheVariants as call
use Rattle.time_line.specs.declared.entry.Entry.{Entry}
use Rattle.time_line.specs.declared.entry.Entry.TheVariants as entry
use Rattle.schedule_text.specs.Words.{spaced}
use Rattle.schedule_lines.specs.NextLine.{ended}
use Rattle.make_job.specs.declared.counts.Counts.{Counts}

-- a call begins that is to write
abbrev pub begins_write : Entry → Bool
begins_write (entry.Begin client number (call.Write file object at bytes)) = true
begins_write _ = false

-- a call begins that is to read
abbrev pub begins_read : Entry → Bool
begins_read (entry.Begin client number (call.Read file object at len)) = true
begins_read _ = false

-- a majority has a write
abbrev pub commits : Entry → Bool
commits (entry.Commit node file count id) = true
commits _ = false

-- how many entries of a trace are of each of these kinds
abbrev pub counts_of : List Entry → Counts
counts_of entries =
    record { writes = count_by begins_write entries; reads = count_by begins_read entries; commits = count_by commits entries }

-- 1 where it is true, and else 0
abbrev pub one_if : Bool → ℕ
one_if so = if so then 1 else 0

-- the counts with one entry more
abbrev pub with_entry : Counts → Entry → Counts
with_entry counts e =
    record {
      writes = counts.writes + one_if (begins_write e);
      reads = counts.reads + one_if (begins_read e);
      commits = counts.commits + one_if (commits e);
    }

-- `make NUMBER SIZE writes W reads R commits C safe`
abbrev pub made_text : ℕ → ℕ → Counts → List ℕ
made_text number size counts =
    spaced (
    codes "make" ∷ decimal number ∷ decimal size
    ∷ codes "writes" ∷ decimal counts.writes
    ∷ codes "reads" ∷ decimal counts.reads
    ∷ codes "commits" ∷ decimal counts.commits
    ∷ codes "safe" ∷ []
    )

-- the same, with its line feed
abbrev pub made_line : ℕ → ℕ → Counts → List ℕ
made_line number size counts = ended (made_text number size counts)
