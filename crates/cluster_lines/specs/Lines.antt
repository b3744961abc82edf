-- the lines of a cluster: the client commands that its source names, one after the other
use Rattle.std.specs.Prelude.{ℕ, ◌≡◌, ◌<◌, ◌+◌, ◌⊎◌, Bool, true, false, Option, Some, None, List, [], ◌∷◌, ◌++◌, codes}
use Rattle.std.specs.Fmt.{decimal}
use Rattle.xt_messages.specs.declared.status.Limited.TheVariants as limited
use Rattle.xt_messages.specs.declared.status.Status.{Status}
use Rattle.xt_messages.specs.declared.status.Status.TheVariants as status
use Rattle.xt_messages.specs.StatusCode.{code_of}
use Rattle.node_links.specs.Streams.{Takes, IsAtEnd, Puts}
use Rattle.time_line.specs.declared.TheConstants.{LINES, LINE_BYTES}
use Rattle.schedule_lines.specs.declared.reading.RawLine.{RawLine}
use Rattle.schedule_lines.specs.declared.reading.RawLine.TheVariants as raw
use Rattle.schedule_lines.specs.RawLine.{IsRawLine}
use Rattle.schedule_lines.specs.Putting.{IsPut}
use Rattle.schedule_lines.specs.Causes.{CausesPut}
use Rattle.client_loop.specs.Carrying.{Around}
use Rattle.command_words.specs.declared.job.ClientJob.{ClientJob}
use Rattle.command_words.specs.declared.job.Defaults.{Defaults}
use Rattle.asked_jobs.specs.Lines.{line_job}
use Rattle.client_jobs.specs.declared.session.CommandSession.{CommandSession}
use Rattle.client_jobs.specs.Running.{Counts, HasWhy, Closes}
use Rattle.client_jobs.specs.Lines.{IsLine}

-- How all stands between two lines: the session, what is around it, what the source has left and the sink holds, how often the link, the
-- clock and the source have failed, and how often the sink.
pub record Situation : Type 0 where
  pub session : CommandSession
  pub around : Around
  pub left : Option (List ℕ)
  pub held : Option (List ℕ)
  pub counts : Counts
  pub sink : ℕ

-- the session and what is around it weren't used
pub record IsUnused (s later : Situation) : Type 0 where
  pub session : later.session ≡ s.session
  pub around : later.around ≡ s.around

-- ---- one line

-- The command that is asked for by what was taken as a line. What the source ends within asks for none.
abbrev pub asked_by : Defaults → RawLine → List ℕ → Option ClientJob
asked_by cluster raw.Whole text = line_job cluster text
asked_by cluster _ text = None

-- a line, or what the source ends within
abbrev pub IsText : RawLine → Type 0
IsText raw.Whole = Unit {0}
IsText raw.Unended = Unit {0}
IsText _ = ⊥

-- only the last line of a status is put
pub record OnlyTells (why : Status) (s later : Situation) (ended : Status) : Type 0 where
  pub closes : Closes s.held later.held s.sink later.sink why ended
  pub unused : IsUnused s later
  pub counts : later.counts ≡ s.counts

-- What is done of a command that is asked for, or where none is.
abbrev pub IsAnswered : Option ClientJob → Situation → Situation → Status → Type 0
IsAnswered None s later ended = OnlyTells status.Usage s later ended
IsAnswered (Some job) s later ended =
    IsLine job s.session later.session s.around later.around s.held later.held s.sink later.sink s.counts later.counts ended

-- A line was taken, and what it asks for was done: this is the status with which it ended.
pub record IsRun (cluster : Defaults) (s later : Situation) (ended : Status) : Type 0 where
  pub kind : RawLine
  pub text : List ℕ
  pub is : IsText kind
  pub taken : IsRawLine s.left later.left text kind
  pub sound : later.counts.source ≡ s.counts.source
  pub answered : IsAnswered (asked_by cluster kind text) s later ended

-- The status of a line that ends the cluster: the link, the sink or the clock failed, or the turns are spent, or memory ran out.
abbrev pub ends_cluster : Status → Bool
ends_cluster (status.LinkFault count) = true
ends_cluster (status.SinkFault count) = true
ends_cluster (status.ClockFault count) = true
ends_cluster (status.TurnsSpent turns) = true
ends_cluster status.OutOfMemory = true
ends_cluster _ = false

-- what is put after what a line wrote
abbrev pub code_line : Status → List ℕ
code_line ended = codes "= " ++ decimal (code_of ended) ++ 10 ∷ []

-- The line is done: it was run, its status doesn't end the cluster, and its code was put.
pub record IsDone (cluster : Defaults) (s later : Situation) : Type 0 where
  pub said : Status
  pub ran : Situation
  pub run : IsRun cluster s ran said
  pub goes_on : ends_cluster said ≡ false
  pub puts : Puts ran.held later.held (code_line said)
  pub rest : later ≡ record ran { held = later.held }

-- why the lines end in one of them
pub data IsCut (cluster : Defaults) (s : Situation) : Situation → Status → Type 0 where
  -- memory ran out over its words
  unread : (later : Situation) (ended : Status) (text : List ℕ) → IsRawLine s.left later.left text raw.Whole
      → OnlyTells status.OutOfMemory s later ended → IsCut cluster s later ended
  -- its status ends the cluster
  ends : (later : Situation) (ended : Status) → IsRun cluster s later ended → ends_cluster ended ≡ true → IsCut cluster s later ended
  -- the sink failed over its code, or memory ran out
  untold : (ran : Situation) (said ended : Status) (held : Option (List ℕ)) (sink : ℕ) → IsRun cluster s ran said → ends_cluster said ≡ false
      → IsPut ran.held held (code_line said) (Some ended) → CausesPut ran.sink sink (Some ended)
      → IsCut cluster s (record ran { held = held; sink = sink }) ended

-- ---- lines

-- So many lines were done, one after the other, each where the one before it left all.
pub data Lines (cluster : Defaults) (start : Situation) : ℕ → Situation → Type 0 where
  begun : Lines cluster start 0 start
  more : (count : ℕ) (s later : Situation) → Lines cluster start count s → count < LINES → IsDone cluster s later → Lines cluster start (count + 1) later

-- Why no line is taken after so many, where the source isn't at its end: it failed, a line is too long, there is one line too many, or
-- memory ran out.
abbrev pub StopsLines : ℕ → Option (List ℕ) → Option (List ℕ) → Status → Type 0
StopsLines count left later (status.SourceFault times) =
    (count < LINES) × ((text : List ℕ) × IsRawLine left later text raw.Failed) ⊎ (count ≡ LINES) × (later ≡ left)
StopsLines count left later (status.Limit limited.Line limit) =
    (count < LINES) × (limit ≡ LINE_BYTES) × ((text : List ℕ) × IsRawLine left later text raw.TooLong)
StopsLines count left later (status.Limit limited.Lines limit) =
    (count ≡ LINES) × (limit ≡ LINES) × ((byte : ℕ) × Takes left later (byte ∷ []))
StopsLines count left later status.OutOfMemory = (count < LINES) × ((taken : List ℕ) × Takes left later taken)
StopsLines count left later _ = ⊥

-- No line is taken, and the last line of the reason is put.
pub record IsStopped (count : ℕ) (s later : Situation) (ended : Status) : Type 0 where
  pub why : Status
  pub stops : StopsLines count s.left later.left why
  pub cause : HasWhy s.counts later.counts why
  pub closes : Closes s.held later.held s.sink later.sink why ended
  pub unused : IsUnused s later

-- How the lines end after so many of them.
pub data EndsLines (cluster : Defaults) (count : ℕ) (s : Situation) : Situation → Status → Type 0 where
  -- the source is at its end
  over : (left : Option (List ℕ)) → IsAtEnd s.left → Takes s.left left [] → EndsLines cluster count s (record s { left = left }) status.Done
  -- the source ended within the last line
  last : (later : Situation) → count < LINES → IsDone cluster s later → IsAtEnd later.left → EndsLines cluster count s later status.Done
  cut : (later : Situation) (ended : Status) → count < LINES → IsCut cluster s later ended → EndsLines cluster count s later ended
  stopped : (later : Situation) (ended : Status) → IsStopped count s later ended → EndsLines cluster count s later ended

-- The lines of a source: so many were done, and then they ended so.
pub record AreLines (cluster : Defaults) (start end : Situation) (ended : Status) : Type 0 where
  pub count : ℕ
  pub s : Situation
  pub lines : Lines cluster start count s
  pub ends : EndsLines cluster count s end ended

-- ---- what each step of the code does

-- what becomes of a line that was taken: it is done, or the lines end in it
abbrev pub IsRunTo : Defaults → Situation → Situation → Option Status → Type 0
IsRunTo cluster s later None = IsDone cluster s later
IsRunTo cluster s later (Some ended) = IsCut cluster s later ended

-- one line more, after so many; or the end
abbrev pub IsStep : Defaults → ℕ → Situation → Situation → Option Status → Type 0
IsStep cluster count s later None = IsDone cluster s later
IsStep cluster count s later (Some ended) = EndsLines cluster count s later ended
