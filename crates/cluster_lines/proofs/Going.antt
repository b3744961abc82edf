-- the lines of a cluster, one after the other
use Rattle.std.proofs.Common.{ℕ, ◌≡◌, ◌<◌, ap, sym, subst, false, Option, Some, None, MatchOption, List, [], ◌∷◌}
use Rattle.xt_messages.specs.declared.status.Status.{Status}
use Rattle.xt_messages.specs.declared.status.Status.TheVariants as status
use Rattle.node_links.specs.Streams.{Takes, IsAtEnd}
use Rattle.time_line.specs.declared.TheConstants.{LINES}
use Rattle.schedule_lines.specs.declared.reading.RawLine.{RawLine}
use Rattle.schedule_lines.specs.declared.reading.RawLine.TheVariants as raw
use Rattle.schedule_lines.specs.RawLine.{IsRawLine}
use Rattle.schedule_lines.specs.Putting.{IsPut}
use Rattle.schedule_lines.specs.Causes.{CausesPut}
use Rattle.command_words.specs.declared.job.ClientJob.{ClientJob}
use Rattle.command_words.specs.declared.job.Defaults.{Defaults}
use Rattle.cluster_lines.specs.Lines.{Situation, OnlyTells, IsText, IsAnswered, asked_by, IsRun, IsDone, IsCut, unread, untold, ends_cluster, code_line, IsRunTo, IsStep, EndsLines, over, last, cut, AreLines, Lines}

-- the bytes that were taken, as they are passed on
pub passed : (before later : Option (List ℕ)) (bytes text : List ℕ) (kind : RawLine) → text ≡ bytes → IsRawLine before later bytes kind
    → IsRawLine before later text kind
passed before later bytes text kind same taken = subst (λ (t : List ℕ). IsRawLine before later t kind) (sym same) taken

-- a line was run, which asks for this
pub was_run : (cluster : Defaults) (kind : RawLine) (text : List ℕ) (s later : Situation) (ended : Status) (asked : Option ClientJob) → IsText kind
    → IsRawLine s.left later.left text kind → later.counts.source ≡ s.counts.source → asked ≡ asked_by cluster kind text → IsAnswered asked s later ended
    → IsRun cluster s later ended
was_run cluster kind text s later ended asked is taken sound same answered =
    record {
      kind = kind;
      text = text;
      is = is;
      taken = taken;
      sound = sound;
      answered = subst (λ (o : Option ClientJob). IsAnswered o s later ended) same answered;
    }

-- memory ran out over the words of a line
pub unread_line : (cluster : Defaults) (kind : RawLine) (text : List ℕ) (s later : Situation) (ended : Status) → kind ≡ raw.Whole
    → IsRawLine s.left later.left text kind → OnlyTells status.OutOfMemory s later ended → IsCut cluster s later ended
unread_line cluster kind text s later ended whole taken tells =
    unread later ended text (subst (IsRawLine s.left later.left text) whole taken) tells

-- what comes of the putting of its code
pub told : (cluster : Defaults) (s ran : Situation) (said : Status) (held : Option (List ℕ)) (sink : ℕ) (failed : Option Status) → IsRun cluster s ran said
    → ends_cluster said ≡ false → IsPut ran.held held (code_line said) failed → CausesPut ran.sink sink failed
    → IsRunTo cluster s (record ran { held = held; sink = sink }) failed
told cluster s ran said held sink None run on put cause =
    record { said = said; ran = ran; run = run; goes_on = on; puts = put; rest = ap (λ (n : ℕ). record ran { held = held; sink = n }) cause }
told cluster s ran said held sink (Some failed) run on put cause = untold ran said failed held sink run on put cause

-- a step of the lines that runs one
pub step_of : (cluster : Defaults) (count : ℕ) (s later : Situation) (ended : Option Status) → count < LINES → IsRunTo cluster s later ended
    → IsStep cluster count s later ended
step_of cluster count s later None few runs = runs
step_of cluster count s later (Some ended) few runs = cut later ended few runs

-- the same, where the source's count was read again
abbrev recounted : Situation → ℕ → Situation
recounted s n = record s { counts = record s.counts { source = n } }

pub step_on : (cluster : Defaults) (count : ℕ) (s later : Situation) (n : ℕ) (ended : Option Status) → count < LINES → n ≡ later.counts.source
    → IsRunTo cluster s later ended → IsStep cluster count s (recounted later n) ended
step_on cluster count s later n ended few same runs =
    subst (λ (x : ℕ). IsStep cluster count s (recounted later x) ended) (sym same) (step_of cluster count s later ended few runs)

pub cut_on : (cluster : Defaults) (count : ℕ) (s later : Situation) (n : ℕ) (ended : Status) → count < LINES → n ≡ later.counts.source
    → IsCut cluster s later ended → EndsLines cluster count s (recounted later n) ended
cut_on cluster count s later n ended few same cuts =
    subst (λ (x : ℕ). EndsLines cluster count s (recounted later x) ended) (sym same) (cut later ended few cuts)

pub last_on : (cluster : Defaults) (count : ℕ) (s later : Situation) (n : ℕ) → count < LINES → n ≡ later.counts.source → IsDone cluster s later
    → IsAtEnd later.left → EndsLines cluster count s (recounted later n) status.Done
last_on cluster count s later n few same done ends =
    subst (λ (x : ℕ). EndsLines cluster count s (recounted later x) status.Done) (sym same) (last later few done ends)

pub over_on : (cluster : Defaults) (count : ℕ) (s : Situation) (left : Option (List ℕ)) (n : ℕ) → n ≡ s.counts.source → IsAtEnd s.left
    → Takes s.left left [] → EndsLines cluster count s (recounted (record s { left = left }) n) status.Done
over_on cluster count s left n same ends takes =
    subst (λ (x : ℕ). EndsLines cluster count s (recounted (record s { left = left }) x) status.Done) (sym same) (over left ends takes)

-- what was taken at the end
pub none_left : (before later : Option (List ℕ)) (found : Option ℕ) → found ≡ None
    → MatchOption found (IsAtEnd before × Takes before later []) (λ x. Takes before later (x ∷ [])) → IsAtEnd before × Takes before later []
none_left before later None is took = took
none_left before later (Some byte) is took = absurd (cc)

pub one_taken : (before later : Option (List ℕ)) (found : Option ℕ) (byte : ℕ) → found ≡ Some byte
    → MatchOption found (IsAtEnd before × Takes before later []) (λ x. Takes before later (x ∷ [])) → (x : ℕ) × Takes before later (x ∷ [])
one_taken before later None byte is took = absurd (cc)
one_taken before later (Some x) byte is took = (x, took)

-- as many lines as there may be
pub full : (cluster : Defaults) (start s end : Situation) (count : ℕ) (ended : Status) → count ≡ LINES → Lines cluster start count s
    → EndsLines cluster LINES s end ended → AreLines cluster start end ended
full cluster start s end count ended all lines ends =
    record { count = LINES; s = s; lines = subst (λ (n : ℕ). Lines cluster start n s) all lines; ends = ends }
