-- how the program ends, by what it took of its source and put into its sink
use Rattle.std.specs.Prelude.{ℕ, ◌≡◌, ◌<◌, ◌⊎◌, Option, List, [], length}
use Rattle.xt_messages.specs.declared.status.Limited.TheVariants as limited
use Rattle.xt_messages.specs.declared.status.Status.{Status}
use Rattle.xt_messages.specs.declared.status.Status.TheVariants as status
use Rattle.node_links.specs.Streams.{Takes, Puts}
use Rattle.schedule_lines.specs.Fronts.{PutsFront}
use Rattle.time_line.specs.declared.entry.Entry.{Entry}
use Rattle.trace_audit.specs.Audit.{IsWhole, IsReadTo}
use Rattle.trace_drawing.specs.declared.TheConstants.{ENTRIES, NODES}
use Rattle.trace_drawing.specs.declared.drawing.DrawErr.{DrawErr}
use Rattle.trace_drawing.specs.declared.drawing.DrawErr.TheVariants as draw_err
use Rattle.trace_shapes.specs.WellFormed.{IsDocument}
use Rattle.trace_picture.specs.declared.words.Asked.{Asked}
use Rattle.trace_picture.specs.Asked.{words_for, IsNothing}

-- why no picture is drawn
abbrev pub refusal_of : DrawErr → Status
refusal_of draw_err.TooManyEntries = status.Limit limited.Lines ENTRIES
refusal_of draw_err.TooManyNodes = status.Limit limited.Nodes NODES
refusal_of draw_err.OutOfMemory = status.OutOfMemory

-- what becomes of a whole trace
abbrev pub IsDrawn : List Entry → Option (List ℕ) → Option (List ℕ) → Status → Type 0
-- a document was put
IsDrawn entries held held_after status.Done = (text : List ℕ) × IsDocument text × Puts held held_after text
-- the sink failed after a front of it
IsDrawn entries held held_after (status.SinkFault count) = (text : List ℕ) × IsDocument text × PutsFront held held_after text
-- there are more entries than a picture may have
IsDrawn entries held held_after (status.Limit limited.Lines limit) = (ENTRIES < length entries) × (limit ≡ ENTRIES) × Puts held held_after []
-- there are more nodes than a picture may have
IsDrawn entries held held_after (status.Limit limited.Nodes limit) = (limit ≡ NODES) × Puts held held_after []
-- memory ran out
IsDrawn entries held held_after status.OutOfMemory = Puts held held_after []
-- nothing else comes of it
IsDrawn entries held held_after _ = ⊥

-- A picture was asked for: the whole source is a trace, which was drawn, or a line stopped the reading and nothing was put.
abbrev pub IsPictured : Option (List ℕ) → Option (List ℕ) → Option (List ℕ) → Option (List ℕ) → Status → Type 0
IsPictured old new held held_after s =
    ((entries : List Entry) × IsWhole old new entries × IsDrawn entries held held_after s)
    ⊎ (IsReadTo old new s × Puts held held_after [])

-- a run of the program with these words
abbrev pub IsRun : List (List ℕ) → Option (List ℕ) → Option (List ℕ) → Option (List ℕ) → Option (List ℕ) → Status → Type 0
-- the words ask for nothing, and nothing was taken or put
IsRun words old new held held_after status.Usage = IsNothing words × Takes old new [] × Puts held held_after []
IsRun words old new held held_after s = (asked : Asked) × (words ≡ words_for asked) × IsPictured old new held held_after s
