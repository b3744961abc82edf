-- what a client does, row by row: its calls on replicated files are those of `world_spec`, and beside them it has one call at
-- a time on a striped file, to the metadata server or to the directory service
use Rattle.std.specs.Prelude.{ℕ, Bool, true, false, nat_lt, ◌+◌, max, if◌then◌else◌, Option, Some, None, List, [], ◌∷◌}
use Rattle.xt_base.specs.TimeSettings.{TimeSettings}
use Rattle.xt_base.specs.declared.ids.NodeId.{NodeId}
use Rattle.xt_base.specs.declared.ids.SizeMark.{SizeMark}
use Rattle.xt_messages.specs.declared.reply.Reply.{Reply}
use Rattle.xt_messages.specs.declared.reply.Reply.TheVariants as reply
use Rattle.xt_messages.specs.declared.message.Payload.{Payload}
use Rattle.xt_messages.specs.declared.message.Payload.TheVariants as payload
use Rattle.xt_messages.specs.declared.event.Call.{Call}
use Rattle.xt_messages.specs.declared.event.Event.{Event}
use Rattle.xt_messages.specs.declared.event.Event.TheVariants as event
use Rattle.xt_messages.specs.declared.event.Mark.{Mark}
use Rattle.xt_messages.specs.declared.event.Mark.TheVariants as mark
use Rattle.xt_messages.specs.declared.message.Msg.{Msg}
use Rattle.xt_messages.specs.declared.event.Outcome.{Outcome}
use Rattle.xt_messages.specs.declared.event.Outcome.TheVariants as outcome
use Rattle.xt_base.specs.declared.TheConstants.{COUNTS}
use Rattle.xt_protocol.specs.Turns.{sends}
use Rattle.xt_protocol.specs.declared.turned.Turned.{Turned}
use Rattle.client_rows.specs.declared.ClientState.{ClientState}
use Rattle.client_rows.specs.Steps.{Step, stays}
use Rattle.client_rows.specs.Clients.{ClientSite, call_of_client, step_of_client, knows, raised}
use Rattle.client_rows.specs.Ends.{ended_by}
use Rattle.client_rows.specs.Again.{again_of_client}
use Rattle.client_rows.specs.declared.progress.Learnt.{Learnt}
use Rattle.client_rows.specs.declared.progress.Learnt.TheVariants as learnt
use Rattle.client_rows.specs.declared.progress.Next.{Next}
use Rattle.client_rows.specs.declared.progress.Next.TheVariants as next
use Rattle.client_rows.specs.declared.progress.Progress.{Progress}
use Rattle.client_rows.specs.declared.requests.Request.{Request}
use Rattle.client_rows.specs.declared.requests.Request.TheVariants as request
use Rattle.client_rows.specs.declared.requests.CallResult.{CallResult}
use Rattle.client_rows.specs.declared.requests.CallResult.TheVariants as result
use Rattle.client_rows.specs.declared.requests.Stage.{Stage}
use Rattle.client_rows.specs.declared.requests.Stage.TheVariants as stage
use Rattle.client_rows.specs.declared.requests.MadeCall.{MadeCall}
use Rattle.client_rows.specs.Holding.{Held, holds, joins, mark_with}
use Rattle.client_rows.specs.Requests.{request_of, file_of, first_asked, first_stage, asks, begins, outcome_of}
use Rattle.client_rows.specs.Waiting.{event_comes}

-- the state of a client: its calls on replicated files, with its clock and its next number; what it holds of files; and the call
-- that it made last
pub record WholeClient : Type 0 where
  pub replicas : ClientState
  pub held : Held
  pub made : Option MadeCall

-- at this clock, which it has used
abbrev pub at_clock : WholeClient → ℕ → WholeClient
at_clock client now = record client { replicas = record client.replicas { last = now } }

-- the clock that it goes by: the greater of a reading and the clock that it used last
abbrev pub clock_of : WholeClient → ℕ → ℕ
clock_of client reading = max reading client.replicas.last

abbrev pub site_of : NodeId → TimeSettings → WholeClient → ℕ → ClientSite
site_of node times client reading = record { node = node; times = times; now = clock_of client reading }

-- nothing comes of an event, but that the clock was used
abbrev pub passes : WholeClient → ℕ → Step WholeClient
passes client reading = stays WholeClient (at_clock client (clock_of client reading))

-- How far its last call is.

abbrev pub result_of : Stage → Option CallResult
result_of (stage.Ended r) = Some r
result_of _ = None

-- how its last call ended: nothing before the first call, and while it runs
abbrev pub result_in : Option MadeCall → Option CallResult
result_in None = None
result_in (Some made) = result_of made.stage

abbrev pub runs : Stage → Bool
runs (stage.Ended r) = false
runs _ = true

-- whether a call runs
abbrev pub is_busy : Option MadeCall → Bool
is_busy None = false
is_busy (Some made) = runs made.stage

abbrev pub is_retry : Option CallResult → Bool
is_retry (Some (result.Retry answers)) = true
is_retry _ = false

-- whether its last call ended as one that may be made again
abbrev pub may_repeat : Option MadeCall → Bool
may_repeat made = is_retry (result_in made)

-- Beside the replicated files, while a call waits.

-- how far a call is that goes on so; a node that is asked has until the deadline to answer
abbrev pub stage_after : ℕ → Stage → Next → Stage
stage_after deadline s next.Wait = s
stage_after deadline s (next.Ask target) = stage.Waiting target deadline
stage_after deadline s (next.End how) = stage.Ended how

-- what a call sends that goes on so, and its marks
abbrev pub sent : NodeId → MadeCall → Next → List Msg
sent node made (next.Ask target) = asks node made.number made.request target
sent node made _ = []

abbrev pub marks_of : MadeCall → Next → List Mark
marks_of made (next.End how) = mark.Done made.number (outcome_of how) ∷ []
marks_of made _ = []

abbrev pub given : NodeId → MadeCall → Next → Turned
given node made goes = record { rec = None; outs = sent node made goes; marks = marks_of made goes }

-- what is held once this is learnt: a mark is joined, and a capability that was granted is held
abbrev pub holds_learnt : Held → Learnt → Held
holds_learnt held (learnt.Mark file size) = joins held file size
holds_learnt held (learnt.Capability capability size) = holds held capability size
holds_learnt held _ = held

-- what is known of replicated files then: the truncate epoch of the file is at least the reported one
abbrev pub knows_learnt : ClientState → Learnt → ClientState
knows_learnt replicas (learnt.Epoch file epoch) = knows replicas file (raised epoch)
knows_learnt replicas _ = replicas

-- the call goes on so; a node that is asked has as long as a lease to answer
abbrev pub proceeds : ClientSite → WholeClient → MadeCall → Progress → Step WholeClient
proceeds site client made comes =
    record {
      state =
          record {
            replicas = knows_learnt client.replicas comes.learnt;
            held = holds_learnt client.held comes.learnt;
            made = Some (record made { stage = stage_after (site.now + site.times.lease) made.stage comes.next });
          };
      turned = given site.node made comes.next;
    }

-- an event while the call waits for the target until the deadline
abbrev pub waits : ClientSite → WholeClient → MadeCall → NodeId → ℕ → Event → Step WholeClient
waits site client made target deadline happens =
    proceeds site client made (event_comes site.now client.held made target deadline happens)

-- Replicated files.

-- the mark of an Ok that comes; with any other event, epoch 0 and size 0
abbrev pub mark_of : Reply → SizeMark
mark_of (reply.Ok count size bytes) = size
mark_of _ = record { epoch = 0; size = 0 }

abbrev pub mark_in : Payload → SizeMark
mark_in (payload.Reply number file content) = mark_of content
mark_in _ = record { epoch = 0; size = 0 }

abbrev pub mark_told : Event → SizeMark
mark_told (event.Deliver msg) = mark_in msg.payload
mark_told _ = record { epoch = 0; size = 0 }

-- how a call on a replicated file ended, by its outcome; the mark of an Ok is joined
abbrev pub result_behind : Held → ℕ → SizeMark → Outcome → Option CallResult
result_behind held file size (outcome.Ok count bytes) = Some (result.Ok count (mark_with held file size) bytes)
result_behind held file size (outcome.Retry answers) = Some (result.Retry answers)
result_behind held file size (outcome.Refused why) = Some (result.Refused why)
result_behind held file size _ = None

abbrev pub held_behind : Held → ℕ → SizeMark → Outcome → Held
held_behind held file size (outcome.Ok count bytes) = joins held file size
held_behind held file size _ = held

-- the call has ended so, if it has
abbrev pub ended_so : MadeCall → Option CallResult → MadeCall
ended_so made None = made
ended_so made (Some how) = record made { stage = stage.Ended how }

-- the state once its last call, which is on a replicated file, has ended so, if it has; the mark of an Ok is joined
abbrev pub behind : WholeClient → Option MadeCall → SizeMark → Option Outcome → WholeClient
behind client (Some made) size (Some how) =
    record client {
      held = held_behind client.held (file_of made.request) size how;
      made = Some (ended_so made (result_behind client.held (file_of made.request) size how));
    }
behind client _ size _ = client

-- a step of the call on a replicated file that runs
abbrev pub replicas_step : NodeId → TimeSettings → WholeClient → ℕ → Event → Step WholeClient
replicas_step node times client reading happens =
    let step = step_of_client node times client.replicas reading happens in
    record {
      state = behind (record client { replicas = step.state }) client.made (mark_told happens) (ended_by None step.turned.marks);
      turned = step.turned;
    }

-- The client.

-- a call that asks this takes the next number, is marked, and asks its first node
abbrev pub starts : NodeId → TimeSettings → ClientState → ℕ → Call → Request → Step ClientState
starts node times replicas reading c (request.Replicated capability asked) =
    call_of_client node times replicas reading capability c asked
starts node times replicas reading c asked =
    record {
      state = record replicas { last = max reading replicas.last; next = replicas.next + 1 };
      turned = begins node replicas.next c asked;
    }

-- a call that asks this asks its first node once more, under the number that it has
abbrev pub starts_again : NodeId → TimeSettings → ClientState → ℕ → ℕ → Request → Step ClientState
starts_again node times replicas reading number (request.Replicated capability asked) =
    again_of_client node times replicas reading number capability asked
starts_again node times replicas reading number asked =
    record { state = record replicas { last = max reading replicas.last }; turned = sends (asks node number asked (first_asked asked)) }

-- a call of this number that asks this starts so: it is the last call from now on, and a node that is asked has as long as a lease
-- to answer
abbrev pub has_started : TimeSettings → WholeClient → ℕ → ℕ → Request → Step ClientState → Step WholeClient
has_started times client reading number asked step =
    record {
      state =
          record client {
            replicas = step.state;
            made =
                Some (record { number = number; request = asked; stage = first_stage (clock_of client reading + times.lease) asked });
          };
      turned = step.turned;
    }

-- a call that asks this begins
abbrev pub request_begins : NodeId → TimeSettings → WholeClient → ℕ → Call → Request → Step WholeClient
request_begins node times client reading c asked =
    has_started times client reading client.replicas.next asked (starts node times client.replicas reading c asked)

abbrev pub asked_for : NodeId → TimeSettings → WholeClient → ℕ → Call → Option Request → Step WholeClient
asked_for node times client reading c None = passes client reading
asked_for node times client reading c (Some asked) = request_begins node times client reading c asked

-- A client makes a call. Without a number left nothing comes of it.
unfoldable pub called : NodeId → TimeSettings → WholeClient → ℕ → Call → Step WholeClient
called node times client reading c =
    if nat_lt client.replicas.next COUNTS then asked_for node times client reading c (request_of client.held c)
    else passes client reading

abbrev pub repeated : NodeId → TimeSettings → WholeClient → ℕ → Option MadeCall → Step WholeClient
repeated node times client reading None = passes client reading
repeated node times client reading (Some made) =
    has_started times client reading made.number made.request
    (starts_again node times client.replicas reading made.number made.request)

-- The last call is made again, and no mark reports it.
unfoldable pub called_again : NodeId → TimeSettings → WholeClient → ℕ → Step WholeClient
called_again node times client reading = repeated node times client reading client.made

abbrev pub goes_on : NodeId → TimeSettings → WholeClient → ℕ → Event → MadeCall → Stage → Step WholeClient
goes_on node times client reading happens made stage.OnReplicas = replicas_step node times client reading happens
goes_on node times client reading happens made (stage.Waiting target deadline) =
    waits (site_of node times client reading) (at_clock client (clock_of client reading)) made target deadline happens
goes_on node times client reading happens made (stage.Ended how) = passes client reading

abbrev pub goes_on_with : NodeId → TimeSettings → WholeClient → ℕ → Event → Option MadeCall → Step WholeClient
goes_on_with node times client reading happens None = passes client reading
goes_on_with node times client reading happens (Some made) = goes_on node times client reading happens made made.stage

-- The step of a client on an event.
unfoldable pub stepped : NodeId → TimeSettings → WholeClient → ℕ → Event → Step WholeClient
stepped node times client reading happens = goes_on_with node times client reading happens client.made
