-- Examples of runs, with ample room, and with one where all that may be forgotten is.
use Rattle.std.specs.Prelude.{ℕ, Option, None, List, [], ◌∷◌, ◌++◌, map, nat_lt, ◌+◌, if◌then◌else◌, Some, Bool, true, false, count_by}
use Rattle.xt_base.specs.declared.ids.NodeId.{NodeId}
use Rattle.xt_base.specs.declared.ids.OpId.{OpId}
use Rattle.xt_messages.specs.declared.file.Kind.TheVariants as kind
use Rattle.xt_messages.specs.declared.file.Location.{Location}
use Rattle.xt_messages.specs.declared.event.Call.{Call}
use Rattle.xt_messages.specs.declared.event.Call.TheVariants as call
use Rattle.xt_messages.specs.declared.event.Outcome.TheVariants as outcome
use Rattle.xt_messages.specs.declared.message.Payload.{Payload}
use Rattle.xt_messages.specs.declared.message.Payload.TheVariants as payload
use Rattle.xt_messages.specs.declared.reply.Retry.TheVariants as retry
use Rattle.xt_messages.specs.declared.status.AskRefusal.TheVariants as ask_refusal
use Rattle.xt_messages.specs.declared.status.Rule.{Rule}
use Rattle.time_line.specs.declared.entry.Halt.TheVariants as halt
use Rattle.xt_protocol.specs.Stamps.{with_held}
use Rattle.xt_protocol.specs.Forgetting.{keep_of, osd_without, rewritten}
use Rattle.xt_protocol.specs.Folds.{logged_of, body_kept, digests_kept, fold_of, row_in, with_row}
use Rattle.xt_protocol.specs.Choice.{chosen_of, difference}
use Rattle.xt_protocol.specs.Writes.{standing}
use Rattle.xt_protocol.specs.ReplicaRows.{gathered, fetched_from, staged, headed, updated}
use Rattle.xt_protocol.specs.Primaries.{peer_in, with_peer, fed}
use Rattle.xt_protocol.specs.PrimaryRows.{draw_epoch, hears}
use Rattle.xt_protocol.specs.Serving.{reads, writes, wakes}
use Rattle.xt_protocol.specs.Asks.{serves_all}
use Rattle.xt_protocol.specs.Overdue.{expired}
use Rattle.xt_protocol.specs.AskRows.{refusal_of, handle_ask}
use Rattle.xt_protocol.specs.FileLeases.{read_comes, write_comes, answer_comes}
use Rattle.xt_protocol.specs.FileSteps.{step_of_file, wake_of_file}
use Rattle.xt_protocol.specs.OsdSteps.{file_at, with_file, each_file, step_of_osd}
use Rattle.time_line.specs.declared.line.Line.{Line}
use Rattle.time_line.specs.declared.line.Line.TheVariants as line
use Rattle.time_line.specs.declared.entry.Entry.{Entry}
use Rattle.time_line.specs.declared.entry.Entry.TheVariants as entry
use Rattle.xt_protocol.specs.StripedRows.{striped_refusal, handle_striped}
use Rattle.xt_protocol.specs.PlainRows.{plain_step}
use Rattle.client_rows.specs.Again.{again_of_client}
use Rattle.client_rows.specs.Clients.{outcome_in, call_of_client, step_of_client}
use Rattle.client_rows.specs.Rows.{called, called_again, stepped}
use Rattle.server_rows.specs.Metadata.{step_of_mrc}
use Rattle.server_rows.specs.Directory.{step_of_dir}
use Rattle.world_spec.specs.Tagging.{tags}
use Rattle.world_spec.specs.Digests.{digests}
use Rattle.world_spec.specs.World.{World, Deed, puts, node_in, with_node, file_in}
use Rattle.world_spec.specs.Rules.{refusal, first_stranger, least_where}
use Rattle.world_spec.specs.NodeSteps.{Room, event_comes}
use Rattle.world_spec.specs.Lines.{least_pending, first_step, next_step, steps, done}
use Rattle.world_spec.specs.Runs.{after, run_of}

-- there is always room, and nothing is forgotten
abbrev pub ample : Room
ample = record { overflow = λ past rec. None; rewrites_now = λ past keep. false; rewrites_idle = λ d id past keep. false }

-- there is always room, and all that may be forgotten is, after each record
abbrev pub eager : Room
eager = record { overflow = λ past rec. None; rewrites_now = λ past keep. true; rewrites_idle = λ d id past keep. false }

-- there is always room, and all that may be forgotten is, after each step, whether it puts a record or not
abbrev pub restless : Room
restless = record { overflow = λ past rec. None; rewrites_now = λ past keep. true; rewrites_idle = λ d id past keep. true }

-- how many records were put
abbrev pub is_put : Deed → Bool
is_put (puts rec) = true
is_put _ = false

-- there is room for so many records
abbrev pub room_for : ℕ → Room
room_for count = record {
  overflow = λ past rec. if nat_lt (count_by is_put past) count then None else Some (record { need = count_by is_put past + 1; limit = count });
  rewrites_now = λ past keep. false;
  rewrites_idle = λ d id past keep. false;
}

-- the world after these lines
unfoldable pub world_in : Room → List Line → World
unfolding tags digests run_of after refusal first_stranger least_where done steps next_step first_step least_pending event_comes node_in with_node file_in outcome_in called called_again stepped again_of_client call_of_client step_of_client step_of_mrc step_of_dir plain_step striped_refusal handle_striped step_of_osd step_of_file wake_of_file expired handle_ask refusal_of read_comes write_comes answer_comes serves_all draw_epoch hears reads writes wakes peer_in with_peer fed chosen_of difference gathered fetched_from staged headed updated standing file_at with_file each_file body_kept digests_kept fold_of logged_of row_in with_row with_held keep_of osd_without rewritten
world_in room lines = run_of room lines

-- the trace of these lines
unfoldable pub trace_in : Room → List Line → List Entry
unfolding world_in
trace_in room lines = (world_in room lines).entries

unfoldable pub trace_of : List Line → List Entry
unfolding trace_in
trace_of lines = trace_in ample lines

-- the rule that a line breaks after these
unfoldable pub rule_behind : List Line → Line → Option Rule
unfolding world_in refusal first_stranger least_where node_in file_in
rule_behind lines l = refusal (world_in ample lines) l

-- Words.

abbrev pub node : ℕ → NodeId
node id = record { 0 = id }

abbrev pub id_of : ℕ → ℕ → OpId
id_of client number = record { client = node client; number = number }

abbrev pub list_of : List ℕ → Location
list_of ids = record { version = 1; kind = kind.Replicated; stripe = 131072; members = map node ids }

abbrev pub trio : List ℕ
trio = 1 ∷ 2 ∷ 3 ∷ []

abbrev pub short_times : Line
short_times = line.Times 1000 100

abbrev pub osd_is : ℕ → Line
osd_is id = line.Osd (node id)

abbrev pub client_at : ℕ → ℕ → Line
client_at id clock = line.Client (node id) clock

abbrev pub start_at : ℕ → ℕ → Line
start_at id clock = line.Start (node id) clock

abbrev pub file_on : List ℕ → Line
file_on ids = line.File 1 (list_of ids)

abbrev pub read_byte : ℕ → Line
read_byte id = line.Call (node id) (call.Read 1 0 0 1)

abbrev pub write_at : ℕ → ℕ → List ℕ → Line
write_at id at bytes = line.Call (node id) (call.Write 1 0 at bytes)

abbrev pub is_up : ℕ → ℕ → ℕ → Entry
is_up id boot clock = entry.Up (node id) (record { 0 = boot }) clock

abbrev pub reads_byte : ℕ → ℕ → Entry
reads_byte id number = entry.Begin (node id) number (call.Read 1 0 0 1)

abbrev pub writes_at : ℕ → ℕ → ℕ → List ℕ → Entry
writes_at id number at bytes = entry.Begin (node id) number (call.Write 1 0 at bytes)

abbrev pub is_held : ℕ → ℕ → Entry
is_held id end = entry.Held (node id) 1 end

abbrev pub is_active : ℕ → ℕ → ℕ → ℕ → Entry
is_active id count client number = entry.Active (node id) 1 count (id_of client number)

abbrev pub is_issued : ℕ → ℕ → ℕ → ℕ → Entry
is_issued id count client number = entry.Issue (node id) 1 count (id_of client number)

abbrev pub is_committed : ℕ → ℕ → ℕ → ℕ → Entry
is_committed id count client number = entry.Commit (node id) 1 count (id_of client number)

abbrev pub is_answered : ℕ → ℕ → ℕ → ℕ → List ℕ → Entry
is_answered id client number count bytes = entry.Answer (node id) 1 (id_of client number) count bytes

abbrev pub is_done : ℕ → ℕ → ℕ → List ℕ → Entry
is_done id number count bytes = entry.Done (node id) number (outcome.Ok count bytes)

abbrev pub abc : List ℕ
abc = 97 ∷ 98 ∷ 99 ∷ []

-- One replica: a write takes the lease, gathers, becomes active, is issued and committed in one delivery; a read shows it.
abbrev pub alone : List Line
alone =
    short_times ∷ osd_is 1 ∷ client_at 10 0 ∷ start_at 1 0 ∷ file_on (1 ∷ []) ∷ line.Tick 1100
    ∷ write_at 10 0 abc ∷ line.Deliver 1 ∷ line.Deliver 2
    ∷ line.Call (node 10) (call.Read 1 0 0 3) ∷ line.Deliver 3 ∷ line.Deliver 4 ∷ []

abbrev pub alone_trace : List Entry
alone_trace =
    entry.Times 1000 100 ∷ is_up 10 1 0 ∷ is_up 1 1 0 ∷ entry.File 1 (list_of (1 ∷ [])) ∷ entry.Tick 1100
    ∷ writes_at 10 1 0 abc ∷ is_held 1 2100 ∷ is_active 1 0 0 0 ∷ is_issued 1 1 10 1 ∷ is_committed 1 1 10 1
    ∷ is_answered 1 10 1 1 [] ∷ is_done 10 1 1 []
    ∷ entry.Begin (node 10) 2 (call.Read 1 0 0 3) ∷ is_answered 1 10 2 1 abc ∷ is_done 10 2 1 abc ∷ []

-- There is no room for the promise: the round of the write is won, but the step that would report so isn't finished.
abbrev pub full : List Line
full =
    short_times ∷ osd_is 1 ∷ client_at 10 0 ∷ start_at 1 0 ∷ file_on (1 ∷ []) ∷ line.Tick 1100 ∷ write_at 10 0 abc ∷ line.Deliver 1 ∷ []

abbrev pub full_trace : List Entry
full_trace =
    entry.Times 1000 100 ∷ is_up 10 1 0 ∷ is_up 1 1 0 ∷ entry.File 1 (list_of (1 ∷ [])) ∷ entry.Tick 1100 ∷ writes_at 10 1 0 abc ∷ []

-- There is none for the update: the primary became active, and that is the last entry of the trace.
abbrev pub fuller_trace : List Entry
fuller_trace = full_trace ++ is_held 1 2100 ∷ is_active 1 0 0 0 ∷ is_issued 1 1 10 1 ∷ []

-- A client whose truncate epoch is old gets the present one, and uses it from then on.
abbrev pub taught : List Line
taught =
    short_times ∷ osd_is 1 ∷ client_at 10 0 ∷ client_at 11 0 ∷ start_at 1 0 ∷ file_on (1 ∷ []) ∷ line.Tick 1100
    ∷ line.Call (node 10) (call.Truncate 1 2 1) ∷ line.Settle 100 ∷ write_at 11 0 abc ∷ line.Settle 100 ∷ write_at 11 0 abc ∷ line.Settle 100 ∷ []

abbrev pub taught_trace : List Entry
taught_trace =
    entry.Times 1000 100 ∷ is_up 10 1 0 ∷ is_up 11 1 0 ∷ is_up 1 1 0 ∷ entry.File 1 (list_of (1 ∷ [])) ∷ entry.Tick 1100
    ∷ entry.Begin (node 10) 1 (call.Truncate 1 2 1) ∷ is_held 1 2100 ∷ is_active 1 0 0 0 ∷ is_issued 1 1 10 1 ∷ is_committed 1 1 10 1
    ∷ is_answered 1 10 1 1 [] ∷ is_done 10 1 1 []
    ∷ writes_at 11 1 0 abc ∷ entry.Done (node 11) 1 (outcome.Refused (ask_refusal.OldEpoch 1))
    ∷ writes_at 11 2 0 abc ∷ is_issued 1 2 11 2 ∷ is_committed 1 2 11 2 ∷ is_answered 1 11 2 2 [] ∷ is_done 11 2 2 [] ∷ []

-- three replicas and a client, at this clock
abbrev pub trio_at : ℕ → List Line
trio_at clock =
    short_times ∷ osd_is 1 ∷ osd_is 2 ∷ osd_is 3 ∷ client_at 10 clock ∷ start_at 1 clock ∷ start_at 2 clock ∷ start_at 3 clock
    ∷ file_on trio ∷ line.Tick 1100 ∷ []

-- the entries of these lines
abbrev pub trio_opens : ℕ → List Entry
trio_opens clock =
    entry.Times 1000 100 ∷ is_up 10 1 clock ∷ is_up 1 1 clock ∷ is_up 2 1 clock ∷ is_up 3 1 clock
    ∷ entry.File 1 (list_of trio) ∷ entry.Tick 1100 ∷ []

-- The edge of a turn: one millisecond before the drift before the end a read is answered, and then no longer.
abbrev pub turns_edge : List Line
turns_edge =
    trio_at 3900
    ++ read_byte 10 ∷ line.Settle 100 ∷ line.Tick 899 ∷ read_byte 10 ∷ line.Settle 100 ∷ line.Tick 1 ∷ read_byte 10 ∷ line.Deliver 21 ∷ []

abbrev pub turns_edge_trace : List Entry
turns_edge_trace =
    trio_opens 3900
    ++ reads_byte 10 1 ∷ is_held 1 6000 ∷ is_active 1 0 0 0 ∷ is_answered 1 10 1 0 [] ∷ is_done 10 1 0 []
    ∷ entry.Tick 899 ∷ reads_byte 10 2 ∷ is_answered 1 10 2 0 [] ∷ is_done 10 2 0 [] ∷ entry.Tick 1 ∷ reads_byte 10 3 ∷ []

-- A boot is silent for the lease length and the drift, whatever the boot before it was.
abbrev pub silence : List Line
silence =
    short_times ∷ osd_is 1 ∷ client_at 10 3000 ∷ start_at 1 2950 ∷ line.Stop (node 1) ∷ start_at 1 3000 ∷ file_on (1 ∷ [])
    ∷ line.Tick 1099 ∷ read_byte 10 ∷ line.Deliver 1 ∷ line.Tick 1 ∷ line.Deliver 1 ∷ []

abbrev pub silence_trace : List Entry
silence_trace =
    entry.Times 1000 100 ∷ is_up 10 1 3000 ∷ is_up 1 1 2950 ∷ entry.Down (node 1) 2950 halt.Idle ∷ is_up 1 2 3000
    ∷ entry.File 1 (list_of (1 ∷ [])) ∷ entry.Tick 1099 ∷ reads_byte 10 1 ∷ entry.Tick 1
    ∷ is_held 1 5100 ∷ is_active 1 0 0 0 ∷ is_answered 1 10 1 0 [] ∷ []

-- Clocks that would be too far apart are refused.
abbrev pub drifting : List Line
drifting = short_times ∷ client_at 10 0 ∷ client_at 11 100 ∷ []

abbrev pub clock_set : Line
clock_set = line.Clock (node 11) 101

-- A write that comes again is answered again, also by a later boot.
abbrev pub repeats : List Line
repeats =
    trio_at 0
    ++ write_at 10 0 abc ∷ line.Settle 100 ∷ line.Deliver 1 ∷ line.Stop (node 1) ∷ start_at 1 1100 ∷ line.Tick 1100 ∷ line.Deliver 1 ∷ line.Settle 100 ∷ []

abbrev pub repeats_trace : List Entry
repeats_trace =
    trio_opens 0
    ++ writes_at 10 1 0 abc ∷ is_held 1 2100 ∷ is_active 1 0 0 0 ∷ is_issued 1 1 10 1 ∷ is_committed 1 1 10 1
    ∷ is_answered 1 10 1 1 [] ∷ is_done 10 1 1 [] ∷ is_answered 1 10 1 1 []
    ∷ entry.Down (node 1) 1100 halt.Idle ∷ is_up 1 2 1100 ∷ entry.Tick 1100
    ∷ is_held 1 3200 ∷ is_active 1 1 10 1 ∷ is_answered 1 10 1 1 [] ∷ []

-- a write is answered; another one is issued, and its primary stops
abbrev pub two_writes : List Line
two_writes =
    short_times ∷ osd_is 1 ∷ osd_is 2 ∷ osd_is 3 ∷ client_at 10 0 ∷ client_at 11 0 ∷ start_at 1 0 ∷ start_at 2 0 ∷ start_at 3 0
    ∷ file_on trio ∷ line.Tick 1100
    ∷ write_at 10 0 (97 ∷ []) ∷ line.Settle 100 ∷ write_at 10 0 (98 ∷ []) ∷ line.Deliver 23 ∷ line.Stop (node 1) ∷ []

abbrev pub two_writes_trace : List Entry
two_writes_trace =
    entry.Times 1000 100 ∷ is_up 10 1 0 ∷ is_up 11 1 0 ∷ is_up 1 1 0 ∷ is_up 2 1 0 ∷ is_up 3 1 0
    ∷ entry.File 1 (list_of trio) ∷ entry.Tick 1100
    ∷ writes_at 10 1 0 (97 ∷ []) ∷ is_held 1 2100 ∷ is_active 1 0 0 0 ∷ is_issued 1 1 10 1 ∷ is_committed 1 1 10 1
    ∷ is_answered 1 10 1 1 [] ∷ is_done 10 1 1 [] ∷ writes_at 10 2 0 (98 ∷ []) ∷ is_issued 1 2 10 2
    ∷ entry.Down (node 1) 1100 halt.Idle ∷ entry.Tick 1000 ∷ reads_byte 11 1 ∷ []

abbrev pub aims_at : ℕ → ℕ → Line
aims_at client id = line.Aim (node client) 1 (node id)

-- A write that reached the primary alone vanishes with it, and its late copies do nothing.
abbrev pub vanished : List Line
vanished =
    two_writes
    ++ line.Drop 24 ∷ line.Drop 25 ∷ line.Tick 1000 ∷ aims_at 11 2 ∷ read_byte 11 ∷ line.Settle 100
    ∷ line.Deliver 24 ∷ line.Deliver 25 ∷ read_byte 11 ∷ line.Settle 100 ∷ []

abbrev pub vanished_trace : List Entry
vanished_trace =
    two_writes_trace
    ++ is_held 2 3100 ∷ is_active 2 1 10 1 ∷ is_answered 2 11 1 1 (97 ∷ []) ∷ is_done 11 1 1 (97 ∷ [])
    ∷ reads_byte 11 2 ∷ is_answered 2 11 2 1 (97 ∷ []) ∷ is_done 11 2 1 (97 ∷ []) ∷ []

-- A write that another replica has is found by the next primary.
abbrev pub found : List Line
found =
    two_writes ++ line.Drop 24 ∷ line.Deliver 25 ∷ line.Tick 1000 ∷ aims_at 11 2 ∷ read_byte 11 ∷ line.Settle 100 ∷ []

abbrev pub found_trace : List Entry
found_trace =
    two_writes_trace
    ++ is_held 2 3100 ∷ is_active 2 2 10 2 ∷ is_answered 2 11 1 2 (98 ∷ []) ∷ is_done 11 1 2 (98 ∷ []) ∷ []

-- two members are silent, and the third is asked
abbrev pub silent_members : List Line
silent_members =
    trio_at 0 ++ read_byte 10 ∷ line.Drop 1 ∷ line.Tick 1000 ∷ line.Wake (node 10) ∷ line.Drop 2 ∷ line.Tick 1000 ∷ line.Wake (node 10) ∷ []

abbrev pub silent_members_trace : List Entry
silent_members_trace = trio_opens 0 ++ reads_byte 10 1 ∷ entry.Tick 1000 ∷ entry.Tick 1000 ∷ []

-- It answers; or it is silent too, and the call may be made again.
abbrev pub third_answers : List Line
third_answers = silent_members ++ line.Settle 100 ∷ []

abbrev pub third_answers_trace : List Entry
third_answers_trace =
    silent_members_trace ++ is_held 3 4100 ∷ is_active 3 0 0 0 ∷ is_answered 3 10 1 0 [] ∷ is_done 10 1 0 [] ∷ []

abbrev pub none_answers : List Line
none_answers = silent_members ++ line.Drop 3 ∷ line.Tick 1000 ∷ line.Wake (node 10) ∷ []

abbrev pub none_answers_trace : List Entry
none_answers_trace =
    silent_members_trace
    ++ entry.Tick 1000
    ∷ entry.Done (node 10) 1
    (outcome.Retry
    (record { node = node 1; outcome = retry.Silent } ∷ record { node = node 2; outcome = retry.Silent }
    ∷ record { node = node 3; outcome = retry.Silent } ∷ []))
    ∷ []

-- That call is made again, under its number and with no second begin, and then answered. A call that ended so can't be made again.
abbrev pub made_again : List Line
made_again = none_answers ++ line.Again (node 10) ∷ line.Settle 100 ∷ []

abbrev pub made_again_trace : List Entry
made_again_trace =
    none_answers_trace ++ is_held 1 5100 ∷ is_active 1 0 0 0 ∷ is_answered 1 10 1 0 [] ∷ is_done 10 1 0 [] ∷ []

abbrev pub goes_again : Line
goes_again = line.Again (node 10)

-- ---- striped files

abbrev pub striped_on : ℕ → List ℕ → Location
striped_on stripe ids = record { version = 1; kind = kind.Striped; stripe = stripe; members = map node ids }

abbrev pub settled : Line
settled = line.Settle 10

abbrev pub calls_settled : Call → List Line
calls_settled c = line.Call (node 10) c ∷ settled ∷ []

-- Each object lies on its owner. A read is cut by all that the client learnt of the file's size: object 0 was never written, yet the
-- file is longer.
abbrev pub two_stripes : List Line
two_stripes =
    short_times ∷ osd_is 1 ∷ osd_is 2 ∷ client_at 10 0 ∷ start_at 1 0 ∷ start_at 2 0 ∷ line.File 1 (striped_on 1024 (1 ∷ 2 ∷ [])) ∷ line.Tick 1100 ∷ []

abbrev pub striped : List Line
striped =
    two_stripes ++ calls_settled (call.Write 1 1 0 (97 ∷ [])) ++ calls_settled (call.Read 1 1 0 1) ++ calls_settled (call.Read 1 0 0 1)

abbrev pub two_stripes_trace : List Entry
two_stripes_trace =
    entry.Times 1000 100 ∷ is_up 10 1 0 ∷ is_up 1 1 0 ∷ is_up 2 1 0 ∷ entry.File 1 (striped_on 1024 (1 ∷ 2 ∷ [])) ∷ entry.Tick 1100 ∷ []

abbrev pub striped_trace : List Entry
striped_trace =
    two_stripes_trace
    ++ entry.Begin (node 10) 1 (call.Write 1 1 0 (97 ∷ [])) ∷ is_done 10 1 1 []
    ∷ entry.Begin (node 10) 2 (call.Read 1 1 0 1) ∷ is_done 10 2 1 (97 ∷ [])
    ∷ entry.Begin (node 10) 3 (call.Read 1 0 0 1) ∷ is_done 10 3 0 (0 ∷ []) ∷ []

-- A truncation goes through the members one by one, and ends with the last one's answer. Where one has stopped it ends as one that
-- may be made again, and is then made once more from the first member on.
abbrev pub cut_short : List Line
cut_short =
    two_stripes ++ calls_settled (call.Write 1 1 0 (97 ∷ []))
    ++ line.Stop (node 2) ∷ line.Call (node 10) (call.Truncate 1 512 1) ∷ settled ∷ line.Tick 1000 ∷ line.Wake (node 10)
    ∷ start_at 2 2100 ∷ line.Tick 1100 ∷ line.Again (node 10) ∷ settled ∷ calls_settled (call.Read 1 1 0 1) ++ calls_settled (call.Read 1 0 511 2)

abbrev pub cut_short_trace : List Entry
cut_short_trace =
    two_stripes_trace
    ++ entry.Begin (node 10) 1 (call.Write 1 1 0 (97 ∷ [])) ∷ is_done 10 1 1 []
    ∷ entry.Down (node 2) 1100 halt.Idle ∷ entry.Begin (node 10) 2 (call.Truncate 1 512 1) ∷ entry.Tick 1000
    ∷ entry.Done (node 10) 2 (outcome.Retry (record { node = node 2; outcome = retry.Silent } ∷ []))
    ∷ is_up 2 2 2100 ∷ entry.Tick 1100 ∷ is_done 10 2 2 []
    ∷ entry.Begin (node 10) 3 (call.Read 1 1 0 1) ∷ is_done 10 3 2 []
    ∷ entry.Begin (node 10) 4 (call.Read 1 0 511 2) ∷ is_done 10 4 1 (0 ∷ []) ∷ []

-- ---- with a room that forgets after each record

-- a write of file 2
abbrev pub writes_second : ℕ → Line
writes_second id = line.Call (node id) (call.Write 2 0 0 (122 ∷ []))

-- OSD 3 is fed the body of a write, and starts again before its head comes: no record since that start says that the body is
-- needed. A write of another file has it forgotten. So the head that comes late finds it missing, the body is staged again, and OSD
-- 3 counts for the next write, when OSD 2 has stopped.
abbrev pub fed_again : List Line
fed_again =
    short_times ∷ osd_is 1 ∷ osd_is 2 ∷ osd_is 3 ∷ client_at 10 0 ∷ start_at 1 0 ∷ start_at 2 0 ∷ start_at 3 0
    ∷ file_on trio ∷ line.File 2 (list_of trio) ∷ line.Tick 1100 ∷ write_at 10 0 (97 ∷ [])
    ∷ line.Deliver 1 ∷ line.Deliver 2 ∷ line.Drop 3 ∷ line.Deliver 4 ∷ line.Deliver 5 ∷ line.Deliver 6 ∷ line.Deliver 7 ∷ line.Drop 8
    ∷ line.Deliver 9 ∷ line.Deliver 10 ∷ line.Deliver 11 ∷ line.Deliver 12 ∷ line.Deliver 13 ∷ line.Deliver 14
    ∷ line.Wake (node 1) ∷ line.Deliver 15 ∷ line.Deliver 16 ∷ line.Deliver 17 ∷ line.Deliver 18 ∷ line.Drop 19
    ∷ line.Stop (node 3) ∷ start_at 3 1100 ∷ line.Tick 500 ∷ line.Wake (node 1) ∷ line.Settle 100
    ∷ line.Tick 600 ∷ writes_second 10 ∷ line.Settle 100
    ∷ line.Deliver 19 ∷ line.Settle 100 ∷ line.Stop (node 2) ∷ write_at 10 1 (98 ∷ []) ∷ line.Settle 100 ∷ []

abbrev pub fed_again_trace : List Entry
fed_again_trace =
    entry.Times 1000 100 ∷ is_up 10 1 0 ∷ is_up 1 1 0 ∷ is_up 2 1 0 ∷ is_up 3 1 0
    ∷ entry.File 1 (list_of trio) ∷ entry.File 2 (list_of trio) ∷ entry.Tick 1100
    ∷ writes_at 10 1 0 (97 ∷ []) ∷ is_held 1 2100 ∷ is_active 1 0 0 0 ∷ is_issued 1 1 10 1 ∷ is_committed 1 1 10 1
    ∷ is_answered 1 10 1 1 [] ∷ is_done 10 1 1 []
    ∷ entry.Down (node 3) 1100 halt.Idle ∷ is_up 3 2 1100 ∷ entry.Tick 500 ∷ is_held 1 2600 ∷ entry.Tick 600
    ∷ entry.Begin (node 10) 2 (call.Write 2 0 0 (122 ∷ [])) ∷ entry.Held (node 1) 2 3200 ∷ entry.Active (node 1) 2 0 (id_of 0 0)
    ∷ entry.Issue (node 1) 2 1 (id_of 10 2) ∷ entry.Commit (node 1) 2 1 (id_of 10 2) ∷ entry.Answer (node 1) 2 (id_of 10 2) 1 [] ∷ is_done 10 2 1 []
    ∷ entry.Down (node 2) 2200 halt.Idle
    ∷ writes_at 10 3 1 (98 ∷ []) ∷ is_issued 1 2 10 3 ∷ is_committed 1 2 10 3 ∷ is_answered 1 10 3 2 [] ∷ is_done 10 3 2 [] ∷ []

-- The same without that write. OSD 3 puts no record between its start and the head that comes late, so the body is forgotten only
-- where an OSD forgets after a step that puts none.
abbrev pub fed_later : List Line
fed_later =
    short_times ∷ osd_is 1 ∷ osd_is 2 ∷ osd_is 3 ∷ client_at 10 0 ∷ start_at 1 0 ∷ start_at 2 0 ∷ start_at 3 0
    ∷ file_on trio ∷ line.Tick 1100 ∷ write_at 10 0 (97 ∷ [])
    ∷ line.Deliver 1 ∷ line.Deliver 2 ∷ line.Drop 3 ∷ line.Deliver 4 ∷ line.Deliver 5 ∷ line.Deliver 6 ∷ line.Deliver 7 ∷ line.Drop 8
    ∷ line.Deliver 9 ∷ line.Deliver 10 ∷ line.Deliver 11 ∷ line.Deliver 12 ∷ line.Deliver 13 ∷ line.Deliver 14
    ∷ line.Wake (node 1) ∷ line.Deliver 15 ∷ line.Deliver 16 ∷ line.Deliver 17 ∷ line.Deliver 18 ∷ line.Drop 19
    ∷ line.Stop (node 3) ∷ start_at 3 1100 ∷ line.Tick 500 ∷ line.Wake (node 1) ∷ line.Settle 100
    ∷ line.Tick 600 ∷ line.Wake (node 3)
    ∷ line.Deliver 19 ∷ line.Settle 100 ∷ line.Stop (node 2) ∷ write_at 10 1 (98 ∷ []) ∷ line.Settle 100 ∷ []

abbrev pub fed_later_trace : List Entry
fed_later_trace =
    entry.Times 1000 100 ∷ is_up 10 1 0 ∷ is_up 1 1 0 ∷ is_up 2 1 0 ∷ is_up 3 1 0
    ∷ entry.File 1 (list_of trio) ∷ entry.Tick 1100
    ∷ writes_at 10 1 0 (97 ∷ []) ∷ is_held 1 2100 ∷ is_active 1 0 0 0 ∷ is_issued 1 1 10 1 ∷ is_committed 1 1 10 1
    ∷ is_answered 1 10 1 1 [] ∷ is_done 10 1 1 []
    ∷ entry.Down (node 3) 1100 halt.Idle ∷ is_up 3 2 1100 ∷ entry.Tick 500 ∷ is_held 1 2600 ∷ entry.Tick 600
    ∷ entry.Down (node 2) 2200 halt.Idle
    ∷ writes_at 10 2 1 (98 ∷ []) ∷ is_issued 1 2 10 2 ∷ is_committed 1 2 10 2 ∷ is_answered 1 10 2 2 [] ∷ is_done 10 2 2 [] ∷ []

-- how many messages of these lines report that a body is missing
abbrev pub tells_missing : Payload → Bool
tells_missing (payload.Missing file epoch object version) = true
tells_missing _ = false

unfoldable pub missing_in : Room → List Line → ℕ
unfolding world_in
missing_in room lines = count_by (λ s. tells_missing s.message.payload) (world_in room lines).sent

-- The holder changes, and changes back. Each time the new one has drawn an epoch and sent itself its own head, and its records
-- are rewritten before it counts that.
abbrev pub held_in_turn : List Line
held_in_turn =
    trio_at 0
    ++ write_at 10 0 (97 ∷ []) ∷ line.Settle 100 ∷ line.Tick 1100 ∷ aims_at 10 2 ∷ write_at 10 0 (98 ∷ []) ∷ line.Settle 100
    ∷ line.Tick 1100 ∷ aims_at 10 1 ∷ read_byte 10 ∷ line.Settle 100 ∷ []

abbrev pub held_in_turn_trace : List Entry
held_in_turn_trace =
    trio_opens 0
    ++ writes_at 10 1 0 (97 ∷ []) ∷ is_held 1 2100 ∷ is_active 1 0 0 0 ∷ is_issued 1 1 10 1 ∷ is_committed 1 1 10 1
    ∷ is_answered 1 10 1 1 [] ∷ is_done 10 1 1 [] ∷ entry.Tick 1100
    ∷ writes_at 10 2 0 (98 ∷ []) ∷ is_held 2 3200 ∷ is_active 2 1 10 1 ∷ is_issued 2 2 10 2 ∷ is_committed 2 2 10 2
    ∷ is_answered 2 10 2 2 [] ∷ is_done 10 2 2 [] ∷ entry.Tick 1100
    ∷ reads_byte 10 3 ∷ is_held 1 4300 ∷ is_active 1 2 10 2 ∷ is_answered 1 10 3 2 (98 ∷ []) ∷ is_done 10 3 2 (98 ∷ []) ∷ []
