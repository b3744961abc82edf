-- a client alone, to which the answers of others come: what happens to it, and what is seen of it then
use Rattle.std.specs.Prelude.{ℕ, not, ◌≡◌, ◌==◌, if◌then◌else◌, Option, Some, None, List, [], ◌∷◌, length, map, scan, replicate, codes}
use Rattle.xt_base.specs.declared.TheConstants.{COUNTS}
use Rattle.xt_base.specs.declared.ids.NodeId.{NodeId}
use Rattle.xt_base.specs.declared.ids.SizeMark.{SizeMark}
use Rattle.xt_messages.specs.declared.file.Kind.TheVariants as kind
use Rattle.xt_messages.specs.declared.file.Kind.{Kind}
use Rattle.xt_messages.specs.declared.file.Capability.{Capability}
use Rattle.xt_messages.specs.declared.reply.Reply.{Reply}
use Rattle.xt_messages.specs.declared.reply.Reply.TheVariants as reply
use Rattle.xt_messages.specs.declared.reply.Retry.{Retry}
use Rattle.xt_messages.specs.declared.reply.Answered.{Answered}
use Rattle.xt_messages.specs.declared.status.AskRefusal.{AskRefusal}
use Rattle.xt_messages.specs.declared.meta.MetaReq.TheVariants as wish
use Rattle.xt_messages.specs.declared.meta.MetaAnswer.{MetaAnswer}
use Rattle.xt_messages.specs.declared.registry.RegistryAnswer.{RegistryAnswer}
use Rattle.xt_messages.specs.declared.message.Payload.{Payload}
use Rattle.xt_messages.specs.declared.message.Payload.TheVariants as payload
use Rattle.xt_messages.specs.declared.message.Msg.{Msg}
use Rattle.xt_messages.specs.declared.event.Call.{Call}
use Rattle.xt_messages.specs.declared.event.Call.TheVariants as call
use Rattle.xt_messages.specs.declared.event.Event.TheVariants as event
use Rattle.xt_messages.specs.declared.event.Mark.{Mark}
use Rattle.xt_messages.specs.declared.event.Mark.TheVariants as mark
use Rattle.xt_protocol.specs.Turns.{message}
use Rattle.client_rows.specs.Steps.{Step}
use Rattle.client_rows.specs.Clients.{aimed, knows, call_of_client, step_of_client, outcome_in}
use Rattle.client_rows.specs.Again.{again_of_client}
use Rattle.client_rows.specs.declared.holding.HeldFile.{HeldFile}
use Rattle.client_rows.specs.declared.requests.CallResult.{CallResult}
use Rattle.client_rows.specs.declared.requests.CallResult.TheVariants as result
use Rattle.client_rows.specs.Holding.{held_of, holds}
use Rattle.client_rows.specs.Requests.{is_ready}
use Rattle.client_rows.specs.Rows.{WholeClient, called, called_again, stepped, result_in, is_busy, may_repeat}
use Rattle.spec_examples.specs.LeaseLife.{members, times}
use Rattle.spec_examples.specs.Values.{file, node}

-- the last number of a call
abbrev pub last_number : ℕ
last_number = 4611686018427387903

-- the file 2 is striped over the members in objects of 1024 bytes, the others are replicated
abbrev pub kind_of : ℕ → Kind
kind_of number = if number == 2 then kind.Striped else kind.Replicated

abbrev pub capability : ℕ → ℕ → Capability
capability number epoch =
    record {
      file = file number;
      mode = 2;
      expiry = COUNTS;
      epoch = epoch;
      location = record { version = 1; kind = kind_of number; stripe = 1024; members = members };
      tag = replicate 32 0;
    }

-- the size of a file, in bytes, under a truncate epoch
abbrev pub size_at : ℕ → ℕ → SizeMark
size_at epoch size = record { epoch = epoch; size = size }

-- Calls and replies.

-- so many bytes of an object of a file are read
abbrev pub read : ℕ → ℕ → ℕ → Call
read file object len = call.Read file object 0 len

abbrev pub write : ℕ → ℕ → Call
write file object = call.Write file object 0 (codes "a")

abbrev pub truncate : ℕ → Call
truncate file = call.Truncate file 0 1

-- a count, the size of the file, and bytes
abbrev pub ok : ℕ → ℕ → List ℕ → Reply
ok count size bytes = reply.Ok count (size_at 0 size) bytes

abbrev pub no_lease : Reply
no_lease = reply.NoLease 9000

abbrev pub no_majority : Reply
no_majority = reply.NoMajority 1 2

-- the node that holds the lease
abbrev pub elsewhere : ℕ → Reply
elsewhere holder = reply.Elsewhere (node holder) 9000

pub data Happens : Type 0 where
  makes : Call → Happens
  -- the last call is made again
  makes_again : Happens
  -- it gets a capability of a file, with a truncate epoch and a size under it
  gets : ℕ → ℕ → ℕ → Happens
  -- it is asked for the capability of a file
  shows : ℕ → Happens
  -- it is aimed at a node for the file 1
  aims : ℕ → Happens
  wakes : Happens
  -- a node sends it this
  hears : ℕ → Payload → Happens

-- a node replies to the call of this number
abbrev pub replies : ℕ → ℕ → Reply → Happens
replies from number content = hears from (payload.Reply number (file 1) content)

-- a call by its number
pub data Seen : Type 0 where
  nothing : Seen
  -- a node is asked in a call, which begins or goes on
  begins : ℕ → ℕ → Seen
  asks : ℕ → ℕ → Seen
  -- a truncate epoch and a size are reported to the metadata server
  reports : ℕ → ℕ → ℕ → Seen
  -- a call is done: the count, the size that is known of the file, and how many bytes were read
  done : ℕ → ℕ → ℕ → ℕ → Seen
  -- a call may be made again
  repeats : ℕ → List Answered → Seen
  refuses : ℕ → AskRefusal → Seen
  answers : ℕ → MetaAnswer → Seen
  lists : ℕ → RegistryAnswer → Seen
  busy : Seen
  no_call : Seen
  -- a file is held under a capability of this truncate epoch
  held_at : ℕ → Seen
  not_held : Seen
  otherwise : Seen

-- what came of a member
abbrev pub by : ℕ → Retry → Answered
by number how = record { node = node number; outcome = how }

-- What is seen.

abbrev pub ended : ℕ → Option CallResult → Seen
ended number None = otherwise
ended number (Some (result.Ok count size bytes)) = done number count size.size (length bytes)
ended number (Some (result.Retry came)) = repeats number came
ended number (Some (result.Refused why)) = refuses number why
ended number (Some (result.Meta told)) = answers number told
ended number (Some (result.Registry told)) = lists number told

abbrev pub asked_in : List Mark → ℕ → ℕ → Seen
asked_in [] to number = asks to number
asked_in _ to number = begins to number

abbrev pub asked : List Mark → ℕ → Payload → Seen
asked marks to (payload.Ask number capability op) = asked_in marks to number
asked marks to (payload.Meta number user group (wish.Report capability size)) = reports number size.epoch size.size
asked marks to (payload.Meta number user group _) = asked_in marks to number
asked marks to (payload.Registry number request) = asked_in marks to number
asked marks to _ = otherwise

-- a call that has ended has a result, and one that runs has none
abbrev pub seen_in : Option CallResult → List Msg → List Mark → Seen
seen_in how [] [] = nothing
seen_in how [] (mark.Done number shown ∷ []) = ended number how
seen_in None (msg ∷ []) marks = asked marks msg.to.0 msg.payload
seen_in _ _ _ = otherwise

pub record Turn : Type 0 where
  pub client : WholeClient
  pub seen : Seen

abbrev pub turn_of : Step WholeClient → Turn
turn_of step =
    record { client = step.state; seen = seen_in (result_in step.state.made) step.turned.outs step.turned.marks }

abbrev pub held_seen : Option HeldFile → Seen
held_seen None = not_held
held_seen (Some held) = held_at held.capability.epoch

-- What a client does.

abbrev pub me : NodeId
me = node 10

abbrev pub given : WholeClient → ℕ → ℕ → ℕ → WholeClient
given client number epoch size =
    record client { held = holds client.held (capability number epoch) (size_at epoch size) }

abbrev pub aimed_at : WholeClient → NodeId → WholeClient
aimed_at client member = record client { replicas = knows client.replicas (file 1) (aimed member) }

abbrev pub does : WholeClient → ℕ → Happens → Turn
does client now (makes c) =
    if not (is_ready client.held c) then record { client = client; seen = not_held }
    else if is_busy client.made then record { client = client; seen = busy }
    else turn_of (called me times client now c)
does client now makes_again =
    if is_busy client.made then record { client = client; seen = busy }
    else if may_repeat client.made then turn_of (called_again me times client now)
    else record { client = client; seen = no_call }
does client now (gets number epoch size) = record { client = given client number epoch size; seen = nothing }
does client now (shows number) = record { client = client; seen = held_seen (held_of client.held number) }
does client now (aims number) = record { client = aimed_at client (node number); seen = nothing }
does client now wakes = turn_of (stepped me times client now event.Wake)
does client now (hears from content) =
    turn_of (stepped me times client now (event.Deliver (message (node from) me content)))

-- the clock, what happens, and what is seen
abbrev pub Row : Type 0
Row = ℕ × Happens × Seen

abbrev pub wanted : Row → Seen
wanted row = row.2

abbrev pub turn : WholeClient → Row → Turn
turn client row = does client row.0 row.1

-- a client that has made no call, and whose first one has this number
abbrev pub new_client : ℕ → WholeClient
new_client first =
    record { replicas = record { last = 0; next = first; running = None; files = [] }; held = []; made = None }

-- it holds the files 1 and 2, which are empty
abbrev pub start : ℕ → WholeClient
start first = given (given (new_client first) 1 0 0) 2 0 0

-- what is seen of such a client, row by row
unfoldable pub seen_from : ℕ → List Row → List Seen
unfolding called called_again stepped call_of_client step_of_client again_of_client outcome_in
seen_from first rows =
    scan (λ client row. (turn client row).client) (λ client row. (turn client row).seen) (start first) rows

-- a client whose first call has this number shows what is wanted, row by row
abbrev pub Shows : ℕ → List Row → Type 0
Shows first rows = seen_from first rows ≡ map wanted rows
