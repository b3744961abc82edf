-- a file moves from the one replica of its first list to the one of its second, as a metadata server would have it move
use Rattle.std.specs.Prelude.{ℕ, true, ◌==◌, ◌+◌, ◌-◌, suc, zero, Some, None, List, [], ◌∷◌, ◌++◌, map, filter, slice_get}
use Rattle.xt_base.specs.declared.TheConstants.{MRC_NODE}
use Rattle.xt_messages.specs.declared.file.FileHead.{FileHead}
use Rattle.xt_messages.specs.declared.file.Location.{Location}
use Rattle.xt_messages.specs.declared.file.Op.{Op}
use Rattle.xt_messages.specs.declared.file.Op.TheVariants as op
use Rattle.xt_messages.specs.declared.message.Msg.{Msg}
use Rattle.xt_messages.specs.declared.message.Payload.{Payload}
use Rattle.xt_messages.specs.declared.message.Payload.TheVariants as payload
use Rattle.xt_messages.specs.declared.reply.Reply.TheVariants as reply
use Rattle.xt_messages.specs.declared.event.Event.{Event}
use Rattle.xt_messages.specs.declared.event.Event.TheVariants as event
use Rattle.xt_messages.specs.declared.event.Mark.{Mark}
use Rattle.xt_messages.specs.declared.record.Record.{Record}
use Rattle.xt_messages.specs.declared.record.Record.TheVariants as kept
use Rattle.xt_protocol.specs.Stamps.{with_held}
use Rattle.xt_protocol.specs.Folds.{body_kept, body_of, fold_of, row_in, with_row}
use Rattle.xt_protocol.specs.Turns.{reply_to}
use Rattle.xt_protocol.specs.Choice.{chosen_of, difference}
use Rattle.xt_protocol.specs.Writes.{standing}
use Rattle.xt_protocol.specs.ReplicaRows.{gathered, fetched_from, staged, headed, updated}
use Rattle.xt_protocol.specs.Primaries.{peer_in, with_peer, fed}
use Rattle.xt_protocol.specs.PrimaryRows.{draw_epoch, hears}
use Rattle.xt_protocol.specs.Serving.{reads, writes, wakes}
use Rattle.xt_protocol.specs.Asks.{serves_all}
use Rattle.xt_protocol.specs.Overdue.{expired}
use Rattle.xt_protocol.specs.AskRows.{refusal_of, handle_ask}
use Rattle.xt_protocol.specs.FileLeases.{read_comes, write_comes, answer_comes}
use Rattle.xt_protocol.specs.FileSteps.{wake_of_file}
use Rattle.xt_protocol.specs.OsdSteps.{file_at, with_file, each_file}
use Rattle.xt_protocol.specs.Examples.{Cluster, abc, after_step, capability_on, cluster_of, done_with, epoch_of, file_1, id_of, is_active, is_answered, is_committed, is_held, is_issued, kept_at, least_pending, node, outside_of, place_on, running_at, stamp_of, to_itself}
use Rattle.list_rows.specs.ListRows.{close_comes, install_comes, pull_comes, pulled_comes, step_of_message, wake_of_listed}
use Rattle.list_rows.specs.ListSteps.{step_with_lists}

-- A node handles these events and then its own messages, first in first out, as many as this at most.
unfoldable pub handles : ℕ → Cluster → ℕ → List Event → Cluster
unfolding step_with_lists step_of_message wake_of_listed close_comes install_comes pull_comes pulled_comes wake_of_file expired handle_ask refusal_of read_comes write_comes answer_comes serves_all draw_epoch hears reads writes wakes peer_in with_peer fed chosen_of difference gathered fetched_from staged headed updated standing file_at with_file each_file body_kept fold_of row_in with_row with_held
handles zero c id events = c
handles (suc more) c id [] = c
handles (suc more) c id (e ∷ es) =
    elim (running_at c.nodes id) [
      | None ↦ c
      | Some n ↦
          let step = step_with_lists (outside_of n.records) n.osd c.clock e in
          handles more (after_step c n step.osd step.turned) id (es ++ to_itself n.node step.turned.outs)
    ]

abbrev pub delivered : Cluster → ℕ → Cluster
delivered c number =
    elim (slice_get c.sent (number - 1)) [
      | None ↦ c
      | Some m ↦ handles 100 (record c { sent = done_with c.sent number }) m.0.to.0 (event.Deliver m.0 ∷ [])
    ]

-- the pending message of least number is delivered, this many times at most
unfoldable pub settled : ℕ → Cluster → Cluster
unfolding handles
settled zero c = c
settled (suc more) c = elim (least_pending 1 c.sent) [ None ↦ c | Some number ↦ settled more (delivered c number) ]

-- what comes from outside: time goes by, or a message comes to a node, and then all that is sent for it
pub data Coming : Type 0 where
  time : ℕ → Coming
  from_outside : Msg → Coming

abbrev pub after_coming : Cluster → Coming → Cluster
unfolding settled handles
after_coming c (time count) = record c { clock = c.clock + count }
after_coming c (from_outside msg) = settled 100 (record c { sent = c.sent ++ (msg, true) ∷ [] })

unfoldable pub after_all : Cluster → List Coming → Cluster
unfolding settled handles fold_of row_in with_row
after_all c [] = c
after_all c (x ∷ xs) = after_all (after_coming c x) xs

-- what the nodes mark; what a node outside is sent; and what a node records
abbrev pub marks_of : List ℕ → List Coming → List (ℕ × Mark)
unfolding after_all
marks_of ids comings = (after_all (cluster_of 0 ids) comings).trace

abbrev pub sent_to : ℕ → List ℕ → List Coming → List Msg
unfolding after_all
sent_to outside ids comings = map (λ m. m.0) (filter (λ m. m.0.to.0 == outside) (after_all (cluster_of 0 ids) comings).sent)

abbrev pub records_at : ℕ → List ℕ → List Coming → List Record
unfolding after_all
records_at id ids comings = elim (kept_at (after_all (cluster_of 0 ids) comings).nodes id) [ None ↦ [] | Some n ↦ n.records ]

-- ---- a file of one replica moves from node 1 to node 2

abbrev pub both : List ℕ
both = 1 ∷ 2 ∷ []

abbrev pub told_by : ℕ → ℕ → Payload → Msg
told_by from to content = record { from = node from; to = node to; list = 1; payload = content }

abbrev pub second_list : Location
second_list = record (place_on (2 ∷ [])) { version = 2 }

abbrev pub asks_first : ℕ → ℕ → Op → Coming
asks_first number target asked = from_outside (told_by 10 target (payload.Ask number (capability_on (1 ∷ []) 0) asked))

abbrev pub asks_second : ℕ → ℕ → Op → Coming
asks_second number target asked =
    from_outside (told_by 10 target (payload.Ask number (record (capability_on (2 ∷ []) 0) { location = second_list }) asked))

-- what the write leaves at node 1, and the head that is chosen of it
abbrev pub written_head : FileHead
written_head =
    record {
      promised = epoch_of 1 1;
      stamp = stamp_of 1 1 1;
      last = id_of 10 1;
      mark = record { epoch = 0; size = 3 };
      versions = body_of 0 (stamp_of 1 1 1) ∷ [];
      sessions = record { client = node 10; number = 1; count = 1 } ∷ [];
    }

abbrev pub chosen_head : FileHead
chosen_head = record written_head { promised = record { number = 2; node = MRC_NODE } }

abbrev pub installs : Coming
installs = from_outside (told_by 901 2 (payload.Install file_1 second_list chosen_head (node 1)))

-- A write on the first list; a Close; an ask that comes too late; an Install, whose body is pulled; the Install again, which is taken; and
-- a read on the second list.
abbrev pub moving : List Coming
moving =
    time 1100 ∷ asks_first 1 1 (op.Write 0 0 abc)
    ∷ from_outside (told_by 901 1 (payload.Close file_1 1)) ∷ asks_first 2 1 (op.Read 0 0 3)
    ∷ time 1100 ∷ installs ∷ installs ∷ asks_second 3 2 (op.Read 0 0 3) ∷ asks_second 4 1 (op.Read 0 0 3) ∷ []

abbrev pub moving_marks : List (ℕ × Mark)
moving_marks =
    is_held 1 2100 ∷ is_active 1 0 0 0 ∷ is_issued 1 1 10 1 ∷ is_committed 1 1 10 1 ∷ is_answered 1 10 1 1 []
    ∷ is_held 2 3200 ∷ is_active 2 1 10 1 ∷ is_answered 2 10 3 1 abc ∷ []

-- the metadata server is told of the closed file, that the body has come, and that the list is installed
abbrev pub moving_reports : List Msg
moving_reports =
    told_by 1 901 (payload.Closed file_1 1 written_head) ∷ told_by 2 901 (payload.Wanted file_1)
    ∷ told_by 2 901 (payload.Installed file_1 2) ∷ []

-- the client is told of its write, that the list is an older one, and of its read; node 1, whose list is the first one, passes over the
-- ask on the second
abbrev pub moving_answers : List Msg
moving_answers =
    reply_to (node 1) file_1 (id_of 10 1) (reply.Ok 1 (record { epoch = 0; size = 3 }) [])
    ∷ reply_to (node 1) file_1 (id_of 10 2) (reply.OldList 2)
    ∷ reply_to (node 2) file_1 (id_of 10 3) (reply.Ok 1 (record { epoch = 0; size = 3 }) abc) ∷ []

-- what node 2 keeps of it: the body, the list with its head, and the epoch of its own primary, whose head is installed
abbrev pub moving_records : List Record
moving_records =
    kept.Stage file_1 0 (stamp_of 1 1 1) abc ∷ kept.Install file_1 second_list chosen_head ∷ kept.Promise file_1 (epoch_of 3 2)
    ∷ kept.Head file_1 (record chosen_head { promised = epoch_of 3 2; stamp = stamp_of 3 2 1 }) ∷ []
