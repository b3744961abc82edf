-- messages and their frames: those of later lists, those by which lists are changed, and those that name an object; and frames that are
-- refused
use Rattle.std.specs.Prelude.{◌≡◌, ℕ, ◌^◌, List, [], ◌∷◌, ◌++◌, length, map, codes, replicate, true, None, Result, Ok, Err}
use Rattle.xt_base.specs.declared.ids.Ballot.{Ballot}
use Rattle.xt_messages.specs.declared.file.Kind.TheVariants as kind
use Rattle.xt_messages.specs.declared.file.Location.{Location}
use Rattle.xt_messages.specs.declared.file.Capability.{Capability}
use Rattle.xt_messages.specs.declared.file.FileHead.{FileHead}
use Rattle.xt_messages.specs.declared.file.Op.TheVariants as op
use Rattle.xt_messages.specs.declared.reply.Reply.TheVariants as reply
use Rattle.xt_messages.specs.declared.meta.MetaReq.TheVariants as ask
use Rattle.xt_messages.specs.declared.meta.MetaRefusal.TheVariants as refusal
use Rattle.xt_messages.specs.declared.meta.MetaAnswer.TheVariants as answer
use Rattle.xt_messages.specs.declared.message.Payload.{Payload}
use Rattle.xt_messages.specs.declared.message.Payload.TheVariants as payload
use Rattle.xt_messages.specs.declared.message.Msg.{Msg}
use Rattle.xt_fields.specs.BasicFields.{list_at}
use Rattle.xt_wire.specs.IdFields.{boot_at, ballot_at, stamp_at, report_arms, report_at, op_id_at, mark_at}
use Rattle.xt_wire.specs.FileFields.{kind_arms, kind_at, version_at, stripe_at, members_at, location_at, capability_at, read_op_at, some_octets_at, write_op_at, truncate_op_at, op_arms, op_at, update_at, object_version_at, versions_at, session_at, sessions_at, head_at}
use Rattle.xt_wire.specs.MetaFields.{change_at, locate_at, meta_req_arms, meta_req_at}
use Rattle.xt_frames.specs.ReplyFields.{too_far_at, reply_arms, reply_at}
use Rattle.xt_frames.specs.MetaAnswers.{changing_at, unknown_osd_at, refusal_arms, flag_arms, flag_at, located_at, meta_answer_arms, meta_answer_at}
use Rattle.xt_frames.specs.PayloadFields.{ballot_of_at, versioned_at, read_fields, promise_fields, status_fields, fetch_fields, object_fields, stage_fields, staged_fields, head_fields, update_fields, missing_fields, ask_fields, reply_fields, meta_fields, meta_reply_fields, close_fields, closed_fields, install_fields, installed_fields, pull_fields, pulled_fields, wanted_fields, lease_arms, service_arms, change_arms, listed_arms, later_list_at, later_said_at}
use Rattle.xt_frames.specs.declared.fault.FrameErr.{FrameErr}
use Rattle.xt_frames.specs.declared.fault.FrameErr.TheVariants as fault
use Rattle.spec_examples.specs.Frames.{frames}
use Rattle.spec_examples.specs.Hex.{hex}
use Rattle.spec_examples.specs.Values.{node, file, epoch, stamp}
use Rattle.spec_examples.specs.Worked.{first_list, second_list, small_list, write_of, cut_short, cut_off, head_after}

-- opens what reads and writes frames
unfoldable pub messages : Unit {0}
unfolding
    frames list_at boot_at ballot_at stamp_at report_arms report_at op_id_at mark_at kind_arms kind_at version_at stripe_at members_at location_at
    capability_at read_op_at some_octets_at write_op_at truncate_op_at op_arms op_at update_at object_version_at versions_at session_at
    sessions_at head_at change_at locate_at meta_req_arms meta_req_at too_far_at reply_arms reply_at changing_at unknown_osd_at refusal_arms
    flag_arms flag_at located_at meta_answer_arms meta_answer_at ballot_of_at versioned_at read_fields promise_fields status_fields
    fetch_fields object_fields stage_fields staged_fields head_fields update_fields missing_fields ask_fields reply_fields meta_fields
    meta_reply_fields close_fields closed_fields install_fields installed_fields pull_fields pulled_fields wanted_fields lease_arms
    service_arms change_arms listed_arms later_list_at later_said_at
messages = tt

-- a message from a node to a node, of this list
abbrev pub sent : ℕ → ℕ → ℕ → Payload → Msg
sent from to list content = record { from = node from; to = node to; list = list; payload = content }

abbrev ballot : ℕ → ℕ → ℕ → Ballot
ballot count owner boot = record { count = count; node = node owner; boot = record { 0 = boot } }

-- a capability to write, with a tag of zeros
abbrev to_write : Capability
to_write = record { file = file 1; mode = 2; expiry = 2 ^ 62; epoch = 0; location = first_list; tag = replicate 32 0 }

-- between replicas of a later list
abbrev pub of_later_lists : List (Msg × List ℕ)
of_later_lists = (
  sent 2 3 2 (payload.Gather (file 1) (epoch 3 2)),
  hex
      (codes "00000037 02 20 00000002 00000003 00000002 06 00000000000000000000000000000000 0000000000000001 0000000000000003"
      ++ codes "00000002"),
)
    ∷ (
      sent 2 2 2 (payload.Read (file 1) (ballot 1 2 1)),
      hex
          (codes "0000003f 02 20 00000002 00000002 00000002 01 00000000000000000000000000000000 0000000000000001 0000000000000001"
          ++ codes "00000002 0000000000000001"),
    )
    ∷ (
      sent 3 2 2 (payload.Promise (file 1) (ballot 1 2 1) (record { 0 = 1 }) None),
      hex
          (codes "00000048 02 20 00000003 00000002 00000002 02 00000000000000000000000000000000 0000000000000001 0000000000000001"
          ++ codes "00000002 0000000000000001 0000000000000001 00"),
    )
    ∷ (
      sent 2 3 3 (payload.Fetch (file 1) (epoch 3 2) 0 (stamp 1 1 1)),
      hex
          (codes "00000053 02 20 00000002 00000003 00000003 08 00000000000000000000000000000000 0000000000000001 0000000000000003"
          ++ codes "00000002 0000000000000000 0000000000000001 00000001 0000000000000001"),
    )
    ∷ (
      sent 3 2 2 (payload.Missing (file 1) (epoch 3 2) 16383 (stamp 1 1 1)),
      hex
          (codes "00000053 02 20 00000003 00000002 00000002 11 00000000000000000000000000000000 0000000000000001 0000000000000003"
          ++ codes "00000002 0000000000003fff 0000000000000001 00000001 0000000000000001"),
    )
    ∷ (
      sent 2 3 2 (payload.Update (file 1) (write_of 6)),
      hex
          (codes "00000070 02 20 00000002 00000003 00000002 0d 00000000000000000000000000000000 0000000000000001 0000000000000001"
          ++ codes "00000001 0000000000000001 0000000a 0000000000000006 0000000000000000 0000000000000001 ffffffffffffffff"
          ++ codes "0000000000000000 00000001 61"),
    )
    ∷ (
      sent 1 2 2 (payload.Gather (file 1) (epoch 1 1)),
      hex
          (codes "00000037 02 20 00000001 00000002 00000002 06 00000000000000000000000000000000 0000000000000001"
          ++ codes "0000000000000001 00000001"),
    )
    ∷ []

-- by which the metadata server changes a list, and what clients ask of it about lists
abbrev pub that_change_lists : List (Msg × List ℕ)
that_change_lists = (
  sent 901 1 1 (payload.Close (file 1) 1),
  hex (codes "0000002a 02 21 00000385 00000001 00000000000000000000000000000000 0000000000000001 00000001"),
)
    ∷ (
      sent 1 901 1 (payload.Closed (file 1) 1 (head_after 6 (epoch 1 1))),
      hex
          (codes "0000009e 02 22 00000001 00000385 00000000000000000000000000000000 0000000000000001 00000001 0000000000000001"
          ++ codes "00000001 0000000000000001 00000001 0000000000000001 0000000a 0000000000000006 0000000000000000 0000000000000001"
          ++ codes "00000001 0000000000000000 0000000000000001 00000001 0000000000000001 00000001 0000000a 0000000000000006"
          ++ codes "0000000000000001"),
    )
    ∷ (
      sent 901 2 1 (payload.Install (file 1) second_list (head_after 6 (epoch 2 901)) (node 1)),
      hex
          (codes "000000ac 02 23 00000385 00000002 00000000000000000000000000000000 0000000000000001 00000002 01 00020000 01"
          ++ codes "00000002 0000000000000002 00000385 0000000000000001 00000001 0000000000000001 0000000a 0000000000000006"
          ++ codes "0000000000000000 0000000000000001 00000001 0000000000000000 0000000000000001 00000001 0000000000000001 00000001"
          ++ codes "0000000a 0000000000000006 0000000000000001 00000001"),
    )
    ∷ (
      sent 2 901 1 (payload.Installed (file 1) 2),
      hex (codes "0000002a 02 24 00000002 00000385 00000000000000000000000000000000 0000000000000001 00000002"),
    )
    ∷ (
      sent 2 1 1 (payload.Pull (file 1) 0 (stamp 1 1 1)),
      hex
          (codes "00000042 02 25 00000002 00000001 00000000000000000000000000000000 0000000000000001 0000000000000000"
          ++ codes "0000000000000001 00000001 0000000000000001"),
    )
    ∷ (
      sent 1 2 1 (payload.Pulled (file 1) 0 (stamp 1 1 1) (codes "a")),
      hex
          (codes "00000047 02 26 00000001 00000002 00000000000000000000000000000000 0000000000000001 0000000000000000"
          ++ codes "0000000000000001 00000001 0000000000000001 00000001 61"),
    )
    ∷ (
      sent 2 901 1 (payload.Wanted (file 1)),
      hex (codes "00000026 02 27 00000002 00000385 00000000000000000000000000000000 0000000000000001"),
    )
    ∷ (
      sent 10 901 1 (payload.Meta 7 1 1 (ask.Change (codes "/v/a") (node 2 ∷ []))),
      hex (codes "0000002a 02 14 0000000a 00000385 0000000000000007 00000001 00000001 0b 0004 2f762f61 01 00000002"),
    )
    ∷ (
      sent 10 901 1 (payload.Meta 8 1 1 (ask.Locate (codes "/v/a"))),
      hex (codes "00000025 02 14 0000000a 00000385 0000000000000008 00000001 00000001 0c 0004 2f762f61"),
    )
    ∷ (
      sent 901 10 1 (payload.MetaReply 8 (answer.Located first_list true)),
      hex (codes "00000026 02 15 00000385 0000000a 0000000000000008 0f 00000001 01 00020000 01 00000001 01"),
    )
    ∷ (
      sent 901 10 1 (payload.MetaReply 8 (answer.Refused (refusal.Changing 2))),
      hex (codes "0000001b 02 15 00000385 0000000a 0000000000000008 10 00000002"),
    )
    ∷ (
      sent 901 10 1 (payload.MetaReply 8 (answer.Refused refusal.NotReplicated)),
      hex (codes "00000017 02 15 00000385 0000000a 0000000000000008 11"),
    )
    ∷ (
      sent 901 10 1 (payload.MetaReply 8 (answer.Refused (refusal.UnknownOsd (node 9)))),
      hex (codes "0000001b 02 15 00000385 0000000a 0000000000000008 12 00000009"),
    )
    -- with other numbers, and another list
    ∷ (
      sent 1 901 1 (payload.Closed (file 1) 1 (head_after 1 (epoch 1 1))),
      hex
          (codes "0000009e 02 22 00000001 00000385 00000000000000000000000000000000 0000000000000001 00000001 0000000000000001"
          ++ codes "00000001 0000000000000001 00000001 0000000000000001 0000000a 0000000000000001 0000000000000000"
          ++ codes "0000000000000001 00000001 0000000000000000 0000000000000001 00000001 0000000000000001 00000001 0000000a"
          ++ codes "0000000000000001 0000000000000001"),
    )
    ∷ (
      sent 901 2 1 (payload.Install (file 1) small_list (head_after 1 (epoch 1 1)) (node 1)),
      hex
          (codes "000000ac 02 23 00000385 00000002 00000000000000000000000000000000 0000000000000001 00000002 01 00000400 01"
          ++ codes "00000002 0000000000000001 00000001 0000000000000001 00000001 0000000000000001 0000000a 0000000000000001"
          ++ codes "0000000000000000 0000000000000001 00000001 0000000000000000 0000000000000001 00000001 0000000000000001"
          ++ codes "00000001 0000000a 0000000000000001 0000000000000001 00000001"),
    )
    ∷ (
      sent 10 901 1 (payload.Meta 1 1 1 (ask.Change (codes "/v/a") (node 2 ∷ []))),
      hex (codes "0000002a 02 14 0000000a 00000385 0000000000000001 00000001 00000001 0b 0004 2f762f61 01 00000002"),
    )
    ∷ (
      sent 10 901 1 (payload.Meta 2 1 1 (ask.Locate (codes "/v/a"))),
      hex (codes "00000025 02 14 0000000a 00000385 0000000000000002 00000001 00000001 0c 0004 2f762f61"),
    )
    ∷ (
      sent 901 10 1 (payload.MetaReply 2 (answer.Located small_list true)),
      hex (codes "00000026 02 15 00000385 0000000a 0000000000000002 0f 00000002 01 00000400 01 00000002 01"),
    )
    ∷ (
      sent 901 10 1 (payload.MetaReply 2 (answer.Refused (refusal.Changing 2))),
      hex (codes "0000001b 02 15 00000385 0000000a 0000000000000002 10 00000002"),
    )
    ∷ (
      sent 901 10 1 (payload.MetaReply 2 (answer.Refused refusal.NotReplicated)),
      hex (codes "00000017 02 15 00000385 0000000a 0000000000000002 11"),
    )
    ∷ (
      sent 901 10 1 (payload.MetaReply 2 (answer.Refused (refusal.UnknownOsd (node 9)))),
      hex (codes "0000001b 02 15 00000385 0000000a 0000000000000002 12 00000009"),
    )
    ∷ []

-- that name an object, or may
abbrev pub that_name_objects : List (Msg × List ℕ)
that_name_objects = (
  sent 2 1 1 (payload.Status (file 1) (epoch 2 1) (head_after 6 (epoch 2 1))),
  hex
      (codes "000000a6 02 07 00000002 00000001 00000000000000000000000000000000 0000000000000001 0000000000000002 00000001"
      ++ codes "0000000000000002 00000001 0000000000000001 00000001 0000000000000001 0000000a 0000000000000006 0000000000000000"
      ++ codes "0000000000000001 00000001 0000000000000000 0000000000000001 00000001 0000000000000001 00000001 0000000a"
      ++ codes "0000000000000006 0000000000000001"),
)
    ∷ (
      sent 1 2 1 (payload.Fetch (file 1) (epoch 2 1) 0 (stamp 1 1 1)),
      hex
          (codes "0000004e 02 08 00000001 00000002 00000000000000000000000000000000 0000000000000001 0000000000000002 00000001"
          ++ codes "0000000000000000 0000000000000001 00000001 0000000000000001"),
    )
    ∷ (
      sent 2 1 1 (payload.Object (file 1) (epoch 2 1) 0 (stamp 1 1 1) (codes "abc")),
      hex
          (codes "00000055 02 09 00000002 00000001 00000000000000000000000000000000 0000000000000001 0000000000000002 00000001"
          ++ codes "0000000000000000 0000000000000001 00000001 0000000000000001 00000003 616263"),
    )
    ∷ (
      sent 1 3 1 (payload.Stage (file 1) (epoch 2 1) 16383 (stamp 1 1 1) (codes "abc")),
      hex
          (codes "00000055 02 0a 00000001 00000003 00000000000000000000000000000000 0000000000000001 0000000000000002 00000001"
          ++ codes "0000000000003fff 0000000000000001 00000001 0000000000000001 00000003 616263"),
    )
    ∷ (
      sent 3 1 1 (payload.Staged (file 1) (epoch 2 1) 0 (stamp 1 1 1)),
      hex
          (codes "0000004e 02 0b 00000003 00000001 00000000000000000000000000000000 0000000000000001 0000000000000002 00000001"
          ++ codes "0000000000000000 0000000000000001 00000001 0000000000000001"),
    )
    ∷ (
      sent 1 3 1 (payload.Head (file 1) (epoch 2 1) (head_after 6 (epoch 2 1))),
      hex
          (codes "000000a6 02 0c 00000001 00000003 00000000000000000000000000000000 0000000000000001 0000000000000002 00000001"
          ++ codes "0000000000000002 00000001 0000000000000001 00000001 0000000000000001 0000000a 0000000000000006 0000000000000000"
          ++ codes "0000000000000001 00000001 0000000000000000 0000000000000001 00000001 0000000000000001 00000001 0000000a"
          ++ codes "0000000000000006 0000000000000001"),
    )
    ∷ (
      sent 1 2 1 (payload.Update (file 1) (write_of 6)),
      hex
          (codes "0000006b 02 0d 00000001 00000002 00000000000000000000000000000000 0000000000000001 0000000000000001 00000001"
          ++ codes "0000000000000001 0000000a 0000000000000006 0000000000000000 0000000000000001 ffffffffffffffff 0000000000000000"
          ++ codes "00000001 61"),
    )
    ∷ (
      sent 1 2 1 (payload.Update (file 1) cut_short),
      hex
          (codes "0000006b 02 0d 00000001 00000002 00000000000000000000000000000000 0000000000000001 0000000000000001 00000001"
          ++ codes "0000000000000002 0000000a 0000000000000007 0000000000000001 0000000000000401 0000000000000002 0000000000000001"
          ++ codes "00000001 62"),
    )
    ∷ (
      sent 1 2 1 (payload.Update (file 1) cut_off),
      hex
          (codes "0000006a 02 0d 00000001 00000002 00000000000000000000000000000000 0000000000000001 0000000000000001 00000001"
          ++ codes "0000000000000002 0000000a 0000000000000007 0000000000000001 0000000000000000 0000000000000000 ffffffffffffffff"
          ++ codes "00000000"),
    )
    ∷ (
      sent 2 1 1 (payload.Missing (file 1) (epoch 2 1) 0 (stamp 1 1 1)),
      hex
          (codes "0000004e 02 11 00000002 00000001 00000000000000000000000000000000 0000000000000001 0000000000000002 00000001"
          ++ codes "0000000000000000 0000000000000001 00000001 0000000000000001"),
    )
    ∷ (
      sent 10 1 1 (payload.Ask 1 to_write (op.Write 4294967296 0 (codes "abc"))),
      hex
          (codes "00000081 02 12 0000000a 00000001 0000000000000001 00000000000000000000000000000000 0000000000000001 02"
          ++ codes "4000000000000000 0000000000000000 00000001 01 00020000 01 00000001"
          ++ codes "0000000000000000000000000000000000000000000000000000000000000000 02 0000000100000000 00000000 00000003 616263"),
    )
    ∷ (
      sent 10 1 1 (payload.Ask 2 to_write (op.Read 0 0 3)),
      hex
          (codes "0000007e 02 12 0000000a 00000001 0000000000000002 00000000000000000000000000000000 0000000000000001 02"
          ++ codes "4000000000000000 0000000000000000 00000001 01 00020000 01 00000001"
          ++ codes "0000000000000000000000000000000000000000000000000000000000000000 01 0000000000000000 00000000 00000003"),
    )
    ∷ (
      sent 10 1 1 (payload.Ask 3 to_write (op.Truncate 1025)),
      hex
          (codes "00000076 02 12 0000000a 00000001 0000000000000003 00000000000000000000000000000000 0000000000000001 02"
          ++ codes "4000000000000000 0000000000000000 00000001 01 00020000 01 00000001"
          ++ codes "0000000000000000000000000000000000000000000000000000000000000000 03 0000000000000401"),
    )
    ∷ (
      sent 1 10 1 (payload.Reply 2 (file 1) (reply.TooFar 16384)),
      hex
          (codes "00000037 02 13 00000001 0000000a 0000000000000002 00000000000000000000000000000000 0000000000000001 08"
          ++ codes "0000000000004000"),
    )
    ∷ (
      sent 1 2 1 (payload.Fetch (file 1) (epoch 1 1) 0 (stamp 1 1 1)),
      hex
          (codes "0000004e 02 08 00000001 00000002 00000000000000000000000000000000 0000000000000001 0000000000000001 00000001"
          ++ codes "0000000000000000 0000000000000001 00000001 0000000000000001"),
    )
    ∷ []

-- frames and how long they are, or why they are refused
abbrev pub tried : List (List ℕ × Result ℕ FrameErr)
tried =
    -- a version of a list: none, the first one, the greatest one and one more
    (
      hex
          (codes "00000037 02 20 00000002 00000003 00000000 06 00000000000000000000000000000000 0000000000000001"
          ++ codes "0000000000000003 00000002"),
      Err fault.Field,
    )
    ∷ (
      hex
          (codes "00000037 02 20 00000002 00000003 00000001 06 00000000000000000000000000000000 0000000000000001"
          ++ codes "0000000000000003 00000002"),
      Err fault.Field,
    )
    ∷ (
      hex
          (codes "00000037 02 20 00000002 00000003 7fffffff 06 00000000000000000000000000000000 0000000000000001"
          ++ codes "0000000000000003 00000002"),
      Ok 55,
    )
    ∷ (
      hex
          (codes "00000037 02 20 00000002 00000003 80000000 06 00000000000000000000000000000000 0000000000000001"
          ++ codes "0000000000000003 00000002"),
      Err fault.Field,
    )
    -- a kind that no list has: none, 18, 32 and 33
    ∷ (
      hex
          (codes "00000037 02 20 00000002 00000003 00000002 00 00000000000000000000000000000000 0000000000000001"
          ++ codes "0000000000000003 00000002"),
      Err fault.Field,
    )
    ∷ (
      hex
          (codes "00000037 02 20 00000002 00000003 00000002 12 00000000000000000000000000000000 0000000000000001"
          ++ codes "0000000000000003 00000002"),
      Err fault.Field,
    )
    ∷ (
      hex
          (codes "00000037 02 20 00000002 00000003 00000002 20 00000000000000000000000000000000 0000000000000001"
          ++ codes "0000000000000003 00000002"),
      Err fault.Field,
    )
    ∷ (
      hex
          (codes "00000037 02 20 00000002 00000003 00000002 21 00000000000000000000000000000000 0000000000000001"
          ++ codes "0000000000000003 00000002"),
      Err fault.Field,
    )
    -- a version that is closed
    ∷ (
      hex (codes "0000002a 02 21 00000385 00000001 00000000000000000000000000000000 0000000000000001 80000000"),
      Err fault.Field,
    )
    ∷ (
      hex (codes "0000002a 02 21 00000385 00000001 00000000000000000000000000000000 0000000000000001 00000000"),
      Ok 42,
    )
    -- a head whose stamp is above the promised epoch, and a stripe that is no multiple of 1,024
    ∷ (
      hex
          (codes "000000ac 02 23 00000385 00000002 00000000000000000000000000000000 0000000000000001 00000002 01 00020000 01"
          ++ codes "00000002 0000000000000000 00000385 0000000000000001 00000001 0000000000000001 0000000a 0000000000000006"
          ++ codes "0000000000000000 0000000000000001 00000001 0000000000000000 0000000000000001 00000001 0000000000000001"
          ++ codes "00000001 0000000a 0000000000000006 0000000000000001 00000001"),
      Err fault.Field,
    )
    ∷ (
      hex
          (codes "000000ac 02 23 00000385 00000002 00000000000000000000000000000000 0000000000000001 00000002 01 000003e8 01"
          ++ codes "00000002 0000000000000002 00000385 0000000000000001 00000001 0000000000000001 0000000a 0000000000000006"
          ++ codes "0000000000000000 0000000000000001 00000001 0000000000000000 0000000000000001 00000001 0000000000000001"
          ++ codes "00000001 0000000a 0000000000000006 0000000000000001 00000001"),
      Err fault.Field,
    )
    -- an object of all ones is none, which gets no bytes; in 32 bits it is a number like others
    ∷ (
      hex
          (codes "0000006b 02 0d 00000001 00000002 00000000000000000000000000000000 0000000000000001 0000000000000001 00000001"
          ++ codes "0000000000000001 0000000a 0000000000000006 0000000000000000 0000000000000001 00000000ffffffff 00000000ffffffff"
          ++ codes "00000001 61"),
      Ok 107,
    )
    ∷ (
      hex
          (codes "0000006b 02 0d 00000001 00000002 00000000000000000000000000000000 0000000000000001 0000000000000001 00000001"
          ++ codes "0000000000000001 0000000a 0000000000000006 0000000000000000 0000000000000001 ffffffffffffffff ffffffffffffffff"
          ++ codes "00000001 61"),
      Err fault.Field,
    )
    ∷ []

-- a head with as many versions and sessions as one may have
pub record IsFull (head : FileHead) : Type 0 where
  pub versions : length head.versions ≡ 16384
  pub sessions : length head.sessions ≡ 256

-- a list of nine members
abbrev long_list : Location
long_list = record { version = 2; kind = kind.Replicated; stripe = 131072; members = map node (1 ∷ 2 ∷ 3 ∷ 4 ∷ 5 ∷ 6 ∷ 7 ∷ 8 ∷ 9 ∷ []) }

-- messages that have a head, and how long they are with the longest one
abbrev pub with_heads : List ((FileHead → Msg) × ℕ)
with_heads =
    (λ head. sent 2 1 1 (payload.Status (file 1) (epoch 2 1) head), 463990)
    ∷ (λ head. sent 2 1 2 (payload.Status (file 1) (epoch 2 1) head), 463995)
    ∷ (λ head. sent 1 901 1 (payload.Closed (file 1) 1 head), 463982)
    ∷ (λ head. sent 901 2 1 (payload.Install (file 1) long_list head (node 1)), 464028)
    ∷ []
