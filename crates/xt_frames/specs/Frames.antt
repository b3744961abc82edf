-- the one frame of each message
use Rattle.std.specs.Prelude.{ℕ, ◌+◌, ◌==◌, if◌then◌else◌, List, ◌++◌, length}
use Rattle.xt_messages.specs.declared.message.Payload.{Payload}
use Rattle.xt_messages.specs.declared.message.Payload.TheVariants as payload
use Rattle.xt_messages.specs.declared.message.Msg.{Msg}
use Rattle.xt_fields.specs.BasicFields.{byte_bytes, word_bytes, long_bytes, octets_bytes}
use Rattle.xt_wire.specs.IdFields.{node_bytes, boot_bytes, file_bytes, ballot_bytes, epoch_bytes, stamp_bytes, lease_bytes, report_bytes}
use Rattle.xt_wire.specs.FileFields.{location_bytes, capability_bytes, op_bytes, update_bytes, head_bytes}
use Rattle.xt_frames.specs.ReplyFields.{reply_bytes}
use Rattle.xt_wire.specs.MetaFields.{meta_req_bytes}
use Rattle.xt_frames.specs.MetaAnswers.{meta_answer_bytes}
use Rattle.xt_wire.specs.RegistryFields.{registry_req_bytes}
use Rattle.xt_frames.specs.RegistryAnswers.{registry_answer_bytes}

-- the number of each kind
abbrev pub kind_of : Payload → ℕ
kind_of (payload.Read file ballot) = 1
kind_of (payload.Promise file ballot boot report) = 2
kind_of (payload.Write file ballot boot lease) = 3
kind_of (payload.Accepted file ballot boot) = 4
kind_of (payload.Outrun file ballot seen) = 5
kind_of (payload.Gather file epoch) = 6
kind_of (payload.Status file epoch head) = 7
kind_of (payload.Fetch file epoch object version) = 8
kind_of (payload.Object file epoch object version bytes) = 9
kind_of (payload.Stage file epoch object version bytes) = 10
kind_of (payload.Staged file epoch object version) = 11
kind_of (payload.Head file epoch head) = 12
kind_of (payload.Update file update) = 13
kind_of (payload.Ack file stamp) = 14
kind_of (payload.Refused file epoch promised) = 15
kind_of (payload.Behind file epoch stamp) = 16
kind_of (payload.Missing file epoch object version) = 17
kind_of (payload.Ask number capability op) = 18
kind_of (payload.Reply number file reply) = 19
kind_of (payload.Meta number user group request) = 20
kind_of (payload.MetaReply number answer) = 21
kind_of (payload.Registry number request) = 22
kind_of (payload.RegistryReply number answer) = 23
kind_of (payload.Stop tag) = 24
kind_of (payload.Close file version) = 33
kind_of (payload.Closed file version head) = 34
kind_of (payload.Install file location head source) = 35
kind_of (payload.Installed file version) = 36
kind_of (payload.Pull file object version) = 37
kind_of (payload.Pulled file object version bytes) = 38
kind_of (payload.Wanted file) = 39

-- the fields of each kind
abbrev pub payload_bytes : Payload → List ℕ
payload_bytes (payload.Read file ballot) = file_bytes file ++ ballot_bytes ballot
payload_bytes (payload.Promise file ballot boot report) = file_bytes file ++ ballot_bytes ballot ++ boot_bytes boot ++ report_bytes report
payload_bytes (payload.Write file ballot boot lease) = file_bytes file ++ ballot_bytes ballot ++ boot_bytes boot ++ lease_bytes lease
payload_bytes (payload.Accepted file ballot boot) = file_bytes file ++ ballot_bytes ballot ++ boot_bytes boot
payload_bytes (payload.Outrun file ballot seen) = file_bytes file ++ ballot_bytes ballot ++ ballot_bytes seen
payload_bytes (payload.Gather file epoch) = file_bytes file ++ epoch_bytes epoch
payload_bytes (payload.Status file epoch head) = file_bytes file ++ epoch_bytes epoch ++ head_bytes head
payload_bytes (payload.Fetch file epoch object version) = file_bytes file ++ epoch_bytes epoch ++ long_bytes object ++ stamp_bytes version
payload_bytes (payload.Object file epoch object version bytes) = file_bytes file ++ epoch_bytes epoch ++ long_bytes object ++ stamp_bytes version ++ octets_bytes bytes
payload_bytes (payload.Stage file epoch object version bytes) = file_bytes file ++ epoch_bytes epoch ++ long_bytes object ++ stamp_bytes version ++ octets_bytes bytes
payload_bytes (payload.Staged file epoch object version) = file_bytes file ++ epoch_bytes epoch ++ long_bytes object ++ stamp_bytes version
payload_bytes (payload.Head file epoch head) = file_bytes file ++ epoch_bytes epoch ++ head_bytes head
payload_bytes (payload.Update file update) = file_bytes file ++ update_bytes update
payload_bytes (payload.Ack file stamp) = file_bytes file ++ stamp_bytes stamp
payload_bytes (payload.Refused file epoch promised) = file_bytes file ++ epoch_bytes epoch ++ epoch_bytes promised
payload_bytes (payload.Behind file epoch stamp) = file_bytes file ++ epoch_bytes epoch ++ stamp_bytes stamp
payload_bytes (payload.Missing file epoch object version) = file_bytes file ++ epoch_bytes epoch ++ long_bytes object ++ stamp_bytes version
payload_bytes (payload.Ask number capability op) = long_bytes number ++ capability_bytes capability ++ op_bytes op
payload_bytes (payload.Reply number file reply) = long_bytes number ++ file_bytes file ++ reply_bytes reply
payload_bytes (payload.Meta number user group request) = long_bytes number ++ word_bytes user ++ word_bytes group ++ meta_req_bytes request
payload_bytes (payload.MetaReply number answer) = long_bytes number ++ meta_answer_bytes answer
payload_bytes (payload.Registry number request) = long_bytes number ++ registry_req_bytes request
payload_bytes (payload.RegistryReply number answer) = long_bytes number ++ registry_answer_bytes answer
payload_bytes (payload.Stop tag) = tag
payload_bytes (payload.Close file version) = file_bytes file ++ word_bytes version
payload_bytes (payload.Closed file version head) = file_bytes file ++ word_bytes version ++ head_bytes head
payload_bytes (payload.Install file location head source) = file_bytes file ++ location_bytes location ++ head_bytes head ++ node_bytes source
payload_bytes (payload.Installed file version) = file_bytes file ++ word_bytes version
payload_bytes (payload.Pull file object version) = file_bytes file ++ long_bytes object ++ stamp_bytes version
payload_bytes (payload.Pulled file object version bytes) = file_bytes file ++ long_bytes object ++ stamp_bytes version ++ octets_bytes bytes
payload_bytes (payload.Wanted file) = file_bytes file

-- the number of the frame's kind: that of the payload, or 32 where the list isn't the first one
abbrev pub frame_kind : ℕ → Payload → ℕ
frame_kind list content = if list == 1 then kind_of content else 32

-- the fields of the frame: those of the payload, where the list isn't the first one after the list and the payload's kind
abbrev pub frame_fields : ℕ → Payload → List ℕ
frame_fields list content =
    if list == 1 then payload_bytes content
    else word_bytes list ++ (byte_bytes (kind_of content) ++ payload_bytes content)

-- the version, the kind, the sender, the receiver and the fields
abbrev pub content_of : Msg → List ℕ
content_of msg =
    byte_bytes 2 ++ byte_bytes (frame_kind msg.list msg.payload)
    ++ (node_bytes msg.from ++ node_bytes msg.to ++ frame_fields msg.list msg.payload)

-- the length of all, and the content
abbrev pub frame_of : Msg → List ℕ
frame_of msg = word_bytes (4 + length (content_of msg)) ++ content_of msg
