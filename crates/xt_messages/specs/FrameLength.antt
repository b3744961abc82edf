-- the length of a message's frame, in bytes
use Rattle.std.specs.Prelude.{ℕ, ◌+◌, ◌*◌, ◌==◌, if◌then◌else◌, Option, Some, None, List, length, sum_by}
use Rattle.xt_base.specs.declared.ids.Lease.{Lease}
use Rattle.xt_messages.specs.declared.file.Location.{Location}
use Rattle.xt_messages.specs.declared.file.Capability.{Capability}
use Rattle.xt_messages.specs.declared.file.Op.{Op}
use Rattle.xt_messages.specs.declared.file.Op.TheVariants as op
use Rattle.xt_messages.specs.declared.file.Update.{Update}
use Rattle.xt_messages.specs.declared.file.FileHead.{FileHead}
use Rattle.xt_messages.specs.declared.reply.Reply.{Reply}
use Rattle.xt_messages.specs.declared.reply.Reply.TheVariants as reply
use Rattle.xt_messages.specs.declared.meta.MetaReq.{MetaReq}
use Rattle.xt_messages.specs.declared.meta.MetaReq.TheVariants as asked
use Rattle.xt_messages.specs.declared.meta.MetaRefusal.{MetaRefusal}
use Rattle.xt_messages.specs.declared.meta.MetaRefusal.TheVariants as refusal
use Rattle.xt_messages.specs.declared.meta.MetaAnswer.{MetaAnswer}
use Rattle.xt_messages.specs.declared.meta.MetaAnswer.TheVariants as answer
use Rattle.xt_messages.specs.declared.registry.RegistryReq.{RegistryReq}
use Rattle.xt_messages.specs.declared.registry.RegistryReq.TheVariants as registry
use Rattle.xt_messages.specs.declared.registry.RegistryRow.{RegistryRow}
use Rattle.xt_messages.specs.declared.registry.RegistryAnswer.{RegistryAnswer}
use Rattle.xt_messages.specs.declared.registry.RegistryAnswer.TheVariants as row
use Rattle.xt_messages.specs.declared.message.Payload.{Payload}
use Rattle.xt_messages.specs.declared.message.Payload.TheVariants as payload
use Rattle.xt_messages.specs.declared.message.Msg.{Msg}

-- four bytes of length, and the bytes
abbrev pub octets_length : List ℕ → ℕ
octets_length bytes = 4 + length bytes

-- two bytes of length, and the text
abbrev pub text_length : List ℕ → ℕ
text_length text = 2 + length text

-- a flag, and the lease where there is one
abbrev pub report_length : Option Lease → ℕ
report_length None = 1
report_length (Some lease) = 21

abbrev pub location_length : Location → ℕ
location_length location = 10 + 4 * length location.members

-- the file, the mode, the expiry, the epoch, the location and the tag
abbrev pub capability_length : Capability → ℕ
capability_length capability = 73 + location_length capability.location

-- the promised epoch, the stamp, the last id, the mark, the versions and the sessions
abbrev pub head_length : FileHead → ℕ
head_length head = 68 + 28 * length head.versions + 20 * length head.sessions

abbrev pub update_length : Update → ℕ
update_length update = 64 + octets_length update.body

abbrev pub op_length : Op → ℕ
op_length (op.Read object at len) = 17
op_length (op.Write object at bytes) = 13 + octets_length bytes
op_length (op.Truncate size) = 9

abbrev pub reply_length : Reply → ℕ
reply_length (reply.Ok count mark bytes) = 25 + octets_length bytes
reply_length (reply.NoLease end) = 9
reply_length (reply.NoMajority have need) = 3
reply_length (reply.Elsewhere node end) = 13
reply_length (reply.Denied rule) = 2
reply_length (reply.OldList version) = 5
reply_length (reply.OldEpoch epoch) = 9
reply_length (reply.TooFar object) = 9
reply_length reply.ClientsFull = 1

abbrev pub meta_req_length : MetaReq → ℕ
meta_req_length (asked.Mkdir path mode) = 3 + text_length path
meta_req_length (asked.Create path mode kind n stripe) = 9 + text_length path
meta_req_length (asked.Rename from to) = 1 + text_length from + text_length to
meta_req_length (asked.Unlink path) = 1 + text_length path
meta_req_length (asked.Rmdir path) = 1 + text_length path
meta_req_length (asked.List path after) = 1 + text_length path + text_length after
meta_req_length (asked.Stat path) = 1 + text_length path
meta_req_length (asked.Chmod path mode) = 3 + text_length path
meta_req_length (asked.Grant path want) = 2 + text_length path
meta_req_length (asked.Report capability mark) = 17 + capability_length capability
meta_req_length (asked.Change path nodes) = 2 + text_length path + 4 * length nodes
meta_req_length (asked.Locate path) = 1 + text_length path

abbrev pub meta_refusal_length : MetaRefusal → ℕ
meta_refusal_length (refusal.Forbidden rule) = 2
meta_refusal_length (refusal.TooFew have) = 2
meta_refusal_length (refusal.Denied rule) = 2
meta_refusal_length (refusal.Changing version) = 5
meta_refusal_length (refusal.UnknownOsd node) = 5
meta_refusal_length _ = 1

abbrev pub meta_answer_length : MetaAnswer → ℕ
meta_answer_length answer.Done = 1
meta_answer_length (answer.Refused why) = meta_refusal_length why
meta_answer_length (answer.Names names) = 5 + sum_by text_length names
meta_answer_length (answer.Row kind owner group mode mark) = 28
meta_answer_length (answer.Granted capability mark) = 17 + capability_length capability
meta_answer_length (answer.Located location changing) = 2 + location_length location

abbrev pub registry_req_length : RegistryReq → ℕ
registry_req_length (registry.Set node kind address expected) = 14 + text_length address
registry_req_length (registry.Get node) = 5
registry_req_length (registry.List kind after) = 6
registry_req_length (registry.Remove node expected) = 13

-- the node, the kind, the address and the version
abbrev pub row_length : RegistryRow → ℕ
row_length r = 13 + text_length r.address

abbrev pub registry_answer_length : RegistryAnswer → ℕ
registry_answer_length (row.Done version) = 9
registry_answer_length (row.Changed version) = 9
registry_answer_length row.Absent = 1
registry_answer_length (row.Row r) = 1 + row_length r
registry_answer_length (row.Rows rows) = 5 + sum_by row_length rows

-- the fields of a payload
abbrev pub payload_length : Payload → ℕ
payload_length (payload.Read file ballot) = 44
payload_length (payload.Promise file ballot boot report) = 52 + report_length report
payload_length (payload.Write file ballot boot lease) = 72
payload_length (payload.Accepted file ballot boot) = 52
payload_length (payload.Outrun file ballot seen) = 64
payload_length (payload.Gather file epoch) = 36
payload_length (payload.Status file epoch head) = 36 + head_length head
payload_length (payload.Fetch file epoch object version) = 64
payload_length (payload.Object file epoch object version bytes) = 64 + octets_length bytes
payload_length (payload.Stage file epoch object version bytes) = 64 + octets_length bytes
payload_length (payload.Staged file epoch object version) = 64
payload_length (payload.Head file epoch head) = 36 + head_length head
payload_length (payload.Update file update) = 24 + update_length update
payload_length (payload.Ack file stamp) = 44
payload_length (payload.Refused file epoch promised) = 48
payload_length (payload.Behind file epoch stamp) = 56
payload_length (payload.Missing file epoch object version) = 64
payload_length (payload.Ask number capability operation) = 8 + capability_length capability + op_length operation
payload_length (payload.Reply number file r) = 32 + reply_length r
payload_length (payload.Meta number user group request) = 16 + meta_req_length request
payload_length (payload.MetaReply number a) = 8 + meta_answer_length a
payload_length (payload.Registry number request) = 8 + registry_req_length request
payload_length (payload.RegistryReply number a) = 8 + registry_answer_length a
payload_length (payload.Stop tag) = 32
payload_length (payload.Close file version) = 28
payload_length (payload.Closed file version head) = 28 + head_length head
payload_length (payload.Install file location head source) = 28 + location_length location + head_length head
payload_length (payload.Installed file version) = 28
payload_length (payload.Pull file object version) = 52
payload_length (payload.Pulled file object version bytes) = 52 + octets_length bytes
payload_length (payload.Wanted file) = 24

-- the version of a list above the first one, and the kind once more
abbrev pub list_length : ℕ → ℕ
list_length list = if list == 1 then 0 else 5

-- the length, the version, the kind, the sender and the receiver, and then the list, where it isn't the first one, and the fields
abbrev pub frame_length : Msg → ℕ
frame_length message = 14 + list_length message.list + payload_length message.payload
