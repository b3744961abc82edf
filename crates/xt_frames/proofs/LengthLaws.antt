-- frames are as long as the rule says, and no longer than the limit
use Rattle.std.proofs.Common.{◌≡◌, ◌+◌, ◌≤◌, ℕ, Bool, true, false, cond, eqb, ◌++◌, length, arith}
use Rattle.std.proofs.lemmas.List.{length-append}
use Rattle.xt_messages.specs.declared.message.Payload.{Payload}
use Rattle.xt_messages.specs.declared.message.Payload.TheVariants as payload
use Rattle.xt_messages.specs.declared.message.Msg.{Msg}
use Rattle.xt_messages.specs.Limits.{FitsPayload, FitsMessage}
use Rattle.xt_messages.specs.FrameLength.{payload_length, list_length, frame_length}
use Rattle.xt_fields.specs.BasicFields.{byte_bytes, word_bytes, long_bytes, octets_bytes}
use Rattle.xt_wire.specs.IdFields.{node_bytes, boot_bytes, file_bytes, ballot_bytes, epoch_bytes, stamp_bytes, lease_bytes, report_bytes}
use Rattle.xt_wire.specs.FileFields.{location_bytes, capability_bytes, op_bytes, update_bytes, head_bytes}
use Rattle.xt_frames.specs.ReplyFields.{reply_bytes}
use Rattle.xt_wire.specs.MetaFields.{meta_req_bytes}
use Rattle.xt_frames.specs.MetaAnswers.{meta_answer_bytes}
use Rattle.xt_wire.specs.RegistryFields.{registry_req_bytes}
use Rattle.xt_frames.specs.RegistryAnswers.{registry_answer_bytes}
use Rattle.xt_fields.proofs.BasicLaws.{word-length, long-length}
use Rattle.xt_frames.specs.Frames.{kind_of, payload_bytes, frame_fields, content_of, frame_of}
use Rattle.xt_wire.proofs.FieldLengths.{file_len, ballot_len, epoch_len, stamp_len, lease_len, report_len, octets_len, location_len, capability_len, op_len, update_len, head_len, meta_req_len, registry_req_len, members_bound, op_bound, meta_req_bound, registry_req_bound, report_bound}
use Rattle.xt_wire.proofs.FileLaws.{members_few}
use Rattle.xt_frames.proofs.AnswerLengths.{reply_len, meta_answer_len, registry_answer_len, reply_bound, meta_answer_bound, registry_answer_bound}

payload_len : (x : Payload) → FitsPayload x → length (payload_bytes x) ≡ payload_length x
payload_len (payload.Read file ballot) h = omega (arith, file_len file h.0, length-append (file_bytes file) (ballot_bytes ballot), ballot_len ballot)
payload_len (payload.Promise file ballot boot report) h = omega (arith, file_len file h.0, length-append (file_bytes file) (ballot_bytes ballot), ballot_len ballot, length-append (file_bytes file ++ ballot_bytes ballot) (boot_bytes boot), long-length boot.0, length-append (file_bytes file ++ ballot_bytes ballot ++ boot_bytes boot) (report_bytes report), report_len report)
payload_len (payload.Write file ballot boot lease) h = omega (arith, file_len file h.0, length-append (file_bytes file) (ballot_bytes ballot), ballot_len ballot, length-append (file_bytes file ++ ballot_bytes ballot) (boot_bytes boot), long-length boot.0, length-append (file_bytes file ++ ballot_bytes ballot ++ boot_bytes boot) (lease_bytes lease), lease_len lease)
payload_len (payload.Accepted file ballot boot) h = omega (arith, file_len file h.0, length-append (file_bytes file) (ballot_bytes ballot), ballot_len ballot, length-append (file_bytes file ++ ballot_bytes ballot) (boot_bytes boot), long-length boot.0)
payload_len (payload.Outrun file ballot seen) h = omega (arith, file_len file h.0, length-append (file_bytes file) (ballot_bytes ballot), ballot_len ballot, length-append (file_bytes file ++ ballot_bytes ballot) (ballot_bytes seen), ballot_len seen)
payload_len (payload.Gather file epoch) h = omega (arith, file_len file h.0, length-append (file_bytes file) (epoch_bytes epoch), epoch_len epoch)
payload_len (payload.Status file epoch head) h = omega (arith, file_len file h.0, length-append (file_bytes file) (epoch_bytes epoch), epoch_len epoch, length-append (file_bytes file ++ epoch_bytes epoch) (head_bytes head), head_len head)
payload_len (payload.Fetch file epoch object version) h = omega (arith, file_len file h.0, length-append (file_bytes file) (epoch_bytes epoch), epoch_len epoch, length-append (file_bytes file ++ epoch_bytes epoch) (long_bytes object), long-length object, length-append (file_bytes file ++ epoch_bytes epoch ++ long_bytes object) (stamp_bytes version), stamp_len version)
payload_len (payload.Object file epoch object version bytes) h = omega (arith, file_len file h.0, length-append (file_bytes file) (epoch_bytes epoch), epoch_len epoch, length-append (file_bytes file ++ epoch_bytes epoch) (long_bytes object), long-length object, length-append (file_bytes file ++ epoch_bytes epoch ++ long_bytes object) (stamp_bytes version), stamp_len version, length-append (file_bytes file ++ epoch_bytes epoch ++ long_bytes object ++ stamp_bytes version) (octets_bytes bytes), octets_len bytes)
payload_len (payload.Stage file epoch object version bytes) h = omega (arith, file_len file h.0, length-append (file_bytes file) (epoch_bytes epoch), epoch_len epoch, length-append (file_bytes file ++ epoch_bytes epoch) (long_bytes object), long-length object, length-append (file_bytes file ++ epoch_bytes epoch ++ long_bytes object) (stamp_bytes version), stamp_len version, length-append (file_bytes file ++ epoch_bytes epoch ++ long_bytes object ++ stamp_bytes version) (octets_bytes bytes), octets_len bytes)
payload_len (payload.Staged file epoch object version) h = omega (arith, file_len file h.0, length-append (file_bytes file) (epoch_bytes epoch), epoch_len epoch, length-append (file_bytes file ++ epoch_bytes epoch) (long_bytes object), long-length object, length-append (file_bytes file ++ epoch_bytes epoch ++ long_bytes object) (stamp_bytes version), stamp_len version)
payload_len (payload.Head file epoch head) h = omega (arith, file_len file h.0, length-append (file_bytes file) (epoch_bytes epoch), epoch_len epoch, length-append (file_bytes file ++ epoch_bytes epoch) (head_bytes head), head_len head)
payload_len (payload.Update file update) h = omega (arith, file_len file h.0, length-append (file_bytes file) (update_bytes update), update_len update)
payload_len (payload.Ack file stamp) h = omega (arith, file_len file h.0, length-append (file_bytes file) (stamp_bytes stamp), stamp_len stamp)
payload_len (payload.Refused file epoch promised) h = omega (arith, file_len file h.0, length-append (file_bytes file) (epoch_bytes epoch), epoch_len epoch, length-append (file_bytes file ++ epoch_bytes epoch) (epoch_bytes promised), epoch_len promised)
payload_len (payload.Behind file epoch stamp) h = omega (arith, file_len file h.0, length-append (file_bytes file) (epoch_bytes epoch), epoch_len epoch, length-append (file_bytes file ++ epoch_bytes epoch) (stamp_bytes stamp), stamp_len stamp)
payload_len (payload.Missing file epoch object version) h = omega (arith, file_len file h.0, length-append (file_bytes file) (epoch_bytes epoch), epoch_len epoch, length-append (file_bytes file ++ epoch_bytes epoch) (long_bytes object), long-length object, length-append (file_bytes file ++ epoch_bytes epoch ++ long_bytes object) (stamp_bytes version), stamp_len version)
payload_len (payload.Ask number capability op) h = omega (arith, long-length number, length-append (long_bytes number) (capability_bytes capability), capability_len capability h.1, length-append (long_bytes number ++ capability_bytes capability) (op_bytes op), op_len op)
payload_len (payload.Reply number file reply) h = omega (arith, long-length number, length-append (long_bytes number) (file_bytes file), file_len file h.1, length-append (long_bytes number ++ file_bytes file) (reply_bytes reply), reply_len reply)
payload_len (payload.Meta number user group request) h = omega (arith, long-length number, length-append (long_bytes number) (word_bytes user), word-length user, length-append (long_bytes number ++ word_bytes user) (word_bytes group), word-length group, length-append (long_bytes number ++ word_bytes user ++ word_bytes group) (meta_req_bytes request), meta_req_len request h.3)
payload_len (payload.MetaReply number answer) h = omega (arith, long-length number, length-append (long_bytes number) (meta_answer_bytes answer), meta_answer_len answer h.1)
payload_len (payload.Registry number request) h = omega (arith, long-length number, length-append (long_bytes number) (registry_req_bytes request), registry_req_len request)
payload_len (payload.RegistryReply number answer) h = omega (arith, long-length number, length-append (long_bytes number) (registry_answer_bytes answer), registry_answer_len answer)
payload_len (payload.Stop tag) h = omega (arith, h.whole)
payload_len (payload.Close file version) h = omega (arith, file_len file h.0, length-append (file_bytes file) (word_bytes version), word-length version)
payload_len (payload.Closed file version head) h = omega (arith, file_len file h.0, length-append (file_bytes file) (word_bytes version), word-length version, length-append (file_bytes file ++ word_bytes version) (head_bytes head), head_len head)
payload_len (payload.Install file location head source) h = omega (arith, file_len file h.0, length-append (file_bytes file) (location_bytes location), location_len location, length-append (file_bytes file ++ location_bytes location) (head_bytes head), head_len head, length-append (file_bytes file ++ location_bytes location ++ head_bytes head) (node_bytes source), word-length source.0)
payload_len (payload.Installed file version) h = omega (arith, file_len file h.0, length-append (file_bytes file) (word_bytes version), word-length version)
payload_len (payload.Pull file object version) h = omega (arith, file_len file h.0, length-append (file_bytes file) (long_bytes object), long-length object, length-append (file_bytes file ++ long_bytes object) (stamp_bytes version), stamp_len version)
payload_len (payload.Pulled file object version bytes) h = omega (arith, file_len file h.0, length-append (file_bytes file) (long_bytes object), long-length object, length-append (file_bytes file ++ long_bytes object) (stamp_bytes version), stamp_len version, length-append (file_bytes file ++ long_bytes object ++ stamp_bytes version) (octets_bytes bytes), octets_len bytes)
payload_len (payload.Wanted file) h = file_len file h

-- by whether the list is the first one
fields_by : (first : Bool) (list : ℕ) (x : Payload) → FitsPayload x
    → length (cond first (payload_bytes x) (word_bytes list ++ (byte_bytes (kind_of x) ++ payload_bytes x))) ≡ cond first 0 5 + payload_length x
fields_by true list x h = let same : length (payload_bytes x) ≡ 0 + payload_length x = omega (arith, payload_len x h) in same
fields_by false list x h =
    omega (arith, length-append (word_bytes list) (byte_bytes (kind_of x) ++ payload_bytes x), word-length list, payload_len x h)

pub fields_len : (list : ℕ) (x : Payload) → FitsPayload x → length (frame_fields list x) ≡ list_length list + payload_length x
fields_len list x h = fields_by (eqb list 1) list x h

pub content_len : (x : Msg) → FitsMessage x → length (content_of x) ≡ 10 + (list_length x.list + payload_length x.payload)
content_len x h =
    omega (arith, length-append (node_bytes x.from ++ node_bytes x.to) (frame_fields x.list x.payload), length-append (node_bytes x.from) (node_bytes x.to), word-length x.from.0, word-length x.to.0, fields_len x.list x.payload h.content)

pub frame_len : (x : Msg) → FitsMessage x → length (frame_of x) ≡ frame_length x
frame_len x h = omega (arith, length-append (word_bytes (4 + length (content_of x))) (content_of x), word-length (4 + length (content_of x)), content_len x h)

-- ---- the limit

payload_bound : (x : Payload) → FitsPayload x → payload_length x ≤ 1048557
payload_bound (payload.Read file ballot) h = omega arith
payload_bound (payload.Promise file ballot boot report) h = omega (arith, report_bound report)
payload_bound (payload.Write file ballot boot lease) h = omega arith
payload_bound (payload.Accepted file ballot boot) h = omega arith
payload_bound (payload.Outrun file ballot seen) h = omega arith
payload_bound (payload.Gather file epoch) h = omega arith
payload_bound (payload.Status file epoch head) h = omega (arith, h.2.objects.few, h.2.clients.few)
payload_bound (payload.Fetch file epoch object version) h = omega arith
payload_bound (payload.Object file epoch object version bytes) h = omega (arith, h.4.few)
payload_bound (payload.Stage file epoch object version bytes) h = omega (arith, h.4.few)
payload_bound (payload.Staged file epoch object version) h = omega arith
payload_bound (payload.Head file epoch head) h = omega (arith, h.2.objects.few, h.2.clients.few)
payload_bound (payload.Update file update) h = omega (arith, h.1.bytes.few)
payload_bound (payload.Ack file stamp) h = omega arith
payload_bound (payload.Refused file epoch promised) h = omega arith
payload_bound (payload.Behind file epoch stamp) h = omega arith
payload_bound (payload.Missing file epoch object version) h = omega arith
payload_bound (payload.Ask number capability op) h = omega (arith, members_bound capability h.1, op_bound op h.2)
payload_bound (payload.Reply number file reply) h = omega (arith, reply_bound reply h.2)
payload_bound (payload.Meta number user group request) h = omega (arith, meta_req_bound request h.3)
payload_bound (payload.MetaReply number answer) h = omega (arith, meta_answer_bound answer h.1)
payload_bound (payload.Registry number request) h = omega (arith, registry_req_bound request h.1)
payload_bound (payload.RegistryReply number answer) h = omega (arith, registry_answer_bound answer h.1)
payload_bound (payload.Stop tag) h = omega arith
payload_bound (payload.Close file version) h = omega arith
payload_bound (payload.Closed file version head) h = omega (arith, h.2.objects.few, h.2.clients.few)
payload_bound (payload.Install file location head source) h = omega (arith, members_few location.members h.1.nodes.different, h.2.objects.few, h.2.clients.few)
payload_bound (payload.Installed file version) h = omega arith
payload_bound (payload.Pull file object version) h = omega arith
payload_bound (payload.Pulled file object version bytes) h = omega (arith, h.3.few)
payload_bound (payload.Wanted file) h = omega arith

list_by : (first : Bool) → cond first 0 5 ≤ 5
list_by true = omega arith
list_by false = omega arith

list_bound : (list : ℕ) → list_length list ≤ 5
list_bound list = list_by (eqb list 1)

pub frame_bound : (x : Msg) → FitsMessage x → frame_length x ≤ 1048576
frame_bound x h = omega (arith, list_bound x.list, payload_bound x.payload h.content)
