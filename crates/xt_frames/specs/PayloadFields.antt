-- the fields of each kind, read from the front of bytes
use Rattle.std.specs.Prelude.{ℕ, Err, nat_lt, nat_le, ◌==◌, if◌then◌else◌}
use Rattle.xt_base.specs.declared.TheConstants.{BODY}
use Rattle.xt_base.specs.declared.ids.FileId.{FileId}
use Rattle.xt_base.specs.declared.ids.Ballot.{Ballot}
use Rattle.xt_base.specs.declared.ids.Epoch.{Epoch}
use Rattle.xt_messages.specs.declared.message.Payload.{Payload}
use Rattle.xt_messages.specs.declared.message.Payload.TheVariants as payload
use Rattle.xt_messages.specs.declared.message.Msg.{Msg}
use Rattle.xt_frames.specs.declared.reading.Versioned.{Versioned}
use Rattle.xt_frames.specs.declared.reading.Said.{Said}
use Rattle.xt_fields.specs.declared.fault.FieldErr.TheVariants as fault
use Rattle.xt_fields.specs.Reading.{Field, ◌&◌, made, fit}
use Rattle.xt_fields.specs.BasicFields.{word_at, long_at, count_at, raw_at, octets_at, tagged}
use Rattle.xt_wire.specs.IdFields.{node_at, boot_at, file_at, ballot_at, epoch_at, stamp_at, lease_at, report_at}
use Rattle.xt_wire.specs.FileFields.{version_at, location_at, capability_at, op_at, update_at, head_at}
use Rattle.xt_frames.specs.ReplyFields.{reply_at}
use Rattle.xt_wire.specs.MetaFields.{meta_req_at}
use Rattle.xt_frames.specs.MetaAnswers.{meta_answer_at}
use Rattle.xt_wire.specs.RegistryFields.{registry_req_at}
use Rattle.xt_frames.specs.RegistryAnswers.{registry_answer_at}

-- a file and a ballot, as the kinds of leases begin
unfoldable pub ballot_of_at : Field (FileId × Ballot)
ballot_of_at = file_at & ballot_at

-- a file and an epoch, as most kinds of replicas begin
unfoldable pub epoch_of_at : Field (FileId × Epoch)
epoch_of_at = file_at & epoch_at

-- a version of an object, asked for or sent in an epoch
unfoldable pub versioned_at : Field Versioned
versioned_at =
    made (λ v. record { file = v.0.0.0; epoch = v.0.0.1; object = v.0.1; version = v.1 })
    (epoch_of_at & long_at & stamp_at)

unfoldable pub read_fields : Field Payload
read_fields = made (λ f. payload.Read f.0 f.1) ballot_of_at

unfoldable pub promise_fields : Field Payload
promise_fields = made (λ f. payload.Promise f.0.0.0 f.0.0.1 f.0.1 f.1) (ballot_of_at & boot_at & report_at)

unfoldable pub write_fields : Field Payload
write_fields = made (λ f. payload.Write f.0.0.0 f.0.0.1 f.0.1 f.1) (ballot_of_at & boot_at & lease_at)

unfoldable pub accepted_fields : Field Payload
accepted_fields = made (λ f. payload.Accepted f.0.0 f.0.1 f.1) (ballot_of_at & boot_at)

unfoldable pub outrun_fields : Field Payload
outrun_fields = made (λ f. payload.Outrun f.0.0 f.0.1 f.1) (ballot_of_at & ballot_at)

unfoldable pub gather_fields : Field Payload
gather_fields = made (λ f. payload.Gather f.0 f.1) epoch_of_at

unfoldable pub status_fields : Field Payload
status_fields = made (λ f. payload.Status f.0.0 f.0.1 f.1) (epoch_of_at & head_at)

unfoldable pub fetch_fields : Field Payload
fetch_fields = made (λ v. payload.Fetch v.file v.epoch v.object v.version) versioned_at

unfoldable pub object_fields : Field Payload
object_fields = made (λ f. payload.Object f.0.file f.0.epoch f.0.object f.0.version f.1) (versioned_at & octets_at BODY)

unfoldable pub stage_fields : Field Payload
stage_fields = made (λ f. payload.Stage f.0.file f.0.epoch f.0.object f.0.version f.1) (versioned_at & octets_at BODY)

unfoldable pub staged_fields : Field Payload
staged_fields = made (λ v. payload.Staged v.file v.epoch v.object v.version) versioned_at

unfoldable pub head_fields : Field Payload
head_fields = made (λ f. payload.Head f.0.0 f.0.1 f.1) (epoch_of_at & head_at)

unfoldable pub update_fields : Field Payload
update_fields = made (λ f. payload.Update f.0 f.1) (file_at & update_at)

unfoldable pub ack_fields : Field Payload
ack_fields = made (λ f. payload.Ack f.0 f.1) (file_at & stamp_at)

unfoldable pub refused_fields : Field Payload
refused_fields = made (λ f. payload.Refused f.0.0 f.0.1 f.1) (epoch_of_at & epoch_at)

unfoldable pub behind_fields : Field Payload
behind_fields = made (λ f. payload.Behind f.0.0 f.0.1 f.1) (epoch_of_at & stamp_at)

unfoldable pub missing_fields : Field Payload
missing_fields = made (λ v. payload.Missing v.file v.epoch v.object v.version) versioned_at

unfoldable pub ask_fields : Field Payload
ask_fields = made (λ f. payload.Ask f.0.0 f.0.1 f.1) (count_at & capability_at & op_at)

unfoldable pub reply_fields : Field Payload
reply_fields = made (λ f. payload.Reply f.0.0 f.0.1 f.1) (count_at & file_at & reply_at)

unfoldable pub meta_fields : Field Payload
meta_fields = made (λ f. payload.Meta f.0.0.0 f.0.0.1 f.0.1 f.1) (count_at & word_at & word_at & meta_req_at)

unfoldable pub meta_reply_fields : Field Payload
meta_reply_fields = made (λ f. payload.MetaReply f.0 f.1) (count_at & meta_answer_at)

unfoldable pub registry_fields : Field Payload
registry_fields = made (λ f. payload.Registry f.0 f.1) (count_at & registry_req_at)

unfoldable pub registry_reply_fields : Field Payload
registry_reply_fields = made (λ f. payload.RegistryReply f.0 f.1) (count_at & registry_answer_at)

unfoldable pub stop_fields : Field Payload
stop_fields = made payload.Stop (raw_at 32)

unfoldable pub close_fields : Field Payload
close_fields = made (λ f. payload.Close f.0 f.1) (file_at & version_at)

unfoldable pub closed_fields : Field Payload
closed_fields = made (λ f. payload.Closed f.0.0 f.0.1 f.1) (file_at & version_at & head_at)

unfoldable pub install_fields : Field Payload
install_fields = made (λ f. payload.Install f.0.0.0 f.0.0.1 f.0.1 f.1) (file_at & location_at & head_at & node_at)

unfoldable pub installed_fields : Field Payload
installed_fields = made (λ f. payload.Installed f.0 f.1) (file_at & version_at)

unfoldable pub pull_fields : Field Payload
pull_fields = made (λ f. payload.Pull f.0.0 f.0.1 f.1) (file_at & long_at & stamp_at)

unfoldable pub pulled_fields : Field Payload
pulled_fields = made (λ f. payload.Pulled f.0.0.0 f.0.0.1 f.0.1 f.1) (file_at & long_at & stamp_at & octets_at BODY)

unfoldable pub wanted_fields : Field Payload
wanted_fields = made payload.Wanted file_at

unfoldable pub lease_arms : ℕ → Field Payload
lease_arms kind bytes =
    if kind == 1 then read_fields bytes
    else if kind == 2 then promise_fields bytes
    else if kind == 3 then write_fields bytes
    else if kind == 4 then accepted_fields bytes
    else if kind == 5 then outrun_fields bytes
    else Err fault.Unfit

unfoldable pub replica_arms : ℕ → Field Payload
replica_arms kind bytes =
    if kind == 6 then gather_fields bytes
    else if kind == 7 then status_fields bytes
    else if kind == 8 then fetch_fields bytes
    else if kind == 9 then object_fields bytes
    else if kind == 10 then stage_fields bytes
    else if kind == 11 then staged_fields bytes
    else if kind == 12 then head_fields bytes
    else if kind == 13 then update_fields bytes
    else if kind == 14 then ack_fields bytes
    else if kind == 15 then refused_fields bytes
    else if kind == 16 then behind_fields bytes
    else if kind == 17 then missing_fields bytes
    else Err fault.Unfit

unfoldable pub service_arms : ℕ → Field Payload
service_arms kind bytes =
    if kind == 18 then ask_fields bytes
    else if kind == 19 then reply_fields bytes
    else if kind == 20 then meta_fields bytes
    else if kind == 21 then meta_reply_fields bytes
    else if kind == 22 then registry_fields bytes
    else if kind == 23 then registry_reply_fields bytes
    else if kind == 24 then stop_fields bytes
    else Err fault.Unfit

unfoldable pub change_arms : ℕ → Field Payload
change_arms kind bytes =
    if kind == 33 then close_fields bytes
    else if kind == 34 then closed_fields bytes
    else if kind == 35 then install_fields bytes
    else if kind == 36 then installed_fields bytes
    else if kind == 37 then pull_fields bytes
    else if kind == 38 then pulled_fields bytes
    else if kind == 39 then wanted_fields bytes
    else Err fault.Unfit

-- what replicas of one list say to each other
unfoldable pub listed_arms : ℕ → Field Payload
listed_arms kind bytes = if nat_lt kind 6 then lease_arms kind bytes else replica_arms kind bytes

-- the fields of the kind of this number
unfoldable pub payload_arms : ℕ → Field Payload
payload_arms kind bytes =
    if nat_lt kind 6 then lease_arms kind bytes
    else if nat_lt kind 18 then replica_arms kind bytes
    else if nat_lt kind 33 then service_arms kind bytes
    else change_arms kind bytes

-- the version of a list that isn't the first one
unfoldable pub later_list_at : Field ℕ
later_list_at = fit (λ n. nat_le 2 n) version_at

-- what is said by the first list, and by a later one
unfoldable pub first_said_at : ℕ → Field Said
first_said_at kind = made (λ p. record { list = 1; payload = p }) (payload_arms kind)

unfoldable pub later_said_at : Field Said
later_said_at = made (λ s. record { list = s.0; payload = s.1 }) (later_list_at & tagged listed_arms)

unfoldable pub said_arms : ℕ → Field Said
said_arms kind bytes = if kind == 32 then later_said_at bytes else first_said_at kind bytes

-- the sender, the receiver and the fields
unfoldable pub message_at : ℕ → Field Msg
message_at kind =
    made (λ m. record { from = m.0.0; to = m.0.1; list = m.1.list; payload = m.1.payload }) (node_at & node_at & said_arms kind)
