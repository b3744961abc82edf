-- the fields of each kind: what is read is spelled so, and what is spelled so is read
use Rattle.std.proofs.Common.{◌≡◌, ◌<◌, ◌≤◌, ◌^◌, ℕ, Bool, true, false, cond, eqb, ltb, leb, List, ◌∷◌, ◌++◌, Result, Ok, inl, inr, refl, sym, ap, subst, ◌∙◌, append_assoc, arith}
use Rattle.std.specs.Prelude.{IsTrue}
use Rattle.std.proofs.lemmas.Bool.{ne_eqb, leb-true, le-leb}
use Rattle.xt_base.specs.declared.ids.NodeId.{NodeId}
use Rattle.xt_fields.specs.declared.fault.FieldErr.{FieldErr}
use Rattle.xt_base.specs.FieldLimits.{AreBytes}
use Rattle.xt_messages.specs.Limits.{FitsFile, FitsEpoch, FitsStamp, IsVersion, FitsPayload, is_of_list, IsLaterList, FitsList, FitsMessage}
use Rattle.xt_messages.specs.declared.message.Payload.{Payload}
use Rattle.xt_messages.specs.declared.message.Payload.TheVariants as payload
use Rattle.xt_messages.specs.declared.message.Msg.{Msg}
use Rattle.xt_frames.specs.declared.reading.Versioned.{Versioned}
use Rattle.xt_frames.specs.declared.reading.Said.{Said}
use Rattle.xt_fields.specs.Reading.{Field, ◌>>=◌, ◌&◌, made}
use Rattle.xt_fields.specs.BasicFields.{byte_bytes, word_bytes, long_bytes, byte_at, tagged}
use Rattle.xt_wire.specs.IdFields.{node_bytes, node_at, file_bytes, epoch_bytes, stamp_bytes}
use Rattle.xt_fields.specs.OneSpelling.{IsField, Taken}
use Rattle.xt_fields.proofs.Laws.{IsArm, AreArms, bind_ok, ok_is, both, made_field, fit_field, as_field, arm, arm_again, no_more, or_arm, more_arms}
use Rattle.xt_fields.proofs.BasicLaws.{word_field, long_field, count_field, body_field, tag_field, tagged_field}
use Rattle.xt_wire.proofs.IdLaws.{node_field, boot_field, file_field, ballot_field, epoch_field, stamp_field, lease_field, report_field}
use Rattle.xt_wire.proofs.FileLaws.{version_field, location_field, capability_field, op_field, update_field, head_field}
use Rattle.xt_frames.proofs.ReplyLaws.{reply_field}
use Rattle.xt_wire.proofs.MetaLaws.{meta_req_field}
use Rattle.xt_frames.proofs.MetaAnswerLaws.{meta_answer_field}
use Rattle.xt_wire.proofs.RegistryLaws.{registry_req_field}
use Rattle.xt_frames.proofs.RegistryAnswerLaws.{registry_answer_field}
use Rattle.xt_frames.specs.Frames.{kind_of, payload_bytes, frame_kind, frame_fields}
use Rattle.xt_frames.specs.Decoding.{is_kind}
use Rattle.xt_frames.specs.PayloadFields.{ballot_of_at, epoch_of_at, versioned_at, read_fields, promise_fields, write_fields, accepted_fields, outrun_fields, gather_fields, status_fields, fetch_fields, object_fields, stage_fields, staged_fields, head_fields, update_fields, ack_fields, refused_fields, behind_fields, missing_fields, ask_fields, reply_fields, meta_fields, meta_reply_fields, registry_fields, registry_reply_fields, stop_fields, close_fields, closed_fields, install_fields, installed_fields, pull_fields, pulled_fields, wanted_fields, lease_arms, replica_arms, service_arms, change_arms, listed_arms, payload_arms, later_list_at, first_said_at, later_said_at, said_arms, message_at}

-- the fields after the kind
abbrev pub marked : Payload → List ℕ
marked p = byte_bytes (kind_of p) ++ payload_bytes p

-- what replicas of one list say to each other
abbrev FitsListed : Payload → Type 0
FitsListed p = FitsPayload p × IsTrue (is_of_list p)

-- what the kinds about a version of an object begin with
versioned_field : IsField (λ (v : Versioned). file_bytes v.file ++ epoch_bytes v.epoch ++ long_bytes v.object ++ stamp_bytes v.version)
    (λ (v : Versioned). ((FitsFile v.file × FitsEpoch v.epoch) × (v.object < 2 ^ 64)) × FitsStamp v.version) versioned_at
unfolding versioned_at epoch_of_at
versioned_field =
    made_field (λ v. record { file = v.0.0.0; epoch = v.0.0.1; object = v.0.1; version = v.1 })
    (λ (v : Versioned). (((v.file, v.epoch), v.object), v.version)) (λ a. refl) (λ b. refl)
    (both (both (both file_field epoch_field) long_field) stamp_field)

read_arm : IsArm marked FitsListed 1 read_fields
unfolding read_fields ballot_of_at
read_arm = arm 1 (both file_field ballot_field) (λ f. payload.Read f.0 f.1) (λ a. refl) (λ a h. (assumption, refl))

promise_arm : IsArm marked FitsListed 2 promise_fields
unfolding promise_fields ballot_of_at
promise_arm = arm 2 (both (both (both file_field ballot_field) boot_field) report_field) (λ f. payload.Promise f.0.0.0 f.0.0.1 f.0.1 f.1) (λ a. refl) (λ a h. (assumption, refl))

write_arm : IsArm marked FitsListed 3 write_fields
unfolding write_fields ballot_of_at
write_arm = arm 3 (both (both (both file_field ballot_field) boot_field) lease_field) (λ f. payload.Write f.0.0.0 f.0.0.1 f.0.1 f.1) (λ a. refl) (λ a h. (assumption, refl))

accepted_arm : IsArm marked FitsListed 4 accepted_fields
unfolding accepted_fields ballot_of_at
accepted_arm = arm 4 (both (both file_field ballot_field) boot_field) (λ f. payload.Accepted f.0.0 f.0.1 f.1) (λ a. refl) (λ a h. (assumption, refl))

outrun_arm : IsArm marked FitsListed 5 outrun_fields
unfolding outrun_fields ballot_of_at
outrun_arm = arm 5 (both (both file_field ballot_field) ballot_field) (λ f. payload.Outrun f.0.0 f.0.1 f.1) (λ a. refl) (λ a h. (assumption, refl))

gather_arm : IsArm marked FitsListed 6 gather_fields
unfolding gather_fields epoch_of_at
gather_arm = arm 6 (both file_field epoch_field) (λ f. payload.Gather f.0 f.1) (λ a. refl) (λ a h. (assumption, refl))

status_arm : IsArm marked FitsListed 7 status_fields
unfolding status_fields epoch_of_at
status_arm = arm 7 (both (both file_field epoch_field) head_field) (λ f. payload.Status f.0.0 f.0.1 f.1) (λ a. refl) (λ a h. (assumption, refl))

fetch_arm : IsArm marked FitsListed 8 fetch_fields
unfolding fetch_fields
fetch_arm = arm 8 versioned_field (λ v. payload.Fetch v.file v.epoch v.object v.version) (λ a. refl) (λ a h. (assumption, refl))

object_arm : IsArm marked FitsListed 9 object_fields
unfolding object_fields
object_arm = arm 9 (both versioned_field body_field) (λ f. payload.Object f.0.file f.0.epoch f.0.object f.0.version f.1) (λ a. refl) (λ a h. (assumption, refl))

stage_arm : IsArm marked FitsListed 10 stage_fields
unfolding stage_fields
stage_arm = arm 10 (both versioned_field body_field) (λ f. payload.Stage f.0.file f.0.epoch f.0.object f.0.version f.1) (λ a. refl) (λ a h. (assumption, refl))

staged_arm : IsArm marked FitsListed 11 staged_fields
unfolding staged_fields
staged_arm = arm 11 versioned_field (λ v. payload.Staged v.file v.epoch v.object v.version) (λ a. refl) (λ a h. (assumption, refl))

head_arm : IsArm marked FitsListed 12 head_fields
unfolding head_fields epoch_of_at
head_arm = arm 12 (both (both file_field epoch_field) head_field) (λ f. payload.Head f.0.0 f.0.1 f.1) (λ a. refl) (λ a h. (assumption, refl))

update_arm : IsArm marked FitsListed 13 update_fields
unfolding update_fields
update_arm = arm 13 (both file_field update_field) (λ f. payload.Update f.0 f.1) (λ a. refl) (λ a h. (assumption, refl))

ack_arm : IsArm marked FitsListed 14 ack_fields
unfolding ack_fields
ack_arm = arm 14 (both file_field stamp_field) (λ f. payload.Ack f.0 f.1) (λ a. refl) (λ a h. (assumption, refl))

refused_arm : IsArm marked FitsListed 15 refused_fields
unfolding refused_fields epoch_of_at
refused_arm = arm 15 (both (both file_field epoch_field) epoch_field) (λ f. payload.Refused f.0.0 f.0.1 f.1) (λ a. refl) (λ a h. (assumption, refl))

behind_arm : IsArm marked FitsListed 16 behind_fields
unfolding behind_fields epoch_of_at
behind_arm = arm 16 (both (both file_field epoch_field) stamp_field) (λ f. payload.Behind f.0.0 f.0.1 f.1) (λ a. refl) (λ a h. (assumption, refl))

missing_arm : IsArm marked FitsListed 17 missing_fields
unfolding missing_fields
missing_arm = arm 17 versioned_field (λ v. payload.Missing v.file v.epoch v.object v.version) (λ a. refl) (λ a h. (assumption, refl))

ask_arm : IsArm marked FitsPayload 18 ask_fields
unfolding ask_fields
ask_arm = arm 18 (both (both count_field capability_field) op_field) (λ f. payload.Ask f.0.0 f.0.1 f.1) (λ a. refl) (λ a h. assumption)

reply_arm : IsArm marked FitsPayload 19 reply_fields
unfolding reply_fields
reply_arm = arm 19 (both (both count_field file_field) reply_field) (λ f. payload.Reply f.0.0 f.0.1 f.1) (λ a. refl) (λ a h. assumption)

meta_arm : IsArm marked FitsPayload 20 meta_fields
unfolding meta_fields
meta_arm = arm 20 (both (both (both count_field word_field) word_field) meta_req_field) (λ f. payload.Meta f.0.0.0 f.0.0.1 f.0.1 f.1) (λ a. refl) (λ a h. assumption)

meta_reply_arm : IsArm marked FitsPayload 21 meta_reply_fields
unfolding meta_reply_fields
meta_reply_arm = arm 21 (both count_field meta_answer_field) (λ f. payload.MetaReply f.0 f.1) (λ a. refl) (λ a h. assumption)

registry_arm : IsArm marked FitsPayload 22 registry_fields
unfolding registry_fields
registry_arm = arm 22 (both count_field registry_req_field) (λ f. payload.Registry f.0 f.1) (λ a. refl) (λ a h. assumption)

registry_reply_arm : IsArm marked FitsPayload 23 registry_reply_fields
unfolding registry_reply_fields
registry_reply_arm = arm 23 (both count_field registry_answer_field) (λ f. payload.RegistryReply f.0 f.1) (λ a. refl) (λ a h. assumption)

stop_arm : IsArm marked FitsPayload 24 stop_fields
unfolding stop_fields
stop_arm = arm 24 tag_field payload.Stop (λ a. refl) (λ a h. assumption)

close_arm : IsArm marked FitsPayload 33 close_fields
unfolding close_fields
close_arm = arm 33 (both file_field version_field) (λ f. payload.Close f.0 f.1) (λ a. refl) (λ a h. assumption)

closed_arm : IsArm marked FitsPayload 34 closed_fields
unfolding closed_fields
closed_arm = arm 34 (both (both file_field version_field) head_field) (λ f. payload.Closed f.0.0 f.0.1 f.1) (λ a. refl) (λ a h. assumption)

install_arm : IsArm marked FitsPayload 35 install_fields
unfolding install_fields
install_arm = arm 35 (both (both (both file_field location_field) head_field) node_field) (λ f. payload.Install f.0.0.0 f.0.0.1 f.0.1 f.1) (λ a. refl) (λ a h. assumption)

installed_arm : IsArm marked FitsPayload 36 installed_fields
unfolding installed_fields
installed_arm = arm 36 (both file_field version_field) (λ f. payload.Installed f.0 f.1) (λ a. refl) (λ a h. assumption)

pull_arm : IsArm marked FitsPayload 37 pull_fields
unfolding pull_fields
pull_arm = arm 37 (both (both file_field long_field) stamp_field) (λ f. payload.Pull f.0.0 f.0.1 f.1) (λ a. refl) (λ a h. assumption)

pulled_arm : IsArm marked FitsPayload 38 pulled_fields
unfolding pulled_fields
pulled_arm = arm 38 (both (both (both file_field long_field) stamp_field) body_field) (λ f. payload.Pulled f.0.0.0 f.0.0.1 f.0.1 f.1) (λ a. refl) (λ a h. assumption)

wanted_arm : IsArm marked FitsPayload 39 wanted_fields
unfolding wanted_fields
wanted_arm = arm 39 file_field payload.Wanted (λ a. refl) (λ a h. assumption)

lease_arms_take : AreArms marked FitsListed lease_arms
unfolding lease_arms
lease_arms_take = or_arm 1 read_arm (or_arm 2 promise_arm (or_arm 3 write_arm (or_arm 4 accepted_arm (or_arm 5 outrun_arm no_more))))

replica_arms_take : AreArms marked FitsListed replica_arms
unfolding replica_arms
replica_arms_take = or_arm 6 gather_arm (or_arm 7 status_arm (or_arm 8 fetch_arm (or_arm 9 object_arm (or_arm 10 stage_arm (or_arm 11 staged_arm (or_arm 12 head_arm (or_arm 13 update_arm (or_arm 14 ack_arm (or_arm 15 refused_arm (or_arm 16 behind_arm (or_arm 17 missing_arm no_more)))))))))))

service_arms_take : AreArms marked FitsPayload service_arms
unfolding service_arms
service_arms_take = or_arm 18 ask_arm (or_arm 19 reply_arm (or_arm 20 meta_arm (or_arm 21 meta_reply_arm (or_arm 22 registry_arm (or_arm 23 registry_reply_arm (or_arm 24 stop_arm no_more))))))

change_arms_take : AreArms marked FitsPayload change_arms
unfolding change_arms
change_arms_take = or_arm 33 close_arm (or_arm 34 closed_arm (or_arm 35 install_arm (or_arm 36 installed_arm (or_arm 37 pull_arm (or_arm 38 pulled_arm (or_arm 39 wanted_arm no_more))))))

-- the arms below a number, and the others
either : {B : Type 0} {bytes : B → List ℕ} {fits : B → Type 0} {below above : ℕ → Field B} (k : ℕ) → AreArms bytes fits below → AreArms bytes fits above
    → AreArms bytes fits (λ kind given. cond (ltb kind k) (below kind given) (above kind given))
either {B} {bytes} {fits} {below} {above} k p q = record {
  takes = λ kind given x all e.
      elim (ltb kind k) as (λ b. cond b (below kind given) (above kind given) ≡ Ok x → Taken (kind ∷ given) (bytes x.0) x.1 (fits x.0)) [
        | true ↦ λ e. p.takes kind given x all e
        | false ↦ λ e. q.takes kind given x all e
      ] e;
}

-- the same arms, where less is said of them
any_list : {at : ℕ → Field Payload} → AreArms marked FitsListed at → AreArms marked FitsPayload at
any_list p = record { takes = λ kind given x all e. let s = p.takes kind given x all e in record { parts = s.parts; left = s.left; within = s.within.0 } }

listed_arms_take : AreArms marked FitsListed listed_arms
unfolding listed_arms
listed_arms_take = either 6 lease_arms_take replica_arms_take

pub payload_arms_take : AreArms marked FitsPayload payload_arms
unfolding payload_arms
payload_arms_take = either 6 (any_list lease_arms_take) (either 18 (any_list replica_arms_take) (either 33 service_arms_take change_arms_take))

pub payload_again : (p : Payload) (rest : List ℕ) → FitsPayload p → payload_arms (kind_of p) (payload_bytes p ++ rest) ≡ Ok (p, rest)
unfolding payload_arms lease_arms replica_arms service_arms change_arms ballot_of_at epoch_of_at read_fields promise_fields write_fields accepted_fields outrun_fields gather_fields status_fields fetch_fields object_fields stage_fields staged_fields head_fields update_fields ack_fields refused_fields behind_fields missing_fields ask_fields reply_fields meta_fields meta_reply_fields registry_fields registry_reply_fields stop_fields close_fields closed_fields install_fields installed_fields pull_fields pulled_fields wanted_fields
payload_again (payload.Read file ballot) rest h = arm_again (both file_field ballot_field) (λ f. payload.Read f.0 f.1) (file, ballot) rest assumption
payload_again (payload.Promise file ballot boot report) rest h = arm_again (both (both (both file_field ballot_field) boot_field) report_field) (λ f. payload.Promise f.0.0.0 f.0.0.1 f.0.1 f.1) (((file, ballot), boot), report) rest assumption
payload_again (payload.Write file ballot boot lease) rest h = arm_again (both (both (both file_field ballot_field) boot_field) lease_field) (λ f. payload.Write f.0.0.0 f.0.0.1 f.0.1 f.1) (((file, ballot), boot), lease) rest assumption
payload_again (payload.Accepted file ballot boot) rest h = arm_again (both (both file_field ballot_field) boot_field) (λ f. payload.Accepted f.0.0 f.0.1 f.1) ((file, ballot), boot) rest assumption
payload_again (payload.Outrun file ballot seen) rest h = arm_again (both (both file_field ballot_field) ballot_field) (λ f. payload.Outrun f.0.0 f.0.1 f.1) ((file, ballot), seen) rest assumption
payload_again (payload.Gather file epoch) rest h = arm_again (both file_field epoch_field) (λ f. payload.Gather f.0 f.1) (file, epoch) rest assumption
payload_again (payload.Status file epoch head) rest h = arm_again (both (both file_field epoch_field) head_field) (λ f. payload.Status f.0.0 f.0.1 f.1) ((file, epoch), head) rest assumption
payload_again (payload.Fetch file epoch object version) rest h = arm_again versioned_field (λ v. payload.Fetch v.file v.epoch v.object v.version) (record { file = file; epoch = epoch; object = object; version = version }) rest assumption
payload_again (payload.Object file epoch object version bytes) rest h = arm_again (both versioned_field body_field) (λ f. payload.Object f.0.file f.0.epoch f.0.object f.0.version f.1) (record { file = file; epoch = epoch; object = object; version = version }, bytes) rest assumption
payload_again (payload.Stage file epoch object version bytes) rest h = arm_again (both versioned_field body_field) (λ f. payload.Stage f.0.file f.0.epoch f.0.object f.0.version f.1) (record { file = file; epoch = epoch; object = object; version = version }, bytes) rest assumption
payload_again (payload.Staged file epoch object version) rest h = arm_again versioned_field (λ v. payload.Staged v.file v.epoch v.object v.version) (record { file = file; epoch = epoch; object = object; version = version }) rest assumption
payload_again (payload.Head file epoch head) rest h = arm_again (both (both file_field epoch_field) head_field) (λ f. payload.Head f.0.0 f.0.1 f.1) ((file, epoch), head) rest assumption
payload_again (payload.Update file update) rest h = arm_again (both file_field update_field) (λ f. payload.Update f.0 f.1) (file, update) rest assumption
payload_again (payload.Ack file stamp) rest h = arm_again (both file_field stamp_field) (λ f. payload.Ack f.0 f.1) (file, stamp) rest assumption
payload_again (payload.Refused file epoch promised) rest h = arm_again (both (both file_field epoch_field) epoch_field) (λ f. payload.Refused f.0.0 f.0.1 f.1) ((file, epoch), promised) rest assumption
payload_again (payload.Behind file epoch stamp) rest h = arm_again (both (both file_field epoch_field) stamp_field) (λ f. payload.Behind f.0.0 f.0.1 f.1) ((file, epoch), stamp) rest assumption
payload_again (payload.Missing file epoch object version) rest h = arm_again versioned_field (λ v. payload.Missing v.file v.epoch v.object v.version) (record { file = file; epoch = epoch; object = object; version = version }) rest assumption
payload_again (payload.Ask number capability op) rest h = arm_again (both (both count_field capability_field) op_field) (λ f. payload.Ask f.0.0 f.0.1 f.1) ((number, capability), op) rest assumption
payload_again (payload.Reply number file reply) rest h = arm_again (both (both count_field file_field) reply_field) (λ f. payload.Reply f.0.0 f.0.1 f.1) ((number, file), reply) rest assumption
payload_again (payload.Meta number user group request) rest h = arm_again (both (both (both count_field word_field) word_field) meta_req_field) (λ f. payload.Meta f.0.0.0 f.0.0.1 f.0.1 f.1) (((number, user), group), request) rest assumption
payload_again (payload.MetaReply number answer) rest h = arm_again (both count_field meta_answer_field) (λ f. payload.MetaReply f.0 f.1) (number, answer) rest assumption
payload_again (payload.Registry number request) rest h = arm_again (both count_field registry_req_field) (λ f. payload.Registry f.0 f.1) (number, request) rest assumption
payload_again (payload.RegistryReply number answer) rest h = arm_again (both count_field registry_answer_field) (λ f. payload.RegistryReply f.0 f.1) (number, answer) rest assumption
payload_again (payload.Stop tag) rest h = arm_again tag_field payload.Stop tag rest assumption
payload_again (payload.Close file version) rest h = arm_again (both file_field version_field) (λ f. payload.Close f.0 f.1) (file, version) rest assumption
payload_again (payload.Closed file version head) rest h = arm_again (both (both file_field version_field) head_field) (λ f. payload.Closed f.0.0 f.0.1 f.1) ((file, version), head) rest assumption
payload_again (payload.Install file location head source) rest h = arm_again (both (both (both file_field location_field) head_field) node_field) (λ f. payload.Install f.0.0.0 f.0.0.1 f.0.1 f.1) (((file, location), head), source) rest assumption
payload_again (payload.Installed file version) rest h = arm_again (both file_field version_field) (λ f. payload.Installed f.0 f.1) (file, version) rest assumption
payload_again (payload.Pull file object version) rest h = arm_again (both (both file_field long_field) stamp_field) (λ f. payload.Pull f.0.0 f.0.1 f.1) ((file, object), version) rest assumption
payload_again (payload.Pulled file object version bytes) rest h = arm_again (both (both (both file_field long_field) stamp_field) body_field) (λ f. payload.Pulled f.0.0.0 f.0.0.1 f.0.1 f.1) (((file, object), version), bytes) rest assumption
payload_again (payload.Wanted file) rest h = arm_again file_field payload.Wanted file rest assumption

-- ---- the list

-- what is said, after the kind of its frame
abbrev said_bytes : Said → List ℕ
said_bytes s = byte_bytes (frame_kind s.list s.payload) ++ frame_fields s.list s.payload

abbrev FitsSaid : Said → Type 0
FitsSaid s = FitsList s.list s.payload × FitsPayload s.payload

-- the version of a list that isn't the first one
abbrev IsLater : ℕ → Type 0
IsLater list = (2 ≤ list) × IsVersion list

later_list_field : IsField word_bytes IsLater later_list_at
unfolding later_list_at
later_list_field = as_field (λ n h. (leb-true _ _ h.1, h.0)) (λ n h. (h.1, le-leb _ _ h.0)) (fit_field (λ n. leb 2 n) version_field)

no_list : false ≡ true → ⊥
no_list h = cc

-- by the numbers of kinds, in two halves
listed_again : (p : Payload) (rest : List ℕ) → FitsListed p → tagged listed_arms (marked p ++ rest) ≡ Ok (p, rest)
unfolding byte_at listed_arms payload_arms
listed_again (payload.Read file ballot) rest h = payload_again (payload.Read file ballot) rest h.0
listed_again (payload.Promise file ballot boot report) rest h = payload_again (payload.Promise file ballot boot report) rest h.0
listed_again (payload.Write file ballot boot lease) rest h = payload_again (payload.Write file ballot boot lease) rest h.0
listed_again (payload.Accepted file ballot boot) rest h = payload_again (payload.Accepted file ballot boot) rest h.0
listed_again (payload.Outrun file ballot seen) rest h = payload_again (payload.Outrun file ballot seen) rest h.0
listed_again (payload.Gather file epoch) rest h = payload_again (payload.Gather file epoch) rest h.0
listed_again (payload.Status file epoch head) rest h = payload_again (payload.Status file epoch head) rest h.0
listed_again (payload.Fetch file epoch object version) rest h = payload_again (payload.Fetch file epoch object version) rest h.0
listed_again (payload.Object file epoch object version bytes) rest h = payload_again (payload.Object file epoch object version bytes) rest h.0
listed_again (payload.Stage file epoch object version bytes) rest h = payload_again (payload.Stage file epoch object version bytes) rest h.0
listed_again (payload.Staged file epoch object version) rest h = payload_again (payload.Staged file epoch object version) rest h.0
listed_again (payload.Head file epoch head) rest h = payload_again (payload.Head file epoch head) rest h.0
listed_again (payload.Update file update) rest h = payload_again (payload.Update file update) rest h.0
listed_again (payload.Ack file stamp) rest h = payload_again (payload.Ack file stamp) rest h.0
listed_again (payload.Refused file epoch promised) rest h = payload_again (payload.Refused file epoch promised) rest h.0
listed_again (payload.Behind file epoch stamp) rest h = payload_again (payload.Behind file epoch stamp) rest h.0
listed_again (payload.Missing file epoch object version) rest h = payload_again (payload.Missing file epoch object version) rest h.0
listed_again (payload.Ask number capability op) rest h = absurd (no_list h.1)
listed_again (payload.Reply number file reply) rest h = absurd (no_list h.1)
listed_again (payload.Meta number user group request) rest h = absurd (no_list h.1)
listed_again (payload.MetaReply number answer) rest h = absurd (no_list h.1)
listed_again (payload.Registry number request) rest h = absurd (no_list h.1)
listed_again (payload.RegistryReply number answer) rest h = absurd (no_list h.1)
listed_again (payload.Stop tag) rest h = absurd (no_list h.1)
listed_again (payload.Close file version) rest h = absurd (no_list h.1)
listed_again (payload.Closed file version head) rest h = absurd (no_list h.1)
listed_again (payload.Install file location head source) rest h = absurd (no_list h.1)
listed_again (payload.Installed file version) rest h = absurd (no_list h.1)
listed_again (payload.Pull file object version) rest h = absurd (no_list h.1)
listed_again (payload.Pulled file object version bytes) rest h = absurd (no_list h.1)
listed_again (payload.Wanted file) rest h = absurd (no_list h.1)

listed_field : IsField marked FitsListed (tagged listed_arms)
listed_field = tagged_field listed_arms_take listed_again

-- a list that isn't the first one is another number
not_first : (list : ℕ) → 2 ≤ list → eqb list 1 ≡ false
not_first list h = ne_eqb _ _ (omega arith)

later_spelled : (list : ℕ) (p : Payload) → 2 ≤ list → said_bytes (record { list = list; payload = p }) ≡ 32 ∷ (word_bytes list ++ marked p)
later_spelled list p h = rw (not_first list h) refl

abbrev told : Said → List ℕ → Result (Said × List ℕ) FieldErr
told s rest = Ok (s, rest)

abbrev said_of : ℕ × Payload → Said
said_of p = record { list = p.0; payload = p.1 }

later_arm : IsArm said_bytes FitsSaid 32 later_said_at
unfolding later_said_at
later_arm = record {
  takes = λ given x all e.
      let a = bind_ok ((later_list_at & tagged listed_arms) given) (λ read. told (said_of read.0) read.1) x e in
      let s = (both later_list_field listed_field).takes given a.0 all a.1 in
      let made_of : Said × List ℕ = (said_of a.0.0, a.0.1) in
      let whole : 32 ∷ given ≡ said_bytes (said_of a.0.0) ++ a.0.1 =
      ap (λ (t : List ℕ). 32 ∷ t) s.parts ∙ ap (λ (t : List ℕ). t ++ a.0.1) (sym (later_spelled a.0.0.0 a.0.0.1 s.within.0.0)) in
      subst (λ (y : Said × List ℕ). Taken (32 ∷ given) (said_bytes y.0) y.1 (FitsSaid y.0)) (ok_is made_of x a.2)
      (record { parts = whole; left = s.left; within = (inr (record { later = s.within.0.0; version = s.within.0.1; among = s.within.1.1 }), s.within.1.0) });
}

first_arms : AreArms said_bytes FitsSaid first_said_at
unfolding first_said_at
first_arms = more_arms (λ p. record { list = 1; payload = p }) (λ a. refl) (λ a h. (inl refl, h)) payload_arms_take

said_arms_take : AreArms said_bytes FitsSaid said_arms
unfolding said_arms
said_arms_take = or_arm 32 later_arm first_arms

-- no payload has the number of the kind that carries the list
own_kind : (p : Payload) → eqb (kind_of p) 32 ≡ false
own_kind (payload.Read file ballot) = refl
own_kind (payload.Promise file ballot boot report) = refl
own_kind (payload.Write file ballot boot lease) = refl
own_kind (payload.Accepted file ballot boot) = refl
own_kind (payload.Outrun file ballot seen) = refl
own_kind (payload.Gather file epoch) = refl
own_kind (payload.Status file epoch head) = refl
own_kind (payload.Fetch file epoch object version) = refl
own_kind (payload.Object file epoch object version bytes) = refl
own_kind (payload.Stage file epoch object version bytes) = refl
own_kind (payload.Staged file epoch object version) = refl
own_kind (payload.Head file epoch head) = refl
own_kind (payload.Update file update) = refl
own_kind (payload.Ack file stamp) = refl
own_kind (payload.Refused file epoch promised) = refl
own_kind (payload.Behind file epoch stamp) = refl
own_kind (payload.Missing file epoch object version) = refl
own_kind (payload.Ask number capability op) = refl
own_kind (payload.Reply number file reply) = refl
own_kind (payload.Meta number user group request) = refl
own_kind (payload.MetaReply number answer) = refl
own_kind (payload.Registry number request) = refl
own_kind (payload.RegistryReply number answer) = refl
own_kind (payload.Stop tag) = refl
own_kind (payload.Close file version) = refl
own_kind (payload.Closed file version head) = refl
own_kind (payload.Install file location head source) = refl
own_kind (payload.Installed file version) = refl
own_kind (payload.Pull file object version) = refl
own_kind (payload.Pulled file object version bytes) = refl
own_kind (payload.Wanted file) = refl

-- what reads a payload reads what the first list says
first_told : (field : Field Payload) (bytes : List ℕ) {x : Payload × List ℕ} → field bytes ≡ Ok x
    → made (λ p. said_of (1, p)) field bytes ≡ told (said_of (1, x.0)) x.1
first_told field bytes e = rw e refl

first_again : (p : Payload) (rest : List ℕ) → FitsPayload p → said_arms (kind_of p) (payload_bytes p ++ rest) ≡ told (said_of (1, p)) rest
unfolding said_arms first_said_at
first_again p rest fits = rw (own_kind p) (first_told (payload_arms (kind_of p)) (payload_bytes p ++ rest) (payload_again p rest fits))

later_again : (list : ℕ) (p : Payload) (rest : List ℕ) → IsLaterList list p → FitsPayload p
    → said_arms (frame_kind list p) (frame_fields list p ++ rest) ≡ told (said_of (list, p)) rest
unfolding said_arms later_said_at
later_again list p rest later fits =
    rw (not_first list later.later)
    (arm_again (both later_list_field listed_field) said_of (list, p) rest ((later.later, later.version), (fits, later.among)))

said_again : (list : ℕ) (p : Payload) (rest : List ℕ) → FitsList list p → FitsPayload p
    → said_arms (frame_kind list p) (frame_fields list p ++ rest) ≡ told (said_of (list, p)) rest
said_again list p rest (inl first) fits =
    subst (λ (l : ℕ). said_arms (frame_kind l p) (frame_fields l p ++ rest) ≡ told (said_of (l, p)) rest) (sym first) (first_again p rest fits)
said_again list p rest (inr later) fits = later_again list p rest later fits

-- ---- the nodes and the fields

-- the sender, the receiver and the fields
abbrev pub addressed : Msg → List ℕ
addressed msg = (node_bytes msg.from ++ node_bytes msg.to) ++ frame_fields msg.list msg.payload

abbrev sent : Msg → List ℕ → Result (Msg × List ℕ) FieldErr
sent msg rest = Ok (msg, rest)

abbrev message_from : NodeId → NodeId → Said → Msg
message_from from to s = record { from = from; to = to; list = s.list; payload = s.payload }

pub message_takes : (kind : ℕ) (given : List ℕ) (x : Msg × List ℕ) → AreBytes given → message_at kind given ≡ Ok x
    → Taken (kind ∷ given) (frame_kind x.0.list x.0.payload ∷ addressed x.0) x.1 (FitsMessage x.0)
unfolding message_at
message_takes kind given x all e =
    let a = bind_ok ((node_at & node_at & said_arms kind) given) (λ m. sent (message_from m.0.0.0 m.0.0.1 m.0.1) m.1) x e in
    let b = bind_ok ((node_at & node_at) given) (λ first. said_arms kind first.1 >>= λ second. Ok ((first.0, second.0), second.1)) a.0 a.1 in
    let d = bind_ok (said_arms kind b.0.1) (λ second. Ok ((b.0.0, second.0), second.1)) a.0 b.2 in
    let s = (both node_field node_field).takes given b.0 all b.1 in
    let t = said_arms_take.takes kind b.0.1 d.0 s.left d.1 in
    let nodes = node_bytes b.0.0.0 ++ node_bytes b.0.0.1 in
    let made_of : Msg × List ℕ = (message_from b.0.0.0 b.0.0.1 d.0.0, d.0.1) in
    let same : made_of ≡ x = ok_is made_of x (ap (λ (m : ((_ × _) × Said) × List ℕ). sent (message_from m.0.0.0 m.0.0.1 m.0.1) m.1) (ok_is _ _ d.2) ∙ a.2) in
    let number : kind ≡ frame_kind d.0.0.list d.0.0.payload = cc in
    let fields : b.0.1 ≡ frame_fields d.0.0.list d.0.0.payload ++ d.0.1 = cc in
    let parts : kind ∷ given ≡ (frame_kind d.0.0.list d.0.0.payload ∷ addressed made_of.0) ++ d.0.1 =
    ap (λ (k : ℕ). k ∷ given) number
    ∙ ap (λ (t : List ℕ). frame_kind d.0.0.list d.0.0.payload ∷ t) (s.parts ∙ ap (λ (t : List ℕ). nodes ++ t) fields ∙ sym (append_assoc nodes (frame_fields d.0.0.list d.0.0.payload) d.0.1))
    in
    subst (λ (y : Msg × List ℕ). Taken (kind ∷ given) (frame_kind y.0.list y.0.payload ∷ addressed y.0) y.1 (FitsMessage y.0)) same
    (record { parts = parts; left = t.left; within = record { sender = s.within.0; receiver = s.within.1; listed = t.within.0; content = t.within.1 } })

pub message_again : (msg : Msg) (rest : List ℕ) → FitsMessage msg → message_at (frame_kind msg.list msg.payload) (addressed msg ++ rest) ≡ Ok (msg, rest)
unfolding message_at
message_again msg rest fits =
    let fields = frame_fields msg.list msg.payload in
    let regrouped : addressed msg ++ rest ≡ node_bytes msg.from ++ (node_bytes msg.to ++ (fields ++ rest)) =
    append_assoc (node_bytes msg.from ++ node_bytes msg.to) fields rest ∙ append_assoc (node_bytes msg.from) (node_bytes msg.to) (fields ++ rest)
    in
    let sender = node_field.again msg.from (node_bytes msg.to ++ (fields ++ rest)) fits.sender in
    let receiver = node_field.again msg.to (fields ++ rest) fits.receiver in
    let said = said_again msg.list msg.payload rest fits.listed fits.content in
    ap (message_at (frame_kind msg.list msg.payload)) regrouped ∙ rw (sender, receiver, said) refl

own_fits : (p : Payload) → is_kind (kind_of p) ≡ true
own_fits (payload.Read file ballot) = refl
own_fits (payload.Promise file ballot boot report) = refl
own_fits (payload.Write file ballot boot lease) = refl
own_fits (payload.Accepted file ballot boot) = refl
own_fits (payload.Outrun file ballot seen) = refl
own_fits (payload.Gather file epoch) = refl
own_fits (payload.Status file epoch head) = refl
own_fits (payload.Fetch file epoch object version) = refl
own_fits (payload.Object file epoch object version bytes) = refl
own_fits (payload.Stage file epoch object version bytes) = refl
own_fits (payload.Staged file epoch object version) = refl
own_fits (payload.Head file epoch head) = refl
own_fits (payload.Update file update) = refl
own_fits (payload.Ack file stamp) = refl
own_fits (payload.Refused file epoch promised) = refl
own_fits (payload.Behind file epoch stamp) = refl
own_fits (payload.Missing file epoch object version) = refl
own_fits (payload.Ask number capability op) = refl
own_fits (payload.Reply number file reply) = refl
own_fits (payload.Meta number user group request) = refl
own_fits (payload.MetaReply number answer) = refl
own_fits (payload.Registry number request) = refl
own_fits (payload.RegistryReply number answer) = refl
own_fits (payload.Stop tag) = refl
own_fits (payload.Close file version) = refl
own_fits (payload.Closed file version head) = refl
own_fits (payload.Install file location head source) = refl
own_fits (payload.Installed file version) = refl
own_fits (payload.Pull file object version) = refl
own_fits (payload.Pulled file object version bytes) = refl
own_fits (payload.Wanted file) = refl

kind_by : (first : Bool) (p : Payload) → is_kind (cond first (kind_of p) 32) ≡ true
kind_by true p = own_fits p
kind_by false p = refl

pub kind_fits : (list : ℕ) (p : Payload) → is_kind (frame_kind list p) ≡ true
kind_fits list p = kind_by (eqb list 1) p
