-- locations, capabilities, operations, updates and heads as fields
use Rattle.std.specs.Prelude.{ℕ, ◌^◌, ◌%◌, List, ◌++◌, length, map, Ok, Err, Bool, not, nat_lt, ◌==◌, if◌then◌else◌}
use Rattle.std.specs.List.{flat_map}
use Rattle.xt_base.specs.MemberList.{are_members}
use Rattle.xt_base.specs.declared.TheConstants.{BODY, CLIENTS, NO_OBJECT, OBJECTS}
use Rattle.xt_messages.specs.Limits.{rise, is_at_most}
use Rattle.xt_base.specs.declared.ids.NodeId.{NodeId}
use Rattle.xt_messages.specs.declared.file.Kind.{Kind}
use Rattle.xt_messages.specs.declared.file.Kind.TheVariants.{Replicated, Striped}
use Rattle.xt_messages.specs.declared.file.Location.{Location}
use Rattle.xt_messages.specs.declared.file.Capability.{Capability}
use Rattle.xt_messages.specs.declared.file.Op.{Op}
use Rattle.xt_messages.specs.declared.file.Op.TheVariants as op
use Rattle.xt_messages.specs.declared.file.Update.{Update}
use Rattle.xt_messages.specs.declared.file.ObjectVersion.{ObjectVersion}
use Rattle.xt_messages.specs.declared.file.Session.{Session}
use Rattle.xt_messages.specs.declared.file.FileHead.{FileHead}
use Rattle.xt_fields.specs.declared.fault.FieldErr.TheVariants as fault
use Rattle.xt_fields.specs.Reading.{Field, ◌&◌, made, fit}
use Rattle.xt_fields.specs.BasicFields.{byte_bytes, word_bytes, long_bytes, octets_bytes, byte_at, word_at, long_at, count_at, raw_at, octets_at, within, counted, tagged}
use Rattle.xt_wire.specs.IdFields.{node_bytes, node_at, file_bytes, file_at, epoch_bytes, epoch_at, stamp_bytes, stamp_at, op_id_bytes, op_id_at, mark_bytes, mark_at}

-- ---- locations

abbrev pub kind_bytes : Kind → List ℕ
kind_bytes Replicated = byte_bytes 1
kind_bytes Striped = byte_bytes 2

unfoldable pub kind_arms : ℕ → Field Kind
kind_arms tag bytes =
    if tag == 1 then Ok (Replicated, bytes)
    else if tag == 2 then Ok (Striped, bytes)
    else Err fault.Unfit

unfoldable pub kind_at : Field Kind
kind_at = tagged kind_arms

-- the version of a location, below 2 ^ 31
unfoldable pub version_at : Field ℕ
version_at = fit (λ n. nat_lt n (2 ^ 31)) word_at

unfoldable pub stripe_at : Field ℕ
stripe_at = fit (λ n. n % 1024 == 0) (within 1024 BODY word_at)

-- a byte that says how many, and the nodes
abbrev pub members_bytes : List NodeId → List ℕ
members_bytes nodes = byte_bytes (length nodes) ++ flat_map node_bytes nodes

unfoldable pub members_at : Field (List NodeId)
members_at = fit are_members (counted 9 byte_at node_at)

abbrev pub location_bytes : Location → List ℕ
location_bytes location =
    word_bytes location.version ++ kind_bytes location.kind ++ word_bytes location.stripe ++ members_bytes location.members

unfoldable pub location_at : Field Location
location_at =
    made (λ l. record { version = l.0.0.0; kind = l.0.0.1; stripe = l.0.1; members = l.1 })
    (version_at & kind_at & stripe_at & members_at)

-- ---- capabilities

-- the bytes that the tag is made of
abbrev pub sealed_bytes : Capability → List ℕ
sealed_bytes capability =
    file_bytes capability.file ++ byte_bytes capability.mode ++ long_bytes capability.expiry ++ long_bytes capability.epoch
    ++ location_bytes capability.location

abbrev pub capability_bytes : Capability → List ℕ
capability_bytes capability = sealed_bytes capability ++ capability.tag

unfoldable pub capability_at : Field Capability
capability_at =
    made (λ c. record { file = c.0.0.0.0.0; mode = c.0.0.0.0.1; expiry = c.0.0.0.1; epoch = c.0.0.1; location = c.0.1; tag = c.1 })
    (file_at & within 1 2 byte_at & long_at & count_at & location_at & raw_at 32)

-- ---- operations

abbrev pub op_bytes : Op → List ℕ
op_bytes (op.Read object at len) = byte_bytes 1 ++ long_bytes object ++ word_bytes at ++ word_bytes len
op_bytes (op.Write object at bytes) = byte_bytes 2 ++ long_bytes object ++ word_bytes at ++ octets_bytes bytes
op_bytes (op.Truncate size) = byte_bytes 3 ++ long_bytes size

unfoldable pub read_op_at : Field Op
read_op_at = made (λ f. op.Read f.0.0 f.0.1 f.1) (long_at & word_at & within 1 BODY word_at)

-- bytes that are not empty
unfoldable pub some_octets_at : Field (List ℕ)
some_octets_at = fit (λ bytes. not (length bytes == 0)) (octets_at BODY)

unfoldable pub write_op_at : Field Op
write_op_at = made (λ f. op.Write f.0.0 f.0.1 f.1) (long_at & word_at & some_octets_at)

unfoldable pub truncate_op_at : Field Op
truncate_op_at = made op.Truncate long_at

unfoldable pub op_arms : ℕ → Field Op
op_arms tag bytes =
    if tag == 1 then read_op_at bytes
    else if tag == 2 then write_op_at bytes
    else if tag == 3 then truncate_op_at bytes
    else Err fault.Unfit

unfoldable pub op_at : Field Op
op_at = tagged op_arms

-- ---- updates

abbrev pub update_bytes : Update → List ℕ
update_bytes update =
    stamp_bytes update.stamp ++ op_id_bytes update.id ++ mark_bytes update.mark ++ long_bytes update.drop_from
    ++ long_bytes update.object ++ octets_bytes update.body

-- whether the body is empty exactly where no object gets it
abbrev pub has_its_body : Update → Bool
has_its_body update = if length update.body == 0 then update.object == NO_OBJECT else not (update.object == NO_OBJECT)

unfoldable pub update_at : Field Update
update_at =
    fit has_its_body (made (λ u. record { stamp = u.0.0.0.0.0; id = u.0.0.0.0.1; mark = u.0.0.0.1; drop_from = u.0.0.1; object = u.0.1; body = u.1 })
    (stamp_at & op_id_at & mark_at & long_at & long_at & octets_at BODY))

-- ---- heads

abbrev pub object_version_bytes : ObjectVersion → List ℕ
object_version_bytes entry = long_bytes entry.object ++ stamp_bytes entry.version

unfoldable pub object_version_at : Field ObjectVersion
object_version_at = made (λ v. record { object = v.0; version = v.1 }) (long_at & stamp_at)

abbrev pub session_bytes : Session → List ℕ
session_bytes session = node_bytes session.client ++ long_bytes session.number ++ long_bytes session.count

unfoldable pub session_at : Field Session
session_at = made (λ s. record { client = s.0.0; number = s.0.1; count = s.1 }) (node_at & count_at & count_at)

abbrev pub versions_bytes : List ObjectVersion → List ℕ
versions_bytes versions = word_bytes (length versions) ++ flat_map object_version_bytes versions

unfoldable pub versions_at : Field (List ObjectVersion)
versions_at = fit (λ versions. rise (map (λ v. v.object) versions)) (counted OBJECTS word_at object_version_at)

abbrev pub sessions_bytes : List Session → List ℕ
sessions_bytes sessions = word_bytes (length sessions) ++ flat_map session_bytes sessions

unfoldable pub sessions_at : Field (List Session)
sessions_at = fit (λ sessions. rise (map (λ s. s.client.0) sessions)) (counted CLIENTS word_at session_at)

abbrev pub head_bytes : FileHead → List ℕ
head_bytes head =
    epoch_bytes head.promised ++ stamp_bytes head.stamp ++ op_id_bytes head.last ++ mark_bytes head.mark
    ++ versions_bytes head.versions ++ sessions_bytes head.sessions

unfoldable pub head_at : Field FileHead
head_at =
    fit (λ h. is_at_most h.stamp.epoch h.promised) (made (λ h. record { promised = h.0.0.0.0.0; stamp = h.0.0.0.0.1; last = h.0.0.0.1; mark = h.0.0.1; versions = h.0.1; sessions = h.1 })
    (epoch_at & stamp_at & op_id_at & mark_at & versions_at & sessions_at))
