-- fields are as long as the rule says, and no longer than their limits
use Rattle.std.proofs.Common.{◌≡◌, ℕ, ◌+◌, ◌*◌, ◌≤◌, List, [], ◌∷◌, ◌++◌, length, Option, Some, None, refl, ap, ◌∙◌, arith}
use Rattle.std.specs.Prelude.{sum_by}
use Rattle.std.specs.List.{flat_map}
use Rattle.std.proofs.lemmas.List.{length-append}
use Rattle.std.proofs.lemmas.List.Concat.{flat_map-cons}
use Rattle.std.proofs.lemmas.List.Sums.{sum_by-cons}
use Rattle.xt_base.specs.declared.ids.NodeId.{NodeId}
use Rattle.xt_base.specs.declared.ids.FileId.{FileId}
use Rattle.xt_base.specs.declared.ids.Ballot.{Ballot}
use Rattle.xt_base.specs.declared.ids.Epoch.{Epoch}
use Rattle.xt_base.specs.declared.ids.Stamp.{Stamp}
use Rattle.xt_base.specs.declared.ids.Lease.{Lease}
use Rattle.xt_base.specs.declared.ids.OpId.{OpId}
use Rattle.xt_base.specs.declared.ids.SizeMark.{SizeMark}
use Rattle.xt_messages.specs.declared.file.Kind.{Kind}
use Rattle.xt_messages.specs.declared.file.Location.{Location}
use Rattle.xt_messages.specs.declared.file.Capability.{Capability}
use Rattle.xt_messages.specs.declared.file.Op.{Op}
use Rattle.xt_messages.specs.declared.file.Update.{Update}
use Rattle.xt_messages.specs.declared.file.ObjectVersion.{ObjectVersion}
use Rattle.xt_messages.specs.declared.file.Session.{Session}
use Rattle.xt_messages.specs.declared.file.FileHead.{FileHead}
use Rattle.xt_messages.specs.declared.meta.MetaReq.{MetaReq}
use Rattle.xt_messages.specs.declared.registry.RegistryReq.{RegistryReq}
use Rattle.xt_messages.specs.declared.file.Kind.TheVariants.{Replicated, Striped}
use Rattle.xt_messages.specs.declared.file.Op.TheVariants as op
use Rattle.xt_messages.specs.declared.meta.MetaReq.TheVariants as ask
use Rattle.xt_messages.specs.declared.registry.RegistryReq.TheVariants as wish
use Rattle.xt_messages.specs.Limits.{FitsFile, FitsCapability, FitsOp, FitsMetaReq, FitsRegistryReq}
use Rattle.xt_messages.specs.FrameLength.{text_length, report_length, location_length, capability_length, head_length, update_length, op_length, meta_req_length, registry_req_length}
use Rattle.xt_fields.specs.BasicFields.{byte_bytes, half_bytes, word_bytes, long_bytes, octets_bytes, text_bytes}
use Rattle.xt_wire.specs.IdFields.{node_bytes, boot_bytes, file_bytes, ballot_bytes, epoch_bytes, stamp_bytes, lease_bytes, report_bytes, op_id_bytes, mark_bytes}
use Rattle.xt_wire.specs.FileFields.{kind_bytes, members_bytes, location_bytes, sealed_bytes, capability_bytes, op_bytes, update_bytes, object_version_bytes, session_bytes, versions_bytes, sessions_bytes, head_bytes}
use Rattle.xt_wire.specs.MetaFields.{meta_req_bytes}
use Rattle.xt_wire.specs.RegistryFields.{registry_req_bytes}
use Rattle.xt_wire.proofs.FileLaws.{members_few}
use Rattle.xt_fields.proofs.BasicLaws.{half-length, word-length, long-length}

pub file_len : (x : FileId) → FitsFile x → length (file_bytes x) ≡ 24
file_len x h = omega (arith, length-append x.volume (long_bytes x.number), long-length x.number, h.whole)

pub ballot_len : (x : Ballot) → length (ballot_bytes x) ≡ 20
ballot_len x = omega (arith, long-length x.count, length-append (long_bytes x.count) (node_bytes x.node), word-length x.node.0, length-append (long_bytes x.count ++ node_bytes x.node) (boot_bytes x.boot), long-length x.boot.0)

pub epoch_len : (x : Epoch) → length (epoch_bytes x) ≡ 12
epoch_len x = omega (arith, long-length x.number, length-append (long_bytes x.number) (node_bytes x.node), word-length x.node.0)

pub stamp_len : (x : Stamp) → length (stamp_bytes x) ≡ 20
stamp_len x = omega (arith, epoch_len x.epoch, length-append (epoch_bytes x.epoch) (long_bytes x.count), long-length x.count)

pub lease_len : (x : Lease) → length (lease_bytes x) ≡ 20
lease_len x = omega (arith, word-length x.node.0, length-append (node_bytes x.node) (boot_bytes x.boot), long-length x.boot.0, length-append (node_bytes x.node ++ boot_bytes x.boot) (long_bytes x.end), long-length x.end)

pub op_id_len : (x : OpId) → length (op_id_bytes x) ≡ 12
op_id_len x = omega (arith, word-length x.client.0, length-append (node_bytes x.client) (long_bytes x.number), long-length x.number)

pub mark_len : (x : SizeMark) → length (mark_bytes x) ≡ 16
mark_len x = omega (arith, long-length x.epoch, length-append (long_bytes x.epoch) (long_bytes x.size), long-length x.size)

pub report_len : (x : Option Lease) → length (report_bytes x) ≡ report_length x
report_len None = refl
report_len (Some lease) = omega (arith, lease_len lease)

pub octets_len : (x : List ℕ) → length (octets_bytes x) ≡ 4 + length x
octets_len x = omega (arith, length-append (word_bytes (length x)) x, word-length (length x))

pub text_len : (x : List ℕ) → length (text_bytes x) ≡ text_length x
text_len x = omega (arith, length-append (half_bytes (length x)) x, half-length (length x))

-- ---- lists

pub listed_len : {A : Type 0} (bytes : A → List ℕ) (len : ℕ) → ((a : A) → length (bytes a) ≡ len) → (list : List A) → length (flat_map bytes list) ≡ len * length list
listed_len bytes len each [] = omega arith
listed_len bytes len each (a ∷ list) =
    ap length (flat_map-cons bytes a list) ∙ omega (arith, length-append (bytes a) (flat_map bytes list), each a, listed_len bytes len each list)

pub summed_len : {A : Type 0} (bytes : A → List ℕ) (len : A → ℕ) → ((a : A) → length (bytes a) ≡ len a) → (list : List A) → length (flat_map bytes list) ≡ sum_by len list
summed_len bytes len each [] = refl
summed_len bytes len each (a ∷ list) =
    ap length (flat_map-cons bytes a list) ∙ omega (arith, sum_by-cons len a list, length-append (bytes a) (flat_map bytes list), each a, summed_len bytes len each list)

-- ---- files

pub kind_len : (x : Kind) → length (kind_bytes x) ≡ 1
kind_len Replicated = refl
kind_len Striped = refl

pub node_len : (x : NodeId) → length (node_bytes x) ≡ 4
node_len x = word-length x.0

pub members_len : (x : List NodeId) → length (members_bytes x) ≡ 1 + 4 * length x
members_len x = omega (arith, listed_len node_bytes 4 node_len x)

pub location_len : (x : Location) → length (location_bytes x) ≡ location_length x
location_len x = omega (arith, word-length x.version, length-append (word_bytes x.version) (kind_bytes x.kind), kind_len x.kind, length-append (word_bytes x.version ++ kind_bytes x.kind) (word_bytes x.stripe), word-length x.stripe, length-append (word_bytes x.version ++ kind_bytes x.kind ++ word_bytes x.stripe) (members_bytes x.members), members_len x.members)

pub sealed_len : (x : Capability) → FitsCapability x → length (sealed_bytes x) ≡ 41 + location_length x.location
sealed_len x h = omega (arith, file_len x.file h.subject, length-append (file_bytes x.file) (byte_bytes x.mode), length-append (file_bytes x.file ++ byte_bytes x.mode) (long_bytes x.expiry), long-length x.expiry, length-append (file_bytes x.file ++ byte_bytes x.mode ++ long_bytes x.expiry) (long_bytes x.epoch), long-length x.epoch, length-append (file_bytes x.file ++ byte_bytes x.mode ++ long_bytes x.expiry ++ long_bytes x.epoch) (location_bytes x.location), location_len x.location)

pub capability_len : (x : Capability) → FitsCapability x → length (capability_bytes x) ≡ capability_length x
capability_len x h = omega (arith, length-append (sealed_bytes x) x.tag, sealed_len x h, h.seal.whole)

pub op_len : (x : Op) → length (op_bytes x) ≡ op_length x
op_len (op.Read object at len) = omega (arith, length-append (byte_bytes 1) (long_bytes object), long-length object, length-append (byte_bytes 1 ++ long_bytes object) (word_bytes at), word-length at, length-append (byte_bytes 1 ++ long_bytes object ++ word_bytes at) (word_bytes len), word-length len)
op_len (op.Write object at bytes) = omega (arith, length-append (byte_bytes 2) (long_bytes object), long-length object, length-append (byte_bytes 2 ++ long_bytes object) (word_bytes at), word-length at, length-append (byte_bytes 2 ++ long_bytes object ++ word_bytes at) (octets_bytes bytes), octets_len bytes)
op_len (op.Truncate size) = omega (arith, length-append (byte_bytes 3) (long_bytes size), long-length size)

pub update_len : (x : Update) → length (update_bytes x) ≡ update_length x
update_len x = omega (arith, stamp_len x.stamp, length-append (stamp_bytes x.stamp) (op_id_bytes x.id), op_id_len x.id, length-append (stamp_bytes x.stamp ++ op_id_bytes x.id) (mark_bytes x.mark), mark_len x.mark, length-append (stamp_bytes x.stamp ++ op_id_bytes x.id ++ mark_bytes x.mark) (long_bytes x.drop_from), long-length x.drop_from, length-append (stamp_bytes x.stamp ++ op_id_bytes x.id ++ mark_bytes x.mark ++ long_bytes x.drop_from) (long_bytes x.object), long-length x.object, length-append (stamp_bytes x.stamp ++ op_id_bytes x.id ++ mark_bytes x.mark ++ long_bytes x.drop_from ++ long_bytes x.object) (octets_bytes x.body), octets_len x.body)

pub object_version_len : (x : ObjectVersion) → length (object_version_bytes x) ≡ 28
object_version_len x = omega (arith, long-length x.object, length-append (long_bytes x.object) (stamp_bytes x.version), stamp_len x.version)

pub session_len : (x : Session) → length (session_bytes x) ≡ 20
session_len x = omega (arith, word-length x.client.0, length-append (node_bytes x.client) (long_bytes x.number), long-length x.number, length-append (node_bytes x.client ++ long_bytes x.number) (long_bytes x.count), long-length x.count)

pub versions_len : (x : List ObjectVersion) → length (versions_bytes x) ≡ 4 + 28 * length x
versions_len x = omega (arith, length-append (word_bytes (length x)) (flat_map object_version_bytes x), word-length (length x), listed_len object_version_bytes 28 object_version_len x)

pub sessions_len : (x : List Session) → length (sessions_bytes x) ≡ 4 + 20 * length x
sessions_len x = omega (arith, length-append (word_bytes (length x)) (flat_map session_bytes x), word-length (length x), listed_len session_bytes 20 session_len x)

pub head_len : (x : FileHead) → length (head_bytes x) ≡ head_length x
head_len x = omega (arith, epoch_len x.promised, length-append (epoch_bytes x.promised) (stamp_bytes x.stamp), stamp_len x.stamp, length-append (epoch_bytes x.promised ++ stamp_bytes x.stamp) (op_id_bytes x.last), op_id_len x.last, length-append (epoch_bytes x.promised ++ stamp_bytes x.stamp ++ op_id_bytes x.last) (mark_bytes x.mark), mark_len x.mark, length-append (epoch_bytes x.promised ++ stamp_bytes x.stamp ++ op_id_bytes x.last ++ mark_bytes x.mark) (versions_bytes x.versions), versions_len x.versions, length-append (epoch_bytes x.promised ++ stamp_bytes x.stamp ++ op_id_bytes x.last ++ mark_bytes x.mark ++ versions_bytes x.versions) (sessions_bytes x.sessions), sessions_len x.sessions)

-- ---- replies, requests and answers

pub meta_req_len : (x : MetaReq) → FitsMetaReq x → length (meta_req_bytes x) ≡ meta_req_length x
meta_req_len (ask.Mkdir path mode) h = omega (arith, length-append (byte_bytes 1) (text_bytes path), text_len path, length-append (byte_bytes 1 ++ text_bytes path) (half_bytes mode), half-length mode)
meta_req_len (ask.Create path mode kind n stripe) h = omega (arith, length-append (byte_bytes 2) (text_bytes path), text_len path, length-append (byte_bytes 2 ++ text_bytes path) (half_bytes mode), half-length mode, length-append (byte_bytes 2 ++ text_bytes path ++ half_bytes mode) (kind_bytes kind), kind_len kind, length-append (byte_bytes 2 ++ text_bytes path ++ half_bytes mode ++ kind_bytes kind) (byte_bytes n), length-append (byte_bytes 2 ++ text_bytes path ++ half_bytes mode ++ kind_bytes kind ++ byte_bytes n) (word_bytes stripe), word-length stripe)
meta_req_len (ask.Rename from to) h = omega (arith, length-append (byte_bytes 3) (text_bytes from), text_len from, length-append (byte_bytes 3 ++ text_bytes from) (text_bytes to), text_len to)
meta_req_len (ask.Unlink path) h = omega (arith, length-append (byte_bytes 4) (text_bytes path), text_len path)
meta_req_len (ask.Rmdir path) h = omega (arith, length-append (byte_bytes 5) (text_bytes path), text_len path)
meta_req_len (ask.List path after) h = omega (arith, length-append (byte_bytes 6) (text_bytes path), text_len path, length-append (byte_bytes 6 ++ text_bytes path) (text_bytes after), text_len after)
meta_req_len (ask.Stat path) h = omega (arith, length-append (byte_bytes 7) (text_bytes path), text_len path)
meta_req_len (ask.Chmod path mode) h = omega (arith, length-append (byte_bytes 8) (text_bytes path), text_len path, length-append (byte_bytes 8 ++ text_bytes path) (half_bytes mode), half-length mode)
meta_req_len (ask.Grant path want) h = omega (arith, length-append (byte_bytes 9) (text_bytes path), text_len path, length-append (byte_bytes 9 ++ text_bytes path) (byte_bytes want))
meta_req_len (ask.Report capability mark) h = omega (arith, length-append (byte_bytes 10) (capability_bytes capability), capability_len capability h.0, length-append (byte_bytes 10 ++ capability_bytes capability) (mark_bytes mark), mark_len mark)
meta_req_len (ask.Change path nodes) h = omega (arith, length-append (byte_bytes 11) (text_bytes path), text_len path, length-append (byte_bytes 11 ++ text_bytes path) (members_bytes nodes), members_len nodes)
meta_req_len (ask.Locate path) h = omega (arith, length-append (byte_bytes 12) (text_bytes path), text_len path)

pub registry_req_len : (x : RegistryReq) → length (registry_req_bytes x) ≡ registry_req_length x
registry_req_len (wish.Set node kind address expected) = omega (arith, length-append (byte_bytes 1) (node_bytes node), word-length node.0, length-append (byte_bytes 1 ++ node_bytes node) (byte_bytes kind), length-append (byte_bytes 1 ++ node_bytes node ++ byte_bytes kind) (text_bytes address), text_len address, length-append (byte_bytes 1 ++ node_bytes node ++ byte_bytes kind ++ text_bytes address) (long_bytes expected), long-length expected)
registry_req_len (wish.Get node) = omega (arith, length-append (byte_bytes 2) (node_bytes node), word-length node.0)
registry_req_len (wish.List kind after) = omega (arith, length-append (byte_bytes 3) (byte_bytes kind), length-append (byte_bytes 3 ++ byte_bytes kind) (node_bytes after), word-length after.0)
registry_req_len (wish.Remove node expected) = omega (arith, length-append (byte_bytes 4) (node_bytes node), word-length node.0, length-append (byte_bytes 4 ++ node_bytes node) (long_bytes expected), long-length expected)

-- ---- the limits

pub members_bound : (x : Capability) → FitsCapability x → capability_length x ≤ 119
members_bound x h = omega (arith, members_few x.location.members h.place.nodes.different)

pub op_bound : (x : Op) → FitsOp x → op_length x ≤ 131089
op_bound (op.Read object at len) h = omega arith
op_bound (op.Write object at bytes) h = omega (arith, h.2.few)
op_bound (op.Truncate size) h = omega arith

pub meta_req_bound : (x : MetaReq) → FitsMetaReq x → meta_req_length x ≤ 131075
meta_req_bound (ask.Mkdir path mode) h = omega (arith, h.0.few)
meta_req_bound (ask.Create path mode kind n stripe) h = omega (arith, h.0.few)
meta_req_bound (ask.Rename from to) h = omega (arith, h.0.few, h.1.few)
meta_req_bound (ask.Unlink path) h = omega (arith, h.few)
meta_req_bound (ask.Rmdir path) h = omega (arith, h.few)
meta_req_bound (ask.List path after) h = omega (arith, h.0.few, h.1.few)
meta_req_bound (ask.Stat path) h = omega (arith, h.few)
meta_req_bound (ask.Chmod path mode) h = omega (arith, h.0.few)
meta_req_bound (ask.Grant path want) h = omega (arith, h.0.few)
meta_req_bound (ask.Report capability mark) h = omega (arith, members_bound capability h.0)
meta_req_bound (ask.Change path nodes) h = omega (arith, h.0.few, members_few nodes h.1.different)
meta_req_bound (ask.Locate path) h = omega (arith, h.few)

pub registry_req_bound : (x : RegistryReq) → FitsRegistryReq x → registry_req_length x ≤ 271
registry_req_bound (wish.Set node kind address expected) h = omega (arith, h.2.few)
registry_req_bound (wish.Get node) h = omega arith
registry_req_bound (wish.List kind after) h = omega arith
registry_req_bound (wish.Remove node expected) h = omega arith

pub report_bound : (x : Option Lease) → report_length x ≤ 21
report_bound None = omega arith
report_bound (Some lease) = omega arith
