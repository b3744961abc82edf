-- the spelling of a record is never long
use Rattle.std.proofs.Common.{◌≡◌, ◌≤◌, ◌+◌, ◌*◌, ℕ, List, ◌++◌, length, Option, Some, None, arith}
use Rattle.std.proofs.lemmas.List.{length-append}
use Rattle.xt_base.specs.declared.ids.NodeId.{NodeId}
use Rattle.xt_base.specs.declared.ids.FileId.{FileId}
use Rattle.xt_base.specs.declared.ids.Stamp.{Stamp}
use Rattle.xt_messages.specs.Limits.{FitsFile, FitsMembers, FitsLogged, FitsRecord}
use Rattle.xt_fields.specs.BasicFields.{word_bytes, long_bytes, octets_bytes}
use Rattle.xt_wire.specs.IdFields.{node_bytes, file_bytes, epoch_bytes, stamp_bytes, op_id_bytes, mark_bytes}
use Rattle.xt_wire.specs.FileFields.{location_bytes, update_bytes, sessions_bytes, head_bytes}
use Rattle.xt_wire.specs.MetaFields.{meta_req_bytes}
use Rattle.xt_wire.proofs.FileLaws.{members_few}
use Rattle.xt_fields.proofs.BasicLaws.{word-length, long-length}
use Rattle.std.specs.Prelude.{IfSome}
use Rattle.xt_messages.specs.declared.record.Logged.{Logged}
use Rattle.xt_messages.specs.declared.record.Logged.TheVariants as logged
use Rattle.xt_messages.specs.declared.record.Record.{Record}
use Rattle.xt_messages.specs.declared.record.Record.TheVariants as kept
use Rattle.std.specs.List.{flat_map}
use Rattle.xt_messages.specs.declared.file.Update.{Update}
use Rattle.xt_messages.specs.declared.file.ObjectVersion.{ObjectVersion}
use Rattle.xt_messages.specs.declared.file.FileHead.{FileHead}
use Rattle.replica_records.specs.OldFields as old
use Rattle.replica_records.specs.OldFields.{slot_bytes}
use Rattle.replica_records.specs.RecordText.{nodes_bytes, logged_bytes, record_text}
use Rattle.xt_wire.proofs.FieldLengths.{file_len, epoch_len, stamp_len, op_id_len, mark_len, listed_len, sessions_len, octets_len, members_len, location_len, update_len, head_len, meta_req_len, registry_req_len, meta_req_bound, registry_req_bound}

nodes_bound : (x : Option (List NodeId)) → IfSome x FitsMembers → length (nodes_bytes x) ≤ 37
nodes_bound None h = omega arith
nodes_bound (Some nodes) h = omega (arith, members_len nodes, members_few nodes h.different)

logged_bound : (x : Logged) → FitsLogged x → length (logged_bytes x) ≤ 131084
logged_bound (logged.Meta user group request) h = omega (arith, length-append (word_bytes user) (word_bytes group), word-length user, word-length group, length-append (word_bytes user ++ word_bytes group) (meta_req_bytes request), meta_req_len request h.2, meta_req_bound request h.2)
logged_bound (logged.Registry request) h = omega (arith, registry_req_len request, registry_req_bound request h)

-- ---- the lengths of old fields

old_slot_len : (x : ℕ) → length (old.slot_bytes x) ≡ 4
unfolding slot_bytes
old_slot_len x = word-length _

pub old_update_len : (x : Update) → length (old.update_bytes x) ≡ 60 + length x.body
old_update_len x =
    omega (
      arith,
      stamp_len x.stamp,
      length-append (stamp_bytes x.stamp) (op_id_bytes x.id),
      op_id_len x.id,
      length-append (stamp_bytes x.stamp ++ op_id_bytes x.id) (mark_bytes x.mark),
      mark_len x.mark,
      length-append (stamp_bytes x.stamp ++ op_id_bytes x.id ++ mark_bytes x.mark) (old.slot_bytes x.drop_from),
      old_slot_len x.drop_from,
      length-append (stamp_bytes x.stamp ++ op_id_bytes x.id ++ mark_bytes x.mark ++ old.slot_bytes x.drop_from) (old.slot_bytes x.object),
      old_slot_len x.object,
      length-append (stamp_bytes x.stamp ++ op_id_bytes x.id ++ mark_bytes x.mark ++ old.slot_bytes x.drop_from ++ old.slot_bytes x.object) (octets_bytes x.body),
      octets_len x.body,
    )

old_version_len : (x : ObjectVersion) → length (old.object_version_bytes x) ≡ 24
old_version_len x = omega (arith, word-length x.object, length-append (word_bytes x.object) (stamp_bytes x.version), stamp_len x.version)

old_versions_len : (x : List ObjectVersion) → length (old.versions_bytes x) ≡ 4 + 24 * length x
old_versions_len x =
    omega (arith, length-append (word_bytes (length x)) (flat_map old.object_version_bytes x), word-length (length x), listed_len old.object_version_bytes 24 old_version_len x)

old_head_len : (x : FileHead) → length (old.head_bytes x) ≡ 68 + 24 * length x.versions + 20 * length x.sessions
old_head_len x =
    omega (
      arith,
      epoch_len x.promised,
      length-append (epoch_bytes x.promised) (stamp_bytes x.stamp),
      stamp_len x.stamp,
      length-append (epoch_bytes x.promised ++ stamp_bytes x.stamp) (op_id_bytes x.last),
      op_id_len x.last,
      length-append (epoch_bytes x.promised ++ stamp_bytes x.stamp ++ op_id_bytes x.last) (mark_bytes x.mark),
      mark_len x.mark,
      length-append (epoch_bytes x.promised ++ stamp_bytes x.stamp ++ op_id_bytes x.last ++ mark_bytes x.mark) (old.versions_bytes x.versions),
      old_versions_len x.versions,
      length-append (epoch_bytes x.promised ++ stamp_bytes x.stamp ++ op_id_bytes x.last ++ mark_bytes x.mark ++ old.versions_bytes x.versions) (sessions_bytes x.sessions),
      sessions_len x.sessions,
    )

-- ---- records

-- the spelling of a record is not empty, and as short as a message's
pub text_bound : (x : Record) → FitsRecord x → (1 ≤ length (record_text x)) × (length (record_text x) ≤ 1048576)
text_bound (kept.Boot boot) h = (omega arith, omega (arith, long-length boot.0))
text_bound (kept.Promise file epoch) h = (omega arith, omega (arith, file_len file h.0, length-append (file_bytes file) (epoch_bytes epoch), epoch_len epoch))
text_bound (kept.Update file update) h = (omega arith, omega (arith, file_len file h.0, length-append (file_bytes file) (update_bytes update), update_len update, h.1.bytes.few))
text_bound (kept.Stage file object version bytes) h = (omega arith, omega (arith, file_len file h.0, length-append (file_bytes file) (long_bytes object), long-length object, length-append (file_bytes file ++ long_bytes object) (stamp_bytes version), stamp_len version, length-append (file_bytes file ++ long_bytes object ++ stamp_bytes version) (octets_bytes bytes), octets_len bytes, h.3.few))
text_bound (kept.Head file head) h = (omega arith, omega (arith, file_len file h.0, length-append (file_bytes file) (head_bytes head), head_len head, h.1.objects.few, h.1.clients.few))
text_bound (kept.View file location) h = (omega arith, omega (arith, file_len file h.0, length-append (file_bytes file) (location_bytes location), location_len location, members_few location.members h.1.nodes.different))
text_bound (kept.Meta from number now nodes request) h = (omega arith, omega (arith, word-length from.0, length-append (node_bytes from) (long_bytes number), long-length number, length-append (node_bytes from ++ long_bytes number) (long_bytes now), long-length now, length-append (node_bytes from ++ long_bytes number ++ long_bytes now) (nodes_bytes nodes), nodes_bound nodes h.3, length-append (node_bytes from ++ long_bytes number ++ long_bytes now ++ nodes_bytes nodes) (logged_bytes request), logged_bound request h.4))
text_bound (kept.Close file version) h = (omega arith, omega (arith, file_len file h.0, length-append (file_bytes file) (word_bytes version), word-length version))
text_bound (kept.Install file location head) h = (omega arith, omega (arith, file_len file h.0, length-append (file_bytes file) (location_bytes location), location_len location, members_few location.members h.1.nodes.different, length-append (file_bytes file ++ location_bytes location) (head_bytes head), head_len head, h.2.objects.few, h.2.clients.few))
text_bound (kept.Choice file location head source) h = (omega arith, omega (arith, file_len file h.0, length-append (file_bytes file) (location_bytes location), location_len location, members_few location.members h.1.nodes.different, length-append (file_bytes file ++ location_bytes location) (head_bytes head), head_len head, h.2.objects.few, h.2.clients.few, length-append (file_bytes file ++ location_bytes location ++ head_bytes head) (node_bytes source), word-length source.0))
text_bound (kept.Listed file version) h = (omega arith, omega (arith, file_len file h.0, length-append (file_bytes file) (word_bytes version), word-length version))
text_bound (kept.Seal file object version digest) h = (omega arith, omega (arith, file_len file h.0, length-append (file_bytes file) (long_bytes object), long-length object, length-append (file_bytes file ++ long_bytes object) (stamp_bytes version), stamp_len version, length-append (file_bytes file ++ long_bytes object ++ stamp_bytes version) digest, h.3.whole))
text_bound (kept.Forget file) h = (omega arith, omega (arith, file_len file h))
text_bound (kept.OldUpdate file update) h = (omega arith, omega (arith, file_len file h.0, length-append (file_bytes file) (old.update_bytes update), old_update_len update, h.1.fits.bytes.few))
text_bound (kept.OldStage file object version bytes) h = (omega arith, omega (arith, file_len file h.0, length-append (file_bytes file) (word_bytes object), word-length object, length-append (file_bytes file ++ word_bytes object) (stamp_bytes version), stamp_len version, length-append (file_bytes file ++ word_bytes object ++ stamp_bytes version) (octets_bytes bytes), octets_len bytes, h.3.few))
text_bound (kept.OldHead file head) h = (omega arith, omega (arith, file_len file h.0, length-append (file_bytes file) (old.head_bytes head), old_head_len head, h.1.few, h.1.fits.clients.few))
text_bound (kept.OldInstall file location head) h = (omega arith, omega (arith, file_len file h.0, length-append (file_bytes file) (location_bytes location), location_len location, members_few location.members h.1.nodes.different, length-append (file_bytes file ++ location_bytes location) (old.head_bytes head), old_head_len head, h.2.few, h.2.fits.clients.few))
text_bound (kept.OldChoice file location head source) h = (omega arith, omega (arith, file_len file h.0, length-append (file_bytes file) (location_bytes location), location_len location, members_few location.members h.1.nodes.different, length-append (file_bytes file ++ location_bytes location) (old.head_bytes head), old_head_len head, h.2.few, h.2.fits.clients.few, length-append (file_bytes file ++ location_bytes location ++ old.head_bytes head) (node_bytes source), word-length source.0))

-- what puts a body is as much longer than the body
pub stage_length : (file : FileId) (object : ℕ) (version : Stamp) (bytes : List ℕ) → FitsFile file → length (record_text (kept.Stage file object version bytes)) ≡ 57 + length bytes
stage_length file object version bytes h =
    omega (
      arith,
      file_len file h,
      length-append (file_bytes file) (long_bytes object),
      long-length object,
      length-append (file_bytes file ++ long_bytes object) (stamp_bytes version),
      stamp_len version,
      length-append (file_bytes file ++ long_bytes object ++ stamp_bytes version) (octets_bytes bytes),
      octets_len bytes,
    )
