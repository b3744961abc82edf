-- the one spelling of each record
use Rattle.std.specs.Prelude.{ℕ, List, ◌++◌, Option, Some, None}
use Rattle.xt_base.specs.declared.ids.NodeId.{NodeId}
use Rattle.xt_messages.specs.declared.record.Logged.{Logged}
use Rattle.xt_messages.specs.declared.record.Logged.TheVariants as logged
use Rattle.xt_messages.specs.declared.record.Record.{Record}
use Rattle.xt_messages.specs.declared.record.Record.TheVariants as kept
use Rattle.xt_fields.specs.BasicFields.{byte_bytes, word_bytes, long_bytes, octets_bytes}
use Rattle.xt_wire.specs.IdFields.{node_bytes, boot_bytes, file_bytes, epoch_bytes, stamp_bytes}
use Rattle.xt_wire.specs.FileFields.{members_bytes, location_bytes, update_bytes, head_bytes}
use Rattle.replica_records.specs.OldFields as old
use Rattle.xt_wire.specs.MetaFields.{meta_req_bytes}
use Rattle.xt_wire.specs.RegistryFields.{registry_req_bytes}

-- a byte that says how many, and the nodes; 0 where there are none
abbrev pub nodes_bytes : Option (List NodeId) → List ℕ
nodes_bytes None = byte_bytes 0
nodes_bytes (Some nodes) = members_bytes nodes

-- the kind of the request's message, and the fields of that message after its number
abbrev pub logged_bytes : Logged → List ℕ
logged_bytes (logged.Meta user group request) = byte_bytes 20 ++ (word_bytes user ++ word_bytes group ++ meta_req_bytes request)
logged_bytes (logged.Registry request) = byte_bytes 22 ++ registry_req_bytes request

-- the kind, and the fields of that kind
abbrev pub record_text : Record → List ℕ
record_text (kept.Boot boot) = byte_bytes 1 ++ boot_bytes boot
record_text (kept.Promise file epoch) = byte_bytes 2 ++ (file_bytes file ++ epoch_bytes epoch)
record_text (kept.Update file update) = byte_bytes 13 ++ (file_bytes file ++ update_bytes update)
record_text (kept.Stage file object version bytes) = byte_bytes 14 ++ (file_bytes file ++ long_bytes object ++ stamp_bytes version ++ octets_bytes bytes)
record_text (kept.Head file head) = byte_bytes 15 ++ (file_bytes file ++ head_bytes head)
record_text (kept.View file location) = byte_bytes 6 ++ (file_bytes file ++ location_bytes location)
record_text (kept.Meta from number now nodes request) = byte_bytes 7 ++ (node_bytes from ++ long_bytes number ++ long_bytes now ++ nodes_bytes nodes ++ logged_bytes request)
record_text (kept.Close file version) = byte_bytes 9 ++ (file_bytes file ++ word_bytes version)
record_text (kept.Install file location head) = byte_bytes 16 ++ (file_bytes file ++ location_bytes location ++ head_bytes head)
record_text (kept.Choice file location head source) = byte_bytes 17 ++ (file_bytes file ++ location_bytes location ++ head_bytes head ++ node_bytes source)
record_text (kept.Listed file version) = byte_bytes 12 ++ (file_bytes file ++ word_bytes version)
record_text (kept.Seal file object version digest) = byte_bytes 18 ++ (file_bytes file ++ long_bytes object ++ stamp_bytes version ++ digest)
record_text (kept.Forget file) = byte_bytes 19 ++ file_bytes file
record_text (kept.OldUpdate file update) = byte_bytes 3 ++ (file_bytes file ++ old.update_bytes update)
record_text (kept.OldStage file object version bytes) = byte_bytes 4 ++ (file_bytes file ++ word_bytes object ++ stamp_bytes version ++ octets_bytes bytes)
record_text (kept.OldHead file head) = byte_bytes 5 ++ (file_bytes file ++ old.head_bytes head)
record_text (kept.OldInstall file location head) = byte_bytes 10 ++ (file_bytes file ++ location_bytes location ++ old.head_bytes head)
record_text (kept.OldChoice file location head source) = byte_bytes 11 ++ (file_bytes file ++ location_bytes location ++ old.head_bytes head ++ node_bytes source)
