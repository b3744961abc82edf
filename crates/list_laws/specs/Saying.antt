-- what the rows of their own say is so
use Rattle.std.specs.Prelude.{◌≡◌, true, false, nat_le}
use Rattle.xt_messages.specs.declared.message.Msg.{Msg}
use Rattle.xt_messages.specs.declared.message.Payload.{Payload}
use Rattle.xt_messages.specs.declared.message.Payload.TheVariants as payload
use Rattle.xt_messages.specs.declared.record.FileRow.{FileRow}
use Rattle.xt_protocol.specs.Folds.{body_of}
use Rattle.xt_protocol.specs.Stamps.{has_version}
use Rattle.xt_protocol.specs.FileStates.{Site}
use Rattle.list_rows.specs.ListRows.{is_version, list_version}

-- A Closed is of a version at which the file is closed, with its head; an Installed of a version that isn't above that of its list; a Pull
-- of a body that it lacks; a Pulled of one that it has, with its bytes. Else it is a Wanted or a reply.
abbrev pub IsSo : Site → FileRow → Payload → Type 0
IsSo site row (payload.Closed file version head) = (file ≡ row.file) × (is_version version row.closed ≡ true) × (head ≡ row.head)
IsSo site row (payload.Installed file version) = (file ≡ row.file) × (nat_le version (list_version row.location) ≡ true)
IsSo site row (payload.Pull file object version) = (file ≡ row.file) × (has_version row.held (body_of object version) ≡ false)
IsSo site row (payload.Pulled file object version bytes) =
    (file ≡ row.file) × (has_version row.held (body_of object version) ≡ true) × (bytes ≡ site.body row.file object version)
IsSo site row (payload.Wanted file) = file ≡ row.file
IsSo site row (payload.Reply number file answer) = file ≡ row.file
IsSo site row _ = ⊥

-- a message of this node, of no list, says what is so of the file
pub record Says (site : Site) (row : FileRow) (m : Msg) : Type 0 where
  pub from : m.from ≡ site.node
  pub list : m.list ≡ 1
  pub so : IsSo site row m.payload
