-- what an OSD does with an ask on a striped file
use Rattle.std.specs.Prelude.{Option, Some, None}
use Rattle.xt_base.specs.declared.ids.FileId.{FileId}
use Rattle.xt_base.specs.declared.ids.OpId.{OpId}
use Rattle.xt_messages.specs.declared.file.Location.{Location}
use Rattle.xt_messages.specs.declared.file.Capability.{Capability}
use Rattle.xt_messages.specs.declared.file.Op.{Op}
use Rattle.xt_messages.specs.declared.reply.Denial.{Denial}
use Rattle.xt_messages.specs.declared.reply.Denial.TheVariants as denial
use Rattle.xt_messages.specs.declared.reply.Reply.{Reply}
use Rattle.xt_messages.specs.declared.reply.Reply.TheVariants as reply
use Rattle.xt_messages.specs.declared.message.Payload.{Payload}
use Rattle.xt_messages.specs.declared.message.Payload.TheVariants as payload
use Rattle.xt_messages.specs.declared.record.FileRow.{FileRow}
use Rattle.xt_protocol.specs.declared.states.Acted.{Acted}
use Rattle.xt_protocol.specs.declared.states.PlainActed.{PlainActed}
use Rattle.xt_protocol.specs.FileStates.{Site}
use Rattle.xt_protocol.specs.AskRows.{capability_refused, in_range}
use Rattle.xt_protocol.specs.PlainRows.{only, plain_step}

-- Tests before the rows.

-- list refused: one is stored, and that is done for replicated files alone
abbrev pub unless_stored : Option Location → Option Reply
unless_stored None = None
unless_stored (Some stored) = Some (reply.Denied denial.List)

-- the range, and then the list
abbrev pub range_and_list : Option Location → Option Reply → Option Reply
range_and_list stored (Some answer) = Some answer
range_and_list stored None = unless_stored stored

abbrev pub capability_range_list : Option Location → Capability → Op → Option Denial → Option Reply
capability_range_list stored capability asked (Some why) = Some (reply.Denied why)
capability_range_list stored capability asked None = range_and_list stored (in_range capability.location asked)

-- Refused before any row, by the first of these that fails: the capability, the range, the list.
unfoldable pub striped_refusal : Site → Option Location → Capability → Op → Option Reply
striped_refusal site stored capability asked =
    capability_range_list stored capability asked (capability_refused site capability asked)

-- The rows of a member.

-- an ask that is let in goes by the rows of a member, over the head that is kept of the file
abbrev pub member_acts : Site → FileRow → OpId → Capability → Op → Option Reply → PlainActed
member_acts site row id capability asked (Some answer) = only answer
member_acts site row id capability asked None =
    plain_step (record { file = row.file; node = site.node; head = row.head }) (site.body row.file) id capability.epoch
    capability.location asked

-- the client is sent the reply, if there is one
abbrev pub reply_payload : FileId → OpId → Option Reply → Option Payload
reply_payload file id None = None
reply_payload file id (Some answer) = Some (payload.Reply id.number file answer)

abbrev pub to_client : FileId → OpId → PlainActed → Acted
to_client file id acted = record { rec = acted.rec; answer = reply_payload file id acted.reply }

-- An ask on a striped file, by what is kept of the file: at most an update and a reply to the client. It takes no lease, stores no
-- list and makes no mark.
unfoldable pub handle_striped : Site → FileRow → OpId → Capability → Op → Acted
handle_striped site row id capability asked =
    to_client row.file id
    (member_acts site row id capability asked (striped_refusal site row.location capability asked))
