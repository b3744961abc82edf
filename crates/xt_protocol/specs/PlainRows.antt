-- what an OSD does with an operation on a striped file: each member keeps the objects that it owns, and answers for them alone
use Rattle.std.specs.Prelude.{ℕ, Bool, false, not, ◌==◌, nat_lt, if◌then◌else◌, ◌+◌, ◌*◌, ◌%◌, Option, Some, None, List, [], length, drop, slice_get}
use Rattle.xt_base.specs.MemberList.{has_node}
use Rattle.xt_base.specs.Overlay.{cut_or_filled}
use Rattle.xt_base.specs.declared.ids.NodeId.{NodeId}
use Rattle.xt_base.specs.declared.ids.FileId.{FileId}
use Rattle.xt_base.specs.declared.ids.Stamp.{Stamp}
use Rattle.xt_base.specs.declared.ids.OpId.{OpId}
use Rattle.xt_messages.specs.declared.file.Location.{Location}
use Rattle.xt_messages.specs.declared.file.Op.{Op}
use Rattle.xt_messages.specs.declared.file.Op.TheVariants as op
use Rattle.xt_messages.specs.declared.file.FileHead.{FileHead}
use Rattle.xt_messages.specs.declared.file.Update.{Update}
use Rattle.xt_messages.specs.declared.reply.Denial.{Denial}
use Rattle.xt_messages.specs.declared.reply.Denial.TheVariants as denial
use Rattle.xt_messages.specs.declared.reply.Reply.{Reply}
use Rattle.xt_messages.specs.declared.reply.Reply.TheVariants as reply
use Rattle.xt_messages.specs.declared.record.Record.{Record}
use Rattle.xt_messages.specs.declared.record.Record.TheVariants as kept
use Rattle.xt_base.specs.declared.TheConstants.{OBJECTS, COUNTS}
use Rattle.xt_protocol.specs.Heads.{plain_stamp, version_of, head_after}
use Rattle.xt_protocol.specs.Objects.{present_body}
use Rattle.xt_protocol.specs.ReplicaRows.{kept_after, head_fits}
use Rattle.xt_protocol.specs.Writes.{WriteStanding, repeated, older, turned_away, fresh, standing, update_of}
use Rattle.xt_protocol.specs.declared.states.PlainActed.{PlainActed}

-- what a member of a striped file keeps: the file, the node itself, and the head over the objects that it owns
pub record PlainFile : Type 0 where
  pub file : FileId
  pub node : NodeId
  pub head : FileHead

-- what the member keeps after a step: the step's record says all that changes, and it changes the head alone
abbrev pub plain_after : PlainFile → Option Record → PlainFile
plain_after p rec = record p { head = (kept_after (record { file = p.file; head = p.head; held = []; location = None; closed = None }) rec).head }

-- nothing comes of an operation
abbrev pub nothing : PlainActed
nothing = record { rec = None; reply = None }

-- a reply without a change
abbrev pub only : Reply → PlainActed
only answer = record { rec = None; reply = Some answer }

-- ---- refused

abbrev pub is_node : NodeId → Option NodeId → Bool
is_node node None = false
is_node node (Some owner) = owner.0 == node.0

-- an object lies on the member whose place in the list, from 0, is the object's number modulo the length of the list
abbrev pub owns : List NodeId → NodeId → ℕ → Bool
owns members node object = is_node node (slice_get members (object % length members))

-- whether an operation is on another member's object; a truncation goes to every member
abbrev pub is_of_another : List NodeId → NodeId → Op → Bool
is_of_another members node (op.Read object at len) = not (owns members node object)
is_of_another members node (op.Write object at bytes) = not (owns members node object)
is_of_another members node (op.Truncate size) = false

-- list refused: this node isn't in it; range refused: the object is another member's
abbrev pub plain_refusal : List NodeId → NodeId → Op → Option Denial
plain_refusal members node asked =
    if not (has_node members node.0) then Some denial.List
    else if is_of_another members node asked then Some denial.Range
    else None

-- ---- reads

-- Read served: the member's count and mark, and the object's bytes from a place on, filled with zeros to so many. How far the
-- file goes no member knows: the client cuts what it reads.
abbrev pub serve_read : (ℕ → Stamp → List ℕ) → FileHead → ℕ → ℕ → ℕ → Reply
serve_read body head object at len =
    reply.Ok head.stamp.count head.mark (cut_or_filled (drop at (present_body body (version_of head.versions object) object)) len)

-- ---- writes and truncations

-- the update of the next count, where there is one left; its stamp has no primary's epoch
abbrev pub next_update : ℕ → (ℕ → Stamp → List ℕ) → FileHead → OpId → ℕ → Op → Option Update
next_update stripe body head id epoch asked =
    if nat_lt (head.stamp.count + 1) COUNTS
    then update_of stripe body head (plain_stamp (head.stamp.count + 1)) id epoch asked
    else None

-- write kept: it is recorded and answered, where the head after it is within its limits
abbrev pub write_kept : PlainFile → Option Update → PlainActed
write_kept p None = nothing
write_kept p (Some update) =
    if head_fits (head_after p.head update)
    then record { rec = Some (kept.Update p.file update); reply = Some (reply.Ok update.stamp.count update.mark []) }
    else nothing

-- by how it stands to the head: repeated, it is answered with its own count; older, nothing comes of it; refused; or kept
abbrev pub write_stands : PlainFile → ℕ → (ℕ → Stamp → List ℕ) → OpId → ℕ → Op → WriteStanding → PlainActed
write_stands p stripe body id epoch asked (repeated count) = only (reply.Ok count p.head.mark [])
write_stands p stripe body id epoch asked older = nothing
write_stands p stripe body id epoch asked (turned_away answer) = only answer
write_stands p stripe body id epoch asked fresh = write_kept p (next_update stripe body p.head id epoch asked)

-- a striped file has as many objects for each member as a replicated one has in all
abbrev pub serve_plain_write : PlainFile → (ℕ → Stamp → List ℕ) → OpId → ℕ → Location → Op → PlainActed
serve_plain_write p body id epoch location asked =
    write_stands p location.stripe body id epoch asked
    (standing (OBJECTS * length location.members) location.stripe p.head id epoch asked)

-- ---- the step

abbrev pub served : PlainFile → (ℕ → Stamp → List ℕ) → OpId → ℕ → Location → Op → PlainActed
served p body id epoch location (op.Read object at len) = only (serve_read body p.head object at len)
served p body id epoch location (op.Write object at bytes) = serve_plain_write p body id epoch location (op.Write object at bytes)
served p body id epoch location (op.Truncate size) = serve_plain_write p body id epoch location (op.Truncate size)

abbrev pub refused_or : Option Denial → PlainActed → PlainActed
refused_or (Some why) row = only (reply.Denied why)
refused_or None row = row

-- An operation on a striped file at one of its members, row by row: list or range refused; a read is served; a write or a
-- truncation goes by how it stands to the head.
unfoldable pub plain_step : PlainFile → (ℕ → Stamp → List ℕ) → OpId → ℕ → Location → Op → PlainActed
plain_step p body id epoch location asked =
    refused_or (plain_refusal location.members p.node asked) (served p body id epoch location asked)
