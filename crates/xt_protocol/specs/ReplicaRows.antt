-- what a replica does with the messages of a primary
use Rattle.std.specs.Prelude.{ℕ, Bool, ◌&&◌, ◌==◌, nat_lt, nat_le, not, if◌then◌else◌, ◌+◌, Option, Some, None, List, length, find}
use Rattle.xt_base.specs.declared.ids.FileId.{FileId}
use Rattle.xt_base.specs.declared.ids.Epoch.{Epoch}
use Rattle.xt_base.specs.declared.ids.Stamp.{Stamp}
use Rattle.xt_messages.specs.declared.file.ObjectVersion.{ObjectVersion}
use Rattle.xt_messages.specs.declared.file.FileHead.{FileHead}
use Rattle.xt_messages.specs.declared.file.Update.{Update}
use Rattle.xt_messages.specs.declared.message.Payload.{Payload}
use Rattle.xt_messages.specs.declared.message.Payload.TheVariants as payload
use Rattle.xt_messages.specs.declared.record.Record.{Record}
use Rattle.xt_messages.specs.declared.record.Record.TheVariants as kept
use Rattle.xt_messages.specs.declared.record.FileRow.{FileRow}
use Rattle.xt_base.specs.declared.TheConstants.{OBJECTS, CLIENTS, COUNTS}
use Rattle.xt_protocol.specs.Heads.{head_after}
use Rattle.xt_protocol.specs.Folds.{row_after, body_of}
use Rattle.xt_protocol.specs.declared.states.Acted.{Acted}
use Rattle.xt_protocol.specs.Stamps.{is_epoch, is_earlier, is_below, has_version}

-- what is kept of a file after a step: the record of the step says all that changes
abbrev pub kept_after : FileRow → Option Record → FileRow
kept_after row None = row
kept_after row (Some rec) = row_after row rec

-- nothing comes of a message
abbrev pub unanswered : Acted
unanswered = record { rec = None; answer = None }

-- an answer without a change
abbrev pub only : Payload → Acted
only answer = record { rec = None; answer = Some answer }

-- a record and the answer that depends on it
abbrev pub after_record : Record → Payload → Acted
after_record rec answer = record { rec = Some rec; answer = Some answer }

-- a higher epoch was promised
abbrev pub refused : FileId → FileHead → Epoch → Acted
refused file own epoch = only (payload.Refused file epoch own.promised)

-- the replica lacks what the message builds on
abbrev pub behind : FileId → FileHead → Epoch → Acted
behind file own epoch = only (payload.Behind file epoch own.stamp)

-- a message of exactly the promised epoch; of an earlier one it is refused, and for a later one the replica is behind
abbrev pub as_promised : FileId → FileHead → Epoch → Acted → Acted
as_promised file own epoch row =
    if is_earlier epoch own.promised then refused file own epoch
    else if is_earlier own.promised epoch then behind file own epoch
    else row

-- Gathered: an epoch that isn't earlier than the promised one is promised, and the head reported. A new promise is kept
-- first.
unfoldable pub gathered : FileId → FileHead → Epoch → Acted
gathered file own epoch =
    if is_earlier epoch own.promised then refused file own epoch
    else if is_earlier own.promised epoch
    then after_record (kept.Promise file epoch) (payload.Status file epoch (record own { promised = epoch }))
    else only (payload.Status file epoch own)

-- Fetched from: the body of a version that is held. A promise doesn't matter.
unfoldable pub fetched_from : FileId → List ObjectVersion → (ℕ → Stamp → List ℕ) → Epoch → ℕ → Stamp → Payload
fetched_from file held body epoch object version =
    if has_version held (body_of object version)
    then payload.Object file epoch object version (body object version)
    else payload.Missing file epoch object version

-- the record of a body, unless it is held
abbrev pub stage_record : FileId → List ObjectVersion → ℕ → Stamp → List ℕ → Option Record
stage_record file held object version bytes =
    if has_version held (body_of object version) then None else Some (kept.Stage file object version bytes)

-- Staged: the body is held from now on.
unfoldable pub staged : FileId → FileHead → List ObjectVersion → Epoch → ℕ → Stamp → List ℕ → Acted
staged file own held epoch object version bytes =
    as_promised file own epoch
    (record { rec = stage_record file held object version bytes; answer = Some (payload.Staged file epoch object version) })

-- head taken, where each version that it names is held; else the least object whose version is missing is reported
abbrev pub head_taken : FileId → Epoch → FileHead → Option ObjectVersion → Acted
head_taken file epoch head None = after_record (kept.Head file head) (payload.Ack file head.stamp)
head_taken file epoch head (Some v) = only (payload.Missing file epoch v.object v.version)

-- the first of these versions that isn't held
abbrev pub first_missing : List ObjectVersion → List ObjectVersion → Option ObjectVersion
first_missing held wanted = find (λ v. not (has_version held v)) wanted

-- a head that the replica doesn't have yet is taken; one that it has, or is past, is acknowledged again
abbrev pub head_offered : FileId → FileHead → List ObjectVersion → Epoch → FileHead → Acted
head_offered file own held epoch head =
    if is_below own.stamp head.stamp
    then head_taken file epoch head (first_missing held head.versions)
    else only (payload.Ack file head.stamp)

-- Head taken: a head counts only under its own epoch.
unfoldable pub headed : FileId → FileHead → List ObjectVersion → Epoch → FileHead → Acted
headed file own held epoch head =
    if is_epoch head.promised epoch && is_epoch head.stamp.epoch epoch
    then as_promised file own epoch (head_offered file own held epoch head)
    else unanswered

-- whether a head is within the limits of what can be kept and sent
abbrev pub head_fits : FileHead → Bool
head_fits head = nat_le (length head.versions) OBJECTS && nat_le (length head.sessions) CLIENTS && nat_lt head.stamp.count COUNTS

-- the next update is kept and acknowledged, where the head after it is within the limits
abbrev pub next_update : FileId → FileHead → Update → Acted
next_update file own update =
    if head_fits (head_after own update)
    then after_record (kept.Update file update) (payload.Ack file update.stamp)
    else unanswered

-- an update of the promised epoch: one that the replica has is acknowledged again, the next one is taken, and for a later
-- one, or on a head of an earlier epoch, the replica is behind
abbrev pub update_offered : FileId → FileHead → Update → Acted
update_offered file own update =
    if not (is_epoch own.stamp.epoch update.stamp.epoch) then behind file own update.stamp.epoch
    else if nat_le update.stamp.count own.stamp.count then only (payload.Ack file update.stamp)
    else if update.stamp.count == own.stamp.count + 1 then next_update file own update
    else behind file own update.stamp.epoch

-- Update taken.
unfoldable pub updated : FileId → FileHead → Update → Acted
updated file own update = as_promised file own update.stamp.epoch (update_offered file own update)
