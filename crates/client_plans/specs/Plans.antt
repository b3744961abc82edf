-- What each client command does: its operations, one after the other, each by the results of those before it, and what it writes.
use Rattle.std.specs.Prelude.{ℕ, ◌+◌, ◌-◌, ◌/◌, ◌%◌, ◌==◌, ◌&&◌, ◌||◌, nat_lt, min, max, Bool, true, false, if◌then◌else◌, Option, Some, None, List, [], ◌∷◌, ◌++◌, length, take, drop, fold, slice_get, codes}
use Rattle.std.specs.List.{flat_map}
use Rattle.std.specs.Fmt.{decimal}
use Rattle.std.specs.Ordering.{nat_cmp}
use Rattle.std.specs.BTreeMap.{insert_entry}
use Rattle.std.specs.Map.{values_of}
use Rattle.xt_base.specs.declared.ids.NodeId.{NodeId}
use Rattle.xt_base.specs.declared.ids.SizeMark.{SizeMark}
use Rattle.xt_messages.specs.declared.event.Call.{Call}
use Rattle.xt_messages.specs.declared.event.Call.TheVariants as call
use Rattle.xt_messages.specs.declared.file.Kind.{Kind}
use Rattle.xt_messages.specs.declared.file.Kind.TheVariants as kind
use Rattle.xt_messages.specs.declared.file.Capability.{Capability}
use Rattle.xt_messages.specs.declared.file.Location.{Location}
use Rattle.xt_messages.specs.declared.meta.MetaReq.{MetaReq}
use Rattle.xt_messages.specs.declared.meta.MetaReq.TheVariants as meta
use Rattle.xt_messages.specs.declared.meta.MetaAnswer.{MetaAnswer}
use Rattle.xt_messages.specs.declared.meta.MetaAnswer.TheVariants as told
use Rattle.xt_messages.specs.declared.meta.MetaRefusal.TheVariants as refusal_of
use Rattle.xt_messages.specs.declared.meta.RowKind.{RowKind}
use Rattle.xt_messages.specs.declared.meta.RowKind.TheVariants as row_kind
use Rattle.xt_messages.specs.declared.registry.RegistryReq.TheVariants as registry
use Rattle.xt_messages.specs.declared.registry.RegistryRow.{RegistryRow}
use Rattle.xt_messages.specs.declared.registry.RegistryAnswer.{RegistryAnswer}
use Rattle.xt_messages.specs.declared.registry.RegistryAnswer.TheVariants as row
use Rattle.xt_messages.specs.declared.status.Refusal.{Refusal}
use Rattle.xt_messages.specs.declared.status.Refusal.TheVariants as ends_by
use Rattle.xt_messages.specs.declared.status.Status.{Status}
use Rattle.xt_messages.specs.declared.status.Status.TheVariants as status
use Rattle.truncate_epochs.specs.SizeMarks.{merged}
use Rattle.client_rows.specs.declared.requests.CallResult.{CallResult}
use Rattle.client_rows.specs.declared.requests.CallResult.TheVariants as how
use Rattle.client_plans.specs.declared.stage.Stage.{Stage}
use Rattle.client_plans.specs.declared.stage.Stage.TheVariants as next
use Rattle.client_plans.specs.declared.stage.Goes.{Goes}
use Rattle.command_words.specs.declared.job.ClientJob.{ClientJob}
use Rattle.command_words.specs.declared.job.Layout.{Layout}
use Rattle.command_words.specs.declared.job.Layout.TheVariants as layout
use Rattle.command_words.specs.declared.job.Order.{Order}
use Rattle.command_words.specs.declared.job.Order.TheVariants as order

-- ---- a command

-- what is asked for, and who asks
pub record Task : Type 0 where
  pub wish : Order
  pub user : ℕ
  pub group : ℕ

-- what a client job asks for
abbrev pub task_of : ClientJob → Task
task_of job = record { wish = job.order; user = job.who.user; group = job.who.group }

abbrev pub goes_to : Stage → Goes
goes_to stage = record { stage = stage; text = [] }

abbrev pub ends_with : List ℕ → Goes
ends_with text = record { stage = next.Over status.Done; text = text }

abbrev pub refused : Refusal → Goes
refused why = goes_to (next.Over (status.Refused why))

abbrev pub nobody : NodeId
nobody = record { 0 = 0 }

-- The commands on the registry ask the DIR alone: for the row that is set or removed, or for the rows that are shown. Every other command
-- first learns where the MRC is, and then where the OSDs are.
abbrev pub begins : Order → Stage
begins (order.Register node kind address) = next.Looks
begins (order.Unregister node) = next.Looks
begins order.Nodes = next.Collects 2 nobody []
begins _ = next.Lists 2 nobody

-- after these lists
abbrev pub main_stage : Order → Stage
main_stage (order.Ls path) = next.Pages []
main_stage (order.Put path pattern lies stripe) = next.Creates
main_stage (order.Get path range hex) = next.Grants
main_stage (order.Truncate path size) = next.Grants
main_stage _ = next.AsksOnce

-- ---- pieces

-- an object has at least one byte
abbrev pub object_size : Capability → ℕ
object_size cap = max 1 cap.location.stripe

-- A piece ends where its object does, and no later than the whole.
abbrev pub piece_length : ℕ → ℕ → ℕ → ℕ
piece_length stripe from end = min (stripe - from % stripe) (end - from)

-- where a range begins and ends: without one it is all that a file may have
abbrev pub first_in : Option (ℕ × ℕ) → ℕ
first_in None = 0
first_in (Some range) = range.0

abbrev pub end_in : Option (ℕ × ℕ) → ℕ
end_in None = 281474976710656
end_in (Some range) = range.0 + range.1

-- where the range of `get` ends
abbrev pub end_of : Order → ℕ
end_of (order.Get path range hex) = end_in range
end_of _ = 0

-- ---- what is written

abbrev pub hex_digit : ℕ → ℕ
hex_digit n = if nat_lt n 10 then 48 + n else 87 + n

abbrev pub hex_pair : ℕ → List ℕ
hex_pair byte = hex_digit (byte / 16) ∷ hex_digit (byte % 16) ∷ []

abbrev pub hex_text : List ℕ → List ℕ
hex_text bytes = flat_map hex_pair bytes

abbrev pub shown_as : Bool → List ℕ → List ℕ
shown_as true bytes = hex_text bytes
shown_as false bytes = bytes

-- the line end of what is shown in hex, also where that is nothing
abbrev pub line_end : Bool → List ℕ
line_end true = 10 ∷ []
line_end false = []

-- words, a space before each
abbrev pub spaced : List (List ℕ) → List ℕ
spaced words = flat_map (λ word. 32 ∷ word) words

abbrev pub row_word : RowKind → List ℕ
row_word row_kind.Directory = codes "dir"
row_word row_kind.File = codes "file"

-- a directory has no size
abbrev pub row_mark : RowKind → SizeMark → SizeMark
row_mark row_kind.Directory mark = record { epoch = 0; size = 0 }
row_mark row_kind.File mark = mark

-- three octal digits
abbrev pub mode_word : ℕ → List ℕ
mode_word mode = (48 + mode / 64 % 8) ∷ (48 + mode / 8 % 8) ∷ (48 + mode % 8) ∷ []

abbrev pub row_line : RowKind → ℕ → ℕ → ℕ → SizeMark → List ℕ
row_line kind owner group mode mark =
    row_word kind ++ spaced (decimal owner ∷ decimal group ∷ mode_word mode ∷ decimal mark.epoch ∷ decimal mark.size ∷ []) ++ 10 ∷ []

-- nodes, a space before each
abbrev pub spaced_nodes : List NodeId → List ℕ
spaced_nodes nodes = flat_map (λ node. 32 ∷ decimal node.0) nodes

abbrev pub changing_word : Bool → List ℕ
changing_word true = codes " changing"
changing_word false = []

-- the line of a file's list: its version, its nodes, and whether it is being changed
abbrev pub replicas_line : Location → Bool → List ℕ
replicas_line location changing = decimal location.version ++ spaced_nodes location.members ++ changing_word changing ++ 10 ∷ []

abbrev pub lines_of : List (List ℕ) → List ℕ
lines_of names = flat_map (λ name. name ++ 10 ∷ []) names

-- the line of a row of the registry: its node, kind, address and version
abbrev pub node_line : RegistryRow → List ℕ
node_line r = decimal r.node.0 ++ 32 ∷ decimal r.kind ++ 32 ∷ r.address ++ 32 ∷ decimal r.version ++ 10 ∷ []

-- the lines of rows beside their nodes, rising; where a node has two rows, the later one counts
abbrev pub node_lines : List RegistryRow → List (ℕ × List ℕ)
node_lines rows = fold (λ lines r. insert_entry nat_cmp lines r.node.0 (node_line r)) [] rows

abbrev pub nodes_text : List RegistryRow → List ℕ
nodes_text rows = flat_map (λ line. line) (values_of (node_lines rows))

-- ---- after a grant, and after a piece

-- The piece of a read at this place is asked for while none was asked for yet, or the file's known size is above it.
abbrev pub reads_on : Option (ℕ × ℕ) → Capability → ℕ → SizeMark → Bool
reads_on range cap from mark =
    nat_lt from (end_in range) && (from == first_in range || nat_lt from mark.size)
    && nat_lt (from / object_size cap) 4294967295

abbrev pub read_on : Option (ℕ × ℕ) → Bool → Capability → ℕ → SizeMark → List ℕ → Goes
read_on range hex cap from mark bytes =
    if reads_on range cap from mark then record { stage = next.Reads cap from mark; text = shown_as hex bytes }
    else ends_with (shown_as hex bytes ++ line_end hex)

abbrev pub granted_to : Order → Capability → SizeMark → Goes
granted_to (order.Put path pattern lies stripe) cap mark = goes_to (next.Fetches cap mark)
granted_to (order.Get path range hex) cap mark = read_on range hex cap (first_in range) mark []
granted_to _ cap mark = goes_to (next.Truncates cap mark)

-- a piece was written
abbrev pub written : Order → Capability → SizeMark → Goes
written (order.Put path pattern lies stripe) cap mark = goes_to (next.Fetches cap mark)
written _ cap mark = ends_with []

-- a piece was read
abbrev pub was_read : Order → Capability → ℕ → SizeMark → List ℕ → Goes
was_read (order.Get path range hex) cap from mark bytes =
    read_on range hex cap (from + piece_length (object_size cap) from (end_in range)) mark bytes
was_read _ cap from mark bytes = ends_with []

abbrev pub done_at : Order → Stage → SizeMark → List ℕ → Goes
done_at wish (next.Writes cap from mark piece) learnt bytes = written wish cap (merged mark learnt)
done_at wish (next.Reads cap from mark) learnt bytes = was_read wish cap from (merged mark learnt) bytes
done_at wish (next.Truncates cap mark) learnt bytes = goes_to (next.Reports cap (merged mark learnt))
done_at wish stage learnt bytes = ends_with []

-- ---- after an answer of the MRC

abbrev pub or_empty : Option (List ℕ) → List ℕ
or_empty None = []
or_empty (Some name) = name

abbrev pub last_of : List (List ℕ) → List ℕ
last_of names = or_empty (slice_get names (length names - 1))

-- a page with fewer than 512 names is the last one
abbrev pub names_told : List (List ℕ) → Goes
names_told names =
    if nat_lt (length names) 512 then ends_with (lines_of names)
    else record { stage = next.Pages (last_of names); text = lines_of names }

-- after the report of a file's size `put` writes that size
abbrev pub size_told : Order → SizeMark → List ℕ
size_told (order.Put path pattern lies stripe) mark = decimal mark.size ++ 10 ∷ []
size_told _ mark = []

-- a file that is there already is written
abbrev pub created : MetaAnswer → Goes
created (told.Refused refusal_of.Exists) = goes_to next.Grants
created (told.Refused why) = refused (ends_by.Meta why)
created _ = goes_to next.Grants

-- what is answered to a request that isn't refused
abbrev pub granted : Order → MetaAnswer → Goes
granted wish (told.Granted cap mark) = granted_to wish cap mark
granted wish _ = ends_with []

abbrev pub listed : MetaAnswer → Goes
listed (told.Names names) = names_told names
listed _ = ends_with []

abbrev pub reported : Order → SizeMark → MetaAnswer → Goes
reported wish mark told.Done = ends_with (size_told wish mark)
reported wish mark _ = ends_with []

abbrev pub shown : MetaAnswer → Goes
shown (told.Row kind owner group mode mark) = ends_with (row_line kind owner group mode (row_mark kind mark))
shown (told.Located location changing) = ends_with (replicas_line location changing)
shown _ = ends_with []

abbrev pub accepted : Order → Stage → MetaAnswer → Goes
accepted wish next.Grants what = granted wish what
accepted wish (next.Pages above) what = listed what
accepted wish (next.Reports cap mark) what = reported wish mark what
accepted wish next.AsksOnce what = shown what
accepted wish stage what = ends_with []

abbrev pub unless_refused : Order → Stage → MetaAnswer → Goes
unless_refused wish stage (told.Refused why) = refused (ends_by.Meta why)
unless_refused wish stage what = accepted wish stage what

abbrev pub answered : Order → Stage → MetaAnswer → Goes
answered wish next.Creates what = created what
answered wish stage what = unless_refused wish stage what

-- ---- after an answer of the DIR

abbrev pub node_in : Option RegistryRow → NodeId
node_in None = nobody
node_in (Some r) = r.node

abbrev pub last_node : List RegistryRow → NodeId
last_node rows = node_in (slice_get rows (length rows - 1))

-- a page with fewer than 256 rows is the last one; the rows of MRCs come before those of OSDs
abbrev pub rows_told : Order → ℕ → List RegistryRow → Stage
rows_told wish kind rows =
    if nat_lt (length rows) 256 then (if kind == 2 then next.Lists 1 nobody else main_stage wish)
    else next.Lists kind (last_node rows)

-- a row that isn't there has the version 0
abbrev pub version_told : RegistryAnswer → ℕ
version_told (row.Row found) = found.version
version_told _ = 0

abbrev pub rows_listed : Order → ℕ → RegistryAnswer → Goes
rows_listed wish kind (row.Rows rows) = goes_to (rows_told wish kind rows)
rows_listed wish kind _ = ends_with []

-- The rows that were told so far are shown once all pages were.
abbrev pub rows_collected : ℕ → List RegistryRow → List RegistryRow → Goes
rows_collected kind told rows =
    if nat_lt (length rows) 256 then (if kind == 2 then goes_to (next.Collects 1 nobody told) else ends_with (nodes_text told))
    else goes_to (next.Collects kind (last_node rows) told)

abbrev pub nodes_listed : ℕ → List RegistryRow → RegistryAnswer → Goes
nodes_listed kind before (row.Rows rows) = rows_collected kind (before ++ rows) rows
nodes_listed kind before _ = ends_with []

-- a row was set or removed, or not
abbrev pub row_set : RegistryAnswer → Goes
row_set (row.Changed now) = refused (ends_by.Changed now)
row_set row.Absent = refused ends_by.Absent
row_set _ = ends_with []

abbrev pub registered : Order → Stage → RegistryAnswer → Goes
registered wish (next.Lists kind above) what = rows_listed wish kind what
registered wish (next.Collects kind above rows) what = nodes_listed kind rows what
registered wish next.Looks what = goes_to (next.Sets (version_told what))
registered wish (next.Sets version) what = row_set what
registered wish stage _ = ends_with []

-- ---- how a command goes on

-- How a command that asks for this goes on after the result of its operation. An operation that ends otherwise than it should ends the
-- command.
unfoldable pub goes_by : Order → Stage → CallResult → Goes
goes_by wish stage (how.Ok count mark bytes) = done_at wish stage mark bytes
goes_by wish stage (how.Retry answers) = goes_to (next.Over (status.Retry answers))
goes_by wish stage (how.Refused why) = refused (ends_by.Ask why)
goes_by wish stage (how.Meta what) = answered wish stage what
goes_by wish stage (how.Registry what) = registered wish stage what

-- How many bytes of what `put` writes come next at most, where so many were taken before: up to the end of an object. No other stage
-- takes any.
abbrev pub room_at : ℕ → Stage → ℕ
room_at taken (next.Fetches cap mark) = object_size cap - taken % object_size cap
room_at taken stage = 0

-- the piece of these bytes that is taken then
abbrev pub piece_at : List ℕ → ℕ → Stage → List ℕ
piece_at bytes taken stage = take (room_at taken stage) (drop taken bytes)

-- The piece is written; where nothing is left, the file's size is reported. So no bytes need no write.
abbrev pub with_piece : ℕ → List ℕ → Stage → Stage
with_piece taken piece (next.Fetches cap mark) = if length piece == 0 then next.Reports cap mark else next.Writes cap taken mark piece
with_piece taken piece stage = stage

-- how far a command is: its stage, how many of the bytes that `put` writes were taken, and what was written
pub record Progress : Type 0 where
  pub stage : Stage
  pub taken : ℕ
  pub text : List ℕ

-- how a command goes on that writes these bytes, of which so many were taken
abbrev pub goes_on : Task → List ℕ → ℕ → Stage → CallResult → Progress
goes_on task bytes taken stage result =
    let went = goes_by task.wish stage result in
    let piece = piece_at bytes taken went.stage in
    record { stage = with_piece taken piece went.stage; taken = taken + length piece; text = went.text }

-- ---- the operation of a stage

abbrev pub once : Order → Option MetaReq
once (order.Mkdir path) = Some (meta.Mkdir path 493)
once (order.Rmdir path) = Some (meta.Rmdir path)
once (order.Rm path) = Some (meta.Unlink path)
once (order.Mv from to) = Some (meta.Rename from to)
once (order.Chmod path mode) = Some (meta.Chmod path mode)
once (order.Stat path) = Some (meta.Stat path)
once (order.Replicas path) = Some (meta.Locate path)
once _ = None

abbrev pub names_above : Order → List ℕ → Option MetaReq
names_above (order.Ls path) above = Some (meta.List path above)
names_above _ above = None

abbrev pub lies_on : Layout → Kind × ℕ
lies_on (layout.Replicated n) = (kind.Replicated, n)
lies_on (layout.Striped n) = (kind.Striped, n)

-- a new file may be read by all, and written by its owner
abbrev pub create_of : Order → Option MetaReq
create_of (order.Put path pattern lies stripe) = Some (meta.Create path 420 (lies_on lies).0 (lies_on lies).1 stripe)
create_of _ = None

abbrev pub grant : List ℕ → ℕ → Option MetaReq
grant path want = Some (meta.Grant path want)

-- 1 to read, 2 to write, 3 to truncate
abbrev pub grant_of : Order → Option MetaReq
grant_of (order.Get path range hex) = grant path 1
grant_of (order.Put path pattern lies stripe) = grant path 2
grant_of (order.Truncate path size) = grant path 3
grant_of _ = None

-- the metadata request of a stage
abbrev pub request_of : Order → Stage → Option MetaReq
request_of wish next.AsksOnce = once wish
request_of wish (next.Pages above) = names_above wish above
request_of wish next.Creates = create_of wish
request_of wish next.Grants = grant_of wish
request_of wish _ = None

abbrev pub meta_call : ℕ → ℕ → Option MetaReq → Option Call
meta_call user group None = None
meta_call user group (Some request) = Some (call.Meta user group request)

abbrev pub get_of : Order → Option Call
get_of (order.Register node kind address) = Some (call.Registry (registry.Get node))
get_of (order.Unregister node) = Some (call.Registry (registry.Get node))
get_of _ = None

abbrev pub set : NodeId → ℕ → List ℕ → ℕ → Option Call
set node kind address version = Some (call.Registry (registry.Set node kind address version))

-- a row is set or removed under the version that it has
abbrev pub set_of : Order → ℕ → Option Call
set_of (order.Register node kind address) version = set node kind address version
set_of (order.Unregister node) version = Some (call.Registry (registry.Remove node version))
set_of _ version = None

abbrev pub write_of : Capability → ℕ → List ℕ → Option Call
write_of cap from piece = Some (call.Write cap.file.number (from / object_size cap) (from % object_size cap) piece)

abbrev pub read_of : Order → Capability → ℕ → Option Call
read_of (order.Get path range hex) cap from =
    Some (call.Read cap.file.number (from / object_size cap) (from % object_size cap)
    (piece_length (object_size cap) from (end_in range)))
read_of _ cap from = None

abbrev pub truncate_of : Order → Capability → Option Call
truncate_of (order.Truncate path size) cap = Some (call.Truncate cap.file.number size cap.epoch)
truncate_of _ cap = None

abbrev pub rows_above : ℕ → NodeId → Option Call
rows_above kind above = Some (call.Registry (registry.List kind above))

abbrev pub report_of : ℕ → ℕ → Capability → Option Call
report_of user group cap = Some (call.Report user group cap.file.number)

-- the call of a stage; none where the command is over
unfoldable pub operation_of : Task → Stage → Option Call
operation_of task (next.Lists kind above) = rows_above kind above
operation_of task (next.Collects kind above rows) = rows_above kind above
operation_of task next.Looks = get_of task.wish
operation_of task (next.Sets version) = set_of task.wish version
operation_of task (next.Writes cap from mark piece) = write_of cap from piece
operation_of task (next.Reads cap from mark) = read_of task.wish cap from
operation_of task (next.Truncates cap mark) = truncate_of task.wish cap
operation_of task (next.Reports cap mark) = report_of task.user task.group cap
operation_of task (next.Fetches cap mark) = None
operation_of task (next.Over ended) = None
operation_of task stage = meta_call task.user task.group (request_of task.wish stage)

-- the status with which a command ends that has no operation at this stage
abbrev pub status_at : Stage → Status
status_at (next.Over ended) = ended
status_at _ = status.Done

-- A command that writes these bytes, of which so many were taken, after the results of its operations.
unfoldable pub after : Task → List ℕ → ℕ → Stage → List CallResult → Progress
after task bytes taken stage [] = record { stage = stage; taken = taken; text = [] }
after task bytes taken stage (result ∷ results) =
    let went = goes_on task bytes taken stage result in
    let rest = after task bytes went.taken went.stage results in
    record { stage = rest.stage; taken = rest.taken; text = went.text ++ rest.text }
