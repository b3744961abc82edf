-- what a message may do to a file: the rows of one list take it, or a row of its own does
use Rattle.std.specs.Prelude.{◌≡◌, ℕ, true, false, None, List}
use Rattle.xt_base.specs.declared.ids.NodeId.{NodeId}
use Rattle.xt_base.specs.declared.ids.FileId.{FileId}
use Rattle.xt_base.specs.declared.ids.OpId.{OpId}
use Rattle.xt_base.specs.declared.ids.Stamp.{Stamp}
use Rattle.xt_messages.specs.Limits.{is_of_list}
use Rattle.xt_messages.specs.declared.file.FileHead.{FileHead}
use Rattle.xt_messages.specs.declared.file.Kind.TheVariants as kind
use Rattle.xt_messages.specs.declared.file.Location.{Location}
use Rattle.xt_messages.specs.declared.reply.Reply.TheVariants as reply
use Rattle.xt_messages.specs.declared.message.Payload.{Payload}
use Rattle.xt_messages.specs.declared.message.Payload.TheVariants as payload
use Rattle.xt_protocol.specs.FileStates.{FileState, Site, FileStep, nothing, and_then}
use Rattle.xt_protocol.specs.Overdue.{expired}
use Rattle.xt_protocol.specs.FileSteps.{message_comes, step_of_file}
use Rattle.xt_protocol.specs.AskRows.{capability_refused, turned_off}
use Rattle.list_rows.specs.ListRows.{list_version, is_closed, told_version, with_version, close_comes, install_comes, pull_comes, pulled_comes}

-- this is the version of the list, and the file isn't closed at it
pub record IsOpenAt (s : FileState) (version : ℕ) : Type 0 where
  pub same : version ≡ list_version s.kept.location
  pub open_list : is_closed s.kept ≡ false

-- an ask that comes to the rows: where it is on a replicated file and its capability isn't refused, it is for the open list
abbrev pub AskPasses : Site → FileState → Payload → Type 0
AskPasses site s (payload.Ask number capability asked) =
    capability.location.kind ≡ kind.Replicated → capability_refused site capability asked ≡ None → IsOpenAt s capability.location.version
AskPasses site s _ = ⊥

-- what the rows of one list take
pub data PassesRows (site : Site) (s : FileState) (list : ℕ) (content : Payload) : Type 0 where
  of_list : is_of_list content ≡ true → IsOpenAt s list → PassesRows site s list content
  asks : AskPasses site s content → PassesRows site s list content

-- The rows of their own: an ask is told the version, or nothing comes of a message; a file is closed, or a list installed; and a body is
-- sent, or held.
pub data ListRow (site : Site) (s : FileState) (from : NodeId) (content : Payload) (step : FileStep) : Type 0 where
  turns_off : (id : OpId) → step ≡ turned_off site s id (reply.OldList (told_version s.kept)) → ListRow site s from content step
  rests : step ≡ nothing s → ListRow site s from content step
  closing : (file : FileId) (version : ℕ) → content ≡ payload.Close file version → step ≡ close_comes site s from version → ListRow site s from content step
  installing : (file : FileId) (location : Location) (head : FileHead) (source : NodeId) → content ≡ payload.Install file location head source
      → step ≡ install_comes site s from location head source → ListRow site s from content step
  pulls : (file : FileId) (object : ℕ) (version : Stamp) → content ≡ payload.Pull file object version → step ≡ pull_comes site s from object version → ListRow site s from content step
  pulled : (file : FileId) (object : ℕ) (version : Stamp) (bytes : List ℕ) → content ≡ payload.Pulled file object version bytes
      → step ≡ pulled_comes site s object version bytes → ListRow site s from content step

-- a message, when nothing is overdue
pub data Takes (site : Site) (s : FileState) (from : NodeId) (list : ℕ) (content : Payload) (step : FileStep) : Type 0 where
  rows : PassesRows site s list content → step ≡ message_comes site s from content → Takes site s from list content step
  own : ListRow site s from content step → Takes site s from list content step

-- A step on a message: that of the rows of one list, whose messages then carry the version; or what is overdue, and then a row of its own.
pub data StepTakes (site : Site) (s : FileState) (from : NodeId) (list : ℕ) (content : Payload) (step : FileStep) : Type 0 where
  steps : PassesRows site (expired site s).state list content → step ≡ with_version (list_version s.kept.location) (step_of_file site s from content)
      → StepTakes site s from list content step
  settles : (row : FileState → FileStep) → ListRow site (expired site s).state from content (row (expired site s).state)
      → step ≡ with_version (list_version s.kept.location) (and_then (expired site s) row) → StepTakes site s from list content step
