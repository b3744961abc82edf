-- what a file takes in place, so that it is as it was after an error
use Rattle.std.specs.Prelude.{Bool, true, false, ◌==◌, ◌&&◌, ◌||◌, not, length, is_some}
use Rattle.xt_messages.specs.declared.message.Payload.{Payload}
use Rattle.xt_messages.specs.declared.message.Payload.TheVariants as payload
use Rattle.xt_protocol.specs.FileStates.{FileState}
use Rattle.xt_protocol.specs.Primaries.{is_active}
use Rattle.osd_files.specs.Views.{FileView}

-- no ask waits, and that of an issued update stays with it: what becomes of the asks after the primary needs no memory
abbrev pub asks_rest : FileState → Bool
asks_rest s = length s.asks.waiting == 0 && (not (is_some s.asks.issued) || is_active s.primary.tenure)

abbrev pub is_light : FileView → Payload → Bool
is_light v (payload.Ask number capability asked) = is_some v.state.kept.location
is_light v (payload.Gather file epoch) = true
is_light v (payload.Fetch file epoch object version) = true
is_light v (payload.Stage file epoch object version bytes) = true
is_light v (payload.Head file epoch head) = true
is_light v (payload.Update file update) = true
is_light v (payload.Staged file epoch object version) = asks_rest v.state
is_light v (payload.Ack file stamp) = asks_rest v.state
is_light v _ = false
