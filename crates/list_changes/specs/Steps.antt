-- The step of a metadata server where lists change. It does what the step without changes does, and carries changes out.
use Rattle.std.specs.Prelude.{ℕ, max, if◌then◌else◌, Option, Some, None, List, [], ◌∷◌, map}
use Rattle.xt_base.specs.TimeSettings.{TimeSettings}
use Rattle.xt_base.specs.declared.ids.NodeId.{NodeId}
use Rattle.xt_messages.specs.declared.meta.MetaReq.{MetaReq}
use Rattle.xt_messages.specs.declared.meta.MetaAnswer.{MetaAnswer}
use Rattle.xt_messages.specs.declared.message.Payload.{Payload}
use Rattle.xt_messages.specs.declared.message.Payload.TheVariants as payload
use Rattle.xt_messages.specs.declared.event.Event.{Event}
use Rattle.xt_messages.specs.declared.event.Event.TheVariants as event
use Rattle.xt_messages.specs.declared.record.Record.{Record}
use Rattle.xt_protocol.specs.declared.turned.Turned.{Turned}
use Rattle.xt_protocol.specs.Turns.{sends, joined}
use Rattle.xt_protocol.specs.OsdSteps.{asks_dir}
use Rattle.reply_cache.specs.declared.Standing.{Standing}
use Rattle.reply_cache.specs.declared.Standing.TheVariants as standing
use Rattle.reply_cache.specs.Standings.{standing_of}
use Rattle.volume_rows.specs.declared.Asker.{Asker}
use Rattle.server_rows.specs.Requests.{marks_of}
use Rattle.server_rows.specs.Metadata as plain
use Rattle.server_rows.specs.Metadata.{MrcState, MrcStep, reply_to, record_of}
use Rattle.change_rows.specs.Changes.{server}
use Rattle.change_rows.specs.Coordinating.{Running, Step, woken, closing_comes, installation_comes, wanted_comes}
use Rattle.list_changes.specs.Requests.{nodes_with, outcome_with, is_recorded_with, is_spent_with}
use Rattle.list_changes.specs.Recorded.{Recorded, uncounted, after_request_with, recorded_of}

-- The state of a metadata server that changes lists: what it knows without changes, and the files with a change, in their order, with what
-- it has counted since its start.
pub record ChangingMrc : Type 0 where
  pub mrc : MrcState
  pub running : List Running

-- the server after a step, and what the step gives
pub record ChangingStep : Type 0 where
  pub server : ChangingMrc
  pub turned : Turned

-- what the records say of this state: all but the OSDs, the clock and what is counted
abbrev pub known_in : ChangingMrc → Recorded
known_in s = record { catalogue = s.mrc.catalogue; running = map uncounted s.running }

-- the step of a server without changes, which leaves them as they are
abbrev pub beside : List Running → MrcStep → ChangingStep
beside running step = record { server = record { mrc = step.mrc; running = running }; turned = step.turned }

-- what the changes do alone
abbrev pub alone : MrcState → Step → ChangingStep
alone mrc step = record { server = record { mrc = mrc; running = step.running }; turned = step.turned }

-- ---- requests

-- recorded: the request is kept, a file that it makes is marked, and it is answered
abbrev pub recorded_on : List ℕ → TimeSettings → ChangingMrc → NodeId → ℕ → Option (List NodeId) → Asker → MetaReq → ChangingStep
recorded_on key times s client number nodes who request =
    let volumes = s.mrc.catalogue.volumes in
    let outcome = outcome_with key volumes s.running who s.mrc.last nodes request in
    let after = after_request_with key times (record { catalogue = s.mrc.catalogue; running = s.running }) client number s.mrc.last nodes who request in
    record {
      server = record { mrc = record s.mrc { catalogue = after.catalogue }; running = after.running };
      turned =
          record {
            rec = Some (record_of client number s.mrc.last nodes who request);
            outs = reply_to client number outcome.answer ∷ [];
            marks = marks_of volumes.next nodes request outcome.answer;
          };
    }

-- A request under a number above the client's last recorded one: where no number is left for it, it does nothing; what may change the
-- volumes or a list is recorded; the rest is only answered.
abbrev pub fresh_on : List ℕ → TimeSettings → ChangingMrc → NodeId → ℕ → Option (List NodeId) → Asker → MetaReq → ChangingStep
fresh_on key times s client number nodes who request =
    let volumes = s.mrc.catalogue.volumes in
    if is_spent_with volumes s.running who nodes request then beside s.running (plain.nothing s.mrc)
    else if is_recorded_with key volumes s.mrc.last request then recorded_on key times s client number nodes who request
    else beside s.running (plain.answered s.mrc client number (outcome_with key volumes s.running who s.mrc.last None request).answer)

abbrev pub fresh : List ℕ → TimeSettings → ChangingMrc → NodeId → ℕ → Asker → MetaReq → ChangingStep
fresh key times s client number who request =
    fresh_on key times s client number (nodes_with s.mrc.osds s.mrc.catalogue.volumes.next request) who request

-- by how the number stands to the client's last recorded one, as without changes
abbrev pub by_standing : List ℕ → TimeSettings → ChangingMrc → NodeId → ℕ → Asker → MetaReq → Standing MetaAnswer → ChangingStep
by_standing key times s client number who request standing.Fresh = fresh key times s client number who request
by_standing key times s client number who request (standing.Again answer) = beside s.running (plain.answered s.mrc client number answer)
by_standing key times s client number who request standing.Older = beside s.running (plain.nothing s.mrc)

abbrev pub requested : List ℕ → TimeSettings → ChangingMrc → NodeId → ℕ → Asker → MetaReq → ChangingStep
requested key times s client number who request =
    by_standing key times s client number who request (standing_of s.mrc.catalogue.clients client number)

-- ---- messages and Wakes

-- a message: a request, what members answer to a change, or what a server without changes takes
abbrev pub told_by : List ℕ → TimeSettings → ChangingMrc → NodeId → Payload → ChangingStep
told_by key times s from (payload.Meta number user group request) = requested key times s from number (record { user = user; group = group }) request
told_by key times s from (payload.Closed file version head) = alone s.mrc (closing_comes s.running s.mrc.last from file version head)
told_by key times s from (payload.Installed file version) = alone s.mrc (installation_comes s.running from file version)
told_by key times s from (payload.Wanted file) = alone s.mrc (wanted_comes s.running from file)
told_by key times s from content = beside s.running (plain.told_by key s.mrc from content)

-- at a Wake the DIR is asked for the OSDs, and then the changes are gone through
abbrev pub wakes : ChangingMrc → Step → ChangingStep
wakes s step =
    record {
      server = record { mrc = s.mrc; running = step.running };
      turned = joined (sends (asks_dir server ∷ [])) step.turned;
    }

abbrev pub handled : List ℕ → TimeSettings → ChangingMrc → Event → ChangingStep
handled key times s (event.Deliver msg) = told_by key times s msg.from msg.payload
handled key times s event.Wake = wakes s (woken s.mrc.last s.running)
handled key times s (event.Call call) = beside s.running (plain.nothing s.mrc)

-- the state at a reading of the clock: the greater of it and the last one counts
abbrev pub at_reading : ℕ → ChangingMrc → ChangingMrc
at_reading reading s = record { mrc = record s.mrc { last = max reading s.mrc.last }; running = s.running }

-- The step of a metadata server that changes lists, on an event, at a reading of the clock.
unfoldable pub step_with_changes : List ℕ → TimeSettings → ChangingMrc → ℕ → Event → ChangingStep
step_with_changes key times s reading event = handled key times (at_reading reading s) event

-- a server that starts: it knows no OSDs yet, and has counted nothing
abbrev pub changing_of : List ℕ → TimeSettings → List Record → ℕ → ChangingMrc
changing_of key times records now =
    let known = recorded_of key times records in
    record { mrc = record { catalogue = known.catalogue; osds = []; last = now }; running = known.running }
