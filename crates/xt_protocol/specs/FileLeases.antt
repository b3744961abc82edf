-- the register and the lease of a file: what comes of their messages
use Rattle.std.specs.Prelude.{ℕ, ◌==◌, if◌then◌else◌, Option, Some, None, List, [], ◌∷◌, map}
use Rattle.xt_base.specs.declared.ids.NodeId.{NodeId}
use Rattle.xt_base.specs.declared.ids.Boot.{Boot}
use Rattle.xt_base.specs.declared.ids.FileId.{FileId}
use Rattle.xt_base.specs.declared.ids.Ballot.{Ballot}
use Rattle.xt_base.specs.declared.ids.Lease.{Lease}
use Rattle.xt_messages.specs.declared.reply.Reply.{Reply}
use Rattle.xt_messages.specs.declared.reply.Reply.TheVariants as reply
use Rattle.xt_messages.specs.declared.message.Payload.{Payload}
use Rattle.xt_messages.specs.declared.message.Payload.TheVariants as payload
use Rattle.xt_messages.specs.declared.message.Msg.{Msg}
use Rattle.xt_messages.specs.declared.event.Mark.TheVariants as mark
use Rattle.xt_protocol.specs.declared.turned.Turned.{Turned}
use Rattle.xt_protocol.specs.Register.{ReadAnswer, promise, read_refused, WriteAnswer, accepted, write_refused, other_boot, on_read, on_write}
use Rattle.xt_protocol.specs.LeaseRows.{LeaseNews, sends_write, holds, finds, ends, on_answer, running_round, renewal_takes_under}
use Rattle.xt_protocol.specs.LeaseRows as lease
use Rattle.xt_protocol.specs.declared.states.Tenure.{Tenure}
use Rattle.xt_protocol.specs.Turns.{shows, sends, message}
use Rattle.xt_protocol.specs.Primaries.{Led}
use Rattle.xt_protocol.specs.PrimaryRows.{draw_epoch}
use Rattle.xt_protocol.specs.Asks.{tells_each}
use Rattle.xt_protocol.specs.FileStates.{FileState, Site, FileStep, nothing, steps_to, and_then, members_of, ground_of}

-- The register.

-- the message that answers a Read
abbrev pub answer_to_read : FileId → Boot → Ballot → ReadAnswer → Payload
answer_to_read file boot ballot (promise report) = payload.Promise file ballot boot report
answer_to_read file boot ballot (read_refused seen) = payload.Outrun file ballot seen

-- a Read comes: promised, or outrun
unfoldable pub read_comes : Site → FileState → NodeId → Ballot → FileStep
read_comes site s from ballot =
    let read = on_read s.acceptor ballot in
    steps_to (record s { acceptor = read.acceptor })
    (sends (message site.node from (answer_to_read s.kept.file s.acceptor.boot ballot read.answer) ∷ []))

-- the messages that answer a Write: one for another boot gets none
abbrev pub answers_to_write : Site → FileState → NodeId → Ballot → Boot → WriteAnswer → List Msg
answers_to_write site s from ballot boot accepted = message site.node from (payload.Accepted s.kept.file ballot boot) ∷ []
answers_to_write site s from ballot boot (write_refused seen) = message site.node from (payload.Outrun s.kept.file ballot seen) ∷ []
answers_to_write site s from ballot boot other_boot = []

-- the end that was met last: that of an accepted lease is
abbrev pub end_after_write : ℕ → Lease → WriteAnswer → ℕ
end_after_write end lease accepted = lease.end
end_after_write end lease (write_refused seen) = end
end_after_write end lease other_boot = end

-- a Write comes: accepted, outrun, or for another boot
unfoldable pub write_comes : Site → FileState → NodeId → Ballot → Boot → Lease → FileStep
write_comes site s from ballot boot lease =
    let write = on_write s.acceptor ballot boot lease in
    steps_to (record s { acceptor = write.acceptor; last_end = end_after_write s.last_end lease write.answer })
    (sends (answers_to_write site s from ballot boot write.answer))

-- The lease.

-- the end of the lease that a promise reports
abbrev pub reported_end : ℕ → Payload → ℕ
reported_end end (payload.Promise file ballot boot (Some lease)) = lease.end
reported_end end _ = end

-- the end that was met last: that of a report is, where the promise is taken
abbrev pub end_after_answer : Site → FileState → NodeId → Payload → ℕ
end_after_answer site s from content =
    if renewal_takes_under (running_round s.lease) site.now from content then reported_end s.last_end content else s.last_end

-- a Write to each of these pairs
abbrev pub writes_to : Site → FileState → Ballot → Lease → List (NodeId × Boot) → Turned
writes_to site s ballot lease targets =
    sends (map (λ target. message site.node target.0 (payload.Write s.kept.file ballot target.1 lease)) targets)

-- the asks that wait get this answer
abbrev pub answer_waiting : Site → FileState → Reply → FileStep
answer_waiting site s answer =
    steps_to (record s { asks = record s.asks { waiting = [] } }) (sends (tells_each site.node s.kept.file s.asks.waiting answer))

-- live report: the asks are sent to its holder; where that is an earlier boot of this node there is no lease
abbrev pub live_lease : Site → FileState → Lease → FileStep
live_lease site s lease =
    if lease.node.0 == site.node.0 then answer_waiting site s (reply.NoLease s.last_end)
    else answer_waiting site s (reply.Elsewhere lease.node lease.end)

-- a row of the primary that makes no difference to the asks
abbrev pub leads_to : FileState → Led → FileStep
leads_to s led = steps_to (record s { primary = led.primary }) led.turned

-- an idle primary draws an epoch when the lease is held
abbrev pub led_on : Site → FileState → Option Tenure → FileStep
led_on site s (Some t) = nothing s
led_on site s None = leads_to s (draw_epoch (ground_of site s).place s.primary.learnt s.kept.head (members_of s.kept.location))

-- lease won, or renewed: it is marked, and an idle primary draws its epoch
abbrev pub lease_held : Site → FileState → ℕ → FileStep
lease_held site s end =
    and_then (steps_to s (shows (mark.Held s.kept.file.number end))) (λ state. led_on site state state.primary.tenure)

-- what the news of a round mean for the file
abbrev pub lease_news : Site → FileState → LeaseNews → FileStep
lease_news site s lease.nothing = nothing s
lease_news site s (sends_write ballot lease targets) = steps_to s (writes_to site s ballot lease targets)
lease_news site s (holds end) = lease_held site (record s { last_end = end }) end
lease_news site s (finds lease) = live_lease site s lease
lease_news site s ends = answer_waiting site s (reply.NoLease s.last_end)

-- An answer to a round comes.
unfoldable pub answer_comes : Site → FileState → NodeId → Payload → FileStep
answer_comes site s from content =
    let step = on_answer s.lease site.now from content in
    lease_news site (record s { lease = step.state; last_end = end_after_answer site s from content }) step.news
