-- what a step of a file does at once, where its message is of the open list and nothing speaks against it
use Rattle.std.specs.Prelude.{◌≡◌, ℕ, true, None, List, [], ◌++◌, map}
use Rattle.xt_base.specs.declared.ids.NodeId.{NodeId}
use Rattle.xt_base.specs.declared.ids.FileId.{FileId}
use Rattle.xt_base.specs.declared.ids.Boot.{Boot}
use Rattle.xt_base.specs.declared.ids.Ballot.{Ballot}
use Rattle.xt_base.specs.declared.ids.Stamp.{Stamp}
use Rattle.xt_messages.specs.declared.file.Capability.{Capability}
use Rattle.xt_messages.specs.declared.file.Op.{Op}
use Rattle.xt_messages.specs.declared.file.Op.TheVariants as op
use Rattle.xt_messages.specs.declared.reply.Reply.TheVariants as reply
use Rattle.xt_messages.specs.declared.message.Payload.TheVariants as payload
use Rattle.xt_messages.specs.declared.message.Msg.{Msg}
use Rattle.xt_messages.specs.declared.event.Mark.TheVariants as mark
use Rattle.xt_protocol.specs.Register.{lease_of}
use Rattle.xt_protocol.specs.LeaseRows.{Proposer, free, can_ask}
use Rattle.xt_protocol.specs.Turns.{reply_to, to_each}
use Rattle.xt_protocol.specs.Primaries.{is_active}
use Rattle.xt_protocol.specs.AskRows.{elsewhere}
use Rattle.xt_protocol.specs.FileStates.{FileState, Site, FileStep, members_of}
use Rattle.osd_invariants.specs.AtOnce.{AnswersOk, Completes, InTurn, IsNewAsk, RenewsInTime, Sends, ShowsMark, WinsInTime, kept_once_let_in}
use Rattle.list_rows.specs.ListRows.{as_version, list_version, step_of_message}
use Rattle.list_laws.specs.Takes.{IsOpenAt}

-- A new valid read is answered Ok in that step by an active primary in a turn.
abbrev pub AnswersReads : Type 0
AnswersReads =
    (site : Site) (s : FileState) (from : NodeId) (list number : ℕ) (capability : Capability) (object at len : ℕ) → InTurn site s → is_active s.primary.tenure ≡ true
    → IsNewAsk site s (record { client = from; number = number }) capability (op.Read object at len) → IsOpenAt s capability.location.version
    → AnswersOk site s.kept.file (record { client = from; number = number }) (step_of_message site s from list (payload.Ask number capability (op.Read object at len)))

-- With the acknowledgement that makes a majority, a write is answered Ok in that step.
abbrev pub AnswersWrites : Type 0
AnswersWrites =
    (site : Site) (s : FileState) (from : NodeId) (list : ℕ) (file : FileId) (stamp : Stamp) → InTurn site s → IsOpenAt s list → (c : Completes site s from stamp)
    → Sends (reply_to site.node s.kept.file c.issued.update.id (reply.Ok c.issued.update.stamp.count c.issued.update.mark []))
    (step_of_message site s from list (payload.Ack file stamp))

-- With the acceptance that makes a majority, the lease is held in that step.
abbrev pub HoldsLeases : Type 0
HoldsLeases =
    (site : Site) (s : FileState) (from : NodeId) (list : ℕ) (file : FileId) (ballot : Ballot) (boot : Boot) → IsOpenAt s list → (w : WinsInTime site s from ballot boot)
    → ShowsMark (mark.Held s.kept.file.number (lease_of w.round).end) (step_of_message site s from list (payload.Accepted file ballot boot))

-- With that of a renewal, the lease is held until the later end in that step.
abbrev pub RenewsLeases : Type 0
RenewsLeases =
    (site : Site) (s : FileState) (from : NodeId) (list : ℕ) (file : FileId) (ballot : Ballot) (boot : Boot) → IsOpenAt s list → (r : RenewsInTime site s from ballot boot)
    → ShowsMark (mark.Held s.kept.file.number (lease_of r.round).end) (step_of_message site s from list (payload.Accepted file ballot boot))

-- a Read of one ballot goes to each of these, with this version of the list
pub record AsksEach (site : Site) (file : FileId) (version : ℕ) (members : List NodeId) (step : FileStep) : Type 0 where
  pub ballot : Ballot
  pub before : List Msg
  pub outs : step.turned.outs ≡ before ++ map (as_version version) (to_each site.node members (payload.Read file ballot))

-- A new valid ask at a file without lease, round or another node's live accepted lease sends Read to every member in that step.
abbrev pub StartsRounds : Type 0
StartsRounds =
    (site : Site) (s : FileState) (from : NodeId) (list number : ℕ) (capability : Capability) (asked : Op) (p : Proposer) → s.lease ≡ free p → can_ask p ≡ true
    → elsewhere site s.acceptor.accepted ≡ None → IsNewAsk site s (record { client = from; number = number }) capability asked
    → IsOpenAt s capability.location.version
    → AsksEach site s.kept.file (list_version s.kept.location) (members_of (kept_once_let_in s capability).location)
    (step_of_message site s from list (payload.Ask number capability asked))
