-- what a step of a file does at once, where nothing speaks against it
use Rattle.std.specs.Prelude.{◌≡◌, ℕ, true, false, Some, None, List, [], ◌∷◌, ◌++◌}
use Rattle.xt_base.specs.declared.ids.NodeId.{NodeId}
use Rattle.xt_base.specs.declared.ids.FileId.{FileId}
use Rattle.xt_base.specs.declared.ids.OpId.{OpId}
use Rattle.xt_base.specs.declared.ids.Boot.{Boot}
use Rattle.xt_base.specs.declared.ids.Ballot.{Ballot}
use Rattle.xt_base.specs.declared.ids.Stamp.{Stamp}
use Rattle.xt_base.specs.declared.ids.SizeMark.{SizeMark}
use Rattle.xt_messages.specs.declared.file.Capability.{Capability}
use Rattle.xt_messages.specs.declared.file.FileHead.{FileHead}
use Rattle.xt_messages.specs.declared.file.Kind.TheVariants as kind
use Rattle.xt_messages.specs.declared.file.Op.{Op}
use Rattle.xt_messages.specs.declared.file.Op.TheVariants as op
use Rattle.xt_messages.specs.declared.reply.Reply.TheVariants as reply
use Rattle.xt_messages.specs.declared.message.Payload.TheVariants as payload
use Rattle.xt_messages.specs.declared.message.Msg.{Msg}
use Rattle.xt_messages.specs.declared.event.Mark.{Mark}
use Rattle.xt_messages.specs.declared.event.Mark.TheVariants as mark
use Rattle.xt_messages.specs.declared.record.FileRow.{FileRow}
use Rattle.xt_protocol.specs.Register.{Round, lease_of, on_acceptance, same_ballot}
use Rattle.xt_protocol.specs.LeaseRows.{Held, Proposer, free, writing, held, can_ask, has_run_out, has_turn, is_inside}
use Rattle.xt_protocol.specs.Stamps.{is_epoch, is_below}
use Rattle.xt_protocol.specs.declared.states.IssuedUpdate.{IssuedUpdate}
use Rattle.xt_protocol.specs.declared.states.PeerState.{PeerState}
use Rattle.xt_protocol.specs.declared.states.Progress.TheVariants as progress
use Rattle.xt_protocol.specs.declared.states.Tenure.{Tenure}
use Rattle.xt_protocol.specs.Turns.{reply_to, to_each}
use Rattle.xt_protocol.specs.ReplicaRows.{kept_after}
use Rattle.xt_protocol.specs.Primaries.{carries, is_active, peer_in, with_node}
use Rattle.xt_protocol.specs.Asks.{asked_already}
use Rattle.xt_protocol.specs.AskRows.{elsewhere, refusal_of, view_record}
use Rattle.xt_protocol.specs.FileStates.{FileState, Site, FileStep, ground_of, members_of}
use Rattle.xt_protocol.specs.FileSteps.{step_of_file}

-- this message is among those that a step sends
pub record Sends (msg : Msg) (step : FileStep) : Type 0 where
  pub before : List Msg
  pub after : List Msg
  pub outs : step.turned.outs ≡ before ++ msg ∷ after

-- this mark is among those that a step shows
pub record ShowsMark (what : Mark) (step : FileStep) : Type 0 where
  pub before : List Mark
  pub after : List Mark
  pub marks : step.turned.marks ≡ before ++ what ∷ after

-- the lease is held, with time left
pub record InTurn (site : Site) (s : FileState) : Type 0 where
  pub lease : Held
  pub is : s.lease ≡ held lease
  pub inside : has_turn lease site.now ≡ true

-- a valid ask on a replicated file, whose id neither waits nor is issued
pub record IsNewAsk (site : Site) (s : FileState) (id : OpId) (capability : Capability) (asked : Op) : Type 0 where
  pub replicated : capability.location.kind ≡ kind.Replicated
  pub valid : refusal_of site s.kept.location capability asked ≡ None
  pub new : asked_already s.asks id ≡ false

-- Reads.

pub record AnswersOk (site : Site) (file : FileId) (id : OpId) (step : FileStep) : Type 0 where
  pub count : ℕ
  pub size : SizeMark
  pub bytes : List ℕ
  pub sent : Sends (reply_to site.node file id (reply.Ok count size bytes)) step

-- A new valid read is answered Ok in that step by an active primary in a turn.
abbrev pub AnswersReads : Type 0
AnswersReads =
    (site : Site) (s : FileState) (from : NodeId) (number : ℕ) (capability : Capability) (object at len : ℕ) → InTurn site s → is_active s.primary.tenure ≡ true
    → IsNewAsk site s (record { client = from; number = number }) capability (op.Read object at len)
    → AnswersOk site s.kept.file (record { client = from; number = number }) (step_of_file site s from (payload.Ask number capability (op.Read object at len)))

-- Writes.

-- this acknowledgement of the issued update makes a majority, the own one among it
pub record Completes (site : Site) (s : FileState) (from : NodeId) (stamp : Stamp) : Type 0 where
  pub tenure : Tenure
  pub committed : FileHead
  pub issued : IssuedUpdate
  pub peer : PeerState
  pub led : s.primary.tenure ≡ Some tenure
  pub active : tenure.progress ≡ progress.Active committed (Some issued)
  pub member : peer_in tenure.peers from ≡ Some peer
  pub epoch : is_epoch stamp.epoch tenure.epoch ≡ true
  pub covers : is_below stamp issued.update.stamp ≡ false
  pub carried : carries (ground_of site s).place tenure.peers (with_node issued.acked from) ≡ true

-- With it the write is answered Ok in that step.
abbrev pub AnswersWrites : Type 0
AnswersWrites =
    (site : Site) (s : FileState) (from : NodeId) (file : FileId) (stamp : Stamp) → InTurn site s → (c : Completes site s from stamp)
    → Sends (reply_to site.node s.kept.file c.issued.update.id (reply.Ok c.issued.update.stamp.count c.issued.update.mark [])) (step_of_file site s from (payload.Ack file stamp))

-- Leases.

-- this acceptance makes a majority of a round that runs, within the drift of the lease's end
pub record WinsInTime (site : Site) (s : FileState) (from : NodeId) (ballot : Ballot) (boot : Boot) : Type 0 where
  pub round : Round
  pub writes : s.lease ≡ writing round
  pub runs : has_run_out round site.now ≡ false
  pub own : same_ballot ballot round.ballot ≡ true
  pub wins : (on_acceptance round from boot).wins ≡ true
  pub inside : is_inside (lease_of round).end round.times site.now ≡ true

-- With it the lease is held in that step.
abbrev pub HoldsLeases : Type 0
HoldsLeases =
    (site : Site) (s : FileState) (from : NodeId) (file : FileId) (ballot : Ballot) (boot : Boot) → (w : WinsInTime site s from ballot boot)
    → ShowsMark (mark.Held s.kept.file.number (lease_of w.round).end) (step_of_file site s from (payload.Accepted file ballot boot))

-- this acceptance makes a majority of the renewal that runs, within the drift of the later end
pub record RenewsInTime (site : Site) (s : FileState) (from : NodeId) (ballot : Ballot) (boot : Boot) : Type 0 where
  pub turn : InTurn site s
  pub round : Round
  pub renews : turn.lease.renewal ≡ Some round
  pub runs : has_run_out round site.now ≡ false
  pub own : same_ballot ballot round.ballot ≡ true
  pub wins : (on_acceptance round from boot).wins ≡ true
  pub inside : is_inside (lease_of round).end round.times site.now ≡ true

-- With it the lease is held until the later end in that step.
abbrev pub RenewsLeases : Type 0
RenewsLeases =
    (site : Site) (s : FileState) (from : NodeId) (file : FileId) (ballot : Ballot) (boot : Boot) → (r : RenewsInTime site s from ballot boot)
    → ShowsMark (mark.Held s.kept.file.number (lease_of r.round).end) (step_of_file site s from (payload.Accepted file ballot boot))

-- Rounds.

-- what is kept of a file once an ask with this capability is let in
abbrev pub kept_once_let_in : FileState → Capability → FileRow
kept_once_let_in s capability = kept_after s.kept (view_record s capability.location s.kept.location)

-- a Read of one ballot goes to each of these
pub record AsksEach (site : Site) (file : FileId) (members : List NodeId) (step : FileStep) : Type 0 where
  pub ballot : Ballot
  pub before : List Msg
  pub outs : step.turned.outs ≡ before ++ to_each site.node members (payload.Read file ballot)

-- A new valid ask at a file without lease, round or another node's live accepted lease sends Read to every member in that step.
abbrev pub StartsRounds : Type 0
StartsRounds =
    (site : Site) (s : FileState) (from : NodeId) (number : ℕ) (capability : Capability) (asked : Op) (p : Proposer) → s.lease ≡ free p → can_ask p ≡ true
    → elsewhere site s.acceptor.accepted ≡ None → IsNewAsk site s (record { client = from; number = number }) capability asked
    → AsksEach site s.kept.file (members_of (kept_once_let_in s capability).location) (step_of_file site s from (payload.Ask number capability asked))
