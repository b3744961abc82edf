-- how many have answered a primary, and how asks that are due are answered then
use Rattle.std.specs.Prelude.{ℕ, Option, Some, None, List, length, ◌≤◌, ◌/◌, ◌+◌}
use Rattle.std.specs.List.{count_by}
use Rattle.xt_base.specs.MemberList.{has_node}
use Rattle.xt_base.specs.declared.ids.NodeId.{NodeId}
use Rattle.xt_messages.specs.declared.reply.Reply.{Reply}
use Rattle.xt_messages.specs.declared.reply.Reply.TheVariants as reply
use Rattle.xt_protocol.specs.declared.states.IssuedUpdate.{IssuedUpdate}
use Rattle.xt_protocol.specs.declared.states.Progress.{Progress}
use Rattle.xt_protocol.specs.declared.states.Progress.TheVariants as progress
use Rattle.xt_protocol.specs.declared.states.Tenure.{Tenure}
use Rattle.xt_protocol.specs.Primaries.{have_in, majority_among}
use Rattle.osd_invariants.specs.Sound.{PeersAre}
use Rattle.replica_primary.specs.declared.primary.Phase.{Phase}
use Rattle.replica_primary.specs.declared.primary.Phase.TheVariants as phase
use Rattle.osd_files.specs.declared.lead.Listed.{Listed}

-- these acknowledgements are of different members
abbrev pub AreAcked : List NodeId → List NodeId → Type 0
AreAcked members acked = length acked ≤ count_by (λ member. has_node acked member.0) members

abbrev pub UpdateIsAcked : List NodeId → Option IssuedUpdate → Type 0
UpdateIsAcked members None = Unit {0}
UpdateIsAcked members (Some issued) = AreAcked members issued.acked

abbrev pub ProgressIsAcked : List NodeId → Progress → Type 0
ProgressIsAcked members (progress.Active committed issued) = UpdateIsAcked members issued
ProgressIsAcked members (progress.Installing chosen acked) = AreAcked members acked
ProgressIsAcked members progress.Gathering = Unit {0}
ProgressIsAcked members (progress.Fetching chosen source asked later) = Unit {0}

-- the peers are the members, and each member has acknowledged at most once
abbrev pub IsCounted : List NodeId → Option Tenure → Type 0
IsCounted members None = Unit {0}
IsCounted members (Some t) = PeersAre members (Some t) × ProgressIsAcked members t.progress

abbrev pub IsCountedIn : Option Listed → Type 0
IsCountedIn None = Unit {0}
IsCountedIn (Some listed) = IsCounted listed.location.members listed.primary.state.tenure

-- the answer to asks that are due, where there is a tenure
abbrev pub no_majority : Option Tenure → Option Reply
no_majority None = None
no_majority (Some t) = Some (reply.NoMajority (have_in t.peers t.progress) (majority_among t.peers))

-- how many have answered, by how far the primary is
abbrev pub heard_at : Phase → ℕ
heard_at phase.Idle = 0
heard_at (phase.Gathering have) = have
heard_at phase.Fetching = 0
heard_at (phase.Installing have) = have
heard_at (phase.Active issued have) = have

-- the answer to asks that are due, among so many members
abbrev pub no_majority_at : ℕ → Phase → Option Reply
no_majority_at members phase.Idle = None
no_majority_at members (phase.Gathering have) = Some (reply.NoMajority have (members / 2 + 1))
no_majority_at members phase.Fetching = Some (reply.NoMajority 0 (members / 2 + 1))
no_majority_at members (phase.Installing have) = Some (reply.NoMajority have (members / 2 + 1))
no_majority_at members (phase.Active issued have) = Some (reply.NoMajority have (members / 2 + 1))
