-- What holds after every legal history. Each part reads only what it names of the state, so that a move that changes
-- nothing of that keeps it as it is.
use Rattle.std.proofs.Common.{◌≡◌, ℕ, ◌+◌, ◌<◌, ◌≤◌, List, Some, None}
use Rattle.std.specs.Prelude.{◌⊎◌, true, Option}
use Rattle.lease_safety.specs.Rounds.{Round, IsBelow, IsSameProposer}
use Rattle.lease_safety.specs.State.{Setting, Nodes, Promise, Vote, State, Has}
use Rattle.lease_safety.specs.Legal.{Majority, HasAccepted}
use Rattle.lease_safety.specs.Leases.{IsOver}

abbrev pub IsAtMost : Round → Option Round → Type 0
IsAtMost j None = ⊥
IsAtMost j (Some k) = (j ≡ k) ⊎ IsBelow j.ballot k.ballot

abbrev pub AreClose : ℕ → Nodes → Type 0
AreClose drift nodes = (a b : ℕ) → nodes.runs a ≡ true → nodes.runs b ≡ true → nodes.clock a ≤ nodes.clock b + drift

pub record RoundsSound (nodes : Nodes) (rounds : List Round) : Type 0 where
  pub boot : (r : Round) → Has r rounds → r.ballot.boot ≤ nodes.boot r.ballot.node
  -- a round that its proposer may still act on began no later than now
  pub clock : (r : Round) → Has r rounds → nodes.runs r.ballot.node ≡ true → nodes.boot r.ballot.node ≡ r.ballot.boot → r.began ≤ nodes.clock r.ballot.node
  -- of two rounds of one boot that runs the higher one began no earlier
  pub order : (j k : Round) → Has j rounds → Has k rounds → IsSameProposer j.ballot k.ballot → j.ballot.count < k.ballot.count
      → nodes.runs j.ballot.node ≡ true → nodes.boot j.ballot.node ≡ j.ballot.boot → j.began ≤ k.began
  pub one : (j k : Round) → Has j rounds → Has k rounds → IsSameProposer j.ballot k.ballot → j.ballot.count ≡ k.ballot.count → j ≡ k

pub record PromisesSound (nodes : Nodes) (rounds : List Round) (promised : ℕ → Option Round) (promises : List Promise) : Type 0 where
  pub begun : (p : Promise) → Has p promises → Has p.round rounds
  pub boot : (p : Promise) → Has p promises → p.boot ≤ nodes.boot p.node
  -- what the present boot promised is at most what it promised last
  pub now : (p : Promise) → Has p promises → p.boot ≡ nodes.boot p.node → IsAtMost p.round (promised p.node)

pub record RestartsSound (g : Setting) (nodes : Nodes) (promises : List Promise) : Type 0 where
  -- a round that an earlier boot promised, and that its proposer may still act on, began at most the drift after the start
  pub restarted : (p : Promise) → Has p promises → p.boot < nodes.boot p.node → nodes.runs p.round.ballot.node ≡ true
      → nodes.boot p.round.ballot.node ≡ p.round.ballot.boot → p.round.began ≤ nodes.started p.node + g.drift
  -- once a later boot has promised anything, what an earlier one promised is over
  pub forgotten : (p q : Promise) → Has p promises → Has q promises → p.node ≡ q.node → p.boot < q.boot → IsOver g nodes p.round

-- The vote's acceptor has promised the vote's round.
pub record IsPromised (promises : List Promise) (v : Vote) : Type 0 where
  pub promise : Promise
  pub made : Has promise promises
  pub node : promise.node ≡ v.node
  pub boot : promise.boot ≡ v.boot
  pub round : promise.round ≡ v.round

pub record VotesSound (promises : List Promise) (counted accepts : List Vote) : Type 0 where
  pub promised : (v : Vote) → Has v counted → IsPromised promises v
  pub first : (v : Vote) → Has v accepts → Has v counted

pub record AcceptedSound (nodes : Nodes) (accepted : ℕ → Option Round) (accepts : List Vote) : Type 0 where
  -- what the present boot ever accepted is at most what it accepted last
  pub now : (v : Vote) → Has v accepts → v.boot ≡ nodes.boot v.node → IsAtMost v.round (accepted v.node)
  pub was : (n : ℕ) (r : Round) → accepted n ≡ Some r → Has (record { node = n; boot = nodes.boot n; round = r }) accepts

pub record ReportsSound (promises : List Promise) (accepts : List Vote) : Type 0 where
  -- a report is of a round below the promised one, which its acceptor has accepted
  pub was : (p : Promise) (r : Round) → Has p promises → p.report ≡ Some r → Has (record { node = p.node; boot = p.boot; round = r }) accepts × IsBelow r.ballot p.round.ballot
  -- and it is at least as high as each round below the promised one that its acceptor ever accepts
  pub told : (p : Promise) (v : Vote) → Has p promises → Has v accepts → p.node ≡ v.node → p.boot ≡ v.boot → IsBelow v.round.ballot p.round.ballot → IsAtMost v.round p.report

-- Of what one boot of a node accepts and is counted for, the lower round is the same proposer's, or over.
abbrev pub AcceptorsSound : Setting → Nodes → List Vote → List Vote → Type 0
AcceptorsSound g nodes counted accepts =
    (v w : Vote) → Has v accepts → Has w counted → v.node ≡ w.node → v.boot ≡ w.boot → IsBelow v.round.ballot w.round.ballot
    → IsSameProposer v.round.ballot w.round.ballot ⊎ IsOver g nodes v.round

-- What a node holds is a lease of its present boot.
abbrev pub HeldSound : Nodes → (ℕ → Option Round) → List Round → Type 0
HeldSound nodes held leases =
    (n : ℕ) (r : Round) → held n ≡ Some r → Has r leases × (r.ballot.node ≡ n) × (r.ballot.boot ≡ nodes.boot n)

abbrev pub LeasesSound : Setting → List Vote → List Round → Type 0
LeasesSound g accepts leases = (r : Round) → Has r leases → Majority g.members (HasAccepted accepts r)

pub record Sound (g : Setting) (s : State) : Type 0 where
  pub close : AreClose g.drift s.nodes
  pub rounds : RoundsSound s.nodes s.rounds
  pub promises : PromisesSound s.nodes s.rounds s.promised s.promises
  pub restarts : RestartsSound g s.nodes s.promises
  pub votes : VotesSound s.promises s.counted s.accepts
  pub accepted : AcceptedSound s.nodes s.accepted s.accepts
  pub reports : ReportsSound s.promises s.accepts
  pub acceptors : AcceptorsSound g s.nodes s.counted s.accepts
  pub held : HeldSound s.nodes s.held s.leases
  pub leases : LeasesSound g s.accepts s.leases
