-- One file, one version of its replica list: what its nodes keep and remember, and every message that was ever sent.
use Rattle.std.specs.Prelude.{ℕ, ◌*◌, ◌<◌, ◌==◌, ◌||◌, Bool, false, List, [], ◌∷◌, length, count_by, Option, None, Some}
use Rattle.replica_safety.specs.Epochs.{Epoch, Stamp, Write, Head}
use Rattle.replica_safety.specs.Protocol.{Act}
use Rattle.replica_runs.specs.FileHeads.{Body}

-- A status that a primary has counted.
pub record Counted : Type 0 where
  pub replica : ℕ
  pub head : Head

-- What a node that may lead remembers of its epoch. A stop forgets it.
pub data Primary : Type 0 where
  Idle : Primary
  Gathering : (epoch : Epoch) → (counted : List Counted) → Primary
  -- it has chosen these writes, and these replicas have acknowledged them
  Installing : (epoch : Epoch) → (chosen : List Write) → (acked : List ℕ) → Primary
  -- these writes are committed, this one is issued after them, and these replicas have acknowledged that one
  Active : (epoch : Epoch) → (committed : List Write) → (issued : Option Write) → (acked : List ℕ) → Primary

-- The epoch that a primary is in.
abbrev pub epoch_of : Primary → Option Epoch
epoch_of Idle = None
epoch_of (Gathering e counted) = Some e
epoch_of (Installing e chosen acked) = Some e
epoch_of (Active e committed issued acked) = Some e

pub record Node : Type 0 where
  -- kept on the disk
  pub promised : Epoch
  pub head : Head
  -- kept in memory
  pub primary : Primary

-- A message, with its sender where that counts. Who it was sent to doesn't: each may be taken by every node.
pub data Message : Type 0 where
  Gather : (epoch : Epoch) → Message
  Status : (replica : ℕ) → (epoch : Epoch) → (head : Head) → Message
  Install : (epoch : Epoch) → (writes : List Write) → Message
  Update : (write : Write) → Message
  Ack : (replica : ℕ) → (stamp : Stamp) → Message
  -- a body, whether it is fetched or staged
  Piece : (body : Body) → Message

-- What a node reports to the outside. An answer to a read shows all these writes, and the body
-- of an object; one to a write shows its place.
pub data Mark : Type 0 where
  Told : (node : ℕ) → (act : Act) → Mark
  ShowsRead : (node : ℕ) → (writes : List Write) → (object : ℕ) → (body : List ℕ) → Mark
  ShowsWrite : (node : ℕ) → (place : ℕ) → (id : ℕ × ℕ) → Mark

pub record World : Type 0 where
  pub nodes : ℕ → Node
  -- the node that holds the lease now
  pub holder : Option ℕ
  -- the bodies that a node keeps on its disk
  pub held : ℕ → List Body
  -- every message ever sent
  pub messages : List Message
  -- the newest first
  pub marks : List Mark

-- The replica is one of these.
abbrev pub among : ℕ → List ℕ → Bool
among r [] = false
among r (q ∷ qs) = (q == r) || among r qs

abbrev pub counted_from : ℕ → List Counted → Bool
counted_from r [] = false
counted_from r (c ∷ cs) = (c.replica == r) || counted_from r cs

-- More than half of the members pass.
abbrev pub IsMost : List ℕ → (ℕ → Bool) → Type 0
IsMost members test = length members < 2 * count_by test members

abbrev pub issued_writes : Option Write → List Write
issued_writes None = []
issued_writes (Some w) = w ∷ []
