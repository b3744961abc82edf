-- What is known at one moment: of the nodes, and of the acceptors and proposers of one file.
use Rattle.std.specs.Prelude.{◌≡◌, ℕ, Bool, false, Option, None, List, [], ◌∷◌, ◌⊎◌, ◌==◌, if◌then◌else◌}
use Rattle.lease_safety.specs.Rounds.{Round}

-- The file's members in the order of their list, the length of a lease, and the drift: how far two running clocks may be
-- apart. Nothing is asked of these three.
pub record Setting : Type 0 where
  pub members : List ℕ
  pub lease : ℕ
  pub drift : ℕ

-- What is known of each node: whether it runs, its boot (of a node that doesn't run, the last one; 0 before the first), its
-- clock, and what its clock was when that boot started. All files share it.
pub record Nodes : Type 0 where
  pub runs : ℕ → Bool
  pub boot : ℕ → ℕ
  pub clock : ℕ → ℕ
  pub started : ℕ → ℕ

-- A boot of a node, as an acceptor, promised a round, and reported the round that it had accepted last.
pub record Promise : Type 0 where
  pub node : ℕ
  pub boot : ℕ
  pub round : Round
  pub report : Option Round

-- A boot of a node stands for a round: its promise was counted for it, or it has accepted it.
pub record Vote : Type 0 where
  pub node : ℕ
  pub boot : ℕ
  pub round : Round

-- A file's lease at one moment.
pub record State : Type 0 where
  pub nodes : Nodes
  -- what each node's present boot knows and forgets with it: the round that it promised last, the one that it accepted
  -- last, and its own round that was held last
  pub promised : ℕ → Option Round
  pub accepted : ℕ → Option Round
  pub held : ℕ → Option Round
  -- all that has ever been: the rounds that began, the promises, the promises that were counted, the accepts, and the
  -- rounds that were held
  pub rounds : List Round
  pub promises : List Promise
  pub counted : List Vote
  pub accepts : List Vote
  pub leases : List Round

-- Before everything: no boot has started, and nothing has been.
abbrev pub empty : State
empty =
    record {
      nodes = record { runs = λ n. false; boot = λ n. 0; clock = λ n. 0; started = λ n. 0 };
      promised = λ n. None;
      accepted = λ n. None;
      held = λ n. None;
      rounds = [];
      promises = [];
      counted = [];
      accepts = [];
      leases = [];
    }

-- The value is on the list.
abbrev pub Has : {A : Type 0} → A → List A → Type 0
Has x [] = ⊥
Has x (y ∷ ys) = (x ≡ y) ⊎ Has x ys

-- The function with one value put in place of the one at n.
abbrev pub put : {A : Type 0} → (ℕ → A) → ℕ → A → ℕ → A
put f n v m = if m == n then v else f m
