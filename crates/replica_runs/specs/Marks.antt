-- What the marks report: one line of writes, and answers that show it.
use Rattle.std.specs.Prelude.{◌≡◌, ℕ, pred, ◌≤◌, List, [], ◌∷◌, ◌++◌, slice_get, Some}
use Rattle.xt_messages.specs.declared.file.Op.{Op}
use Rattle.replica_safety.specs.Epochs.{Write, name, Body}
use Rattle.replica_runs.specs.Made.{IsMade, bodies_of}
use Rattle.replica_safety.specs.Lists.{Has}
use Rattle.replica_safety.specs.Protocol.{Act}
use Rattle.replica_safety.specs.Rules.{Start, IsStart}
use Rattle.replica_safety.specs.Line.{line_of}
use Rattle.replica_runs.specs.World.{Mark, Told, ShowsRead, ShowsWrite}
use Rattle.replica_runs.specs.Steps.{Step, begin, after_all, MayAll}

abbrev pub acts_of : List Mark → List Act
acts_of [] = []
acts_of (Told n a ∷ ms) = a ∷ acts_of ms
acts_of (ShowsRead n ws o body ∷ ms) = acts_of ms
acts_of (ShowsWrite n place w ∷ ms) = acts_of ms

-- The line at this moment.
abbrev pub line_at : Start → List Mark → List Write
line_at start ms = line_of start.line (acts_of ms)

-- Each answer shows the line as it was when it was given. The place of a write is counted from 1.
abbrev pub AnswersShow : Start → List Mark → Type 0
AnswersShow start [] = Unit {0}
AnswersShow start (Told n a ∷ ms) = AnswersShow start ms
AnswersShow start (ShowsRead n ws o body ∷ ms) = ((ws ≡ line_at start ms) × (body ≡ bodies_of ws o)) × AnswersShow start ms
AnswersShow start (ShowsWrite n place id ∷ ms) =
    ((w : Write) × (slice_get (line_at start ms) (pred place) ≡ Some w) × (name w ≡ id) × (1 ≤ place)) × AnswersShow start ms

abbrev pub AreMadeAfter : (List Write → Write → Type 0) → List Write → List Write → Type 0
AreMadeAfter makes done [] = Unit {0}
AreMadeAfter makes done (w ∷ ws) = makes done w × AreMadeAfter makes (done ++ w ∷ []) ws

-- Each write is made for those before it.
abbrev pub AreMade : (List Write → Write → Type 0) → List Write → Type 0
AreMade makes ws = AreMadeAfter makes [] ws

-- A version of a list that may begin: who stores it has promised its epoch, and its writes are made in order.
pub record Begins (makes : List Write → Write → Type 0) (members : List ℕ) (start : Start) : Type 0 where
  pub is : IsStart members start
  pub promised : (r : ℕ) → start.floor ≤ (start.promised r).number
  pub own : start.epoch.number ≤ start.floor
  -- what it takes over is of no later epoch, and each stamp is of one write
  pub older : (u : Write) → Has u (start.line ++ start.open_writes) → u.stamp.epoch.number ≤ start.floor
  pub apart : (u v : Write) → Has u (start.line ++ start.open_writes) → Has v (start.line ++ start.open_writes) → u.stamp ≡ v.stamp → u ≡ v
  pub made : AreMade makes (start.line ++ start.open_writes)
  -- bodies of other writes that nodes may still have are of no later epoch; and one of the stamp of a write that it takes over has its bytes
  pub old_older : (b : Body) → Has b start.old → b.version.epoch.number ≤ start.floor
  pub old_right : (b : Body) (u : Write) → Has b start.old → Has u (start.line ++ start.open_writes) → u.stamp ≡ b.version → u.body ≡ b.bytes

-- P holds of the marks after every run.
abbrev pub Always : (ℕ → (ℕ × ℕ → Op) → Start → List Mark → Type 0) → Type 0
Always P = (stripe : ℕ) (ops : ℕ × ℕ → Op) (members : List ℕ) (start : Start) (steps : List Step) → Begins (IsMade stripe ops) members start → MayAll (IsMade stripe ops) members (begin start) steps →
    P stripe ops start (after_all (begin start) steps).marks
