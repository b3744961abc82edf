-- Reads by rules that come close to the one that is asked, and histories in which they go wrong; and a head that takes a write back.
use Rattle.std.specs.Prelude.{◌≡◌, ◌<◌, true, List, [], ◌∷◌, ◌++◌, length, map, take, Some}
use Rattle.replica_safety.specs.Epochs.{Epoch, Write, name}
use Rattle.replica_safety.specs.Lists.{Has}
use Rattle.replica_safety.specs.Line.{the_line}
use Rattle.replica_safety.specs.Protocol.{State, writes_of, Move, Issue, Take_head, after_all}
use Rattle.replica_safety.specs.Rules.{every_rule, first_start, begin, IsHistory}
use Rattle.replica_safety.specs.Histories.{three, epoch_one, epoch_two, first_write, second_write, stamp, head_of, updates, leads, commits, opening}

abbrev pub state_of : List Move → State
state_of moves = after_all (begin first_start) moves

-- what the primary of an epoch knows to be committed, which is what a read shows
abbrev pub committed_of : State → Epoch → List Write
committed_of s e = take (s.committed e) (writes_of s e)

-- A primary reads all that it has, the issued write too. It may act, and is active; but of what it shows a write is never on the line
-- that comes of the later moves.
pub record IsReadIssued (e : Epoch) (moves later : List Move) (shown line : List Write) : Type 0 where
  pub history : IsHistory every_rule three first_start (moves ++ later)
  pub current : (state_of moves).current ≡ Some e
  pub active : (state_of moves).active e ≡ true
  pub shown_is : writes_of (state_of moves) e ≡ shown
  pub line_is : the_line first_start (state_of (moves ++ later)) ≡ line
  pub lost : (w : Write) × Has w shown × (Has (name w) (map name line) → ⊥)

-- A primary reads after the later moves because it could act after the first ones. What it knows is less than the line.
pub record IsReadLate (e : Epoch) (moves later : List Move) (shown line : List Write) : Type 0 where
  pub history : IsHistory every_rule three first_start (moves ++ later)
  pub current : (state_of moves).current ≡ Some e
  pub active : (state_of moves).active e ≡ true
  pub shown_is : committed_of (state_of (moves ++ later)) e ≡ shown
  pub line_is : the_line first_start (state_of (moves ++ later)) ≡ line
  pub older : length shown < length line

-- a write is issued, and reaches nobody but its primary
abbrev pub issued_alone : List Move
issued_alone = opening ++ Issue epoch_one first_write ∷ []

-- the next primary doesn't find it, and commits one of its own
abbrev pub others_write : List Move
others_write = leads epoch_two (head_of epoch_one []) 2 3 ++ commits epoch_two second_write 1 2 3

-- the next primary has the write that is committed, and commits another one
abbrev pub next_write : List Move
next_write = leads epoch_two (head_of epoch_one (first_write ∷ [])) 2 3 ++ commits epoch_two second_write 2 2 3

-- two writes of one object
abbrev pub kept_write : Write
kept_write = record first_write { stamp = stamp epoch_one 1; body = 97 ∷ [] }

abbrev pub lost_write : Write
lost_write = record second_write { stamp = stamp epoch_one 2; body = 98 ∷ [] }

-- The second one reaches the first replica alone. The next primary doesn't hear of it.
abbrev pub written_alone : List Move
written_alone =
    opening ++ commits epoch_one kept_write 1 1 2 ++ Issue epoch_one lost_write ∷ [] ++ updates epoch_one 2 1 ++
    leads epoch_two (head_of epoch_one (kept_write ∷ [])) 2 3

-- Then the first replica takes the next primary's head, and so loses the second write.
abbrev pub takes_back : Move
takes_back = Take_head 1 (stamp epoch_two 1)

pub record TakesBack (moves : List Move) (taken : Move) : Type 0 where
  pub history : IsHistory every_rule three first_start (moves ++ taken ∷ [])
  pub had : ((state_of moves).head 1).writes ≡ kept_write ∷ lost_write ∷ []
  pub has : ((state_of (moves ++ taken ∷ [])).head 1).writes ≡ kept_write ∷ []
