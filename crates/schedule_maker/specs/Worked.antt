-- Worked schedules: their lines, as they are spelled.
use Rattle.std.specs.Prelude.{ℕ, List, [], ◌∷◌, ◌++◌, ◌≡◌, map, codes}
use Rattle.time_line.specs.declared.line.Line.{Line}
use Rattle.schedule_text.specs.LineText.{line_text}
use Rattle.schedule_maker.specs.Generated.{turn_from, generated}

abbrev pub texts_of : List Line → List (List ℕ)
texts_of lines = map line_text lines

-- what comes before the calls
abbrev pub opening_texts : List (List ℕ)
opening_texts =
    codes "times 1000 100" ∷
    codes "osd 1" ∷
    codes "osd 2" ∷
    codes "osd 3" ∷
    codes "client 10 0" ∷
    codes "client 11 0" ∷
    codes "client 12 0" ∷
    codes "client 13 0" ∷
    codes "start 1 0" ∷
    codes "start 2 0" ∷
    codes "start 3 0" ∷
    codes "file 1 rep 4096 1 2 3" ∷
    codes "file 2 rep 4096 1 2 3" ∷
    codes "file 3 rep 4096 1 2 3" ∷
    codes "file 4 rep 4096 1 2 3" ∷
    codes "tick 1100" ∷
    []

-- no turns, for any number
abbrev pub HasNoTurns : Type 0
HasNoTurns = (number : ℕ) → texts_of (generated number 0) ≡ opening_texts

-- three turns: two writes and a read
abbrev pub three_turns : List (List ℕ)
three_turns =
    codes "write 12 4 1 2673 0000000000000000" ∷
    codes "settle 400" ∷
    codes "write 13 1 0 3739 0000000000000001" ∷
    codes "settle 400" ∷
    codes "read 13 4 0 3280 16" ∷
    codes "settle 400" ∷
    []

abbrev pub HasThreeTurns : Type 0
HasThreeTurns = texts_of (generated 7 3) ≡ opening_texts ++ three_turns

-- the 16th turn has a pause before it, after the greatest state of the draws
abbrev pub turn_16 : List (List ℕ)
turn_16 =
    codes "tick 400" ∷
    codes "wake 1" ∷
    codes "settle 400" ∷
    codes "read 10 4 1 1602 16" ∷
    codes "settle 400" ∷
    []

-- the last 64th turn but none has a restart too
abbrev pub turn_4032 : List (List ℕ)
turn_4032 =
    codes "stop 2" ∷
    codes "start 2 101500" ∷
    codes "tick 400" ∷
    codes "wake 1" ∷
    codes "settle 400" ∷
    codes "write 12 4 1 2673 0000000000000fc0" ∷
    codes "settle 400" ∷
    []

-- the turn after a restart has its call alone
abbrev pub turn_65 : List (List ℕ)
turn_65 =
    codes "write 13 1 1 1236 0000000000000041" ∷
    codes "settle 400" ∷
    []

pub record HasItsPauses : Type 0 where
  pub pause : texts_of (turn_from 16 18446744073709551615) ≡ turn_16
  pub restart : texts_of (turn_from 4032 7) ≡ turn_4032
  pub neither : texts_of (turn_from 65 0) ≡ turn_65
