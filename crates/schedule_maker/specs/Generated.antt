-- the schedule that a number and a size generate
use Rattle.std.specs.Prelude.{ℕ, zero, suc, ◌+◌, ◌*◌, ◌-◌, ◌/◌, ◌%◌, ◌==◌, nat_lt, ◌&&◌, if◌then◌else◌, List, [], ◌∷◌, ◌++◌}
use Rattle.std.specs.Int.{w64, to_be_bytes}
use Rattle.xt_base.specs.declared.ids.NodeId.{NodeId}
use Rattle.xt_messages.specs.declared.file.Kind.TheVariants.{Replicated}
use Rattle.xt_messages.specs.declared.file.Location.{Location}
use Rattle.xt_messages.specs.declared.event.Call.{Call}
use Rattle.xt_messages.specs.declared.event.Call.TheVariants as call
use Rattle.time_line.specs.declared.line.Line.{Line}
use Rattle.time_line.specs.declared.line.Line.TheVariants as line
use Rattle.schedule_maker.specs.declared.draws.Choice.{Choice}
use Rattle.schedule_maker.specs.Draws.{choice_from, after_choice}

abbrev pub node : ℕ → NodeId
node n = record { 0 = n }

-- each file lies on the three OSDs, in objects of 4,096 bytes
abbrev pub on_three : Location
on_three = record { version = 1; kind = Replicated; stripe = 4096; members = node 1 ∷ node 2 ∷ node 3 ∷ [] }

-- What comes before the calls: a lease of a second and a drift of a tenth; three OSDs and four clients, which start at 0; four
-- files; and the silence after a start passes.
unfoldable pub opening : List Line
opening =
    line.Times 1000 100
    ∷ line.Osd (node 1) ∷ line.Osd (node 2) ∷ line.Osd (node 3)
    ∷ line.Client (node 10) 0 ∷ line.Client (node 11) 0 ∷ line.Client (node 12) 0 ∷ line.Client (node 13) 0
    ∷ line.Start (node 1) 0 ∷ line.Start (node 2) 0 ∷ line.Start (node 3) 0
    ∷ line.File 1 on_three ∷ line.File 2 on_three ∷ line.File 3 on_three ∷ line.File 4 on_three
    ∷ line.Tick 1100
    ∷ []

-- what all clocks read before a turn: 400 milliseconds have passed before each earlier turn that is a positive multiple of 16
abbrev pub clock_before : ℕ → ℕ
clock_before turn = 1100 + 400 * ((turn - 1) / 16)

-- before each positive multiple of 64 OSD 2 stops, and starts again at the common clock
unfoldable pub restart_before : ℕ → List Line
restart_before turn =
    if nat_lt 0 turn && (turn % 64 == 0) then line.Stop (node 2) ∷ line.Start (node 2) (clock_before turn) ∷ [] else []

-- before each positive multiple of 16 time passes, and OSD 1 is woken
unfoldable pub pause_before : ℕ → List Line
pause_before turn =
    if nat_lt 0 turn && (turn % 16 == 0) then line.Tick 400 ∷ line.Wake (node 1) ∷ line.Settle 400 ∷ [] else []

-- the call of a turn: 16 bytes are read, or the turn's number is written, as 8 bytes
abbrev pub call_of : Choice → ℕ → Call
call_of choice turn =
    if choice.is_read then call.Read choice.file choice.object choice.at 16
    else call.Write choice.file choice.object choice.at (to_be_bytes w64 turn)

-- a call, and what becomes of it
unfoldable pub call_in : ℕ → ℕ → List Line
call_in turn x =
    line.Call (node (choice_from x).client) (call_of (choice_from x) turn) ∷ line.Settle 400 ∷ []

-- a turn, by its number and by the state of the draws before it
abbrev pub turn_from : ℕ → ℕ → List Line
turn_from turn x = restart_before turn ++ (pause_before turn ++ call_in turn x)

-- so many turns, from this one on
unfoldable pub turns_from : ℕ → ℕ → ℕ → List Line
turns_from zero turn x = []
turns_from (suc count) turn x = turn_from turn x ++ turns_from count (turn + 1) (after_choice x)

-- The generated schedule: as many turns as its size says; the number is the seed of the draws.
unfoldable pub generated : ℕ → ℕ → List Line
generated number size = opening ++ turns_from size 0 number
