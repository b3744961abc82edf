-- a Wake by the first file that gets a choice: those before it are asked again, and so are those after it
use Rattle.std.specs.Prelude.{ℕ, suc, if◌then◌else◌, Option, Some, None, List, [], ◌∷◌, ◌++◌}
use Rattle.std.specs.Option.{option_map}
use Rattle.xt_messages.specs.declared.message.Msg.{Msg}
use Rattle.xt_protocol.specs.Turns.{sends}
use Rattle.change_rows.specs.declared.Choice.{Choice}
use Rattle.change_rows.specs.Coordinating.{Running, Step, chooses, has_number, reminders, ripe}
use Rattle.list_coordinator.specs.declared.changes.Ripe.{Ripe}

-- the same choice, for a file that stands one place further on
abbrev pub next_place : Ripe → Ripe
next_place r = record { place = suc r.place; choice = r.choice }

abbrev pub ripe_here : Option Choice → Option Ripe → Option Ripe
ripe_here None later = later
ripe_here (Some choice) later = if has_number choice then Some (record { place = 0; choice = choice }) else later

-- the first file that gets a choice at this clock, if one does
abbrev pub first_ripe : ℕ → List Running → Option Ripe
first_ripe now [] = None
first_ripe now (r ∷ rs) = ripe_here (ripe now r) (option_map next_place (first_ripe now rs))

abbrev pub asked_here : Option Choice → List Msg → List Msg → List Msg
asked_here None own later = own ++ later
asked_here (Some choice) own later = if has_number choice then [] else later

-- what the files before it are asked again; one that is ripe and has no number left is asked nothing
abbrev pub asked_before : ℕ → List Running → List Msg
asked_before now [] = []
asked_before now (r ∷ rs) = asked_here (ripe now r) (reminders r) (asked_before now rs)

-- what a file that is ripe gets chosen: nothing where no number is left for its promise
abbrev pub chosen_of : Option Choice → Option Choice
chosen_of None = None
chosen_of (Some choice) = if has_number choice then Some choice else None

-- what a file is asked that gets no choice
abbrev pub asked_alone : ℕ → Running → List Msg
asked_alone now r = asked_here (ripe now r) (reminders r) []

-- the first of the rest gets this choice, after the files before it were asked so
abbrev pub chosen_at : List Running → List Running → List Msg → Choice → Step
chosen_at earlier [] asked choice = record { running = earlier; turned = sends asked }
chosen_at earlier (r ∷ later) asked choice =
    let step = chooses r later choice in
    record {
      running = earlier ++ step.running;
      turned = record step.turned { outs = asked ++ step.turned.outs };
    }
