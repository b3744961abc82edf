-- what a message does to the change of one file
use Rattle.std.specs.Prelude.{ℕ, true, ◌&&◌, not, if◌then◌else◌, Option, Some, None, [], ◌∷◌}
use Rattle.xt_base.specs.declared.ids.NodeId.{NodeId}
use Rattle.xt_protocol.specs.declared.turned.Turned.{Turned}
use Rattle.xt_protocol.specs.Turns.{quiet}
use Rattle.change_rows.specs.declared.Choice.{Choice}
use Rattle.change_rows.specs.Changes.{Installed, installed_by}
use Rattle.change_rows.specs.Coordinating.{Running, listed, list_mark}

-- a file's change after a message, and what the message gives
pub record FileStep : Type 0 where
  pub running : Running
  pub turned : Turned

-- a change whose list is the file's from now on
abbrev pub lists : Running → Choice → FileStep
lists r choice =
    record {
      running = record r { listed = true };
      turned = record { rec = Some (listed choice); outs = []; marks = list_mark choice ∷ [] };
    }

-- an installation that was counted, by whether it makes a majority of the new list
abbrev pub counted : Running → Choice → Installed → FileStep
counted r choice made =
    let after = record r { change = made.change } in
    if made.wins && not r.listed then lists after choice else record { running = after; turned = quiet }

-- Installed counts for a file with a choice.
abbrev pub installs : Running → NodeId → ℕ → Option Choice → FileStep
installs r from version None = record { running = r; turned = quiet }
installs r from version (Some choice) = counted r choice (installed_by r.change from version)
