-- the steps of one file are those of the table of all
use Rattle.std.proofs.Common.{◌≡◌, ℕ, List, refl, Bool, true, false, cond, Some}
use Rattle.std.specs.Prelude.{◌&&◌, not}
use Rattle.xt_base.specs.declared.ids.NodeId.{NodeId}
use Rattle.xt_protocol.specs.Turns.{quiet}
use Rattle.change_rows.specs.declared.Choice.{Choice}
use Rattle.change_rows.specs.Changes.{installed_by}
use Rattle.change_rows.specs.Coordinating.{Running, Step, with_running, unmoved, installation_under}
use Rattle.change_rows.specs.Coordinating as table
use Rattle.list_coordinator.specs.Carrying.{lists, installs}

-- with a choice: the file's change is put in its place, and the step gives the same
pub same_step : (running : List Running) (r : Running) (from : NodeId) (version : ℕ) (choice : Choice) →
    let step = installs r from version (Some choice) in
    installation_under running from version r (Some choice) ≡ record { running = with_running running step.running; turned = step.turned }
same_step running r from version choice = at ((installed_by r.change from version).wins && not r.listed)
  where
    after : Running
    after = record { change = (installed_by r.change from version).change; choice = r.choice; listed = r.listed }

    at : (t : Bool) →
        let step = cond t (lists after choice) (record { running = after; turned = quiet }) in
        cond t (table.lists running after choice) (unmoved (with_running running after)) ≡ record { running = with_running running step.running; turned = step.turned }
    at true = refl
    at false = refl
