-- an OSD that starts from the records of its store runs on them
use Rattle.std.proofs.Common.{ℕ, ◌≡◌, ◌<◌, ◌^◌, Some, List, ap, sym, subst, ◌∙◌}
use Rattle.std.proofs.lemmas.List.Elements.{recursion_from_All}
use Rattle.xt_base.specs.TimeSettings.{TimeSettings, AreTimes}
use Rattle.xt_base.specs.declared.ids.NodeId.{NodeId}
use Rattle.xt_messages.specs.Limits.{FitsBoot, FitsRecord}
use Rattle.xt_messages.specs.declared.record.Folded.{Folded}
use Rattle.xt_messages.specs.declared.record.Record.{Record}
use Rattle.xt_protocol.specs.Folds.{fold_of}
use Rattle.xt_protocol.specs.LeaseRows.{Silent}
use Rattle.xt_protocol.specs.OsdSteps.{osd_from}
use Rattle.xt_protocol.proofs.Folds.{fold_of-push}
use Rattle.object_store.specs.Texts.{AreRecords}
use Rattle.osd_core.specs.Slots.{AreRows}
use Rattle.osd_core.specs.Views.{OsdView}
use Rattle.world_limits.specs.States.{KeptIs}
use Rattle.world_limits.proofs.Kept.{kept_so, start_is}
use Rattle.osd_limits.specs.Keeping.{RunsOn}
use Rattle.osd_limits.proofs.Steps.{started}
use Rattle.world_cores.proofs.Rows.{rows_are}
use Rattle.node_roles.specs.Roles.{OsdRunsOn}
use Rattle.store_loading.specs.Boots.{next_boot, boot_record, booted}
use Rattle.node_jobs.specs.Jobs.{osd_at}

abbrev pub view_at : NodeId → TimeSettings → List ℕ → List Record → ℕ → OsdView
view_at id times key records reading = record { key = Some key; state = osd_at id times records reading }

pub osd_told : (id : NodeId) (times : TimeSettings) (key : List ℕ) (records records' : List Record) (reading : ℕ) (osd : OsdView)
    → osd ≡ view_at id times key records' reading → fold_of records' ≡ fold_of records → osd ≡ view_at id times key records reading
osd_told id times key records records' reading osd is says =
    is ∙ ap (λ (f : Folded). record { key = Some key; state = osd_from (record { node = id; boot = f.boot; times = times; start = reading }) f.files }) says

-- what the records with the next boot say
boot_told : (records : List Record) → fold_of (booted records) ≡ record { boot = next_boot records; files = (fold_of records).files }
boot_told records = fold_of-push records (boot_record records)

module _ (records after : List Record) (are : AreRecords records) (boot : FitsBoot (next_boot records)) (is : after ≡ booted records) where
  loaded_is : KeptIs records
  loaded_is = kept_so records (record { limits = recursion_from_All FitsRecord records are.fit; places = are.placed })

  booted_is : KeptIs (booted records)
  booted_is = start_is records (next_boot records) loaded_is boot

  pub osd_rows : AreRows (fold_of after).files
  osd_rows =
      subst (λ (rs : List Record). AreRows (fold_of rs).files) (sym is)
      (rows_are (booted records) (booted_is.limits, booted_is.places))

  module _ (id : NodeId) (times : TimeSettings) (reading : ℕ) where
    abbrev first : Silent
    first = record { node = id; boot = next_boot records; times = times; start = reading }

    first_is : osd_from first (fold_of records).files ≡ osd_at id times (booted records) reading
    first_is =
        ap (λ (f : Folded). osd_from (record { node = id; boot = f.boot; times = times; start = reading }) f.files)
        (sym (boot_told records))

    begins : id.0 < 2 ^ 32 → AreTimes times.lease times.drift → reading < 2 ^ 62 → OsdRunsOn after (osd_at id times after reading)
    begins who fit clock =
        let starts = started records first loaded_is who boot fit clock in
        subst (λ (rs : List Record). OsdRunsOn rs (osd_at id times rs reading)) (sym is)
        (record { kept = starts.0; runs = subst (RunsOn (booted records)) first_is starts.1 })

    pub osd_runs : (key : List ℕ) (osd : OsdView) → id.0 < 2 ^ 32 → AreTimes times.lease times.drift → reading < 2 ^ 62
        → osd ≡ view_at id times key after reading → OsdRunsOn after osd.state
    osd_runs key osd who fit clock told =
        subst (λ (v : OsdView). OsdRunsOn after v.state) (sym told) (begins who fit clock)
