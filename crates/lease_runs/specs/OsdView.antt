-- what the step of an OSD shows of the lease of each file
use Rattle.std.specs.Prelude.{◌≡◌, ℕ, false, max, Some, [], map, flat_map}
use Rattle.xt_base.specs.declared.ids.FileId.{FileId}
use Rattle.xt_messages.specs.declared.message.Msg.{Msg}
use Rattle.xt_messages.specs.declared.event.Event.TheVariants as event
use Rattle.xt_protocol.specs.FileIds.{is_file}
use Rattle.xt_protocol.specs.LeaseRows.{Awake, awake_at}
use Rattle.xt_protocol.specs.FileStates.{FileState, Site, FileStep, and_then}
use Rattle.xt_protocol.specs.Overdue.{expired}
use Rattle.xt_protocol.specs.FileSteps.{wake_of_file}
use Rattle.xt_protocol.specs.OsdSteps.{Outside, OsdState, OsdStep, step_of_osd, file_at, file_concerned}
use Rattle.lease_runs.specs.LeaseView.{Follows, Wakes, leases_and_asks, held_ends, settled_row}

-- the node at the moment of a step
abbrev pub site_of : Outside → Awake → ℕ → Site
site_of outside awake now = record { node = awake.node; times = awake.times; now = now; sealed = outside.sealed; body = outside.body }

-- what an OSD's step shows of one file
abbrev pub file_after : Awake → OsdStep → FileId → FileStep
file_after awake step file = record { state = file_at awake step.osd.files file; turned = step.turned }

-- A message changes the lease of the file that it concerns as that file's rows do, and no other file.
pub record ShowsMessage (outside : Outside) (osd : OsdState) (reading : ℕ) (msg : Msg) (file : FileId) (awake : Awake) : Type 0 where
  pub shows : Follows file (site_of outside awake (max reading osd.last)) (settled_row (site_of outside awake (max reading osd.last)) (file_at awake osd.files file))
      (settled_row (site_of outside awake (max reading osd.last)) (file_at awake osd.files file)).lease msg.from msg.payload
      (file_after awake (step_of_osd outside osd reading (event.Deliver msg)) file)
  pub others : (other : FileId) → is_file file other ≡ false
      → file_at awake (step_of_osd outside osd reading (event.Deliver msg)).osd.files other ≡ file_at awake osd.files other

-- what a Wake does to a file
abbrev pub wake_step : Site → FileState → FileStep
wake_step site s = and_then (expired site s) (wake_of_file site)

-- A Wake changes each file by itself.
pub record ShowsWake (outside : Outside) (osd : OsdState) (reading : ℕ) (awake : Awake) : Type 0 where
  pub files : (step_of_osd outside osd reading event.Wake).osd.files ≡ map (λ s. (wake_step (site_of outside awake (max reading osd.last)) s).state) osd.files
  pub outs : leases_and_asks (step_of_osd outside osd reading event.Wake).turned.outs
      ≡ flat_map (λ s. leases_and_asks (wake_step (site_of outside awake (max reading osd.last)) s).turned.outs) osd.files
  pub ends : held_ends (step_of_osd outside osd reading event.Wake).turned.marks ≡ []

-- The steps of an OSD show in the leases of its files.
pub record OsdShowsLeases : Type 0 where
  pub message : (outside : Outside) (osd : OsdState) (reading : ℕ) (msg : Msg) (file : FileId) (awake : Awake)
      → awake_at osd.started (max reading osd.last) ≡ Some awake → file_concerned msg.payload ≡ Some file → ShowsMessage outside osd reading msg file awake
  pub wake : (outside : Outside) (osd : OsdState) (reading : ℕ) (awake : Awake) → awake_at osd.started (max reading osd.last) ≡ Some awake
      → ShowsWake outside osd reading awake
  pub each : (site : Site) (s : FileState) → Wakes s.kept.file site (settled_row site s) (settled_row site s).lease (wake_step site s)
