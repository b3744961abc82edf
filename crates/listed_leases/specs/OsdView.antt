-- what the step of an OSD shows of the lease of each file, where lists change
use Rattle.std.specs.Prelude.{◌≡◌, ℕ, false, max, Some, [], map, flat_map}
use Rattle.xt_base.specs.declared.ids.FileId.{FileId}
use Rattle.xt_messages.specs.declared.message.Msg.{Msg}
use Rattle.xt_messages.specs.declared.event.Event.TheVariants as event
use Rattle.xt_protocol.specs.FileIds.{is_file}
use Rattle.xt_protocol.specs.LeaseRows.{Awake, awake_at}
use Rattle.xt_protocol.specs.OsdSteps.{Outside, OsdState, file_at}
use Rattle.lease_runs.specs.LeaseView.{leases_and_asks, held_ends}
use Rattle.lease_runs.specs.OsdView.{site_of, file_after}
use Rattle.list_rows.specs.ListSteps.{file_named, step_with_lists}
use Rattle.listed_leases.specs.LeaseView.{Shows, listed_wake}
use Rattle.listed_leases.specs.VersionView.{ShowsAt}

-- A message changes the lease of the file that it concerns as that file's rows do, on each version of its list, and no other file.
pub record ShowsMessage (outside : Outside) (osd : OsdState) (reading : ℕ) (msg : Msg) (file : FileId) (awake : Awake) : Type 0 where
  pub shows : Shows (site_of outside awake (max reading osd.last)) (file_at awake osd.files file) msg.from msg.list msg.payload
      (file_after awake (step_with_lists outside osd reading (event.Deliver msg)) file)
  pub versions : (version : ℕ) → ShowsAt (site_of outside awake (max reading osd.last)) (file_at awake osd.files file) msg.from msg.list msg.payload version
      (file_after awake (step_with_lists outside osd reading (event.Deliver msg)) file)
  pub others : (other : FileId) → is_file file other ≡ false
      → file_at awake (step_with_lists outside osd reading (event.Deliver msg)).osd.files other ≡ file_at awake osd.files other

-- A Wake changes each file by itself.
pub record ShowsWake (outside : Outside) (osd : OsdState) (reading : ℕ) (awake : Awake) : Type 0 where
  pub files : (step_with_lists outside osd reading event.Wake).osd.files ≡ map (λ s. (listed_wake (site_of outside awake (max reading osd.last)) s).state) osd.files
  pub outs : leases_and_asks (step_with_lists outside osd reading event.Wake).turned.outs
      ≡ flat_map (λ s. leases_and_asks (listed_wake (site_of outside awake (max reading osd.last)) s).turned.outs) osd.files
  pub ends : held_ends (step_with_lists outside osd reading event.Wake).turned.marks ≡ []

-- The steps of an OSD show in the leases of its files.
pub record OsdShowsLeases : Type 0 where
  pub message : (outside : Outside) (osd : OsdState) (reading : ℕ) (msg : Msg) (file : FileId) (awake : Awake)
      → awake_at osd.started (max reading osd.last) ≡ Some awake → file_named msg.payload ≡ Some file → ShowsMessage outside osd reading msg file awake
  pub wake : (outside : Outside) (osd : OsdState) (reading : ℕ) (awake : Awake) → awake_at osd.started (max reading osd.last) ≡ Some awake
      → ShowsWake outside osd reading awake
