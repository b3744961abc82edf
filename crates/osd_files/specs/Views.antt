-- a file at an OSD, as contracts see it
use Rattle.std.specs.Prelude.{ℕ, Bool, List}
use Rattle.xt_base.specs.declared.ids.FileId.{FileId}
use Rattle.xt_base.specs.declared.ids.Stamp.{Stamp}
use Rattle.xt_messages.specs.declared.file.Capability.{Capability}
use Rattle.xt_protocol.specs.LeaseRows.{Awake}
use Rattle.xt_protocol.specs.FileStates.{FileState, Site}
use Rattle.xt_protocol.specs.LeaseRows.{LeaseState}
use Rattle.osd_files.specs.Leads.{LeadView}
use Rattle.osd_files.specs.declared.parts.Parts.{Parts}

-- the OSD that it is at, and its state in the rows' terms
pub record FileView : Type 0 where
  pub awake : Awake
  pub state : FileState

abbrev pub shown : Parts → FileView
shown p =
    record {
      awake = p.awake;
      state =
          record {
            kept = record p.replica { location = p.lead.location };
            staged = p.staged;
            acceptor = p.acceptor;
            lease = p.lease;
            last_end = p.last_end;
            used = p.used;
            primary = p.lead.primary;
            asks = p.asks;
          };
    }

-- an OSD at a moment
abbrev pub site_at : Awake → ℕ → (Capability → Bool) → (FileId → ℕ → Stamp → List ℕ) → Site
site_at awake now sealed body = record { node = awake.node; times = awake.times; now = now; sealed = sealed; body = body }

-- the same file, whose primary or lease has changed
abbrev pub with_lead : FileView → LeadView → FileView
with_lead v lead = record v { state = record v.state { kept = record v.state.kept { location = lead.location }; primary = lead.primary } }

abbrev pub with_lease : FileView → LeaseState → FileView
with_lease v lease = record v { state = record v.state { lease = lease } }
