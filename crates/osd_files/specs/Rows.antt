-- what a call on a file does, by a row
use Rattle.std.specs.Prelude.{ℕ, Bool, List, ◌≡◌}
use Rattle.xt_base.specs.declared.ids.FileId.{FileId}
use Rattle.xt_base.specs.declared.ids.Stamp.{Stamp}
use Rattle.xt_messages.specs.declared.file.Capability.{Capability}
use Rattle.xt_protocol.specs.declared.turned.Turned.{Turned}
use Rattle.xt_protocol.specs.FileStates.{FileState, Site, FileStep}
use Rattle.osd_files.specs.Views.{FileView, site_at}

-- the file is as the row leaves it at this site, and the call gives what the row gives
pub record IsStep (row : Site → FileState → FileStep) (site : Site) (old new : FileView) (turned : Turned) : Type 0 where
  pub here : new.awake ≡ old.awake
  pub step : row site old.state ≡ record { state = new.state; turned = turned }

-- the same, whatever capabilities are sealed and bodies are kept
abbrev pub IsRow : (Site → FileState → FileStep) → ℕ → FileView → FileView → Turned → Type 0
IsRow row now old new turned =
    (sealed : Capability → Bool) (body : FileId → ℕ → Stamp → List ℕ) → IsStep row (site_at old.awake now sealed body) old new turned

-- the same, where a body is this
abbrev pub IsRowBy : (Site → FileState → FileStep) → ℕ → (FileId → ℕ → Stamp → List ℕ) → FileView → FileView → Turned → Type 0
IsRowBy row now body old new turned = (sealed : Capability → Bool) → IsStep row (site_at old.awake now sealed body) old new turned

-- the row gives this, whatever capabilities are sealed and bodies are kept
abbrev pub Gives : (Site → FileState → FileStep) → ℕ → FileView → Turned → Type 0
Gives row now v turned =
    (sealed : Capability → Bool) (body : FileId → ℕ → Stamp → List ℕ) → (row (site_at v.awake now sealed body) v.state).turned ≡ turned

-- The file is as the row leaves it, whatever capabilities are sealed and bodies are kept.
pub record Becomes (row : Site → FileState → FileStep) (now : ℕ) (old new : FileView) : Type 0 where
  pub here : new.awake ≡ old.awake
  pub state : (sealed : Capability → Bool) (body : FileId → ℕ → Stamp → List ℕ) → (row (site_at old.awake now sealed body) old.state).state ≡ new.state
