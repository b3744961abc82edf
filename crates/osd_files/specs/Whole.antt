-- what always holds of a file at an OSD, and what a file's steps are in the words of its callers
use Rattle.std.specs.Prelude.{◌≡◌, ℕ, Bool, List, IfSome}
use Rattle.xt_messages.specs.Limits.{FitsHead, FitsStripe}
use Rattle.xt_base.specs.declared.ids.FileId.{FileId}
use Rattle.xt_base.specs.declared.ids.Stamp.{Stamp}
use Rattle.xt_messages.specs.declared.file.Capability.{Capability}
use Rattle.xt_messages.specs.declared.message.Payload.{Payload}
use Rattle.xt_messages.specs.declared.message.Payload.TheVariants as payload
use Rattle.xt_messages.specs.declared.record.FileRow.{FileRow}
use Rattle.xt_protocol.specs.declared.turned.Turned.{Turned}
use Rattle.xt_protocol.specs.FileStates.{FileState, Site, FileStep}
use Rattle.xt_protocol.specs.FileSteps.{wake_of_file}
use Rattle.xt_protocol.specs.Overdue.{expired}
use Rattle.osd_invariants.specs.Sound.{IsSound}
use Rattle.osd_invariants.specs.OpenAsks.{AsksAre, IsWithinLimits}
use Rattle.osd_files.specs.Rows.{IsStep}
use Rattle.osd_files.specs.Views.{FileView, site_at}
use Rattle.osd_files.specs.declared.waking.Woken.{Woken}

-- its state is sound, and the operations of its open asks are within their limits
pub record IsWhole (v : FileView) : Type 0 where
  pub sound : IsSound v.state
  pub asks : AsksAre IsWithinLimits v.state.asks

-- What records say of a file that are within their limits and in their places: the head is within its limits, so that its
-- versions and sessions rise, and the size of the list's objects is one that a list may have.
pub record RowRises (row : FileRow) : Type 0 where
  pub head : FitsHead row.head
  pub list : IfSome row.location (λ location. FitsStripe location.stripe)

-- whether the tag of the capability is the key's, where a message is an ask
abbrev pub IsSealedBy : (Capability → Bool) → Payload → Bool → Type 0
IsSealedBy test (payload.Ask number capability asked) sealed = test capability ≡ sealed
IsSealedBy test _ sealed = Unit {0}

-- a row on a message, whichever capabilities are sealed, where the message's own one is or isn't
abbrev pub IsRowOn : (Site → FileState → FileStep) → Payload → Bool → ℕ → (FileId → ℕ → Stamp → List ℕ) → FileView → FileView → Turned → Type 0
IsRowOn row content sealed now body old new turned =
    (test : Capability → Bool) → IsSealedBy test content sealed → IsStep row (site_at old.awake now test body) old new turned

-- What a Wake gives at a file: what is overdue first, and then the rows of a Wake.
pub record Wakes (now : ℕ) (v : FileView) (woken : Woken) : Type 0 where
  pub overdue : (sealed : Capability → Bool) (body : FileId → ℕ → Stamp → List ℕ) → (expired (site_at v.awake now sealed body) v.state).turned ≡ woken.overdue
  pub again : (sealed : Capability → Bool) (body : FileId → ℕ → Stamp → List ℕ)
      → (wake_of_file (site_at v.awake now sealed body) (expired (site_at v.awake now sealed body) v.state).state).turned ≡ woken.again

-- The file after a Wake.
pub record IsWoken (now : ℕ) (old new : FileView) : Type 0 where
  pub here : new.awake ≡ old.awake
  pub state : (sealed : Capability → Bool) (body : FileId → ℕ → Stamp → List ℕ)
      → (wake_of_file (site_at old.awake now sealed body) (expired (site_at old.awake now sealed body) old.state).state).state ≡ new.state
