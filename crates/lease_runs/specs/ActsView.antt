-- what a step of a file marks: acts as the file's primary only while the lease is held
use Rattle.std.specs.Prelude.{◌≡◌, ℕ, Option, Some, None, List, [], ◌∷◌}
use Rattle.xt_base.specs.declared.ids.NodeId.{NodeId}
use Rattle.xt_base.specs.declared.ids.FileId.{FileId}
use Rattle.xt_messages.specs.declared.file.Location.{Location}
use Rattle.xt_messages.specs.declared.message.Payload.{Payload}
use Rattle.xt_messages.specs.declared.message.Payload.TheVariants as payload
use Rattle.xt_messages.specs.declared.event.Mark.{Mark}
use Rattle.xt_messages.specs.declared.event.Mark.TheVariants as mark
use Rattle.xt_messages.specs.declared.record.Record.{Record}
use Rattle.xt_messages.specs.declared.record.Record.TheVariants as kept
use Rattle.xt_protocol.specs.LeaseRows.{LeaseState, free, asking, writing, held}
use Rattle.osd_invariants.specs.Sound.{IsHeld}
use Rattle.xt_protocol.specs.FileStates.{FileState, Site}
use Rattle.xt_protocol.specs.FileSteps.{step_of_file}
use Rattle.lease_runs.specs.LeaseView.{settled_row}
use Rattle.lease_runs.specs.OsdView.{wake_step}

-- the number of the file as whose primary a node acts by a mark
abbrev pub acted_on : Mark → Option ℕ
acted_on (mark.Active file count id) = Some file
acted_on (mark.Issue file count id) = Some file
acted_on (mark.Commit file count id) = Some file
acted_on (mark.Answer file id count bytes) = Some file
acted_on _ = None

-- all of these are acts on the file of this number
abbrev pub AreActs : ℕ → List Mark → Type 0
AreActs number [] = Unit {0}
AreActs number (m ∷ ms) = (acted_on m ≡ Some number) × AreActs number ms

-- a round runs, or the lease is held
abbrev pub IsBusy : LeaseState → Type 0
IsBusy (free p) = ⊥
IsBusy (asking r) = Unit {0}
IsBusy (writing r) = Unit {0}
IsBusy (held h) = Unit {0}

-- The marks of a step: none; a lease or a renewal was won, by the round that ran; or acts, where the lease is held.
pub data MarksAre (file : FileId) (l : LeaseState) (marks : List Mark) : Type 0 where
  no_marks : marks ≡ [] → MarksAre file l marks
  won : (end : ℕ) → IsBusy l → marks ≡ mark.Held file.number end ∷ [] → MarksAre file l marks
  acting : IsHeld l → AreActs file.number marks → MarksAre file l marks

-- the list that an ask's capability names
abbrev pub ListAsked : Payload → Location → Type 0
ListAsked (payload.Ask number capability asked) location = capability.location ≡ location
ListAsked _ location = ⊥

-- The record of a step is of the step's file; one that stores a list stores that of an ask.
abbrev pub RecordIs : FileId → Payload → Option Record → Type 0
RecordIs file content None = Unit {0}
RecordIs file content (Some (kept.Promise f epoch)) = f ≡ file
RecordIs file content (Some (kept.Update f update)) = f ≡ file
RecordIs file content (Some (kept.Stage f object version bytes)) = f ≡ file
RecordIs file content (Some (kept.Head f head)) = f ≡ file
RecordIs file content (Some (kept.View f location)) = (f ≡ file) × ListAsked content location
RecordIs file content (Some _) = ⊥

-- What the steps of a file mark and record: a message, and a Wake.
pub record ShowsActs : Type 0 where
  pub marks : (site : Site) (s : FileState) (from : NodeId) (content : Payload)
      → MarksAre s.kept.file (settled_row site s).lease (step_of_file site s from content).turned.marks
  pub rec : (site : Site) (s : FileState) (from : NodeId) (content : Payload) → RecordIs s.kept.file content (step_of_file site s from content).turned.rec
  pub wake_marks : (site : Site) (s : FileState) → (wake_step site s).turned.marks ≡ []
  pub wake_rec : (site : Site) (s : FileState) → (wake_step site s).turned.rec ≡ None
