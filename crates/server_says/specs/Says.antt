-- what a metadata server that changes lists marks, keeps, sends and remembers
use Rattle.std.specs.Prelude.{◌≡◌, ℕ, Option, Some, List, [], ◌∷◌, ◌++◌, map, max}
use Rattle.std.specs.List.{AllByRecursion}
use Rattle.xt_base.specs.TimeSettings.{TimeSettings}
use Rattle.xt_base.specs.declared.ids.FileId.{FileId}
use Rattle.xt_messages.specs.declared.event.Event.{Event}
use Rattle.xt_messages.specs.declared.event.Mark.{Mark}
use Rattle.xt_messages.specs.declared.event.Mark.TheVariants as mark
use Rattle.xt_messages.specs.declared.message.Msg.{Msg}
use Rattle.xt_messages.specs.declared.message.Payload.{Payload}
use Rattle.xt_messages.specs.declared.message.Payload.TheVariants as payload
use Rattle.xt_messages.specs.declared.record.Record.{Record}
use Rattle.xt_messages.specs.declared.record.Record.TheVariants as kept
use Rattle.server_rows.specs.Naming.{Made, RisesTo}
use Rattle.change_rows.specs.declared.Choice.{Choice}
use Rattle.change_rows.specs.Coordinating.{listed, list_mark}
use Rattle.list_changes.specs.Steps.{ChangingMrc, ChangingStep, step_with_changes}
use Rattle.world_spec.specs.declared.PlacedFile.{PlacedFile}
use Rattle.world_spec.specs.NodeSteps.{files_marked}
use Rattle.world_spec.specs.Lines.{file_made}

-- ---- marks

-- a file that is made
abbrev pub IsFileMark : Mark → Type 0
IsFileMark (mark.File file location) = Unit {0}
IsFileMark _ = ⊥

abbrev pub AreFileMarks : List Mark → Type 0
AreFileMarks [] = Unit {0}
AreFileMarks (m ∷ ms) = IsFileMark m × AreFileMarks ms

-- the record isn't that a list is a file's
abbrev pub ListsNone : Option Record → Type 0
ListsNone rec = (file : FileId) (version : ℕ) → rec ≡ Some (kept.Listed file version) → ⊥

-- A step marks the files that it makes; or it keeps that a list is its file's, and marks that.
pub data Marks (rec : Option Record) (marks : List Mark) : Type 0 where
  of_files : AreFileMarks marks → ListsNone rec → Marks rec marks
  of_list : (choice : Choice) → rec ≡ Some (listed choice) → marks ≡ list_mark choice ∷ [] → Marks rec marks

-- ---- messages

-- an answer, a question to the directory service, or an order to close or to install a list
abbrev pub IsServed : Payload → Type 0
IsServed (payload.MetaReply number told) = Unit {0}
IsServed (payload.Registry number asked) = Unit {0}
IsServed (payload.Close file version) = Unit {0}
IsServed (payload.Install file location head source) = Unit {0}
IsServed _ = ⊥

abbrev pub AreServed : List Msg → Type 0
AreServed outs = AllByRecursion (λ (m : Msg). IsServed m.payload) outs

-- ---- steps

-- the files, each where it was made, in the order of making
abbrev pub places : Made → List PlacedFile
places made = map file_made made

-- What a step gives: the clock is remembered; marks, messages; and the files that are made then are those before it and those that it marks.
pub record StepSays (now : ℕ) (s : ChangingMrc) (step : ChangingStep) : Type 0 where
  pub last : step.server.mrc.last ≡ now
  pub marks : Marks step.turned.rec step.turned.marks
  pub outs : AreServed step.turned.outs
  pub made : RisesTo 1000000 s.mrc.catalogue.volumes.next s.mrc.catalogue.made
      → places step.server.mrc.catalogue.made ≡ places s.mrc.catalogue.made ++ files_marked step.turned.marks

-- So is each step, at the greater of the clock's reading and the clock that was used last.
abbrev pub ServersSay : Type 0
ServersSay =
    (key : List ℕ) (times : TimeSettings) (s : ChangingMrc) (reading : ℕ) (happens : Event)
    → StepSays (max reading s.mrc.last) s (step_with_changes key times s reading happens)
