-- what holds of every outcome
use Rattle.std.specs.Prelude.{◌≡◌, ℕ, ◌+◌, ◌≤◌, Option, List, [], ◌∷◌, map}
use Rattle.xt_base.specs.declared.ids.FileId.{FileId}
use Rattle.xt_messages.specs.declared.meta.MetaReq.{MetaReq}
use Rattle.xt_messages.specs.declared.meta.MetaReq.TheVariants as ask
use Rattle.xt_messages.specs.declared.meta.MetaAnswer.{MetaAnswer}
use Rattle.xt_messages.specs.declared.meta.MetaAnswer.TheVariants as answer
use Rattle.volume_rows.specs.Rows.{Volumes}
use Rattle.volume_rows.specs.Requests.{Outcome}
use Rattle.server_rows.specs.declared.MadeFile.{MadeFile}

-- a request that changes names, rights or files
abbrev pub IsChange : MetaReq → Type 0
IsChange (ask.Mkdir path mode) = Unit {0}
IsChange (ask.Create path mode kind n stripe) = Unit {0}
IsChange (ask.Rename from to) = Unit {0}
IsChange (ask.Unlink path) = Unit {0}
IsChange (ask.Rmdir path) = Unit {0}
IsChange (ask.List path after) = ⊥
IsChange (ask.Stat path) = ⊥
IsChange (ask.Chmod path mode) = Unit {0}
IsChange (ask.Grant path want) = ⊥
IsChange (ask.Report capability mark) = ⊥
IsChange (ask.Change path nodes) = ⊥
IsChange (ask.Locate path) = ⊥

-- an answer that is Done, or a refusal after which the volumes are as they were
abbrev pub SettlesAs : Volumes → Volumes → MetaAnswer → Type 0
SettlesAs old new answer.Done = Unit {0}
SettlesAs old new (answer.Refused why) = new ≡ old
SettlesAs old new (answer.Names names) = ⊥
SettlesAs old new (answer.Row kind owner group mode mark) = ⊥
SettlesAs old new (answer.Granted capability mark) = ⊥
SettlesAs old new (answer.Located location changing) = ⊥

abbrev pub Settles : Volumes → Outcome → Type 0
Settles volumes outcome = SettlesAs volumes outcome.volumes outcome.answer

-- what is known of the files that were ever made: each file, and the clock at which it was unlinked, if it was
abbrev pub files_made : List (ℕ × MadeFile) → List (FileId × Option ℕ)
files_made made = map (λ entry. (entry.1.file, entry.1.unlinked)) made

-- files whose numbers rise, from this one on
abbrev pub RiseFrom : ℕ → List (FileId × Option ℕ) → Type 0
RiseFrom least [] = Unit {0}
RiseFrom least (file ∷ files) = (least ≤ file.0.number) × RiseFrom (file.0.number + 1) files
