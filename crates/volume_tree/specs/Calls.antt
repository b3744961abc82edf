-- what a call on the volumes gives
use Rattle.std.specs.Prelude.{◌≡◌, ◌<◌, ◌^◌, Option, None, Result, Ok, Err}
use Rattle.xt_messages.specs.declared.meta.MetaRefusal.{MetaRefusal}
use Rattle.xt_messages.specs.declared.meta.MetaRefusal.TheVariants as refusal
use Rattle.xt_messages.specs.declared.meta.MetaAnswer.{MetaAnswer}
use Rattle.xt_messages.specs.declared.meta.MetaAnswer.TheVariants as answer
use Rattle.xt_messages.specs.declared.meta.MetaReq.{MetaReq}
use Rattle.xt_messages.specs.declared.meta.MetaReq.TheVariants as ask
use Rattle.volume_rows.specs.declared.Granting.{Granting}
use Rattle.volume_tree.specs.declared.TreeErr.{TreeErr}
use Rattle.volume_tree.specs.declared.TreeErr.TheVariants as failed
use Rattle.volume_rows.specs.Paths.{Path}
use Rattle.volume_rows.specs.Rows.{Volumes}
use Rattle.volume_rows.specs.Requests.{Outcome}

-- an answer, with a refusal as an error
abbrev pub in_result : MetaAnswer → Result MetaAnswer MetaRefusal
in_result (answer.Refused why) = Err why
in_result answer.Done = Ok answer.Done
in_result (answer.Names names) = Ok (answer.Names names)
in_result (answer.Row kind owner group mode mark) = Ok (answer.Row kind owner group mode mark)
in_result (answer.Granted capability mark) = Ok (answer.Granted capability mark)
in_result (answer.Located location changing) = Ok (answer.Located location changing)

-- A call gives the answer of what comes of its request, and the volumes are those after it. Where that is a refusal, or no
-- memory is left, they stay as they were.
abbrev pub Comes : Result MetaAnswer TreeErr → Volumes → Volumes → Outcome → Type 0
Comes (Ok told) old new outcome = (Ok told ≡ in_result outcome.answer) × (new ≡ outcome.volumes)
Comes (Err (failed.Refused why)) old new outcome = (answer.Refused why ≡ outcome.answer) × (new ≡ old)
Comes (Err failed.OutOfMemory) old new outcome = new ≡ old

-- a path that is refused isn't one, unless no memory is left
abbrev pub IsBadPath : TreeErr → Option Path → Type 0
IsBadPath (failed.Refused why) path = (why ≡ refusal.NameBad) × (path ≡ None)
IsBadPath failed.OutOfMemory path = Unit {0}

-- A grant gives what is granted, or its refusal, and changes nothing. Where no memory is left, or no epoch, it gives neither.
abbrev pub Grants : Result Granting TreeErr → Result Granting MetaRefusal → Type 0
Grants (Ok granting) granted = Ok granting ≡ granted
Grants (Err (failed.Refused why)) granted = Err why ≡ granted
Grants (Err failed.OutOfMemory) granted = Unit {0}

-- a Create has a number left for its file
abbrev pub HasNumber : Volumes → MetaReq → Type 0
HasNumber volumes (ask.Create path mode kind n stripe) = volumes.next < 2 ^ 62
HasNumber volumes _ = Unit {0}
