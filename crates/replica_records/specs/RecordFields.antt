-- the fields of each kind of record, read from the front of bytes
use Rattle.std.specs.Prelude.{◌≡◌, ℕ, Bool, List, length, Option, Some, None, Result, Ok, Err, ◌==◌, ◌||◌, nat_lt, if◌then◌else◌}
use Rattle.xt_base.specs.MemberList.{are_members}
use Rattle.xt_base.specs.declared.TheConstants.{BODY}
use Rattle.xt_base.specs.declared.ids.NodeId.{NodeId}
use Rattle.xt_messages.specs.declared.record.Logged.{Logged}
use Rattle.xt_messages.specs.declared.record.Logged.TheVariants as logged
use Rattle.xt_messages.specs.declared.record.Record.{Record}
use Rattle.xt_messages.specs.declared.record.Record.TheVariants as kept
use Rattle.xt_fields.specs.declared.fault.FieldErr.{FieldErr}
use Rattle.xt_fields.specs.declared.fault.FieldErr.TheVariants as fault
use Rattle.xt_fields.specs.Reading.{Field, ◌&◌, made, fit}
use Rattle.xt_fields.specs.BasicFields.{word_at, long_at, count_at, raw_at, octets_at, list_at, tagged}
use Rattle.xt_wire.specs.IdFields.{node_at, boot_at, file_at, epoch_at, stamp_at}
use Rattle.xt_wire.specs.FileFields.{version_at, location_at, update_at, head_at}
use Rattle.xt_wire.specs.MetaFields.{meta_req_at}
use Rattle.xt_wire.specs.RegistryFields.{registry_req_at}
use Rattle.replica_records.specs.OldFields as old
use Rattle.replica_records.specs.declared.errors.RecordErr.{RecordErr}
use Rattle.replica_records.specs.declared.errors.RecordErr.TheVariants as error

-- a byte that says how many, 0 where there are none, and the nodes
unfoldable pub nodes_arms : ℕ → Field (Option (List NodeId))
nodes_arms n bytes =
    if n == 0 then Ok (None, bytes)
    else if nat_lt 9 n then Err fault.Over
    else made Some (fit are_members (list_at node_at n)) bytes

unfoldable pub nodes_at : Field (Option (List NodeId))
nodes_at = tagged nodes_arms

unfoldable pub meta_logged_at : Field Logged
meta_logged_at = made (λ f. logged.Meta f.0.0 f.0.1 f.1) (word_at & word_at & meta_req_at)

unfoldable pub registry_logged_at : Field Logged
registry_logged_at = made logged.Registry registry_req_at

unfoldable pub logged_arms : ℕ → Field Logged
logged_arms kind bytes =
    if kind == 20 then meta_logged_at bytes
    else if kind == 22 then registry_logged_at bytes
    else Err fault.Unfit

unfoldable pub logged_at : Field Logged
logged_at = tagged logged_arms

unfoldable pub boot_record_at : Field Record
boot_record_at = made kept.Boot boot_at

unfoldable pub promise_record_at : Field Record
promise_record_at = made (λ f. kept.Promise f.0 f.1) (file_at & epoch_at)

unfoldable pub update_record_at : Field Record
update_record_at = made (λ f. kept.Update f.0 f.1) (file_at & update_at)

unfoldable pub stage_record_at : Field Record
stage_record_at = made (λ f. kept.Stage f.0.0.0 f.0.0.1 f.0.1 f.1) (file_at & long_at & stamp_at & octets_at BODY)

unfoldable pub head_record_at : Field Record
head_record_at = made (λ f. kept.Head f.0 f.1) (file_at & head_at)

unfoldable pub view_record_at : Field Record
view_record_at = made (λ f. kept.View f.0 f.1) (file_at & location_at)

unfoldable pub meta_record_at : Field Record
meta_record_at = made (λ f. kept.Meta f.0.0.0.0 f.0.0.0.1 f.0.0.1 f.0.1 f.1) (node_at & count_at & count_at & nodes_at & logged_at)

unfoldable pub close_record_at : Field Record
close_record_at = made (λ f. kept.Close f.0 f.1) (file_at & version_at)

unfoldable pub install_record_at : Field Record
install_record_at = made (λ f. kept.Install f.0.0 f.0.1 f.1) (file_at & location_at & head_at)

unfoldable pub choice_record_at : Field Record
choice_record_at = made (λ f. kept.Choice f.0.0.0 f.0.0.1 f.0.1 f.1) (file_at & location_at & head_at & node_at)

unfoldable pub listed_record_at : Field Record
listed_record_at = made (λ f. kept.Listed f.0 f.1) (file_at & version_at)

unfoldable pub seal_record_at : Field Record
seal_record_at = made (λ f. kept.Seal f.0.0.0 f.0.0.1 f.0.1 f.1) (file_at & long_at & stamp_at & raw_at 32)

unfoldable pub forget_record_at : Field Record
forget_record_at = made kept.Forget file_at

-- the kinds that are written
unfoldable pub written_arms : ℕ → Field Record
written_arms kind bytes =
    if kind == 1 then boot_record_at bytes
    else if kind == 2 then promise_record_at bytes
    else if kind == 6 then view_record_at bytes
    else if kind == 7 then meta_record_at bytes
    else if kind == 9 then close_record_at bytes
    else if kind == 12 then listed_record_at bytes
    else if kind == 13 then update_record_at bytes
    else if kind == 14 then stage_record_at bytes
    else if kind == 15 then head_record_at bytes
    else if kind == 16 then install_record_at bytes
    else if kind == 17 then choice_record_at bytes
    else if kind == 18 then seal_record_at bytes
    else if kind == 19 then forget_record_at bytes
    else Err fault.Unfit

unfoldable pub old_update_at : Field Record
old_update_at = made (λ f. kept.OldUpdate f.0 f.1) (file_at & old.update_at)

unfoldable pub old_stage_at : Field Record
old_stage_at = made (λ f. kept.OldStage f.0.0.0 f.0.0.1 f.0.1 f.1) (file_at & word_at & stamp_at & octets_at BODY)

unfoldable pub old_head_at : Field Record
old_head_at = made (λ f. kept.OldHead f.0 f.1) (file_at & old.head_at)

unfoldable pub old_install_at : Field Record
old_install_at = made (λ f. kept.OldInstall f.0.0 f.0.1 f.1) (file_at & location_at & old.head_at)

unfoldable pub old_choice_at : Field Record
old_choice_at = made (λ f. kept.OldChoice f.0.0.0 f.0.0.1 f.0.1 f.1) (file_at & location_at & old.head_at & node_at)

-- the kinds that were written while objects had 32 bits, and that are read alone now
unfoldable pub old_arms : ℕ → Field Record
old_arms kind bytes =
    if kind == 3 then old_update_at bytes
    else if kind == 4 then old_stage_at bytes
    else if kind == 5 then old_head_at bytes
    else if kind == 10 then old_install_at bytes
    else if kind == 11 then old_choice_at bytes
    else Err fault.Unfit

abbrev pub is_old : ℕ → Bool
is_old kind = (kind == 3) || (kind == 4) || (kind == 5) || (kind == 10) || (kind == 11)

unfoldable pub record_arms : ℕ → Field Record
record_arms kind bytes = if is_old kind then old_arms kind bytes else written_arms kind bytes

unfoldable pub record_at : Field Record
record_at = tagged record_arms

-- what is no field makes bytes no record
abbrev pub fault_of : FieldErr → RecordErr
fault_of fault.OutOfMemory = error.OutOfMemory
fault_of fault.Short = error.BadRecord
fault_of fault.Over = error.BadRecord
fault_of fault.NotText = error.BadRecord
fault_of fault.Unfit = error.BadRecord

-- the fields are all of the bytes
abbrev pub whole : {A : Type 0} → Result (A × List ℕ) FieldErr → Result A RecordErr
whole (Ok x) = if length x.1 == 0 then Ok x.0 else Err error.BadRecord
whole (Err e) = Err error.BadRecord

-- the record whose spelling these bytes are
unfoldable pub recorded : List ℕ → Result Record RecordErr
recorded bytes = whole (record_at bytes)

-- A call gave what reading gives, unless memory ran out.
abbrev pub Gives : {A : Type 0} → Result A RecordErr → Result A RecordErr → Type 0
Gives (Ok x) read = read ≡ Ok x
Gives (Err error.BadRecord) read = read ≡ Err error.BadRecord
Gives (Err error.OutOfMemory) read = Unit {0}
