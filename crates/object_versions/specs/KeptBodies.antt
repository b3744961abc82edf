-- what a call that reads a body answers
use Rattle.std.specs.Prelude.{ℕ, ◌≡◌, List, Option, Some, None, Result, Ok, Err, IfSome, IfNone}
use Rattle.xt_base.specs.Faults.{Rose}
use Rattle.xt_messages.specs.declared.record.Record.{Record}
use Rattle.xt_protocol.specs.Folds.{body_kept}
use Rattle.object_versions.specs.declared.errors.BodyErr.{BodyErr}
use Rattle.object_versions.specs.declared.errors.BodyErr.TheVariants as error
use Rattle.object_versions.specs.declared.errors.StepErr.{StepErr}
use Rattle.object_versions.specs.declared.errors.StepErr.TheVariants as step

-- how often reading had failed after a call that failed
abbrev pub fault_in : Result (List ℕ) BodyErr → Option ℕ
fault_in (Err (error.Failed count)) = Some count
fault_in (Err error.NoSuchVersion) = None
fault_in (Err error.OutOfMemory) = None
fault_in (Ok bytes) = None

-- What a step reports that failed for a body: reading failed, so often in all; or no record put that body, in any list that agrees with
-- what was read.
abbrev pub IsTold : (List Record → Type 0) → ℕ → ℕ → StepErr → Type 0
IsTold agrees before after (step.BodyFault count) = (count ≡ after) × Rose before after
IsTold agrees before after (step.BodyLost file object version) =
    (after ≡ before) × ((records : List Record) → agrees records → body_kept records file object version ≡ None)
IsTold agrees before after step.OutOfMemory = Unit {0}

-- A step reads bodies and changes none: what agrees with all that it read agreed before. It fails for a fault only where the count of
-- faults rose, which stays as it is otherwise, and for a lost body only where no record put that one.
pub record ReadsOnly {B : Type 0} (agrees : B → List Record → Type 0) (faults : B → ℕ) (old new : B) (failure : Option StepErr) : Type 0 where
  pub later : (records : List Record) → agrees new records → agrees old records
  pub failed : IfSome failure (IsTold (agrees new) (faults old) (faults new))
  pub sound : IfNone failure (faults new ≡ faults old)

-- for which body a step's result is a failure, if it is for one
abbrev pub lack_of : StepErr → Option StepErr
lack_of (step.BodyFault count) = Some (step.BodyFault count)
lack_of (step.BodyLost file object version) = Some (step.BodyLost file object version)
lack_of step.OutOfMemory = None

abbrev pub fault_of : {A : Type 0} → Result A StepErr → Option StepErr
fault_of (Ok done) = None
fault_of (Err error) = lack_of error
