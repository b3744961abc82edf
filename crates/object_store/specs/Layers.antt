-- what agrees with bodies of records of which the last wait in memory
use Rattle.std.specs.Prelude.{◌≡◌, refl, List, ◌++◌}
use Rattle.xt_messages.specs.declared.record.Record.{Record}
use Rattle.object_store.specs.declared.layered.Layered.{Layered}
use Rattle.object_store.specs.declared.waiting.Waiting.{Waiting}

module _ {B : Type 0} where
  abbrev pub lower_of : Layered B → B
  lower_of layered = layered.lower

  abbrev pub waiting_of : Layered B → Waiting
  waiting_of layered = layered.waiting.now

-- These are records that agree with the bodies that were read of the lower ones, and then the ones that wait: those are in memory, so they
-- are known.
pub record AgreesOver (agrees : List Record → Type 0) (recs records : List Record) : Type 0 where
  pub lower : List Record
  pub agree : agrees lower
  pub are : records ≡ lower ++ recs

-- there are such
abbrev pub some_over : (agrees : List Record → Type 0) (recs : List Record) → (records : List Record) × agrees records → (records : List Record) × AgreesOver agrees recs records
some_over agrees recs lower = (lower.0 ++ recs, record { lower = lower.0; agree = lower.1; are = refl })
