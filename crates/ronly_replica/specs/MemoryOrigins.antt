-- what a fetch of a file in memory does
use Rattle.std.specs.Prelude.{ℕ, ◌≡◌, true, Some, Result, Ok, Err, List, length, slice_get}
use Rattle.xt_base.specs.Faults.{fault_count_after}
use Rattle.striping.specs.Cover.{object_of}
use Rattle.ronly_replica.specs.declared.origin.Fetched.{Fetched}
use Rattle.ronly_replica.specs.declared.origin.OriginErr.{OriginErr}
use Rattle.ronly_replica.specs.declared.origin.OriginErr.TheVariants as fault
use Rattle.ronly_replica.specs.declared.memory_origin.MemoryOrigin.{MemoryOrigin}

-- It is the same file at the same count.
pub record IsSame (old new : MemoryOrigin) : Type 0 where
  pub contents : new.contents ≡ old.contents
  pub stripe : new.stripe ≡ old.stripe
  pub at : new.at ≡ old.at

-- the object as it is in the content at the origin's count
pub record IsFetched (old : MemoryOrigin) (object : ℕ) (fetched : Fetched) : Type 0 where
  pub count : fetched.count ≡ old.at
  pub told : (whole : List ℕ) → slice_get old.contents old.at ≡ Some whole
      → (fetched.bytes ≡ object_of old.stripe whole object) × (fetched.mark ≡ record { epoch = 0; size = length whole })

abbrev pub Answers : MemoryOrigin → ℕ → Result Fetched OriginErr → MemoryOrigin → Type 0
Answers old object (Ok fetched) new = IsFetched old object fetched × (new.faults ≡ old.faults)
Answers old object (Err (fault.LinkFailed count)) new = (count ≡ new.faults) × (new.faults ≡ fault_count_after true old.faults)
Answers old object (Err fault.OutOfMemory) new = new.faults ≡ old.faults
Answers old object (Err _) new = ⊥

-- The object is fetched; or the link fails, as was planned; or memory runs out. Nothing else comes of it.
pub record MemoryFetches (old : MemoryOrigin) (object : ℕ) (result : Result Fetched OriginErr) (new : MemoryOrigin) : Type 0 where
  pub same : IsSame old new
  pub answers : Answers old object result new
