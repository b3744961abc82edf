-- why the counts of an origin's faults rise in a call of a replica
use Rattle.std.proofs.Common.{◌≡◌, ℕ, List, subst, true}
use Rattle.std.specs.Prelude.{Result, Ok, Err}
use Rattle.disk_model.specs.declared.disk.Disk.{Ghosts}
use Rattle.ronly_replica.specs.declared.origin.Fetched.{Fetched}
use Rattle.ronly_replica.specs.declared.origin.OriginErr.{OriginErr}
use Rattle.ronly_replica.specs.declared.origin.OriginErr.TheVariants as fault
use Rattle.ronly_replica.specs.Faults.{is_memory}
use Rattle.ronly_replica.specs.Origins.{HasOriginCause}
use Rattle.ronly_replica.specs.declared.replica.Ronly.{Ronly}
use Rattle.ronly_replica.specs.declared.errors.RonlyErr.{RonlyErr}
use Rattle.ronly_replica.specs.declared.errors.RonlyErr.TheVariants as err
use Rattle.ronly_replica.specs.Disks.{HasFetchCause, without_bytes}
use Rattle.ronly_replica.specs.Holding.{TakeEnds}
use Rattle.ronly_replica.specs.Making.{ShownEnds}

-- memory that runs out is no fault
pub memory_cause : (link link_after clock clock_after : ℕ) (why : OriginErr) → is_memory why ≡ true → HasOriginCause link link_after clock clock_after (Err why)
    → (link_after ≡ link) × (clock_after ≡ clock)
memory_cause link link_after clock clock_after fault.OutOfMemory h cause = cause
memory_cause link link_after clock clock_after (fault.LinkFailed count) h cause = absurd cc
memory_cause link link_after clock clock_after (fault.ClockFailed count) h cause = absurd cc
memory_cause link link_after clock clock_after (fault.NotNow answers) h cause = absurd cc
memory_cause link link_after clock clock_after (fault.Refused reply) h cause = absurd cc
memory_cause link link_after clock clock_after (fault.TurnsSpent turns) h cause = absurd cc
memory_cause link link_after clock clock_after fault.NumbersSpent h cause = absurd cc

module _ {D : Type 0} {g : Ghosts D} where
  -- an object that was fetched is put without the origin
  pub take_cause : (old : Ronly D g) (object link link_after clock clock_after : ℕ) (made : Fetched) (result : Result (Ronly D g) (RonlyErr D g)) → TakeEnds old object made result
      → link_after ≡ link → clock_after ≡ clock → HasFetchCause link link_after clock clock_after result
  take_cause old object link link_after clock clock_after made (Ok new) ends l c = (l, c)
  take_cause old object link link_after clock clock_after made (Err (err.Moved replica count)) ends l c = (l, c)
  take_cause old object link link_after clock clock_after made (Err (err.OutOfMemory replica)) ends l c = (l, c)
  take_cause old object link link_after clock clock_after made (Err (err.Full replica need limit)) ends l c = (l, c)
  take_cause old object link link_after clock clock_after made (Err (err.Broken count disk)) ends l c = (l, c)
  take_cause old object link link_after clock clock_after made (Err (err.PinStore back pins)) ends l c = absurd ends
  take_cause old object link link_after clock clock_after made (Err (err.Unloaded back)) ends l c = absurd ends
  take_cause old object link link_after clock clock_after made (Err (err.Origin replica why)) ends l c = absurd ends
  take_cause old object link link_after clock clock_after made (Err (err.Bodies count disk)) ends l c = absurd ends

  -- and so is it shown
  pub shown_cause : (old : Ronly D g) (from len link link_after clock clock_after : ℕ) (result : Result (Ronly D g × List ℕ) (RonlyErr D g)) → ShownEnds old from len result
      → link_after ≡ link → clock_after ≡ clock → HasFetchCause link link_after clock clock_after (without_bytes result)
  shown_cause old from len link link_after clock clock_after (Ok made) ends l c = (l, c)
  shown_cause old from len link link_after clock clock_after (Err (err.OutOfMemory replica)) ends l c = (l, c)
  shown_cause old from len link link_after clock clock_after (Err (err.Bodies count disk)) ends l c = (l, c)
  shown_cause old from len link link_after clock clock_after (Err (err.Moved replica count)) ends l c = absurd ends
  shown_cause old from len link link_after clock clock_after (Err (err.Full replica need limit)) ends l c = absurd ends
  shown_cause old from len link link_after clock clock_after (Err (err.Broken count disk)) ends l c = absurd ends
  shown_cause old from len link link_after clock clock_after (Err (err.PinStore back pins)) ends l c = absurd ends
  shown_cause old from len link link_after clock clock_after (Err (err.Unloaded back)) ends l c = absurd ends
  shown_cause old from len link link_after clock clock_after (Err (err.Origin replica why)) ends l c = absurd ends

  -- after calls in which no count rose
  pub cause_along : (first link link_after before clock clock_after : ℕ) (result : Result (Ronly D g) (RonlyErr D g)) → link ≡ first → clock ≡ before
      → HasFetchCause link link_after clock clock_after result → HasFetchCause first link_after before clock_after result
  cause_along first link link_after before clock clock_after result l c cause =
      subst (λ n. HasFetchCause n link_after before clock_after result) l (subst (λ n. HasFetchCause link link_after n clock_after result) c cause)
