-- what a sweep of a store comes to
use Rattle.std.proofs.Common.{◌≡◌, ℕ, List, Option, Result, Ok, Err, inl, inr, refl, sym, subst}
use Rattle.disk_model.specs.declared.disk.Disk.{Ghosts}
use Rattle.xt_base.specs.declared.ids.FileId.{FileId}
use Rattle.xt_messages.specs.declared.status.Status.{Status}
use Rattle.xt_messages.specs.declared.status.Status.TheVariants as status
use Rattle.xt_journal.specs.Access.{limit_of, place_of, superblock_of}
use Rattle.object_store.specs.declared.store.Store.{Store}
use Rattle.object_store.specs.declared.errors.AppendErr.{AppendErr}
use Rattle.object_store.specs.declared.errors.AppendErr.TheVariants as append
use Rattle.object_store.specs.Access.{disk_of, journal_of, records_of}
use Rattle.object_store.specs.Answers.{disk_after_put}
use Rattle.orphan_sweep.specs.declared.fate.Fate.{Fate}
use Rattle.orphan_sweep.specs.Fates.{orphans_of}
use Rattle.orphan_sweep.specs.Sweeps.{Sweeps}
use Rattle.node_loop.specs.Events.{HasDiskCause}
use Rattle.store_loading.specs.Sinks.{HasSinkCause}
use Rattle.store_loading.proofs.Disks.{medium_of, rose_by_one}
use Rattle.sweep_job.specs.Lines.{swept_line}
use Rattle.sweep_job.specs.Sweeping.{HasClockCause, HasStopped, Passes, SweepsOrStops, Tells, status_of}

module _ {D : Type 0} {g : Ghosts D} (store : Store D g) (fates : List (FileId × Fate)) (held later : Option (List ℕ)) where
  abbrev Does : D → Status → Type 0
  Does after said =
      SweepsOrStops (medium_of g) (limit_of (journal_of store)) (disk_of store) after (records_of store) (superblock_of (journal_of store)) (place_of (journal_of store))
      fates held later said

  passes : (result : Result (Store D g) (AppendErr D g)) → Sweeps store (orphans_of fates) result
      → Passes (medium_of g) (disk_of store) (disk_after_put result) (records_of store) (orphans_of fates)
  passes result is = record { each = is.any_moment; last = is.left; on_the_way = is.on_the_way; in_the_end = is.in_the_end }

  -- it came to its end
  pub is_done : (new : Store D g) (after : D) (said : Status) → after ≡ disk_of new → Sweeps store (orphans_of fates) (Ok new) → Tells (swept_line fates) held later said
      → Does after said
  is_done new after said same is tells =
      subst (λ (d : D). Does d said) (sym same)
      (inl (record { room = is.end.room; passes = passes (Ok new) is; acknowledged = is.end.acknowledged; tells = tells }))

  why_stopped : (error : AppendErr D g) → Sweeps store (orphans_of fates) (Err error)
      → HasStopped (medium_of g) (limit_of (journal_of store)) (disk_of store) (disk_after_put (Err error)) (records_of store) (superblock_of (journal_of store))
      (place_of (journal_of store)) fates held held (status_of error)
  why_stopped (append.Broken count disk) is = record { why = tt; passes = passes (Err (append.Broken count disk)) is; quiet = refl }
  why_stopped (append.Full new need limit) is =
      record { why = (is.end.needed, is.end.limit_is); passes = passes (Err (append.Full new need limit)) is; quiet = refl }
  why_stopped (append.OutOfMemory new) is = record { why = tt; passes = passes (Err (append.OutOfMemory new)) is; quiet = refl }

module _ {D : Type 0} {g : Ghosts D} (store : Store D g) (fates : List (FileId × Fate)) (held : Option (List ℕ)) where
  -- it ended with an error
  pub has_stopped : (error : AppendErr D g) (after : D) (said : Status) → after ≡ disk_after_put (Err error) → said ≡ status_of error
      → Sweeps store (orphans_of fates) (Err error) → Does store fates held held after said
  has_stopped error after said same said_is is =
      subst (λ (d : D). Does store fates held held d said) (sym same)
      (subst (λ (s : Status). Does store fates held held (disk_after_put (Err error)) s) (sym said_is) (inr (why_stopped store fates held held error is)))

  error_disk : (error : AppendErr D g) → Sweeps store (orphans_of fates) (Err error)
      → HasDiskCause (g.fault_count (disk_of store)) (g.fault_count (disk_after_put (Err error))) (status_of error)
  error_disk (append.Broken count disk) is = (rose_by_one (g.fault_count (disk_of store)) (g.fault_count disk) is.faults, is.end)
  error_disk (append.Full new need limit) is = is.faults
  error_disk (append.OutOfMemory new) is = is.faults

  -- and the disk's count tells whether it failed
  pub stopped_disk : (error : AppendErr D g) (after : D) (said : Status) → after ≡ disk_after_put (Err error) → said ≡ status_of error
      → Sweeps store (orphans_of fates) (Err error) → HasDiskCause (g.fault_count (disk_of store)) (g.fault_count after) said
  stopped_disk error after said same said_is is =
      subst (λ (d : D). HasDiskCause (g.fault_count (disk_of store)) (g.fault_count d) said) (sym same)
      (subst (λ (s : Status). HasDiskCause (g.fault_count (disk_of store)) (g.fault_count (disk_after_put (Err error))) s) (sym said_is) (error_disk error is))

-- the sink isn't used where a sweep ends with an error
error_sink : {D : Type 0} {g : Ghosts D} (error : AppendErr D g) (count : ℕ) → HasSinkCause count count (status_of error)
error_sink (append.Broken n disk) count = refl
error_sink (append.Full store need limit) count = refl
error_sink (append.OutOfMemory store) count = refl

pub stopped_sink : {D : Type 0} {g : Ghosts D} (error : AppendErr D g) (said : Status) (count : ℕ) → said ≡ status_of error → HasSinkCause count count said
stopped_sink error said count is = subst (λ (s : Status). HasSinkCause count count s) (sym is) (error_sink error count)

-- no disk fails while the line is put
pub told_disk : (text : List ℕ) (held later : Option (List ℕ)) (before after : ℕ) (said : Status) → Tells text held later said → after ≡ before
    → HasDiskCause before after said
told_disk text held later before after (status.DiskFault count) tells same = absurd (let no : status.DiskFault count ≡ status.Done = tells.1 in cc no)
told_disk text held later before after _ tells same = same

-- ---- the clock isn't read

error_clock : {D : Type 0} {g : Ghosts D} (error : AppendErr D g) (count : ℕ) → HasClockCause count count (status_of error)
error_clock (append.Broken n disk) count = refl
error_clock (append.Full store need limit) count = refl
error_clock (append.OutOfMemory store) count = refl

pub stopped_clock : {D : Type 0} {g : Ghosts D} (error : AppendErr D g) (said : Status) → said ≡ status_of error → (count : ℕ) → HasClockCause count count said
stopped_clock error said is count = subst (λ (s : Status). HasClockCause count count s) (sym is) (error_clock error count)

pub told_clock : (text : List ℕ) (held later : Option (List ℕ)) (said : Status) → Tells text held later said → (count : ℕ) → HasClockCause count count said
told_clock text held later (status.ClockFault n) tells count = absurd (let no : status.ClockFault n ≡ status.Done = tells.1 in cc no)
told_clock text held later _ tells count = refl
