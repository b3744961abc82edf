-- how a sweep goes, file by file
use Rattle.std.proofs.Common.{◌≡◌, ◌≤◌, ◌<◌, ◌+◌, ℕ, Bool, true, false, cond, List, [], ◌∷◌, ◌++◌, length, take, Option, None, Some, Result, Ok, Err, inl, inr, refl, sym, ◌∙◌, ap, subst, arith, append-nil, append_assoc, length-append}
use Rattle.std.specs.Prelude.{IsTrue, is_some, nat_lt}
use Rattle.std.proofs.lemmas.Bool.Decides.{nat_tests}
use Rattle.std.proofs.lemmas.List.{map-append, take-append-le}
use Rattle.std.proofs.Math.Seq.{take-append_seam, take-append-add, take-length}
use Rattle.disk_model.specs.declared.disk.Disk.{Ghosts}
use Rattle.disk_model.specs.Disk.{IsImage, LeavesOnly}
use Rattle.disk_model.proofs.Moments.{begun, joined, weaker}
use Rattle.xt_base.specs.Faults.{counted, fault_count_after}
use Rattle.xt_base.specs.declared.ids.FileId.{FileId}
use Rattle.xt_messages.specs.declared.record.KeepBody.{KeepBody}
use Rattle.xt_messages.specs.declared.record.Record.{Record}
use Rattle.xt_messages.specs.declared.record.Record.TheVariants as kept
use Rattle.xt_protocol.specs.Folds.{fold_of}
use Rattle.xt_protocol.specs.Forgetting.{rewritten}
use Rattle.journal_areas.specs.declared.superblock.Superblock.{Superblock}
use Rattle.journal_areas.specs.Format as format
use Rattle.journal_areas.proofs.Records.{length-record}
use Rattle.journal_moves.specs.Answers.{full_need}
use Rattle.journal_moves.specs.Moves.{IsEither}
use Rattle.xt_journal.specs.Access.{limit_of, place_of, superblock_of}
use Rattle.xt_journal.specs.Append.{IsWithAllOrNone}
use Rattle.xt_journal.specs.Format.{StandsFor}
use Rattle.xt_journal.proofs.Steps.{each_stands}
use Rattle.replica_records.specs.Heads.{heads_of}
use Rattle.replica_records.specs.Known.{as_known, known_of}
use Rattle.replica_records.specs.RecordText.{record_text}
use Rattle.replica_records.proofs.Known.{text_known}
use Rattle.object_store.specs.declared.store.Store.{Store}
use Rattle.object_store.specs.declared.errors.AppendErr.{AppendErr}
use Rattle.object_store.specs.declared.errors.AppendErr.TheVariants as append
use Rattle.object_store.specs.Access.{disk_of, journal_of, records_of}
use Rattle.object_store.specs.Answers.{disk_after_put, put_fault}
use Rattle.object_store.specs.Puts.{Puts}
use Rattle.object_store.specs.Swaps.{SwapEnds, size_of, swap_need}
use Rattle.object_store.specs.Texts.{texts_of}
use Rattle.object_store.specs.Waits.{end_after, needed_after}
use Rattle.object_store.proofs.Stored.{known_there}
use Rattle.store_compact.specs.Compacting.{IsCompacted}
use Rattle.orphan_sweep.specs.Swept.{compacted, removals, removed, swept}
use Rattle.orphan_sweep.proofs.Remaining.{says_named_but}
use Rattle.orphan_sweep.proofs.Removed.{says_but}
use Rattle.orphan_sweep.specs.Sweeps.{AreRemoved, IsBack, IsStopped, StandsBetween, StandsOnTheWay, StopsAt, SweepEnds, Sweeps, lacking, sweep_need}

-- ---- records

-- a record that removes a file is known in full
known_removal : (told : Bool) (file : FileId) → as_known told (kept.Forget file) ≡ kept.Forget file
known_removal true file = refl
known_removal false file = refl

-- one file after others
one_after : (records : List Record) (files : List FileId) (file : FileId) → removed records files ++ kept.Forget file ∷ [] ≡ removed records (files ++ file ∷ [])
one_after records files file =
    append_assoc records (removals files) (kept.Forget file ∷ []) ∙ ap (λ (l : List Record). records ++ l) (sym (map-append (λ (f : FileId). kept.Forget f) files (file ∷ [])))

texts_after : (records : List Record) (file : FileId) → texts_of records ++ texts_of (kept.Forget file ∷ []) ≡ texts_of (removed records (file ∷ []))
texts_after records file = sym (map-append record_text records (kept.Forget file ∷ []))

-- ---- what a crash leaves

module _ (records : List Record) (files later : List FileId) (image : List ℕ) where
  -- with fewer files the way is no longer
  longer : StandsOnTheWay records files image → StandsOnTheWay records (files ++ later) image
  longer (n, within, stands) = (
    n,
    omega (arith, within, length-append files later),
    subst (λ (fs : List FileId). StandsFor image (texts_of (removed records fs))) (sym (take-append-le n files later within)) stands,
  )

  all_there : StandsFor image (texts_of (removed records files)) → StandsOnTheWay records (files ++ later) image
  all_there stands = (
    length files,
    omega (arith, length-append files later),
    subst (λ (fs : List FileId). StandsFor image (texts_of (removed records fs))) (sym (take-append_seam files later)) stands,
  )

  one_more_there : (file : FileId) → StandsFor image (texts_of (removed records (files ++ file ∷ []))) → StandsOnTheWay records (files ++ file ∷ later) image
  one_more_there file stands = (
    length files + 1,
    omega (arith, length-append files (file ∷ later)),
    subst (λ (fs : List FileId). StandsFor image (texts_of (removed records fs))) (sym (take-append-add files (file ∷ later) 1)) stands,
  )

-- ---- room

module _ (super : Option Superblock) (limit end : ℕ) (records : List Record) (file : FileId) (later : List FileId) where
  abbrev needed : ℕ
  needed = needed_after end (kept.Forget file ∷ [])

  abbrev on : Option ℕ
  on = lacking super limit (end_after end (kept.Forget file ∷ [])) (removed records (file ∷ [])) later

  room_case : (b : Bool) → nat_lt limit needed ≡ b → needed ≤ limit → cond b (Some (counted needed)) on ≡ on
  room_case false is under = refl
  room_case true is under = absurd (grind (arith, nat_tests))

  full_case : (b : Bool) → nat_lt limit needed ≡ b → limit < needed → cond b (Some (counted needed)) on ≡ Some (counted needed)
  full_case true is over = refl
  full_case false is over = absurd (grind (arith, nat_tests))

  has_room : needed ≤ limit → lacking super limit end records (file ∷ later) ≡ on
  unfolding lacking
  has_room under = room_case (nat_lt limit needed) refl under

  has_none : limit < needed → lacking super limit end records (file ∷ later) ≡ Some (counted needed)
  unfolding lacking
  has_none over = full_case (nat_lt limit needed) refl over

lacks_area : (super : Option Superblock) (limit end : ℕ) (records : List Record) → lacking super limit end records [] ≡ full_need super end (size_of (compacted records)) limit
unfolding lacking
lacks_area super limit end records = refl

-- ---- how long records are

-- they take as many bytes as what is known of them
bytes_known : (told : Bool) (records : List Record) → length (format.records (texts_of (known_of told records))) ≡ length (format.records (texts_of records))
bytes_known told [] = refl
bytes_known told (rec ∷ records) =
    let known = record_text (as_known told rec) in
    let text = record_text rec in
    omega (
      arith,
      length-append (format.record_of known) (format.records (texts_of (known_of told records))),
      length-append (format.record_of text) (format.records (texts_of records)),
      length-record known,
      length-record text,
      text_known told rec,
      bytes_known told records,
    )

size_known : (told : Bool) (records : List Record) → size_of records ≡ size_of (known_of told records)
size_known told records = omega (arith, bytes_known told records)

-- ---- some files are removed

module _ {D : Type 0} {g : Ghosts D}
    (only_now : (disk : D) (image : List ℕ) → IsTrue g.is_told → g.left_since disk (g.moment disk) image → IsImage (g.kept disk) image) where
  pub none_removed : (store : Store D g) → AreRemoved store [] store
  none_removed store =
      let whole : removed (records_of store) [] ≡ records_of store = append-nil (records_of store) in
      record {
        records = sym whole;
        limit = refl;
        room = λ later. refl;
        any_moment = λ told.
            begun g.moment g.left_since (disk_of store) (StandsOnTheWay (records_of store) [])
            (λ image left. (
              0,
              omega arith,
              subst (λ (rs : List Record). StandsFor image (texts_of rs)) (sym whole) (each_stands (g.kept (disk_of store)) (texts_of (records_of store)) image (store.keeps told) (only_now (disk_of store) image told left)),
            ));
        faults = refl;
      }

module _ {D : Type 0} {g : Ghosts D} (old : Store D g) (files : List FileId) (mid : Store D g) (are : AreRemoved old files mid) (file : FileId) where
  -- what a crash leaves while a file more is removed
  one_more_left : (later : List FileId) (image : List ℕ) → IsWithAllOrNone (texts_of (records_of mid)) (texts_of (kept.Forget file ∷ [])) image
      → StandsOnTheWay (records_of old) (files ++ file ∷ later) image
  one_more_left later image (inl stands) =
      all_there (records_of old) files (file ∷ later) image (subst (λ (rs : List Record). StandsFor image (texts_of rs)) are.records stands)
  one_more_left later image (inr stands) =
      one_more_there (records_of old) files later image file
      (subst (λ (ts : List (List ℕ)). StandsFor image ts)
      (texts_after (records_of mid) file ∙ ap (λ (rs : List Record). texts_of (removed rs (file ∷ []))) are.records ∙ ap texts_of (one_after (records_of old) files file))
      stands)

  one_more_moment : (later : List FileId) (disk : D)
      → (IsTrue g.is_told → LeavesOnly g.moment g.left_since (disk_of mid) disk (IsWithAllOrNone (texts_of (records_of mid)) (texts_of (kept.Forget file ∷ []))))
      → IsTrue g.is_told → LeavesOnly g.moment g.left_since (disk_of old) disk (StandsOnTheWay (records_of old) (files ++ file ∷ later))
  one_more_moment later disk leaves told =
      joined g.moment g.left_since (disk_of old) (disk_of mid) disk (StandsOnTheWay (records_of old) files)
      (IsWithAllOrNone (texts_of (records_of mid)) (texts_of (kept.Forget file ∷ []))) (StandsOnTheWay (records_of old) (files ++ file ∷ later))
      (are.any_moment told) (leaves told) (λ image was. longer (records_of old) files (file ∷ later) image was) (one_more_left later)

  -- the record of one more was put
  pub one_more : (new : Store D g) → Puts mid (kept.Forget file) (Ok new) → AreRemoved old (files ++ file ∷ []) new
  one_more new puts =
      let end = puts.end in
      let records : records_of new ≡ removed (records_of mid) (file ∷ []) = end.records ∙ ap (λ (rec : Record). records_of mid ++ rec ∷ []) (known_removal g.is_told file) in
      record {
        records = records ∙ ap (λ (rs : List Record). removed rs (file ∷ [])) are.records ∙ one_after (records_of old) files file;
        limit = end.limit ∙ are.limit;
        room = λ later.
            ap (sweep_need old) (append_assoc files (file ∷ []) later)
            ∙ are.room (file ∷ later)
            ∙ has_room (superblock_of (journal_of mid)) (limit_of (journal_of mid)) (place_of (journal_of mid)) (records_of mid) file later end.room
            ∙ ap (λ (super : Option Superblock). lacking super (limit_of (journal_of mid)) (end_after (place_of (journal_of mid)) (kept.Forget file ∷ [])) (removed (records_of mid) (file ∷ [])) later) (sym end.superblock)
            ∙ ap (λ (n : ℕ). lacking (superblock_of (journal_of new)) n (end_after (place_of (journal_of mid)) (kept.Forget file ∷ [])) (removed (records_of mid) (file ∷ [])) later) (sym end.limit)
            ∙ ap (λ (n : ℕ). lacking (superblock_of (journal_of new)) (limit_of (journal_of new)) n (removed (records_of mid) (file ∷ [])) later) (sym end.place)
            ∙ ap (λ (rs : List Record). lacking (superblock_of (journal_of new)) (limit_of (journal_of new)) (place_of (journal_of new)) rs later) (sym records);
        any_moment = one_more_moment [] (disk_of new) puts.any_moment;
        faults = puts.faults ∙ are.faults;
      }

  back : (more : List FileId) (new : Store D g) → records_of new ≡ records_of mid → IsBack old (files ++ more) new
  back more new same = record {
    count = length files;
    within = omega (arith, length-append files more);
    records = same ∙ are.records ∙ ap (removed (records_of old)) (sym (take-append_seam files more));
  }

  -- or it wasn't
  stops : (later : List FileId) (error : AppendErr D g) → Puts mid (kept.Forget file) (Err error) → StopsAt old (files ++ file ∷ later) error
  stops later (append.Broken count disk) puts = puts.end.fault
  stops later (append.Full new need limit) puts =
      let end = puts.end in
      record {
        back = back (file ∷ later) new end.records;
        needed =
            are.room (file ∷ later)
            ∙ has_none (superblock_of (journal_of mid)) (limit_of (journal_of mid)) (place_of (journal_of mid)) (records_of mid) file later end.over
            ∙ ap (λ (n : ℕ). Some n) (sym end.need_is);
        limit_is = end.limit_is ∙ are.limit;
      }
  stops later (append.OutOfMemory new) puts = back (file ∷ later) new puts.end.records

  pub stopped : (later : List FileId) (error : AppendErr D g) → Puts mid (kept.Forget file) (Err error) → IsStopped old (files ++ file ∷ later) error
  stopped later error puts = record {
    end = stops later error puts;
    any_moment = one_more_moment later (disk_after_put (Err error)) puts.any_moment;
    faults = puts.faults ∙ ap (fault_count_after (is_some (put_fault (Err error)))) are.faults;
  }

-- ---- all of them are removed

module _ {D : Type 0} {g : Ghosts D} (old : Store D g) (files : List FileId) (mid : Store D g) (are : AreRemoved old files mid) where
  all_back : (new : Store D g) → records_of new ≡ records_of mid → IsBack old files new
  all_back new same = record {
    count = length files;
    within = omega arith;
    records = same ∙ are.records ∙ ap (removed (records_of old)) (sym (take-length files));
  }

  all_on_the_way : (image : List ℕ) → StandsFor image (texts_of (records_of mid)) → StandsOnTheWay (records_of old) files image
  all_on_the_way image stands = (
    length files,
    omega arith,
    subst (λ (rs : List Record). StandsFor image (texts_of rs)) (are.records ∙ ap (removed (records_of old)) (sym (take-length files))) stands,
  )

  module _ (keep : List KeepBody) (keep_is : keep ≡ heads_of (fold_of (records_of mid))) (made : List Record) (known : known_of g.is_told made ≡ rewritten keep (records_of mid)) where
    made_known : known_of g.is_told made ≡ compacted (records_of mid)
    made_known = known ∙ ap (λ (k : List KeepBody). rewritten k (records_of mid)) keep_is

    made_swept : known_of g.is_told made ≡ swept (records_of old) files
    made_swept = made_known ∙ ap compacted are.records

    made_there : IsTrue g.is_told → made ≡ swept (records_of old) files
    made_there told = sym (known_there g.is_told made told) ∙ made_swept

    same_room : (need : Option ℕ) → swap_need mid made ≡ need → sweep_need old files ≡ need
    same_room need is =
        ap (sweep_need old) (sym (append-nil files))
        ∙ are.room []
        ∙ lacks_area (superblock_of (journal_of mid)) (limit_of (journal_of mid)) (place_of (journal_of mid)) (records_of mid)
        ∙ ap (λ (n : ℕ). full_need (superblock_of (journal_of mid)) (place_of (journal_of mid)) n (limit_of (journal_of mid))) (sym (size_known g.is_told made ∙ ap size_of made_known))
        ∙ is

    sweep_ends : (result : Result (Store D g) (AppendErr D g)) → SwapEnds mid made result → SweepEnds old files result
    sweep_ends (Ok new) end = record {
      records = end.records ∙ made_swept;
      acknowledged = λ told image is. subst (λ (rs : List Record). StandsFor image (texts_of rs)) (made_there told) (end.acknowledged told image is);
      limit = end.limit ∙ are.limit;
      room = same_room None end.room;
    }
    sweep_ends (Err (append.Broken count disk)) end = end.fault
    sweep_ends (Err (append.Full new need limit)) end = record { back = all_back new end.records; needed = same_room (Some need) end.needed; limit_is = end.limit_is ∙ are.limit }
    sweep_ends (Err (append.OutOfMemory new)) end = all_back new end.records

    either_between : IsTrue g.is_told → (image : List ℕ) → IsEither (texts_of (records_of mid)) (texts_of made) image → StandsBetween (records_of old) files image
    either_between told image (inl was) = inl (all_on_the_way image was)
    either_between told image (inr is) = inr (subst (λ (rs : List Record). StandsFor image (texts_of rs)) (made_there told) is)

    sweep_moment : (disk : D) → (IsTrue g.is_told → LeavesOnly g.moment g.left_since (disk_of mid) disk (IsEither (texts_of (records_of mid)) (texts_of made)))
        → IsTrue g.is_told → LeavesOnly g.moment g.left_since (disk_of old) disk (StandsBetween (records_of old) files)
    sweep_moment disk leaves told =
        joined g.moment g.left_since (disk_of old) (disk_of mid) disk (StandsOnTheWay (records_of old) files) (IsEither (texts_of (records_of mid)) (texts_of made))
        (StandsBetween (records_of old) files) (are.any_moment told) (leaves told) (λ image was. inl was) (either_between told)

-- ---- a sweep

module _ {D : Type 0} {g : Ghosts D}
    (counts_now : (disk : D) (t : ℕ) (image : List ℕ) → IsTrue g.is_told → t ≤ g.moment disk → IsImage (g.kept disk) image → g.left_since disk t image) where
  sweeps_by : (old : Store D g) (files : List FileId) (result : Result (Store D g) (AppendErr D g)) → SweepEnds old files result
      → (IsTrue g.is_told → LeavesOnly g.moment g.left_since (disk_of old) (disk_after_put result) (StandsBetween (records_of old) files))
      → g.fault_count (disk_after_put result) ≡ fault_count_after (is_some (put_fault result)) (g.fault_count (disk_of old))
      → Sweeps old files result
  sweeps_by old files result end leaves faults = record {
    end = end;
    any_moment = leaves;
    left = λ told image is.
        let run = leaves told in
        run.each image (counts_now (disk_after_put result) (g.moment (disk_of old)) image told run.later is);
    faults = faults;
    on_the_way = λ n. says_but (take n files) (records_of old);
    in_the_end = says_named_but files (records_of old);
  }

  -- the removal ended with an error
  pub stopped_sweep : (old : Store D g) (files : List FileId) (error : AppendErr D g) → IsStopped old files error → Sweeps old files (Err error)
  stopped_sweep old files error is =
      sweeps_by old files (Err error) is.end
      (λ told. weaker g.moment g.left_since (disk_of old) (disk_after_put (Err error)) (StandsOnTheWay (records_of old) files) (StandsBetween (records_of old) files)
      (is.any_moment told) (λ image was. inl was))
      is.faults

  -- memory ran out after it
  pub removed_alone : (old : Store D g) (files : List FileId) (mid : Store D g) → AreRemoved old files mid → Sweeps old files (Err (append.OutOfMemory mid))
  removed_alone old files mid are =
      sweeps_by old files (Err (append.OutOfMemory mid)) (all_back old files mid are mid refl)
      (λ told. weaker g.moment g.left_since (disk_of old) (disk_of mid) (StandsOnTheWay (records_of old) files) (StandsBetween (records_of old) files)
      (are.any_moment told) (λ image was. inl was))
      are.faults

  -- the records were rewritten, or that ended with an error
  pub compacted_sweep : (old : Store D g) (files : List FileId) (mid : Store D g) → AreRemoved old files mid
      → (keep : List KeepBody) → keep ≡ heads_of (fold_of (records_of mid)) → (result : Result (Store D g) (AppendErr D g)) → IsCompacted keep mid result
      → Sweeps old files result
  compacted_sweep old files mid are keep keep_is result is =
      sweeps_by old files result
      (sweep_ends old files mid are keep keep_is is.made is.known result is.swaps.end)
      (sweep_moment old files mid are keep keep_is is.made is.known (disk_after_put result) is.swaps.any_moment)
      (is.swaps.faults ∙ ap (fault_count_after (is_some (put_fault result))) are.faults)

-- ---- nothing is done

module _ {D : Type 0} {g : Ghosts D}
    (only_now : (disk : D) (image : List ℕ) → IsTrue g.is_told → g.left_since disk (g.moment disk) image → IsImage (g.kept disk) image)
    (counts_now : (disk : D) (t : ℕ) (image : List ℕ) → IsTrue g.is_told → t ≤ g.moment disk → IsImage (g.kept disk) image → g.left_since disk t image) where
  -- memory ran out before the first file was removed
  pub not_begun : (store : Store D g) (files : List FileId) → Sweeps store files (Err (append.OutOfMemory store))
  not_begun store files =
      let none = none_removed only_now store in
      sweeps_by counts_now store files (Err (append.OutOfMemory store))
      (record { count = 0; within = omega arith; records = none.records })
      (λ told. weaker g.moment g.left_since (disk_of store) (disk_of store) (StandsOnTheWay (records_of store) []) (StandsBetween (records_of store) files)
      (none.any_moment told) (λ image was. inl (longer (records_of store) [] files image was)))
      none.faults
