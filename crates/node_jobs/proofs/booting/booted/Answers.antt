use Rattle.std.proofs.Common.{ℕ, ap, ◌∙◌, ◌≡◌, ◌≤◌, ◌<◌, ◌+◌, ◌++◌, ◌∷◌, [], refl, sym, subst, arith, Some, rules}
use Rattle.std.specs.Prelude.{IsTrue}
use Rattle.disk_model.specs.Disk.{LeavesOnly}
use Rattle.xt_messages.specs.Limits.{FitsBoot}
use Rattle.xt_messages.specs.declared.record.Record.{Record}
use Rattle.xt_messages.specs.declared.record.Record.TheVariants as kept
use Rattle.xt_journal.specs.Access as journal
use Rattle.xt_journal.specs.Append.{IsWithOrWithout}
use Rattle.replica_records.specs.RecordText.{record_text}
use Rattle.object_store.specs.Access.{disk_of, records_of}
use Rattle.object_store.specs.Texts.{texts_of}
use Rattle.object_store.proofs.Stored.{as_known_there}
use Rattle.node_runs.specs.BatchEnds.{nothing}
use Rattle.node_runs.specs.Keeping.{StandsForOne}
use Rattle.node_runs.specs.Runs.{grown}
use Rattle.node_runs.proofs.Keeping.{keeps_now, puts_one}
use Rattle.node_loop.specs.Stores.{journal_at}
use Rattle.store_loading.specs.Boots.{stored_boot, next_boot, boot_record}
use Rattle.store_loading.proofs.Bare.{stored_bare}
use Rattle.node_jobs.proofs.Bare.{boot_known}
use Rattle.node_jobs.proofs.Boots.{breaks, lacks_room, last_stored, refuses}
use Rattle.store_loading.proofs.Disks.{rose_by_one}
use Rattle.node_jobs.proofs.Disks.{keeps_closed, leaves_records}
use Rattle.node_jobs.proofs.booting.booted.Goals as goal

pub returns-then-last-ge-LAST_BOOT-clause-ends : goal.returns-then-last-ge-LAST_BOOT-clause-ends
returns-then-last-ge-LAST_BOOT-clause-ends g c =
    let D = g.D.Disk in
    let store = c.args.store in
    let last : c.stored_boot-last.result ≡ stored_boot (records_of store) = c.stored_boot-last.ensures ∙ ap stored_boot c.records.ensures ∙ stored_bare (records_of store) in
    let late : 4611686018427387903 ≤ c.stored_boot-last.result = search rules in
    record {
      doing = nothing;
      why = (refl, refl, refl, last_stored (records_of store) store.sound (omega (arith, late, last)));
      cause = ap D.fault_count c.close.ensures;
      keeps = keeps_closed (λ disk image told left. g.met.D.Disk.only_now disk image told left) store c.close.result c.close.ensures;
      last = leaves_records (λ disk image told left. g.met.D.Disk.only_now disk image told left) store c.close.result (ap D.kept c.close.ensures);
    }

pub returns-in-Ok-clause-boots : goal.returns-in-Ok-clause-boots
returns-in-Ok-clause-boots g c =
    let D = g.D.Disk in
    let store = c.args.store in
    let new = c.in-Ok.store in
    let put = c.in-Ok.ensures in
    let end = put.end in
    let last : c.stored_boot-last.result ≡ stored_boot (records_of store) = c.stored_boot-last.ensures ∙ ap stored_boot c.records.ensures ∙ stored_bare (records_of store) in
    let early : c.stored_boot-last.result < 4611686018427387903 = search rules in
    let made : Record = kept.Boot (record { 0 = c.stored_boot-last.result + 1 }) in
    let rec : made ≡ boot_record (records_of store) = ap (λ (n : ℕ). kept.Boot (record { 0 = n + 1 })) last in
    let stands : journal_at new ≡ grown (journal_at store) (Some made) = λ i. record { superblock = end.superblock i; end = end.place i; limit = end.limit i } in
    let same : IsTrue D.is_told → records_of store ++ made ∷ [] ≡ records_of new =
    λ told. sym (end.records ∙ ap (λ (r : Record). records_of store ++ r ∷ []) (as_known_there D.is_told made told)) in
    record {
      records = end.records ∙ ap (λ (r : Record). records_of store ++ r ∷ []) (boot_known D.is_told (record { 0 = c.stored_boot-last.result + 1 }) ∙ rec);
      boot_is = ap (λ (n : ℕ). record { 0 = n + 1 }) last;
      fits = omega (arith, early);
      journal = stands ∙ ap (λ (r : Record). grown (journal_at store) (Some r)) rec;
      within = (end.limit, omega (arith, end.place, end.room));
      comes_to = record {
        each = λ told. subst (λ rs. LeavesOnly D.moment D.left_since (disk_of store) (disk_of new) (StandsForOne (records_of store ∷ rs ∷ []))) (same told)
            (puts_one D.is_told D.kept D.moment D.left_since (disk_of store) (disk_of new) (records_of store) made put.any_moment told);
        kept = keeps_now D.is_told D.kept D.moment D.left_since (disk_of new) (records_of new) new.keeps
            (λ image told left. g.met.D.Disk.only_now (disk_of new) image told left);
        faults = put.faults;
      };
    }

pub returns-in-Err-Broken-clause-ends : goal.returns-in-Err-Broken-clause-ends
returns-in-Err-Broken-clause-ends g c =
    let store = c.args.store in
    let put = rw c.in-Err-Broken.field-0-is at c.in-Err-Broken.ensures in
    let last : c.stored_boot-last.result ≡ stored_boot (records_of store) = c.stored_boot-last.ensures ∙ ap stored_boot c.records.ensures ∙ stored_bare (records_of store) in
    let early : c.stored_boot-last.result < 4611686018427387903 = search rules in
    let fits : FitsBoot (next_boot (records_of store)) = omega (arith, early, last) in
    rw c.in-Err-Broken.field-0-is
    (breaks store c.in-Err-Broken.disk (kept.Boot (record { 0 = c.stored_boot-last.result + 1 })) (ap (λ (n : ℕ). kept.Boot (record { 0 = n + 1 })) last) fits
    put.any_moment c.in-Err-Broken.count put.end.room
    (λ t image told le now. g.met.D.Disk.counts_now c.in-Err-Broken.disk t image told le now)
    (rose_by_one (g.D.Disk.fault_count (disk_of store)) (g.D.Disk.fault_count c.in-Err-Broken.disk) put.faults, put.end.fault))

pub returns-in-Err-Full-clause-ends : goal.returns-in-Err-Full-clause-ends
returns-in-Err-Full-clause-ends g c =
    let D = g.D.Disk in
    let store = c.args.store in
    let put = rw c.in-Err-Full.field-0-is at c.in-Err-Full.ensures in
    let last : c.stored_boot-last.result ≡ stored_boot (records_of store) = c.stored_boot-last.ensures ∙ ap stored_boot c.records.ensures ∙ stored_bare (records_of store) in
    let early : c.stored_boot-last.result < 4611686018427387903 = search rules in
    let fits : FitsBoot (next_boot (records_of store)) = omega (arith, early, last) in
    let closed = c.close-in-Err-Full in
    let same : closed.result ≡ disk_of store = closed.ensures ∙ ap disk_of c.in-Err-Full.store-is ∙ ap (λ j. journal.disk_of j) put.end.journal in
    rw c.in-Err-Full.field-0-is
    (lacks_room store closed.result (kept.Boot (record { 0 = c.stored_boot-last.result + 1 })) c.in-Err-Full.need c.in-Err-Full.limit
    (ap (λ (n : ℕ). kept.Boot (record { 0 = n + 1 })) last) fits (put.end.over, put.end.need_is, put.end.limit_is) (ap D.fault_count same)
    (keeps_closed (λ disk image told left. g.met.D.Disk.only_now disk image told left) store closed.result same)
    (leaves_records (λ disk image told left. g.met.D.Disk.only_now disk image told left) store closed.result (ap D.kept same)))

pub returns-clause-ends : goal.returns-clause-ends
returns-clause-ends g c =
    let D = g.D.Disk in
    let store = c.args.store in
    let put = rw c.in-Err-OutOfMemory.field-0-is at c.in-Err-OutOfMemory.ensures in
    let last : c.stored_boot-last.result ≡ stored_boot (records_of store) = c.stored_boot-last.ensures ∙ ap stored_boot c.records.ensures ∙ stored_bare (records_of store) in
    let early : c.stored_boot-last.result < 4611686018427387903 = search rules in
    let fits : FitsBoot (next_boot (records_of store)) = omega (arith, early, last) in
    let closed = c.close-in-Err-OutOfMemory in
    let same : closed.result ≡ disk_of c.in-Err-OutOfMemory.store = closed.ensures ∙ ap disk_of c.in-Err-OutOfMemory.store-is in
    let made : Record = kept.Boot (record { 0 = c.stored_boot-last.result + 1 }) in
    refuses store closed.result made (ap (λ (n : ℕ). kept.Boot (record { 0 = n + 1 })) last) fits
    (subst (λ disk. IsTrue D.is_told → LeavesOnly D.moment D.left_since (disk_of store) disk (IsWithOrWithout (texts_of (records_of store)) (record_text made)))
    (sym same) put.any_moment)
    (ap D.fault_count same ∙ put.faults)
    (leaves_records (λ disk image told left. g.met.D.Disk.only_now disk image told left) store closed.result (ap D.kept same ∙ put.end.kept))
