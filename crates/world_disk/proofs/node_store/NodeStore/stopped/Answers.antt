use Rattle.std.proofs.Common.{◌≡◌, ◌∙◌, ℕ, List, Option, Some, Err, ap, subst, sym}
use Rattle.disk_model.specs.Changes.{memory_kept}
use Rattle.disk_model.specs.Plan.{planned}
use Rattle.xt_messages.specs.declared.record.Record.{Record}
use Rattle.xt_protocol.specs.Folds.{fold_of, IsInPlace}
use Rattle.journal_areas.specs.declared.superblock.Superblock.{Superblock}
use Rattle.xt_journal.specs.Access.{superblock_of}
use Rattle.object_store.specs.Access.{disk_of, journal_of, records_of}
use Rattle.object_store.specs.Texts.{texts_of}
use Rattle.world_spec.specs.NodeSteps.{Overflow}
use Rattle.world_hull.specs.Answers.{IsFullExactly}
use Rattle.world_hull.specs.Appends.{kept_by}
use Rattle.world_disk.specs.Ends.{own_after, IsReadAfter}
use Rattle.world_disk.specs.Room.{journal_overflow}
use Rattle.world_disk.specs.Stored.{Stored}
use Rattle.world_disk.proofs.Rooms.{passed_on}
use Rattle.world_disk.proofs.Stopping.{stops_then}
use Rattle.world_disk.proofs.StoredRecords.{has, one_on, one_superblock, short_on}
use Rattle.world_disk.proofs.node_store.NodeStore.stopped.Goals as goal

one_overflow : {s t : Option Superblock} {xs ys : List Record} → s ≡ t → xs ≡ ys → (rec : Record) → journal_overflow s xs rec ≡ journal_overflow t ys rec
one_overflow super same rec = cc (super, same)

pub store_on-requires-clause-stands : goal.store_on-requires-clause-stands
store_on-requires-clause-stands c = rw c.new-disk.ensures (has c.in_ok-bytes.field-0 c.args.self.now.records c.in_ok-bytes.ensures.same)

pub left_by_stop-requires-clause-stops : goal.left_by_stop-requires-clause-stops
left_by_stop-requires-clause-stops c =
    stops_then c.new-disk.result c.in_ok-bytes.field-0 _ (memory_kept c.new-disk.result).read c.args.stop.call c.args.stop.fill
    (planned (disk_of c.in_ok-store.store).plan) c.new-disk.ensures c.new.ensures (rw c.new-disk.ensures c.in_ok-bytes.ensures.ready) c.in_ok-store.ensures.plan

pub left_by_stop-requires-clause-place : goal.left_by_stop-requires-clause-place
left_by_stop-requires-clause-place c =
    let reads = rw c.new-disk.ensures at c.in_ok-store.ensures.reads in
    let same = one_on c.in_ok-bytes.field-0 (records_of c.in_ok-store.store) c.args.self.now.records reads c.in_ok-bytes.ensures.same in
    subst (λ (rs : List Record). IsInPlace (fold_of rs) c.args.rec.now) (sym same) c.requires.place

pub left_by_stop-requires-clause-short : goal.left_by_stop-requires-clause-short
left_by_stop-requires-clause-short c =
    let reads = rw c.new-disk.ensures at c.in_ok-store.ensures.reads in
    let super = rw c.new-disk.ensures at c.in_ok-store.ensures.superblock in
    short_on c.in_ok-bytes.field-0 (superblock_of (journal_of c.in_ok-store.store)) (records_of c.in_ok-store.store) reads super

pub restarted-requires : goal.restarted-requires
restarted-requires c = has c.in_ok-left.left (own_after (records_of c.in_ok-store.store) c.args.rec.now (kept_by (Some c.args.stop))) c.in_ok-left.ensures.stands

pub returns-clause-own : goal.returns-clause-own
returns-clause-own c =
    let reads = rw c.new-disk.ensures at c.in_ok-store.ensures.reads in
    let same = one_on c.in_ok-bytes.field-0 (records_of c.in_ok-store.store) c.args.self.now.records reads c.in_ok-bytes.ensures.same in
    one_on c.in_ok-left.left c.in_ok-restarted.field-0.records (own_after (records_of c.in_ok-store.store) c.args.rec.now (kept_by (Some c.args.stop)))
    c.in_ok-restarted.ensures.started.stand c.in_ok-left.ensures.stands
    ∙ ap (λ (rs : List Record). own_after rs c.args.rec.now (kept_by (Some c.args.stop))) same

pub returns-clause-superblock : goal.returns-clause-superblock
returns-clause-superblock c =
    one_superblock c.in_ok-left.left c.in_ok-restarted.field-0.superblock (superblock_of (journal_of c.in_ok-store.store)) (texts_of c.in_ok-restarted.field-0.records)
    (texts_of (own_after (records_of c.in_ok-store.store) c.args.rec.now (kept_by (Some c.args.stop)))) c.in_ok-restarted.ensures.superblock c.in_ok-left.ensures.superblock
    ∙ one_superblock c.in_ok-bytes.field-0 (superblock_of (journal_of c.in_ok-store.store)) c.args.self.now.superblock (texts_of (records_of c.in_ok-store.store))
    (texts_of c.args.self.now.records) (rw c.new-disk.ensures at c.in_ok-store.ensures.superblock) c.in_ok-bytes.ensures.superblock

pub returns-clause-left : goal.returns-clause-left
returns-clause-left c =
    let reads = rw c.new-disk.ensures at c.in_ok-store.ensures.reads in
    let same = one_on c.in_ok-bytes.field-0 (records_of c.in_ok-store.store) c.args.self.now.records reads c.in_ok-bytes.ensures.same in
    subst (λ (rs : List Record). IsReadAfter c.args.stop rs c.args.rec.now c.in_ok-restarted.field-0.disk) same
    (record { image = c.in_ok-left.left; left = c.in_ok-left.ensures.left; loaded = c.in_ok-restarted.ensures.started.loaded })

pub returns-in_err-left-clause-room : goal.returns-in_err-left-clause-room
returns-in_err-left-clause-room c =
    let reads = rw c.new-disk.ensures at c.in_ok-store.ensures.reads in
    let same = one_on c.in_ok-bytes.field-0 (records_of c.in_ok-store.store) c.args.self.now.records reads c.in_ok-bytes.ensures.same in
    let super = one_superblock c.in_ok-bytes.field-0 (superblock_of (journal_of c.in_ok-store.store)) c.args.self.now.superblock (texts_of (records_of c.in_ok-store.store))
    (texts_of c.args.self.now.records) (rw c.new-disk.ensures at c.in_ok-store.ensures.superblock) c.in_ok-bytes.ensures.superblock in
    passed_on (List ℕ) Stored (journal_overflow c.args.self.now.superblock c.args.self.now.records c.args.rec.now) c.in_err-left.field-0.0 c.from_residual-in_err-left.result
    (subst (λ (over : Option Overflow). IsFullExactly {T = List ℕ} over (Err c.in_err-left.field-0.0)) (one_overflow super same c.args.rec.now) c.in_err-left.ensures.room)
    c.from_residual-in_err-left.ensures.1

pub returns-clause-room : goal.returns-clause-room
returns-clause-room c =
    let reads = rw c.new-disk.ensures at c.in_ok-store.ensures.reads in
    let same = one_on c.in_ok-bytes.field-0 (records_of c.in_ok-store.store) c.args.self.now.records reads c.in_ok-bytes.ensures.same in
    let super = one_superblock c.in_ok-bytes.field-0 (superblock_of (journal_of c.in_ok-store.store)) c.args.self.now.superblock (texts_of (records_of c.in_ok-store.store))
    (texts_of c.args.self.now.records) (rw c.new-disk.ensures at c.in_ok-store.ensures.superblock) c.in_ok-bytes.ensures.superblock in
    sym (one_overflow super same c.args.rec.now) ∙ c.in_ok-left.ensures.room
