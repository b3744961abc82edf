use Rattle.std.proofs.Common.{ap, ◌∙◌, inr, subst, sym, ◌≡◌, ◌-◌, ℕ, List, length, true}
use Rattle.journal_moves.specs.declared.extent.Extent.{Extent}
use Rattle.xt_journal.specs.Access.{disk_of, place_of}
use Rattle.xt_journal.specs.Placed.{AreWithin, placed_on}
use Rattle.xt_journal.specs.Reading.{payloads_of, payloads_on}
use Rattle.xt_base.specs.Faults.{fault_count_after}
use Rattle.xt_messages.specs.declared.status.Status.TheVariants as status
use Rattle.object_store.specs.Loading.{ArePlaced}
use Rattle.object_store.specs.Texts.{IsFirstBad}
use Rattle.object_store.proofs.Callers.{are_placed}
use Rattle.store_loading.specs.Loading.{IsUnloaded}
use Rattle.store_loading.proofs.Disks.{left_unloaded, loaded_is, medium_of, rose_by_one}
use Rattle.store_loading.proofs.Places.{bad_inside, bad_record}
use Rattle.store_loading.proofs.loading.loaded.Goals as goal

pub load-requires-2-clause-placed : goal.load-requires-2-clause-placed
load-requires-2-clause-placed g c = λ told.
    let journal = c.in-Ok.loaded.0 in
    let loaded = c.in-Ok.ensures in
    subst (λ (es : List Extent). ArePlaced journal es) (sym c.as_slice.ensures.value)
    (are_placed journal (g.D.Disk.kept c.args.disk).read c.in-Ok.loaded.1.items (loaded.keeps told) (loaded.reads told) (loaded.superblock told) (loaded.stays told))

pub load-requires-2-clause-within : goal.load-requires-2-clause-within
load-requires-2-clause-within g c = subst (λ (es : List Extent). AreWithin (place_of c.in-Ok.loaded.0) es) (sym c.as_slice.ensures.value) c.in-Ok.ensures.within

pub returns-in-Ok-load-clause-loads : goal.returns-in-Ok-load-clause-loads
returns-in-Ok-load-clause-loads g c =
    let D = g.D.Disk in
    let loaded = c.in-Ok.ensures in
    let from = c.in-Ok.loaded.0 in
    let extents = c.in-Ok.loaded.1.items in
    let facts = c.in-Ok-load.ensures in
    loaded_is (λ disk image told left. g.met.D.Disk.only_now disk image told left) c.args.disk c.args.limit from (placed_on true (D.kept c.args.disk).read extents)
    facts.0 c.in-Ok-load.store loaded.reads
    (λ told. facts.2 told ∙ ap (payloads_on (D.kept (disk_of from)).read) c.as_slice.ensures.value ∙ ap payloads_of (loaded.stays told))
    loaded.limit loaded.superblock loaded.any_moment loaded.count loaded.same facts.3

pub index-requires : goal.index-requires
index-requires g c =
    let facts = rw c.in-Err-BadRecord.field-0-is at c.in-Err-BadRecord.ensures in
    bad_inside facts.0 _ c.in-Err-BadRecord.index (facts.1 ∙ ap length c.as_slice.ensures.value ∙ sym c.in-Ok.loaded.1.ok.0) facts.3.1

pub returns-in-Err-BadRecord-clause-ends : goal.returns-in-Err-BadRecord-clause-ends
returns-in-Err-BadRecord-clause-ends g c =
    let D = g.D.Disk in
    let disk = c.args.disk in
    let loaded = c.in-Ok.ensures in
    let from = c.in-Ok.loaded.0 in
    let extents = c.in-Ok.loaded.1.items in
    let read = (D.kept disk).read in
    let facts = rw c.in-Err-BadRecord.field-0-is at c.in-Err-BadRecord.ensures in
    let closed : c.close.result ≡ disk_of from = c.close.ensures ∙ ap disk_of facts.3.0 in
    subst (λ d. IsUnloaded (medium_of D) disk d (status.Damaged (c.index.result.now.at - 5))) (sym closed)
    (record {
      why = λ told.
          let same : facts.0 ≡ payloads_on read extents =
          facts.2 told ∙ ap (payloads_on (D.kept (disk_of from)).read) c.as_slice.ensures.value ∙ ap payloads_of (loaded.stays told) in
          inr (bad_record read extents c.in-Err-BadRecord.index c.index.result.now (loaded.reads told)
          (subst (λ (ps : List (List ℕ)). IsFirstBad ps c.in-Err-BadRecord.index) same facts.3.1) c.index.ensures);
      cause = loaded.count;
      each = loaded.any_moment;
      left = λ told. left_unloaded (D.kept disk) (D.kept (disk_of from)) (payloads_on read extents) (loaded.keeps told) (loaded.same told) (loaded.fresh told);
    })

-- a payload couldn't be read, on a disk of which contracts don't know what it keeps
pub returns-in-Err-Broken-clause-ends : goal.returns-in-Err-Broken-clause-ends
returns-in-Err-Broken-clause-ends g c =
    let D = g.D.Disk in
    let facts = rw c.in-Err-Broken.field-0-is at c.in-Err-Broken.ensures in
    let broken = facts.3 in
    record {
      why = tt;
      cause = (rose_by_one (D.fault_count c.args.disk) (D.fault_count c.in-Err-Broken.disk) (broken.faults ∙ ap (fault_count_after true) c.in-Ok.ensures.count), broken.count_is);
      each = λ told. absurd (broken.untold told);
      left = λ told. absurd (broken.untold told);
    }
