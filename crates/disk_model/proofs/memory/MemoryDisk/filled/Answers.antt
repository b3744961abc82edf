use Rattle.std.proofs.Common.{◌≡◌, ℕ, List, length, drop, sym, ◌∙◌, ap, arith, get_or, inl, inr, ⊎_elim}
use Rattle.std.specs.List.{list_any}
use Rattle.std.proofs.lemmas.List.{take_at}
use Rattle.disk_model.specs.Disk.{Kept, greatest_end, is_inside}
use Rattle.disk_model.specs.Changes.{memory_kept}
use Rattle.disk_model.specs.Laws.{memory_read_is_image, memory_reach}
use Rattle.disk_model.specs.Memory.{seen}
use Rattle.disk_model.specs.Notes.{ranges_of}
use Rattle.disk_model.proofs.Filled.{is_filled}
use Rattle.disk_model.proofs.memory.MemoryDisk.filled.Goals as goal

same : (c : goal.After-as_mut_slice) → memory_kept (seen c.self.inside) ≡ memory_kept c.args.self.now
same c = ap memory_kept c.self.view_is

size : (c : goal.After-as_mut_slice) → length c.as_mut_slice.result.now ≡ length (memory_kept c.args.self.now).read
size c = ap length (c.as_mut_slice.ensures.value ∙ c.in_ok-bytes.ensures)

written : (c : goal.After-as_mut_slice) → (memory_kept c.args.self.now).written ≡ ranges_of c.split_at.result.1.now
written c =
    sym (ap (λ (k : Kept). k.written) (same c)) ∙ c.self.invariant.written
    ∙ ap (λ ns. ranges_of (drop c.self.inside.synced_notes ns)) (sym c.as_slice.ensures.value) ∙ ap ranges_of (sym c.split_at.ensures.back)

pub fill_unsynced-requires-clause-synced : goal.fill_unsynced-requires-clause-synced
fill_unsynced-requires-clause-synced c =
    let image = memory_read_is_image c.args.self.now in
    omega (arith, size c, image.no_shorter, c.self.invariant.synced_length, ap (λ (k : Kept). length k.synced) (same c))

pub fill_unsynced-requires-clause-ends : goal.fill_unsynced-requires-clause-ends
fill_unsynced-requires-clause-ends c = omega (arith, size c, memory_reach c.args.self.now, ap greatest_end (written c))

pub returns : goal.returns
returns c =
    let image = c.fill_unsynced.new.image in
    let kept = memory_kept c.args.self.now in
    let same_kept : memory_kept (seen c.self.inside) ≡ kept = ap memory_kept c.self.view_is in
    let keeps : length image ≡ length c.as_mut_slice.result.now = c.fill_unsynced.auto.image in
    let all : length image ≡ c.in_ok-bytes.bytes.len = omega (arith, keeps, ap length c.as_mut_slice.ensures.value, c.in_ok-bytes.bytes.ok.0) in
    let is : c.in_ok-image.image ≡ image = c.in_ok-image.ensures ∙ take_at image (drop (length image) c.in_ok-bytes.bytes.items) c.in_ok-bytes.bytes.len all in
    let read : c.as_mut_slice.result.now ≡ kept.read = c.as_mut_slice.ensures.value ∙ c.in_ok-bytes.ensures in
    let synced : c.self.inside.synced_length ≡ length kept.synced = c.self.invariant.synced_length ∙ ap (λ (k : Kept). length k.synced) same_kept in
    let ranges : kept.written ≡ ranges_of c.split_at.result.1.now =
    sym (ap (λ (k : Kept). k.written) same_kept) ∙ c.self.invariant.written
    ∙ ap (λ ns. ranges_of (drop c.self.inside.synced_notes ns)) (sym c.as_slice.ensures.value) ∙ ap ranges_of (sym c.split_at.ensures.back) in
    record {
      filled = is_filled c.args.fill kept c.in_ok-image.image (memory_read_is_image c.args.self.now) (memory_reach c.args.self.now) (ap length is ∙ keeps ∙ ap length read)
          (λ k inside unsynced.
          ap (λ (l : List ℕ). get_or l k 0) is
          ∙ c.fill_unsynced.ensures.filled k (omega (arith, inside, ap length read))
          (⊎_elim (λ past. inl (omega (arith, past, synced))) (λ within. inr (ap (λ rs. list_any (is_inside k) rs) (sym ranges) ∙ within)) unsynced))
          (λ k before without.
          ap (λ (l : List ℕ). get_or l k 0) is
          ∙ c.fill_unsynced.ensures.same k (omega (arith, before, synced)) (ap (λ rs. list_any (is_inside k) rs) (sym ranges) ∙ without)
          ∙ ap (λ (l : List ℕ). get_or l k 0) read);
    }
