use Rattle.std.proofs.Common.{◌≡◌, ◌≤◌, ◌<◌, ◌⊎◌, true, false, length, ℕ, get_or}
use Rattle.std.specs.List.{list_any}
use Rattle.disk_model.specs.Disk.{is_inside, greatest_end}
use Rattle.disk_model.specs.Notes.{ranges_of}
use Rattle.disk_model.proofs.filling.fill_unsynced.Given as goal

abbrev pub invariant-loop-rest : goal.invariant-loop-rest
invariant-loop-rest l = record {
  ends : greatest_end (ranges_of l.rest) ≤ length l.image;
  filled : (k : ℕ) → k < length l.image → (l.synced_length ≤ k) ⊎ (list_any (is_inside k) (ranges_of l.notes) ≡ true)
      → (get_or l.image k 0 ≡ l.fill) ⊎ (list_any (is_inside k) (ranges_of l.rest) ≡ true);
  same : (k : ℕ) → k < l.synced_length → list_any (is_inside k) (ranges_of l.notes) ≡ false
      → (get_or l.image k 0 ≡ get_or l.fn.image k 0) × (list_any (is_inside k) (ranges_of l.rest) ≡ false);
}

abbrev pub decreases-loop-rest : goal.decreases-loop-rest
decreases-loop-rest l = length l.rest
