use Rattle.std.proofs.Common.{◌≡◌, ◌+◌, ◌*◌, ◌≤◌, ◌<◌, ◌++◌, ℕ, List, true, IsTrue, length, drop}
use Rattle.std.specs.List.{All}
use Rattle.std.specs.Vec.{vec_capacity}
use Rattle.disk_model.specs.Disk.{LeavesOnly, at_rest}
use Rattle.journal_areas.specs.Format.{records}
use Rattle.journal_moves.specs.Gathering.{chunk, chunks, gathered, longest, size_of_area, sizes_of}
use Rattle.journal_moves.specs.Moves.{MakesCalls}
use Rattle.journal_moves.specs.Writing.{IsApart, IsUnderway, StaysOutside}
use Rattle.journal_moves.proofs.writing.write_records.Given as goal

abbrev pub invariant-loop-payload : goal.invariant-loop-payload
invariant-loop-payload g l =
    let D = g.D.Disk in
    let old = l.fn.disk in
    let bytes = (D.kept old).read in
    let place = l.fn.place in
    let end = place + size_of_area l.payloads in
    let left = drop l.payload-index l.payloads in
    record {
      from : place ≤ l.at;
      ends : l.at + (length l.buffer.items + size_of_area left) ≡ end;
      short : length l.buffer.items < chunk;
      capacity : chunk + 6 + longest l.payloads ≤ vec_capacity l.buffer;
      reserved : D.reserved l.disk ≡ D.reserved old;
      room : D.room old + 2 * place ≤ D.room l.disk + 2 * l.at;
      count : D.fault_count l.disk ≡ D.fault_count old;
      longer : IsTrue D.is_told → length bytes ≤ length (D.kept l.disk).read;
      made : IsTrue D.is_told → (n : ℕ) × (n + chunks (length l.buffer.items) (sizes_of left) ≡ chunks 0 (sizes_of l.payloads)) × MakesCalls n (D.fails old) (D.fails l.disk);
      underway : IsTrue D.is_told → D.kept old ≡ at_rest bytes → All (IsApart bytes place end) l.payloads
          → (so_far : List ℕ) × IsUnderway bytes place end (D.kept l.disk) l.at l.buffer.items so_far
          × (so_far ++ records (gathered true bytes left) ≡ records (gathered true bytes l.payloads));
      any_moment : IsTrue D.is_told → D.kept old ≡ at_rest bytes → All (IsApart bytes place end) l.payloads
          → LeavesOnly D.moment D.left_since old l.disk (λ image. StaysOutside bytes image place end);
    }
