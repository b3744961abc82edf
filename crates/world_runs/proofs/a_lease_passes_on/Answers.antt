use Rattle.std.proofs.Common.{ℕ, ◌<◌, List, [], ◌∷◌, ◌++◌, refl, arith, zero, suc}
use Rattle.std.specs.Prelude.{slice_index}
use Rattle.std.specs.List.{AllByRecursion}
use Rattle.xt_base.specs.FieldLimits.{FitsBytes}
use Rattle.time_line.specs.TimeLine.{standing, first_times}
use Rattle.time_line.specs.declared.line.Line.{Line}
use Rattle.time_line.specs.declared.line.Line.TheVariants as line
use Rattle.time_line.specs.Bounds.{FitsLater}
use Rattle.world_spec.specs.Examples.{node, trio, osd_is, client_at, start_at, file_on, write_at, read_byte, aims_at, trace_of}
use Rattle.world_runs.proofs.a_lease_passes_on.Goals as goal

one_byte : (b : ℕ) → b < 256 → FitsBytes (b ∷ [])
one_byte b is = record { all = λ i. at i; few = omega (arith) }
  where
    at : (i : ℕ) → slice_index (b ∷ []) i < 256
    at zero = is
    at (suc i) = omega (arith)

writes : (b : ℕ) → b < 256 → FitsLater (write_at 10 0 (b ∷ []))
writes b is = ((omega arith, (omega arith, omega arith, omega arith, one_byte b is, omega arith)), refl)

reads : FitsLater (read_byte 11)
reads = ((omega arith, (omega arith, omega arith, omega arith, omega arith, omega arith)), refl)

the_file : FitsLater (file_on trio)
the_file = (
  (
    omega arith,
    record {
      changes = omega arith;
      size = record { least = omega arith; most = omega arith; step = refl };
      nodes = record { different = refl; each = (omega arith, (omega arith, (omega arith, tt))) };
    },
  ),
  refl,
)

-- three OSDs, two clients, and three starts
abbrev the_nodes : List Line
the_nodes = osd_is 1 ∷ osd_is 2 ∷ osd_is 3 ∷ client_at 10 0 ∷ client_at 11 0 ∷ start_at 1 0 ∷ start_at 2 0 ∷ start_at 3 0 ∷ []

node_lines : AllByRecursion FitsLater the_nodes
node_lines =
    ((omega arith, refl), ((omega arith, refl), ((omega arith, refl), (((omega arith, omega arith), refl), (((omega arith, omega arith), refl), (((omega arith, omega arith), refl), (((omega arith, omega arith), refl), (((omega arith, omega arith), refl), tt))))))))

both : (xs ys : List Line) → AllByRecursion FitsLater xs → AllByRecursion FitsLater ys → AllByRecursion FitsLater (xs ++ ys)
both [] ys p q = q
both (x ∷ xs) ys p q = (p.0, both xs ys p.1 q)

-- the two writes
abbrev the_writes : List Line
the_writes = file_on trio ∷ line.Tick 1100 ∷ write_at 10 0 (97 ∷ []) ∷ line.Settle 100 ∷ write_at 10 0 (98 ∷ []) ∷ line.Deliver 23 ∷ line.Stop (node 1) ∷ []

write_lines : AllByRecursion FitsLater the_writes
write_lines =
    (the_file, ((omega arith, refl), (writes 97 (omega arith), ((tt, refl), (writes 98 (omega arith), ((tt, refl), ((omega arith, refl), tt)))))))

-- the reads of the next holder
abbrev the_reads : List Line
the_reads = line.Drop 24 ∷ line.Drop 25 ∷ line.Tick 1000 ∷ aims_at 11 2 ∷ read_byte 11 ∷ line.Settle 100 ∷ line.Deliver 24 ∷ line.Deliver 25 ∷ read_byte 11 ∷ line.Settle 100 ∷ []

read_lines : AllByRecursion FitsLater the_reads
read_lines =
    ((tt, refl), ((tt, refl), ((omega arith, refl), (((omega arith, omega arith, omega arith), refl), (reads, ((tt, refl), ((tt, refl), ((tt, refl), (reads, ((tt, refl), tt))))))))))

pub returns-clause-lines : goal.returns-clause-lines
returns-clause-lines c = (record { some = omega arith; short = omega arith; small = omega arith }, both the_nodes (the_writes ++ the_reads) node_lines (both the_writes the_reads write_lines read_lines))

pub returns-clause-first : goal.returns-clause-first
unfolding standing first_times trace_of
returns-clause-first c = refl

pub returns-clause-later : goal.returns-clause-later
unfolding standing first_times trace_of
returns-clause-later c = refl
