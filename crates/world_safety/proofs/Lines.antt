-- The lines of the examples are within their limits.
use Rattle.std.proofs.Common.{ℕ, ◌<◌, ◌^◌, List, [], ◌∷◌, ◌++◌, refl, arith, zero, suc}
use Rattle.std.specs.Prelude.{slice_index}
use Rattle.std.specs.List.{AllByRecursion}
use Rattle.xt_base.specs.FieldLimits.{FitsBytes}
use Rattle.xt_base.specs.TimeSettings.{AreTimes}
use Rattle.time_line.specs.declared.line.Line.{Line}
use Rattle.time_line.specs.declared.line.Line.TheVariants as line
use Rattle.time_line.specs.Bounds.{FitsLater, AreLines}
use Rattle.world_spec.specs.Examples.{node, trio, osd_is, client_at, start_at, file_on, write_at, read_byte, aims_at, found, vanished}
use Rattle.world_safety.specs.Examples.{caught_up}

one_byte : (b : ℕ) → b < 256 → FitsBytes (b ∷ [])
one_byte b is = record { all = λ i. at i; few = omega (arith) }
  where
    at : (i : ℕ) → slice_index (b ∷ []) i < 256
    at zero = is
    at (suc i) = omega (arith)

writes : (at b : ℕ) → at < 2 ^ 32 → b < 256 → FitsLater (write_at 10 at (b ∷ []))
writes at b low is = ((omega arith, (omega arith, omega arith, low, one_byte b is, omega arith)), refl)

reads : (id : ℕ) → id < 256 → FitsLater (read_byte id)
reads id is = ((omega (arith, is), (omega arith, omega arith, omega arith, omega arith, omega arith)), refl)

the_file : FitsLater (file_on trio)
the_file = (
  (
    omega arith,
    record {
      changes = omega arith;
      size = record { least = omega arith; most = omega arith; step = refl };
      nodes = record { different = refl; each = (omega arith, (omega arith, (omega arith, tt))) };
    },
  ),
  refl,
)

times_fit : AreTimes 1000 100
times_fit = record { some = omega arith; short = omega arith; small = omega arith }

both : (xs ys : List Line) → AllByRecursion FitsLater xs → AllByRecursion FitsLater ys → AllByRecursion FitsLater (xs ++ ys)
both [] ys p q = q
both (x ∷ xs) ys p q = (p.0, both xs ys p.1 q)

-- three OSDs, two clients, and three starts
abbrev the_nodes : List Line
the_nodes = osd_is 1 ∷ osd_is 2 ∷ osd_is 3 ∷ client_at 10 0 ∷ client_at 11 0 ∷ start_at 1 0 ∷ start_at 2 0 ∷ start_at 3 0 ∷ []

nodes_fit : AllByRecursion FitsLater the_nodes
nodes_fit =
    ((omega arith, refl), ((omega arith, refl), ((omega arith, refl), (((omega arith, omega arith), refl), (((omega arith, omega arith), refl), (((omega arith, omega arith), refl), (((omega arith, omega arith), refl), (((omega arith, omega arith), refl), tt))))))))

-- the two writes, and the stop of their primary
abbrev the_writes : List Line
the_writes = file_on trio ∷ line.Tick 1100 ∷ write_at 10 0 (97 ∷ []) ∷ line.Settle 100 ∷ write_at 10 0 (98 ∷ []) ∷ line.Deliver 23 ∷ line.Stop (node 1) ∷ []

writes_fit : AllByRecursion FitsLater the_writes
writes_fit =
    (the_file, ((omega arith, refl), (writes 0 97 (omega arith) (omega arith), ((tt, refl), (writes 0 98 (omega arith) (omega arith), ((tt, refl), ((omega arith, refl), tt)))))))

-- the next primary finds the write, or doesn't
abbrev finds : List Line
finds = line.Drop 24 ∷ line.Deliver 25 ∷ line.Tick 1000 ∷ aims_at 11 2 ∷ read_byte 11 ∷ line.Settle 100 ∷ []

finds_fit : AllByRecursion FitsLater finds
finds_fit = ((tt, refl), ((tt, refl), ((omega arith, refl), (((omega arith, omega arith, omega arith), refl), (reads 11 (omega arith), ((tt, refl), tt))))))

abbrev finds_none : List Line
finds_none = line.Drop 24 ∷ line.Drop 25 ∷ line.Tick 1000 ∷ aims_at 11 2 ∷ read_byte 11 ∷ line.Settle 100 ∷ line.Deliver 24 ∷ line.Deliver 25 ∷ read_byte 11 ∷ line.Settle 100 ∷ []

finds_none_fit : AllByRecursion FitsLater finds_none
finds_none_fit =
    ((tt, refl), ((tt, refl), ((omega arith, refl), (((omega arith, omega arith, omega arith), refl), (reads 11 (omega arith), ((tt, refl), ((tt, refl), ((tt, refl), (reads 11 (omega arith), ((tt, refl), tt))))))))))

pub found_fits : AreLines found
found_fits = (times_fit, both the_nodes (the_writes ++ finds) nodes_fit (both the_writes finds writes_fit finds_fit))

pub vanished_fits : AreLines vanished
vanished_fits = (times_fit, both the_nodes (the_writes ++ finds_none) nodes_fit (both the_writes finds_none writes_fit finds_none_fit))

-- ---- a replica that is caught up

abbrev the_two : List Line
the_two = osd_is 1 ∷ osd_is 2 ∷ osd_is 3 ∷ client_at 10 0 ∷ start_at 1 0 ∷ start_at 2 0 ∷ file_on trio ∷ line.Tick 1100 ∷ write_at 10 0 (97 ∷ []) ∷ line.Settle 100 ∷ []

two_fit : AllByRecursion FitsLater the_two
two_fit =
    ((omega arith, refl), ((omega arith, refl), ((omega arith, refl), (((omega arith, omega arith), refl), (((omega arith, omega arith), refl), (((omega arith, omega arith), refl), (the_file, ((omega arith, refl), (writes 0 97 (omega arith) (omega arith), ((tt, refl), tt))))))))))

abbrev the_third : List Line
the_third =
    start_at 3 1100 ∷ line.Tick 500 ∷ line.Wake (node 1) ∷ line.Settle 100 ∷ read_byte 10 ∷ line.Settle 100
    ∷ line.Tick 500 ∷ line.Wake (node 1) ∷ line.Settle 100 ∷ line.Tick 100 ∷ line.Wake (node 1) ∷ line.Settle 100
    ∷ line.Stop (node 2) ∷ write_at 10 1 (98 ∷ []) ∷ line.Settle 100 ∷ []

third_fits : AllByRecursion FitsLater the_third
third_fits =
    (((omega arith, omega arith), refl), ((omega arith, refl), ((omega arith, refl), ((tt, refl), (reads 10 (omega arith), ((tt, refl), ((omega arith, refl), ((omega arith, refl), ((tt, refl), ((omega arith, refl), ((omega arith, refl), ((tt, refl), ((omega arith, refl), (writes 1 98 (omega arith) (omega arith), ((tt, refl), tt)))))))))))))))

pub caught_up_fits : AreLines caught_up
caught_up_fits = (times_fit, both the_two the_third two_fit third_fits)
