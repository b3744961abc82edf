-- the clocks that a rule names
use Rattle.std.specs.Prelude.{ℕ, Bool, not, ◌&&◌, ◌==◌, nat_le, ◌+◌, Option}
use Rattle.std.specs.Option.{option_map}
use Rattle.xt_base.specs.declared.ids.NodeId.{NodeId}
use Rattle.xt_base.specs.declared.TheConstants.{COUNTS}
use Rattle.world_spec.specs.Rules as rules
use Rattle.world_spec.specs.Rules.{are_apart}
use Rattle.world_clocks.specs.declared.readings.Reading.{Reading}
use Rattle.world_clocks.specs.declared.readings.ClockTest.{ClockTest}
use Rattle.world_clocks.specs.declared.readings.ClockTest.TheVariants as test

-- of which clocks a test holds: those of other nodes that are apart from a new one, and those that would reach the end
abbrev pub test_of : ClockTest → NodeId → ℕ → Bool
test_of (test.Apart node clock drift) = λ other read. not (other.0 == node.0) && are_apart drift clock read
test_of (test.Ends count) = λ id clock. nat_le COUNTS (clock + count)

abbrev pub reading_as : Reading → rules.Reading
reading_as reading = record { node = reading.node; clock = reading.clock }

abbrev pub reading_of : Option Reading → Option rules.Reading
reading_of found = option_map reading_as found
