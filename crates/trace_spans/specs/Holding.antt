-- how a node stands to a file after each entry of a trace
use Rattle.std.specs.Prelude.{ℕ, Bool, ◌+◌, min, Option, option_map, List, take}
use Rattle.xt_base.specs.declared.ids.NodeId.{NodeId}
use Rattle.time_line.specs.declared.entry.Entry.{Entry}
use Rattle.time_line.specs.TimeLine.{RunningBoot, standing, holds_as}
use Rattle.trace_spans.specs.declared.standings.Running.{Running}

-- the greatest clock that is given: one beyond it is given as this
abbrev pub greatest : ℕ
greatest = 18446744073709551615

-- what is kept of how a node stands
abbrev pub kept_of : RunningBoot → Running
kept_of s = record { clock = min s.clock greatest; end = s.end }

abbrev pub kept : Option RunningBoot → Option Running
kept s = option_map kept_of s

-- what its clock reads
abbrev pub clock_of : RunningBoot → ℕ
clock_of s = min s.clock greatest

-- how the node stands after the entry at this place
abbrev pub standing_at : NodeId → ℕ → List Entry → ℕ → Option RunningBoot
standing_at node file entries place = standing node file (take (place + 1) entries)

-- whether the node holds the file after the entry at this place, where clocks differ by at most so much
abbrev pub holds_at : ℕ → NodeId → ℕ → List Entry → ℕ → Bool
holds_at drift node file entries place = holds_as drift (standing_at node file entries place)

-- what the node's clock reads after the entry at this place; none while it doesn't run
abbrev pub clock_at : NodeId → List Entry → ℕ → Option ℕ
clock_at node entries place = option_map clock_of (standing_at node 0 entries place)
