use Rattle.std.proofs.Common.{◌≡◌, ◌≤◌, ◌+◌, ◌-◌, length}
use Rattle.node_links.specs.Streams.{Takes}
use Rattle.time_line.specs.declared.TheConstants.{LINE_BYTES}
use Rattle.schedule_lines.specs.RawLine.{IsInLine}
use Rattle.schedule_lines.proofs.reading.read_raw.Given as goal

-- so far these bytes of a line were taken
abbrev pub invariant-loop-src : goal.invariant-loop-src
invariant-loop-src g l =
    record {
      taken : Takes (g.S.Source.left l.fn.src) (g.S.Source.left l.src) l.line.items;
      in_line : IsInLine l.line.items;
      few : length l.line.items ≤ LINE_BYTES + 1;
      sound : g.S.Source.fault_count l.src ≡ g.S.Source.fault_count l.fn.src;
    }

-- how many bytes may still come
abbrev pub decreases-loop-src : goal.decreases-loop-src
decreases-loop-src g l = LINE_BYTES + 1 - length l.line.items
