use Rattle.std.proofs.Common.{◌≡◌, ◌-◌, ◌++◌, length, take}
use Rattle.server_text.specs.Reading.{nodes_of}
use Rattle.server_text.proofs.lists.read_nodes.Given as goal

-- the nodes that are read, and those that the rest numbers
abbrev pub invariant-loop-count : goal.invariant-loop-count
invariant-loop-count l =
    take l.count l.places ++ nodes_of (length l.places - l.count) l.rest ≡ nodes_of (length l.places) l.words
