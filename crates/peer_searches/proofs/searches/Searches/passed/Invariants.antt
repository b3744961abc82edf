use Rattle.std.proofs.Common.{◌≡◌, drop}
use Rattle.peer_searches.specs.Sound.{passed_at}
use Rattle.peer_searches.proofs.searches.Searches.passed.Given as goal

-- the search for this node stands among those that are left
abbrev pub invariant-loop-search : goal.invariant-loop-search
invariant-loop-search l = passed_at l.self l.node ≡ passed_at (drop l.search-index l.search-items) l.node
