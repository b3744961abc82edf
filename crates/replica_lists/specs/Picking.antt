-- which OSDs get a file
use Rattle.std.specs.Prelude.{ℕ, nat_lt, ◌%◌, if◌then◌else◌, List, [], ◌∷◌, ◌++◌, length, take, drop}
use Rattle.xt_base.specs.declared.ids.NodeId.{NodeId}

-- a node in its place among nodes that don't fall
abbrev pub placed : NodeId → List NodeId → List NodeId
placed node [] = node ∷ []
placed node (n ∷ ns) = if nat_lt n.0 node.0 then n ∷ placed node ns else node ∷ n ∷ ns

-- nodes in order of their ids
abbrev pub in_order : List NodeId → List NodeId
in_order [] = []
in_order (n ∷ ns) = placed n (in_order ns)

-- nodes from a place on, and then those before it
abbrev pub round_from : ℕ → List NodeId → List NodeId
round_from place nodes = drop place nodes ++ take place nodes

-- So many of the OSDs for a file: in order of their ids, going round from the place of the file's number.
abbrev pub picked : List NodeId → ℕ → ℕ → List NodeId
picked osds file n = take n (round_from (file % length osds) (in_order osds))
