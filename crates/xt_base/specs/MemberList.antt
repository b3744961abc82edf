-- lists of one to nine different nodes, and how an array of nine holds them
use Rattle.std.specs.Prelude.{ℕ, Bool, true, not, ◌&&◌, ◌==◌, nat_le, List, [], ◌∷◌, ◌++◌, length, take, replicate, ◌≤◌, ◌-◌, ◌≡◌}
use Rattle.std.specs.List.{list_any}
use Rattle.xt_base.specs.declared.ids.NodeId.{NodeId}
use Rattle.xt_base.specs.declared.members.Members.TheInside.{Inside}

-- whether the node is in the list
abbrev pub has_node : List NodeId → ℕ → Bool
has_node nodes node = list_any (λ member. member.0 == node) nodes

-- whether no node is in it twice
abbrev pub are_distinct : List NodeId → Bool
are_distinct [] = true
are_distinct (node ∷ nodes) = not (has_node nodes node.0) && are_distinct nodes

-- whether these are one to nine different nodes
abbrev pub are_members : List NodeId → Bool
are_members nodes = nat_le 1 (length nodes) && nat_le (length nodes) 9 && are_distinct nodes

-- the nodes that the first places hold
abbrev pub seen : Inside → List NodeId
seen m = take m.count m.nodes

-- the nodes in the first places, and zeros after them
abbrev pub filled : List NodeId → Inside
filled nodes = record { nodes = nodes ++ replicate (9 - length nodes) (record { 0 = 0 }); count = length nodes }

-- at most nine, with zeros after
abbrev pub IsFilled : Inside → Type 0
IsFilled m = (m.count ≤ 9) × (filled (seen m) ≡ m)
