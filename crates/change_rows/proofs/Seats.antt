-- the seats of a new list are its members', whatever they have installed
use Rattle.std.proofs.Common.{◌≡◌, List, [], ◌∷◌, map, refl, ap, ◌∙◌, Bool, true, false}
use Rattle.std.specs.Prelude.{if◌then◌else◌}
use Rattle.xt_base.specs.declared.ids.NodeId.{NodeId}
use Rattle.change_rows.specs.Changes.{Seat, empty_seat, node_of, awaits, with_installation}

pub empty_seats : (nodes : List NodeId) → map node_of (map empty_seat nodes) ≡ nodes
empty_seats [] = refl
empty_seats (node ∷ nodes) = ap (λ rest. node ∷ rest) (empty_seats nodes)

same_node : (from : NodeId) (seat : Seat) (b : Bool) → node_of (if b then record seat { installed = true } else seat) ≡ node_of seat
same_node from seat true = refl
same_node from seat false = refl

pub same_members : (from : NodeId) (seats : List Seat) → map node_of (map (with_installation from) seats) ≡ map node_of seats
same_members from [] = refl
same_members from (seat ∷ seats) =
    ap (λ node. node ∷ map node_of (map (with_installation from) seats)) (same_node from seat (awaits from seat))
    ∙ ap (λ rest. node_of seat ∷ rest) (same_members from seats)
