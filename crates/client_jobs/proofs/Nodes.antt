-- nodes that a message can list
use Rattle.std.proofs.Common.{◌≡◌, ℕ, Bool, true, false, ◌&&◌, List, [], ◌∷◌, refl}
use Rattle.std.specs.Prelude.{nat_lt}
use Rattle.std.specs.List.{AllByRecursion, list_all}
use Rattle.std.proofs.lemmas.Bool.{ltb-true}
use Rattle.xt_base.specs.declared.ids.NodeId.{NodeId}
use Rattle.xt_messages.specs.Limits.{FitsNode}

both : (a b : Bool) → a && b ≡ true → (a ≡ true) × (b ≡ true)
both true b t = (refl, t)
both false b t = absurd (cc)

pub nodes_fit : (nodes : List NodeId) → list_all (λ node. nat_lt node.0 4294967296) nodes ≡ true → AllByRecursion FitsNode nodes
nodes_fit [] t = tt
nodes_fit (node ∷ nodes) t =
    let here = both (nat_lt node.0 4294967296) (list_all (λ n. nat_lt n.0 4294967296) nodes) t in
    (ltb-true node.0 4294967296 here.0, nodes_fit nodes here.1)
