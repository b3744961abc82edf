use Rattle.std.proofs.Common.{◌≡◌, ◌∙◌, length, List, ◌++◌, drop, replicate, ap, subst, sym, arith}
use Rattle.std.proofs.lemmas.List.{drop-replicate}
use Rattle.std.proofs.Math.Seq.{take-append_seam}
use Rattle.xt_base.specs.declared.ids.NodeId.{NodeId}
use Rattle.xt_base.specs.declared.members.Members.TheInside.{Inside}
use Rattle.xt_base.specs.MemberList.{filled, seen}
use Rattle.xt_base.proofs.members.Members.new.Goals as goal

-- the array that begins with these nodes and goes on with zeros
abbrev array_of : List NodeId → List NodeId → Inside
array_of nodes copied = record { nodes = copied ++ drop (length nodes) (replicate 9 (record { 0 = 0 })); count = length nodes }

-- it is the one that holds them
filled_array : (nodes : List NodeId) → filled (seen (array_of nodes nodes)) ≡ array_of nodes nodes
filled_array nodes =
    ap filled (take-append_seam nodes (drop (length nodes) (replicate 9 (record { 0 = 0 }))))
    ∙ ap (λ (zeros : List NodeId). let array : Inside = record { nodes = nodes ++ zeros; count = length nodes } in array) (sym (drop-replicate (length nodes) 9 (record { 0 = 0 })))

pub invariant_of-result : goal.invariant_of-result
invariant_of-result c =
    let nodes = c.args.nodes.now in
    (omega arith, subst (λ (copied : List NodeId). filled (seen (array_of nodes copied)) ≡ array_of nodes copied) (sym c.copy_from_slice.ensures.after) (filled_array nodes))
