use Rattle.std.proofs.Common.{◌≡◌, ◌∙◌, ◌≤◌, length, arith}
use Rattle.std.proofs.lemmas.List.Sorted.{IsNonDecreasingBy-from_sort}
use Rattle.xt_base.specs.declared.ids.NodeId.{NodeId}
use Rattle.replica_lists.proofs.Orders.{in_order-sorted, picked_from}
use Rattle.replica_lists.proofs.Different.{members_of_permutation, turned_permutation}
use Rattle.replica_lists.proofs.pick.Goals as goal

pub unreachable-requires : goal.unreachable-requires
unreachable-requires c =
    let moved = rw c.in_ok-sorted.ensures.items at c.sort_unstable.ensures.permutation in
    let turned = turned_permutation _ _ _ _ moved (c.deref.ensures.value ∙ c.rotate_left.ensures.items) in
    let enough : c.args.n ≤ length c.deref.result.now = omega (arith, c.in_ok-sorted.ensures.len) in
    let made = c.in-Err.ensures.exact.1 (members_of_permutation c.args.n _ _ turned c.requires.different c.requires.some c.requires.few enough) in
    (cc)

pub returns-clause-value : goal.returns-clause-value
returns-clause-value c =
    let moved = rw c.in_ok-sorted.ensures.items at c.sort_unstable.ensures.permutation in
    let sorted = in_order-sorted c.args.osds.now c.sort_unstable.new.self.items moved (IsNonDecreasingBy-from_sort (λ (n : NodeId). n.0) c.sort_unstable.new.self.items c.sort_unstable.ensures.sorted) in
    let many : c.len.result ≡ length c.args.osds.now = omega (arith, c.in_ok-sorted.ensures.len) in
    picked_from _ _ _ _ c.args.file c.args.n c.len.result sorted many (c.deref.ensures.value ∙ c.rotate_left.ensures.items) c.in-Ok.ensures.value
