use Rattle.std.proofs.Common.{◌≡◌, ◌+◌, ◌<◌, ◌++◌, ◌∷◌, [], List, length, set, ap, sym, subst, length-append, arith}
use Rattle.xt_base.specs.declared.ids.NodeId.{NodeId}
use Rattle.xt_base.specs.declared.ids.Boot.{Boot}
use Rattle.flease.specs.declared.targets.Targets.TheInside.{Inside}
use Rattle.flease.specs.Pairs.{blank, filled, seen}
use Rattle.flease.proofs.Filled.{padded, padded-push, take-padded}
use Rattle.flease.proofs.targets.Targets.push.Goals as goal

abbrev pushed : Inside → NodeId × Boot → Inside
pushed s pair = record { places = set s.places s.count pair; count = s.count + 1 }

-- one more pair in the array that holds these
pushed_filled : (pairs : List (NodeId × Boot)) (pair : NodeId × Boot) → length pairs < 9 → filled (seen (pushed (filled pairs) pair)) ≡ pushed (filled pairs) pair
pushed_filled pairs pair room =
    let places : padded blank (pairs ++ pair ∷ []) ≡ set (padded blank pairs) (length pairs) pair = sym (padded-push blank pairs pair room) in
    let count : length (pairs ++ pair ∷ []) ≡ length pairs + 1 = length-append pairs (pair ∷ []) in
    let same : filled (pairs ++ pair ∷ []) ≡ pushed (filled pairs) pair = cc in
    subst (λ (s : Inside). filled (seen s) ≡ s) same (ap filled (take-padded blank (pairs ++ pair ∷ [])))

pub invariant_of-self : goal.invariant_of-self
invariant_of-self c =
    let held = c.self.invariant.1 in
    let count : length (seen c.self.inside) ≡ c.self.inside.count = ap (λ (s : Inside). s.count) held in
    let view : seen c.self.inside ≡ c.args.self.now = c.self.view_is in
    let room : length c.args.self.now < 9 = c.requires in
    let room_here : length (seen c.self.inside) < 9 = subst (λ (pairs : List (NodeId × Boot)). length pairs < 9) (sym view) room in (
      omega arith,
      subst (λ (s : Inside). filled (seen (pushed s (c.args.node, c.args.boot))) ≡ pushed s (c.args.node, c.args.boot)) held (pushed_filled (seen c.self.inside) (c.args.node, c.args.boot) room_here),
    )
