use Rattle.std.proofs.Common.{map, ap, List, ℕ, Bor}
use Rattle.volume_rows.specs.Paths.{parent_of}
use Rattle.name_tree.proofs.Below.{found, not_found}
use Rattle.name_tree.proofs.Walking.{first_name, parent_below}
use Rattle.name_tree.proofs.node.Node.+place.Goals as goal

pub returns-in-Some-get : goal.returns-in-Some-get
returns-in-Some-get t c =
    let some = first_name c.in-Some.rest.now c.if-is_empty.ensures in
    found c.self.inside.entry c.self.inside.kids.entries c.args.self.now c.in-Some-get.kid.now _ c.in-Some.name.now.now (parent_of (map (λ name. name.now) c.in-Some.rest.now)) c.place.result c.self.view_is (parent_below (map (λ name. name.now) c.args.names.now) c.in-Some.name.now.now (map (λ name. name.now) c.in-Some.rest.now) some.0 some.1 (ap (map (λ (name : Bor (List ℕ)). name.now)) c.in-Some.ensures.cases.0) some.2) c.self.invariant.ordered c.in-Some-get.ensures.value c.place.ensures

pub returns-in-None : goal.returns-in-None
returns-in-None t c =
    let some = first_name c.in-Some.rest.now c.if-is_empty.ensures in
    not_found c.self.inside.entry c.self.inside.kids.entries c.args.self.now _ c.in-Some.name.now.now (parent_of (map (λ name. name.now) c.in-Some.rest.now)) c.self.view_is (parent_below (map (λ name. name.now) c.args.names.now) c.in-Some.name.now.now (map (λ name. name.now) c.in-Some.rest.now) some.0 some.1 (ap (map (λ (name : Bor (List ℕ)). name.now)) c.in-Some.ensures.cases.0) some.2) c.self.invariant.ordered c.in-None.ensures.value
