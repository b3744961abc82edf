use Rattle.std.proofs.Common.{map, ap, List, ℕ, Bor}
use Rattle.name_tree.proofs.Below.{found, not_found}
use Rattle.name_tree.proofs.Walking.{none_walked, none_there, if_none_weaker}
use Rattle.name_tree.proofs.node.Node.+find.Goals as goal

pub returns-in-Some-get-clause-entry : goal.returns-in-Some-get-clause-entry
returns-in-Some-get-clause-entry t c =
    found c.self.inside.entry c.self.inside.kids.entries c.args.self.now c.in-Some-get.kid.now _ c.in-Some.name.now.now (map (λ name. name.now) c.in-Some.rest.now) c.find.result c.self.view_is (ap (map (λ (name : Bor (List ℕ)). name.now)) c.in-Some.ensures.cases.0) c.self.invariant.ordered c.in-Some-get.ensures.value c.find.ensures.entry

pub returns-in-Some-get-clause-none : goal.returns-in-Some-get-clause-none
returns-in-Some-get-clause-none t c =
    if_none_weaker c.find.result (none_there c.self.inside.entry c.self.inside.kids.entries c.args.self.now c.in-Some-get.kid.now _ c.in-Some.name.now.now (map (λ name. name.now) c.in-Some.rest.now) c.self.view_is (ap (map (λ (name : Bor (List ℕ)). name.now)) c.in-Some.ensures.cases.0) c.self.invariant.ordered c.in-Some-get.ensures.value) c.find.ensures.none

pub returns-in-None-clause-entry : goal.returns-in-None-clause-entry
returns-in-None-clause-entry t c =
    not_found c.self.inside.entry c.self.inside.kids.entries c.args.self.now _ c.in-Some.name.now.now (map (λ name. name.now) c.in-Some.rest.now) c.self.view_is (ap (map (λ (name : Bor (List ℕ)). name.now)) c.in-Some.ensures.cases.0) c.self.invariant.ordered c.in-None.ensures.value

pub returns-in-None-clause-none : goal.returns-in-None-clause-none
returns-in-None-clause-none t c =
    none_walked c.self.inside.entry c.self.inside.kids.entries c.args.self.now _ c.in-Some.name.now.now (map (λ name. name.now) c.in-Some.rest.now) c.self.view_is (ap (map (λ (name : Bor (List ℕ)). name.now)) c.in-Some.ensures.cases.0) c.in-None.ensures.value
