use Rattle.std.proofs.Common.{map, ap, List, ℕ, Bor}
use Rattle.name_tree.proofs.Walking.{first_name, ancestors_gone, ancestors_turned, ancestors_passed}
use Rattle.name_tree.proofs.node.Node.+ancestors.Goals as goal

pub returns-in_default-get : goal.returns-in_default-get
returns-in_default-get t c =
    let some = first_name c.in-Some.rest.now c.if-is_empty.ensures in
    ancestors_gone c.args.who c.self.inside.entry c.self.inside.kids.entries c.args.self.now _ c.in-Some.name.now.now (map (λ name. name.now) c.in-Some.rest.now) some.0 some.1 c.self.view_is (ap (map (λ (name : Bor (List ℕ)). name.now)) c.in-Some.ensures.cases.0) some.2 c.self.invariant.ordered c.in_default-get.ensures.value

pub returns-then-is_some : goal.returns-then-is_some
returns-then-is_some t c =
    let some = first_name c.in-Some.rest.now c.if-is_empty.ensures in
    ancestors_turned c.args.who c.self.inside.entry c.self.inside.kids.entries c.args.self.now c.in-Some-get.kid.now _ c.in-Some.name.now.now (map (λ name. name.now) c.in-Some.rest.now) some.0 some.1 c.own.result c.passes-refusal.result c.self.view_is (ap (map (λ (name : Bor (List ℕ)). name.now)) c.in-Some.ensures.cases.0) some.2 c.self.invariant.ordered c.in-Some-get.ensures.value c.own.ensures c.passes-refusal.ensures c.if-is_some.ensures

pub returns : goal.returns
returns t c =
    let some = first_name c.in-Some.rest.now c.if-is_empty.ensures in
    ancestors_passed c.args.who c.self.inside.entry c.self.inside.kids.entries c.args.self.now c.in-Some-get.kid.now _ c.in-Some.name.now.now (map (λ name. name.now) c.in-Some.rest.now) some.0 some.1 c.own.result c.passes-refusal.result c.ancestors.result c.self.view_is (ap (map (λ (name : Bor (List ℕ)). name.now)) c.in-Some.ensures.cases.0) some.2 c.self.invariant.ordered c.in-Some-get.ensures.value c.own.ensures c.passes-refusal.ensures c.if-is_some.ensures c.ancestors.ensures
