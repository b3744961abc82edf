use Rattle.std.proofs.Common.{◌∙◌, map, ap, sym, length, List, ℕ, Bor}
use Rattle.volume_rows.proofs.Parsing.{no_names}
use Rattle.name_tree.proofs.Walking.{names_walked, names_gone, count_here}
use Rattle.name_tree.proofs.node.Node.+count.Goals as goal

pub returns-in_default : goal.returns-in_default
returns-in_default t c =
    count_here c.self.inside.entry c.self.inside.kids.entries c.args.self.now _ c.len.result c.self.view_is (no_names c.args.names.now c.in_default.ensures.cases) c.self.invariant.trees c.len.ensures.len

pub returns-in-Some-get : goal.returns-in-Some-get
returns-in-Some-get t c =
    c.count.ensures ∙ ap length (sym (names_walked c.self.inside.entry c.self.inside.kids.entries c.args.self.now c.in-Some-get.kid.now _ c.in-Some.name.now.now (map (λ name. name.now) c.in-Some.rest.now) c.self.view_is (ap (map (λ (name : Bor (List ℕ)). name.now)) c.in-Some.ensures.cases.0) c.self.invariant.ordered c.in-Some-get.ensures.value))

pub returns-in-None : goal.returns-in-None
returns-in-None t c =
    ap length (sym (names_gone c.self.inside.entry c.self.inside.kids.entries c.args.self.now _ c.in-Some.name.now.now (map (λ name. name.now) c.in-Some.rest.now) c.self.view_is (ap (map (λ (name : Bor (List ℕ)). name.now)) c.in-Some.ensures.cases.0) c.in-None.ensures.value))
