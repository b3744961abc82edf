use Rattle.std.proofs.Common.{◌∙◌, ◌≡◌, map, ap, List, ℕ, Bor}
use Rattle.std.proofs.lemmas.Result.{IfOk-weaker}
use Rattle.volume_rows.specs.Rows.{page_of}
use Rattle.name_tree.proofs.Walking.{names_walked, names_gone, page_is, page_empty}
use Rattle.name_tree.proofs.node.Node.+page.Goals as goal

pub returns-in-Some-get : goal.returns-in-Some-get
returns-in-Some-get t c =
    IfOk-weaker c.page.result (λ page. page ≡ page_of c.in-Some-get.kid.now (map (λ name. name.now) c.in-Some.rest.now) c.args.after.now) (λ page. page ≡ page_of c.args.self.now (map (λ name. name.now) c.args.names.now) c.args.after.now) (λ page is. is ∙ page_is c.args.self.now c.in-Some-get.kid.now (map (λ name. name.now) c.args.names.now) (map (λ name. name.now) c.in-Some.rest.now) c.args.after.now (names_walked c.self.inside.entry c.self.inside.kids.entries c.args.self.now c.in-Some-get.kid.now _ c.in-Some.name.now.now (map (λ name. name.now) c.in-Some.rest.now) c.self.view_is (ap (map (λ (name : Bor (List ℕ)). name.now)) c.in-Some.ensures.cases.0) c.self.invariant.ordered c.in-Some-get.ensures.value)) c.page.ensures

pub returns-in-None : goal.returns-in-None
returns-in-None t c =
    c.new.ensures ∙ page_empty c.args.self.now (map (λ name. name.now) c.args.names.now) c.args.after.now (names_gone c.self.inside.entry c.self.inside.kids.entries c.args.self.now _ c.in-Some.name.now.now (map (λ name. name.now) c.in-Some.rest.now) c.self.view_is (ap (map (λ (name : Bor (List ℕ)). name.now)) c.in-Some.ensures.cases.0) c.in-None.ensures.value)
