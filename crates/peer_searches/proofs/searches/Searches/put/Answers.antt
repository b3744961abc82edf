use Rattle.std.proofs.Common.{◌≡◌, ◌∙◌, ◌++◌, ◌∷◌, [], List, ap, rules}
use Rattle.std.specs.Prelude.{filter, not, ◌==◌}
use Rattle.std.proofs.lemmas.Fn.{filter_same}
use Rattle.peer_searches.specs.declared.searches.Search.{Search}
use Rattle.peer_searches.proofs.searches.Searches.put.Goals as goal

pub returns : goal.returns
returns c =
    let s = c.args.search in
    let kept = filter (λ (other : Search). not (other.node.0 == s.node.0)) in
    let left : c.retain.new.self.items ≡ kept c.args.self.now = filter_same _ (λ (other : Search). not (other.node.0 == s.node.0)) _ (λ x b f' k. search rules) _ _ c.retain.ensures.filtered ∙ ap kept c.self.view_is in
    c.in_ok-push.ensures.items ∙ ap (λ (searches : List Search). searches ++ s ∷ []) left
