use Rattle.std.proofs.Common.{ap, sym, ◌∙◌, filter, Option}
use Rattle.xt_base.specs.declared.ids.NodeId.{NodeId}
use Rattle.client_rows.specs.Clients.{next_of}
use Rattle.client_members.proofs.Left.{is_new, first_left, named_next, other_next}
use Rattle.client_members.proofs.tried.next_target.Goals as goal

pub returns-in-None : goal.returns-in-None
returns-in-None c =
    let tried = c.args.tried.now in
    let members = c.args.members.now in
    c.first_left.ensures
    ∙ first_left tried members
    ∙ ap (λ (hint : Option NodeId). next_of hint (filter (is_new tried) members)) c.in-None.ensures

pub returns-then-is_left : goal.returns-then-is_left
returns-then-is_left c =
    let tried = c.args.tried.now in
    let members = c.args.members.now in
    sym (named_next tried members c.in-Some.node (sym c.is_left.ensures ∙ c.if-is_left.true))
    ∙ ap (λ (hint : Option NodeId). next_of hint (filter (is_new tried) members)) c.in-Some.ensures

pub returns-else-is_left : goal.returns-else-is_left
returns-else-is_left c =
    let tried = c.args.tried.now in
    let members = c.args.members.now in
    c.first_left-else-is_left.ensures
    ∙ first_left tried members
    ∙ sym (other_next tried members c.in-Some.node (sym c.is_left.ensures ∙ c.if-is_left.false))
    ∙ ap (λ (hint : Option NodeId). next_of hint (filter (is_new tried) members)) c.in-Some.ensures
