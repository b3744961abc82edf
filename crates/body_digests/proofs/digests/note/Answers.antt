use Rattle.std.proofs.Common.{ap, ◌∙◌, ◌++◌, ◌∷◌, [], List, ℕ}
use Rattle.body_digests.specs.Digests.{digests_or_none}
use Rattle.body_digests.proofs.Noting.{noted}
use Rattle.body_digests.proofs.digests.note.Goals as goal

pub returns : goal.returns
returns c =
    noted c.args.bodies.now c.remove.new.self c.insert.new.self c.args.version c.args.digest c.push.new.self c.remove.ensures.updates.0
    c.in_ok-insert.ensures.updates.0
    (c.in_ok-push.ensures.items ∙ ap (λ (ds : List (List ℕ)). ds ++ c.args.digest ∷ []) (c.found_or_none-digests.ensures ∙ ap digests_or_none c.remove.ensures.value))
