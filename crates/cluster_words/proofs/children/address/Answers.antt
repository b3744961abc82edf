use Rattle.std.proofs.Common.{◌∙◌, ◌≤◌, ℕ, List, length, sym, subst}
use Rattle.std.proofs.lemmas.Bool.{false≢true}
use Rattle.cluster_words.proofs.Short.{local_short}
use Rattle.cluster_words.proofs.children.address.Goals as goal

pub unreachable-requires : goal.unreachable-requires
unreachable-requires c =
    false≢true
    (c.in-None.ensures.exact.1
    (subst (λ (text : List ℕ). length text ≤ 64) (sym (c.as_str.ensures.value ∙ c.in_ok-text.ensures)) (local_short c.args.port c.ranges.port.fits)))
