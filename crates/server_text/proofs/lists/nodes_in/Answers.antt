use Rattle.std.proofs.Common.{◌≡◌, ◌≢◌, ◌∙◌, ◌+◌, ◌-◌, List, ℕ, [], ◌∷◌, ◌++◌, length, sym, ap, subst, arith}
use Rattle.std.proofs.lemmas.Bool.{eqb-true, eqb-false}
use Rattle.xt_base.specs.declared.ids.NodeId.{NodeId}
use Rattle.server_text.specs.Reading.{number_of, each_word, node_of, node_in, nodes_in}
use Rattle.server_text.proofs.WordSteps.{one_more, no_more, all_read}
use Rattle.server_text.proofs.lists.nodes_in.Goals as goal

pub returns-then-is_empty : goal.returns-then-is_empty
unfolding nodes_in
returns-then-is_empty c =
    no_more node_in c.loop-count.nodes (length c.args.words.now - c.loop-count._count) c.loop-count.rest.now c.args.words.now
    (eqb-true _ _ (sym c.if-is_empty.ensures)) c.loop-count.invariant

pub loop-count-preserved : goal.loop-count-preserved
loop-count-preserved c =
    let more : length c.loop-count.rest.now ≢ 0 = eqb-false _ _ (sym c.if-is_empty.ensures) in
    subst (λ (rest : List ℕ). c.push.new.self ++ each_word node_in (length c.args.words.now - (c.loop-count._count + 1)) rest ≡ each_word node_in (length c.args.words.now) c.args.words.now) (sym c.cut.ensures.rest)
    (one_more node_in c.loop-count.nodes c.push.new.self (each_word node_in (length c.args.words.now) c.args.words.now) (length c.args.words.now) c.loop-count._count c.loop-count.rest.now c.loop-count-test.true (omega (arith, more))
    (c.in_ok-push.ensures.ok ∙ ap (λ (a : NodeId). c.loop-count.nodes ++ a ∷ []) (ap node_of (c.u32_of.ensures ∙ ap (number_of 32) c.cut.ensures.word)))
    c.loop-count.invariant)

pub returns : goal.returns
unfolding nodes_in
returns c =
    all_read node_in c.loop-count.nodes c.loop-count._count c.loop-count.rest.now c.args.words.now (omega (arith, c.loop-count-test.false, c.loop-count.auto._count-end)) c.loop-count.invariant
