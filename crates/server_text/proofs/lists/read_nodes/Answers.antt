use Rattle.std.proofs.Common.{◌≡◌, ◌≢◌, ◌∙◌, ◌-◌, sym, ap, length, take, arith}
use Rattle.std.proofs.lemmas.Bool.{eqb-true, eqb-false}
use Rattle.server_text.proofs.NodeSteps.{one_read, none_left, all_read}
use Rattle.server_text.specs.Reading.{nodes_of}
use Rattle.server_text.proofs.lists.read_nodes.Goals as goal

pub returns-then-is_empty-clause-nodes : goal.returns-then-is_empty-clause-nodes
returns-then-is_empty-clause-nodes c =
    none_left c.loop-count.places c.loop-count.count (length c.loop-count.places - c.loop-count.count) c.loop-count.rest.now c.args.words.now
    (eqb-true _ _ (sym c.if-is_empty.ensures)) c.loop-count.invariant
    ∙ ap (λ n. nodes_of n c.args.words.now) c.loop-count.auto.places

pub loop-count-preserved : goal.loop-count-preserved
loop-count-preserved c =
    let more : length c.loop-count.rest.now ≢ 0 = eqb-false _ _ (sym c.if-is_empty.ensures) in
    let all = c.loop-count.auto.places in
    rw c.cut.ensures.rest
    (one_read c.loop-count.places c.loop-count.count c.loop-count.rest.now c.args.words.now c.node_in.result (omega arith) (omega arith)
    (rw (← c.cut.ensures.word) c.node_in.ensures) c.loop-count.invariant)

pub returns-clause-nodes : goal.returns-clause-nodes
returns-clause-nodes c =
    let all = c.loop-count.auto.places in
    let end : c.loop-count.count ≡ length c.loop-count.places = omega arith in
    ap (λ n. take n c.loop-count.places) (sym end)
    ∙ all_read c.loop-count.places c.loop-count.count c.loop-count.rest.now c.args.words.now end c.loop-count.invariant
    ∙ ap (λ n. nodes_of n c.args.words.now) all
