use Rattle.std.proofs.Common.{◌∙◌, refl, sym}
use Rattle.cluster_lines.specs.Lines.{ends}
use Rattle.cluster_lines.proofs.Going.{was_run, unread_line, told}
use Rattle.cluster_lines.proofs.running.run_text.Goals as goal

pub returns-in-Err : goal.returns-in-Err
returns-in-Err g c left later source taken =
    unread_line c.args.cluster.now c.args.kind c.args.text.now _ _ c.close.result c.in-Err.ensures.whole taken
    (record { closes = c.close.ensures; unused = record { session = refl; around = refl }; counts = refl })

pub returns-then-ends_cluster : goal.returns-then-ends_cluster
returns-then-ends_cluster g c left later source taken =
    ends _ c.answer-said.result
    (was_run c.args.cluster.now c.args.kind c.args.text.now _ _ c.answer-said.result c.in-Ok.asked c.requires taken refl c.in-Ok.ensures.asked
    (c.answer-said.ensures left later source))
    (sym c.ends_cluster.ensures ∙ c.if-ends_cluster.true)

pub returns : goal.returns
returns g c left later source taken =
    told c.args.cluster.now _ _ c.answer-said.result _ _ c.tell.result
    (was_run c.args.cluster.now c.args.kind c.args.text.now _ _ c.answer-said.result c.in-Ok.asked c.requires taken refl c.in-Ok.ensures.asked
    (c.answer-said.ensures left later source))
    (sym c.ends_cluster.ensures ∙ c.if-ends_cluster.false) c.tell.ensures.put c.tell.ensures.cause
