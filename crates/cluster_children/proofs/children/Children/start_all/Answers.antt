use Rattle.std.proofs.Common.{refl, ◌∙◌, [], ◌∷◌}
use Rattle.cluster_words.specs.declared.children.ClusterNode.TheVariants as node
use Rattle.cluster_children.specs.Calls.{osds_to, nodes_of}
use Rattle.cluster_children.proofs.Called.{starts_none, starts_first, starts_osd, starts_front, nodes_front, so_of_error}
use Rattle.cluster_children.proofs.children.Children.start_all.Goals as goal

pub returns-in_err-start-clause-front : goal.returns-in_err-start-clause-front
returns-in_err-start-clause-front g c =
    so_of_error _ _
    (starts_front c.args.job.now _ _ _ (nodes_of c.args.job.now.osds) [] (node.Mrc ∷ osds_to c.args.job.now.osds) node.Dir [] _ refl
    (starts_none c.args.job.now _) (c.in_err-start.ensures.kept.0 ∙ c.requires.empty, c.in_err-start.ensures.kept.1))

pub returns-in_err-start-2-clause-front : goal.returns-in_err-start-2-clause-front
returns-in_err-start-2-clause-front g c =
    so_of_error _ _
    (starts_front c.args.job.now _ _ _ (nodes_of c.args.job.now.osds) (node.Dir ∷ []) (osds_to c.args.job.now.osds) node.Mrc _ _ refl
    (starts_first c.args.job.now _ _ _ _ node.Dir c.requires.empty c.in_ok-start.ensures.started) c.in_err-start-2.ensures.kept)

pub returns-in_err-start-3-clause-front : goal.returns-in_err-start-3-clause-front
returns-in_err-start-3-clause-front g c =
    let rest = nodes_front c.args.job.now.osds c.loop-before.before c.loop-before-test.true in
    so_of_error _ _
    (starts_front c.args.job.now _ _ _ (nodes_of c.args.job.now.osds) (nodes_of c.loop-before.before) rest.0 _ c.loop-before.self _ rest.1
    c.loop-before.invariant.0 c.in_err-start-3.ensures.kept)

pub loop-before-preserved : goal.loop-before-preserved
loop-before-preserved g c = (
  starts_osd c.args.job.now _ _ _ c.loop-before.before c.loop-before.self _ c.loop-before.invariant.0 c.in_ok-start-3.ensures.started,
  c.in_ok-start-3.ensures.sound ∙ c.loop-before.invariant.1,
)
