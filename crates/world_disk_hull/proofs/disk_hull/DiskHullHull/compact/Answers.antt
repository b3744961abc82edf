use Rattle.std.proofs.Common.{ℕ, ap, ◌∙◌}
use Rattle.world_hull.proofs.Failures.{on_err}
use Rattle.world_disk_hull.specs.Nodes.{node_of}
use Rattle.world_disk_hull.specs.Views.{StoredView}
use Rattle.world_disk_hull.proofs.Hulls.{at_other, is_compacted}
use Rattle.world_disk_hull.proofs.disk_hull.DiskHullHull.compact.Goals as goal

pub returns-in_err-put_in-clause-others : goal.returns-in_err-put_in-clause-others
returns-in_err-put_in-clause-others c =
    on_err _ c.from_residual-in_err-put_in.result
    (λ n differs. (
      ap (λ (nodes : ℕ → StoredView). (nodes n).records) c.in_err-put_in.ensures.err
          ∙ ap (λ (node : StoredView). node.records) (c.take.ensures.others n differs),
      ap (λ (nodes : ℕ → StoredView). (nodes n).past) c.in_err-put_in.ensures.err
          ∙ ap (λ (node : StoredView). node.past) (c.take.ensures.others n differs),
    ))

pub returns-clause-records : goal.returns-clause-records
returns-clause-records c =
    is_compacted (node_of c.args.self.now) (node_of c.take.new.self) (node_of c.put_in.new.self) c.args.node c.args.keep.now c.in_ok-own-2.rewrote
    c.in_ok-own.own c.in_ok-own-2.own c.in_ok-own.ensures.own c.in_ok-own.ensures.past c.in_ok-own-2.ensures.due c.in_ok-own-2.ensures.own
    c.take.ensures.others c.in_ok-put_in.ensures.ok

pub returns-clause-other_disks : goal.returns-clause-other_disks
returns-clause-other_disks c n differs =
    at_other (node_of c.take.new.self) (node_of c.put_in.new.self) c.args.node.0 c.in_ok-own-2.own c.in_ok-put_in.ensures.ok n differs
    ∙ c.take.ensures.others n differs

pub returns-in_err-put_in-clause-other_disks : goal.returns-in_err-put_in-clause-other_disks
returns-in_err-put_in-clause-other_disks c n differs =
    ap (λ (nodes : ℕ → StoredView). nodes n) c.in_err-put_in.ensures.err ∙ c.take.ensures.others n differs
