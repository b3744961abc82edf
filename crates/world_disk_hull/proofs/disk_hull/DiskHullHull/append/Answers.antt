use Rattle.std.proofs.Common.{ℕ, ap, sym, subst, ◌∙◌}
use Rattle.world_hull.proofs.Failures.{on_err}
use Rattle.world_disk_hull.specs.Views.{StoredView}
use Rattle.world_disk_hull.proofs.Hulls.{at_other, at_own, is_appended}
use Rattle.world_disk_steps.specs.Steps.{IsDiskAfter}
use Rattle.world_disk_hull.specs.Nodes.{node_of, records_of}
use Rattle.world_disk_hull.proofs.disk_hull.DiskHullHull.append.Goals as goal

pub returns-in_err-put_in-clause-others : goal.returns-in_err-put_in-clause-others
returns-in_err-put_in-clause-others c =
    on_err _ c.from_residual-in_err-put_in.result
    (λ n differs. (
      ap (λ (nodes : ℕ → StoredView). (nodes n).records) c.in_err-put_in.ensures.err
          ∙ ap (λ (node : StoredView). node.records) (c.appended.ensures.others n differs),
      ap (λ (nodes : ℕ → StoredView). (nodes n).past) c.in_err-put_in.ensures.err
          ∙ ap (λ (node : StoredView). node.past) (c.appended.ensures.others n differs),
    ))

pub returns-in_err-put_in-clause-other_disks : goal.returns-in_err-put_in-clause-other_disks
returns-in_err-put_in-clause-other_disks c n differs =
    ap (λ (nodes : ℕ → StoredView). nodes n) c.in_err-put_in.ensures.err ∙ c.appended.ensures.others n differs

pub returns-clause-records : goal.returns-clause-records
returns-clause-records c =
    is_appended (node_of c.args.self.now) (node_of c.appended.new.self) (node_of c.put_in.new.self) c.args.node c.args.rec.now c.args.stop
    c.by.result c.in_ok-own.own c.by.ensures c.in_ok-own.ensures.own c.in_ok-own.ensures.past c.appended.ensures.others c.in_ok-put_in.ensures.ok

pub returns-clause-disk : goal.returns-clause-disk
returns-clause-disk c =
    subst (λ (node : StoredView). IsDiskAfter c.args.stop (records_of c.args.self.now c.args.node.0) c.args.rec.now node.disk)
    (sym (at_own (node_of c.appended.new.self) (node_of c.put_in.new.self) c.args.node.0 c.in_ok-own.own c.in_ok-put_in.ensures.ok))
    c.in_ok-own.ensures.disk

pub returns-clause-other_disks : goal.returns-clause-other_disks
returns-clause-other_disks c n differs =
    at_other (node_of c.appended.new.self) (node_of c.put_in.new.self) c.args.node.0 c.in_ok-own.own c.in_ok-put_in.ensures.ok n differs
    ∙ c.appended.ensures.others n differs
