use Rattle.std.proofs.Common.{ℕ, List, [], ◌∷◌, ◌++◌, ap, subst, sym, ◌∙◌}
use Rattle.world_spec.specs.World.{Deed, loads}
use Rattle.world_disk.specs.Ends.{IsReadAgain}
use Rattle.world_disk_hull.specs.Nodes.{node_of}
use Rattle.world_disk_hull.specs.Views.{StoredView, none_stored}
use Rattle.world_disk_hull.proofs.Hulls.{at_other, at_own, first_load, first_records, logs}
use Rattle.world_disk_hull.proofs.disk_hull.DiskHull.start_first.Goals as goal

pub returns-clause-records : goal.returns-clause-records
returns-clause-records c =
    first_records (node_of c.args.self.now) (node_of c.put_in.new.self) c.args.node c.loaded-own.result c.in_ok-put_in.ensures.ok c.requires
    (ap (λ (own : StoredView). own.records) c.loaded-own.ensures ∙ c.in_ok-new.ensures.records)

pub returns-clause-past : goal.returns-clause-past
returns-clause-past c =
    first_load (node_of c.args.self.now) (node_of c.put_in.new.self) c.args.node c.loaded-own.result c.in_ok-put_in.ensures.ok c.requires
    (ap (λ (own : StoredView). own.past) c.loaded-own.ensures ∙ ap (λ (past : List Deed). past ++ loads ∷ []) c.in_ok-new.ensures.past)

pub returns-clause-read : goal.returns-clause-read
returns-clause-read c =
    subst (λ (own : StoredView). IsReadAgain none_stored.disk own.disk [])
    (sym (at_own (node_of c.args.self.now) (node_of c.put_in.new.self) c.args.node.0 c.loaded-own.result c.in_ok-put_in.ensures.ok ∙ c.loaded-own.ensures))
    c.in_ok-new.ensures.read

pub returns-clause-others : goal.returns-clause-others
returns-clause-others c n differs =
    at_other (node_of c.args.self.now) (node_of c.put_in.new.self) c.args.node.0 c.loaded-own.result c.in_ok-put_in.ensures.ok n differs

pub returns-in_err-put_in-clause-records : goal.returns-in_err-put_in-clause-records
returns-in_err-put_in-clause-records c = ap logs c.in_err-put_in.ensures.err

pub returns-in_err-put_in-clause-others : goal.returns-in_err-put_in-clause-others
returns-in_err-put_in-clause-others c n differs = ap (λ (nodes : ℕ → StoredView). nodes n) c.in_err-put_in.ensures.err
