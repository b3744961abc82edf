use Rattle.std.proofs.Common.{◌≡◌, ℕ, List, [], ◌∷◌, ◌++◌, Option, unwrap_or, IsSome, refl, sym, ◌∙◌, ap, subst}
use Rattle.std.proofs.lemmas.Result.{IfOk-weaker}
use Rattle.std.specs.BTreeMap.{BTreeMap, get}
use Rattle.std.specs.Ordering.{nat_cmp}
use Rattle.xt_messages.specs.declared.record.Record.{Record}
use Rattle.xt_protocol.specs.Folds.{fold_of, logged_of}
use Rattle.object_store.specs.Bare.{bare_of}
use Rattle.object_store.proofs.BareFolds.{fold_bare, logged_bare}
use Rattle.world_spec.specs.World.{loads}
use Rattle.world_hull.specs.Appends.{with_deed}
use Rattle.world_hull.proofs.Failures.{on_err}
use Rattle.world_disk.specs.Ends.{IsReadAgain}
use Rattle.world_disk_hull.specs.Nodes.{disk_of, records_of}
use Rattle.world_disk_hull.specs.Views.{StoredView, none_stored}
use Rattle.world_disk_hull.specs.declared.disk_hull.DiskHull.{DiskHull}
use Rattle.world_disk_hull.proofs.Hulls.{logs, nodes_at, past_at, pasts, records_at, written_all, written_load, written_same, written_at, written_beside}
use Rattle.world_disk_hull.proofs.Endings.{both_ok, then_err}
use Rattle.world_disk_hull.proofs.disk_hull.DiskHullHull.revive.Goals as goal

-- a node without a store

pub returns-in_err-start_first-in-None-clause-records : goal.returns-in_err-start_first-in-None-clause-records
returns-in_err-start_first-in-None-clause-records c =
    on_err _ c.from_residual.result (
      c.in_err-start_first-in-None.ensures.records ∙ ap records_at c.get_mut.follows.holds-at-none,
      ap pasts c.in_err-start_first-in-None.ensures.failed ∙ ap past_at c.get_mut.follows.holds-at-none,
    )

pub returns-in_ok-start_first-in-None-clause-found : goal.returns-in_ok-start_first-in-None-clause-found
returns-in_ok-start_first-in-None-clause-found c =
    let same : c.new.result.items ≡ records_of c.args.self.now c.args.node.0 =
    c.new.ensures.items ∙ ap (λ (found : Option StoredView). (unwrap_or found none_stored).records) c.in-None.ensures.value in
    record {
      says = ap fold_of same;
      logged = ap logged_of same;
      kept = c.in_ok-start_first-in-None.ensures.records ∙ ap records_at c.get_mut.follows.holds-at-none;
      past = c.in_ok-start_first-in-None.ensures.past ∙ ap (λ (nodes : BTreeMap ℕ StoredView). with_deed (past_at nodes) c.args.node loads) c.get_mut.follows.holds-at-none;
    }

pub returns-in_ok-start_first-in-None-clause-read : goal.returns-in_ok-start_first-in-None-clause-read
returns-in_ok-start_first-in-None-clause-read c =
    let new : DiskHull = c.start_first.new.self in
    let same : records_of new ≡ records_of c.args.self.now = c.in_ok-start_first-in-None.ensures.records ∙ ap records_at c.get_mut.follows.holds-at-none in
    let none : [] ≡ records_of new c.args.node.0 =
    ap (λ (found : Option StoredView). (unwrap_or found none_stored).records) c.in-None.ensures.value ∙ sym (ap (λ (all : ℕ → List Record). all c.args.node.0) same) in
    subst (λ (records : List Record). IsReadAgain (disk_of c.args.self.now c.args.node.0) (disk_of new c.args.node.0) records) none
    (subst (λ (found : Option StoredView). IsReadAgain (unwrap_or found none_stored).disk (disk_of new c.args.node.0) []) c.in-None.ensures.value
    c.in_ok-start_first-in-None.ensures.read)

-- one with a store

pub returns-in-Some-clause-found : goal.returns-in-Some-clause-found
returns-in-Some-clause-found c =
    let before : StoredView = c.in-Some.own.now in
    let after : StoredView = c.read_again.new.self in
    let new : BTreeMap ℕ StoredView = c.get_mut.follows.lender after in
    let updates = (c.get_mut.follows.holds after).3 (subst IsSome c.in-Some.ensures.value refl) in
    let kept = records_of c.args.self.now c.args.node.0 in
    both_ok _ _ _ c.read_again.result c.read_again.ensures.found c.read_again.ensures.past
    (λ found is one.
    let same = is ∙ ap (λ (stored : Option StoredView). bare_of (unwrap_or stored none_stored).records) c.in-Some.ensures.value in
    record {
      says = ap fold_of same ∙ fold_bare kept;
      logged = ap logged_of same ∙ logged_bare kept;
      kept = written_same c.args.self.now.nodes new c.args.node.0 after updates
          (c.read_again.ensures.same ∙ ap (λ (stored : Option StoredView). (unwrap_or stored none_stored).records) c.in-Some.ensures.value);
      past = written_load c.args.self.now.nodes new c.args.node after updates
          (one ∙ ap (λ (stored : Option StoredView). (unwrap_or stored none_stored).past ++ loads ∷ []) c.in-Some.ensures.value);
    })

pub returns-in-Some-clause-bare : goal.returns-in-Some-clause-bare
returns-in-Some-clause-bare c =
    let before : StoredView = c.in-Some.own.now in
    IfOk-weaker c.read_again.result (λ found. found.items ≡ bare_of before.records) (λ found. found.items ≡ bare_of (records_of c.args.self.now c.args.node.0))
    (λ found is. is ∙ ap (λ (stored : Option StoredView). bare_of (unwrap_or stored none_stored).records) c.in-Some.ensures.value) c.read_again.ensures.found

pub returns-in-Some-clause-records : goal.returns-in-Some-clause-records
returns-in-Some-clause-records c =
    let after : StoredView = c.read_again.new.self in
    then_err _ _ c.read_again.result c.read_again.ensures.failed
    (λ same.
    let all : nodes_at (c.get_mut.follows.lender after) ≡ nodes_at c.args.self.now.nodes =
    written_all c.args.self.now.nodes (c.get_mut.follows.lender after) c.args.node.0 after
    ((c.get_mut.follows.holds after).3 (subst IsSome c.in-Some.ensures.value refl))
    (same ∙ ap (λ (stored : Option StoredView). unwrap_or stored none_stored) c.in-Some.ensures.value) in
    (ap logs all, ap pasts all))

pub returns-in-Some-clause-own_disk : goal.returns-in-Some-clause-own_disk
returns-in-Some-clause-own_disk c =
    let after : StoredView = c.read_again.new.self in
    then_err _ _ c.read_again.result c.read_again.ensures.failed
    (λ same. written_all c.args.self.now.nodes (c.get_mut.follows.lender after) c.args.node.0 after
    ((c.get_mut.follows.holds after).3 (subst IsSome c.in-Some.ensures.value refl))
    (same ∙ ap (λ (stored : Option StoredView). unwrap_or stored none_stored) c.in-Some.ensures.value))

pub returns-in-Some-clause-read : goal.returns-in-Some-clause-read
returns-in-Some-clause-read c =
    let before : StoredView = c.in-Some.own.now in
    let after : StoredView = c.read_again.new.self in
    let new : BTreeMap ℕ StoredView = c.get_mut.follows.lender after in
    let updates = (c.get_mut.follows.holds after).3 (subst IsSome c.in-Some.ensures.value refl) in
    IfOk-weaker c.read_again.result (λ _. IsReadAgain before.disk after.disk after.records)
    (λ _. IsReadAgain (disk_of c.args.self.now c.args.node.0) (unwrap_or (get nat_cmp new c.args.node.0) none_stored).disk
    (unwrap_or (get nat_cmp new c.args.node.0) none_stored).records)
    (λ _ is.
    subst (λ (stored : StoredView). IsReadAgain (disk_of c.args.self.now c.args.node.0) stored.disk stored.records)
    (sym (written_at c.args.self.now.nodes new c.args.node.0 after updates))
    (subst (λ (stored : Option StoredView). IsReadAgain (unwrap_or stored none_stored).disk after.disk after.records) c.in-Some.ensures.value is))
    c.read_again.ensures.read

pub returns-in-Some-clause-other_disks : goal.returns-in-Some-clause-other_disks
returns-in-Some-clause-other_disks c =
    let after : StoredView = c.read_again.new.self in
    written_beside c.args.self.now.nodes (c.get_mut.follows.lender after) c.args.node.0 after
    ((c.get_mut.follows.holds after).3 (subst IsSome c.in-Some.ensures.value refl))
