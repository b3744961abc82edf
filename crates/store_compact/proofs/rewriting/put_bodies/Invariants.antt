use Rattle.std.proofs.Common.{◌≡◌, ◌++◌}
use Rattle.std.specs.Prelude.{filter, flat_map}
use Rattle.std.specs.List.{All}
use Rattle.xt_protocol.specs.Folds.{digests_kept}
use Rattle.xt_protocol.specs.Forgetting.{is_kept, sealed_stage_of}
use Rattle.xt_protocol.specs.SeenBodies.{body_by}
use Rattle.object_store.specs.Access.{records_of}
use Rattle.store_compact.specs.Adding.{IsOf, all_copied_of}
use Rattle.store_compact.proofs.rewriting.put_bodies.Given as goal

-- what is put so far, and the kept bodies, each with its digests, among those that are left
abbrev pub invariant-loop-version : goal.invariant-loop-version
invariant-loop-version g l =
    let records = records_of {g = g.D.Disk} l.store in
    let said = sealed_stage_of (body_by records) (digests_kept records) l.row.file in
    record {
      are :
          all_copied_of {g = g.D.Disk} l.store l.made.items ++ flat_map said (filter (is_kept l.keep l.row.file) l.version-iterator)
          ≡ all_copied_of {g = g.D.Disk} l.store l.initial.made.items ++ flat_map said (filter (is_kept l.keep l.row.file) l.row.held);
      of : All (IsOf {g = g.D.Disk} l.store) l.initial.made.items → All (IsOf {g = g.D.Disk} l.store) l.made.items;
    }
