use Rattle.std.proofs.Common.{sym, subst, [], ◌∷◌}
use Rattle.xt_protocol.specs.Forgetting.{rewritten}
use Rattle.object_store.specs.Access.{records_of, disk_of}
use Rattle.node_runs.specs.Keeping.{KeepsOn}
use Rattle.node_runs.proofs.Keeping.{stays_so}
use Rattle.node_loop.proofs.Rewriting.{has_no_area, is_rewritten, rewrites_one}
use Rattle.node_loop.proofs.compacting.rewrite.Goals as goal

pub returns-in-Ok-clause-made : goal.returns-in-Ok-clause-made
returns-in-Ok-clause-made g c =
    let is = c.in-Ok.ensures in
    is_rewritten c.args.store c.args.keep.now is.made is.known c.in-Ok.store is.swaps.end

pub returns-in-Ok-clause-keeps : goal.returns-in-Ok-clause-keeps
returns-in-Ok-clause-keeps g c =
    let D = g.D.Disk in
    let old = c.args.store in
    let new = c.in-Ok.store in
    let is = c.in-Ok.ensures in
    subst (λ rs. KeepsOn D.is_told D.moment D.left_since (disk_of old) (disk_of new) (records_of old ∷ rs ∷ []))
    (sym (is_rewritten old c.args.keep.now is.made is.known new is.swaps.end).0)
    (rewrites_one old c.args.keep.now is.made is.known (disk_of new) is.swaps.any_moment)

pub returns-in-Err-Full-clause-made : goal.returns-in-Err-Full-clause-made
returns-in-Err-Full-clause-made g c =
    let is = rw c.in-Err-Full.field-0-is at c.in-Err-Full.ensures in
    has_no_area c.args.store c.args.keep.now is.made is.known c.in-Err-Full.store _ _ is.swaps.end

pub returns-in-Err-Full-clause-keeps : goal.returns-in-Err-Full-clause-keeps
returns-in-Err-Full-clause-keeps g c =
    let D = g.D.Disk in
    let old = c.args.store in
    let new = c.in-Err-Full.store in
    let end = (rw c.in-Err-Full.field-0-is at c.in-Err-Full.ensures).swaps.end in
    subst (λ rs. KeepsOn D.is_told D.moment D.left_since (disk_of old) (disk_of new) (records_of old ∷ rs ∷ [])) (sym end.records)
    (subst (λ d. KeepsOn D.is_told D.moment D.left_since (disk_of old) d (records_of old ∷ records_of old ∷ [])) (sym end.disk)
    (stays_so D.is_told D.kept D.moment D.left_since (disk_of old) (records_of old) old.keeps
    (λ image told left. g.met.D.Disk.only_now (disk_of old) image told left)))

pub returns-in-Err-Broken-clause-ends : goal.returns-in-Err-Broken-clause-ends
returns-in-Err-Broken-clause-ends g c =
    let is = rw c.in-Err-Broken.field-0-is at c.in-Err-Broken.ensures in
    rewrites_one c.args.store c.args.keep.now is.made is.known c.in-Err-Broken.disk is.swaps.any_moment

pub returns-in-Err-OutOfMemory-clause-ends : goal.returns-in-Err-OutOfMemory-clause-ends
returns-in-Err-OutOfMemory-clause-ends g c =
    let D = g.D.Disk in
    let old = c.args.store in
    let is = rw c.in-Err-OutOfMemory.field-0-is at c.in-Err-OutOfMemory.ensures in
    subst (λ d. KeepsOn D.is_told D.moment D.left_since (disk_of old) d (records_of old ∷ rewritten c.args.keep.now (records_of old) ∷ [])) (sym c.close.ensures)
    (rewrites_one old c.args.keep.now is.made is.known (disk_of c.in-Err-OutOfMemory.store) is.swaps.any_moment)
