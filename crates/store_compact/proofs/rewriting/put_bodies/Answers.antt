use Rattle.std.proofs.Common.{◌≡◌, true, sym, ap, subst, ◌∙◌}
use Rattle.xt_base.specs.declared.ids.FileId.{FileId}
use Rattle.xt_messages.specs.declared.record.FileRow.{FileRow}
use Rattle.xt_protocol.specs.Folds.{digests_kept}
use Rattle.xt_protocol.specs.Forgetting.{is_kept, sealed_stage_of}
use Rattle.xt_protocol.specs.SeenBodies.{body_by}
use Rattle.object_store.specs.Access.{records_of}
use Rattle.store_compact.specs.Adding.{AreAdded}
use Rattle.store_compact.proofs.Added.{versions_more}
use Rattle.store_compact.proofs.rewriting.put_bodies.Goals as goal

pub loop-version-preserved-in-Continue-1 : goal.loop-version-preserved-in-Continue-1
loop-version-preserved-in-Continue-1 g c =
    let store = c.args.store.now in
    let file = c.args.row.now.file in
    let records = records_of {g = g.D.Disk} store in
    let version = c.in-Some.version.now in
    let said = sealed_stage_of (body_by records) (digests_kept records) in
    let same = ap (λ (r : FileRow). r.file) c.row.view_is in
    let chosen = subst (λ (f : FileId). is_kept c.args.keep.now f version ≡ true) same (sym c.has.ensures ∙ c.if-has.true) in
    let added = subst (λ (f : FileId). AreAdded {g = g.D.Disk} store c.loop-version.made.items c.put_body.new.made.items (said f version)) same c.in_ok-put_body.ensures in
    record {
      are =
          versions_more {g = g.D.Disk} store (said file) (is_kept c.args.keep.now file) c.loop-version.made.items c.put_body.new.made.items _ version
          c.loop-version.version-iterator c.next.new.self c.in-Some.ensures.steps chosen added c.loop-version.invariant.are;
      of = λ all. added.of (c.loop-version.invariant.of all);
    }
