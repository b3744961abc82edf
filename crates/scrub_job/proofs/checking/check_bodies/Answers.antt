use Rattle.std.proofs.Common.{◌≡◌, ◌∙◌, List, ap, length, subst, sym}
use Rattle.std.specs.List.{All}
use Rattle.xt_protocol.specs.Folds.{fold_of}
use Rattle.object_store.specs.Access.{records_of}
use Rattle.scrub.specs.declared.found.Found.{Found}
use Rattle.scrub.specs.declared.listing.Item.{Item}
use Rattle.scrub.specs.Report.{seals_of}
use Rattle.scrub_job.specs.Checked.{AreFound, IsThere}
use Rattle.scrub_job.proofs.Checked.{all_there, as_long, items_loaded, report_on}
use Rattle.scrub_job.proofs.checking.check_bodies.Goals as goal

pub report_on-requires-after_bounds : goal.report_on-requires-after_bounds
report_on-requires-after_bounds g c κs within =
    let records = records_of c.args.store.now in
    subst (All (IsThere g.D.Disk.is_told records))
    (sym (c.as_slice.ensures.value
    ∙ items_loaded records c.records.result.now c.records-2.result.now c.in_ok-folded.folded c.in_ok-items.items.items c.records.ensures c.records-2.ensures
    c.in_ok-folded.ensures c.in_ok-items.ensures))
    (all_there c.loaded_bodies_are_there.ensures g.D.Disk.is_told records c.requires)

pub seals_of-requires : goal.seals_of-requires
seals_of-requires g c =
    ap length c.as_slice-3.ensures.value
    ∙ as_long g.D.Disk.is_told (records_of c.args.store.now) c.as_slice.result.now c.in_ok-report.report.items c.in_ok-report.ensures
    ∙ ap length (c.as_slice.ensures.value ∙ sym c.as_slice-2.ensures.value)

pub returns : goal.returns
returns g c =
    let records = records_of c.args.store.now in
    let loaded =
    items_loaded records c.records.result.now c.records-2.result.now c.in_ok-folded.folded c.in_ok-items.items.items c.records.ensures c.records-2.ensures
    c.in_ok-folded.ensures c.in_ok-items.ensures in
    record {
      is = report_on g.D.Disk.is_told records c.as_slice.result.now c.in_ok-report.report.items (c.as_slice.ensures.value ∙ loaded) c.in_ok-report.ensures;
      new = c.in_ok-seals.ensures
          ∙ (λ i. seals_of (c.as_slice-2.ensures.value i) (c.as_slice-3.ensures.value i))
          ∙ ap (λ (items : List Item). seals_of items c.in_ok-report.report.items) loaded;
    }
