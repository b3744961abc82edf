use Rattle.std.proofs.Common.{◌∙◌, ◌+◌, List, ap, subst, sym}
use Rattle.std.proofs.lemmas.Result.{IfOk-weaker}
use Rattle.std.specs.List.{All, sum_by}
use Rattle.xt_base.specs.Faults.{counted}
use Rattle.xt_protocol.specs.Forgetting.{rewritten}
use Rattle.object_store.specs.declared.copied.Copied.{Copied}
use Rattle.object_store.specs.Access.{records_of}
use Rattle.object_store.specs.Swapping.{FitsCopied}
use Rattle.store_compact.proofs.Heads.{may_compact}
use Rattle.check_job.specs.Reports.{area_part}
use Rattle.check_job.proofs.Parts.{all_fit, compacted_is, keep_is, size_is}
use Rattle.check_job.proofs.sizes.compacted_size.Goals as goal

pub area_size-requires : goal.area_size-requires
area_size-requires g c =
    let store = c.args.store.now in
    let kept = keep_is (records_of store) c.records.result.now c.in_ok-folded.folded c.in_ok-keep.keep c.records.ensures c.in_ok-folded.ensures c.in_ok-keep.ensures in
    let stands = may_compact c.heads_name_what_must_stay.ensures c.rewritten_records_may_be_kept.ensures (records_of store) c.in_ok-keep.keep c.requires kept in
    subst (λ (cs : List Copied). All FitsCopied cs) (sym c.as_slice.ensures.value)
    (all_fit {g = g.D.Disk} store c.in_ok-made.made.items c.in_ok-made.ensures.of (rewritten c.in_ok-keep.keep (records_of store)) c.in_ok-made.ensures.are stands)

pub returns : goal.returns
returns g c =
    let store = c.args.store.now in
    let kept = keep_is (records_of store) c.records.result.now c.in_ok-folded.folded c.in_ok-keep.keep c.records.ensures c.in_ok-folded.ensures c.in_ok-keep.ensures in
    let stands = may_compact c.heads_name_what_must_stay.ensures c.rewritten_records_may_be_kept.ensures (records_of store) c.in_ok-keep.keep c.requires kept in
    let parts =
    size_is {g = g.D.Disk} store c.in_ok-made.made.items c.in_ok-made.ensures.of (rewritten c.in_ok-keep.keep (records_of store)) c.in_ok-made.ensures.are stands in
    IfOk-weaker c.area_size.result _ _
    (λ size is. compacted_is (records_of store) c.in_ok-keep.keep (sum_by area_part c.in_ok-made.made.items + 1) size kept parts
    (is ∙ ap (λ (cs : List Copied). counted (sum_by area_part cs + 1)) c.as_slice.ensures.value))
    c.area_size.ensures
