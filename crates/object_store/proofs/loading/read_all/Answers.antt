use Rattle.std.proofs.Common.{◌∙◌, ap, get_or, subst, sym, true, arith}
use Rattle.std.proofs.lemmas.List.{get_or_default}
use Rattle.journal_moves.specs.declared.extent.Extent.{Extent}
use Rattle.journal_moves.specs.Extents.{bytes_in}
use Rattle.xt_messages.specs.declared.record.Record.{Record}
use Rattle.object_store.specs.declared.place.BodyPlace.{BodyPlace}
use Rattle.object_store.specs.Places.{IsPair}
use Rattle.object_store.proofs.Filled.{pair_of_bare}
use Rattle.object_store.proofs.Loaded.{all_from, bad_from, none_so_far_from, one_more}
use Rattle.object_store.proofs.loading.read_all.Goals as goal

pub loop-extent-init : goal.loop-extent-init
loop-extent-init g c =
    let D = g.D.Disk in
    record {
      source = c.in_ok-ahead.ensures.source;
      size = c.in_ok-ahead.ensures.size;
      so_far = none_so_far_from D.is_told (D.kept c.args.journal.now.disk).read c.new-log.result c.new-folding.result c.new-log.ensures.bare c.new-log.ensures.places c.new-folding.ensures;
    }

pub returns-in_default-clause-read : goal.returns-in_default-clause-read
returns-in_default-clause-read g c =
    let D = g.D.Disk in
    let extents = c.args.extents.now in
    let i = c.loop-extent.extent-index in
    let none : Extent = record { at = 0; len = 0 } in
    let e = get_or extents i none in
    let old = c.loop-extent.invariant in
    let bad = rw c.in_default.is at c.in_ok-rec.ensures.bad in
    bad_from D.is_told (D.kept c.args.journal.now.disk).read extents i e c.loop-extent-test.true (sym (get_or_default extents i e none c.loop-extent-test.true)) c.read_payload.new.payload.items
    (λ told. c.in-Ok.ensures.value told ∙ ap (λ d. bytes_in true (D.kept d).read e) old.source) c.loop-extent.log c.loop-extent.folding old.so_far c.len.result c.len.ensures
    (λ rec fits text place. bad rec fits (c.as_slice-bytes.ensures.value ∙ text) place)

pub push-requires : goal.push-requires
push-requires g c =
    subst (λ (r : Record). IsPair r c.of-place.result) (sym c.strip.ensures)
    (pair_of_bare c.in-Some.rec c.of-place.result (ap (λ (p : BodyPlace). p.len) c.of-place.ensures))

pub loop-extent-preserved : goal.loop-extent-preserved
loop-extent-preserved g c =
    let D = g.D.Disk in
    let extents = c.args.extents.now in
    let i = c.loop-extent.extent-index in
    let none : Extent = record { at = 0; len = 0 } in
    let e = get_or extents i none in
    let old = c.loop-extent.invariant in
    let is = rw c.in-Some.is at c.in_ok-rec.ensures.found in
    record {
      source = c.in-Ok.ensures.source ∙ old.source;
      size = c.in-Ok.ensures.size ∙ old.size;
      so_far =
          one_more D.is_told (D.kept c.args.journal.now.disk).read extents i e c.loop-extent-test.true (sym (get_or_default extents i e none c.loop-extent-test.true))
          c.read_payload.new.payload.items (λ told. c.in-Ok.ensures.value told ∙ ap (λ d. bytes_in true (D.kept d).read e) old.source) c.loop-extent.log c.loop-extent.folding old.so_far
          c.push.new.self c.take.new.self c.in-Some.rec is.0 (sym c.as_slice-bytes.ensures.value ∙ is.1) is.2 c.strip.new.rec c.of-place.result
          c.in_ok-take.ensures.ok c.strip.ensures c.of-place.ensures c.in_ok-push.ensures.bare c.in_ok-push.ensures.places;
    }

pub returns-clause-read : goal.returns-clause-read
returns-clause-read g c =
    let D = g.D.Disk in
    all_from D.is_told (D.kept c.args.journal.now.disk).read c.args.extents.now c.loop-extent.extent-index c.loop-extent.log c.loop-extent.folding (omega (arith, c.loop-extent-test.false))
    c.loop-extent.invariant.so_far
