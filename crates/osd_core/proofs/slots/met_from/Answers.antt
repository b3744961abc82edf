use Rattle.std.proofs.Common.{◌≡◌, ◌∙◌, [], length, ap, sym, map-id, rules}
use Rattle.std.proofs.lemmas.Iterator.{items_from_drains}
use Rattle.std.proofs.lemmas.Iterator.Adapters.{YieldsList-from_vec}
use Rattle.std.specs.Vec.Iter.{into_iter_items, into_iter_len}
use Rattle.std.specs.BTreeMap.{insert_entry}
use Rattle.xt_protocol.specs.FileIds.{file_cmp}
use Rattle.osd_core.specs.declared.slot.Slot.TheVariants as slot
use Rattle.osd_core.specs.Slots.{Slots}
use Rattle.osd_core.proofs.Starting.{all_put, all_from, put_more}
use Rattle.osd_core.proofs.slots.met_from.Goals as goal

pub loop-row-preserved : goal.loop-row-preserved
loop-row-preserved c =
    let row = c.in-Some.row in
    c.in_ok-insert.ensures.entries ∙ ap (λ (es : Slots). insert_entry file_cmp es row.file (slot.Row row)) c.loop-row.invariant ∙ sym (put_more [] c.loop-row.yielded row)

pub loop-row-preserved-in_ok-insert : goal.loop-row-preserved-in_ok-insert
loop-row-preserved-in_ok-insert c =
    let row = c.in-Some.row in
    c.in_ok-insert.ensures.entries ∙ ap (λ (es : Slots). insert_entry file_cmp es row.file (slot.Row row)) c.loop-row.invariant ∙ sym (put_more [] c.loop-row.yielded row)

pub returns : goal.returns
returns c =
    let begins = c.into_iter-row-iterator.ensures.into_iter_gives in
    let items : into_iter_items c.into_iter-row-iterator.result ≡ c.args.rows = begins.0 ∙ c.rows.view_is in
    let many : into_iter_len c.into_iter-row-iterator.result ≡ length c.args.rows = search rules in
    let drained = items_from_drains c.loop-row.yielded (c.loop-row.row-iterator, c.loop-row.yielded_by, λ done. (c.next.new.self, c.in-None.ensures.steps)) (YieldsList-from_vec c.args.rows items many) in
    let whole : c.loop-row.yielded ≡ c.args.rows = sym (map-id c.loop-row.yielded) ∙ drained in
    c.loop-row.invariant ∙ ap (all_put []) whole ∙ all_from c.args.rows c.requires.files
