use Rattle.std.proofs.Common.{◌∙◌, get_or}
use Rattle.std.proofs.lemmas.List.{get_or_default}
use Rattle.striping.specs.declared.Piece.{Piece}
use Rattle.object_store.specs.Access.{records_of}
use Rattle.ronly_replica.proofs.Loops.{shown_more}
use Rattle.ronly_replica.proofs.showing.range_of.Goals as goal

abbrev blank : Piece
blank = record { object = 0; at = 0; len = 0; owner = 0 }

pub loop-piece-preserved : goal.loop-piece-preserved
loop-piece-preserved g c = λ told.
    let pieces = c.as_slice-piece-items.result.now in
    let piece = get_or pieces c.loop-piece.piece-index blank in
    c.in_ok-extend_from_slice.ensures.items
    ∙ shown_more c.args.pin.now (records_of c.args.store.now) pieces c.loop-piece.piece-index piece c.loop-piece.made.items c.as_slice.result.now
    c.loop-piece-test.true (get_or_default pieces c.loop-piece.piece-index blank piece c.loop-piece-test.true) (c.loop-piece.invariant told) (c.as_slice.ensures ∙ c.in_ok-bytes.ensures.value told)
