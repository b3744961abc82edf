use Rattle.std.proofs.Common.{◌≡◌, ◌+◌, List, [], subst, arith, append-nil}
use Rattle.striping.specs.declared.Piece.{Piece}
use Rattle.striping.specs.Cover.{Covers}
use Rattle.striping.proofs.pieces.Goals as goal

pub returns : goal.returns
returns c =
    let Covered : List Piece → Type 0 = Covers c.args.stripe c.args.width c.args.offset (c.args.offset + c.args.len) in
    let ends : c.loop-from.from ≡ c.args.offset + c.args.len = omega arith in
    subst Covered (append-nil c.loop-from.pieces.items) (c.loop-from.invariant.1 [] ends)
