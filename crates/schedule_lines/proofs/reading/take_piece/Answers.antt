use Rattle.std.proofs.Common.{◌≤◌, List, ℕ, length, subst, sym}
use Rattle.schedule_lines.proofs.Pieces.{whole_piece, begun_piece}
use Rattle.schedule_lines.proofs.reading.take_piece.Goals as goal

pub returns-in_ok-extend_from_slice-in-Some-clause-piece : goal.returns-in_ok-extend_from_slice-in-Some-clause-piece
returns-in_ok-extend_from_slice-in-Some-clause-piece g c =
    whole_piece _ _ c.args.room c.min.result c.in-Some.at (g.S.Source.ahead c.args.src.now) c.ahead-ahead.result.now _ _
    c.ahead-ahead.ensures.bytes c.min.ensures c.in-Some.ensures.0 c.in-Some.ensures.1 c.in_ok-extend_from_slice-in-Some.ensures.items c.consume.ensures.taken

pub returns-in_ok-extend_from_slice-in-None-clause-piece : goal.returns-in_ok-extend_from_slice-in-None-clause-piece
returns-in_ok-extend_from_slice-in-None-clause-piece g c =
    begun_piece _ _ c.args.room c.min.result (g.S.Source.ahead c.args.src.now) c.ahead-ahead.result.now _ _
    c.ahead-ahead.ensures.bytes c.min.ensures (subst (λ (a : List ℕ). 1 ≤ length a) (sym c.ahead-ahead.ensures.bytes) c.requires.some) c.requires.room
    c.in-None.ensures c.in_ok-extend_from_slice-in-None.ensures.items c.consume-in-None.ensures.taken
