use Rattle.std.proofs.Common.{◌≡◌, ℕ, ◌+◌, List, [], ◌∷◌, Some, None, sym, ◌∙◌, ap, subst, arith}
use Rattle.disk_model.specs.Disk.{Kept, at_rest}
use Rattle.disk_model.proofs.Moments.{joined, weaker}
use Rattle.xt_base.specs.Overlay.{overlay}
use Rattle.journal_records.specs.Calls.{MayBeTorn}
use Rattle.journal_areas.specs.Format.{open_gate}
use Rattle.journal_areas.specs.Areas.{StandsFor}
use Rattle.journal_areas.specs.Sites.{superblock_at}
use Rattle.journal_areas.proofs.Adding.{new_record}
use Rattle.journal_moves.specs.Moves.{IsAt}
use Rattle.journal_moves.proofs.Outcomes.{on_ok, both_ok, on_err, an_err, made_then, failed_then, failed_more}
use Rattle.journal_moves.proofs.Steps.{add_first, add_second, add_done}
use Rattle.journal_moves.proofs.parts.add_superblock.Goals as goal

pub returns-in_err-write_synced-clause-any_moment : goal.returns-in_err-write_synced-clause-any_moment
returns-in_err-write_synced-clause-any_moment g c told old is =
    let D = g.D.Disk in
    let kept = D.kept c.args.disk.now in
    weaker D.moment D.left_since c.args.disk.now c.write_synced.new.disk (MayBeTorn (c.args.end + 1) new_record kept.read) (λ (image : List ℕ). StandsFor image old)
    (c.write_synced.ensures.any_moment told is.keeps.rests)
    (λ image torn. add_first kept c.args.end old is image torn)

pub returns-clause-done : goal.returns-clause-done
returns-clause-done g c told old is =
    let D = g.D.Disk in
    let kept = D.kept c.args.disk.now in
    let mid = c.in_ok-write_synced.ensures.done told is.keeps.rests in
    on_ok c.write_synced-2.result (c.write_synced-2.ensures.done told (mid ∙ ap at_rest (ap (λ (k : Kept). k.read) (sym mid))))
    (λ done.
    let all : D.kept c.write_synced-2.new.disk ≡ at_rest (overlay (overlay kept.read (c.args.end + 1) new_record) c.args.end (open_gate ∷ [])) =
    done ∙ ap (λ (k : Kept). at_rest (overlay k.read c.args.end (open_gate ∷ []))) mid in
    subst (λ (k : Kept). IsAt (Some (superblock_at None c.args.end)) k (c.args.end + 56) old) (sym all) (add_done kept c.args.end old is))

pub returns-clause-any_moment : goal.returns-clause-any_moment
returns-clause-any_moment g c told old is =
    let D = g.D.Disk in
    let kept = D.kept c.args.disk.now in
    let mid = c.in_ok-write_synced.ensures.done told is.keeps.rests in
    joined D.moment D.left_since c.args.disk.now c.write_synced.new.disk c.write_synced-2.new.disk
    (MayBeTorn (c.args.end + 1) new_record kept.read)
    (MayBeTorn c.args.end (open_gate ∷ []) (D.kept c.write_synced.new.disk).read)
    (λ (image : List ℕ). StandsFor image old)
    (c.write_synced.ensures.any_moment told is.keeps.rests)
    (c.write_synced-2.ensures.any_moment told (mid ∙ ap at_rest (ap (λ (k : Kept). k.read) (sym mid))))
    (λ image torn. add_first kept c.args.end old is image torn)
    (λ image torn. add_second kept c.args.end old is image (subst (λ (k : Kept). MayBeTorn c.args.end (open_gate ∷ []) k.read image) mid torn))

pub returns-in_err-write_synced-clause-failed : goal.returns-in_err-write_synced-clause-failed
returns-in_err-write_synced-clause-failed g c told =
    let D = g.D.Disk in
    an_err c.from_residual.result (failed_more (D.fails c.args.disk.now) 2 4 (omega arith) (c.in_err-write_synced.ensures.failed told))

pub returns-clause-made : goal.returns-clause-made
returns-clause-made g c told =
    let D = g.D.Disk in
    let first = c.in_ok-write_synced.ensures in
    both_ok c.write_synced-2.result (c.write_synced-2.ensures.succeeded told) (c.write_synced-2.ensures.plan told)
    (λ all goes.
    made_then (D.fails c.args.disk.now) (D.fails c.write_synced.new.disk) (D.fails c.write_synced-2.new.disk) 2 2 (record { succeeded = first.succeeded told; plan = first.plan told })
    (record { succeeded = all; plan = goes }))

pub returns-clause-failed : goal.returns-clause-failed
returns-clause-failed g c told =
    let D = g.D.Disk in
    let first = c.in_ok-write_synced.ensures in
    on_err c.write_synced-2.result (c.write_synced-2.ensures.failed told)
    (λ failed. failed_then (D.fails c.args.disk.now) (D.fails c.write_synced.new.disk) 2 2 (record { succeeded = first.succeeded told; plan = first.plan told }) failed)
