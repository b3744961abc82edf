use Rattle.std.proofs.Common.{◌≡◌, inl, ◌+◌, [], ◌∷◌, ◌++◌, refl, sym, ◌∙◌, ap, subst, arith}
use Rattle.disk_model.specs.Disk.{Kept, at_rest}
use Rattle.xt_base.specs.Overlay.{overlay}
use Rattle.disk_model.proofs.Moments.{joined, weaker}
use Rattle.xt_journal.specs.Append.{IsWithAllOrNone}
use Rattle.journal_records.specs.Calls.{IsTornAt, MayBeTorn}
use Rattle.xt_journal.specs.Format.{open_gate, KeepsIn}
use Rattle.xt_journal.proofs.Outcomes.{on_ok, an_err, both_err, later_failure}
use Rattle.xt_journal.proofs.Steps.{first_half, second_half, finished, first_stop, second_stop}
use Rattle.xt_journal.proofs.append.write_records.Goals as goal

pub returns-in_err-write_synced-clause-any_moment : goal.returns-in_err-write_synced-clause-any_moment
returns-in_err-write_synced-clause-any_moment g c told super payloads more turn =
    let D = g.D.Disk in
    weaker D.moment D.left_since c.args.disk.now c.write_synced.new.disk (MayBeTorn (c.args.end + 1) c.args.piece.now (D.kept c.args.disk.now).read) (IsWithAllOrNone payloads more)
    (c.write_synced.ensures.any_moment told turn.goes.keeps.rests)
    (λ image torn. inl (first_half super (D.kept c.args.disk.now) c.args.end c.args.piece.now payloads more turn image torn))

pub returns-in_err-write_synced-clause-stopped : goal.returns-in_err-write_synced-clause-stopped
returns-in_err-write_synced-clause-stopped g c told super payloads more turn =
    let torn = c.in_err-write_synced.ensures.torn told turn.goes.keeps.rests in
    let failed = c.in_err-write_synced.ensures.failed told in
    an_err c.from_residual.result (record {
      call = failed.0;
      some = failed.1;
      four = omega (arith, failed.2);
      first = failed.3;
      image = λ fill bytes filled. first_stop super (g.D.Disk.kept c.args.disk.now) c.args.end c.args.piece.now payloads more turn
          (g.D.Disk.kept c.write_synced.new.disk) failed.0 fill bytes failed.2 torn filled;
    })

pub returns-clause-done : goal.returns-clause-done
returns-clause-done g c told super payloads more turn =
    let D = g.D.Disk in
    let kept = D.kept c.args.disk.now in
    let mid = c.in_ok-write_synced.ensures.done told turn.goes.keeps.rests in
    let staged = overlay kept.read (c.args.end + 1) c.args.piece.now in
    on_ok c.write_synced-2.result (c.write_synced-2.ensures.done told (mid ∙ ap at_rest (ap (λ (k : Kept). k.read) (sym mid))))
    (λ done.
    let is : D.kept c.write_synced-2.new.disk ≡ at_rest (overlay staged c.args.end (open_gate ∷ [])) =
    done ∙ ap (λ (k : Kept). at_rest (overlay k.read c.args.end (open_gate ∷ []))) mid in
    subst (λ (k : Kept). KeepsIn super k (payloads ++ more)) (sym is)
    (record { rests = refl; journal = finished super kept c.args.end c.args.piece.now payloads more turn }))

pub returns-clause-any_moment : goal.returns-clause-any_moment
returns-clause-any_moment g c told super payloads more turn =
    let D = g.D.Disk in
    let kept = D.kept c.args.disk.now in
    let mid = c.in_ok-write_synced.ensures.done told turn.goes.keeps.rests in
    let staged = overlay kept.read (c.args.end + 1) c.args.piece.now in
    let second = c.write_synced-2.ensures.any_moment told (mid ∙ ap at_rest (ap (λ (k : Kept). k.read) (sym mid))) in
    joined D.moment D.left_since c.args.disk.now c.write_synced.new.disk c.write_synced-2.new.disk
    (MayBeTorn (c.args.end + 1) c.args.piece.now kept.read)
    (MayBeTorn c.args.end (open_gate ∷ []) (D.kept c.write_synced.new.disk).read)
    (IsWithAllOrNone payloads more)
    (c.write_synced.ensures.any_moment told turn.goes.keeps.rests) second
    (λ image torn. inl (first_half super kept c.args.end c.args.piece.now payloads more turn image torn))
    (λ image torn. second_half super kept c.args.end c.args.piece.now payloads more turn image
    (subst (λ (k : Kept). MayBeTorn c.args.end (open_gate ∷ []) k.read image) mid torn))

pub returns-clause-stopped : goal.returns-clause-stopped
returns-clause-stopped g c told super payloads more turn =
    let D = g.D.Disk in
    let kept = D.kept c.args.disk.now in
    let left = D.kept c.write_synced-2.new.disk in
    let first = c.in_ok-write_synced.ensures in
    let mid = first.done told turn.goes.keeps.rests in
    let torn = c.write_synced-2.ensures.torn told (mid ∙ ap at_rest (ap (λ (k : Kept). k.read) (sym mid))) in
    both_err c.write_synced-2.result torn (c.write_synced-2.ensures.failed told)
    (λ torn failed.
    let here : IsTornAt c.args.end (open_gate ∷ []) (overlay kept.read (c.args.end + 1) c.args.piece.now) left =
    subst (λ (k : Kept). IsTornAt c.args.end (open_gate ∷ []) k.read left) mid torn in
    record {
      call = 2 + failed.0;
      some = omega arith;
      four = omega (arith, failed.2);
      first = later_failure (D.fails c.args.disk.now) (D.fails c.write_synced.new.disk) (first.plan told) (first.succeeded told) failed.0 failed.3;
      image = λ fill bytes filled. second_stop super kept c.args.end c.args.piece.now payloads more turn left fill bytes here filled (2 + failed.0) (omega (arith, failed.1));
    })
