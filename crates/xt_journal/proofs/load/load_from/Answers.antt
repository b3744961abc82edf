use Rattle.std.proofs.Common.{⊎_elim, inl, inr, ◌+◌, ◌<◌, length, subst, sym, ◌∙◌, ap, arith, true, false, None}
use Rattle.disk_model.specs.Disk.{Kept, IsImage}
use Rattle.disk_model.proofs.Moments.{joined, weaker}
use Rattle.xt_base.specs.Faults.{fault_count_after}
use Rattle.xt_journal.specs.Format.{end_of, KeepsIn}
use Rattle.xt_journal.specs.Loaded.{LeavesAsBefore}
use Rattle.xt_journal.specs.Parsed.{Gives, is_fault}
use Rattle.xt_journal.proofs.Outcomes.{an_err, follows, on_ok}
use Rattle.xt_journal.proofs.Ready.{image_later, left_later, making_failed, read_left, ready_keeps, same_trouble, settle_failed}
use Rattle.xt_journal.specs.Reading.{payloads_on}
use Rattle.xt_journal.proofs.load.load_from.Goals as goal

pub returns-in-Ok-clause-plan : goal.returns-in-Ok-clause-plan
returns-in-Ok-clause-plan g c told =
    let fails = g.D.Disk.fails in
    on_ok c.read_long.result (c.read_long.ensures.plan told)
    (λ goes. record {
      changes = 1;
      three = omega arith;
      one = λ ready. omega arith;
      goes_on = follows (fails c.args.disk.now) (fails c.prepare.new.disk) (fails c.read_long.new.disk) 1 1 0 0 (c.in-Ok.ensures.plan told) goes;
    })

pub returns-in-Ok-make_ready-clause-plan : goal.returns-in-Ok-make_ready-clause-plan
returns-in-Ok-make_ready-clause-plan g c told =
    let fails = g.D.Disk.fails in
    let made = c.in-Ok-make_ready.ensures.plan told in
    let read = ap (λ (k : Kept). k.read) (c.in-Ok-2.ensures.rests told) in
    let short : (13 < length (g.D.Disk.kept c.args.disk.now).read) → ⊥ = λ long. omega (arith, long, c.in-Ok-2.ensures.value told, c.if-len.false) in
    record {
      changes = 1 + made.0;
      three = omega (arith, made.1);
      one = λ ready. ⊎_elim (λ long. absurd (short long)) (λ fresh. omega (arith, made.2 (read ∙ fresh))) ready;
      goes_on = follows (fails c.args.disk.now) (fails c.prepare.new.disk) (fails c.make_ready.new.disk) 1 1 0 made.0 (c.in-Ok-2.ensures.plan told) made.3;
    }

pub returns-in-Err-make_ready-clause-any_moment : goal.returns-in-Err-make_ready-clause-any_moment
returns-in-Err-make_ready-clause-any_moment g c told =
    let D = g.D.Disk in
    let old = D.kept c.args.disk.now in
    let mid = D.kept c.prepare.new.disk in
    joined D.moment D.left_since c.args.disk.now c.prepare.new.disk c.make_ready.new.disk (IsImage old) (LeavesAsBefore mid) (LeavesAsBefore old)
    (c.prepare.ensures.any_moment told) (c.make_ready.ensures.any_moment told)
    (λ image was. inl was)
    (λ image left. image_later old mid image (c.in-Ok-2.ensures.rests told) (g.met.D.Disk.read_is_image c.args.disk.now told) left)

pub returns-in-Err-clause-same : goal.returns-in-Err-clause-same
returns-in-Err-clause-same g c told long =
    let D = g.D.Disk in
    read_left (D.kept c.args.disk.now) (D.kept c.prepare.new.disk) (c.in-Err.ensures.left told)

pub returns-in-Err-clause-left : goal.returns-in-Err-clause-left
returns-in-Err-clause-left g c told =
    let D = g.D.Disk in
    ⊎_elim (λ same. inl same) (λ rests. inr (inl rests)) (c.in-Err.ensures.left told)

pub returns-in-Err-clause-any_moment : goal.returns-in-Err-clause-any_moment
returns-in-Err-clause-any_moment g c told =
    let D = g.D.Disk in
    weaker D.moment D.left_since c.args.disk.now c.prepare.new.disk (IsImage (D.kept c.args.disk.now)) (LeavesAsBefore (D.kept c.args.disk.now)) (c.prepare.ensures.any_moment told) (λ image was. inl was)

pub returns-in-Err-clause-failed : goal.returns-in-Err-clause-failed
returns-in-Err-clause-failed g c told fault =
    let D = g.D.Disk in
    settle_failed (D.fails c.args.disk.now) (D.kept c.args.disk.now).read (c.in-Err.ensures.failed told (same_trouble c.in-Err.trouble fault))

pub returns-in-Err-clause-count : goal.returns-in-Err-clause-count
returns-in-Err-clause-count g c = c.in-Err.ensures.count

pub returns-in-Ok-clause-gives : goal.returns-in-Ok-clause-gives
returns-in-Ok-clause-gives g c told =
    let D = g.D.Disk in
    subst (λ (k : Kept). Gives k.read c.read_long.result) (c.in-Ok.ensures.rests told) (c.read_long.ensures.gives told)

pub returns-in-Ok-clause-fresh : goal.returns-in-Ok-clause-fresh
returns-in-Ok-clause-fresh g c told short =
    let D = g.D.Disk in
    absurd (omega (arith, short, c.in-Ok.ensures.value told, c.if-len.true))

pub returns-in-Ok-clause-same : goal.returns-in-Ok-clause-same
returns-in-Ok-clause-same g c told long =
    let D = g.D.Disk in
    ap (λ (k : Kept). k.read) (c.read_long.ensures.same ∙ c.in-Ok.ensures.rests told)

pub returns-in-Ok-clause-left : goal.returns-in-Ok-clause-left
returns-in-Ok-clause-left g c told =
    let D = g.D.Disk in
    an_err c.read_long.result (inr (inl (c.read_long.ensures.same ∙ c.in-Ok.ensures.rests told)))

pub returns-in-Ok-clause-any_moment : goal.returns-in-Ok-clause-any_moment
returns-in-Ok-clause-any_moment g c told =
    let D = g.D.Disk in
    let old = D.kept c.args.disk.now in
    let mid = D.kept c.prepare.new.disk in
    joined D.moment D.left_since c.args.disk.now c.prepare.new.disk c.read_long.new.disk (IsImage old) (IsImage mid) (LeavesAsBefore old)
    (c.prepare.ensures.any_moment told) (c.read_long.ensures.any_moment told)
    (λ image was. inl was)
    (λ image left. image_later old mid image (c.in-Ok.ensures.rests told) (g.met.D.Disk.read_is_image c.args.disk.now told) (inl left))

pub returns-in-Ok-clause-failed : goal.returns-in-Ok-clause-failed
returns-in-Ok-clause-failed g c told fault = absurd (c.read_long.ensures.sure told fault)

pub returns-in-Ok-clause-count : goal.returns-in-Ok-clause-count
returns-in-Ok-clause-count g c = c.read_long.ensures.count ∙ ap (fault_count_after (is_fault c.read_long.result)) c.in-Ok.ensures.count

pub returns-in-Ok-make_ready-clause-fresh : goal.returns-in-Ok-make_ready-clause-fresh
returns-in-Ok-make_ready-clause-fresh g c told short = c.in-Ok-make_ready.ensures.ready told

pub returns-in-Ok-make_ready-clause-same : goal.returns-in-Ok-make_ready-clause-same
returns-in-Ok-make_ready-clause-same g c told long =
    let D = g.D.Disk in
    absurd (omega (arith, long, c.in-Ok-2.ensures.value told, c.if-len.false))

pub returns-in-Err-make_ready-clause-same : goal.returns-in-Err-make_ready-clause-same
returns-in-Err-make_ready-clause-same g c told long =
    let D = g.D.Disk in
    absurd (omega (arith, long, c.in-Ok-2.ensures.value told, c.if-len.false))

pub returns-in-Ok-make_ready-clause-any_moment : goal.returns-in-Ok-make_ready-clause-any_moment
returns-in-Ok-make_ready-clause-any_moment g c told =
    let D = g.D.Disk in
    let old = D.kept c.args.disk.now in
    let mid = D.kept c.prepare.new.disk in
    joined D.moment D.left_since c.args.disk.now c.prepare.new.disk c.make_ready.new.disk (IsImage old) (LeavesAsBefore mid) (LeavesAsBefore old)
    (c.prepare.ensures.any_moment told) (c.make_ready.ensures.any_moment told)
    (λ image was. inl was)
    (λ image left. image_later old mid image (c.in-Ok-2.ensures.rests told) (g.met.D.Disk.read_is_image c.args.disk.now told) left)

pub returns-in-Err-make_ready-clause-left : goal.returns-in-Err-make_ready-clause-left
returns-in-Err-make_ready-clause-left g c told =
    let D = g.D.Disk in
    left_later (D.kept c.args.disk.now) (D.kept c.prepare.new.disk) (D.kept c.make_ready.new.disk) (c.in-Ok-2.ensures.rests told) (c.in-Err-make_ready.ensures.left told)

pub returns-in-Err-make_ready-clause-failed : goal.returns-in-Err-make_ready-clause-failed
returns-in-Err-make_ready-clause-failed g c told fault =
    let D = g.D.Disk in
    making_failed (D.fails c.args.disk.now) (D.fails c.prepare.new.disk) (D.kept c.args.disk.now).read (D.kept c.prepare.new.disk).read
    (ap (λ (k : Kept). k.read) (c.in-Ok-2.ensures.rests told)) (omega (arith, c.in-Ok-2.ensures.value told, c.if-len.false)) (c.in-Ok-2.ensures.plan told)
    (c.in-Err-make_ready.ensures.failed told)

pub returns-in-Ok-make_ready-clause-count : goal.returns-in-Ok-make_ready-clause-count
returns-in-Ok-make_ready-clause-count g c = c.in-Ok-make_ready.ensures.count ∙ ap (fault_count_after false) c.in-Ok-2.ensures.count

pub returns-in-Err-make_ready-clause-count : goal.returns-in-Err-make_ready-clause-count
returns-in-Err-make_ready-clause-count g c = c.in-Err-make_ready.ensures.count ∙ ap (fault_count_after true) c.in-Ok-2.ensures.count

pub returns-in-Ok-make_ready-clause-keeps : goal.returns-in-Ok-make_ready-clause-keeps
returns-in-Ok-make_ready-clause-keeps g c told =
    let D = g.D.Disk in
    let kept = D.kept c.make_ready.new.disk in
    let none = sym (ap (payloads_on (D.kept c.args.disk.now).read) c.new.ensures.items) in
    (subst (KeepsIn None kept) none (ready_keeps kept (c.in-Ok-make_ready.ensures.ready told)), ap end_of none)
