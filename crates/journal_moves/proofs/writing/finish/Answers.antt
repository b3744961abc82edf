use Rattle.std.proofs.Common.{ℕ, ◌+◌, ◌≤◌, ◌++◌, ◌∷◌, [], List, is_err, length, refl, sym, ◌∙◌, ap, arith, subst}
use Rattle.disk_model.specs.Disk.{Kept, at_rest}
use Rattle.disk_model.proofs.Moments.{elapsed, joined}
use Rattle.journal_moves.specs.Writing.{IsWritten, StaysOutside}
use Rattle.journal_moves.proofs.Outcomes.{an_ok}
use Rattle.journal_moves.proofs.Underway.{all_there, holds, leaves_now, leaves_synced, leaves_then, writes}
use Rattle.journal_moves.proofs.writing.finish.Goals as goal

pub returns-in_err-write_out-clause-any_moment : goal.returns-in_err-write_out-clause-any_moment
returns-in_err-write_out-clause-any_moment g c told bytes so_far place end is until =
    let D = g.D.Disk in
    let kept = D.kept c.args.disk.now in
    let mid = D.kept c.write_out.new.disk in
    let held = c.put_gate.new.buffer.items in
    let put = holds bytes place end kept c.args.at c.args.buffer.now.items so_far is held (0 ∷ []) c.put_gate.ensures.is in
    let inside : c.args.at + length held ≤ end = omega (arith, c.put_gate.ensures.size, until) in
    let wrote = c.write_out.ensures.writes told in
    elapsed D.moment D.left_since c.args.disk.now c.write_out.new.disk mid (λ (image : List ℕ). StaysOutside bytes image place end)
    (λ image left. leaves_now bytes place end kept c.args.at c.args.buffer.now.items so_far is image (g.met.D.Disk.only_now c.args.disk.now image told left))
    (c.write_out.ensures.time told)
    (λ image now. leaves_then bytes place end kept c.args.at held (so_far ++ 0 ∷ []) put mid wrote.synced wrote.written inside image now)

pub returns-clause-done : goal.returns-clause-done
returns-clause-done g c told bytes so_far place end is until =
    let D = g.D.Disk in
    let kept = D.kept c.args.disk.now in
    let mid = D.kept c.write_out.new.disk in
    let held = c.put_gate.new.buffer.items in
    let all = so_far ++ 0 ∷ [] in
    let put = holds bytes place end kept c.args.at c.args.buffer.now.items so_far is held (0 ∷ []) c.put_gate.ensures.is in
    let inside : c.args.at + length held ≤ end = omega (arith, c.put_gate.ensures.size, until) in
    let step = writes bytes place end kept c.args.at held all put mid ((c.in_ok-write_out.ensures.writes told).done refl) inside in
    let written = all_there bytes place end mid (c.args.at + length held) all step in
    an_ok c.sync.result
    (λ (ok : _).
    let done = (c.sync.ensures.syncs told).done ok in
    let same = ap (λ (k : Kept). k.read) (sym done) in
    (done ∙ ap at_rest same, subst (λ (l : List ℕ). IsWritten bytes l place end all) same written))

pub returns-clause-any_moment : goal.returns-clause-any_moment
returns-clause-any_moment g c told bytes so_far place end is until =
    let D = g.D.Disk in
    let kept = D.kept c.args.disk.now in
    let mid = D.kept c.write_out.new.disk in
    let held = c.put_gate.new.buffer.items in
    let all = so_far ++ 0 ∷ [] in
    let P : List ℕ → Type 0 = λ image. StaysOutside bytes image place end in
    let put = holds bytes place end kept c.args.at c.args.buffer.now.items so_far is held (0 ∷ []) c.put_gate.ensures.is in
    let inside : c.args.at + length held ≤ end = omega (arith, c.put_gate.ensures.size, until) in
    let wrote = c.write_out.ensures.writes told in
    let step = writes bytes place end kept c.args.at held all put mid ((c.in_ok-write_out.ensures.writes told).done refl) inside in
    let first =
    elapsed D.moment D.left_since c.args.disk.now c.write_out.new.disk mid P
    (λ image left. leaves_now bytes place end kept c.args.at c.args.buffer.now.items so_far is image (g.met.D.Disk.only_now c.args.disk.now image told left))
    (c.write_out.ensures.time told)
    (λ image now. leaves_then bytes place end kept c.args.at held all put mid wrote.synced wrote.written inside image now) in
    let second =
    elapsed D.moment D.left_since c.write_out.new.disk c.sync.new.self (D.kept c.sync.new.self) P
    (λ image left. leaves_now bytes place end mid (c.args.at + length held) [] all step image (g.met.D.Disk.only_now c.write_out.new.disk image told left))
    (c.sync.ensures.time told)
    (λ image now. leaves_synced bytes place end mid (c.args.at + length held) [] all step (D.kept c.sync.new.self) (is_err c.sync.result) (c.sync.ensures.syncs told) image now) in
    joined D.moment D.left_since c.args.disk.now c.write_out.new.disk c.sync.new.self P P P first second (λ image p. p) (λ image p. p)
