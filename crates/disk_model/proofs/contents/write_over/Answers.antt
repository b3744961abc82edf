use Rattle.std.proofs.Common.{◌≡◌, ◌+◌, ◌-◌, ◌≤◌, ◌++◌, length, take, drop, max, ℕ, List, ◌∙◌, ap, ap₂, arith, vec_len, vec_capacity}
use Rattle.std.proofs.lemmas.Bool.{cond-true}
use Rattle.std.proofs.lemmas.List.{take_all, take_at, drop-drop}
use Rattle.xt_base.specs.Overlay.{zeros}
use Rattle.disk_model.specs.Laws.{length-overlay}
use Rattle.disk_model.proofs.Overlaid.{overlaid}
use Rattle.disk_model.proofs.contents.write_over.Goals as goal

pub returns-clause-items : goal.returns-clause-items
returns-clause-items c =
    let old = c.args.bytes.now.items in
    let piece = c.args.piece.now in
    let place = c.args.place in
    let long : length old ≡ vec_len c.args.bytes.now = omega (arith, c.args.bytes.now.ok.0) in
    let end : c.max.result ≡ max (vec_len c.args.bytes.now) (place + length piece) = omega (arith, c.max.ensures) in
    let room : c.max.result ≤ vec_capacity c.args.bytes.now = omega (arith, end, c.requires, c.args.bytes.now.ok.1) in
    let filled : c.resize.new.self.items ≡ old ++ zeros (place + length piece - length old) =
    c.resize.ensures.items ∙ cond-true _ _ _ (c.resize.ensures.succeeds room)
    ∙ ap₂ (λ (l : List ℕ) (n : ℕ). l ++ zeros n) (take_all _ old (omega (arith, end, long))) (omega (arith, end, long)) in
    let size : vec_len c.resize.new.self ≡ c.max.result =
    c.resize.ensures.len ∙ cond-true _ _ _ (c.resize.ensures.succeeds room) in
    let written =
    ap₂ (λ (p : List ℕ) (n : ℕ). take place c.as_mut_slice.result.now ++ (p ++ drop n (drop place c.as_mut_slice.result.now))) c.copy_from_slice.ensures.after (omega arith)
    ∙ ap (λ (l : List ℕ). take place c.as_mut_slice.result.now ++ (piece ++ l)) (drop-drop (length piece) place c.as_mut_slice.result.now)
    ∙ overlaid old piece c.as_mut_slice.result.now place (c.as_mut_slice.ensures.value ∙ filled) in
    take_at _ _ (vec_len c.resize.new.self) (omega (arith, ap length written, length-overlay place piece old, size, end, long)) ∙ written
