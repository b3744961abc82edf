-- the lines so far, and those of the turns that are left
use Rattle.std.proofs.Common.{◌≡◌, ◌∙◌, ◌<◌, ◌≤◌, ◌+◌, ◌-◌, ℕ, suc, List, ◌++◌, sym, ap, arith, append_assoc, append-nil}
use Rattle.time_line.specs.declared.line.Line.{Line}
use Rattle.schedule_maker.specs.Draws.{after_choice}
use Rattle.schedule_maker.specs.Generated.{opening, turn_from, turns_from, generated}

pub begun : (lines : List Line) (number size : ℕ) → lines ≡ opening → lines ++ turns_from (size - 0) 0 number ≡ generated number size
unfolding generated
begun lines number size is =
    let all : size - 0 ≡ size = omega arith in
    ap (λ (n : ℕ). lines ++ turns_from n 0 number) all ∙ ap (λ (ls : List Line). ls ++ turns_from size 0 number) is

turns_more : (size turn x : ℕ) → turn < size → turns_from (size - turn) turn x ≡ turn_from turn x ++ turns_from (size - (turn + 1)) (turn + 1) (after_choice x)
unfolding turns_from
turns_more size turn x less =
    let one : size - turn ≡ suc (size - (turn + 1)) = omega arith in
    ap (λ (n : ℕ). turns_from n turn x) one

pub goes_on : (lines longer all : List Line) (size turn x y : ℕ) → turn < size → longer ≡ lines ++ turn_from turn x → y ≡ after_choice x
    → lines ++ turns_from (size - turn) turn x ≡ all → longer ++ turns_from (size - (turn + 1)) (turn + 1) y ≡ all
goes_on lines longer all size turn x y less longer_is y_is so_far =
    let rest : List Line = turns_from (size - (turn + 1)) (turn + 1) (after_choice x) in
    ap (λ (z : ℕ). longer ++ turns_from (size - (turn + 1)) (turn + 1) z) y_is
    ∙ ap (λ (ls : List Line). ls ++ rest) longer_is
    ∙ append_assoc lines (turn_from turn x) rest
    ∙ ap (λ (ls : List Line). lines ++ ls) (sym (turns_more size turn x less))
    ∙ so_far

pub is_over : (lines all : List Line) (size turn x : ℕ) → size ≤ turn → lines ++ turns_from (size - turn) turn x ≡ all → lines ≡ all
unfolding turns_from
is_over lines all size turn x over so_far =
    let none : size - turn ≡ 0 = omega arith in
    sym (append-nil lines) ∙ ap (λ (n : ℕ). lines ++ turns_from n turn x) (sym none) ∙ so_far
