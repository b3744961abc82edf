use Rattle.std.proofs.Common.{◌≡◌, ◌∙◌, ◌+◌, ap, sym, length, take, arith}
use Rattle.ronly_replica.specs.Pins.{pins_of, last_of}
use Rattle.ronly_replica.proofs.Loops.{pin_more, pin_less, last_is, one_longer}
use Rattle.ronly_replica.proofs.ronly.pins_in.Goals as goal
use Rattle.ronly_replica.proofs.ronly.pins_in.Goals.{in-Some, in_default}

pub loop-row-preserved : goal.loop-row-preserved
loop-row-preserved c =
    let rows = c.as_slice-row-items.result.now in
    let i = c.loop-row.row-index in
    let row = c.row-item.result in
    elim c.match-pin_in.branch [
      | in-Some w ↦
          (let more = pin_more rows i row w.in-Some.pin c.loop-row-test.true c.row-item.is (sym c.pin_in.ensures ∙ w.in-Some.is) in
          let longer : length (pins_of (take (i + 1) rows)) ≡ length (pins_of (take i rows)) + 1 = ap length more ∙ one_longer (pins_of (take i rows)) w.in-Some.pin in
          let count = c.loop-row.invariant.0 in
          let few = c.loop-row.invariant.1 in
          (omega (arith, longer, count, w.pins-is), omega (arith, few, w.pins-is), w.last-is ∙ sym (last_is (pins_of (take i rows)) w.in-Some.pin) ∙ sym (ap last_of more)))
      | in_default w ↦
          (let same = pin_less rows i row c.loop-row-test.true c.row-item.is (sym c.pin_in.ensures ∙ w.in_default.is) in
          (w.pins-is ∙ c.loop-row.invariant.0 ∙ sym (ap (λ p. length p) same), omega (arith, c.loop-row.invariant.1, w.pins-is), w.last-is ∙ c.loop-row.invariant.2 ∙ sym (ap last_of same)))
    ]
