use Rattle.std.proofs.Common.{◌≡◌, ◌+◌, ◌-◌, ◌*◌, ℕ, List, length, take, drop, min, ◌∙◌, ap, arith, length-drop}
use Rattle.std.proofs.lemmas.List.{take_min}
use Rattle.xt_parts.proofs.cutting.payload_at.Goals as goal

-- A slice up to the end or up to so many bytes is that many bytes of the rest.
taken_from : (xs : List ℕ) (start n : ℕ) → take (min (length xs) (start + n) - start) (drop start xs) ≡ take n (drop start xs)
taken_from xs start n =
    let same : min (length xs) (start + n) - start ≡ min n (length (drop start xs)) = omega (arith, length-drop start xs) in
    ap (λ k. take k (drop start xs)) same ∙ take_min n (drop start xs)

pub returns-clause-exact : goal.returns-clause-exact
returns-clause-exact c =
    ap (λ k. take (k - c.args.index * 32768) (drop (c.args.index * 32768) c.args.message.now)) c.min.ensures
    ∙ taken_from c.args.message.now (c.args.index * 32768) 32768
