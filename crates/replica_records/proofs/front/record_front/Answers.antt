use Rattle.std.proofs.Common.{◌≡◌, ◌∙◌, ◌++◌, ap, length, arith}
use Rattle.replica_records.specs.Fronts.{front_text}
use Rattle.replica_records.proofs.FrontText.{front_bound}
use Rattle.replica_records.proofs.front.record_front.Goals as goal

pub returns-clause-short : goal.returns-clause-short
returns-clause-short c =
    let text = front_text c.args.len c.args.rec.now in
    let is : c.in_ok-made.made ≡ text = c.in_ok-made.ensures ∙ c.in_ok-put_front.ensures ∙ ap (λ t. t ++ text) c.in_ok-writer.ensures in
    omega (arith, ap length is, front_bound c.args.len c.args.rec.now c.requires)
