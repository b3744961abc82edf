use Rattle.std.proofs.Common.{refl, ap, inr}
use Rattle.replica_records.specs.Known.{known_of}
use Rattle.node_loop.proofs.Packed.{map_on_err}
use Rattle.node_loop.proofs.sending.mail.Goals as goal

pub returns-then-is_empty-clause-prefix : goal.returns-then-is_empty-clause-prefix
returns-then-is_empty-clause-prefix g c =
    let empty = c.if-is_empty.ensures.empty refl in
    λ told. map_on_err c.send_all.result (λ front. (front.0, inr (ap (known_of told) empty.0, empty.1, empty.1, front.1))) c.send_all.ensures.front
