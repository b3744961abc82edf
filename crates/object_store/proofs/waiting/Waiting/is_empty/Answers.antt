use Rattle.std.proofs.Common.{true, ℕ, nat_eq, sym, ◌∙◌, ap}
use Rattle.object_store.specs.Places.{bytes_at}
use Rattle.object_store.proofs.Filled.{length-filled}
use Rattle.object_store.proofs.waiting.Waiting.is_empty.Goals as goal

pub returns : goal.returns
returns c =
    let waiting = c.args.self.now in
    let log = waiting.log in
    ap (λ (n : ℕ). nat_eq n 0) (c.len.ensures ∙ sym (length-filled (bytes_at true waiting.bytes.items) log.records.items log.bodies.items log.pairs))
