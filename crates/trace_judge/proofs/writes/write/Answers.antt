use Rattle.std.proofs.Common.{ℕ, List, subst}
use Rattle.xt_base.specs.Overlay.{overlay}
use Rattle.time_line.specs.Content.{place_of}
use Rattle.sparse_bytes.specs.Sparse.{Tells}
use Rattle.trace_judge.proofs.writes.write.Goals as goal

pub returns : goal.returns
returns c = λ old tells.
    subst (λ (bytes : List ℕ). Tells c.write.new.self.size c.write.new.self.written (overlay old (place_of c.args.stripe c.args.object c.args.at) bytes)) c.as_slice.ensures
    (subst (λ (place : ℕ). Tells c.write.new.self.size c.write.new.self.written (overlay old place c.as_slice.result.now)) c.place_of.ensures.place
    (c.in_ok-write.ensures old tells))
