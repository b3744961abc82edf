use Rattle.std.proofs.Common.{ℕ, List, Option, sym, subst}
use Rattle.std.specs.Result.{OnOk}
use Rattle.xt_messages.specs.declared.file.Op.{Op}
use Rattle.judging.specs.Pass.{content_with}
use Rattle.sparse_bytes.specs.Sparse.{Tells}
use Rattle.trace_judge.proofs.Put.{write_on}
use Rattle.trace_judge.proofs.writes.change.Goals as goal

pub returns-in-Write : goal.returns-in-Write
returns-in-Write c =
    let w = c.in-Write in
    subst (λ (o : Option Op). OnOk c.write.result ((bytes : List ℕ) → Tells c.args.content.now.size c.args.content.now.written bytes → Tells c.write.new.content.size c.write.new.content.written (content_with c.args.stripe bytes o)))
    (sym (write_on c.args.file c.args.call.now w.f w.object w.at w.bytes w.is c.if-f-file.true)) c.write.ensures
