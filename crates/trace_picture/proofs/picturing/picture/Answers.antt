use Rattle.std.proofs.Common.{ℕ, inl, subst, sym}
use Rattle.schedule_lines.specs.Causes.{HasCause}
use Rattle.trace_picture.specs.Pictured.{IsDrawn}
use Rattle.trace_picture.proofs.Causes.{drawn_cause}
use Rattle.trace_picture.proofs.picturing.picture.Goals as goal

pub returns-in-Ok-clause-pictured : goal.returns-in-Ok-clause-pictured
returns-in-Ok-clause-pictured g c =
    inl (
      c.in-Ok.entries.items,
      c.in-Ok.ensures.trace,
      subst (λ entries. IsDrawn entries (g.K.Sink.held c.args.out.now) (g.K.Sink.held c.put_picture.new.out) c.put_picture.result)
          c.as_slice.ensures.value c.put_picture.ensures.drawn,
    )

pub returns-in-Ok-clause-cause : goal.returns-in-Ok-clause-cause
returns-in-Ok-clause-cause g c =
    subst
    (λ (later : ℕ).
    HasCause (g.S.Source.fault_count c.args.src.now) later (g.K.Sink.fault_count c.args.out.now)
    (g.K.Sink.fault_count c.put_picture.new.out) c.put_picture.result)
    (sym c.in-Ok.ensures.faults)
    (drawn_cause (g.S.Source.fault_count c.args.src.now) (g.K.Sink.fault_count c.args.out.now) (g.K.Sink.fault_count c.put_picture.new.out)
    c.as_slice.result.now (g.K.Sink.held c.args.out.now) (g.K.Sink.held c.put_picture.new.out) c.put_picture.result
    c.put_picture.ensures.drawn c.put_picture.ensures.cause)
