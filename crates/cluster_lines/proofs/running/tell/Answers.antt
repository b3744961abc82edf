use Rattle.schedule_lines.proofs.Streamed.{Puts-nothing}
use Rattle.cluster_lines.proofs.running.tell.Goals as goal

pub returns-clause-put : goal.returns-clause-put
returns-clause-put g c = Puts-nothing (g.K.Sink.held c.args.out.now)
