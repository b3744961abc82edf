use Rattle.schedule_replay.proofs.Endings.{applied_grown}
use Rattle.schedule_replay.proofs.Schedules.{one_more, lines_fit, applied_safe}
use Rattle.schedule_replay.proofs.step.apply.Goals as goal

pub apply-requires-clause-values : goal.apply-requires-clause-values
apply-requires-clause-values g c = lines_fit _ (one_more _ c.args.line c.requires.run.formed c.requires.formed)

pub returns-clause-grown : goal.returns-clause-grown
returns-clause-grown g c = applied_grown g.H.Hull.room c.args.world.now c.apply.new.self c.args.line c.apply.result c.apply.ensures

pub returns-clause-safe : goal.returns-clause-safe
returns-clause-safe g c = applied_safe g.H.Hull.room c.args.world.now c.apply.new.self c.args.line c.apply.result c.requires.run c.requires.formed c.apply.ensures
