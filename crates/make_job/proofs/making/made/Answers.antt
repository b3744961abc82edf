use Rattle.std.proofs.Common.{◌∙◌, List, sym, ap, subst}
use Rattle.time_line.specs.declared.entry.Entry.{Entry}
use Rattle.time_line.specs.Bounds.{AreLines}
use Rattle.time_line.specs.Verdicts.{IsSafe}
use Rattle.world_spec.specs.World.{start_world}
use Rattle.world_safety.proofs.Whole.{runs_safe}
use Rattle.world_disk.specs.Room.{journal_room}
use Rattle.judging.specs.Laws.{TimesStandFirst}
use Rattle.schedule_maker.specs.Generated.{generated}
use Rattle.schedule_replay.specs.Replay.{AreDoneFrom}
use Rattle.make_job.specs.Counting.{counts_of, made_line}
use Rattle.make_job.proofs.Lines.{generated_fit}
use Rattle.make_job.proofs.Times.{run_times}
use Rattle.make_job.proofs.Replayed.{entries_are}
use Rattle.make_job.proofs.making.made.Goals as goal

pub replay_lines-requires-clause-values : goal.replay_lines-requires-clause-values
replay_lines-requires-clause-values g c =
    subst AreLines (sym (c.as_slice.ensures.value ∙ c.in-Ok.ensures)) (generated_fit c.args.number c.args.size c.requires)

pub audited-requires-clause-safe : goal.audited-requires-clause-safe
audited-requires-clause-safe g c κs within =
    let lines = generated c.args.number c.args.size in
    let are = entries_are journal_room lines _ _ _ (c.as_slice.ensures.value ∙ c.in-Ok.ensures) c.in_ok-replay_lines.ensures.1 c.entries.ensures in
    subst IsSafe (sym are) (runs_safe journal_room lines (generated_fit c.args.number c.args.size c.requires))

pub audited-requires-clause-times : goal.audited-requires-clause-times
audited-requires-clause-times g c κs within =
    let lines = generated c.args.number c.args.size in
    let are = entries_are journal_room lines _ _ _ (c.as_slice.ensures.value ∙ c.in-Ok.ensures) c.in_ok-replay_lines.ensures.1 c.entries.ensures in
    subst TimesStandFirst (sym are) (run_times journal_room lines (generated_fit c.args.number c.args.size c.requires))

pub returns-in-Ok-audited : goal.returns-in-Ok-audited
returns-in-Ok-audited g c =
    let lines = generated c.args.number c.args.size in
    let same = c.as_slice.ensures.value ∙ c.in-Ok.ensures in
    let are = entries_are journal_room lines _ _ _ same c.in_ok-replay_lines.ensures.1 c.entries.ensures in (
      (
        subst (AreDoneFrom journal_room start_world) same c.in_ok-replay_lines.ensures.0,
        runs_safe journal_room lines (generated_fit c.args.number c.args.size c.requires),
      ),
      c.in-Ok-audited.ensures ∙ ap (λ (es : List Entry). made_line c.args.number c.args.size (counts_of es)) are,
    )
