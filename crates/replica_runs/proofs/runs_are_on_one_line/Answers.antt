-- What the history that the last world shows says of its marks.
use Rattle.std.proofs.Common.{subst, sym}
use Rattle.std.specs.Prelude.{map}
use Rattle.replica_safety.specs.Epochs.{name}
use Rattle.replica_safety.specs.Line.{AreOnOneLine, line_of}
use Rattle.replica_safety.specs.Lists.{AreDistinct}
use Rattle.replica_safety.proofs.Conclusions.{line_distinct}
use Rattle.replica_runs.specs.Made.{IsMade}
use Rattle.replica_runs.specs.Steps.{begin, after_all}
use Rattle.replica_runs.proofs.Seen.{reads_show, answers_fresh, has_epochs}
use Rattle.replica_runs.proofs.Shows.{all_steps, begins, line_made}
use Rattle.replica_runs.proofs.runs_are_on_one_line.Goals as goal

pub returns-clause-one_line : goal.returns-clause-one_line
returns-clause-one_line c stripe ops members start steps b may =
    let is = all_steps (IsMade stripe ops) members start (begin start) steps may (begins (IsMade stripe ops) members start b) in
    subst (AreOnOneLine start.line) (sym is.shows.acts) is.shows.sound.told

pub returns-clause-once : goal.returns-clause-once
returns-clause-once c stripe ops members start steps b may =
    let is = all_steps (IsMade stripe ops) members start (begin start) steps may (begins (IsMade stripe ops) members start b) in
    subst (λ as_acts. AreDistinct (map name (line_of start.line as_acts))) (sym is.shows.acts) (line_distinct members start is.state is.shows.sound)

pub returns-clause-answers : goal.returns-clause-answers
returns-clause-answers c stripe ops members start steps b may =
    (all_steps (IsMade stripe ops) members start (begin start) steps may (begins (IsMade stripe ops) members start b)).shows.answers

pub returns-clause-made : goal.returns-clause-made
returns-clause-made c stripe ops members start steps b may =
    line_made (IsMade stripe ops) members start _ (all_steps (IsMade stripe ops) members start (begin start) steps may (begins (IsMade stripe ops) members start b))

pub returns-clause-reads : goal.returns-clause-reads
returns-clause-reads c stripe ops members start steps b may =
    let is = all_steps (IsMade stripe ops) members start (begin start) steps may (begins (IsMade stripe ops) members start b) in
    reads_show stripe ops start (after_all (begin start) steps).marks is.shows.answers (line_made (IsMade stripe ops) members start _ is)

pub returns-clause-fresh : goal.returns-clause-fresh
returns-clause-fresh c stripe ops members start steps b may =
    answers_fresh start (after_all (begin start) steps).marks
    (all_steps (IsMade stripe ops) members start (begin start) steps may (begins (IsMade stripe ops) members start b)).shows.answers

pub returns-clause-epochs : goal.returns-clause-epochs
returns-clause-epochs c stripe ops members start steps b may =
    has_epochs (IsMade stripe ops) members start _ (all_steps (IsMade stripe ops) members start (begin start) steps may (begins (IsMade stripe ops) members start b))
