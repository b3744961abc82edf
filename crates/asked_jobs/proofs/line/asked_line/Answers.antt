use Rattle.std.proofs.Common.{◌≡◌, ◌∙◌, true, List, ℕ, Option, IfSome, ap, subst, sym}
use Rattle.command_words.specs.declared.job.ClientJob.{ClientJob}
use Rattle.command_words.specs.declared.job.Defaults.{Defaults}
use Rattle.command_words.specs.declared.job.Job.{Job}
use Rattle.command_words.specs.Jobs.{job_of}
use Rattle.asked_jobs.specs.Lines.{client_in, IsLineWithin}
use Rattle.asked_jobs.proofs.Ranges.{lines_are_within}
use Rattle.asked_jobs.proofs.line.asked_line.Goals as goal

within : (cluster : Defaults) (words : List (List ℕ)) (asked : Option Job) (line : Option ClientJob) → line ≡ client_in asked → asked ≡ job_of cluster true words
    → IfSome line IsLineWithin
within cluster words asked line is given =
    subst (λ (o : Option ClientJob). IfSome o IsLineWithin) (sym (is ∙ ap client_in given)) (lines_are_within cluster words)

pub returns-clause-within : goal.returns-clause-within
returns-clause-within c = within c.args.cluster.now _ c.in_ok-asked.asked c.client_in.result c.client_in.ensures c.in_ok-asked.ensures
