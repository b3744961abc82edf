use Rattle.std.proofs.Common.{◌≡◌, ◌∙◌, false, List, ℕ, Option, IfSome, ap, lit<, subst, sym}
use Rattle.command_words.specs.declared.job.Defaults.{Defaults}
use Rattle.command_words.specs.declared.job.Job.{Job}
use Rattle.command_words.specs.Jobs.{job_of}
use Rattle.command_words.specs.Worked.{usual}
use Rattle.asked_jobs.specs.Asking.{IsWithin}
use Rattle.asked_jobs.proofs.Ranges.{jobs_are_within}
use Rattle.asked_jobs.proofs.asking.asked_job.Goals as goal

within : (base : Defaults) (words : List (List ℕ)) (asked : Option Job) → base ≡ usual → asked ≡ job_of base false words → IfSome asked IsWithin
within base words asked is given =
    subst (λ (o : Option Job). IfSome o IsWithin) (sym (given ∙ ap (λ (b : Defaults). job_of b false words) is))
    (jobs_are_within usual words (lit< tt))

pub returns-clause-within : goal.returns-clause-within
returns-clause-within c = within c.usual.result c.args.words.now c.in_ok-asked.asked c.usual.ensures c.in_ok-asked.ensures
