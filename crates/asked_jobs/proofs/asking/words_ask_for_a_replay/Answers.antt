use Rattle.std.proofs.Common.{◌≡◌, false, Some, ◌∷◌, [], codes, refl}
use Rattle.command_words.specs.declared.job.Job.TheVariants as job
use Rattle.command_words.specs.Jobs.{job_of}
use Rattle.command_words.specs.Worked.{usual}
use Rattle.command_words.proofs.OnLiterals.{jobs_on_literals}
use Rattle.asked_jobs.proofs.asking.words_ask_for_a_replay.Goals as goal

replay_is : job_of usual false (codes "replay" ∷ []) ≡ Some job.Replay
unfolding jobs_on_literals
replay_is = refl

pub returns : goal.returns
returns c = replay_is
