-- what a line of a cluster asks for
use Rattle.std.specs.Prelude.{ℕ, ◌==◌, ◌&&◌, not, Bool, true, if◌then◌else◌, List, length, Option, Some, None}
use Rattle.std.specs.List.{list_all}
use Rattle.std.specs.Str.{is_utf8}
use Rattle.command_words.specs.declared.job.ClientJob.{ClientJob}
use Rattle.command_words.specs.declared.job.Defaults.{Defaults}
use Rattle.command_words.specs.declared.job.Order.{Order}
use Rattle.command_words.specs.declared.job.Order.TheVariants as order
use Rattle.command_words.specs.declared.job.Job.{Job}
use Rattle.command_words.specs.declared.job.Job.TheVariants as job
use Rattle.command_words.specs.Jobs.{job_of}
use Rattle.command_words.specs.Worked.{words_in}
use Rattle.asked_jobs.specs.Asking.{EndsInFile}

-- a word has a byte
abbrev pub is_word : List ℕ → Bool
is_word word = not (length word == 0)

-- its words are parted by single spaces
abbrev pub has_words : List ℕ → Bool
has_words text = is_utf8 text && list_all is_word (words_in text)

abbrev pub client_in : Option Job → Option ClientJob
client_in (Some (job.Client client)) = Some client
client_in _ = None

-- The client command that a line asks for, if it asks for one. What it leaves out is as here.
abbrev pub line_job : Defaults → List ℕ → Option ClientJob
line_job base text = if has_words text then client_in (job_of base true (words_in text)) else None

-- a line has no source: its `put` writes bytes of the pattern
abbrev pub WritesPattern : Order → Type 0
WritesPattern (order.Put path None lies stripe) = ⊥
WritesPattern _ = Unit {0}

pub record IsLineWithin (client : ClientJob) : Type 0 where
  pub pattern : WritesPattern client.order
  pub range : EndsInFile client.order
