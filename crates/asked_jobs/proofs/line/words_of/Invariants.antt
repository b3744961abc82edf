use Rattle.std.proofs.Common.{◌≡◌, ◌++◌, length, IsUtf8}
use Rattle.command_words.specs.Worked.{words_in}
use Rattle.asked_jobs.proofs.line.words_of.Given as goal

-- the words so far, and those of the rest, which is UTF-8
abbrev pub invariant-loop-word : goal.invariant-loop-word
invariant-loop-word l = (l.words ++ words_in l.rest ≡ words_in l.fn.text) × IsUtf8 l.rest

-- the rest gets shorter
abbrev pub decreases-loop-word : goal.decreases-loop-word
decreases-loop-word l = length l.rest
