use Rattle.std.proofs.Common.{length}
use Rattle.asked_jobs.proofs.line.+are_words.Given as goal

-- each call has a word less
abbrev pub decreases-are_words : goal.decreases-are_words
decreases-are_words l = length l.words.now
