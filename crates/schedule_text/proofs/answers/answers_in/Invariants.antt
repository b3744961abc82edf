use Rattle.std.proofs.Common.{◌≡◌, ◌-◌, ◌++◌, length}
use Rattle.server_text.specs.Reading.{each_word}
use Rattle.schedule_text.specs.EntryReading.{answered_in}
use Rattle.schedule_text.proofs.answers.answers_in.Given as goal

-- the answers that are read, and those of the rest
abbrev pub invariant-loop-count : goal.invariant-loop-count
invariant-loop-count l =
    l.answers ++ each_word answered_in (length l.fn.words - l._count) l.rest ≡ each_word answered_in (length l.fn.words) l.fn.words
