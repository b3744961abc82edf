use Rattle.std.proofs.Common.{◌≡◌, ◌-◌, ◌++◌, length}
use Rattle.server_text.specs.Reading.{each_word, text_in}
use Rattle.server_text.proofs.lists.names_in.Given as goal

-- the names that are read, and those of the rest
abbrev pub invariant-loop-count : goal.invariant-loop-count
invariant-loop-count l =
    l.names ++ each_word text_in (length l.fn.words - l._count) l.rest ≡ each_word text_in (length l.fn.words) l.fn.words
