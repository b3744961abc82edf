use Rattle.std.proofs.Common.{◌≡◌, ◌++◌, map, take}
use Rattle.server_text.specs.Words.{behind}
use Rattle.server_text.specs.WordText.{text_of}
use Rattle.server_text.proofs.spelling.push_words.Given as goal

-- the words so far are spelled
abbrev pub invariant-loop-word : goal.invariant-loop-word
invariant-loop-word l = l.out.items ≡ l.fn.out.items ++ behind (map text_of (take l.word-index l.words))
