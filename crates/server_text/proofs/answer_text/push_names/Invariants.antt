use Rattle.std.proofs.Common.{◌≡◌, ◌++◌, take}
use Rattle.server_text.specs.Words.{behind}
use Rattle.server_text.proofs.answer_text.push_names.Given as goal

-- what was gone over is spelled
abbrev pub invariant-loop-name : goal.invariant-loop-name
invariant-loop-name l = l.out.items ≡ l.fn.out.items ++ behind (take l.name-index l.names)
