use Rattle.std.proofs.Common.{◌≡◌, ◌++◌, take}
use Rattle.trace_shapes.specs.Pictures.{rules_text}
use Rattle.trace_shapes.proofs.svg.push_rules.Given as goal

-- the rules so far are spelled
abbrev pub invariant-loop-rule : goal.invariant-loop-rule
invariant-loop-rule l = l.out.items ≡ l.fn.out.items ++ rules_text (take l.rule-index l.rules)
