use Rattle.std.proofs.Common.{refl, arith, rules}
use Rattle.std.proofs.lemmas.Str.Pattern.{split_parts}
use Rattle.volume_rows.specs.Paths.{parts_of}
use Rattle.volume_rows.proofs.Parsing.{part_taken, last_taken}
use Rattle.volume_rows.proofs.paths.parts_of.Goals as goal

pub loop-part-preserved : goal.loop-part-preserved
loop-part-preserved c =
    let cut = rw c.in-Some.is at (split_parts 47 c.loop-part.rest.now c.split_once.result c.split_once.ensures.cases (omega arith)) in
    (part_taken c.loop-part.parts.items c.push.new.self.items c.in-Some.part c.loop-part.rest.now c.in-Some.later.now (parts_of c.args.text.now) c.loop-part.invariant.0 c.in_ok-push.ensures.items cut, search rules)

pub returns : goal.returns
returns c =
    let none = rw c.in_default.is at (split_parts 47 c.loop-part.rest.now c.split_once.result c.split_once.ensures.cases (omega arith)) in
    last_taken c.loop-part.parts.items c.push-2.new.self.items c.loop-part.rest c.loop-part.rest.now (parts_of c.args.text.now) c.loop-part.invariant.0 c.in_ok-push-2.ensures.items refl none
