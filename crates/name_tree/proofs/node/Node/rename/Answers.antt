use Rattle.std.proofs.Common.{map}
use Rattle.name_tree.proofs.Moving.{free_kind, something_taken, place_stays, move_is, moved_is}
use Rattle.name_tree.proofs.node.Node.rename.Goals as goal

pub put-requires-clause-kind : goal.put-requires-clause-kind
put-requires-clause-kind c = free_kind c.args.self.now (map (λ name. name.now) c.args.to.now) _ c.requires.free

pub returns-in_default-clause-ok : goal.returns-in_default-clause-ok
returns-in_default-clause-ok c = absurd (something_taken c.args.self.now c.put.new.self (map (λ name. name.now) c.args.from.now) (map (λ name. name.now) c.args.to.now) _ c.requires.apart c.in_ok-put.ensures.ok c.requires.there c.in_default.ensures.taken)

pub returns-in_default-clause-moved : goal.returns-in_default-clause-moved
returns-in_default-clause-moved c = absurd (something_taken c.args.self.now c.put.new.self (map (λ name. name.now) c.args.from.now) (map (λ name. name.now) c.args.to.now) _ c.requires.apart c.in_ok-put.ensures.ok c.requires.there c.in_default.ensures.taken)

pub replace-requires-clause-there : goal.replace-requires-clause-there
replace-requires-clause-there c = place_stays c.args.self.now c.put.new.self c.take.new.self (map (λ name. name.now) c.args.from.now) (map (λ name. name.now) c.args.to.now) _ c.requires.apart c.in_ok-put.ensures.ok c.take.ensures.left

pub returns-clause-ok : goal.returns-clause-ok
returns-clause-ok c =
    move_is c.args.self.now c.put.new.self c.take.new.self c.replace.new.self c.in-Some.node (map (λ name. name.now) c.args.from.now) (map (λ name. name.now) c.args.to.now) _ c.requires.apart c.requires.free c.in_ok-put.ensures.ok c.take.ensures.left c.in-Some.ensures.taken c.replace.ensures.rows

pub returns-clause-moved : goal.returns-clause-moved
returns-clause-moved c =
    moved_is c.args.self.now c.put.new.self c.take.new.self c.replace.new.self c.in-Some.node (map (λ name. name.now) c.args.from.now) (map (λ name. name.now) c.args.to.now) _ c.requires.apart c.requires.free c.in_ok-put.ensures.ok c.take.ensures.left c.in-Some.ensures.taken c.replace.ensures.outside c.replace.ensures.within
