use Rattle.std.proofs.Common.{map, refl}
use Rattle.std.proofs.lemmas.Result.{on_ok_weaker}
use Rattle.volume_tree.specs.Tables.{kept_in}
use Rattle.volume_tree.proofs.Tables.{either, place_tabled, kind_tabled, put_tabled, put_viewed, same_tabled}
use Rattle.volume_tree.proofs.table.Table.put.Goals as goal

pub put-requires-clause-place : goal.put-requires-clause-place
put-requires-clause-place c =
    place_tabled c.self.inside.top (kept_in c.self.inside.sizes) c.self.inside.next c.args.self.now (map (λ name. name.now) c.args.names.now) c.self.view_is c.self.invariant c.requires.place

pub put-requires-clause-kind : goal.put-requires-clause-kind
put-requires-clause-kind c =
    kind_tabled c.self.inside.top (kept_in c.self.inside.sizes) c.self.inside.next c.args.self.now (map (λ name. name.now) c.args.names.now) c.args.entry c.self.view_is c.self.invariant c.requires.content

pub invariant_of-self : goal.invariant_of-self
invariant_of-self c =
    either c.put.result c.put.ensures.ok c.put.ensures.err
    (λ put. put_tabled c.self.inside.top c.put.new.self (kept_in c.self.inside.sizes) c.self.inside.next c.args.self.now c.args.names.now c.args.entry c.self.view_is c.self.invariant c.requires.below c.requires.content put c.put.ensures.tree)
    (λ same. same_tabled c.self.inside.top c.put.new.self (kept_in c.self.inside.sizes) (kept_in c.self.inside.sizes) c.self.inside.next c.self.invariant same (λ q. refl))

pub returns-clause-ok : goal.returns-clause-ok
returns-clause-ok c =
    on_ok_weaker c.put.result (λ put. put_viewed c.self.inside.top c.put.new.self (kept_in c.self.inside.sizes) c.self.inside.next c.args.self.now c.args.names.now c.args.entry c.self.view_is c.self.invariant c.requires.below c.requires.content put) c.put.ensures.ok
