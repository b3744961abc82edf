use Rattle.std.proofs.Common.{map, refl}
use Rattle.std.proofs.lemmas.Result.{on_ok_weaker}
use Rattle.volume_tree.specs.Tables.{kept_in}
use Rattle.volume_tree.proofs.Tables.{either, source_tabled, place_tabled, target_tabled, rename_tabled, rename_viewed, same_tabled}
use Rattle.volume_tree.proofs.table.Table.rename.Goals as goal

pub rename-requires-clause-there : goal.rename-requires-clause-there
rename-requires-clause-there c = source_tabled c.self.inside.top (kept_in c.self.inside.sizes) c.self.inside.next c.args.self.now (map (λ name. name.now) c.args.from.now) c.self.view_is c.self.invariant c.requires.there

pub rename-requires-clause-place : goal.rename-requires-clause-place
rename-requires-clause-place c = place_tabled c.self.inside.top (kept_in c.self.inside.sizes) c.self.inside.next c.args.self.now (map (λ name. name.now) c.args.to.now) c.self.view_is c.self.invariant c.requires.place

pub rename-requires-clause-free : goal.rename-requires-clause-free
rename-requires-clause-free c = target_tabled c.self.inside.top (kept_in c.self.inside.sizes) c.self.inside.next c.args.self.now (map (λ name. name.now) c.args.from.now) (map (λ name. name.now) c.args.to.now) c.self.view_is c.self.invariant c.requires.volume c.requires.free

pub invariant_of-self : goal.invariant_of-self
invariant_of-self c =
    either c.rename.result c.rename.ensures.ok c.rename.ensures.err
    (λ is. either c.rename.result c.rename.ensures.moved c.rename.ensures.err (λ moved. rename_tabled c.self.inside.top c.rename.new.self (kept_in c.self.inside.sizes) c.self.inside.next (map (λ name. name.now) c.args.from.now) (map (λ name. name.now) c.args.to.now) c.self.invariant c.requires.volume is moved c.rename.ensures.tree) (λ same. same_tabled c.self.inside.top c.rename.new.self (kept_in c.self.inside.sizes) (kept_in c.self.inside.sizes) c.self.inside.next c.self.invariant same (λ q. refl)))
    (λ same. same_tabled c.self.inside.top c.rename.new.self (kept_in c.self.inside.sizes) (kept_in c.self.inside.sizes) c.self.inside.next c.self.invariant same (λ q. refl))

pub returns-clause-ok : goal.returns-clause-ok
returns-clause-ok c = on_ok_weaker c.rename.result (λ is. rename_viewed c.self.inside.top c.rename.new.self (kept_in c.self.inside.sizes) c.self.inside.next c.args.self.now (map (λ name. name.now) c.args.from.now) (map (λ name. name.now) c.args.to.now) c.self.view_is c.self.invariant c.requires.volume is) c.rename.ensures.ok
