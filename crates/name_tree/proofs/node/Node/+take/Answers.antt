use Rattle.std.proofs.Common.{◌≡◌, map, ap, sym, List, ℕ, Bor, length}
use Rattle.std.specs.BTreeMap.{BTreeMap}
use Rattle.std.proofs.Common.{String, Global}
use Rattle.std.proofs.lemmas.Bool.Decides.{Decides-eqb}
use Rattle.volume_rows.specs.Rows.{Row}
use Rattle.name_tree.proofs.Taking.{here_left, here_taken, there_left, there_taken, none_left, none_taken}
use Rattle.volume_rows.proofs.Parsing.{no_names}
use Rattle.name_tree.proofs.Putting.{key_test}
use Rattle.name_tree.proofs.Sound.{flat_tree, sound_same, sound_set, sound_remove, taken_tree}
use Rattle.name_tree.proofs.node.Node.+take.Goals as goal

pub returns-then-is_empty-clause-left : goal.returns-then-is_empty-clause-left
returns-then-is_empty-clause-left t c =
    let none : length c.in-Some.rest.now ≡ 0 = (Decides-eqb (length c.in-Some.rest.now) 0).0 (sym c.if-is_empty.ensures) in
    here_left c.self.inside.entry c.self.inside.kids.entries c.remove.new.self.entries c.args.self.now _ c.in-Some.name.now.now (map (λ name. name.now) c.in-Some.rest.now) c.self.view_is (ap (map (λ (name : Bor (List ℕ)). name.now)) c.in-Some.ensures.cases.0) (no_names c.in-Some.rest.now none) c.self.invariant.ordered c.remove.ensures.entries

pub returns-then-is_empty-clause-taken : goal.returns-then-is_empty-clause-taken
returns-then-is_empty-clause-taken t c =
    let none : length c.in-Some.rest.now ≡ 0 = (Decides-eqb (length c.in-Some.rest.now) 0).0 (sym c.if-is_empty.ensures) in
    here_taken c.self.inside.entry c.self.inside.kids.entries c.args.self.now _ c.in-Some.name.now.now (map (λ name. name.now) c.in-Some.rest.now) c.remove.result c.self.view_is (ap (map (λ (name : Bor (List ℕ)). name.now)) c.in-Some.ensures.cases.0) (no_names c.in-Some.rest.now none) c.self.invariant.ordered c.remove.ensures.value

pub returns-in-Some-get_mut-clause-left : goal.returns-in-Some-get_mut-clause-left
returns-in-Some-get_mut-clause-left t c =
    there_left c.self.inside.entry c.self.inside.kids.entries (c.get_mut.follows.lender c.take.new.self).entries c.args.self.now c.in-Some-get_mut.kid.now c.take.new.self _ c.in-Some.name.now.now (map (λ name. name.now) c.in-Some.rest.now) c.self.view_is (ap (map (λ (name : Bor (List ℕ)). name.now)) c.in-Some.ensures.cases.0) c.self.invariant.ordered c.in-Some-get_mut.ensures.value (c.get_mut.follows.holds c.take.new.self).0 c.take.ensures.left

pub returns-in-Some-get_mut-clause-taken : goal.returns-in-Some-get_mut-clause-taken
returns-in-Some-get_mut-clause-taken t c =
    there_taken c.self.inside.entry c.self.inside.kids.entries c.args.self.now c.in-Some-get_mut.kid.now _ c.in-Some.name.now.now (map (λ name. name.now) c.in-Some.rest.now) c.take.result c.self.view_is (ap (map (λ (name : Bor (List ℕ)). name.now)) c.in-Some.ensures.cases.0) c.self.invariant.ordered c.in-Some-get_mut.ensures.value c.take.ensures.taken

pub returns-clause-left : goal.returns-clause-left
returns-clause-left t c =
    none_left c.self.inside.entry c.self.inside.kids.entries c.get_mut.follows.lender-at-none.entries c.args.self.now _ c.in-Some.name.now.now (map (λ name. name.now) c.in-Some.rest.now) c.self.view_is (ap (map (λ (name : Bor (List ℕ)). name.now)) c.in-Some.ensures.cases.0) c.in_default-get_mut.ensures.value (ap (λ (m : BTreeMap (String Global) (List Row)). m.entries) c.get_mut.follows.holds-at-none)

pub returns-clause-taken : goal.returns-clause-taken
returns-clause-taken t c =
    none_taken c.self.inside.entry c.self.inside.kids.entries c.args.self.now _ c.in-Some.name.now.now (map (λ name. name.now) c.in-Some.rest.now) c.self.view_is (ap (map (λ (name : Bor (List ℕ)). name.now)) c.in-Some.ensures.cases.0) c.in_default-get_mut.ensures.value

pub invariant_of-self : goal.invariant_of-self
invariant_of-self t c = sound_remove c.self.inside.entry c.self.inside.kids.entries c.remove.new.self.entries c.in-Some.name.now.now c.self.invariant c.remove.ensures.entries c.remove.ensures.ordered

pub returns-then-is_empty-clause-tree : goal.returns-then-is_empty-clause-tree
returns-then-is_empty-clause-tree t c =
    flat_tree c.self.inside.entry c.remove.new.self.entries (sound_remove c.self.inside.entry c.self.inside.kids.entries c.remove.new.self.entries c.in-Some.name.now.now c.self.invariant c.remove.ensures.entries c.remove.ensures.ordered)

pub returns-then-is_empty-clause-taken_tree : goal.returns-then-is_empty-clause-taken_tree
returns-then-is_empty-clause-taken_tree t c = taken_tree (key_test c.in-Some.name.now.now) c.remove.result c.self.inside.kids.entries c.self.invariant.trees c.remove.ensures.value

pub invariant_of-self-in-Some-get_mut : goal.invariant_of-self-in-Some-get_mut
invariant_of-self-in-Some-get_mut t c = sound_set c.self.inside.entry c.self.inside.kids.entries (c.get_mut.follows.lender c.take.new.self).entries c.take.new.self c.in-Some.name.now.now c.self.invariant (c.get_mut.follows.holds c.take.new.self).0 c.take.ensures.tree

pub returns-in-Some-get_mut-clause-tree : goal.returns-in-Some-get_mut-clause-tree
returns-in-Some-get_mut-clause-tree t c =
    flat_tree c.self.inside.entry (c.get_mut.follows.lender c.take.new.self).entries (sound_set c.self.inside.entry c.self.inside.kids.entries (c.get_mut.follows.lender c.take.new.self).entries c.take.new.self c.in-Some.name.now.now c.self.invariant (c.get_mut.follows.holds c.take.new.self).0 c.take.ensures.tree)

pub returns-clause-tree : goal.returns-clause-tree
returns-clause-tree t c =
    flat_tree c.self.inside.entry c.get_mut.follows.lender-at-none.entries (sound_same c.self.inside.entry c.self.inside.kids.entries c.get_mut.follows.lender-at-none.entries c.self.invariant (ap (λ (m : BTreeMap (String Global) (List Row)). m.entries) c.get_mut.follows.holds-at-none))
