use Rattle.std.proofs.Common.{◌∙◌, arith, map, ap, subst, List, ℕ, Bor, String, Global}
use Rattle.std.specs.Prelude.{Option, IsSome}
use Rattle.std.specs.BTreeMap.{BTreeMap}
use Rattle.volume_rows.specs.declared.Entry.{Entry}
use Rattle.volume_rows.specs.Rows.{Row, rows_within, rows_outside}
use Rattle.volume_rows.proofs.Parsing.{no_names}
use Rattle.name_tree.proofs.Grafting.{graft_root, root_outside, root_within, graft_there, outside_kept, within_grafted, nothing_there}
use Rattle.name_tree.proofs.Sound.{flat_tree, sound_same, sound_set}
use Rattle.name_tree.proofs.Walking.{entry_there}
use Rattle.name_tree.proofs.node.Node.+replace.Goals as goal

pub returns-in_default-clause-rows : goal.returns-in_default-clause-rows
returns-in_default-clause-rows t c = c.node.view_is ∙ graft_root c.args.self.now c.args.node (map (λ name. name.now) c.args.names.now) (no_names c.args.names.now c.in_default.ensures.cases) c.requires.tree

pub returns-in_default-clause-outside : goal.returns-in_default-clause-outside
returns-in_default-clause-outside t c =
    ap (rows_outside (map (λ name. name.now) c.args.names.now)) c.node.view_is ∙ root_outside c.args.self.now c.args.node (map (λ name. name.now) c.args.names.now) (no_names c.args.names.now c.in_default.ensures.cases)

pub returns-in_default-clause-within : goal.returns-in_default-clause-within
returns-in_default-clause-within t c =
    ap (rows_within (map (λ name. name.now) c.args.names.now)) c.node.view_is ∙ root_within c.args.node (map (λ name. name.now) c.args.names.now) (no_names c.args.names.now c.in_default.ensures.cases)

pub replace-requires : goal.replace-requires
replace-requires t c =
    (omega (arith, c.in-Some.ensures.cases.1, c.decreases), (subst (λ (o : Option Entry). IsSome o) (entry_there c.self.inside.entry c.self.inside.kids.entries c.args.self.now c.in-Some-get_mut.kid.now (map (λ name. name.now) c.args.names.now) c.in-Some.name.now.now (map (λ name. name.now) c.in-Some.rest.now) c.self.view_is (ap (map (λ (name : Bor (List ℕ)). name.now)) c.in-Some.ensures.cases.0) c.self.invariant.ordered c.in-Some-get_mut.ensures.value) c.requires.there, c.requires.tree))

pub invariant_of-self-in-Some-get_mut : goal.invariant_of-self-in-Some-get_mut
invariant_of-self-in-Some-get_mut t c = sound_set c.self.inside.entry c.self.inside.kids.entries (c.get_mut.follows.lender c.replace.new.self).entries c.replace.new.self c.in-Some.name.now.now c.self.invariant (c.get_mut.follows.holds c.replace.new.self).0 c.replace.ensures.tree

pub returns-in-Some-get_mut-clause-rows : goal.returns-in-Some-get_mut-clause-rows
returns-in-Some-get_mut-clause-rows t c =
    graft_there c.self.inside.entry c.self.inside.kids.entries (c.get_mut.follows.lender c.replace.new.self).entries c.args.self.now c.in-Some-get_mut.kid.now c.replace.new.self c.args.node (map (λ name. name.now) c.args.names.now) c.in-Some.name.now.now (map (λ name. name.now) c.in-Some.rest.now) c.self.view_is (ap (map (λ (name : Bor (List ℕ)). name.now)) c.in-Some.ensures.cases.0) c.self.invariant.ordered c.in-Some-get_mut.ensures.value (c.get_mut.follows.holds c.replace.new.self).0 c.replace.ensures.rows

pub returns-in-Some-get_mut-clause-outside : goal.returns-in-Some-get_mut-clause-outside
returns-in-Some-get_mut-clause-outside t c =
    outside_kept c.self.inside.entry c.self.inside.kids.entries (c.get_mut.follows.lender c.replace.new.self).entries c.args.self.now c.in-Some-get_mut.kid.now c.replace.new.self (map (λ name. name.now) c.args.names.now) c.in-Some.name.now.now (map (λ name. name.now) c.in-Some.rest.now) c.self.view_is (ap (map (λ (name : Bor (List ℕ)). name.now)) c.in-Some.ensures.cases.0) c.self.invariant.ordered c.in-Some-get_mut.ensures.value (c.get_mut.follows.holds c.replace.new.self).0 c.replace.ensures.outside

pub returns-in-Some-get_mut-clause-within : goal.returns-in-Some-get_mut-clause-within
returns-in-Some-get_mut-clause-within t c =
    within_grafted c.self.inside.entry c.self.inside.kids.entries (c.get_mut.follows.lender c.replace.new.self).entries c.in-Some-get_mut.kid.now c.replace.new.self c.args.node (map (λ name. name.now) c.args.names.now) c.in-Some.name.now.now (map (λ name. name.now) c.in-Some.rest.now) (ap (map (λ (name : Bor (List ℕ)). name.now)) c.in-Some.ensures.cases.0) c.self.invariant.ordered c.in-Some-get_mut.ensures.value (c.get_mut.follows.holds c.replace.new.self).0 c.replace.ensures.within

pub returns-in-Some-get_mut-clause-tree : goal.returns-in-Some-get_mut-clause-tree
returns-in-Some-get_mut-clause-tree t c =
    flat_tree c.self.inside.entry (c.get_mut.follows.lender c.replace.new.self).entries (sound_set c.self.inside.entry c.self.inside.kids.entries (c.get_mut.follows.lender c.replace.new.self).entries c.replace.new.self c.in-Some.name.now.now c.self.invariant (c.get_mut.follows.holds c.replace.new.self).0 c.replace.ensures.tree)

pub returns-clause-rows : goal.returns-clause-rows
returns-clause-rows t c =
    absurd (nothing_there c.self.inside.entry c.self.inside.kids.entries c.args.self.now (map (λ name. name.now) c.args.names.now) c.in-Some.name.now.now (map (λ name. name.now) c.in-Some.rest.now) c.self.view_is (ap (map (λ (name : Bor (List ℕ)). name.now)) c.in-Some.ensures.cases.0) c.self.invariant.ordered c.in_default-get_mut.ensures.value c.requires.there)

pub returns-clause-within : goal.returns-clause-within
returns-clause-within t c =
    absurd (nothing_there c.self.inside.entry c.self.inside.kids.entries c.args.self.now (map (λ name. name.now) c.args.names.now) c.in-Some.name.now.now (map (λ name. name.now) c.in-Some.rest.now) c.self.view_is (ap (map (λ (name : Bor (List ℕ)). name.now)) c.in-Some.ensures.cases.0) c.self.invariant.ordered c.in_default-get_mut.ensures.value c.requires.there)

pub returns-clause-tree : goal.returns-clause-tree
returns-clause-tree t c =
    flat_tree c.self.inside.entry c.get_mut.follows.lender-at-none.entries (sound_same c.self.inside.entry c.self.inside.kids.entries c.get_mut.follows.lender-at-none.entries c.self.invariant (ap (λ (m : BTreeMap (String Global) (List Row)). m.entries) c.get_mut.follows.holds-at-none))
