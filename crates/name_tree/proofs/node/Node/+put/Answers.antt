use Rattle.std.proofs.Common.{◌∙◌, arith, String, Global, map, ap, sym, subst, List, ℕ, Bor}
use Rattle.std.specs.Prelude.{Option}
use Rattle.std.proofs.lemmas.Result.{on_ok_weaker, on_err_weaker}
use Rattle.std.specs.BTreeMap.{BTreeMap, insert_entry}
use Rattle.std.specs.String.{string_cmp}
use Rattle.volume_rows.specs.declared.Entry.{Entry}
use Rattle.volume_rows.specs.Rows.{Row}
use Rattle.name_tree.specs.Trees.{SameKind}
use Rattle.name_tree.proofs.Putting.{put_there, put_nothing, put_new, place_below, place_here}
use Rattle.name_tree.proofs.Sound.{flat_tree, single_tree, sound_same, sound_set, sound_insert, sound_entry}
use Rattle.volume_rows.proofs.Parsing.{no_names}
use Rattle.name_tree.proofs.Walking.{entry_there, kind_here, place_directory}
use Rattle.name_tree.proofs.node.Node.+put.Goals as goal

pub put-requires : goal.put-requires
put-requires t c = (omega (arith, c.in-Some.ensures.cases.1, c.decreases), (place_below c.self.inside.entry c.self.inside.kids.entries c.args.self.now c.in-Some-get_mut.kid.now _ c.in-Some.name.now.now (map (λ name. name.now) c.in-Some.rest.now) c.self.view_is (ap (map (λ (name : Bor (List ℕ)). name.now)) c.in-Some.ensures.cases.0) c.self.invariant.ordered c.in-Some-get_mut.ensures.value c.requires.place, subst (λ (o : Option Entry). SameKind o c.args.entry) (entry_there c.self.inside.entry c.self.inside.kids.entries c.args.self.now c.in-Some-get_mut.kid.now _ c.in-Some.name.now.now (map (λ name. name.now) c.in-Some.rest.now) c.self.view_is (ap (map (λ (name : Bor (List ℕ)). name.now)) c.in-Some.ensures.cases.0) c.self.invariant.ordered c.in-Some-get_mut.ensures.value) c.requires.kind))

pub returns-in-Some-get_mut-clause-ok : goal.returns-in-Some-get_mut-clause-ok
returns-in-Some-get_mut-clause-ok t c =
    on_ok_weaker c.put.result (λ new. put_there c.self.inside.entry c.self.inside.kids.entries (c.get_mut.follows.lender c.put.new.self).entries c.args.self.now c.in-Some-get_mut.kid.now c.put.new.self _ c.in-Some.name.now.now (map (λ name. name.now) c.in-Some.rest.now) c.args.entry c.self.view_is (ap (map (λ (name : Bor (List ℕ)). name.now)) c.in-Some.ensures.cases.0) c.self.invariant.ordered c.in-Some-get_mut.ensures.value (c.get_mut.follows.holds c.put.new.self).0 new) c.put.ensures.ok

pub returns-in-Some-get_mut-clause-err : goal.returns-in-Some-get_mut-clause-err
returns-in-Some-get_mut-clause-err t c =
    on_err_weaker c.put.result (λ same. put_nothing c.self.inside.entry c.self.inside.kids.entries (c.get_mut.follows.lender c.put.new.self).entries c.args.self.now c.in-Some-get_mut.kid.now c.put.new.self c.in-Some.name.now.now c.self.view_is c.in-Some-get_mut.ensures.value (c.get_mut.follows.holds c.put.new.self).0 same) c.put.ensures.err

pub returns-clause-ok : goal.returns-clause-ok
returns-clause-ok t c =
    let kids_is = ap (λ (m : BTreeMap (String Global) (List Row)). m.entries) c.get_mut.follows.holds-at-none in
    put_new c.self.inside.entry c.self.inside.kids.entries c.insert.new.self.entries c.args.self.now c.new-node.result _ c.in-Some.name.now.now (map (λ name. name.now) c.in-Some.rest.now) c.args.entry c.in_ok-from_str.field-0 c.self.view_is (ap (map (λ (name : Bor (List ℕ)). name.now)) c.in-Some.ensures.cases.0) c.self.invariant.ordered c.in_default-get_mut.ensures.value c.requires.place c.in_ok-from_str.ensures.ok c.new-node.ensures
    (c.in_ok-insert.ensures.entries ∙ ap (λ kids. insert_entry string_cmp kids c.in_ok-from_str.field-0 c.new-node.result) kids_is)

pub returns-in_default-clause-tree : goal.returns-in_default-clause-tree
returns-in_default-clause-tree t c =
    flat_tree c.args.entry c.self.inside.kids.entries (sound_entry c.self.inside.entry c.args.entry c.self.inside.kids.entries c.self.invariant (kind_here c.self.inside.entry c.args.entry c.self.inside.kids.entries c.args.self.now _ c.self.view_is (no_names c.args.names.now c.in_default.ensures.cases) c.requires.kind))

pub invariant_of-self-in-Some-get_mut : goal.invariant_of-self-in-Some-get_mut
invariant_of-self-in-Some-get_mut t c = sound_set c.self.inside.entry c.self.inside.kids.entries (c.get_mut.follows.lender c.put.new.self).entries c.put.new.self c.in-Some.name.now.now c.self.invariant (c.get_mut.follows.holds c.put.new.self).0 c.put.ensures.tree

pub returns-in-Some-get_mut-clause-tree : goal.returns-in-Some-get_mut-clause-tree
returns-in-Some-get_mut-clause-tree t c =
    flat_tree c.self.inside.entry (c.get_mut.follows.lender c.put.new.self).entries (sound_set c.self.inside.entry c.self.inside.kids.entries (c.get_mut.follows.lender c.put.new.self).entries c.put.new.self c.in-Some.name.now.now c.self.invariant (c.get_mut.follows.holds c.put.new.self).0 c.put.ensures.tree)

pub returns-in_err-from_str-clause-tree : goal.returns-in_err-from_str-clause-tree
returns-in_err-from_str-clause-tree t c =
    flat_tree c.self.inside.entry c.get_mut.follows.lender-at-none.entries (sound_same c.self.inside.entry c.self.inside.kids.entries c.get_mut.follows.lender-at-none.entries c.self.invariant (ap (λ (m : BTreeMap (String Global) (List Row)). m.entries) c.get_mut.follows.holds-at-none))

pub returns-in_err-insert-clause-tree : goal.returns-in_err-insert-clause-tree
returns-in_err-insert-clause-tree t c =
    flat_tree c.self.inside.entry c.insert.new.self.entries (sound_same c.self.inside.entry c.self.inside.kids.entries c.insert.new.self.entries c.self.invariant (c.in_err-insert.ensures.err ∙ (ap (λ (m : BTreeMap (String Global) (List Row)). m.entries) c.get_mut.follows.holds-at-none)))

pub invariant_of-self-2 : goal.invariant_of-self-2
invariant_of-self-2 t c =
    sound_insert c.self.inside.entry c.self.inside.kids.entries c.insert.new.self.entries c.new-node.result c.in_ok-from_str.field-0 c.self.invariant (c.in_ok-insert.ensures.entries ∙ ap (λ kids. insert_entry string_cmp kids c.in_ok-from_str.field-0 c.new-node.result) (ap (λ (m : BTreeMap (String Global) (List Row)). m.entries) c.get_mut.follows.holds-at-none)) (single_tree c.new-node.result c.args.entry c.new-node.ensures) c.in_ok-insert.ensures.ordered (place_directory c.self.inside.entry c.self.inside.kids.entries c.args.self.now _ c.in-Some.name.now.now (map (λ name. name.now) c.in-Some.rest.now) c.self.view_is (ap (map (λ (name : Bor (List ℕ)). name.now)) c.in-Some.ensures.cases.0) (place_here c.self.inside.entry c.self.inside.kids.entries c.args.self.now _ c.in-Some.name.now.now (map (λ name. name.now) c.in-Some.rest.now) c.self.view_is (ap (map (λ (name : Bor (List ℕ)). name.now)) c.in-Some.ensures.cases.0) c.self.invariant.ordered (sym c.in_default-get_mut.ensures.value) c.requires.place) c.requires.place)

pub returns-clause-tree : goal.returns-clause-tree
returns-clause-tree t c =
    flat_tree c.self.inside.entry c.insert.new.self.entries (sound_insert c.self.inside.entry c.self.inside.kids.entries c.insert.new.self.entries c.new-node.result c.in_ok-from_str.field-0 c.self.invariant (c.in_ok-insert.ensures.entries ∙ ap (λ kids. insert_entry string_cmp kids c.in_ok-from_str.field-0 c.new-node.result) (ap (λ (m : BTreeMap (String Global) (List Row)). m.entries) c.get_mut.follows.holds-at-none)) (single_tree c.new-node.result c.args.entry c.new-node.ensures) c.in_ok-insert.ensures.ordered (place_directory c.self.inside.entry c.self.inside.kids.entries c.args.self.now _ c.in-Some.name.now.now (map (λ name. name.now) c.in-Some.rest.now) c.self.view_is (ap (map (λ (name : Bor (List ℕ)). name.now)) c.in-Some.ensures.cases.0) (place_here c.self.inside.entry c.self.inside.kids.entries c.args.self.now _ c.in-Some.name.now.now (map (λ name. name.now) c.in-Some.rest.now) c.self.view_is (ap (map (λ (name : Bor (List ℕ)). name.now)) c.in-Some.ensures.cases.0) c.self.invariant.ordered (sym c.in_default-get_mut.ensures.value) c.requires.place) c.requires.place))
