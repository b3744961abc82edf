use Rattle.std.proofs.Common.{sym, subst, refl}
use Rattle.std.specs.Prelude.{Some, None}
use Rattle.volume_rows.specs.declared.Stored.{Stored}
use Rattle.volume_tree.specs.Tables.{kept_in}
use Rattle.volume_tree.proofs.Numbers.{Changes}
use Rattle.volume_tree.proofs.Tables.{cut_nothing, cut_directory, cut_file, cut_viewed}
use Rattle.volume_tree.proofs.table.Table.cut.Goals as goal

pub invariant_of-self : goal.invariant_of-self
invariant_of-self c = cut_nothing c.self.inside.top c.take.new.self (kept_in c.self.inside.sizes) c.self.inside.next c.args.names.now c.self.invariant c.requires.below c.take.ensures.left c.take.ensures.tree c.in_default.ensures.taken

pub returns-in_default : goal.returns-in_default
returns-in_default c = cut_viewed c.self.inside.top c.take.new.self (kept_in c.self.inside.sizes) (kept_in c.self.inside.sizes) c.self.inside.next c.args.self.now c.args.names.now None c.self.view_is c.self.invariant c.requires.below c.take.ensures.left c.in_default.ensures.taken_tree c.in_default.ensures.taken c.requires.bare refl

pub invariant_of-self-in-Directory : goal.invariant_of-self-in-Directory
invariant_of-self-in-Directory c =
    cut_directory c.self.inside.top c.take.new.self c.in-Some.node (kept_in c.self.inside.sizes) c.self.inside.next c.args.self.now c.args.names.now c.own.result c.self.view_is c.self.invariant c.requires.below c.take.ensures.left c.take.ensures.tree c.in-Some.ensures.taken_tree c.in-Some.ensures.taken c.requires.bare (sym c.own.ensures) c.in-Directory.is

pub returns-in-Directory : goal.returns-in-Directory
returns-in-Directory c =
    cut_viewed c.self.inside.top c.take.new.self (kept_in c.self.inside.sizes) (kept_in c.self.inside.sizes) c.self.inside.next c.args.self.now c.args.names.now (Some c.in-Some.node) c.self.view_is c.self.invariant c.requires.below c.take.ensures.left c.in-Some.ensures.taken_tree c.in-Some.ensures.taken c.requires.bare refl

pub invariant_of-self-in-File : goal.invariant_of-self-in-File
invariant_of-self-in-File c =
    (cut_file c.self.inside.top c.take.new.self c.in-Some.node (kept_in c.self.inside.sizes) (kept_in c.remove.new.self) c.self.inside.next c.args.self.now c.args.names.now c.own.result c.in-File.stored c.self.view_is c.self.invariant c.requires.below c.take.ensures.left c.take.ensures.tree c.in-Some.ensures.taken_tree c.in-Some.ensures.taken c.requires.bare (sym c.own.ensures) c.in-File.is (subst (λ (s : Stored). Changes s.number None (kept_in c.self.inside.sizes) (kept_in c.remove.new.self)) c.in-File.stored-is c.remove.ensures.updates.0)).0

pub returns : goal.returns
returns c =
    cut_viewed c.self.inside.top c.take.new.self (kept_in c.self.inside.sizes) (kept_in c.remove.new.self) c.self.inside.next c.args.self.now c.args.names.now (Some c.in-Some.node) c.self.view_is c.self.invariant c.requires.below c.take.ensures.left c.in-Some.ensures.taken_tree c.in-Some.ensures.taken c.requires.bare
    (cut_file c.self.inside.top c.take.new.self c.in-Some.node (kept_in c.self.inside.sizes) (kept_in c.remove.new.self) c.self.inside.next c.args.self.now c.args.names.now c.own.result c.in-File.stored c.self.view_is c.self.invariant c.requires.below c.take.ensures.left c.take.ensures.tree c.in-Some.ensures.taken_tree c.in-Some.ensures.taken c.requires.bare (sym c.own.ensures) c.in-File.is (subst (λ (s : Stored). Changes s.number None (kept_in c.self.inside.sizes) (kept_in c.remove.new.self)) c.in-File.stored-is c.remove.ensures.updates.0)).1
