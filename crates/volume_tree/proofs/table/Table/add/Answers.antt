use Rattle.std.proofs.Common.{◌≡◌, map, subst, List, ℕ}
use Rattle.std.specs.Prelude.{Some}
use Rattle.volume_rows.specs.declared.Entry.{Entry}
use Rattle.volume_rows.specs.Rows.{with_row}
use Rattle.volume_tree.specs.Tables.{kept_in}
use Rattle.volume_tree.proofs.Numbers.{Changes}
use Rattle.volume_tree.proofs.Tables.{place_tabled, free_kind, first_sizes, add_tabled, add_viewed}
use Rattle.volume_tree.proofs.table.Table.add.Goals as goal

pub put-requires-clause-place : goal.put-requires-clause-place
put-requires-clause-place c = place_tabled c.self.inside.top (kept_in c.self.inside.sizes) c.self.inside.next c.args.self.now (map (λ name. name.now) c.args.names.now) c.self.view_is c.self.invariant c.requires.place

pub put-requires-clause-kind : goal.put-requires-clause-kind
put-requires-clause-kind c = free_kind c.self.inside.top (kept_in c.self.inside.sizes) c.self.inside.next c.args.self.now (map (λ name. name.now) c.args.names.now) _ c.self.view_is c.self.invariant c.requires.free

pub invariant_of-self-2 : goal.invariant_of-self-2
invariant_of-self-2 c = add_tabled c.self.inside.top c.put.new.self (kept_in c.self.inside.sizes) (kept_in c.insert.new.self) c.self.inside.next c.args.self.now c.args.names.now c.args.who c.args.mode c.args.location c.self.view_is c.self.invariant c.requires.below c.requires.free (subst (λ (volume : List ℕ). Changes c.self.inside.next (Some (first_sizes volume)) (kept_in c.self.inside.sizes) (kept_in c.insert.new.self)) c.volume_of.ensures c.in_ok-insert.ensures.updates.0) (subst (λ (entry : Entry). c.put.new.self ≡ with_row c.self.inside.top (record { path = (map (λ name. name.now) c.args.names.now); entry = entry })) c.new_file-entry.ensures c.in_default.ensures.ok) c.put.ensures.tree

pub returns-clause-ok : goal.returns-clause-ok
returns-clause-ok c = add_viewed c.self.inside.top c.put.new.self (kept_in c.self.inside.sizes) (kept_in c.insert.new.self) c.self.inside.next c.args.self.now c.args.names.now c.args.who c.args.mode c.args.location c.self.view_is c.self.invariant c.requires.below (subst (λ (volume : List ℕ). Changes c.self.inside.next (Some (first_sizes volume)) (kept_in c.self.inside.sizes) (kept_in c.insert.new.self)) c.volume_of.ensures c.in_ok-insert.ensures.updates.0) (subst (λ (entry : Entry). c.put.new.self ≡ with_row c.self.inside.top (record { path = (map (λ name. name.now) c.args.names.now); entry = entry })) c.new_file-entry.ensures c.in_default.ensures.ok)
