use Rattle.std.proofs.Common.{◌≡◌, ℕ, [], ◌∷◌, filter, sym, subst}
use Rattle.std.specs.Map.Iter.{deref}
use Rattle.std.proofs.lemmas.Map.Iter.{rest_all, rest_more}
use Rattle.registry_table.specs.declared.registry.Registered.{Registered}
use Rattle.registry_table.specs.Registry.{Rows, is_listed}
use Rattle.registry_table.proofs.Index.{nothing_found, other_found, found_row, never_missing}
use Rattle.registry_table.proofs.registry.Registry.next_of.Goals as goal

pub returns-in_default : goal.returns-in_default
returns-in_default c =
    let rows = c.self.inside.rows in
    let none = rest_all deref c.range.result c.next.new.self c.next.result c.in_default.is c.next.ensures.steps in
    subst (λ (r : Rows). filter (is_listed c.args.kind c.args.after) r ≡ []) c.self.view_is
    (nothing_found rows c.self.inside.kinds c.args.kind c.args.after c.range.result c.self.invariant (c.range.ensures.in_range tt) none)

pub returns-then-of-kind : goal.returns-then-of-kind
returns-then-of-kind c =
    let rows = c.self.inside.rows in
    let key = c.in-Some.key in
    let first = rest_more deref c.range.result c.next.new.self c.next.result key c.in-Some.is c.next.ensures.steps in
    subst (λ (r : Rows). filter (is_listed c.args.kind c.args.after) r ≡ []) c.self.view_is
    (other_found rows c.self.inside.kinds c.args.kind c.args.after c.range.result c.self.invariant (c.range.ensures.in_range tt) key.now c.next.new.self first c.if-of-kind.true)

pub returns-in-Some-get : goal.returns-in-Some-get
returns-in-Some-get c =
    let rows = c.self.inside.rows in
    let key = c.in-Some.key in
    let first = rest_more deref c.range.result c.next.new.self c.next.result key c.in-Some.is c.next.ensures.steps in
    let row = c.in-Some-get.row.now in
    let item : ℕ × Registered = (key.now.1, row) in
    subst (λ (r : Rows). filter (is_listed c.args.kind c.args.after) r ≡ item ∷ filter (is_listed c.args.kind key.now.1) r) c.self.view_is
    (found_row rows c.self.inside.kinds c.args.kind c.args.after c.range.result c.self.invariant (c.range.ensures.in_range tt) key.now c.next.new.self first c.if-of-kind.false row (sym c.in-Some-get.ensures.value))

pub returns-in-None : goal.returns-in-None
returns-in-None c =
    let rows = c.self.inside.rows in
    let key = c.in-Some.key in
    let first = rest_more deref c.range.result c.next.new.self c.next.result key c.in-Some.is c.next.ensures.steps in
    absurd (never_missing rows c.self.inside.kinds c.args.kind c.args.after c.range.result c.self.invariant (c.range.ensures.in_range tt) key.now c.next.new.self first c.if-of-kind.false (sym c.in-None.ensures.value))
