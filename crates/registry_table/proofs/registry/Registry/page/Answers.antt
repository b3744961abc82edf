use Rattle.std.proofs.Common.{ℕ, Option, arith, subst, Bor}
use Rattle.std.specs.Option.{option_map}
use Rattle.registry_table.specs.declared.registry.Registered.{Registered}
use Rattle.registry_table.specs.Index.{IsFirstListed}
use Rattle.registry_table.proofs.Pages.{told_after, at_end, at_full}
use Rattle.registry_table.proofs.registry.Registry.page.Goals as goal

pub returns-in_default : goal.returns-in_default
returns-in_default c =
    let rows = c.args.self.now in
    let l = c.loop-count in
    let none = subst (λ (o : Option (ℕ × Bor Registered)). IsFirstListed rows c.args.kind l.last (option_map (λ r. (r.0, r.1.now)) o)) c.in_default.is c.next_of.ensures in
    at_end rows c.args.kind l.last l.page l._count (told_after rows c.args.kind c.args.after.0) l.invariant (omega (arith, c.loop-count-test.true)) none

pub returns : goal.returns
returns c =
    let rows = c.args.self.now in
    let l = c.loop-count in
    at_full rows c.args.kind l.last l.page l._count (told_after rows c.args.kind c.args.after.0) l.invariant (omega (arith, c.loop-count-test.false, l.auto._count-end))
