use Rattle.std.proofs.Common.{subst, refl}
use Rattle.std.specs.Prelude.{Option, IsSome}
use Rattle.volume_tree.specs.declared.table.Sizes.{Sizes}
use Rattle.volume_tree.specs.Tables.{kept_in}
use Rattle.volume_tree.proofs.Tables.{set_never, set_viewed}
use Rattle.volume_tree.proofs.table.Table.set_sizes.Goals as goal

pub returns-in_default : goal.returns-in_default
returns-in_default c = absurd (set_never c.self.inside.top (kept_in c.self.inside.sizes) c.self.inside.next c.args.self.now c.args.file.now c.self.view_is c.self.invariant c.in_default.ensures.value c.requires)

pub returns : goal.returns
returns c =
    set_viewed c.self.inside.top (kept_in c.self.inside.sizes) (kept_in (c.get_mut.follows.lender (record { volume = c.in-Some.kept.now.volume; epoch = c.args.epoch; mark = c.args.mark }))) c.self.inside.next c.args.self.now c.args.file.now c.in-Some.kept.now c.args.epoch c.args.mark c.self.view_is c.self.invariant c.in-Some.ensures.value c.requires ((c.get_mut.follows.holds (record { volume = c.in-Some.kept.now.volume; epoch = c.args.epoch; mark = c.args.mark })).3 (subst (λ (o : Option Sizes). IsSome o) c.in-Some.ensures.value refl)).0
