use Rattle.std.proofs.Common.{◌∙◌, ap, sym, Bool, cond}
use Rattle.std.specs.Prelude.{Some, None}
use Rattle.std.specs.Option.{option_copied}
use Rattle.volume_tree.specs.Tables.{kept_in}
use Rattle.volume_tree.proofs.Tables.{told_none, told_some}
use Rattle.volume_tree.proofs.table.Table.sizes.Goals as goal

pub returns-in-Some : goal.returns-in-Some
returns-in-Some c =
    ap (λ (b : Bool). cond b (Some (c.in-Some.kept.now.epoch, c.in-Some.kept.now.mark)) None) (sym (sym c.eq.ensures ∙ c.if-eq.true)) ∙ told_some c.self.inside.top (kept_in c.self.inside.sizes) c.self.inside.next c.args.self.now c.args.file.now c.in-Some.kept.now c.self.view_is c.self.invariant c.in-Some.ensures.value

pub returns-in_default : goal.returns-in_default
returns-in_default c =
    ap (λ (b : Bool). cond b (Some (c.in-Some.kept.now.epoch, c.in-Some.kept.now.mark)) None) (sym (sym c.eq.ensures ∙ c.if-eq.false)) ∙ told_some c.self.inside.top (kept_in c.self.inside.sizes) c.self.inside.next c.args.self.now c.args.file.now c.in-Some.kept.now c.self.view_is c.self.invariant c.in-Some.ensures.value

pub returns-in_default-2 : goal.returns-in_default-2
returns-in_default-2 c = told_none c.self.inside.top (kept_in c.self.inside.sizes) c.self.inside.next c.args.self.now c.args.file.now c.self.view_is c.self.invariant (ap option_copied (sym c.in_default.is) ∙ c.get.ensures.value)
