use Rattle.std.proofs.Common.{refl, rules}
use Rattle.osd_core.proofs.Keeping.{all_forget}
use Rattle.osd_core.proofs.slots.forget_all.Goals as goal

pub returns : goal.returns
returns c =
    record {
      slots = all_forget _ c.args.keep.now _ (λ k v b w g t. search rules) c.args.met.now.slots.entries c.retain.new.self.entries c.retain.ensures.filtered;
      rising = c.retain.ensures.ordered;
      busy = refl;
    }
