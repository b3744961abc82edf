use Rattle.std.proofs.Common.{Option, refl, subst}
use Rattle.osd_core.specs.declared.slot.Slot.{Slot}
use Rattle.osd_core.specs.Slots.{GivesMore}
use Rattle.osd_core.proofs.slots.wake_at.Goals as goal

pub returns-in_default : goal.returns-in_default
returns-in_default c =
    subst (λ (o : Option Slot). GivesMore c.args.now o c.args.woken.now c.args.woken.now) c.in_default.ensures.value refl
