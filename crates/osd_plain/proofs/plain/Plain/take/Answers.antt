use Rattle.osd_plain.proofs.Heads.{rises_after}
use Rattle.osd_plain.proofs.plain.Plain.take.Goals as goal

pub invariant_of-self-in-Update-1 : goal.invariant_of-self-in-Update-1
invariant_of-self-in-Update-1 c =
    let call = c.update_head in
    rises_after call.result c.self.inside.head call.new.head c.in-Some-Update.update c.self.invariant call.ensures.ok call.ensures.same
