use Rattle.std.proofs.Common.{◌<◌, ◌^◌, ◌∙◌, subst, sym}
use Rattle.xt_base.specs.declared.ids.NodeId.{NodeId}
use Rattle.xt_protocol.specs.FileStates.{members_of}
use Rattle.osd_files.specs.Leads.{place_of}
use Rattle.osd_files.proofs.Drawn.{drawn_notable}
use Rattle.osd_files.proofs.leases.led_on.Goals as goal

pub noted-requires : goal.noted-requires
noted-requires c =
    let lead = c.args.file.now.lead in
    let P : NodeId → Type 0 = λ n. n.0 < 2 ^ 32 in
    let low : lead.node.0 < 2 ^ 32 = subst P (c.node.ensures ∙ sym c.args.file.now.node) c.stay_in_range.ensures in
    drawn_notable (place_of lead) lead.primary.learnt c.head.result.now (members_of lead.location) c.args.file.now.replica c.in_ok-turned.turned low c.head.ensures.value c.in_ok-turned.ensures.led
