use Rattle.std.proofs.Common.{◌∙◌, ◌++◌, List, Option, ap, sym, take}
use Rattle.xt_messages.specs.declared.file.FileHead.{FileHead}
use Rattle.xt_base.specs.declared.ids.NodeId.{NodeId}
use Rattle.xt_protocol.specs.Primaries.{reports_of}
use Rattle.replica_primary.specs.Moves.{any_report}
use Rattle.replica_primary.proofs.Hears.{reports_more}
use Rattle.replica_primary.proofs.gathering.reports_of.Goals as goal

pub loop-peer-preserved : goal.loop-peer-preserved
loop-peer-preserved c =
    let peer = c.peer-item.result in
    let place = c.loop-peer.peer-index in
    c.in_ok-put_any.ensures
    ∙ ap (λ (reports : List (NodeId × FileHead)). reports ++ any_report c.in_ok-report.report) c.loop-peer.invariant
    ∙ ap (λ (report : Option (NodeId × FileHead)). reports_of (take place c.args.peers.now) ++ any_report report) c.in_ok-report.ensures
    ∙ sym (reports_more c.args.peers.now place peer c.loop-peer-test.true c.peer-item.is)
