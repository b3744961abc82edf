use Rattle.std.proofs.Common.{◌∙◌, ℕ, List, ap, sym}
use Rattle.xt_protocol.specs.declared.states.Peer.{Peer}
use Rattle.xt_messages.specs.declared.file.FileHead.{FileHead}
use Rattle.xt_base.specs.declared.ids.NodeId.{NodeId}
use Rattle.std.specs.Prelude.{nat_le}
use Rattle.xt_protocol.specs.Primaries.{majority_among, reports_of, statuses_counted}
use Rattle.xt_protocol.specs.PrimaryRows.{chooses}
use Rattle.replica_primary.specs.Shown.{shown_tenure}
use Rattle.replica_primary.specs.Written.{ground}
use Rattle.replica_primary.proofs.Given.{if_so}
use Rattle.replica_primary.proofs.Hears.{majority_told}
use Rattle.replica_primary.proofs.gathering.status_counted.Goals as goal

pub returns : goal.returns
returns c =
    if_so _ _ c.chooses.result c.chooses.ensures
    (λ next of learnt from records own.
    let t = shown_tenure c.args.tenure.now in
    let peers = c.as_slice-peers.result.now in
    let majority =
    ap (λ (ps : List Peer). nat_le (majority_among ps) (statuses_counted ps)) (sym c.as_slice-peers.ensures)
    ∙ ap (λ (n : ℕ). nat_le (majority_among peers) n) (sym c.statuses_counted.ensures.counted)
    ∙ sym c.is_majority.ensures
    ∙ c.if-not-is_majority.false in
    let stands = ground c.args.place.now records own c.args.held.now in
    of learnt from records own
    ∙ ap (λ (reports : List (NodeId × FileHead)). chooses stands learnt t reports)
    (c.as_slice.ensures ∙ c.in_ok-reports.ensures ∙ ap (λ (ps : List Peer). reports_of ps) c.as_slice-peers.ensures)
    ∙ majority_told stands learnt t majority)
