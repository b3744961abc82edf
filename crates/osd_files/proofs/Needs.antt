-- the versions that a primary needs, by the heads that it depends on
use Rattle.std.proofs.Common.{◌≡◌, ap, refl, List, Option, Some, None}
use Rattle.xt_base.specs.declared.ids.NodeId.{NodeId}
use Rattle.xt_messages.specs.declared.file.FileHead.{FileHead}
use Rattle.xt_protocol.specs.declared.states.Peer.{Peer}
use Rattle.xt_protocol.specs.declared.states.Progress.{Progress}
use Rattle.xt_protocol.specs.declared.states.Progress.TheVariants as progress
use Rattle.xt_protocol.specs.declared.states.Tenure.{Tenure}
use Rattle.xt_protocol.specs.Forgetting.{versions_if, versions_led, versions_under}
use Rattle.replica_primary.specs.Rests.{chosen_by, chosen_in, rested_on, rests_on}

chosen_led : (n : NodeId) (peers : List Peer) (p : Progress) (head : FileHead) → Some head ≡ chosen_in p → head.versions ≡ versions_led n peers p
chosen_led n peers (progress.Fetching chosen source asked later) head is = let same : head ≡ chosen = cc in ap (λ (h : FileHead). h.versions) same
chosen_led n peers (progress.Installing chosen acked) head is = let same : head ≡ chosen = cc in ap (λ (h : FileHead). h.versions) same
chosen_led n peers progress.Gathering head is = absurd cc
chosen_led n peers (progress.Active committed issued) head is = absurd cc

rested_led : (n : NodeId) (peers : List Peer) (p : Progress) → None ≡ chosen_in p → versions_if (rested_on n peers p) ≡ versions_led n peers p
rested_led n peers progress.Gathering none = refl
rested_led n peers (progress.Active committed issued) none = refl
rested_led n peers (progress.Fetching chosen source asked later) none = absurd cc
rested_led n peers (progress.Installing chosen acked) none = absurd cc

-- those of the head that is chosen
pub chosen_needs : (n : NodeId) (tenure : Option Tenure) (head : FileHead) → Some head ≡ chosen_by tenure → head.versions ≡ versions_under n tenure
chosen_needs n None head is = absurd cc
chosen_needs n (Some t) head is = chosen_led n t.peers t.progress head is

-- those of the head that it rests on, where none is
pub rested_needs : (n : NodeId) (tenure : Option Tenure) → None ≡ chosen_by tenure → versions_if (rests_on n tenure) ≡ versions_under n tenure
rested_needs n None none = refl
rested_needs n (Some t) none = rested_led n t.peers t.progress none
