-- the weight of a file and its messages to its own node is bounded
use Rattle.std.proofs.Common.{◌≤◌, ◌+◌, ◌*◌, Bool, true, false, List, [], ◌∷◌, arith, Option, Some, None}
use Rattle.std.specs.Prelude.{cond}
use Rattle.std.proofs.lemmas.List.Sums.{count_by-le-length}
use Rattle.xt_base.specs.declared.ids.NodeId.{NodeId}
use Rattle.xt_messages.specs.declared.file.FileHead.{FileHead}
use Rattle.xt_messages.specs.declared.file.ObjectVersion.{ObjectVersion}
use Rattle.xt_messages.specs.declared.message.Payload.{Payload}
use Rattle.xt_messages.specs.declared.message.Payload.TheVariants as payload
use Rattle.xt_messages.specs.declared.record.FileRow.{FileRow}
use Rattle.xt_base.specs.declared.TheConstants.{OBJECTS}
use Rattle.xt_protocol.specs.Folds.{body_of}
use Rattle.xt_protocol.specs.LeaseRows.{LeaseState, free, asking, writing, held}
use Rattle.xt_protocol.specs.declared.states.Asks.{Asks}
use Rattle.xt_protocol.specs.declared.states.PeerState.{PeerState}
use Rattle.xt_protocol.specs.declared.states.PeerState.TheVariants as peer
use Rattle.xt_protocol.specs.declared.states.Progress.{Progress}
use Rattle.xt_protocol.specs.declared.states.Progress.TheVariants as progress
use Rattle.xt_protocol.specs.declared.states.Tenure.{Tenure}
use Rattle.xt_protocol.specs.Primaries.{peer_in}
use Rattle.xt_protocol.specs.PrimaryRows.{target_in}
use Rattle.xt_protocol.specs.FileStates.{FileState}
use Rattle.xt_protocol.specs.Stamps.{is_earlier, is_epoch}
use Rattle.world_spec.specs.Lines.{OWN}
use Rattle.own_messages_wait.proofs.Weights.{Stand, are_named, asks_left, bodies_left, bodies_to, epoch_left, is_lacked, is_wanted, rank, settles, stand_of, tenure_left, unless}
use Rattle.own_messages_wait.proofs.Rows.{four_if, six_if, three_if}
use Rattle.own_messages_wait.proofs.Leases.{IsLeaseOf}
use Rattle.own_messages_wait.proofs.Files.{FileStands, chain_weight}
use Rattle.own_messages_wait.proofs.Messages.{lease_of}
use Rattle.own_messages_wait.proofs.Sizes.{IsSmall, ProgressSmall, TenureSmall}
use Rattle.own_messages_wait.proofs.FileSizes.{FileSmall}

-- the target is small
abbrev IfSmall : Option FileHead → Type 0
IfSmall None = Unit {0}
IfSmall (Some head) = IsSmall head

target_low : (own : FileHead) (t : Tenure) (p : Progress) → IsSmall own → ProgressSmall p → IfSmall (target_in own t.epoch p)
target_low own t progress.Gathering small is = tt
target_low own t (progress.Fetching chosen source asked later) small is = tt
target_low own t (progress.Installing chosen acked) small is = at (is_epoch own.stamp.epoch t.epoch)
  where
    at : (b : Bool) → IsSmall (cond b own (record chosen { promised = t.epoch; stamp = record { epoch = t.epoch; count = chosen.stamp.count } }))
    at true = small
    at false = is
target_low own t (progress.Active committed issued) small is = small

to_low : (here known : List ObjectVersion) (target : FileHead) → IsSmall target → bodies_to here known target ≤ 4 * OBJECTS
to_low here known target small = let low = count_by-le-length (is_lacked here known) target.versions in omega (arith, low, small)

bodies_low : (here : List ObjectVersion) (o : Option FileHead) (state : Option PeerState) → IfSmall o → bodies_left here o state ≤ 4 * OBJECTS
bodies_low here (Some target) (Some peer.Unknown) small = to_low here [] target small
bodies_low here (Some target) (Some (peer.Feeding known object version body)) small = to_low here known target small
bodies_low here (Some target) (Some (peer.Heading known head)) small = to_low here known target small
bodies_low here (Some target) (Some (peer.Reported head)) small = omega arith
bodies_low here (Some target) (Some peer.Current) small = omega arith
bodies_low here (Some target) None small = omega arith
bodies_low here None state small = omega arith

unless_low : (b : Bool) → unless b ≤ 4
unless_low true = omega arith
unless_low false = omega arith

four_low : (b : Bool) → four_if b ≤ 4
four_low true = omega arith
four_low false = omega arith

three_low : (b : Bool) → three_if b ≤ 3
three_low true = omega arith
three_low false = omega arith

rank_low : (a : Stand) (content : Payload) → bodies_left a.held a.target a.state ≤ 4 * OBJECTS → rank a content ≤ 8 + 4 * OBJECTS
rank_low a (payload.Gather file epoch) low = omega (arith, low)
rank_low a (payload.Status file epoch head) low = omega (arith, low)
rank_low a (payload.Head file epoch head) low = (let more = unless_low (are_named a.target head.versions) in omega (arith, low, more))
rank_low a (payload.Missing file epoch object version) low = (let more = unless_low (are_named a.target (body_of object version ∷ [])) in omega (arith, low, more))
rank_low a (payload.Stage file epoch object version bytes) low = (let more = unless_low (is_wanted a.target a.state (body_of object version)) in omega (arith, low, more))
rank_low a (payload.Staged file epoch object version) low = (let more = unless_low (is_wanted a.target a.state (body_of object version)) in omega (arith, low, more))
rank_low a (payload.Update file update) low = (let more = four_low (settles a.issued update.stamp) in omega (arith, low, more))
rank_low a (payload.Ack file stamp) low = (let more = three_low (settles a.issued stamp) in omega (arith, low, more))
rank_low a _ low = omega (arith, low)

stand_low : (n : NodeId) (row : FileRow) (o : Option Tenure) → IsSmall row.head → TenureSmall o → bodies_left (stand_of n row o).held (stand_of n row o).target (stand_of n row o).state ≤ 4 * OBJECTS
stand_low n row None small is = omega arith
stand_low n row (Some t) small is = bodies_low row.held (target_in row.head t.epoch t.progress) (peer_in t.peers n) (target_low row.head t t.progress small is.1)

epoch_low : (row : FileRow) (o : Option Tenure) → epoch_left row o ≤ 6
epoch_low row None = omega arith
epoch_low row (Some t) = at (is_earlier t.epoch row.head.promised)
  where
    at : (b : Bool) → six_if b ≤ 6
    at true = omega arith
    at false = omega arith

left_low : (l : LeaseState) (o : Option Tenure) (asks : Asks) → tenure_left l o asks ≤ 6 + 2 * asks_left asks
left_low (free p) o asks = omega arith
left_low (asking r) None asks = omega arith
left_low (writing r) None asks = omega arith
left_low (held h) None asks = omega arith
left_low (asking r) (Some t) asks = omega arith
left_low (writing r) (Some t) asks = omega arith
left_low (held h) (Some t) asks = omega arith

told_low : (told : Option Payload) → IsLeaseOf 4 told → lease_of told ≤ 4
told_low None is = omega arith
told_low (Some content) is = is.1

-- What one message of the lease and one of the primary can weigh in all.
pub file_low : (n : NodeId) (s : FileState) (told sent : Option Payload) → FileStands n s → FileSmall s → IsLeaseOf 4 told → chain_weight n s sent + lease_of told ≤ OWN
file_low n s told None stands small is =
    let few = stands.few in
    let low = left_low s.lease s.primary.tenure s.asks in
    let four = told_low told is in
    omega (arith, few, low, four)
file_low n s told (Some content) stands small is =
    let few = stands.few in
    let six = epoch_low s.kept s.primary.tenure in
    let bodies = stand_low n s.kept s.primary.tenure small.head small.tenure in
    let low = rank_low (stand_of n s.kept s.primary.tenure) content bodies in
    let four = told_low told is in
    omega (arith, few, six, low, four)
