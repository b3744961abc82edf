-- nodes, files, leases and epochs
use Rattle.std.proofs.Common.{◌≡◌, ℕ, List, ◌++◌, Option, Some, None, Ok, refl}
use Rattle.std.specs.Prelude.{IfSome}
use Rattle.xt_messages.specs.Limits.{FitsNode, FitsBoot, FitsFile, FitsBallot, FitsEpoch, FitsStamp, FitsLease, FitsOpId, FitsMark}
use Rattle.xt_base.specs.declared.ids.NodeId.{NodeId}
use Rattle.xt_base.specs.declared.ids.Boot.{Boot}
use Rattle.xt_base.specs.declared.ids.FileId.{FileId}
use Rattle.xt_base.specs.declared.ids.Ballot.{Ballot}
use Rattle.xt_base.specs.declared.ids.Epoch.{Epoch}
use Rattle.xt_base.specs.declared.ids.Stamp.{Stamp}
use Rattle.xt_base.specs.declared.ids.Lease.{Lease}
use Rattle.xt_base.specs.declared.ids.OpId.{OpId}
use Rattle.xt_base.specs.declared.ids.SizeMark.{SizeMark}
use Rattle.xt_fields.specs.BasicFields.{byte_at, tagged}
use Rattle.xt_wire.specs.IdFields.{node_bytes, node_at, boot_bytes, boot_at, file_bytes, file_at, ballot_bytes, ballot_at, epoch_bytes, epoch_at, stamp_bytes, stamp_at, lease_bytes, lease_at, report_bytes, report_at, report_arms, some_report_at, op_id_bytes, op_id_at, mark_bytes, mark_at}
use Rattle.xt_fields.specs.OneSpelling.{IsField}
use Rattle.xt_fields.proofs.Laws.{IsArm, AreArms, both, made_field, as_field, arm, lone_arm, arm_again, no_more, or_arm}
use Rattle.xt_fields.proofs.BasicLaws.{word_field, long_field, count_field, raw_field, tagged_field}

pub node_field : IsField node_bytes FitsNode node_at
unfolding node_at
node_field = made_field (λ n. record { 0 = n }) (λ (node : NodeId). node.0) (λ a. refl) (λ b. refl) word_field

pub boot_field : IsField boot_bytes FitsBoot boot_at
unfolding boot_at
boot_field = made_field (λ n. record { 0 = n }) (λ (boot : Boot). boot.0) (λ a. refl) (λ b. refl) count_field

pub file_field : IsField file_bytes FitsFile file_at
unfolding file_at
file_field = as_field (λ f h. record { all = h.0.all; whole = h.0.whole; own = h.1 }) (λ f h. (record { all = h.all; whole = h.whole }, h.own))
    (made_field (λ f. record { volume = f.0; number = f.1 }) (λ (f : FileId). (f.volume, f.number)) (λ a. refl) (λ b. refl) (both (raw_field 16) long_field))

pub epoch_field : IsField epoch_bytes FitsEpoch epoch_at
unfolding epoch_at
epoch_field = as_field (λ e h. assumption) (λ e h. assumption)
    (made_field (λ e. record { number = e.0; node = e.1 }) (λ (e : Epoch). (e.number, e.node)) (λ a. refl) (λ b. refl) (both count_field node_field))

pub stamp_field : IsField stamp_bytes FitsStamp stamp_at
unfolding stamp_at
stamp_field = as_field (λ s h. assumption) (λ s h. assumption)
    (made_field (λ s. record { epoch = s.0; count = s.1 }) (λ (s : Stamp). (s.epoch, s.count)) (λ a. refl) (λ b. refl) (both epoch_field count_field))

pub ballot_field : IsField ballot_bytes FitsBallot ballot_at
unfolding ballot_at
ballot_field = as_field (λ b h. assumption) (λ b h. assumption)
    (made_field (λ b. record { count = b.0.0; node = b.0.1; boot = b.1 }) (λ (b : Ballot). ((b.count, b.node), b.boot)) (λ a. refl) (λ b. refl) (both (both count_field node_field) boot_field))

pub lease_field : IsField lease_bytes FitsLease lease_at
unfolding lease_at
lease_field = as_field (λ l h. assumption) (λ l h. assumption)
    (made_field (λ l. record { node = l.0.0; boot = l.0.1; end = l.1 }) (λ (l : Lease). ((l.node, l.boot), l.end)) (λ a. refl) (λ b. refl) (both (both node_field boot_field) long_field))

pub op_id_field : IsField op_id_bytes FitsOpId op_id_at
unfolding op_id_at
op_id_field = as_field (λ i h. assumption) (λ i h. assumption)
    (made_field (λ i. record { client = i.0; number = i.1 }) (λ (i : OpId). (i.client, i.number)) (λ a. refl) (λ b. refl) (both node_field count_field))

pub mark_field : IsField mark_bytes FitsMark mark_at
unfolding mark_at
mark_field = as_field (λ m h. assumption) (λ m h. assumption)
    (made_field (λ m. record { epoch = m.0; size = m.1 }) (λ (m : SizeMark). (m.epoch, m.size)) (λ a. refl) (λ b. refl) (both count_field long_field))

abbrev FitsReport : Option Lease → Type 0
FitsReport report = IfSome report FitsLease

some_report_arm : IsArm report_bytes FitsReport 1 some_report_at
unfolding some_report_at
some_report_arm = arm 1 lease_field Some (λ a. refl) (λ a h. h)

report_arms_take : AreArms report_bytes FitsReport report_arms
unfolding report_arms
report_arms_take = or_arm 0 (lone_arm 0 None refl tt) (or_arm 1 some_report_arm no_more)

report_again : (b : Option Lease) (rest : List ℕ) → FitsReport b → tagged report_arms (report_bytes b ++ rest) ≡ Ok (b, rest)
unfolding byte_at report_arms some_report_at
report_again None rest h = refl
report_again (Some lease) rest h = arm_again lease_field Some lease rest h

pub report_field : IsField report_bytes FitsReport report_at
unfolding report_at
report_field = tagged_field report_arms_take report_again
