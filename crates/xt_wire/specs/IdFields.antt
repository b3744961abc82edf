-- nodes, files, leases and epochs as fields
use Rattle.std.specs.Prelude.{ℕ, List, ◌++◌, Option, Some, None, Ok, Err, ◌==◌, if◌then◌else◌}
use Rattle.xt_base.specs.declared.ids.NodeId.{NodeId}
use Rattle.xt_base.specs.declared.ids.Boot.{Boot}
use Rattle.xt_base.specs.declared.ids.FileId.{FileId}
use Rattle.xt_base.specs.declared.ids.Ballot.{Ballot}
use Rattle.xt_base.specs.declared.ids.Epoch.{Epoch}
use Rattle.xt_base.specs.declared.ids.Stamp.{Stamp}
use Rattle.xt_base.specs.declared.ids.Lease.{Lease}
use Rattle.xt_base.specs.declared.ids.OpId.{OpId}
use Rattle.xt_base.specs.declared.ids.SizeMark.{SizeMark}
use Rattle.xt_fields.specs.declared.fault.FieldErr.TheVariants as fault
use Rattle.xt_fields.specs.Reading.{Field, ◌&◌, made}
use Rattle.xt_fields.specs.BasicFields.{byte_bytes, word_bytes, long_bytes, word_at, long_at, count_at, raw_at, tagged}

abbrev pub node_bytes : NodeId → List ℕ
node_bytes node = word_bytes node.0

unfoldable pub node_at : Field NodeId
node_at = made (λ n. record { 0 = n }) word_at

abbrev pub boot_bytes : Boot → List ℕ
boot_bytes boot = long_bytes boot.0

unfoldable pub boot_at : Field Boot
boot_at = made (λ n. record { 0 = n }) count_at

abbrev pub file_bytes : FileId → List ℕ
file_bytes file = file.volume ++ long_bytes file.number

unfoldable pub file_at : Field FileId
file_at = made (λ f. record { volume = f.0; number = f.1 }) (raw_at 16 & long_at)

abbrev pub ballot_bytes : Ballot → List ℕ
ballot_bytes ballot = long_bytes ballot.count ++ node_bytes ballot.node ++ boot_bytes ballot.boot

unfoldable pub ballot_at : Field Ballot
ballot_at = made (λ b. record { count = b.0.0; node = b.0.1; boot = b.1 }) (count_at & node_at & boot_at)

abbrev pub epoch_bytes : Epoch → List ℕ
epoch_bytes epoch = long_bytes epoch.number ++ node_bytes epoch.node

unfoldable pub epoch_at : Field Epoch
epoch_at = made (λ e. record { number = e.0; node = e.1 }) (count_at & node_at)

abbrev pub stamp_bytes : Stamp → List ℕ
stamp_bytes stamp = epoch_bytes stamp.epoch ++ long_bytes stamp.count

unfoldable pub stamp_at : Field Stamp
stamp_at = made (λ s. record { epoch = s.0; count = s.1 }) (epoch_at & count_at)

abbrev pub lease_bytes : Lease → List ℕ
lease_bytes lease = node_bytes lease.node ++ boot_bytes lease.boot ++ long_bytes lease.end

unfoldable pub lease_at : Field Lease
lease_at = made (λ l. record { node = l.0.0; boot = l.0.1; end = l.1 }) (node_at & boot_at & long_at)

-- a byte that is 0 where there is none, and 1 where there is one, which follows
abbrev pub report_bytes : Option Lease → List ℕ
report_bytes None = byte_bytes 0
report_bytes (Some lease) = byte_bytes 1 ++ lease_bytes lease

unfoldable pub some_report_at : Field (Option Lease)
some_report_at = made Some lease_at

unfoldable pub report_arms : ℕ → Field (Option Lease)
report_arms tag bytes =
    if tag == 0 then Ok (None, bytes)
    else if tag == 1 then some_report_at bytes
    else Err fault.Unfit

unfoldable pub report_at : Field (Option Lease)
report_at = tagged report_arms

abbrev pub op_id_bytes : OpId → List ℕ
op_id_bytes id = node_bytes id.client ++ long_bytes id.number

unfoldable pub op_id_at : Field OpId
op_id_at = made (λ i. record { client = i.0; number = i.1 }) (node_at & count_at)

abbrev pub mark_bytes : SizeMark → List ℕ
mark_bytes mark = long_bytes mark.epoch ++ long_bytes mark.size

unfoldable pub mark_at : Field SizeMark
mark_at = made (λ m. record { epoch = m.0; size = m.1 }) (count_at & long_at)
