use Rattle.xt_wire.proofs.IdLaws.{node_field, boot_field, file_field, ballot_field, epoch_field, stamp_field, lease_field, op_id_field, mark_field}
use Rattle.xt_wire.proofs.FileLaws.{location_field, capability_field, op_field, update_field, head_field}
use Rattle.xt_wire.proofs.MetaLaws.{meta_req_field}
use Rattle.xt_wire.proofs.RegistryLaws.{registry_req_field}
use Rattle.xt_wire.proofs.spelling.each_has_one_spelling.Goals as goal

pub returns : goal.returns
returns c = record {
  node = node_field;
  boot = boot_field;
  file_id = file_field;
  ballot = ballot_field;
  epoch = epoch_field;
  stamp = stamp_field;
  lease = lease_field;
  op_id = op_id_field;
  mark = mark_field;
  location = location_field;
  capability = capability_field;
  operation = op_field;
  update = update_field;
  head = head_field;
  meta_req = meta_req_field;
  registry_req = registry_req_field;
}
