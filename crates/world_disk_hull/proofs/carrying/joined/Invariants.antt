use Rattle.std.proofs.Common.{◌≡◌, ℕ, ◌==◌, [], Some, None, length, if◌then◌else◌}
use Rattle.xt_base.specs.declared.ids.NodeId.{NodeId}
use Rattle.message_ids.specs.declared.MessageId.{MessageId}
use Rattle.xt_parts.specs.Part.{parts_in}
use Rattle.xt_parts.specs.Runs.{after_first, whole_of}
use Rattle.world_disk_hull.proofs.carrying.joined.Given as goal

-- the message of this number
abbrev pub id_of : NodeId → ℕ → MessageId
id_of sender number = record { sender = sender; boot = record { 0 = 1 }; number = number }

-- so far nothing was given before the last part
abbrev pub invariant-loop-part : goal.invariant-loop-part
invariant-loop-part l = record {
  joiner : l.joiner ≡ after_first [] (id_of l.fn.sender l.fn.number) l.fn.message l.part-index;
  last : l.last ≡ (if l.part-index == parts_in (length l.fn.message)
      then Some (whole_of (id_of l.fn.sender l.fn.number) l.fn.message) else None);
}
