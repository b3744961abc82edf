-- when two ids are of one message
use Rattle.std.specs.Prelude.{Bool, ◌==◌, ◌&&◌}
use Rattle.message_ids.specs.declared.MessageId.{MessageId}

-- messages are one only if sender, boot and number are the same
abbrev pub is_same : MessageId → MessageId → Bool
is_same a b = (a.sender.0 == b.sender.0) && (a.boot.0 == b.boot.0) && (a.number == b.number)
