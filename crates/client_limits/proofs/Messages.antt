-- a message within the limits can be sent
use Rattle.std.proofs.Common.{refl, inl}
use Rattle.xt_base.specs.declared.ids.NodeId.{NodeId}
use Rattle.xt_messages.specs.declared.message.Payload.{Payload}
use Rattle.xt_messages.specs.Limits.{FitsNode, FitsMessage, FitsPayload}
use Rattle.xt_protocol.specs.Turns.{message}

pub sent : (from to : NodeId) (content : Payload) → FitsNode from → FitsNode to → FitsPayload content → FitsMessage (message from to content)
sent from to content sender receiver fits = record { sender = sender; receiver = receiver; listed = inl refl; content = fits }
