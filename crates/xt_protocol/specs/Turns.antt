-- what steps give, put together
use Rattle.std.specs.Prelude.{ℕ, Option, Some, None, List, [], ◌∷◌, ◌++◌, map}
use Rattle.xt_base.specs.declared.ids.NodeId.{NodeId}
use Rattle.xt_base.specs.declared.ids.FileId.{FileId}
use Rattle.xt_base.specs.declared.ids.OpId.{OpId}
use Rattle.xt_base.specs.declared.ids.SizeMark.{SizeMark}
use Rattle.xt_messages.specs.declared.reply.Reply.{Reply}
use Rattle.xt_messages.specs.declared.reply.Reply.TheVariants as reply
use Rattle.xt_messages.specs.declared.message.Payload.{Payload}
use Rattle.xt_messages.specs.declared.message.Payload.TheVariants as payload
use Rattle.xt_messages.specs.declared.message.Msg.{Msg}
use Rattle.xt_messages.specs.declared.event.Mark.{Mark}
use Rattle.xt_messages.specs.declared.event.Mark.TheVariants as mark
use Rattle.xt_messages.specs.declared.record.Record.{Record}
use Rattle.xt_protocol.specs.declared.turned.Turned.{Turned}

-- nothing comes of a row
abbrev pub quiet : Turned
quiet = record { rec = None; outs = []; marks = [] }

-- a record alone, if there is one
abbrev pub keeps : Option Record → Turned
keeps rec = record { rec = rec; outs = []; marks = [] }

-- a mark alone
abbrev pub shows : Mark → Turned
shows what = record { rec = None; outs = []; marks = what ∷ [] }

-- messages alone
abbrev pub sends : List Msg → Turned
sends outs = record { rec = None; outs = outs; marks = [] }

-- the one record of a step: no two of its parts make one
abbrev pub the_record : Option Record → Option Record → Option Record
the_record None later = later
the_record (Some rec) later = Some rec

-- what one part of a step gives, and then what the next one gives
abbrev pub joined : Turned → Turned → Turned
joined first next =
    record { rec = the_record first.rec next.rec; outs = first.outs ++ next.outs; marks = first.marks ++ next.marks }

-- a message of a node
abbrev pub message : NodeId → NodeId → Payload → Msg
message from to content = record { from = from; to = to; list = 1; payload = content }

-- the same to each of these, in order
abbrev pub to_each : NodeId → List NodeId → Payload → List Msg
to_each from nodes content = map (λ to. message from to content) nodes

-- a reply to the client of an ask
abbrev pub reply_to : NodeId → FileId → OpId → Reply → Msg
reply_to node file id answer = message node id.client (payload.Reply id.number file answer)

-- the client gets an answer other than Ok
abbrev pub tells : NodeId → FileId → OpId → Reply → Turned
tells node file id answer = sends (reply_to node file id answer ∷ [])

-- the client is answered Ok, and that is marked
abbrev pub answers : NodeId → FileId → OpId → ℕ → SizeMark → List ℕ → Turned
answers node file id count size bytes =
    record {
      rec = None;
      outs = reply_to node file id (reply.Ok count size bytes) ∷ [];
      marks = mark.Answer file.number id count bytes ∷ [];
    }
