-- the asks of a file that aren't answered yet, and how a primary serves them
use Rattle.std.specs.Prelude.{ℕ, Bool, true, false, ◌&&◌, ◌||◌, ◌==◌, nat_lt, not, if◌then◌else◌, Option, Some, None, List, [], ◌∷◌, ◌++◌, length, map, is_some}
use Rattle.std.specs.List.{list_any, fold}
use Rattle.xt_base.specs.declared.ids.NodeId.{NodeId}
use Rattle.xt_base.specs.declared.ids.FileId.{FileId}
use Rattle.xt_base.specs.declared.ids.OpId.{OpId}
use Rattle.xt_messages.specs.declared.file.Op.{Op}
use Rattle.xt_messages.specs.declared.file.Op.TheVariants as op
use Rattle.xt_messages.specs.declared.reply.Reply.{Reply}
use Rattle.xt_messages.specs.declared.reply.Reply.TheVariants as reply
use Rattle.xt_messages.specs.declared.message.Msg.{Msg}
use Rattle.xt_protocol.specs.declared.turned.Turned.{Turned}
use Rattle.xt_protocol.specs.declared.states.WaitingAsk.{WaitingAsk}
use Rattle.xt_protocol.specs.declared.states.IssuedAsk.{IssuedAsk}
use Rattle.xt_protocol.specs.declared.states.Asks.{Asks}
use Rattle.xt_protocol.specs.declared.states.Tenure.{Tenure}
use Rattle.xt_protocol.specs.declared.states.PrimaryState.{PrimaryState}
use Rattle.xt_protocol.specs.Turns.{quiet, joined, reply_to, answers}
use Rattle.xt_protocol.specs.Primaries.{Ground, Led, issued_by, is_ready, is_active}
use Rattle.xt_protocol.specs.Serving.{reads, writes}

-- how many asks may wait
abbrev pub WAITING : ℕ
WAITING = 64

-- no ask is there
abbrev pub no_asks : Asks
no_asks = record { waiting = []; issued = None }

abbrev pub is_id : OpId → OpId → Bool
is_id a b = a.client.0 == b.client.0 && a.number == b.number

abbrev pub is_issued_ask : Option IssuedAsk → OpId → Bool
is_issued_ask None id = false
is_issued_ask (Some issued) id = is_id issued.ask.id id

-- asked already: the same id waits or is issued
abbrev pub asked_already : Asks → OpId → Bool
asked_already asks id = list_any (λ w. is_id w.id id) asks.waiting || is_issued_ask asks.issued id

-- waits: after the others; lost where as many wait as may
abbrev pub waits : Asks → WaitingAsk → Asks
waits asks ask = if nat_lt (length asks.waiting) WAITING then record asks { waiting = asks.waiting ++ ask ∷ [] } else asks

-- an ask stays, in its order
abbrev pub stays : Asks → WaitingAsk → Asks
stays asks ask = record asks { waiting = asks.waiting ++ ask ∷ [] }

-- Replies.

-- these asks get this answer, in order
abbrev pub tells_each : NodeId → FileId → List WaitingAsk → Reply → List Msg
tells_each node file waiting answer = map (λ w. reply_to node file w.id answer) waiting

-- the issued ask gets this answer, unless it was answered before
abbrev pub tells_untold : NodeId → FileId → Option IssuedAsk → Reply → List Msg
tells_untold node file None answer = []
tells_untold node file (Some issued) answer = if issued.told then [] else reply_to node file issued.ask.id answer ∷ []

-- Serving.

-- the primary and the asks after some were served, and what that gives
pub record Served : Type 0 where
  pub primary : PrimaryState
  pub asks : Asks
  pub turned : Turned

-- whether an operation is a read
abbrev pub is_read : Op → Bool
is_read (op.Read object at len) = true
is_read _ = false

-- read served: the reply, and its mark
abbrev pub read_answer : Ground → OpId → Option Reply → Turned
read_answer g id (Some (reply.Ok count size bytes)) = answers g.place.node g.place.file id count size bytes
read_answer g id _ = quiet

-- the ask of an update that was just issued
abbrev pub newly_issued : Option Tenure → WaitingAsk → Option IssuedAsk
newly_issued tenure ask = if is_some (issued_by tenure) then Some (record { ask = ask; told = false }) else None

-- a write was answered, refused or issued, where no other one is issued; else it stays as this says
abbrev pub write_done : Served → WaitingAsk → Option Led → Asks → Served
write_done s ask None left = record s { asks = left }
write_done s ask (Some led) left =
    record {
      primary = led.primary;
      asks = if is_some s.asks.issued then s.asks else record s.asks { issued = newly_issued led.primary.tenure ask };
      turned = joined s.turned led.turned;
    }

-- A read or a write while the primary is active. A write that meets an issued one leaves the asks like this.
abbrev pub serves : Ground → Served → WaitingAsk → Asks → Served
serves g s ask left =
    if is_read ask.op then record s { turned = joined s.turned (read_answer g ask.id (reads g s.primary ask.op)) }
    else write_done s ask (writes g s.primary ask.id ask.epoch ask.op) left

-- a waiting ask: once an update is issued, a write stays as it is
abbrev pub serves_waiting : Ground → Served → WaitingAsk → Served
serves_waiting g s ask =
    if not (is_read ask.op) && is_some s.asks.issued then record s { asks = stays s.asks ask }
    else serves g s ask (stays s.asks ask)

-- All waiting asks, in order.
unfoldable pub serves_all : Ground → PrimaryState → List WaitingAsk → Served
serves_all g p waiting = fold (serves_waiting g) (record { primary = p; asks = no_asks; turned = quiet }) waiting

-- After a row of the primary.

-- the ask of an update that was lost goes to the front
abbrev pub comes_back : Asks → Asks
comes_back asks = elim asks.issued [ None ↦ asks | Some issued ↦ record { waiting = issued.ask ∷ asks.waiting; issued = None } ]

-- the asks after a row that leaves the primary in a tenure: while an update is issued they wait, and where the tenure is a
-- new one the issued ask comes back
abbrev pub asks_behind : Option Tenure → Asks → Asks
asks_behind tenure asks = if is_active tenure then asks else comes_back asks

-- What a row of the primary means for the asks: when it has become active, or its update was committed, they are served; when
-- it gathers again, the issued one comes back.
abbrev pub asks_follow : Ground → Option Tenure → Asks → Led → Served
asks_follow g before asks led =
    if is_ready led.primary.tenure && not (is_ready before)
    then (let served = serves_all g led.primary asks.waiting in record served { turned = joined led.turned served.turned })
    else record { primary = led.primary; asks = asks_behind led.primary.tenure asks; turned = led.turned }
