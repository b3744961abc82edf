-- what becomes of an ask that waits, by what the code tests, and what the asks do after a row of the primary
use Rattle.std.proofs.Common.{◌≡◌, ◌∙◌, Bool, true, false, refl, ap, sym, Option, Some, None, List, [], ◌∷◌, ◌++◌, cond, append-nil}
use Rattle.std.specs.Prelude.{◌&&◌, not, is_some}
use Rattle.std.specs.List.{fold}
use Rattle.xt_messages.specs.declared.message.Msg.{Msg}
use Rattle.xt_messages.specs.declared.event.Mark.{Mark}
use Rattle.xt_messages.specs.declared.record.Record.{Record}
use Rattle.xt_protocol.specs.declared.turned.Turned.{Turned}
use Rattle.xt_protocol.specs.declared.states.Asks.{Asks}
use Rattle.xt_protocol.specs.declared.states.PrimaryState.{PrimaryState}
use Rattle.xt_protocol.specs.declared.states.Tenure.{Tenure}
use Rattle.xt_protocol.specs.declared.states.WaitingAsk.{WaitingAsk}
use Rattle.xt_protocol.specs.Primaries.{Ground, Led, issued_by, is_ready}
use Rattle.xt_protocol.specs.Serving.{reads, writes}
use Rattle.xt_protocol.specs.Turns.{quiet, joined, the_record}
use Rattle.xt_protocol.specs.Asks.{Served, is_read, read_answer, no_asks, stays, write_done, serves, serves_waiting, serves_all, asks_behind, asks_follow}
use Rattle.osd_invariants.proofs.Kept.{served_none}
use Rattle.osd_files.specs.Asking.{asks_once_done}
use Rattle.osd_files.specs.Serves.{asks_after}
use Rattle.osd_files.proofs.Rows.{when_true, when_false}

-- Nothing more is given.

pub none_last : (r : Option Record) → the_record r None ≡ r
none_last None = refl
none_last (Some rec) = refl

pub joined_quiet : (t : Turned) → joined t quiet ≡ t
joined_quiet t =
    let by : Option Record → List Msg → List Mark → Turned = λ rec outs marks. record { rec = rec; outs = outs; marks = marks } in
    ap (λ (r : Option Record). by r (t.outs ++ []) (t.marks ++ [])) (none_last t.rec)
    ∙ ap (λ (outs : List Msg). by t.rec outs (t.marks ++ [])) (append-nil t.outs)
    ∙ ap (λ (marks : List Mark). by t.rec t.outs marks) (append-nil t.marks)

-- One ask.

module _ (g : Ground) (s : Served) (ask : WaitingAsk) where
  -- whether it stays untested
  abbrev stays_so : Bool
  stays_so = not (is_read ask.op) && is_some s.asks.issued

  abbrev served : Served
  served = serves g s ask (stays s.asks ask)

  abbrev unserved : Served
  unserved = record s { asks = stays s.asks ask }

  pub read_waits : (turned : Turned) → is_read ask.op ≡ true → turned ≡ read_answer g ask.id (reads g s.primary ask.op)
      → record s { turned = joined s.turned turned } ≡ serves_waiting g s ask
  read_waits turned reads_it is =
      let by : Turned → Served = λ t. record s { turned = joined s.turned t } in
      let answer = read_answer g ask.id (reads g s.primary ask.op) in
      let written = write_done s ask (writes g s.primary ask.id ask.epoch ask.op) (stays s.asks ask) in
      ap by is
      ∙ sym (when_true (is_read ask.op) (by answer) written reads_it)
      ∙ sym (when_false stays_so unserved served (ap (λ (b : Bool). not b && is_some s.asks.issued) reads_it))

  pub stays_waiting : (asks : Asks) → is_read ask.op ≡ false → is_some s.asks.issued ≡ true → asks ≡ stays s.asks ask
      → record { primary = s.primary; asks = asks; turned = joined s.turned quiet } ≡ serves_waiting g s ask
  stays_waiting asks unread has is =
      let by : Asks → Turned → Served = λ a t. record { primary = s.primary; asks = a; turned = t } in
      ap (by asks) (joined_quiet s.turned) ∙ ap (λ (a : Asks). by a s.turned) is
      ∙ sym (when_true stays_so unserved served (ap (λ (b : Bool). not b && is_some s.asks.issued) unread ∙ has))

  -- a write, where no other one is issued
  written_so : is_read ask.op ≡ false → is_some s.asks.issued ≡ false
      → serves_waiting g s ask ≡ write_done s ask (writes g s.primary ask.id ask.epoch ask.op) (stays s.asks ask)
  written_so unread none =
      let answered : Served = record s { turned = joined s.turned (read_answer g ask.id (reads g s.primary ask.op)) } in
      let written = write_done s ask (writes g s.primary ask.id ask.epoch ask.op) (stays s.asks ask) in
      when_false stays_so unserved served (ap (λ (b : Bool). not b && is_some s.asks.issued) unread ∙ none) ∙ when_false (is_read ask.op) answered written unread

  pub write_led : (primary : PrimaryState) (turned : Turned) (asks : Asks) → is_read ask.op ≡ false → is_some s.asks.issued ≡ false
      → writes g s.primary ask.id ask.epoch ask.op ≡ Some (record { primary = primary; turned = turned })
      → asks ≡ asks_once_done s.asks (is_some (issued_by primary.tenure)) ask
      → record { primary = primary; asks = asks; turned = joined s.turned turned } ≡ serves_waiting g s ask
  write_led primary turned asks unread none led marked =
      let by : Asks → Served = λ a. record { primary = primary; asks = a; turned = joined s.turned turned } in
      ap by marked ∙ sym (written_so unread none ∙ ap (λ (o : Option Led). write_done s ask o (stays s.asks ask)) led)

  pub write_stays : (asks : Asks) → is_read ask.op ≡ false → is_some s.asks.issued ≡ false → writes g s.primary ask.id ask.epoch ask.op ≡ None → asks ≡ stays s.asks ask
      → record { primary = s.primary; asks = asks; turned = joined s.turned quiet } ≡ serves_waiting g s ask
  write_stays asks unread none led is =
      let by : Asks → Turned → Served = λ a t. record { primary = s.primary; asks = a; turned = t } in
      ap (by asks) (joined_quiet s.turned) ∙ ap (λ (a : Asks). by a s.turned) is
      ∙ sym (written_so unread none ∙ ap (λ (o : Option Led). write_done s ask o (stays s.asks ask)) led)

-- All of them make no record.

either : (b : Bool) (x y : Served) → x.turned.rec ≡ None → y.turned.rec ≡ None → (cond b x y).turned.rec ≡ None
either true x y p q = p
either false x y p q = q

each_none : (g : Ground) (waiting : List WaitingAsk) (s : Served) → s.turned.rec ≡ None → (fold (serves_waiting g) s waiting).turned.rec ≡ None
each_none g [] s none = none
each_none g (ask ∷ waiting) s none =
    each_none g waiting (serves_waiting g s ask)
    (either (not (is_read ask.op) && is_some s.asks.issued) (record s { asks = stays s.asks ask }) (serves g s ask (stays s.asks ask)) none
    (served_none g s ask (stays s.asks ask) none))

all_none : (g : Ground) (p : PrimaryState) (waiting : List WaitingAsk) → (serves_all g p waiting).turned.rec ≡ None
unfolding serves_all
all_none g p waiting = each_none g waiting (record { primary = p; asks = no_asks; turned = quiet }) refl

pub after_none : (g : Ground) (was_ready : Bool) (p : PrimaryState) (asks : Asks) → (asks_after g was_ready p asks).turned.rec ≡ None
after_none g was_ready p asks =
    either (is_ready p.tenure && not was_ready) (serves_all g p asks.waiting) (record { primary = p; asks = asks_behind p.tenure asks; turned = quiet })
    (all_none g p asks.waiting) refl

-- What a row of the primary means for the asks, and what it gave before that.

pub follow_joined : (g : Ground) (before : Option Tenure) (asks : Asks) (led : Led)
    → asks_follow g before asks led
    ≡ (let after = asks_after g (is_ready before) led.primary asks in record after { turned = joined led.turned after.turned })
follow_joined g before asks led = one_of (is_ready led.primary.tenure && not (is_ready before))
  where
    all : Served
    all = serves_all g led.primary asks.waiting

    left : Turned → Served
    left t = record { primary = led.primary; asks = asks_behind led.primary.tenure asks; turned = t }

    told : Served → Served
    told after = record after { turned = joined led.turned after.turned }

    one_of : (b : Bool) → cond b (told all) (left led.turned) ≡ told (cond b all (left quiet))
    one_of true = refl
    one_of false = ap left (sym (joined_quiet led.turned))
