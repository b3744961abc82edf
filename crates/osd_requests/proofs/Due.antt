-- what it means for the asks of a file that none is due
use Rattle.std.proofs.Common.{◌≡◌, ℕ, refl, ap, Bool, true, false, List, [], ◌∷◌, Option, Some, None, cond}
use Rattle.std.specs.Prelude.{◌&&◌, ◌||◌, not, filter}
use Rattle.std.specs.List.{list_any}
use Rattle.xt_base.specs.declared.ids.NodeId.{NodeId}
use Rattle.xt_base.specs.declared.ids.FileId.{FileId}
use Rattle.xt_messages.specs.declared.reply.Reply.{Reply}
use Rattle.xt_messages.specs.declared.message.Msg.{Msg}
use Rattle.xt_protocol.specs.declared.states.WaitingAsk.{WaitingAsk}
use Rattle.xt_protocol.specs.declared.states.IssuedAsk.{IssuedAsk}
use Rattle.xt_protocol.specs.declared.states.Asks.{Asks}
use Rattle.xt_protocol.specs.Turns.{reply_to}
use Rattle.xt_protocol.specs.Asks.{tells_untold}
use Rattle.xt_protocol.specs.Overdue.{is_due, issued_due, newly_due}
use Rattle.osd_requests.specs.Due.{is_issued_due, NoneDue}

or_false : (a b : Bool) → (a || b) ≡ false → (a ≡ false) × (b ≡ false)
or_false true b is = absurd cc
or_false false b is = (refl, is)

passes_none : (test : WaitingAsk → Bool) (ws : List WaitingAsk) → list_any test ws ≡ false → filter test ws ≡ []
passes_none test [] is = refl
passes_none test (w ∷ ws) is =
    let h = or_false (test w) (list_any test ws) is in
    passes (test w) h.0 (passes_none test ws h.1)
  where
    passes : (b : Bool) → b ≡ false → filter test ws ≡ [] → cond b (w ∷ filter test ws) (filter test ws) ≡ []
    passes true first rest = absurd cc
    passes false first rest = rest

keeps_all : (test : WaitingAsk → Bool) (ws : List WaitingAsk) → list_any test ws ≡ false → filter (λ w. not (test w)) ws ≡ ws
keeps_all test [] is = refl
keeps_all test (w ∷ ws) is =
    let h = or_false (test w) (list_any test ws) is in
    keeps (test w) h.0 (keeps_all test ws h.1)
  where
    left : List WaitingAsk
    left = filter (λ v. not (test v)) ws

    keeps : (b : Bool) → b ≡ false → left ≡ ws → cond (not b) (w ∷ left) left ≡ w ∷ ws
    keeps true first rest = absurd cc
    keeps false first rest = ap (λ vs. w ∷ vs) rest

told_alone : (told : Bool) (outs : List Msg) → not told ≡ false → cond told [] outs ≡ []
told_alone true outs is = refl
told_alone false outs is = absurd cc

untold : (now : ℕ) (o : Option IssuedAsk) (node : NodeId) (file : FileId) (answer : Reply) → is_issued_due now o ≡ false → tells_untold node file (newly_due now o) answer ≡ []
untold now None node file answer is = refl
untold now (Some i) node file answer is = by_due (is_due now i.ask) is
  where
    by_due : (b : Bool) → (b && not i.told) ≡ false → tells_untold node file (cond b (Some i) None) answer ≡ []
    by_due true h = told_alone i.told (reply_to node file i.ask.id answer ∷ []) h
    by_due false h = refl

marks_none : (b told : Bool) → (b && not told) ≡ false → cond b true told ≡ told
marks_none true true is = refl
marks_none true false is = absurd cc
marks_none false told is = refl

issued_stays : (now : ℕ) (o : Option IssuedAsk) → is_issued_due now o ≡ false → issued_due now o ≡ o
issued_stays now None is = refl
issued_stays now (Some i) is = ap (λ t. Some (record i { told = t })) (marks_none (is_due now i.ask) i.told is)

pub none_due : (now : ℕ) (asks : Asks) → list_any (is_due now) asks.waiting ≡ false → is_issued_due now asks.issued ≡ false → NoneDue now asks
none_due now asks waiting issued =
    record {
      due = passes_none (is_due now) asks.waiting waiting;
      left = keeps_all (is_due now) asks.waiting waiting;
      untold = λ node file answer. untold now asks.issued node file answer issued;
      issued = issued_stays now asks.issued issued;
    }
