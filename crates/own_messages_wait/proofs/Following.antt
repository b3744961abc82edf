-- what comes after a row of the primary: asks that are served, wait, or come back
use Rattle.std.proofs.Common.{◌≡◌, ℕ, ◌≤◌, ◌+◌, ◌*◌, Bool, true, false, List, [], ◌∷◌, ◌++◌, length, refl, sym, ap, ap₂, subst, ◌∙◌, arith, Option, Some, None, is_some, le_of_eq}
use Rattle.std.specs.Prelude.{◌&&◌, not, cond}
use Rattle.std.proofs.lemmas.Bool.{and_parts}
use Rattle.xt_base.specs.declared.ids.NodeId.{NodeId}
use Rattle.xt_messages.specs.declared.message.Msg.{Msg}
use Rattle.xt_messages.specs.declared.message.Payload.{Payload}
use Rattle.xt_messages.specs.declared.record.FileRow.{FileRow}
use Rattle.xt_messages.specs.declared.record.Record.{Record}
use Rattle.lease_safety.specs.State.{Has}
use Rattle.xt_protocol.specs.declared.states.Place.{Place}
use Rattle.xt_protocol.specs.declared.states.Asks.{Asks}
use Rattle.xt_protocol.specs.declared.states.IssuedAsk.{IssuedAsk}
use Rattle.xt_protocol.specs.declared.states.IssuedUpdate.{IssuedUpdate}
use Rattle.xt_protocol.specs.declared.states.Progress.{Progress}
use Rattle.xt_protocol.specs.declared.states.Progress.TheVariants as progress
use Rattle.xt_protocol.specs.declared.states.Tenure.{Tenure}
use Rattle.xt_protocol.specs.declared.states.WaitingAsk.{WaitingAsk}
use Rattle.xt_protocol.specs.Turns.{joined, the_record}
use Rattle.xt_protocol.specs.ReplicaRows.{kept_after}
use Rattle.xt_protocol.specs.Primaries.{Led, is_active, is_ready, is_ready_in, issued_by, issued_in}
use Rattle.xt_protocol.specs.Asks.{Served, asks_behind, asks_follow, comes_back, serves_all}
use Rattle.xt_base.specs.declared.ids.FileId.{FileId}
use Rattle.xt_protocol.specs.OsdSteps.{file_concerned}
use Rattle.osd_invariants.specs.Sound.{AreOne}
use Rattle.world_spec.specs.NodeSteps.{to_itself}
use Rattle.own_messages_wait.proofs.Weights.{asks_left, epoch_left, rank, settles, stand_of}
use Rattle.own_messages_wait.proofs.Standing.{IfAbout, HeadStands, IfMessage, IfTenure}
use Rattle.own_messages_wait.proofs.Tests.{false_true, not_both, not_below_self}
use Rattle.own_messages_wait.proofs.Mine.{token, mine-append}
use Rattle.xt_base.specs.declared.ids.Epoch.{Epoch}
use Rattle.xt_messages.specs.declared.file.FileHead.{FileHead}
use Rattle.xt_protocol.specs.Stamps.{is_earlier}
use Rattle.lease_runs.proofs.Tests.{when}
use Rattle.own_messages_wait.proofs.Rows.{six_if, four_if, Body, ground, IfLeads, Row, Next, plain, readied, is_new, left, one_if, next_stands}
use Rattle.own_messages_wait.proofs.Moves.{Moves, moves_none}
use Rattle.own_messages_wait.proofs.Hearing.{IsApart}
use Rattle.own_messages_wait.proofs.Serving.{SentIs, Serves, all_serve}

-- the weight of a message to the own node, or of none
abbrev pub burden : NodeId → Option Payload → FileRow → Option Tenure → Asks → ℕ
burden n (Some content) row o asks = epoch_left row o + 2 * asks_left asks + rank (stand_of n row o) content
burden n None row None asks = 6 + 2 * asks_left asks
burden n None row (Some t) asks = 0

-- what must hold of the primary and the asks
pub record Followed (n : NodeId) (row : FileRow) (asks : Asks) (Own : Type 0) (limit : ℕ) (s : Served) : Type 0 where
  pub head : HeadStands (kept_after row s.turned.rec).head
  pub moves : Moves row.head (kept_after row s.turned.rec).head
  pub tenure : IfTenure n (kept_after row s.turned.rec).head s.primary.tenure
  pub sent : Option Payload
  pub outs : to_itself n s.turned.outs ≡ token n sent
  pub stands : IfMessage (kept_after row s.turned.rec) sent
  pub leads : IfLeads sent s.primary.tenure
  pub about : IfAbout row.file sent
  pub few : asks_left s.asks ≤ asks_left asks
  pub lighter : Own → burden n sent (kept_after row s.turned.rec) s.primary.tenure s.asks + 1 ≤ limit + 2 * asks_left asks

-- asks that come back are no more
back_left : (asks : Asks) (i : Option IssuedAsk) → asks.issued ≡ i → asks_left (elim i [ None ↦ asks | Some issued ↦ record { waiting = issued.ask ∷ asks.waiting; issued = None } ]) ≡ asks_left asks
back_left asks None is = refl
back_left asks (Some issued) is = (let one : one_if (is_some asks.issued) ≡ 1 = ap (λ (i : Option IssuedAsk). one_if (is_some i)) is in omega (arith, one))

pub behind_left : (o : Option Tenure) (asks : Asks) → asks_left (asks_behind o asks) ≡ asks_left asks
behind_left o asks = at (is_active o)
  where
    at : (b : Bool) → asks_left (cond b asks (comes_back asks)) ≡ asks_left asks
    at true = refl
    at false = back_left asks asks.issued refl

one_is : (o : Option IssuedUpdate) (a : Option IssuedAsk) → AreOne o a → is_some a ≡ is_some o
one_is None None one = refl
one_is (Some u) (Some a) one = refl
one_is None (Some a) one = absurd one
one_is (Some u) None one = absurd one

-- a ready primary
pub record IsReady (o : Option Tenure) : Type 0 where
  pub t : Tenure
  pub head : FileHead
  pub is : o ≡ Some t
  pub active : t.progress ≡ progress.Active head None

pub ready_is : (o : Option Tenure) → is_ready o ≡ true → IsReady o
ready_is None ready = absurd (false_true ready)
ready_is (Some t) ready = at t.progress refl ready
  where
    at : (p : Progress) → t.progress ≡ p → is_ready_in p ≡ true → IsReady (Some t)
    at progress.Gathering is ready = absurd (false_true ready)
    at (progress.Fetching chosen source asked later) is ready = absurd (false_true ready)
    at (progress.Installing chosen acked) is ready = absurd (false_true ready)
    at (progress.Active head (Some i)) is ready = absurd (false_true ready)
    at (progress.Active head None) is ready = record { t = t; head = head; is = refl; active = is }

-- the weight with the asks
pub with_asks : (n : NodeId) (sent : Option Payload) (row : FileRow) (o : Option Tenure) (asks : Asks) (limit more : ℕ) → left n sent row o + 1 ≤ limit → asks_left asks ≤ more → burden n sent row o asks + 1 ≤ limit + 2 * more
with_asks n (Some content) row o asks limit more low few = omega (arith, low, few)
with_asks n None row None asks limit more low few = omega (arith, low, few)
with_asks n None row (Some t) asks limit more low few = omega (arith, low)

module _ (place : Place) (row : FileRow) (its : place.file ≡ row.file) (body : Body) (before : Option Tenure) (asks : Asks) (Own : Type 0) (limit : ℕ) (apart : (w : WaitingAsk) → Has w asks.waiting → IsApart place.node w.id)
    (one : AreOne (issued_by before) asks.issued) where
  -- the asks are served
  served : (led : Led) → is_new before led ≡ true → led.turned.rec ≡ None → to_itself place.node led.turned.outs ≡ [] → HeadStands row.head → IfTenure place.node row.head led.primary.tenure
      → (Own → epoch_left row led.primary.tenure + 3 ≤ limit + 2 * one_if (is_some (issued_by before)))
      → Followed place.node row asks Own limit (let s = serves_all (ground place row body) led.primary asks.waiting in record s { turned = joined led.turned s.turned })
  served led new rec outs head tenure room = at (ready_is led.primary.tenure (and_parts (is_ready led.primary.tenure) (not (is_ready before)) new).0)
    where
      at : IsReady led.primary.tenure → Followed place.node row asks Own limit (let s = serves_all (ground place row body) led.primary asks.waiting in record s { turned = joined led.turned s.turned })
      at r =
          let q = all_serve place row body led.primary r.t r.head asks.waiting r.is r.active (subst (IfTenure place.node row.head) r.is tenure) apart in
          let s = serves_all (ground place row body) led.primary asks.waiting in
          let none : the_record led.turned.rec s.turned.rec ≡ None = ap (λ (x : Option Record). the_record x s.turned.rec) rec ∙ q.rec in
          record {
            head = subst (λ (x : Option Record). HeadStands (kept_after row x).head) (sym none) head;
            moves = moves_none row.head (kept_after row (the_record led.turned.rec s.turned.rec)).head (ap (λ (x : Option Record). (kept_after row x).head) none);
            tenure = subst (λ (x : Option Record). IfTenure place.node (kept_after row x).head s.primary.tenure) (sym none) (subst (IfTenure place.node row.head) (sym q.is) q.stands);
            sent = q.sent;
            outs = mine-append place.node led.turned.outs s.turned.outs ∙ ap₂ (λ (a b : List Msg). a ++ b) outs q.outs;
            stands = subst (λ (x : Option Record). IfMessage (kept_after row x) q.sent) (sym none) (sent_stands q q.issued q.sent refl q.sent_is);
            leads = led_by q.sent (ap (λ (o : Option Tenure). is_some o) q.is);
            about = about_by q.issued q.sent q.sent_is;
            few = let fewer = q.few in omega (arith, fewer);
            lighter = λ mine. subst (λ (x : Option Record). burden place.node q.sent (kept_after row x) s.primary.tenure s.asks + 1 ≤ limit + 2 * asks_left asks) (sym none) (bound q q.issued q.sent refl q.sent_is mine);
          }
        where
          led_by : (sent : Option Payload) → is_some (serves_all (ground place row body) led.primary asks.waiting).primary.tenure ≡ true → IfLeads sent (serves_all (ground place row body) led.primary asks.waiting).primary.tenure
          led_by None is = tt
          led_by (Some content) is = is

          about_by : (o : Option IssuedUpdate) (sent : Option Payload) → SentIs place o sent → IfAbout row.file sent
          about_by o None is = tt
          about_by None (Some content) is = absurd is
          about_by (Some i) (Some content) is = ap file_concerned is ∙ ap (λ (f : FileId). Some f) its

          sent_stands : (q : Serves place row r.t.epoch (length asks.waiting) (serves_all (ground place row body) led.primary asks.waiting)) (o : Option IssuedUpdate) (sent : Option Payload) → q.issued ≡ o → SentIs place o sent → IfMessage row sent
          sent_stands q o None is sent_is = tt
          sent_stands q None (Some content) is sent_is = absurd sent_is
          sent_stands q (Some i) (Some content) is sent_is =
              subst (λ (c : Payload). IfMessage row (Some c)) (sym sent_is) (next_stands place.node row q.tenure place.file q.head i (q.active ∙ ap (λ (o : Option IssuedUpdate). progress.Active q.head o) is) q.stands, tt)

          bound : (q : Serves place row r.t.epoch (length asks.waiting) (serves_all (ground place row body) led.primary asks.waiting)) (o : Option IssuedUpdate) (sent : Option Payload) → q.issued ≡ o → SentIs place o sent → Own
              → burden place.node sent row (serves_all (ground place row body) led.primary asks.waiting).primary.tenure (serves_all (ground place row body) led.primary asks.waiting).asks + 1 ≤ limit + 2 * asks_left asks
          bound q o None is sent_is mine =
              let enough = room mine in
              let same : one_if (is_some asks.issued) ≡ one_if (is_some (issued_by before)) = ap one_if (one_is (issued_by before) asks.issued one) in
              subst (λ (x : Option Tenure). burden place.node None row x (serves_all (ground place row body) led.primary asks.waiting).asks + 1 ≤ limit + 2 * asks_left asks) (sym q.is) (omega (arith, enough, same))
          bound q None (Some content) is sent_is mine = absurd sent_is
          bound q (Some i) (Some content) is sent_is mine =
              let enough = room mine in
              let fewer = q.few in
              let same : one_if (is_some asks.issued) ≡ one_if (is_some (issued_by before)) = ap one_if (one_is (issued_by before) asks.issued one) in
              let epochs : epoch_left row (Some q.tenure) ≡ epoch_left row led.primary.tenure = ap (λ (e : Epoch). six_if (is_earlier e row.head.promised)) q.epoch_is ∙ sym (ap (epoch_left row) r.is) in
              let two : rank (stand_of place.node row (Some q.tenure)) content ≡ 2
              = ap (rank (stand_of place.node row (Some q.tenure))) sent_is
              ∙ ap (λ (p : Progress). four_if (settles (issued_in p) i.update.stamp)) (q.active ∙ ap (λ (o : Option IssuedUpdate). progress.Active q.head o) is)
              ∙ ap (λ (b : Bool). four_if (not b)) (not_below_self i.update.stamp) in
              subst (λ (x : Option Tenure). burden place.node (Some content) row x (serves_all (ground place row body) led.primary asks.waiting).asks + 1 ≤ limit + 2 * asks_left asks) (sym q.is) (omega (arith, enough, fewer, same, epochs, two))

  -- What a row of the primary means for the asks.
  pub follow : (led : Led) → Row place.node row before Own limit led → Followed place.node row asks Own limit (asks_follow (ground place row body) before asks led)
  follow led q = when (Followed place.node row asks Own limit) (is_ready led.primary.tenure && not (is_ready before)) _ _ (λ new. ready new q.next) (λ same. goes same q.next)
    where
      ready : is_new before led ≡ true → Next place.node row before Own limit led q.sent → Followed place.node row asks Own limit (let s = serves_all (ground place row body) led.primary asks.waiting in record s { turned = joined led.turned s.turned })
      ready new (plain old room) = not_both (is_new before led) new old
      ready new (readied is rec none room) =
          served led new rec (q.outs ∙ ap (token place.node) none) (subst (λ (x : Option Record). HeadStands (kept_after row x).head) rec q.head) (subst (λ (x : Option Record). IfTenure place.node (kept_after row x).head led.primary.tenure) rec q.tenure)
          (λ mine. subst (λ (x : Option Record). epoch_left (kept_after row x) led.primary.tenure + 3 ≤ limit + 2 * one_if (is_some (issued_by before))) rec (room mine))

      goes : is_new before led ≡ false → Next place.node row before Own limit led q.sent → Followed place.node row asks Own limit (record { primary = led.primary; asks = asks_behind led.primary.tenure asks; turned = led.turned })
      goes old (readied is rec none room) = not_both (is_new before led) is old
      goes old (plain is room) =
          record {
            head = q.head;
            moves = q.moves;
            tenure = q.tenure;
            sent = q.sent;
            outs = q.outs;
            stands = q.stands;
            leads = q.leads;
            about = q.about;
            few = le_of_eq (behind_left led.primary.tenure asks);
            lighter = λ mine. with_asks place.node q.sent (kept_after row led.turned.rec) led.primary.tenure (asks_behind led.primary.tenure asks) limit (asks_left asks) (room mine) (le_of_eq (behind_left led.primary.tenure asks));
          }
