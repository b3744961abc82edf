-- asks that are served: at most one update follows, and fewer are left
use Rattle.std.proofs.Common.{◌≡◌, ℕ, ◌≤◌, ◌+◌, inl, inr, Bool, true, false, List, [], ◌∷◌, ◌++◌, length, refl, sym, ap, ap₂, subst, ◌∙◌, arith, Option, Some, None, is_some, append-nil, length-append, le_refl}
use Rattle.std.specs.Prelude.{◌&&◌, ◌||◌, not, cond, ◌==◌, nat_lt, fold, filter}
use Rattle.xt_base.specs.MemberList.{has_node}
use Rattle.xt_base.specs.declared.TheConstants.{COUNTS, OBJECTS}
use Rattle.xt_base.specs.declared.ids.NodeId.{NodeId}
use Rattle.xt_base.specs.declared.ids.OpId.{OpId}
use Rattle.xt_base.specs.declared.ids.Epoch.{Epoch}
use Rattle.xt_base.specs.declared.ids.Stamp.{Stamp}
use Rattle.xt_messages.specs.declared.file.FileHead.{FileHead}
use Rattle.xt_messages.specs.declared.file.Op.{Op}
use Rattle.xt_messages.specs.declared.file.Op.TheVariants as op
use Rattle.xt_messages.specs.declared.file.Update.{Update}
use Rattle.xt_messages.specs.declared.message.Msg.{Msg}
use Rattle.xt_messages.specs.declared.message.Payload.{Payload}
use Rattle.xt_messages.specs.declared.message.Payload.TheVariants as payload
use Rattle.xt_messages.specs.declared.record.FileRow.{FileRow}
use Rattle.xt_messages.specs.declared.record.Record.{Record}
use Rattle.xt_messages.specs.declared.reply.Reply.{Reply}
use Rattle.xt_messages.specs.declared.reply.Reply.TheVariants as reply
use Rattle.lease_safety.specs.State.{Has}
use Rattle.xt_protocol.specs.declared.states.Place.{Place}
use Rattle.xt_protocol.specs.declared.states.Asks.{Asks}
use Rattle.xt_protocol.specs.declared.states.IssuedAsk.{IssuedAsk}
use Rattle.xt_protocol.specs.declared.states.IssuedUpdate.{IssuedUpdate}
use Rattle.xt_protocol.specs.declared.states.Peer.{Peer}
use Rattle.xt_protocol.specs.declared.states.PrimaryState.{PrimaryState}
use Rattle.xt_protocol.specs.declared.states.Progress.{Progress}
use Rattle.xt_protocol.specs.declared.states.Progress.TheVariants as progress
use Rattle.xt_protocol.specs.declared.states.Tenure.{Tenure}
use Rattle.xt_protocol.specs.declared.states.WaitingAsk.{WaitingAsk}
use Rattle.xt_protocol.specs.Turns.{quiet, joined, the_record, message, to_each}
use Rattle.xt_protocol.specs.Writes.{WriteStanding, repeated, older, turned_away, fresh, standing, update_of}
use Rattle.xt_protocol.specs.Primaries.{Ground, Led, is_current, issued_by, issued_in, nodes_of}
use Rattle.xt_protocol.specs.Serving.{current_others, issues, next_update_of, reads, write_stands, writes_in, writes_under, writes}
use Rattle.xt_protocol.specs.Asks.{Served, is_read, newly_issued, no_asks, read_answer, serves, serves_all, serves_waiting, stays, write_done}
use Rattle.world_spec.specs.NodeSteps.{to_itself}
use Rattle.own_messages_wait.proofs.Weights.{asks_left}
use Rattle.own_messages_wait.proofs.Standing.{IsPast, IsNext, TenureStands, ProgressStands}
use Rattle.own_messages_wait.proofs.Tests.{false_true}
use Rattle.own_messages_wait.proofs.Mine.{token, mine-append, mine-one, mine-none}
use Rattle.own_messages_wait.proofs.Rows.{Body, ground, one_if, own_one}
use Rattle.own_messages_wait.proofs.Hearing.{IsApart}

-- what was sent to the own node is the update that is issued, or nothing
abbrev pub SentIs : Place → Option IssuedUpdate → Option Payload → Type 0
SentIs place o None = Unit {0}
SentIs place None (Some content) = ⊥
SentIs place (Some issued) (Some content) = content ≡ payload.Update place.file issued.update

-- an active primary and the asks while they are served
pub record Serves (place : Place) (row : FileRow) (epoch : Epoch) (total : ℕ) (s : Served) : Type 0 where
  pub tenure : Tenure
  pub is : s.primary.tenure ≡ Some tenure
  pub epoch_is : tenure.epoch ≡ epoch
  pub stands : TenureStands place.node row.head tenure
  pub head : FileHead
  pub issued : Option IssuedUpdate
  pub active : tenure.progress ≡ progress.Active head issued
  pub one : is_some s.asks.issued ≡ is_some issued
  pub sent : Option Payload
  pub outs : to_itself place.node s.turned.outs ≡ token place.node sent
  pub sent_is : SentIs place issued sent
  pub few : asks_left s.asks ≤ total
  pub rec : s.turned.rec ≡ None

-- ---- replies

-- a reply goes to a client
pub reply_mine : (n : NodeId) (id : OpId) (content : Payload) → IsApart n id → to_itself n (message n id.client content ∷ []) ≡ []
reply_mine n id content apart = mine-one n id.client content ∙ ap (λ (b : Bool). token n (cond b (Some content) None)) apart

read_mine : (g : Ground) (id : OpId) (o : Option Reply) → IsApart g.place.node id → to_itself g.place.node (read_answer g id o).outs ≡ []
read_mine g id None apart = refl
read_mine g id (Some (reply.Ok count size bytes)) apart = reply_mine g.place.node id (payload.Reply id.number g.place.file (reply.Ok count size bytes)) apart
read_mine g id (Some (reply.NoLease end)) apart = refl
read_mine g id (Some (reply.NoMajority have need)) apart = refl
read_mine g id (Some (reply.Elsewhere node end)) apart = refl
read_mine g id (Some (reply.Denied rule)) apart = refl
read_mine g id (Some (reply.OldList version)) apart = refl
read_mine g id (Some (reply.OldEpoch epoch)) apart = refl
read_mine g id (Some (reply.TooFar object)) apart = refl
read_mine g id (Some reply.ClientsFull) apart = refl

read_quiet : (g : Ground) (id : OpId) (o : Option Reply) → (read_answer g id o).rec ≡ None
read_quiet g id None = refl
read_quiet g id (Some (reply.Ok count size bytes)) = refl
read_quiet g id (Some (reply.NoLease end)) = refl
read_quiet g id (Some (reply.NoMajority have need)) = refl
read_quiet g id (Some (reply.Elsewhere node end)) = refl
read_quiet g id (Some (reply.Denied rule)) = refl
read_quiet g id (Some (reply.OldList version)) = refl
read_quiet g id (Some (reply.OldEpoch epoch)) = refl
read_quiet g id (Some (reply.TooFar object)) = refl
read_quiet g id (Some reply.ClientsFull) = refl

-- what comes besides goes elsewhere
beside : (n : NodeId) (xs ys : List Msg) (sent : Option Payload) → to_itself n xs ≡ token n sent → to_itself n ys ≡ [] → to_itself n (xs ++ ys) ≡ token n sent
beside n xs ys sent here none = mine-append n xs ys ∙ ap₂ (λ (a b : List Msg). a ++ b) here none ∙ append-nil (token n sent)

-- ---- an update goes to the own node once

no_own : (place : Place) (peers : List Peer) → has_node (current_others place peers) place.node.0 ≡ false
no_own place [] = refl
no_own place (p ∷ ps) = at (is_current p.state) (p.node.0 == place.node.0) refl (no_own place ps)
  where
    at : (a b : Bool) → (p.node.0 == place.node.0) ≡ b → has_node (current_others place ps) place.node.0 ≡ false
        → has_node (nodes_of (cond (a && not b) (p ∷ filter (λ (q : Peer). is_current q.state && not (q.node.0 == place.node.0)) ps) (filter (λ (q : Peer). is_current q.state && not (q.node.0 == place.node.0)) ps))) place.node.0 ≡ false
    at true true is rest = rest
    at true false is rest = ap (λ (b : Bool). b || has_node (current_others place ps) place.node.0) is ∙ rest
    at false b is rest = rest

update_mine : (place : Place) (peers : List Peer) (content : Payload) → to_itself place.node (to_each place.node (place.node ∷ current_others place peers) content) ≡ token place.node (Some content)
update_mine place peers content =
    mine-append place.node (message place.node place.node content ∷ []) (to_each place.node (current_others place peers) content)
    ∙ ap₂ (λ (a b : List Msg). a ++ b) (own_one place.node content) (mine-none place.node (current_others place peers) content (no_own place peers))

-- the update is of the next stamp
abbrev IsStamped : Stamp → Option Update → Type 0
IsStamped stamp None = Unit {0}
IsStamped stamp (Some u) = u.stamp ≡ stamp

update_stamped : (stripe : ℕ) (body : Body) (head : FileHead) (stamp : Stamp) (id : OpId) (epoch : ℕ) (asked : Op) → IsStamped stamp (update_of stripe body head stamp id epoch asked)
update_stamped stripe body head stamp id epoch (op.Read object at len) = tt
update_stamped stripe body head stamp id epoch (op.Write object at bytes) = refl
update_stamped stripe body head stamp id epoch (op.Truncate size) = refl

next_stamped : (g : Ground) (t : Tenure) (head : FileHead) (id : OpId) (epoch : ℕ) (asked : Op) → IsStamped (record { epoch = t.epoch; count = head.stamp.count + 1 }) (next_update_of g t head id epoch asked)
next_stamped g t head id epoch asked = at (nat_lt (head.stamp.count + 1) COUNTS)
  where
    at : (b : Bool) → IsStamped (record { epoch = t.epoch; count = head.stamp.count + 1 }) (cond b (update_of g.place.stripe g.body head (record { epoch = t.epoch; count = head.stamp.count + 1 }) id epoch asked) None)
    at true = update_stamped g.place.stripe g.body head (record { epoch = t.epoch; count = head.stamp.count + 1 }) id epoch asked
    at false = tt

-- ---- one write

-- what a write makes of an active primary: it goes on, and at most a client is answered; or an update is issued
data Wrote (place : Place) (t : Tenure) (head : FileHead) (issued : Option IssuedUpdate) (led : Led) : Type 0 where
  answered : led.primary.tenure ≡ Some t → to_itself place.node led.turned.outs ≡ [] → led.turned.rec ≡ None → Wrote place t head issued led
  issues_it : (i : IssuedUpdate) → issued ≡ None → led.primary.tenure ≡ Some (record t { progress = progress.Active head (Some i) }) → i.update.stamp ≡ record { epoch = t.epoch; count = head.stamp.count + 1 }
      → to_itself place.node led.turned.outs ≡ token place.node (Some (payload.Update place.file i.update)) → led.turned.rec ≡ None → Wrote place t head issued led

-- or it has no turn
abbrev Writes : Place → Tenure → FileHead → Option IssuedUpdate → Option Led → Type 0
Writes place t head issued None = is_some issued ≡ true
Writes place t head issued (Some led) = Wrote place t head issued led

module _ (place : Place) (row : FileRow) (body : Body) where
  issued_writes : (learnt : ℕ) (t : Tenure) (head : FileHead) (o : Option Update) → IsStamped (record { epoch = t.epoch; count = head.stamp.count + 1 }) o → Writes place t head None (Some (issues (ground place row body) learnt t head o))
  issued_writes learnt t head None is = answered refl refl refl
  issued_writes learnt t head (Some u) is = issues_it (record { update = u; acked = [] }) refl refl is (update_mine place t.peers (payload.Update place.file u)) refl

  stands_writes : (learnt : ℕ) (t : Tenure) (head : FileHead) (issued : Option IssuedUpdate) (id : OpId) (epoch : ℕ) (asked : Op) (how : WriteStanding) → IsApart place.node id
      → Writes place t head issued (write_stands (ground place row body) learnt t head issued id epoch asked how)
  stands_writes learnt t head issued id epoch asked (repeated count) apart = answered refl (reply_mine place.node id (payload.Reply id.number place.file (reply.Ok count head.mark [])) apart) refl
  stands_writes learnt t head issued id epoch asked older apart = answered refl refl refl
  stands_writes learnt t head issued id epoch asked (turned_away why) apart = answered refl (reply_mine place.node id (payload.Reply id.number place.file why) apart) refl
  stands_writes learnt t head (Some i) id epoch asked fresh apart = refl
  stands_writes learnt t head None id epoch asked fresh apart =
      issued_writes learnt t head (next_update_of (ground place row body) t head id epoch asked) (next_stamped (ground place row body) t head id epoch asked)

  active_writes : (p : PrimaryState) (t : Tenure) (head : FileHead) (issued : Option IssuedUpdate) (id : OpId) (epoch : ℕ) (asked : Op) → p.tenure ≡ Some t → t.progress ≡ progress.Active head issued → IsApart place.node id
      → Writes place t head issued (writes (ground place row body) p id epoch asked)
  unfolding writes standing
  active_writes p t head issued id epoch asked is active apart =
      subst (λ (o : Option Tenure). Writes place t head issued (writes_under (ground place row body) p.learnt o id epoch asked)) (sym is)
      (subst (λ (q : Progress). Writes place t head issued (writes_in (ground place row body) p.learnt t q id epoch asked)) (sym active)
      (stands_writes p.learnt t head issued id epoch asked (standing OBJECTS place.stripe head id epoch asked) apart))

  -- ---- one ask

  more_asks : (asks : Asks) (o : Option Tenure) (ask : WaitingAsk) (total : ℕ) → asks_left asks + 1 ≤ total → asks_left (cond (is_some asks.issued) asks (record asks { issued = newly_issued o ask })) ≤ total
  more_asks asks o ask total low = at asks.issued refl
    where
      one : (b : Bool) → length asks.waiting + cond (is_some (cond b (Some (let i : IssuedAsk = record { ask = ask; told = false } in i)) None)) 1 0 ≤ length asks.waiting + 1
      one true = omega arith
      one false = omega arith

      at : (i : Option IssuedAsk) → asks.issued ≡ i → asks_left (cond (is_some i) asks (record asks { issued = newly_issued o ask })) ≤ total
      at (Some x) is = omega (arith, low)
      at None is =
          let free : one_if (is_some asks.issued) ≡ 0 = ap (λ (j : Option IssuedAsk). one_if (is_some j)) is in
          let next = one (is_some (issued_by o)) in
          omega (arith, low, free, next)

  -- a write is done
  done_serves : (epoch : Epoch) (total more : ℕ) (s : Served) (ask : WaitingAsk) (left : Asks) (o : Option Led) (q : Serves place row epoch total s) → Writes place q.tenure q.head q.issued o
      → left.issued ≡ s.asks.issued → asks_left left ≤ more → total + 1 ≤ more → Serves place row epoch more (write_done s ask o left)
  done_serves epoch total more s ask left None q w same few up =
      record {
        tenure = q.tenure;
        is = q.is;
        epoch_is = q.epoch_is;
        stands = q.stands;
        head = q.head;
        issued = q.issued;
        active = q.active;
        one = ap (λ (i : Option IssuedAsk). is_some i) same ∙ q.one;
        sent = q.sent;
        outs = q.outs;
        sent_is = q.sent_is;
        few = few;
        rec = q.rec;
      }
  done_serves epoch total more s ask left (Some led) q w same few up = at w
    where
      low : asks_left s.asks + 1 ≤ more
      low = let has = q.few in omega (arith, has, up)

      then_one : (b : Bool) (a : Option IssuedAsk) (o : Option Tenure) → is_some a ≡ false → is_some (issued_by o) ≡ b
          → is_some (let asks : Asks = record { waiting = s.asks.waiting; issued = a } in cond (is_some a) asks (record asks { issued = newly_issued o ask })).issued ≡ b
      then_one b (Some x) o free is = absurd (false_true (sym free))
      then_one b None o free is = pick (is_some (issued_by o)) is
        where
          pick : (c : Bool) → c ≡ b → is_some (cond c (Some (let i : IssuedAsk = record { ask = ask; told = false } in i)) None) ≡ b
          pick true is = is
          pick false is = is

      as_one : (a : Option IssuedAsk) (o : Option Tenure) → is_some a ≡ is_some q.issued → is_some (issued_by o) ≡ is_some q.issued
          → is_some (let asks : Asks = record { waiting = s.asks.waiting; issued = a } in cond (is_some a) asks (record asks { issued = newly_issued o ask })).issued ≡ is_some q.issued
      as_one (Some x) o one is = one
      as_one None o one is = then_one (is_some q.issued) None o refl is

      none_before : (o : Option IssuedUpdate) (sent : Option Payload) → o ≡ None → SentIs place o sent → sent ≡ None
      none_before None None is sent_is = refl
      none_before None (Some content) is sent_is = absurd sent_is
      none_before (Some i) sent is sent_is = absurd (cc)

      at : Wrote place q.tenure q.head q.issued led → Serves place row epoch more (write_done s ask (Some led) left)
      at (answered is outs rec) =
          record {
            tenure = q.tenure;
            is = is;
            epoch_is = q.epoch_is;
            stands = q.stands;
            head = q.head;
            issued = q.issued;
            active = q.active;
            one = as_one s.asks.issued led.primary.tenure q.one (ap (λ (o : Option Tenure). is_some (issued_by o)) is ∙ ap (λ (p : Progress). is_some (issued_in p)) q.active);
            sent = q.sent;
            outs = beside place.node s.turned.outs led.turned.outs q.sent q.outs outs;
            sent_is = q.sent_is;
            few = more_asks s.asks led.primary.tenure ask more low;
            rec = ap (λ (r : Option Record). the_record r led.turned.rec) q.rec ∙ rec;
          }
      at (issues_it i free is stamp outs rec) =
          let u : Tenure = record q.tenure { progress = progress.Active q.head (Some i) } in
          let past : IsPast row.head q.tenure.epoch q.head × IsNext q.tenure.epoch q.head q.issued = subst (ProgressStands place.node row.head q.tenure) q.active q.stands.progress in
          let none = none_before q.issued q.sent free q.sent_is in
          record {
            tenure = u;
            is = is;
            epoch_is = q.epoch_is;
            stands = record { promised = q.stands.promised; progress = (past.0, stamp) };
            head = q.head;
            issued = Some i;
            active = refl;
            one = then_one true s.asks.issued led.primary.tenure (q.one ∙ ap (λ (o : Option IssuedUpdate). is_some o) free) (ap (λ (o : Option Tenure). is_some (issued_by o)) is);
            sent = Some (payload.Update place.file i.update);
            outs = mine-append place.node s.turned.outs led.turned.outs ∙ ap₂ (λ (a b : List Msg). a ++ b) (q.outs ∙ ap (token place.node) none) outs;
            sent_is = refl;
            few = more_asks s.asks led.primary.tenure ask more low;
            rec = ap (λ (r : Option Record). the_record r led.turned.rec) q.rec ∙ rec;
          }

  either_serves : (epoch : Epoch) (more : ℕ) (b : Bool) (x y : Served) → (b ≡ true → Serves place row epoch more x) → (b ≡ false → Serves place row epoch more y) → Serves place row epoch more (cond b x y)
  either_serves epoch more true x y p q = p refl
  either_serves epoch more false x y p q = q refl

  -- an ask is served
  pub ask_serves : (epoch : Epoch) (total more : ℕ) (s : Served) (ask : WaitingAsk) (left : Asks) → Serves place row epoch total s → IsApart place.node ask.id → left.issued ≡ s.asks.issued → asks_left left ≤ more → total + 1 ≤ more
      → Serves place row epoch more (serves (ground place row body) s ask left)
  ask_serves epoch total more s ask left q apart same few up =
      either_serves epoch more (is_read ask.op) _ _ (λ is. reading)
      (λ is. done_serves epoch total more s ask left (writes (ground place row body) s.primary ask.id ask.epoch ask.op) q (active_writes s.primary q.tenure q.head q.issued ask.id ask.epoch ask.op q.is q.active apart) same few up)
    where
      reading : Serves place row epoch more (record s { turned = joined s.turned (read_answer (ground place row body) ask.id (reads (ground place row body) s.primary ask.op)) })
      reading =
          let answer = reads (ground place row body) s.primary ask.op in
          record {
            tenure = q.tenure;
            is = q.is;
            epoch_is = q.epoch_is;
            stands = q.stands;
            head = q.head;
            issued = q.issued;
            active = q.active;
            one = q.one;
            sent = q.sent;
            outs = beside place.node s.turned.outs (read_answer (ground place row body) ask.id answer).outs q.sent q.outs (read_mine (ground place row body) ask.id answer apart);
            sent_is = q.sent_is;
            few = let has = q.few in omega (arith, has, up);
            rec = ap (λ (r : Option Record). the_record r (read_answer (ground place row body) ask.id answer).rec) q.rec ∙ read_quiet (ground place row body) ask.id answer;
          }

  -- ---- all that wait

  stays_one : (asks : Asks) (ask : WaitingAsk) (total : ℕ) → asks_left asks ≤ total → asks_left (stays asks ask) ≤ total + 1
  stays_one asks ask total low = let longer = length-append asks.waiting (ask ∷ []) in omega (arith, low, longer)

  waiting_serves : (epoch : Epoch) (total : ℕ) (s : Served) (ask : WaitingAsk) → Serves place row epoch total s → IsApart place.node ask.id → Serves place row epoch (total + 1) (serves_waiting (ground place row body) s ask)
  waiting_serves epoch total s ask q apart =
      either_serves epoch (total + 1) (not (is_read ask.op) && is_some s.asks.issued) _ _
      (λ stay. record {
        tenure = q.tenure;
        is = q.is;
        epoch_is = q.epoch_is;
        stands = q.stands;
        head = q.head;
        issued = q.issued;
        active = q.active;
        one = q.one;
        sent = q.sent;
        outs = q.outs;
        sent_is = q.sent_is;
        few = stays_one s.asks ask total q.few;
        rec = q.rec;
      })
      (λ serve. ask_serves epoch total (total + 1) s ask (stays s.asks ask) q apart refl (stays_one s.asks ask total q.few) (le_refl (total + 1)))

  rest_serves : (epoch : Epoch) (total : ℕ) (s : Served) (waiting : List WaitingAsk) → Serves place row epoch total s → ((w : WaitingAsk) → Has w waiting → IsApart place.node w.id)
      → Serves place row epoch (total + length waiting) (fold (serves_waiting (ground place row body)) s waiting)
  rest_serves epoch total s [] q apart = subst (λ (k : ℕ). Serves place row epoch k s) (omega arith) q
  rest_serves epoch total s (ask ∷ asks) q apart =
      subst (λ (k : ℕ). Serves place row epoch k (fold (serves_waiting (ground place row body)) (serves_waiting (ground place row body) s ask) asks)) (omega arith)
      (rest_serves epoch (total + 1) (serves_waiting (ground place row body) s ask) asks (waiting_serves epoch total s ask q (apart ask (inl refl))) (λ w h. apart w (inr h)))

  -- All asks that wait are served by a primary that has just become ready.
  pub all_serve : (p : PrimaryState) (t : Tenure) (head : FileHead) (waiting : List WaitingAsk) → p.tenure ≡ Some t → t.progress ≡ progress.Active head None → TenureStands place.node row.head t
      → ((w : WaitingAsk) → Has w waiting → IsApart place.node w.id) → Serves place row t.epoch (length waiting) (serves_all (ground place row body) p waiting)
  unfolding serves_all
  all_serve p t head waiting is active stands apart =
      subst (λ (k : ℕ). Serves place row t.epoch k (fold (serves_waiting (ground place row body)) (record { primary = p; asks = no_asks; turned = quiet }) waiting)) (omega arith)
      (rest_serves t.epoch 0 (record { primary = p; asks = no_asks; turned = quiet }) waiting
      (record { tenure = t; is = is; epoch_is = refl; stands = stands; head = head; issued = None; active = active; one = refl; sent = None; outs = refl; sent_is = tt; few = le_refl 0; rec = refl }) apart)
