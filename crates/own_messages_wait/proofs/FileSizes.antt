-- no head has more than `OBJECTS` versions: those of a file's steps
use Rattle.std.proofs.Common.{◌≡◌, ℕ, ◌≤◌, ◌+◌, Bool, true, false, List, [], ◌∷◌, ◌++◌, length, refl, sym, ap, subst, ◌∙◌, arith, Option, Some, None}
use Rattle.std.specs.Prelude.{◌&&◌, not, cond, ◌==◌, nat_lt, nat_le, is_some, filter, fold}
use Rattle.std.proofs.lemmas.Bool.{and_parts}
use Rattle.std.proofs.lemmas.Bool.Decides.{nat_tests}
use Rattle.xt_base.specs.MemberList.{has_node}
use Rattle.xt_base.specs.declared.ids.NodeId.{NodeId}
use Rattle.xt_base.specs.declared.ids.Boot.{Boot}
use Rattle.xt_base.specs.declared.ids.FileId.{FileId}
use Rattle.xt_base.specs.declared.ids.Epoch.{Epoch}
use Rattle.xt_base.specs.declared.ids.OpId.{OpId}
use Rattle.xt_base.specs.declared.ids.Stamp.{Stamp}
use Rattle.xt_messages.specs.declared.file.Capability.{Capability}
use Rattle.xt_messages.specs.declared.file.FileHead.{FileHead}
use Rattle.xt_messages.specs.declared.file.Kind.{Kind}
use Rattle.xt_messages.specs.declared.file.Kind.TheVariants as kind
use Rattle.xt_messages.specs.declared.file.Location.{Location}
use Rattle.xt_messages.specs.declared.file.ObjectVersion.{ObjectVersion}
use Rattle.xt_messages.specs.declared.file.Op.{Op}
use Rattle.xt_messages.specs.declared.file.Update.{Update}
use Rattle.xt_messages.specs.declared.message.Payload.{Payload}
use Rattle.xt_messages.specs.declared.message.Payload.TheVariants as payload
use Rattle.xt_messages.specs.declared.record.FileRow.{FileRow}
use Rattle.xt_messages.specs.declared.record.Record.{Record}
use Rattle.xt_messages.specs.declared.record.Record.TheVariants as kept
use Rattle.xt_messages.specs.declared.reply.Reply.{Reply}
use Rattle.xt_messages.specs.declared.reply.Reply.TheVariants as reply
use Rattle.xt_base.specs.declared.TheConstants.{OBJECTS, CLIENTS, COUNTS}
use Rattle.xt_protocol.specs.Folds.{body_of}
use Rattle.xt_protocol.specs.Heads.{head_after}
use Rattle.xt_protocol.specs.Register.{ReadAnswer, promise, read_refused, WriteAnswer, accepted, write_refused, other_boot, on_read, on_write}
use Rattle.xt_protocol.specs.LeaseRows.{LeaseState, Proposer, Held, free, asking, writing, held, LeaseNews, sends_write, holds, finds, ends, on_answer, can_ask, round_starts, is_renewal_due, lease_expired}
use Rattle.xt_protocol.specs.LeaseRows as lease
use Rattle.xt_protocol.specs.Stamps.{is_epoch, is_earlier, is_below, has_version}
use Rattle.xt_protocol.specs.declared.states.Acted.{Acted}
use Rattle.xt_protocol.specs.declared.states.Asks.{Asks}
use Rattle.xt_protocol.specs.declared.states.IssuedAsk.{IssuedAsk}
use Rattle.xt_protocol.specs.declared.states.IssuedUpdate.{IssuedUpdate}
use Rattle.xt_protocol.specs.declared.states.PeerState.{PeerState}
use Rattle.xt_protocol.specs.declared.states.PeerState.TheVariants as peer
use Rattle.xt_protocol.specs.declared.states.Place.{Place}
use Rattle.xt_protocol.specs.declared.states.PrimaryState.{PrimaryState}
use Rattle.xt_protocol.specs.declared.states.Progress.{Progress}
use Rattle.xt_protocol.specs.declared.states.Progress.TheVariants as progress
use Rattle.xt_protocol.specs.declared.states.Tenure.{Tenure}
use Rattle.xt_protocol.specs.declared.states.WaitingAsk.{WaitingAsk}
use Rattle.xt_protocol.specs.Turns.{quiet, joined, the_record, keeps, message, reply_to}
use Rattle.xt_protocol.specs.Writes.{WriteStanding, repeated, older, turned_away, fresh, standing}
use Rattle.xt_protocol.specs.Primaries.{Ground, Led, if_any, is_active, is_ready, have_in, majority_among}
use Rattle.xt_protocol.specs.PrimaryRows.{hears, hears_in}
use Rattle.xt_protocol.specs.ReplicaRows.{kept_after, gathered, fetched_from, staged, stage_record, headed, head_offered, head_taken, first_missing, updated, update_offered, head_fits, as_promised}
use Rattle.xt_protocol.specs.Serving.{current_others, issues, next_update_of, reads, write_stands, writes_in, writes_under, writes, gather_unknown, resend, wakes_in, wakes_under, wakes}
use Rattle.xt_protocol.specs.Asks.{Served, asks_behind, asks_follow, is_read, no_asks, read_answer, serves, serves_all, serves_waiting, stays, tells_each, tells_untold, waits, write_done, asked_already}
use Rattle.xt_protocol.specs.FileStates.{FileState, Site, FileStep, steps_to, and_then, members_of, ground_of}
use Rattle.xt_protocol.specs.Overdue.{is_due, newly_due, deadlines_under, lease_became, expired}
use Rattle.xt_protocol.specs.FileLeases.{read_comes, write_comes, answer_comes, answer_to_read, answers_to_write, end_after_answer, lease_news, led_on, answer_waiting}
use Rattle.xt_protocol.specs.AskRows.{handle_ask, ask_let_in, ask_rows, ask_under, ask_without_lease, elsewhere, refusal_of, view_record, waiting_ask}
use Rattle.xt_protocol.specs.StripedRows.{handle_striped}
use Rattle.xt_protocol.specs.FileSteps.{replica_acts, ask_comes, primary_hears, message_comes, renews, step_of_file, wakes_under_lease, wake_of_file}
use Rattle.osd_invariants.proofs.Kept.{wake_keeps}
use Rattle.osd_invariants.proofs.StripedAsks.{striped_outcome}
use Rattle.own_messages_wait.proofs.Sizes.{IsSmall, ContentSmall, AreSmall, StateSmall, TenureSmall, KeepsSmall, LedSmall, both_small, each_small, peers_outs, drawn_small, hears_small}

pub record FileSmall (s : FileState) : Type 0 where
  pub head : IsSmall s.kept.head
  pub tenure : TenureSmall s.primary.tenure

pub record StepSmall (n : NodeId) (step : FileStep) : Type 0 where
  pub state : FileSmall step.state
  pub outs : AreSmall n step.turned.outs

record ServedSmall (n : NodeId) (s : Served) : Type 0 where
  tenure : TenureSmall s.primary.tenure
  outs : AreSmall n s.turned.outs
  rec : s.turned.rec ≡ None

either_step : {n : NodeId} (b : Bool) (x y : FileStep) → StepSmall n x → StepSmall n y → StepSmall n (cond b x y)
either_step true x y p q = p
either_step false x y p q = q

either_served : {n : NodeId} (b : Bool) (x y : Served) → ServedSmall n x → ServedSmall n y → ServedSmall n (cond b x y)
either_served true x y p q = p
either_served false x y p q = q

-- ---- asks

abbrev IfLedSmall : NodeId → Option Led → Type 0
IfLedSmall n None = Unit {0}
IfLedSmall n (Some led) = TenureSmall led.primary.tenure × AreSmall n led.turned.outs × (led.turned.rec ≡ None)

issues_small : (g : Ground) (learnt : ℕ) (t : Tenure) (head : FileHead) (o : Option Update) → TenureSmall (Some t) → IfLedSmall g.place.node (Some (issues g learnt t head o))
issues_small g learnt t head None small = (small, tt, refl)
issues_small g learnt t head (Some u) small = ((small.0, tt), each_small g.place.node (λ (to : NodeId). message g.place.node to (payload.Update g.place.file u)) (g.place.node ∷ current_others g.place t.peers) (λ to. (refl, tt)), refl)

stands_small : (g : Ground) (learnt : ℕ) (t : Tenure) (head : FileHead) (issued : Option IssuedUpdate) (id : OpId) (epoch : ℕ) (asked : Op) (how : WriteStanding) → TenureSmall (Some t) → IfLedSmall g.place.node (write_stands g learnt t head issued id epoch asked how)
stands_small g learnt t head issued id epoch asked (repeated count) small = (small, ((refl, tt), tt), refl)
stands_small g learnt t head issued id epoch asked older small = (small, tt, refl)
stands_small g learnt t head issued id epoch asked (turned_away why) small = (small, ((refl, tt), tt), refl)
stands_small g learnt t head (Some i) id epoch asked fresh small = tt
stands_small g learnt t head None id epoch asked fresh small = issues_small g learnt t head (next_update_of g t head id epoch asked) small

writes_small : (g : Ground) (p : PrimaryState) (id : OpId) (epoch : ℕ) (asked : Op) → TenureSmall p.tenure → IfLedSmall g.place.node (writes g p id epoch asked)
unfolding writes standing
writes_small g p id epoch asked small = at p.tenure small
  where
    at : (o : Option Tenure) → TenureSmall o → IfLedSmall g.place.node (writes_under g p.learnt o id epoch asked)
    at None small = tt
    at (Some t) small = in_progress t.progress
      where
        in_progress : (q : Progress) → IfLedSmall g.place.node (writes_in g p.learnt t q id epoch asked)
        in_progress progress.Gathering = tt
        in_progress (progress.Fetching chosen source v later) = tt
        in_progress (progress.Installing chosen acked) = tt
        in_progress (progress.Active head issued) = stands_small g p.learnt t head issued id epoch asked (standing OBJECTS g.place.stripe head id epoch asked) small

read_small : (g : Ground) (id : OpId) (o : Option Reply) → AreSmall g.place.node (read_answer g id o).outs × ((read_answer g id o).rec ≡ None)
read_small g id None = (tt, refl)
read_small g id (Some (reply.Ok count size bytes)) = (((refl, tt), tt), refl)
read_small g id (Some (reply.NoLease end)) = (tt, refl)
read_small g id (Some (reply.NoMajority have need)) = (tt, refl)
read_small g id (Some (reply.Elsewhere node end)) = (tt, refl)
read_small g id (Some (reply.Denied rule)) = (tt, refl)
read_small g id (Some (reply.OldList version)) = (tt, refl)
read_small g id (Some (reply.OldEpoch epoch)) = (tt, refl)
read_small g id (Some (reply.TooFar object)) = (tt, refl)
read_small g id (Some reply.ClientsFull) = (tt, refl)

none_joined : (a b : Option Record) → a ≡ None → b ≡ None → the_record a b ≡ None
none_joined a b p q = ap (λ (x : Option Record). the_record x b) p ∙ q

serve_small : (g : Ground) (s : Served) (ask : WaitingAsk) (left : Asks) → ServedSmall g.place.node s → ServedSmall g.place.node (serves g s ask left)
serve_small g s ask left small =
    either_served (is_read ask.op) _ _
    (let answer = read_small g ask.id (reads g s.primary ask.op) in
    record { tenure = small.tenure; outs = both_small g.place.node s.turned.outs (read_answer g ask.id (reads g s.primary ask.op)).outs small.outs answer.0; rec = none_joined s.turned.rec (read_answer g ask.id (reads g s.primary ask.op)).rec small.rec answer.1 })
    (at (writes g s.primary ask.id ask.epoch ask.op) (writes_small g s.primary ask.id ask.epoch ask.op small.tenure))
  where
    at : (o : Option Led) → IfLedSmall g.place.node o → ServedSmall g.place.node (write_done s ask o left)
    at None is = record { tenure = small.tenure; outs = small.outs; rec = small.rec }
    at (Some led) is = record { tenure = is.0; outs = both_small g.place.node s.turned.outs led.turned.outs small.outs is.1; rec = none_joined s.turned.rec led.turned.rec small.rec is.2 }

all_small : (g : Ground) (waiting : List WaitingAsk) (s : Served) → ServedSmall g.place.node s → ServedSmall g.place.node (fold (serves_waiting g) s waiting)
all_small g [] s small = small
all_small g (ask ∷ asks) s small =
    all_small g asks (serves_waiting g s ask)
    (either_served (not (is_read ask.op) && is_some s.asks.issued) _ _ (record { tenure = small.tenure; outs = small.outs; rec = small.rec }) (serve_small g s ask (stays s.asks ask) small))

record FollowsSmall (n : NodeId) (s : Served) : Type 0 where
  tenure : TenureSmall s.primary.tenure
  outs : AreSmall n s.turned.outs
  keeps : KeepsSmall s.turned.rec

follow_small : (g : Ground) (before : Option Tenure) (asks : Asks) (led : Led) → LedSmall g.place.node led → FollowsSmall g.place.node (asks_follow g before asks led)
unfolding serves_all
follow_small g before asks led small = at (is_ready led.primary.tenure && not (is_ready before))
  where
    served : ServedSmall g.place.node (fold (serves_waiting g) (record { primary = led.primary; asks = no_asks; turned = quiet }) asks.waiting)
    served = all_small g asks.waiting (record { primary = led.primary; asks = no_asks; turned = quiet }) (record { tenure = small.tenure; outs = tt; rec = refl })

    at : (b : Bool) → FollowsSmall g.place.node (cond b (let s = serves_all g led.primary asks.waiting in record s { turned = joined led.turned s.turned }) (record { primary = led.primary; asks = asks_behind led.primary.tenure asks; turned = led.turned }))
    at true =
        record {
          tenure = served.tenure;
          outs = both_small g.place.node led.turned.outs (serves_all g led.primary asks.waiting).turned.outs small.outs served.outs;
          keeps = λ row is. kept_first led.turned.rec (serves_all g led.primary asks.waiting).turned.rec served.rec small.keeps row is;
        }
      where
        kept_first : (a b : Option Record) → b ≡ None → KeepsSmall a → KeepsSmall (the_record a b)
        kept_first None b none keeps row is = subst (λ (r : Option Record). IsSmall (kept_after row r).head) (sym none) is
        kept_first (Some a) b none keeps row is = keeps row is
    at false = record { tenure = small.tenure; outs = small.outs; keeps = small.keeps }

-- ---- what is overdue

untold_small : (node : NodeId) (file : FileId) (o : Option IssuedAsk) (answer : Reply) → AreSmall node (tells_untold node file o answer)
untold_small node file None answer = tt
untold_small node file (Some i) answer = at i.told
  where
    at : (b : Bool) → AreSmall node (cond b [] (reply_to node file i.ask.id answer ∷ []))
    at true = tt
    at false = ((refl, tt), tt)

tells_small : (node : NodeId) (file : FileId) (waiting : List WaitingAsk) (answer : Reply) → AreSmall node (tells_each node file waiting answer)
tells_small node file waiting answer = each_small node (λ (w : WaitingAsk). reply_to node file w.id answer) waiting (λ w. (refl, tt))

module _ (site : Site) where
  deadlines_small : (s : FileState) (o : Option Tenure) → FileSmall s → StepSmall site.node (deadlines_under site s o)
  deadlines_small s None small = record { state = small; outs = tt }
  deadlines_small s (Some t) small =
      let answer = reply.NoMajority (have_in t.peers t.progress) (majority_among t.peers) in
      record {
        state = record { head = small.head; tenure = small.tenure };
        outs = both_small site.node (tells_each site.node s.kept.file (filter (is_due site.now) s.asks.waiting) answer) (tells_untold site.node s.kept.file (newly_due site.now s.asks.issued) answer)
            (tells_small site.node s.kept.file (filter (is_due site.now) s.asks.waiting) answer) (untold_small site.node s.kept.file (newly_due site.now s.asks.issued) answer);
      }

  no_lease_outs : (s : FileState) → AreSmall site.node (tells_untold site.node s.kept.file s.asks.issued (reply.NoLease s.last_end) ++ tells_each site.node s.kept.file s.asks.waiting (reply.NoLease s.last_end))
  no_lease_outs s =
      both_small site.node (tells_untold site.node s.kept.file s.asks.issued (reply.NoLease s.last_end)) (tells_each site.node s.kept.file s.asks.waiting (reply.NoLease s.last_end))
      (untold_small site.node s.kept.file s.asks.issued (reply.NoLease s.last_end)) (tells_small site.node s.kept.file s.asks.waiting (reply.NoLease s.last_end))

  became_small : (s : FileState) (before after : LeaseState) → FileSmall s → StepSmall site.node (lease_became site s before after)
  became_small s (held h) (free p) small = record { state = record { head = small.head; tenure = tt }; outs = no_lease_outs s }
  became_small s (asking r) (free p) small = record { state = record { head = small.head; tenure = small.tenure }; outs = no_lease_outs s }
  became_small s (writing r) (free p) small = record { state = record { head = small.head; tenure = small.tenure }; outs = no_lease_outs s }
  became_small s (free p) after small = deadlines_small s s.primary.tenure small
  became_small s (held h) (held k) small = deadlines_small s s.primary.tenure small
  became_small s (held h) (asking r) small = deadlines_small s s.primary.tenure small
  became_small s (held h) (writing r) small = deadlines_small s s.primary.tenure small
  became_small s (asking q) (held h) small = deadlines_small s s.primary.tenure small
  became_small s (asking q) (asking r) small = deadlines_small s s.primary.tenure small
  became_small s (asking q) (writing r) small = deadlines_small s s.primary.tenure small
  became_small s (writing q) (held h) small = deadlines_small s s.primary.tenure small
  became_small s (writing q) (asking r) small = deadlines_small s s.primary.tenure small
  became_small s (writing q) (writing r) small = deadlines_small s s.primary.tenure small

  pub expired_small : (s : FileState) → FileSmall s → StepSmall site.node (expired site s)
  unfolding expired
  expired_small s small = became_small (record s { lease = lease_expired s.lease site.now }) s.lease (lease_expired s.lease site.now) (record { head = small.head; tenure = small.tenure })

  -- ---- the lease

  told_small : (s : FileState) (answer : Reply) → FileSmall s → StepSmall site.node (answer_waiting site s answer)
  told_small s answer small = record { state = record { head = small.head; tenure = small.tenure }; outs = tells_small site.node s.kept.file s.asks.waiting answer }

  led_on_small : (s : FileState) (o : Option Tenure) → FileSmall s → StepSmall site.node (led_on site s o)
  led_on_small s (Some t) small = record { state = small; outs = tt }
  led_on_small s None small =
      let d = drawn_small (ground_of site s).place s.primary.learnt s.kept.head (members_of s.kept.location) in
      record { state = record { head = d.keeps s.kept small.head; tenure = d.tenure }; outs = d.outs }

  news_small : (s : FileState) (news : LeaseNews) → FileSmall s → StepSmall site.node (lease_news site s news)
  news_small s lease.nothing small = record { state = small; outs = tt }
  news_small s (sends_write ballot x targets) small =
      record { state = record { head = small.head; tenure = small.tenure }; outs = each_small site.node (λ (target : NodeId × Boot). message site.node target.0 (payload.Write s.kept.file ballot target.1 x)) targets (λ target. (refl, tt)) }
  news_small s (holds end) small =
      let q = led_on_small (record s { last_end = end }) s.primary.tenure (record { head = small.head; tenure = small.tenure }) in
      record { state = q.state; outs = q.outs }
  news_small s (finds x) small = either_step (x.node.0 == site.node.0) _ _ (told_small s (reply.NoLease s.last_end) small) (told_small s (reply.Elsewhere x.node x.end) small)
  news_small s ends small = told_small s (reply.NoLease s.last_end) small

  answer_small : (s : FileState) (from : NodeId) (content : Payload) → FileSmall s → StepSmall site.node (answer_comes site s from content)
  unfolding answer_comes
  answer_small s from content small =
      news_small (record s { lease = (on_answer s.lease site.now from content).state; last_end = end_after_answer site s from content }) (on_answer s.lease site.now from content).news (record { head = small.head; tenure = small.tenure })

  -- ---- the replica

  record ActedSmall (row : FileRow) (acted : Acted) : Type 0 where
    head : IsSmall (kept_after row acted.rec).head
    answer : (from to : NodeId) → AreSmall from (if_any from to acted.answer)

  either_acted : {row : FileRow} (b : Bool) (x y : Acted) → (b ≡ true → ActedSmall row x) → (b ≡ false → ActedSmall row y) → ActedSmall row (cond b x y)
  either_acted true x y p q = p refl
  either_acted false x y p q = q refl

  acted_small : (s : FileState) (from : NodeId) (acted : Acted) → FileSmall s → ActedSmall s.kept acted → StepSmall site.node (replica_acts site s from acted)
  acted_small s from acted small is = record { state = record { head = is.head; tenure = small.tenure }; outs = is.answer site.node from }

  promised_small : (row : FileRow) (epoch : Epoch) (acted : Acted) → IsSmall row.head → ActedSmall row acted → ActedSmall row (as_promised row.file row.head epoch acted)
  promised_small row epoch acted small is =
      either_acted (is_earlier epoch row.head.promised) _ _ (λ e. record { head = small; answer = λ from to. ((refl, tt), tt) })
      (λ e. either_acted (is_earlier row.head.promised epoch) _ _ (λ f. record { head = small; answer = λ from to. ((refl, tt), tt) }) (λ f. is))

  gathered_small : (row : FileRow) (epoch : Epoch) → IsSmall row.head → ActedSmall row (gathered row.file row.head epoch)
  unfolding gathered
  gathered_small row epoch small =
      either_acted (is_earlier epoch row.head.promised) _ _ (λ e. record { head = small; answer = λ from to. ((refl, tt), tt) })
      (λ e. either_acted (is_earlier row.head.promised epoch) _ _ (λ f. record { head = small; answer = λ from to. ((refl, small), tt) }) (λ f. record { head = small; answer = λ from to. ((refl, small), tt) }))

  staged_small : (row : FileRow) (epoch : Epoch) (object : ℕ) (version : Stamp) (bytes : List ℕ) → IsSmall row.head → ActedSmall row (staged row.file row.head row.held epoch object version bytes)
  unfolding staged
  staged_small row epoch object version bytes small =
      promised_small row epoch (record { rec = stage_record row.file row.held object version bytes; answer = Some (payload.Staged row.file epoch object version) }) small
      (record { head = at (has_version row.held (body_of object version)); answer = λ from to. ((refl, tt), tt) })
    where
      at : (b : Bool) → IsSmall (kept_after row (cond b None (Some (kept.Stage row.file object version bytes)))).head
      at true = small
      at false = small

  headed_small : (row : FileRow) (epoch : Epoch) (head : FileHead) → IsSmall row.head → IsSmall head → ActedSmall row (headed row.file row.head row.held epoch head)
  unfolding headed
  headed_small row epoch head small new =
      either_acted (is_epoch head.promised epoch && is_epoch head.stamp.epoch epoch) _ _
      (λ e. promised_small row epoch (head_offered row.file row.head row.held epoch head) small
      (either_acted (is_below row.head.stamp head.stamp) _ _ (λ f. at (first_missing row.held head.versions)) (λ f. record { head = small; answer = λ from to. ((refl, tt), tt) })))
      (λ e. record { head = small; answer = λ from to. tt })
    where
      at : (o : Option ObjectVersion) → ActedSmall row (head_taken row.file epoch head o)
      at None = record { head = new; answer = λ from to. ((refl, tt), tt) }
      at (Some v) = record { head = small; answer = λ from to. ((refl, tt), tt) }

  below : (a b : ℕ) → nat_le a b ≡ true → a ≤ b
  below a b is = grind (arith, nat_tests)

  within : (head : FileHead) → head_fits head ≡ true → IsSmall head
  within head fits =
      let parts = and_parts (nat_le (length head.versions) OBJECTS && nat_le (length head.sessions) CLIENTS) (nat_lt head.stamp.count COUNTS) fits in
      let lists = and_parts (nat_le (length head.versions) OBJECTS) (nat_le (length head.sessions) CLIENTS) parts.0 in
      below (length head.versions) OBJECTS lists.0

  updated_small : (row : FileRow) (update : Update) → IsSmall row.head → ActedSmall row (updated row.file row.head update)
  unfolding updated
  updated_small row update small =
      promised_small row update.stamp.epoch (update_offered row.file row.head update) small
      (either_acted (not (is_epoch row.head.stamp.epoch update.stamp.epoch)) _ _ (λ e. record { head = small; answer = λ from to. ((refl, tt), tt) })
      (λ e. either_acted (nat_le update.stamp.count row.head.stamp.count) _ _ (λ f. record { head = small; answer = λ from to. ((refl, tt), tt) })
      (λ f. either_acted (update.stamp.count == row.head.stamp.count + 1) _ _ (λ g. either_acted (head_fits (head_after row.head update)) _ _ (λ fits. record { head = within (head_after row.head update) fits; answer = λ from to. ((refl, tt), tt) }) (λ full. record { head = small; answer = λ from to. tt }))
      (λ g. record { head = small; answer = λ from to. ((refl, tt), tt) }))))

  -- an ask on a striped file
  striped_small : (row : FileRow) (id : OpId) (capability : Capability) (asked : Op) → IsSmall row.head → ActedSmall row (handle_striped site row id capability asked)
  striped_small row id capability asked small =
      striped_outcome (ActedSmall row) site row id capability asked
      (record {
        nothing = record { head = small; answer = λ from to. tt };
        tells = λ answer. record { head = small; answer = λ from to. ((refl, tt), tt) };
        keeps = λ update keeps. record { head = within (head_after row.head update) keeps.fits; answer = λ from to. ((refl, tt), tt) };
      })

  -- ---- asks

  under_small : (s : FileState) (l : LeaseState) (ask : WaitingAsk) → FileSmall s → StepSmall site.node (ask_under site s l ask)
  under_small s (held h) ask small =
      either_step (is_active s.primary.tenure) _ _
      (let q = serve_small (ground_of site s) (record { primary = s.primary; asks = s.asks; turned = quiet }) ask (waits s.asks ask) (record { tenure = small.tenure; outs = tt; rec = refl }) in
      record { state = record { head = subst (λ (r : Option Record). IsSmall (kept_after s.kept r).head) (sym q.rec) small.head; tenure = q.tenure }; outs = q.outs })
      (record { state = record { head = small.head; tenure = small.tenure }; outs = tt })
  under_small s (asking r) ask small = record { state = record { head = small.head; tenure = small.tenure }; outs = tt }
  under_small s (writing r) ask small = record { state = record { head = small.head; tenure = small.tenure }; outs = tt }
  under_small s (free p) ask small = at (elsewhere site s.acceptor.accepted)
    where
      at : (o : Option Reply) → StepSmall site.node (ask_without_lease site s p ask o)
      at (Some answer) = record { state = record { head = small.head; tenure = small.tenure }; outs = ((refl, tt), tt) }
      at None = either_step (can_ask p) _ _
          (record {
            state = record { head = small.head; tenure = small.tenure };
            outs = each_small site.node (λ (to : NodeId). message site.node to (payload.Read s.kept.file (round_starts p site.now (members_of s.kept.location)).ballot)) (members_of s.kept.location) (λ to. (refl, tt));
          })
          (record { state = small; outs = tt })

  let_in_small : (s : FileState) (id : OpId) (capability : Capability) (asked : Op) (o : Option Reply) → FileSmall s → StepSmall site.node (ask_let_in site s id capability asked o)
  let_in_small s id capability asked (Some answer) small = record { state = record { head = small.head; tenure = small.tenure }; outs = ((refl, tt), tt) }
  let_in_small s id capability asked None small = stored s.kept.location
    where
      rows : (t : FileState) → FileSmall t → StepSmall site.node (ask_rows site t (waiting_ask site id capability.epoch asked))
      rows t is = either_step (asked_already t.asks (waiting_ask site id capability.epoch asked).id) _ _ (record { state = is; outs = tt }) (under_small t t.lease (waiting_ask site id capability.epoch asked) is)

      stored : (was : Option Location) → StepSmall site.node (and_then (steps_to (record s { used = site.now }) (keeps (view_record s capability.location was))) (λ (state : FileState). ask_rows site state (waiting_ask site id capability.epoch asked)))
      stored None = let q = rows (steps_to (record s { used = site.now }) (keeps (view_record s capability.location None))).state (record { head = small.head; tenure = small.tenure }) in record { state = q.state; outs = q.outs }
      stored (Some l) = let q = rows (steps_to (record s { used = site.now }) (keeps (view_record s capability.location (Some l)))).state (record { head = small.head; tenure = small.tenure }) in record { state = q.state; outs = q.outs }

  asks_small : (s : FileState) (k : Kind) (id : OpId) (capability : Capability) (asked : Op) → FileSmall s → StepSmall site.node (ask_comes site s k id capability asked)
  unfolding handle_ask
  asks_small s kind.Replicated id capability asked small = let_in_small s id capability asked (refusal_of site s.kept.location capability asked) small
  asks_small s kind.Striped id capability asked small =
      acted_small s id.client (handle_striped site s.kept id capability asked) small (striped_small s.kept id capability asked small.head)

  -- ---- messages and Wakes

  heard_small : (s : FileState) (l : LeaseState) (from : NodeId) (content : Payload) → FileSmall s → ContentSmall content → StepSmall site.node (primary_hears site s l from content)
  unfolding hears
  heard_small s (held h) from content small new =
      let q = follow_small (ground_of site s) s.primary.tenure s.asks (hears_in (ground_of site s) s.primary.learnt s.primary.tenure from content) (hears_small (ground_of site s) s.primary.learnt small.head s.primary.tenure from content small.tenure new) in
      record { state = record { head = q.keeps s.kept small.head; tenure = q.tenure }; outs = q.outs }
  heard_small s (free p) from content small new = record { state = small; outs = tt }
  heard_small s (asking r) from content small new = record { state = small; outs = tt }
  heard_small s (writing r) from content small new = record { state = small; outs = tt }

  message_small : (s : FileState) (from : NodeId) (content : Payload) → FileSmall s → ContentSmall content → StepSmall site.node (message_comes site s from content)
  unfolding read_comes write_comes fetched_from
  message_small s from (payload.Ask number capability asked) small new = asks_small s capability.location.kind (record { client = from; number = number }) capability asked small
  message_small s from (payload.Read f ballot) small new = record { state = record { head = small.head; tenure = small.tenure }; outs = at (on_read s.acceptor ballot).answer }
    where
      at : (answer : ReadAnswer) → AreSmall site.node (message site.node from (answer_to_read s.kept.file s.acceptor.boot ballot answer) ∷ [])
      at (promise report) = ((refl, tt), tt)
      at (read_refused seen) = ((refl, tt), tt)
  message_small s from (payload.Write f ballot boot x) small new = record { state = record { head = small.head; tenure = small.tenure }; outs = at (on_write s.acceptor ballot boot x).answer }
    where
      at : (answer : WriteAnswer) → AreSmall site.node (answers_to_write site s from ballot boot answer)
      at accepted = ((refl, tt), tt)
      at (write_refused seen) = ((refl, tt), tt)
      at other_boot = tt
  message_small s from (payload.Promise f ballot boot report) small new = answer_small s from (payload.Promise f ballot boot report) small
  message_small s from (payload.Accepted f ballot boot) small new = answer_small s from (payload.Accepted f ballot boot) small
  message_small s from (payload.Outrun f ballot seen) small new = answer_small s from (payload.Outrun f ballot seen) small
  message_small s from (payload.Gather f epoch) small new = acted_small s from (gathered s.kept.file s.kept.head epoch) small (gathered_small s.kept epoch small.head)
  message_small s from (payload.Fetch f epoch object version) small new = record { state = record { head = small.head; tenure = small.tenure }; outs = at (has_version s.kept.held (body_of object version)) }
    where
      at : (b : Bool) → AreSmall site.node (message site.node from (cond b (payload.Object s.kept.file epoch object version (site.body s.kept.file object version)) (payload.Missing s.kept.file epoch object version)) ∷ [])
      at true = ((refl, tt), tt)
      at false = ((refl, tt), tt)
  message_small s from (payload.Stage f epoch object version bytes) small new = acted_small s from (staged s.kept.file s.kept.head s.kept.held epoch object version bytes) small (staged_small s.kept epoch object version bytes small.head)
  message_small s from (payload.Head f epoch head) small new = acted_small s from (headed s.kept.file s.kept.head s.kept.held epoch head) small (headed_small s.kept epoch head small.head new)
  message_small s from (payload.Update f update) small new = acted_small s from (updated s.kept.file s.kept.head update) small (updated_small s.kept update small.head)
  message_small s from content small new = heard_small s s.lease from content small new

  -- Any message whose head is small.
  pub step_small : (s : FileState) (from : NodeId) (content : Payload) → FileSmall s → ContentSmall content → StepSmall site.node (step_of_file site s from content)
  unfolding step_of_file
  step_small s from content small new =
      let first = expired_small s small in
      let rest = message_small (expired site s).state from content first.state new in
      record { state = rest.state; outs = both_small site.node (expired site s).turned.outs (message_comes site (expired site s).state from content).turned.outs first.outs rest.outs }

  wakes_outs : (place : Place) (o : Option Tenure) → TenureSmall o → AreSmall place.node (wakes_under place o).outs
  wakes_outs place None small = tt
  wakes_outs place (Some t) small = at t.progress
    where
      again : (issued : Option IssuedUpdate) (node : NodeId) (state : PeerState) → StateSmall state → AreSmall place.node (if_any place.node node (resend place t.epoch issued node state))
      again issued node peer.Unknown is = ((refl, tt), tt)
      again None node peer.Current is = tt
      again (Some i) node peer.Current is = one (has_node i.acked node.0)
        where
          one : (b : Bool) → AreSmall place.node (if_any place.node node (cond b None (Some (payload.Update place.file i.update))))
          one true = tt
          one false = ((refl, tt), tt)
      again issued node (peer.Reported head) is = tt
      again issued node (peer.Feeding known object version body) is = ((refl, tt), tt)
      again issued node (peer.Heading known head) is = ((refl, is), tt)

      asks_unknown : (node : NodeId) (state : PeerState) → StateSmall state → AreSmall place.node (if_any place.node node (gather_unknown place t.epoch node state))
      asks_unknown node peer.Unknown is = ((refl, tt), tt)
      asks_unknown node (peer.Reported head) is = tt
      asks_unknown node (peer.Feeding known object version body) is = tt
      asks_unknown node (peer.Heading known head) is = tt
      asks_unknown node peer.Current is = tt

      at : (p : Progress) → AreSmall place.node (wakes_in place t p).outs
      at progress.Gathering = peers_outs place (gather_unknown place t.epoch) t.peers asks_unknown small.0
      at (progress.Fetching chosen source asked later) = ((refl, tt), tt)
      at (progress.Installing chosen acked) = peers_outs place (resend place t.epoch None) t.peers (again None) small.0
      at (progress.Active head issued) = peers_outs place (resend place t.epoch issued) t.peers (again issued) small.0

  woken_small : (s : FileState) (l : LeaseState) → FileSmall s → StepSmall site.node (wakes_under_lease site s l)
  unfolding wakes
  woken_small s (free p) small = record { state = small; outs = tt }
  woken_small s (asking r) small = record { state = small; outs = tt }
  woken_small s (writing r) small = record { state = small; outs = tt }
  woken_small s (held h) small = record { state = q.state; outs = both_small site.node (wakes_under (ground_of site s).place s.primary.tenure).outs (renews site t h).turned.outs (wakes_outs (ground_of site s).place s.primary.tenure small.tenure) q.outs }
    where
      t : FileState
      t = (steps_to s (wakes (ground_of site s).place s.primary)).state

      now : FileSmall (steps_to s (wakes (ground_of site s).place s.primary)).state
      now = record { head = subst (λ (r : Option Record). IsSmall (kept_after s.kept r).head) (sym (wake_keeps (ground_of site s).place s.primary)) small.head; tenure = small.tenure }

      q : StepSmall site.node (renews site (steps_to s (wakes (ground_of site s).place s.primary)).state h)
      q = either_step (is_renewal_due h site.now (steps_to s (wakes (ground_of site s).place s.primary)).state.used) _ _
          (record {
            state = record { head = now.head; tenure = now.tenure };
            outs = each_small site.node (λ (to : NodeId). message site.node to (payload.Read (steps_to s (wakes (ground_of site s).place s.primary)).state.kept.file (round_starts h.proposer site.now (members_of (steps_to s (wakes (ground_of site s).place s.primary)).state.kept.location)).ballot))
                (members_of (steps_to s (wakes (ground_of site s).place s.primary)).state.kept.location) (λ to. (refl, tt));
          })
          (record { state = now; outs = tt })

  pub wake_small : (s : FileState) → FileSmall s → StepSmall site.node (wake_of_file site s)
  unfolding wake_of_file
  wake_small s small = woken_small s s.lease small
