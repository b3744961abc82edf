-- what holds of each ask that comes holds of each that waits or is issued
use Rattle.std.proofs.Common.{ℕ, Bool, true, false, List, [], ◌∷◌, ◌++◌, if◌then◌else◌, ◌&&◌, ◌==◌, not, Option, Some, None}
use Rattle.std.specs.Prelude.{cond, filter, is_some, nat_lt, length}
use Rattle.std.specs.List.{fold, AllByRecursion}
use Rattle.xt_base.specs.declared.ids.NodeId.{NodeId}
use Rattle.xt_base.specs.declared.ids.OpId.{OpId}
use Rattle.xt_messages.specs.declared.file.Capability.{Capability}
use Rattle.xt_messages.specs.declared.file.Kind.{Kind}
use Rattle.xt_messages.specs.declared.file.Kind.TheVariants as kind
use Rattle.xt_messages.specs.declared.file.Op.{Op}
use Rattle.xt_messages.specs.declared.message.Payload.{Payload}
use Rattle.xt_messages.specs.declared.message.Payload.TheVariants as payload
use Rattle.xt_messages.specs.declared.reply.Reply.{Reply}
use Rattle.xt_messages.specs.declared.reply.Reply.TheVariants as reply
use Rattle.xt_protocol.specs.LeaseRows.{LeaseState, Proposer, free, asking, writing, held, LeaseNews, sends_write, holds, finds, ends, on_answer, can_ask, round_starts, is_renewal_due, lease_expired}
use Rattle.xt_protocol.specs.LeaseRows as lease
use Rattle.xt_protocol.specs.AskRows.{reads_of, ask_waits, serve_ask, elsewhere, ask_without_lease, ask_under, ask_rows, ask_let_in, refusal_of, handle_ask, waiting_ask}
use Rattle.xt_protocol.specs.Asks.{Served, WAITING, no_asks, waits, stays, is_read, newly_issued, write_done, serves, serves_waiting, serves_all, comes_back, asks_follow, asked_already}
use Rattle.xt_protocol.specs.FileLeases.{read_comes, write_comes, answer_comes, end_after_answer, answer_waiting, led_on, lease_news}
use Rattle.xt_protocol.specs.FileStates.{FileState, Site, FileStep, nothing, steps_to, members_of, ground_of}
use Rattle.xt_protocol.specs.FileSteps.{ask_comes, primary_hears, message_comes, step_of_file, wakes_under_lease, wake_of_file}
use Rattle.xt_protocol.specs.Overdue.{is_due, issued_due, deadlines_under, lease_became, expired}
use Rattle.xt_protocol.specs.Primaries.{Ground, Led, is_active, is_ready}
use Rattle.xt_protocol.specs.PrimaryRows.{hears}
use Rattle.xt_protocol.specs.Serving.{writes}
use Rattle.xt_protocol.specs.Turns.{quiet}
use Rattle.xt_protocol.specs.declared.states.Asks.{Asks}
use Rattle.xt_protocol.specs.declared.states.IssuedAsk.{IssuedAsk}
use Rattle.xt_protocol.specs.declared.states.PrimaryState.{PrimaryState}
use Rattle.xt_protocol.specs.declared.states.Tenure.{Tenure}
use Rattle.xt_protocol.specs.declared.states.WaitingAsk.{WaitingAsk}
use Rattle.osd_invariants.specs.OpenAsks.{AskIs, AsksAre, IssuedIs}

module _ (P : WaitingAsk → Type 0) where
  abbrev Are : Asks → Type 0
  Are asks = AsksAre P asks

  either : (Q : Bool → Type 0) (b : Bool) → Q true → Q false → Q b
  either Q true p q = p
  either Q false p q = q

  pub none_are : Are no_asks
  none_are = record { waiting = tt; issued = tt }

  -- one more waits
  all_pushed : (ws : List WaitingAsk) (ask : WaitingAsk) → AllByRecursion P ws → P ask → AllByRecursion P (ws ++ ask ∷ [])
  all_pushed [] ask all of = (of, tt)
  all_pushed (w ∷ ws) ask all of = (all.0, all_pushed ws ask all.1 of)

  pushed : (asks : Asks) (ask : WaitingAsk) → Are asks → P ask → Are (record asks { waiting = asks.waiting ++ ask ∷ [] })
  pushed asks ask are of = record { waiting = all_pushed asks.waiting ask are.waiting of; issued = are.issued }

  waits_are : (asks : Asks) (ask : WaitingAsk) → Are asks → P ask → Are (waits asks ask)
  waits_are asks ask are of =
      either (λ b. Are (if b then record asks { waiting = asks.waiting ++ ask ∷ [] } else asks)) (nat_lt (length asks.waiting) WAITING) (pushed asks ask are of) are

  issued_is : (t : Option Tenure) (ask : WaitingAsk) → P ask → IssuedIs P (newly_issued t ask)
  issued_is t ask of = either (λ b. IssuedIs P (if b then Some (record { ask = ask; told = false }) else None)) (is_some _) of tt

  done_are : (s : Served) (ask : WaitingAsk) (o : Option Led) (left : Asks) → Are s.asks → Are left → P ask → Are (write_done s ask o left).asks
  done_are s ask None left are behind of = behind
  done_are s ask (Some led) left are behind of =
      either (λ b. Are (if b then s.asks else record s.asks { issued = newly_issued led.primary.tenure ask })) (is_some s.asks.issued) are
      (record { waiting = are.waiting; issued = issued_is led.primary.tenure ask of })

  either_served : (b : Bool) (x y : Served) → Are x.asks → Are y.asks → Are (cond b x y).asks
  either_served true x y p q = p
  either_served false x y p q = q

  serves_are : (g : Ground) (s : Served) (ask : WaitingAsk) (left : Asks) → Are s.asks → Are left → P ask → Are (serves g s ask left).asks
  serves_are g s ask left are behind of =
      either_served (is_read ask.op) _ _ are (done_are s ask (writes g s.primary ask.id ask.epoch ask.op) left are behind of)

  each_are : (g : Ground) (waiting : List WaitingAsk) (s : Served) → Are s.asks → AllByRecursion P waiting → Are (fold (serves_waiting g) s waiting).asks
  each_are g [] s are all = are
  each_are g (ask ∷ waiting) s are all =
      each_are g waiting (serves_waiting g s ask)
      (either_served (not (is_read ask.op) && is_some s.asks.issued) (record s { asks = stays s.asks ask }) (serves g s ask (stays s.asks ask)) (pushed s.asks ask are all.0)
      (serves_are g s ask (stays s.asks ask) are (pushed s.asks ask are all.0) all.0))
      all.1

  all_are : (g : Ground) (p : PrimaryState) (waiting : List WaitingAsk) → AllByRecursion P waiting → Are (serves_all g p waiting).asks
  unfolding serves_all
  all_are g p waiting all = each_are g waiting (record { primary = p; asks = no_asks; turned = quiet }) none_are all

  back_are : (asks : Asks) → Are asks → Are (comes_back asks)
  back_are asks are = at asks.issued are.issued
    where
      at : (o : Option IssuedAsk) → IssuedIs P o → Are (elim o [ None ↦ asks | Some issued ↦ record { waiting = issued.ask ∷ asks.waiting; issued = None } ])
      at None of = are
      at (Some i) of = record { waiting = (of, are.waiting); issued = tt }

  follow_are : (g : Ground) (before : Option Tenure) (asks : Asks) (led : Led) → Are asks → Are (asks_follow g before asks led).asks
  follow_are g before asks led are =
      either_served (is_ready led.primary.tenure && not (is_ready before)) _ _ (all_are g led.primary asks.waiting are.waiting)
      (either (λ b. Are (if b then asks else comes_back asks)) (is_active led.primary.tenure) are (back_are asks are))

  module _ (site : Site) where
    abbrev Stay : FileStep → Type 0
    Stay step = Are step.state.asks

    either_step : (b : Bool) (x y : FileStep) → Stay x → Stay y → Stay (cond b x y)
    either_step true x y p q = p
    either_step false x y p q = q

    -- ---- what is overdue

    filtered : (test : WaitingAsk → Bool) (ws : List WaitingAsk) → AllByRecursion P ws → AllByRecursion P (filter test ws)
    filtered test [] all = tt
    filtered test (w ∷ ws) all =
        either (λ b. AllByRecursion P (if b then w ∷ filter test ws else filter test ws)) (test w) (all.0, filtered test ws all.1) (filtered test ws all.1)

    due_is : (o : Option IssuedAsk) → IssuedIs P o → IssuedIs P (issued_due site.now o)
    due_is None of = tt
    due_is (Some i) of = of

    deadlines_are : (s : FileState) (o : Option Tenure) → Are s.asks → Stay (deadlines_under site s o)
    deadlines_are s None are = are
    deadlines_are s (Some t) are = record { waiting = filtered (λ w. not (is_due site.now w)) s.asks.waiting are.waiting; issued = due_is s.asks.issued are.issued }

    became_are : (s : FileState) (before after : LeaseState) → Are s.asks → Stay (lease_became site s before after)
    became_are s (held h) (free p) are = none_are
    became_are s (asking r) (free p) are = none_are
    became_are s (writing r) (free p) are = none_are
    became_are s (free p) after are = deadlines_are s s.primary.tenure are
    became_are s (held h) (held k) are = deadlines_are s s.primary.tenure are
    became_are s (held h) (asking r) are = deadlines_are s s.primary.tenure are
    became_are s (held h) (writing r) are = deadlines_are s s.primary.tenure are
    became_are s (asking q) (held h) are = deadlines_are s s.primary.tenure are
    became_are s (asking q) (asking r) are = deadlines_are s s.primary.tenure are
    became_are s (asking q) (writing r) are = deadlines_are s s.primary.tenure are
    became_are s (writing q) (held h) are = deadlines_are s s.primary.tenure are
    became_are s (writing q) (asking r) are = deadlines_are s s.primary.tenure are
    became_are s (writing q) (writing r) are = deadlines_are s s.primary.tenure are

    pub expired_are : (s : FileState) → Are s.asks → Stay (expired site s)
    unfolding expired
    expired_are s are = became_are (record s { lease = lease_expired s.lease site.now }) s.lease (lease_expired s.lease site.now) are

    -- ---- asks

    without_are : (s : FileState) (p : Proposer) (ask : WaitingAsk) (o : Option Reply) → Are s.asks → P ask → Stay (ask_without_lease site s p ask o)
    without_are s p ask (Some answer) are of = are
    without_are s p ask None are of =
        let members = members_of s.kept.location in
        let r = round_starts p site.now members in
        either_step (can_ask p) (steps_to (record s { asks = waits s.asks ask; lease = asking r }) (reads_of site s members r)) (nothing s) (waits_are s.asks ask are of) are

    under_are : (s : FileState) (l : LeaseState) (ask : WaitingAsk) → Are s.asks → P ask → Stay (ask_under site s l ask)
    under_are s (held h) ask are of =
        either_step (is_active s.primary.tenure) (serve_ask site s ask) (ask_waits s ask)
        (serves_are (ground_of site s) (record { primary = s.primary; asks = s.asks; turned = quiet }) ask (waits s.asks ask) are (waits_are s.asks ask are of) of) (waits_are s.asks ask are of)
    under_are s (asking r) ask are of = waits_are s.asks ask are of
    under_are s (writing r) ask are of = waits_are s.asks ask are of
    under_are s (free p) ask are of = without_are s p ask (elsewhere site s.acceptor.accepted) are of

    rows_are : (s : FileState) (ask : WaitingAsk) → Are s.asks → P ask → Stay (ask_rows site s ask)
    rows_are s ask are of = either_step (asked_already s.asks ask.id) (nothing s) (ask_under site s s.lease ask) are (under_are s s.lease ask are of)

    let_in_are : (s : FileState) (id : OpId) (capability : Capability) (asked : Op) (o : Option Reply) → Are s.asks
        → ((deadline : ℕ) → P (record { id = id; epoch = capability.epoch; op = asked; deadline = deadline })) → Stay (ask_let_in site s id capability asked o)
    let_in_are s id capability asked (Some answer) are of = are
    let_in_are s id capability asked None are of = rows_are _ (waiting_ask site id capability.epoch asked) are (of (waiting_ask site id capability.epoch asked).deadline)

    asks_are : (s : FileState) (k : Kind) (id : OpId) (capability : Capability) (asked : Op) → Are s.asks
        → ((deadline : ℕ) → P (record { id = id; epoch = capability.epoch; op = asked; deadline = deadline })) → Stay (ask_comes site s k id capability asked)
    unfolding handle_ask
    asks_are s kind.Replicated id capability asked are of = let_in_are s id capability asked (refusal_of site s.kept.location capability asked) are of
    asks_are s kind.Striped id capability asked are of = are

    -- ---- the lease

    told_are : (s : FileState) (answer : Reply) → Are s.asks → Stay (answer_waiting site s answer)
    told_are s answer are = record { waiting = tt; issued = are.issued }

    led_are : (s : FileState) (o : Option Tenure) → Are s.asks → Stay (led_on site s o)
    led_are s (Some t) are = are
    led_are s None are = are

    news_are : (s : FileState) (news : LeaseNews) → Are s.asks → Stay (lease_news site s news)
    news_are s lease.nothing are = are
    news_are s (sends_write ballot l targets) are = are
    news_are s (holds end) are = led_are (record s { last_end = end }) s.primary.tenure are
    news_are s (finds l) are =
        either_step (l.node.0 == site.node.0) (answer_waiting site s (reply.NoLease s.last_end)) (answer_waiting site s (reply.Elsewhere l.node l.end))
        (told_are s (reply.NoLease s.last_end) are) (told_are s (reply.Elsewhere l.node l.end) are)
    news_are s ends are = told_are s (reply.NoLease s.last_end) are

    answer_are : (s : FileState) (from : NodeId) (content : Payload) → Are s.asks → Stay (answer_comes site s from content)
    unfolding answer_comes
    answer_are s from content are =
        news_are (record s { lease = (on_answer s.lease site.now from content).state; last_end = end_after_answer site s from content }) (on_answer s.lease site.now from content).news are

    -- ---- a message, and a Wake

    heard_are : (s : FileState) (l : LeaseState) (from : NodeId) (content : Payload) → Are s.asks → Stay (primary_hears site s l from content)
    heard_are s (held h) from content are = follow_are (ground_of site s) s.primary.tenure s.asks (hears (ground_of site s) s.primary from content) are
    heard_are s (free p) from content are = are
    heard_are s (asking r) from content are = are
    heard_are s (writing r) from content are = are

    message_are : (s : FileState) (from : NodeId) (content : Payload) → Are s.asks → AskIs P from content → Stay (message_comes site s from content)
    unfolding read_comes write_comes
    message_are s from (payload.Ask number capability asked) are of = asks_are s capability.location.kind (record { client = from; number = number }) capability asked are of
    message_are s from (payload.Read file ballot) are of = are
    message_are s from (payload.Write file ballot boot l) are of = are
    message_are s from (payload.Promise file ballot boot report) are of = answer_are s from (payload.Promise file ballot boot report) are
    message_are s from (payload.Accepted file ballot boot) are of = answer_are s from (payload.Accepted file ballot boot) are
    message_are s from (payload.Outrun file ballot seen) are of = answer_are s from (payload.Outrun file ballot seen) are
    message_are s from (payload.Gather file epoch) are of = are
    message_are s from (payload.Fetch file epoch object version) are of = are
    message_are s from (payload.Stage file epoch object version bytes) are of = are
    message_are s from (payload.Head file epoch head) are of = are
    message_are s from (payload.Update file update) are of = are
    message_are s from content are of = heard_are s s.lease from content are

    pub step_are : (s : FileState) (from : NodeId) (content : Payload) → Are s.asks → AskIs P from content → Stay (step_of_file site s from content)
    unfolding step_of_file
    step_are s from content are of = message_are (expired site s).state from content (expired_are s are) of

    woken_are : (s : FileState) (l : LeaseState) → Are s.asks → Stay (wakes_under_lease site s l)
    woken_are s (free p) are = are
    woken_are s (asking r) are = are
    woken_are s (writing r) are = are
    woken_are s (held h) are = either_step (is_renewal_due h site.now s.used) _ _ are are

    pub wake_are : (s : FileState) → Are s.asks → Stay (wake_of_file site s)
    unfolding wake_of_file
    wake_are s are = woken_are s s.lease are
