-- The step of a file, on a message and on a Wake.
use Rattle.std.proofs.Common.{Bool, true, false, ◌≡◌, ℕ, ◌⊎◌, List, [], ◌∷◌, ◌++◌, refl, sym, ap, ◌∙◌, subst, inl, inr, if◌then◌else◌, ◌==◌, Option, Some, None}
use Rattle.std.specs.Prelude.{cond, map, filter}
use Rattle.xt_base.specs.declared.ids.NodeId.{NodeId}
use Rattle.xt_base.specs.declared.ids.FileId.{FileId}
use Rattle.xt_base.specs.declared.ids.Boot.{Boot}
use Rattle.xt_base.specs.declared.ids.Ballot.{Ballot}
use Rattle.xt_base.specs.declared.ids.Lease.{Lease}
use Rattle.xt_base.specs.declared.ids.OpId.{OpId}
use Rattle.xt_messages.specs.declared.event.Mark.TheVariants as mark
use Rattle.xt_messages.specs.declared.file.Capability.{Capability}
use Rattle.xt_messages.specs.declared.file.Kind.{Kind}
use Rattle.xt_messages.specs.declared.file.Kind.TheVariants as kind
use Rattle.xt_messages.specs.declared.file.Location.{Location}
use Rattle.xt_messages.specs.declared.file.Op.{Op}
use Rattle.xt_messages.specs.declared.file.Op.TheVariants as op
use Rattle.xt_messages.specs.declared.message.Msg.{Msg}
use Rattle.xt_messages.specs.declared.message.Payload.{Payload}
use Rattle.xt_messages.specs.declared.message.Payload.TheVariants as payload
use Rattle.xt_messages.specs.declared.reply.Reply.{Reply}
use Rattle.xt_messages.specs.declared.reply.Reply.TheVariants as reply
use Rattle.xt_protocol.specs.declared.turned.Turned.{Turned}
use Rattle.xt_protocol.specs.Register.{Round, same_ballot, lease_of, on_promise, ReadAnswer, promise, read_refused, WriteAnswer, Write, accepted, write_refused, other_boot, on_read, on_write}
use Rattle.xt_protocol.specs.LeaseRows.{LeaseState, Proposer, Held, free, asking, writing, held, LeaseNews, LeaseStep, Asked, asked_still, asked_write, asked_found, asking_promised, Written, written_still, written_won, written_late, writing_accepted, Renewal, no_news, renewal_write, renewed, on_renewal, step_of_asking, step_of_written, news_of_targets, news_of_renewal, answer_asking, answer_writing, sends_write, holds, finds, ends, on_answer, can_ask, round_starts, renewal_starts, is_renewal_due, has_run_out, has_turn, round_over, renewal_left, lease_expired}
use Rattle.xt_protocol.specs.LeaseRows as lease
use Rattle.osd_invariants.specs.Sound.{ListUnder, IsHeld}
use Rattle.xt_protocol.specs.AskRows.{ask_waits, serve_ask, reads_of, round_for, elsewhere, ask_without_lease, ask_under, ask_rows, view_record, ask_let_in, refusal_of, handle_ask, waiting_ask}
use Rattle.xt_protocol.specs.Asks.{Served, waits, asks_follow, asked_already, serves, tells_each, tells_untold}
use Rattle.xt_protocol.specs.FileLeases.{answer_to_read, read_comes, answers_to_write, end_after_write, write_comes, end_after_answer, writes_to, answer_waiting, live_lease, led_on, lease_held, lease_news, answer_comes}
use Rattle.xt_protocol.specs.FileStates.{FileState, Site, FileStep, nothing, steps_to, and_then, members_of, stripe_of, ground_of}
use Rattle.xt_protocol.specs.FileSteps.{replica_acts, ask_comes, primary_hears, message_comes, step_of_file, renews, wakes_under_lease, wake_of_file}
use Rattle.xt_protocol.specs.Overdue.{no_lease_for_all, deadlines_under, lease_became, expired, is_due, newly_due}
use Rattle.xt_protocol.specs.Primaries.{Ground, Led, is_active, have_in, majority_among, idle, if_any}
use Rattle.xt_protocol.specs.PrimaryRows.{draw_epoch, hears}
use Rattle.xt_protocol.specs.ReplicaRows.{kept_after, gathered, staged, headed, updated}
use Rattle.xt_protocol.specs.Serving.{wakes}
use Rattle.xt_protocol.specs.Turns.{quiet, shows, sends, joined, the_record, message, reply_to, tells}
use Rattle.xt_protocol.specs.declared.states.Acted.{Acted}
use Rattle.xt_protocol.specs.declared.states.IssuedAsk.{IssuedAsk}
use Rattle.xt_protocol.specs.declared.states.PrimaryState.{PrimaryState}
use Rattle.xt_protocol.specs.declared.states.Tenure.{Tenure}
use Rattle.xt_protocol.specs.declared.states.WaitingAsk.{WaitingAsk}
use Rattle.replica_safety.specs.Lists.{Has, AreDistinct}
use Rattle.replica_safety.proofs.Lists.{has-append}
use Rattle.replica_runs.specs.HeadWorld.{Message, shown, Entry}
use Rattle.replica_runs.proofs.Tools.{by_test}
use Rattle.replica_runs.specs.AskFits.{AskFits}
use Rattle.replica_runs.specs.FileView.{Reaches, FileReaches, seen_of, settled, IsList, ListFits, IsOrderly, IsFree, AskComes, ShowsFile}
use Rattle.replica_runs.specs.Seen.{Seen, ground_at, AreIn, TenureFits, Fits, Leads, OwnFits}
use Rattle.replica_runs.proofs.Choosing.{LeadsTo, draws}
use Rattle.replica_runs.proofs.Feeding.{seen_in}
use Rattle.replica_runs.proofs.Hearing as hearing
use Rattle.replica_runs.proofs.Reaching.{reaches, IsMute, silent, mute_first, mute_last, stores_first, gains_first, gather_acts, head_acts, update_acts, stage_acts, fetch_acts}
use Rattle.replica_runs.proofs.Sending.{map_has}
use Rattle.replica_runs.proofs.Serving.{Quietly, joined_none}
use Rattle.replica_runs.proofs.Waiting.{rests, follows, serves_one, wakes_again}

-- ---- a round that wins leaves the lease held

abbrev NewsHeld : LeaseState → LeaseNews → Type 0
NewsHeld l (holds end) = IsHeld l
NewsHeld l _ = Unit {0}

abbrev AnswerHeld : LeaseStep → Type 0
AnswerHeld step = NewsHeld step.state step.news

either_held : (b : Bool) (x y : LeaseStep) → AnswerHeld x → AnswerHeld y → AnswerHeld (cond b x y)
either_held true x y p q = p
either_held false x y p q = q

asked_held : (ballot : Ballot) (l : Lease) (a : Asked) → AnswerHeld (step_of_asking ballot l a)
asked_held ballot l (asked_still r) = tt
asked_held ballot l (asked_write r targets) = tt
asked_held ballot l (asked_found p found) = tt

written_held : (w : Written) → AnswerHeld (step_of_written w)
written_held (written_still r) = tt
written_held (written_won h) = tt
written_held (written_late p) = tt

targets_held : (l : LeaseState) (ballot : Ballot) (x : Lease) (targets : Option (List (NodeId × Boot))) → NewsHeld l (news_of_targets ballot x targets)
targets_held l ballot x None = tt
targets_held l ballot x (Some targets) = tt

renewal_held : (h : Held) (o : Option Round) (renewal : Renewal) → NewsHeld (held h) (news_of_renewal o renewal)
renewal_held h None renewal = tt
renewal_held h (Some r) no_news = tt
renewal_held h (Some r) (renewal_write targets) = tt
renewal_held h (Some r) (renewed end) = tt

asking_held : (r : Round) (now : ℕ) (from : NodeId) (content : Payload) → AnswerHeld (answer_asking r now from content)
asking_held r now from (payload.Promise file ballot boot report) = either_held (same_ballot ballot r.ballot) _ _ (asked_held r.ballot (lease_of r) (asking_promised r now from boot report)) tt
asking_held r now from (payload.Outrun file ballot seen) = either_held (same_ballot ballot r.ballot) _ _ tt tt
asking_held r now from _ = tt

writing_held : (r : Round) (now : ℕ) (from : NodeId) (content : Payload) → AnswerHeld (answer_writing r now from content)
writing_held r now from (payload.Promise file ballot boot report) =
    either_held (same_ballot ballot r.ballot) _ _ (targets_held (writing (on_promise r now from boot report).round) r.ballot (lease_of r) (lease.targets_of (on_promise r now from boot report).took)) tt
writing_held r now from (payload.Accepted file ballot boot) = either_held (same_ballot ballot r.ballot) _ _ (written_held (writing_accepted r now from boot)) tt
writing_held r now from (payload.Outrun file ballot seen) = either_held (same_ballot ballot r.ballot) _ _ tt tt
writing_held r now from _ = tt

answer_held : (l : LeaseState) (now : ℕ) (from : NodeId) (content : Payload) → AnswerHeld (on_answer l now from content)
answer_held (free p) now from content = tt
answer_held (asking r) now from content = asking_held r now from content
answer_held (writing r) now from content = writing_held r now from content
answer_held (held h) now from content = renewal_held (on_renewal h now from content).held h.renewal (on_renewal h now from content).renewal

news_held : (l : LeaseState) (now : ℕ) (from : NodeId) (content : Payload) (end : ℕ) → (on_answer l now from content).news ≡ holds end → IsHeld (on_answer l now from content).state
news_held l now from content end is = subst (NewsHeld (on_answer l now from content).state) is (answer_held l now from content)

module _ (stripe : ℕ) (ops : ℕ × ℕ → Op) (members : List ℕ) (site : Site) where
  abbrev n : ℕ
  n = site.node.0

  abbrev Mute : Turned → Type 0
  Mute u = IsMute stripe ops members n u

  abbrev Silent : List Msg → Type 0
  Silent outs = (m : Msg) → Has m outs → shown n m.payload ≡ []

  -- ---- rows that say nothing

  mute_sends : (outs : List Msg) → Silent outs → Mute (sends outs)
  mute_sends outs mute = record { none = refl; mute = mute; untold = tt }

  mute_one : (to : NodeId) (content : Payload) → shown n content ≡ [] → Silent (message site.node to content ∷ [])
  mute_one to content nothing m (inl p) = ap (λ (y : Msg). shown n y.payload) p ∙ nothing
  mute_one to content nothing m (inr h) = absurd h

  mute_append : (xs ys : List Msg) → Silent xs → Silent ys → Silent (xs ++ ys)
  mute_append xs ys first later m h = of (has-append m xs ys h)
    where
      of : Has m xs ⊎ Has m ys → shown n m.payload ≡ []
      of (inl k) = first m k
      of (inr k) = later m k

  mute_each : (file : FileId) (waiting : List WaitingAsk) (answer : Reply) → Silent (tells_each site.node file waiting answer)
  mute_each file waiting answer m h = let r = map_has (λ (w : WaitingAsk). reply_to site.node file w.id answer) waiting m h in ap (λ (y : Msg). shown n y.payload) r.2

  mute_untold : (file : FileId) (issued : Option IssuedAsk) (answer : Reply) → Silent (tells_untold site.node file issued answer)
  mute_untold file None answer m h = absurd h
  mute_untold file (Some i) answer m h =
      by_test (λ b. Has m (if b then [] else reply_to site.node file i.ask.id answer ∷ []) → shown n m.payload ≡ []) i.told (λ _ k. absurd k)
      (λ _ k. mute_one i.ask.id.client (payload.Reply i.ask.id.number file answer) refl m k) h

  -- the same to each of these nodes
  mute_to_each : (nodes : List NodeId) (content : Payload) → shown n content ≡ [] → Silent (map (λ to. message site.node to content) nodes)
  mute_to_each nodes content nothing m h = let r = map_has (λ (to : NodeId). message site.node to content) nodes m h in ap (λ (y : Msg). shown n y.payload) r.2 ∙ nothing

  mute_quiet : Mute quiet
  mute_quiet = record { none = refl; mute = λ m h. absurd h; untold = tt }

  -- what is overdue
  mute_all : (s : FileState) → Mute (no_lease_for_all site s).turned
  mute_all s = mute_sends (tells_untold site.node s.kept.file s.asks.issued (reply.NoLease s.last_end) ++ tells_each site.node s.kept.file s.asks.waiting (reply.NoLease s.last_end))
      (mute_append (tells_untold site.node s.kept.file s.asks.issued (reply.NoLease s.last_end)) (tells_each site.node s.kept.file s.asks.waiting (reply.NoLease s.last_end))
      (mute_untold s.kept.file s.asks.issued (reply.NoLease s.last_end)) (mute_each s.kept.file s.asks.waiting (reply.NoLease s.last_end)))

  mute_deadlines : (s : FileState) (o : Option Tenure) → Mute (deadlines_under site s o).turned
  mute_deadlines s None = mute_quiet
  mute_deadlines s (Some t) = mute_sends _
      (mute_append (tells_each site.node s.kept.file (filter (is_due site.now) s.asks.waiting) (reply.NoMajority (have_in t.peers t.progress) (majority_among t.peers)))
      (tells_untold site.node s.kept.file (newly_due site.now s.asks.issued) (reply.NoMajority (have_in t.peers t.progress) (majority_among t.peers)))
      (mute_each s.kept.file (filter (is_due site.now) s.asks.waiting) (reply.NoMajority (have_in t.peers t.progress) (majority_among t.peers)))
      (mute_untold s.kept.file (newly_due site.now s.asks.issued) (reply.NoMajority (have_in t.peers t.progress) (majority_among t.peers))))

  mute_became : (s : FileState) (before after : LeaseState) → Mute (lease_became site s before after).turned
  mute_became s (held h) (free p) = mute_all (record s { primary = idle s.primary })
  mute_became s (asking r) (free p) = mute_all s
  mute_became s (writing r) (free p) = mute_all s
  mute_became s (free p) after = mute_deadlines s s.primary.tenure
  mute_became s (held h) (held k) = mute_deadlines s s.primary.tenure
  mute_became s (held h) (asking r) = mute_deadlines s s.primary.tenure
  mute_became s (held h) (writing r) = mute_deadlines s s.primary.tenure
  mute_became s (asking q) (held h) = mute_deadlines s s.primary.tenure
  mute_became s (asking q) (asking r) = mute_deadlines s s.primary.tenure
  mute_became s (asking q) (writing r) = mute_deadlines s s.primary.tenure
  mute_became s (writing q) (held h) = mute_deadlines s s.primary.tenure
  mute_became s (writing q) (asking r) = mute_deadlines s s.primary.tenure
  mute_became s (writing q) (writing r) = mute_deadlines s s.primary.tenure

  mute_expired : (s : FileState) → Mute (expired site s).turned
  unfolding expired
  mute_expired s = mute_became (record s { lease = lease_expired s.lease site.now }) s.lease (lease_expired s.lease site.now)

  -- ---- steps of a file

  abbrev At : FileState → Option ℕ → List Message → List Entry → Seen
  At s holder sent entries = seen_of site s holder sent entries

  abbrev Steps : Seen → FileStep → Type 0
  Steps a step = FileReaches stripe ops members n a step

  -- one that changes nothing that is seen
  still_step : (s t : FileState) (turned : Turned) (holder : Option ℕ) (sent : List Message) (entries : List Entry) → t.kept ≡ s.kept → t.primary ≡ s.primary → Mute turned → Fits members n (At s holder sent entries)
      → Steps (At s holder sent entries) (steps_to t turned)
  still_step s t turned holder sent entries kept primary m fits = record {
    reach = subst (λ (p : PrimaryState). Reaches stripe ops members n (At s holder sent entries) p.tenure turned) (sym primary)
        (subst (Reaches stripe ops members n (At s holder sent entries) s.primary.tenure) (sym whole) (mute_last stripe ops members n (At s holder sent entries) s.primary.tenure quiet turned
        (silent stripe ops members n (At s holder sent entries) [] [] fits (λ k h. absurd h) refl) m));
    kept = ap (λ k. kept_after k turned.rec) kept;
  }
    where
      whole : turned ≡ joined quiet turned
      whole = refl

  -- the same after a part that says nothing
  mute_then : (a : Seen) (first : FileStep) (rows : FileState → FileStep) → Mute first.turned → Steps a (rows first.state) → Steps a (and_then first rows)
  mute_then a first rows m next = record {
    reach = mute_first stripe ops members n a (rows first.state).state.primary.tenure first.turned (rows first.state).turned m next.reach;
    kept = next.kept ∙ ap (λ r. kept_after a.kept (the_record r (rows first.state).turned.rec)) (sym m.none);
  }

  -- ---- asks

  -- a step that keeps nothing
  pub record QuietStep (a : Seen) (step : FileStep) : Type 0 where
    pub file : Steps a step
    pub none : step.turned.rec ≡ None

  quiet_step : (s t : FileState) (turned : Turned) (holder : Option ℕ) (sent : List Message) (entries : List Entry) → t.kept ≡ s.kept → t.primary ≡ s.primary → Mute turned → Fits members n (At s holder sent entries)
      → QuietStep (At s holder sent entries) (steps_to t turned)
  quiet_step s t turned holder sent entries kept primary m fits = record { file = still_step s t turned holder sent entries kept primary m fits; none = m.none }

  mute_tells : (file : FileId) (id : OpId) (answer : Reply) → Mute (tells site.node file id answer)
  mute_tells file id answer = mute_sends (reply_to site.node file id answer ∷ []) (mute_one id.client (payload.Reply id.number file answer) refl)

  -- what a primary may look at besides its tenure
  ground_is : (s : FileState) (holder : Option ℕ) (sent : List Message) (entries : List Entry) → stripe_of s.kept.location ≡ stripe → ground_at stripe n (At s holder sent entries) ≡ ground_of site s
  ground_is s holder sent entries is = ap of (sym is)
    where
      of : ℕ → Ground
      of k = record { place = record { node = site.node; file = s.kept.file; stripe = k }; own = s.kept.head; held = s.kept.held; body = site.body s.kept.file }

  stripe_is : (location : Option Location) → ListFits stripe members location → (location ≡ None → ⊥) → stripe_of location ≡ stripe
  stripe_is None fits some = absurd (some refl)
  stripe_is (Some location) fits some = fits.0

  members_are : (location : Option Location) → ListFits stripe members location → (location ≡ None → ⊥) → map (λ (m : NodeId). m.0) (members_of location) ≡ members
  members_are None fits some = absurd (some refl)
  members_are (Some location) fits some = fits.1

  module _ (holder : Option ℕ) (sent : List Message) (entries : List Entry) where
    abbrev There : FileState → Seen
    There s = At s holder sent entries

    served_step : (s : FileState) (ask : WaitingAsk) → ListFits stripe members s.kept.location → (s.kept.location ≡ None → ⊥) → Fits members n (There s) → AskFits stripe ops ask → QuietStep (There s) (serve_ask site s ask)
    served_step s ask list some fits of =
        let q : Quietly stripe ops members n (There s) (serves (ground_of site s) first ask (waits s.asks ask)).primary.tenure (serves (ground_of site s) first ask (waits s.asks ask)).turned =
        subst (λ g. Quietly stripe ops members n (There s) (serves g first ask (waits s.asks ask)).primary.tenure (serves g first ask (waits s.asks ask)).turned)
        (ground_is s holder sent entries (stripe_is s.kept.location list some))
        (serves_one stripe ops members n (There s) first ask (waits s.asks ask) (record { lead = rests stripe ops members n (There s) fits; none = refl }) of) in
        record {
          file = record {
            reach = reaches stripe ops members n (There s) (serves (ground_of site s) first ask (waits s.asks ask)).primary.tenure (serves (ground_of site s) first ask (waits s.asks ask)).turned q.lead;
            kept = refl;
          };
          none = q.none;
        }
      where
        first : Served
        first = record { primary = s.primary; asks = s.asks; turned = quiet }

    round_step : (s : FileState) (p : Proposer) (ask : WaitingAsk) → Fits members n (There s) → QuietStep (There s) (round_for site s p ask)
    round_step s p ask fits =
        by_test (λ b. QuietStep (There s) (cond b (steps_to (record s { asks = waits s.asks ask; lease = asking r }) (reads_of site s (members_of s.kept.location) r)) (nothing s))) (can_ask p)
        (λ _. quiet_step s (record s { asks = waits s.asks ask; lease = asking r }) (reads_of site s (members_of s.kept.location) r) holder sent entries refl refl
        (mute_sends _ (mute_to_each (members_of s.kept.location) (payload.Read s.kept.file r.ballot) refl)) fits)
        (λ _. quiet_step s s quiet holder sent entries refl refl mute_quiet fits)
      where
        r : Round
        r = round_starts p site.now (members_of s.kept.location)

    without_lease : (s : FileState) (p : Proposer) (ask : WaitingAsk) (o : Option Reply) → Fits members n (There s) → QuietStep (There s) (ask_without_lease site s p ask o)
    without_lease s p ask (Some answer) fits = quiet_step s s (tells site.node s.kept.file ask.id answer) holder sent entries refl refl (mute_tells s.kept.file ask.id answer) fits
    without_lease s p ask None fits = round_step s p ask fits

    waits_step : (s : FileState) (ask : WaitingAsk) → Fits members n (There s) → QuietStep (There s) (ask_waits s ask)
    waits_step s ask fits = quiet_step s (record s { asks = waits s.asks ask }) quiet holder sent entries refl refl mute_quiet fits

    under_step : (s : FileState) (l : LeaseState) (ask : WaitingAsk) → ListFits stripe members s.kept.location → ListUnder l s.kept.location → Fits members n (There s) → AskFits stripe ops ask
        → QuietStep (There s) (ask_under site s l ask)
    under_step s (held h) ask list under fits of =
        by_test (λ b. QuietStep (There s) (cond b (serve_ask site s ask) (ask_waits s ask))) (is_active s.primary.tenure)
        (λ _. served_step s ask list (stored s.kept.location under) fits of) (λ _. waits_step s ask fits)
      where
        stored : (location : Option Location) → ListUnder (held h) location → location ≡ None → ⊥
        stored None u is = u
        stored (Some location) u is = cc is
    under_step s (asking r) ask list under fits of = waits_step s ask fits
    under_step s (writing r) ask list under fits of = waits_step s ask fits
    under_step s (free p) ask list under fits of = without_lease s p ask (elsewhere site s.acceptor.accepted) fits

    rows_step : (s : FileState) (ask : WaitingAsk) → ListFits stripe members s.kept.location → ListUnder s.lease s.kept.location → Fits members n (There s) → AskFits stripe ops ask → QuietStep (There s) (ask_rows site s ask)
    rows_step s ask list under fits of =
        by_test (λ b. QuietStep (There s) (cond b (nothing s) (ask_under site s s.lease ask))) (asked_already s.asks ask.id)
        (λ _. quiet_step s s quiet holder sent entries refl refl mute_quiet fits) (λ _. under_step s s.lease ask list under fits of)

    -- where no list is stored nothing is marked
    round_mute : (s : FileState) (p : Proposer) (ask : WaitingAsk) → Mute (round_for site s p ask).turned
    round_mute s p ask =
        by_test (λ b. Mute (cond b (steps_to (record s { asks = waits s.asks ask; lease = asking r }) (reads_of site s (members_of s.kept.location) r)) (nothing s)).turned) (can_ask p)
        (λ _. mute_sends _ (mute_to_each (members_of s.kept.location) (payload.Read s.kept.file r.ballot) refl)) (λ _. mute_quiet)
      where
        r : Round
        r = round_starts p site.now (members_of s.kept.location)

    without_mute : (s : FileState) (p : Proposer) (ask : WaitingAsk) (o : Option Reply) → Mute (ask_without_lease site s p ask o).turned
    without_mute s p ask (Some answer) = mute_tells s.kept.file ask.id answer
    without_mute s p ask None = round_mute s p ask

    rows_mute : (s : FileState) (ask : WaitingAsk) (l : LeaseState) → s.lease ≡ l → ListUnder l None → Mute (ask_rows site s ask).turned
    rows_mute s ask (free p) is under =
        by_test (λ b. Mute (cond b (nothing s) (ask_under site s s.lease ask)).turned) (asked_already s.asks ask.id) (λ _. mute_quiet)
        (λ _. subst (λ l. Mute (ask_under site s l ask).turned) (sym is) (without_mute s p ask (elsewhere site s.acceptor.accepted)))
    rows_mute s ask (asking r) is under = absurd under
    rows_mute s ask (writing r) is under = absurd under
    rows_mute s ask (held h) is under = absurd under

    -- an ask that is let in: the first one's list is stored
    let_in_step : (s : FileState) (id : OpId) (capability : Capability) (asked : Op) → IsOrderly stripe ops members s → IsList stripe members capability.location → Fits members n (There s)
        → ((deadline : ℕ) → AskFits stripe ops (record { id = id; epoch = capability.epoch; op = asked; deadline = deadline }))
        → (o : Option Reply) → Steps (There s) (ask_let_in site s id capability asked o)
    let_in_step s id capability asked orderly own fits of (Some answer) =
        (quiet_step s s (tells site.node s.kept.file id answer) holder sent entries refl refl (mute_tells s.kept.file id answer) fits).file
    let_in_step s id capability asked orderly own fits of None = stores s.kept.location refl
      where
        s1 : FileState
        s1 = record s { used = site.now }

        ask : WaitingAsk
        ask = waiting_ask site id capability.epoch asked

        ask_of : FileState → FileStep
        ask_of state = ask_rows site state ask

        stores : (o : Option Location) → s.kept.location ≡ o → Steps (There s) (and_then (steps_to s1 (record { rec = view_record s capability.location o; outs = []; marks = [] })) ask_of)
        stores (Some location) is = mute_then (There s) (steps_to s1 quiet) ask_of mute_quiet (rows_step s1 ask orderly.list orderly.sound.list fits (of ask.deadline)).file
        stores None is = record {
          reach = stores_first stripe ops members n (There s) capability.location next.state.primary.tenure next.turned q.file.reach q.none
              (rows_mute s2 ask s2.lease refl (subst (ListUnder s.lease) is orderly.sound.list)).untold;
          kept = q.file.kept ∙ ap (kept_after s2.kept) q.none;
        }
          where
            s2 : FileState
            s2 = record s1 { kept = record s.kept { location = Some capability.location } }

            next : FileStep
            next = ask_rows site s2 ask

            under2 : (l : LeaseState) → ListUnder l (Some capability.location)
            under2 (free p) = tt
            under2 (asking r) = tt
            under2 (writing r) = tt
            under2 (held h) = tt

            q : QuietStep (There s2) next
            q = rows_step s2 ask own (under2 s.lease) (record { names = fits.names; tenure = restored s.primary.tenure fits.tenure }) (of ask.deadline)
              where
                restored : (o : Option Tenure) → TenureFits members n (There s) o → TenureFits members n (There s2) o
                restored None f = f
                restored (Some t) f = (f.0, record { peers = f.1.peers; sent = f.1.sent; progress = f.1.progress })

    -- ---- the register and the lease

    read_step : (s : FileState) (from : NodeId) (ballot : Ballot) → Fits members n (There s) → Steps (There s) (read_comes site s from ballot)
    unfolding read_comes
    read_step s from ballot fits =
        still_step s (record s { acceptor = (on_read s.acceptor ballot).acceptor }) (sends (message site.node from (answer_to_read s.kept.file s.acceptor.boot ballot (on_read s.acceptor ballot).answer) ∷ []))
        holder sent entries refl refl (mute_sends _ (mute_one from (answer_to_read s.kept.file s.acceptor.boot ballot (on_read s.acceptor ballot).answer) (unsaid (on_read s.acceptor ballot).answer))) fits
      where
        unsaid : (answer : ReadAnswer) → shown n (answer_to_read s.kept.file s.acceptor.boot ballot answer) ≡ []
        unsaid (promise report) = refl
        unsaid (read_refused seen) = refl

    write_step : (s : FileState) (from : NodeId) (ballot : Ballot) (boot : Boot) (l : Lease) → Fits members n (There s) → Steps (There s) (write_comes site s from ballot boot l)
    unfolding write_comes
    write_step s from ballot boot l fits =
        still_step s (record s { acceptor = write.acceptor; last_end = end_after_write s.last_end l write.answer }) (sends (answers_to_write site s from ballot boot write.answer)) holder sent entries refl refl
        (mute_sends _ (unsaid write.answer)) fits
      where
        write : Write
        write = on_write s.acceptor ballot boot l

        unsaid : (answer : WriteAnswer) → Silent (answers_to_write site s from ballot boot answer)
        unsaid accepted = mute_one from (payload.Accepted s.kept.file ballot boot) refl
        unsaid (write_refused seen) = mute_one from (payload.Outrun s.kept.file ballot seen) refl
        unsaid other_boot = λ m h. absurd h

    told_step : (s t : FileState) (answer : Reply) → t.kept ≡ s.kept → t.primary ≡ s.primary → Fits members n (There s) → Steps (There s) (answer_waiting site t answer)
    told_step s t answer kept primary fits =
        still_step s (record t { asks = record t.asks { waiting = [] } }) (sends (tells_each site.node t.kept.file t.asks.waiting answer)) holder sent entries kept primary
        (mute_sends _ (mute_each t.kept.file t.asks.waiting answer)) fits

    live_step : (s t : FileState) (l : Lease) → t.kept ≡ s.kept → t.primary ≡ s.primary → Fits members n (There s) → Steps (There s) (live_lease site t l)
    live_step s t l kept primary fits =
        by_test (λ b. Steps (There s) (cond b (answer_waiting site t (reply.NoLease t.last_end)) (answer_waiting site t (reply.Elsewhere l.node l.end)))) (l.node.0 == site.node.0)
        (λ _. told_step s t (reply.NoLease t.last_end) kept primary fits) (λ _. told_step s t (reply.Elsewhere l.node l.end) kept primary fits)

    -- an idle primary draws its epoch
    nobody_holds : (o : Option ℕ) → IsFree n o → (o ≡ Some n → ⊥) → o ≡ None
    nobody_holds None alone other = refl
    nobody_holds (Some m) alone other = absurd (other (ap Some (alone m refl)))

    led_step : (s : FileState) (o : Option Tenure) → s.primary.tenure ≡ o → ListFits stripe members s.kept.location → (s.kept.location ≡ None → ⊥) → IsFree n holder → Fits members n (There s) → Steps (There s) (led_on site s o)
    led_step s (Some t) is list some alone fits = (quiet_step s s quiet holder sent entries refl refl mute_quiet fits).file
    led_step s None is list some alone fits = record {
      reach = gains_first stripe ops members n (There s) led.primary.tenure led.turned (nobody_holds holder alone (subst (TenureFits members n (There s)) is fits.tenure))
          (reaches stripe ops members n z led.primary.tenure led.turned
          (subst (λ g. Leads stripe ops members n z (draw_epoch g.place s.primary.learnt s.kept.head (members_of s.kept.location)).primary.tenure (draw_epoch g.place s.primary.learnt s.kept.head (members_of s.kept.location)).turned)
          (ground_is s holder sent entries (stripe_is s.kept.location list some))
          (draws stripe ops members n z s.primary.learnt (members_of s.kept.location) refl fits.names (members_are s.kept.location list some))));
      kept = refl;
    }
      where
        z : Seen
        z = record (There s) { holder = Some n }

        led : Led
        led = draw_epoch (ground_of site s).place s.primary.learnt s.kept.head (members_of s.kept.location)

    held_step : (t : FileState) (end : ℕ) → ListFits stripe members t.kept.location → (t.kept.location ≡ None → ⊥) → IsFree n holder → Fits members n (There t) → Steps (There t) (lease_held site t end)
    held_step t end list some alone fits =
        mute_then (There t) (steps_to t (shows (mark.Held t.kept.file.number end))) (λ state. led_on site state state.primary.tenure)
        (record { none = refl; mute = λ m h. absurd h; untold = tt }) (led_step t t.primary.tenure refl list some alone fits)

    -- news of a round: only where one runs is a lease held
    news_step : (t : FileState) (news : LeaseNews) → ListFits stripe members t.kept.location → ((end : ℕ) → news ≡ holds end → t.kept.location ≡ None → ⊥) → ((end : ℕ) → news ≡ holds end → IsFree n holder)
        → Fits members n (There t) → Steps (There t) (lease_news site t news)
    news_step t lease.nothing list some alone there = (quiet_step t t quiet holder sent entries refl refl mute_quiet there).file
    news_step t (sends_write ballot l targets) list some alone there =
        still_step t t (writes_to site t ballot l targets) holder sent entries refl refl (mute_sends _ unsaid) there
      where
        unsaid : Silent (map (λ (target : NodeId × Boot). message site.node target.0 (payload.Write t.kept.file ballot target.1 l)) targets)
        unsaid m h = let r = map_has (λ (target : NodeId × Boot). message site.node target.0 (payload.Write t.kept.file ballot target.1 l)) targets m h in ap (λ (y : Msg). shown n y.payload) r.2
    news_step t (holds end) list some alone there = held_step (record t { last_end = end }) end list (some end refl) (alone end refl) there
    news_step t (finds l) list some alone there = live_step t t l refl refl there
    news_step t ends list some alone there = told_step t t (reply.NoLease t.last_end) refl refl there

    -- the lease after it is the one that the answer left
    led_lease : (s : FileState) (o : Option Tenure) → (led_on site s o).state.lease ≡ s.lease
    led_lease s (Some t) = refl
    led_lease s None = refl

    nothing_won : {end : ℕ} → lease.nothing ≡ holds end → ⊥
    nothing_won e = cc e

    stored_under : (l : LeaseState) (location : Option Location) (now : ℕ) (from : NodeId) (content : Payload) (end : ℕ) → ListUnder l location → (on_answer l now from content).news ≡ holds end → location ≡ None → ⊥
    stored_under (free p) location now from content end under is none = nothing_won is
    stored_under (asking r) None now from content end under is none = under
    stored_under (writing r) None now from content end under is none = under
    stored_under (held h) None now from content end under is none = under
    stored_under (asking r) (Some location) now from content end under is none = cc none
    stored_under (writing r) (Some location) now from content end under is none = cc none
    stored_under (held h) (Some location) now from content end under is none = cc none

    answer_step : (s : FileState) (from : NodeId) (content : Payload) → IsOrderly stripe ops members s → (IsHeld (answer_comes site s from content).state.lease → IsFree n holder) → Fits members n (There s) → Steps (There s) (answer_comes site s from content)
    unfolding answer_comes
    answer_step s from content orderly alone fits =
        news_step t (on_answer s.lease site.now from content).news orderly.list
        (λ end is. stored_under s.lease s.kept.location site.now from content end orderly.sound.list is)
        (λ end is. alone (subst (λ news. IsHeld (lease_news site t news).state.lease) (sym is)
        (subst IsHeld (sym (led_lease (record t { last_end = end }) t.primary.tenure)) (news_held s.lease site.now from content end is)))) fits
      where
        t : FileState
        t = record s { lease = (on_answer s.lease site.now from content).state; last_end = end_after_answer site s from content }

    -- ---- a message

    module _ (distinct : AreDistinct members) where
      -- a primary without a tenure hears nothing
      idle_hears : (s : FileState) (from : NodeId) (content : Payload) (o : Option Tenure) → s.primary.tenure ≡ o → Fits members n (There s) → AreIn (shown from.0 content) sent → OwnFits n s.kept.held from content
          → LeadsTo stripe ops members n (There s) (hears (ground_at stripe n (There s)) (record { learnt = s.primary.learnt; tenure = o }) from content)
      unfolding hears
      idle_hears s from content None is fits came mine = subst (λ o. Leads stripe ops members n (There s) o quiet) is (rests stripe ops members n (There s) fits)
      idle_hears s from content (Some t) is fits came mine =
          subst (λ b. LeadsTo stripe ops members n b (hears (ground_at stripe n (There s)) (record { learnt = s.primary.learnt; tenure = Some t }) from content)) (sym whole)
          (hearing.primary_hears stripe ops members n distinct (There s) t from content s.primary.learnt (subst (Fits members n) whole fits) came mine)
        where
          whole : There s ≡ seen_in (There s) t
          whole = ap (λ o. record { kept = s.kept; body = site.body s.kept.file; tenure = o; holder = holder; sent = sent; entries = entries }) is

      heard_step : (s : FileState) (l : LeaseState) (from : NodeId) (content : Payload) → IsOrderly stripe ops members s → (ListUnder l s.kept.location) → Fits members n (There s) → AreIn (shown from.0 content) sent
          → OwnFits n s.kept.held from content → Steps (There s) (primary_hears site s l from content)
      heard_step s (free p) from content orderly under fits came mine = (quiet_step s s quiet holder sent entries refl refl mute_quiet fits).file
      heard_step s (asking r) from content orderly under fits came mine = (quiet_step s s quiet holder sent entries refl refl mute_quiet fits).file
      heard_step s (writing r) from content orderly under fits came mine = (quiet_step s s quiet holder sent entries refl refl mute_quiet fits).file
      heard_step s (held h) from content orderly under fits came mine = record {
        reach = reaches stripe ops members n (There s) (followed (ground_of site s)).primary.tenure (followed (ground_of site s)).turned
            (subst (λ g. Leads stripe ops members n (There s) (followed g).primary.tenure (followed g).turned) (ground_is s holder sent entries (stripe_is s.kept.location orderly.list (stored s.kept.location under)))
            (follows stripe ops members n (There s) s.primary.tenure s.asks (hears (ground_at stripe n (There s)) s.primary from content)
            (idle_hears s from content s.primary.tenure refl fits came mine) orderly.asks.waiting));
        kept = refl;
      }
        where
          followed : Ground → Served
          followed g = asks_follow g s.primary.tenure s.asks (hears g s.primary from content)

          stored : (location : Option Location) → ListUnder (held h) location → location ≡ None → ⊥
          stored None u is = u
          stored (Some location) u is = cc is

      replica_step : (s : FileState) (from : NodeId) (acted : Acted) → Reaches stripe ops members n (There s) s.primary.tenure (record { rec = acted.rec; outs = if_any site.node from acted.answer; marks = [] }) → Steps (There s) (replica_acts site s from acted)
      replica_step s from acted reach = record { reach = reach; kept = refl }

      ask_step : (s : FileState) (k : Kind) (id : OpId) (capability : Capability) (asked : Op) → k ≡ kind.Replicated → IsOrderly stripe ops members s → IsList stripe members capability.location → Fits members n (There s)
          → ((deadline : ℕ) → AskFits stripe ops (record { id = id; epoch = capability.epoch; op = asked; deadline = deadline })) → Steps (There s) (ask_comes site s k id capability asked)
      unfolding handle_ask
      ask_step s kind.Replicated id capability asked replicated orderly own fits of = let_in_step s id capability asked orderly own fits of (refusal_of site s.kept.location capability asked)
      ask_step s kind.Striped id capability asked replicated orderly own fits of = absurd cc

      -- A message that concerns the file, when nothing is overdue.
      pub message_step : (s : FileState) (from : NodeId) (content : Payload) → IsOrderly stripe ops members s → (IsHeld (message_comes site s from content).state.lease → IsFree n holder) → Fits members n (There s)
          → AreIn (shown from.0 content) sent → OwnFits n s.kept.held from content → AskComes stripe ops members from content → Steps (There s) (message_comes site s from content)
      message_step s from (payload.Ask number capability asked) orderly alone fits came mine known =
          ask_step s capability.location.kind (record { client = from; number = number }) capability asked known.0.2 orderly known.0 fits known.1
      message_step s from (payload.Read file ballot) orderly alone fits came mine known = read_step s from ballot fits
      message_step s from (payload.Write file ballot boot l) orderly alone fits came mine known = write_step s from ballot boot l fits
      message_step s from (payload.Promise file ballot boot report) orderly alone fits came mine known = answer_step s from (payload.Promise file ballot boot report) orderly alone fits
      message_step s from (payload.Accepted file ballot boot) orderly alone fits came mine known = answer_step s from (payload.Accepted file ballot boot) orderly alone fits
      message_step s from (payload.Outrun file ballot seen) orderly alone fits came mine known = answer_step s from (payload.Outrun file ballot seen) orderly alone fits
      message_step s from (payload.Gather file epoch) orderly alone fits came mine known = replica_step s from (gathered s.kept.file s.kept.head epoch) (gather_acts stripe ops members n (There s) from epoch fits came.0)
      message_step s from (payload.Fetch file epoch object version) orderly alone fits came mine known = record { reach = fetch_acts stripe ops members n (There s) from epoch object version fits; kept = refl }
      message_step s from (payload.Stage file epoch object version bytes) orderly alone fits came mine known =
          replica_step s from (staged s.kept.file s.kept.head s.kept.held epoch object version bytes) (stage_acts stripe ops members n (There s) from epoch object version bytes fits came.0)
      message_step s from (payload.Head file epoch head) orderly alone fits came mine known =
          replica_step s from (headed s.kept.file s.kept.head s.kept.held epoch head) (head_acts stripe ops members n (There s) from epoch head fits came.0)
      message_step s from (payload.Update file update) orderly alone fits came mine known =
          replica_step s from (updated s.kept.file s.kept.head update) (update_acts stripe ops members n (There s) from update fits came.0)
      message_step s from content orderly alone fits came mine known = heard_step s s.lease from content orderly orderly.sound.list fits came mine

    -- ---- a Wake

    mute_renews : (s : FileState) (h : Held) → Mute (renews site s h).turned
    mute_renews s h =
        by_test (λ b. Mute (cond b (steps_to (record s { lease = held (renewal_starts h site.now (members_of s.kept.location)) }) (reads_of site s (members_of s.kept.location) (round_starts h.proposer site.now (members_of s.kept.location))))
        (nothing s)).turned) (is_renewal_due h site.now s.used)
        (λ _. mute_sends _ (mute_to_each (members_of s.kept.location) (payload.Read s.kept.file (round_starts h.proposer site.now (members_of s.kept.location)).ballot) refl)) (λ _. mute_quiet)

    renews_same : (s : FileState) (h : Held) → ((renews site s h).state.kept ≡ s.kept) × ((renews site s h).state.primary ≡ s.primary)
    renews_same s h =
        by_test (λ b. ((cond b (steps_to (record s { lease = held (renewal_starts h site.now (members_of s.kept.location)) }) (reads_of site s (members_of s.kept.location) (round_starts h.proposer site.now (members_of s.kept.location))))
        (nothing s)).state.kept ≡ s.kept) × ((cond b (steps_to (record s { lease = held (renewal_starts h site.now (members_of s.kept.location)) }) (reads_of site s (members_of s.kept.location) (round_starts h.proposer site.now (members_of s.kept.location))))
        (nothing s)).state.primary ≡ s.primary)) (is_renewal_due h site.now s.used) (λ _. (refl, refl)) (λ _. (refl, refl))

    wakes_reach : (s : FileState) (o : Option Tenure) → s.primary.tenure ≡ o → Fits members n (There s) → Reaches stripe ops members n (There s) o (wakes (ground_at stripe n (There s)).place (record { learnt = s.primary.learnt; tenure = o }))
    unfolding wakes
    wakes_reach s None is fits = subst (λ o. Reaches stripe ops members n (There s) o quiet) is (reaches stripe ops members n (There s) s.primary.tenure quiet (rests stripe ops members n (There s) fits))
    wakes_reach s (Some t) is fits =
        subst (λ b. Reaches stripe ops members n b (Some t) (wakes (ground_at stripe n (There s)).place (record { learnt = s.primary.learnt; tenure = Some t }))) (sym whole)
        (reaches stripe ops members n (seen_in (There s) t) (Some t) (wakes (ground_at stripe n (There s)).place (record { learnt = s.primary.learnt; tenure = Some t }))
        (wakes_again stripe ops members n (There s) t s.primary.learnt (subst (Fits members n) whole fits)))
      where
        whole : There s ≡ seen_in (There s) t
        whole = ap (λ o. record { kept = s.kept; body = site.body s.kept.file; tenure = o; holder = holder; sent = sent; entries = entries }) is

    pub woken_step : (s : FileState) (l : LeaseState) → ListFits stripe members s.kept.location → ListUnder l s.kept.location → Fits members n (There s) → Steps (There s) (wakes_under_lease site s l)
    woken_step s (free p) list under fits = (quiet_step s s quiet holder sent entries refl refl mute_quiet fits).file
    woken_step s (asking r) list under fits = (quiet_step s s quiet holder sent entries refl refl mute_quiet fits).file
    woken_step s (writing r) list under fits = (quiet_step s s quiet holder sent entries refl refl mute_quiet fits).file
    woken_step s (held h) list under fits = record {
      reach = subst (λ (p : PrimaryState). Reaches stripe ops members n (There s) p.tenure (joined first.turned (renews site first.state h).turned)) (sym (renews_same first.state h).1)
          (mute_last stripe ops members n (There s) s.primary.tenure first.turned (renews site first.state h).turned
          (subst (λ g. Reaches stripe ops members n (There s) s.primary.tenure (wakes g.place s.primary)) (ground_is s holder sent entries (stripe_is s.kept.location list (stored s.kept.location under))) (wakes_reach s s.primary.tenure refl fits))
          (mute_renews first.state h));
      kept = (renews_same first.state h).0 ∙ ap (kept_after s.kept) (sym (ap (the_record first.turned.rec) (mute_renews first.state h).none ∙ joined_none stripe ops members n first.turned.rec));
    }
      where
        first : FileStep
        first = steps_to s (wakes (ground_of site s).place s.primary)

        stored : (location : Option Location) → ListUnder (held h) location → location ≡ None → ⊥
        stored None u is = u
        stored (Some location) u is = cc is

-- what is overdue keeps nothing, and leaves the tenure or ends it
pub expired_none : (site : Site) (s : FileState) → (expired site s).turned.rec ≡ None
expired_none site s = (mute_expired 0 (λ id. op.Truncate 0) [] site s).none

pub expired_tenure : (site : Site) (s : FileState) → ((settled site s).primary.tenure ≡ s.primary.tenure) ⊎ ((settled site s).primary.tenure ≡ None)
unfolding expired
expired_tenure site s = became s.lease (lease_expired s.lease site.now)
  where
    s1 : FileState
    s1 = record s { lease = lease_expired s.lease site.now }

    under : (o : Option Tenure) → ((deadlines_under site s1 o).state.primary.tenure ≡ s.primary.tenure) ⊎ ((deadlines_under site s1 o).state.primary.tenure ≡ None)
    under None = inl refl
    under (Some t) = inl refl

    became : (before after : LeaseState) → ((lease_became site s1 before after).state.primary.tenure ≡ s.primary.tenure) ⊎ ((lease_became site s1 before after).state.primary.tenure ≡ None)
    became (held h) (free p) = inr refl
    became (asking r) (free p) = inl refl
    became (writing r) (free p) = inl refl
    became (free p) after = under s.primary.tenure
    became (held h) (held k) = under s.primary.tenure
    became (held h) (asking r) = under s.primary.tenure
    became (held h) (writing r) = under s.primary.tenure
    became (asking q) (held h) = under s.primary.tenure
    became (asking q) (asking r) = under s.primary.tenure
    became (asking q) (writing r) = under s.primary.tenure
    became (writing q) (held h) = under s.primary.tenure
    became (writing q) (asking r) = under s.primary.tenure
    became (writing q) (writing r) = under s.primary.tenure

-- Each step of a file is a list of small steps.
pub files_show : (stripe : ℕ) (ops : ℕ × ℕ → Op) (members : List ℕ) (site : Site) (s : FileState) (holder : Option ℕ) (sent : List Message) (entries : List Entry) → AreDistinct members
    → IsOrderly stripe ops members (settled site s) → Fits members site.node.0 (seen_of site (settled site s) holder sent entries)
    → ShowsFile stripe ops members site s holder sent entries
unfolding step_of_file wake_of_file
files_show stripe ops members site s holder sent entries distinct orderly fits = record {
  message = λ from content came mine known alone. mute_then stripe ops members site (seen_of site (settled site s) holder sent entries) (expired site s) (λ state. message_comes site state from content)
      (mute_expired stripe ops members site s) (message_step stripe ops members site holder sent entries distinct (settled site s) from content orderly alone fits came mine known);
  wake = mute_then stripe ops members site (seen_of site (settled site s) holder sent entries) (expired site s) (wake_of_file site)
      (mute_expired stripe ops members site s) (woken_step stripe ops members site holder sent entries (settled site s) (settled site s).lease orderly.list orderly.sound.list fits);
}
