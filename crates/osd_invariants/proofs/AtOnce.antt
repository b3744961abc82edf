-- what a step of a file does at once, row by row
use Rattle.std.proofs.Common.{◌≡◌, ◌∙◌, ℕ, suc, refl, ap, sym, subst, Bool, true, false, List, [], ◌∷◌, ◌++◌, Option, Some, None, cond, append-nil, length}
use Rattle.std.specs.Prelude.{◌&&◌, ◌||◌, ◌==◌, ◌+◌, ◌/◌, not, nat_le, filter}
use Rattle.std.specs.List.{list_any}
use Rattle.xt_base.specs.MemberList.{has_node}
use Rattle.xt_base.specs.declared.ids.NodeId.{NodeId}
use Rattle.xt_base.specs.declared.ids.FileId.{FileId}
use Rattle.xt_base.specs.declared.ids.OpId.{OpId}
use Rattle.xt_base.specs.declared.ids.Boot.{Boot}
use Rattle.xt_base.specs.declared.ids.Ballot.{Ballot}
use Rattle.xt_base.specs.declared.ids.Stamp.{Stamp}
use Rattle.xt_base.specs.declared.ids.SizeMark.{SizeMark}
use Rattle.xt_messages.specs.declared.file.Capability.{Capability}
use Rattle.xt_messages.specs.declared.file.FileHead.{FileHead}
use Rattle.xt_messages.specs.declared.file.Kind.{Kind}
use Rattle.xt_messages.specs.declared.file.Location.{Location}
use Rattle.xt_messages.specs.declared.file.Op.{Op}
use Rattle.xt_messages.specs.declared.file.Op.TheVariants as op
use Rattle.xt_messages.specs.declared.reply.Reply.{Reply}
use Rattle.xt_messages.specs.declared.reply.Reply.TheVariants as reply
use Rattle.xt_messages.specs.declared.message.Payload.{Payload}
use Rattle.xt_messages.specs.declared.message.Payload.TheVariants as payload
use Rattle.xt_messages.specs.declared.message.Msg.{Msg}
use Rattle.xt_messages.specs.declared.event.Mark.{Mark}
use Rattle.xt_messages.specs.declared.event.Mark.TheVariants as mark
use Rattle.xt_messages.specs.declared.record.FileRow.{FileRow}
use Rattle.xt_protocol.specs.Register.{Round, lease_of, on_acceptance, same_ballot}
use Rattle.xt_protocol.specs.LeaseRows.{LeaseState, LeaseStep, Held, Proposer, Renewing, news_of_renewal, no_news, renewal_accepted, renewal_ignores, renewal_under, renewal_won, renewed, with_renewal, without_renewal, free, asking, writing, held, holds, can_ask, has_run_out, has_turn, is_inside, lease_expired, lease_won, on_answer, renewal_left, round_over, round_starts, round_won, step_of_written, won_too_late, writing_accepted, written_still, written_won}
use Rattle.xt_protocol.specs.LeaseRows as lease
use Rattle.xt_protocol.specs.Stamps.{is_epoch, is_below}
use Rattle.xt_protocol.specs.declared.states.Asks.{Asks}
use Rattle.xt_protocol.specs.declared.states.IssuedAsk.{IssuedAsk}
use Rattle.xt_protocol.specs.declared.states.IssuedUpdate.{IssuedUpdate}
use Rattle.xt_protocol.specs.declared.states.Peer.{Peer}
use Rattle.xt_protocol.specs.declared.states.PeerState.{PeerState}
use Rattle.xt_protocol.specs.declared.states.PeerState.TheVariants as peer
use Rattle.xt_protocol.specs.declared.states.PrimaryState.{PrimaryState}
use Rattle.xt_protocol.specs.declared.states.Progress.{Progress}
use Rattle.xt_protocol.specs.declared.states.Progress.TheVariants as progress
use Rattle.xt_protocol.specs.declared.states.Tenure.{Tenure}
use Rattle.xt_protocol.specs.declared.states.WaitingAsk.{WaitingAsk}
use Rattle.xt_protocol.specs.Turns.{joined, keeps, message, quiet, reply_to, sends, shows, to_each}
use Rattle.xt_protocol.specs.ReplicaRows.{kept_after}
use Rattle.xt_protocol.specs.Primaries.{Ground, Led, carries, is_active, is_active_in, is_ready, peer_in, with_node, with_peer}
use Rattle.xt_protocol.specs.PrimaryRows.{committed, goes_on, hears, hears_ack, hears_in, hears_member, makes_current, unmoved, ack_update, with_state}
use Rattle.xt_protocol.specs.Serving.{reads, reads_in, reads_under, writes}
use Rattle.xt_protocol.specs.Asks.{Served, asked_already, asks_behind, asks_follow, is_issued_ask, is_id, is_read, read_answer, serves_all, waits, write_done}
use Rattle.xt_protocol.specs.AskRows.{handle_ask, ask_let_in, ask_rows, serve_ask, ask_under, ask_waits, ask_without_lease, elsewhere, reads_of, refusal_of, view_record, waiting_ask}
use Rattle.xt_protocol.specs.FileLeases.{answer_comes, end_after_answer, lease_held, lease_news, led_on}
use Rattle.xt_protocol.specs.FileStates.{FileState, Site, FileStep, ground_of, members_of, serves_to, steps_to}
use Rattle.xt_protocol.specs.FileStates as files
use Rattle.xt_protocol.specs.FileSteps.{ask_comes, message_comes, primary_hears, step_of_file}
use Rattle.xt_protocol.specs.Overdue.{deadlines_under, expired, is_due, issued_due, lease_became}
use Rattle.osd_invariants.specs.AtOnce.{AnswersOk, AsksEach, Completes, InTurn, IsNewAsk, RenewsInTime, Sends, ShowsMark, WinsInTime, kept_once_let_in}

-- ---- what is overdue, where the lease stands

-- the file after it: this lease, no new asks, and all else
record Left (s after : FileState) (l : LeaseState) : Type 0 where
  lease : after.lease ≡ l
  primary : after.primary ≡ s.primary
  kept : after.kept ≡ s.kept
  acceptor : after.acceptor ≡ s.acceptor
  asks : (id : OpId) → asked_already s.asks id ≡ false → asked_already after.asks id ≡ false

or_false : (a b : Bool) → (a || b) ≡ false → (a ≡ false) × (b ≡ false)
or_false true b is = absurd cc
or_false false b is = (refl, is)

both_false : (a b : Bool) → a ≡ false → b ≡ false → (a || b) ≡ false
both_false true b is also = absurd cc
both_false false b is also = also

none_left : (test keep : WaitingAsk → Bool) (ws : List WaitingAsk) → list_any test ws ≡ false → list_any test (filter keep ws) ≡ false
none_left test keep [] is = refl
none_left test keep (w ∷ ws) is =
    let h = or_false (test w) (list_any test ws) is in
    one_of (keep w) h.0 (none_left test keep ws h.1)
  where
    one_of : (b : Bool) → test w ≡ false → list_any test (filter keep ws) ≡ false → list_any test (cond b (w ∷ filter keep ws) (filter keep ws)) ≡ false
    one_of true first rest = both_false (test w) (list_any test (filter keep ws)) first rest
    one_of false first rest = rest

due_named : (now : ℕ) (o : Option IssuedAsk) (id : OpId) → is_issued_ask (issued_due now o) id ≡ is_issued_ask o id
due_named now None id = refl
due_named now (Some i) id = refl

deadlines_left : (site : Site) (s : FileState) (o : Option Tenure) → Left s (deadlines_under site s o).state s.lease
deadlines_left site s None = record { lease = refl; primary = refl; kept = refl; acceptor = refl; asks = λ id is. is }
deadlines_left site s (Some t) =
    record {
      lease = refl;
      primary = refl;
      kept = refl;
      acceptor = refl;
      asks = λ id is.
          let named : WaitingAsk → Bool = λ w. is_id w.id id in
          let h = or_false (list_any named s.asks.waiting) (is_issued_ask s.asks.issued id) is in
          both_false _ _ (none_left named (λ w. not (is_due site.now w)) s.asks.waiting h.0) (due_named site.now s.asks.issued id ∙ h.1);
    }

-- where what is overdue comes to deadlines under this lease
left_as : (site : Site) (s : FileState) (l : LeaseState) → expired site s ≡ deadlines_under site (record s { lease = l }) s.primary.tenure → Left s (expired site s).state l
left_as site s l is =
    let d = deadlines_left site (record s { lease = l }) s.primary.tenure in
    subst (λ (st : FileStep). Left s st.state l) (sym is) (record { lease = d.lease; primary = d.primary; kept = d.kept; acceptor = d.acceptor; asks = d.asks })

abbrev became : Site → FileState → LeaseState → LeaseState → FileStep
became site s before after = lease_became site (record s { lease = after }) before after

abbrev left_of : Held → ℕ → Held
left_of h now = record h { renewal = renewal_left h.renewal now }

stands_held : (site : Site) (s : FileState) (h : Held) → s.lease ≡ held h → has_turn h site.now ≡ true → Left s (expired site s).state (held (left_of h site.now))
unfolding expired
stands_held site s h is inside =
    left_as site s (held (left_of h site.now))
    (ap (λ (l : LeaseState). became site s l (lease_expired l site.now)) is
    ∙ ap (λ (b : Bool). became site s (held h) (cond b (held (left_of h site.now)) (free h.proposer))) inside)

stands_writing : (site : Site) (s : FileState) (r : Round) → s.lease ≡ writing r → has_run_out r site.now ≡ false → Left s (expired site s).state (writing r)
unfolding expired
stands_writing site s r is runs =
    left_as site s (writing r)
    (ap (λ (l : LeaseState). became site s l (lease_expired l site.now)) is
    ∙ ap (λ (b : Bool). became site s (writing r) (cond b (free (round_over r)) (writing r))) runs)

stands_free : (site : Site) (s : FileState) (p : Proposer) → s.lease ≡ free p → Left s (expired site s).state (free p)
unfolding expired
stands_free site s p is = left_as site s (free p) (ap (λ (l : LeaseState). became site s l (lease_expired l site.now)) is)

-- ---- a step

abbrev sent : FileStep → List Msg
sent step = step.turned.outs

abbrev shown : FileStep → List Mark
shown step = step.turned.marks

step_sent : (site : Site) (s : FileState) (from : NodeId) (content : Payload) → sent (step_of_file site s from content) ≡ sent (expired site s) ++ sent (message_comes site (expired site s).state from content)
unfolding step_of_file
step_sent site s from content = refl

step_shown : (site : Site) (s : FileState) (from : NodeId) (content : Payload) → shown (step_of_file site s from content) ≡ shown (expired site s) ++ shown (message_comes site (expired site s).state from content)
unfolding step_of_file
step_shown site s from content = refl

sends_on : (site : Site) (s : FileState) (from : NodeId) (content : Payload) (msg : Msg) (after : List Msg) → sent (message_comes site (expired site s).state from content) ≡ msg ∷ after
    → Sends msg (step_of_file site s from content)
sends_on site s from content msg after is =
    record { before = sent (expired site s); after = after; outs = step_sent site s from content ∙ ap (λ (outs : List Msg). sent (expired site s) ++ outs) is }

-- ---- a new ask

-- the file once its ask is let in
abbrev let_in : Site → FileState → Capability → FileState
let_in site s capability = (steps_to (record s { used = site.now }) (keeps (view_record s capability.location s.kept.location))).state

view_file : (s : FileState) (location : Location) (o : Option Location) → (kept_after s.kept (view_record s location o)).file ≡ s.kept.file
view_file s location None = refl
view_file s location (Some stored) = refl

new_ask : (site : Site) (s : FileState) (from : NodeId) (number : ℕ) (capability : Capability) (asked : Op) → IsNewAsk site s (record { client = from; number = number }) capability asked
    → sent (message_comes site s from (payload.Ask number capability asked)) ≡ sent (ask_rows site (let_in site s capability) (waiting_ask site (record { client = from; number = number }) capability.epoch asked))
unfolding handle_ask
new_ask site s from number capability asked new =
    let id : OpId = record { client = from; number = number } in
    ap (λ (k : Kind). sent (ask_comes site s k id capability asked)) new.replicated
    ∙ ap (λ (o : Option Reply). sent (ask_let_in site s id capability asked o)) new.valid

-- new also after what was overdue
new_behind : (site : Site) (s after : FileState) (l : LeaseState) (id : OpId) (capability : Capability) (asked : Op) → Left s after l → IsNewAsk site s id capability asked → IsNewAsk site after id capability asked
new_behind site s after l id capability asked left new =
    record {
      replicated = new.replicated;
      valid = ap (λ (k : FileRow). refusal_of site k.location capability asked) left.kept ∙ new.valid;
      new = left.asks id new.new;
    }

-- ---- reads

abbrev Said : Option Reply → Type 0
Said o = (count : ℕ) × (size : SizeMark) × (bytes : List ℕ) × (o ≡ Some (reply.Ok count size bytes))

read_in : (g : Ground) (q : Progress) (asked : Op) → is_active_in q ≡ true → Said (reads_in g q asked)
read_in g (progress.Active head issued) asked active = (_, _, _, refl)
read_in g progress.Gathering asked active = absurd cc
read_in g (progress.Fetching chosen source wanted later) asked active = absurd cc
read_in g (progress.Installing chosen acked) asked active = absurd cc

read_under : (g : Ground) (o : Option Tenure) (asked : Op) → is_active o ≡ true → Said (reads_under g o asked)
read_under g None asked active = absurd cc
read_under g (Some t) asked active = read_in g t.progress asked active

read_said : (g : Ground) (p : PrimaryState) (asked : Op) → is_active p.tenure ≡ true → Said (reads g p asked)
unfolding reads
read_said g p asked active = read_under g p.tenure asked active

abbrev Told : Site → FileState → WaitingAsk → Type 0
Told site s ask = (count : ℕ) × (size : SizeMark) × (bytes : List ℕ) × (sent (ask_rows site s ask) ≡ reply_to site.node s.kept.file ask.id (reply.Ok count size bytes) ∷ [])

read_told : (site : Site) (s : FileState) (h : Held) (ask : WaitingAsk) → is_read ask.op ≡ true → s.lease ≡ held h → asked_already s.asks ask.id ≡ false → is_active s.primary.tenure ≡ true
    → Told site s ask
read_told site s h ask reads_it is new active =
    let g = ground_of site s in
    let said = read_said g s.primary ask.op active in
    let before : Served = record { primary = s.primary; asks = s.asks; turned = quiet } in
    let answer : Served = record before { turned = joined quiet (read_answer g ask.id (reads g s.primary ask.op)) } in
    let written = write_done before ask (writes g s.primary ask.id ask.epoch ask.op) (waits s.asks ask) in (
      said.0,
      said.1,
      said.2,
      ap (λ (b : Bool). sent (cond b (files.nothing s) (ask_under site s s.lease ask))) new
          ∙ ap (λ (l : LeaseState). sent (ask_under site s l ask)) is
          ∙ ap (λ (b : Bool). sent (cond b (serve_ask site s ask) (ask_waits s ask))) active
          ∙ ap (λ (b : Bool). sent (serves_to s (cond b answer written))) reads_it
          ∙ ap (λ (o : Option Reply). (read_answer g ask.id o).outs) said.3,
    )

pub answers_reads : (site : Site) (s : FileState) (from : NodeId) (number : ℕ) (capability : Capability) (object at len : ℕ) → InTurn site s → is_active s.primary.tenure ≡ true
    → IsNewAsk site s (record { client = from; number = number }) capability (op.Read object at len)
    → AnswersOk site s.kept.file (record { client = from; number = number }) (step_of_file site s from (payload.Ask number capability (op.Read object at len)))
answers_reads site s from number capability object at len turn active new =
    let id : OpId = record { client = from; number = number } in
    let asked = op.Read object at len in
    let after = (expired site s).state in
    let left = stands_held site s turn.lease turn.is turn.inside in
    let here = let_in site after capability in
    let told = read_told site here (left_of turn.lease site.now) (waiting_ask site id capability.epoch asked) refl left.lease (left.asks id new.new) (ap (λ (p : PrimaryState). is_active p.tenure) left.primary ∙ active) in
    let same : here.kept.file ≡ s.kept.file = view_file after capability.location after.kept.location ∙ ap (λ (k : FileRow). k.file) left.kept in
    record {
      count = told.0;
      size = told.1;
      bytes = told.2;
      sent =
          sends_on site s from (payload.Ask number capability asked) (reply_to site.node s.kept.file id (reply.Ok told.0 told.1 told.2)) []
          (new_ask site after from number capability asked (new_behind site s after _ id capability asked left new)
          ∙ told.3
          ∙ ap (λ (file : FileId). reply_to site.node file id (reply.Ok told.0 told.1 told.2) ∷ []) same);
    }

-- ---- rounds

round_sent : (site : Site) (s : FileState) (p : Proposer) (ask : WaitingAsk) → s.lease ≡ free p → asked_already s.asks ask.id ≡ false → elsewhere site s.acceptor.accepted ≡ None → can_ask p ≡ true
    → sent (ask_rows site s ask) ≡ to_each site.node (members_of s.kept.location) (payload.Read s.kept.file (round_starts p site.now (members_of s.kept.location)).ballot)
round_sent site s p ask is new here can =
    let members = members_of s.kept.location in
    let r = round_starts p site.now members in
    ap (λ (b : Bool). sent (cond b (files.nothing s) (ask_under site s s.lease ask))) new
    ∙ ap (λ (l : LeaseState). sent (ask_under site s l ask)) is
    ∙ ap (λ (o : Option Reply). sent (ask_without_lease site s p ask o)) here
    ∙ ap (λ (b : Bool). sent (cond b (steps_to (record s { asks = waits s.asks ask; lease = asking r }) (reads_of site s members r)) (files.nothing s))) can

pub starts_rounds : (site : Site) (s : FileState) (from : NodeId) (number : ℕ) (capability : Capability) (asked : Op) (p : Proposer) → s.lease ≡ free p → can_ask p ≡ true
    → elsewhere site s.acceptor.accepted ≡ None → IsNewAsk site s (record { client = from; number = number }) capability asked
    → AsksEach site s.kept.file (members_of (kept_once_let_in s capability).location) (step_of_file site s from (payload.Ask number capability asked))
starts_rounds site s from number capability asked p is can none new =
    let id : OpId = record { client = from; number = number } in
    let after = (expired site s).state in
    let left = stands_free site s p is in
    let here = let_in site after capability in
    let ballot = (round_starts p site.now (members_of here.kept.location)).ballot in
    let same : here.kept.file ≡ s.kept.file = view_file after capability.location after.kept.location ∙ ap (λ (k : FileRow). k.file) left.kept in
    let listed : FileRow → Option Location = λ k. (kept_once_let_in (record after { kept = k }) capability).location in
    let read : FileId → Option Location → List Msg = λ file l. to_each site.node (members_of l) (payload.Read file ballot) in
    record {
      ballot = ballot;
      before = sent (expired site s);
      outs =
          step_sent site s from (payload.Ask number capability asked)
          ∙ ap (λ (outs : List Msg). sent (expired site s) ++ outs)
          (new_ask site after from number capability asked (new_behind site s after _ id capability asked left new)
          ∙ round_sent site here p (waiting_ask site id capability.epoch asked) left.lease (left.asks id new.new) (ap (elsewhere site) (ap (λ a. a.accepted) left.acceptor) ∙ none) can
          ∙ ap (λ (file : FileId). read file here.kept.location) same
          ∙ ap (λ (k : FileRow). read s.kept.file (listed k)) left.kept);
    }

-- ---- leases

held_shown : (site : Site) (s : FileState) (end : ℕ) → (rest : List Mark) × (shown (lease_held site s end) ≡ mark.Held s.kept.file.number end ∷ rest)
held_shown site s end =
    let first = (steps_to s (shows (mark.Held s.kept.file.number end))).state in
    ((led_on site first first.primary.tenure).turned.marks, refl)

wins_by : (site : Site) (from : NodeId) (file : FileId) (ballot : Ballot) (boot : Boot) (l : LeaseState) (r : Round) → l ≡ writing r → same_ballot ballot r.ballot ≡ true → (on_acceptance r from boot).wins ≡ true
    → is_inside (lease_of r).end r.times site.now ≡ true
    → on_answer l site.now from (payload.Accepted file ballot boot) ≡ record { state = held (lease_won (on_acceptance r from boot).round); news = holds (lease_of r).end }
wins_by site from file ballot boot l r is own wins inside =
    let taken = on_acceptance r from boot in
    let still : LeaseStep = record { state = writing r; news = lease.nothing } in
    ap (λ (l : LeaseState). on_answer l site.now from (payload.Accepted file ballot boot)) is
    ∙ ap (λ (b : Bool). cond b (step_of_written (writing_accepted r site.now from boot)) still) own
    ∙ ap (λ (b : Bool). step_of_written (cond b (round_won taken.round site.now) (written_still taken.round))) wins
    ∙ ap (λ (b : Bool). step_of_written (cond b (written_won (lease_won taken.round)) (won_too_late taken.round))) inside

renews_by : (site : Site) (from : NodeId) (file : FileId) (ballot : Ballot) (boot : Boot) (l : LeaseState) (k : Held) (r : Round) → l ≡ held k → k.renewal ≡ Some r → same_ballot ballot r.ballot ≡ true
    → (on_acceptance r from boot).wins ≡ true → is_inside (lease_of r).end r.times site.now ≡ true
    → on_answer l site.now from (payload.Accepted file ballot boot) ≡ record { state = held (record { proposer = k.proposer; end = (lease_of r).end; renewal = None }); news = holds (lease_of r).end }
renews_by site from file ballot boot l k r is renews own wins inside =
    let content = payload.Accepted file ballot boot in
    let taken = on_acceptance r from boot in
    let end = (lease_of r).end in
    let under : Option Round → LeaseStep = λ o. record { state = held (renewal_under o k site.now from content).held; news = news_of_renewal o (renewal_under o k site.now from content).renewal } in
    let told : Renewing → LeaseStep = λ n. record { state = held n.held; news = news_of_renewal (Some r) n.renewal } in
    let later : Renewing = record { held = record { proposer = k.proposer; end = end; renewal = None }; renewal = renewed end } in
    let late : Renewing = record { held = without_renewal k; renewal = no_news } in
    let still : Renewing = record { held = with_renewal k taken.round; renewal = no_news } in
    ap (λ (l : LeaseState). on_answer l site.now from content) is
    ∙ ap under renews
    ∙ ap (λ (b : Bool). told (cond b (renewal_accepted k r site.now from boot) (renewal_ignores k))) own
    ∙ ap (λ (b : Bool). told (cond b (renewal_won k taken.round site.now) still)) wins
    ∙ ap (λ (b : Bool). told (cond b later late)) inside

-- the mark of a lease that is held by an answer, after what was overdue
marks_held : (site : Site) (s : FileState) (from : NodeId) (content : Payload) (h : Held) (l : LeaseState) → Left s (expired site s).state l
    → message_comes site (expired site s).state from content ≡ answer_comes site (expired site s).state from content
    → on_answer (expired site s).state.lease site.now from content ≡ record { state = held h; news = holds h.end }
    → ShowsMark (mark.Held s.kept.file.number h.end) (step_of_file site s from content)
unfolding answer_comes
marks_held site s from content h l left row won =
    let after = (expired site s).state in
    let told : LeaseStep → List Mark = λ step. shown (lease_news site (record after { lease = step.state; last_end = end_after_answer site after from content }) step.news) in
    let marks = held_shown site (record after { lease = held h; last_end = h.end }) h.end in
    record {
      before = shown (expired site s);
      after = marks.0;
      marks =
          step_shown site s from content
          ∙ ap (λ (more : List Mark). shown (expired site s) ++ more)
          (ap shown row ∙ ap told won ∙ marks.1 ∙ ap (λ (k : FileRow). mark.Held k.file.number h.end ∷ marks.0) left.kept);
    }

pub holds_leases : (site : Site) (s : FileState) (from : NodeId) (file : FileId) (ballot : Ballot) (boot : Boot) → (w : WinsInTime site s from ballot boot)
    → ShowsMark (mark.Held s.kept.file.number (lease_of w.round).end) (step_of_file site s from (payload.Accepted file ballot boot))
holds_leases site s from file ballot boot w =
    let left = stands_writing site s w.round w.writes w.runs in
    marks_held site s from (payload.Accepted file ballot boot) (lease_won (on_acceptance w.round from boot).round) (writing w.round) left refl
    (wins_by site from file ballot boot (expired site s).state.lease w.round left.lease w.own w.wins w.inside)

pub renews_leases : (site : Site) (s : FileState) (from : NodeId) (file : FileId) (ballot : Ballot) (boot : Boot) → (r : RenewsInTime site s from ballot boot)
    → ShowsMark (mark.Held s.kept.file.number (lease_of r.round).end) (step_of_file site s from (payload.Accepted file ballot boot))
renews_leases site s from file ballot boot r =
    let h = r.turn.lease in
    let k = left_of h site.now in
    let left = stands_held site s h r.turn.is r.turn.inside in
    let runs : k.renewal ≡ Some r.round =
    ap (λ (o : Option Round). renewal_left o site.now) r.renews ∙ ap (λ (b : Bool). cond b None (Some r.round)) r.runs in
    marks_held site s from (payload.Accepted file ballot boot) (record { proposer = h.proposer; end = (lease_of r.round).end; renewal = None }) (held k) left refl
    (renews_by site from file ballot boot (expired site s).state.lease k r.round left.lease runs r.own r.wins r.inside)

-- ---- writes

follow_sent : (g : Ground) (before : Option Tenure) (asks : Asks) (led : Led) → (rest : List Msg) × ((asks_follow g before asks led).turned.outs ≡ led.turned.outs ++ rest)
follow_sent g before asks led = one_of (is_ready led.primary.tenure && not (is_ready before))
  where
    all : Served
    all = serves_all g led.primary asks.waiting

    one_of : (b : Bool) → (rest : List Msg)
        × ((cond b (record all { turned = joined led.turned all.turned }) (record { primary = led.primary; asks = asks_behind led.primary.tenure asks; turned = led.turned })).turned.outs ≡ led.turned.outs ++ rest)
    one_of true = (all.turned.outs, refl)
    one_of false = ([], sym (append-nil led.turned.outs))

put_count : (peers : List Peer) (node : NodeId) (state : PeerState) → length (with_peer peers node state) ≡ length peers
unfolding with_peer
put_count [] node state = refl
put_count (p ∷ ps) node state = one_of (p.node.0 == node.0) (put_count ps node state)
  where
    one_of : (b : Bool) → length (with_peer ps node state) ≡ length ps → length (cond b (record { node = p.node; state = state } ∷ ps) (p ∷ with_peer ps node state)) ≡ suc (length ps)
    one_of true rest = refl
    one_of false rest = ap suc rest

newly_count : (t : Tenure) (from : NodeId) (newly : Bool) → length (cond newly (with_state t from peer.Current) t).peers ≡ length t.peers
newly_count t from true = put_count t.peers from peer.Current
newly_count t from false = refl

commit_sent : (g : Ground) (p : PrimaryState) (from : NodeId) (file : FileId) (stamp : Stamp) (t : Tenure) (head : FileHead) (issued : IssuedUpdate) (state : PeerState) → p.tenure ≡ Some t
    → t.progress ≡ progress.Active head (Some issued) → peer_in t.peers from ≡ Some state → is_epoch stamp.epoch t.epoch ≡ true → is_below stamp issued.update.stamp ≡ false
    → carries g.place t.peers (with_node issued.acked from) ≡ true
    → (hears g p from (payload.Ack file stamp)).turned.outs ≡ reply_to g.place.node g.place.file issued.update.id (reply.Ok issued.update.stamp.count issued.update.mark []) ∷ []
unfolding hears
commit_sent g p from file stamp t head issued state led active member epoch covers carried =
    let content = payload.Ack file stamp in
    let learnt = p.learnt in
    let newly = makes_current g.place from state stamp in
    let later : Tenure = cond newly (with_state t from peer.Current) t in
    let acked = with_node issued.acked from in
    let outs : Led → List Msg = λ l. l.turned.outs in
    let enough : ℕ → Bool = λ n. nat_le (n / 2 + 1) (length acked) && has_node acked g.place.node.0 in
    let more : Led = cond newly (goes_on learnt later (sends (message g.place.node from (payload.Update g.place.file issued.update) ∷ []))) (unmoved learnt later) in
    let still : Led = unmoved learnt (record later { progress = progress.Active head (Some (record { update = issued.update; acked = acked })) }) in
    ap (λ (o : Option Tenure). outs (hears_in g learnt o from content)) led
    ∙ ap (λ (b : Bool). outs (cond b (hears_member g learnt t from (peer_in t.peers from) content) (unmoved learnt t))) epoch
    ∙ ap (λ (o : Option PeerState). outs (hears_member g learnt t from o content)) member
    ∙ ap (λ (q : Progress). outs (hears_ack g learnt t q from newly stamp)) active
    ∙ ap (λ (b : Bool). outs (cond (not b) (ack_update g learnt later head issued.update acked) more)) covers
    ∙ ap (λ (b : Bool). outs (cond b (committed g learnt later issued.update) still)) (ap enough (newly_count t from newly) ∙ carried)

pub answers_writes : (site : Site) (s : FileState) (from : NodeId) (file : FileId) (stamp : Stamp) → InTurn site s → (c : Completes site s from stamp)
    → Sends (reply_to site.node s.kept.file c.issued.update.id (reply.Ok c.issued.update.stamp.count c.issued.update.mark [])) (step_of_file site s from (payload.Ack file stamp))
answers_writes site s from file stamp turn c =
    let after = (expired site s).state in
    let content = payload.Ack file stamp in
    let left = stands_held site s turn.lease turn.is turn.inside in
    let g = ground_of site after in
    let led = hears g after.primary from content in
    let rest = follow_sent g after.primary.tenure after.asks led in
    let told : FileId → Msg = λ x. reply_to site.node x c.issued.update.id (reply.Ok c.issued.update.stamp.count c.issued.update.mark []) in
    sends_on site s from content (told s.kept.file) rest.0
    (ap (λ (l : LeaseState). sent (primary_hears site after l from content)) left.lease
    ∙ rest.1
    ∙ ap (λ (outs : List Msg). outs ++ rest.0)
    (commit_sent g after.primary from file stamp c.tenure c.committed c.issued c.peer (ap (λ (p : PrimaryState). p.tenure) left.primary ∙ c.led) c.active c.member c.epoch c.covers c.carried)
    ∙ ap (λ (k : FileRow). told k.file ∷ rest.0) left.kept)
