-- a step of a file at an OSD: its state, its record and its messages are within the limits
use Rattle.std.proofs.Common.{◌≡◌, ◌==◌, ◌&&◌, ◌<◌, ◌≤◌, ◌+◌, ◌*◌, ◌^◌, ◌⊎◌, inr, ℕ, drop, nat_lt, nat_le, List, [], ◌∷◌, ◌++◌, length, map, refl, sym, ap, subst, Option, Some, None, Bool, true, false, arith}
use Rattle.std.specs.Prelude.{cond, not, filter, if◌then◌else◌}
use Rattle.std.specs.Option.{IfSome}
use Rattle.std.specs.List.{AllByRecursion}
use Rattle.std.proofs.lemmas.Bool.{and_parts}
use Rattle.std.proofs.lemmas.Bool.Decides.{nat_tests}
use Rattle.xt_base.specs.MemberList.{has_node, are_distinct}
use Rattle.xt_base.specs.declared.ids.NodeId.{NodeId}
use Rattle.xt_base.specs.declared.ids.Boot.{Boot}
use Rattle.xt_base.specs.declared.ids.Ballot.{Ballot}
use Rattle.xt_base.specs.declared.ids.Lease.{Lease}
use Rattle.xt_base.specs.declared.ids.OpId.{OpId}
use Rattle.xt_base.specs.declared.ids.Stamp.{Stamp}
use Rattle.xt_messages.specs.declared.file.Capability.{Capability}
use Rattle.xt_messages.specs.declared.file.Kind.{Kind}
use Rattle.xt_messages.specs.declared.file.Kind.TheVariants as kind
use Rattle.xt_messages.specs.declared.file.FileHead.{FileHead}
use Rattle.xt_messages.specs.declared.file.Location.{Location}
use Rattle.xt_messages.specs.declared.file.Op.{Op}
use Rattle.xt_messages.specs.declared.file.Op.TheVariants as op
use Rattle.xt_messages.specs.declared.file.Update.{Update}
use Rattle.xt_messages.specs.declared.message.Payload.{Payload}
use Rattle.xt_messages.specs.declared.message.Payload.TheVariants as payload
use Rattle.xt_messages.specs.declared.record.FileRow.{FileRow}
use Rattle.xt_messages.specs.declared.record.Record.{Record}
use Rattle.xt_messages.specs.declared.record.Record.TheVariants as kept
use Rattle.xt_messages.specs.declared.reply.Denial.{Denial}
use Rattle.xt_messages.specs.declared.reply.Denial.TheVariants as denial
use Rattle.xt_messages.specs.declared.reply.Reply.{Reply}
use Rattle.xt_messages.specs.declared.reply.Reply.TheVariants as reply
use Rattle.xt_base.specs.FieldLimits.{FitsBytes}
use Rattle.xt_base.specs.Overlay.{cut_or_filled}
use Rattle.xt_base.specs.declared.TheConstants.{OBJECTS, COUNTS}
use Rattle.xt_messages.specs.Limits.{FitsNode, FitsFile, FitsBoot, FitsBallot, FitsLease, FitsLocation, FitsMessage, FitsPayload, FitsReply, FitsCapability, FitsOp, FitsOpId, FitsUpdate}
use Rattle.xt_protocol.specs.declared.turned.Turned.{Turned}
use Rattle.xt_protocol.specs.Register.{Acceptor, ReadAnswer, promise, read_refused, WriteAnswer, write_refused, on_read, read_under, read_promised, read_outrun, on_write, write_under, write_accepted, write_outrun, write_other_boot, no_ballot, ballot_lt, same_ballot}
use Rattle.xt_protocol.specs.LeaseRows.{LeaseState, running_round, Proposer, Held, free, asking, writing, held, LeaseNews, sends_write, holds, finds, ends, on_answer, can_ask, round_starts, is_renewal_due, renewal_starts, renewal_takes_under, lease_expired}
use Rattle.xt_protocol.specs.LeaseRows as lease
use Rattle.xt_protocol.specs.declared.states.Acted.{Acted}
use Rattle.xt_protocol.specs.declared.states.IssuedAsk.{IssuedAsk}
use Rattle.xt_protocol.specs.declared.states.Tenure.{Tenure}
use Rattle.xt_protocol.specs.declared.states.WaitingAsk.{WaitingAsk}
use Rattle.xt_messages.specs.declared.event.Mark.TheVariants as mark
use Rattle.xt_protocol.specs.Turns.{quiet, keeps, the_record, message, sends, shows}
use Rattle.xt_protocol.specs.Primaries.{is_active, have_in, majority_among}
use Rattle.xt_protocol.specs.PrimaryRows.{hears}
use Rattle.xt_protocol.specs.ReplicaRows.{kept_after}
use Rattle.xt_protocol.specs.Serving.{wakes}
use Rattle.xt_protocol.specs.Asks.{Served, no_asks, waits, asked_already, tells_each, tells_untold}
use Rattle.xt_protocol.specs.FileStates.{FileState, Site, FileStep, nothing, steps_to, and_then, serves_to, members_of, stripe_of, ground_of}
use Rattle.xt_protocol.specs.Overdue.{is_due, issued_due, newly_due, deadlines_under, lease_became, expired}
use Rattle.xt_protocol.specs.AskRows.{capability_refused, same_list, list_against, with_member, leaves_object, list_and_range, capability_list_range, refusal_of, waiting_ask, ask_waits, serve_ask, round_for, elsewhere, ask_without_lease, ask_under, ask_rows, view_record, ask_let_in, handle_ask}
use Rattle.xt_protocol.specs.FileLeases.{answer_to_read, read_comes, answers_to_write, end_after_write, write_comes, reported_end, end_after_answer, answer_waiting, led_on, lease_news, answer_comes}
use Rattle.xt_protocol.specs.Heads.{first_epoch, plain_stamp, version_of}
use Rattle.xt_protocol.specs.Objects.{present_body}
use Rattle.xt_protocol.specs.PlainRows.{serve_read}
use Rattle.xt_protocol.specs.StripedRows.{handle_striped}
use Rattle.xt_protocol.specs.FileSteps.{replica_acts, ask_comes, primary_hears, message_comes, step_of_file, renews, wakes_under_lease, wake_of_file}
use Rattle.osd_invariants.specs.Sound.{IsStored, ListUnder, IsSound}
use Rattle.osd_invariants.proofs.Kept.{wake_keeps}
use Rattle.osd_invariants.proofs.SoundSteps.{expired_so}
use Rattle.osd_invariants.proofs.StripedAsks.{tells_client, striped_standing, KeepsUpdate, striped_cases}
use Rattle.lease_runs.proofs.StripedUpdates.{next_stamp}
use Rattle.lease_runs.proofs.LeaseSteps.{expired_keeps}
use Rattle.replica_records.proofs.AfterUpdate.{follows}
use Rattle.object_versions.proofs.HeadLimits.{either, when}
use Rattle.client_limits.proofs.Lists.{all_filter}
use Rattle.world_limits.proofs.Lists.{all_append}
use Rattle.world_limits.specs.States.{AreSent, AcceptorIs, ProposerIs, LeaseIs, TargetIs, TenureIs, AskIs, AsksAre, IsInside, RowIs, FileIs, NextIs, SiteIs, StepIs}
use Rattle.client_limits.proofs.Messages.{sent}
use Rattle.world_limits.proofs.Lease.{answer_is, NewsIs, starts_is, renewing_is, expires_is}
use Rattle.world_limits.proofs.Updates.{no_bytes, present_is, filled_is, StandingIs, standing_is, update_is}
use Rattle.world_limits.proofs.Replica.{lists_of, room_of, kept_is, ActedIs, gathers, fetches_from, stages, takes_head, takes_update}
use Rattle.world_limits.proofs.Primary.{each_sent, any_sent, LedRec, GroundIs, drawn_is, hears_is}
use Rattle.world_limits.proofs.Serving.{wakes_is}
use Rattle.world_limits.proofs.Asks.{told_sent, each_told, untold_told, have_is, need_is, none_are, waits_are, ServedIs, serves_is, follow_is}

-- ---- what a file's list gives

pub members_are : (o : Option Location) → IfSome o FitsLocation → AllByRecursion FitsNode (members_of o)
members_are None is = tt
members_are (Some location) is = is.nodes.each

pub members_few : (o : Option Location) → IfSome o FitsLocation → length (members_of o) ≤ 9
members_few None is = omega arith
members_few (Some location) is = at_most (length location.members) (and_parts (nat_le 1 (length location.members)) (nat_le (length location.members) 9) (front is.nodes.different)).1
  where
    at_most : (n : ℕ) → nat_le n 9 ≡ true → n ≤ 9
    at_most n le = grind (arith, nat_tests)

    front : (nat_le 1 (length location.members) && nat_le (length location.members) 9 && are_distinct location.members) ≡ true → (nat_le 1 (length location.members) && nat_le (length location.members) 9) ≡ true
    front all = at (nat_le 1 (length location.members)) (nat_le (length location.members) 9) all
      where
        at : (a b : Bool) → (a && b && are_distinct location.members) ≡ true → (a && b) ≡ true
        at true true is = refl
        at true false is = absurd cc
        at false b is = absurd cc

least_of : (o : Option Location) → IsStored o → IfSome o FitsLocation → 1 ≤ stripe_of o
least_of None stored is = absurd stored
least_of (Some location) stored is = (let least = is.size.least in omega (arith, least))

most_of : (o : Option Location) → IfSome o FitsLocation → stripe_of o ≤ 131072
most_of None is = omega arith
most_of (Some location) is = is.size.most

-- ---- steps

-- what a primary keeps is in its place
led_next : (row : FileRow) (rec : Option Record) → RowIs row → IfSome rec (LedRec row.file row.head) → NextIs row rec
led_next row None is next = tt
led_next row (Some (kept.Promise file epoch)) is next = record { limits = (subst FitsFile (sym next.0) is.which, next.1); own = ap Some next.0; place = next.2 }
led_next row (Some (kept.Stage file object version bytes)) is next = record { limits = (subst FitsFile (sym next.0) is.which, next.1, next.2, next.3); own = ap Some next.0; place = tt }
led_next row (Some _) is next = absurd next

-- a step that leaves this state
steps_is : (s : FileState) (turned : Turned) → FileIs s → NextIs s.kept turned.rec → AreSent turned.outs → StepIs s.kept (steps_to s turned)
steps_is s turned is next outs = record {
  state = record { row = kept_is s.kept turned.rec is.row next; register = is.register; leases = is.leases; clock = is.clock; leads = is.leads; waits = is.waits };
  next = next;
  outs = outs;
}

still_is : (s : FileState) → FileIs s → StepIs s.kept (nothing s)
still_is s is = record { state = is; next = tt; outs = tt }

-- one part of a step, and then the next; the second one's record counts where the first has none
then_is : (row : FileRow) (first : FileStep) (rows : FileState → FileStep) → StepIs row first → (first.turned.rec ≡ None → first.state.kept ≡ row) → StepIs first.state.kept (rows first.state) → StepIs row (and_then first rows)
then_is row first rows one same two = record {
  state = two.state;
  next = at first.turned.rec same one.next;
  outs = all_append FitsMessage first.turned.outs (rows first.state).turned.outs one.outs two.outs;
}
  where
    at : (o : Option Record) → (o ≡ None → first.state.kept ≡ row) → NextIs row o → NextIs row (the_record o (rows first.state).turned.rec)
    at None same next = subst (λ r. NextIs r (rows first.state).turned.rec) (same refl) two.next
    at (Some rec) same next = next

-- the asks that wait now
with_asks : (s : FileState) (asks : _) → FileIs s → AsksAre asks → FileIs (record s { asks = asks })
with_asks s asks is are = record { row = is.row; register = is.register; leases = is.leases; clock = is.clock; leads = is.leads; waits = are }

module _ (site : Site) (here : SiteIs site) where
  ground_is : (s : FileState) → FileIs s → GroundIs (ground_of site s)
  ground_is s is = record { who = here.who; which = is.row.which; stands = is.row.stands; bodies = here.bodies s.kept.file }

  -- a step of the primary and the asks
  served_is : (s : FileState) (served : Served) → FileIs s → ServedIs s.kept.file s.kept.head served → StepIs s.kept (serves_to s served)
  served_is s served is fits =
      steps_is (record s { primary = served.primary; asks = served.asks }) served.turned
      (record { row = is.row; register = is.register; leases = is.leases; clock = is.clock; leads = fits.primary; waits = fits.asks })
      (led_next s.kept served.turned.rec is.row fits.next) fits.outs

  -- ---- what is overdue

  due_is : (o : Option IssuedAsk) → IfSome o (λ i. AskIs i.ask) → IfSome (issued_due site.now o) (λ i. AskIs i.ask)
  due_is None is = tt
  due_is (Some i) is = is

  newly_is : (o : Option IssuedAsk) → IfSome o (λ i. AskIs i.ask) → IfSome (newly_due site.now o) (λ i. AskIs i.ask)
  newly_is None is = tt
  newly_is (Some i) is = either (λ o. IfSome o (λ (i : IssuedAsk). AskIs i.ask)) (is_due site.now i.ask) (Some i) None is tt

  deadlines_is : (s : FileState) (o : Option Tenure) → FileIs s → IfSome o TenureIs → StepIs s.kept (deadlines_under site s o)
  deadlines_is s None is leads = still_is s is
  deadlines_is s (Some t) is leads =
      let answer = reply.NoMajority (have_in t.peers t.progress) (majority_among t.peers) in
      let fits : FitsReply answer = (have_is t.peers t.progress leads.few leads.stands, need_is t.peers leads.few) in
      steps_is _ _
      (with_asks s _ is (record { wait = all_filter AskIs (λ (w : WaitingAsk). not (is_due site.now w)) s.asks.waiting is.waits.wait; written = due_is s.asks.issued is.waits.written }))
      tt
      (all_append FitsMessage _ _ (each_told site.node s.kept.file (filter (is_due site.now) s.asks.waiting) answer here.who is.row.which (all_filter AskIs (is_due site.now) s.asks.waiting is.waits.wait) fits)
      (untold_told site.node s.kept.file (newly_due site.now s.asks.issued) answer here.who is.row.which (newly_is s.asks.issued is.waits.written) fits))

  -- all asks get the answer that there is no lease
  no_lease_is : (s : FileState) → FileIs s → StepIs s.kept (steps_to (record s { asks = no_asks }) (sends (tells_untold site.node s.kept.file s.asks.issued (reply.NoLease s.last_end) ++ tells_each site.node s.kept.file s.asks.waiting (reply.NoLease s.last_end))))
  no_lease_is s is =
      steps_is (record s { asks = no_asks }) _ (with_asks s no_asks is none_are) tt
      (all_append FitsMessage _ _ (untold_told site.node s.kept.file s.asks.issued (reply.NoLease s.last_end) here.who is.row.which is.waits.written is.clock)
      (each_told site.node s.kept.file s.asks.waiting (reply.NoLease s.last_end) here.who is.row.which is.waits.wait is.clock))

  became_is : (s : FileState) (before after : LeaseState) → FileIs s → StepIs s.kept (lease_became site s before after)
  became_is s (held h) (free p) is =
      no_lease_is (record s { primary = record s.primary { tenure = None } })
      (record { row = is.row; register = is.register; leases = is.leases; clock = is.clock; leads = record { number = is.leads.number; leads = tt }; waits = is.waits })
  became_is s (asking r) (free p) is = no_lease_is s is
  became_is s (writing r) (free p) is = no_lease_is s is
  became_is s (free p) after is = deadlines_is s s.primary.tenure is is.leads.leads
  became_is s (held h) (held k) is = deadlines_is s s.primary.tenure is is.leads.leads
  became_is s (held h) (asking r) is = deadlines_is s s.primary.tenure is is.leads.leads
  became_is s (held h) (writing r) is = deadlines_is s s.primary.tenure is is.leads.leads
  became_is s (asking q) (held h) is = deadlines_is s s.primary.tenure is is.leads.leads
  became_is s (asking q) (asking r) is = deadlines_is s s.primary.tenure is is.leads.leads
  became_is s (asking q) (writing r) is = deadlines_is s s.primary.tenure is is.leads.leads
  became_is s (writing q) (held h) is = deadlines_is s s.primary.tenure is is.leads.leads
  became_is s (writing q) (asking r) is = deadlines_is s s.primary.tenure is is.leads.leads
  became_is s (writing q) (writing r) is = deadlines_is s s.primary.tenure is is.leads.leads

  pub expired_is : (s : FileState) → FileIs s → StepIs s.kept (expired site s)
  unfolding expired
  expired_is s is =
      became_is (record s { lease = lease_expired s.lease site.now }) s.lease (lease_expired s.lease site.now)
      (record { row = is.row; register = is.register; leases = expires_is s.lease site.now is.leases; clock = is.clock; leads = is.leads; waits = is.waits })

  -- ---- the register

  pub record ReadIs (a : Acceptor) (answer : ReadAnswer) : Type 0 where
    pub register : AcceptorIs a
    pub content : (s : FileState) (boot : Boot) (ballot : Ballot) → FitsFile s.kept.file → FitsBoot boot → FitsBallot ballot → FitsPayload (answer_to_read s.kept.file boot ballot answer)

  outrun_read : (a : Acceptor) (seen : Ballot) → AcceptorIs a → FitsBallot seen → ReadIs a (read_refused seen)
  outrun_read a seen is fits = record { register = is; content = λ s boot ballot which start number. (which, number, fits) }

  promised_read : (a : Acceptor) (ballot : Ballot) → AcceptorIs a → FitsBallot ballot → ReadIs (record a { promised = Some ballot }) (promise a.accepted)
  promised_read a ballot is fits = record {
    register = record { start = is.start; promise = fits; taken = is.taken };
    content = λ s boot number which start called. (which, called, start, is.taken);
  }

  read_under_is : (o : Option Ballot) (a : Acceptor) (ballot : Ballot) → IfSome o FitsBallot → AcceptorIs a → FitsBallot ballot → (let read = read_under o a ballot in ReadIs read.acceptor read.answer)
  read_under_is None a ballot old is fits = promised_read a ballot is fits
  read_under_is (Some seen) a ballot old is fits =
      either (λ read. ReadIs read.acceptor read.answer) (ballot_lt seen ballot) (read_promised a ballot) (read_outrun a seen) (promised_read a ballot is fits) (outrun_read a seen is old)

  read_is : (s : FileState) (from : NodeId) (ballot : Ballot) → FileIs s → FitsNode from → FitsBallot ballot → StepIs s.kept (read_comes site s from ballot)
  unfolding read_comes
  read_is s from ballot is to fits =
      let read = read_under_is s.acceptor.promised s.acceptor ballot is.register.promise is.register fits in
      steps_is (record s { acceptor = (on_read s.acceptor ballot).acceptor }) _
      (record { row = is.row; register = read.register; leases = is.leases; clock = is.clock; leads = is.leads; waits = is.waits }) tt
      (sent site.node from _ here.who to (read.content s s.acceptor.boot ballot is.row.which is.register.start fits), tt)

  -- the answer to a Write, and the end that was met last
  pub record WriteIs (s : FileState) (from : NodeId) (ballot : Ballot) (boot : Boot) (l : Lease) (a : Acceptor) (answer : WriteAnswer) : Type 0 where
    pub register : AcceptorIs a
    pub clock : end_after_write s.last_end l answer < 2 ^ 64
    pub outs : AreSent (answers_to_write site s from ballot boot answer)

  write_is : (s : FileState) (from : NodeId) (ballot : Ballot) (boot : Boot) (l : Lease) → FileIs s → FitsNode from → FitsBallot ballot → FitsBoot boot → FitsLease l → StepIs s.kept (write_comes site s from ballot boot l)
  unfolding write_comes
  write_is s from ballot boot l is to fits start term =
      let write = own in
      steps_is (record s { acceptor = (on_write s.acceptor ballot boot l).acceptor; last_end = end_after_write s.last_end l (on_write s.acceptor ballot boot l).answer }) _
      (record { row = is.row; register = write.register; leases = is.leases; clock = write.clock; leads = is.leads; waits = is.waits }) tt write.outs
    where
      outran : (seen : Ballot) → FitsBallot seen → WriteIs s from ballot boot l s.acceptor (write_refused seen)
      outran seen number = record { register = is.register; clock = is.clock; outs = (sent site.node from _ here.who to (is.row.which, fits, number), tt) }

      under : (o : Option Ballot) → IfSome o FitsBallot → (let write = write_under o s.acceptor ballot l in WriteIs s from ballot boot l write.acceptor write.answer)
      under None old = outran no_ballot (record { rounds = omega arith; proposer = omega arith; start = omega arith })
      under (Some seen) old =
          either (λ write. WriteIs s from ballot boot l write.acceptor write.answer) (same_ballot seen ballot) (write_accepted s.acceptor l) (write_outrun s.acceptor seen)
          (record {
            register = record { start = is.register.start; promise = is.register.promise; taken = term };
            clock = term.clock;
            outs = (sent site.node from _ here.who to (is.row.which, fits, start), tt);
          })
          (outran seen old)

      own : (let write = on_write s.acceptor ballot boot l in WriteIs s from ballot boot l write.acceptor write.answer)
      own =
          either (λ write. WriteIs s from ballot boot l write.acceptor write.answer) (s.acceptor.boot.0 == boot.0) (write_under s.acceptor.promised s.acceptor ballot l) (write_other_boot s.acceptor)
          (under s.acceptor.promised is.register.promise) (record { register = is.register; clock = is.clock; outs = tt })

  -- ---- the lease

  reported_is : (end : ℕ) (content : Payload) → end < 2 ^ 64 → FitsPayload content → reported_end end content < 2 ^ 64
  reported_is end (payload.Promise file ballot boot (Some l)) old fits = fits.3.clock
  reported_is end (payload.Promise file ballot boot None) old fits = old
  reported_is end _ old fits = old

  told_is : (s : FileState) (answer : Reply) → FileIs s → FitsReply answer → StepIs s.kept (answer_waiting site s answer)
  told_is s answer is fits =
      steps_is (record s { asks = record s.asks { waiting = [] } }) _ (with_asks s _ is (record { wait = tt; written = is.waits.written })) tt
      (each_told site.node s.kept.file s.asks.waiting answer here.who is.row.which is.waits.wait fits)

  led_is : (s : FileState) (o : Option Tenure) → FileIs s → StepIs s.kept (led_on site s o)
  led_is s (Some t) is = still_is s is
  led_is s None is =
      let drawn = drawn_is (ground_of site s).place s.primary.learnt s.kept.head (members_of s.kept.location) here.who is.row.which is.leads.number (members_are s.kept.location is.row.place) (members_few s.kept.location is.row.place) in
      steps_is (record s { primary = _ }) _ (record { row = is.row; register = is.register; leases = is.leases; clock = is.clock; leads = drawn.primary; waits = is.waits })
      (led_next s.kept _ is.row drawn.next) drawn.outs

  targets_sent : (s : FileState) (ballot : Ballot) (l : Lease) (targets : List (NodeId × Boot)) → FileIs s → FitsBallot ballot → FitsLease l → AllByRecursion TargetIs targets
      → AreSent (map (λ (target : NodeId × Boot). message site.node target.0 (payload.Write s.kept.file ballot target.1 l)) targets)
  targets_sent s ballot l [] is number term all = tt
  targets_sent s ballot l (t ∷ ts) is number term all = (sent site.node t.0 _ here.who all.0.0 (is.row.which, number, all.0.1, term), targets_sent s ballot l ts is number term all.1)

  news_is : (s : FileState) (news : LeaseNews) → FileIs s → NewsIs news → StepIs s.kept (lease_news site s news)
  news_is s lease.nothing is news = still_is s is
  news_is s (sends_write ballot l targets) is news = steps_is s _ is tt (targets_sent s ballot l targets is news.0 news.1 news.2)
  news_is s (holds end) is news =
      let over : FileIs (record s { last_end = end }) = record { row = is.row; register = is.register; leases = is.leases; clock = news; leads = is.leads; waits = is.waits } in
      then_is s.kept _ (λ state. led_on site state state.primary.tenure) (steps_is (record s { last_end = end }) (shows (mark.Held s.kept.file.number end)) over tt tt) (λ none. refl) (led_is (record s { last_end = end }) s.primary.tenure over)
  news_is s (finds l) is news =
      either (StepIs s.kept) (l.node.0 == site.node.0) (answer_waiting site s (reply.NoLease s.last_end)) (answer_waiting site s (reply.Elsewhere l.node l.end))
      (told_is s (reply.NoLease s.last_end) is is.clock) (told_is s (reply.Elsewhere l.node l.end) is (news.holder, news.clock))
  news_is s ends is news = told_is s (reply.NoLease s.last_end) is is.clock

  answered_is : (s : FileState) (from : NodeId) (content : Payload) → FileIs s → FitsNode from → FitsPayload content → StepIs s.kept (answer_comes site s from content)
  unfolding answer_comes
  answered_is s from content is to fits =
      let step = answer_is s.lease site.now from content is.leases to fits in
      news_is (record s { lease = (on_answer s.lease site.now from content).state; last_end = end_after_answer site s from content }) (on_answer s.lease site.now from content).news
      (record {
        row = is.row;
        register = is.register;
        leases = step.state;
        clock = either (λ n. n < 2 ^ 64) (renewal_takes_under (running_round s.lease) site.now from content) (reported_end s.last_end content) s.last_end (reported_is s.last_end content is.clock fits) is.clock;
        leads = is.leads;
        waits = is.waits;
      }) step.news

  -- ---- asks that are turned away

  list_is : (stored : Option Location) (location : Location) → IfSome stored FitsLocation → IfSome (list_against stored location) FitsReply
  list_is None location is = tt
  list_is (Some stored) location is =
      either (λ o. IfSome o FitsReply) (nat_lt location.version stored.version) (Some (reply.OldList stored.version)) (cond (same_list stored location) None (Some (reply.Denied denial.List))) is.changes
      (either (λ o. IfSome o FitsReply) (same_list stored location) None (Some (reply.Denied denial.List)) tt tt)

  member_is : (location : Location) (o : Option Reply) → IfSome o FitsReply → IfSome (with_member site location o) FitsReply
  member_is location (Some answer) is = is
  member_is location None is = either (λ o. IfSome o FitsReply) (has_node location.members site.node.0) None (Some (reply.Denied denial.List)) tt tt

  range_is : (location : Location) (asked : Op) (o : Option Reply) → IfSome o FitsReply → IfSome (list_and_range location asked o) FitsReply
  range_is location asked (Some answer) is = is
  range_is location asked None is = either (λ o. IfSome o FitsReply) (leaves_object location.stripe asked) (Some (reply.Denied denial.Range)) None tt tt

  refused_is : (stored : Option Location) (capability : Capability) (asked : Op) → IfSome stored FitsLocation → IfSome (refusal_of site stored capability asked) FitsReply
  unfolding refusal_of
  refused_is stored capability asked is = at (capability_refused site capability asked)
    where
      at : (o : Option Denial) → IfSome (capability_list_range site stored capability asked o) FitsReply
      at (Some why) = tt
      at None = range_is capability.location asked _ (member_is capability.location _ (list_is stored capability.location is))

  -- an ask that isn't refused stays in its object
  inside_of : (stored : Option Location) (capability : Capability) (asked : Op) → refusal_of site stored capability asked ≡ None → leaves_object capability.location.stripe asked ≡ false
  unfolding refusal_of
  inside_of stored capability asked none = at (capability_refused site capability asked) none
    where
      leaves : (b : Bool) → (if b then Some (reply.Denied denial.Range) else None) ≡ None → b ≡ false
      leaves true is = absurd cc
      leaves false is = refl

      listed : (o : Option Reply) → list_and_range capability.location asked o ≡ None → leaves_object capability.location.stripe asked ≡ false
      listed (Some answer) is = absurd cc
      listed None is = leaves (leaves_object capability.location.stripe asked) is

      at : (o : Option Denial) → capability_list_range site stored capability asked o ≡ None → leaves_object capability.location.stripe asked ≡ false
      at (Some why) is = absurd cc
      at None is = listed (with_member site capability.location (list_against stored capability.location)) is

  stays_inside : (stripe : ℕ) (asked : Op) → stripe ≤ 131072 → leaves_object stripe asked ≡ false → IsInside asked
  stays_inside stripe (op.Read object at len) most within = tt
  stays_inside stripe (op.Write object at bytes) most within = not_over stripe (at + length bytes) most within
    where
      not_over : (a b : ℕ) → a ≤ 131072 → nat_lt a b ≡ false → b ≤ 131072
      not_over a b most less = grind (arith, nat_tests)
  stays_inside stripe (op.Truncate size) most within = tt

  -- ---- asks

  elsewhere_is : (o : Option Lease) → IfSome o FitsLease → IfSome (elsewhere site o) FitsReply
  elsewhere_is None is = tt
  elsewhere_is (Some l) is = either (λ o. IfSome o FitsReply) (not (l.node.0 == site.node.0) && nat_lt site.now l.end) (Some (reply.Elsewhere l.node l.end)) None (is.holder, is.clock) tt

  ask_waits_is : (s : FileState) (ask : WaitingAsk) → FileIs s → AskIs ask → StepIs s.kept (ask_waits s ask)
  ask_waits_is s ask is fits = still_is (record s { asks = waits s.asks ask }) (with_asks s (waits s.asks ask) is (waits_are s.asks ask is.waits fits))

  round_is : (s : FileState) (p : Proposer) (ask : WaitingAsk) → FileIs s → ProposerIs p → AskIs ask → StepIs s.kept (round_for site s p ask)
  round_is s p ask is proposer fits =
      let members = members_of s.kept.location in
      let all = members_are s.kept.location is.row.place in
      when (StepIs s.kept) (can_ask p) _ _
      (λ can.
      let round = starts_is p site.now members proposer here.clock all can in
      steps_is (record s { asks = waits s.asks ask; lease = asking (round_starts p site.now members) }) _
      (record { row = is.row; register = is.register; leases = round; clock = is.clock; leads = is.leads; waits = waits_are s.asks ask is.waits fits }) tt
      (each_sent site.node members _ here.who all (is.row.which, round.number)))
      (λ none. still_is s is)

  without_is : (s : FileState) (p : Proposer) (ask : WaitingAsk) (o : Option Reply) → FileIs s → ProposerIs p → AskIs ask → IfSome o FitsReply → StepIs s.kept (ask_without_lease site s p ask o)
  without_is s p ask (Some answer) is proposer fits told = steps_is s _ is tt (told_sent site.node s.kept.file ask.id answer here.who is.row.which (fits.who.who, fits.who.operation) told, tt)
  without_is s p ask None is proposer fits told = round_is s p ask is proposer fits

  under_is : (s : FileState) (l : LeaseState) (ask : WaitingAsk) → FileIs s → LeaseIs l → IsStored s.kept.location → AskIs ask → StepIs s.kept (ask_under site s l ask)
  under_is s (held h) ask is own stored fits =
      either (StepIs s.kept) (is_active s.primary.tenure) (serve_ask site s ask) (ask_waits s ask)
      (served_is s _ is
      (serves_is (ground_of site s) (ground_is s is) (least_of s.kept.location stored is.row.place) (most_of s.kept.location is.row.place) (record { primary = s.primary; asks = s.asks; turned = quiet }) ask (waits s.asks ask)
      (record { primary = is.leads; asks = is.waits; next = tt; outs = tt }) fits (waits_are s.asks ask is.waits fits)))
      (ask_waits_is s ask is fits)
  under_is s (asking r) ask is asks stored fits = ask_waits_is s ask is fits
  under_is s (writing r) ask is writes stored fits = ask_waits_is s ask is fits
  under_is s (free p) ask is proposer stored fits = without_is s p ask (elsewhere site s.acceptor.accepted) is proposer fits (elsewhere_is s.acceptor.accepted is.register.taken)

  rows_is : (s : FileState) (ask : WaitingAsk) → FileIs s → IsStored s.kept.location → AskIs ask → StepIs s.kept (ask_rows site s ask)
  rows_is s ask is stored fits = either (StepIs s.kept) (asked_already s.asks ask.id) (nothing s) (ask_under site s s.lease ask) (still_is s is) (under_is s s.lease ask is is.leases stored fits)

  used_is : (s : FileState) → FileIs s → FileIs (record s { used = site.now })
  used_is s is = record { row = is.row; register = is.register; leases = is.leases; clock = is.clock; leads = is.leads; waits = is.waits }

  let_in_is : (s : FileState) (id : OpId) (capability : Capability) (asked : Op) (o : Option Reply) → refusal_of site s.kept.location capability asked ≡ o → FileIs s → FitsOpId id → FitsCapability capability → FitsOp asked → IfSome o FitsReply
      → StepIs s.kept (ask_let_in site s id capability asked o)
  let_in_is s id capability asked (Some answer) is_refused is who seal fits told = steps_is s _ is tt (told_sent site.node s.kept.file id answer here.who is.row.which (who.who, who.operation) told, tt)
  let_in_is s id capability asked None is_refused is who seal fits told = stored s.kept.location refl
    where
      ask : WaitingAsk
      ask = waiting_ask site id capability.epoch asked

      ask_fits : AskIs ask
      ask_fits = record { who = who; truncation = seal.truncation; asked = fits; inside = stays_inside capability.location.stripe asked seal.place.size.most (inside_of s.kept.location capability asked is_refused) }

      is_there : (o : Option Location) (location : Location) → o ≡ Some location → IsStored o
      is_there None location is = absurd cc
      is_there (Some l) location is = tt

      stored : (was : Option Location) → s.kept.location ≡ was → StepIs s.kept (and_then (steps_to (record s { used = site.now }) (keeps (view_record s capability.location was))) (λ state. ask_rows site state (waiting_ask site id capability.epoch asked)))
      stored None none =
          let first = steps_is (record s { used = site.now }) (keeps (Some (kept.View s.kept.file capability.location))) (used_is s is) (record { limits = (is.row.which, seal.place); own = refl; place = tt }) tt in
          then_is s.kept _ (λ state. ask_rows site state (waiting_ask site id capability.epoch asked)) first (λ none. absurd (no_record none)) (rows_is _ ask first.state tt ask_fits)
        where
          no_record : Some (kept.View s.kept.file capability.location) ≡ None → ⊥
          no_record e = cc
      stored (Some location) there =
          then_is s.kept (steps_to (record s { used = site.now }) (keeps None)) (λ state. ask_rows site state (waiting_ask site id capability.epoch asked)) (steps_is (record s { used = site.now }) (keeps None) (used_is s is) tt tt) (λ none. refl)
          (rows_is (record s { used = site.now }) ask (used_is s is) (is_there s.kept.location location there) ask_fits)

  acts_is : (s : FileState) (from : NodeId) (acted : Acted) → FileIs s → FitsNode from → ActedIs s.kept acted → StepIs s.kept (replica_acts site s from acted)
  acts_is s from acted is to fits = steps_is s _ is fits.next (any_sent site.node from acted.answer here.who to fits.answer)

  -- what an ask on a striped file gives
  striped_is : (s : FileState) (id : OpId) (capability : Capability) (asked : Op) → FileIs s → FitsOpId id → FitsCapability capability → FitsOp asked → ActedIs s.kept (handle_striped site s.kept id capability asked)
  striped_is s id capability asked is who seal fits =
      striped_cases (ActedIs s.kept) site s.kept id capability asked
      (record {
        nothing = record { next = tt; answer = tt };
        denied = λ why. told (reply.Denied why) tt;
        read = λ object at len same goes. told (serve_read body head object at len) (is.row.stands.place.writes, is.row.stands.after, shown object at len (subst FitsOp same fits));
        again = λ count stands. told (reply.Ok count head.mark []) (subst (StandingIs objects stripe asked) stands standing_fits, is.row.stands.after, no_bytes);
        turned = λ answer stands. told answer (subst (StandingIs objects stripe asked) stands standing_fits);
        keeps = λ update keeps.
            let one = update_fits update keeps in
            record {
              next = record {
                limits = (is.row.which, one);
                own = refl;
                place = (follows head update (lists_of head is.row.stands) one (follows_plain update (next_stamp site s.kept id capability asked update keeps))).0 (room_of head update keeps.fits);
              };
              answer = (who.operation, is.row.which, (one.place.writes, one.after, no_bytes));
            };
      })
    where
      head : FileHead
      head = s.kept.head

      body : ℕ → Stamp → List ℕ
      body = site.body s.kept.file

      stripe : ℕ
      stripe = capability.location.stripe

      objects : ℕ
      objects = OBJECTS * length capability.location.members

      told : (answer : Reply) → FitsReply answer → ActedIs s.kept (tells_client s.kept id answer)
      told answer fit = record { next = tt; answer = (who.operation, is.row.which, fit) }

      some : 1 ≤ capability.location.stripe
      some = (let least = seal.place.size.least in omega (arith, least))

      few : OBJECTS * length capability.location.members ≤ 147456
      few = (let nine = members_few (Some capability.location) seal.place in omega (arith, nine))

      shown : (object at len : ℕ) → FitsOp (op.Read object at len) → FitsBytes (cut_or_filled (drop at (present_body (site.body s.kept.file) (version_of s.kept.head.versions object) object)) len)
      shown object at len fit =
          filled_is (present_body body (version_of head.versions object) object) len (present_is body (version_of head.versions object) object (here.bodies s.kept.file)) fit.3 at

      standing_fits : StandingIs (OBJECTS * length capability.location.members) capability.location.stripe asked (striped_standing s.kept id capability asked)
      standing_fits = standing_is objects stripe head capability.epoch asked some is.row.stands fits id

      below : (n : ℕ) → nat_lt n COUNTS ≡ true → n < 2 ^ 62
      below n less = grind (arith, nat_tests)

      follows_plain : (update : Update) → update.stamp ≡ plain_stamp (s.kept.head.stamp.count + 1)
          → ((update.stamp.epoch ≡ s.kept.head.promised) ⊎ (update.stamp.epoch ≡ first_epoch)) × (update.stamp.count ≡ s.kept.head.stamp.count + 1)
      follows_plain update same = (inr (ap (λ (x : Stamp). x.epoch) same), ap (λ (x : Stamp). x.count) same)

      update_fits : (update : Update) → KeepsUpdate site s.kept id capability asked update → FitsUpdate update
      update_fits update keeps =
          subst (λ (o : Option Update). IfSome o FitsUpdate) keeps.made
          (update_is objects stripe body head (plain_stamp (head.stamp.count + 1)) id capability.epoch asked (record {
            few = few;
            least = some;
            most = seal.place.size.most;
            bodies = here.bodies s.kept.file;
            whole = is.row.stands;
            place = record { tenure = record { place = omega arith; primary = omega arith }; writes = below (head.stamp.count + 1) keeps.left };
            who = who;
            truncation = seal.truncation;
            limits = fits;
            inside = stays_inside stripe asked seal.place.size.most keeps.goes.inside;
            near = subst (StandingIs objects stripe asked) keeps.stands standing_fits;
          }))

  asks_is : (s : FileState) (k : Kind) (id : OpId) (capability : Capability) (asked : Op) → FileIs s → FitsOpId id → FitsCapability capability → FitsOp asked → StepIs s.kept (ask_comes site s k id capability asked)
  unfolding handle_ask
  asks_is s kind.Replicated id capability asked is who seal fits =
      let_in_is s id capability asked (refusal_of site s.kept.location capability asked) refl is who seal fits (refused_is s.kept.location capability asked is.row.place)
  asks_is s kind.Striped id capability asked is who seal fits = acts_is s id.client (handle_striped site s.kept id capability asked) is who.who (striped_is s id capability asked is who seal fits)

  -- ---- a message

  heard_is : (s : FileState) (l : LeaseState) (from : NodeId) (content : Payload) → FileIs s → ListUnder l s.kept.location → FitsNode from → FitsPayload content → StepIs s.kept (primary_hears site s l from content)
  heard_is s (held h) from content is stored to fits =
      let g = ground_of site s in
      served_is s _ is
      (follow_is g (ground_is s is) (least_of s.kept.location stored is.row.place) (most_of s.kept.location is.row.place) s.primary.tenure s.asks (hears g s.primary from content) is.waits
      (hears_is g s.primary from content (ground_is s is) is.leads to fits))
  heard_is s (free p) from content is stored to fits = still_is s is
  heard_is s (asking r) from content is stored to fits = still_is s is
  heard_is s (writing r) from content is stored to fits = still_is s is

  message_is : (s : FileState) (from : NodeId) (content : Payload) → FileIs s → ListUnder s.lease s.kept.location → FitsNode from → FitsPayload content → StepIs s.kept (message_comes site s from content)
  message_is s from (payload.Ask number capability asked) is stored to fits =
      asks_is s capability.location.kind (record { client = from; number = number }) capability asked is (record { who = to; operation = fits.0 }) fits.1 fits.2
  message_is s from (payload.Read file ballot) is stored to fits = read_is s from ballot is to fits.1
  message_is s from (payload.Write file ballot boot l) is stored to fits = write_is s from ballot boot l is to fits.1 fits.2 fits.3
  message_is s from (payload.Promise file ballot boot report) is stored to fits = answered_is s from (payload.Promise file ballot boot report) is to fits
  message_is s from (payload.Accepted file ballot boot) is stored to fits = answered_is s from (payload.Accepted file ballot boot) is to fits
  message_is s from (payload.Outrun file ballot seen) is stored to fits = answered_is s from (payload.Outrun file ballot seen) is to fits
  message_is s from (payload.Gather file epoch) is stored to fits = acts_is s from _ is to (gathers s.kept is.row epoch fits.1)
  message_is s from (payload.Fetch file epoch object version) is stored to fits =
      steps_is s _ is tt (sent site.node from _ here.who to (fetches_from s.kept is.row (site.body s.kept.file) epoch object version (here.bodies s.kept.file) fits.1 fits.2 fits.3), tt)
  message_is s from (payload.Stage file epoch object version bytes) is stored to fits = acts_is s from _ is to (stages s.kept is.row epoch object version bytes fits.1 fits.2 fits.3 fits.4)
  message_is s from (payload.Head file epoch head) is stored to fits = acts_is s from _ is to (takes_head s.kept is.row epoch head fits.1 fits.2)
  message_is s from (payload.Update file update) is stored to fits = acts_is s from _ is to (takes_update s.kept is.row update fits.1)
  message_is s from content is stored to fits = heard_is s s.lease from content is stored to fits

  pub step_is : (s : FileState) (from : NodeId) (content : Payload) → FileIs s → IsSound s → FitsNode from → FitsPayload content → StepIs s.kept (step_of_file site s from content)
  unfolding step_of_file
  step_is s from content is sound to fits =
      let first = expired_is s is in
      then_is s.kept (expired site s) (λ state. message_comes site state from content) first (λ none. expired_keeps site s)
      (message_is (expired site s).state from content first.state (expired_so site s sound).list to fits)

  -- ---- a Wake

  renews_is : (s : FileState) (h : Held) → FileIs s → LeaseIs (held h) → StepIs s.kept (renews site s h)
  renews_is s h is own =
      let members = members_of s.kept.location in
      let all = members_are s.kept.location is.row.place in
      when (StepIs s.kept) (is_renewal_due h site.now s.used) _ _
      (λ due.
      let can = due_can h site.now s.used due in
      steps_is (record s { lease = held (renewal_starts h site.now members) }) _
      (record { row = is.row; register = is.register; leases = renewing_is h site.now members own here.clock all can; clock = is.clock; leads = is.leads; waits = is.waits }) tt
      (each_sent site.node members _ here.who all (is.row.which, (starts_is h.proposer site.now members own.who here.clock all can).number)))
      (λ none. still_is s is)
    where
      due_can : (h : Held) (now used : ℕ) → is_renewal_due h now used ≡ true → can_ask h.proposer ≡ true
      due_can h now used due = last _ (can_ask h.proposer) due
        where
          last : (a b : Bool) → (a && b) ≡ true → b ≡ true
          last true b is = is
          last false b is = absurd cc

  woken_is : (s : FileState) (l : LeaseState) → FileIs s → LeaseIs l → StepIs s.kept (wakes_under_lease site s l)
  woken_is s (held h) is own =
      let woke = wakes (ground_of site s).place s.primary in
      let none = wake_keeps (ground_of site s).place s.primary in
      let first = steps_is s woke is (subst (NextIs s.kept) (sym none) tt) (wakes_is (ground_of site s).place here.who is.row.which s.primary is.leads) in
      then_is s.kept (steps_to s woke) (λ state. renews site state h) first (λ no_rec. ap (kept_after s.kept) none) (renews_is (steps_to s woke).state h first.state own)
  woken_is s (free p) is leases = still_is s is
  woken_is s (asking r) is leases = still_is s is
  woken_is s (writing r) is leases = still_is s is

  pub wake_is : (s : FileState) → FileIs s → StepIs s.kept (wake_of_file site s)
  unfolding wake_of_file
  wake_is s is = woken_is s s.lease is is.leases
