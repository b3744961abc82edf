-- the steps of a file show in its lease
use Rattle.std.proofs.Common.{◌≡◌, ℕ, refl, ap, arith, sym, subst, ◌∙◌, List, [], ◌∷◌, ◌++◌, Bool, true, false}
use Rattle.std.specs.Prelude.{Option, Some, None, cond, not, ◌==◌, ◌&&◌, ◌+◌, nat_le, filter}
use Rattle.std.proofs.lemmas.Bool.Decides.{nat_tests}
use Rattle.std.proofs.lemmas.List.Elements.{filter-append, filter_map-append}
use Rattle.xt_base.specs.declared.ids.NodeId.{NodeId}
use Rattle.xt_base.specs.declared.ids.FileId.{FileId}
use Rattle.xt_base.specs.declared.ids.OpId.{OpId}
use Rattle.xt_base.specs.declared.ids.Boot.{Boot}
use Rattle.xt_base.specs.declared.ids.Ballot.{Ballot}
use Rattle.xt_base.specs.declared.ids.Lease.{Lease}
use Rattle.xt_messages.specs.declared.file.Kind.{Kind}
use Rattle.xt_messages.specs.declared.file.Kind.TheVariants as kind
use Rattle.xt_messages.specs.declared.file.Location.{Location}
use Rattle.xt_messages.specs.declared.file.Capability.{Capability}
use Rattle.xt_messages.specs.declared.file.Op.{Op}
use Rattle.xt_base.specs.declared.ids.Epoch.{Epoch}
use Rattle.xt_base.specs.declared.ids.Stamp.{Stamp}
use Rattle.xt_messages.specs.declared.file.ObjectVersion.{ObjectVersion}
use Rattle.xt_messages.specs.declared.file.FileHead.{FileHead}
use Rattle.xt_messages.specs.declared.file.Update.{Update}
use Rattle.xt_messages.specs.declared.reply.Reply.{Reply}
use Rattle.xt_messages.specs.declared.reply.Reply.TheVariants as reply
use Rattle.xt_messages.specs.declared.message.Payload.{Payload}
use Rattle.xt_messages.specs.declared.message.Payload.TheVariants as payload
use Rattle.xt_messages.specs.declared.record.FileRow.{FileRow}
use Rattle.xt_protocol.specs.Heads.{head_after}
use Rattle.xt_protocol.specs.Folds.{body_of}
use Rattle.xt_protocol.specs.Register.{Write, WriteAnswer, accepted, write_refused, other_boot, write_other_boot, write_under, ReadAnswer, promise, read_refused, on_read}
use Rattle.xt_protocol.specs.LeaseRows.{LeaseState, LeaseNews, Proposer, Held, free, asking, writing, held, sends_write, holds, finds, ends, lease_expired, on_answer, can_ask, is_renewal_due, round_starts}
use Rattle.xt_protocol.specs.LeaseRows as lease
use Rattle.lease_runs.specs.LeaseWorld.{LeaseRow, RowStep, row_handles, read_answer, write_answer, news_end, news_outs}
use Rattle.xt_protocol.specs.declared.states.WaitingAsk.{WaitingAsk}
use Rattle.xt_protocol.specs.declared.states.Acted.{Acted}
use Rattle.xt_protocol.specs.declared.states.Tenure.{Tenure}
use Rattle.xt_protocol.specs.Stamps.{is_epoch, is_earlier, is_below, has_version}
use Rattle.xt_protocol.specs.Turns.{keeps, message, quiet}
use Rattle.xt_protocol.specs.ReplicaRows.{kept_after, gathered, staged, headed, updated, as_promised, head_taken, first_missing, fetched_from, head_fits}
use Rattle.xt_protocol.specs.Primaries.{is_active, if_any, idle, have_in, majority_among}
use Rattle.xt_protocol.specs.PrimaryRows.{hears}
use Rattle.xt_protocol.specs.Serving.{wakes}
use Rattle.xt_protocol.specs.Asks.{tells_each, tells_untold, asked_already, waits}
use Rattle.xt_protocol.specs.FileStates.{FileState, Site, FileStep, and_then, steps_to, ground_of, members_of}
use Rattle.xt_protocol.specs.Overdue.{expired, lease_became, deadlines_under, newly_due, is_due, no_lease_for_all}
use Rattle.xt_protocol.specs.AskRows.{handle_ask, ask_let_in, ask_rows, ask_under, ask_without_lease, round_for, refusal_of, elsewhere, view_record, waiting_ask}
use Rattle.xt_protocol.specs.FileLeases.{answer_to_read, read_comes, write_comes, answer_comes, answers_to_write, end_after_answer, lease_news, led_on, answer_waiting}
use Rattle.xt_protocol.specs.FileSteps.{step_of_file, message_comes, ask_comes, primary_hears, renews, wakes_under_lease, wake_of_file}
use Rattle.lease_runs.specs.LeaseView.{lease_row_of, is_ask, lease_setting, is_lease_or_ask, leases_and_asks, held_end, held_ends, IsBare, ShowsRow, stays_so, Follows, handles, asks, stays, Wakes, renewing, resting, settled_row}
use Rattle.osd_invariants.specs.Sound.{IsStored}
use Rattle.osd_invariants.proofs.Kept.{wake_keeps}
use Rattle.osd_invariants.proofs.StripedAsks.{striped_outcome}
use Rattle.lease_runs.proofs.Bare.{both_bare, each_told, untold, map_all}
use Rattle.lease_runs.proofs.PrimaryBare.{served_bare, drawn_bare, follow_bare, hears_bare, wakes_bare}

-- Overdue.

deadlines_show : (site : Site) (s : FileState) (t : Option Tenure) → ShowsRow (deadlines_under site s t) (stays_so (lease_row_of s))
deadlines_show site s None = record { row = refl; outs = refl; ends = refl }
deadlines_show site s (Some t) =
    let answer = reply.NoMajority (have_in t.peers t.progress) (majority_among t.peers) in
    let due = filter (is_due site.now) s.asks.waiting in
    record {
      row = refl;
      outs = both_bare (tells_each site.node s.kept.file due answer) (tells_untold site.node s.kept.file (newly_due site.now s.asks.issued) answer)
          (each_told site.node s.kept.file due answer) (untold site.node s.kept.file (newly_due site.now s.asks.issued) answer);
      ends = refl;
    }

all_told : (site : Site) (s : FileState) → ShowsRow (no_lease_for_all site s) (stays_so (lease_row_of s))
all_told site s =
    let answer = reply.NoLease s.last_end in
    record {
      row = refl;
      outs = both_bare (tells_untold site.node s.kept.file s.asks.issued answer) (tells_each site.node s.kept.file s.asks.waiting answer) (untold site.node s.kept.file s.asks.issued (reply.NoLease s.last_end)) (each_told site.node s.kept.file s.asks.waiting (reply.NoLease s.last_end));
      ends = refl;
    }

became_shows : (site : Site) (s : FileState) (before after : LeaseState) → ShowsRow (lease_became site s before after) (stays_so (lease_row_of s))
became_shows site s (held h) (free p) = let q = all_told site (record s { primary = idle s.primary }) in record { row = q.row; outs = q.outs; ends = q.ends }
became_shows site s (asking r) (free p) = all_told site s
became_shows site s (writing r) (free p) = all_told site s
became_shows site s (held h) (asking r) = deadlines_show site s s.primary.tenure
became_shows site s (held h) (writing r) = deadlines_show site s s.primary.tenure
became_shows site s (held h) (held k) = deadlines_show site s s.primary.tenure
became_shows site s (asking r) (asking q) = deadlines_show site s s.primary.tenure
became_shows site s (asking r) (writing q) = deadlines_show site s s.primary.tenure
became_shows site s (asking r) (held q) = deadlines_show site s s.primary.tenure
became_shows site s (writing r) (asking q) = deadlines_show site s s.primary.tenure
became_shows site s (writing r) (writing q) = deadlines_show site s s.primary.tenure
became_shows site s (writing r) (held q) = deadlines_show site s s.primary.tenure
became_shows site s (free p) after = deadlines_show site s s.primary.tenure

pub expired_shows : (site : Site) (s : FileState) → ShowsRow (expired site s) (stays_so (settled_row site s))
unfolding expired
expired_shows site s =
    let after = lease_expired s.lease site.now in
    became_shows site (record s { lease = after }) s.lease after

deadlines_keep : (site : Site) (s : FileState) (t : Option Tenure) → (deadlines_under site s t).state.kept ≡ s.kept
deadlines_keep site s None = refl
deadlines_keep site s (Some t) = refl

became_keeps : (site : Site) (s : FileState) (before after : LeaseState) → (lease_became site s before after).state.kept ≡ s.kept
became_keeps site s (held h) (free p) = refl
became_keeps site s (asking r) (free p) = refl
became_keeps site s (writing r) (free p) = refl
became_keeps site s (held h) (asking r) = deadlines_keep site s s.primary.tenure
became_keeps site s (held h) (writing r) = deadlines_keep site s s.primary.tenure
became_keeps site s (held h) (held k) = deadlines_keep site s s.primary.tenure
became_keeps site s (asking r) (asking q) = deadlines_keep site s s.primary.tenure
became_keeps site s (asking r) (writing q) = deadlines_keep site s s.primary.tenure
became_keeps site s (asking r) (held q) = deadlines_keep site s s.primary.tenure
became_keeps site s (writing r) (asking q) = deadlines_keep site s s.primary.tenure
became_keeps site s (writing r) (writing q) = deadlines_keep site s s.primary.tenure
became_keeps site s (writing r) (held q) = deadlines_keep site s s.primary.tenure
became_keeps site s (free p) after = deadlines_keep site s s.primary.tenure

pub expired_keeps : (site : Site) (s : FileState) → (expired site s).state.kept ≡ s.kept
unfolding expired
expired_keeps site s =
    let after = lease_expired s.lease site.now in
    became_keeps site (record s { lease = after }) s.lease after

-- Asks.

abbrev AsksOf : Site → FileState → LeaseState → NodeId → Payload → FileStep → Type 0
AsksOf site s l from content step = Follows s.kept.file site (lease_row_of s) l from content step

choice : (file : FileId) (site : Site) (x : LeaseRow) (l : LeaseState) (from : NodeId) (content : Payload) (b : Bool) {first second : FileStep}
    → Follows file site x l from content first → Follows file site x l from content second → Follows file site x l from content (cond b first second)
choice file site x l from content true p q = p
choice file site x l from content false p q = q

round_follows : (site : Site) (s : FileState) (p : Proposer) (ask : WaitingAsk) (from : NodeId) (content : Payload)
    → is_ask content ≡ true → IsStored s.kept.location → AsksOf site s (free p) from content (round_for site s p ask)
round_follows site s p ask from content is stored =
    choice s.kept.file site (lease_row_of s) (free p) from content (can_ask p)
    (asks is stored (record {
      row = refl;
      outs = map_all (λ to. message site.node to (payload.Read s.kept.file (round_starts p site.now (members_of s.kept.location)).ballot)) (members_of s.kept.location) (λ to. refl);
      ends = refl;
    }))
    (stays (record { row = refl; outs = refl; ends = refl }))

without_follows : (site : Site) (s : FileState) (p : Proposer) (ask : WaitingAsk) (answer : Option Reply) (from : NodeId) (content : Payload)
    → is_ask content ≡ true → IsStored s.kept.location → AsksOf site s (free p) from content (ask_without_lease site s p ask answer)
without_follows site s p ask (Some answer) from content is stored = stays (record { row = refl; outs = refl; ends = refl })
without_follows site s p ask None from content is stored = round_follows site s p ask from content is stored

under_follows : (site : Site) (s : FileState) (l : LeaseState) (ask : WaitingAsk) (from : NodeId) (content : Payload)
    → is_ask content ≡ true → IsStored s.kept.location → AsksOf site s l from content (ask_under site s l ask)
under_follows site s (held h) ask from content is stored =
    let q = served_bare (ground_of site s) (record { primary = s.primary; asks = s.asks; turned = quiet }) ask (waits s.asks ask) (record { outs = refl; ends = refl }) in
    choice s.kept.file site (lease_row_of s) (held h) from content (is_active s.primary.tenure)
    (stays (record { row = refl; outs = q.outs; ends = q.ends }))
    (stays (record { row = refl; outs = refl; ends = refl }))
under_follows site s (asking r) ask from content is stored = stays (record { row = refl; outs = refl; ends = refl })
under_follows site s (writing r) ask from content is stored = stays (record { row = refl; outs = refl; ends = refl })
under_follows site s (free p) ask from content is stored = without_follows site s p ask (elsewhere site s.acceptor.accepted) from content is stored

rows_follow : (site : Site) (s : FileState) (ask : WaitingAsk) (from : NodeId) (content : Payload) → is_ask content ≡ true → IsStored s.kept.location → AsksOf site s s.lease from content (ask_rows site s ask)
rows_follow site s ask from content is stored =
    choice s.kept.file site (lease_row_of s) s.lease from content (asked_already s.asks ask.id)
    (stays (record { row = refl; outs = refl; ends = refl })) (under_follows site s s.lease ask from content is stored)

view_keeps : (s : FileState) (location : Location) (stored : Option Location) → (kept_after s.kept (view_record s location stored)).file ≡ s.kept.file
view_keeps s location None = refl
view_keeps s location (Some stored) = refl

view_stores : (s : FileState) (location : Location) (stored : Option Location) → s.kept.location ≡ stored → IsStored (kept_after s.kept (view_record s location stored)).location
view_stores s location None is = tt
view_stores s location (Some stored) is = subst IsStored (sym is) tt

-- a step after one that shows nothing
shown_after : (first : FileStep) (rows : FileState → FileStep) (r : RowStep) → IsBare first.turned → ShowsRow (rows first.state) r → ShowsRow (and_then first rows) r
shown_after first rows r bare p =
    let rest = rows first.state in
    record {
      row = p.row;
      outs = filter-append is_lease_or_ask first.turned.outs rest.turned.outs ∙ ap (λ ms. ms ++ leases_and_asks rest.turned.outs) bare.outs ∙ p.outs;
      ends = filter_map-append held_end first.turned.marks rest.turned.marks ∙ ap (λ told. told ++ held_ends rest.turned.marks) bare.ends ∙ p.ends;
    }

after_bare : (file : FileId) (site : Site) (x : LeaseRow) (l : LeaseState) (from : NodeId) (content : Payload) (first : FileStep) (rows : FileState → FileStep)
    → IsBare first.turned → Follows file site x l from content (rows first.state) → Follows file site x l from content (and_then first rows)
after_bare file site x l from content first rows bare (handles p) = handles (shown_after first rows _ bare p)
after_bare file site x l from content first rows bare (asks is stored p) = asks is stored (shown_after first rows _ bare p)
after_bare file site x l from content first rows bare (stays p) = stays (shown_after first rows _ bare p)

let_in_follows : (site : Site) (s : FileState) (id : OpId) (capability : Capability) (asked : Op) (refusal : Option Reply) (from : NodeId) (content : Payload)
    → is_ask content ≡ true → AsksOf site s s.lease from content (ask_let_in site s id capability asked refusal)
let_in_follows site s id capability asked (Some answer) from content is = stays (record { row = refl; outs = refl; ends = refl })
let_in_follows site s id capability asked None from content is =
    let first = steps_to (record s { used = site.now }) (keeps (view_record s capability.location s.kept.location)) in
    let ask = waiting_ask site id capability.epoch asked in
    after_bare s.kept.file site (lease_row_of s) s.lease from content first (λ state. ask_rows site state ask) (record { outs = refl; ends = refl })
    (subst (λ file. Follows file site (lease_row_of s) s.lease from content (ask_rows site first.state ask))
    (view_keeps s capability.location s.kept.location) (rows_follow site first.state ask from content is (view_stores s capability.location s.kept.location refl)))

kind_follows : (site : Site) (s : FileState) (k : Kind) (id : OpId) (capability : Capability) (asked : Op) (from : NodeId) (content : Payload)
    → is_ask content ≡ true → AsksOf site s s.lease from content (ask_comes site s k id capability asked)
unfolding handle_ask
kind_follows site s kind.Replicated id capability asked from content is =
    let_in_follows site s id capability asked (refusal_of site s.kept.location capability asked) from content is
kind_follows site s kind.Striped id capability asked from content is =
    stays (record {
      row = refl;
      outs = striped_outcome (λ (acted : Acted). leases_and_asks (if_any site.node id.client acted.answer) ≡ []) site s.kept id capability asked
          (record { nothing = refl; tells = λ answer. refl; keeps = λ update is. refl });
      ends = refl;
    })

-- The register.

read_shows : (site : Site) (s : FileState) (location : Option Location) (from : NodeId) (ballot : Ballot) (file : FileId)
    → ShowsRow (read_comes site s from ballot) (row_handles (lease_setting site s.kept.file location) site.node site.now (lease_row_of s) from (payload.Read file ballot))
unfolding read_comes
read_shows site s location from ballot file = record { row = refl; outs = answered (on_read s.acceptor ballot).answer; ends = refl }
  where
    answered : (a : ReadAnswer)
        → leases_and_asks (message site.node from (answer_to_read s.kept.file s.acceptor.boot ballot a) ∷ [])
        ≡ read_answer (lease_setting site s.kept.file location) site.node s.acceptor.boot from ballot a
    answered (promise report) = refl
    answered (read_refused seen) = refl

same_boot : (a b : Boot) → a.0 ≡ b.0 → a ≡ b
same_boot a b is = ap (λ (n : ℕ). let m : Boot = record { 0 = n } in m) is

answers_show : (site : Site) (s : FileState) (location : Option Location) (from : NodeId) (ballot : Ballot) (boot : Boot) (a : WriteAnswer) → s.acceptor.boot ≡ boot
    → leases_and_asks (answers_to_write site s from ballot boot a) ≡ write_answer (lease_setting site s.kept.file location) site.node s.acceptor.boot from ballot a
answers_show site s location from ballot boot accepted is = ap (λ (b : Boot). message site.node from (payload.Accepted s.kept.file ballot b) ∷ []) (sym is)
answers_show site s location from ballot boot (write_refused seen) is = refl
answers_show site s location from ballot boot other_boot is = refl

written_shows : (site : Site) (s : FileState) (location : Option Location) (from : NodeId) (ballot : Ballot) (boot : Boot) (w : Write) (here : Bool)
    → (here ≡ true → s.acceptor.boot ≡ boot)
    → leases_and_asks (answers_to_write site s from ballot boot (cond here w (write_other_boot s.acceptor)).answer)
    ≡ write_answer (lease_setting site s.kept.file location) site.node s.acceptor.boot from ballot (cond here w (write_other_boot s.acceptor)).answer
written_shows site s location from ballot boot w true same = answers_show site s location from ballot boot w.answer (same refl)
written_shows site s location from ballot boot w false same = refl

is_number : (a b : ℕ) → (a == b) ≡ true → a ≡ b
is_number a b is = grind (arith, nat_tests)

write_shows : (site : Site) (s : FileState) (location : Option Location) (from : NodeId) (ballot : Ballot) (boot : Boot) (l : Lease) (file : FileId)
    → ShowsRow (write_comes site s from ballot boot l) (row_handles (lease_setting site s.kept.file location) site.node site.now (lease_row_of s) from (payload.Write file ballot boot l))
unfolding write_comes
write_shows site s location from ballot boot l file =
    record {
      row = refl;
      outs = written_shows site s location from ballot boot (write_under s.acceptor.promised s.acceptor ballot l) (s.acceptor.boot.0 == boot.0)
          (λ is. same_boot s.acceptor.boot boot (is_number s.acceptor.boot.0 boot.0 is));
      ends = refl;
    }

-- The lease.

-- nothing changes of the lease
record IsCalm (s : FileState) (step : FileStep) : Type 0 where
  row : lease_row_of step.state ≡ lease_row_of s
  outs : leases_and_asks step.turned.outs ≡ []
  ends : held_ends step.turned.marks ≡ []

led_calm : (site : Site) (s : FileState) (t : Option Tenure) → IsCalm s (led_on site s t)
led_calm site s (Some t) = record { row = refl; outs = refl; ends = refl }
led_calm site s None =
    let q = drawn_bare (ground_of site s).place s.primary.learnt s.kept.head (members_of s.kept.location) in
    record { row = refl; outs = q.outs; ends = q.ends }

told_calm : (site : Site) (s : FileState) (answer : Reply) → IsCalm s (answer_waiting site s answer)
told_calm site s answer = record { row = refl; outs = each_told site.node s.kept.file s.asks.waiting answer; ends = refl }

either_calm : (s : FileState) (b : Bool) (x y : FileStep) → IsCalm s x → IsCalm s y → IsCalm s (cond b x y)
either_calm s true x y p q = p
either_calm s false x y p q = q

-- the row of a state, with the messages and the end that come of news
abbrev news_row : Site → FileState → Option Location → LeaseNews → RowStep
news_row site s location news =
    record { row = lease_row_of s; outs = news_outs (lease_setting site s.kept.file location) site.node news; end = news_end news }

news_shows : (site : Site) (s : FileState) (location : Option Location) (news : LeaseNews) → ShowsRow (lease_news site s news) (news_row site s location news)
news_shows site s location lease.nothing = record { row = refl; outs = refl; ends = refl }
news_shows site s location (sends_write ballot l targets) =
    record {
      row = refl;
      outs = map_all (λ (t : NodeId × Boot). message site.node t.0 (payload.Write s.kept.file ballot t.1 l)) targets (λ t. refl);
      ends = refl;
    }
news_shows site s location (holds end) =
    let q = led_calm site (record s { last_end = end }) s.primary.tenure in
    record { row = q.row; outs = q.outs; ends = ap (λ told. end ∷ told) q.ends }
news_shows site s location (finds l) =
    let q = either_calm s (l.node.0 == site.node.0) (answer_waiting site s (reply.NoLease s.last_end)) (answer_waiting site s (reply.Elsewhere l.node l.end))
    (told_calm site s (reply.NoLease s.last_end)) (told_calm site s (reply.Elsewhere l.node l.end)) in
    record { row = q.row; outs = q.outs; ends = q.ends }
news_shows site s location ends = let q = told_calm site s (reply.NoLease s.last_end) in record { row = q.row; outs = q.outs; ends = q.ends }

abbrev answer_row : Site → FileState → Option Location → NodeId → Payload → RowStep
answer_row site s location from content =
    let step = on_answer s.lease site.now from content in
    record { row = record { acceptor = s.acceptor; lease = step.state }; outs = news_outs (lease_setting site s.kept.file location) site.node step.news; end = news_end step.news }

answer_shows : (site : Site) (s : FileState) (location : Option Location) (from : NodeId) (content : Payload)
    → ShowsRow (answer_comes site s from content) (answer_row site s location from content)
unfolding answer_comes
answer_shows site s location from content =
    let step = on_answer s.lease site.now from content in
    news_shows site (record s { lease = step.state; last_end = end_after_answer site s from content }) location step.news

-- The replica and the primary.

-- an answer that isn't about leases
abbrev IsPlain : Option Payload → Type 0
IsPlain answer = (from to : NodeId) → leases_and_asks (if_any from to answer) ≡ []

either_plain : (b : Bool) (x y : Acted) → IsPlain x.answer → IsPlain y.answer → IsPlain (cond b x y).answer
either_plain true x y p q = p
either_plain false x y p q = q

promised_plain : (file : FileId) (own : FileHead) (epoch : Epoch) (row : Acted) → IsPlain row.answer → IsPlain (as_promised file own epoch row).answer
promised_plain file own epoch row p =
    either_plain (is_earlier epoch own.promised) _ _ (λ from to. refl) (either_plain (is_earlier own.promised epoch) _ _ (λ from to. refl) p)

gathered_plain : (file : FileId) (own : FileHead) (epoch : Epoch) → IsPlain (gathered file own epoch).answer
unfolding gathered
gathered_plain file own epoch =
    either_plain (is_earlier epoch own.promised) _ _ (λ from to. refl) (either_plain (is_earlier own.promised epoch) _ _ (λ from to. refl) (λ from to. refl))

staged_plain : (file : FileId) (own : FileHead) (held_here : List ObjectVersion) (epoch : Epoch) (object : ℕ) (version : Stamp) (bytes : List ℕ)
    → IsPlain (staged file own held_here epoch object version bytes).answer
unfolding staged
staged_plain file own held_here epoch object version bytes = promised_plain file own epoch _ (λ from to. refl)

taken_plain : (file : FileId) (epoch : Epoch) (head : FileHead) (lacks : Option ObjectVersion) → IsPlain (head_taken file epoch head lacks).answer
taken_plain file epoch head None = λ from to. refl
taken_plain file epoch head (Some v) = λ from to. refl

headed_plain : (file : FileId) (own : FileHead) (held_here : List ObjectVersion) (epoch : Epoch) (head : FileHead) → IsPlain (headed file own held_here epoch head).answer
unfolding headed
headed_plain file own held_here epoch head =
    either_plain (is_epoch head.promised epoch && is_epoch head.stamp.epoch epoch) _ _
    (promised_plain file own epoch _ (either_plain (is_below own.stamp head.stamp) _ _ (taken_plain file epoch head (first_missing held_here head.versions)) (λ from to. refl)))
    (λ from to. refl)

updated_plain : (file : FileId) (own : FileHead) (update : Update) → IsPlain (updated file own update).answer
unfolding updated
updated_plain file own update =
    promised_plain file own update.stamp.epoch _
    (either_plain (not (is_epoch own.stamp.epoch update.stamp.epoch)) _ _ (λ from to. refl)
    (either_plain (nat_le update.stamp.count own.stamp.count) _ _ (λ from to. refl)
    (either_plain (update.stamp.count == own.stamp.count + 1) _ _
    (either_plain (head_fits (head_after own update)) _ _ (λ from to. refl) (λ from to. refl)) (λ from to. refl))))

fetched_plain : (site : Site) (s : FileState) (from : NodeId) (epoch : Epoch) (object : ℕ) (version : Stamp)
    → leases_and_asks (message site.node from (fetched_from s.kept.file s.kept.held (site.body s.kept.file) epoch object version) ∷ []) ≡ []
unfolding fetched_from
fetched_plain site s from epoch object version = one_of (has_version s.kept.held (body_of object version))
  where
    one_of : (b : Bool) → leases_and_asks (message site.node from (cond b (payload.Object s.kept.file epoch object version (site.body s.kept.file object version)) (payload.Missing s.kept.file epoch object version)) ∷ []) ≡ []
    one_of true = refl
    one_of false = refl

primary_calm : (site : Site) (s : FileState) (l : LeaseState) (from : NodeId) (content : Payload) → IsCalm s (primary_hears site s l from content)
primary_calm site s (held h) from content =
    let g = ground_of site s in
    let q = follow_bare g s.primary.tenure s.asks (hears g s.primary from content) (hears_bare g s.primary from content) in
    record { row = refl; outs = q.outs; ends = q.ends }
primary_calm site s (free p) from content = record { row = refl; outs = refl; ends = refl }
primary_calm site s (asking r) from content = record { row = refl; outs = refl; ends = refl }
primary_calm site s (writing r) from content = record { row = refl; outs = refl; ends = refl }

-- Messages.

calmly : (site : Site) (s : FileState) (from : NodeId) (content : Payload) (step : FileStep) → IsCalm s step → AsksOf site s s.lease from content step
calmly site s from content step q = stays (record { row = q.row; outs = q.outs; ends = q.ends })

message_follows : (site : Site) (s : FileState) (from : NodeId) (content : Payload) → AsksOf site s s.lease from content (message_comes site s from content)
message_follows site s from (payload.Ask number capability asked) =
    kind_follows site s capability.location.kind (record { client = from; number = number }) capability asked from (payload.Ask number capability asked) refl
message_follows site s from (payload.Read file ballot) = handles (read_shows site s (message_comes site s from (payload.Read file ballot)).state.kept.location from ballot file)
message_follows site s from (payload.Write file ballot boot l) = handles (write_shows site s (message_comes site s from (payload.Write file ballot boot l)).state.kept.location from ballot boot l file)
message_follows site s from (payload.Promise file ballot boot report) = handles (let q = answer_shows site s (message_comes site s from (payload.Promise file ballot boot report)).state.kept.location from (payload.Promise file ballot boot report) in record { row = q.row; outs = q.outs; ends = q.ends })
message_follows site s from (payload.Accepted file ballot boot) = handles (let q = answer_shows site s (message_comes site s from (payload.Accepted file ballot boot)).state.kept.location from (payload.Accepted file ballot boot) in record { row = q.row; outs = q.outs; ends = q.ends })
message_follows site s from (payload.Outrun file ballot seen) = handles (let q = answer_shows site s (message_comes site s from (payload.Outrun file ballot seen)).state.kept.location from (payload.Outrun file ballot seen) in record { row = q.row; outs = q.outs; ends = q.ends })
message_follows site s from (payload.Gather file epoch) =
    stays (record { row = refl; outs = gathered_plain s.kept.file s.kept.head epoch site.node from; ends = refl })
message_follows site s from (payload.Fetch file epoch object version) =
    stays (record { row = refl; outs = fetched_plain site s from epoch object version; ends = refl })
message_follows site s from (payload.Stage file epoch object version bytes) =
    stays (record { row = refl; outs = staged_plain s.kept.file s.kept.head s.kept.held epoch object version bytes site.node from; ends = refl })
message_follows site s from (payload.Head file epoch head) =
    stays (record { row = refl; outs = headed_plain s.kept.file s.kept.head s.kept.held epoch head site.node from; ends = refl })
message_follows site s from (payload.Update file update) =
    stays (record { row = refl; outs = updated_plain s.kept.file s.kept.head update site.node from; ends = refl })
message_follows site s from content = calmly site s from content _ (primary_calm site s s.lease from content)

pub step_follows : (site : Site) (s : FileState) (from : NodeId) (content : Payload)
    → Follows s.kept.file site (settled_row site s) (settled_row site s).lease from content (step_of_file site s from content)
unfolding step_of_file
step_follows site s from content =
    let first = expired site s in
    let q = expired_shows site s in
    after_bare s.kept.file site (settled_row site s) (settled_row site s).lease from content first (λ state. message_comes site state from content)
    (record { outs = q.outs; ends = q.ends })
    (subst (λ file. Follows file site (settled_row site s) (settled_row site s).lease from content (message_comes site first.state from content))
    (ap (λ (row : FileRow). row.file) (expired_keeps site s))
    (subst (λ (x : LeaseRow). Follows first.state.kept.file site x x.lease from content (message_comes site first.state from content)) q.row
    (message_follows site first.state from content)))

-- Wakes.

choice_of_wake : (file : FileId) (site : Site) (x : LeaseRow) (l : LeaseState) (b : Bool) (first second : FileStep)
    → Wakes file site x l first → Wakes file site x l second → Wakes file site x l (cond b first second)
choice_of_wake file site x l true first second p q = p
choice_of_wake file site x l false first second p q = q

renews_wakes : (site : Site) (s : FileState) (h : Held) → Wakes s.kept.file site (lease_row_of s) (held h) (renews site s h)
renews_wakes site s h =
    choice_of_wake s.kept.file site (lease_row_of s) (held h) (is_renewal_due h site.now s.used) _ _
    (renewing tt (record {
      row = refl;
      outs = map_all (λ to. message site.node to (payload.Read s.kept.file (round_starts h.proposer site.now (members_of s.kept.location)).ballot)) (members_of s.kept.location) (λ to. refl);
      ends = refl;
    }))
    (resting (record { row = refl; outs = refl; ends = refl }))

pub wake_after : (file : FileId) (site : Site) (x : LeaseRow) (l : LeaseState) (first : FileStep) (rows : FileState → FileStep)
    → IsBare first.turned → Wakes file site x l (rows first.state) → Wakes file site x l (and_then first rows)
wake_after file site x l first rows bare (renewing is p) = renewing is (shown_after first rows _ bare p)
wake_after file site x l first rows bare (resting p) = resting (shown_after first rows _ bare p)

under_wakes : (site : Site) (s : FileState) (l : LeaseState) → Wakes s.kept.file site (lease_row_of s) l (wakes_under_lease site s l)
under_wakes site s (held h) =
    let woke = wakes (ground_of site s).place s.primary in
    let first = steps_to s woke in
    wake_after s.kept.file site (lease_row_of s) (held h) first (λ state. renews site state h) (wakes_bare (ground_of site s).place s.primary)
    (subst (λ (file : FileId). Wakes file site (lease_row_of s) (held h) (renews site first.state h))
    (ap (λ rec. (kept_after s.kept rec).file) (wake_keeps (ground_of site s).place s.primary)) (renews_wakes site first.state h))
under_wakes site s (free p) = resting (record { row = refl; outs = refl; ends = refl })
under_wakes site s (asking r) = resting (record { row = refl; outs = refl; ends = refl })
under_wakes site s (writing r) = resting (record { row = refl; outs = refl; ends = refl })

pub wake_wakes : (site : Site) (s : FileState) → Wakes s.kept.file site (lease_row_of s) s.lease (wake_of_file site s)
unfolding wake_of_file
wake_wakes site s = under_wakes site s s.lease
