-- what the steps of a file mark and record
use Rattle.std.proofs.Common.{◌≡◌, ℕ, refl, ap, sym, subst, ◌∙◌, List, [], ◌∷◌, ◌++◌, Bool, true, false}
use Rattle.std.specs.Prelude.{Option, Some, None, cond, not, ◌&&◌, ◌==◌, ◌+◌, nat_lt, nat_le}
use Rattle.xt_base.specs.declared.ids.NodeId.{NodeId}
use Rattle.xt_base.specs.declared.ids.FileId.{FileId}
use Rattle.xt_base.specs.declared.ids.OpId.{OpId}
use Rattle.xt_base.specs.declared.ids.Epoch.{Epoch}
use Rattle.xt_base.specs.declared.ids.Stamp.{Stamp}
use Rattle.xt_messages.specs.declared.file.Kind.{Kind}
use Rattle.xt_messages.specs.declared.file.Kind.TheVariants as kind
use Rattle.xt_messages.specs.declared.file.Location.{Location}
use Rattle.xt_messages.specs.declared.file.Capability.{Capability}
use Rattle.xt_messages.specs.declared.file.FileHead.{FileHead}
use Rattle.xt_messages.specs.declared.file.ObjectVersion.{ObjectVersion}
use Rattle.xt_messages.specs.declared.file.Update.{Update}
use Rattle.xt_messages.specs.declared.file.Op.{Op}
use Rattle.xt_messages.specs.declared.reply.Reply.{Reply}
use Rattle.xt_messages.specs.declared.reply.Reply.TheVariants as reply
use Rattle.xt_messages.specs.declared.message.Payload.{Payload}
use Rattle.xt_messages.specs.declared.message.Payload.TheVariants as payload
use Rattle.xt_messages.specs.declared.event.Mark.{Mark}
use Rattle.xt_messages.specs.declared.event.Mark.TheVariants as mark
use Rattle.xt_messages.specs.declared.record.Record.{Record}
use Rattle.xt_messages.specs.declared.record.FileRow.{FileRow}
use Rattle.xt_protocol.specs.Heads.{head_after}
use Rattle.xt_protocol.specs.LeaseRows.{LeaseState, LeaseNews, Proposer, Held, free, asking, writing, held, sends_write, holds, finds, ends, lease_expired, on_answer, can_ask, is_renewal_due}
use Rattle.xt_protocol.specs.LeaseRows as lease
use Rattle.xt_protocol.specs.Stamps.{is_epoch, is_earlier, is_below}
use Rattle.xt_protocol.specs.declared.states.Acted.{Acted}
use Rattle.xt_protocol.specs.declared.states.Place.{Place}
use Rattle.xt_protocol.specs.declared.states.Progress.{Progress}
use Rattle.xt_protocol.specs.declared.states.Progress.TheVariants as progress
use Rattle.xt_protocol.specs.declared.states.PrimaryState.{PrimaryState}
use Rattle.xt_protocol.specs.declared.states.Tenure.{Tenure}
use Rattle.xt_protocol.specs.declared.states.WaitingAsk.{WaitingAsk}
use Rattle.xt_protocol.specs.Turns.{keeps, quiet, the_record}
use Rattle.xt_protocol.specs.ReplicaRows.{gathered, staged, headed, updated, as_promised, head_taken, head_offered, update_offered, first_missing, head_fits, stage_record, kept_after}
use Rattle.xt_base.specs.declared.TheConstants.{COUNTS}
use Rattle.lease_runs.specs.LeaseWorld.{LeaseRow}
use Rattle.xt_protocol.specs.Primaries.{Led, is_active}
use Rattle.xt_protocol.specs.PrimaryRows.{draw_epoch, epoch_above, hears}
use Rattle.xt_protocol.specs.Serving.{wakes, wakes_in, wakes_under}
use Rattle.xt_protocol.specs.Asks.{asked_already, waits}
use Rattle.xt_protocol.specs.FileStates.{FileState, Site, FileStep, and_then, steps_to, ground_of, members_of}
use Rattle.xt_protocol.specs.Overdue.{expired, lease_became, deadlines_under}
use Rattle.xt_protocol.specs.AskRows.{handle_ask, ask_let_in, ask_rows, ask_under, ask_without_lease, refusal_of, elsewhere, view_record, waiting_ask}
use Rattle.xt_protocol.specs.OsdSteps.{each_file, woken}
use Rattle.xt_protocol.specs.FileLeases.{read_comes, write_comes, answer_comes, end_after_answer, lease_news, led_on, answer_waiting}
use Rattle.xt_protocol.specs.FileSteps.{step_of_file, message_comes, ask_comes, primary_hears, renews, wakes_under_lease, wake_of_file}
use Rattle.osd_invariants.proofs.Kept.{wake_keeps, wake_follows, expired_quiet}
use Rattle.osd_invariants.proofs.StripedAsks.{striped_outcome}
use Rattle.lease_runs.specs.LeaseView.{settled_row}
use Rattle.lease_runs.specs.OsdView.{wake_step}
use Rattle.lease_runs.specs.ActsView.{IsBusy, MarksAre, no_marks, won, acting, RecordIs}
use Rattle.lease_runs.proofs.LeaseSteps.{expired_shows, expired_keeps}
use Rattle.lease_runs.proofs.PrimaryActs.{IsData, drawn_acts, stage_data, served_acts, follow_acts, hears_acts}

-- ---- overdue

deadlines_marks : (site : Site) (s : FileState) (t : Option Tenure) → (deadlines_under site s t).turned.marks ≡ []
deadlines_marks site s None = refl
deadlines_marks site s (Some t) = refl

became_marks : (site : Site) (s : FileState) (before after : LeaseState) → (lease_became site s before after).turned.marks ≡ []
became_marks site s (held h) (free p) = refl
became_marks site s (asking r) (free p) = refl
became_marks site s (writing r) (free p) = refl
became_marks site s (held h) (asking r) = deadlines_marks site s s.primary.tenure
became_marks site s (held h) (writing r) = deadlines_marks site s s.primary.tenure
became_marks site s (held h) (held k) = deadlines_marks site s s.primary.tenure
became_marks site s (asking r) (asking q) = deadlines_marks site s s.primary.tenure
became_marks site s (asking r) (writing q) = deadlines_marks site s s.primary.tenure
became_marks site s (asking r) (held q) = deadlines_marks site s s.primary.tenure
became_marks site s (writing r) (asking q) = deadlines_marks site s s.primary.tenure
became_marks site s (writing r) (writing q) = deadlines_marks site s s.primary.tenure
became_marks site s (writing r) (held q) = deadlines_marks site s s.primary.tenure
became_marks site s (free p) after = deadlines_marks site s s.primary.tenure

pub expired_marks : (site : Site) (s : FileState) → (expired site s).turned.marks ≡ []
unfolding expired
expired_marks site s = let after = lease_expired s.lease site.now in became_marks site (record s { lease = after }) s.lease after

-- ---- marks

abbrev Marked : FileState → LeaseState → FileStep → Type 0
Marked s l step = MarksAre s.kept.file l step.turned.marks

choice : (file : FileId) (l : LeaseState) (b : Bool) (x y : FileStep) → MarksAre file l x.turned.marks → MarksAre file l y.turned.marks → MarksAre file l (cond b x y).turned.marks
choice file l true x y p q = p
choice file l false x y p q = q

without_marks : (site : Site) (s : FileState) (p : Proposer) (ask : WaitingAsk) (answer : Option Reply) → Marked s (free p) (ask_without_lease site s p ask answer)
without_marks site s p ask (Some answer) = no_marks refl
without_marks site s p ask None = choice s.kept.file (free p) (can_ask p) _ _ (no_marks refl) (no_marks refl)

under_marks : (site : Site) (s : FileState) (l : LeaseState) (ask : WaitingAsk) → Marked s l (ask_under site s l ask)
under_marks site s (held h) ask =
    choice s.kept.file (held h) (is_active s.primary.tenure) _ _
    (acting tt (served_acts (ground_of site s) (record { primary = s.primary; asks = s.asks; turned = quiet }) ask (waits s.asks ask) (record { marks = tt; plain = λ c. tt })).marks) (no_marks refl)
under_marks site s (asking r) ask = no_marks refl
under_marks site s (writing r) ask = no_marks refl
under_marks site s (free p) ask = without_marks site s p ask (elsewhere site s.acceptor.accepted)

rows_marks : (site : Site) (s : FileState) (ask : WaitingAsk) → Marked s s.lease (ask_rows site s ask)
rows_marks site s ask = choice s.kept.file s.lease (asked_already s.asks ask.id) _ _ (no_marks refl) (under_marks site s s.lease ask)

view_keeps : (s : FileState) (location : Location) (stored : Option Location) → (kept_after s.kept (view_record s location stored)).file ≡ s.kept.file
view_keeps s location None = refl
view_keeps s location (Some stored) = refl

let_in_marks : (site : Site) (s : FileState) (id : OpId) (capability : Capability) (asked : Op) (refusal : Option Reply) → Marked s s.lease (ask_let_in site s id capability asked refusal)
let_in_marks site s id capability asked (Some answer) = no_marks refl
let_in_marks site s id capability asked None =
    let first = steps_to (record s { used = site.now }) (keeps (view_record s capability.location s.kept.location)) in
    let ask = waiting_ask site id capability.epoch asked in
    subst (λ file. MarksAre file s.lease (ask_rows site first.state ask).turned.marks) (view_keeps s capability.location s.kept.location) (rows_marks site first.state ask)

kind_marks : (site : Site) (s : FileState) (k : Kind) (id : OpId) (capability : Capability) (asked : Op) → Marked s s.lease (ask_comes site s k id capability asked)
unfolding handle_ask
kind_marks site s kind.Replicated id capability asked = let_in_marks site s id capability asked (refusal_of site s.kept.location capability asked)
kind_marks site s kind.Striped id capability asked = no_marks refl

drawn_marks : (place : Place) (learnt : ℕ) (own : FileHead) (members : List NodeId) → (draw_epoch place learnt own members).turned.marks ≡ []
unfolding draw_epoch
drawn_marks place learnt own members = one_of (nat_lt (epoch_above place learnt own).number COUNTS) _ _ refl refl
  where
    one_of : (b : Bool) (x y : Led) → x.turned.marks ≡ [] → y.turned.marks ≡ [] → (cond b x y).turned.marks ≡ []
    one_of true x y p q = p
    one_of false x y p q = q

led_on_marks : (site : Site) (s : FileState) (t : Option Tenure) → (led_on site s t).turned.marks ≡ []
led_on_marks site s (Some t) = refl
led_on_marks site s None = drawn_marks (ground_of site s).place s.primary.learnt s.kept.head (members_of s.kept.location)

news_marks : (site : Site) (s : FileState) (l : LeaseState) (news : LeaseNews) → IsBusy l → Marked s l (lease_news site s news)
news_marks site s l lease.nothing busy = no_marks refl
news_marks site s l (sends_write ballot x targets) busy = no_marks refl
news_marks site s l (holds end) busy = won end busy (ap (λ ms. lease_mark ∷ ms) (led_on_marks site (record s { last_end = end }) s.primary.tenure))
  where
    lease_mark : Mark
    lease_mark = mark.Held s.kept.file.number end
news_marks site s l (finds x) busy =
    choice s.kept.file l (x.node.0 == site.node.0) (answer_waiting site s (reply.NoLease s.last_end)) (answer_waiting site s (reply.Elsewhere x.node x.end))
    (no_marks refl) (no_marks refl)
news_marks site s l ends busy = no_marks refl

answer_marks : (site : Site) (s : FileState) (from : NodeId) (content : Payload) → Marked s s.lease (answer_comes site s from content)
unfolding answer_comes
answer_marks site s from content = at s.lease refl
  where
    after : LeaseState → FileStep
    after l = lease_news site (record s { lease = (on_answer l site.now from content).state; last_end = end_after_answer site s from content }) (on_answer l site.now from content).news

    by_news : (l : LeaseState) → IsBusy l → Marked s l (after l)
    by_news l busy = news_marks site (record s { lease = (on_answer l site.now from content).state; last_end = end_after_answer site s from content }) l (on_answer l site.now from content).news busy

    at : (l : LeaseState) → s.lease ≡ l → Marked s l (after l)
    at (free p) e = no_marks refl
    at (asking r) e = by_news (asking r) tt
    at (writing r) e = by_news (writing r) tt
    at (held h) e = by_news (held h) tt

primary_marks : (site : Site) (s : FileState) (l : LeaseState) (from : NodeId) (content : Payload) → Marked s l (primary_hears site s l from content)
primary_marks site s (held h) from content =
    let g = ground_of site s in
    acting tt (follow_acts g s.primary.tenure s.asks (hears g s.primary from content) (hears_acts g s.primary from content)).marks
primary_marks site s (free p) from content = no_marks refl
primary_marks site s (asking r) from content = no_marks refl
primary_marks site s (writing r) from content = no_marks refl

message_marks : (site : Site) (s : FileState) (from : NodeId) (content : Payload) → Marked s s.lease (message_comes site s from content)
unfolding read_comes write_comes
message_marks site s from (payload.Ask number capability asked) = kind_marks site s capability.location.kind (record { client = from; number = number }) capability asked
message_marks site s from (payload.Read file ballot) = no_marks refl
message_marks site s from (payload.Write file ballot boot l) = no_marks refl
message_marks site s from (payload.Promise file ballot boot report) = answer_marks site s from (payload.Promise file ballot boot report)
message_marks site s from (payload.Accepted file ballot boot) = answer_marks site s from (payload.Accepted file ballot boot)
message_marks site s from (payload.Outrun file ballot seen) = answer_marks site s from (payload.Outrun file ballot seen)
message_marks site s from (payload.Gather file epoch) = no_marks refl
message_marks site s from (payload.Fetch file epoch object version) = no_marks refl
message_marks site s from (payload.Stage file epoch object version bytes) = no_marks refl
message_marks site s from (payload.Head file epoch head) = no_marks refl
message_marks site s from (payload.Update file update) = no_marks refl
message_marks site s from content = primary_marks site s s.lease from content

after_none : (file : FileId) (l : LeaseState) (xs ys : List Mark) → xs ≡ [] → MarksAre file l ys → MarksAre file l (xs ++ ys)
after_none file l xs ys none are = subst (λ (zs : List Mark). MarksAre file l (zs ++ ys)) (sym none) are

pub step_marks : (site : Site) (s : FileState) (from : NodeId) (content : Payload)
    → MarksAre s.kept.file (settled_row site s).lease (step_of_file site s from content).turned.marks
unfolding step_of_file
step_marks site s from content =
    let first = expired site s in
    after_none s.kept.file (settled_row site s).lease first.turned.marks (message_comes site first.state from content).turned.marks (expired_marks site s)
    (subst (λ file. MarksAre file (settled_row site s).lease (message_comes site first.state from content).turned.marks)
    (ap (λ (row : FileRow). row.file) (expired_keeps site s))
    (subst (λ l. MarksAre first.state.kept.file l (message_comes site first.state from content).turned.marks)
    (ap (λ (x : LeaseRow). x.lease) (expired_shows site s).row)
    (message_marks site first.state from content)))

-- ---- records

either_is : (file : FileId) (content : Payload) (b : Bool) (x y : FileStep) → RecordIs file content x.turned.rec → RecordIs file content y.turned.rec → RecordIs file content (cond b x y).turned.rec
either_is file content true x y p q = p
either_is file content false x y p q = q

either_data : (file : FileId) (b : Bool) (x y : Acted) → IsData file x.rec → IsData file y.rec → IsData file (cond b x y).rec
either_data file true x y p q = p
either_data file false x y p q = q

promised_data : (file : FileId) (own : FileHead) (epoch : Epoch) (row : Acted) → IsData file row.rec → IsData file (as_promised file own epoch row).rec
promised_data file own epoch row p =
    either_data file (is_earlier epoch own.promised) _ _ (λ c. tt) (either_data file (is_earlier own.promised epoch) _ _ (λ c. tt) p)

gathered_data : (file : FileId) (own : FileHead) (epoch : Epoch) → IsData file (gathered file own epoch).rec
unfolding gathered
gathered_data file own epoch = either_data file (is_earlier epoch own.promised) _ _ (λ c. tt) (either_data file (is_earlier own.promised epoch) _ _ (λ c. refl) (λ c. tt))

staged_data : (file : FileId) (own : FileHead) (here : List ObjectVersion) (epoch : Epoch) (object : ℕ) (version : Stamp) (bytes : List ℕ) → IsData file (staged file own here epoch object version bytes).rec
unfolding staged
staged_data file own here epoch object version bytes =
    promised_data file own epoch (record { rec = stage_record file here object version bytes; answer = Some (payload.Staged file epoch object version) })
    (stage_data file here object version bytes)

taken_data : (file : FileId) (epoch : Epoch) (head : FileHead) (lacks : Option ObjectVersion) → IsData file (head_taken file epoch head lacks).rec
taken_data file epoch head None = λ c. refl
taken_data file epoch head (Some v) = λ c. tt

headed_data : (file : FileId) (own : FileHead) (here : List ObjectVersion) (epoch : Epoch) (head : FileHead) → IsData file (headed file own here epoch head).rec
unfolding headed
headed_data file own here epoch head =
    either_data file (is_epoch head.promised epoch && is_epoch head.stamp.epoch epoch) _ _
    (promised_data file own epoch (head_offered file own here epoch head)
    (either_data file (is_below own.stamp head.stamp) _ _ (taken_data file epoch head (first_missing here head.versions)) (λ c. tt))) (λ c. tt)

updated_data : (file : FileId) (own : FileHead) (update : Update) → IsData file (updated file own update).rec
unfolding updated
updated_data file own update =
    promised_data file own update.stamp.epoch (update_offered file own update)
    (either_data file (not (is_epoch own.stamp.epoch update.stamp.epoch)) _ _ (λ c. tt)
    (either_data file (nat_le update.stamp.count own.stamp.count) _ _ (λ c. tt)
    (either_data file (update.stamp.count == own.stamp.count + 1) _ _
    (either_data file (head_fits (head_after own update)) _ _ (λ c. refl) (λ c. tt)) (λ c. tt))))

-- the asks of a file
without_rec : (site : Site) (s : FileState) (p : Proposer) (ask : WaitingAsk) (answer : Option Reply) → IsData s.kept.file (ask_without_lease site s p ask answer).turned.rec
without_rec site s p ask (Some answer) c = tt
without_rec site s p ask None c = either_is s.kept.file c (can_ask p) _ _ tt tt

under_rec : (site : Site) (s : FileState) (l : LeaseState) (ask : WaitingAsk) → IsData s.kept.file (ask_under site s l ask).turned.rec
under_rec site s (held h) ask c = either_is s.kept.file c (is_active s.primary.tenure) _ _
    ((served_acts (ground_of site s) (record { primary = s.primary; asks = s.asks; turned = quiet }) ask (waits s.asks ask) (record { marks = tt; plain = λ c. tt })).plain c) tt
under_rec site s (asking r) ask c = tt
under_rec site s (writing r) ask c = tt
under_rec site s (free p) ask c = without_rec site s p ask (elsewhere site s.acceptor.accepted) c

rows_rec : (site : Site) (s : FileState) (ask : WaitingAsk) → IsData s.kept.file (ask_rows site s ask).turned.rec
rows_rec site s ask c = either_is s.kept.file c (asked_already s.asks ask.id) _ _ tt (under_rec site s s.lease ask c)

let_in_rec : (site : Site) (s : FileState) (number : ℕ) (id : OpId) (capability : Capability) (asked : Op) (refusal : Option Reply)
    → RecordIs s.kept.file (payload.Ask number capability asked) (ask_let_in site s id capability asked refusal).turned.rec
let_in_rec site s number id capability asked (Some answer) = tt
let_in_rec site s number id capability asked None = stored s.kept.location refl
  where
    ask : WaitingAsk
    ask = waiting_ask site id capability.epoch asked

    stored : (was : Option Location) → s.kept.location ≡ was
        → RecordIs s.kept.file (payload.Ask number capability asked)
        (and_then (steps_to (record s { used = site.now }) (keeps (view_record s capability.location was))) (λ state. ask_rows site state ask)).turned.rec
    stored None is = (refl, refl)
    stored (Some location) is = rows_rec site (steps_to (record s { used = site.now }) (keeps None)).state ask (payload.Ask number capability asked)

kind_rec : (site : Site) (s : FileState) (k : Kind) (number : ℕ) (id : OpId) (capability : Capability) (asked : Op)
    → RecordIs s.kept.file (payload.Ask number capability asked) (ask_comes site s k id capability asked).turned.rec
unfolding handle_ask
kind_rec site s kind.Replicated number id capability asked = let_in_rec site s number id capability asked (refusal_of site s.kept.location capability asked)
kind_rec site s kind.Striped number id capability asked =
    striped_outcome (λ (acted : Acted). RecordIs s.kept.file (payload.Ask number capability asked) acted.rec) site s.kept id capability asked
    (record { nothing = tt; tells = λ answer. tt; keeps = λ update is. refl })

drawn_data : (place : Place) (learnt : ℕ) (own : FileHead) (members : List NodeId) → IsData place.file (draw_epoch place learnt own members).turned.rec
drawn_data place learnt own members = (drawn_acts place learnt own members).plain

led_on_data : (site : Site) (s : FileState) (t : Option Tenure) → IsData s.kept.file (led_on site s t).turned.rec
led_on_data site s (Some t) c = tt
led_on_data site s None c = drawn_data (ground_of site s).place s.primary.learnt s.kept.head (members_of s.kept.location) c

news_data : (site : Site) (s : FileState) (news : LeaseNews) → IsData s.kept.file (lease_news site s news).turned.rec
news_data site s lease.nothing c = tt
news_data site s (sends_write ballot x targets) c = tt
news_data site s (holds end) c = led_on_data site (record s { last_end = end }) s.primary.tenure c
news_data site s (finds x) c = either_is s.kept.file c (x.node.0 == site.node.0) (answer_waiting site s (reply.NoLease s.last_end)) (answer_waiting site s (reply.Elsewhere x.node x.end)) tt tt
news_data site s ends c = tt

answer_data : (site : Site) (s : FileState) (from : NodeId) (content : Payload) → IsData s.kept.file (answer_comes site s from content).turned.rec
unfolding answer_comes
answer_data site s from content =
    let step = on_answer s.lease site.now from content in
    news_data site (record s { lease = step.state; last_end = end_after_answer site s from content }) step.news

primary_data : (site : Site) (s : FileState) (l : LeaseState) (from : NodeId) (content : Payload) → IsData s.kept.file (primary_hears site s l from content).turned.rec
primary_data site s (held h) from content =
    let g = ground_of site s in
    (follow_acts g s.primary.tenure s.asks (hears g s.primary from content) (hears_acts g s.primary from content)).plain
primary_data site s (free p) from content = λ c. tt
primary_data site s (asking r) from content = λ c. tt
primary_data site s (writing r) from content = λ c. tt

message_rec : (site : Site) (s : FileState) (from : NodeId) (content : Payload) → RecordIs s.kept.file content (message_comes site s from content).turned.rec
unfolding read_comes write_comes
message_rec site s from (payload.Ask number capability asked) = kind_rec site s capability.location.kind number (record { client = from; number = number }) capability asked
message_rec site s from (payload.Read file ballot) = tt
message_rec site s from (payload.Write file ballot boot l) = tt
message_rec site s from (payload.Promise file ballot boot report) = answer_data site s from (payload.Promise file ballot boot report) (payload.Promise file ballot boot report)
message_rec site s from (payload.Accepted file ballot boot) = answer_data site s from (payload.Accepted file ballot boot) (payload.Accepted file ballot boot)
message_rec site s from (payload.Outrun file ballot seen) = answer_data site s from (payload.Outrun file ballot seen) (payload.Outrun file ballot seen)
message_rec site s from (payload.Gather file epoch) = gathered_data s.kept.file s.kept.head epoch (payload.Gather file epoch)
message_rec site s from (payload.Fetch file epoch object version) = tt
message_rec site s from (payload.Stage file epoch object version bytes) = staged_data s.kept.file s.kept.head s.kept.held epoch object version bytes (payload.Stage file epoch object version bytes)
message_rec site s from (payload.Head file epoch head) = headed_data s.kept.file s.kept.head s.kept.held epoch head (payload.Head file epoch head)
message_rec site s from (payload.Update file update) = updated_data s.kept.file s.kept.head update (payload.Update file update)
message_rec site s from content = primary_data site s s.lease from content content

pub step_rec : (site : Site) (s : FileState) (from : NodeId) (content : Payload) → RecordIs s.kept.file content (step_of_file site s from content).turned.rec
unfolding step_of_file
step_rec site s from content =
    let first = expired site s in
    let rest = message_comes site first.state from content in
    subst (λ (r : Option Record). RecordIs s.kept.file content (the_record r rest.turned.rec)) (sym (expired_quiet site s).0)
    (subst (λ file. RecordIs file content rest.turned.rec) (ap (λ (row : FileRow). row.file) (expired_keeps site s)) (message_rec site first.state from content))

-- ---- Wakes

wakes_in_marks : (place : Place) (t : Tenure) (p : Progress) → (wakes_in place t p).marks ≡ []
wakes_in_marks place t progress.Gathering = refl
wakes_in_marks place t (progress.Fetching chosen source asked later) = refl
wakes_in_marks place t (progress.Installing chosen acked) = refl
wakes_in_marks place t (progress.Active head issued) = refl

wakes_marks : (place : Place) (p : PrimaryState) → (wakes place p).marks ≡ []
unfolding wakes
wakes_marks place p = at p.tenure
  where
    at : (t : Option Tenure) → (wakes_under place t).marks ≡ []
    at None = refl
    at (Some t) = wakes_in_marks place t t.progress

renews_quiet : (site : Site) (s : FileState) (h : Held) → ((renews site s h).turned.marks ≡ []) × ((renews site s h).turned.rec ≡ None)
renews_quiet site s h = one_of (is_renewal_due h site.now s.used) _ _ (refl, refl) (refl, refl)
  where
    one_of : (b : Bool) (x y : FileStep) → ((x.turned.marks ≡ []) × (x.turned.rec ≡ None)) → ((y.turned.marks ≡ []) × (y.turned.rec ≡ None))
        → ((cond b x y).turned.marks ≡ []) × ((cond b x y).turned.rec ≡ None)
    one_of true x y p q = p
    one_of false x y p q = q

under_quiet : (site : Site) (s : FileState) (l : LeaseState) → ((wakes_under_lease site s l).turned.marks ≡ []) × ((wakes_under_lease site s l).turned.rec ≡ None)
under_quiet site s (held h) =
    let woke = wakes (ground_of site s).place s.primary in
    let q = renews_quiet site (steps_to s woke).state h in (
      ap (λ (ms : List Mark). ms ++ (renews site (steps_to s woke).state h).turned.marks) (wakes_marks (ground_of site s).place s.primary) ∙ q.0,
      ap (λ (r : Option Record). the_record r (renews site (steps_to s woke).state h).turned.rec) (wake_keeps (ground_of site s).place s.primary) ∙ q.1,
    )
under_quiet site s (free p) = (refl, refl)
under_quiet site s (asking r) = (refl, refl)
under_quiet site s (writing r) = (refl, refl)

wake_quiet : (site : Site) (s : FileState) → ((wake_of_file site s).turned.marks ≡ []) × ((wake_of_file site s).turned.rec ≡ None)
unfolding wake_of_file
wake_quiet site s = under_quiet site s s.lease

pub wake_step_marks : (site : Site) (s : FileState) → (wake_step site s).turned.marks ≡ []
wake_step_marks site s =
    let first = expired site s in
    ap (λ (ms : List Mark). ms ++ (wake_of_file site first.state).turned.marks) (expired_marks site s) ∙ (wake_quiet site first.state).0

pub wake_step_rec : (site : Site) (s : FileState) → (wake_step site s).turned.rec ≡ None
wake_step_rec site s =
    let first = expired site s in
    ap (λ (r : Option Record). the_record r (wake_of_file site first.state).turned.rec) (expired_quiet site s).0 ∙ (wake_quiet site first.state).1

pub wake_step_kept : (site : Site) (s : FileState) → (wake_step site s).state.kept ≡ s.kept
wake_step_kept site s =
    let first = expired site s in
    wake_follows site first.state ∙ ap (kept_after first.state.kept) (wake_quiet site first.state).1 ∙ expired_keeps site s

-- ---- an OSD's Wake

each_quiet : (step : FileState → FileStep) (files : List FileState) → ((s : FileState) → (step s).turned.marks ≡ []) → ((s : FileState) → (step s).turned.rec ≡ None)
    → ((each_file step files).turned.marks ≡ []) × ((each_file step files).turned.rec ≡ None)
unfolding each_file
each_quiet step [] marks recs = (refl, refl)
each_quiet step (s ∷ ss) marks recs =
    let rest = each_quiet step ss marks recs in (
      ap (λ (ms : List Mark). ms ++ (each_file step ss).turned.marks) (marks s) ∙ rest.0,
      ap (λ (r : Option Record). the_record r (each_file step ss).turned.rec) (recs s) ∙ rest.1,
    )

-- it marks and records nothing
pub woken_quiet : (site : Site) (files : List FileState) → ((woken site files).turned.marks ≡ []) × ((woken site files).turned.rec ≡ None)
woken_quiet site files =
    let settled = each_file (expired site) files in
    let woke = each_file (wake_of_file site) settled.files in
    let first = each_quiet (expired site) files (expired_marks site) (λ s. (expired_quiet site s).0) in
    let second = each_quiet (wake_of_file site) settled.files (λ s. (wake_quiet site s).0) (λ s. (wake_quiet site s).1) in (
      ap (λ (ms : List Mark). ms ++ woke.turned.marks) first.0 ∙ second.0,
      ap (λ (r : Option Record). the_record r woke.turned.rec) first.1 ∙ second.1,
    )
