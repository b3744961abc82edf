-- what is kept of a file follows the record of a step
use Rattle.std.proofs.Common.{◌≡◌, ℕ, refl, ap, sym, ◌∙◌, Bool, true, false}
use Rattle.std.specs.Prelude.{Option, Some, None, cond, ◌==◌}
use Rattle.xt_base.specs.declared.ids.NodeId.{NodeId}
use Rattle.xt_base.specs.declared.ids.OpId.{OpId}
use Rattle.xt_messages.specs.declared.file.Kind.{Kind}
use Rattle.xt_messages.specs.declared.file.Kind.TheVariants as kind
use Rattle.xt_messages.specs.declared.file.Capability.{Capability}
use Rattle.xt_messages.specs.declared.file.FileHead.{FileHead}
use Rattle.xt_messages.specs.declared.file.Update.{Update}
use Rattle.xt_messages.specs.declared.file.Op.{Op}
use Rattle.xt_messages.specs.declared.reply.Reply.{Reply}
use Rattle.xt_messages.specs.declared.reply.Reply.TheVariants as reply
use Rattle.xt_messages.specs.declared.record.Record.{Record}
use Rattle.xt_messages.specs.declared.record.FileRow.{FileRow}
use Rattle.xt_messages.specs.declared.message.Payload.{Payload}
use Rattle.xt_messages.specs.declared.message.Payload.TheVariants as payload
use Rattle.xt_protocol.specs.LeaseRows.{LeaseState, LeaseNews, Proposer, Held, is_renewal_due, free, asking, writing, held, sends_write, holds, finds, ends, lease_expired, on_answer, can_ask}
use Rattle.xt_protocol.specs.LeaseRows as lease
use Rattle.xt_protocol.specs.declared.states.WaitingAsk.{WaitingAsk}
use Rattle.xt_protocol.specs.declared.states.Place.{Place}
use Rattle.xt_protocol.specs.declared.states.IssuedUpdate.{IssuedUpdate}
use Rattle.xt_protocol.specs.declared.states.Asks.{Asks}
use Rattle.xt_protocol.specs.declared.states.Progress.{Progress}
use Rattle.xt_protocol.specs.declared.states.Progress.TheVariants as progress
use Rattle.xt_protocol.specs.declared.states.Tenure.{Tenure}
use Rattle.xt_protocol.specs.declared.states.PrimaryState.{PrimaryState}
use Rattle.xt_protocol.specs.Turns.{the_record, quiet, keeps, joined}
use Rattle.xt_protocol.specs.ReplicaRows.{kept_after}
use Rattle.xt_protocol.specs.Writes.{WriteStanding, repeated, older, turned_away, fresh, standing}
use Rattle.xt_protocol.specs.Primaries.{Ground, Led, is_active}
use Rattle.xt_protocol.specs.Serving.{reads, writes, writes_under, writes_in, write_stands, issues, next_update_of, wakes, wakes_under, wakes_in}
use Rattle.xt_protocol.specs.Asks.{Served, serves, waits, write_done, read_answer, is_read, asked_already}
use Rattle.xt_protocol.specs.FileStates.{FileState, Site, FileStep, serves_to, ground_of, steps_to, and_then}
use Rattle.xt_protocol.specs.Overdue.{expired, lease_became, deadlines_under}
use Rattle.xt_protocol.specs.AskRows.{handle_ask, ask_let_in, ask_rows, ask_under, ask_without_lease, refusal_of, elsewhere, view_record, waiting_ask}
use Rattle.xt_protocol.specs.FileLeases.{read_comes, write_comes, answer_comes, end_after_answer, lease_news, led_on, answer_waiting}
use Rattle.xt_protocol.specs.FileSteps.{step_of_file, message_comes, ask_comes, primary_hears, renews, wakes_under_lease, wake_of_file}
use Rattle.osd_invariants.specs.Keeping.{FollowsRecord}

-- a part of a step that makes no record
abbrev IsQuiet : FileRow → FileStep → Type 0
IsQuiet row step = (step.turned.rec ≡ None) × (step.state.kept ≡ row)

-- a property of the branch that is taken, where both have it
either : (P : FileStep → Type 0) (b : Bool) {x y : FileStep} → P x → P y → P (cond b x y)
either P true p q = p
either P false p q = q

-- Overdue.

deadlines_quiet : (site : Site) (s : FileState) (t : Option Tenure) → IsQuiet s.kept (deadlines_under site s t)
deadlines_quiet site s None = (refl, refl)
deadlines_quiet site s (Some t) = (refl, refl)

became_quiet : (site : Site) (s : FileState) (before after : LeaseState) → IsQuiet s.kept (lease_became site s before after)
became_quiet site s (held h) (free p) = (refl, refl)
became_quiet site s (asking r) (free p) = (refl, refl)
became_quiet site s (writing r) (free p) = (refl, refl)
became_quiet site s (held h) (asking r) = deadlines_quiet site s s.primary.tenure
became_quiet site s (held h) (writing r) = deadlines_quiet site s s.primary.tenure
became_quiet site s (held h) (held k) = deadlines_quiet site s s.primary.tenure
became_quiet site s (asking r) (asking q) = deadlines_quiet site s s.primary.tenure
became_quiet site s (asking r) (writing q) = deadlines_quiet site s s.primary.tenure
became_quiet site s (asking r) (held q) = deadlines_quiet site s s.primary.tenure
became_quiet site s (writing r) (asking q) = deadlines_quiet site s s.primary.tenure
became_quiet site s (writing r) (writing q) = deadlines_quiet site s s.primary.tenure
became_quiet site s (writing r) (held q) = deadlines_quiet site s s.primary.tenure
became_quiet site s (free p) after = deadlines_quiet site s s.primary.tenure

pub expired_quiet : (site : Site) (s : FileState) → IsQuiet s.kept (expired site s)
unfolding expired
expired_quiet site s =
    let after = lease_expired s.lease site.now in
    became_quiet site (record s { lease = after }) s.lease after

-- Asks.

-- what a write of the primary gives makes no record
abbrev GivesNone : Option Led → Type 0
GivesNone None = Unit {0}
GivesNone (Some led) = led.turned.rec ≡ None

issues_none : (g : Ground) (learnt : ℕ) (t : Tenure) (head : FileHead) (u : Option Update) → (issues g learnt t head u).turned.rec ≡ None
issues_none g learnt t head None = refl
issues_none g learnt t head (Some u) = refl

stands_none : (g : Ground) (learnt : ℕ) (t : Tenure) (head : FileHead) (issued : Option IssuedUpdate) (id : OpId) (epoch : ℕ) (asked : Op) (how : WriteStanding)
    → GivesNone (write_stands g learnt t head issued id epoch asked how)
stands_none g learnt t head issued id epoch asked (repeated count) = refl
stands_none g learnt t head issued id epoch asked older = refl
stands_none g learnt t head issued id epoch asked (turned_away why) = refl
stands_none g learnt t head (Some i) id epoch asked fresh = tt
stands_none g learnt t head None id epoch asked fresh = issues_none g learnt t head (next_update_of g t head id epoch asked)

writes_in_none : (g : Ground) (learnt : ℕ) (t : Tenure) (p : Progress) (id : OpId) (epoch : ℕ) (asked : Op) → GivesNone (writes_in g learnt t p id epoch asked)
unfolding standing
writes_in_none g learnt t progress.Gathering id epoch asked = tt
writes_in_none g learnt t (progress.Fetching chosen source v later) id epoch asked = tt
writes_in_none g learnt t (progress.Installing chosen acked) id epoch asked = tt
writes_in_none g learnt t (progress.Active head issued) id epoch asked = stands_none g learnt t head issued id epoch asked _

writes_none : (g : Ground) (p : PrimaryState) (id : OpId) (epoch : ℕ) (asked : Op) → GivesNone (writes g p id epoch asked)
unfolding writes
writes_none g p id epoch asked = at p.tenure
  where
    at : (t : Option Tenure) → GivesNone (writes_under g p.learnt t id epoch asked)
    at None = tt
    at (Some t) = writes_in_none g p.learnt t t.progress id epoch asked

read_none : (g : Ground) (id : OpId) (answer : Option Reply) → (read_answer g id answer).rec ≡ None
read_none g id None = refl
read_none g id (Some (reply.Ok count size bytes)) = refl
read_none g id (Some (reply.NoLease end)) = refl
read_none g id (Some (reply.NoMajority have need)) = refl
read_none g id (Some (reply.Elsewhere node end)) = refl
read_none g id (Some (reply.Denied rule)) = refl
read_none g id (Some (reply.OldList version)) = refl
read_none g id (Some (reply.OldEpoch epoch)) = refl
read_none g id (Some (reply.TooFar object)) = refl
read_none g id (Some reply.ClientsFull) = refl

done_none : (s : Served) (ask : WaitingAsk) (led : Option Led) (left : Asks) → s.turned.rec ≡ None → GivesNone led → (write_done s ask led left).turned.rec ≡ None
done_none s ask None left before ok = before
done_none s ask (Some led) left before ok = ap (λ r. the_record r led.turned.rec) before ∙ ok

-- the record of a served ask
pub served_none : (g : Ground) (s : Served) (ask : WaitingAsk) (left : Asks) → s.turned.rec ≡ None → (serves g s ask left).turned.rec ≡ None
served_none g s ask left before = at (is_read ask.op)
  where
    at : (b : Bool)
        → (cond b (record s { turned = joined s.turned (read_answer g ask.id (reads g s.primary ask.op)) }) (write_done s ask (writes g s.primary ask.id ask.epoch ask.op) left)).turned.rec ≡ None
    at true = ap (λ r. the_record r (read_answer g ask.id (reads g s.primary ask.op)).rec) before ∙ read_none g ask.id (reads g s.primary ask.op)
    at false = done_none s ask (writes g s.primary ask.id ask.epoch ask.op) left before (writes_none g s.primary ask.id ask.epoch ask.op)

serves_quiet : (s : FileState) (served : Served) → served.turned.rec ≡ None → IsQuiet s.kept (serves_to s served)
serves_quiet s served e = (e, ap (kept_after s.kept) e)

without_lease_quiet : (site : Site) (s : FileState) (p : Proposer) (ask : WaitingAsk) (answer : Option Reply) → IsQuiet s.kept (ask_without_lease site s p ask answer)
without_lease_quiet site s p ask (Some answer) = (refl, refl)
without_lease_quiet site s p ask None = either (IsQuiet s.kept) (can_ask p) (refl, refl) (refl, refl)

under_quiet : (site : Site) (s : FileState) (l : LeaseState) (ask : WaitingAsk) → IsQuiet s.kept (ask_under site s l ask)
under_quiet site s (held h) ask =
    let before : Served = record { primary = s.primary; asks = s.asks; turned = quiet } in
    let left = waits s.asks ask in
    either (IsQuiet s.kept) (is_active s.primary.tenure)
    (serves_quiet s (serves (ground_of site s) before ask left) (served_none (ground_of site s) before ask left refl))
    (refl, refl)
under_quiet site s (asking r) ask = (refl, refl)
under_quiet site s (writing r) ask = (refl, refl)
under_quiet site s (free p) ask = without_lease_quiet site s p ask (elsewhere site s.acceptor.accepted)

rows_quiet : (site : Site) (s : FileState) (ask : WaitingAsk) → IsQuiet s.kept (ask_rows site s ask)
rows_quiet site s ask = either (IsQuiet s.kept) (asked_already s.asks ask.id) (refl, refl) (under_quiet site s s.lease ask)

-- a record, and then rows that make none
then_quiet : (s : FileState) (rec : Option Record) (rows : FileState → FileStep) → ((t : FileState) → IsQuiet t.kept (rows t)) → FollowsRecord s.kept (and_then (steps_to s (keeps rec)) rows)
then_quiet s None rows q =
    let first = (steps_to s (keeps None)).state in
    (q first).1 ∙ sym (ap (kept_after s.kept) (q first).0)
then_quiet s (Some rec) rows q = (q (steps_to s (keeps (Some rec))).state).1

let_in_follows : (site : Site) (s : FileState) (id : OpId) (capability : Capability) (asked : Op) (refusal : Option Reply)
    → FollowsRecord s.kept (ask_let_in site s id capability asked refusal)
let_in_follows site s id capability asked (Some answer) = refl
let_in_follows site s id capability asked None =
    then_quiet (record s { used = site.now }) (view_record s capability.location s.kept.location)
    (λ t. ask_rows site t (waiting_ask site id capability.epoch asked))
    (λ t. rows_quiet site t (waiting_ask site id capability.epoch asked))

kind_follows : (site : Site) (s : FileState) (k : Kind) (id : OpId) (capability : Capability) (asked : Op) → FollowsRecord s.kept (ask_comes site s k id capability asked)
unfolding handle_ask
kind_follows site s kind.Replicated id capability asked = let_in_follows site s id capability asked (refusal_of site s.kept.location capability asked)
kind_follows site s kind.Striped id capability asked = refl

-- The lease.

led_on_follows : (site : Site) (s : FileState) (t : Option Tenure) → FollowsRecord s.kept (led_on site s t)
led_on_follows site s (Some t) = refl
led_on_follows site s None = refl

news_follows : (site : Site) (s : FileState) (news : LeaseNews) → FollowsRecord s.kept (lease_news site s news)
news_follows site s lease.nothing = refl
news_follows site s (sends_write ballot l targets) = refl
news_follows site s (holds end) = led_on_follows site (record s { last_end = end }) s.primary.tenure
news_follows site s (finds l) =
    either (FollowsRecord s.kept) (l.node.0 == site.node.0) {x = answer_waiting site s (reply.NoLease s.last_end)}
    {y = answer_waiting site s (reply.Elsewhere l.node l.end)} refl refl
news_follows site s ends = refl

answer_follows : (site : Site) (s : FileState) (from : NodeId) (content : Payload) → FollowsRecord s.kept (answer_comes site s from content)
unfolding answer_comes
answer_follows site s from content =
    news_follows site (record s { lease = (on_answer s.lease site.now from content).state; last_end = end_after_answer site s from content })
    (on_answer s.lease site.now from content).news

hears_follows : (site : Site) (s : FileState) (l : LeaseState) (from : NodeId) (content : Payload) → FollowsRecord s.kept (primary_hears site s l from content)
hears_follows site s (held h) from content = refl
hears_follows site s (free p) from content = refl
hears_follows site s (asking r) from content = refl
hears_follows site s (writing r) from content = refl

-- Messages.

message_follows : (site : Site) (s : FileState) (from : NodeId) (content : Payload) → FollowsRecord s.kept (message_comes site s from content)
unfolding read_comes write_comes
message_follows site s from (payload.Ask number capability asked) =
    kind_follows site s capability.location.kind (record { client = from; number = number }) capability asked
message_follows site s from (payload.Read file ballot) = refl
message_follows site s from (payload.Write file ballot boot l) = refl
message_follows site s from (payload.Promise file ballot boot report) = answer_follows site s from _
message_follows site s from (payload.Accepted file ballot boot) = answer_follows site s from _
message_follows site s from (payload.Outrun file ballot seen) = answer_follows site s from _
message_follows site s from (payload.Gather file epoch) = refl
message_follows site s from (payload.Fetch file epoch object version) = refl
message_follows site s from (payload.Stage file epoch object version bytes) = refl
message_follows site s from (payload.Head file epoch head) = refl
message_follows site s from (payload.Update file update) = refl
message_follows site s from content = hears_follows site s s.lease from content

-- a whole step
pub step_follows : (site : Site) (s : FileState) (from : NodeId) (content : Payload) → FollowsRecord s.kept (step_of_file site s from content)
unfolding step_of_file
step_follows site s from content =
    let first = expired site s in
    let rest = message_comes site first.state from content in
    let q = expired_quiet site s in
    message_follows site first.state from content
    ∙ ap (λ row. kept_after row rest.turned.rec) q.1
    ∙ sym (ap (λ r. kept_after s.kept (the_record r rest.turned.rec)) q.0)

-- a Wake of a primary makes no record
no_record : (place : Place) (t : Option Tenure) → (wakes_under place t).rec ≡ None
no_record place None = refl
no_record place (Some t) = none_in t.progress
  where
    none_in : (p : Progress) → (wakes_in place t p).rec ≡ None
    none_in progress.Gathering = refl
    none_in (progress.Fetching chosen source asked later) = refl
    none_in (progress.Installing chosen acked) = refl
    none_in (progress.Active head issued) = refl

pub wake_keeps : (place : Place) (p : PrimaryState) → (wakes place p).rec ≡ None
unfolding wakes
wake_keeps place p = no_record place p.tenure

-- expiry
pub expired_follows : (site : Site) (s : FileState) → FollowsRecord s.kept (expired site s)
expired_follows site s = let q = expired_quiet site s in q.1 ∙ sym (ap (kept_after s.kept) q.0)

renews_quiet : (site : Site) (s : FileState) (h : Held) → IsQuiet s.kept (renews site s h)
renews_quiet site s h = either (IsQuiet s.kept) (is_renewal_due h site.now s.used) (refl, refl) (refl, refl)

under_lease_follows : (site : Site) (s : FileState) (l : LeaseState) → FollowsRecord s.kept (wakes_under_lease site s l)
under_lease_follows site s (held h) =
    let woke = wakes (ground_of site s).place s.primary in
    let first = steps_to s woke in
    let none = wake_keeps (ground_of site s).place s.primary in
    let q = renews_quiet site first.state h in
    q.1 ∙ ap (kept_after s.kept) none ∙ sym (ap (λ r. kept_after s.kept (the_record r (renews site first.state h).turned.rec)) none ∙ ap (kept_after s.kept) q.0)
under_lease_follows site s (free p) = refl
under_lease_follows site s (asking r) = refl
under_lease_follows site s (writing r) = refl

pub wake_follows : (site : Site) (s : FileState) → FollowsRecord s.kept (wake_of_file site s)
unfolding wake_of_file
wake_follows site s = under_lease_follows site s s.lease
