-- What holds of the world at every moment, and what of it stays as entries are added.
use Rattle.std.proofs.Common.{Bool, true, false, ◌==◌, if◌then◌else◌, ◌≡◌, ◌≢◌, ℕ, ◌≤◌, ◌⊎◌, inl, inr, List, [], ◌∷◌, ◌++◌, map, refl, ap, subst, sym, ◌∙◌, arith, Option, Some, None}
use Rattle.std.specs.Option.{option_or}
use Rattle.std.proofs.lemmas.Bool.Decides.{nat_tests}
use Rattle.std.proofs.lemmas.List.{append_assoc, append-nil, map-append}
use Rattle.xt_base.specs.declared.ids.NodeId.{NodeId}
use Rattle.xt_base.specs.declared.ids.OpId.{OpId}
use Rattle.xt_messages.specs.declared.file.Capability.{Capability}
use Rattle.xt_messages.specs.declared.file.Kind.{Kind}
use Rattle.xt_messages.specs.declared.file.Kind.TheVariants as kind
use Rattle.xt_messages.specs.declared.file.Location.{Location}
use Rattle.xt_messages.specs.declared.file.Op.{Op}
use Rattle.xt_messages.specs.declared.reply.Reply.{Reply}
use Rattle.xt_messages.specs.declared.reply.Reply.TheVariants as reply
use Rattle.xt_messages.specs.declared.meta.MetaAnswer.{MetaAnswer}
use Rattle.xt_messages.specs.declared.meta.MetaAnswer.TheVariants as answer
use Rattle.xt_messages.specs.declared.message.Msg.{Msg}
use Rattle.xt_messages.specs.declared.message.Payload.{Payload}
use Rattle.xt_messages.specs.declared.message.Payload.TheVariants as payload
use Rattle.xt_messages.specs.declared.event.Call.{Call}
use Rattle.xt_messages.specs.declared.event.Mark.{Mark}
use Rattle.xt_messages.specs.declared.event.Mark.TheVariants as mark
use Rattle.lease_safety.specs.State.{Has}
use Rattle.xt_protocol.specs.declared.states.IssuedUpdate.{IssuedUpdate}
use Rattle.xt_protocol.specs.declared.states.IssuedAsk.{IssuedAsk}
use Rattle.xt_protocol.specs.declared.states.Progress.{Progress}
use Rattle.xt_protocol.specs.declared.states.Progress.TheVariants as progress
use Rattle.xt_protocol.specs.declared.states.Tenure.{Tenure}
use Rattle.xt_protocol.specs.FileStates.{FileState}
use Rattle.time_line.specs.declared.entry.Entry.{Entry}
use Rattle.time_line.specs.declared.entry.Entry.TheVariants as entry
use Rattle.client_rows.specs.declared.RunningCall.{RunningCall}
use Rattle.client_rows.specs.declared.requests.Request.{Request}
use Rattle.client_rows.specs.declared.requests.Request.TheVariants as request
use Rattle.client_rows.specs.declared.requests.MadeCall.{MadeCall}
use Rattle.client_rows.specs.Holding.{Held}
use Rattle.client_rows.specs.Rows.{WholeClient}
use Rattle.client_steps.specs.Asked.{RunningIs, MadeIs, ClientIs, AllHeld, AnswerGrants}
use Rattle.world_spec.specs.declared.PlacedFile.{PlacedFile}
use Rattle.time_line.specs.TimeLine.{id_of, location_in, is_replicated_at, is_replicated, begun, call_begun}
use Rattle.time_line.specs.Clauses.{IsBefore, ok_entry, HasBegunOn, EndsAreAnswered}
use Rattle.world_spec.specs.World.{Node, Running, Core, osd, client, mrc, dir, node_in}
use Rattle.world_spec.specs.NodeSteps.{entry_of}
use Rattle.world_runs.specs.View.{node_id}
use Rattle.world_runs.specs.Acts.{acted_for, ActsHaveBegun}
use Rattle.world_runs.proofs.Entries.{HasAnswer, begun-append, begun_on-grown, operation-grown, answer-grown, one_file}
use Rattle.world_runs.proofs.Said.{IsMarked, AreMarked, Said, ReplySaid}
use Rattle.world_runs.proofs.PrimaryIds.{IssuedIs, ProgressIs, TenureIs}
use Rattle.world_runs.proofs.FileIds.{IssuedAskIs, FileIs}
use Rattle.world_runs.proofs.OsdIds.{FilesAre, EndsNone, NoneEnds, IsTold}
use Rattle.world_runs.proofs.Calls.{IsAnswered, IsOnStriped, ReplyIs, AskIs, ContentIs, RequestIs, HeldIs, OutcomeIs}
use Rattle.world_runs.proofs.Places.{AreTold, location-grown}
use Rattle.world_runs.proofs.Making.{AreFileMarks}

-- ---- the trace

-- What stands after an entry: a call ends well only as it was answered; what is issued, committed or answered has begun.
abbrev pub EntryIs : List Entry → Entry → Type 0
EntryIs es (entry.Done caller number how) = OutcomeIs es (id_of caller number) how
EntryIs es (entry.Issue node file count id) = HasBegunOn file es id
EntryIs es (entry.Commit node file count id) = HasBegunOn file es id
EntryIs es (entry.Answer node file id count bytes) = HasBegunOn file es id
EntryIs es _ = Unit {0}

abbrev pub EntriesAre : List Entry → Type 0
EntriesAre es = (before : List Entry) (e : Entry) → IsBefore before e es → EntryIs before e

push_split : {X : Type 0} (xs : List X) (y : X) (before after : List X) (x : X) → xs ++ y ∷ [] ≡ before ++ x ∷ after → ((xs ≡ before) × (y ≡ x)) ⊎ ((rest : List X) × (xs ≡ before ++ x ∷ rest))
push_split [] y [] after x e = inl (refl, cc)
push_split [] y (b ∷ []) after x e = absurd cc
push_split [] y (b ∷ c ∷ bs) after x e = absurd cc
push_split (a ∷ xs) y [] after x e = inr (xs, cc)
push_split {X} (a ∷ xs) y (b ∷ bs) after x e =
    let rest : xs ++ y ∷ [] ≡ bs ++ x ∷ after = cc in
    let first : a ≡ b = cc in
    elim (push_split xs y bs after x rest) as (λ w. ((a ∷ xs ≡ b ∷ bs) × (y ≡ x)) ⊎ ((rest : List X) × (a ∷ xs ≡ (b ∷ bs) ++ x ∷ rest))) [
      | inl h ↦ (let same : xs ≡ bs = h.0 in inl (cc, h.1))
      | inr h ↦ (let same : xs ≡ bs ++ x ∷ h.0 = h.1 in inr (h.0, cc))
    ]

pub entries-push : (es : List Entry) (e : Entry) → EntriesAre es → EntryIs es e → EntriesAre (es ++ e ∷ [])
entries-push es e are is before x there =
    elim (push_split es e before there.0 x there.1) [
      | inl h ↦ subst (λ (xs : List Entry). EntryIs xs x) h.0 (subst (EntryIs es) h.1 is)
      | inr h ↦ are before x h
    ]

pub entries-none : EntriesAre []
entries-none before e there = absurd (nothing before e there.0 there.1)
  where
    nothing : (before : List Entry) (e : Entry) (after : List Entry) → [] ≡ before ++ e ∷ after → ⊥
    nothing [] e after h = absurd cc
    nothing (x ∷ xs) e after h = absurd cc

-- marks of an OSD: they end no call, and what they name has begun
mark_is : (es more : List Entry) (file : ℕ) (node : NodeId) (m : Mark) → EndsNone m → IsMarked (λ (id : OpId). HasBegunOn file es id) file m → EntryIs (es ++ more) (entry_of node m)
mark_is es more file node (mark.Issue k count write) none is = begun_on-grown k es more write (subst (λ (f : ℕ). HasBegunOn f es write) (sym is.0) is.1)
mark_is es more file node (mark.Commit k count write) none is = begun_on-grown k es more write (subst (λ (f : ℕ). HasBegunOn f es write) (sym is.0) is.1)
mark_is es more file node (mark.Answer k write count bytes) none is = begun_on-grown k es more write (subst (λ (f : ℕ). HasBegunOn f es write) (sym is.0) is.1)
mark_is es more file node (mark.Done k how) none is = absurd none
mark_is es more file node _ none is = tt

marks_are : (file : ℕ) (node : NodeId) (es more : List Entry) (ms : List Mark) → EntriesAre (es ++ more) → NoneEnds ms → AreMarked (λ (id : OpId). HasBegunOn file es id) file ms
    → EntriesAre ((es ++ more) ++ map (entry_of node) ms)
marks_are file node es more [] are none marked = subst EntriesAre (sym (append-nil (es ++ more))) are
marks_are file node es more (m ∷ ms) are none marked =
    let e = entry_of node m in
    let here : EntriesAre ((es ++ more) ++ entry_of node m ∷ []) = entries-push (es ++ more) e are (mark_is es more file node m none.0 marked.0) in
    let rest = marks_are file node es (more ++ entry_of node m ∷ []) ms (subst EntriesAre (append_assoc es more (e ∷ [])) here) none.1 marked.1 in
    subst EntriesAre (append_assoc (es ++ more) (e ∷ []) (map (entry_of node) ms)) (subst (λ (xs : List Entry). EntriesAre (xs ++ map (entry_of node) ms)) (sym (append_assoc es more (e ∷ []))) rest)

pub entries-marks : (file : ℕ) (node : NodeId) (es : List Entry) (ms : List Mark) → EntriesAre es → NoneEnds ms → AreMarked (λ (id : OpId). HasBegunOn file es id) file ms → EntriesAre (es ++ map (entry_of node) ms)
entries-marks file node es ms are none marked =
    subst (λ (xs : List Entry). EntriesAre (xs ++ map (entry_of node) ms)) (append-nil es)
    (marks_are file node es [] ms (subst EntriesAre (sym (append-nil es)) are) none marked)

-- files that a server makes
files_are : (node : NodeId) (es more : List Entry) (ms : List Mark) → EntriesAre (es ++ more) → AreFileMarks ms → EntriesAre ((es ++ more) ++ map (entry_of node) ms)
files_are node es more [] are of_files = subst EntriesAre (sym (append-nil (es ++ more))) are
files_are node es more (mark.File file location ∷ ms) are of_files =
    let e = entry.File file.number location in
    let here : EntriesAre ((es ++ more) ++ e ∷ []) = entries-push (es ++ more) e are tt in
    subst EntriesAre (append_assoc (es ++ more) (e ∷ []) (map (entry_of node) ms))
    (subst (λ (xs : List Entry). EntriesAre (xs ++ map (entry_of node) ms)) (sym (append_assoc es more (e ∷ [])))
    (files_are node es (more ++ e ∷ []) ms (subst EntriesAre (append_assoc es more (e ∷ [])) here) of_files.1))
files_are node es more (_ ∷ ms) are of_files = absurd of_files.0

pub entries-files : (node : NodeId) (es : List Entry) (ms : List Mark) → EntriesAre es → AreFileMarks ms → EntriesAre (es ++ map (entry_of node) ms)
entries-files node es ms are of_files =
    subst (λ (xs : List Entry). EntriesAre (xs ++ map (entry_of node) ms)) (append-nil es) (files_are node es [] ms (subst EntriesAre (sym (append-nil es)) are) of_files)

-- no call of this client has begun from this number on
abbrev pub FreshFrom : List Entry → NodeId → ℕ → Type 0
FreshFrom es node next = (k : ℕ) → next ≤ k → begun (id_of node k) es ≡ None

-- these entries begin no call of this client
abbrev pub Quiet : List Entry → NodeId → Type 0
Quiet es node = (k : ℕ) → begun (id_of node k) es ≡ None

both_none : {X : Type 0} (o p : Option X) → o ≡ None → p ≡ None → option_or o p ≡ None
both_none None p a b = b
both_none (Some x) p a b = absurd cc

pub fresh-grown : (es more : List Entry) (node : NodeId) (next : ℕ) → Quiet more node → FreshFrom es node next → FreshFrom (es ++ more) node next
fresh-grown es more node next quiet fresh k above = begun-append (id_of node k) es more ∙ both_none (begun (id_of node k) es) (begun (id_of node k) more) (fresh k above) (quiet k)

pub quiet-none : (node : NodeId) → Quiet [] node
unfolding begun
quiet-none node k = refl

pub fresh-none : (node : NodeId) (next : ℕ) → FreshFrom [] node next
unfolding begun
fresh-none node next k above = refl

pub quiet-one : (e : Entry) (node : NodeId) → ((k : ℕ) → call_begun (id_of node k) e ≡ None) → Quiet (e ∷ []) node
unfolding begun
quiet-one e node none k = both_none (call_begun (id_of node k) e) None (none k) refl

-- the marks of another node begin none
not_begun : (node other : NodeId) (k number : ℕ) (c : Call) → node.0 ≢ other.0 → call_begun (id_of node k) (entry.Begin other number c) ≡ None
not_begun node other k number c ne = grind (arith, nat_tests)

mark_begins : (node other : NodeId) (k : ℕ) (m : Mark) → node.0 ≢ other.0 → call_begun (id_of node k) (entry_of other m) ≡ None
mark_begins node other k (mark.Begin number c) ne = not_begun node other k number c ne
mark_begins node other k _ ne = refl

pub quiet-marks : (node other : NodeId) (ms : List Mark) → node.0 ≢ other.0 → Quiet (map (entry_of other) ms) node
unfolding begun
quiet-marks node other [] ne k = refl
quiet-marks node other (m ∷ ms) ne k = both_none (call_begun (id_of node k) (entry_of other m)) (begun (id_of node k) (map (entry_of other) ms)) (mark_begins node other k m ne) (quiet-marks node other ms ne k)

-- ---- what has begun stays so

issued-more : (Q R : OpId → Type 0) (o : Option IssuedUpdate) → ((id : OpId) → Q id → R id) → IssuedIs Q o → IssuedIs R o
issued-more Q R None within is = tt
issued-more Q R (Some i) within is = within i.update.id is

progress-more : (Q R : OpId → Type 0) (p : Progress) → ((id : OpId) → Q id → R id) → ProgressIs Q p → ProgressIs R p
progress-more Q R progress.Gathering within is = tt
progress-more Q R (progress.Fetching chosen source asked later) within is = tt
progress-more Q R (progress.Installing chosen acked) within is = tt
progress-more Q R (progress.Active committed issued) within is = issued-more Q R issued within is

tenure-more : (Q R : OpId → Type 0) (o : Option Tenure) → ((id : OpId) → Q id → R id) → TenureIs Q o → TenureIs R o
tenure-more Q R None within is = tt
tenure-more Q R (Some t) within is = progress-more Q R t.progress within is

ask-more : (Q R : OpId → Type 0) (o : Option IssuedAsk) → ((id : OpId) → Q id → R id) → IssuedAskIs Q o → IssuedAskIs R o
ask-more Q R None within is = tt
ask-more Q R (Some i) within is = within i.ask.id is

file-more : (Q R : OpId → Type 0) (f : FileState) → ((id : OpId) → Q id → R id) → FileIs Q f → FileIs R f
file-more Q R f within is =
    record {
      asks = record { waiting = λ w h. within w.id (is.asks.waiting w h); issued = ask-more Q R f.asks.issued within is.asks.issued };
      tenure = tenure-more Q R f.primary.tenure within is.tenure;
    }

pub files-grown : (es more : List Entry) (files : List FileState) → FilesAre es files → FilesAre (es ++ more) files
files-grown es more files are f h =
    file-more (λ (id : OpId). HasBegunOn f.kept.file.number es id) (λ (id : OpId). HasBegunOn f.kept.file.number (es ++ more) id) f (λ id begun. begun_on-grown f.kept.file.number es more id begun) (are f h)

ask-grown : (es more : List Entry) (id : OpId) (capability : Capability) (asked : Op) → AskIs es id capability asked → AskIs (es ++ more) id capability asked
ask-grown es more id capability asked is =
    (operation-grown capability.file.number es more id asked is.0, is.1, location-grown capability.file.number es more capability.location is.2)

striped-grown : (es more : List Entry) (id : OpId) → IsOnStriped es id → IsOnStriped (es ++ more) id
striped-grown es more id is =
    record {
      file = is.file;
      has_begun = begun_on-grown is.file es more id is.has_begun;
      location = is.location;
      placed = location-grown is.file es more is.location is.placed;
      striped = is.striped;
    }

request-grown : (es more : List Entry) (node : NodeId) (number : ℕ) (asked : Request) → RequestIs es node number asked → RequestIs (es ++ more) node number asked
request-grown es more node number (request.Replicated capability asked) is = (ask-grown es more (id_of node number) capability asked is.0, is.1)
request-grown es more node number (request.Striped capability asked) is = (ask-grown es more (id_of node number) capability asked is.0, is.1)
request-grown es more node number (request.Meta user group asked) is = tt
request-grown es more node number (request.Registry asked) is = tt

running-grown : (es more : List Entry) (node : NodeId) (running : Option RunningCall) → RunningIs (RequestIs es node) running → RunningIs (RequestIs (es ++ more) node) running
running-grown es more node None is = tt
running-grown es more node (Some call) is = request-grown es more node call.number (request.Replicated call.capability call.op) is

made-grown : (es more : List Entry) (node : NodeId) (made : Option MadeCall) → MadeIs (RequestIs es node) made → MadeIs (RequestIs (es ++ more) node) made
made-grown es more node None is = tt
made-grown es more node (Some made) is = request-grown es more node made.number made.request is

pub calls-grown : (es more : List Entry) (node : NodeId) (c : WholeClient) → ClientIs (RequestIs es node) c → ClientIs (RequestIs (es ++ more) node) c
calls-grown es more node c is = record { running = running-grown es more node c.replicas.running is.running; made = made-grown es more node c.made is.made }

pub held-grown : (es more : List Entry) (held : Held) → AllHeld (HeldIs es) held → AllHeld (HeldIs (es ++ more)) held
held-grown es more [] is = tt
held-grown es more (h ∷ hs) is = ((is.0.0, location-grown h.0 es more h.1.capability.location is.0.1), held-grown es more hs is.1)

reply-grown : (es more : List Entry) (to : NodeId) (number : ℕ) (answer : Reply) → ReplyIs es to number answer → ReplyIs (es ++ more) to number answer
reply-grown es more to number (reply.Ok count size bytes) (inl is) = inl (is.0, answer-grown is.0 es more (id_of to number) count bytes is.1)
reply-grown es more to number (reply.Ok count size bytes) (inr is) = inr (striped-grown es more (id_of to number) is)
reply-grown es more to number (reply.NoLease end) is = tt
reply-grown es more to number (reply.NoMajority have need) is = tt
reply-grown es more to number (reply.Elsewhere node end) is = tt
reply-grown es more to number (reply.Denied why) is = tt
reply-grown es more to number (reply.OldList version) is = tt
reply-grown es more to number (reply.OldEpoch epoch) is = tt
reply-grown es more to number (reply.TooFar object) is = tt
reply-grown es more to number reply.ClientsFull is = tt

answer-granted : (es more : List Entry) (told : MetaAnswer) → AnswerGrants (HeldIs es) told → AnswerGrants (HeldIs (es ++ more)) told
answer-granted es more (answer.Granted capability size) is = (is.0, location-grown capability.file.number es more capability.location is.1)
answer-granted es more _ is = tt

pub content-grown : (es more : List Entry) (from to : NodeId) (content : Payload) → ContentIs es from to content → ContentIs (es ++ more) from to content
content-grown es more from to (payload.MetaReply number told) is = answer-granted es more told is
content-grown es more from to (payload.Ask number capability asked) is = ask-grown es more (id_of from number) capability asked is
content-grown es more from to (payload.Reply number file answer) is = reply-grown es more to number answer is
content-grown es more from to _ is = tt

-- ---- what an OSD answered

has_split : {X : Type 0} (xs : List X) (x : X) → Has x xs → (front : List X) × (rest : List X) × (xs ≡ front ++ x ∷ rest)
has_split [] x h = absurd h
has_split (y ∷ xs) x (inl e) = ([], xs, ap (λ z. z ∷ xs) (sym e))
has_split (y ∷ xs) x (inr h) = (let rest = has_split xs x h in (y ∷ rest.0, rest.1, ap (λ zs. y ∷ zs) rest.2))

-- an answer that is marked in a step
marked : (es : List Entry) (node : NodeId) (file : ℕ) (marks : List Mark) (id : OpId) (count : ℕ) (bytes : List ℕ) → HasBegunOn file es id → Has (mark.Answer file id count bytes) marks
    → HasAnswer file (es ++ map (entry_of node) marks) id count bytes
marked es node file marks id count bytes begun h =
    let at = has_split marks (mark.Answer file id count bytes) h in
    let front = map (entry_of node) at.0 in
    let whole : map (entry_of node) marks ≡ map (entry_of node) at.0 ++ entry.Answer node file id count bytes ∷ map (entry_of node) at.1
    = ap (map (entry_of node)) at.2 ∙ map-append (entry_of node) at.0 (mark.Answer file id count bytes ∷ at.1) in
    record {
      front = es ++ map (entry_of node) at.0;
      node = node;
      rest = map (entry_of node) at.1;
      split = ap (λ (xs : List Entry). es ++ xs) whole ∙ sym (append_assoc es (map (entry_of node) at.0) (entry.Answer node file id count bytes ∷ map (entry_of node) at.1));
      has_begun = begun_on-grown file es (map (entry_of node) at.0) id begun;
    }

reply_told : (es : List Entry) (node : NodeId) (file : ℕ) (marks : List Mark) (to : NodeId) (number : ℕ) (answer : Reply) → ReplySaid (λ (id : OpId). HasBegunOn file es id) file marks to number answer
    → ReplyIs (es ++ map (entry_of node) marks) to number answer
reply_told es node file marks to number (reply.Ok count size bytes) said = inl (file, marked es node file marks (id_of to number) count bytes said.0 said.1)
reply_told es node file marks to number (reply.NoLease end) said = tt
reply_told es node file marks to number (reply.NoMajority have need) said = tt
reply_told es node file marks to number (reply.Elsewhere other end) said = tt
reply_told es node file marks to number (reply.Denied why) said = tt
reply_told es node file marks to number (reply.OldList version) said = tt
reply_told es node file marks to number (reply.OldEpoch epoch) said = tt
reply_told es node file marks to number (reply.TooFar object) said = tt
reply_told es node file marks to number reply.ClientsFull said = tt

content_told : (es : List Entry) (node : NodeId) (file : ℕ) (marks : List Mark) (from to : NodeId) (content : Payload) → Said (λ (id : OpId). HasBegunOn file es id) file marks to content
    → ContentIs (es ++ map (entry_of node) marks) from to content
content_told es node file marks from to (payload.Ask number capability asked) said = absurd said
content_told es node file marks from to (payload.Meta number user group wanted) said = absurd said
content_told es node file marks from to (payload.MetaReply number told) said = absurd said
content_told es node file marks from to (payload.Reply number f answer) said = reply_told es node file marks to number answer said
content_told es node file marks from to _ said = tt

pub told_is : (es : List Entry) (node : NodeId) (marks : List Mark) (m : Msg) → IsTold es marks m → ContentIs (es ++ map (entry_of node) marks) m.from m.to m.payload
told_is es node marks m (inl told) = content_told es node told.0 marks m.from m.to m.payload told.1
told_is es node marks m (inr striped) =
    subst (ContentIs (es ++ map (entry_of node) marks) m.from m.to) (sym striped.3)
    (answer_told striped.2 (striped-grown es (map (entry_of node) marks) (id_of m.to striped.0) striped.4))
  where
    answer_told : (answer : Reply) → IsOnStriped (es ++ map (entry_of node) marks) (id_of m.to striped.0) → ReplyIs (es ++ map (entry_of node) marks) m.to striped.0 answer
    answer_told (reply.Ok count size bytes) is = inr is
    answer_told (reply.NoLease end) is = tt
    answer_told (reply.NoMajority have need) is = tt
    answer_told (reply.Elsewhere other end) is = tt
    answer_told (reply.Denied why) is = tt
    answer_told (reply.OldList version) is = tt
    answer_told (reply.OldEpoch epoch) is = tt
    answer_told (reply.TooFar object) is = tt
    answer_told reply.ClientsFull is = tt

-- ---- worlds

-- A client's calls have begun, what it holds is of files that the trace reports, and no call has begun from its next number on.
pub record CallerIs (es : List Entry) (node : NodeId) (c : WholeClient) : Type 0 where
  pub calls : ClientIs (RequestIs es node) c
  pub held : AllHeld (HeldIs es) c.held
  pub fresh : FreshFrom es node c.replicas.next

abbrev pub CoreIs : List Entry → NodeId → Core → Type 0
CoreIs es node (osd s) = FilesAre es s.files
CoreIs es node (client c) = CallerIs es node c
CoreIs es node (mrc m) = Unit {0}
CoreIs es node (dir s) = Unit {0}

abbrev pub UpIs : List Entry → NodeId → Option Running → Type 0
UpIs es node None = Unit {0}
UpIs es node (Some r) = CoreIs es node r.core

-- What holds at every moment: asks and the calls of clients have begun, who isn't declared has begun nothing, what was reported or
-- ended well was answered, and the trace reports where each known file is.
pub record EndsFit (files : List PlacedFile) (nodes : List Node) (es : List Entry) (sent : List Msg) : Type 0 where
  pub nodes_are : (n : ℕ) (node : Node) → node_in nodes n ≡ Some node → UpIs es node.id node.up
  pub strangers : (n : ℕ) → node_in nodes n ≡ None → FreshFrom es (node_id n) 0
  pub messages : (m : Msg) → Has m sent → ContentIs es m.from m.to m.payload
  pub ends : EntriesAre es
  pub places : AreTold files es

pub core-grown : (es more : List Entry) (node : NodeId) (core : Core) → Quiet more node → CoreIs es node core → CoreIs (es ++ more) node core
core-grown es more node (osd s) quiet is = files-grown es more s.files is
core-grown es more node (mrc m) quiet is = tt
core-grown es more node (dir s) quiet is = tt
core-grown es more node (client c) quiet is =
    record { calls = calls-grown es more node c is.calls; held = held-grown es more c.held is.held; fresh = fresh-grown es more node c.replicas.next quiet is.fresh }

pub up-grown : (es more : List Entry) (node : NodeId) (up : Option Running) → Quiet more node → UpIs es node up → UpIs (es ++ more) node up
up-grown es more node None quiet is = tt
up-grown es more node (Some r) quiet is = core-grown es more node r.core quiet is

-- the clause of a replicated file
pub ends_answered : (es : List Entry) (file : ℕ) → EntriesAre es → is_replicated file es ≡ true → EndsAreAnswered file es
ends_answered es file are replicated before id count bytes there on_file = at (are before (ok_entry id count bytes) there)
  where
    -- a call is on one file
    one : (f : ℕ) → HasBegunOn f before id → f ≡ file
    one f begun =
        one_file f file es id
        (subst (λ (xs : List Entry). HasBegunOn f xs id) (sym there.1) (begun_on-grown f before (ok_entry id count bytes ∷ there.0) id begun)) on_file

    by_kind : (location : Location) → location_in file es ≡ Some location → location.kind ≡ kind.Striped → ⊥
    by_kind location placed striped = different (sym (ap (λ (k : Kind). elim k [ kind.Replicated ↦ true | kind.Striped ↦ false ]) striped) ∙ (sym (ap is_replicated_at placed) ∙ replicated))
      where
        different : false ≡ true → ⊥
        different e = cc e

    at : IsAnswered before id count bytes ⊎ IsOnStriped before id
        → (first : List Entry) × (node : NodeId) × IsBefore first (entry.Answer node file id count bytes) before × HasBegunOn file first id
    at (inl is) =
        let a = is.1 in
        let in_before = subst (λ (xs : List Entry). HasBegunOn is.0 xs id) (sym a.split) (begun_on-grown is.0 a.front (entry.Answer a.node is.0 id count bytes ∷ a.rest) id a.has_begun) in
        let here = subst (λ (f : ℕ). HasAnswer f before id count bytes) (one is.0 in_before) a in
        (here.front, here.node, (here.rest, here.split), here.has_begun)
    at (inr is) =
        absurd (by_kind is.location
        (subst (λ (f : ℕ). location_in f es ≡ Some is.location) (one is.file is.has_begun)
        (subst (λ (xs : List Entry). location_in is.file xs ≡ Some is.location) (sym there.1) (location-grown is.file before (ok_entry id count bytes ∷ there.0) is.location is.placed)))
        is.striped)

-- what is issued, committed or answered on a file has begun on it
pub acts_begun : (es : List Entry) (file : ℕ) → EntriesAre es → ActsHaveBegun file es
acts_begun es file are before e id there acts = at e (are before e there) acts
  where
    same : (b : Bool) (f : ℕ) (write : OpId) → (f == file) ≡ b → HasBegunOn f before write → (if b then Some write else None) ≡ Some id → HasBegunOn file before id
    same false f write test begun is = absurd cc
    same true f write test begun is =
        let here : write ≡ id = cc in
        let of_file : f ≡ file = grind (arith, nat_tests) in
        subst (HasBegunOn file before) here (subst (λ (k : ℕ). HasBegunOn k before write) of_file begun)

    at : (x : Entry) → EntryIs before x → acted_for file x ≡ Some id → HasBegunOn file before id
    at (entry.Issue node f count write) is acts = same (f == file) f write refl is acts
    at (entry.Commit node f count write) is acts = same (f == file) f write refl is acts
    at (entry.Answer node f write count bytes) is acts = same (f == file) f write refl is acts
    at _ is acts = absurd cc
