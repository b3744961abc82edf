-- what a client holds and sends stays within its limits, row by row
use Rattle.std.proofs.Common.{◌==◌, ◌&&◌, ◌<◌, ◌+◌, ◌%◌, ◌^◌, max, ℕ, nat_lt, List, [], ◌∷◌, length, refl, suc, zero, Option, Some, None, Bool, true, false, cond, arith}
use Rattle.std.specs.Prelude.{slice_get}
use Rattle.std.specs.Option.{IfSome}
use Rattle.std.specs.List.{AllByRecursion}
use Rattle.std.specs.Map.{lookup}
use Rattle.std.specs.Ordering.{nat_cmp, is_eq, match_ordering}
use Rattle.std.specs.declared.cmp.Ordering.{Ordering}
use Rattle.std.specs.declared.cmp.Ordering.TheVariants.{Less, Equal, Greater}
use Rattle.std.specs.BTreeMap.{insert_entry}
use Rattle.xt_base.specs.FieldLimits.{IsCount}
use Rattle.xt_base.specs.TimeSettings.{TimeSettings}
use Rattle.xt_base.specs.declared.TheConstants.{COUNTS}
use Rattle.xt_base.specs.declared.ids.NodeId.{NodeId}
use Rattle.xt_base.specs.declared.ids.SizeMark.{SizeMark}
use Rattle.xt_messages.specs.declared.file.Capability.{Capability}
use Rattle.xt_messages.specs.declared.file.Kind.{Kind}
use Rattle.xt_messages.specs.declared.file.Kind.TheVariants as kind
use Rattle.xt_messages.specs.declared.file.Op.{Op}
use Rattle.xt_messages.specs.declared.file.Op.TheVariants as op
use Rattle.xt_messages.specs.declared.event.Call.{Call}
use Rattle.xt_messages.specs.declared.event.Call.TheVariants as call
use Rattle.xt_messages.specs.declared.event.Event.{Event}
use Rattle.xt_messages.specs.declared.event.Event.TheVariants as event
use Rattle.xt_messages.specs.declared.event.Outcome.{Outcome}
use Rattle.xt_messages.specs.declared.event.Outcome.TheVariants as outcome
use Rattle.xt_messages.specs.declared.message.Payload.{Payload}
use Rattle.xt_messages.specs.declared.message.Payload.TheVariants as payload
use Rattle.xt_messages.specs.declared.meta.MetaAnswer.{MetaAnswer}
use Rattle.xt_messages.specs.declared.meta.MetaAnswer.TheVariants as answer
use Rattle.xt_messages.specs.declared.registry.RegistryAnswer.{RegistryAnswer}
use Rattle.xt_messages.specs.declared.reply.Reply.{Reply}
use Rattle.xt_messages.specs.declared.reply.Reply.TheVariants as reply
use Rattle.xt_messages.specs.declared.reply.Retry.{Retry}
use Rattle.xt_messages.specs.declared.reply.Retry.TheVariants as retry
use Rattle.xt_messages.specs.declared.status.AskRefusal.{AskRefusal}
use Rattle.xt_messages.specs.declared.status.AskRefusal.TheVariants as refusal
use Rattle.xt_messages.specs.Limits.{FitsNode, FitsCapability, FitsMark, FitsOp, FitsMetaAnswer, FitsPayload, FitsReply, FitsMessage, FitsEvent}
use Rattle.truncate_epochs.specs.SizeMarks.{is_smaller, merged}
use Rattle.object_versions.proofs.HeadLimits.{either, when}
use Rattle.client_rows.specs.declared.ClientState.{ClientState}
use Rattle.client_rows.specs.Clients.{ClientSite, raised, step_of_client}
use Rattle.client_rows.specs.Steps.{Step}
use Rattle.client_rows.specs.Ends.{ended_by}
use Rattle.client_rows.specs.declared.holding.HeldFile.{HeldFile}
use Rattle.client_rows.specs.declared.progress.Learnt.{Learnt}
use Rattle.client_rows.specs.declared.progress.Learnt.TheVariants as learnt
use Rattle.client_rows.specs.declared.progress.Next.{Next}
use Rattle.client_rows.specs.declared.progress.Next.TheVariants as next
use Rattle.client_rows.specs.declared.progress.Progress.{Progress}
use Rattle.client_rows.specs.declared.requests.Request.{Request}
use Rattle.client_rows.specs.declared.requests.Request.TheVariants as request
use Rattle.client_rows.specs.declared.requests.CallResult.{CallResult}
use Rattle.client_rows.specs.declared.requests.CallResult.TheVariants as result
use Rattle.client_rows.specs.declared.requests.Stage.{Stage}
use Rattle.client_rows.specs.declared.requests.Stage.TheVariants as stage
use Rattle.client_rows.specs.declared.requests.MadeCall.{MadeCall}
use Rattle.client_rows.specs.Holding.{Held, held_of, joined_with, mark_with, holds, marked, joins}
use Rattle.client_rows.specs.Requests as asked_by
use Rattle.client_rows.specs.Waiting as waiting
use Rattle.client_rows.specs.Rows as rows
use Rattle.client_rows.specs.Rows.{WholeClient}
use Rattle.client_limits.specs.Fits.{FitsCall, FitsRequest, FitsHeldFile, FitsMade, FitsReplicas, FitsClient, FitsStep}
use Rattle.client_limits.proofs.Messages.{sent}
use Rattle.client_limits.proofs.Replicas.{CallsFit, moved_fits, left_fits, learns_fits, raised_fits, first_fits, replicas_step, replicas_call, replicas_again}

pub new_fits : (clock first : ℕ) → FitsClient (record {
  replicas = record { last = clock; next = first; running = None; files = [] };
  held = [];
  made = None;
})
new_fits clock first = record { calls = record { call = tt; known = tt }; holds = tt; last = tt }

-- ---- what is held

abbrev AreHeld : Held → Type 0
AreHeld held = AllByRecursion (λ (e : ℕ × HeldFile). FitsHeldFile e.1) held

found_fits : (held : Held) (file : ℕ) → AreHeld held → IfSome (held_of held file) FitsHeldFile
found_fits [] file all = tt
found_fits (e ∷ es) file all = at (is_eq (nat_cmp file e.0)) (found_fits es file all.1)
  where
    at : (same : Bool) → IfSome (held_of es file) FitsHeldFile → IfSome (cond same (Some e.1) (lookup (λ n. is_eq (nat_cmp file n)) es)) FitsHeldFile
    at true later = all.0
    at false later = later

put_fits : (held : Held) (file : ℕ) (one : HeldFile) → AreHeld held → FitsHeldFile one → AreHeld (insert_entry nat_cmp held file one)
put_fits [] file one all is = (is, tt)
put_fits (e ∷ es) file one all is = at (nat_cmp file e.0) (put_fits es file one all.1 is)
  where
    at : (o : Ordering) → AreHeld (insert_entry nat_cmp es file one)
        → AreHeld (match_ordering o ((file, one) ∷ e ∷ es) ((e.0, one) ∷ es) (e ∷ insert_entry nat_cmp es file one))
    at Less later = (is, all)
    at Equal later = (is, all.1)
    at Greater later = (all.0, later)

merged_fits : (a b : SizeMark) → FitsMark a → FitsMark b → FitsMark (merged a b)
merged_fits a b x y = either FitsMark (is_smaller a b) b a y x

joined_fits : (o : Option HeldFile) (mark : SizeMark) → IfSome o FitsHeldFile → FitsMark mark → FitsMark (joined_with o mark)
joined_fits None mark held fits = fits
joined_fits (Some h) mark held fits = merged_fits h.mark mark held.size fits

mark_fits : (held : Held) (file : ℕ) (mark : SizeMark) → AreHeld held → FitsMark mark → FitsMark (mark_with held file mark)
mark_fits held file mark all fits = joined_fits (held_of held file) mark (found_fits held file all) fits

pub holds_fits : (held : Held) (capability : Capability) (mark : SizeMark) → AreHeld held → FitsCapability capability → FitsMark mark → AreHeld (holds held capability mark)
holds_fits held capability mark all right fits =
    put_fits held capability.file.number (record { capability = capability; mark = mark_with held capability.file.number mark }) all
    (record { right = right; size = mark_fits held capability.file.number mark all fits })

marked_fits : (held : Held) (file : ℕ) (mark : SizeMark) (o : Option HeldFile) → AreHeld held → IfSome o FitsHeldFile → FitsMark mark → AreHeld (marked held file mark o)
marked_fits held file mark None all one fits = all
marked_fits held file mark (Some h) all one fits =
    put_fits held file (record { capability = h.capability; mark = merged h.mark mark }) all
    (record { right = one.right; size = merged_fits h.mark mark one.size fits })

joins_fits : (held : Held) (file : ℕ) (mark : SizeMark) → AreHeld held → FitsMark mark → AreHeld (joins held file mark)
joins_fits held file mark all fits = marked_fits held file mark (held_of held file) all (found_fits held file all) fits

-- ---- what is learnt, and whom is asked next

abbrev LearntFits : Learnt → Type 0
LearntFits learnt.Nothing = Unit {0}
LearntFits (learnt.Mark file mark) = FitsMark mark
LearntFits (learnt.Capability capability mark) = FitsCapability capability × FitsMark mark
LearntFits (learnt.Epoch file epoch) = IsCount epoch

abbrev NextFits : Next → Type 0
NextFits (next.Ask node) = FitsNode node
NextFits _ = Unit {0}

abbrev GoesFits : Progress → Type 0
GoesFits p = LearntFits p.learnt × NextFits p.next

learnt_held : (held : Held) (l : Learnt) → AreHeld held → LearntFits l → AreHeld (rows.holds_learnt held l)
learnt_held held learnt.Nothing all fits = all
learnt_held held (learnt.Mark file mark) all fits = joins_fits held file mark all fits
learnt_held held (learnt.Capability capability mark) all fits = holds_fits held capability mark all fits.0 fits.1
learnt_held held (learnt.Epoch file epoch) all fits = all

learnt_known : (c : ClientState) (l : Learnt) → FitsReplicas c → LearntFits l → FitsReplicas (rows.knows_learnt c l)
learnt_known c learnt.Nothing is fits = is
learnt_known c (learnt.Mark file mark) is fits = is
learnt_known c (learnt.Capability capability mark) is fits = is
learnt_known c (learnt.Epoch file epoch) is fits =
    learns_fits c file (raised epoch) is (λ known fine. raised_fits epoch known fits fine)

get_fits : (members : List NodeId) (i : ℕ) → AllByRecursion FitsNode members → IfSome (slice_get members i) FitsNode
get_fits [] i all = tt
get_fits (m ∷ ms) zero all = all.0
get_fits (m ∷ ms) (suc i) all = get_fits ms i all.1

nobody_fits : (o : Option NodeId) → IfSome o FitsNode → FitsNode (asked_by.or_nobody o)
nobody_fits None is = omega arith
nobody_fits (Some node) is = is

first_of_fits : (members : List NodeId) (asked : Op) → AllByRecursion FitsNode members → FitsNode (asked_by.first_of members asked)
first_of_fits members (op.Read object at len) all = nobody_fits (slice_get members (object % length members)) (get_fits members (object % length members) all)
first_of_fits members (op.Write object at bytes) all = nobody_fits (slice_get members (object % length members)) (get_fits members (object % length members) all)
first_of_fits members (op.Truncate size) all = first_fits members all

first_asked_fits : (asked : Request) → FitsRequest asked → FitsNode (asked_by.first_asked asked)
first_asked_fits (request.Replicated capability asked) fits = first_of_fits capability.location.members asked fits.0.place.nodes.each
first_asked_fits (request.Striped capability asked) fits = first_of_fits capability.location.members asked fits.0.place.nodes.each
first_asked_fits (request.Meta user group asked) fits = omega arith
first_asked_fits (request.Registry asked) fits = omega arith

member_after_fits : (members : List NodeId) (node : NodeId) → AllByRecursion FitsNode members → IfSome (asked_by.member_after members node) FitsNode
member_after_fits [] node all = tt
member_after_fits (m ∷ ms) node all =
    either (λ o. IfSome o FitsNode) (m.0 == node.0) (slice_get ms 0) (asked_by.member_after ms node) (get_fits ms 0 all.1) (member_after_fits ms node all.1)

next_asked_fits : (members : List NodeId) (asked : Op) (target : NodeId) → AllByRecursion FitsNode members → IfSome (asked_by.next_asked members asked target) FitsNode
next_asked_fits members (op.Read object at len) target all = tt
next_asked_fits members (op.Write object at bytes) target all = tt
next_asked_fits members (op.Truncate size) target all = member_after_fits members target all

or_ends_fits : (o : Option NodeId) (how : CallResult) → IfSome o FitsNode → NextFits (waiting.asks_or_ends o how)
or_ends_fits None how is = tt
or_ends_fits (Some node) how is = is

-- ---- what is sent

payload_fits : (number : ℕ) (asked : Request) → IsCount number → FitsRequest asked → FitsPayload (asked_by.payload_of number asked)
payload_fits number (request.Replicated capability asked) small fits = (small, fits.0, fits.1)
payload_fits number (request.Striped capability asked) small fits = (small, fits.0, fits.1)
payload_fits number (request.Meta user group asked) small fits = (small, fits.0, fits.1, fits.2)
payload_fits number (request.Registry asked) small fits = (small, fits)

asks_fit : (node : NodeId) (number : ℕ) (asked : Request) (target : NodeId) → FitsNode node → IsCount number → FitsRequest asked → FitsNode target
    → AllByRecursion FitsMessage (asked_by.asks node number asked target)
asks_fit node number asked target who small fits to =
    (sent node target (asked_by.payload_of number asked) who to (payload_fits number asked small fits), tt)

sent_fits : (node : NodeId) (made : MadeCall) (n : Next) → FitsNode node → FitsMade made → NextFits n → AllByRecursion FitsMessage (rows.sent node made n)
sent_fits node made next.Wait who fits goes = tt
sent_fits node made (next.Ask target) who fits goes = asks_fit node made.number made.request target who fits.place fits.asks goes
sent_fits node made (next.End how) who fits goes = tt

proceeds_fits : (site : ClientSite) (client : WholeClient) (made : MadeCall) (comes : Progress) → FitsNode site.node → FitsClient client → FitsMade made → GoesFits comes
    → FitsStep (rows.proceeds site client made comes)
proceeds_fits site client made comes who is fits goes = record {
  client = record {
    calls = learnt_known client.replicas comes.learnt is.calls goes.0;
    holds = learnt_held client.held comes.learnt is.holds goes.0;
    last = record { place = fits.place; asks = fits.asks };
  };
  messages = sent_fits site.node made comes.next who fits goes.1;
  keeps_none = refl;
}

-- ---- while a call waits

waits_on_fits : GoesFits waiting.waits_on
waits_on_fits = (tt, tt)

away_fits : (target from : NodeId) (how : Retry) → GoesFits (waiting.striped_away target from how)
away_fits target from how = either GoesFits (from.0 == target.0) (waiting.gives_up target how) waiting.waits_on (tt, tt) waits_on_fits

refused_fits : (l : Learnt) (capability : Capability) (asked : Op) (target from : NodeId) (why : AskRefusal) → LearntFits l
    → GoesFits (waiting.striped_refused l capability asked target from why)
refused_fits l capability asked target from why fits =
    either GoesFits (asked_by.was_asked capability.location.members asked target from) (record { learnt = l; next = next.End (result.Refused why) }) waiting.waits_on
    (fits, tt) waits_on_fits

reply_fits : (held : Held) (capability : Capability) (asked : Op) (target from : NodeId) (content : Reply) → AreHeld held → FitsCapability capability → FitsReply content
    → GoesFits (waiting.reply_comes held capability asked target from content)
reply_fits held capability asked target from (reply.Ok count size bytes) all right fits =
    either GoesFits (from.0 == target.0) (waiting.served held capability asked target count size bytes) waiting.waits_on
    (fits.1, or_ends_fits (asked_by.next_asked capability.location.members asked target) _ (next_asked_fits capability.location.members asked target right.place.nodes.each))
    waits_on_fits
reply_fits held capability asked target from (reply.NoLease end) all right fits = away_fits target from (retry.NoLease end)
reply_fits held capability asked target from (reply.NoMajority have need) all right fits = away_fits target from (retry.NoMajority have need)
reply_fits held capability asked target from (reply.Elsewhere node end) all right fits = away_fits target from (retry.Elsewhere node end)
reply_fits held capability asked target from (reply.Denied why) all right fits = refused_fits learnt.Nothing capability asked target from (refusal.Denied why) tt
reply_fits held capability asked target from (reply.OldList version) all right fits = refused_fits learnt.Nothing capability asked target from (refusal.OldList version) tt
reply_fits held capability asked target from (reply.OldEpoch epoch) all right fits =
    refused_fits (learnt.Epoch capability.file epoch) capability asked target from (refusal.OldEpoch epoch) fits
reply_fits held capability asked target from (reply.TooFar object) all right fits = refused_fits learnt.Nothing capability asked target from (refusal.TooFar object) tt
reply_fits held capability asked target from reply.ClientsFull all right fits = refused_fits learnt.Nothing capability asked target from refusal.ClientsFull tt

reply_to_fits : (held : Held) (asked : Request) (target from : NodeId) (content : Reply) → AreHeld held → FitsRequest asked → FitsReply content
    → GoesFits (waiting.reply_to held asked target from content)
reply_to_fits held (request.Replicated capability asked) target from content all is fits = waits_on_fits
reply_to_fits held (request.Striped capability asked) target from content all is fits = reply_fits held capability asked target from content all is.0 fits
reply_to_fits held (request.Meta user group asked) target from content all is fits = waits_on_fits
reply_to_fits held (request.Registry asked) target from content all is fits = waits_on_fits

granted_fits : (told : MetaAnswer) → FitsMetaAnswer told → LearntFits (waiting.granted told)
granted_fits (answer.Granted capability mark) fits = fits
granted_fits _ fits = tt

meta_fits : (asked : Request) (told : MetaAnswer) → FitsMetaAnswer told → GoesFits (waiting.meta_comes asked told)
meta_fits (request.Replicated capability asked) told fits = waits_on_fits
meta_fits (request.Striped capability asked) told fits = waits_on_fits
meta_fits (request.Meta user group asked) told fits = (granted_fits told fits, tt)
meta_fits (request.Registry asked) told fits = waits_on_fits

registry_fits : (asked : Request) (told : RegistryAnswer) → GoesFits (waiting.registry_comes asked told)
registry_fits (request.Replicated capability asked) told = waits_on_fits
registry_fits (request.Striped capability asked) told = waits_on_fits
registry_fits (request.Meta user group asked) told = waits_on_fits
registry_fits (request.Registry asked) told = (tt, tt)

message_fits : (held : Held) (made : MadeCall) (target from : NodeId) (content : Payload) → AreHeld held → FitsMade made → FitsPayload content
    → GoesFits (waiting.message_comes held made target from content)
message_fits held made target from (payload.Reply number file content) all is fits =
    either GoesFits (number == made.number) (waiting.reply_to held made.request target from content) waiting.waits_on
    (reply_to_fits held made.request target from content all is.asks fits.2) waits_on_fits
message_fits held made target from (payload.MetaReply number told) all is fits =
    either GoesFits (number == made.number && from.0 == target.0) (waiting.meta_comes made.request told) waiting.waits_on
    (meta_fits made.request told fits.1) waits_on_fits
message_fits held made target from (payload.RegistryReply number told) all is fits =
    either GoesFits (number == made.number && from.0 == target.0) (waiting.registry_comes made.request told) waiting.waits_on
    (registry_fits made.request told) waits_on_fits
message_fits held made target from _ all is fits = waits_on_fits

event_fits : (now : ℕ) (held : Held) (made : MadeCall) (target : NodeId) (deadline : ℕ) (happens : Event) → AreHeld held → FitsMade made → FitsEvent happens
    → GoesFits (waiting.event_comes now held made target deadline happens)
event_fits now held made target deadline (event.Deliver msg) all is fits = message_fits held made target msg.from msg.payload all is fits.content
event_fits now held made target deadline event.Wake all is fits =
    either GoesFits _ (waiting.gives_up target retry.Silent) waiting.waits_on (tt, tt) waits_on_fits
event_fits now held made target deadline (event.Call c) all is fits = waits_on_fits

-- ---- a call on a replicated file

told_fits : (happens : Event) → FitsEvent happens → FitsMark (rows.mark_told happens)
told_fits event.Wake fits = no_bytes
  where
    no_bytes : FitsMark (record { epoch = 0; size = 0 })
    no_bytes = record { truncation = omega arith; bytes = omega arith }
told_fits (event.Call c) fits = no_bytes
  where
    no_bytes : FitsMark (record { epoch = 0; size = 0 })
    no_bytes = record { truncation = omega arith; bytes = omega arith }
told_fits (event.Deliver msg) fits = in_message msg.payload fits.content
  where
    no_bytes : FitsMark (record { epoch = 0; size = 0 })
    no_bytes = record { truncation = omega arith; bytes = omega arith }

    in_reply : (content : Reply) → FitsReply content → FitsMark (rows.mark_of content)
    in_reply (reply.Ok count size bytes) fits = fits.1
    in_reply _ fits = no_bytes

    in_message : (content : Payload) → FitsPayload content → FitsMark (rows.mark_in content)
    in_message (payload.Reply number file content) fits = in_reply content fits.2
    in_message _ fits = no_bytes

held_behind_fits : (held : Held) (file : ℕ) (size : SizeMark) (how : Outcome) → AreHeld held → FitsMark size → AreHeld (rows.held_behind held file size how)
held_behind_fits held file size (outcome.Ok count bytes) all fits = joins_fits held file size all fits
held_behind_fits held file size (outcome.Retry answers) all fits = all
held_behind_fits held file size (outcome.Refused why) all fits = all
held_behind_fits held file size (outcome.Meta what) all fits = all
held_behind_fits held file size (outcome.Registry what) all fits = all

ended_so_fits : (made : MadeCall) (o : Option CallResult) → FitsMade made → FitsMade (rows.ended_so made o)
ended_so_fits made None fits = fits
ended_so_fits made (Some how) fits = record { place = fits.place; asks = fits.asks }

behind_fits : (client : WholeClient) (made : Option MadeCall) (size : SizeMark) (how : Option Outcome) → FitsClient client → IfSome made FitsMade → FitsMark size
    → FitsClient (rows.behind client made size how)
behind_fits client None size how is last fits = is
behind_fits client (Some made) size None is last fits = is
behind_fits client (Some made) size (Some how) is last fits = record {
  calls = is.calls;
  holds = held_behind_fits client.held (asked_by.file_of made.request) size how is.holds fits;
  last = ended_so_fits made (rows.result_behind client.held (asked_by.file_of made.request) size how) last;
}

replicas_step_fits : (node : NodeId) (times : TimeSettings) (client : WholeClient) (reading : ℕ) (happens : Event) → FitsNode node → FitsClient client → FitsEvent happens
    → FitsStep (rows.replicas_step node times client reading happens)
replicas_step_fits node times client reading happens who is fits =
    let one = replicas_step node times client.replicas reading happens who is.calls fits in
    let step = step_of_client node times client.replicas reading happens in
    record {
      client = behind_fits (record client { replicas = step.state }) client.made (rows.mark_told happens) (ended_by None step.turned.marks)
          (record { calls = one.calls; holds = is.holds; last = is.last }) is.last (told_fits happens fits);
      messages = one.messages;
      keeps_none = one.keeps_none;
    }

-- ---- the client

passes_fits : (client : WholeClient) (reading : ℕ) → FitsClient client → FitsStep (rows.passes client reading)
passes_fits client reading is = record {
  client = record { calls = moved_fits client.replicas (rows.clock_of client reading) client.replicas.next is.calls; holds = is.holds; last = is.last };
  messages = tt;
  keeps_none = refl;
}

waits_fit : (node : NodeId) (times : TimeSettings) (client : WholeClient) (reading : ℕ) (happens : Event) (made : MadeCall) (target : NodeId) (deadline : ℕ)
    → FitsNode node → FitsClient client → FitsMade made → FitsEvent happens
    → FitsStep (rows.waits (rows.site_of node times client reading) (rows.at_clock client (rows.clock_of client reading)) made target deadline happens)
waits_fit node times client reading happens made target deadline who is fits comes =
    let now = rows.clock_of client reading in
    proceeds_fits (rows.site_of node times client reading) (rows.at_clock client now) made (waiting.event_comes now client.held made target deadline happens) who
    (record { calls = moved_fits client.replicas now client.replicas.next is.calls; holds = is.holds; last = is.last }) fits
    (event_fits now client.held made target deadline happens is.holds fits comes)

goes_on_fits : (node : NodeId) (times : TimeSettings) (client : WholeClient) (reading : ℕ) (happens : Event) (made : MadeCall) (s : Stage) → FitsNode node → FitsClient client
    → FitsMade made → FitsEvent happens → FitsStep (rows.goes_on node times client reading happens made s)
goes_on_fits node times client reading happens made stage.OnReplicas who is fits comes = replicas_step_fits node times client reading happens who is comes
goes_on_fits node times client reading happens made (stage.Waiting target deadline) who is fits comes =
    waits_fit node times client reading happens made target deadline who is fits comes
goes_on_fits node times client reading happens made (stage.Ended how) who is fits comes = passes_fits client reading is

goes_with_fits : (node : NodeId) (times : TimeSettings) (client : WholeClient) (reading : ℕ) (happens : Event) (o : Option MadeCall) → FitsNode node → FitsClient client
    → IfSome o FitsMade → FitsEvent happens → FitsStep (rows.goes_on_with node times client reading happens o)
goes_with_fits node times client reading happens None who is fits comes = passes_fits client reading is
goes_with_fits node times client reading happens (Some made) who is fits comes = goes_on_fits node times client reading happens made made.stage who is fits comes

pub stepped_fits : (node : NodeId) (times : TimeSettings) (client : WholeClient) (reading : ℕ) (happens : Event) → FitsNode node → FitsClient client → FitsEvent happens
    → FitsStep (rows.stepped node times client reading happens)
unfolding rows.stepped
stepped_fits node times client reading happens who is comes = goes_with_fits node times client reading happens client.made who is is.last comes

-- ---- a call

on_file_fits : (k : Kind) (capability : Capability) (asked : Op) → FitsCapability capability → FitsOp asked → FitsRequest (asked_by.on_file k capability asked)
on_file_fits kind.Replicated capability asked right fits = (right, fits)
on_file_fits kind.Striped capability asked right fits = (right, fits)

under_fits : (asked : Op) (o : Option HeldFile) → FitsOp asked → IfSome o FitsHeldFile → IfSome (asked_by.under_held asked o) FitsRequest
under_fits asked None fits held = tt
under_fits asked (Some h) fits held = on_file_fits h.capability.location.kind h.capability asked held.right fits

report_fits : (user group : ℕ) (o : Option HeldFile) → user < 2 ^ 32 → group < 2 ^ 32 → IfSome o FitsHeldFile → IfSome (asked_by.report_of user group o) FitsRequest
report_fits user group None u g held = tt
report_fits user group (Some h) u g held = (u, g, (held.right, held.size))

request_fits : (held : Held) (c : Call) → AreHeld held → FitsCall c → IfSome (asked_by.request_of held c) FitsRequest
request_fits held (call.Read file object at len) all fits = under_fits (op.Read object at len) (held_of held file) fits (found_fits held file all)
request_fits held (call.Write file object at bytes) all fits = under_fits (op.Write object at bytes) (held_of held file) fits (found_fits held file all)
request_fits held (call.Truncate file size epoch) all fits = under_fits (op.Truncate size) (held_of held file) fits (found_fits held file all)
request_fits held (call.Meta user group asked) all fits = fits
request_fits held (call.Report user group file) all fits = report_fits user group (held_of held file) fits.0 fits.1 (found_fits held file all)
request_fits held (call.Registry asked) all fits = fits

made_fits : (times : TimeSettings) (client : WholeClient) (reading number : ℕ) (asked : Request) (step : Step ClientState) → FitsClient client → IsCount number → FitsRequest asked
    → CallsFit step → FitsStep (rows.has_started times client reading number asked step)
made_fits times client reading number asked step is small fits start = record {
  client = record { calls = start.calls; holds = is.holds; last = record { place = small; asks = fits } };
  messages = start.messages;
  keeps_none = start.keeps_none;
}

starts_fit : (node : NodeId) (times : TimeSettings) (c : ClientState) (reading : ℕ) (k : Call) (asked : Request) → FitsNode node → FitsReplicas c → IsCount c.next → FitsRequest asked
    → CallsFit (rows.starts node times c reading k asked)
starts_fit node times c reading k (request.Replicated capability asked) who is small fits =
    replicas_call node times c reading capability k asked who is fits.0 fits.1
starts_fit node times c reading k (request.Striped capability asked) who is small fits = record {
  calls = moved_fits c (max reading c.last) (c.next + 1) is;
  messages = asks_fit node c.next (request.Striped capability asked) _ who small fits (first_asked_fits (request.Striped capability asked) fits);
  keeps_none = refl;
}
starts_fit node times c reading k (request.Meta user group asked) who is small fits = record {
  calls = moved_fits c (max reading c.last) (c.next + 1) is;
  messages = asks_fit node c.next (request.Meta user group asked) _ who small fits (first_asked_fits (request.Meta user group asked) fits);
  keeps_none = refl;
}
starts_fit node times c reading k (request.Registry asked) who is small fits = record {
  calls = moved_fits c (max reading c.last) (c.next + 1) is;
  messages = asks_fit node c.next (request.Registry asked) _ who small fits (first_asked_fits (request.Registry asked) fits);
  keeps_none = refl;
}

asked_for_fits : (node : NodeId) (times : TimeSettings) (client : WholeClient) (reading : ℕ) (k : Call) (o : Option Request) → FitsNode node → FitsClient client
    → IsCount client.replicas.next → IfSome o FitsRequest → FitsStep (rows.asked_for node times client reading k o)
asked_for_fits node times client reading k None who is small fits = passes_fits client reading is
asked_for_fits node times client reading k (Some asked) who is small fits =
    made_fits times client reading client.replicas.next asked (rows.starts node times client.replicas reading k asked) is small fits
    (starts_fit node times client.replicas reading k asked who is.calls small fits)

pub called_fits : (node : NodeId) (times : TimeSettings) (client : WholeClient) (reading : ℕ) (k : Call) → FitsNode node → FitsClient client → FitsCall k
    → FitsStep (rows.called node times client reading k)
unfolding rows.called
called_fits node times client reading k who is fits =
    when FitsStep (nat_lt client.replicas.next COUNTS) (rows.asked_for node times client reading k (asked_by.request_of client.held k)) (rows.passes client reading)
    (λ room. asked_for_fits node times client reading k (asked_by.request_of client.held k) who is (left_fits client.replicas.next room) (request_fits client.held k is.holds fits))
    (λ full. passes_fits client reading is)

-- ---- the last call again

again_starts : (node : NodeId) (times : TimeSettings) (c : ClientState) (reading number : ℕ) (asked : Request) → FitsNode node → FitsReplicas c → IsCount number → FitsRequest asked
    → CallsFit (rows.starts_again node times c reading number asked)
again_starts node times c reading number (request.Replicated capability asked) who is small fits =
    replicas_again node times c reading number capability asked who is small fits.0 fits.1
again_starts node times c reading number (request.Striped capability asked) who is small fits = record {
  calls = moved_fits c (max reading c.last) c.next is;
  messages = asks_fit node number (request.Striped capability asked) _ who small fits (first_asked_fits (request.Striped capability asked) fits);
  keeps_none = refl;
}
again_starts node times c reading number (request.Meta user group asked) who is small fits = record {
  calls = moved_fits c (max reading c.last) c.next is;
  messages = asks_fit node number (request.Meta user group asked) _ who small fits (first_asked_fits (request.Meta user group asked) fits);
  keeps_none = refl;
}
again_starts node times c reading number (request.Registry asked) who is small fits = record {
  calls = moved_fits c (max reading c.last) c.next is;
  messages = asks_fit node number (request.Registry asked) _ who small fits (first_asked_fits (request.Registry asked) fits);
  keeps_none = refl;
}

repeated_fits : (node : NodeId) (times : TimeSettings) (client : WholeClient) (reading : ℕ) (o : Option MadeCall) → FitsNode node → FitsClient client → IfSome o FitsMade
    → FitsStep (rows.repeated node times client reading o)
repeated_fits node times client reading None who is fits = passes_fits client reading is
repeated_fits node times client reading (Some made) who is fits =
    made_fits times client reading made.number made.request (rows.starts_again node times client.replicas reading made.number made.request) is fits.place fits.asks
    (again_starts node times client.replicas reading made.number made.request who is.calls fits.place fits.asks)

pub again_fits : (node : NodeId) (times : TimeSettings) (client : WholeClient) (reading : ℕ) → FitsNode node → FitsClient client
    → FitsStep (rows.called_again node times client reading)
unfolding rows.called_again
again_fits node times client reading who is = repeated_fits node times client reading client.made who is is.last
