-- the calls of a client on replicated files stay within their limits, row by row
use Rattle.std.proofs.Common.{◌≡◌, ◌==◌, ◌||◌, ◌&&◌, ◌<◌, ◌+◌, ◌^◌, max, ℕ, nat_lt, nat_le, List, [], ◌∷◌, refl, subst, Option, Some, None, Bool, true, false, cond, arith}
use Rattle.std.specs.Prelude.{not, filter, unwrap_or}
use Rattle.std.specs.Option.{IfSome}
use Rattle.std.specs.List.{AllByRecursion}
use Rattle.std.specs.Map.{lookup}
use Rattle.std.specs.Ordering.{is_eq, match_ordering}
use Rattle.std.specs.declared.cmp.Ordering.{Ordering}
use Rattle.std.specs.declared.cmp.Ordering.TheVariants.{Less, Equal, Greater}
use Rattle.std.proofs.lemmas.Bool.{eqb-true}
use Rattle.std.proofs.lemmas.Bool.Decides.{nat_tests}
use Rattle.xt_base.specs.FieldLimits.{IsCount}
use Rattle.xt_base.specs.MemberList.{has_node}
use Rattle.xt_base.specs.TimeSettings.{TimeSettings}
use Rattle.xt_base.specs.declared.TheConstants.{COUNTS}
use Rattle.xt_base.specs.declared.ids.NodeId.{NodeId}
use Rattle.xt_base.specs.declared.ids.FileId.{FileId}
use Rattle.xt_messages.specs.declared.file.Capability.{Capability}
use Rattle.xt_messages.specs.declared.file.Op.{Op}
use Rattle.xt_messages.specs.declared.event.Call.{Call}
use Rattle.xt_messages.specs.declared.event.Event.{Event}
use Rattle.xt_messages.specs.declared.event.Event.TheVariants as event
use Rattle.xt_messages.specs.declared.event.Outcome.{Outcome}
use Rattle.xt_messages.specs.declared.event.Outcome.TheVariants as outcome
use Rattle.xt_messages.specs.declared.message.Payload.{Payload}
use Rattle.xt_messages.specs.declared.message.Payload.TheVariants as payload
use Rattle.xt_messages.specs.declared.reply.Reply.{Reply}
use Rattle.xt_messages.specs.declared.reply.Reply.TheVariants as reply
use Rattle.xt_messages.specs.declared.reply.Retry.{Retry}
use Rattle.xt_messages.specs.declared.reply.Retry.TheVariants as retry
use Rattle.xt_messages.specs.Limits.{FitsNode, FitsCapability, FitsOp, FitsPayload, FitsReply, FitsMessage, FitsEvent}
use Rattle.xt_protocol.specs.FileIds.{file_cmp}
use Rattle.object_versions.proofs.HeadLimits.{either, when}
use Rattle.client_rows.specs.declared.ClientState.{ClientState}
use Rattle.client_rows.specs.declared.KnownFile.{KnownFile}
use Rattle.client_rows.specs.declared.RunningCall.{RunningCall}
use Rattle.client_rows.specs.Again.{again_of_client}
use Rattle.client_rows.specs.Clients.{ClientSite, KnownFiles, unknown, known_in, with_known, knows, aimed, raised, first_member, first_target, asks, new_call, begins_call, call_comes, call_of_client, ends_call, was_tried, with_outcome, named, next_of, turned_away, turned_away_by, answered, reply_comes, message_comes, wakes, event_comes, step_of_client, answers_in}
use Rattle.client_rows.specs.Steps.{Step, stays}
use Rattle.client_limits.specs.Fits.{FitsRunning, FitsKnown, FitsReplicas}
use Rattle.client_limits.proofs.Lists.{all_filter}
use Rattle.client_limits.proofs.Messages.{sent}

-- what a step of these calls gives
pub record CallsFit (step : Step ClientState) : Type 0 where
  pub calls : FitsReplicas step.state
  pub messages : AllByRecursion FitsMessage step.turned.outs
  pub keeps_none : step.turned.rec ≡ None

-- the same at another clock, or with another next number
pub moved_fits : (c : ClientState) (last next : ℕ) → FitsReplicas c → FitsReplicas (record c { last = last; next = next })
moved_fits c last next is = record { call = is.call; known = is.known }

-- a number that is left is within the limits
pub left_fits : (n : ℕ) → nat_lt n COUNTS ≡ true → IsCount n
left_fits n less = grind (arith, nat_tests)

-- ---- known files

abbrev AreKnown : KnownFiles → Type 0
AreKnown files = AllByRecursion (λ (e : FileId × KnownFile). FitsKnown e.1) files

pub known_fits : (files : KnownFiles) (file : FileId) → AreKnown files → FitsKnown (known_in files file)
known_fits [] file all = omega arith
known_fits (e ∷ es) file all = at (is_eq (file_cmp file e.0)) (known_fits es file all.1)
  where
    at : (same : Bool) → FitsKnown (known_in es file) → FitsKnown (unwrap_or (cond same (Some e.1) (lookup (λ other. is_eq (file_cmp file other)) es)) unknown)
    at true later = all.0
    at false later = later

put_known : (files : KnownFiles) (file : FileId) (known : KnownFile) → AreKnown files → FitsKnown known → AreKnown (with_known files file known)
put_known [] file known all is = (is, tt)
put_known (e ∷ es) file known all is = at (file_cmp file e.0) (put_known es file known all.1 is)
  where
    at : (o : Ordering) → AreKnown (with_known es file known)
        → AreKnown (match_ordering o ((file, known) ∷ e ∷ es) ((e.0, known) ∷ es) (e ∷ with_known es file known))
    at Less later = (is, all)
    at Equal later = (is, all.1)
    at Greater later = (all.0, later)

pub learns_fits : (c : ClientState) (file : FileId) (learns : KnownFile → KnownFile) → FitsReplicas c
    → ((known : KnownFile) → FitsKnown known → FitsKnown (learns known)) → FitsReplicas (knows c file learns)
learns_fits c file learns is still = record {
  call = is.call;
  known = put_known c.files file (learns (known_in c.files file)) is.known (still (known_in c.files file) (known_fits c.files file is.known));
}

pub raised_fits : (epoch : ℕ) (known : KnownFile) → IsCount epoch → FitsKnown known → FitsKnown (raised epoch known)
raised_fits epoch known fits is = both known.epoch epoch is fits
  where
    both : (a b : ℕ) → a < 2 ^ 62 → b < 2 ^ 62 → max a b < 2 ^ 62
    both a b x y = omega arith

-- ---- targets

-- a node that stands among members
listed_fits : (members : List NodeId) (n : ℕ) → AllByRecursion FitsNode members → has_node members n ≡ true → n < 2 ^ 32
listed_fits [] n all is = absurd cc
listed_fits (m ∷ ms) n all is = at (m.0 == n) refl is (listed_fits ms n all.1)
  where
    at : (b : Bool) → (m.0 == n) ≡ b → (b || has_node ms n) ≡ true → (has_node ms n ≡ true → n < 2 ^ 32) → n < 2 ^ 32
    at true same there later = subst (λ (k : ℕ). k < 2 ^ 32) (eqb-true m.0 n same) all.0
    at false other there later = later there

pub first_fits : (members : List NodeId) → AllByRecursion FitsNode members → FitsNode (first_member members)
first_fits [] all = omega arith
first_fits (m ∷ ms) all = all.0

target_fits : (members : List NodeId) (o : Option NodeId) → AllByRecursion FitsNode members → FitsNode (first_target members o)
target_fits members None all = first_fits members all
target_fits members (Some node) all =
    when FitsNode (has_node members node.0) node (first_member members) (λ there. listed_fits members node.0 all there) (λ strange. first_fits members all)

next_fits : (hint : Option NodeId) (members : List NodeId) → AllByRecursion FitsNode members → IfSome (next_of hint members) FitsNode
next_fits hint [] all = tt
next_fits None (m ∷ ms) all = all.0
next_fits (Some node) (m ∷ ms) all =
    when (λ (o : Option NodeId). IfSome o FitsNode) (has_node (m ∷ ms) node.0) (Some node) (Some m) (λ there. listed_fits (m ∷ ms) node.0 all there) (λ strange. all.0)

-- ---- rows

module _ (site : ClientSite) (who : FitsNode site.node) where
  asks_fits : (c : ClientState) (k : RunningCall) (target : NodeId) → FitsReplicas c → FitsRunning k → FitsNode target → CallsFit (asks site c k target)
  asks_fits c k target is fits to = record {
    calls = record { call = record { place = fits.place; right = fits.right; asks = fits.asks }; known = is.known };
    messages = (sent site.node target (payload.Ask k.number k.capability k.op) who to (fits.place, fits.right, fits.asks), tt);
    keeps_none = refl;
  }

  ends_fits : (c : ClientState) (k : RunningCall) (how : Outcome) → FitsReplicas c → CallsFit (ends_call c k how)
  ends_fits c k how is = record { calls = record { call = tt; known = is.known }; messages = tt; keeps_none = refl }

  stays_fits : (c : ClientState) → FitsReplicas c → CallsFit (stays ClientState c)
  stays_fits c is = record { calls = is; messages = tt; keeps_none = refl }

  away_fits : (c : ClientState) (k : RunningCall) (how : Retry) → FitsReplicas c → FitsRunning k → CallsFit (turned_away site c k how)
  away_fits c k how is fits =
      at (next_of (named how) left)
      (next_fits (named how) left (all_filter FitsNode (λ (m : NodeId). not (was_tried (with_outcome k.tried k.target how) m)) k.capability.location.members fits.right.place.nodes.each))
    where
      left : List NodeId
      left = filter (λ (m : NodeId). not (was_tried (with_outcome k.tried k.target how) m)) k.capability.location.members

      at : (o : Option NodeId) → IfSome o FitsNode → CallsFit (elim o [
        | Some target ↦ asks site c (record k { tried = with_outcome k.tried k.target how }) target
        | None ↦ ends_call c k (outcome.Retry (answers_in (with_outcome k.tried k.target how) k.capability.location.members))
      ])
      at (Some target) to =
          asks_fits c (record k { tried = with_outcome k.tried k.target how }) target is (record { place = fits.place; right = fits.right; asks = fits.asks }) to
      at None to = ends_fits c k _ is

  away_by_fits : (c : ClientState) (k : RunningCall) (from : NodeId) (how : Retry) → FitsReplicas c → FitsRunning k → CallsFit (turned_away_by site c k from how)
  away_by_fits c k from how is fits =
      either CallsFit (from.0 == k.target.0) (turned_away site c k how) (stays ClientState c) (away_fits c k how is fits) (stays_fits c is)

  answered_fits : (c : ClientState) (k : RunningCall) (from : NodeId) (content : Reply) → FitsReplicas c → FitsRunning k → FitsReply content → CallsFit (answered site c k from content)
  answered_fits c k from (reply.Ok count size bytes) is fits told =
      ends_fits (knows c k.capability.file (aimed from)) k _ (learns_fits c k.capability.file (aimed from) is (λ known fine. fine))
  answered_fits c k from (reply.NoLease end) is fits told = away_by_fits c k from (retry.NoLease end) is fits
  answered_fits c k from (reply.NoMajority have need) is fits told = away_by_fits c k from (retry.NoMajority have need) is fits
  answered_fits c k from (reply.Elsewhere node end) is fits told = away_by_fits c k from (retry.Elsewhere node end) is fits
  answered_fits c k from (reply.Denied why) is fits told = ends_fits c k _ is
  answered_fits c k from (reply.OldList version) is fits told = ends_fits c k _ is
  answered_fits c k from (reply.OldEpoch epoch) is fits told =
      ends_fits (knows c k.capability.file (raised epoch)) k _ (learns_fits c k.capability.file (raised epoch) is (λ known fine. raised_fits epoch known told fine))
  answered_fits c k from (reply.TooFar object) is fits told = ends_fits c k _ is
  answered_fits c k from reply.ClientsFull is fits told = ends_fits c k _ is

  reply_fits : (c : ClientState) (o : Option RunningCall) (from : NodeId) (number : ℕ) (content : Reply) → FitsReplicas c → IfSome o FitsRunning → FitsReply content
      → CallsFit (reply_comes site c o from number content)
  reply_fits c None from number content is fits told = stays_fits c is
  reply_fits c (Some k) from number content is fits told =
      either CallsFit (number == k.number && was_tried k.tried from) (answered site c k from content) (stays ClientState c) (answered_fits c k from content is fits told) (stays_fits c is)

  message_fits : (c : ClientState) (from : NodeId) (content : Payload) → FitsReplicas c → FitsPayload content → CallsFit (message_comes site c from content)
  message_fits c from (payload.Reply number file content) is fits = reply_fits c c.running from number content is is.call fits.2
  message_fits c from _ is fits = stays_fits c is

  wakes_fits : (c : ClientState) (o : Option RunningCall) → FitsReplicas c → IfSome o FitsRunning → CallsFit (wakes site c o)
  wakes_fits c None is fits = stays_fits c is
  wakes_fits c (Some k) is fits =
      either CallsFit (nat_le k.deadline site.now) (turned_away site c k retry.Silent) (stays ClientState c) (away_fits c k retry.Silent is fits) (stays_fits c is)

  event_fits : (c : ClientState) (happens : Event) → FitsReplicas c → FitsEvent happens → CallsFit (event_comes site c happens)
  event_fits c (event.Deliver msg) is fits = message_fits c msg.from msg.payload is fits.content
  event_fits c event.Wake is fits = wakes_fits c c.running is is.call
  event_fits c (event.Call k) is fits = stays_fits c is

  begins_fits : (c : ClientState) (capability : Capability) (k : Call) (asked : Op) → FitsReplicas c → FitsCapability capability → FitsOp asked → CallsFit (call_comes site c capability k asked)
  begins_fits c capability k asked is right fits =
      when CallsFit (nat_lt c.next COUNTS) (begins_call site c capability k asked) (stays ClientState c)
      (λ room.
      let first = asks_fits (record c { next = c.next + 1 }) (new_call c capability asked) (first_target capability.location.members (known_in c.files capability.file).target)
      (record { call = is.call; known = is.known }) (record { place = left_fits c.next room; right = right; asks = fits }) (target_fits capability.location.members _ right.place.nodes.each) in
      record { calls = first.calls; messages = first.messages; keeps_none = refl })
      (λ full. stays_fits c is)

-- ---- steps

pub replicas_step : (node : NodeId) (times : TimeSettings) (c : ClientState) (reading : ℕ) (happens : Event) → FitsNode node → FitsReplicas c → FitsEvent happens
    → CallsFit (step_of_client node times c reading happens)
unfolding step_of_client
replicas_step node times c reading happens who is fits =
    let now = max reading c.last in
    event_fits (record { node = node; times = times; now = now }) who (record c { last = now }) happens (moved_fits c now c.next is) fits

pub replicas_call : (node : NodeId) (times : TimeSettings) (c : ClientState) (reading : ℕ) (capability : Capability) (k : Call) (asked : Op) → FitsNode node → FitsReplicas c
    → FitsCapability capability → FitsOp asked → CallsFit (call_of_client node times c reading capability k asked)
unfolding call_of_client
replicas_call node times c reading capability k asked who is right fits =
    let now = max reading c.last in
    begins_fits (record { node = node; times = times; now = now }) who (record c { last = now }) capability k asked (moved_fits c now c.next is) right fits

pub replicas_again : (node : NodeId) (times : TimeSettings) (c : ClientState) (reading number : ℕ) (capability : Capability) (asked : Op) → FitsNode node → FitsReplicas c
    → IsCount number → FitsCapability capability → FitsOp asked → CallsFit (again_of_client node times c reading number capability asked)
unfolding again_of_client
replicas_again node times c reading number capability asked who is small right fits =
    let now = max reading c.last in
    asks_fits (record { node = node; times = times; now = now }) who (record c { last = now })
    (record { number = number; capability = capability; op = asked; target = record { 0 = 0 }; deadline = 0; tried = [] })
    (first_target capability.location.members (known_in c.files capability.file).target) (moved_fits c now c.next is)
    (record { place = small; right = right; asks = fits }) (target_fits capability.location.members _ right.place.nodes.each)
