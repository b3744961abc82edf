-- A world of a striped file and its client that a world shows, and what leaves it so.
use Rattle.std.proofs.Common.{◌≡◌, ◌≢◌, ℕ, ◌<◌, ◌≤◌, ◌⊎◌, inl, inr, List, ◌++◌, ap, sym, ◌∙◌, subst, Option, Some, None, true}
use Rattle.xt_base.specs.declared.ids.NodeId.{NodeId}
use Rattle.xt_base.specs.declared.ids.FileId.{FileId}
use Rattle.xt_base.specs.declared.ids.OpId.{OpId}
use Rattle.xt_base.specs.declared.ids.SizeMark.{SizeMark}
use Rattle.xt_base.specs.declared.ids.Stamp.{Stamp}
use Rattle.xt_messages.specs.declared.file.Capability.{Capability}
use Rattle.xt_messages.specs.declared.file.Location.{Location}
use Rattle.xt_messages.specs.declared.file.Op.{Op}
use Rattle.xt_messages.specs.declared.reply.Reply.TheVariants as reply
use Rattle.xt_messages.specs.declared.event.Call.{Call}
use Rattle.xt_messages.specs.declared.event.Call.TheVariants as call
use Rattle.xt_messages.specs.declared.message.Msg.{Msg}
use Rattle.xt_messages.specs.declared.message.Payload.{Payload}
use Rattle.xt_messages.specs.declared.message.Payload.TheVariants as payload
use Rattle.xt_messages.specs.declared.record.FileRow.{FileRow}
use Rattle.xt_protocol.specs.OsdSteps.{file_concerned}
use Rattle.lease_safety.specs.State.{Has}
use Rattle.client_rows.specs.declared.holding.HeldFile.{HeldFile}
use Rattle.client_rows.specs.declared.requests.CallResult.{CallResult}
use Rattle.client_rows.specs.declared.requests.CallResult.TheVariants as result
use Rattle.client_rows.specs.declared.requests.MadeCall.{MadeCall}
use Rattle.client_rows.specs.declared.requests.Request.{Request}
use Rattle.client_rows.specs.declared.requests.Request.TheVariants as request
use Rattle.client_rows.specs.declared.requests.Stage.{Stage}
use Rattle.client_rows.specs.declared.requests.Stage.TheVariants as stage
use Rattle.client_rows.specs.Holding.{held_of}
use Rattle.client_rows.specs.Rows.{WholeClient}
use Rattle.client_steps.specs.Asked.{ClientIs, RunningIs, MadeIs}
use Rattle.time_line.specs.declared.entry.Entry.{Entry}
use Rattle.time_line.specs.declared.entry.Entry.TheVariants as entry
use Rattle.time_line.specs.TimeLine.{id_of, begun, operation_on, operation_begun}
use Rattle.time_line.specs.Clauses.{IsBefore, HasBegunOn, ok_entry}
use Rattle.file_runs.specs.FileRuns.{FileNode}
use Rattle.world_spec.specs.declared.PlacedFile.{PlacedFile}
use Rattle.world_spec.specs.World.{World, Node, Running, client, node_in, file_in}
use Rattle.world_runs.specs.View.{messages}
use Rattle.world_runs.proofs.Entries.{begun_on-grown, operation-grown}
use Rattle.world_runs.proofs.Lists.{has_in}
use Rattle.world_safety.specs.Seen.{nodes_seen}
use Rattle.striped_safety.specs.StripedFiles.{operations_on}
use Rattle.striped_safety.specs.Members.{Member}
use Rattle.striped_safety.specs.StripedWorld.{Setting, Asked, Replied, ReadShown, StripedWorld, width_of, node_at, ops_of, done_with, Needs, NotOk}
use Rattle.striped_safety.specs.After.{Stands}
use Rattle.striped_safety.proofs.Named.{IsMembers}
use Rattle.striped_safety.proofs.Trace.{AreStill, has_before, split_before, still_begun, still_operations, operations_same, begun_same}

-- ---- what is followed

-- a file by its volume and number, and a client
abbrev pub id_in : List ℕ → ℕ → FileId
id_in vol number = record { volume = vol; number = number }

abbrev pub setting_of : List ℕ → ℕ → Location → NodeId → Setting
setting_of vol number location who = record { file = id_in vol number; location = location; client = who }

-- where a file of this number is known, it is this one, at this place
abbrev pub IsListed : List PlacedFile → List ℕ → ℕ → Location → Type 0
IsListed files vol number location = (f : PlacedFile) → file_in files number ≡ Some f → f ≡ record { file = id_in vol number; location = location }

-- what a node shows as a member
abbrev pub member_seen : FileNode → Member
member_seen x = record { head = x.kept.head; body = x.body }

-- an ask or a reply
abbrev pub IsAskOrReply : Payload → Type 0
IsAskOrReply (payload.Ask number capability asked) = Unit {0}
IsAskOrReply (payload.Reply number file answer) = Unit {0}
IsAskOrReply _ = ⊥

-- No list is stored of the file, what heads name is held, and no message is about it but asks and replies.
pub record IsQuiet (file : FileId) (w : World) (own : List Msg) : Type 0 where
  pub members : (n : ℕ) → IsMembers (nodes_seen file w n).kept
  pub asked : (m : Msg) → Has m (own ++ messages w) → file_concerned m.payload ≡ Some file → IsAskOrReply m.payload

-- each read of the client that has an Ok in the trace was shown so
abbrev pub AreToldReads : ℕ → NodeId → List Entry → List ReadShown → Type 0
AreToldReads file who es reads =
    (before : List Entry) (k object at len count : ℕ) (bytes : List ℕ) → IsBefore before (entry.Begin who k (call.Read file object at len)) es
    → Has (ok_entry (id_of who k) count bytes) es → Has (record { before = operations_on file before; object = object; at = at; len = len; bytes = bytes }) reads

-- ---- the client

-- the mark that is held
abbrev pub MarkIs : Option HeldFile → SizeMark → Type 0
MarkIs None mark = mark ≡ record { epoch = 0; size = 0 }
MarkIs (Some h) mark = h.mark ≡ mark

abbrev pub asked_by : MadeCall → Capability → Op → Asked
asked_by made capability asked = record { number = made.number; epoch = capability.epoch; op = asked }

-- no Ok ended it
abbrev pub EndsNotOk : CallResult → Type 0
EndsNotOk (result.Ok count size bytes) = ⊥
EndsNotOk _ = Unit {0}

-- It waits for the member at a place that it needs, and those before it that it needs have answered; or it didn't end well.
abbrev pub IsAt : Setting → StripedWorld → Op → Stage → Type 0
IsAt s m asked stage.OnReplicas = ⊥
IsAt s m asked (stage.Waiting target deadline) =
    (place : ℕ) × (place < width_of s) × (target ≡ node_at s place) × Needs (width_of s) place asked
    × ((before : ℕ) → before < place → Needs (width_of s) before asked → m.told before ≡ true)
IsAt s m asked (stage.Ended how) = EndsNotOk how

-- the client's call on the file has begun, and hasn't ended well
pub record Goes (s : Setting) (es : List Entry) (m : StripedWorld) (made : MadeCall) (capability : Capability) (asked : Op) : Type 0 where
  pub runs : m.runs ≡ Some (asked_by made capability asked)
  pub sent : Has (asked_by made capability asked) m.asks
  pub unheard : (count : ℕ) (bytes : List ℕ) → Has (ok_entry (id_of s.client made.number) count bytes) es → ⊥
  pub begun : operation_begun s.file.number es (id_of s.client made.number) ≡ Some asked
  pub before : (before : List Entry) (object at len : ℕ) → IsBefore before (entry.Begin s.client made.number (call.Read s.file.number object at len)) es → operations_on s.file.number before ≡ ops_of m.done
  pub at : IsAt s m asked made.stage

-- a request that isn't on the file of this number: on another one, or to a server
abbrev pub IsAway : ℕ → Request → Type 0
IsAway file (request.Replicated capability asked) = capability.file.number ≢ file
IsAway file (request.Striped capability asked) = capability.file.number ≢ file
IsAway file (request.Meta user group wanted) = Unit {0}
IsAway file (request.Registry asked) = Unit {0}

-- a request to a server never is among the calls on replicated files
abbrev pub IsBeside : Stage → Type 0
IsBeside stage.OnReplicas = ⊥
IsBeside _ = Unit {0}

abbrev pub StageFits : Stage → Request → Type 0
StageFits s (request.Meta user group wanted) = IsBeside s
StageFits s (request.Registry asked) = IsBeside s
StageFits s _ = Unit {0}

-- how far the client's last call is: there is none, or it isn't on the file; it runs or hasn't ended well; or it has
pub data CallAt (s : Setting) (es : List Entry) (m : StripedWorld) : Option MadeCall → Type 0 where
  not_yet : m.runs ≡ None → CallAt s es m None
  elsewhere : (made : MadeCall) → IsAway s.file.number made.request → StageFits made.stage made.request → (HasBegunOn s.file.number es (id_of s.client made.number) → ⊥) → m.runs ≡ None → CallAt s es m (Some made)
  goes : (made : MadeCall) (capability : Capability) (asked : Op) → made.request ≡ request.Striped capability asked → capability.file ≡ s.file → capability.location ≡ s.location
      → Goes s es m made capability asked → CallAt s es m (Some made)
  has_ended : (made : MadeCall) (capability : Capability) (asked : Op) (count : ℕ) (size : SizeMark) (bytes : List ℕ) → made.request ≡ request.Striped capability asked
      → made.stage ≡ stage.Ended (result.Ok count size bytes) → m.runs ≡ None → CallAt s es m (Some made)

pub record ClientAt (s : Setting) (es : List Entry) (m : StripedWorld) (c : WholeClient) : Type 0 where
  pub numbers : m.next ≤ c.replicas.next
  pub mark : MarkIs (held_of c.held s.file.number) m.mark
  -- while it runs, the file is held
  pub holds : (a : Asked) → m.runs ≡ Some a → (h : HeldFile) × (held_of c.held s.file.number ≡ Some h)
  pub call : CallAt s es m c.made

-- a running client
pub record Runs (w : World) (n : ℕ) (node : Node) (r : Running) (c : WholeClient) : Type 0 where
  pub found : node_in w.nodes n ≡ Some node
  pub up : node.up ≡ Some r
  pub core : r.core ≡ client c

-- nothing was done yet
abbrev pub IsUnborn : StripedWorld → Type 0
IsUnborn m = (m.next ≡ 1) × (m.runs ≡ None) × (m.mark ≡ record { epoch = 0; size = 0 })

-- ---- the file's world

-- A world of the file and the client is what a world shows, in the midst of a line with the messages of a node to itself that it hasn't
-- handled: it has the members, the asks, and each Ok of a member; no other client has begun a call on the file; the operations that
-- ended well and the one that runs are those that have begun; what was read is reported; and the client is as far.
pub record Follows (s : Setting) (w : World) (own : List Msg) (m : StripedWorld) : Type 0 where
  pub stands : Stands s m
  pub members : (place : ℕ) → place < width_of s → m.members place ≡ member_seen (nodes_seen s.file w (node_at s place).0)
  pub asks : (k : Msg) → Has k (own ++ messages w) → (number : ℕ) (capability : Capability) (asked : Op) → k.payload ≡ payload.Ask number capability asked → capability.file ≡ s.file
      → Has (record { number = number; epoch = capability.epoch; op = asked }) m.asks
  pub replies : (k : Msg) → Has k (own ++ messages w) → (number place count : ℕ) (size : SizeMark) (bytes : List ℕ) → k.payload ≡ payload.Reply number s.file (reply.Ok count size bytes)
      → place < width_of s → k.from.0 ≡ (node_at s place).0 → Has (record { place = place; number = number; answer = reply.Ok count size bytes }) m.replies
  pub alone : (id : OpId) → HasBegunOn s.file.number w.entries id → id.client ≡ s.client
  pub begun : operations_on s.file.number w.entries ≡ ops_of (done_with m.done m.runs)
  pub reads : AreToldReads s.file.number s.client w.entries m.reads
  pub caller : (node : Node) (r : Running) (c : WholeClient) → Runs w s.client.0 node r c → ClientAt s w.entries m c
  -- a client that isn't declared has done nothing
  pub unborn : node_in w.nodes s.client.0 ≡ None → IsUnborn m

-- a call of the client on the file never ends well: it hasn't, and the client does other calls
pub record IsGivenUp (s : Setting) (w : World) : Type 0 where
  pub number : ℕ
  pub begun : HasBegunOn s.file.number w.entries (id_of s.client number)
  pub unheard : (count : ℕ) (bytes : List ℕ) → Has (ok_entry (id_of s.client number) count bytes) w.entries → ⊥
  pub gone : (node : Node) (r : Running) (c : WholeClient) → Runs w s.client.0 node r c → ClientIs (λ n asked. n ≡ number → ⊥) c

-- the client hasn't the file to itself, or a call of it never ends well
pub data IsLost (s : Setting) (w : World) : Type 0 where
  strange : (id : OpId) → HasBegunOn s.file.number w.entries id → (id.client ≡ s.client → ⊥) → IsLost s w
  given_up : IsGivenUp s w → IsLost s w

pub record FileFollows (vol : List ℕ) (number : ℕ) (location : Location) (who : NodeId) (w : World) (own : List Msg) : Type 0 where
  pub quiet : IsQuiet (id_in vol number) w own
  pub fares : IsLost (setting_of vol number location who) w ⊎ ((m : StripedWorld) × Follows (setting_of vol number location who) w own m)

-- ---- what leaves it so

-- a client with the same calls, that holds the same of the file
pub record IsSame (file : ℕ) (a b : WholeClient) : Type 0 where
  pub next : b.replicas.next ≡ a.replicas.next
  pub running : b.replicas.running ≡ a.replicas.running
  pub made : b.made ≡ a.made
  pub held : held_of b.held file ≡ held_of a.held file

-- What the client doesn't see: entries more that begin and end no call; and it is the same.
pub record Calm (s : Setting) (w after : World) : Type 0 where
  pub more : List Entry
  pub split : after.entries ≡ w.entries ++ more
  pub still : AreStill more
  pub caller : (node : Node) (r : Running) (c : WholeClient) → Runs after s.client.0 node r c → (old : Node) × (q : Running) × (b : WholeClient) × Runs w s.client.0 old q b × IsSame s.file.number b c
  pub absent : node_in after.nodes s.client.0 ≡ None → node_in w.nodes s.client.0 ≡ None

-- a message of which no client counts anything: it is no ask, and no Ok
abbrev pub IsNothing : Payload → Type 0
IsNothing (payload.Reply number file answer) = NotOk answer
IsNothing _ = ⊥

-- What nobody sees of the file: nodes that keep the same of it, and messages that were there, or are nothing.
pub record Rests (s : Setting) (w after : World) (own own_after : List Msg) : Type 0 where
  pub calm : Calm s w after
  pub kept : (n : ℕ) → (nodes_seen s.file after n).kept ≡ (nodes_seen s.file w n).kept
  pub body : (n : ℕ) → (nodes_seen s.file after n).body ≡ (nodes_seen s.file w n).body
  pub fewer : (k : Msg) → Has k (own_after ++ messages after) → file_concerned k.payload ≡ Some s.file → Has k (own ++ messages w) ⊎ IsNothing k.payload

-- an Ok among more entries
pub ok_before : (es more : List Entry) (id : OpId) (count : ℕ) (bytes : List ℕ) → AreStill more → Has (ok_entry id count bytes) (es ++ more) → Has (ok_entry id count bytes) es
ok_before es more id count bytes still h =
    elim (has_in (ok_entry id count bytes) es more h) [
      | inl old ↦ old
      | inr new ↦ absurd (still (ok_entry id count bytes) new)
    ]

pub begin_before : (es more before : List Entry) (who : NodeId) (k : ℕ) (c : Call) → AreStill more → IsBefore before (entry.Begin who k c) (es ++ more) → IsBefore before (entry.Begin who k c) es
begin_before es more before who k c still there =
    elim (split_before es more before (entry.Begin who k c) there) [
      | inl old ↦ old
      | inr new ↦ absurd (still (entry.Begin who k c) (has_before new.0 (entry.Begin who k c) more new.2))
    ]

pub begun_before : (file : ℕ) (es more : List Entry) (id : OpId) → AreStill more → HasBegunOn file (es ++ more) id → HasBegunOn file es id
begun_before file es more id still is = (is.0, sym (ap (operation_on file) (begun_same id es more (still_begun id more still))) ∙ is.1)

calls_same : (Is : ℕ → Request → Type 0) (file : ℕ) (a b : WholeClient) → IsSame file a b → ClientIs Is a → ClientIs Is b
calls_same Is file a b same is =
    record { running = subst (RunningIs Is) (sym same.running) is.running; made = subst (MadeIs Is) (sym same.made) is.made }

mark_same : (o p : Option HeldFile) (mark : SizeMark) → p ≡ o → MarkIs o mark → MarkIs p mark
mark_same o p mark same is = subst (λ (x : Option HeldFile). MarkIs x mark) (sym same) is

goes_rests : (s : Setting) (es more : List Entry) (m : StripedWorld) (made : MadeCall) (capability : Capability) (asked : Op) → AreStill more → Goes s es m made capability asked → Goes s (es ++ more) m made capability asked
goes_rests s es more m made capability asked still is =
    record {
      runs = is.runs;
      sent = is.sent;
      unheard = λ count bytes h. is.unheard count bytes (ok_before es more (id_of s.client made.number) count bytes still h);
      begun = operation-grown s.file.number es more (id_of s.client made.number) asked is.begun;
      before = λ before object at len there. is.before before object at len (begin_before es more before s.client made.number (call.Read s.file.number object at len) still there);
      at = is.at;
    }

call_rests : (s : Setting) (es more : List Entry) (m : StripedWorld) (o : Option MadeCall) → AreStill more → CallAt s es m o → CallAt s (es ++ more) m o
call_rests s es more m _ still (not_yet none) = not_yet none
call_rests s es more m _ still (elsewhere made away fits never none) = elsewhere made away fits (λ begun. never (begun_before s.file.number es more (id_of s.client made.number) still begun)) none
call_rests s es more m _ still (goes made capability asked is file location so) = goes made capability asked is file location (goes_rests s es more m made capability asked still so)
call_rests s es more m _ still (has_ended made capability asked count size bytes is ended none) = has_ended made capability asked count size bytes is ended none

module _ (s : Setting) (w after : World) (rests : Calm s w after) where
  pub lost_rests : IsLost s w → IsLost s after
  lost_rests (strange id begun other) = strange id (subst (λ (es : List Entry). HasBegunOn s.file.number es id) (sym rests.split) (begun_on-grown s.file.number w.entries rests.more id begun)) other
  lost_rests (given_up is) =
      given_up (record {
        number = is.number;
        begun = subst (λ (es : List Entry). HasBegunOn s.file.number es (id_of s.client is.number)) (sym rests.split) (begun_on-grown s.file.number w.entries rests.more (id_of s.client is.number) is.begun);
        unheard = λ count bytes h. is.unheard count bytes (ok_before w.entries rests.more (id_of s.client is.number) count bytes rests.still (subst (Has (ok_entry (id_of s.client is.number) count bytes)) rests.split h));
        gone = λ node r c runs.
            let was = rests.caller node r c runs in
            calls_same (λ n asked. n ≡ is.number → ⊥) s.file.number was.2 c was.4 (is.gone was.0 was.1 was.2 was.3);
      })

  client_rests : (m : StripedWorld) (b c : WholeClient) → IsSame s.file.number b c → ClientAt s w.entries m b → ClientAt s after.entries m c
  client_rests m b c same is =
      record {
        numbers = subst (λ (n : ℕ). m.next ≤ n) (sym same.next) is.numbers;
        mark = mark_same (held_of b.held s.file.number) (held_of c.held s.file.number) m.mark same.held is.mark;
        holds = λ a runs. (let was = is.holds a runs in (was.0, same.held ∙ was.1));
        call =
            subst (λ (es : List Entry). CallAt s es m c.made) (sym rests.split)
            (subst (CallAt s (w.entries ++ rests.more) m) (sym same.made) (call_rests s w.entries rests.more m b.made rests.still is.call));
      }

  pub alone_rests : ((id : OpId) → HasBegunOn s.file.number w.entries id → id.client ≡ s.client) → (id : OpId) → HasBegunOn s.file.number after.entries id → id.client ≡ s.client
  alone_rests alone id begun = alone id (begun_before s.file.number w.entries rests.more id rests.still (subst (λ (es : List Entry). HasBegunOn s.file.number es id) rests.split begun))

  pub begun_rests : (ops : List Op) → operations_on s.file.number w.entries ≡ ops → operations_on s.file.number after.entries ≡ ops
  begun_rests ops is = ap (operations_on s.file.number) rests.split ∙ operations_same s.file.number w.entries rests.more (still_operations s.file.number rests.more rests.still) ∙ is

  pub reads_rest : (reads : List ReadShown) → AreToldReads s.file.number s.client w.entries reads → AreToldReads s.file.number s.client after.entries reads
  reads_rest reads are before k object at len count bytes there ok =
      are before k object at len count bytes
      (begin_before w.entries rests.more before s.client k (call.Read s.file.number object at len) rests.still (subst (IsBefore before (entry.Begin s.client k (call.Read s.file.number object at len))) rests.split there))
      (ok_before w.entries rests.more (id_of s.client k) count bytes rests.still (subst (Has (ok_entry (id_of s.client k) count bytes)) rests.split ok))

  pub caller_rests : (m : StripedWorld) → ((node : Node) (r : Running) (c : WholeClient) → Runs w s.client.0 node r c → ClientAt s w.entries m c)
      → (node : Node) (r : Running) (c : WholeClient) → Runs after s.client.0 node r c → ClientAt s after.entries m c
  caller_rests m are node r c runs = let was = rests.caller node r c runs in client_rests m was.2 c was.4 (are was.0 was.1 was.2 was.3)

module _ (s : Setting) (w after : World) (own own_after : List Msg) (rests : Rests s w after own own_after) where
  follows_rests : (m : StripedWorld) → Follows s w own m → Follows s after own_after m
  follows_rests m is =
      record {
        stands = is.stands;
        members = λ place low.
            is.members place low
            ∙ (ap (λ (row : FileRow). let x : Member = record { head = row.head; body = (nodes_seen s.file w (node_at s place).0).body } in x) (sym (rests.kept (node_at s place).0))
            ∙ ap (λ (b : ℕ → Stamp → List ℕ). let x : Member = record { head = (nodes_seen s.file after (node_at s place).0).kept.head; body = b } in x) (sym (rests.body (node_at s place).0)));
        asks = λ k h number capability asked content file.
            at_ask k number capability asked content (λ was. is.asks k was number capability asked content file) (rests.fewer k h (ap file_concerned content ∙ ap (λ (f : FileId). Some f) file));
        replies = λ k h number place count size bytes content low from.
            at_reply k number count size bytes content (λ was. is.replies k was number place count size bytes content low from) (rests.fewer k h (ap file_concerned content));
        alone = alone_rests s w after rests.calm is.alone;
        begun = begun_rests s w after rests.calm (ops_of (done_with m.done m.runs)) is.begun;
        reads = reads_rest s w after rests.calm m.reads is.reads;
        caller = caller_rests s w after rests.calm m is.caller;
        unborn = λ none. is.unborn (rests.calm.absent none);
      }
    where
      at_ask : {X : Type 0} (k : Msg) (number : ℕ) (capability : Capability) (asked : Op) → k.payload ≡ payload.Ask number capability asked → (Has k (own ++ messages w) → X) → Has k (own ++ messages w) ⊎ IsNothing k.payload → X
      at_ask k number capability asked content was (inl h) = was h
      at_ask k number capability asked content was (inr nothing) = absurd (subst IsNothing content nothing)

      at_reply : {X : Type 0} (k : Msg) (number count : ℕ) (size : SizeMark) (bytes : List ℕ) → k.payload ≡ payload.Reply number s.file (reply.Ok count size bytes) → (Has k (own ++ messages w) → X) → Has k (own ++ messages w) ⊎ IsNothing k.payload → X
      at_reply k number count size bytes content was (inl h) = was h
      at_reply k number count size bytes content was (inr nothing) = absurd (subst IsNothing content nothing)

nothing_asked : (content : Payload) → IsNothing content → IsAskOrReply content
nothing_asked (payload.Reply number file answer) is = tt
nothing_asked (payload.Ask number capability asked) is = absurd is
nothing_asked _ is = absurd is

pub quiet_rests : (s : Setting) (w after : World) (own own_after : List Msg) → Rests s w after own own_after → IsQuiet s.file w own → IsQuiet s.file after own_after
quiet_rests s w after own own_after rests is =
    record {
      members = λ n. subst IsMembers (sym (rests.kept n)) (is.members n);
      asked = λ k h about. elim (rests.fewer k h about) [
        | inl was ↦ is.asked k was about
        | inr nothing ↦ nothing_asked k.payload nothing
      ];
    }

pub file_rests : (vol : List ℕ) (number : ℕ) (location : Location) (who : NodeId) (w after : World) (own own_after : List Msg) → Rests (setting_of vol number location who) w after own own_after → FileFollows vol number location who w own
    → FileFollows vol number location who after own_after
file_rests vol number location who w after own own_after rests is =
    let s = setting_of vol number location who in
    record {
      quiet = quiet_rests s w after own own_after rests is.quiet;
      fares = elim is.fares [
        | inl lost ↦ inl (lost_rests s w after rests.calm lost)
        | inr follows ↦ inr (follows.0, follows_rests s w after own own_after rests follows.0 follows.1)
      ];
    }

-- ---- members and replies are nothing that the client has

module _ (s : Setting) (es : List Entry) (m : StripedWorld) (members : ℕ → Member) (replies : List Replied) where
  abbrev pub moved : StripedWorld
  moved = record m { members = members; replies = replies }

  goes_moved : (made : MadeCall) (capability : Capability) (asked : Op) → Goes s es m made capability asked → Goes s es (record m { members = members; replies = replies }) made capability asked
  goes_moved made capability asked is = record { runs = is.runs; sent = is.sent; unheard = is.unheard; begun = is.begun; before = is.before; at = at made.stage is.at }
    where
      at : (st : Stage) → IsAt s m asked st → IsAt s (record m { members = members; replies = replies }) asked st
      at stage.OnReplicas is = is
      at (stage.Waiting target deadline) is = is
      at (stage.Ended how) is = is

  call_moved : (o : Option MadeCall) → CallAt s es m o → CallAt s es (record m { members = members; replies = replies }) o
  call_moved _ (not_yet none) = not_yet none
  call_moved _ (elsewhere made away fits never none) = elsewhere made away fits never none
  call_moved _ (goes made capability asked is file location so) = goes made capability asked is file location (goes_moved made capability asked so)
  call_moved _ (has_ended made capability asked count size bytes is ended none) = has_ended made capability asked count size bytes is ended none

  pub client_moved : (c : WholeClient) → ClientAt s es m c → ClientAt s es (record m { members = members; replies = replies }) c
  client_moved c is = record { numbers = is.numbers; mark = is.mark; holds = is.holds; call = call_moved c.made is.call }
