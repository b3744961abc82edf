-- a step of a client, as it shows of a striped file
use Rattle.std.proofs.Common.{◌≡◌, ◌≢◌, ℕ, ◌⊎◌, inl, inr, List, [], ◌∷◌, ◌++◌, map, refl, ap, sym, ◌∙◌, subst, arith, if◌then◌else◌, Option, Some, None, Bool, true, false}
use Rattle.std.specs.Option.{option_or}
use Rattle.std.specs.List.{filter_map, cons_option}
use Rattle.std.proofs.lemmas.Bool.Decides.{nat_tests}
use Rattle.xt_base.specs.declared.ids.NodeId.{NodeId}
use Rattle.xt_base.specs.declared.ids.OpId.{OpId}
use Rattle.xt_messages.specs.declared.file.Capability.{Capability}
use Rattle.xt_messages.specs.declared.file.Op.{Op}
use Rattle.xt_messages.specs.declared.file.Op.TheVariants as op
use Rattle.xt_messages.specs.declared.reply.Reply.TheVariants as reply
use Rattle.xt_messages.specs.declared.event.Call.{Call}
use Rattle.xt_messages.specs.declared.event.Call.TheVariants as call
use Rattle.xt_messages.specs.declared.event.Outcome.{Outcome}
use Rattle.xt_messages.specs.declared.event.Outcome.TheVariants as outcome
use Rattle.xt_messages.specs.declared.message.Msg.{Msg}
use Rattle.xt_messages.specs.declared.message.Payload.{Payload}
use Rattle.xt_messages.specs.declared.message.Payload.TheVariants as payload
use Rattle.lease_safety.specs.State.{Has}
use Rattle.xt_protocol.specs.OsdSteps.{file_concerned}
use Rattle.client_rows.specs.declared.requests.MadeCall.{MadeCall}
use Rattle.client_rows.specs.Rows.{WholeClient}
use Rattle.client_rows.specs.Steps.{Step}
use Rattle.client_steps.specs.Asked.{ClientIs}
use Rattle.time_line.specs.declared.entry.Entry.{Entry}
use Rattle.time_line.specs.declared.entry.Entry.TheVariants as entry
use Rattle.time_line.specs.TimeLine.{id_of, is_id, call_begun, begun, operation_on, operation_begun}
use Rattle.time_line.specs.Clauses.{IsBefore, HasBegunOn, ok_entry}
use Rattle.file_runs.specs.FileRuns.{FileNode}
use Rattle.world_spec.specs.World.{World, Node, Running, client, node_in, with_node}
use Rattle.world_spec.specs.NodeSteps.{entry_of, one_more, one_put, to_itself, after_turn}
use Rattle.world_runs.proofs.Entries.{begun-append, begun_on-grown, operation-grown}
use Rattle.world_runs.proofs.Lists.{has_in}
use Rattle.world_runs.proofs.Steps.{came}
use Rattle.world_runs.proofs.Tables.{same, node_in-new, node_in-other}
use Rattle.world_safety.specs.Seen.{up_state, core_state, nodes_seen, IsNotOf}
use Rattle.world_safety.proofs.Nodes.{other}
use Rattle.striped_safety.specs.StripedFiles.{begins_on, operations_on}
use Rattle.striped_safety.specs.Members.{Member}
use Rattle.striped_safety.specs.StripedWorld.{Setting, Asked, ReadShown, StripedWorld, node_at, ops_of, done_with}
use Rattle.striped_safety.specs.After.{Stands}
use Rattle.striped_safety.proofs.Callers.{put_absent}
use Rattle.striped_safety.proofs.ClientSends.{IsRequest, no_reply}
use Rattle.striped_safety.proofs.Follows.{member_seen, IsAskOrReply, IsQuiet, AreToldReads, Goes, CallAt, not_yet, elsewhere, goes, has_ended, ClientAt, Runs, IsUnborn, Follows, IsGivenUp, IsLost, strange, given_up}
use Rattle.striped_safety.proofs.Named.{IsMembers}
use Rattle.striped_safety.proofs.OsdMoves.{view}
use Rattle.striped_safety.proofs.Trace.{BeginOnce, split_before, has_before, operations_same, begun_there}

-- ---- entries that are aside

abbrev pub EndsBadly : Outcome → Type 0
EndsBadly (outcome.Ok count bytes) = ⊥
EndsBadly _ = Unit {0}

-- no call begins on the file, and none that has begun on it ends well
abbrev pub IsAsideTo : ℕ → List Entry → Entry → Type 0
IsAsideTo file es (entry.Begin who k c) = operation_on file (Some c) ≡ None
IsAsideTo file es (entry.Done who k how) = (HasBegunOn file es (id_of who k) → ⊥) ⊎ EndsBadly how
IsAsideTo file es _ = Unit {0}

abbrev pub AreAside : ℕ → List Entry → List Entry → Type 0
AreAside file es more = (e : Entry) → Has e more → IsAsideTo file es e

pub none_aside : (file : ℕ) (es : List Entry) → AreAside file es []
none_aside file es e h = absurd h

pub one_aside : (file : ℕ) (es : List Entry) (x : Entry) → IsAsideTo file es x → AreAside file es (x ∷ [])
one_aside file es x is e (inl same) = subst (IsAsideTo file es) (sym same) is
one_aside file es x is e (inr h) = absurd h

call_begun_in : (id : OpId) (e : Entry) (c : Call) → call_begun id e ≡ Some c → (who : NodeId) × (k : ℕ) × (e ≡ entry.Begin who k c)
call_begun_in id (entry.Begin who k d) c is = at (is_id id (id_of who k)) is
  where
    at : (b : Bool) → (if b then Some d else None) ≡ Some c → (x : NodeId) × (n : ℕ) × (entry.Begin who k d ≡ entry.Begin x n c)
    at true is = (who, k, ap (entry.Begin who k) (some_call d c is))
      where
        some_call : (a b : Call) → Some a ≡ Some b → a ≡ b
        some_call a b e = cc e
    at false is = absurd (cc is)
call_begun_in id _ c is = absurd (cc is)

begun_in : (id : OpId) (es : List Entry) (c : Call) → begun id es ≡ Some c → (who : NodeId) × (k : ℕ) × Has (entry.Begin who k c) es
unfolding begun
begun_in id [] c is = absurd (cc is)
begun_in id (e ∷ es) c is = at (call_begun id e) refl (begun_in id es c) is
  where
    at : (o : Option Call) → call_begun id e ≡ o → (begun id es ≡ Some c → (who : NodeId) × (k : ℕ) × Has (entry.Begin who k c) es) → option_or o (begun id es) ≡ Some c → (who : NodeId) × (k : ℕ) × Has (entry.Begin who k c) (e ∷ es)
    at None is later found = (let rest = later found in (rest.0, rest.1, inr rest.2))
    at (Some d) is later found = (let here = call_begun_in id e c (is ∙ found) in (here.0, here.1, inl (sym here.2)))

module _ (file : ℕ) (es more : List Entry) (aside : AreAside file es more) where
  pub aside_begun : (id : OpId) → HasBegunOn file (es ++ more) id → HasBegunOn file es id
  aside_begun id is = (is.0, at (begun id es) refl (begun id more) refl (sym (ap (operation_on file) (begun-append id es more)) ∙ is.1))
    where
      at : (o : Option Call) → begun id es ≡ o → (p : Option Call) → begun id more ≡ p → operation_on file (option_or (begun id es) (begun id more)) ≡ Some is.0 → operation_on file (begun id es) ≡ Some is.0
      at (Some c) first p second so = ap (operation_on file) first ∙ (sym (ap (λ (o : Option Call). operation_on file (option_or o (begun id more))) first) ∙ so)
      at None first None second so =
          absurd (let none : None ≡ Some is.0 = sym (ap (λ (o : Option Call). operation_on file (option_or o (begun id more))) first ∙ ap (operation_on file) second) ∙ so in cc none)
      at None first (Some c) second so =
          absurd
          (let there = begun_in id more c second in
          let none : None ≡ Some is.0 = sym (aside (entry.Begin there.0 there.1 c) there.2) ∙ (sym (ap (λ (o : Option Call). operation_on file (option_or o (begun id more))) first ∙ ap (operation_on file) second) ∙ so) in cc none)

  aside_on : (e : Entry) → IsAsideTo file es e → begins_on file e ≡ None
  aside_on (entry.Begin who k c) is = is
  aside_on _ is = refl

  nothing_on : (xs : List Entry) → ((e : Entry) → Has e xs → IsAsideTo file es e) → operations_on file xs ≡ []
  nothing_on [] are = refl
  nothing_on (x ∷ xs) are = ap (λ (o : Option Op). cons_option o (filter_map (begins_on file) xs)) (aside_on x (are x (inl refl))) ∙ nothing_on xs (λ e h. are e (inr h))

  pub aside_operations : operations_on file (es ++ more) ≡ operations_on file es
  aside_operations = operations_same file es more (nothing_on more aside)

  reads_itself : (object at len : ℕ) → operation_on file (Some (call.Read file object at len)) ≡ Some (op.Read object at len)
  reads_itself object at len = grind (arith, nat_tests)

  pub aside_read : (before : List Entry) (who : NodeId) (k object at len : ℕ) → IsBefore before (entry.Begin who k (call.Read file object at len)) (es ++ more) → IsBefore before (entry.Begin who k (call.Read file object at len)) es
  aside_read before who k object at len there = elim (split_before es more before (entry.Begin who k (call.Read file object at len)) there) [
    | inl old ↦ old
    | inr new ↦ absurd (let none : None ≡ Some (op.Read object at len) = sym (aside (entry.Begin who k (call.Read file object at len)) (has_before new.0 _ more new.2)) ∙ reads_itself object at len in cc none)
  ]

  pub aside_ok : (who : NodeId) (k count : ℕ) (bytes : List ℕ) → HasBegunOn file es (id_of who k) → Has (ok_entry (id_of who k) count bytes) (es ++ more) → Has (ok_entry (id_of who k) count bytes) es
  aside_ok who k count bytes begun h = elim (has_in (ok_entry (id_of who k) count bytes) es more h) [
    | inl old ↦ old
    | inr new ↦ absurd (elim (aside (ok_entry (id_of who k) count bytes) new) [ inl never ↦ never begun | inr badly ↦ badly ])
  ]

  pub aside_reads : (who : NodeId) (reads : List ReadShown) → BeginOnce es → AreToldReads file who es reads → AreToldReads file who (es ++ more) reads
  aside_reads who reads once are before k object at len count bytes there ok =
      let old = aside_read before who k object at len there in
      let begun : operation_begun file es (id_of who k) ≡ Some (op.Read object at len) = ap (operation_on file) (begun_there es before who k (call.Read file object at len) once old) ∙ reads_itself object at len in
      are before k object at len count bytes old (aside_ok who k count bytes (op.Read object at len, begun) ok)

-- a call that goes on goes on
pub goes_aside : (s : Setting) (es more : List Entry) (m : StripedWorld) (made : MadeCall) (capability : Capability) (asked : Op) → AreAside s.file.number es more → Goes s es m made capability asked → Goes s (es ++ more) m made capability asked
goes_aside s es more m made capability asked aside is =
    record {
      runs = is.runs;
      sent = is.sent;
      unheard = λ count bytes h. is.unheard count bytes (aside_ok s.file.number es more aside s.client made.number count bytes (asked, is.begun) h);
      begun = operation-grown s.file.number es more (id_of s.client made.number) asked is.begun;
      before = λ before object at len there. is.before before object at len (aside_read s.file.number es more aside before s.client made.number object at len there);
      at = is.at;
    }

pub call_aside : (s : Setting) (es more : List Entry) (m : StripedWorld) (o : Option MadeCall) → AreAside s.file.number es more → CallAt s es m o → CallAt s (es ++ more) m o
call_aside s es more m _ aside (not_yet none) = not_yet none
call_aside s es more m _ aside (elsewhere made away fits never none) = elsewhere made away fits (λ begun. never (aside_begun s.file.number es more aside (id_of s.client made.number) begun)) none
call_aside s es more m _ aside (goes made capability asked is file location so) = goes made capability asked is file location (goes_aside s es more m made capability asked aside so)
call_aside s es more m _ aside (has_ended made capability asked count size bytes is ended none) = has_ended made capability asked count size bytes is ended none

-- ---- a client's step in a world

module _ (s : Setting) (w : World) (was own : List Msg) (node : Node) (r : Running) (c : WholeClient) (step : Step WholeClient) (outs : List Msg) (found : node_in w.nodes node.id.0 ≡ Some node) (up : node.up ≡ Some r) (core : r.core ≡ client c) (rec : step.turned.rec ≡ None)
    (within : (k : Msg) → Has k own → Has k was) (all_asks : (k : Msg) → Has k outs → IsRequest k.payload) where
  abbrev pub later : World
  later = after_turn w node (record r { core = client step.state }) (record step.turned { outs = outs })

  abbrev pub more_told : List Entry
  more_told = map (entry_of node.id) step.turned.marks

  abbrev there : Node
  there = record node { kept = one_more node.kept step.turned.rec; past = one_put node.past step.turned.rec; up = Some (record r { core = client step.state }) }

  seen : nodes_seen s.file w ≡ nodes_seen s.file (after_turn w node (record r { core = client step.state }) (record step.turned { outs = outs }))
  seen = other s.file w node found (view s.file w) refl (Some (record r { core = client step.state })) step.turned.rec (sym (ap (up_state s.file) up ∙ ap (core_state s.file) core)) (subst (IsNotOf s.file) (sym rec) tt)

  -- what comes of a running client: it is the one that stepped, or another one
  pub caller_then : (n : ℕ) (x : Node) (q : Running) (d : WholeClient) → Runs (after_turn w node (record r { core = client step.state }) (record step.turned { outs = outs })) n x q d
      → ((node.id.0 ≡ n) × (d ≡ step.state)) ⊎ (Runs w n x q d × (node.id.0 ≢ n))
  caller_then n x q d runs = elim (same n node.id.0) [
    | inl e ↦
        (let is : there ≡ x = one_node there x (sym (ap (node_in (with_node w.nodes there)) e ∙ node_in-new w.nodes there node found) ∙ runs.found) in
        let run : record r { core = client step.state } ≡ q = one_running (record r { core = client step.state }) q (ap (λ (y : Node). y.up) is ∙ runs.up) in
        inl (sym e, sym (one_client step.state d (ap (λ (y : Running). y.core) run ∙ runs.core))))
    | inr ne ↦ inr (record { found = sym (node_in-other w.nodes there n ne) ∙ runs.found; up = runs.up; core = runs.core }, λ e. ne (sym e))
  ]
    where
      one_node : (a b : Node) → Some a ≡ Some b → a ≡ b
      one_node a b is = cc is

      one_running : (a b : Running) → Some a ≡ Some b → a ≡ b
      one_running a b is = cc is

      one_client : (a b : WholeClient) → client a ≡ client b → a ≡ b
      one_client a b is = cc is

  -- the only request that concerns a file is an ask
  ask_or_reply : (content : Payload) → IsRequest content → file_concerned content ≡ Some s.file → IsAskOrReply content
  ask_or_reply (payload.Ask k capability asked) is about = tt
  ask_or_reply (payload.Meta k user group wanted) is about = absurd (let none : None ≡ Some s.file = about in cc none)
  ask_or_reply (payload.Registry k asked) is about = absurd (let none : None ≡ Some s.file = about in cc none)
  ask_or_reply _ is about = absurd is

  pub client_quiet : IsQuiet s.file w was → IsQuiet s.file (after_turn w node (record r { core = client step.state }) (record step.turned { outs = outs })) (own ++ to_itself node.id outs)
  client_quiet is =
      record {
        members = λ n. subst (λ (f : ℕ → FileNode). IsMembers (f n).kept) seen (is.members n);
        asked = λ k h about. elim (came own was outs w node.id w.nodes k within h) [
          | inl mine ↦ ask_or_reply k.payload (all_asks k mine) about
          | inr old ↦ is.asked k old about
        ];
      }

  -- what the file's world is then
  pub record Then (m n : StripedWorld) : Type 0 where
    pub stands : Stands s n
    pub members : n.members ≡ m.members
    pub asks : (x : Asked) → Has x m.asks → Has x n.asks
    pub replies : n.replies ≡ m.replies
    pub sent : (k : Msg) → Has k outs → (number : ℕ) (capability : Capability) (asked : Op) → k.payload ≡ payload.Ask number capability asked → capability.file ≡ s.file
        → Has (record { number = number; epoch = capability.epoch; op = asked }) n.asks
    pub alone : (id : OpId) → HasBegunOn s.file.number (w.entries ++ map (entry_of node.id) step.turned.marks) id → id.client ≡ s.client
    pub begun : operations_on s.file.number (w.entries ++ map (entry_of node.id) step.turned.marks) ≡ ops_of (done_with n.done n.runs)
    pub reads : AreToldReads s.file.number s.client (w.entries ++ map (entry_of node.id) step.turned.marks) n.reads
    pub mine : node.id.0 ≡ s.client.0 → ClientAt s (w.entries ++ map (entry_of node.id) step.turned.marks) n step.state
    pub unborn : node.id.0 ≢ s.client.0 → IsUnborn m → IsUnborn n
    pub others : node.id.0 ≢ s.client.0 → (d : WholeClient) → ClientAt s w.entries m d → ClientAt s (w.entries ++ map (entry_of node.id) step.turned.marks) n d

  pub client_follows : (m n : StripedWorld) → Then m n → Follows s w was m → Follows s (after_turn w node (record r { core = client step.state }) (record step.turned { outs = outs })) (own ++ to_itself node.id outs) n
  client_follows m n now is =
      record {
        stands = now.stands;
        members = λ place low. ap (λ (f : ℕ → Member). f place) now.members ∙ (is.members place low ∙ ap (λ (f : ℕ → FileNode). member_seen (f (node_at s place).0)) seen);
        asks = λ k h number capability asked content file. elim (came own was outs w node.id w.nodes k within h) [
          | inl mine ↦ now.sent k mine number capability asked content file
          | inr old ↦ now.asks (record { number = number; epoch = capability.epoch; op = asked }) (is.asks k old number capability asked content file)
        ];
        replies = λ k h number place count size bytes content low from. elim (came own was outs w node.id w.nodes k within h) [
          | inl mine ↦ absurd (no_reply k.payload number s.file (reply.Ok count size bytes) (all_asks k mine) content)
          | inr old ↦ subst (Has (record { place = place; number = number; answer = reply.Ok count size bytes })) (sym now.replies) (is.replies k old number place count size bytes content low from)
        ];
        alone = now.alone;
        begun = now.begun;
        reads = now.reads;
        caller = λ x q d runs. elim (caller_then s.client.0 x q d runs) [
          | inl mine ↦ subst (ClientAt s (w.entries ++ map (entry_of node.id) step.turned.marks) n) (sym mine.1) (now.mine mine.0)
          | inr old ↦ now.others old.1 d (is.caller x q d old.0)
        ];
        unborn = λ none. elim (same node.id.0 s.client.0) [
          | inl mine ↦ absurd (let some = ap (node_in w.nodes) (sym mine) ∙ found in let both : None ≡ Some node = sym (put_absent w.nodes node there s.client.0 found none) ∙ some in cc both)
          | inr ne ↦ now.unborn ne (is.unborn (put_absent w.nodes node there s.client.0 found none))
        ];
      }

  -- what is lost stays so
  pub lost_stays : ((g : IsGivenUp s w) → (count : ℕ) (bytes : List ℕ) → Has (ok_entry (id_of s.client g.number) count bytes) (map (entry_of node.id) step.turned.marks) → ⊥)
      → ((g : IsGivenUp s w) → node.id.0 ≡ s.client.0 → ClientIs (λ n asked. n ≡ g.number → ⊥) step.state) → IsLost s w → IsLost s (after_turn w node (record r { core = client step.state }) (record step.turned { outs = outs }))
  lost_stays unheard gone (strange id begun stranger) = strange id (begun_on-grown s.file.number w.entries (map (entry_of node.id) step.turned.marks) id begun) stranger
  lost_stays unheard gone (given_up g) =
      given_up (record {
        number = g.number;
        begun = begun_on-grown s.file.number w.entries (map (entry_of node.id) step.turned.marks) (id_of s.client g.number) g.begun;
        unheard = λ count bytes h. elim (has_in (ok_entry (id_of s.client g.number) count bytes) w.entries (map (entry_of node.id) step.turned.marks) h) [
          | inl old ↦ g.unheard count bytes old
          | inr new ↦ unheard g count bytes new
        ];
        gone = λ x q d runs. elim (caller_then s.client.0 x q d runs) [
          | inl mine ↦ subst (ClientIs (λ n asked. n ≡ g.number → ⊥)) (sym mine.1) (gone g mine.0)
          | inr old ↦ g.gone x q d old.0
        ];
      })
