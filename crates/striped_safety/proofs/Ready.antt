-- a client that is about to use a file, and what its call asks
use Rattle.std.proofs.Common.{◌≡◌, ℕ, ◌<◌, ◌≤◌, ◌+◌, ◌⊎◌, inl, inr, List, [], ◌∷◌, ◌++◌, refl, ap, sym, ◌∙◌, subst, arith, Option, Some, None, Bool, true, false, cond}
use Rattle.std.specs.Prelude.{nat_lt, max, ◌%◌}
use Rattle.xt_base.specs.TimeSettings.{TimeSettings}
use Rattle.xt_base.specs.declared.TheConstants.{COUNTS}
use Rattle.xt_base.specs.declared.ids.NodeId.{NodeId}
use Rattle.xt_base.specs.declared.ids.SizeMark.{SizeMark}
use Rattle.xt_messages.specs.declared.meta.MetaReq.{MetaReq}
use Rattle.xt_messages.specs.declared.meta.MetaReq.TheVariants as want
use Rattle.xt_messages.specs.declared.event.Call.{Call}
use Rattle.xt_messages.specs.declared.event.Call.TheVariants as call
use Rattle.xt_messages.specs.declared.event.Mark.TheVariants as mark
use Rattle.xt_protocol.specs.Turns.{message}
use Rattle.xt_messages.specs.declared.file.Capability.{Capability}
use Rattle.xt_messages.specs.declared.file.Kind.{Kind}
use Rattle.xt_messages.specs.declared.file.Kind.TheVariants as kind
use Rattle.xt_messages.specs.declared.file.Location.{Location}
use Rattle.xt_messages.specs.declared.file.Op.{Op}
use Rattle.xt_messages.specs.declared.file.Op.TheVariants as op
use Rattle.client_rows.specs.declared.ClientState.{ClientState}
use Rattle.client_rows.specs.declared.RunningCall.{RunningCall}
use Rattle.client_rows.specs.declared.holding.HeldFile.{HeldFile}
use Rattle.client_rows.specs.declared.requests.Request.{Request}
use Rattle.client_rows.specs.declared.requests.Request.TheVariants as request
use Rattle.client_rows.specs.declared.requests.Stage.TheVariants as stage
use Rattle.client_rows.specs.Holding.{Held, held_of, holds}
use Rattle.client_rows.specs.Clients.{call_of_client, begins_call}
use Rattle.client_rows.specs.Requests.{on_file, under_held, report_of, request_of, file_of, first_of, first_asked, payload_of}
use Rattle.client_rows.specs.Rows as rows
use Rattle.client_rows.specs.Rows.{WholeClient, passes, called}
use Rattle.client_rows.specs.Steps.{Step, stays}
use Rattle.client_steps.specs.Asked.{IsOnFile, AllHeld}
use Rattle.client_steps.proofs.Held.{ready_holds, ready_others, held_found, holds_held}
use Rattle.time_line.specs.declared.entry.Entry.{Entry}
use Rattle.time_line.specs.TimeLine.{operation_on}
use Rattle.world_spec.specs.declared.PlacedFile.{PlacedFile}
use Rattle.world_spec.specs.World.{file_in}
use Rattle.world_spec.specs.Lines.{declared_capability, epoch_of, about_to_use, ready_for}
use Rattle.world_runs.specs.Worlds.{HeldFits, IsOfKnown}
use Rattle.world_runs.proofs.Tables.{same, file_in-id, file_in-stays}
use Rattle.striped_safety.specs.StripedWorld.{Setting, StripedWorld, IsSetting, width_of}
use Rattle.striped_safety.proofs.Follows.{MarkIs, IsAway, CallAt, ClientAt, IsAt}
use Rattle.striped_safety.proofs.Held.{holds_mark}
use Rattle.striped_safety.proofs.MemberRows.{some_of}
use Rattle.striped_safety.proofs.Places.{owner_is, first_is}

-- ---- about to use a file

-- the same calls, and the mark of the file
pub record IsReady (file : ℕ) (a b : WholeClient) : Type 0 where
  pub next : b.replicas.next ≡ a.replicas.next
  pub running : b.replicas.running ≡ a.replicas.running
  pub made : b.made ≡ a.made
  pub mark : (m : SizeMark) → MarkIs (held_of a.held file) m → MarkIs (held_of b.held file) m
  pub holds : (h : HeldFile) → held_of a.held file ≡ Some h → (k : HeldFile) × (held_of b.held file ≡ Some k)

ready_itself : (file : ℕ) (a : WholeClient) → IsReady file a a
ready_itself file a = record { next = refl; running = refl; made = refl; mark = λ m is. is; holds = λ h is. (h, is) }

pub ready_is : (files : List PlacedFile) (file : ℕ) (c : WholeClient) (k : Call) (o : Option ℕ) → IsReady file c (ready_for files c k o)
ready_is files file c k None = ready_itself file c
ready_is files file c k (Some n) = at (file_in files n)
  where
    at : (o : Option PlacedFile) → IsReady file c (about_to_use c k o)
    at None = ready_itself file c
    at (Some f) =
        let capability = declared_capability f (epoch_of c f.file k) in
        elim (same file f.file.number) as (λ _. IsReady file c (about_to_use c k (Some f))) [
          | inl e ↦
              record {
                next = refl;
                running = refl;
                made = refl;
                mark = λ m is. subst (λ (x : ℕ). MarkIs (held_of (holds c.held capability (record { epoch = 0; size = 0 })) x) m) (sym e) (holds_mark c.held capability m (subst (λ (x : ℕ). MarkIs (held_of c.held x) m) e is));
                holds = λ h is. (let found = ready_holds c.held capability (record { epoch = 0; size = 0 }) in
                    (found.0, subst (λ (x : ℕ). held_of (holds c.held capability (record { epoch = 0; size = 0 })) x ≡ Some found.0) (sym e) found.1));
              }
          | inr ne ↦
              (let stays = ready_others c.held capability (record { epoch = 0; size = 0 }) file ne in
              record { next = refl; running = refl; made = refl; mark = λ m is. subst (λ (o : Option HeldFile). MarkIs o m) (sym stays) is; holds = λ h is. (h, stays ∙ is) })
        ]

pub ready_client : (s : Setting) (es : List Entry) (m : StripedWorld) (c d : WholeClient) → IsReady s.file.number c d → ClientAt s es m c → ClientAt s es m d
ready_client s es m c d ready is =
    record {
      numbers = subst (λ (n : ℕ). m.next ≤ n) (sym ready.next) is.numbers;
      mark = ready.mark m.mark is.mark;
      holds = λ a runs. (let was = is.holds a runs in ready.holds was.0 was.1);
      call = subst (CallAt s es m) (sym ready.made) is.call;
    }

-- ---- what is asked

-- a request under this capability
abbrev pub IsUnder : Capability → Request → Type 0
IsUnder capability (request.Replicated other asked) = other ≡ capability
IsUnder capability (request.Striped other asked) = other ≡ capability
IsUnder capability _ = ⊥

one_under : (q : Request) (a b : Capability) → IsOnFile q → IsUnder a q → IsUnder b q → a ≡ b
one_under (request.Replicated other asked) a b on one same = sym one ∙ same
one_under (request.Striped other asked) a b on one same = sym one ∙ same
one_under (request.Meta user group wanted) a b on one same = absurd on
one_under (request.Registry asked) a b on one same = absurd on

-- what is asked on a file is under the capability that is held of it
pub asked_held : (held : Held) (k : Call) (asked : Request) → IsOnFile asked → request_of held k ≡ Some asked → (f : ℕ) × (h : HeldFile) × (held_of held f ≡ Some h) × IsUnder h.capability asked
asked_held held k asked on is = by_call k is
  where
    kind_under : (what : Kind) (capability : Capability) (o : Op) → IsUnder capability (on_file what capability o)
    kind_under kind.Replicated capability o = refl
    kind_under kind.Striped capability o = refl

    under : (f : ℕ) (o : Op) (found : Option HeldFile) → held_of held f ≡ found → under_held o found ≡ Some asked → (f : ℕ) × (h : HeldFile) × (held_of held f ≡ Some h) × IsUnder h.capability asked
    under f o None found wants = absurd (cc wants)
    under f o (Some h) found wants =
        let same_request : on_file h.capability.location.kind h.capability o ≡ asked = cc wants in
        (f, h, found, subst (IsUnder h.capability) same_request (kind_under h.capability.location.kind h.capability o))

    to_server : (user group : ℕ) (wanted : MetaReq) → Some (request.Meta user group wanted) ≡ Some asked → (f : ℕ) × (h : HeldFile) × (held_of held f ≡ Some h) × IsUnder h.capability asked
    to_server user group wanted is = absurd (let same_request : request.Meta user group wanted ≡ asked = cc is in subst IsOnFile (sym same_request) on)

    reports : (user group : ℕ) (found : Option HeldFile) → report_of user group found ≡ Some asked → (f : ℕ) × (h : HeldFile) × (held_of held f ≡ Some h) × IsUnder h.capability asked
    reports user group None is = absurd (cc is)
    reports user group (Some h) is = to_server user group (want.Report h.capability h.mark) is

    by_call : (k : Call) → request_of held k ≡ Some asked → (f : ℕ) × (h : HeldFile) × (held_of held f ≡ Some h) × IsUnder h.capability asked
    by_call (call.Read f object from len) is = under f (op.Read object from len) (held_of held f) refl is
    by_call (call.Write f object from bytes) is = under f (op.Write object from bytes) (held_of held f) refl is
    by_call (call.Truncate f size epoch) is = under f (op.Truncate size) (held_of held f) refl is
    by_call (call.Meta user group wish) is = to_server user group wish is
    by_call (call.Report user group f) is = reports user group (held_of held f) is
    by_call (call.Registry wish) is = absurd (let same_request : request.Registry wish ≡ asked = cc is in subst IsOnFile (sym same_request) on)

-- a request is on the file, or isn't
pub where_is : (file : ℕ) (q : Request) → (IsOnFile q × (file_of q ≡ file)) ⊎ IsAway file q
where_is file (request.Replicated capability asked) = elim (same capability.file.number file) [ inl e ↦ inl (tt, e) | inr ne ↦ inr ne ]
where_is file (request.Striped capability asked) = elim (same capability.file.number file) [ inl e ↦ inl (tt, e) | inr ne ↦ inr ne ]
where_is file (request.Meta user group wanted) = inr tt
where_is file (request.Registry asked) = inr tt

-- it is of a known file,
pub known_by_request : (files : List PlacedFile) (held : Held) (k : Call) (asked : Request) (capability : Capability) → AllHeld (HeldFits files) held → IsOnFile asked → request_of held k ≡ Some asked → IsUnder capability asked → IsOfKnown files capability
known_by_request files held k asked capability all on is under =
    let at = asked_held held k asked on is in
    let fits = held_found (HeldFits files) held at.0 at.1 at.2 all in
    subst (IsOfKnown files) (one_under asked at.1.capability capability on at.3 under) fits.1

-- and the file is held then
pub held_by_request : (files : List PlacedFile) (held : Held) (k : Call) (asked : Request) (capability : Capability) (file : ℕ) → AllHeld (HeldFits files) held → IsOnFile asked → request_of held k ≡ Some asked → IsUnder capability asked → capability.file.number ≡ file
    → (h : HeldFile) × (held_of held file ≡ Some h)
held_by_request files held k asked capability file all on is under its =
    let at = asked_held held k asked on is in
    let fits = held_found (HeldFits files) held at.0 at.1 at.2 all in
    let same_file : at.0 ≡ file = sym fits.0 ∙ (ap (λ (c : Capability). c.file.number) (one_under asked at.1.capability capability on at.3 under) ∙ its) in
    (at.1, subst (λ (f : ℕ). held_of held f ≡ Some at.1) same_file at.2)

-- a call that asks a server does nothing on any file
pub server_call : (held : Held) (k : Call) (asked : Request) → (IsOnFile asked → ⊥) → request_of held k ≡ Some asked → (file : ℕ) → operation_on file (Some k) ≡ None
server_call held k asked off is file = by_call k is
  where
    on_kind : (what : Kind) (capability : Capability) (o : Op) → IsOnFile (on_file what capability o)
    on_kind kind.Replicated capability o = tt
    on_kind kind.Striped capability o = tt

    under : (o : Op) (found : Option HeldFile) → under_held o found ≡ Some asked → ⊥
    under o None wants = cc wants
    under o (Some h) wants = (let same_request : on_file h.capability.location.kind h.capability o ≡ asked = cc wants in off (subst IsOnFile same_request (on_kind h.capability.location.kind h.capability o)))

    by_call : (k : Call) → request_of held k ≡ Some asked → operation_on file (Some k) ≡ None
    by_call (call.Read f object from len) is = absurd (under (op.Read object from len) (held_of held f) is)
    by_call (call.Write f object from bytes) is = absurd (under (op.Write object from bytes) (held_of held f) is)
    by_call (call.Truncate f size epoch) is = absurd (under (op.Truncate size) (held_of held f) is)
    by_call (call.Meta user group wish) is = refl
    by_call (call.Report user group f) is = refl
    by_call (call.Registry wish) is = refl

-- what a client holds that is about to use a declared file is of known files
pub ready_held : (files made : List PlacedFile) (c : WholeClient) (k : Call) (o : Option ℕ) → AllHeld (HeldFits (files ++ made)) c.held → AllHeld (HeldFits (files ++ made)) (ready_for files c k o).held
ready_held files made c k None all = all
ready_held files made c k (Some n) all = at (file_in files n) refl
  where
    at : (o : Option PlacedFile) → file_in files n ≡ o → AllHeld (HeldFits (files ++ made)) (about_to_use c k o).held
    at None found = all
    at (Some f) found =
        let there = file_in-stays files made n f found in
        holds_held (HeldFits (files ++ made)) c.held (declared_capability f (epoch_of c f.file k)) (record { epoch = 0; size = 0 })
        (refl, ap (file_in (files ++ made)) (file_in-id files n f found) ∙ there) all

-- ---- a call

-- nothing comes of a call, or it begins
pub data CallIs (node : NodeId) (times : TimeSettings) (d : WholeClient) (reading : ℕ) (k : Call) : Step WholeClient → Type 0 where
  nothing_called : CallIs node times d reading k (passes d reading)
  begins_so : (asked : Request) → request_of d.held k ≡ Some asked → nat_lt d.replicas.next COUNTS ≡ true → CallIs node times d reading k (rows.request_begins node times d reading k asked)

pub call_is : (node : NodeId) (times : TimeSettings) (d : WholeClient) (reading : ℕ) (k : Call) → CallIs node times d reading k (called node times d reading k)
unfolding called
call_is node times d reading k = at (nat_lt d.replicas.next COUNTS) refl (request_of d.held k) refl
  where
    at : (b : Bool) → nat_lt d.replicas.next COUNTS ≡ b → (o : Option Request) → request_of d.held k ≡ o → CallIs node times d reading k (cond b (rows.asked_for node times d reading k o) (passes d reading))
    at false room o is = nothing_called
    at true room None is = nothing_called
    at true room (Some asked) is = begins_so asked is room

-- a call on the file waits for its first member
pub first_at : (s : Setting) → IsSetting s → (m : StripedWorld) (capability : Capability) (asked : Op) (deadline : ℕ) → capability.location ≡ s.location → IsAt s m asked (stage.Waiting (first_asked (request.Striped capability asked)) deadline)
first_at s setting m capability asked deadline at_list = by_op asked refl
  where
    wide : 0 < width_of s
    wide = some_of s.location.members setting.members

    of_list : (o : Op) → first_of capability.location.members o ≡ first_of s.location.members o
    of_list o = ap (λ (l : Location). first_of l.members o) at_list

    by_op : (o : Op) → asked ≡ o → IsAt s m asked (stage.Waiting (first_of capability.location.members asked) deadline)
    by_op (op.Read object at len) is =
        subst (λ (o : Op). IsAt s m o (stage.Waiting (first_of capability.location.members o) deadline)) (sym is)
        (object % width_of s, (omega (arith, wide)), of_list (op.Read object at len) ∙ owner_is s.location.members (object % width_of s), refl, λ q low needs. absurd (omega (arith, low, needs)))
    by_op (op.Write object at bytes) is =
        subst (λ (o : Op). IsAt s m o (stage.Waiting (first_of capability.location.members o) deadline)) (sym is)
        (object % width_of s, (omega (arith, wide)), of_list (op.Write object at bytes) ∙ owner_is s.location.members (object % width_of s), refl, λ q low needs. absurd (omega (arith, low, needs)))
    by_op (op.Truncate size) is =
        subst (λ (o : Op). IsAt s m o (stage.Waiting (first_of capability.location.members o) deadline)) (sym is)
        (0, wide, of_list (op.Truncate size) ∙ first_is s.location.members, wide, λ q low needs. absurd (omega (arith, low)))

-- what the start of a call gives: it is marked, takes the next number, and asks one node
pub record Begun (node : NodeId) (c : ClientState) (k : Call) (asked : Request) (step : Step ClientState) : Type 0 where
  pub marks : step.turned.marks ≡ mark.Begin c.next k ∷ []
  pub next : step.state.next ≡ c.next + 1
  pub to : NodeId
  pub outs : step.turned.outs ≡ message node to (payload_of c.next asked) ∷ []
  pub running : (step.state.running ≡ c.running) ⊎ ((call : RunningCall) × (step.state.running ≡ Some call) × (call.number ≡ c.next))

replicated_begun : (node : NodeId) (times : TimeSettings) (c : ClientState) (reading : ℕ) (k : Call) (capability : Capability) (asked : Op) → nat_lt c.next COUNTS ≡ true
    → Begun node c k (request.Replicated capability asked) (call_of_client node times c reading capability k asked)
unfolding call_of_client
replicated_begun node times c reading k capability asked room = at (nat_lt c.next COUNTS) room
  where
    at : (b : Bool) → b ≡ true → Begun node c k (request.Replicated capability asked)
        (cond b (begins_call (record { node = node; times = times; now = max reading c.last }) (record c { last = max reading c.last }) capability k asked) (stays ClientState (record c { last = max reading c.last })))
    at true is = record { marks = refl; next = refl; to = _; outs = refl; running = inr (_, refl, refl) }
    at false is = absurd (cc is)

pub starts_begun : (node : NodeId) (times : TimeSettings) (c : ClientState) (reading : ℕ) (k : Call) (asked : Request) → nat_lt c.next COUNTS ≡ true → Begun node c k asked (rows.starts node times c reading k asked)
starts_begun node times c reading k (request.Replicated capability asked) room = replicated_begun node times c reading k capability asked room
starts_begun node times c reading k (request.Striped capability asked) room = record { marks = refl; next = refl; to = _; outs = refl; running = inl refl }
starts_begun node times c reading k (request.Meta user group asked) room = record { marks = refl; next = refl; to = _; outs = refl; running = inl refl }
starts_begun node times c reading k (request.Registry asked) room = record { marks = refl; next = refl; to = _; outs = refl; running = inl refl }
