-- what a client's step does to the marks of a file
use Rattle.std.proofs.Common.{◌≡◌, ◌∙◌, ◌+◌, ℕ, inl, inr, false, List, [], ◌∷◌, refl, sym, ap, subst, Option, Some, None}
use Rattle.xt_base.specs.TimeSettings.{TimeSettings}
use Rattle.xt_base.specs.declared.ids.NodeId.{NodeId}
use Rattle.xt_base.specs.declared.ids.FileId.{FileId}
use Rattle.xt_base.specs.declared.ids.SizeMark.{SizeMark}
use Rattle.xt_messages.specs.declared.file.Capability.{Capability}
use Rattle.xt_messages.specs.declared.file.Kind.{Kind}
use Rattle.xt_messages.specs.declared.file.Kind.TheVariants as kind
use Rattle.xt_messages.specs.declared.file.Op.{Op}
use Rattle.xt_messages.specs.declared.file.Op.TheVariants as op
use Rattle.xt_messages.specs.declared.meta.MetaReq.{MetaReq}
use Rattle.xt_messages.specs.declared.meta.MetaReq.TheVariants as wish
use Rattle.xt_messages.specs.declared.message.Msg.{Msg}
use Rattle.xt_messages.specs.declared.event.Call.{Call}
use Rattle.xt_messages.specs.declared.event.Call.TheVariants as call
use Rattle.xt_messages.specs.declared.event.Event.{Event}
use Rattle.xt_messages.specs.declared.event.Outcome.{Outcome}
use Rattle.xt_messages.specs.declared.event.Outcome.TheVariants as outcome
use Rattle.xt_protocol.specs.Turns.{message}
use Rattle.lease_safety.specs.State.{Has}
use Rattle.truncate_epochs.specs.SizeMarks.{is_smaller, merged}
use Rattle.client_rows.specs.declared.RunningCall.{RunningCall}
use Rattle.client_rows.specs.declared.holding.HeldFile.{HeldFile}
use Rattle.client_rows.specs.declared.progress.Learnt.{Learnt}
use Rattle.client_rows.specs.declared.progress.Learnt.TheVariants as learnt
use Rattle.client_rows.specs.declared.progress.Next.{Next}
use Rattle.client_rows.specs.declared.progress.Next.TheVariants as next
use Rattle.client_rows.specs.declared.requests.CallResult.{CallResult}
use Rattle.client_rows.specs.declared.requests.MadeCall.{MadeCall}
use Rattle.client_rows.specs.declared.requests.Request.{Request}
use Rattle.client_rows.specs.declared.requests.Request.TheVariants as request
use Rattle.client_rows.specs.declared.requests.Stage.{Stage}
use Rattle.client_rows.specs.declared.requests.Stage.TheVariants as stage
use Rattle.client_rows.specs.Clients.{step_of_client}
use Rattle.client_rows.specs.Ends.{ended_by}
use Rattle.client_rows.specs.Holding.{Held, held_of, holds, joins, marked, joined_with, mark_with}
use Rattle.client_rows.specs.Requests.{file_of, on_file, under_held, report_of, request_of, payload_of}
use Rattle.client_rows.specs.Waiting as waiting
use Rattle.client_rows.specs.Rows as rows
use Rattle.client_rows.specs.Rows.{WholeClient, stepped, called, called_again}
use Rattle.client_rows.specs.Steps.{Step}
use Rattle.client_steps.specs.Asked.{AllHeld, ClientIs, RunningIs, MadeIs, Sends, sends_none, sends_one}
use Rattle.client_steps.proofs.Held.{put_found, ready_others, held_found}
use Rattle.client_steps.proofs.Steps.{stepped_is, called_again_is}
use Rattle.time_line.specs.Bounds.{FitsCall}
use Rattle.world_spec.specs.declared.PlacedFile.{PlacedFile}
use Rattle.world_runs.specs.Worlds.{HeldFits}
use Rattle.world_runs.proofs.Tables.{same}
use Rattle.striped_safety.proofs.ClientAside.{HeldThen, IsAside, beside_fits, stepped_aside}
use Rattle.striped_safety.proofs.ClientRepeats.{first_fits, again_is}
use Rattle.striped_safety.proofs.Follows.{StageFits}
use Rattle.striped_safety.proofs.Held.{joins_others}
use Rattle.striped_safety.proofs.Marks.{RequestMarked, StagesFit, ClientWithin}
use Rattle.striped_safety.proofs.Ready.{IsReady, CallIs, nothing_called, begins_so, call_is, starts_begun}
use Rattle.striped_safety.proofs.RowMarks.{PayloadMarked, EventMarked}
use Rattle.striped_safety.proofs.Within.{IsWithin, mark_held, none_within, itself_within, merged_grows, merged_within, mark_is, is_mark}

-- ---- a client's own mark grows

joined_grows : (o : Option HeldFile) (mark : SizeMark) → is_smaller (joined_with o mark) (mark_held o) ≡ false
joined_grows None mark = none_within mark
joined_grows (Some h) mark = merged_grows h.mark mark

holds_grows : (held : Held) (capability : Capability) (mark : SizeMark) (n : ℕ) → is_smaller (mark_held (held_of (holds held capability mark) n)) (mark_held (held_of held n)) ≡ false
holds_grows held capability mark n = elim (same n capability.file.number) [
  | inl e ↦ subst (λ (k : ℕ). is_smaller (mark_held (held_of (holds held capability mark) k)) (mark_held (held_of held k)) ≡ false) (sym e)
      (subst (λ (o : Option HeldFile). is_smaller (mark_held o) (mark_held (held_of held capability.file.number)) ≡ false)
      (sym (put_found held capability.file.number (record { capability = capability; mark = mark_with held capability.file.number mark })))
      (joined_grows (held_of held capability.file.number) mark))
  | inr ne ↦ subst (λ (o : Option HeldFile). is_smaller (mark_held o) (mark_held (held_of held n)) ≡ false) (sym (ready_others held capability mark n ne)) (itself_within (mark_held (held_of held n)))
]

joins_grows : (held : Held) (file : ℕ) (size : SizeMark) (n : ℕ) → is_smaller (mark_held (held_of (joins held file size) n)) (mark_held (held_of held n)) ≡ false
joins_grows held file size n = elim (same n file) [
  | inl e ↦ subst (λ (k : ℕ). is_smaller (mark_held (held_of (joins held file size) k)) (mark_held (held_of held k)) ≡ false) (sym e) (at (held_of held file) refl)
  | inr ne ↦ subst (λ (o : Option HeldFile). is_smaller (mark_held o) (mark_held (held_of held n)) ≡ false) (sym (joins_others held file size n ne)) (itself_within (mark_held (held_of held n)))
]
  where
    at : (o : Option HeldFile) → held_of held file ≡ o → is_smaller (mark_held (held_of (joins held file size) file)) (mark_held (held_of held file)) ≡ false
    at None is = subst (λ (x : Option HeldFile). is_smaller (mark_held (held_of (marked held file size x) file)) (mark_held (held_of held file)) ≡ false) (sym is) (itself_within (mark_held (held_of held file)))
    at (Some h) is =
        let put : HeldFile = record { capability = h.capability; mark = merged h.mark size } in
        subst (λ (x : Option HeldFile). is_smaller (mark_held (held_of (marked held file size x) file)) (mark_held x) ≡ false) (sym is)
        (subst (λ (x : Option HeldFile). is_smaller (mark_held x) h.mark ≡ false) (sym (put_found held file put)) (merged_grows h.mark size))

learnt_grows : (held : Held) (l : Learnt) (n : ℕ) → is_smaller (mark_held (held_of (rows.holds_learnt held l) n)) (mark_held (held_of held n)) ≡ false
learnt_grows held (learnt.Mark file size) n = joins_grows held file size n
learnt_grows held (learnt.Capability capability size) n = holds_grows held capability size n
learnt_grows held learnt.Nothing n = itself_within (mark_held (held_of held n))
learnt_grows held (learnt.Epoch file epoch) n = itself_within (mark_held (held_of held n))

ended_grows : (held : Held) (file : ℕ) (size : SizeMark) (how : Outcome) (n : ℕ) → is_smaller (mark_held (held_of (rows.held_behind held file size how) n)) (mark_held (held_of held n)) ≡ false
ended_grows held file size (outcome.Ok count bytes) n = joins_grows held file size n
ended_grows held file size (outcome.Retry answers) n = itself_within (mark_held (held_of held n))
ended_grows held file size (outcome.Refused why) n = itself_within (mark_held (held_of held n))
ended_grows held file size (outcome.Meta answer) n = itself_within (mark_held (held_of held n))
ended_grows held file size (outcome.Registry answer) n = itself_within (mark_held (held_of held n))

behind_grows : (d : WholeClient) (o : Option MadeCall) (size : SizeMark) (how : Option Outcome) (n : ℕ) → is_smaller (mark_held (held_of (rows.behind d o size how).held n)) (mark_held (held_of d.held n)) ≡ false
behind_grows d None size how n = itself_within (mark_held (held_of d.held n))
behind_grows d (Some made) size None n = itself_within (mark_held (held_of d.held n))
behind_grows d (Some made) size (Some how) n = ended_grows d.held (file_of made.request) size how n

behind_stage : (d : WholeClient) (o : Option MadeCall) (size : SizeMark) (how : Option Outcome) → d.made ≡ o → StagesFit o → StagesFit (rows.behind d o size how).made
behind_stage d None size how is fits = subst StagesFit (sym is) tt
behind_stage d (Some made) size None is fits = subst StagesFit (sym is) fits
behind_stage d (Some made) size (Some how) is fits = at (rows.result_behind d.held (file_of made.request) size how)
  where
    at : (o : Option CallResult) → StagesFit (Some (rows.ended_so made o))
    at None = fits
    at (Some result) = beside_fits (stage.Ended result) made.request tt

module _ (node : NodeId) (times : TimeSettings) (c : WholeClient) (reading : ℕ) (happens : Event) where
  goes_grows : (made : MadeCall) (s : Stage) (n : ℕ) → is_smaller (mark_held (held_of (rows.goes_on node times c reading happens made s).state.held n)) (mark_held (held_of c.held n)) ≡ false
  goes_grows made stage.OnReplicas n =
      let step = step_of_client node times c.replicas reading happens in
      behind_grows (record c { replicas = step.state }) c.made (rows.mark_told happens) (ended_by None step.turned.marks) n
  goes_grows made (stage.Waiting target deadline) n = learnt_grows c.held (waiting.event_comes (rows.clock_of c reading) c.held made target deadline happens).learnt n
  goes_grows made (stage.Ended how) n = itself_within (mark_held (held_of c.held n))

  pub stepped_grows : (n : ℕ) → is_smaller (mark_held (held_of (stepped node times c reading happens).state.held n)) (mark_held (held_of c.held n)) ≡ false
  unfolding stepped
  stepped_grows n = at c.made
    where
      at : (o : Option MadeCall) → is_smaller (mark_held (held_of (rows.goes_on_with node times c reading happens o).state.held n)) (mark_held (held_of c.held n)) ≡ false
      at None = itself_within (mark_held (held_of c.held n))
      at (Some made) = goes_grows made made.stage n

  after_stage : (made : MadeCall) (deadline : ℕ) (n : Next) → StageFits made.stage made.request → StageFits (rows.stage_after deadline made.stage n) made.request
  after_stage made deadline next.Wait fits = fits
  after_stage made deadline (next.Ask target) fits = beside_fits (stage.Waiting target deadline) made.request tt
  after_stage made deadline (next.End how) fits = beside_fits (stage.Ended how) made.request tt

  goes_stage : (made : MadeCall) (s : Stage) → c.made ≡ Some made → StageFits made.stage made.request → StagesFit (rows.goes_on node times c reading happens made s).state.made
  goes_stage made stage.OnReplicas is fits =
      let step = step_of_client node times c.replicas reading happens in
      behind_stage (record c { replicas = step.state }) c.made (rows.mark_told happens) (ended_by None step.turned.marks) refl (subst StagesFit (sym is) fits)
  goes_stage made (stage.Waiting target deadline) is fits =
      after_stage made (rows.clock_of c reading + times.lease) (waiting.event_comes (rows.clock_of c reading) c.held made target deadline happens).next fits
  goes_stage made (stage.Ended how) is fits = subst StagesFit (sym is) fits

  pub stepped_stage : StagesFit c.made → StagesFit (stepped node times c reading happens).state.made
  unfolding stepped
  stepped_stage fits = at c.made refl fits
    where
      at : (o : Option MadeCall) → c.made ≡ o → StagesFit o → StagesFit (rows.goes_on_with node times c reading happens o).state.made
      at None is fits = subst StagesFit (sym is) tt
      at (Some made) is fits = goes_stage made made.stage is fits

-- ---- what a step does

-- what is asked and reported then, and what of it is sent
pub record StepMarked (number : ℕ) (bound : SizeMark) (step : Step WholeClient) : Type 0 where
  pub made : MadeIs (RequestMarked (IsWithin bound number)) step.state.made
  pub stage : StagesFit step.state.made
  pub sent : (k : Msg) → Has k step.turned.outs → PayloadMarked (IsWithin bound number) k.payload

request_sent : (Is : FileId → SizeMark → Type 0) (n : ℕ) (q : Request) → RequestMarked Is n q → PayloadMarked Is (payload_of n q)
request_sent Is n (request.Replicated capability asked) is = tt
request_sent Is n (request.Striped capability asked) is = tt
request_sent Is n (request.Meta user group wanted) is = is
request_sent Is n (request.Registry asked) is = tt

one_sent : (Is : FileId → SizeMark → Type 0) (node to : NodeId) (n : ℕ) (q : Request) → RequestMarked Is n q → (k : Msg) → Has k (message node to (payload_of n q) ∷ []) → PayloadMarked Is k.payload
one_sent Is node to n q is k (inl e) = subst (λ (x : Msg). PayloadMarked Is x.payload) (sym e) (request_sent Is n q is)
one_sent Is node to n q is k (inr h) = absurd h

all_sent : (Is : FileId → SizeMark → Type 0) (node : NodeId) (outs : List Msg) → Sends (RequestMarked Is) node outs → (k : Msg) → Has k outs → PayloadMarked Is k.payload
all_sent Is node _ sends_none k h = absurd h
all_sent Is node _ (sends_one to n q is) k h = one_sent Is node to n q is k h

calls_marked : (Is : FileId → SizeMark → Type 0) (c : WholeClient) → MadeIs (RequestMarked Is) c.made → ClientIs (RequestMarked Is) c
calls_marked Is c is = record { running = running c.replicas.running; made = is }
  where
    running : (o : Option RunningCall) → RunningIs (RequestMarked Is) o
    running None = tt
    running (Some x) = tt

none_again : (node : NodeId) (times : TimeSettings) (c : WholeClient) (reading : ℕ) → c.made ≡ None → (called_again node times c reading).state.made ≡ None
unfolding called_again
none_again node times c reading is = ap (λ (o : Option MadeCall). (rows.repeated node times c reading o).state.made) is ∙ is

module _ (number : ℕ) (node : NodeId) (times : TimeSettings) (c : WholeClient) (reading : ℕ) where
  -- on an event
  pub event_marked : (bound : SizeMark) (happens : Event) → ClientWithin number bound c → StepMarked number bound (stepped node times c reading happens)
  event_marked bound happens within =
      let Is : FileId → SizeMark → Type 0 = IsWithin bound number in
      let is = stepped_is (RequestMarked (IsWithin bound number)) node times c reading happens (calls_marked (IsWithin bound number) c within.made) in
      record { made = is.client.made; stage = stepped_stage node times c reading happens within.stage; sent = all_sent (IsWithin bound number) node (stepped node times c reading happens).turned.outs is.sends }

  -- what another client holds of the file
  pub event_held : (bound : SizeMark) (happens : Event) → ClientWithin number bound c → IsAside number c.made → EventMarked (IsWithin bound number) happens
      → is_smaller bound (mark_held (held_of (stepped node times c reading happens).state.held number)) ≡ false
  event_held bound happens within aside comes = at (stepped_aside number (IsWithin bound number) node times c reading happens comes aside).0
    where
      joined : (o : Option HeldFile) (mark : SizeMark) → is_smaller bound (mark_held o) ≡ false → is_smaller bound mark ≡ false → is_smaller bound (joined_with o mark) ≡ false
      joined None mark old new = new
      joined (Some h) mark old new = merged_within bound h.mark mark old new

      at : HeldThen number (IsWithin bound number) c.held (held_of (stepped node times c reading happens).state.held number) → is_smaller bound (mark_held (held_of (stepped node times c reading happens).state.held number)) ≡ false
      at (inl same_held) = subst (λ (o : Option HeldFile). is_smaller bound (mark_held o) ≡ false) (sym same_held) within.held
      at (inr (capability, mark, e, is, found)) = subst (λ (o : Option HeldFile). is_smaller bound (mark_held o) ≡ false) (sym found) (joined (held_of c.held number) mark within.held (is e))

  -- its last call once more
  pub again_marked : (bound : SizeMark) → ClientWithin number bound c → StepMarked number bound (called_again node times c reading)
  again_marked bound within =
      let is = called_again_is (RequestMarked (IsWithin bound number)) node times c reading (calls_marked (IsWithin bound number) c within.made) in
      record { made = is.client.made; stage = by_made c.made refl; sent = all_sent (IsWithin bound number) node (called_again node times c reading).turned.outs is.sends }
    where
      by_made : (o : Option MadeCall) → c.made ≡ o → StagesFit (called_again node times c reading).state.made
      by_made None is = subst StagesFit (sym (none_again node times c reading is)) tt
      by_made (Some made) is = subst (λ (x : Step WholeClient). StagesFit x.state.made) (sym (again_is node times c reading made is)) (first_fits (rows.clock_of c reading + times.lease) made.request)

  pub again_held : (called_again node times c reading).state.held ≡ c.held
  again_held = (called_again_is (λ n q. Unit {0}) node times c reading (record { running = running c.replicas.running; made = made c.made })).held
    where
      running : (o : Option RunningCall) → RunningIs (λ n q. Unit {0}) o
      running None = tt
      running (Some x) = tt

      made : (o : Option MadeCall) → MadeIs (λ n q. Unit {0}) o
      made None = tt
      made (Some x) = tt

-- a call reports the mark that is held
report_marked : (number : ℕ) (bound : SizeMark) (files : List PlacedFile) (held : Held) (k : Call) (n : ℕ) (asked : Request) → FitsCall k → AllHeld (HeldFits files) held → is_smaller bound (mark_held (held_of held number)) ≡ false
    → request_of held k ≡ Some asked → RequestMarked (IsWithin bound number) n asked
report_marked number bound files held k n asked fits all within is = by_call k fits is
  where
    on_kind : (what : Kind) (capability : Capability) (o : Op) → RequestMarked (IsWithin bound number) n (on_file what capability o)
    on_kind kind.Replicated capability o = tt
    on_kind kind.Striped capability o = tt

    under : (o : Op) (found : Option HeldFile) → under_held o found ≡ Some asked → RequestMarked (IsWithin bound number) n asked
    under o None wants = absurd (cc wants)
    under o (Some h) wants = (let same_request : on_file h.capability.location.kind h.capability o ≡ asked = cc wants in subst (RequestMarked (IsWithin bound number) n) same_request (on_kind h.capability.location.kind h.capability o))

    written : (user group : ℕ) (wanted : MetaReq) → FitsCall (call.Meta user group wanted) → RequestMarked (IsWithin bound number) n (request.Meta user group wanted)
    written user group (wish.Report capability mark) fits = absurd fits.3
    written user group _ fits = tt

    reported : (user group f : ℕ) (found : Option HeldFile) → held_of held f ≡ found → report_of user group found ≡ Some asked → RequestMarked (IsWithin bound number) n asked
    reported user group f None found wants = absurd (cc wants)
    reported user group f (Some h) found wants =
        let same_request : request.Meta user group (wish.Report h.capability h.mark) ≡ asked = cc wants in
        subst (RequestMarked (IsWithin bound number) n) same_request (own h found)
      where
        own : (h : HeldFile) → held_of held f ≡ Some h → IsWithin bound number h.capability.file h.mark
        own h found e =
            let key : f ≡ number = sym (held_found (HeldFits files) held f h found all).0 ∙ e in
            subst (λ (o : Option HeldFile). is_smaller bound (mark_held o) ≡ false) (subst (λ (j : ℕ). held_of held j ≡ Some h) key found) within

    by_call : (k : Call) → FitsCall k → request_of held k ≡ Some asked → RequestMarked (IsWithin bound number) n asked
    by_call (call.Read f object from len) fits is = under (op.Read object from len) (held_of held f) is
    by_call (call.Write f object from bytes) fits is = under (op.Write object from bytes) (held_of held f) is
    by_call (call.Truncate f size epoch) fits is = under (op.Truncate size) (held_of held f) is
    by_call (call.Meta user group wanted) fits is = (let same_request : request.Meta user group wanted ≡ asked = cc is in subst (RequestMarked (IsWithin bound number) n) same_request (written user group wanted fits))
    by_call (call.Report user group f) fits is = reported user group f (held_of held f) refl is
    by_call (call.Registry wanted) fits is = (let same_request : request.Registry wanted ≡ asked = cc is in subst (RequestMarked (IsWithin bound number) n) same_request tt)

-- a client is called that is ready
module _ (number : ℕ) (files : List PlacedFile) (node : NodeId) (times : TimeSettings) (c d : WholeClient) (reading : ℕ) (k : Call) (fits : FitsCall k) (ready : IsReady number c d) (all : AllHeld (HeldFits files) d.held) where
  ready_mark : mark_held (held_of d.held number) ≡ mark_held (held_of c.held number)
  ready_mark = mark_is (held_of d.held number) (mark_held (held_of c.held number)) (ready.mark (mark_held (held_of c.held number)) (is_mark (held_of c.held number)))

  -- its mark stays
  pub call_mark : mark_held (held_of (called node times d reading k).state.held number) ≡ mark_held (held_of c.held number)
  call_mark = at (call_is node times d reading k)
    where
      at : {step : Step WholeClient} → CallIs node times d reading k step → mark_held (held_of step.state.held number) ≡ mark_held (held_of c.held number)
      at nothing_called = ready_mark
      at (begins_so asked wants room) = ready_mark

  pub call_marked : (bound : SizeMark) → ClientWithin number bound c → StepMarked number bound (called node times d reading k)
  call_marked bound within = at (call_is node times d reading k)
    where
      held : is_smaller bound (mark_held (held_of d.held number)) ≡ false
      held = subst (λ (m : SizeMark). is_smaller bound m ≡ false) (sym ready_mark) within.held

      at : {step : Step WholeClient} → CallIs node times d reading k step → StepMarked number bound step
      at nothing_called =
          record { made = subst (MadeIs (RequestMarked (IsWithin bound number))) (sym ready.made) within.made; stage = subst StagesFit (sym ready.made) within.stage; sent = λ x h. absurd h }
      at (begins_so asked wants room) =
          let starts = starts_begun node times d.replicas reading k asked room in
          let is = report_marked number bound files d.held k d.replicas.next asked fits all held wants in
          record {
            made = is;
            stage = first_fits (rows.clock_of d reading + times.lease) asked;
            sent = λ x h. one_sent (IsWithin bound number) node starts.to d.replicas.next asked is x (subst (Has x) starts.outs h);
          }
