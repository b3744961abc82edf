-- what is recorded by the rows of one list on a message of the open list: a list is stored only as the first
use Rattle.std.proofs.Common.{◌≡◌, ◌∙◌, ℕ, Bool, true, false, refl, ap, sym, subst, [], Option, Some, None, cond}
use Rattle.xt_base.specs.declared.ids.NodeId.{NodeId}
use Rattle.xt_base.specs.declared.ids.FileId.{FileId}
use Rattle.xt_base.specs.declared.ids.OpId.{OpId}
use Rattle.xt_messages.specs.Limits.{is_of_list}
use Rattle.xt_messages.specs.declared.file.Capability.{Capability}
use Rattle.xt_messages.specs.declared.file.Kind.{Kind}
use Rattle.xt_messages.specs.declared.file.Kind.TheVariants as kind
use Rattle.xt_messages.specs.declared.file.Location.{Location}
use Rattle.xt_messages.specs.declared.file.Op.{Op}
use Rattle.xt_messages.specs.declared.reply.Denial.{Denial}
use Rattle.xt_messages.specs.declared.reply.Reply.{Reply}
use Rattle.xt_messages.specs.declared.message.Payload.{Payload}
use Rattle.xt_messages.specs.declared.message.Payload.TheVariants as payload
use Rattle.xt_messages.specs.declared.record.FileRow.{FileRow}
use Rattle.xt_messages.specs.declared.record.Record.{Record}
use Rattle.xt_messages.specs.declared.record.Record.TheVariants as kept
use Rattle.xt_protocol.specs.LeaseRows.{LeaseState, Proposer, free, asking, writing, held, can_ask}
use Rattle.xt_protocol.specs.declared.states.Acted.{Acted}
use Rattle.xt_protocol.specs.declared.states.WaitingAsk.{WaitingAsk}
use Rattle.xt_protocol.specs.Turns.{keeps, quiet, the_record}
use Rattle.xt_protocol.specs.ReplicaRows.{kept_after}
use Rattle.xt_protocol.specs.Primaries.{if_any, is_active}
use Rattle.xt_protocol.specs.Asks.{asked_already, waits}
use Rattle.xt_protocol.specs.FileStates.{FileState, Site, FileStep, and_then, ground_of, nothing, steps_to}
use Rattle.xt_protocol.specs.Overdue.{expired}
use Rattle.xt_protocol.specs.AskRows.{ask_let_in, ask_rows, ask_under, ask_waits, ask_without_lease, capability_list_range, capability_refused, elsewhere, handle_ask, refusal_of, serve_ask, view_record, waiting_ask}
use Rattle.xt_protocol.specs.StripedRows.{handle_striped}
use Rattle.xt_protocol.specs.FileSteps.{ask_comes, message_comes, replica_acts, step_of_file}
use Rattle.osd_invariants.proofs.Kept.{expired_quiet, served_none}
use Rattle.osd_invariants.proofs.Kept as kept_steps
use Rattle.osd_invariants.proofs.StripedAsks.{striped_outcome}
use Rattle.lease_runs.specs.LeaseView.{leases_and_asks}
use Rattle.lease_runs.specs.ActsView.{ListAsked}
use Rattle.lease_runs.specs.ActsView as before_lists
use Rattle.lease_runs.proofs.ActSteps.{step_rec}
use Rattle.list_rows.specs.ListRows.{list_version}
use Rattle.list_laws.specs.Takes.{IsOpenAt, AskPasses, PassesRows, of_list, asks}

-- ---- asks that the rows refuse, and asks on striped files

-- nothing but an answer, and perhaps an update
pub record IsCalm (s : FileState) (step : FileStep) : Type 0 where
  pub unlisting : (file : FileId) (location : Location) → step.turned.rec ≡ Some (kept.View file location) → ⊥
  pub lease : step.state.lease ≡ s.lease
  pub acceptor : step.state.acceptor ≡ s.acceptor
  pub location : step.state.kept.location ≡ s.kept.location
  pub outs : leases_and_asks step.turned.outs ≡ []
  pub marks : step.turned.marks ≡ []

-- an ask that comes to the rows either is for the open list, or is calm
pub data AskIs (site : Site) (s : FileState) (id : OpId) (capability : Capability) (asked : Op) (step : FileStep) : Type 0 where
  for_list : IsOpenAt s capability.location.version → step ≡ handle_ask site s id capability asked → AskIs site s id capability asked step
  calm : IsCalm s step → AskIs site s id capability asked step

refused_calm : (site : Site) (s : FileState) (id : OpId) (capability : Capability) (asked : Op) (why : Denial) → capability_refused site capability asked ≡ Some why
    → IsCalm s (handle_ask site s id capability asked)
unfolding handle_ask refusal_of
refused_calm site s id capability asked why is =
    subst (λ (o : Option Denial). IsCalm s (ask_let_in site s id capability asked (capability_list_range site s.kept.location capability asked o))) (sym is)
    (record { unlisting = λ file location none. absurd (cc); lease = refl; acceptor = refl; location = refl; outs = refl; marks = refl })

striped_calm : (site : Site) (s : FileState) (id : OpId) (capability : Capability) (asked : Op) → IsCalm s (replica_acts site s id.client (handle_striped site s.kept id capability asked))
striped_calm site s id capability asked =
    record {
      unlisting = λ file location.
          striped_outcome (λ (acted : Acted). acted.rec ≡ Some (kept.View file location) → ⊥) site s.kept id capability asked
          (record { nothing = λ is. absurd (cc); tells = λ answer is. absurd (cc); keeps = λ update fits is. absurd (cc) });
      lease = refl;
      acceptor = refl;
      location =
          striped_outcome (λ (acted : Acted). (kept_after s.kept acted.rec).location ≡ s.kept.location) site s.kept id capability asked
          (record { nothing = refl; tells = λ answer. refl; keeps = λ update is. refl });
      outs =
          striped_outcome (λ (acted : Acted). leases_and_asks (if_any site.node id.client acted.answer) ≡ []) site s.kept id capability asked
          (record { nothing = refl; tells = λ answer. refl; keeps = λ update is. refl });
      marks = refl;
    }

pub ask_is : (site : Site) (s : FileState) (from : NodeId) (number : ℕ) (capability : Capability) (asked : Op) → AskPasses site s (payload.Ask number capability asked)
    → AskIs site s (record { client = from; number = number }) capability asked (message_comes site s from (payload.Ask number capability asked))
ask_is site s from number capability asked passes = at capability.location.kind refl (capability_refused site capability asked) refl
  where
    id : OpId
    id = record { client = from; number = number }

    at : (k : Kind) → capability.location.kind ≡ k → (o : Option Denial) → capability_refused site capability asked ≡ o → AskIs site s id capability asked (ask_comes site s k id capability asked)
    at kind.Replicated is None allowed = for_list (passes is allowed) refl
    at kind.Replicated is (Some why) refused = calm (refused_calm site s id capability asked why refused)
    at kind.Striped is o is2 = calm (striped_calm site s id capability asked)

-- ---- an ask for the open list

either_none : (b : Bool) (x y : FileStep) → x.turned.rec ≡ None → y.turned.rec ≡ None → (cond b x y).turned.rec ≡ None
either_none true x y p q = p
either_none false x y p q = q

without_none : (site : Site) (s : FileState) (p : Proposer) (ask : WaitingAsk) (answer : Option Reply) → (ask_without_lease site s p ask answer).turned.rec ≡ None
without_none site s p ask (Some answer) = refl
without_none site s p ask None = either_none (can_ask p) _ (nothing s) refl refl

under_none : (site : Site) (s : FileState) (l : LeaseState) (ask : WaitingAsk) → (ask_under site s l ask).turned.rec ≡ None
under_none site s (held h) ask =
    either_none (is_active s.primary.tenure) (serve_ask site s ask) (ask_waits s ask)
    (served_none (ground_of site s) (record { primary = s.primary; asks = s.asks; turned = quiet }) ask (waits s.asks ask) refl) refl
under_none site s (asking r) ask = refl
under_none site s (writing r) ask = refl
under_none site s (free p) ask = without_none site s p ask (elsewhere site s.acceptor.accepted)

rows_none : (site : Site) (s : FileState) (ask : WaitingAsk) → (ask_rows site s ask).turned.rec ≡ None
rows_none site s ask = either_none (asked_already s.asks ask.id) (nothing s) (ask_under site s s.lease ask) refl (under_none site s s.lease ask)

-- what is recorded after what is overdue is what is recorded
rest_rec : (site : Site) (s : FileState) (from : NodeId) (content : Payload) → (step_of_file site s from content).turned.rec ≡ (message_comes site (expired site s).state from content).turned.rec
unfolding step_of_file
rest_rec site s from content =
    ap (λ (r : Option Record). the_record r (message_comes site (expired site s).state from content).turned.rec) (expired_quiet site s).0

some_view : (rec : Option Record) (file : FileId) (location : Location) {P : Type 0} → rec ≡ None → rec ≡ Some (kept.View file location) → P
some_view rec file location none is = let both : None ≡ Some (kept.View file location) = sym none ∙ is in absurd (cc)

-- a list is stored only where there is none
let_in_view : (site : Site) (s : FileState) (id : OpId) (capability : Capability) (asked : Op) (refusal : Option Reply) (file : FileId) (location : Location)
    → (ask_let_in site s id capability asked refusal).turned.rec ≡ Some (kept.View file location) → s.kept.location ≡ None
let_in_view site s id capability asked (Some answer) file location is = absurd (cc)
let_in_view site s id capability asked None file location is = at s.kept.location refl is
  where
    ask : WaitingAsk
    ask = waiting_ask site id capability.epoch asked

    at : (was : Option Location) → s.kept.location ≡ was
        → (and_then (steps_to (record s { used = site.now }) (keeps (view_record s capability.location was))) (λ state. ask_rows site state ask)).turned.rec ≡ Some (kept.View file location)
        → s.kept.location ≡ None
    at None stored is = stored
    at (Some old) stored is = some_view _ file location (rows_none site (steps_to (record s { used = site.now }) (keeps None)).state ask) is

-- ---- the version of the list

-- the record of rows on a message, where a list that an ask names is of the version that there is
version_after : (file : FileId) (content : Payload) (row : FileRow) (rec : Option Record) → before_lists.RecordIs file content rec
    → ((f : FileId) (location : Location) → rec ≡ Some (kept.View f location) → ListAsked content location → location.version ≡ list_version row.location)
    → list_version (kept_after row rec).location ≡ list_version row.location
version_after file content row None is asked = refl
version_after file content row (Some (kept.Promise f epoch)) is asked = refl
version_after file content row (Some (kept.Update f update)) is asked = refl
version_after file content row (Some (kept.Stage f object version bytes)) is asked = refl
version_after file content row (Some (kept.Head f head)) is asked = refl
version_after file content row (Some (kept.View f location)) is asked = asked f location refl is.1
version_after file content row (Some _) is asked = absurd is

asked_of_list : (content : Payload) (location : Location) {P : Type 0} → is_of_list content ≡ true → ListAsked content location → P
asked_of_list (payload.Ask number capability asked) location among is = absurd (cc)
asked_of_list _ location among is = absurd is

step_version : (site : Site) (s : FileState) (from : NodeId) (content : Payload)
    → ((f : FileId) (location : Location) → (step_of_file site s from content).turned.rec ≡ Some (kept.View f location) → ListAsked content location → location.version ≡ list_version s.kept.location)
    → list_version (step_of_file site s from content).state.kept.location ≡ list_version s.kept.location
step_version site s from content asked =
    let step = step_of_file site s from content in
    ap (λ (row : FileRow). list_version row.location) (kept_steps.step_follows site s from content)
    ∙ version_after s.kept.file content s.kept step.turned.rec (step_rec site s from content) asked

-- a calm rest leaves the version
calm_version : (site : Site) (s : FileState) (from : NodeId) (content : Payload) → IsCalm (expired site s).state (message_comes site (expired site s).state from content)
    → list_version (step_of_file site s from content).state.kept.location ≡ list_version s.kept.location
unfolding step_of_file
calm_version site s from content q =
    ap list_version q.location ∙ ap (λ (row : FileRow). list_version row.location) (expired_quiet site s).1

ask_version : (site : Site) (s : FileState) (from : NodeId) (number : ℕ) (capability : Capability) (asked : Op) → AskPasses site (expired site s).state (payload.Ask number capability asked)
    → list_version (step_of_file site s from (payload.Ask number capability asked)).state.kept.location ≡ list_version s.kept.location
ask_version site s from number capability asked passes = at (ask_is site (expired site s).state from number capability asked passes)
  where
    content : Payload
    content = payload.Ask number capability asked

    settled : list_version (expired site s).state.kept.location ≡ list_version s.kept.location
    settled = ap (λ (row : FileRow). list_version row.location) (expired_quiet site s).1

    at : AskIs site (expired site s).state (record { client = from; number = number }) capability asked (message_comes site (expired site s).state from content)
        → list_version (step_of_file site s from content).state.kept.location ≡ list_version s.kept.location
    at (calm q) = calm_version site s from content q
    at (for_list open_list is) =
        step_version site s from content
        (λ f location rec named. ap (λ (l : Location). l.version) (sym named) ∙ open_list.same ∙ settled)

pub keeps_version : (site : Site) (s : FileState) (from : NodeId) (list : ℕ) (content : Payload) → PassesRows site (expired site s).state list content
    → list_version (step_of_file site s from content).state.kept.location ≡ list_version s.kept.location
keeps_version site s from list content (of_list among is) = step_version site s from content (λ f location rec named. asked_of_list content location among named)
keeps_version site s from list content (asks passes) = at content passes
  where
    at : (c : Payload) → AskPasses site (expired site s).state c → list_version (step_of_file site s from c).state.kept.location ≡ list_version s.kept.location
    at (payload.Ask number capability asked) q = ask_version site s from number capability asked q
    at _ q = absurd q

-- ---- the first list

-- a list is stored only where there was none, and as the first
pub record StoresOpen (site : Site) (s : FileState) (content : Payload) (location : Location) : Type 0 where
  pub asked : ListAsked content location
  pub unlisted : s.kept.location ≡ None
  pub same : location.version ≡ list_version s.kept.location

handled_view : (site : Site) (s : FileState) (id : OpId) (capability : Capability) (asked : Op) (file : FileId) (location : Location)
    → (handle_ask site s id capability asked).turned.rec ≡ Some (kept.View file location) → s.kept.location ≡ None
unfolding handle_ask
handled_view site s id capability asked file location is = let_in_view site s id capability asked (refusal_of site s.kept.location capability asked) file location is

pub ask_stores : (site : Site) (s : FileState) (from : NodeId) (number : ℕ) (capability : Capability) (asked : Op) → AskPasses site (expired site s).state (payload.Ask number capability asked)
    → (file : FileId) (location : Location) → ListAsked (payload.Ask number capability asked) location
    → (step_of_file site s from (payload.Ask number capability asked)).turned.rec ≡ Some (kept.View file location) → StoresOpen site s (payload.Ask number capability asked) location
ask_stores site s from number capability asked passes file location named is = at (ask_is site (expired site s).state from number capability asked passes)
  where
    content : Payload
    content = payload.Ask number capability asked

    settled : (expired site s).state.kept ≡ s.kept
    settled = (expired_quiet site s).1

    rest : (message_comes site (expired site s).state from content).turned.rec ≡ Some (kept.View file location)
    rest = sym (rest_rec site s from content) ∙ is

    at : AskIs site (expired site s).state (record { client = from; number = number }) capability asked (message_comes site (expired site s).state from content)
        → StoresOpen site s content location
    at (calm q) = absurd (q.unlisting file location rest)
    at (for_list open_list same) =
        record {
          asked = named;
          unlisted =
              ap (λ (row : FileRow). row.location) (sym settled)
              ∙ handled_view site (expired site s).state (record { client = from; number = number }) capability asked file location (ap (λ (st : FileStep). st.turned.rec) (sym same) ∙ rest);
          same = ap (λ (l : Location). l.version) (sym named) ∙ open_list.same ∙ ap (λ (row : FileRow). list_version row.location) settled;
        }

pub rows_store : (site : Site) (s : FileState) (from : NodeId) (list : ℕ) (content : Payload) → PassesRows site (expired site s).state list content
    → (file : FileId) (location : Location) → ListAsked content location → (step_of_file site s from content).turned.rec ≡ Some (kept.View file location) → StoresOpen site s content location
rows_store site s from list content (of_list among is) file location named rec = asked_of_list content location among named
rows_store site s from list content (asks passes) file location named rec = at content passes named rec
  where
    at : (c : Payload) → AskPasses site (expired site s).state c → ListAsked c location → (step_of_file site s from c).turned.rec ≡ Some (kept.View file location) → StoresOpen site s c location
    at (payload.Ask number capability asked) q named rec = ask_stores site s from number capability asked q file location named rec
    at _ q named rec = absurd q
