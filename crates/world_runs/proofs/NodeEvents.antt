-- an event at a node leaves a world that fits: an OSD's, a client's, a metadata server's and a directory service's
use Rattle.std.proofs.Common.{◌≡◌, ℕ, inl, inr, List, [], ◌∷◌, ◌++◌, map, refl, arith, ap, sym, ◌∙◌, subst, Option, Some, None, true, false}
use Rattle.xt_base.specs.TimeSettings.{TimeSettings}
use Rattle.xt_base.specs.declared.ids.NodeId.{NodeId}
use Rattle.xt_base.specs.declared.ids.Boot.{Boot}
use Rattle.xt_messages.specs.declared.file.Op.{Op}
use Rattle.xt_messages.specs.declared.message.Msg.{Msg}
use Rattle.xt_messages.specs.declared.message.Payload.{Payload}
use Rattle.xt_messages.specs.declared.message.Payload.TheVariants as payload
use Rattle.xt_messages.specs.declared.meta.MetaReq.{MetaReq}
use Rattle.xt_messages.specs.declared.meta.MetaReq.TheVariants as want
use Rattle.xt_messages.specs.declared.meta.MetaAnswer.{MetaAnswer}
use Rattle.xt_messages.specs.declared.meta.MetaAnswer.TheVariants as answer
use Rattle.server_rows.specs.Metadata.{Catalogue, MrcState, catalogue_of, step_of_mrc}
use Rattle.server_rows.specs.Directory.{DirState, step_of_dir}
use Rattle.xt_messages.specs.declared.record.Record.{Record}
use Rattle.xt_messages.specs.declared.event.Call.{Call}
use Rattle.xt_messages.specs.declared.event.Event.{Event}
use Rattle.xt_messages.specs.declared.event.Event.TheVariants as event
use Rattle.xt_protocol.specs.LeaseRows.{Silent}
use Rattle.lease_safety.specs.State.{Has}
use Rattle.lease_runs.specs.LeaseWorld.{LeaseRow, LeaseNode, RowStep, node_stepped, row_stepped, IsReached, lease_file}
use Rattle.lease_runs.proofs.Seen as seen_steps
use Rattle.xt_protocol.specs.OsdSteps.{OsdState, step_of_osd, file_at}
use Rattle.lease_runs.specs.LeaseView.{lease_row_of, is_about}
use Rattle.world_spec.specs.declared.PlacedFile.{PlacedFile}
use Rattle.world_spec.specs.declared.Role.{Role}
use Rattle.world_spec.specs.declared.Role.TheVariants as role
use Rattle.time_line.specs.TimeLine.{RunningBoot, standing}
use Rattle.world_spec.specs.NodeSteps.{entry_of, files_marked, one_more, outside_of}
use Rattle.world_runs.specs.View.{file_setting, told, awake_as, unseen, core_seen, node_seen, lease_view}
use Rattle.world_runs.proofs.Standings.{AreInert, inert_still, still_standing}
use Rattle.world_runs.proofs.Marks.{MarksFit, inert, told_elsewhere, clock_stays}
use Rattle.world_runs.proofs.Frame.{AreMembers, IsOther, IsStep, next_node, seen_osd, seen_other}
use Rattle.world_runs.proofs.Roles.{IsNoMrc, role_at, made_in, made_up}
use Rattle.world_runs.proofs.Tables.{file_in-id, AllStay, stay_before, stay_made}
use Rattle.world_runs.proofs.Clients.{core_more}
use Rattle.world_runs.proofs.Files.{RecordFits, payload_more}
use Rattle.xt_messages.specs.declared.record.Folded.{Folded}
use Rattle.xt_messages.specs.declared.record.Record.TheVariants as kept
use Rattle.xt_protocol.specs.Folds.{fold_of}
use Rattle.xt_protocol.proofs.Folds.{fold_of-push}
use Rattle.world_runs.proofs.Making.{step_kept, step_made, dir_kept, grants_known, files_inert, IsMetaIfAny, IsServed, served_of, IsListing, mrc_serves, dir_serves}
use Rattle.world_runs.proofs.OsdSilence.{osd_asks_none, osd_makes_none}
use Rattle.world_runs.proofs.OsdEvents as osd_events
use Rattle.world_runs.proofs.Fit.{IsShaped, known_after, running_made, IsNext, kept_boot}
use Rattle.xt_protocol.specs.declared.turned.Turned.{Turned}
use Rattle.xt_base.specs.declared.ids.FileId.{FileId}
use Rattle.xt_messages.specs.declared.file.Kind.{Kind}
use Rattle.xt_messages.specs.declared.file.Kind.TheVariants as kind
use Rattle.xt_messages.specs.declared.file.Op.TheVariants as op
use Rattle.xt_messages.specs.declared.event.Call.TheVariants as call
use Rattle.xt_messages.specs.declared.event.Mark.{Mark}
use Rattle.xt_protocol.specs.Turns.{message}
use Rattle.client_rows.specs.declared.KnownFile.{KnownFile}
use Rattle.client_rows.specs.declared.holding.HeldFile.{HeldFile}
use Rattle.client_rows.specs.declared.requests.Request.{Request}
use Rattle.client_rows.specs.declared.requests.Request.TheVariants as request
use Rattle.client_rows.specs.Called.{called_file}
use Rattle.client_rows.specs.Clients.{knows}
use Rattle.client_rows.specs.Holding.{held_of}
use Rattle.client_rows.specs.Requests.{payload_of, on_file, under_held, report_of, request_of}
use Rattle.client_rows.specs.Rows.{WholeClient, stepped, called, called_again}
use Rattle.client_rows.specs.Steps.{Step}
use Rattle.client_steps.specs.Asked.{AllHeld, GrantIs, PayloadGrants, AnswerGrants, Sends, sends_none, sends_one, Tells, tells_none, tells_end, CallStepIs, call_passes, call_begins}
use Rattle.client_steps.proofs.Held.{held_found, holds_held, held_after}
use Rattle.client_steps.proofs.Steps.{stepped_is, called_is, called_again_is}
use Rattle.time_line.specs.Bounds.{IsWritten, FitsCall}
use Rattle.world_spec.specs.World.{World, Node, Running, Core, osd, client, mrc, dir, world_key, node_in, file_in, known, up_of}
use Rattle.world_runs.specs.Worlds.{WantFits, AnswerFits, PayloadFits, RequestFits, HeldFits, ClientFits, CoreFits, UpFits, role_of, IsMadeBy, EndFits, Stands}
use Rattle.world_spec.specs.Lines.{declared_capability, epoch_of, about_to_use, ready_for, files_in}
use Rattle.world_runs.proofs.Walk.{Reaches, NodeStep, of_osd, of_client, of_mrc, of_dir, of_call, of_again, call_step}

-- ---- OSDs

-- how a running node stands
pub stood_by : (w : World) (own : List Msg) (node : Node) (r : Running) → IsShaped w own → node_in w.nodes node.id.0 ≡ Some node → node.up ≡ Some r → (number : ℕ)
    → (st : RunningBoot) × (standing node.id number w.entries ≡ Some st) × (st.clock ≡ r.clock) × EndFits st.end r.core
stood_by w own node r shape found is_up number =
    at (standing node.id number w.entries) refl (subst (Stands (standing node.id number w.entries)) (ap up_of found ∙ is_up) (shape.stands node.id.0 number))
  where
    at : (o : Option RunningBoot) → standing node.id number w.entries ≡ o → Stands (standing node.id number w.entries) (Some r) → (st : RunningBoot) × (standing node.id number w.entries ≡ Some st) × (st.clock ≡ r.clock) × EndFits st.end r.core
    at None is stands = absurd (subst (λ (o : Option RunningBoot). Stands o (Some r)) is stands)
    at (Some st) is stands = (let there = subst (λ (o : Option RunningBoot). Stands o (Some r)) is stands in (st, is, there.0, there.1))

-- what runs at a node
pub core_at : (w : World) (was : List Msg) (node : Node) (r : Running) → IsShaped w was → node_in w.nodes node.id.0 ≡ Some node → node.up ≡ Some r → CoreFits w.times (known w) node.id node.kept r r.core
core_at w was node r shape found is_up = subst (UpFits w.times (known w) node.id node.kept) is_up (shape.nodes node.id.0 node found).up

pub its_role : (w : World) (was : List Msg) (node : Node) (r : Running) → IsShaped w was → node_in w.nodes node.id.0 ≡ Some node → node.up ≡ Some r → role_of r.core ≡ node.role
its_role w was node r shape found is_up = role_at node r (shape.nodes node.id.0 node found).role_is is_up

-- what is known stays so after a step
pub stay_after : (w : World) (turned : Turned) → AllStay (known w) (known_after w turned)
stay_after w turned = stay_made w.files w.made (files_marked turned.marks)

-- a node that is no metadata server makes no file
no_server : (node : Node) (its : Role) → node.role ≡ its → IsNoMrc its → node.role ≡ role.Mrc → ⊥
no_server node its is other server = subst IsNoMrc (sym is ∙ server) other

pub osd_next : (w : World) (was : List Msg) (node : Node) (r : Running) (s : OsdState) (happens : Event) → IsShaped w was → node_in w.nodes node.id.0 ≡ Some node → node.up ≡ Some r → r.core ≡ osd s
    → osd_events.Comes w was node.id happens → (let o = step_of_osd (outside_of node.kept) s r.clock happens in IsNext w was node r (osd o.osd) o.turned)
osd_next w was node r s happens shape found is_up is_osd comes =
    let o = step_of_osd (outside_of node.kept) s r.clock happens in
    record {
      shows = λ file members are. shown file members are;
      role_is = sym is_role;
      core =
          core_more (known w) (known_after w o.turned) (stay_after w o.turned) w.times node.id (one_more node.kept o.turned.rec) (record r { core = osd o.osd }) (osd o.osd)
          (fits_all.fits, omega (arith, core_is.1, ap (λ (b : Boot). b.0) (kept_boot node.kept o.turned.rec (λ rec is. (fits_all.rec rec is).1))), fits_all.kept);
      rec = fits_all.rec;
      payloads = λ m h. osd_asks_none (outside_of node.kept) s r.clock happens (known_after w o.turned) m h;
      made = λ server before. absurd (no_server node role.Osd is_role tt server);
      none_made = λ none. osd_makes_none (outside_of node.kept) s r.clock happens;
      marks = fits_all.marks;
      stands = λ number.
          let before = stood_by w was node r shape found is_up number in
          let after = clock_stays number node.id w.entries o.turned.marks before.0 before.1 fits_all.marks in
          subst (λ (st : Option RunningBoot). Stands st (Some (record r { core = osd o.osd }))) (sym after.1) (after.2 ∙ before.2, tt);
    }
  where
    is_role : node.role ≡ role.Osd
    is_role = sym (its_role w was node r shape found is_up) ∙ ap role_of is_osd

    core_is : CoreFits w.times (known w) node.id node.kept r (osd s)
    core_is = subst (CoreFits w.times (known w) node.id node.kept r) is_osd (core_at w was node r shape found is_up)

    event_is : osd_events.EventAt w was node r s (step_of_osd (outside_of node.kept) s r.clock happens)
    event_is =
        osd_events.event_at w was node r s found is_up is_osd is_role core_is.0 core_is.2 shape.good
        (λ number. let st = stood_by w was node r shape found is_up number in record { at = st.0; stands = st.1; clock = st.2 })
        shape.times happens comes

    fits_all : osd_events.StepFits w node r s (step_of_osd (outside_of node.kept) s r.clock happens)
    fits_all = event_is.all_fits

    shown : (file : FileId) (members : List NodeId) → AreMembers (known w) file members
        → (let o = step_of_osd (outside_of node.kept) s r.clock happens in
        (step : RowStep) × IsStep (file_setting w.times file members) w node r (osd o.osd) o.turned step × IsReached (file_setting w.times file members) (row_stepped (lease_view (file_setting w.times file members) w was) node.id step))
    shown file members are =
        let o = step_of_osd (outside_of node.kept) s r.clock happens in
        let g = file_setting w.times file members in
        let it = event_is.shows file members are in
        let old = told file.number node.id.0 w.entries in
        let new = told file.number node.id.0 (w.entries ++ map (entry_of node.id) o.turned.marks) in (
          it.step,
          record {
            here =
                seen_osd g node.id.0 new (next_node node r (osd o.osd) o.turned) (record r { core = osd o.osd }) is_role refl
                ∙ (ap (λ (t : Silent). let x : LeaseNode = record { runs = true; boot = r.boot.0; clock = r.clock; started = t.start; row = lease_row_of (file_at (awake_as t) o.osd.files g.file); told = new } in x) fits_all.started
                ∙ (ap (λ (row : LeaseRow). let x : LeaseNode = record { runs = true; boot = r.boot.0; clock = r.clock; started = s.started.start; row = row; told = new } in x) it.row
                ∙ (ap (λ (end : Option ℕ). let x : LeaseNode = record { runs = true; boot = r.boot.0; clock = r.clock; started = s.started.start; row = it.step.row; told = end } in x) it.told
                ∙ sym (ap (λ (x : LeaseNode). node_stepped x it.step) (seen_osd g node.id.0 old node r is_role is_up ∙ ap (core_seen g node.id.0 old node.kept r) is_osd)))));
            others = λ n ne. told_elsewhere file.number n node.id w.entries o.turned.marks ne fits_all.marks;
            outs = it.outs;
          },
          it.reached,
        )

-- ---- nodes that are no OSDs

-- what must hold of a step of such a node as to leases: it changes nothing
shown_other : (w : World) (was : List Msg) (node : Node) (r : Running) (next : Core) (turned : Turned) → IsShaped w was → node_in w.nodes node.id.0 ≡ Some node → IsOther node.role
    → MarksFit node.id w.entries turned.marks → ((m : Msg) → Has m turned.outs → lease_file m.payload ≡ None) → (file : FileId) (members : List NodeId) → AreMembers (known w) file members
    → (row : RowStep) × IsStep (file_setting w.times file members) w node r next turned row × IsReached (file_setting w.times file members) (row_stepped (lease_view (file_setting w.times file members) w was) node.id row)
shown_other w was node r next turned shape found other marks outs file members are =
    let g = file_setting w.times file members in
    let view = lease_view g w was in
    let old = told file.number node.id.0 w.entries in
    let new = told file.number node.id.0 (w.entries ++ map (entry_of node.id) turned.marks) in
    let seen : view.node node.id.0 ≡ unseen g node.id.0 [] = ap (node_seen g node.id.0 old) found ∙ seen_other g node.id.0 old node other in
    let none = seen_steps.no_step (unseen g node.id.0 []) in (
      none,
      record {
        here = seen_other g node.id.0 new (next_node node r next turned) other ∙ sym (ap (λ (x : LeaseNode). node_stepped x none) (seen_other g node.id.0 old node other));
        others = λ n ne. told_elsewhere file.number n node.id w.entries turned.marks ne marks;
        outs = λ m h is. absurd (let gone : is_about g.file (lease_file m.payload) ≡ false = ap (is_about g.file) (outs m h) in cc (gone, is));
      },
      subst (λ (x : LeaseNode). IsReached g (row_stepped view node.id (seen_steps.no_step x))) seen (seen_steps.no_step_reached g view node.id (shape.good file members are)),
    )

-- and how it stands: as before
stands_other : (w : World) (was : List Msg) (node : Node) (r : Running) (next : Core) (turned : Turned) → IsShaped w was → node_in w.nodes node.id.0 ≡ Some node → node.up ≡ Some r
    → AreInert turned.marks → ((end : Option ℕ) → EndFits end r.core → EndFits end next) → (number : ℕ) → Stands (standing node.id number (w.entries ++ map (entry_of node.id) turned.marks)) (Some (record r { core = next }))
stands_other w was node r next turned shape found is_up marks ends number =
    let before = stood_by w was node r shape found is_up number in
    let still = still_standing node.id turned.marks node.id number w.entries (inert_still node.id turned.marks marks) in
    subst (λ (st : Option RunningBoot). Stands st (Some (record r { core = next }))) (sym (still ∙ before.1)) (before.2, ends before.0.end before.3)

-- ---- clients

-- a message that fits what is known, and is none of a lease
abbrev pub IsSaid : List PlacedFile → Payload → Type 0
IsSaid files content = PayloadFits files content × (lease_file content ≡ None)

-- what must hold of a client's step: it asks and holds nothing but what is of known files, and it makes no file
pub record ClientStepFits (files : List PlacedFile) (step : Step WholeClient) : Type 0 where
  pub client : ClientFits files step.state
  pub payloads : (m : Msg) → Has m step.turned.outs → IsSaid files m.payload
  pub marks : AreInert step.turned.marks
  pub none_made : files_marked step.turned.marks ≡ []
  pub rec : step.turned.rec ≡ None

-- what comes to a client fits what is known
abbrev pub EventFits : List PlacedFile → Event → Type 0
EventFits files (event.Deliver msg) = PayloadFits files msg.payload
EventFits files event.Wake = Unit {0}
EventFits files (event.Call call) = Unit {0}

module _ (files : List PlacedFile) where
  -- what is sent for a request
  request_said : (number : ℕ) (asked : Request) → RequestFits files number asked → IsSaid files (payload_of number asked)
  request_said number (request.Replicated capability asked) is = (is.0, refl)
  request_said number (request.Striped capability asked) is = (is.0, refl)
  request_said number (request.Meta user group wanted) is = (is, refl)
  request_said number (request.Registry asked) is = (tt, refl)

  one_said : (node to : NodeId) (number : ℕ) (asked : Request) → RequestFits files number asked → (m : Msg) → Has m (message node to (payload_of number asked) ∷ []) → IsSaid files m.payload
  one_said node to number asked is m (inl e) = subst (λ (k : Msg). IsSaid files k.payload) (sym e) (request_said number asked is)
  one_said node to number asked is m (inr h) = absurd h

  sends_said : (node : NodeId) (outs : List Msg) → Sends (RequestFits files) node outs → (m : Msg) → Has m outs → IsSaid files m.payload
  sends_said node _ sends_none m h = absurd h
  sends_said node _ (sends_one to number asked is) m h = one_said node to number asked is m h

  -- it marks what changes how no node stands, and no file
  tells_inert : (happens : Event) (marks : List Mark) → Tells (RequestFits files) happens marks → AreInert marks
  tells_inert happens _ tells_none = tt
  tells_inert happens _ (tells_end number asked how is so) = (tt, tt)

  tells_no_file : (happens : Event) (marks : List Mark) → Tells (RequestFits files) happens marks → files_marked marks ≡ []
  tells_no_file happens _ tells_none = refl
  tells_no_file happens _ (tells_end number asked how is so) = refl

  -- what an event grants is of a known file
  grant_fits : (happens : Event) → EventFits files happens → GrantIs (HeldFits files) happens
  grant_fits (event.Deliver msg) fits = at msg.payload fits
    where
      by_answer : (what : MetaAnswer) → AnswerFits files what → AnswerGrants (HeldFits files) what
      by_answer (answer.Granted capability size) fits = (refl, fits)
      by_answer _ fits = tt

      at : (content : Payload) → PayloadFits files content → PayloadGrants (HeldFits files) content
      at (payload.MetaReply number what) fits = by_answer what fits
      at _ fits = tt
  grant_fits event.Wake fits = tt
  grant_fits (event.Call call) fits = tt

  -- a step on an event
  pub event_fits : (node : NodeId) (times : TimeSettings) (c : WholeClient) (reading : ℕ) (happens : Event) → EventFits files happens → ClientFits files c → ClientStepFits files (stepped node times c reading happens)
  event_fits node times c reading happens comes fits =
      let is = stepped_is (RequestFits files) node times c reading happens fits.calls in
      record {
        client = record { calls = is.client; held = held_after (HeldFits files) node times c reading happens (grant_fits happens comes) fits.held };
        payloads = sends_said node (stepped node times c reading happens).turned.outs is.sends;
        marks = tells_inert happens (stepped node times c reading happens).turned.marks is.tells;
        none_made = tells_no_file happens (stepped node times c reading happens).turned.marks is.tells;
        rec = is.rec;
      }

  -- ---- a client's calls

  -- the first target for a file, and its truncate epoch, are nothing that it asks or holds
  pub known_fits : (c : WholeClient) (file : FileId) (learns : KnownFile → KnownFile) → ClientFits files c → ClientFits files (record c { replicas = knows c.replicas file learns })
  known_fits c file learns fits = record { calls = record { running = fits.calls.running; made = fits.calls.made }; held = fits.held }

  -- a client that is about to use a file: of a declared one it is given the capability
  pub ready_fits : (declared : List PlacedFile) → AllStay declared files → (c : WholeClient) (k : Call) (o : Option ℕ) → ClientFits files c → ClientFits files (ready_for declared c k o)
  ready_fits declared stay c k None fits = fits
  ready_fits declared stay c k (Some number) fits = at (file_in declared number) refl
    where
      at : (o : Option PlacedFile) → file_in declared number ≡ o → ClientFits files (about_to_use c k o)
      at None is = fits
      at (Some f) is =
          let epoch = epoch_of c f.file k in
          let its : f.file.number ≡ number = file_in-id declared number f is in
          record {
            calls = record { running = fits.calls.running; made = fits.calls.made };
            held =
                holds_held (HeldFits files) c.held (declared_capability f epoch) (record { epoch = 0; size = 0 })
                (refl, ap (file_in files) its ∙ stay number f is) fits.held;
          }

  -- what is asked under a capability that is held
  under_fits : (number n : ℕ) (asked : Op) (o : Option HeldFile) (wanted : Request) → ((h : HeldFile) → o ≡ Some h → HeldFits files n h.capability) → under_held asked o ≡ Some wanted → RequestFits files number wanted
  under_fits number n asked None wanted held is = absurd (cc)
  under_fits number n asked (Some h) wanted held is =
      let request_is : on_file h.capability.location.kind h.capability asked ≡ wanted = cc in
      subst (RequestFits files number) request_is (by_kind h.capability.location.kind refl)
    where
      by_kind : (k : Kind) → h.capability.location.kind ≡ k → RequestFits files number (on_file k h.capability asked)
      by_kind kind.Replicated is = ((held h refl).1, is)
      by_kind kind.Striped is = ((held h refl).1, is)

  -- a report is under such a one too
  report_fits : (number n user group : ℕ) (o : Option HeldFile) (wanted : Request) → ((h : HeldFile) → o ≡ Some h → HeldFits files n h.capability) → report_of user group o ≡ Some wanted → RequestFits files number wanted
  report_fits number n user group None wanted held is = absurd (cc)
  report_fits number n user group (Some h) wanted held is =
      let request_is : request.Meta user group (want.Report h.capability h.mark) ≡ wanted = cc in
      subst (RequestFits files number) request_is (held h refl).1

  -- a request that a line may have brings no capability
  written_fits : (wanted : MetaReq) → IsWritten wanted → WantFits files wanted
  written_fits (want.Report capability mark) is = absurd is
  written_fits _ is = tt

  -- what a call asks
  pub asked_fits : (c : WholeClient) (k : Call) (number : ℕ) (wanted : Request) → FitsCall k → ClientFits files c → request_of c.held k ≡ Some wanted → RequestFits files number wanted
  asked_fits c (call.Read file object at len) number wanted may fits is = under_fits number file (op.Read object at len) (held_of c.held file) wanted (λ h found. held_found (HeldFits files) c.held file h found fits.held) is
  asked_fits c (call.Write file object at bytes) number wanted may fits is = under_fits number file (op.Write object at bytes) (held_of c.held file) wanted (λ h found. held_found (HeldFits files) c.held file h found fits.held) is
  asked_fits c (call.Truncate file size epoch) number wanted may fits is = under_fits number file (op.Truncate size) (held_of c.held file) wanted (λ h found. held_found (HeldFits files) c.held file h found fits.held) is
  asked_fits c (call.Meta user group asked) number wanted may fits is =
      let request_is : request.Meta user group asked ≡ wanted = cc in
      subst (RequestFits files number) request_is (written_fits asked may.3)
  asked_fits c (call.Report user group file) number wanted may fits is = report_fits number file user group (held_of c.held file) wanted (λ h found. held_found (HeldFits files) c.held file h found fits.held) is
  asked_fits c (call.Registry asked) number wanted may fits is = (let request_is : request.Registry asked ≡ wanted = cc in subst (RequestFits files number) request_is tt)

  -- a call that begins, or of which nothing comes
  called_fits : (node : NodeId) (c : WholeClient) (reading : ℕ) (k : Call) (step : Step WholeClient) → ClientFits files c → CallStepIs (RequestFits files) node c reading k step → ClientStepFits files step
  called_fits node c reading k step fits (call_passes is) =
      subst (ClientStepFits files) (sym is)
      (record { client = record { calls = record { running = fits.calls.running; made = fits.calls.made }; held = fits.held }; payloads = λ m h. absurd h; marks = tt; none_made = refl; rec = refl })
  called_fits node c reading k step fits (call_begins asked begun) =
      record {
        client = record { calls = begun.client; held = subst (AllHeld (HeldFits files)) (sym begun.held) fits.held };
        payloads = λ m h. one_said node begun.to c.replicas.next asked begun.asked_so m (subst (Has m) begun.outs h);
        marks = subst AreInert (sym begun.marks) (tt, tt);
        none_made = ap (λ (ms : List Mark). files_marked ms) begun.marks;
        rec = begun.rec;
      }

  -- a client that is given what it uses of a declared file, and is called
  pub call_fits : (declared : List PlacedFile) → AllStay declared files → (node : NodeId) (times : TimeSettings) (c : WholeClient) (reading : ℕ) (k : Call) → FitsCall k → ClientFits files c
      → ClientStepFits files (called node times (ready_for declared c k (called_file k)) reading k)
  call_fits declared stay node times c reading k may fits =
      let ready = ready_for declared c k (called_file k) in
      let ready_is = ready_fits declared stay c k (called_file k) fits in
      called_fits node ready reading k (called node times ready reading k) ready_is
      (called_is (RequestFits files) node times ready reading k ready_is.calls (λ asked is less. asked_fits ready k ready.replicas.next asked may ready_is is))

  -- its last call once more
  pub again_fits : (node : NodeId) (times : TimeSettings) (c : WholeClient) (reading : ℕ) → ClientFits files c → ClientStepFits files (called_again node times c reading)
  again_fits node times c reading fits =
      let is = called_again_is (RequestFits files) node times c reading fits.calls in
      record {
        client = record { calls = is.client; held = subst (AllHeld (HeldFits files)) (sym is.held) fits.held };
        payloads = sends_said node (called_again node times c reading).turned.outs is.sends;
        marks = subst AreInert (sym is.marks) tt;
        none_made = ap (λ (ms : List Mark). files_marked ms) is.marks;
        rec = is.rec;
      }

-- ---- a client's step in the world

pub client_next : (w : World) (was : List Msg) (node : Node) (r : Running) (c : WholeClient) (step : Step WholeClient) → IsShaped w was → node_in w.nodes node.id.0 ≡ Some node → node.up ≡ Some r → r.core ≡ client c
    → ClientStepFits (known w) step → IsNext w was node r (client step.state) step.turned
client_next w was node r c step shape found is_up is_client fits =
    let stay = stay_after w step.turned in
    record {
      shows = shown_other w was node r (client step.state) step.turned shape found (subst IsOther (sym is_role) tt) (inert fits.marks) (λ m h. (fits.payloads m h).1);
      role_is = sym is_role;
      core = core_more (known w) (known_after w step.turned) stay w.times node.id (one_more node.kept step.turned.rec) (record r { core = client step.state }) (client step.state) fits.client;
      rec = λ rec is. absurd (let none : None ≡ Some rec = sym fits.rec ∙ is in cc);
      payloads = λ m h. payload_more (known w) (known_after w step.turned) stay m.payload (fits.payloads m h).0;
      made = λ server before. absurd (no_server node role.Client is_role tt server);
      none_made = λ none. fits.none_made;
      marks = inert fits.marks;
      stands = stands_other w was node r (client step.state) step.turned shape found is_up fits.marks (λ end is. subst (EndFits end) is_client is);
    }
  where
    is_role : node.role ≡ role.Client
    is_role = sym (its_role w was node r shape found is_up) ∙ ap role_of is_client

-- ---- a server's step in the world

-- the record of a request is of no start, and stores no list
request_record : (files : List PlacedFile) (records : List Record) (rec : Record) → IsMetaIfAny (Some rec) → RecordFits files rec × ((fold_of (records ++ rec ∷ [])).boot ≡ (fold_of records).boot)
request_record files records (kept.Meta from number now nodes what) is = (tt, ap (λ (f : Folded). f.boot) (fold_of-push records (kept.Meta from number now nodes what)))
request_record files records _ is = absurd is

-- what servers send is about no lease
served_no_lease : (content : Payload) → IsServed content → lease_file content ≡ None
served_no_lease (payload.MetaReply number told) is = refl
served_no_lease (payload.Registry number asked) is = refl
served_no_lease _ is = absurd is

listing_no_lease : (content : Payload) → IsListing content → lease_file content ≡ None
listing_no_lease (payload.RegistryReply number told) is = refl
listing_no_lease _ is = absurd is

-- what the metadata server of a world has made is reported
told_made : (w : World) (was : List Msg) (node : Node) (r : Running) → IsShaped w was → node_in w.nodes node.id.0 ≡ Some node → node.up ≡ Some r → node.role ≡ role.Mrc → w.made ≡ made_in node
told_made w was node r shape found is_up server =
    running_made w.made (made_in node) node.up r is_up
    (made_up w.made node (subst (IsMadeBy w.made) (ap (node_in w.nodes) (sym (shape.one_server node.id.0 node found server)) ∙ found) shape.made) server)

pub mrc_next : (w : World) (was : List Msg) (node : Node) (r : Running) (m : MrcState) (happens : Event) → IsShaped w was → node_in w.nodes node.id.0 ≡ Some node → node.up ≡ Some r → r.core ≡ mrc m
    → (let step = step_of_mrc world_key m r.clock happens in IsNext w was node r (mrc step.mrc) step.turned)
mrc_next w was node r m happens shape found is_up is_mrc =
    let step = step_of_mrc world_key m r.clock happens in
    let serves = mrc_serves world_key m r.clock happens in
    let marks_inert = files_inert step.turned.marks serves.marks in
    record {
      shows = shown_other w was node r (mrc step.mrc) step.turned shape found (subst IsOther (sym is_role) tt) (inert marks_inert) (λ x h. served_no_lease x.payload (served_of step.turned.outs x serves.outs h));
      role_is = sym is_role;
      core = keeps;
      rec = λ rec is. request_record (known w) node.kept rec (subst IsMetaIfAny is serves.rec);
      payloads = λ x h. subst (λ (fs : List PlacedFile). PayloadFits (w.files ++ fs) x.payload) (sym all_made) (grants_known world_key w.files m r.clock happens node.kept shape.declared knows x h);
      made = λ server before. all_made ∙ ap (λ (c : Catalogue). files_in c) keeps;
      none_made = λ none. absurd (subst IsNoMrc is_role none);
      marks = inert marks_inert;
      stands = stands_other w was node r (mrc step.mrc) step.turned shape found is_up marks_inert (λ end is. subst (EndFits end) is_mrc is);
    }
  where
    is_role : node.role ≡ role.Mrc
    is_role = sym (its_role w was node r shape found is_up) ∙ ap role_of is_mrc

    knows : m.catalogue ≡ catalogue_of world_key node.kept
    knows = subst (CoreFits w.times (known w) node.id node.kept r) is_mrc (core_at w was node r shape found is_up)

    keeps : (step_of_mrc world_key m r.clock happens).mrc.catalogue ≡ catalogue_of world_key (one_more node.kept (step_of_mrc world_key m r.clock happens).turned.rec)
    keeps = step_kept world_key m r.clock happens node.kept knows

    all_made : w.made ++ files_marked (step_of_mrc world_key m r.clock happens).turned.marks ≡ files_in (step_of_mrc world_key m r.clock happens).mrc.catalogue
    all_made =
        ap (λ (fs : List PlacedFile). fs ++ files_marked (step_of_mrc world_key m r.clock happens).turned.marks) (told_made w was node r shape found is_up is_role ∙ ap (λ (c : Catalogue). files_in c) (sym knows))
        ∙ sym (step_made world_key m r.clock happens node.kept knows)

pub dir_next : (w : World) (was : List Msg) (node : Node) (r : Running) (s : DirState) (happens : Event) → IsShaped w was → node_in w.nodes node.id.0 ≡ Some node → node.up ≡ Some r → r.core ≡ dir s
    → (let step = step_of_dir s happens in IsNext w was node r (dir step.dir) step.turned)
dir_next w was node r s happens shape found is_up is_dir =
    let step = step_of_dir s happens in
    let serves = dir_serves s happens in
    let marks_inert = subst AreInert (sym serves.marks) tt in
    record {
      shows = shown_other w was node r (dir step.dir) step.turned shape found (subst IsOther (sym is_role) tt) (inert marks_inert) (λ x h. listing_no_lease x.payload (serves.told x h));
      role_is = sym is_role;
      core = dir_kept s happens node.kept (subst (CoreFits w.times (known w) node.id node.kept r) is_dir (core_at w was node r shape found is_up));
      rec = λ rec is. request_record (known w) node.kept rec (subst IsMetaIfAny is serves.rec);
      payloads = serves.outs (known_after w step.turned);
      made = λ server before. absurd (no_server node role.Dir is_role tt server);
      none_made = λ none. ap (λ (ms : List Mark). files_marked ms) serves.marks;
      marks = inert marks_inert;
      stands = stands_other w was node r (dir step.dir) step.turned shape found is_up marks_inert (λ end is. subst (EndFits end) is_dir is);
    }
  where
    is_role : node.role ≡ role.Dir
    is_role = sym (its_role w was node r shape found is_up) ∙ ap role_of is_dir

-- ---- any step of a node

-- what comes to a node fits what is known
comes_by : (w : World) (was : List Msg) (node : NodeId) (happens : Event) → IsShaped w was → Reaches w was node happens → osd_events.Comes w was node happens
comes_by w was node (event.Deliver msg) shape reaches = (reaches.0, reaches.1, shape.payloads msg reaches.1)
comes_by w was node event.Wake shape reaches = tt
comes_by w was node (event.Call call) shape reaches = tt

event_by : (w : World) (was : List Msg) (node : NodeId) (happens : Event) → IsShaped w was → Reaches w was node happens → EventFits (known w) happens
event_by w was node (event.Deliver msg) shape reaches = shape.payloads msg reaches.1
event_by w was node event.Wake shape reaches = tt
event_by w was node (event.Call call) shape reaches = tt

-- what a running client asks and holds
running_fits : (w : World) (was : List Msg) (node : Node) (r : Running) (c : WholeClient) → IsShaped w was → node_in w.nodes node.id.0 ≡ Some node → node.up ≡ Some r → r.core ≡ client c → ClientFits (known w) c
running_fits w was node r c shape found is_up is_client = subst (CoreFits w.times (known w) node.id node.kept r) is_client (core_at w was node r shape found is_up)

pub step_next : (w : World) (was : List Msg) (node : Node) (r : Running) (next : Core) (turned : Turned) → IsShaped w was → node_in w.nodes node.id.0 ≡ Some node → node.up ≡ Some r
    → NodeStep w was node r next turned → IsNext w was node r next turned
step_next w was node r _ _ shape found is_up (of_osd s happens is_osd reaches) = osd_next w was node r s happens shape found is_up is_osd (comes_by w was node.id happens shape reaches)
step_next w was node r _ _ shape found is_up (of_client c happens is_client reaches) =
    client_next w was node r c (stepped node.id w.times c r.clock happens) shape found is_up is_client
    (event_fits (known w) node.id w.times c r.clock happens (event_by w was node.id happens shape reaches) (running_fits w was node r c shape found is_up is_client))
step_next w was node r _ _ shape found is_up (of_mrc m happens is_mrc reaches) = mrc_next w was node r m happens shape found is_up is_mrc
step_next w was node r _ _ shape found is_up (of_dir s happens is_dir reaches) = dir_next w was node r s happens shape found is_up is_dir
step_next w was node r _ _ shape found is_up (of_call c k is_client resting bound may) =
    client_next w was node r c (call_step w node r c k) shape found is_up is_client
    (call_fits (known w) w.files (stay_before w.files w.made) node.id w.times c r.clock k bound (running_fits w was node r c shape found is_up is_client))
step_next w was node r _ _ shape found is_up (of_again c is_client resting may) =
    client_next w was node r c (called_again node.id w.times c r.clock) shape found is_up is_client
    (again_fits (known w) node.id w.times c r.clock (running_fits w was node r c shape found is_up is_client))
