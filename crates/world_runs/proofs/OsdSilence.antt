-- An OSD asks nothing under a capability, grants none, and makes no file.
use Rattle.std.proofs.Common.{◌≡◌, ℕ, inl, inr, List, [], ◌∷◌, refl, ap, subst, sym, Option, Some, None}
use Rattle.std.specs.Prelude.{max}
use Rattle.xt_base.specs.declared.ids.NodeId.{NodeId}
use Rattle.xt_base.specs.declared.ids.FileId.{FileId}
use Rattle.xt_base.specs.declared.ids.OpId.{OpId}
use Rattle.xt_messages.specs.declared.message.Msg.{Msg}
use Rattle.xt_messages.specs.declared.message.Payload.{Payload}
use Rattle.xt_messages.specs.declared.message.Payload.TheVariants as payload
use Rattle.xt_messages.specs.declared.event.Event.{Event}
use Rattle.xt_messages.specs.declared.event.Event.TheVariants as event
use Rattle.xt_messages.specs.declared.event.Mark.{Mark}
use Rattle.xt_messages.specs.declared.event.Mark.TheVariants as mark
use Rattle.xt_protocol.specs.LeaseRows.{Awake, LeaseState, awake_at}
use Rattle.lease_safety.specs.State.{Has}
use Rattle.xt_protocol.specs.declared.states.IssuedAsk.{IssuedAsk}
use Rattle.xt_protocol.specs.declared.states.IssuedUpdate.{IssuedUpdate}
use Rattle.xt_protocol.specs.declared.states.Progress.{Progress}
use Rattle.xt_protocol.specs.declared.states.Progress.TheVariants as progress
use Rattle.xt_protocol.specs.declared.states.Tenure.{Tenure}
use Rattle.xt_protocol.specs.FileStates.{FileState, Site, FileStep}
use Rattle.xt_protocol.specs.FileSteps.{step_of_file, wake_of_file}
use Rattle.xt_protocol.specs.Overdue.{expired}
use Rattle.xt_protocol.specs.OsdSteps.{Outside, OsdState, file_at, each_file, file_concerned, handle_message, woken, handle_event, handled_awake, step_of_osd}
use Rattle.lease_runs.specs.ActsView.{AreActs, MarksAre, no_marks, won, acting}
use Rattle.lease_runs.specs.OsdView.{site_of}
use Rattle.lease_runs.specs.LeaseView.{settled_row}
use Rattle.lease_runs.proofs.ActSteps.{step_marks, woken_quiet}
use Rattle.world_spec.specs.declared.PlacedFile.{PlacedFile}
use Rattle.world_spec.specs.NodeSteps.{files_marked}
use Rattle.world_runs.specs.Worlds.{PayloadFits}
use Rattle.world_runs.proofs.Lists.{has_in}
use Rattle.world_runs.proofs.Said.{Said, said_of}
use Rattle.world_runs.proofs.PrimaryIds.{IssuedIs, ProgressIs, TenureIs}
use Rattle.world_runs.proofs.FileIds.{IssuedAskIs, FileIs, HasCome, IsStripedReply, expired_is, step_is, wake_is}

-- ---- whatever asks have come

abbrev Any : OpId → Type 0
Any id = Unit {0}

any_issued : (o : Option IssuedUpdate) → IssuedIs Any o
any_issued None = tt
any_issued (Some issued) = tt

any_progress : (p : Progress) → ProgressIs Any p
any_progress progress.Gathering = tt
any_progress (progress.Fetching chosen source asked later) = tt
any_progress (progress.Installing chosen acked) = tt
any_progress (progress.Active committed issued) = any_issued issued

any_tenure : (o : Option Tenure) → TenureIs Any o
any_tenure None = tt
any_tenure (Some t) = any_progress t.progress

any_ask : (o : Option IssuedAsk) → IssuedAskIs Any o
any_ask None = tt
any_ask (Some issued) = tt

any_file : (s : FileState) → FileIs Any s
any_file s = record { asks = record { waiting = λ w h. tt; issued = any_ask s.asks.issued }; tenure = any_tenure s.primary.tenure }

any_come : (site : Site) (from : NodeId) (content : Payload) → HasCome Any site from content
any_come site from (payload.Ask number capability asked) = tt
any_come site from _ = tt

-- ---- messages

-- nothing that is known is needed for a message
abbrev Knows : Msg → Type 0
Knows m = (files : List PlacedFile) → PayloadFits files m.payload

said_knows : (file : ℕ) (marks : List Mark) (to : NodeId) (content : Payload) (files : List PlacedFile) → Said Any file marks to content → PayloadFits files content
said_knows file marks to (payload.Ask number capability asked) files said = absurd said
said_knows file marks to (payload.Meta number user group wanted) files said = absurd said
said_knows file marks to (payload.MetaReply number told) files said = absurd said
said_knows file marks to _ files said = tt

striped_knows : (from : NodeId) (content : Payload) (m : Msg) → IsStripedReply from content m → Knows m
striped_knows from (payload.Ask number capability asked) m reply files = subst (PayloadFits files) (sym reply.4) tt
striped_knows from _ m reply files = absurd reply

message_knows : (site : Site) (awake : Awake) (files : List FileState) (msg : Msg) (o : Option FileId) (m : Msg) → Has m (handle_message site awake files msg o).turned.outs → Knows m
message_knows site awake files msg None m h = absurd h
message_knows site awake files msg (Some file) m h =
    let s = file_at awake files file in
    let step = step_of_file site s msg.from msg.payload in
    elim ((step_is Any site s msg.from msg.payload (any_file s) (any_come site msg.from msg.payload)).said m h) [
      | inl said ↦ (λ known. said_knows s.kept.file.number step.turned.marks m.to m.payload known said)
      | inr reply ↦ striped_knows msg.from msg.payload m reply
    ]

each_knows : (step : FileState → FileStep) (files : List FileState) (m : Msg) → ((s : FileState) → Has m (step s).turned.outs → Knows m) → Has m (each_file step files).turned.outs → Knows m
unfolding each_file
each_knows step [] m each h = absurd h
each_knows step (s ∷ ss) m each h = elim (has_in m (step s).turned.outs (each_file step ss).turned.outs h) [
  | inl mine ↦ each s mine
  | inr later ↦ each_knows step ss m each later
]

woken_knows : (site : Site) (files : List FileState) (m : Msg) → Has m (woken site files).turned.outs → Knows m
woken_knows site files m (inl e) = λ known. subst (λ (x : Msg). PayloadFits known x.payload) (sym e) tt
woken_knows site files m (inr h) =
    let settled = each_file (expired site) files in
    elim (has_in m settled.turned.outs (each_file (wake_of_file site) settled.files).turned.outs h) [
      | inl early ↦
          each_knows (expired site) files m
          (λ s there known. said_knows s.kept.file.number (expired site s).turned.marks m.to m.payload known
          (said_of Any s.kept.file.number (expired site s).turned.marks (expired site s).turned.outs m (expired_is Any site s.kept.file.number s (any_file s)).said there)) early
      | inr late ↦
          each_knows (wake_of_file site) settled.files m
          (λ s there known. said_knows s.kept.file.number (wake_of_file site s).turned.marks m.to m.payload known
          (said_of Any s.kept.file.number (wake_of_file site s).turned.marks (wake_of_file site s).turned.outs m (wake_is Any site s.kept.file.number s (any_file s)).said there)) late
    ]

handled_knows : (site : Site) (awake : Awake) (files : List FileState) (happens : Event) (m : Msg) → Has m (handle_event site awake files happens).turned.outs → Knows m
handled_knows site awake files (event.Deliver msg) m h = message_knows site awake files msg (file_concerned msg.payload) m h
handled_knows site awake files event.Wake m h = woken_knows site files m h
handled_knows site awake files (event.Call call) m h = absurd h

-- what an OSD sends fits whatever is known: it asks nothing under a capability, and grants none
pub osd_asks_none : (outside : Outside) (s : OsdState) (reading : ℕ) (happens : Event) (files : List PlacedFile) (m : Msg) → Has m (step_of_osd outside s reading happens).turned.outs → PayloadFits files m.payload
unfolding step_of_osd
osd_asks_none outside s reading happens files m h = at (awake_at s.started (max reading s.last)) h
  where
    at : (a : Option Awake) → Has m (handled_awake outside s (max reading s.last) happens a).turned.outs → PayloadFits files m.payload
    at None h = absurd h
    at (Some awake) h = handled_knows (site_of outside awake (max reading s.last)) awake s.files happens m h files

-- ---- marks

acts_make_none : (number : ℕ) (ms : List Mark) → AreActs number ms → files_marked ms ≡ []
acts_make_none number [] are = refl
acts_make_none number (mark.File k location ∷ ms) are = absurd (cc (are.0))
acts_make_none number (_ ∷ ms) are = acts_make_none number ms are.1

marks_make_none : (file : FileId) (l : LeaseState) (marks : List Mark) → MarksAre file l marks → files_marked marks ≡ []
marks_make_none file l marks (no_marks none) = ap (λ (ms : List Mark). files_marked ms) none
marks_make_none file l marks (won end busy is) = ap (λ (ms : List Mark). files_marked ms) is
marks_make_none file l marks (acting is are) = acts_make_none file.number marks are

-- an OSD makes no file
pub osd_makes_none : (outside : Outside) (s : OsdState) (reading : ℕ) (happens : Event) → files_marked (step_of_osd outside s reading happens).turned.marks ≡ []
unfolding step_of_osd
osd_makes_none outside s reading happens = at (awake_at s.started (max reading s.last))
  where
    message : (site : Site) (awake : Awake) (msg : Msg) (o : Option FileId) → files_marked (handle_message site awake s.files msg o).turned.marks ≡ []
    message site awake msg None = refl
    message site awake msg (Some file) =
        let f = file_at awake s.files file in
        let step = step_of_file site f msg.from msg.payload in
        marks_make_none f.kept.file (settled_row site f).lease step.turned.marks (step_marks site f msg.from msg.payload)

    handled : (site : Site) (awake : Awake) (happens : Event) → files_marked (handle_event site awake s.files happens).turned.marks ≡ []
    handled site awake (event.Deliver msg) = message site awake msg (file_concerned msg.payload)
    handled site awake event.Wake = ap (λ (ms : List Mark). files_marked ms) (woken_quiet site s.files).0
    handled site awake (event.Call call) = refl

    at : (a : Option Awake) → files_marked (handled_awake outside s (max reading s.last) happens a).turned.marks ≡ []
    at None = refl
    at (Some awake) = handled (site_of outside awake (max reading s.last)) awake happens
