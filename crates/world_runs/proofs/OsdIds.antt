-- An OSD's asks have begun on their files, and it reports such calls alone.
use Rattle.std.proofs.Common.{◌≡◌, ℕ, ◌⊎◌, inl, inr, List, [], ◌∷◌, ◌++◌, refl, ap, subst, sym, ◌∙◌, Option, Some, None, Bool, true, false}
use Rattle.std.specs.Prelude.{cond, max}
use Rattle.xt_base.specs.declared.ids.NodeId.{NodeId}
use Rattle.xt_base.specs.declared.ids.FileId.{FileId}
use Rattle.xt_base.specs.declared.ids.OpId.{OpId}
use Rattle.xt_messages.specs.declared.reply.Reply.{Reply}
use Rattle.xt_messages.specs.declared.message.Msg.{Msg}
use Rattle.xt_messages.specs.declared.message.Payload.{Payload}
use Rattle.xt_messages.specs.declared.message.Payload.TheVariants as payload
use Rattle.xt_messages.specs.declared.event.Event.{Event}
use Rattle.xt_messages.specs.declared.event.Event.TheVariants as event
use Rattle.xt_messages.specs.declared.event.Mark.{Mark}
use Rattle.xt_messages.specs.declared.event.Mark.TheVariants as mark
use Rattle.xt_messages.specs.declared.record.FileRow.{FileRow}
use Rattle.xt_protocol.specs.declared.turned.Turned.{Turned}
use Rattle.xt_protocol.specs.FileIds.{is_file}
use Rattle.xt_protocol.specs.Folds.{new_row}
use Rattle.xt_protocol.specs.LeaseRows.{Awake, LeaseState, awake_at}
use Rattle.lease_safety.specs.State.{Has}
use Rattle.xt_protocol.specs.FileStates.{FileState, Site, FileStep, file_from}
use Rattle.xt_protocol.specs.FileSteps.{step_of_file, wake_of_file}
use Rattle.xt_protocol.specs.Overdue.{expired}
use Rattle.xt_protocol.specs.OsdSteps.{Outside, OsdState, file_at, each_file, file_concerned, handle_message, woken, handle_event, handled_awake, step_of_osd}
use Rattle.osd_invariants.proofs.Kept.{step_follows, wake_follows}
use Rattle.lease_runs.specs.ActsView.{AreActs, MarksAre, no_marks, won, acting}
use Rattle.lease_runs.specs.OsdView.{site_of}
use Rattle.lease_runs.specs.LeaseView.{settled_row}
use Rattle.lease_runs.proofs.LeaseSteps.{expired_keeps}
use Rattle.lease_runs.proofs.OsdLeases.{at_file}
use Rattle.lease_runs.proofs.ActSteps.{step_marks, woken_quiet}
use Rattle.time_line.specs.declared.entry.Entry.{Entry}
use Rattle.time_line.specs.TimeLine.{id_of, location_in}
use Rattle.time_line.specs.Clauses.{HasBegunOn}
use Rattle.world_runs.proofs.Lists.{has_in, has_left, has_right}
use Rattle.world_runs.proofs.Files.{file_after}
use Rattle.world_runs.proofs.Rising.{with_file_has}
use Rattle.world_runs.proofs.Said.{Said, AreMarked, one_more, said_of}
use Rattle.world_runs.proofs.FileIds.{FileIs, StepIs, HasCome, IsStripedReply, none_are, expired_is, step_is, wake_is}
use Rattle.world_runs.proofs.Calls.{IsOnStriped}

-- ---- marks that end no call, and make no file

abbrev pub EndsNone : Mark → Type 0
EndsNone (mark.Done number how) = ⊥
EndsNone (mark.File number location) = ⊥
EndsNone _ = Unit {0}

abbrev pub NoneEnds : List Mark → Type 0
NoneEnds [] = Unit {0}
NoneEnds (m ∷ ms) = EndsNone m × NoneEnds ms

acts_end_none : (number : ℕ) (ms : List Mark) → AreActs number ms → NoneEnds ms
acts_end_none number [] are = tt
acts_end_none number (mark.Done k outcome ∷ ms) are = absurd (cc (are.0))
acts_end_none number (mark.File k location ∷ ms) are = absurd (cc (are.0))
acts_end_none number (_ ∷ ms) are = (tt, acts_end_none number ms are.1)

marks_end_none : (file : FileId) (l : LeaseState) (marks : List Mark) → MarksAre file l marks → NoneEnds marks
marks_end_none file l marks (no_marks none) = subst NoneEnds (sym none) tt
marks_end_none file l marks (won end busy is) = subst NoneEnds (sym is) (tt, tt)
marks_end_none file l marks (acting is are) = acts_end_none file.number marks are

-- ---- files

-- the asks of each file have begun on it
abbrev pub FilesAre : List Entry → List FileState → Type 0
FilesAre es files = (f : FileState) → Has f files → FileIs (λ (id : OpId). HasBegunOn f.kept.file.number es id) f

-- an ask that comes has begun, and the trace reports its file
abbrev pub HasBegun : List Entry → NodeId → Payload → Type 0
HasBegun es from (payload.Ask number capability asked) =
    HasBegunOn capability.file.number es (id_of from number) × (location_in capability.file.number es ≡ Some capability.location)
HasBegun es from _ = Unit {0}

-- a reply to a call on a striped file
abbrev pub IsStriped : List Entry → Msg → Type 0
IsStriped es m = (number : ℕ) × (file : FileId) × (answer : Reply) × (m.payload ≡ payload.Reply number file answer) × IsOnStriped es (id_of m.to number)

-- a message of an OSD
abbrev pub IsTold : List Entry → List Mark → Msg → Type 0
IsTold es marks m = ((file : ℕ) × Said (λ (id : OpId). HasBegunOn file es id) file marks m.to m.payload) ⊎ IsStriped es m

-- what must hold of the step of an OSD
pub record OsdIs (es : List Entry) (files : List FileState) (turned : Turned) : Type 0 where
  pub files_are : FilesAre es files
  pub told : (m : Msg) → Has m turned.outs → IsTold es turned.marks m
  pub plain : NoneEnds turned.marks
  pub marked : (file : ℕ) × AreMarked (λ (id : OpId). HasBegunOn file es id) file turned.marks

told_more : (es : List Entry) (marks more : List Mark) (m : Msg) → ((k : Mark) → Has k marks → Has k more) → IsTold es marks m → IsTold es more m
told_more es marks more m within (inl told) = inl (told.0, one_more (λ (id : OpId). HasBegunOn told.0 es id) told.0 marks more m.to m.payload within told.1)
told_more es marks more m within (inr striped) = inr striped

-- a new file has no asks
pub new_is : (Q : OpId → Type 0) (awake : Awake) (row : FileRow) → FileIs Q (file_from awake row)
new_is Q awake row = record { asks = none_are Q; tenure = tt }

at_is : (es : List Entry) (awake : Awake) (files : List FileState) (file : FileId) → FilesAre es files → FileIs (λ (id : OpId). HasBegunOn (file_at awake files file).kept.file.number es id) (file_at awake files file)
unfolding file_at
at_is es awake [] file are = new_is _ awake (new_row file)
at_is es awake (f ∷ fs) file are = one_of (is_file f.kept.file file) (at_is es awake fs file (λ s h. are s (inr h)))
  where
    one_of : (b : Bool) → FileIs (λ (id : OpId). HasBegunOn (file_at awake fs file).kept.file.number es id) (file_at awake fs file) → FileIs (λ (id : OpId). HasBegunOn (cond b f (file_at awake fs file)).kept.file.number es id) (cond b f (file_at awake fs file))
    one_of true rest = are f (inl refl)
    one_of false rest = rest

-- ---- a message

come_as : (es : List Entry) (site : Site) (file f : FileId) (from : NodeId) (content : Payload) → file_concerned content ≡ Some file → f ≡ file → HasBegun es from content → HasCome (λ (id : OpId). HasBegunOn f.number es id) site from content
come_as es site file f from (payload.Ask number capability asked) concerns same begun =
    let its : capability.file ≡ f = (let e : capability.file ≡ file = cc in e ∙ sym same) in
    subst (λ (x : FileId). HasBegunOn x.number es (id_of from number)) its begun.0
come_as es site file f from _ concerns same begun = tt

-- a reply to the client of an ask on a striped file is one to a call on such a file
striped_told : (es : List Entry) (from : NodeId) (content : Payload) (m : Msg) → HasBegun es from content → IsStripedReply from content m → IsStriped es m
striped_told es from (payload.Ask number capability asked) m begun reply = (
  number,
  reply.2,
  reply.3,
  reply.4,
  subst (λ (to : NodeId). IsOnStriped es (id_of to number)) (sym reply.1)
      (record { file = capability.file.number; has_begun = begun.0; location = capability.location; placed = begun.1; striped = reply.0 }),
)
striped_told es from _ m begun reply = absurd reply

message_is : (es : List Entry) (site : Site) (awake : Awake) (files : List FileState) (msg : Msg) (o : Option FileId) → file_concerned msg.payload ≡ o → FilesAre es files → HasBegun es msg.from msg.payload
    → OsdIs es (handle_message site awake files msg o).files (handle_message site awake files msg o).turned
message_is es site awake files msg None concerns are begun = record { files_are = are; told = λ m h. absurd h; plain = tt; marked = (0, tt) }
message_is es site awake files msg (Some file) concerns are begun =
    let s = file_at awake files file in
    let step = step_of_file site s msg.from msg.payload in
    let is = step_is (λ (id : OpId). HasBegunOn (file_at awake files file).kept.file.number es id) site s msg.from msg.payload (at_is es awake files file are)
    (come_as es site file (file_at awake files file).kept.file msg.from msg.payload concerns (at_file awake files file) begun) in
    let same : (step_of_file site (file_at awake files file) msg.from msg.payload).state.kept.file ≡ (file_at awake files file).kept.file
    = ap (λ (row : FileRow). row.file) (step_follows site s msg.from msg.payload) ∙ file_after s.kept step.turned.rec in
    record {
      files_are = λ f h. elim (with_file_has files step.state f h) [
        | inl e ↦
            subst (λ (x : FileState). FileIs (λ (id : OpId). HasBegunOn x.kept.file.number es id) x) (sym e)
            (subst (λ (x : FileId). FileIs (λ (id : OpId). HasBegunOn x.number es id) (step_of_file site (file_at awake files file) msg.from msg.payload).state) (sym same) is.state)
        | inr old ↦ are f old
      ];
      told = λ m h. elim (is.said m h) [
        | inl said ↦ inl ((file_at awake files file).kept.file.number, said)
        | inr reply ↦ inr (striped_told es msg.from msg.payload m begun reply)
      ];
      plain = marks_end_none s.kept.file (settled_row site s).lease step.turned.marks (step_marks site s msg.from msg.payload);
      marked = ((file_at awake files file).kept.file.number, is.marks);
    }

-- ---- a Wake

-- what must hold of a step of each file
record EachIs (es : List Entry) (files : List FileState) (turned : Turned) : Type 0 where
  pub files_are : FilesAre es files
  pub told : (m : Msg) → Has m turned.outs → IsTold es turned.marks m

each_is : (es : List Entry) (step : FileState → FileStep) (files : List FileState) → ((s : FileState) → (step s).state.kept.file ≡ s.kept.file)
    → ((s : FileState) → FileIs (λ (id : OpId). HasBegunOn s.kept.file.number es id) s → StepIs (λ (id : OpId). HasBegunOn s.kept.file.number es id) s.kept.file.number (step s))
    → FilesAre es files → EachIs es (each_file step files).files (each_file step files).turned
unfolding each_file
each_is es step [] same each are = record { files_are = λ f h. absurd h; told = λ m h. absurd h }
each_is es step (s ∷ ss) same each are =
    let one = each s (are s (inl refl)) in
    let rest = each_is es step ss same each (λ f h. are f (inr h)) in
    let others = each_file step ss in
    record {
      files_are = λ f h. elim h [
        | inl e ↦
            subst (λ (x : FileState). FileIs (λ (id : OpId). HasBegunOn x.kept.file.number es id) x) (sym e)
            (subst (λ (x : FileId). FileIs (λ (id : OpId). HasBegunOn x.number es id) (step s).state) (sym (same s)) one.state)
        | inr old ↦ rest.files_are f old
      ];
      told = λ m h. elim (has_in m (step s).turned.outs others.turned.outs h) [
        | inl mine ↦
            told_more es (step s).turned.marks ((step s).turned.marks ++ others.turned.marks) m (λ k i. has_left k (step s).turned.marks others.turned.marks i)
            (inl (s.kept.file.number, said_of (λ (id : OpId). HasBegunOn s.kept.file.number es id) s.kept.file.number (step s).turned.marks (step s).turned.outs m one.said mine))
        | inr later ↦ told_more es others.turned.marks ((step s).turned.marks ++ others.turned.marks) m (λ k i. has_right k (step s).turned.marks others.turned.marks i) (rest.told m later)
      ];
    }

woken_is : (es : List Entry) (site : Site) (files : List FileState) → FilesAre es files → OsdIs es (woken site files).files (woken site files).turned
woken_is es site files are =
    let settled = each_file (expired site) files in
    let woke = each_file (wake_of_file site) settled.files in
    let first = each_is es (expired site) files (λ s. ap (λ (row : FileRow). row.file) (expired_keeps site s)) (λ s is. expired_is (λ (id : OpId). HasBegunOn s.kept.file.number es id) site s.kept.file.number s is) are in
    let second = each_is es (wake_of_file site) settled.files (λ s. ap (λ (row : FileRow). row.file) (wake_follows site s) ∙ file_after s.kept (wake_of_file site s).turned.rec)
    (λ s is. wake_is (λ (id : OpId). HasBegunOn s.kept.file.number es id) site s.kept.file.number s is) first.files_are in
    record {
      files_are = second.files_are;
      told = λ m h. elim h [
        | inl e ↦ inl (0, subst (λ (x : Msg). Said (λ (id : OpId). HasBegunOn 0 es id) 0 (settled.turned.marks ++ woke.turned.marks) x.to x.payload) (sym e) tt)
        | inr later ↦
            elim (has_in m settled.turned.outs woke.turned.outs later) [
              | inl early ↦ told_more es settled.turned.marks (settled.turned.marks ++ woke.turned.marks) m (λ k i. has_left k settled.turned.marks woke.turned.marks i) (first.told m early)
              | inr late ↦ told_more es woke.turned.marks (settled.turned.marks ++ woke.turned.marks) m (λ k i. has_right k settled.turned.marks woke.turned.marks i) (second.told m late)
            ]
      ];
      plain = subst NoneEnds (sym (woken_quiet site files).0) tt;
      marked = (0, subst (AreMarked (λ (id : OpId). HasBegunOn 0 es id) 0) (sym (woken_quiet site files).0) tt);
    }

-- ---- any event

abbrev pub EventHasBegun : List Entry → Event → Type 0
EventHasBegun es (event.Deliver msg) = HasBegun es msg.from msg.payload
EventHasBegun es event.Wake = Unit {0}
EventHasBegun es (event.Call call) = Unit {0}

handled_is : (es : List Entry) (site : Site) (awake : Awake) (files : List FileState) (happens : Event) → FilesAre es files → EventHasBegun es happens
    → OsdIs es (handle_event site awake files happens).files (handle_event site awake files happens).turned
handled_is es site awake files (event.Deliver msg) are begun = message_is es site awake files msg (file_concerned msg.payload) refl are begun
handled_is es site awake files event.Wake are begun = woken_is es site files are
handled_is es site awake files (event.Call call) are begun = record { files_are = are; told = λ m h. absurd h; plain = tt; marked = (0, tt) }

pub osd_step_is : (es : List Entry) (outside : Outside) (s : OsdState) (reading : ℕ) (happens : Event) → FilesAre es s.files → EventHasBegun es happens
    → OsdIs es (step_of_osd outside s reading happens).osd.files (step_of_osd outside s reading happens).turned
unfolding step_of_osd
osd_step_is es outside s reading happens are begun = at (awake_at s.started (max reading s.last))
  where
    at : (a : Option Awake) → OsdIs es (handled_awake outside s (max reading s.last) happens a).osd.files (handled_awake outside s (max reading s.last) happens a).turned
    at None = record { files_are = are; told = λ m h. absurd h; plain = tt; marked = (0, tt) }
    at (Some awake) =
        let is = handled_is es (site_of outside awake (max reading s.last)) awake s.files happens are begun in
        record { files_are = is.files_are; told = is.told; plain = is.plain; marked = is.marked }
