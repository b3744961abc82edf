-- a step of an OSD: its state, its record and its messages are within the limits
use Rattle.std.proofs.Common.{◌≡◌, ◌<◌, ◌^◌, max, ℕ, Bool, List, [], ◌∷◌, sym, subst, Option, Some, None, arith}
use Rattle.std.specs.Option.{IfSome}
use Rattle.std.specs.List.{AllByRecursion}
use Rattle.xt_base.specs.declared.ids.FileId.{FileId}
use Rattle.xt_messages.specs.declared.event.Event.{Event}
use Rattle.xt_messages.specs.declared.event.Event.TheVariants as event
use Rattle.xt_messages.specs.declared.message.Msg.{Msg}
use Rattle.xt_messages.specs.declared.message.Payload.{Payload}
use Rattle.xt_messages.specs.declared.message.Payload.TheVariants as payload
use Rattle.xt_messages.specs.declared.record.FileRow.{FileRow}
use Rattle.xt_messages.specs.declared.record.Record.{Record}
use Rattle.xt_messages.specs.Limits.{FitsNode, FitsBoot, FitsFile, FitsMessage, FitsPayload, FitsEvent}
use Rattle.xt_protocol.specs.FileIds.{is_file, is_before}
use Rattle.xt_protocol.specs.Folds.{new_row, row_in, fold_of}
use Rattle.xt_protocol.specs.LeaseRows.{Silent, Awake, is_silent}
use Rattle.xt_protocol.specs.FileStates.{FileState, Site, FileStep, file_from}
use Rattle.xt_protocol.specs.Overdue.{expired}
use Rattle.xt_protocol.specs.FileSteps.{step_of_file, wake_of_file}
use Rattle.xt_protocol.specs.OsdSteps.{OsdState, OsdStep, FilesStep, osd_from, file_at, with_file, each_file, file_concerned, handle_message, woken, handle_event, handled_awake, step_of_osd}
use Rattle.osd_invariants.specs.Sound.{IsSound}
use Rattle.lease_runs.proofs.ActSteps.{woken_quiet}
use Rattle.xt_messages.specs.declared.file.Capability.{Capability}
use Rattle.world_runs.specs.View.{awake_as}
use Rattle.world_runs.specs.Worlds.{Agrees}
use Rattle.object_versions.proofs.HeadLimits.{either}
use Rattle.world_limits.proofs.Lists.{all_append, all_map, all_weaker}
use Rattle.world_limits.specs.States.{AreSent, RowIs, FileIs, NextIs, SiteIs, StepIs, OsdIs, outside_by}
use Rattle.client_limits.proofs.Messages.{sent}
use Rattle.world_limits.proofs.Files.{expired_is, step_is, wake_is}
use Rattle.world_limits.proofs.Asks.{none_are}
use Rattle.world_limits.specs.States.{KeptIs}
use Rattle.world_limits.proofs.Kept.{NextOf, bodies_are}
use Rattle.world_limits.proofs.Replica.{new_row_is}

-- what must hold of a step of the files of an OSD that keeps these records
pub record FilesAre (records : List Record) (step : FilesStep) : Type 0 where
  pub each : AllByRecursion FileIs step.files
  pub next : NextOf records step.turned.rec
  pub outs : AreSent step.turned.outs

pub record OsdStepIs (records : List Record) (step : OsdStep) : Type 0 where
  pub state : OsdIs step.osd
  pub next : NextOf records step.turned.rec
  pub outs : AreSent step.turned.outs

-- ---- files

abbrev pub AwakeIs : Awake → Type 0
AwakeIs a = FitsNode a.node × FitsBoot a.boot × (a.times.lease < 2 ^ 40)

from_is : (awake : Awake) (row : FileRow) → AwakeIs awake → RowIs row → FileIs (file_from awake row)
from_is awake row is fits = record {
  row = fits;
  register = record { start = is.1; promise = tt; taken = tt };
  leases = record { who = is.0; start = is.1; short = is.2; rounds = omega arith };
  clock = omega arith;
  leads = record { number = omega arith; leads = tt };
  waits = none_are;
}

at_is : (awake : Awake) (files : List FileState) (file : FileId) → AwakeIs awake → FitsFile file → AllByRecursion FileIs files → FileIs (file_at awake files file)
unfolding file_at
at_is awake [] file is which all = from_is awake (new_row file) is (new_row_is file which)
at_is awake (f ∷ fs) file is which all = either FileIs (is_file f.kept.file file) f (file_at awake fs file) all.0 (at_is awake fs file is which all.1)

put_is : (files : List FileState) (file : FileState) → AllByRecursion FileIs files → FileIs file → AllByRecursion FileIs (with_file files file)
unfolding with_file
put_is [] file all is = (is, tt)
put_is (f ∷ fs) file all is =
    either (AllByRecursion FileIs) (is_file f.kept.file file.kept.file) _ _ (is, all.1)
    (either (AllByRecursion FileIs) (is_before file.kept.file f.kept.file) (file ∷ f ∷ fs) (f ∷ with_file fs file) (is, all) (all.0, put_is fs file all.1 is))

-- an OSD that starts from these rows
pub started_is : (started : Silent) (rows : List FileRow) → FitsNode started.node → FitsBoot started.boot → started.times.lease < 2 ^ 40 → started.start < 2 ^ 62 → AllByRecursion RowIs rows → OsdIs (osd_from started rows)
started_is started rows who start short clock all = record {
  who = who;
  start = start;
  short = short;
  clock = clock;
  each = all_map FileIs (file_from (awake_as started)) rows (all_weaker RowIs (λ (r : FileRow). FileIs (file_from (awake_as started) r)) rows (λ r fits. from_is (awake_as started) r (who, start, short) fits) all);
}

-- ---- a message

concerned_is : (content : Payload) → FitsPayload content → IfSome (file_concerned content) FitsFile
concerned_is (payload.Read file ballot) fits = fits.0
concerned_is (payload.Promise file ballot boot report) fits = fits.0
concerned_is (payload.Write file ballot boot lease) fits = fits.0
concerned_is (payload.Accepted file ballot boot) fits = fits.0
concerned_is (payload.Outrun file ballot seen) fits = fits.0
concerned_is (payload.Gather file epoch) fits = fits.0
concerned_is (payload.Status file epoch head) fits = fits.0
concerned_is (payload.Fetch file epoch object version) fits = fits.0
concerned_is (payload.Object file epoch object version bytes) fits = fits.0
concerned_is (payload.Stage file epoch object version bytes) fits = fits.0
concerned_is (payload.Staged file epoch object version) fits = fits.0
concerned_is (payload.Head file epoch head) fits = fits.0
concerned_is (payload.Update file update) fits = fits.0
concerned_is (payload.Ack file stamp) fits = fits.0
concerned_is (payload.Refused file epoch promised) fits = fits.0
concerned_is (payload.Behind file epoch stamp) fits = fits.0
concerned_is (payload.Missing file epoch object version) fits = fits.0
concerned_is (payload.Ask number capability asked) fits = fits.1.subject
concerned_is (payload.Reply number file answer) fits = fits.1
concerned_is _ fits = tt

module _ (records : List Record) (site : Site) (here : SiteIs site) (awake : Awake) (is : AwakeIs awake) (files : List FileState) (all : AllByRecursion FileIs files)
    (agrees : (file : FileId) → (file_at awake files file).kept ≡ row_in (fold_of records).files file) (sound : (file : FileId) → IsSound (file_at awake files file)) where
  message_is : (msg : Msg) (o : Option FileId) → IfSome o FitsFile → FitsMessage msg → FilesAre records (handle_message site awake files msg o)
  message_is msg None which fits = record { each = all; next = tt; outs = tt }
  message_is msg (Some file) which fits =
      let s = file_at awake files file in
      let step = step_of_file site s msg.from msg.payload in
      let one = step_is site here s msg.from msg.payload (at_is awake files file is which all) (sound file) fits.sender fits.content in
      record {
        each = put_is files step.state all one.state;
        next = of_file step.turned.rec (subst (λ (r : FileRow). NextIs r step.turned.rec) (agrees file) one.next);
        outs = one.outs;
      }
    where
      of_file : (rec : Option Record) → NextIs (row_in (fold_of records).files file) rec → NextOf records rec
      of_file None next = tt
      of_file (Some rec) next = (file, next)

  -- ---- a Wake

  pub record EachIs (step : FilesStep) : Type 0 where
    pub states : AllByRecursion FileIs step.files
    pub told : AreSent step.turned.outs

  each_is : (step : FileState → FileStep) (fs : List FileState) → ((s : FileState) → FileIs s → StepIs s.kept (step s)) → AllByRecursion FileIs fs → EachIs (each_file step fs)
  unfolding each_file
  each_is step [] each fit = record { states = tt; told = tt }
  each_is step (f ∷ fs) each fit =
      let one = each f fit.0 in
      let rest = each_is step fs each fit.1 in
      record { states = (one.state, rest.states); told = all_append FitsMessage (step f).turned.outs (each_file step fs).turned.outs one.outs rest.told }

  woken_is : FilesAre records (woken site files)
  woken_is =
      let settled = each_file (expired site) files in
      let woke = each_file (wake_of_file site) settled.files in
      let first = each_is (expired site) files (expired_is site here) all in
      let second = each_is (wake_of_file site) settled.files (wake_is site here) first.states in
      record {
        each = second.states;
        next = subst (NextOf records) (sym (woken_quiet site files).1) tt;
        outs = (sent site.node (record { 0 = 900 }) _ here.who (omega arith) (omega arith, (omega arith, omega arith)), all_append FitsMessage settled.turned.outs woke.turned.outs first.told second.told);
      }

  pub handled_is : (happens : Event) → FitsEvent happens → FilesAre records (handle_event site awake files happens)
  handled_is (event.Deliver msg) fits = message_is msg (file_concerned msg.payload) (concerned_is msg.payload fits.content) fits
  handled_is event.Wake fits = woken_is
  handled_is (event.Call call) fits = record { each = all; next = tt; outs = tt }

-- ---- any event

pub osd_step_is : (sealed : Capability → Bool) (records : List Record) (s : OsdState) (reading : ℕ) (happens : Event) → KeptIs records → OsdIs s → reading < 2 ^ 62 → Agrees records s → ((file : FileId) → IsSound (file_at (awake_as s.started) s.files file)) → FitsEvent happens
    → OsdStepIs records (step_of_osd (outside_by sealed records) s reading happens)
unfolding step_of_osd
osd_step_is sealed records s reading happens kept is read agrees sound fits =
    let now = max reading s.last in
    let clock : now < 2 ^ 62 = both reading s.last read is.clock in
    let site : Site = record { node = s.started.node; times = s.started.times; now = now; sealed = (outside_by sealed records).sealed; body = (outside_by sealed records).body } in
    let here : SiteIs site = record { who = is.who; short = is.short; clock = clock; bodies = λ file. bodies_are records file kept.limits } in
    let step = handled_is records site here (awake_as s.started) (is.who, is.start, is.short) s.files is.each agrees sound happens fits in
    either (λ (a : Option Awake). OsdStepIs records (handled_awake (outside_by sealed records) s now happens a)) (is_silent s.started now) None (Some (awake_as s.started))
    (record { state = is; next = tt; outs = tt })
    (record { state = record { who = is.who; start = is.start; short = is.short; clock = clock; each = step.each }; next = step.next; outs = step.outs })
  where
    both : (a b : ℕ) → a < 2 ^ 62 → b < 2 ^ 62 → max a b < 2 ^ 62
    both a b x y = omega arith
