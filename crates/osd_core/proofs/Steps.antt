-- the steps of a file at an OSD: a Wake while it is a row, and a message, which leaves it at its OSD, and as it was after an error
use Rattle.std.proofs.Common.{◌≡◌, ℕ, Bool, List, Result, Ok, Err, IfOk, OnErr, refl, ap, sym, subst, ◌∙◌}
use Rattle.xt_messages.specs.declared.message.Payload.{Payload}
use Rattle.xt_messages.specs.declared.message.Payload.TheVariants as payload
use Rattle.xt_messages.specs.declared.record.FileRow.{FileRow}
use Rattle.xt_messages.specs.declared.record.Record.{Record}
use Rattle.xt_protocol.specs.LeaseRows.{Awake}
use Rattle.xt_protocol.specs.declared.turned.Turned.{Turned}
use Rattle.xt_protocol.specs.SeenBodies.{body_by}
use Rattle.xt_protocol.specs.Turns.{quiet}
use Rattle.xt_protocol.specs.FileStates.{FileState, FileStep, Site, file_from, nothing}
use Rattle.xt_protocol.specs.Overdue.{expired}
use Rattle.xt_protocol.specs.FileSteps.{wake_of_file}
use Rattle.osd_files.specs.Views.{FileView, site_at}
use Rattle.osd_files.specs.declared.waking.Woken.{Woken}
use Rattle.osd_files.specs.Whole.{IsRowOn, IsSealedBy}
use Rattle.osd_core.specs.declared.slot.Slot.{Slot}
use Rattle.osd_core.specs.declared.slot.Slot.TheVariants as slot
use Rattle.osd_core.specs.FileSlots.{view_of, EndsSlot, GivesWoken}

-- ---- a Wake

-- nothing comes of a row
row_expires : (site : Site) (awake : Awake) (row : FileRow) → expired site (file_from awake row) ≡ nothing (file_from awake row)
unfolding expired
row_expires site awake row = refl

row_sleeps : (site : Site) (awake : Awake) (row : FileRow) → wake_of_file site (file_from awake row) ≡ nothing (file_from awake row)
unfolding wake_of_file
row_sleeps site awake row = refl

pub row_gives : (now : ℕ) (s : Slot) (row : FileRow) (woken : Woken) → s ≡ slot.Row row → woken.overdue ≡ quiet → woken.again ≡ quiet → GivesWoken now s woken
row_gives now s row woken is overdue again =
    subst (λ x. GivesWoken now x woken) (sym is) (λ awake rises. record {
      overdue = λ sealed body. ap (λ (step : FileStep). step.turned) (row_expires (site_at awake now sealed body) awake row) ∙ sym overdue;
      again = λ sealed body.
          let site = site_at awake now sealed body in
          ap (λ (step : FileStep). (wake_of_file site step.state).turned) (row_expires site awake row)
          ∙ ap (λ (step : FileStep). step.turned) (row_sleeps site awake row) ∙ sym again;
    })

-- and it stays as it is
pub row_ends : (now : ℕ) (s : Slot) (row : FileRow) → s ≡ slot.Row row → EndsSlot now s s
row_ends now s row is =
    subst (λ x. EndsSlot now x x) (sym is) (record {
      sound = λ awake rises. rises;
      file = λ awake rises.
          record {
            here = refl;
            state = λ sealed body.
                let site = site_at awake now sealed body in
                ap (λ (step : FileStep). (wake_of_file site step.state).state) (row_expires site awake row)
                ∙ ap (λ (step : FileStep). step.state) (row_sleeps site awake row);
          };
      rests = refl;
    })

-- ---- a message

pub if_ok : {A E : Type 0} (P Q : A → Type 0) (r : Result A E) → ((a : A) → P a → Q a) → IfOk r P → IfOk r Q
if_ok P Q (Ok a) all h = all a h
if_ok P Q (Err e) all h = h

-- a test that says so of all capabilities
says_so : (content : Payload) (sealed : Bool) → IsSealedBy (λ capability. sealed) content sealed
says_so (payload.Ask number capability asked) sealed = refl
says_so _ sealed = tt

pub on_err : {A E : Type 0} (P Q : Type 0) (r : Result A E) → (P → Q) → OnErr r P → OnErr r Q
on_err P Q (Ok a) all h = h
on_err P Q (Err e) all h = all h

pub at_err : {A E : Type 0} (P : Type 0) (r : Result A E) → P → OnErr r P
at_err P (Ok a) h = tt
at_err P (Err e) h = h

-- its file stays at this OSD
pub slot_stays : {E : Type 0} (agrees : List Record → Type 0) (row : Site → FileState → FileStep) (content : Payload) (sealed : Bool) (now : ℕ) (awake : Awake) (old : Slot) (file new : FileView)
    (r : Result Turned E) → (one : (records : List Record) × agrees records) → file ≡ view_of awake old
    → IfOk r (λ turned. (records : List Record) → agrees records → IsRowOn row content sealed now (body_by records) file new turned) → OnErr r (new ≡ file) → new.awake ≡ awake
slot_stays agrees row content sealed now awake old file new (Ok turned) one is took same = (took one.0 one.1 (λ capability. sealed) (says_so content sealed)).here ∙ ap (λ (f : FileView). f.awake) is
slot_stays agrees row content sealed now awake old file new (Err e) one is took same = ap (λ (f : FileView). f.awake) (same ∙ is)

-- and is as it was after an error
pub slot_same : {E : Type 0} (awake : Awake) (old : Slot) (file new : FileView) (r : Result Turned E) → file ≡ view_of awake old → OnErr r (new ≡ file) → OnErr r (view_of awake (slot.File new) ≡ view_of awake old)
slot_same awake old file new r is same =
    on_err (new ≡ file) (view_of awake (slot.File new) ≡ view_of awake old) r (λ stays. ap (λ (f : FileView). let view : FileView = record { awake = awake; state = f.state } in view) (stays ∙ is)) same

-- its row, as its slot shows it
pub slot_row : {E : Type 0} (agrees : List Record → Type 0) (row : Site → FileState → FileStep) (content : Payload) (sealed : Bool) (now : ℕ) (awake : Awake) (old : Slot) (file new : FileView)
    (r : Result Turned E) → file ≡ view_of awake old
    → IfOk r (λ turned. (records : List Record) → agrees records → IsRowOn row content sealed now (body_by records) file new turned)
    → IfOk r (λ turned. (records : List Record) → agrees records → IsRowOn row content sealed now (body_by records) (view_of awake old) (view_of awake (slot.File new)) turned)
slot_row agrees row content sealed now awake old file new r is took =
    let P : FileView → Turned → Type 0 = λ f turned. (records : List Record) → agrees records → IsRowOn row content sealed now (body_by records) f new turned in
    let Q : Turned → Type 0 = λ turned. (records : List Record) → agrees records → IsRowOn row content sealed now (body_by records) (view_of awake old) (view_of awake (slot.File new)) turned in
    let all : (turned : Turned) → P (view_of awake old) turned → Q turned = λ turned did records agree test so.
    record { here = refl; step = (did records agree test so).step }
    in
    if_ok (P (view_of awake old)) Q r all (subst (λ (f : FileView). IfOk r (P f)) is took)
