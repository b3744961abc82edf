-- what holds of the files of an OSD in a world: their lists are those of known files
use Rattle.std.proofs.Common.{◌≡◌, ℕ, inl, inr, List, [], ◌∷◌, ◌++◌, map, refl, arith, ap, sym, ◌∙◌, subst, Option, Some, None, Bool, true, false}
use Rattle.std.specs.Prelude.{cond}
use Rattle.xt_base.specs.TimeSettings.{TimeSettings}
use Rattle.xt_base.specs.declared.ids.NodeId.{NodeId}
use Rattle.xt_base.specs.declared.ids.FileId.{FileId}
use Rattle.xt_base.specs.declared.ids.Boot.{Boot}
use Rattle.xt_messages.specs.declared.file.Location.{Location}
use Rattle.xt_messages.specs.declared.meta.MetaReq.{MetaReq}
use Rattle.xt_messages.specs.declared.meta.MetaReq.TheVariants as want
use Rattle.xt_messages.specs.declared.meta.MetaAnswer.{MetaAnswer}
use Rattle.xt_messages.specs.declared.meta.MetaAnswer.TheVariants as answer
use Rattle.xt_messages.specs.declared.message.Payload.{Payload}
use Rattle.xt_messages.specs.declared.message.Payload.TheVariants as payload
use Rattle.xt_messages.specs.declared.record.Record.{Record}
use Rattle.xt_messages.specs.declared.record.Record.TheVariants as kept
use Rattle.xt_messages.specs.declared.record.FileRow.{FileRow}
use Rattle.xt_messages.specs.declared.record.Folded.{Folded}
use Rattle.xt_protocol.specs.FileIds.{is_file}
use Rattle.xt_protocol.specs.Folds.{fold_of, row_in, with_row, without_row, row_after, rows_after, new_row, file_of, forgets}
use Rattle.xt_protocol.proofs.Folds.{file-equal, row_in-rows_after, fold_of-push, fold_of-nothing, row_in-file, row_after-file}
use Rattle.xt_protocol.proofs.Sorts.{no_boot}
use Rattle.xt_protocol.specs.LeaseRows.{Silent, Awake, LeaseState, free, asking, writing, held, lease_expired, on_answer}
use Rattle.lease_safety.specs.State.{Has}
use Rattle.lease_runs.specs.LeaseWorld.{LeaseSetting, LeaseRow, row_handles}
use Rattle.xt_protocol.specs.ReplicaRows.{kept_after}
use Rattle.xt_protocol.specs.FileStates.{FileState, Site, FileStep, file_from}
use Rattle.xt_protocol.specs.FileSteps.{step_of_file}
use Rattle.xt_protocol.specs.OsdSteps.{OsdState, osd_from, file_at, file_concerned}
use Rattle.osd_invariants.specs.Sound.{IsHeld, IsStored}
use Rattle.osd_invariants.proofs.Kept.{step_follows}
use Rattle.osd_invariants.proofs.SoundSteps
use Rattle.xt_protocol.specs.Overdue.{expired}
use Rattle.lease_runs.specs.LeaseView.{is_ask, lease_setting, settled_row, Follows, handles, asks, stays, Wakes, renewing, resting}
use Rattle.lease_runs.specs.OsdView.{wake_step}
use Rattle.lease_runs.specs.ActsView.{IsBusy, RecordIs}
use Rattle.lease_runs.proofs.LeaseSteps as lease_steps
use Rattle.lease_runs.proofs.OsdLeases.{each_wakes}
use Rattle.lease_runs.proofs.ActSteps.{step_rec, wake_step_kept}
use Rattle.world_spec.specs.declared.PlacedFile.{PlacedFile}
use Rattle.xt_protocol.specs.OsdSteps.{with_file}
use Rattle.world_spec.specs.NodeSteps.{one_more}
use Rattle.world_runs.specs.View.{awake_as}
use Rattle.lease_runs.proofs.OsdLeases.{file_at-with_file, at_file}
use Rattle.world_runs.proofs.Rising.{with_row_has, without_row_has, rows_after_rise}
use Rattle.world_runs.proofs.Tables.{AllStay}
use Rattle.world_runs.specs.Worlds.{Agrees, Rises, files_of, row_files, IsKnown, Listed, WantFits, AnswerFits, PayloadFits, FileFits, RowsFit, OsdFits}

-- ---- what is known

-- a record that stores a list stores that of a known file
abbrev pub RecordFits : List PlacedFile → Record → Type 0
RecordFits files (kept.View file location) = IsKnown files file location
RecordFits files (kept.Install file location head) = IsKnown files file location
RecordFits files (kept.OldInstall file location head) = IsKnown files file location
RecordFits files _ = Unit {0}

-- ---- records

record_of : (files : List PlacedFile) (file : FileId) (content : Payload) (rec : Record) → PayloadFits files content → (is_ask content ≡ true → file_concerned content ≡ Some file)
    → RecordIs file content (Some rec) → RecordFits files rec
record_of files file content (kept.View f location) fits concerns is = viewed content fits concerns is
  where
    viewed : (content : Payload) → PayloadFits files content → (is_ask content ≡ true → file_concerned content ≡ Some file) → RecordIs file content (Some (kept.View f location)) → IsKnown files f location
    viewed (payload.Ask number capability asked) fits concerns is =
        let here : Some capability.file ≡ Some file = concerns refl in
        let same : capability.file ≡ f = (let e : capability.file ≡ file = cc in e ∙ sym is.0) in
        subst (λ (f : FileId). IsKnown files f location) same (subst (IsKnown files capability.file) is.1 fits)
    viewed (payload.Read file ballot) fits concerns is = absurd is.1
    viewed (payload.Promise file ballot boot report) fits concerns is = absurd is.1
    viewed (payload.Write file ballot boot lease) fits concerns is = absurd is.1
    viewed _ fits concerns is = absurd is.1
record_of files file content (kept.Install f location head) fits concerns is = absurd is
record_of files file content (kept.OldInstall f location head) fits concerns is = absurd is
record_of files file content _ fits concerns is = tt

-- a record of a step is of the step's file
of_step : (file : FileId) (content : Payload) (rec : Record) → RecordIs file content (Some rec) → file_of rec ≡ Some file
of_step file content (kept.Promise f epoch) is = ap (λ f. Some f) is
of_step file content (kept.Update f update) is = ap (λ f. Some f) is
of_step file content (kept.Stage f object version bytes) is = ap (λ f. Some f) is
of_step file content (kept.Head f head) is = ap (λ f. Some f) is
of_step file content (kept.View f location) is = ap (λ f. Some f) is.0
of_step file content _ is = absurd is

known_as : (files : List PlacedFile) (row : FileRow) (file : FileId) (location : Location) → IsKnown files file location → Some file ≡ Some row.file → IsKnown files row.file location
known_as files row file location known is = (let same : file ≡ row.file = cc in subst (λ (f : FileId). IsKnown files f location) same known)

listed_after : (files : List PlacedFile) (row : FileRow) (rec : Record) → RecordFits files rec → file_of rec ≡ Some row.file → Listed files row.file row.location
    → Listed files (row_after row rec).file (row_after row rec).location
listed_after files row (kept.View file location) fits is listed = known_as files row file location fits is
listed_after files row (kept.Install file location head) fits is listed = known_as files row file location fits is
listed_after files row (kept.OldInstall file location head) fits is listed = known_as files row file location fits is
listed_after files row (kept.Forget file) fits is listed = tt
listed_after files row _ fits is listed = listed

stored_after : (row : FileRow) (content : Payload) (rec : Option Record) → RecordIs row.file content rec → IsStored row.location → IsStored (kept_after row rec).location
stored_after row content None is stored = stored
stored_after row content (Some (kept.View file location)) is stored = tt
stored_after row content (Some (kept.Install file location head)) is stored = tt
stored_after row content (Some (kept.OldInstall file location head)) is stored = tt
stored_after row content (Some (kept.Forget file)) is stored = absurd is
stored_after row content (Some _) is stored = stored

pub file_after : (row : FileRow) (rec : Option Record) → (kept_after row rec).file ≡ row.file
file_after row None = refl
file_after row (Some rec) = row_after-file row rec

-- what is kept of a file after a record of a step on it
kept_listed : (files : List PlacedFile) (row : FileRow) (content : Payload) (rec : Option Record) → PayloadFits files content → (is_ask content ≡ true → file_concerned content ≡ Some row.file)
    → RecordIs row.file content rec → Listed files row.file row.location → Listed files (kept_after row rec).file (kept_after row rec).location
kept_listed files row content None fits concerns is listed = listed
kept_listed files row content (Some rec) fits concerns is listed =
    listed_after files row rec (record_of files row.file content rec fits concerns is) (of_step row.file content rec is) listed

-- the record of a step is of no start, and stores the list of a known file
pub step_record : (files : List PlacedFile) (site : Site) (s : FileState) (from : NodeId) (content : Payload) (rec : Record) → PayloadFits files content → (is_ask content ≡ true → file_concerned content ≡ Some s.kept.file)
    → (step_of_file site s from content).turned.rec ≡ Some rec → RecordFits files rec
step_record files site s from content rec fits concerns is =
    record_of files s.kept.file content rec fits concerns (subst (RecordIs s.kept.file content) is (step_rec site s from content))

pub same_boot : (file : FileId) (content : Payload) (rec : Record) (records : List Record) → RecordIs file content (Some rec) → (fold_of (records ++ rec ∷ [])).boot ≡ (fold_of records).boot
same_boot file content rec records is =
    ap (λ (f : Folded). f.boot) (fold_of-push records rec)
    ∙ ap (λ (n : ℕ). let b : Boot = record { 0 = n } in b) (no_boot (fold_of records).boot.0 rec file (of_step file content rec is))

-- ---- steps of a file

pub unbusy : (l : LeaseState) (now : ℕ) → IsBusy (lease_expired l now) → IsBusy l
unbusy (free p) now busy = busy
unbusy (asking r) now busy = tt
unbusy (writing r) now busy = tt
unbusy (held h) now busy = tt

answered : (l : LeaseState) (now : ℕ) (from : NodeId) (content : Payload) → IsBusy (on_answer l now from content).state → IsBusy l
answered (free p) now from content busy = busy
answered (asking r) now from content busy = tt
answered (writing r) now from content busy = tt
answered (held h) now from content busy = tt

handled : (g : LeaseSetting) (n : NodeId) (now : ℕ) (x : LeaseRow) (from : NodeId) (content : Payload) → IsBusy (row_handles g n now x from content).row.lease → IsBusy x.lease
handled g n now x from (payload.Read file ballot) busy = busy
handled g n now x from (payload.Write file ballot boot lease) busy = busy
handled g n now x from (payload.Promise file ballot boot report) busy = answered x.lease now from (payload.Promise file ballot boot report) busy
handled g n now x from (payload.Accepted file ballot boot) busy = answered x.lease now from (payload.Accepted file ballot boot) busy
handled g n now x from (payload.Outrun file ballot seen) busy = answered x.lease now from (payload.Outrun file ballot seen) busy
handled g n now x from _ busy = busy

pub held_busy : (l : LeaseState) → IsHeld l → IsBusy l
held_busy (free p) is = absurd is
held_busy (asking r) is = absurd is
held_busy (writing r) is = absurd is
held_busy (held h) is = tt

-- a message
pub step_fits : (files : List PlacedFile) (site : Site) (s : FileState) (from : NodeId) (content : Payload) → PayloadFits files content → file_concerned content ≡ Some s.kept.file
    → FileFits files s → FileFits files (step_of_file site s from content).state
step_fits files site s from content ask concerns fits =
    let step = step_of_file site s from content in
    let kept_is = step_follows site s from content in
    record {
      listed = subst (λ (row : FileRow). Listed files row.file row.location) (sym kept_is) (kept_listed files s.kept content step.turned.rec ask (λ is. concerns) (step_rec site s from content) fits.listed);
      stored = λ busy. is_stored (lease_steps.step_follows site s from content) busy;
      sound = SoundSteps.step_so site s from content fits.sound;
    }
  where
    step : FileStep
    step = step_of_file site s from content

    still : IsBusy s.lease → IsStored step.state.kept.location
    still busy = subst (λ (row : FileRow). IsStored row.location) (sym (step_follows site s from content)) (stored_after s.kept content step.turned.rec (step_rec site s from content) (fits.stored busy))

    is_stored : Follows s.kept.file site (settled_row site s) (settled_row site s).lease from content (step_of_file site s from content) → IsBusy step.state.lease → IsStored step.state.kept.location
    is_stored (handles p) busy =
        still (unbusy s.lease site.now (handled (lease_setting site s.kept.file step.state.kept.location) site.node site.now (settled_row site s) from content (subst (λ (x : LeaseRow). IsBusy x.lease) p.row busy)))
    is_stored (asks is stored p) busy = stored
    is_stored (stays p) busy = still (unbusy s.lease site.now (subst (λ (x : LeaseRow). IsBusy x.lease) p.row busy))

-- a Wake
pub wake_fits : (files : List PlacedFile) (site : Site) (s : FileState) → FileFits files s → FileFits files (wake_step site s).state
wake_fits files site s fits =
    let kept_is = wake_step_kept site s in
    record {
      listed = subst (λ (row : FileRow). Listed files row.file row.location) (sym kept_is) fits.listed;
      stored = λ busy. subst (λ (row : FileRow). IsStored row.location) (sym kept_is) (fits.stored (was_busy (each_wakes site s) busy));
      sound = SoundSteps.wake_so site (expired site s).state (SoundSteps.expired_so site s fits.sound);
    }
  where
    was_busy : Wakes s.kept.file site (settled_row site s) (settled_row site s).lease (wake_step site s) → IsBusy (wake_step site s).state.lease → IsBusy s.lease
    was_busy (renewing is p) busy = unbusy s.lease site.now (held_busy (settled_row site s).lease is)
    was_busy (resting p) busy = unbusy s.lease site.now (subst (λ (x : LeaseRow). IsBusy x.lease) p.row busy)

-- ---- OSDs

pub fresh_fits : (files : List PlacedFile) (awake : Awake) (row : FileRow) → Listed files row.file row.location → FileFits files (file_from awake row)
fresh_fits files awake row listed = record { listed = listed; stored = λ busy. absurd busy; sound = SoundSteps.start_so awake row }

-- the state of any file at it
pub at_fits : (files : List PlacedFile) (awake : Awake) (states : List FileState) (file : FileId) → ((f : FileState) → Has f states → FileFits files f) → FileFits files (file_at awake states file)
unfolding file_at
at_fits files awake [] file each = fresh_fits files awake (new_row file) tt
at_fits files awake (f ∷ fs) file each = one_of (is_file f.kept.file file) (at_fits files awake fs file (λ s h. each s (inr h)))
  where
    one_of : (b : Bool) → FileFits files (file_at awake fs file) → FileFits files (cond b f (file_at awake fs file))
    one_of true rest = each f (inl refl)
    one_of false rest = rest

pub no_rows : (files : List PlacedFile) → RowsFit files (fold_of []).files
no_rows files = subst (λ (f : Folded). RowsFit files f.files) (sym fold_of-nothing) (record { listed = λ r h. absurd h; rises = tt })

row_listed : (files : List PlacedFile) (rows : List FileRow) (file : FileId) → ((r : FileRow) → Has r rows → Listed files r.file r.location) → Listed files (row_in rows file).file (row_in rows file).location
unfolding row_in
row_listed files [] file each = tt
row_listed files (r ∷ rs) file each = one_of (is_file r.file file) (row_listed files rs file (λ s h. each s (inr h)))
  where
    one_of : (b : Bool) → Listed files (row_in rs file).file (row_in rs file).location → Listed files (cond b r (row_in rs file)).file (cond b r (row_in rs file)).location
    one_of true rest = each r (inl refl)
    one_of false rest = rest

rows_fit : (files : List PlacedFile) (rows : List FileRow) (rec : Record) (o : Option FileId) → file_of rec ≡ o → RecordFits files rec → RowsFit files rows → RowsFit files (rows_after rows rec o)
rows_fit files rows rec None is fits q = q
rows_fit files rows rec (Some file) is fits q = record { listed = at (forgets rec); rises = rows_after_rise rows rec (Some file) q.rises }
  where
    at : (gone : Bool) (r : FileRow) → Has r (cond gone (without_row rows file) (with_row rows (row_after (row_in rows file) rec))) → Listed files r.file r.location
    at true r h = q.listed r (without_row_has rows file r h)
    at false r h =
        elim (with_row_has rows (row_after (row_in rows file) rec) r h) [
          | inl e ↦ subst (λ (r : FileRow). Listed files r.file r.location) (sym e)
              (listed_after files (row_in rows file) rec fits (is ∙ ap (λ f. Some f) (sym (row_in-file rows file))) (row_listed files rows file q.listed))
          | inr old ↦ q.listed r old
        ]

pub record_fits : (files : List PlacedFile) (records : List Record) (rec : Record) → RecordFits files rec → RowsFit files (fold_of records).files → RowsFit files (fold_of (records ++ rec ∷ [])).files
record_fits files records rec fits q =
    subst (λ (f : Folded). RowsFit files f.files) (sym (fold_of-push records rec)) (rows_fit files (fold_of records).files rec (file_of rec) refl fits q)

from_has : (awake : Awake) (rows : List FileRow) (s : FileState) → Has s (map (file_from awake) rows) → (row : FileRow) × Has row rows × (s ≡ file_from awake row)
from_has awake [] s h = absurd h
from_has awake (r ∷ rs) s (inl e) = (r, inl refl, e)
from_has awake (r ∷ rs) s (inr h) = let rest = from_has awake rs s h in (rest.0, inr rest.1, rest.2)

from_files : (awake : Awake) (rows : List FileRow) → files_of (map (file_from awake) rows) ≡ row_files rows
from_files awake [] = refl
from_files awake (r ∷ rs) = ap (λ others. r.file ∷ others) (from_files awake rs)

-- an OSD that starts from these
pub starting_fits : (times : TimeSettings) (files : List PlacedFile) (node : NodeId) (boot : Boot) (clock : ℕ) (rows : List FileRow) → RowsFit files rows
    → OsdFits times files node boot clock (osd_from (record { node = node; boot = boot; times = times; start = clock }) rows)
starting_fits times files node boot clock rows q =
    let awake : Awake = record { node = node; boot = boot; times = times } in
    record {
      started = refl;
      last = omega (arith);
      fits = λ f h. let from = from_has awake rows f h in subst (FileFits files) (sym from.2) (fresh_fits files awake from.0 (q.listed from.0 from.1));
      rises = subst Rises (sym (from_files awake rows)) q.rises;
    }

-- ---- what is kept

-- the row of any file after the record of a step of this one
row_then : (records : List Record) (file other : FileId) (content : Payload) (rec : Option Record) → RecordIs file content rec
    → row_in (fold_of (one_more records rec)).files other ≡ cond (is_file file other) (kept_after (row_in (fold_of records).files file) rec) (row_in (fold_of records).files other)
row_then records file other content None is = at (is_file file other) refl
  where
    at : (b : Bool) → is_file file other ≡ b → row_in (fold_of records).files other ≡ cond b (row_in (fold_of records).files file) (row_in (fold_of records).files other)
    at true same_file = ap (row_in (fold_of records).files) (sym (file-equal file other same_file))
    at false differ = refl
row_then records file other content (Some rec) is =
    let rows = (fold_of records).files in
    ap (λ (f : Folded). row_in f.files other) (fold_of-push records rec)
    ∙ (ap (λ (o : Option FileId). row_in (rows_after rows rec o) other) (of_step file content rec is) ∙ row_in-rows_after rows rec file other)

-- a step of one file keeps what memory and records have in common
pub step_agrees : (records : List Record) (s : OsdState) (file : FileId) (content : Payload) (after : FileState) (rec : Option Record) → Agrees records s → RecordIs file content rec
    → after.kept ≡ kept_after (file_at (awake_as s.started) s.files file).kept rec
    → (other : FileId) → (file_at (awake_as s.started) (with_file s.files after) other).kept ≡ row_in (fold_of (one_more records rec)).files other
step_agrees records s file content after rec agrees is kept_is other =
    ap (λ (f : FileState). f.kept) (file_at-with_file (awake_as s.started) s.files after other)
    ∙ (ap (λ (f : FileId). (cond (is_file f other) after (file_at (awake_as s.started) s.files other)).kept) its_file
    ∙ (by_file (is_file file other) ∙ sym (row_then records file other content rec is)))
  where
    its_file : after.kept.file ≡ file
    its_file = ap (λ (row : FileRow). row.file) kept_is ∙ (file_after (file_at (awake_as s.started) s.files file).kept rec ∙ at_file (awake_as s.started) s.files file)

    by_file : (b : Bool) → (cond b after (file_at (awake_as s.started) s.files other)).kept ≡ cond b (kept_after (row_in (fold_of records).files file) rec) (row_in (fold_of records).files other)
    by_file true = kept_is ∙ ap (λ (row : FileRow). kept_after row rec) (agrees file)
    by_file false = agrees other

-- an OSD that starts
from_rows : (awake : Awake) (rows : List FileRow) (file : FileId) → (file_at awake (map (file_from awake) rows) file).kept ≡ row_in rows file
unfolding file_at row_in
from_rows awake [] file = refl
from_rows awake (r ∷ rs) file = at (is_file r.file file) (from_rows awake rs file)
  where
    at : (b : Bool) → (file_at awake (map (file_from awake) rs) file).kept ≡ row_in rs file → (cond b (file_from awake r) (file_at awake (map (file_from awake) rs) file)).kept ≡ cond b r (row_in rs file)
    at true rest = refl
    at false rest = rest

pub start_agrees : (records : List Record) (boot : Boot) (started : Silent) → Agrees (records ++ kept.Boot boot ∷ []) (osd_from started (fold_of records).files)
start_agrees records boot started file =
    from_rows (awake_as started) (fold_of records).files file ∙ sym (ap (λ (f : Folded). row_in f.files file) (fold_of-push records (kept.Boot boot)))

-- a file with a round or a lease is known
pub busy_known : (files : List PlacedFile) (s : FileState) → FileFits files s → IsBusy s.lease → (location : Location) × IsKnown files s.kept.file location
busy_known files s fits busy = at s.kept.location (fits.stored busy) fits.listed
  where
    at : (o : Option Location) → IsStored o → Listed files s.kept.file o → (location : Location) × IsKnown files s.kept.file location
    at None stored listed = absurd stored
    at (Some location) stored listed = (location, listed)

-- ---- more files are known, and each stays what it is

module _ (files more : List PlacedFile) (stay : AllStay files more) where
  pub known_more : (file : FileId) (location : Location) → IsKnown files file location → IsKnown more file location
  known_more file location is = stay file.number (record { file = file; location = location }) is

  pub listed_more : (file : FileId) (o : Option Location) → Listed files file o → Listed more file o
  listed_more file None listed = tt
  listed_more file (Some location) listed = known_more file location listed

  pub rows_more : (rows : List FileRow) → RowsFit files rows → RowsFit more rows
  rows_more rows fits = record { listed = λ r h. listed_more r.file r.location (fits.listed r h); rises = fits.rises }

  pub fits_more : (s : FileState) → FileFits files s → FileFits more s
  fits_more s q = record { listed = listed_more s.kept.file s.kept.location q.listed; stored = q.stored; sound = q.sound }

  pub want_more : (wanted : MetaReq) → WantFits files wanted → WantFits more wanted
  want_more (want.Report capability mark) is = known_more capability.file capability.location is
  want_more _ is = tt

  pub answer_more : (told : MetaAnswer) → AnswerFits files told → AnswerFits more told
  answer_more (answer.Granted capability mark) is = known_more capability.file capability.location is
  answer_more _ is = tt

  pub payload_more : (content : Payload) → PayloadFits files content → PayloadFits more content
  payload_more (payload.Ask number capability asked) is = known_more capability.file capability.location is
  payload_more (payload.Meta number user group wanted) is = want_more wanted is
  payload_more (payload.MetaReply number told) is = answer_more told is
  payload_more _ is = tt
