-- What an OSD that has forgotten some bodies is, and what its rewritten records say: the same but for these bodies.
use Rattle.std.proofs.Common.{◌≡◌, ℕ, ◌≤◌, Bool, true, false, cond, List, [], ◌∷◌, refl, sym, ap, subst, ◌∙◌, Option, map}
use Rattle.xt_base.specs.TimeSettings.{TimeSettings}
use Rattle.xt_base.specs.declared.ids.Boot.{Boot}
use Rattle.xt_base.specs.declared.ids.FileId.{FileId}
use Rattle.xt_base.specs.declared.ids.NodeId.{NodeId}
use Rattle.xt_messages.specs.declared.record.FileRow.{FileRow}
use Rattle.xt_messages.specs.declared.record.Folded.{Folded}
use Rattle.xt_messages.specs.declared.record.KeepBody.{KeepBody}
use Rattle.xt_messages.specs.declared.record.Record.{Record}
use Rattle.xt_protocol.specs.FileIds.{is_file}
use Rattle.xt_protocol.specs.FileStates.{FileState}
use Rattle.xt_protocol.specs.Folds.{fold_of, row_in}
use Rattle.xt_protocol.specs.Forgetting.{row_without, file_without, osd_without, folded_without, rewritten}
use Rattle.xt_protocol.specs.LeaseRows.{Awake}
use Rattle.xt_protocol.specs.OsdSteps.{OsdState, file_at}
use Rattle.osd_invariants.specs.Sound.{IsSound}
use Rattle.lease_runs.specs.LeaseView.{lease_row_of}
use Rattle.lease_runs.specs.LeaseWorld.{LeaseSetting}
use Rattle.world_spec.specs.declared.PlacedFile.{PlacedFile}
use Rattle.world_spec.specs.World.{Running, osd}
use Rattle.world_runs.specs.View.{awake_as, core_seen}
use Rattle.world_runs.specs.Worlds.{Rises, row_files, Listed, FileFits, RowsFit, Agrees, CoreFits}
use Rattle.world_runs.proofs.Lists.{has_map}
use Rattle.world_runs.proofs.Woken.{mapped_files}
use Rattle.forgetting.proofs.Said as said

pub held_so : (keep : List KeepBody) (s : FileState) → IsSound s → IsSound (file_without keep s)
held_so keep s so = record { led = so.led; issued = so.issued; waits = so.waits; list = so.list; peers = so.peers; ready = so.ready }

-- a file's state is the one without those bodies
pub at_without : (awake : Awake) (keep : List KeepBody) (files : List FileState) (file : FileId) → file_at awake (map (file_without keep) files) file ≡ file_without keep (file_at awake files file)
unfolding file_at
at_without awake keep [] file = refl
at_without awake keep (x ∷ xs) file = at (is_file x.kept.file file) (at_without awake keep xs file)
  where
    at : (b : Bool) → file_at awake (map (file_without keep) xs) file ≡ file_without keep (file_at awake xs file)
        → cond b (file_without keep x) (file_at awake (map (file_without keep) xs) file) ≡ file_without keep (cond b x (file_at awake xs file))
    at true rest = refl
    at false rest = rest

-- and so is its row
pub row_in_without : (keep : List KeepBody) (rows : List FileRow) (file : FileId) → row_in (map (row_without keep) rows) file ≡ row_without keep (row_in rows file)
unfolding row_in
row_in_without keep [] file = refl
row_in_without keep (r ∷ rs) file = at (is_file r.file file) (row_in_without keep rs file)
  where
    at : (b : Bool) → row_in (map (row_without keep) rs) file ≡ row_without keep (row_in rs file)
        → cond b (row_without keep r) (row_in (map (row_without keep) rs) file) ≡ row_without keep (cond b r (row_in rs file))
    at true rest = refl
    at false rest = rest

-- the files of rows stay
row_files_same : (keep : List KeepBody) (rows : List FileRow) → row_files (map (row_without keep) rows) ≡ row_files rows
row_files_same keep [] = refl
row_files_same keep (r ∷ rs) = ap (λ (fs : List FileId). r.file ∷ fs) (row_files_same keep rs)

-- ---- what the records say

pub rows_then : (keep : List KeepBody) (records : List Record) → (fold_of (rewritten keep records)).files ≡ map (row_without keep) (fold_of records).files
unfolding folded_without
rows_then keep records = ap (λ (f : Folded). f.files) (said.same keep records)

pub boot_then : (keep : List KeepBody) (records : List Record) → (fold_of (rewritten keep records)).boot ≡ (fold_of records).boot
unfolding folded_without
boot_then keep records = ap (λ (f : Folded). f.boot) (said.same keep records)

pub rows_fit_then : (files : List PlacedFile) (keep : List KeepBody) (records : List Record) → RowsFit files (fold_of records).files → RowsFit files (fold_of (rewritten keep records)).files
rows_fit_then files keep records fits = subst (RowsFit files) (sym (rows_then keep records)) (record {
  listed = λ r h. let from = has_map (row_without keep) (fold_of records).files r h in
      subst (λ (x : FileRow). Listed files x.file x.location) (sym from.2) (fits.listed from.0 from.1);
  rises = subst Rises (sym (row_files_same keep (fold_of records).files)) fits.rises;
})

pub agrees_then : (keep : List KeepBody) (records : List Record) (s : OsdState) → Agrees records s → Agrees (rewritten keep records) (osd_without keep s)
unfolding osd_without
agrees_then keep records s agrees file =
    ap (λ (f : FileState). f.kept) (at_without (awake_as s.started) keep s.files file)
    ∙ ap (row_without keep) (agrees file)
    ∙ sym (row_in_without keep (fold_of records).files file)
    ∙ ap (λ (rows : List FileRow). row_in rows file) (sym (rows_then keep records))

-- ---- a running OSD

file_then : (files : List PlacedFile) (keep : List KeepBody) (s : FileState) → FileFits files s → FileFits files (file_without keep s)
file_then files keep s fits = record { listed = fits.listed; stored = fits.stored; sound = held_so keep s fits.sound }

pub core_then : (times : TimeSettings) (files : List PlacedFile) (node : NodeId) (keep : List KeepBody) (records : List Record) (r : Running) (s : OsdState) → CoreFits times files node records r (osd s)
    → CoreFits times files node (rewritten keep records) (record r { core = osd (osd_without keep s) }) (osd (osd_without keep s))
unfolding osd_without
core_then times files node keep records r s fits = (
  record {
    started = fits.0.started;
    last = fits.0.last;
    fits = λ f h. let from = has_map (file_without keep) s.files f h in subst (FileFits files) (sym from.2) (file_then files keep from.0 (fits.0.fits from.0 from.1));
    rises = subst Rises (sym (mapped_files (file_without keep) s.files (λ x. refl))) fits.0.rises;
  },
  subst (λ (b : ℕ). r.boot.0 ≤ b) (sym (ap (λ (b : Boot). b.0) (boot_then keep records))) fits.1,
  agrees_then keep records s fits.2,
)

-- its leases are as they were
pub seen_then : (g : LeaseSetting) (n : ℕ) (end : Option ℕ) (keep : List KeepBody) (records others : List Record) (r : Running) (s : OsdState)
    → core_seen g n end others (record r { core = osd (osd_without keep s) }) (osd (osd_without keep s)) ≡ core_seen g n end records r (osd s)
unfolding osd_without
seen_then g n end keep records others r s =
    ap (λ (f : FileState). record { runs = true; boot = r.boot.0; clock = r.clock; started = s.started.start; row = lease_row_of f; told = end }) (at_without (awake_as s.started) keep s.files g.file)
