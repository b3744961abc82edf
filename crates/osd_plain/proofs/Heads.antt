-- the head after an update still rises, and it is the one that the record makes, whatever else is kept of the file
use Rattle.std.proofs.Common.{◌≡◌, ◌==◌, true, List, [], refl, ap, sym, subst, ◌∙◌, Result, Ok, Err, OnOk, OnErr}
use Rattle.std.specs.Prelude.{Option, Some, None}
use Rattle.xt_base.specs.declared.ids.FileId.{FileId}
use Rattle.xt_messages.specs.declared.file.ObjectVersion.{ObjectVersion}
use Rattle.xt_messages.specs.declared.file.FileHead.{FileHead}
use Rattle.xt_messages.specs.declared.file.Update.{Update}
use Rattle.xt_messages.specs.declared.record.Record.{Record}
use Rattle.xt_messages.specs.declared.record.Record.TheVariants as kept
use Rattle.xt_messages.specs.declared.record.FileRow.{FileRow}
use Rattle.xt_base.specs.declared.TheConstants.{NO_OBJECT}
use Rattle.xt_messages.specs.Limits.{rise}
use Rattle.xt_protocol.specs.Heads.{head_after, versions_below}
use Rattle.xt_protocol.specs.Folds.{row_after}
use Rattle.xt_protocol.specs.ReplicaRows.{kept_after}
use Rattle.object_versions.specs.Rising.{HeadRises}
use Rattle.object_versions.proofs.HeadLimits.{when, objects_of, below_still_rise, versions_still_rise, sessions_still_rise}
use Rattle.xt_protocol.specs.PlainRows.{PlainFile, plain_after}

pub still_rises : (head : FileHead) (update : Update) → HeadRises head → HeadRises (head_after head update)
still_rises head update up =
    let below = versions_below head.versions update.drop_from in
    let below_up : rise (objects_of below) ≡ true = below_still_rise head.versions update.drop_from up.versions in
    record {
      versions =
          when (λ (vs : List ObjectVersion). rise (objects_of vs) ≡ true) (update.object == NO_OBJECT) _ _ (λ none. below_up)
          (λ some. versions_still_rise below update.object update.stamp below_up);
      sessions =
          sessions_still_rise head.sessions
          (record { client = update.id.client; number = update.id.number; count = update.stamp.count }) up.sessions;
    }

-- a file of which nothing is kept but a head
abbrev alone : FileId → FileHead → FileRow
alone file head = record { file = file; head = head; held = []; location = None; closed = None }

-- what a record makes of a head is by the head alone
head_alone : (row : FileRow) (file : FileId) (rec : Record) → (row_after row rec).head ≡ (row_after (alone file row.head) rec).head
head_alone row file (kept.Boot boot) = refl
head_alone row file _ = refl

pub is_of_record : (p : PlainFile) (row : FileRow) (rec : Option Record) → row.head ≡ p.head → (kept_after row rec).head ≡ (plain_after p rec).head
is_of_record p row None same = same
is_of_record p row (Some rec) same =
    head_alone row p.file rec ∙ ap (λ (h : FileHead). (row_after (alone p.file h) rec).head) same

-- whether the update was taken or memory ran out
pub rises_after : {A E : Type 0} (r : Result A E) (old new : FileHead) (update : Update) → HeadRises old → OnOk r (new ≡ head_after old update) → OnErr r (new ≡ old) → HeadRises new
rises_after (Ok done) old new update up ok same = subst HeadRises (sym ok) (still_rises old update up)
rises_after (Err error) old new update up ok same = subst HeadRises (sym same) up
