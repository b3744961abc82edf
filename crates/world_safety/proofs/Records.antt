-- what one record more changes of a file: its row and its bodies, where it is of the file, and nothing else
use Rattle.std.proofs.Common.{◌≡◌, ℕ, List, [], ◌∷◌, ◌++◌, refl, ap, sym, ◌∙◌, Option, Some, None, Bool}
use Rattle.std.specs.Prelude.{cond, ◌&&◌, ◌==◌, unwrap_or}
use Rattle.std.proofs.Math.Path.{fun_ext}
use Rattle.xt_base.specs.declared.ids.FileId.{FileId}
use Rattle.xt_base.specs.declared.ids.Stamp.{Stamp}
use Rattle.xt_messages.specs.declared.record.Record.{Record}
use Rattle.xt_messages.specs.declared.record.Record.TheVariants as kept
use Rattle.xt_messages.specs.declared.record.FileRow.{FileRow}
use Rattle.xt_messages.specs.declared.record.Folded.{Folded}
use Rattle.xt_protocol.specs.FileIds.{is_file}
use Rattle.xt_protocol.specs.Stamps.{is_stamp}
use Rattle.xt_protocol.specs.Folds.{fold_of, row_in, row_after, rows_after, file_of, makes_body, body_put, body_kept, newer}
use Rattle.xt_protocol.proofs.Folds.{file-itself, row_in-rows_after, row_in-file, fold_of-push, body_kept-push}
use Rattle.xt_protocol.specs.FileStates.{FileState}
use Rattle.xt_protocol.specs.PrimaryRows.{newer_body, body_beyond}
use Rattle.file_runs.specs.FileRuns.{FileNode, keeping}
use Rattle.xt_protocol.specs.SeenBodies.{body_by}
use Rattle.world_spec.specs.NodeSteps.{one_more}
use Rattle.world_safety.specs.Seen.{kept_seen, IsOf, IsElsewhere, IsNotOf}

-- ---- rows

row_put : (records : List Record) (rec : Record) (file f : FileId) → file_of rec ≡ Some f
    → row_in (fold_of (records ++ rec ∷ [])).files file ≡ cond (is_file f file) (row_after (row_in (fold_of records).files f) rec) (row_in (fold_of records).files file)
row_put records rec file f is =
    let rows = (fold_of records).files in
    ap (λ (k : Folded). row_in k.files file) (fold_of-push records rec)
    ∙ (ap (λ (o : Option FileId). row_in (rows_after rows rec o) file) is ∙ row_in-rows_after rows rec f file)

-- a record of the file changes its row
pub row_own : (records : List Record) (rec : Record) (file : FileId) → file_of rec ≡ Some file
    → row_in (fold_of (records ++ rec ∷ [])).files file ≡ row_after (row_in (fold_of records).files file) rec
row_own records rec file is =
    let rows = (fold_of records).files in
    row_put records rec file file is ∙ ap (λ (b : Bool). cond b (row_after (row_in rows file) rec) (row_in rows file)) (file-itself file)

-- and one that isn't leaves it
pub row_other : (records : List Record) (rec : Record) (file : FileId) → IsElsewhere file (file_of rec)
    → row_in (fold_of (records ++ rec ∷ [])).files file ≡ row_in (fold_of records).files file
row_other records rec file away = at (file_of rec) refl away
  where
    at : (o : Option FileId) → file_of rec ≡ o → IsElsewhere file o → row_in (fold_of (records ++ rec ∷ [])).files file ≡ row_in (fold_of records).files file
    at None is away =
        ap (λ (k : Folded). row_in k.files file) (fold_of-push records rec) ∙ ap (λ (o : Option FileId). row_in (rows_after (fold_of records).files rec o) file) is
    at (Some f) is away =
        let rows = (fold_of records).files in
        row_put records rec file f is ∙ ap (λ (b : Bool). cond b (row_after (row_in rows f) rec) (row_in rows file)) away

-- ---- bodies

body_after : (before put : Option (List ℕ)) → unwrap_or (newer before put) [] ≡ newer_body (unwrap_or before []) put
body_after before None = refl
body_after before (Some bytes) = refl

pub body_own : (records : List Record) (rec : Record) (file : FileId) → body_by (records ++ rec ∷ []) file ≡ body_beyond file (Some rec) (body_by records file)
body_own records rec file =
    fun_ext (λ object. fun_ext (λ version.
    ap (λ (o : Option (List ℕ)). unwrap_or o []) (body_kept-push records rec file object version)
    ∙ body_after (body_kept records file object version) (body_put file object version rec)))

none_put : (file : FileId) (object : ℕ) (version : Stamp) (rec : Record) → IsElsewhere file (file_of rec) → body_put file object version rec ≡ None
none_put file object version (kept.Update f update) away = ap (λ (b : Bool). cond (b && makes_body update object version) (Some update.body) None) away
none_put file object version (kept.Stage f o v bytes) away = ap (λ (b : Bool). cond (b && (o == object) && is_stamp v version) (Some bytes) None) away
none_put file object version (kept.OldUpdate f update) away = ap (λ (b : Bool). cond (b && makes_body update object version) (Some update.body) None) away
none_put file object version (kept.OldStage f o v bytes) away = ap (λ (b : Bool). cond (b && (o == object) && is_stamp v version) (Some bytes) None) away
none_put file object version _ away = refl

pub body_other : (records : List Record) (rec : Record) (file : FileId) → IsElsewhere file (file_of rec) → body_by (records ++ rec ∷ []) file ≡ body_by records file
body_other records rec file away =
    body_own records rec file
    ∙ fun_ext (λ object. fun_ext (λ version. ap (λ (o : Option (List ℕ)). newer_body (body_by records file object version) o) (none_put file object version rec away)))

-- ---- nodes

made_of : (state : Option FileState) (a b : FileRow) (x y : ℕ → Stamp → List ℕ) → a ≡ b → x ≡ y
    → (let one : FileNode = record { state = state; kept = a; body = x } in one) ≡ record { state = state; kept = b; body = y }
made_of state a b x y rows bodies =
    ap (λ (k : FileRow). let node : FileNode = record { state = state; kept = k; body = x } in node) rows
    ∙ ap (λ (k : ℕ → Stamp → List ℕ). let node : FileNode = record { state = state; kept = b; body = k } in node) bodies

-- a node that keeps a record of the file
pub keeps_own : (file : FileId) (records : List Record) (old state : Option FileState) (rec : Option Record) → IsOf file rec
    → keeping (kept_seen file records old) state rec ≡ kept_seen file (one_more records rec) state
keeps_own file records old state None is = refl
keeps_own file records old state (Some rec) is =
    let row = row_in (fold_of records).files file in
    made_of state (row_after row rec) (row_in (fold_of (records ++ rec ∷ [])).files file) (body_beyond row.file (Some rec) (body_by records file)) (body_by (records ++ rec ∷ []) file)
    (sym (row_own records rec file is))
    (ap (λ (f : FileId). body_beyond f (Some rec) (body_by records file)) (row_in-file (fold_of records).files file) ∙ sym (body_own records rec file))

-- and of another one, or of none
pub keeps_other : (file : FileId) (records : List Record) (state : Option FileState) (rec : Option Record) → IsNotOf file rec
    → kept_seen file (one_more records rec) state ≡ kept_seen file records state
keeps_other file records state None away = refl
keeps_other file records state (Some rec) away =
    made_of state (row_in (fold_of (records ++ rec ∷ [])).files file) (row_in (fold_of records).files file) (body_by (records ++ rec ∷ []) file) (body_by records file)
    (row_other records rec file away) (body_other records rec file away)
