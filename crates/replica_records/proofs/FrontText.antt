-- a record's text is what comes before its body, and then its body
use Rattle.std.proofs.Common.{◌≡◌, ◌+◌, ◌≤◌, ℕ, List, [], ◌∷◌, ◌++◌, length, refl, ap, sym, ◌∙◌, arith, append_assoc, length-append}
use Rattle.std.proofs.lemmas.List.{append-nil}
use Rattle.xt_messages.specs.declared.record.Record.{Record}
use Rattle.xt_messages.specs.declared.record.Record.TheVariants as kept
use Rattle.xt_fields.specs.BasicFields.{word_bytes, long_bytes}
use Rattle.xt_wire.specs.IdFields.{file_bytes, stamp_bytes, op_id_bytes, mark_bytes}
use Rattle.replica_records.specs.Bare.{body_in, with_body}
use Rattle.replica_records.specs.Fronts.{FitsWith, front_text}
use Rattle.replica_records.specs.OldFields.{slot_bytes}
use Rattle.replica_records.specs.RecordText.{record_text}
use Rattle.replica_records.proofs.BodyLaws.{set_get}
use Rattle.replica_records.proofs.PayloadLength.{text_bound}

whole_text : (text body : List ℕ) → [] ≡ body → text ≡ text ++ body
whole_text text body none = sym (append-nil text) ∙ ap (λ (b : List ℕ). text ++ b) none

-- a body after its length, behind the other fields of an update, and of a staged body
update_front : (kind : ℕ) (named heads : List ℕ) (len : ℕ) (body : List ℕ) → length body ≡ len
    → kind ∷ (named ++ (heads ++ (word_bytes (length body) ++ body))) ≡ (kind ∷ (named ++ (heads ++ word_bytes len))) ++ body
update_front kind named heads len body size =
    ap (λ (n : ℕ). kind ∷ (named ++ (heads ++ (word_bytes n ++ body)))) size
    ∙ ap (λ l. kind ∷ l) (ap (λ l. named ++ l) (sym (append_assoc heads (word_bytes len) body)) ∙ sym (append_assoc named (heads ++ word_bytes len) body))

stage_front : (kind : ℕ) (heads : List ℕ) (len : ℕ) (body : List ℕ) → length body ≡ len
    → kind ∷ (heads ++ (word_bytes (length body) ++ body)) ≡ (kind ∷ (heads ++ word_bytes len)) ++ body
stage_front kind heads len body size =
    ap (λ (n : ℕ). kind ∷ (heads ++ (word_bytes n ++ body))) size ∙ ap (λ l. kind ∷ l) (sym (append_assoc heads (word_bytes len) body))

pub front_then_body : (len : ℕ) (rec : Record) (body : List ℕ) → length body ≡ len → body_in (with_body body rec) ≡ body → record_text (with_body body rec) ≡ front_text len rec ++ body
front_then_body len (kept.Update file update) body size puts =
    update_front 13 (file_bytes file) (stamp_bytes update.stamp ++ op_id_bytes update.id ++ mark_bytes update.mark ++ long_bytes update.drop_from ++ long_bytes update.object) len body size
front_then_body len (kept.Stage file object version bytes) body size puts =
    stage_front 14 (file_bytes file ++ long_bytes object ++ stamp_bytes version) len body size
front_then_body len (kept.OldUpdate file update) body size puts =
    update_front 3 (file_bytes file) (stamp_bytes update.stamp ++ op_id_bytes update.id ++ mark_bytes update.mark ++ slot_bytes update.drop_from ++ slot_bytes update.object) len body size
front_then_body len (kept.OldStage file object version bytes) body size puts =
    stage_front 4 (file_bytes file ++ word_bytes object ++ stamp_bytes version) len body size
front_then_body len rec body size puts = whole_text (record_text rec) body puts

-- its own body ends a record's text
pub front_and_own : (rec : Record) → record_text rec ≡ front_text (length (body_in rec)) rec ++ body_in rec
front_and_own rec =
    ap record_text (sym (set_get rec)) ∙ front_then_body (length (body_in rec)) rec (body_in rec) refl (ap body_in (set_get rec))

pub front_bound : (len : ℕ) (rec : Record) → FitsWith len rec → length (front_text len rec) + len ≤ 1048576
front_bound len rec is =
    omega (arith, (text_bound (with_body is.body rec) is.fits).1, ap length (front_then_body len rec is.body is.size is.puts), length-append (front_text len rec) is.body, is.size)
