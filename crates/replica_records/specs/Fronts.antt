-- a record's text but for its body
use Rattle.std.specs.Prelude.{ℕ, ◌≡◌, List, ◌++◌, length}
use Rattle.xt_messages.specs.Limits.{FitsRecord}
use Rattle.xt_messages.specs.declared.record.Record.{Record}
use Rattle.xt_messages.specs.declared.record.Record.TheVariants as kept
use Rattle.xt_fields.specs.BasicFields.{byte_bytes, word_bytes, long_bytes}
use Rattle.xt_wire.specs.IdFields.{file_bytes, stamp_bytes, op_id_bytes, mark_bytes}
use Rattle.replica_records.specs.Bare.{body_in, with_body}
use Rattle.replica_records.specs.OldFields.{slot_bytes}
use Rattle.replica_records.specs.RecordText.{record_text}

-- with some body of so many bytes it puts that body, and is within its limits
pub record FitsWith (len : ℕ) (rec : Record) : Type 0 where
  pub body : List ℕ
  pub size : length body ≡ len
  pub puts : body_in (with_body body rec) ≡ body
  pub fits : FitsRecord (with_body body rec)

-- What comes before a body of so many bytes in the text of a record that puts one; the whole text of one that puts none.
abbrev pub front_text : ℕ → Record → List ℕ
front_text len (kept.Update file update) =
    byte_bytes 13
    ++ (file_bytes file
    ++ (stamp_bytes update.stamp ++ op_id_bytes update.id ++ mark_bytes update.mark ++ long_bytes update.drop_from ++ long_bytes update.object ++ word_bytes len))
front_text len (kept.Stage file object version bytes) = byte_bytes 14 ++ (file_bytes file ++ long_bytes object ++ stamp_bytes version ++ word_bytes len)
front_text len (kept.OldUpdate file update) =
    byte_bytes 3
    ++ (file_bytes file
    ++ (stamp_bytes update.stamp ++ op_id_bytes update.id ++ mark_bytes update.mark ++ slot_bytes update.drop_from ++ slot_bytes update.object ++ word_bytes len))
front_text len (kept.OldStage file object version bytes) = byte_bytes 4 ++ (file_bytes file ++ word_bytes object ++ stamp_bytes version ++ word_bytes len)
front_text len rec = record_text rec
