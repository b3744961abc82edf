-- no record is read as a superblock
use Rattle.std.proofs.Common.{◌≡◌, ◌≢◌, ℕ, List, get_or, sym, ◌∙◌, ap, arith}
use Rattle.std.specs.Prelude.{slice_index}
use Rattle.std.specs.List.{All}
use Rattle.std.proofs.lemmas.List.Elements.{All-map}
use Rattle.xt_messages.specs.Limits.{FitsRecord}
use Rattle.xt_messages.specs.declared.record.Record.{Record}
use Rattle.xt_messages.specs.declared.record.Record.TheVariants as kept
use Rattle.replica_records.specs.RecordText.{record_text}
use Rattle.replica_records.proofs.PayloadLength.{text_bound}
use Rattle.xt_journal.specs.Format.{superblock_kind, AreGiven, IsGiven}
use Rattle.object_store.specs.Texts.{texts_of}

first_byte : (rec : Record) → slice_index (record_text rec) 0 ≢ superblock_kind
first_byte (kept.Boot boot) = λ is. omega (arith, is)
first_byte _ = λ is. omega (arith, is)

-- the bytes of a record don't begin with a superblock's kind
pub no_superblock : (bytes : List ℕ) (rec : Record) → bytes ≡ record_text rec → slice_index bytes 0 ≢ superblock_kind
no_superblock bytes rec is = λ kind. first_byte rec (sym (ap (λ (b : List ℕ). slice_index b 0) is) ∙ kind)

-- a record's bytes can be given to a journal
given : (rec : Record) → FitsRecord rec → IsGiven (record_text rec)
given rec fits =
    let bound = text_bound rec fits in
    record { fits = record { some = bound.0; fits = omega (arith, bound.1) }; kind = first_byte rec }

pub given_texts : (records : List Record) → All FitsRecord records → AreGiven (texts_of records)
given_texts records fit = All-map IsGiven record_text records (λ k d less. given (get_or records k d) (fit k d less))
