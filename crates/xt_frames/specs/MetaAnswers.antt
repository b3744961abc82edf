-- answers of the metadata server as fields
use Rattle.std.specs.Prelude.{ℕ, Bool, true, false, List, ◌++◌, length, Ok, Err, ◌==◌, if◌then◌else◌}
use Rattle.std.specs.List.{flat_map}
use Rattle.xt_messages.specs.declared.meta.MetaRefusal.{MetaRefusal}
use Rattle.xt_messages.specs.declared.meta.MetaRefusal.TheVariants as refusal
use Rattle.xt_messages.specs.declared.meta.RowKind.{RowKind}
use Rattle.xt_messages.specs.declared.meta.RowKind.TheVariants as row_kind
use Rattle.xt_messages.specs.declared.meta.MetaAnswer.{MetaAnswer}
use Rattle.xt_messages.specs.declared.meta.MetaAnswer.TheVariants as answer
use Rattle.xt_fields.specs.declared.fault.FieldErr.TheVariants as fault
use Rattle.xt_fields.specs.Reading.{Field, ◌&◌, made}
use Rattle.xt_fields.specs.BasicFields.{byte_bytes, half_bytes, word_bytes, text_bytes, byte_at, half_at, word_at, text_at, within, counted, tagged}
use Rattle.xt_wire.specs.IdFields.{node_bytes, node_at, mark_bytes, mark_at}
use Rattle.xt_wire.specs.FileFields.{version_at, location_bytes, location_at, capability_bytes, capability_at}
use Rattle.xt_frames.specs.ReplyFields.{denial_bytes, denial_at}

abbrev pub refusal_bytes : MetaRefusal → List ℕ
refusal_bytes refusal.NotFound = byte_bytes 1
refusal_bytes refusal.Exists = byte_bytes 2
refusal_bytes refusal.NotDir = byte_bytes 3
refusal_bytes refusal.IsDir = byte_bytes 4
refusal_bytes refusal.NotEmpty = byte_bytes 5
refusal_bytes refusal.IntoSelf = byte_bytes 6
refusal_bytes refusal.OtherVolume = byte_bytes 7
refusal_bytes (refusal.Forbidden rule) = byte_bytes 8 ++ byte_bytes rule
refusal_bytes refusal.NameBad = byte_bytes 9
refusal_bytes (refusal.TooFew have) = byte_bytes 10 ++ byte_bytes have
refusal_bytes (refusal.Denied rule) = byte_bytes 11 ++ denial_bytes rule
refusal_bytes (refusal.Changing version) = byte_bytes 16 ++ word_bytes version
refusal_bytes refusal.NotReplicated = byte_bytes 17
refusal_bytes (refusal.UnknownOsd node) = byte_bytes 18 ++ node_bytes node

unfoldable pub forbidden_at : Field MetaRefusal
forbidden_at = made refusal.Forbidden (within 1 4 byte_at)

unfoldable pub too_few_at : Field MetaRefusal
too_few_at = made refusal.TooFew byte_at

unfoldable pub report_denied_at : Field MetaRefusal
report_denied_at = made refusal.Denied denial_at

unfoldable pub changing_at : Field MetaRefusal
changing_at = made refusal.Changing version_at

unfoldable pub unknown_osd_at : Field MetaRefusal
unknown_osd_at = made refusal.UnknownOsd node_at

unfoldable pub refusal_arms : ℕ → Field MetaRefusal
refusal_arms tag bytes =
    if tag == 1 then Ok (refusal.NotFound, bytes)
    else if tag == 2 then Ok (refusal.Exists, bytes)
    else if tag == 3 then Ok (refusal.NotDir, bytes)
    else if tag == 4 then Ok (refusal.IsDir, bytes)
    else if tag == 5 then Ok (refusal.NotEmpty, bytes)
    else if tag == 6 then Ok (refusal.IntoSelf, bytes)
    else if tag == 7 then Ok (refusal.OtherVolume, bytes)
    else if tag == 8 then forbidden_at bytes
    else if tag == 9 then Ok (refusal.NameBad, bytes)
    else if tag == 10 then too_few_at bytes
    else if tag == 11 then report_denied_at bytes
    else if tag == 16 then changing_at bytes
    else if tag == 17 then Ok (refusal.NotReplicated, bytes)
    else if tag == 18 then unknown_osd_at bytes
    else Err fault.Unfit

-- four bytes that say how many, and the texts
abbrev pub names_bytes : List (List ℕ) → List ℕ
names_bytes names = word_bytes (length names) ++ flat_map text_bytes names

unfoldable pub names_at : Field (List (List ℕ))
names_at = counted 512 word_at (text_at 255)

abbrev pub row_kind_bytes : RowKind → List ℕ
row_kind_bytes row_kind.Directory = byte_bytes 1
row_kind_bytes row_kind.File = byte_bytes 2

unfoldable pub row_kind_arms : ℕ → Field RowKind
row_kind_arms tag bytes =
    if tag == 1 then Ok (row_kind.Directory, bytes)
    else if tag == 2 then Ok (row_kind.File, bytes)
    else Err fault.Unfit

unfoldable pub row_kind_at : Field RowKind
row_kind_at = tagged row_kind_arms

-- a byte that is 1 where it is so, else 0
abbrev pub flag_bytes : Bool → List ℕ
flag_bytes false = byte_bytes 0
flag_bytes true = byte_bytes 1

unfoldable pub flag_arms : ℕ → Field Bool
flag_arms tag bytes =
    if tag == 0 then Ok (false, bytes)
    else if tag == 1 then Ok (true, bytes)
    else Err fault.Unfit

unfoldable pub flag_at : Field Bool
flag_at = tagged flag_arms

-- 0, a refusal under its number, or what is answered under 12 to 15
abbrev pub meta_answer_bytes : MetaAnswer → List ℕ
meta_answer_bytes answer.Done = byte_bytes 0
meta_answer_bytes (answer.Refused refusal) = refusal_bytes refusal
meta_answer_bytes (answer.Names names) = byte_bytes 12 ++ names_bytes names
meta_answer_bytes (answer.Row kind owner group mode mark) = byte_bytes 13 ++ row_kind_bytes kind ++ word_bytes owner ++ word_bytes group ++ half_bytes mode ++ mark_bytes mark
meta_answer_bytes (answer.Granted capability mark) = byte_bytes 14 ++ capability_bytes capability ++ mark_bytes mark
meta_answer_bytes (answer.Located location changing) = byte_bytes 15 ++ location_bytes location ++ flag_bytes changing

unfoldable pub names_answer_at : Field MetaAnswer
names_answer_at = made answer.Names names_at

unfoldable pub row_answer_at : Field MetaAnswer
row_answer_at =
    made (λ f. answer.Row f.0.0.0.0 f.0.0.0.1 f.0.0.1 f.0.1 f.1)
    (row_kind_at & word_at & word_at & half_at & mark_at)

unfoldable pub granted_at : Field MetaAnswer
granted_at = made (λ f. answer.Granted f.0 f.1) (capability_at & mark_at)

unfoldable pub located_at : Field MetaAnswer
located_at = made (λ f. answer.Located f.0 f.1) (location_at & flag_at)

unfoldable pub meta_answer_arms : ℕ → Field MetaAnswer
meta_answer_arms tag bytes =
    if tag == 0 then Ok (answer.Done, bytes)
    else if tag == 12 then names_answer_at bytes
    else if tag == 13 then row_answer_at bytes
    else if tag == 14 then granted_at bytes
    else if tag == 15 then located_at bytes
    else made answer.Refused (refusal_arms tag) bytes

unfoldable pub meta_answer_at : Field MetaAnswer
meta_answer_at = tagged meta_answer_arms
