-- answers of the directory service as fields
use Rattle.std.specs.Prelude.{ℕ, List, ◌++◌, length, Ok, Err, ◌==◌, if◌then◌else◌}
use Rattle.std.specs.List.{flat_map}
use Rattle.xt_messages.specs.declared.registry.RegistryRow.{RegistryRow}
use Rattle.xt_messages.specs.declared.registry.RegistryAnswer.{RegistryAnswer}
use Rattle.xt_messages.specs.declared.registry.RegistryAnswer.TheVariants as told
use Rattle.xt_fields.specs.declared.fault.FieldErr.TheVariants as fault
use Rattle.xt_fields.specs.Reading.{Field, ◌&◌, made}
use Rattle.xt_fields.specs.BasicFields.{byte_bytes, word_bytes, long_bytes, text_bytes, byte_at, word_at, count_at, text_at, counted, tagged}
use Rattle.xt_wire.specs.IdFields.{node_bytes, node_at}

abbrev pub row_bytes : RegistryRow → List ℕ
row_bytes row = node_bytes row.node ++ byte_bytes row.kind ++ text_bytes row.address ++ long_bytes row.version

unfoldable pub row_at : Field RegistryRow
row_at =
    made (λ r. record { node = r.0.0.0; kind = r.0.0.1; address = r.0.1; version = r.1 })
    (node_at & byte_at & text_at 255 & count_at)

-- four bytes that say how many, and the rows
abbrev pub rows_bytes : List RegistryRow → List ℕ
rows_bytes rows = word_bytes (length rows) ++ flat_map row_bytes rows

unfoldable pub rows_at : Field (List RegistryRow)
rows_at = counted 256 word_at row_at

abbrev pub registry_answer_bytes : RegistryAnswer → List ℕ
registry_answer_bytes (told.Done version) = byte_bytes 0 ++ long_bytes version
registry_answer_bytes (told.Changed version) = byte_bytes 1 ++ long_bytes version
registry_answer_bytes told.Absent = byte_bytes 2
registry_answer_bytes (told.Row row) = byte_bytes 3 ++ row_bytes row
registry_answer_bytes (told.Rows rows) = byte_bytes 4 ++ rows_bytes rows

unfoldable pub done_at : Field RegistryAnswer
done_at = made told.Done count_at

unfoldable pub changed_at : Field RegistryAnswer
changed_at = made told.Changed count_at

unfoldable pub row_told_at : Field RegistryAnswer
row_told_at = made told.Row row_at

unfoldable pub rows_told_at : Field RegistryAnswer
rows_told_at = made told.Rows rows_at

unfoldable pub registry_answer_arms : ℕ → Field RegistryAnswer
registry_answer_arms tag bytes =
    if tag == 0 then done_at bytes
    else if tag == 1 then changed_at bytes
    else if tag == 2 then Ok (told.Absent, bytes)
    else if tag == 3 then row_told_at bytes
    else if tag == 4 then rows_told_at bytes
    else Err fault.Unfit

unfoldable pub registry_answer_at : Field RegistryAnswer
registry_answer_at = tagged registry_answer_arms
