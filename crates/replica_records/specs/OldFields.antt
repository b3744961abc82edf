-- updates and heads as records had them while objects had 32 bits
use Rattle.std.specs.Prelude.{ℕ, List, ◌++◌, length, map, ◌==◌, if◌then◌else◌}
use Rattle.std.specs.List.{flat_map}
use Rattle.xt_base.specs.declared.TheConstants.{BODY, NO_OBJECT}
use Rattle.xt_messages.specs.Limits.{rise, is_at_most}
use Rattle.xt_messages.specs.declared.file.Update.{Update}
use Rattle.xt_messages.specs.declared.file.ObjectVersion.{ObjectVersion}
use Rattle.xt_messages.specs.declared.file.FileHead.{FileHead}
use Rattle.xt_fields.specs.Reading.{Field, ◌&◌, made, fit}
use Rattle.xt_fields.specs.BasicFields.{word_bytes, octets_bytes, word_at, octets_at, counted}
use Rattle.xt_wire.specs.IdFields.{epoch_bytes, epoch_at, stamp_bytes, stamp_at, op_id_bytes, op_id_at, mark_bytes, mark_at}
use Rattle.xt_wire.specs.FileFields.{has_its_body, sessions_bytes, sessions_at}

-- ---- updates

-- an object, or the greatest word for none
unfoldable pub slot_bytes : ℕ → List ℕ
slot_bytes object = word_bytes (if object == NO_OBJECT then 4294967295 else object)

unfoldable pub slot_at : Field ℕ
slot_at = made (λ n. if n == 4294967295 then NO_OBJECT else n) word_at

abbrev pub update_bytes : Update → List ℕ
update_bytes update =
    stamp_bytes update.stamp ++ op_id_bytes update.id ++ mark_bytes update.mark ++ slot_bytes update.drop_from
    ++ slot_bytes update.object ++ octets_bytes update.body

unfoldable pub update_at : Field Update
update_at =
    fit has_its_body (made (λ u. record { stamp = u.0.0.0.0.0; id = u.0.0.0.0.1; mark = u.0.0.0.1; drop_from = u.0.0.1; object = u.0.1; body = u.1 })
    (stamp_at & op_id_at & mark_at & slot_at & slot_at & octets_at BODY))

-- ---- heads

abbrev pub object_version_bytes : ObjectVersion → List ℕ
object_version_bytes entry = word_bytes entry.object ++ stamp_bytes entry.version

unfoldable pub object_version_at : Field ObjectVersion
object_version_at = made (λ v. record { object = v.0; version = v.1 }) (word_at & stamp_at)

abbrev pub versions_bytes : List ObjectVersion → List ℕ
versions_bytes versions = word_bytes (length versions) ++ flat_map object_version_bytes versions

unfoldable pub versions_at : Field (List ObjectVersion)
versions_at = fit (λ versions. rise (map (λ v. v.object) versions)) (counted 4096 word_at object_version_at)

abbrev pub head_bytes : FileHead → List ℕ
head_bytes head =
    epoch_bytes head.promised ++ stamp_bytes head.stamp ++ op_id_bytes head.last ++ mark_bytes head.mark
    ++ versions_bytes head.versions ++ sessions_bytes head.sessions

unfoldable pub head_at : Field FileHead
head_at =
    fit (λ h. is_at_most h.stamp.epoch h.promised) (made (λ h. record { promised = h.0.0.0.0.0; stamp = h.0.0.0.0.1; last = h.0.0.0.1; mark = h.0.0.1; versions = h.0.1; sessions = h.1 })
    (epoch_at & stamp_at & op_id_at & mark_at & versions_at & sessions_at))
