-- answers of the directory service
use Rattle.std.proofs.Common.{◌≡◌, ℕ, ◌^◌, List, ◌++◌, Ok, refl, lit<}
use Rattle.xt_messages.specs.declared.registry.RegistryRow.{RegistryRow}
use Rattle.xt_messages.specs.declared.registry.RegistryAnswer.{RegistryAnswer}
use Rattle.xt_messages.specs.declared.registry.RegistryAnswer.TheVariants as told
use Rattle.xt_messages.specs.Limits.{FitsRegistryAnswer, FitsRow, FitsRows}
use Rattle.xt_fields.specs.BasicFields.{byte_at, tagged}
use Rattle.xt_frames.specs.RegistryAnswers.{row_bytes, row_at, rows_bytes, rows_at, registry_answer_bytes, registry_answer_arms, registry_answer_at, done_at, changed_at, row_told_at, rows_told_at}
use Rattle.xt_fields.specs.OneSpelling.{IsField}
use Rattle.xt_fields.proofs.Laws.{IsArm, AreArms, both, made_field, as_field, arm, lone_arm, arm_again, no_more, or_arm}
use Rattle.xt_fields.proofs.BasicLaws.{byte_field, word_field, count_field, name_field, counted_field, tagged_field}
use Rattle.xt_wire.proofs.IdLaws.{node_field}

pub row_field : IsField row_bytes FitsRow row_at
unfolding row_at
row_field = as_field
    (λ r h. record { which = h.0.0.0; sort = h.0.0.1; place = h.0.1; changes = h.1 })
    (λ r h. (((h.which, h.sort), h.place), h.changes))
    (made_field (λ r. record { node = r.0.0.0; kind = r.0.0.1; address = r.0.1; version = r.1 }) (λ (r : RegistryRow). (((r.node, r.kind), r.address), r.version)) (λ a. refl) (λ b. refl)
    (both (both (both node_field byte_field) name_field) count_field))

pub rows_field : IsField rows_bytes FitsRows rows_at
unfolding rows_at
rows_field = as_field (λ r h. record { few = h.few; each = h.each }) (λ r h. record { few = h.few; each = h.each }) (counted_field 256 (2 ^ 32) (lit< tt) word_field row_field)

done_arm : IsArm registry_answer_bytes FitsRegistryAnswer 0 done_at
unfolding done_at
done_arm = arm 0 count_field told.Done (λ a. refl) (λ a h. assumption)

changed_arm : IsArm registry_answer_bytes FitsRegistryAnswer 1 changed_at
unfolding changed_at
changed_arm = arm 1 count_field told.Changed (λ a. refl) (λ a h. assumption)

row_told_arm : IsArm registry_answer_bytes FitsRegistryAnswer 3 row_told_at
unfolding row_told_at
row_told_arm = arm 3 row_field told.Row (λ a. refl) (λ a h. assumption)

rows_told_arm : IsArm registry_answer_bytes FitsRegistryAnswer 4 rows_told_at
unfolding rows_told_at
rows_told_arm = arm 4 rows_field told.Rows (λ a. refl) (λ a h. assumption)

pub registry_answer_arms_take : AreArms registry_answer_bytes FitsRegistryAnswer registry_answer_arms
unfolding registry_answer_arms
registry_answer_arms_take = or_arm 0 done_arm (or_arm 1 changed_arm (or_arm 2 (lone_arm 2 told.Absent refl tt) (or_arm 3 row_told_arm (or_arm 4 rows_told_arm no_more))))

registry_answer_again : (b : RegistryAnswer) (rest : List ℕ) → FitsRegistryAnswer b → tagged registry_answer_arms (registry_answer_bytes b ++ rest) ≡ Ok (b, rest)
unfolding byte_at registry_answer_arms done_at changed_at row_told_at rows_told_at
registry_answer_again (told.Done version) rest h = arm_again count_field told.Done version rest assumption
registry_answer_again (told.Changed version) rest h = arm_again count_field told.Changed version rest assumption
registry_answer_again told.Absent rest h = refl
registry_answer_again (told.Row row) rest h = arm_again row_field told.Row row rest assumption
registry_answer_again (told.Rows rows) rest h = arm_again rows_field told.Rows rows rest assumption

pub registry_answer_field : IsField registry_answer_bytes FitsRegistryAnswer registry_answer_at
unfolding registry_answer_at
registry_answer_field = tagged_field registry_answer_arms_take registry_answer_again
