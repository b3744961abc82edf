-- requests to the directory service
use Rattle.std.proofs.Common.{◌≡◌, ℕ, List, ◌++◌, Ok, refl}
use Rattle.xt_messages.specs.declared.registry.RegistryReq.{RegistryReq}
use Rattle.xt_messages.specs.declared.registry.RegistryReq.TheVariants as wish
use Rattle.xt_messages.specs.Limits.{FitsRegistryReq}
use Rattle.xt_fields.specs.BasicFields.{byte_at, tagged}
use Rattle.xt_wire.specs.RegistryFields.{registry_req_bytes, registry_req_arms, registry_req_at, set_row_at, get_row_at, list_rows_at, remove_row_at}
use Rattle.xt_fields.specs.OneSpelling.{IsField}
use Rattle.xt_fields.proofs.Laws.{IsArm, AreArms, both, arm, arm_again, no_more, or_arm}
use Rattle.xt_fields.proofs.BasicLaws.{byte_field, count_field, name_field, tagged_field}
use Rattle.xt_wire.proofs.IdLaws.{node_field}

set_row_arm : IsArm registry_req_bytes FitsRegistryReq 1 set_row_at
unfolding set_row_at
set_row_arm = arm 1 (both (both (both node_field byte_field) name_field) count_field) (λ f. wish.Set f.0.0.0 f.0.0.1 f.0.1 f.1) (λ a. refl) (λ a h. assumption)

get_row_arm : IsArm registry_req_bytes FitsRegistryReq 2 get_row_at
unfolding get_row_at
get_row_arm = arm 2 node_field wish.Get (λ a. refl) (λ a h. assumption)

list_rows_arm : IsArm registry_req_bytes FitsRegistryReq 3 list_rows_at
unfolding list_rows_at
list_rows_arm = arm 3 (both byte_field node_field) (λ f. wish.List f.0 f.1) (λ a. refl) (λ a h. assumption)

remove_row_arm : IsArm registry_req_bytes FitsRegistryReq 4 remove_row_at
unfolding remove_row_at
remove_row_arm = arm 4 (both node_field count_field) (λ f. wish.Remove f.0 f.1) (λ a. refl) (λ a h. assumption)

pub registry_req_arms_take : AreArms registry_req_bytes FitsRegistryReq registry_req_arms
unfolding registry_req_arms
registry_req_arms_take = or_arm 1 set_row_arm (or_arm 2 get_row_arm (or_arm 3 list_rows_arm (or_arm 4 remove_row_arm no_more)))

registry_req_again : (b : RegistryReq) (rest : List ℕ) → FitsRegistryReq b → tagged registry_req_arms (registry_req_bytes b ++ rest) ≡ Ok (b, rest)
unfolding byte_at registry_req_arms set_row_at get_row_at list_rows_at remove_row_at
registry_req_again (wish.Set node kind address expected) rest h = arm_again (both (both (both node_field byte_field) name_field) count_field) (λ f. wish.Set f.0.0.0 f.0.0.1 f.0.1 f.1) (((node, kind), address), expected) rest assumption
registry_req_again (wish.Get node) rest h = arm_again node_field wish.Get node rest assumption
registry_req_again (wish.List kind after) rest h = arm_again (both byte_field node_field) (λ f. wish.List f.0 f.1) (kind, after) rest assumption
registry_req_again (wish.Remove node expected) rest h = arm_again (both node_field count_field) (λ f. wish.Remove f.0 f.1) (node, expected) rest assumption

pub registry_req_field : IsField registry_req_bytes FitsRegistryReq registry_req_at
unfolding registry_req_at
registry_req_field = tagged_field registry_req_arms_take registry_req_again
