-- requests to the metadata server
use Rattle.std.proofs.Common.{◌≡◌, ℕ, List, ◌++◌, Ok, refl, lit<}
use Rattle.xt_messages.specs.declared.meta.MetaReq.{MetaReq}
use Rattle.xt_messages.specs.declared.meta.MetaReq.TheVariants as ask
use Rattle.xt_messages.specs.Limits.{FitsMetaReq}
use Rattle.xt_fields.specs.BasicFields.{byte_at, tagged}
use Rattle.xt_wire.specs.MetaFields.{meta_req_bytes, meta_req_arms, meta_req_at, mkdir_at, create_at, rename_at, unlink_at, rmdir_at, list_names_at, stat_at, chmod_at, grant_at, size_report_at, change_at, locate_at}
use Rattle.xt_fields.specs.OneSpelling.{IsField}
use Rattle.xt_fields.proofs.Laws.{IsArm, AreArms, both, arm, arm_again, no_more, or_arm}
use Rattle.xt_fields.proofs.BasicLaws.{half_field, path_field, within_byte, tagged_field}
use Rattle.xt_wire.proofs.IdLaws.{mark_field}
use Rattle.xt_wire.proofs.FileLaws.{kind_field, stripe_field, members_field, capability_field}

mkdir_arm : IsArm meta_req_bytes FitsMetaReq 1 mkdir_at
unfolding mkdir_at
mkdir_arm = arm 1 (both path_field half_field) (λ f. ask.Mkdir f.0 f.1) (λ a. refl) (λ a h. assumption)

create_arm : IsArm meta_req_bytes FitsMetaReq 2 create_at
unfolding create_at
create_arm = arm 2 (both (both (both (both path_field half_field) kind_field) (within_byte 1 9 (lit< tt))) stripe_field) (λ f. ask.Create f.0.0.0.0 f.0.0.0.1 f.0.0.1 f.0.1 f.1) (λ a. refl) (λ a h. assumption)

rename_arm : IsArm meta_req_bytes FitsMetaReq 3 rename_at
unfolding rename_at
rename_arm = arm 3 (both path_field path_field) (λ f. ask.Rename f.0 f.1) (λ a. refl) (λ a h. assumption)

unlink_arm : IsArm meta_req_bytes FitsMetaReq 4 unlink_at
unfolding unlink_at
unlink_arm = arm 4 path_field ask.Unlink (λ a. refl) (λ a h. assumption)

rmdir_arm : IsArm meta_req_bytes FitsMetaReq 5 rmdir_at
unfolding rmdir_at
rmdir_arm = arm 5 path_field ask.Rmdir (λ a. refl) (λ a h. assumption)

list_names_arm : IsArm meta_req_bytes FitsMetaReq 6 list_names_at
unfolding list_names_at
list_names_arm = arm 6 (both path_field path_field) (λ f. ask.List f.0 f.1) (λ a. refl) (λ a h. assumption)

stat_arm : IsArm meta_req_bytes FitsMetaReq 7 stat_at
unfolding stat_at
stat_arm = arm 7 path_field ask.Stat (λ a. refl) (λ a h. assumption)

chmod_arm : IsArm meta_req_bytes FitsMetaReq 8 chmod_at
unfolding chmod_at
chmod_arm = arm 8 (both path_field half_field) (λ f. ask.Chmod f.0 f.1) (λ a. refl) (λ a h. assumption)

grant_arm : IsArm meta_req_bytes FitsMetaReq 9 grant_at
unfolding grant_at
grant_arm = arm 9 (both path_field (within_byte 1 3 (lit< tt))) (λ f. ask.Grant f.0 f.1) (λ a. refl) (λ a h. assumption)

size_report_arm : IsArm meta_req_bytes FitsMetaReq 10 size_report_at
unfolding size_report_at
size_report_arm = arm 10 (both capability_field mark_field) (λ f. ask.Report f.0 f.1) (λ a. refl) (λ a h. assumption)

change_arm : IsArm meta_req_bytes FitsMetaReq 11 change_at
unfolding change_at
change_arm = arm 11 (both path_field members_field) (λ f. ask.Change f.0 f.1) (λ a. refl) (λ a h. assumption)

locate_arm : IsArm meta_req_bytes FitsMetaReq 12 locate_at
unfolding locate_at
locate_arm = arm 12 path_field ask.Locate (λ a. refl) (λ a h. assumption)

pub meta_req_arms_take : AreArms meta_req_bytes FitsMetaReq meta_req_arms
unfolding meta_req_arms
meta_req_arms_take = or_arm 1 mkdir_arm (or_arm 2 create_arm (or_arm 3 rename_arm (or_arm 4 unlink_arm (or_arm 5 rmdir_arm (or_arm 6 list_names_arm (or_arm 7 stat_arm (or_arm 8 chmod_arm (or_arm 9 grant_arm (or_arm 10 size_report_arm (or_arm 11 change_arm (or_arm 12 locate_arm no_more)))))))))))

meta_req_again : (b : MetaReq) (rest : List ℕ) → FitsMetaReq b → tagged meta_req_arms (meta_req_bytes b ++ rest) ≡ Ok (b, rest)
unfolding byte_at meta_req_arms mkdir_at create_at rename_at unlink_at rmdir_at list_names_at stat_at chmod_at grant_at size_report_at change_at locate_at
meta_req_again (ask.Mkdir path mode) rest h = arm_again (both path_field half_field) (λ f. ask.Mkdir f.0 f.1) (path, mode) rest assumption
meta_req_again (ask.Create path mode kind n stripe) rest h = arm_again (both (both (both (both path_field half_field) kind_field) (within_byte 1 9 (lit< tt))) stripe_field) (λ f. ask.Create f.0.0.0.0 f.0.0.0.1 f.0.0.1 f.0.1 f.1) ((((path, mode), kind), n), stripe) rest assumption
meta_req_again (ask.Rename from to) rest h = arm_again (both path_field path_field) (λ f. ask.Rename f.0 f.1) (from, to) rest assumption
meta_req_again (ask.Unlink path) rest h = arm_again path_field ask.Unlink path rest assumption
meta_req_again (ask.Rmdir path) rest h = arm_again path_field ask.Rmdir path rest assumption
meta_req_again (ask.List path after) rest h = arm_again (both path_field path_field) (λ f. ask.List f.0 f.1) (path, after) rest assumption
meta_req_again (ask.Stat path) rest h = arm_again path_field ask.Stat path rest assumption
meta_req_again (ask.Chmod path mode) rest h = arm_again (both path_field half_field) (λ f. ask.Chmod f.0 f.1) (path, mode) rest assumption
meta_req_again (ask.Grant path want) rest h = arm_again (both path_field (within_byte 1 3 (lit< tt))) (λ f. ask.Grant f.0 f.1) (path, want) rest assumption
meta_req_again (ask.Report capability mark) rest h = arm_again (both capability_field mark_field) (λ f. ask.Report f.0 f.1) (capability, mark) rest assumption
meta_req_again (ask.Change path nodes) rest h = arm_again (both path_field members_field) (λ f. ask.Change f.0 f.1) (path, nodes) rest assumption
meta_req_again (ask.Locate path) rest h = arm_again path_field ask.Locate path rest assumption

pub meta_req_field : IsField meta_req_bytes FitsMetaReq meta_req_at
unfolding meta_req_at
meta_req_field = tagged_field meta_req_arms_take meta_req_again
