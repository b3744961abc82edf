-- what the code notes of the files that were ever made is what the rows say
use Rattle.std.proofs.Common.{◌≡◌, ℕ, refl}
use Rattle.std.specs.Prelude.{Option, Some, None, List, []}
use Rattle.xt_base.specs.declared.ids.FileId.{FileId}
use Rattle.xt_base.specs.declared.ids.NodeId.{NodeId}
use Rattle.xt_messages.specs.declared.meta.MetaReq.{MetaReq}
use Rattle.xt_messages.specs.declared.meta.MetaReq.TheVariants as ask
use Rattle.volume_rows.specs.declared.Picked.TheVariants as place
use Rattle.volume_rows.specs.Paths.{path_in}
use Rattle.volume_rows.specs.Rows.{Volumes}
use Rattle.volume_rows.specs.Grants.{file_at}
use Rattle.server_rows.specs.declared.MadeFile.{MadeFile}
use Rattle.server_rows.specs.Requests.{file_wanted, made_by, marks_on, place_of}
use Rattle.mrc_core.specs.Noting.{noted_of, subject_of}

pub noted_is_made : (volumes : Volumes) (now : ℕ) (nodes : Option (List NodeId)) (request : MetaReq) (made : List (ℕ × MadeFile)) →
    noted_of (subject_of volumes request) (place_of nodes request) now request made ≡ made_by volumes now nodes request made
noted_is_made volumes now nodes (ask.Create path mode kind n stripe) made = refl
noted_is_made volumes now nodes (ask.Unlink path) made = refl
noted_is_made volumes now nodes _ made = refl

-- what isn't placed is not marked
not_placed : (file : Option FileId) (have : ℕ) → marks_on file (place.TooFew have) ≡ []
not_placed None have = refl
not_placed (Some file) have = refl

-- the file that a request makes or unlinks is marked where it is the one that it makes
pub subject_is_marked : (volumes : Volumes) (nodes : Option (List NodeId)) (request : MetaReq) →
    marks_on (subject_of volumes request) (place_of nodes request) ≡ marks_on (file_wanted volumes.next request) (place_of nodes request)
subject_is_marked volumes nodes (ask.Create path mode kind n stripe) = refl
subject_is_marked volumes nodes (ask.Unlink path) = not_placed (file_at volumes (path_in path)) 0
subject_is_marked volumes nodes _ = refl
