-- what is noted of the files that were ever made, in the order in which the code works it out
use Rattle.std.specs.Prelude.{ℕ, Option, None, List}
use Rattle.xt_base.specs.declared.ids.FileId.{FileId}
use Rattle.xt_messages.specs.declared.meta.MetaReq.{MetaReq}
use Rattle.xt_messages.specs.declared.meta.MetaReq.TheVariants as ask
use Rattle.volume_rows.specs.declared.Picked.{Picked}
use Rattle.volume_rows.specs.Paths.{path_in}
use Rattle.volume_rows.specs.Rows.{Volumes}
use Rattle.volume_rows.specs.Grants.{file_at}
use Rattle.server_rows.specs.declared.MadeFile.{MadeFile}
use Rattle.server_rows.specs.Requests.{new_file, noted, ended}

-- the file that a request makes or unlinks, before it does
abbrev pub subject_of : Volumes → MetaReq → Option FileId
subject_of volumes (ask.Create path mode kind n stripe) = new_file (path_in path) volumes.next
subject_of volumes (ask.Unlink path) = file_at volumes (path_in path)
subject_of volumes _ = None

-- the files after a request that was done with this one, where it was placed
abbrev pub noted_of : Option FileId → Picked → ℕ → MetaReq → List (ℕ × MadeFile) → List (ℕ × MadeFile)
noted_of file pick now (ask.Create path mode kind n stripe) made = noted file pick made
noted_of file pick now (ask.Unlink path) made = ended now file made
noted_of file pick now _ made = made
