-- requests to the metadata server as fields
use Rattle.std.specs.Prelude.{ℕ, List, ◌++◌, Err, ◌==◌, if◌then◌else◌}
use Rattle.xt_messages.specs.declared.meta.MetaReq.{MetaReq}
use Rattle.xt_messages.specs.declared.meta.MetaReq.TheVariants as ask
use Rattle.xt_fields.specs.declared.fault.FieldErr.TheVariants as fault
use Rattle.xt_fields.specs.Reading.{Field, ◌&◌, made}
use Rattle.xt_fields.specs.BasicFields.{byte_bytes, half_bytes, word_bytes, text_bytes, byte_at, half_at, text_at, within, tagged}
use Rattle.xt_wire.specs.IdFields.{mark_bytes, mark_at}
use Rattle.xt_wire.specs.FileFields.{kind_bytes, kind_at, stripe_at, members_bytes, members_at, capability_bytes, capability_at}

abbrev pub meta_req_bytes : MetaReq → List ℕ
meta_req_bytes (ask.Mkdir path mode) = byte_bytes 1 ++ text_bytes path ++ half_bytes mode
meta_req_bytes (ask.Create path mode kind n stripe) = byte_bytes 2 ++ text_bytes path ++ half_bytes mode ++ kind_bytes kind ++ byte_bytes n ++ word_bytes stripe
meta_req_bytes (ask.Rename from to) = byte_bytes 3 ++ text_bytes from ++ text_bytes to
meta_req_bytes (ask.Unlink path) = byte_bytes 4 ++ text_bytes path
meta_req_bytes (ask.Rmdir path) = byte_bytes 5 ++ text_bytes path
meta_req_bytes (ask.List path after) = byte_bytes 6 ++ text_bytes path ++ text_bytes after
meta_req_bytes (ask.Stat path) = byte_bytes 7 ++ text_bytes path
meta_req_bytes (ask.Chmod path mode) = byte_bytes 8 ++ text_bytes path ++ half_bytes mode
meta_req_bytes (ask.Grant path want) = byte_bytes 9 ++ text_bytes path ++ byte_bytes want
meta_req_bytes (ask.Report capability mark) = byte_bytes 10 ++ capability_bytes capability ++ mark_bytes mark
meta_req_bytes (ask.Change path nodes) = byte_bytes 11 ++ text_bytes path ++ members_bytes nodes
meta_req_bytes (ask.Locate path) = byte_bytes 12 ++ text_bytes path

unfoldable pub mkdir_at : Field MetaReq
mkdir_at = made (λ f. ask.Mkdir f.0 f.1) (text_at 65535 & half_at)

unfoldable pub create_at : Field MetaReq
create_at =
    made (λ f. ask.Create f.0.0.0.0 f.0.0.0.1 f.0.0.1 f.0.1 f.1)
    (text_at 65535 & half_at & kind_at & within 1 9 byte_at & stripe_at)

unfoldable pub rename_at : Field MetaReq
rename_at = made (λ f. ask.Rename f.0 f.1) (text_at 65535 & text_at 65535)

unfoldable pub unlink_at : Field MetaReq
unlink_at = made ask.Unlink (text_at 65535)

unfoldable pub rmdir_at : Field MetaReq
rmdir_at = made ask.Rmdir (text_at 65535)

unfoldable pub list_names_at : Field MetaReq
list_names_at = made (λ f. ask.List f.0 f.1) (text_at 65535 & text_at 65535)

unfoldable pub stat_at : Field MetaReq
stat_at = made ask.Stat (text_at 65535)

unfoldable pub chmod_at : Field MetaReq
chmod_at = made (λ f. ask.Chmod f.0 f.1) (text_at 65535 & half_at)

unfoldable pub grant_at : Field MetaReq
grant_at = made (λ f. ask.Grant f.0 f.1) (text_at 65535 & within 1 3 byte_at)

unfoldable pub size_report_at : Field MetaReq
size_report_at = made (λ f. ask.Report f.0 f.1) (capability_at & mark_at)

unfoldable pub change_at : Field MetaReq
change_at = made (λ f. ask.Change f.0 f.1) (text_at 65535 & members_at)

unfoldable pub locate_at : Field MetaReq
locate_at = made ask.Locate (text_at 65535)

unfoldable pub meta_req_arms : ℕ → Field MetaReq
meta_req_arms tag bytes =
    if tag == 1 then mkdir_at bytes
    else if tag == 2 then create_at bytes
    else if tag == 3 then rename_at bytes
    else if tag == 4 then unlink_at bytes
    else if tag == 5 then rmdir_at bytes
    else if tag == 6 then list_names_at bytes
    else if tag == 7 then stat_at bytes
    else if tag == 8 then chmod_at bytes
    else if tag == 9 then grant_at bytes
    else if tag == 10 then size_report_at bytes
    else if tag == 11 then change_at bytes
    else if tag == 12 then locate_at bytes
    else Err fault.Unfit

unfoldable pub meta_req_at : Field MetaReq
meta_req_at = tagged meta_req_arms
