-- replies of an OSD as fields
use Rattle.std.specs.Prelude.{ℕ, List, ◌++◌, Ok, Err, ◌==◌, if◌then◌else◌}
use Rattle.xt_base.specs.declared.TheConstants.{BODY}
use Rattle.xt_messages.specs.declared.reply.Denial.{Denial}
use Rattle.xt_messages.specs.declared.reply.Denial.TheVariants as denial
use Rattle.xt_messages.specs.declared.reply.Reply.{Reply}
use Rattle.xt_messages.specs.declared.reply.Reply.TheVariants as reply
use Rattle.xt_fields.specs.declared.fault.FieldErr.TheVariants as fault
use Rattle.xt_fields.specs.Reading.{Field, ◌&◌, made}
use Rattle.xt_fields.specs.BasicFields.{byte_bytes, word_bytes, long_bytes, octets_bytes, byte_at, long_at, count_at, octets_at, tagged}
use Rattle.xt_wire.specs.IdFields.{node_bytes, node_at, mark_bytes, mark_at}
use Rattle.xt_wire.specs.FileFields.{version_at}

abbrev pub denial_bytes : Denial → List ℕ
denial_bytes denial.Tag = byte_bytes 1
denial_bytes denial.File = byte_bytes 2
denial_bytes denial.Expired = byte_bytes 3
denial_bytes denial.Mode = byte_bytes 4
denial_bytes denial.List = byte_bytes 5
denial_bytes denial.Range = byte_bytes 6

unfoldable pub denial_arms : ℕ → Field Denial
denial_arms tag bytes =
    if tag == 1 then Ok (denial.Tag, bytes)
    else if tag == 2 then Ok (denial.File, bytes)
    else if tag == 3 then Ok (denial.Expired, bytes)
    else if tag == 4 then Ok (denial.Mode, bytes)
    else if tag == 5 then Ok (denial.List, bytes)
    else if tag == 6 then Ok (denial.Range, bytes)
    else Err fault.Unfit

unfoldable pub denial_at : Field Denial
denial_at = tagged denial_arms

abbrev pub reply_bytes : Reply → List ℕ
reply_bytes (reply.Ok count mark bytes) = byte_bytes 1 ++ long_bytes count ++ mark_bytes mark ++ octets_bytes bytes
reply_bytes (reply.NoLease end) = byte_bytes 2 ++ long_bytes end
reply_bytes (reply.NoMajority have need) = byte_bytes 3 ++ byte_bytes have ++ byte_bytes need
reply_bytes (reply.Elsewhere node end) = byte_bytes 4 ++ node_bytes node ++ long_bytes end
reply_bytes (reply.Denied rule) = byte_bytes 5 ++ denial_bytes rule
reply_bytes (reply.OldList version) = byte_bytes 6 ++ word_bytes version
reply_bytes (reply.OldEpoch epoch) = byte_bytes 7 ++ long_bytes epoch
reply_bytes (reply.TooFar object) = byte_bytes 8 ++ long_bytes object
reply_bytes reply.ClientsFull = byte_bytes 9

unfoldable pub ok_reply_at : Field Reply
ok_reply_at = made (λ f. reply.Ok f.0.0 f.0.1 f.1) (count_at & mark_at & octets_at BODY)

unfoldable pub no_lease_at : Field Reply
no_lease_at = made reply.NoLease long_at

unfoldable pub no_majority_at : Field Reply
no_majority_at = made (λ f. reply.NoMajority f.0 f.1) (byte_at & byte_at)

unfoldable pub elsewhere_at : Field Reply
elsewhere_at = made (λ f. reply.Elsewhere f.0 f.1) (node_at & long_at)

unfoldable pub denied_at : Field Reply
denied_at = made reply.Denied denial_at

unfoldable pub old_list_at : Field Reply
old_list_at = made reply.OldList version_at

unfoldable pub old_epoch_at : Field Reply
old_epoch_at = made reply.OldEpoch count_at

unfoldable pub too_far_at : Field Reply
too_far_at = made reply.TooFar long_at

unfoldable pub reply_arms : ℕ → Field Reply
reply_arms tag bytes =
    if tag == 1 then ok_reply_at bytes
    else if tag == 2 then no_lease_at bytes
    else if tag == 3 then no_majority_at bytes
    else if tag == 4 then elsewhere_at bytes
    else if tag == 5 then denied_at bytes
    else if tag == 6 then old_list_at bytes
    else if tag == 7 then old_epoch_at bytes
    else if tag == 8 then too_far_at bytes
    else if tag == 9 then Ok (reply.ClientsFull, bytes)
    else Err fault.Unfit

unfoldable pub reply_at : Field Reply
reply_at = tagged reply_arms
