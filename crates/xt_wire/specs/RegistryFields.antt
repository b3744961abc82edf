-- requests to the directory service as fields
use Rattle.std.specs.Prelude.{ℕ, List, ◌++◌, Err, ◌==◌, if◌then◌else◌}
use Rattle.xt_messages.specs.declared.registry.RegistryReq.{RegistryReq}
use Rattle.xt_messages.specs.declared.registry.RegistryReq.TheVariants as wish
use Rattle.xt_fields.specs.declared.fault.FieldErr.TheVariants as fault
use Rattle.xt_fields.specs.Reading.{Field, ◌&◌, made}
use Rattle.xt_fields.specs.BasicFields.{byte_bytes, long_bytes, text_bytes, byte_at, count_at, text_at, tagged}
use Rattle.xt_wire.specs.IdFields.{node_bytes, node_at}

abbrev pub registry_req_bytes : RegistryReq → List ℕ
registry_req_bytes (wish.Set node kind address expected) = byte_bytes 1 ++ node_bytes node ++ byte_bytes kind ++ text_bytes address ++ long_bytes expected
registry_req_bytes (wish.Get node) = byte_bytes 2 ++ node_bytes node
registry_req_bytes (wish.List kind after) = byte_bytes 3 ++ byte_bytes kind ++ node_bytes after
registry_req_bytes (wish.Remove node expected) = byte_bytes 4 ++ node_bytes node ++ long_bytes expected

unfoldable pub set_row_at : Field RegistryReq
set_row_at = made (λ f. wish.Set f.0.0.0 f.0.0.1 f.0.1 f.1) (node_at & byte_at & text_at 255 & count_at)

unfoldable pub get_row_at : Field RegistryReq
get_row_at = made wish.Get node_at

unfoldable pub list_rows_at : Field RegistryReq
list_rows_at = made (λ f. wish.List f.0 f.1) (byte_at & node_at)

unfoldable pub remove_row_at : Field RegistryReq
remove_row_at = made (λ f. wish.Remove f.0 f.1) (node_at & count_at)

unfoldable pub registry_req_arms : ℕ → Field RegistryReq
registry_req_arms tag bytes =
    if tag == 1 then set_row_at bytes
    else if tag == 2 then get_row_at bytes
    else if tag == 3 then list_rows_at bytes
    else if tag == 4 then remove_row_at bytes
    else Err fault.Unfit

unfoldable pub registry_req_at : Field RegistryReq
registry_req_at = tagged registry_req_arms
