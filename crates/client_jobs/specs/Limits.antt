-- whether a call is within the limits of its message, and how a command ends whose next call isn't
use Rattle.std.specs.Prelude.{ℕ, ◌&&◌, ◌%◌, ◌==◌, nat_lt, nat_le, Bool, true, false, List, length}
use Rattle.std.specs.List.{list_all}
use Rattle.xt_base.specs.MemberList.{are_members}
use Rattle.xt_base.specs.declared.ids.NodeId.{NodeId}
use Rattle.xt_messages.specs.declared.event.Call.{Call}
use Rattle.xt_messages.specs.declared.event.Call.TheVariants as call
use Rattle.xt_messages.specs.declared.meta.MetaReq.{MetaReq}
use Rattle.xt_messages.specs.declared.meta.MetaReq.TheVariants as meta
use Rattle.xt_messages.specs.declared.registry.RegistryReq.{RegistryReq}
use Rattle.xt_messages.specs.declared.registry.RegistryReq.TheVariants as registry
use Rattle.xt_messages.specs.declared.status.AskRefusal.TheVariants as ask
use Rattle.xt_messages.specs.declared.status.Refusal.TheVariants as refusal
use Rattle.xt_messages.specs.declared.status.Status.{Status}
use Rattle.xt_messages.specs.declared.status.Status.TheVariants as status

abbrev pub is_path : List ℕ → Bool
is_path path = nat_le (length path) 65535

abbrev pub is_name : List ℕ → Bool
is_name name = nat_le (length name) 255

abbrev pub is_stripe : ℕ → Bool
is_stripe stripe = nat_le 1024 stripe && (nat_le stripe 131072 && stripe % 1024 == 0)

-- so many bytes, of an object with a number up to which commands go; a message has room for greater ones
abbrev pub is_piece : ℕ → ℕ → Bool
is_piece object count = nat_lt object 4294967296 && (nat_le 1 count && nat_le count 131072)

abbrev pub are_nodes : List NodeId → Bool
are_nodes nodes = list_all (λ node. nat_lt node.0 4294967296) nodes

-- one to nine different nodes
abbrev pub are_listed : List NodeId → Bool
are_listed nodes = are_nodes nodes && are_members nodes

abbrev pub fits_meta : MetaReq → Bool
fits_meta (meta.Mkdir path mode) = is_path path
fits_meta (meta.Create path mode kind n stripe) = is_path path && (nat_le 1 n && (nat_le n 9 && is_stripe stripe))
fits_meta (meta.Rename from to) = is_path from && is_path to
fits_meta (meta.Unlink path) = is_path path
fits_meta (meta.Rmdir path) = is_path path
fits_meta (meta.List path after) = is_path path && is_path after
fits_meta (meta.Stat path) = is_path path
fits_meta (meta.Chmod path mode) = is_path path
fits_meta (meta.Grant path want) = is_path path && (nat_le 1 want && nat_le want 3)
fits_meta (meta.Report capability mark) = false
fits_meta (meta.Change path nodes) = is_path path && are_listed nodes
fits_meta (meta.Locate path) = is_path path

abbrev pub fits_registry : RegistryReq → Bool
fits_registry (registry.Set node kind address expected) = is_name address && nat_lt expected 4611686018427387904
fits_registry (registry.Get node) = true
fits_registry (registry.List kind after) = true
fits_registry (registry.Remove node expected) = nat_lt expected 4611686018427387904

-- whether a message can hold the call
abbrev pub fits_call : Call → Bool
fits_call (call.Read file object at len) = is_piece object len
fits_call (call.Write file object at bytes) = is_piece object (length bytes)
fits_call (call.Truncate file size epoch) = true
fits_call (call.Meta user group asked) = fits_meta asked
fits_call (call.Report user group file) = true
fits_call (call.Registry asked) = fits_registry asked

-- A piece after the last object up to which commands go is too far. No other call of a command within its ranges comes to this.
abbrev pub unasked : Call → Status
unasked (call.Write file object at bytes) = status.Refused (refusal.Ask (ask.TooFar object))
unasked _ = status.Usage
