-- how a request to the metadata server or the directory service is read, loosely, of what follows its verb
use Rattle.std.specs.Prelude.{ℕ, if◌then◌else◌, List, [], Option, Some, None, codes}
use Rattle.std.specs.Str.{bytes_eq}
use Rattle.xt_base.specs.declared.ids.NodeId.{NodeId}
use Rattle.xt_messages.specs.declared.event.Call.{Call}
use Rattle.xt_messages.specs.declared.event.Call.TheVariants as call
use Rattle.xt_messages.specs.declared.file.Kind.{Kind}
use Rattle.xt_messages.specs.declared.file.Kind.TheVariants.{Replicated, Striped}
use Rattle.xt_messages.specs.declared.meta.MetaReq.{MetaReq}
use Rattle.xt_messages.specs.declared.meta.MetaReq.TheVariants as request
use Rattle.xt_messages.specs.declared.registry.RegistryReq.{RegistryReq}
use Rattle.xt_messages.specs.declared.registry.RegistryReq.TheVariants as row
use Rattle.server_text.specs.Reading.{first_word, other_words, number_at, mode_in, text_in, node_of, members_at}

abbrev pub kind_in : List ℕ → Kind
kind_in word = if bytes_eq word (codes "str") then Striped else Replicated

abbrev pub want_in : List ℕ → ℕ
want_in word =
    if bytes_eq word (codes "read") then 1
    else if bytes_eq word (codes "write") then 2
    else 3

-- the name after which a list goes on; none for a dash
abbrev pub after_in : List ℕ → List ℕ
after_in word = if bytes_eq word (codes "-") then [] else text_in word

-- Requests to the MRC.

unfoldable pub mkdir_in : List ℕ → MetaReq
mkdir_in words = request.Mkdir (text_in (first_word words)) (mode_in (first_word (other_words words)))

unfoldable pub create_in : List ℕ → MetaReq
create_in words =
    let mode = other_words words in
    let kind = other_words mode in
    let n = number_at 8 (other_words kind) in
    let stripe = number_at 32 n.1 in
    request.Create (text_in (first_word words)) (mode_in (first_word mode)) (kind_in (first_word kind)) n.0 stripe.0

unfoldable pub rename_in : List ℕ → MetaReq
rename_in words = request.Rename (text_in (first_word words)) (text_in (first_word (other_words words)))

unfoldable pub list_in : List ℕ → MetaReq
list_in words = request.List (text_in (first_word words)) (after_in (first_word (other_words words)))

unfoldable pub chmod_in : List ℕ → MetaReq
chmod_in words = request.Chmod (text_in (first_word words)) (mode_in (first_word (other_words words)))

unfoldable pub grant_in : List ℕ → MetaReq
grant_in words = request.Grant (text_in (first_word words)) (want_in (first_word (other_words words)))

-- a new list, where the nodes are members; else what isn't spelled so
abbrev pub changed_to : List ℕ → Option (List NodeId) → MetaReq
changed_to path None = request.Locate path
changed_to path (Some nodes) = request.Change path nodes

unfoldable pub change_in : List ℕ → MetaReq
change_in words = changed_to (text_in (first_word words)) (members_at (other_words words))

-- the request of this verb, of those that have a path alone
unfoldable pub path_request_in : List ℕ → List ℕ → MetaReq
path_request_in verb words =
    if bytes_eq verb (codes "unlink") then request.Unlink (text_in (first_word words))
    else if bytes_eq verb (codes "rmdir") then request.Rmdir (text_in (first_word words))
    else if bytes_eq verb (codes "locate") then request.Locate (text_in (first_word words))
    else request.Stat (text_in (first_word words))

-- the request of this verb, of all but a report
unfoldable pub meta_request_in : List ℕ → List ℕ → MetaReq
meta_request_in verb words =
    if bytes_eq verb (codes "mkdir") then mkdir_in words
    else if bytes_eq verb (codes "create") then create_in words
    else if bytes_eq verb (codes "rename") then rename_in words
    else if bytes_eq verb (codes "list") then list_in words
    else if bytes_eq verb (codes "chmod") then chmod_in words
    else if bytes_eq verb (codes "grant") then grant_in words
    else if bytes_eq verb (codes "change") then change_in words
    else path_request_in verb words

-- what a user asks of the MRC: a report is a call of its own
unfoldable pub asked_in : ℕ → ℕ → List ℕ → List ℕ → Call
asked_in user group verb words =
    if bytes_eq verb (codes "report") then (
    let file = number_at 64 words in
    call.Report user group file.0)
    else call.Meta user group (meta_request_in verb words)

-- USER GROUP VERB ARGS
unfoldable pub meta_call_in : List ℕ → Call
meta_call_in words =
    let user = number_at 32 words in
    let group = number_at 32 user.1 in
    asked_in user.0 group.0 (first_word group.1) (other_words group.1)

-- Requests to the DIR.

unfoldable pub set_in : List ℕ → RegistryReq
set_in words =
    let node = number_at 32 words in
    let kind = number_at 8 node.1 in
    let expected = number_at 64 (other_words kind.1) in
    row.Set (node_of node.0) kind.0 (text_in (first_word kind.1)) expected.0

unfoldable pub get_in : List ℕ → RegistryReq
get_in words =
    let node = number_at 32 words in
    row.Get (node_of node.0)

unfoldable pub rows_after_in : List ℕ → RegistryReq
rows_after_in words =
    let kind = number_at 8 words in
    let after = number_at 32 kind.1 in
    row.List kind.0 (node_of after.0)

unfoldable pub remove_in : List ℕ → RegistryReq
remove_in words =
    let node = number_at 32 words in
    let expected = number_at 64 node.1 in
    row.Remove (node_of node.0) expected.0

unfoldable pub registry_request_in : List ℕ → List ℕ → RegistryReq
registry_request_in verb words =
    if bytes_eq verb (codes "set") then set_in words
    else if bytes_eq verb (codes "get") then get_in words
    else if bytes_eq verb (codes "list") then rows_after_in words
    else remove_in words

-- VERB ARGS
unfoldable pub registry_call_in : List ℕ → Call
registry_call_in words = call.Registry (registry_request_in (first_word words) (other_words words))
