-- what the metadata server and the directory service are asked, in words
use Rattle.std.specs.Prelude.{ℕ, List, [], ◌∷◌, ◌==◌, if◌then◌else◌, codes}
use Rattle.std.specs.Fmt.{decimal}
use Rattle.xt_messages.specs.declared.file.Kind.{Kind}
use Rattle.xt_messages.specs.declared.file.Kind.TheVariants.{Replicated, Striped}
use Rattle.xt_messages.specs.declared.meta.MetaReq.{MetaReq}
use Rattle.xt_messages.specs.declared.meta.MetaReq.TheVariants as request
use Rattle.xt_messages.specs.declared.registry.RegistryReq.{RegistryReq}
use Rattle.xt_messages.specs.declared.registry.RegistryReq.TheVariants as row
use Rattle.server_text.specs.Words.{mode_word, node_words}

-- rep where each OSD has all objects, str where they are striped
abbrev pub kind_word : Kind → List ℕ
kind_word Replicated = codes "rep"
kind_word Striped = codes "str"

-- a name, or a dash for the empty one
abbrev pub name_or_dash : List ℕ → List ℕ
name_or_dash [] = codes "-"
name_or_dash (byte ∷ bytes) = byte ∷ bytes

-- read, write or truncate; a number that stands for none of them is written as it is
abbrev pub want_word : ℕ → List ℕ
want_word want =
    if want == 1 then codes "read"
    else if want == 2 then codes "write"
    else if want == 3 then codes "truncate"
    else decimal want

-- VERB ARGS of a request to the MRC
unfoldable pub meta_words : MetaReq → List (List ℕ)
meta_words (request.Mkdir path mode) = codes "mkdir" ∷ path ∷ mode_word mode ∷ []
meta_words (request.Create path mode kind n stripe) =
    codes "create" ∷ path ∷ mode_word mode ∷ kind_word kind ∷ decimal n ∷ decimal stripe ∷ []
meta_words (request.Rename from to) = codes "rename" ∷ from ∷ to ∷ []
meta_words (request.Unlink path) = codes "unlink" ∷ path ∷ []
meta_words (request.Rmdir path) = codes "rmdir" ∷ path ∷ []
meta_words (request.List path after) = codes "list" ∷ path ∷ name_or_dash after ∷ []
meta_words (request.Stat path) = codes "stat" ∷ path ∷ []
meta_words (request.Chmod path mode) = codes "chmod" ∷ path ∷ mode_word mode ∷ []
meta_words (request.Grant path want) = codes "grant" ∷ path ∷ want_word want ∷ []
meta_words (request.Report capability mark) = codes "report" ∷ decimal capability.file.number ∷ []
meta_words (request.Change path nodes) = codes "change" ∷ path ∷ node_words nodes
meta_words (request.Locate path) = codes "locate" ∷ path ∷ []

-- VERB ARGS of a request to the DIR
unfoldable pub registry_words : RegistryReq → List (List ℕ)
registry_words (row.Set node kind address expected) =
    codes "set" ∷ decimal node.0 ∷ decimal kind ∷ address ∷ decimal expected ∷ []
registry_words (row.Get node) = codes "get" ∷ decimal node.0 ∷ []
registry_words (row.List kind after) = codes "list" ∷ decimal kind ∷ decimal after.0 ∷ []
registry_words (row.Remove node expected) = codes "remove" ∷ decimal node.0 ∷ decimal expected ∷ []
