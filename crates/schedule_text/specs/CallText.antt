-- a file and a client's call in words, as a schedule and a trace have them
use Rattle.std.specs.Prelude.{ℕ, List, [], ◌∷◌, codes}
use Rattle.std.specs.Fmt.{decimal}
use Rattle.xt_messages.specs.declared.file.Location.{Location}
use Rattle.xt_messages.specs.declared.event.Call.{Call}
use Rattle.xt_messages.specs.declared.event.Call.TheVariants as call
use Rattle.server_text.specs.Words.{hex_of, node_words}
use Rattle.server_text.specs.RequestText.{kind_word, meta_words, registry_words}
use Rattle.server_text.specs.Spellable.{IsSpellableRequest, IsSpellableWish}

-- F rep|str STRIPE NODE .. NODE
abbrev pub file_words : ℕ → Location → List (List ℕ)
file_words number location =
    decimal number ∷ kind_word location.kind ∷ decimal location.stripe ∷ node_words location.members

-- the first word of a call
unfoldable pub call_name : Call → List ℕ
call_name (call.Read file object at len) = codes "read"
call_name (call.Write file object at bytes) = codes "write"
call_name (call.Truncate file size epoch) = codes "truncate"
call_name (call.Meta user group wanted) = codes "meta"
call_name (call.Report user group file) = codes "meta"
call_name (call.Registry wanted) = codes "registry"

-- the other words of a call: F OBJ AT LEN, F OBJ AT HEX, F SIZE EPOCH, USER GROUP VERB ARGS, VERB ARGS
unfoldable pub call_words : Call → List (List ℕ)
call_words (call.Read file object at len) = decimal file ∷ decimal object ∷ decimal at ∷ decimal len ∷ []
call_words (call.Write file object at bytes) = decimal file ∷ decimal object ∷ decimal at ∷ hex_of bytes ∷ []
call_words (call.Truncate file size epoch) = decimal file ∷ decimal size ∷ decimal epoch ∷ []
call_words (call.Meta user group wanted) = decimal user ∷ decimal group ∷ meta_words wanted
call_words (call.Report user group file) = decimal user ∷ decimal group ∷ codes "report" ∷ decimal file ∷ []
call_words (call.Registry wanted) = registry_words wanted

-- a call that has words, of those that fit
abbrev pub IsSpellableCall : Call → Type 0
IsSpellableCall (call.Read file object at len) = Unit {0}
IsSpellableCall (call.Write file object at bytes) = Unit {0}
IsSpellableCall (call.Truncate file size epoch) = Unit {0}
IsSpellableCall (call.Meta user group wanted) = IsSpellableRequest wanted
IsSpellableCall (call.Report user group file) = Unit {0}
IsSpellableCall (call.Registry wanted) = IsSpellableWish wanted
