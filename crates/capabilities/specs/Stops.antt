-- which message ends a served node
use Rattle.std.specs.Prelude.{ℕ, Bool, false, List, [], ◌∷◌}
use Rattle.std.specs.Str.{bytes_eq}
use Rattle.xt_messages.specs.declared.message.Payload.{Payload}
use Rattle.xt_messages.specs.declared.message.Payload.TheVariants as payload
use Rattle.capabilities.specs.Tags.{hmac_of}

-- the word whose tag ends a node: the four bytes of 'stop'
abbrev pub stop_word : List ℕ
stop_word = 115 ∷ 116 ∷ 111 ∷ 112 ∷ []

-- a Stop with the right tag ends a node, and nothing else does
abbrev pub is_stop : List ℕ → Payload → Bool
is_stop key (payload.Stop tag) = bytes_eq tag (hmac_of key stop_word)
is_stop key _ = false
