-- the messages of a node to itself, first in first out
use Rattle.std.specs.Prelude.{◌≡◌, Option, Some, None, List, [], ◌∷◌}
use Rattle.xt_messages.specs.declared.message.Msg.{Msg}

-- the first one is taken, if there is one
abbrev pub IsNext : List Msg → List Msg → Option Msg → Type 0
IsNext old new None = (old ≡ []) × (new ≡ [])
IsNext old new (Some message) = old ≡ message ∷ new
