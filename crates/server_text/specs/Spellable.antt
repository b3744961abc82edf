-- Which requests and answers have words, of those whose values fit: texts that are words, modes of three digits.
use Rattle.std.specs.Prelude.{ℕ, ◌≡◌, ◌≢◌, ◌<◌, ◌==◌, Bool, not, ◌&&◌, nat_lt, List, [], ◌∷◌, length, IsTrue, codes}
use Rattle.std.specs.List.{AllByRecursion, list_all}
use Rattle.xt_messages.specs.declared.meta.MetaReq.{MetaReq}
use Rattle.xt_messages.specs.declared.meta.MetaReq.TheVariants as request
use Rattle.xt_messages.specs.declared.registry.RegistryReq.{RegistryReq}
use Rattle.xt_messages.specs.declared.registry.RegistryReq.TheVariants as row
use Rattle.xt_messages.specs.declared.event.MetaOutcome.{MetaOutcome}
use Rattle.xt_messages.specs.declared.event.MetaOutcome.TheVariants as meta
use Rattle.xt_messages.specs.declared.event.RegistryOutcome.{RegistryOutcome}
use Rattle.xt_messages.specs.declared.event.RegistryOutcome.TheVariants as registry

-- ASCII, and neither a space nor a line feed
abbrev pub is_of_word : ℕ → Bool
is_of_word byte = nat_lt byte 128 && not (byte == 32) && not (byte == 10)

-- a word: one or more such bytes
pub record IsAsciiWord (text : List ℕ) : Type 0 where
  pub some : 0 < length text
  pub each : IsTrue (list_all is_of_word text)

-- the name after which a list goes on: none, or a word that isn't the dash that stands for none
abbrev pub IsAfter : List ℕ → Type 0
IsAfter [] = Unit {0}
IsAfter (byte ∷ bytes) = IsAsciiWord (byte ∷ bytes) × (byte ∷ bytes ≢ codes "-")

-- three octal digits
abbrev pub IsMode : ℕ → Type 0
IsMode mode = mode < 512

-- a request to the MRC; a report is written as a call of its own
abbrev pub IsSpellableRequest : MetaReq → Type 0
IsSpellableRequest (request.Mkdir path mode) = IsAsciiWord path × IsMode mode
IsSpellableRequest (request.Create path mode kind n stripe) = IsAsciiWord path × IsMode mode
IsSpellableRequest (request.Rename from to) = IsAsciiWord from × IsAsciiWord to
IsSpellableRequest (request.Unlink path) = IsAsciiWord path
IsSpellableRequest (request.Rmdir path) = IsAsciiWord path
IsSpellableRequest (request.List path after) = IsAsciiWord path × IsAfter after
IsSpellableRequest (request.Stat path) = IsAsciiWord path
IsSpellableRequest (request.Chmod path mode) = IsAsciiWord path × IsMode mode
IsSpellableRequest (request.Grant path want) = IsAsciiWord path
IsSpellableRequest (request.Report capability mark) = ⊥
IsSpellableRequest (request.Change path nodes) = IsAsciiWord path
IsSpellableRequest (request.Locate path) = IsAsciiWord path

-- a request to the DIR
abbrev pub IsSpellableWish : RegistryReq → Type 0
IsSpellableWish (row.Set node kind address expected) = IsAsciiWord address
IsSpellableWish (row.Get node) = Unit {0}
IsSpellableWish (row.List kind after) = Unit {0}
IsSpellableWish (row.Remove node expected) = Unit {0}

-- an answer of the MRC
abbrev pub IsSpellableMeta : MetaOutcome → Type 0
IsSpellableMeta meta.Done = Unit {0}
IsSpellableMeta (meta.Refused why) = Unit {0}
IsSpellableMeta (meta.Names names) = AllByRecursion IsAsciiWord names
IsSpellableMeta (meta.Row kind owner group mode mark) = IsMode mode
IsSpellableMeta (meta.Granted file mark) = Unit {0}
IsSpellableMeta (meta.Located version changing members) = Unit {0}

-- an answer of the DIR
abbrev pub IsSpellableRegistry : RegistryOutcome → Type 0
IsSpellableRegistry (registry.Done version) = Unit {0}
IsSpellableRegistry (registry.Changed version) = Unit {0}
IsSpellableRegistry registry.Absent = Unit {0}
IsSpellableRegistry (registry.Row row) = IsAsciiWord row.address
IsSpellableRegistry (registry.Rows nodes) = Unit {0}
