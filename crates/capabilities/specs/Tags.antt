-- the tag of a message under a key: HMAC-SHA-256 (RFC 2104 and FIPS 198-1, with the hash of FIPS 180-4)
use Rattle.std.specs.Prelude.{ℕ, Bool, ◌-◌, List, ◌++◌, length, map, replicate, bit_xor}
use Rattle.std.specs.Str.{bytes_eq}
use Rattle.sha2.specs.Sha256.{sha256}
use Rattle.xt_messages.specs.declared.file.Capability.{Capability}
use Rattle.xt_wire.specs.FileFields.{sealed_bytes}

-- a key of at most 64 bytes, filled with zeros to a block of 64, with each byte changed by a pad
abbrev pub masked : ℕ → List ℕ → List ℕ
masked pad key = map (λ byte. bit_xor byte pad) (key ++ replicate (64 - length key) 0)

-- the inner hash is of the key under the pad 36.. and the message, the outer one of the key under the pad 5C.. and the inner hash
unfoldable pub hmac_of : List ℕ → List ℕ → List ℕ
hmac_of key message = sha256 (masked 0x5C key ++ sha256 (masked 0x36 key ++ message))

-- the tag of a capability: that of all its fields before the tag, as they are written
abbrev pub tag_of : List ℕ → Capability → List ℕ
tag_of key capability = hmac_of key (sealed_bytes capability)

-- a capability with its tag
abbrev pub sealed : List ℕ → Capability → Capability
sealed key capability = record capability { tag = tag_of key capability }

-- whether a capability has its tag
abbrev pub is_sealed : List ℕ → Capability → Bool
is_sealed key capability = bytes_eq capability.tag (tag_of key capability)
