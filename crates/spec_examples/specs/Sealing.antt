-- tags of messages under keys, and uses of a capability
use Rattle.std.specs.Prelude.{ℕ, Bool, true, false, bit_xor, List, [], ◌∷◌, replicate, codes, Option, Some, None}
use Rattle.std.specs.Int.{bytes_high_first}
use Rattle.sha2.specs.Sha256.{first_words, schedule, rounds, compress, hash_after, digest_bytes, sha256}
use Rattle.xt_messages.specs.declared.file.Kind.TheVariants as kind
use Rattle.xt_messages.specs.declared.file.Capability.{Capability}
use Rattle.xt_messages.specs.declared.reply.Denial.{Denial}
use Rattle.xt_messages.specs.declared.reply.Denial.TheVariants as denial
use Rattle.xt_messages.specs.declared.message.Payload.TheVariants as payload
use Rattle.xt_fields.specs.BasicFields.{word_bytes, long_bytes}
use Rattle.capabilities.specs.Tags.{hmac_of, sealed}
use Rattle.capabilities.specs.Denials.{denial_of}
use Rattle.capabilities.specs.Stops.{is_stop}
use Rattle.spec_examples.specs.Values.{file}

-- opens what makes a tag
unfoldable pub tags : Unit {0}
unfolding first_words schedule rounds compress hash_after digest_bytes sha256 hmac_of word_bytes long_bytes
tags = tt

-- keys, messages and tags; the first two are of RFC 4231
abbrev pub published : List (List ℕ × List ℕ × List ℕ)
published = (
  codes "Jefe",
  codes "what do ya want for nothing?",
  bytes_high_first 32 0x5bdcc146bf60754e6a042426089575c75a003f089d2739839dec58b964ec3843,
)
    ∷ (
      replicate 20 11,
      codes "Hi There",
      bytes_high_first 32 0xb0344c61d8db38535ca8afceaf0bf12b881dc200c9833da726e9376c2e32cff7,
    )
    ∷ (
      replicate 20 170,
      replicate 50 221,
      bytes_high_first 32 0x773ea91e36800e46854db8ebd09181a72959098b3ef8c122d9635514ced565fe,
    )
    ∷ []

abbrev key : List ℕ
key = replicate 32 0

-- a capability of file 7 up to the clock 5000, without a tag
abbrev capability : ℕ → Capability
capability mode =
    record {
      file = file 7;
      mode = mode;
      expiry = 5000;
      epoch = 2;
      location =
          record {
            version = 1;
            kind = kind.Replicated;
            stripe = 4096;
            members = record { 0 = 1 } ∷ record { 0 = 2 } ∷ [];
          };
      tag = [];
    }

-- one for reading, and one for writing too
abbrev reader : Capability
reader = sealed key (capability 1)

abbrev writer : Capability
writer = sealed key (capability 2)

-- a tag whose first byte is changed
abbrev pub changed : ℕ → List ℕ → List ℕ
changed by [] = []
changed by (byte ∷ bytes) = bit_xor byte by ∷ bytes

-- a capability, what changes the tag's first byte, the asked file, the clock, whether it is a write, and what denies it
abbrev pub Use : Type 0
Use = Capability × ℕ × ℕ × ℕ × Bool × Option Denial

abbrev pub denied : Use → Option Denial
denied row = denial_of key (record row.0 { tag = changed row.1 row.0.tag }) (file row.2) row.3 row.4

abbrev pub uses : List Use
uses =
    (writer, 0, 7, 5000, true, None)
    ∷ (writer, 0, 7, 5001, true, Some denial.Expired)
    ∷ (writer, 1, 7, 5000, true, Some denial.Tag)
    ∷ (reader, 0, 7, 5000, true, Some denial.Mode)
    ∷ (reader, 0, 7, 5000, false, None)
    ∷ (writer, 0, 8, 5000, false, Some denial.File)
    ∷ (reader, 0, 8, 5001, true, Some denial.File)
    ∷ (reader, 0, 7, 5001, true, Some denial.Expired)
    ∷ (reader, 128, 8, 5001, true, Some denial.Tag)
    ∷ []

-- whether a Stop with the tag of this word ends a node
abbrev pub stops : List ℕ → Bool
stops word = is_stop key (payload.Stop (hmac_of key word))
