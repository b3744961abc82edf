-- a tag is bytes, and so many
use Rattle.std.proofs.Common.{ℕ, zero, suc, List}
use Rattle.std.specs.Prelude.{slice_index}
use Rattle.std.specs.Int.{to_be_bytes, w32}
use Rattle.sha2.specs.Sha256.{digest_bytes, sha256}
use Rattle.sha2.proofs.Facts256.{length-sha256}
use Rattle.xt_base.specs.FieldLimits.{FitsTag}
use Rattle.xt_messages.specs.declared.file.Capability.{Capability}
use Rattle.capabilities.specs.Tags.{hmac_of, tag_of}
use Rattle.client_limits.proofs.Bytes.{Each, are_bytes, each-append, each-word}

each-digest : (h : List ℕ) (n : ℕ) → Each (digest_bytes h n)
unfolding digest_bytes
each-digest h zero = tt
each-digest h (suc n) = each-append (digest_bytes h n) (to_be_bytes w32 (slice_index h n)) (each-digest h n) (each-word (slice_index h n))

each-sha256 : (m : List ℕ) → Each (sha256 m)
unfolding sha256
each-sha256 m = each-digest _ 8

pub tag_fits : (key : List ℕ) (capability : Capability) → FitsTag (tag_of key capability)
unfolding hmac_of
tag_fits key capability = record { all = are_bytes _ (each-sha256 _); whole = length-sha256 _ }
