-- A payload that is in bytes after its gate.
use Rattle.std.proofs.Common.{◌≡◌, ℕ, ◌+◌, List, ◌∷◌, ◌++◌, length, take, drop, refl, sym, ◌∙◌, ap, arith, append_assoc, length-append}
use Rattle.std.proofs.lemmas.List.{take_at, drop_at}
use Rattle.byteorder.specs.Endian.{big_bytes}
use Rattle.xt_journal.specs.Placed.{Placed}
use Rattle.xt_journal.specs.Format.{open_gate}
use Rattle.xt_journal.specs.Parsed.{IsAt}

module _ (bytes : List ℕ) (p : Placed) (is : IsAt bytes p) where
  up_to_payload : List ℕ
  up_to_payload = is.front ++ open_gate ∷ big_bytes 4 (length p.bytes)

  size_to_payload : length up_to_payload ≡ p.gate + 5
  unfolding up_to_payload
  size_to_payload = omega (arith, is.place, length-append is.front (open_gate ∷ big_bytes 4 (length p.bytes)))

  parted : bytes ≡ up_to_payload ++ (p.bytes ++ is.later)
  unfolding up_to_payload
  parted =
      is.are ∙ ap (λ (l : List ℕ). is.front ++ open_gate ∷ l) (append_assoc (big_bytes 4 (length p.bytes)) p.bytes is.later)
      ∙ sym (append_assoc is.front (open_gate ∷ big_bytes 4 (length p.bytes)) (p.bytes ++ is.later))

  pub payload_there : take (length p.bytes) (drop (p.gate + 5) bytes) ≡ p.bytes
  payload_there =
      ap (λ (l : List ℕ). take (length p.bytes) (drop (p.gate + 5) l)) parted
      ∙ ap (take (length p.bytes)) (drop_at up_to_payload (p.bytes ++ is.later) (p.gate + 5) size_to_payload) ∙ take_at p.bytes is.later (length p.bytes) refl
