use Rattle.std.proofs.Common.{◌≡◌, ◌∙◌, ℕ, length, List, ◌++◌, drop, replicate, ap, subst, sym, arith, IsUtf8}
use Rattle.std.proofs.lemmas.List.{drop-replicate}
use Rattle.std.proofs.Math.Seq.{take-append_seam}
use Rattle.xt_base.specs.declared.address.Address.TheInside.{Inside}
use Rattle.xt_base.specs.AddressText.{IsPadded, padded, shown}
use Rattle.xt_base.proofs.address.Address.of.Goals as goal

-- the array that begins with this text and goes on with zeros
abbrev array_of : List ℕ → List ℕ → Inside
array_of text copied = record { bytes = copied ++ drop (length text) (replicate 64 0); count = length text }

-- it is the one that holds it
padded_array : (text : List ℕ) → padded (shown (array_of text text)) ≡ array_of text text
padded_array text =
    ap padded (take-append_seam text (drop (length text) (replicate 64 0)))
    ∙ ap (λ (zeros : List ℕ). let array : Inside = record { bytes = text ++ zeros; count = length text } in array) (sym (drop-replicate (length text) 64 0))

-- and it shows UTF-8
shown_utf8 : (text : List ℕ) → IsUtf8 text → ∥ IsUtf8 (shown (array_of text text)) ∥₁
shown_utf8 text utf8 = ∣ subst IsUtf8 (sym (take-append_seam text (drop (length text) (replicate 64 0)))) utf8 ∣₁

pub invariant_of-result : goal.invariant_of-result
invariant_of-result c =
    let text = c.args.text.now in
    subst (λ (copied : List ℕ). IsPadded (array_of text copied)) (sym (c.copy_from_slice.ensures.after ∙ c.as_bytes.ensures.value)) (omega arith, padded_array text, shown_utf8 text c.utf8.text)
