-- bytes that differ by no bit are the same
use Rattle.std.proofs.Common.{◌≡◌, ◌∙◌, ℕ, ◌+◌, ◌<◌, List, length, get_or, sym, ap, arith, below_more}
use Rattle.std.specs.Prelude.{bit_or, bit_xor, ◌==◌}
use Rattle.std.specs.Int.Bits.{or_zero_r, xor_self}
use Rattle.std.specs.Str.{bytes_eq}
use Rattle.std.specs.Bool.{Decides}
use Rattle.std.proofs.lemmas.Nat.{le_or_l, le_or_r}
use Rattle.std.proofs.lemmas.Nat.Bits.{same_from_bits, bit_at_xor, bit_at-lt, bit_at-zero}
use Rattle.std.proofs.lemmas.Bool.Decides.{Decides-eqb, same_from_decides}
use Rattle.std.proofs.lemmas.Slice.Eq.{bytes_eq-Decides}
use Rattle.std.proofs.lemmas.Grind.{same_number_lists}
use Rattle.std.specs.Int.{bit_at}

-- what is known of the bits that differ among the first bytes: where there are none these bytes are the same, and where the
-- lists are the same there are none
pub record Compares (one other : List ℕ) (count differing : ℕ) : Type 0 where
  pub alike : differing ≡ 0 → (k : ℕ) → k < count → get_or one k 0 ≡ get_or other k 0
  pub none : one ≡ other → differing ≡ 0

same_bytes : (a b : ℕ) → bit_xor a b ≡ 0 → a ≡ b
same_bytes a b none = same_from_bits a b (λ i. omega (arith, bit_at_xor a b i, bit_at-lt a i, bit_at-lt b i, bit_at-zero i, ap (λ n. bit_at n i) none))

pub compares_more : (one other : List ℕ) (i differing : ℕ) → Compares one other i differing → Compares one other (i + 1) (bit_or differing (bit_xor (get_or one i 0) (get_or other i 0)))
compares_more one other i differing so_far =
    let x = get_or one i 0 in
    let y = get_or other i 0 in
    record {
      alike = λ none.
          below_more _ _
          (so_far.alike (omega (arith, none, le_or_l differing (bit_xor x y))))
          (same_bytes x y (omega (arith, none, le_or_r differing (bit_xor x y))));
      none = λ same.
          ap (λ d. bit_or d (bit_xor x y)) (so_far.none same)
          ∙ ap (λ n. bit_or 0 (bit_xor x n)) (sym (ap (λ xs. get_or xs i 0) same))
          ∙ ap (λ n. bit_or 0 n) (xor_self x)
          ∙ or_zero_r 0;
    }

pub compares_all : (one other : List ℕ) (count differing : ℕ) → count ≡ length one → length one ≡ length other → Compares one other count differing → (differing == 0) ≡ bytes_eq one other
compares_all one other count differing whole lengths so_far =
    let decided : Decides (differing == 0) (one ≡ other) = ((λ e. same_number_lists one other lengths (λ k h. so_far.alike ((Decides-eqb differing 0).0 e) k (omega arith))), (λ same. (Decides-eqb differing 0).1 (so_far.none same))) in
    same_from_decides (differing == 0) (bytes_eq one other) decided (bytes_eq-Decides one other)
