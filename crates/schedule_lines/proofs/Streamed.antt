-- what was taken and put, piece by piece
use Rattle.std.proofs.Common.{◌≡◌, ◌∙◌, ℕ, MatchOption, subst, Option, Some, None, List, [], ◌∷◌, ◌++◌, refl, sym, ap, append_assoc, append-nil}
use Rattle.node_links.specs.Streams.{Takes, IsAtEnd, Puts}

-- nothing was taken
pub Takes-nothing : (left : Option (List ℕ)) → Takes left left []
Takes-nothing None = refl
Takes-nothing (Some left) = (left, refl, refl)

-- what was taken from what isn't known, and from what is
Takes-told : (c : Option (List ℕ)) (a b : List ℕ) (rest xs ys : List ℕ) → a ≡ xs ++ rest → Some b ≡ Some rest → Takes (Some b) c ys → Takes (Some a) c (xs ++ ys)
Takes-told c a b rest xs ys first same second =
    let is_rest : b ≡ rest = cc in
    let parts : b ≡ ys ++ second.0 = second.1 in
    (second.0, first ∙ ap (λ (r : List ℕ). xs ++ r) (sym is_rest ∙ parts) ∙ sym (append_assoc xs ys second.0), second.2)

-- what was taken in two goes
pub Takes-append : (a b c : Option (List ℕ)) (xs ys : List ℕ) → Takes a b xs → Takes b c ys → Takes a c (xs ++ ys)
Takes-append None None c xs ys first second = second
Takes-append None (Some b) c xs ys first second = cc
Takes-append (Some a) None c xs ys first second = absurd (let wrong : None ≡ Some first.0 = first.2 in cc)
Takes-append (Some a) (Some b) c xs ys first second = Takes-told c a b first.0 xs ys first.1 first.2 second

-- where nothing was left, nothing is left
IsAtEnd-after : (a b : Option (List ℕ)) → Takes a b [] → IsAtEnd a → IsAtEnd b
IsAtEnd-after None None taken end = tt
IsAtEnd-after None (Some b) taken end = absurd (let wrong : Some b ≡ None = taken in cc)
IsAtEnd-after (Some a) None taken end = absurd (let wrong : None ≡ Some taken.0 = taken.2 in cc)
IsAtEnd-after (Some a) (Some b) taken end = let same : Some b ≡ Some taken.0 = taken.2 in let parts : a ≡ [] ++ taken.0 = taken.1 in cc

-- the byte that was taken, where one was
pub byte_taken : (a b : Option (List ℕ)) (found : Option ℕ) (byte : ℕ) → found ≡ Some byte → MatchOption found (IsAtEnd a × Takes a b []) (λ x. Takes a b (x ∷ [])) → Takes a b (byte ∷ [])
byte_taken a b found byte same taken =
    subst (λ (f : Option ℕ). MatchOption f (IsAtEnd a × Takes a b []) (λ x. Takes a b (x ∷ []))) same taken

-- no byte was taken, since none was left
pub none_taken : (a b : Option (List ℕ)) (found : Option ℕ) → found ≡ None → MatchOption found (IsAtEnd a × Takes a b []) (λ x. Takes a b (x ∷ [])) → Takes a b [] × IsAtEnd b
none_taken a b found same taken =
    let end = subst (λ (f : Option ℕ). MatchOption f (IsAtEnd a × Takes a b []) (λ x. Takes a b (x ∷ []))) same taken in
    (end.1, IsAtEnd-after a b end.1 end.0)

-- nothing was put
pub Puts-nothing : (held : Option (List ℕ)) → Puts held held []
Puts-nothing None = refl
Puts-nothing (Some held) = ap Some (sym (append-nil held))

-- what was put in two goes
pub Puts-append : (a b c : Option (List ℕ)) (xs ys : List ℕ) → Puts a b xs → Puts b c ys → Puts a c (xs ++ ys)
Puts-append None None c xs ys first second = second
Puts-append None (Some b) c xs ys first second = cc
Puts-append (Some a) None c xs ys first second = absurd (let wrong : None ≡ Some (a ++ xs) = first in cc)
Puts-append (Some a) (Some b) c xs ys first second =
    let same : b ≡ a ++ xs = (let e : Some b ≡ Some (a ++ xs) = first in cc) in
    second ∙ ap Some (ap (λ (h : List ℕ). h ++ ys) same ∙ append_assoc a xs ys)
