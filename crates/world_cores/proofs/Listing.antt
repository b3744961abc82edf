-- the files that a metadata server has made, one after the other
use Rattle.std.proofs.Common.{◌≡◌, ◌∙◌, ℕ, List, [], ◌∷◌, ◌++◌, ◌+◌, Option, Some, None, suc, zero, refl, ap, sym, add-one, take, map}
use Rattle.std.specs.Option.{option_map}
use Rattle.std.specs.Prelude.{slice_get}
use Rattle.std.proofs.lemmas.Option.{slice_get-map}
use Rattle.server_rows.specs.declared.MadeFile.{MadeFile}
use Rattle.world_spec.specs.declared.PlacedFile.{PlacedFile}
use Rattle.world_spec.specs.Lines.{file_made}

-- with the next one there is one more; after the last one there is none
next_taken : {X : Type 0} (xs : List X) (place : ℕ) (x : X) → slice_get xs place ≡ Some x → take place xs ++ x ∷ [] ≡ take (suc place) xs
next_taken [] place x is = absurd (cc is)
next_taken {X} (y ∷ xs) zero x is = let same : y ≡ x = cc is in ap (λ (z : X). z ∷ []) (sym same)
next_taken {X} (y ∷ xs) (suc place) x is = ap (λ (l : List X). y ∷ l) (next_taken xs place x is)

none_left : {X : Type 0} (xs : List X) (place : ℕ) → slice_get xs place ≡ None → take place xs ≡ take (suc place) xs
none_left [] zero is = refl
none_left [] (suc place) is = refl
none_left (y ∷ xs) zero is = absurd (cc is)
none_left {X} (y ∷ xs) (suc place) is = ap (λ (l : List X). y ∷ l) (none_left xs place is)

-- the file at a place
abbrev pub which_at : List (ℕ × MadeFile) → ℕ → Option MadeFile
which_at made place = option_map (λ (e : ℕ × MadeFile). e.1) (slice_get made place)

abbrev placed : MadeFile → PlacedFile
placed which = record { file = which.file; location = which.location }

pub next_placed : (made : List (ℕ × MadeFile)) (place : ℕ) (which : MadeFile) → Some which ≡ which_at made place
    → take place (map file_made made) ++ placed which ∷ [] ≡ take (place + 1) (map file_made made)
next_placed made place which is = rw add-one (go (slice_get made place) refl is)
  where
    go : (o : Option (ℕ × MadeFile)) → slice_get made place ≡ o → Some which ≡ option_map (λ (e : ℕ × MadeFile). e.1) o
        → take place (map file_made made) ++ placed which ∷ [] ≡ take (suc place) (map file_made made)
    go None at none = absurd (cc none)
    go (Some e) at some =
        let same : which ≡ e.1 = cc some in
        ap (λ (w : MadeFile). take place (map file_made made) ++ placed w ∷ []) same
        ∙ next_taken (map file_made made) place (file_made e) (slice_get-map file_made made place ∙ ap (option_map file_made) at)

pub none_placed : (made : List (ℕ × MadeFile)) (place : ℕ) → None ≡ which_at made place → take place (map file_made made) ≡ take (place + 1) (map file_made made)
none_placed made place is = rw add-one (go (slice_get made place) refl is)
  where
    go : (o : Option (ℕ × MadeFile)) → slice_get made place ≡ o → None ≡ option_map (λ (e : ℕ × MadeFile). e.1) o
        → take place (map file_made made) ≡ take (suc place) (map file_made made)
    go None at none = none_left (map file_made made) place (slice_get-map file_made made place ∙ ap (option_map file_made) at)
    go (Some e) at some = absurd (cc some)
