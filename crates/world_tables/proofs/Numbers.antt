-- the numbers of files as a set: one more
use Rattle.std.proofs.Common.{◌≡◌, ◌∙◌, ℕ, suc, ◌+◌, ◌<◌, true, take, length, get_or, subst, List, [], ◌∷◌, ◌++◌, if◌then◌else◌, ◌==◌, sym, ap, cond, nat_cmp, is_some, arith}
use Rattle.std.proofs.lemmas.Grind.{common_steps}
use Rattle.std.proofs.Math.Seq.{take-suc}
use Rattle.std.specs.BTreeMap.{is_at}
use Rattle.std.specs.List.{list_any}
use Rattle.std.specs.BTreeSet.{BTreeSet, Updates}
use Rattle.world_spec.specs.declared.PlacedFile.{PlacedFile}
use Rattle.world_spec.specs.World.{file_in}
use Rattle.world_tables.specs.Places.{AreNumbers}
use Rattle.world_tables.proofs.Places.{key_is}

-- whether a number is that of a file, where one more file comes last
is_last : (f : PlacedFile) (number : ℕ) (fs : List PlacedFile) → is_some (file_in (fs ++ f ∷ []) number) ≡ (if f.file.number == number then true else is_some (file_in fs number))
unfolding file_in
is_last f number [] = grind (arith, common_steps)
is_last f number (x ∷ xs) = grind (arith, common_steps, is_last f number xs)

is_more : (files : List PlacedFile) (f : PlacedFile) (number : ℕ) → is_some (file_in (files ++ f ∷ []) number) ≡ cond (is_at (nat_cmp f.file.number) number) true (is_some (file_in files number))
is_more files f number = is_last f number files ∙ sym (key_is f.file.number number true (is_some (file_in files number)))

pub numbered : (files : List PlacedFile) (f : PlacedFile) (old new : BTreeSet ℕ) → AreNumbers files old → Updates nat_cmp old new f.file.number true → AreNumbers (files ++ f ∷ []) new
numbered files f old new are put number = put.0 number ∙ ap (cond (is_at (nat_cmp f.file.number) number) true) (are number) ∙ sym (is_more files f number)

-- none yet
pub none_numbered : (numbers : BTreeSet ℕ) → numbers.keys ≡ [] → AreNumbers [] numbers
unfolding file_in
none_numbered numbers none number = ap (list_any (is_at (nat_cmp number))) none

-- the next one of a list
pub next_numbered : (files : List PlacedFile) (i : ℕ) (f : PlacedFile) (old new : BTreeSet ℕ) → i < length files → f ≡ get_or files i f → AreNumbers (take i files) old → Updates nat_cmp old new f.file.number true → AreNumbers (take (i + 1) files) new
next_numbered files i f old new lt is are put =
    subst (λ (fs : List PlacedFile). AreNumbers fs new) (sym front) (numbered (take i files) f old new are put)
  where
    add_one : (n : ℕ) → n + 1 ≡ suc n
    add_one n = omega arith

    front : take (i + 1) files ≡ take i files ++ f ∷ []
    front = ap (λ (n : ℕ). take n files) (add_one i) ∙ take-suc files i f lt ∙ ap (λ (x : PlacedFile). take i files ++ x ∷ []) (sym is)
