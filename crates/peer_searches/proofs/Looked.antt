-- one step of the search for a version that isn't known
use Rattle.std.proofs.Common.{◌≡◌, ◌∙◌, ℕ, ◌+◌, ◌<◌, ◌≤◌, Bool, true, false, cond, List, [], ◌∷◌, ◌++◌, length, get_or, take, drop, None, Some, ap, sym, refl, arith, drop-cons, add-one}
use Rattle.std.specs.Prelude.{Option, not, slice_get, find}
use Rattle.std.specs.Option.{option_or}
use Rattle.std.proofs.lemmas.List.{take_all, take_more, take-append-drop}
use Rattle.std.proofs.lemmas.List.Folds.{find-append}
use Rattle.std.proofs.lemmas.Option.{slice_get-get_or, slice_get_past}
use Rattle.xt_messages.specs.declared.file.ObjectVersion.{ObjectVersion}
use Rattle.xt_protocol.specs.Stamps.{has_version}
use Rattle.xt_protocol.specs.ReplicaRows.{first_missing}

abbrev unknown_to : List ObjectVersion → ObjectVersion → Bool
unknown_to known v = not (has_version known v)

module _ (known versions : List ObjectVersion) (i : ℕ) (d : ObjectVersion) (lt : i < length versions) (here : first_missing known (take i versions) ≡ None) where
  -- the search of a list goes on past its front, of which each is known
  past : (rest : List ObjectVersion) → first_missing known (take i versions ++ rest) ≡ first_missing known rest
  past rest = find-append (unknown_to known) (take i versions) rest ∙ ap (λ (o : Option ObjectVersion). option_or o (first_missing known rest)) here

  -- this one is known too
  pub known_here : has_version known (get_or versions i d) ≡ true → first_missing known (take (i + 1) versions) ≡ None
  known_here has =
      let v = get_or versions i d in
      ap (first_missing known) (take_more versions i d lt) ∙ past (v ∷ []) ∙ ap (λ (b : Bool). cond (not b) (Some v) None) has

  -- this one isn't known
  pub unknown_here : has_version known (get_or versions i d) ≡ false → slice_get versions i ≡ first_missing known versions
  unknown_here lacks =
      let v = get_or versions i d in
      let rest = drop (i + 1) versions in
      let parts : versions ≡ take i versions ++ v ∷ rest =
      sym (take-append-drop i versions) ∙ ap (λ (vs : List ObjectVersion). take i versions ++ vs) (rw add-one (drop-cons versions i d lt)) in
      slice_get-get_or versions i d lt
      ∙ sym (ap (first_missing known) parts ∙ past (v ∷ rest) ∙ ap (λ (b : Bool). cond (not b) (Some v) (first_missing known rest)) lacks)

-- each one is known
pub all_known : (known versions : List ObjectVersion) (i : ℕ) → length versions ≤ i → first_missing known (take i versions) ≡ None → slice_get versions (length versions) ≡ first_missing known versions
all_known known versions i le here = slice_get_past versions (length versions) (omega arith) ∙ sym (sym (ap (first_missing known) (take_all i versions le)) ∙ here)
