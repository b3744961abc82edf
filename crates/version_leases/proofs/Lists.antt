-- what stands in lists, and the files of an OSD after a step of each
use Rattle.std.proofs.Common.{◌≡◌, ◌∙◌, inl, inr, List, [], ◌∷◌, ◌++◌, map, refl, ap, sym, subst, Bool, true, false}
use Rattle.std.specs.Prelude.{◌⊎◌, cond, filter, flat_map}
use Rattle.xt_base.specs.declared.ids.FileId.{FileId}
use Rattle.xt_messages.specs.declared.message.Msg.{Msg}
use Rattle.xt_protocol.specs.FileIds.{is_file}
use Rattle.xt_protocol.specs.LeaseRows.{Awake}
use Rattle.lease_safety.specs.State.{Has}
use Rattle.xt_protocol.specs.FileStates.{FileState}
use Rattle.xt_protocol.specs.OsdSteps.{file_at}

pub has_in : {A : Type 0} (x : A) (xs ys : List A) → Has x (xs ++ ys) → Has x xs ⊎ Has x ys
has_in x [] ys h = inr h
has_in x (z ∷ zs) ys (inl e) = inl (inl e)
has_in x (z ∷ zs) ys (inr h) = elim (has_in x zs ys h) [ inl a ↦ inl (inr a) | inr b ↦ inr b ]

pub has_left : {A : Type 0} (x : A) (xs ys : List A) → Has x xs → Has x (xs ++ ys)
has_left x [] ys h = absurd h
has_left x (z ∷ zs) ys (inl e) = inl e
has_left x (z ∷ zs) ys (inr h) = inr (has_left x zs ys h)

pub has_right : {A : Type 0} (x : A) (xs ys : List A) → Has x ys → Has x (xs ++ ys)
has_right x [] ys h = h
has_right x (z ∷ zs) ys h = inr (has_right x zs ys h)

pub filter_has : {A : Type 0} (p : A → Bool) (x : A) (xs : List A) → Has x xs → p x ≡ true → Has x (filter p xs)
filter_has p x [] h is = absurd h
filter_has {A} p x (z ∷ zs) h is = at (p z) refl h (λ there. filter_has p x zs there is)
  where
    at : (b : Bool) → p z ≡ b → Has x (z ∷ zs) → (Has x zs → Has x (filter p zs)) → Has x (cond b (z ∷ filter p zs) (filter p zs))
    at true here (inl e) rest = inl e
    at true here (inr there) rest = inr (rest there)
    at false here (inl e) rest = absurd (let so : p z ≡ true = ap p (sym e) ∙ is in cc (so, here))
    at false here (inr there) rest = rest there

pub flat_has : (f : FileState → List Msg) (states : List FileState) (m : Msg) → Has m (flat_map f states) → (s : FileState) × Has s states × Has m (f s)
flat_has f [] m h = absurd h
flat_has f (x ∷ xs) m h =
    elim (has_in m (f x) (flat_map f xs) h) as (λ w. (s : FileState) × Has s (x ∷ xs) × Has m (f s)) [
      | inl a ↦ (x, inl refl, a)
      | inr b ↦ (let rest = flat_has f xs m b in (rest.0, inr rest.1, rest.2))
    ]

-- ---- a step of each file

-- a file's state after a step of each, that leaves each of its file
pub data AtMap (f : FileState → FileState) (awake : Awake) (states : List FileState) (file : FileId) : Type 0 where
  found_at : Has (file_at awake states file) states → file_at awake (map f states) file ≡ f (file_at awake states file) → AtMap f awake states file
  found_nowhere : ((s : FileState) → Has s states → is_file s.kept.file file ≡ false) → file_at awake (map f states) file ≡ file_at awake states file → AtMap f awake states file

pub at_map : (f : FileState → FileState) (awake : Awake) (states : List FileState) (file : FileId) → ((s : FileState) → (f s).kept.file ≡ s.kept.file) → AtMap f awake states file
unfolding file_at
at_map f awake [] file same = found_nowhere (λ s h. absurd h) refl
at_map f awake (x ∷ xs) file same = at (is_file x.kept.file file) refl (at_map f awake xs file same)
  where
    test : is_file (f x).kept.file file ≡ is_file x.kept.file file
    test = ap (λ (k : FileId). is_file k file) (same x)

    of_first : is_file x.kept.file file ≡ true → AtMap f awake (x ∷ xs) file
    of_first is =
        let here : file_at awake (x ∷ xs) file ≡ x = ap (λ (b : Bool). cond b x (file_at awake xs file)) is in
        found_at (subst (λ (s : FileState). Has s (x ∷ xs)) (sym here) (inl refl))
        (ap (λ (b : Bool). cond b (f x) (file_at awake (map f xs) file)) (test ∙ is) ∙ ap f (sym here))

    at : (b : Bool) → is_file x.kept.file file ≡ b → AtMap f awake xs file → AtMap f awake (x ∷ xs) file
    at true is rest = of_first is
    at false differs (found_at has is) =
        let here : file_at awake (x ∷ xs) file ≡ file_at awake xs file = ap (λ (b : Bool). cond b x (file_at awake xs file)) differs in
        found_at (subst (λ (s : FileState). Has s (x ∷ xs)) (sym here) (inr has))
        (ap (λ (b : Bool). cond b (f x) (file_at awake (map f xs) file)) (test ∙ differs) ∙ is ∙ ap f (sym here))
    at false differs (found_nowhere none is) =
        let here : file_at awake (x ∷ xs) file ≡ file_at awake xs file = ap (λ (b : Bool). cond b x (file_at awake xs file)) differs in
        found_nowhere (nowhere none) (ap (λ (b : Bool). cond b (f x) (file_at awake (map f xs) file)) (test ∙ differs) ∙ is ∙ sym here)
      where
        nowhere : ((s : FileState) → Has s xs → is_file s.kept.file file ≡ false) → (s : FileState) → Has s (x ∷ xs) → is_file s.kept.file file ≡ false
        nowhere none s (inl e) = ap (λ (s : FileState). is_file s.kept.file file) e ∙ differs
        nowhere none s (inr h) = none s h
