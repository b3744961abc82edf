-- The bodies after an update show the content after its write or truncation.
use Rattle.std.proofs.Common.{◌≡◌, ◌≢◌, ℕ, suc, zero, ◌+◌, ◌-◌, ◌*◌, ◌<◌, ◌≤◌, ◌⊎◌, inl, inr, Bool, true, false, List, [], ◌∷◌, ◌++◌, length, take, drop, get_or, refl, ap, sym, ◌∙◌, subst, subst₂, arith, ◌==◌, if◌then◌else◌, append-nil, append_assoc, take_all}
use Rattle.std.specs.Prelude.{min, max, nat_lt}
use Rattle.std.proofs.lemmas.Bool.Decides.{nat_tests}
use Rattle.std.proofs.lemmas.Bool.{cases_eq, cases_lt}
use Rattle.std.proofs.lemmas.List.{places, map-append}
use Rattle.xt_messages.specs.declared.file.Op.{Op}
use Rattle.xt_messages.specs.declared.file.Op.TheVariants.{Read, Write, Truncate}
use Rattle.xt_messages.specs.declared.file.Update.{Update}
use Rattle.xt_base.specs.declared.TheConstants.{NO_OBJECT, OBJECTS}
use Rattle.xt_base.specs.Overlay.{overlay, cut_or_filled}
use Rattle.time_line.specs.Content.{place_of, content_after, content_from, content_of, range_of}
use Rattle.replica_safety.specs.Epochs.{name}
use Rattle.replica_runs.specs.Made.{bodies_after, bodies_from, no_bodies, bodies_of, size_from, size_of, MadeByWrite, MadeByTruncation, IsMadeBy, IsMade, ops_of}
use Rattle.replica_runs.specs.Marks.{AreMade, AreMadeAfter}
use Rattle.replica_runs.proofs.Bytes.{length-overlay, length-cut_or_filled, byte-cut_or_filled}
use Rattle.replica_runs.proofs.Flat.{IsFlat, flat_start, flat_write, flat_read, row_below}

-- bodies and a size that show a content
pub record Shows (stripe : ℕ) (bodies : ℕ → List ℕ) (size : ℕ) (content : List ℕ) : Type 0 where
  pub flat : IsFlat stripe bodies content
  pub long : length content ≡ size
  -- no object is past the last one
  pub high : (o : ℕ) → OBJECTS ≤ o → bodies o ≡ []

pub by_equal : (P : Bool → Type 0) (a b : ℕ) → (a ≡ b → P true) → (a ≢ b → P false) → P (a == b)
by_equal P a b is other = go (a == b) refl
  where
    go : (t : Bool) → (a == b) ≡ t → P t
    go true e = is (grind (arith, nat_tests))
    go false e = other (λ same. grind (arith, nat_tests))

pub by_less : (P : Bool → Type 0) (a b : ℕ) → (a < b → P true) → (b ≤ a → P false) → P (nat_lt a b)
by_less P a b is other = go (nat_lt a b) refl
  where
    go : (t : Bool) → nat_lt a b ≡ t → P t
    go true e = is (grind (arith, nat_tests))
    go false e = other (grind (arith, nat_tests))

-- the body of each object
pub at_object : (bodies : ℕ → List ℕ) (u : Update) (o : ℕ) → o ≡ u.object → bodies_after bodies u o ≡ u.body
at_object bodies u o e = by_equal (λ b. (if b then u.body else if nat_lt o u.drop_from then bodies o else []) ≡ u.body) o u.object (λ _. refl) (λ ne. absurd (ne e))

pub kept : (bodies : ℕ → List ℕ) (u : Update) (o : ℕ) → o ≢ u.object → o < u.drop_from → bodies_after bodies u o ≡ bodies o
kept bodies u o ne l = by_equal (λ b. (if b then u.body else if nat_lt o u.drop_from then bodies o else []) ≡ bodies o) o u.object (λ e. absurd (ne e))
    (λ _. by_less (λ b. (if b then bodies o else []) ≡ bodies o) o u.drop_from (λ _. refl) (λ no. absurd (omega arith)))

pub dropped : (bodies : ℕ → List ℕ) (u : Update) (o : ℕ) → o ≢ u.object → u.drop_from ≤ o → bodies_after bodies u o ≡ []
dropped bodies u o ne l = by_equal (λ b. (if b then u.body else if nat_lt o u.drop_from then bodies o else []) ≡ []) o u.object (λ e. absurd (ne e))
    (λ _. by_less (λ b. (if b then bodies o else []) ≡ []) o u.drop_from (λ no. absurd (omega arith)) (λ _. refl))

-- a write
pub written : (stripe : ℕ) (bodies : ℕ → List ℕ) (size : ℕ) (content : List ℕ) (u : Update) (object at : ℕ) (bytes : List ℕ) → MadeByWrite stripe bodies size u object at bytes →
    Shows stripe bodies size content → Shows stripe (bodies_after bodies u) u.mark.size (overlay content (place_of stripe object at) bytes)
written stripe bodies size content u object at bytes m shows = record {
  flat = flat_write stripe object at bytes m.fits bodies (bodies_after bodies u) content
      (at_object bodies u object (sym m.is_object) ∙ m.is_body) others shows.flat;
  long = length-overlay content (object * stripe + at) bytes ∙ ap (λ n. max n (object * stripe + at + length bytes)) shows.long ∙ sym m.is_size;
  high = λ o h. others o (λ e. absurd (omega (arith, m.low))) ∙ shows.high o h;
}
  where
    others : (o : ℕ) → o ≢ object → bodies_after bodies u o ≡ bodies o
    others o ne = elim (cases_lt o NO_OBJECT) as (λ w. bodies_after bodies u o ≡ bodies o) [
      | inl l ↦ kept bodies u o (λ e. ne (e ∙ m.is_object)) (subst (λ d. o < d) (sym m.drops) l)
      | inr l ↦ (let far : OBJECTS ≤ o = omega arith in dropped bodies u o (λ e. ne (e ∙ m.is_object)) (subst (λ d. d ≤ o) (sym m.drops) l) ∙ sym (shows.high o far))
    ]

-- a truncation: what its bodies are, by the number of the object
record IsCut (bodies others : ℕ → List ℕ) (last rest : ℕ) : Type 0 where
  below : (o : ℕ) → o < last → others o ≡ bodies o
  here : others last ≡ take rest (bodies last)
  above : (o : ℕ) → last < o → others o ≡ []

past : (bytes : List ℕ) (i : ℕ) → length bytes ≤ i → get_or bytes i 0 ≡ 0
past bytes i h = grind (arith, places)

take-inside : (bytes : List ℕ) (n i : ℕ) → i < n → get_or (take n bytes) i 0 ≡ get_or bytes i 0
take-inside bytes n i h = grind (arith, places)

take-past : (bytes : List ℕ) (n i : ℕ) → n ≤ i → get_or (take n bytes) i 0 ≡ 0
take-past bytes n i h = grind (arith, places)

filled-past : (bytes : List ℕ) (size i : ℕ) → size ≤ i → get_or (cut_or_filled bytes size) i 0 ≡ 0
filled-past bytes size i h = past (cut_or_filled bytes size) i (omega (arith, length-cut_or_filled bytes size))

shorter : (bytes : List ℕ) (n k : ℕ) → length bytes ≤ k → length (take n bytes) ≤ k
shorter bytes n k h = grind (arith, places)

flat_cut : (stripe last rest size : ℕ) (bodies others : ℕ → List ℕ) (content : List ℕ) → last * stripe + rest ≡ size → rest < stripe → IsCut bodies others last rest →
    IsFlat stripe bodies content → IsFlat stripe others (cut_or_filled content size)
flat_cut stripe last rest size bodies others content splits less cut flat = record {
  small = λ o. elim (cases_lt o last) as (λ w. length (others o) ≤ stripe) [
    | inl l ↦ subst (λ b. length b ≤ stripe) (sym (cut.below o l)) (flat.small o)
    | inr l ↦ (elim (cases_eq o last) as (λ w. length (others o) ≤ stripe) [
      | inl e ↦ subst (λ k. length (others k) ≤ stripe) (sym e) (subst (λ b. length b ≤ stripe) (sym cut.here) (shorter (bodies last) rest stripe (flat.small last)))
      | inr ne ↦ (let more : last < o = omega arith in subst (λ b. length b ≤ stripe) (sym (cut.above o more)) (omega arith))
    ])
  ];
  shown = λ o i h. elim (cases_lt o last) as (λ w. get_or (cut_or_filled content size) (o * stripe + i) 0 ≡ get_or (others o) i 0) [
    | inl l ↦ (let inside : o * stripe + i < size = omega (arith, row_below o last stripe l) in
        byte-cut_or_filled content size (o * stripe + i) inside ∙ flat.shown o i h ∙ ap (λ b. get_or b i 0) (sym (cut.below o l)))
    | inr l ↦ (elim (cases_eq o last) as (λ w. get_or (cut_or_filled content size) (o * stripe + i) 0 ≡ get_or (others o) i 0) [
      | inl e ↦ subst (λ k. get_or (cut_or_filled content size) (k * stripe + i) 0 ≡ get_or (others k) i 0) (sym e) (at_last i h)
      | inr ne ↦ (let more : last < o = omega arith in let outside : size ≤ o * stripe + i = omega (arith, row_below last o stripe more) in
          filled-past content size (o * stripe + i) outside ∙ ap (λ b. get_or b i 0) (sym (cut.above o more)))
    ])
  ];
}
  where
    at_last : (i : ℕ) → i < stripe → get_or (cut_or_filled content size) (last * stripe + i) 0 ≡ get_or (others last) i 0
    at_last i h = elim (cases_lt i rest) as (λ w. get_or (cut_or_filled content size) (last * stripe + i) 0 ≡ get_or (others last) i 0) [
      | inl l ↦ (let inside : last * stripe + i < size = omega arith in
          byte-cut_or_filled content size (last * stripe + i) inside ∙ flat.shown last i h ∙ sym (take-inside (bodies last) rest i l) ∙ ap (λ b. get_or b i 0) (sym cut.here))
      | inr l ↦ (let outside : size ≤ last * stripe + i = omega arith in
          filled-past content size (last * stripe + i) outside ∙ sym (take-past (bodies last) rest i l) ∙ ap (λ b. get_or b i 0) (sym cut.here))
    ]

take-short : (bytes : List ℕ) (n : ℕ) → length bytes ≤ n → bytes ≡ take n bytes
take-short bytes n h = sym (take_all n bytes h)

take-none : (n : ℕ) → take {A = ℕ} n [] ≡ []
take-none zero = refl
take-none (suc n) = refl

pub objects_up_to : (last stripe rest size : ℕ) → last * stripe + rest ≡ size → size ≤ OBJECTS * stripe → rest < stripe → last ≤ OBJECTS
objects_up_to last stripe rest size splits low less = elim (cases_lt OBJECTS last) as (λ w. last ≤ OBJECTS) [
  | inl l ↦ (let next : OBJECTS * stripe + stripe ≤ last * stripe = row_below OBJECTS last stripe l in absurd (omega arith))
  | inr l ↦ l
]

pub truncated : (stripe : ℕ) (bodies : ℕ → List ℕ) (size : ℕ) (content : List ℕ) (u : Update) (z : ℕ) → MadeByTruncation stripe bodies u z →
    Shows stripe bodies size content → Shows stripe (bodies_after bodies u) u.mark.size (cut_or_filled content z)
truncated stripe bodies size content u z m shows = record {
  flat = flat_cut stripe m.last m.rest z bodies (bodies_after bodies u) content m.splits m.less (is_cut m.drops m.cuts) shows.flat;
  long = length-cut_or_filled content z ∙ sym m.is_size;
  high = λ o h. high o h (is_cut m.drops m.cuts);
}
  where
    last_low : m.last ≤ OBJECTS
    last_low = objects_up_to m.last stripe m.rest z m.splits m.low m.less

    gone : u.object ≡ NO_OBJECT → u.body ≡ [] → (o : ℕ) → u.drop_from ≤ o → bodies_after bodies u o ≡ []
    gone none empty o l = elim (cases_eq o u.object) as (λ w. bodies_after bodies u o ≡ []) [
      | inl e ↦ at_object bodies u o e ∙ empty
      | inr ne ↦ dropped bodies u o ne l
    ]

    is_cut : ((m.rest ≡ 0) × (u.drop_from ≡ m.last)) ⊎ ((0 < m.rest) × (u.drop_from ≡ m.last + 1)) →
        ((0 < m.rest) × (m.rest < length (bodies m.last)) × (u.object ≡ m.last) × (u.body ≡ take m.rest (bodies m.last)))
        ⊎ (((m.rest ≡ 0) ⊎ (length (bodies m.last) ≤ m.rest)) × (u.object ≡ NO_OBJECT) × (u.body ≡ [])) → IsCut bodies (bodies_after bodies u) m.last m.rest
    is_cut (inl d) (inl c) = absurd (omega (arith, d.0, c.0))
    is_cut (inl d) (inr c) = record {
      below = λ o l. kept bodies u o (λ e. absurd (omega (arith, last_low, e, c.1))) (omega (arith, d.1));
      here = dropped bodies u m.last (λ e. absurd (omega (arith, last_low, e, c.1))) (omega (arith, d.1)) ∙ ap (λ n. take n (bodies m.last)) (sym d.0);
      above = λ o l. gone c.1 c.2 o (omega (arith, d.1));
    }
    is_cut (inr d) (inl c) = record {
      below = λ o l. kept bodies u o (λ e. absurd (omega (arith, e, c.2))) (omega (arith, d.1));
      here = at_object bodies u m.last (sym c.2) ∙ c.3;
      above = λ o l. dropped bodies u o (λ e. absurd (omega (arith, e, c.2))) (omega (arith, d.1));
    }
    is_cut (inr d) (inr c) = record {
      below = λ o l. kept bodies u o (λ e. absurd (omega (arith, last_low, e, c.1))) (omega (arith, d.1));
      here = kept bodies u m.last (λ e. absurd (omega (arith, last_low, e, c.1))) (omega (arith, d.1)) ∙ take-short (bodies m.last) m.rest (short c.0);
      above = λ o l. gone c.1 c.2 o (omega (arith, d.1));
    }
      where
        short : (m.rest ≡ 0) ⊎ (length (bodies m.last) ≤ m.rest) → length (bodies m.last) ≤ m.rest
        short (inl z) = absurd (omega (arith, z, d.0))
        short (inr l) = l

    high : (o : ℕ) → OBJECTS ≤ o → IsCut bodies (bodies_after bodies u) m.last m.rest → bodies_after bodies u o ≡ []
    high o h cut = elim (cases_lt m.last o) as (λ w. bodies_after bodies u o ≡ []) [
      | inl l ↦ cut.above o l
      | inr l ↦ (let far : OBJECTS ≤ m.last = omega arith in subst (λ k. bodies_after bodies u k ≡ []) (sym (omega (arith, last_low)))
          (cut.here ∙ ap (take m.rest) (shows.high m.last far) ∙ take-none m.rest))
    ]

-- any update
pub made_shows : (stripe : ℕ) (bodies : ℕ → List ℕ) (size : ℕ) (content : List ℕ) (u : Update) (op : Op) → IsMadeBy stripe bodies size u op →
    Shows stripe bodies size content → Shows stripe (bodies_after bodies u) u.mark.size (content_after stripe content op)
made_shows stripe bodies size content u (Read object at len) m shows = absurd m
made_shows stripe bodies size content u (Write object at bytes) m shows = written stripe bodies size content u object at bytes m shows
made_shows stripe bodies size content u (Truncate z) m shows = truncated stripe bodies size content u z m shows

-- updates one after the other
pub bodies_push : (bodies : ℕ → List ℕ) (us : List Update) (u : Update) → bodies_from bodies (us ++ u ∷ []) ≡ bodies_after (bodies_from bodies us) u
bodies_push bodies [] u = refl
bodies_push bodies (v ∷ us) u = bodies_push (bodies_after bodies v) us u

size_push : (size : ℕ) (us : List Update) (u : Update) → size_from size (us ++ u ∷ []) ≡ u.mark.size
size_push size [] u = refl
size_push size (v ∷ us) u = size_push v.mark.size us u

content_push : (stripe : ℕ) (content : List ℕ) (xs : List Op) (op : Op) → content_from stripe content (xs ++ op ∷ []) ≡ content_after stripe (content_from stripe content xs) op
unfolding content_from
content_push stripe content [] op = refl
content_push stripe content (x ∷ xs) op = content_push stripe (content_after stripe content x) xs op

content_none : (stripe : ℕ) → content_of stripe [] ≡ []
unfolding content_from
content_none stripe = refl

module _ (stripe : ℕ) (ops : ℕ × ℕ → Op) where
  ListShows : List Update → Type 0
  ListShows us = Shows stripe (bodies_of us) (size_of us) (content_of stripe (ops_of ops us))

  list_push : (us : List Update) (u : Update) → IsMade stripe ops us u → ListShows us → ListShows (us ++ u ∷ [])
  unfolding ListShows
  list_push us u m shows = let next = made_shows stripe (bodies_of us) (size_of us) (content_of stripe (ops_of ops us)) u (ops (name u)) m.1 shows in record {
    flat = subst₂ (IsFlat stripe) (sym (bodies_push no_bodies us u)) (sym content) next.flat;
    long = ap length content ∙ next.long ∙ sym (size_push 0 us u);
    high = λ o h. ap (λ b. b o) (bodies_push no_bodies us u) ∙ next.high o h;
  }
    where
      content : content_of stripe (ops_of ops (us ++ u ∷ [])) ≡ content_after stripe (content_of stripe (ops_of ops us)) (ops (name u))
      content = ap (content_of stripe) (map-append (λ (x : Update). ops (name x)) us (u ∷ [])) ∙ content_push stripe [] (ops_of ops us) (ops (name u))

  list_all : (done us : List Update) → AreMadeAfter (IsMade stripe ops) done us → ListShows done → ListShows (done ++ us)
  list_all done [] m shows = subst ListShows (sym (append-nil done)) shows
  list_all done (u ∷ us) m shows = subst ListShows (append_assoc done (u ∷ []) us) (list_all (done ++ u ∷ []) us m.1 (list_push done u m.0 shows))

  -- the bodies of a line show its content
  pub made_content : (us : List Update) → AreMade (IsMade stripe ops) us → Shows stripe (bodies_of us) (size_of us) (content_of stripe (ops_of ops us))
  unfolding ListShows
  made_content us m = list_all [] us m (record {
    flat = subst (IsFlat stripe no_bodies) (sym (content_none stripe)) (flat_start stripe no_bodies (λ o. refl));
    long = ap length (content_none stripe);
    high = λ o h. refl;
  })

  -- a read of them shows its range
  pub made_read : (us : List Update) → AreMade (IsMade stripe ops) us → (object at len : ℕ) → at + len ≤ stripe →
      cut_or_filled (drop at (bodies_of us object)) (min len (size_of us - (object * stripe + at))) ≡ range_of (content_of stripe (ops_of ops us)) (place_of stripe object at) len
  made_read us m object at len fits = let shows : Shows stripe (bodies_of us) (size_of us) (content_of stripe (ops_of ops us)) = made_content us m in
      ap (λ n. cut_or_filled (drop at (bodies_of us object)) (min len (n - (object * stripe + at)))) (sym shows.long) ∙
      flat_read stripe object at len (bodies_of us) (content_of stripe (ops_of ops us)) fits shows.flat
