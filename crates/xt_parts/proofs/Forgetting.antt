-- what is forgotten, and that no message is half joined twice
use Rattle.std.proofs.Common.{◌≡◌, ◌≤◌, ◌-◌, ◌==◌, ◌∷◌, ◌++◌, [], zero, suc, ℕ, Bool, true, false, List, Option, Some, None, IsSome, length, drop, slice_get, slice_set, option_and_then, if◌then◌else◌, refl, sym, ap, subst, ◌∙◌, arith}
use Rattle.std.proofs.lemmas.List.{length-drop}
use Rattle.std.proofs.lemmas.Option.{same_Some, none-some, option_and_then_some}
use Rattle.xt_parts.specs.declared.TheConstants.{HALF_JOINED}
use Rattle.message_ids.specs.declared.MessageId.{MessageId}
use Rattle.xt_parts.specs.declared.part.Header.{Header}
use Rattle.xt_parts.specs.Part.{read_part}
use Rattle.message_ids.specs.Same.{is_same}
use Rattle.xt_parts.specs.Joining.{HalfJoined, Taken, half_of, without, changed, newest, bytes_of, has_payload, given_or_kept, none_taken, begun, added, continued, joined_to}
use Rattle.xt_parts.specs.Runs.{AreApart}
use Rattle.xt_parts.specs.Laws.{StaysFew, StaysApart, ForgetsGiven, ForgetsDropped}
use Rattle.message_ids.proofs.SameId.{same_id, other_way}
use Rattle.xt_parts.proofs.Running.{not_first}

absent-without : (held : List HalfJoined) (id other : MessageId) → half_of held other ≡ None →
    half_of (without held id) other ≡ None
absent-without [] id other absent = refl
absent-without (half ∷ held) id other absent =
    let apart = not_first (is_same half.id other) half (half_of held other) absent in
    at (is_same half.id id) apart.0 apart.1 (absent-without held id other apart.1)
  where
    at : (b : Bool) → is_same half.id other ≡ false → half_of held other ≡ None → half_of (without held id) other ≡ None →
        half_of (if b then held else half ∷ without held id) other ≡ None
    at true differs rest without_it = rest
    at false differs rest without_it = rw differs without_it

apart-without : (held : List HalfJoined) (id : MessageId) → AreApart held → AreApart (without held id)
apart-without [] id apart = tt
apart-without (half ∷ held) id apart = at (is_same half.id id) (apart-without held id apart.1)
  where
    at : (b : Bool) → AreApart (without held id) → AreApart (if b then held else half ∷ without held id)
    at true rest = apart.1
    at false rest = (absent-without held id half.id apart.0, rest)

-- the one that is left out isn't there
gone-without : (held : List HalfJoined) (id : MessageId) → AreApart held → half_of (without held id) id ≡ None
gone-without [] id apart = refl
gone-without (half ∷ held) id apart = at (is_same half.id id) refl (gone-without held id apart.1)
  where
    at : (b : Bool) → is_same half.id id ≡ b → half_of (without held id) id ≡ None →
        half_of (if b then held else half ∷ without held id) id ≡ None
    at true same rest = ap (half_of held) (sym (same_id half.id id same)) ∙ apart.0
    at false differs rest = rw differs rest

module _ (id : MessageId) (new : HalfJoined) (is : new.id ≡ id) where
  absent-changed : (held : List HalfJoined) (other : MessageId) → half_of held other ≡ None →
      half_of (changed held id new) other ≡ None
  absent-changed [] other absent = refl
  absent-changed (half ∷ held) other absent =
      let apart = not_first (is_same half.id other) half (half_of held other) absent in
      at (is_same half.id id) refl apart.0 apart.1 (absent-changed held other apart.1)
    where
      at : (b : Bool) → is_same half.id id ≡ b → is_same half.id other ≡ false → half_of held other ≡ None →
          half_of (changed held id new) other ≡ None →
          half_of (if b then new ∷ held else half ∷ changed held id new) other ≡ None
      at true same differs rest changed_it =
          let new_differs : is_same new.id other ≡ false
          = ap (λ one. is_same one other) (is ∙ sym (same_id half.id id same)) ∙ differs in
          rw new_differs rest
      at false same differs rest changed_it = rw differs changed_it

  apart-changed : (held : List HalfJoined) → AreApart held → AreApart (changed held id new)
  apart-changed [] apart = tt
  apart-changed (half ∷ held) apart = at (is_same half.id id) refl (apart-changed held apart.1)
    where
      at : (b : Bool) → is_same half.id id ≡ b → AreApart (changed held id new) →
          AreApart (if b then new ∷ held else half ∷ changed held id new)
      at true same rest = (ap (half_of held) (is ∙ sym (same_id half.id id same)) ∙ apart.0, apart.1)
      at false differs rest = (absent-changed held half.id apart.0, rest)

module _ (new : HalfJoined) where
  absent-append : (held : List HalfJoined) (other : MessageId) → half_of held other ≡ None → is_same new.id other ≡ false →
      half_of (held ++ new ∷ []) other ≡ None
  absent-append [] other absent differs = rw differs refl
  absent-append (half ∷ held) other absent differs =
      let apart = not_first (is_same half.id other) half (half_of held other) absent in
      rw apart.0 (absent-append held other apart.1 differs)

  apart-append : (held : List HalfJoined) → AreApart held → half_of held new.id ≡ None → AreApart (held ++ new ∷ [])
  apart-append [] apart absent = (refl, tt)
  apart-append (half ∷ held) apart absent =
      let first = not_first (is_same half.id new.id) half (half_of held new.id) absent in
      (absent-append held half.id apart.0 (other_way half.id new.id first.0), apart-append held apart.1 first.1)

absent-drop : (n : ℕ) (held : List HalfJoined) (id : MessageId) → half_of held id ≡ None → half_of (drop n held) id ≡ None
absent-drop zero held id absent = absent
absent-drop (suc n) [] id absent = refl
absent-drop (suc n) (half ∷ held) id absent =
    absent-drop n held id (not_first (is_same half.id id) half (half_of held id) absent).1

apart-drop : (n : ℕ) (held : List HalfJoined) → AreApart held → AreApart (drop n held)
apart-drop zero held apart = apart
apart-drop (suc n) [] apart = tt
apart-drop (suc n) (half ∷ held) apart = apart-drop n held apart.1

few-without : (held : List HalfJoined) (id : MessageId) → length (without held id) ≤ length held
few-without [] id = omega arith
few-without (half ∷ held) id = at (is_same half.id id) (few-without held id)
  where
    at :
        (b : Bool) → length (without held id) ≤ length held →
        length (if b then held else half ∷ without held id) ≤ suc (length held)
    at true rest = omega arith
    at false rest = omega arith

few-changed : (held : List HalfJoined) (id : MessageId) (new : HalfJoined) → length (changed held id new) ≤ length held
few-changed [] id new = omega arith
few-changed (half ∷ held) id new = at (is_same half.id id) (few-changed held id new)
  where
    at :
        (b : Bool) → length (changed held id new) ≤ length held →
        length (if b then new ∷ held else half ∷ changed held id new) ≤ suc (length held)
    at true rest = omega arith
    at false rest = omega arith

few-newest : (held : List HalfJoined) → length (newest held) ≤ HALF_JOINED
few-newest held = omega (arith, length-drop (length held - HALF_JOINED) held)

few-given_or_kept :
    (id : MessageId) (forgotten kept : List HalfJoined) (bytes : Option (List ℕ)) → length forgotten ≤ HALF_JOINED →
    length kept ≤ HALF_JOINED → length (given_or_kept id forgotten kept bytes).held ≤ HALF_JOINED
few-given_or_kept id forgotten kept None few few_kept = few_kept
few-given_or_kept id forgotten kept (Some bytes) few few_kept = few

module _ (held : List HalfJoined) (few : length held ≤ HALF_JOINED) (header : Header) (payload : List ℕ) where
  few-continued :
      (half : HalfJoined) (taken : Taken) → continued held half header payload ≡ Some taken →
      length taken.held ≤ HALF_JOINED
  few-continued half taken e = at (half.size == header.size) e
    where
      of_index :
          (b : Bool) →
          length (if b then record { held = held; whole = None } else added held half header payload).held ≤ HALF_JOINED
      of_index true = few
      of_index false =
          few-given_or_kept header.id (without held header.id)
          (changed held header.id (record half { taken = slice_set half.taken header.index (Some payload) }))
          (bytes_of (slice_set half.taken header.index (Some payload)))
          (omega (arith, few-without held header.id, few))
          (omega (arith, few-changed held header.id (record half { taken = slice_set half.taken header.index (Some payload) }), few))

      at :
          (b : Bool) →
          (if b then Some (if has_payload (slice_get half.taken header.index) then record { held = held; whole = None }
          else added held half header payload) else None) ≡ Some taken → length taken.held ≤ HALF_JOINED
      at true e =
          let P : Taken → Type 0 = λ t. length t.held ≤ HALF_JOINED in
          subst P (same_Some _ taken e) (of_index (has_payload (slice_get half.taken header.index)))
      at false e = absurd (none-some taken e)

  few-joined :
      (found : Option HalfJoined) (taken : Taken) → joined_to held found header payload ≡ Some taken →
      length taken.held ≤ HALF_JOINED
  few-joined None taken e =
      let P : Taken → Type 0 = λ t. length t.held ≤ HALF_JOINED in
      let now = slice_set (none_taken header.size) header.index (Some payload) in
      subst P (same_Some _ taken e)
      (few-given_or_kept header.id held
      (newest (held ++ record { id = header.id; size = header.size; taken = now } ∷ [])) (bytes_of now) few
      (few-newest (held ++ record { id = header.id; size = header.size; taken = now } ∷ [])))
  few-joined (Some half) taken e = few-continued half taken e

pub stays_few : StaysFew
stays_few held bytes taken few e =
    option_and_then_some (λ part. joined_to held (half_of held part.0.id) part.0 part.1) (read_part bytes) taken e
    (λ part is step. few-joined held few part.0 part.1 (half_of held part.0.id) taken step)

-- what a step leaves: no message twice, and a given one not at all
record Forgets (id : MessageId) (taken : Taken) : Type 0 where
  apart : AreApart taken.held
  given : IsSome taken.whole → half_of taken.held id ≡ None

forgets-given_or_kept : (id : MessageId) (forgotten kept : List HalfJoined) (bytes : Option (List ℕ)) → AreApart forgotten →
    half_of forgotten id ≡ None → AreApart kept → Forgets id (given_or_kept id forgotten kept bytes)
forgets-given_or_kept id forgotten kept None apart absent kept_apart = record { apart = kept_apart; given = λ some. cc }
forgets-given_or_kept id forgotten kept (Some bytes) apart absent kept_apart = record { apart = apart; given = λ some. absent }

found_id : (held : List HalfJoined) (id : MessageId) (half : HalfJoined) → half_of held id ≡ Some half → half.id ≡ id
found_id [] id half found = absurd (none-some half found)
found_id (first ∷ held) id half found = at (is_same first.id id) refl found (found_id held id half)
  where
    at : (b : Bool) → is_same first.id id ≡ b → (if b then Some first else half_of held id) ≡ Some half →
        (half_of held id ≡ Some half → half.id ≡ id) → half.id ≡ id
    at true same here rest = ap (λ h. h.id) (sym (same_Some first half here)) ∙ same_id first.id id same
    at false same later rest = rest later

module _ (held : List HalfJoined) (apart : AreApart held) (header : Header) (payload : List ℕ) where
  forgets-begun : half_of held header.id ≡ None → Forgets header.id (begun held header payload)
  forgets-begun absent =
      let taken = slice_set (none_taken header.size) header.index (Some payload) in
      let half : HalfJoined = record { id = header.id; size = header.size; taken = taken } in
      forgets-given_or_kept header.id held (newest (held ++ half ∷ [])) (bytes_of taken) apart absent
      (apart-drop (length (held ++ half ∷ []) - HALF_JOINED) (held ++ half ∷ []) (apart-append half held apart absent))

  forgets-added : (half : HalfJoined) → half.id ≡ header.id → Forgets header.id (added held half header payload)
  forgets-added half is =
      let taken = slice_set half.taken header.index (Some payload) in
      forgets-given_or_kept header.id (without held header.id) (changed held header.id (record half { taken = taken })) (bytes_of taken)
      (apart-without held header.id apart) (gone-without held header.id apart)
      (apart-changed header.id (record half { taken = taken }) is held apart)

  forgets-continued : (half : HalfJoined) (taken : Taken) → half.id ≡ header.id →
      continued held half header payload ≡ Some taken → Forgets header.id taken
  forgets-continued half taken is e = at (half.size == header.size) e
    where
      of_index : (b : Bool) → Forgets header.id (if b then record { held = held; whole = None } else added held half header payload)
      of_index true = record { apart = apart; given = λ some. cc }
      of_index false = forgets-added half is

      at : (b : Bool) →
          (if b then Some (if has_payload (slice_get half.taken header.index) then record { held = held; whole = None }
          else added held half header payload) else None) ≡ Some taken → Forgets header.id taken
      at true e = subst (Forgets header.id) (same_Some _ taken e) (of_index (has_payload (slice_get half.taken header.index)))
      at false e = absurd (none-some taken e)

  forgets-joined : (found : Option HalfJoined) (taken : Taken) → half_of held header.id ≡ found →
      joined_to held found header payload ≡ Some taken → Forgets header.id taken
  forgets-joined None taken is e = subst (Forgets header.id) (same_Some _ taken e) (forgets-begun is)
  forgets-joined (Some half) taken is e = forgets-continued half taken (found_id held header.id half is) e

forgets-part : (held : List HalfJoined) → AreApart held → (part : Header × List ℕ) (taken : Taken) →
    joined_to held (half_of held part.0.id) part.0 part.1 ≡ Some taken → Forgets part.0.id taken
forgets-part held apart part taken e = forgets-joined held apart part.0 part.1 (half_of held part.0.id) taken refl e

pub stays_apart : StaysApart
stays_apart held bytes taken apart e =
    option_and_then_some (λ part. joined_to held (half_of held part.0.id) part.0 part.1) (read_part bytes) taken e
    (λ part is step. (forgets-part held apart part taken step).apart)

pub forgets_given : ForgetsGiven
forgets_given held bytes part taken apart is e given =
    (forgets-part held apart part taken
    (sym (ap (option_and_then (λ part. joined_to held (half_of held part.0.id) part.0 part.1)) is) ∙ e)).given given

pub forgets_dropped : ForgetsDropped
forgets_dropped oldest others apart many =
    let over : length (oldest ∷ others) - HALF_JOINED ≡ suc (length others - HALF_JOINED) = omega arith in
    ap (λ n. half_of (drop n (oldest ∷ others)) oldest.id) over
    ∙ absent-drop (length others - HALF_JOINED) others oldest.id apart.0
