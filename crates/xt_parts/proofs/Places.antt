-- the place of a half joined message in the list
use Rattle.std.proofs.Common.{◌≡◌, ◌<◌, ◌≤◌, ◌∷◌, [], ℕ, suc, Bool, true, false, cond, List, Option, Some, None, length, position, refl, sym, ap, arith, nat_lt, MatchOption, ltb-true, ltb-false, subst}
use Rattle.std.proofs.Math.Numerals.{one-add}
use Rattle.std.proofs.lemmas.Option.{cond_some}
use Rattle.std.specs.List.{position_or_len}
use Rattle.message_ids.specs.declared.MessageId.{MessageId}
use Rattle.message_ids.specs.Same.{is_same}
use Rattle.xt_parts.specs.Joining.{HalfJoined, half_of}
use Rattle.xt_parts.specs.Places.{StandsAt}

first_stands : (half : HalfJoined) (held : List HalfJoined) (id : MessageId) → is_same half.id id ≡ true →
    StandsAt (half ∷ held) id 0
first_stands half held id same = record {
  half = λ other. rw same refl;
  below = omega arith;
  others = rw same refl;
  changes = λ new. rw same refl;
}

later_stands : (half : HalfJoined) (held : List HalfJoined) (id : MessageId) (place : ℕ) → is_same half.id id ≡ false →
    StandsAt held id place → StandsAt (half ∷ held) id (suc place)
later_stands half held id place other at = record {
  half = λ new. rw other (at.half new);
  below = omega (arith, at.below);
  others = rw other (ap (λ rest. half ∷ rest) at.others);
  changes = λ new. rw other (ap (λ rest. half ∷ rest) (at.changes new));
}

-- whether a half joined message is this one
abbrev pub is_it : MessageId → HalfJoined → Bool
is_it id half = is_same half.id id

stands_next : (half : HalfJoined) (held : List HalfJoined) (id : MessageId) (b : Bool) → is_same half.id id ≡ b →
    (position_or_len (is_it id) held < length held → StandsAt held id (position_or_len (is_it id) held)) →
    position_or_len (is_it id) (half ∷ held) < length (half ∷ held) →
    StandsAt (half ∷ held) id (position_or_len (is_it id) (half ∷ held))
stands_next half held id true same rest below = rw same (first_stands half held id same)
stands_next half held id false same rest below =
    rw (same, one-add) (later_stands half held id (position_or_len (is_it id) held) same (rest (omega (arith, rw same at below))))

stands_first : (held : List HalfJoined) (id : MessageId) → position_or_len (is_it id) held < length held →
    StandsAt held id (position_or_len (is_it id) held)
stands_first [] id below = absurd (omega arith)
stands_first (half ∷ held) id below =
    stands_next half held id (is_same half.id id) refl (stands_first held id) below

absent_next : (half : HalfJoined) (held : List HalfJoined) (id : MessageId) (b : Bool) → is_same half.id id ≡ b →
    (length held ≤ position_or_len (is_it id) held → half_of held id ≡ None) →
    length (half ∷ held) ≤ position_or_len (is_it id) (half ∷ held) → half_of (half ∷ held) id ≡ None
absent_next half held id true same rest past = absurd (omega (arith, rw same at past))
absent_next half held id false same rest past = rw same (rest (omega (arith, rw same at past)))

absent_all : (held : List HalfJoined) (id : MessageId) → length held ≤ position_or_len (is_it id) held →
    half_of held id ≡ None
absent_all [] id past = refl
absent_all (half ∷ held) id past = absent_next half held id (is_same half.id id) refl (absent_all held id) past

cond_none : (b : Bool) (x : ℕ) → cond b (Some x) None ≡ None → b ≡ false
cond_none true x e = cc
cond_none false x e = refl

-- what a search for the message says
pub stands : (held : List HalfJoined) (id : MessageId) (place : ℕ) → position (is_it id) held ≡ Some place →
    StandsAt held id place
stands held id place found =
    let first = position_or_len (is_it id) held in
    let here = cond_some (nat_lt first (length held)) first place found in
    let P : ℕ → Type 0 = λ n. StandsAt held id n in
    subst P here.1 (stands_first held id (ltb-true _ _ here.0))

pub absent : (held : List HalfJoined) (id : MessageId) → position (is_it id) held ≡ None → half_of held id ≡ None
absent held id none =
    let first = position_or_len (is_it id) held in
    absent_all held id (ltb-false _ _ (cond_none (nat_lt first (length held)) first none))

-- the search says what it is to say
pub found : (held : List HalfJoined) (id : MessageId) (place : Option ℕ) → place ≡ position (is_it id) held →
    MatchOption place (half_of held id ≡ None) (StandsAt held id)
found held id None is = absent held id (sym is)
found held id (Some place) is = stands held id place (sym is)
