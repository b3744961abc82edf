-- records with the bytes that are in their places
use Rattle.std.proofs.Common.{◌≡◌, ◌⊎◌, inl, inr, ◌+◌, ◌<◌, ◌≤◌, ℕ, zero, suc, Bool, true, false, List, [], ◌∷◌, ◌++◌, length, map, replicate, get_or, set, take, drop, append_assoc, refl, ap, sym, subst, ◌∙◌, arith}
use Rattle.std.proofs.lemmas.List.{drop_more, get_or_at, length-drop, length-map, length-replicate, length-take, length-take-le, map-append, set_at, take_more}
use Rattle.xt_base.specs.Faults.{counted}
use Rattle.xt_messages.specs.declared.record.Record.{Record}
use Rattle.replica_records.specs.Known.{known_of, without_body}
use Rattle.replica_records.specs.Places.{key_put, body_in, body_at}
use Rattle.replica_records.proofs.BodyLaws.{Puts, PutsNone, key_set, puts_or_none, set_back, set_get, set_set}
use Rattle.replica_records.proofs.Known.{known_told}
use Rattle.object_store.specs.declared.place.BodyPlace.{BodyPlace}
use Rattle.object_store.specs.Bare.{bare, bare_of, with_body}
use Rattle.object_store.specs.Places.{ArePairs, IsPair, bytes_at, filled, later}

-- ---- one record

-- it puts the same body, with other bytes
pub same_key : (bytes : List ℕ) (rec : Record) → key_put (with_body bytes rec) ≡ key_put rec
same_key bytes rec = key_set bytes rec

pub with_own : (rec : Record) → with_body (body_in rec) (bare rec) ≡ rec
with_own rec = set_back [] rec

-- with zeros it is what is known of it
pub with_zeros : (rec : Record) → with_body (replicate (length (body_in rec)) 0) (bare rec) ≡ without_body rec
with_zeros rec = set_set (replicate (length (body_in rec)) 0) [] rec

empty_of : (body : List ℕ) → length body ≤ 0 → body ≡ []
empty_of [] few = refl
empty_of (b ∷ body) few = absurd (omega (arith, few))

-- a record that takes no body, with a place for none
pub pair_of_none : (rec : Record) (place : BodyPlace) → PutsNone rec → place.len ≡ 0 → IsPair rec place
pair_of_none rec place plain none = record {
  bare = plain.none;
  takes = λ body few. ap body_in (plain.stays body) ∙ plain.none ∙ sym (empty_of body (omega (arith, few, none)));
}

pub pair_of_bare : (rec : Record) (place : BodyPlace) → place.len ≡ length (body_in rec) → IsPair (bare rec) place
pair_of_bare rec place is = at (puts_or_none rec)
  where
    at : Puts rec ⊎ PutsNone rec → IsPair (bare rec) place
    at (inl puts) = record { bare = puts.get_set []; takes = λ body few. ap body_in (set_set body [] rec) ∙ puts.get_set body }
    at (inr plain) = subst (λ (r : Record). IsPair r place) (sym (plain.stays [])) (pair_of_none rec place plain (is ∙ ap length plain.none))

pub bare_again : (bytes : List ℕ) (rec : Record) (place : BodyPlace) → IsPair rec place → bare (with_body bytes rec) ≡ rec
bare_again bytes rec place is = set_set [] bytes rec ∙ ap (λ (b : List ℕ). with_body b rec) (sym is.bare) ∙ set_get rec

-- a body's bytes don't matter to what is known with it
pub zeros_of : (bytes : List ℕ) (rec : Record) → without_body (with_body bytes rec) ≡ with_body (replicate (length bytes) 0) rec
zeros_of bytes rec = set_set (replicate (length (body_in (with_body bytes rec))) 0) bytes rec ∙ at (puts_or_none rec)
  where
    at : Puts rec ⊎ PutsNone rec → with_body (replicate (length (body_in (with_body bytes rec))) 0) rec ≡ with_body (replicate (length bytes) 0) rec
    at (inl puts) = ap (λ (b : List ℕ). with_body (replicate (length b) 0) rec) (puts.get_set bytes)
    at (inr plain) = plain.stays (replicate (length (body_in (with_body bytes rec))) 0) ∙ sym (plain.stays (replicate (length bytes) 0))

module _ (told : Bool) (read : List ℕ) where
  few_bytes : (told : Bool) (place : BodyPlace) → length (bytes_at told read place) ≤ place.len
  few_bytes true place = omega (arith, length-take place.len (drop place.at read))
  few_bytes false place = omega (arith, length-replicate {A = ℕ} place.len 0)

  -- its body is what is in its place
  pub body_there : (rec : Record) (place : BodyPlace) → IsPair rec place → body_in (with_body (bytes_at told read place) rec) ≡ bytes_at told read place
  body_there rec place is = is.takes (bytes_at told read place) (few_bytes told place)

  pub body_at_place : (records : List Record) (places : List BodyPlace) (i : ℕ) (d : BodyPlace) → ArePairs records places → i < length places
      → body_at (filled (bytes_at told read) records places) i ≡ bytes_at told read (get_or places i d)
  body_at_place [] [] i d are inside = absurd (omega (arith, inside))
  body_at_place [] (p ∷ places) i d are inside = absurd are
  body_at_place (r ∷ records) [] i d are inside = absurd are
  body_at_place (r ∷ records) (p ∷ places) zero d are inside = body_there r p are.0
  body_at_place (r ∷ records) (p ∷ places) (suc i) d are inside = body_at_place records places i d are.1 (omega (arith, inside))

  known_zeros : (n : ℕ) (rec : Record) → without_body (with_body (replicate n 0) rec) ≡ with_body (replicate n 0) rec
  known_zeros n rec = zeros_of (replicate n 0) rec ∙ ap (λ (m : ℕ). with_body (replicate m 0) rec) (length-replicate n 0)

-- ---- records and their places

pub as_many : (records : List Record) (places : List BodyPlace) → ArePairs records places → length places ≡ length records
as_many [] [] are = refl
as_many [] (p ∷ places) are = absurd are
as_many (r ∷ records) [] are = absurd are
as_many (r ∷ records) (p ∷ places) are = ap suc (as_many records places are.1)

pub pairs-push : (records : List Record) (places : List BodyPlace) (rec : Record) (place : BodyPlace) → ArePairs records places → IsPair rec place
    → ArePairs (records ++ rec ∷ []) (places ++ place ∷ [])
pairs-push [] [] rec place are is = (is, tt)
pairs-push [] (p ∷ places) rec place are is = absurd are
pairs-push (r ∷ records) [] rec place are is = absurd are
pairs-push (r ∷ records) (p ∷ places) rec place are is = (are.0, pairs-push records places rec place are.1 is)

-- the first of those that are left, with its place
module _ (rec : Record) (rest : List Record) (places : List BodyPlace) (i : ℕ) (d : BodyPlace) (are : ArePairs (rec ∷ rest) (drop i places)) where
  pub place_left : i < length places
  place_left = at (drop i places) refl are
    where
      at : (left : List BodyPlace) → drop i places ≡ left → ArePairs (rec ∷ rest) left → i < length places
      at [] is pairs = absurd pairs
      at (p ∷ left) is pairs = omega (arith, ap length is, length-drop i places)

  pub places_left : drop i places ≡ get_or places i d ∷ drop (i + 1) places
  places_left = drop_more places i d place_left

  pub pair_left : IsPair rec (get_or places i d)
  pair_left = (subst (ArePairs (rec ∷ rest)) places_left are).0

  pub pairs_left : ArePairs rest (drop (i + 1) places)
  pairs_left = (subst (ArePairs (rec ∷ rest)) places_left are).1

pub none_left : (left : List BodyPlace) → ArePairs [] left → left ≡ []
none_left [] are = refl
none_left (p ∷ left) are = absurd are

-- as long a body in another place is a pair with it too
pub pair_elsewhere : (rec : Record) (place other : BodyPlace) → other.len ≡ place.len → IsPair rec place → IsPair rec other
pair_elsewhere rec place other same is = record { bare = is.bare; takes = λ body few. is.takes body (omega (arith, few, same)) }

pub later_pairs : (by : ℕ) (records : List Record) (places : List BodyPlace) → ArePairs records places → ArePairs records (map (later by) places)
later_pairs by [] [] are = tt
later_pairs by [] (p ∷ places) are = absurd are
later_pairs by (r ∷ records) [] are = absurd are
later_pairs by (r ∷ records) (p ∷ places) are = (pair_elsewhere r p (later by p) refl are.0, later_pairs by records places are.1)

module _ (bytes : BodyPlace → List ℕ) where
  pub filled-append : (records : List Record) (places : List BodyPlace) (recs : List Record) (more : List BodyPlace) → ArePairs records places
      → filled bytes (records ++ recs) (places ++ more) ≡ filled bytes records places ++ filled bytes recs more
  filled-append [] [] recs more are = refl
  filled-append [] (p ∷ places) recs more are = absurd are
  filled-append (r ∷ records) [] recs more are = absurd are
  filled-append (r ∷ records) (p ∷ places) recs more are = ap (λ l. with_body (bytes p) r ∷ l) (filled-append records places recs more are.1)

  pub filled-push : (records : List Record) (places : List BodyPlace) (rec : Record) (place : BodyPlace) → ArePairs records places
      → filled bytes (records ++ rec ∷ []) (places ++ place ∷ []) ≡ filled bytes records places ++ with_body (bytes place) rec ∷ []
  filled-push records places rec place are = filled-append records places (rec ∷ []) (place ∷ []) are

  pub length-filled : (records : List Record) (places : List BodyPlace) → ArePairs records places → length (filled bytes records places) ≡ length records
  length-filled [] [] are = refl
  length-filled [] (p ∷ places) are = absurd are
  length-filled (r ∷ records) [] are = absurd are
  length-filled (r ∷ records) (p ∷ places) are = ap suc (length-filled records places are.1)

  pub bare_filled : (records : List Record) (places : List BodyPlace) → ArePairs records places → bare_of (filled bytes records places) ≡ records
  bare_filled [] [] are = refl
  bare_filled [] (p ∷ places) are = absurd are
  bare_filled (r ∷ records) [] are = absurd are
  bare_filled (r ∷ records) (p ∷ places) are = λ i. bare_again (bytes p) r p are.0 i ∷ bare_filled records places are.1 i

  pub filled_map : (f : BodyPlace → BodyPlace) (records : List Record) (places : List BodyPlace) → filled bytes records (map f places) ≡ filled (λ p. bytes (f p)) records places
  filled_map f [] places = refl
  filled_map f (r ∷ records) [] = refl
  filled_map f (r ∷ records) (p ∷ places) = ap (λ l. with_body (bytes (f p)) r ∷ l) (filled_map f records places)

-- what is in their places is known already
pub filled_known : (told : Bool) (read : List ℕ) (records : List Record) (places : List BodyPlace)
    → known_of told (filled (bytes_at told read) records places) ≡ filled (bytes_at told read) records places
filled_known true read records places = known_told (filled (bytes_at true read) records places)
filled_known false read [] places = refl
filled_known false read (r ∷ records) [] = refl
filled_known false read (r ∷ records) (p ∷ places) = λ i. known_zeros false read p.len r i ∷ filled_known false read records places i

-- ---- places further on

pub one_moved : (by : ℕ) (old places : List BodyPlace) (i : ℕ) (d : BodyPlace) (at : ℕ) → i < length old → places ≡ map (later by) (take i old) ++ drop i old
    → at ≡ counted (by + (get_or places i d).at)
    → set places i (record (get_or places i d) { at = at }) ≡ map (later by) (take (i + 1) old) ++ drop (i + 1) old
one_moved by old places i d at inside are is =
    let front = map (later by) (take i old) in
    let here = get_or old i d in
    let rest = drop (i + 1) old in
    let size : length front ≡ i = length-map (take i old) (later by) ∙ length-take-le i old (omega (arith, inside)) in
    let split : places ≡ front ++ here ∷ rest = are ∙ ap (λ l. front ++ l) (drop_more old i d inside) in
    let read : get_or places i d ≡ here = ap (λ l. get_or l i d) split ∙ get_or_at front here rest d i size in
    let moved : record (get_or places i d) { at = at } ≡ later by here =
    ap (λ a. record (get_or places i d) { at = a }) is ∙ ap (later by) read in
    ap (λ p. set places i p) moved
    ∙ ap (λ l. set l i (later by here)) split
    ∙ set_at front here rest (later by here) i size
    ∙ sym (append_assoc front (later by here ∷ []) rest)
    ∙ ap (λ l. l ++ rest) (sym (map-append (later by) (take i old) (here ∷ [])) ∙ ap (map (later by)) (sym (take_more old i d inside)))
