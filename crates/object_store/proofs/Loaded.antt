-- payloads that are read into a log, one after the other
use Rattle.std.proofs.Common.{◌≡◌, ℕ, ◌+◌, ◌-◌, ◌<◌, suc, Bool, true, List, [], ◌++◌, ◌∷◌, length, take, drop, get_or, refl, sym, ◌∙◌, ap, subst, arith, length-append, drop-cons, take-append-drop, Ok, Err}
use Rattle.std.specs.Prelude.{IsTrue}
use Rattle.std.proofs.lemmas.List.{length-drop, length-map, length-take-le, map-append, take_all, take_more}
use Rattle.journal_moves.specs.declared.extent.Extent.{Extent}
use Rattle.journal_moves.specs.Extents.{bytes_in}
use Rattle.xt_messages.specs.Limits.{FitsRecord}
use Rattle.xt_messages.specs.declared.record.Folded.{Folded}
use Rattle.xt_messages.specs.declared.record.Record.{Record}
use Rattle.xt_protocol.specs.Folds.{folded_after, fold_of, nothing_kept, IsInPlace}
use Rattle.xt_protocol.proofs.Folds.{fold_of-nothing, fold_of-push}
use Rattle.xt_journal.specs.Placed.{Placed, placed_at, placed_on}
use Rattle.replica_records.specs.RecordText.{record_text}
use Rattle.object_store.specs.declared.loading.Trouble.TheVariants.{BadRecord}
use Rattle.object_store.specs.declared.log.StoreLog.{StoreLog}
use Rattle.object_store.specs.declared.place.BodyPlace.{BodyPlace}
use Rattle.object_store.specs.Bare.{bare, bare_of}
use Rattle.object_store.specs.Logs.{bare_in, places_in}
use Rattle.object_store.specs.Places.{place_of, places_of}
use Rattle.object_store.specs.Refused.{IsLogOf, IsReadFrom}
use Rattle.object_store.proofs.ReadBack.{places-push}
use Rattle.object_store.proofs.Reading.{are-push, first_bad, none_are, texts_more}

-- the records so far, and what they say
pub record IsSoFar (placed : List Placed) (log : StoreLog) (folded : Folded) : Type 0 where
  pub is : IsLogOf placed log
  pub says : folded ≡ fold_of is.records

none_so_far : (log : StoreLog) (folded : Folded) → bare_in log ≡ [] → places_in log ≡ [] → folded ≡ nothing_kept → IsSoFar [] log folded
none_so_far log folded bare_is places_is nothing = record {
  is = record { records = []; texts = refl; are = none_are; bare = bare_is; places = places_is };
  says = nothing ∙ sym fold_of-nothing;
}

module _ (placed : List Placed) (p : Placed) (log new : StoreLog) (folded after : Folded) (was : IsSoFar placed log folded) (rec : Record) (fits : FitsRecord rec)
    (text : p.bytes ≡ record_text rec) (there : IsInPlace folded rec) where
  one_so_far : (without : Record) (place : BodyPlace) → after ≡ folded_after folded rec → without ≡ bare rec
      → place ≡ place_of (record { gate = p.gate; bytes = record_text rec }) rec
      → bare_in new ≡ bare_in log ++ without ∷ [] → places_in new ≡ places_in log ++ place ∷ [] → IsSoFar (placed ++ p ∷ []) new after
  one_so_far without place folds bare_is place_is bare_more places_more =
      let old = was.is.records in
      record {
        is = record {
          records = old ++ rec ∷ [];
          texts = texts_more old rec placed p text was.is.texts;
          are = are-push old rec was.is.are fits (subst (λ (f : Folded). IsInPlace f rec) was.says there);
          bare =
              bare_more ∙ ap (λ (l : List Record). l ++ without ∷ []) was.is.bare ∙ ap (λ (r : Record). bare_of old ++ r ∷ []) bare_is
              ∙ sym (map-append bare old (rec ∷ []));
          places =
              places_more ∙ ap (λ (l : List BodyPlace). l ++ place ∷ []) was.is.places
              ∙ ap (λ (q : BodyPlace). places_of placed old ++ q ∷ []) (place_is ∙ ap (λ (b : List ℕ). place_of (record { gate = p.gate; bytes = b }) rec) (sym text))
              ∙ sym (places-push placed old p rec (sym was.is.texts));
        };
        says = folds ∙ ap (λ (f : Folded). folded_after f rec) was.says ∙ sym (fold_of-push old rec);
      }

-- ---- from a disk

-- those at these extents are read
pub record IsSoFarFrom (told : Bool) (read : List ℕ) (extents : List Extent) (log : StoreLog) (folded : Folded) : Type 0 where
  pub placed : List Placed
  pub size : length placed ≡ length extents
  pub from : IsTrue told → placed ≡ placed_on true read extents
  pub so_far : IsSoFar placed log folded

pub none_so_far_from : (told : Bool) (read : List ℕ) (log : StoreLog) (folded : Folded) → bare_in log ≡ [] → places_in log ≡ [] → folded ≡ nothing_kept → IsSoFarFrom told read [] log folded
none_so_far_from told read log folded bare_is places_is nothing = record { placed = []; size = refl; from = λ is. refl; so_far = none_so_far log folded bare_is places_is nothing }

-- the payload at the next extent
module _ (told : Bool) (read : List ℕ) (extents : List Extent) (i : ℕ) (e : Extent) (inside : i < length extents) (is : e ≡ get_or extents i e) (bytes : List ℕ)
    (value : IsTrue told → bytes ≡ bytes_in true read e) (log : StoreLog) (folded : Folded) (was : IsSoFarFrom told read (take i extents) log folded) where
  next : Placed
  next = record { gate = e.at - 5; bytes = bytes }

  next_is : IsTrue told → next ≡ placed_at true read e
  unfolding next
  next_is is_told = ap (λ (b : List ℕ). record { gate = e.at - 5; bytes = b }) (value is_told)

  pub one_more : (new : StoreLog) (after : Folded) (rec : Record) → FitsRecord rec → bytes ≡ record_text rec → IsInPlace folded rec → (without : Record) (place : BodyPlace)
      → after ≡ folded_after folded rec → without ≡ bare rec → place ≡ place_of (record { gate = e.at - 5; bytes = record_text rec }) rec
      → bare_in new ≡ bare_in log ++ without ∷ [] → places_in new ≡ places_in log ++ place ∷ [] → IsSoFarFrom told read (take (i + 1) extents) new after
  unfolding next
  one_more new after rec fits text there without place folds bare_is place_is bare_more places_more = record {
    placed = was.placed ++ next ∷ [];
    size = omega (arith, length-append was.placed (next ∷ []), was.size, length-take-le i extents (omega (arith, inside)), length-take-le (i + 1) extents (omega (arith, inside)));
    from = λ is_told.
        ap (λ (l : List Placed). l ++ next ∷ []) (was.from is_told) ∙ ap (λ (p : Placed). placed_on true read (take i extents) ++ p ∷ []) (next_is is_told)
        ∙ sym (map-append (placed_at true read) (take i extents) (e ∷ []))
        ∙ ap (λ (x : Extent). placed_on true read (take i extents ++ x ∷ [])) is ∙ ap (placed_on true read) (sym (take_more extents i e inside));
    so_far = one_so_far was.placed next log new folded after was.so_far rec fits text there without place folds bare_is place_is bare_more places_more;
  }

  -- it is no record in its place
  pub bad_from : (count : ℕ) → count ≡ length (bare_in log) → ((rec : Record) → FitsRecord rec → bytes ≡ record_text rec → IsInPlace folded rec → ⊥)
      → IsReadFrom told read extents (Err (BadRecord count))
  unfolding next
  bad_from count all bad =
      let so_far = was.so_far in
      let rest = placed_on told read (drop (suc i) extents) in (
        was.placed ++ next ∷ rest,
        record {
          size = omega (
            arith,
            inside,
            length-append was.placed (next ∷ rest),
            was.size,
            length-take-le i extents (omega (arith, inside)),
            length-map (drop (suc i) extents) (placed_at told read),
            length-drop (suc i) extents,
          );
          from = λ is_told.
              ap (λ (l : List Placed). l ++ next ∷ rest) (was.from is_told)
              ∙ ap (λ (p : Placed). placed_on true read (take i extents) ++ p ∷ rest) (next_is is_told)
              ∙ ap (λ (t : Bool). placed_on true read (take i extents) ++ placed_at true read e ∷ placed_on t read (drop (suc i) extents)) is_told
              ∙ sym (map-append (placed_at true read) (take i extents) (e ∷ drop (suc i) extents))
              ∙ ap (λ (x : Extent). placed_on true read (take i extents ++ x ∷ drop (suc i) extents)) is
              ∙ ap (λ (l : List Extent). placed_on true read (take i extents ++ l)) (sym (drop-cons extents i e inside))
              ∙ ap (placed_on true read) (take-append-drop i extents);
        },
        first_bad so_far.is.records count was.placed next rest (all ∙ ap length so_far.is.bare ∙ length-map so_far.is.records bare) so_far.is.texts so_far.is.are
            (λ rec fits text place. bad rec fits text (subst (λ (f : Folded). IsInPlace f rec) (sym so_far.says) place)),
      )

pub all_from : (told : Bool) (read : List ℕ) (extents : List Extent) (i : ℕ) (log : StoreLog) (folded : Folded) → length extents ≡ i
    → IsSoFarFrom told read (take i extents) log folded → IsReadFrom told read extents (Ok log)
all_from told read extents i log folded whole was = (
  was.placed,
  record {
    size = omega (arith, was.size, length-take-le i extents (omega (arith, whole)), whole);
    from = λ is_told. was.from is_told ∙ ap (placed_on true read) (ap (λ (n : ℕ). take n extents) (sym whole) ∙ take_all (length extents) extents (omega arith));
  },
  was.so_far.is,
)
