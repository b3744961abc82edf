-- A disk that kept lists of records in turn leaves none that is older than what it kept by then.
use Rattle.std.proofs.Common.{ℕ, ◌≡◌, ◌≤◌, ◌⊎◌, refl, sym, subst, List, [], ◌∷◌, ◌++◌, inl, inr, ⊎_elim, arith}
use Rattle.std.proofs.lemmas.List.{append-nil}
use Rattle.disk_model.specs.Disk.{LeavesOnly}
use Rattle.xt_messages.specs.declared.record.Record.{Record}
use Rattle.xt_journal.specs.Format.{StandsFor}
use Rattle.object_store.specs.Texts.{texts_of}
use Rattle.node_runs.specs.Keeping.{StandsForOne, KeptInTurn, from_start, then_next}
use Rattle.node_runs.specs.Laws.{AreRising, LeavesFrom, LeavesNoOlder, NoneComesBack}
use Rattle.node_runs.proofs.Keeping.{one_of_first, one_of_later}

-- ---- moments

rises_to : (from : ℕ) (later : List ℕ) (until : ℕ) → AreRising from later until → from ≤ until
rises_to from [] until rise = rise
rises_to from (moment ∷ moments) until rise = omega (arith, rise.0, rises_to moment moments until rise.1)

rises_on : (from : ℕ) (later : List ℕ) (until : ℕ) → AreRising from later until → AreRising from (later ++ until ∷ []) until
rises_on from [] until rise =
    let here : until ≤ until = omega arith in
    (rise, here)
rises_on from (moment ∷ moments) until rise = (rise.0, rises_on moment moments until rise.1)

rises_so : (from : ℕ) (later : List ℕ) (until next : ℕ) → AreRising from later until → until ≤ next → AreRising from later next
rises_so from [] until next rise on = omega (arith, rise, on)
rises_so from (moment ∷ moments) until next rise on = (rise.0, rises_so moment moments until next rise.1 on)

-- ---- lists

none_or : (lists more : List (List Record)) (image : List ℕ) → StandsForOne (lists ++ []) image → StandsForOne (lists ++ more) image
none_or lists more image is = one_of_first lists more image (subst (λ (xs : List (List Record)). StandsForOne xs image) (append-nil lists) is)

now_or_next : (earlier : List (List Record)) (now next : List Record) (image : List ℕ) → StandsForOne (now ∷ next ∷ []) image
    → StandsForOne ((earlier ++ now ∷ []) ++ next ∷ []) image
now_or_next earlier now next image (inl is) = one_of_first (earlier ++ now ∷ []) (next ∷ []) image (one_of_later earlier (now ∷ []) image (inl is))
now_or_next earlier now next image (inr is) = one_of_later (earlier ++ now ∷ []) (next ∷ []) image is

-- a list more, on the way to it
module _ (left left' : ℕ → List ℕ → Type 0) (until : ℕ) (now next : List Record)
    (step : (since : ℕ) (image : List ℕ) → since ≤ until → left' since image → left since image ⊎ StandsForOne (now ∷ next ∷ []) image) where
  on_the_way : (earlier : List (List Record)) (from : ℕ) (later : List ℕ) → AreRising from later until
      → LeavesFrom left (from ∷ later) (earlier ++ now ∷ []) [] → LeavesFrom left' (from ∷ later) (earlier ++ now ∷ []) (next ∷ [])
  on_the_way [] from [] rise all =
      ((λ image l. ⊎_elim (λ was. none_or (now ∷ []) (next ∷ []) image (all.0 image was)) (λ is. is) (step from image rise l)), tt)
  on_the_way [] from (moment ∷ moments) rise all = absurd all.1
  on_the_way (records ∷ []) from [] rise all = absurd all.1
  on_the_way (records ∷ next' ∷ earlier) from [] rise all = absurd all.1
  on_the_way (records ∷ earlier) from (moment ∷ moments) rise all = (
    λ image l. ⊎_elim (λ was. none_or (records ∷ (earlier ++ now ∷ [])) (next ∷ []) image (all.0 image was))
        (λ is. now_or_next (records ∷ earlier) now next image is)
        (step from image (rises_to from (moment ∷ moments) until rise) l),
    on_the_way earlier moment moments rise.1 all.1,
  )

-- and from a moment of its own
kept_too : (left : ℕ → List ℕ → Type 0) (since : ℕ) (next : List Record) → ((image : List ℕ) → left since image → StandsFor image (texts_of next))
    → (moments : List ℕ) (lists : List (List Record)) → LeavesFrom left moments lists (next ∷ []) → LeavesFrom left (moments ++ since ∷ []) (lists ++ next ∷ []) []
kept_too left since next last [] [] all = ((λ image l. inl (last image l)), tt)
kept_too left since next last [] (records ∷ lists) all = absurd all
kept_too left since next last (moment ∷ moments) [] all = absurd all
kept_too left since next last (moment ∷ moments) (records ∷ lists) all = (
  λ image l. subst (λ (xs : List (List Record)). StandsForOne (records ∷ xs) image) (sym (append-nil (lists ++ next ∷ []))) (all.0 image l),
  kept_too left since next last moments lists all.1,
)

-- ---- disks

module _ {D : Type 0} (moment : D → ℕ) (left_since : D → ℕ → List ℕ → Type 0) (first : D) (start : List Record) where
  -- the lists end with what is kept now
  ends_now : (lists : List (List Record)) (now : List Record) (disk : D) → KeptInTurn moment left_since first start lists now disk
      → (earlier : List (List Record)) × (lists ≡ earlier ++ now ∷ [])
  ends_now lists now disk (from_start kept) = ([], refl)
  ends_now lists now disk (then_next lists' now' next between after run step kept) = (lists', refl)

  -- on the way to another one
  leaves_on : (lists : List (List Record)) (now next : List Record) (until after : D) → KeptInTurn moment left_since first start lists now until
      → LeavesNoOlder moment left_since first until lists [] → LeavesOnly moment left_since until after (StandsForOne (now ∷ next ∷ []))
      → LeavesNoOlder moment left_since first after lists (next ∷ [])
  leaves_on lists now next until after run so_far step =
      let ends = ends_now lists now until run in
      let all : LeavesFrom (left_since until) (moment first ∷ so_far.later) (ends.0 ++ now ∷ []) [] =
      subst (λ (xs : List (List Record)). LeavesFrom (left_since until) (moment first ∷ so_far.later) xs []) ends.1 so_far.each in
      record {
        later = so_far.later;
        rise = rises_so (moment first) so_far.later (moment until) (moment after) so_far.rise step.later;
        each = subst (λ (xs : List (List Record)). LeavesFrom (left_since after) (moment first ∷ so_far.later) xs (next ∷ [])) (sym ends.1)
            (on_the_way (left_since until) (left_since after) (moment until) now next (λ since image le l. step.before since image le l)
            ends.0 (moment first) so_far.later so_far.rise all);
      }

  leaves_no_older : (lists : List (List Record)) (now : List Record) (disk : D) → KeptInTurn moment left_since first start lists now disk
      → LeavesNoOlder moment left_since first disk lists []
  leaves_no_older lists now disk (from_start kept) =
      let here : moment first ≤ moment first = omega arith in
      record { later = []; rise = here; each = ((λ image left. inl (kept image left)), tt) }
  leaves_no_older lists now disk (then_next lists' now' next between after run step kept) =
      let so_far = leaves_no_older lists' now' between run in
      let on = leaves_on lists' now' next between after run so_far step in
      record {
        later = on.later ++ moment after ∷ [];
        rise = rises_on (moment first) on.later (moment after) on.rise;
        each = kept_too (left_since after) (moment after) next kept (moment first ∷ on.later) lists' on.each;
      }

pub none_comes_back : {D : Type 0} (moment : D → ℕ) (left_since : D → ℕ → List ℕ → Type 0) → NoneComesBack moment left_since
none_comes_back moment left_since first until after start now done lists run step =
    leaves_on moment left_since first start lists now done until after run (leaves_no_older moment left_since first start lists now until run) step
