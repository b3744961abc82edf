-- parts of many messages, taken one after another
use Rattle.std.proofs.Common.{◌≡◌, ◌<◌, ◌-◌, ◌∷◌, ◌++◌, ◌⊎◌, inl, inr, [], zero, suc, ℕ, Bool, true, false, List, Option, Some, None, length, drop, map, get_or, slice_get, slice_set, option_and_then, if◌then◌else◌, refl, sym, ap, subst, ◌∙◌, eq-eqb}
use Rattle.std.specs.Option.{option_map, option_to_list, IfSome}
use Rattle.std.specs.List.{All, Any, AllByRecursion}
use Rattle.std.proofs.lemmas.Option.{same_Some}
use Rattle.std.proofs.lemmas.List.{get_or_default}
use Rattle.std.proofs.lemmas.List.Elements.{All-from_recursion, recursion_from_All, All-weaker}
use Rattle.xt_parts.specs.declared.TheConstants.{HALF_JOINED}
use Rattle.message_ids.specs.declared.MessageId.{MessageId}
use Rattle.xt_parts.specs.declared.part.Header.{Header}
use Rattle.xt_parts.specs.declared.joining.Whole.{Whole}
use Rattle.xt_parts.specs.Part.{parts_in, payload_of, part_of}
use Rattle.message_ids.specs.Same.{is_same}
use Rattle.xt_parts.specs.Joining.{HalfJoined, Taken, half_of, without, changed, newest, bytes_of, has_payload, given_or_kept, added, continued, joined_to, after_part}
use Rattle.xt_parts.specs.Runs.{Joined, joined, with_whole, CanBeCut, whole_of}
use Rattle.xt_parts.specs.Laws.{NeverMixes}
use Rattle.message_ids.proofs.SameId.{same_id}
use Rattle.xt_parts.proofs.Taking.{taken_of, more, never_else}
use Rattle.xt_parts.proofs.Running.{header_at, half_at, reads_part, begins}

module _ (sent : MessageId → List ℕ) (Came : MessageId → Type 0) where
  -- a half joined message that has payloads of the one message of its id alone
  pub record Own (half : HalfJoined) : Type 0 where
    pub came : Came half.id
    pub seen : List ℕ
    pub size : half.size ≡ length (sent half.id)
    pub taken : half.taken ≡ taken_of (sent half.id) seen

  -- a message that was sent
  pub record OwnWhole (whole : Whole) : Type 0 where
    pub id : MessageId
    pub came : Came id
    pub is : whole ≡ whole_of id (sent id)

  abbrev pub AllOwn : List HalfJoined → Type 0
  AllOwn held = AllByRecursion Own held

  own-append : (held : List HalfJoined) (half : HalfJoined) → AllOwn held → Own half → AllOwn (held ++ half ∷ [])
  own-append [] half all own = (own, tt)
  own-append (first ∷ held) half all own = (all.0, own-append held half all.1 own)

  own-drop : (n : ℕ) (held : List HalfJoined) → AllOwn held → AllOwn (drop n held)
  own-drop zero held all = all
  own-drop (suc n) [] all = tt
  own-drop (suc n) (first ∷ held) all = own-drop n held all.1

  own-without : (held : List HalfJoined) (id : MessageId) → AllOwn held → AllOwn (without held id)
  own-without [] id all = tt
  own-without (first ∷ held) id all = at (is_same first.id id) (own-without held id all.1)
    where
      at : (b : Bool) → AllOwn (without held id) → AllOwn (if b then held else first ∷ without held id)
      at true rest = all.1
      at false rest = (all.0, rest)

  own-changed : (held : List HalfJoined) (id : MessageId) (new : HalfJoined) → AllOwn held → Own new →
      AllOwn (changed held id new)
  own-changed [] id new all own = tt
  own-changed (first ∷ held) id new all own = at (is_same first.id id) (own-changed held id new all.1 own)
    where
      at : (b : Bool) → AllOwn (changed held id new) → AllOwn (if b then new ∷ held else first ∷ changed held id new)
      at true rest = (own, all.1)
      at false rest = (all.0, rest)

  own-found : (held : List HalfJoined) (id : MessageId) (half : HalfJoined) → AllOwn held → half_of held id ≡ Some half →
      Own half × (half.id ≡ id)
  own-found [] id half all found = absurd (cc)
  own-found (first ∷ held) id half all found =
      at (is_same first.id id) refl found (own-found held id half all.1)
    where
      at : (b : Bool) → is_same first.id id ≡ b → (if b then Some first else half_of held id) ≡ Some half →
          (half_of held id ≡ Some half → Own half × (half.id ≡ id)) → Own half × (half.id ≡ id)
      at true same here rest =
          let it : first ≡ half = same_Some first half here in
          let P : HalfJoined → Type 0 = λ h. Own h × (h.id ≡ id) in
          subst P it (all.0, same_id first.id id same)
      at false same later rest = rest later

  -- a step that keeps messages apart
  pub record Apart (after : Option Taken) : Type 0 where
    pub taken : Taken
    pub is : after ≡ Some taken
    pub held : AllOwn taken.held
    pub whole : IfSome taken.whole OwnWhole

  module _ (id : MessageId) (came : Came id) where
    apart-given_or_kept : (forgotten kept : List HalfJoined) (bytes : Option (List ℕ)) → AllOwn forgotten → AllOwn kept →
        (bytes ≡ None) ⊎ (bytes ≡ Some (sent id)) → Apart (Some (given_or_kept id forgotten kept bytes))
    apart-given_or_kept forgotten kept bytes all_forgotten all_kept (inl none) =
        rw none (record { taken = record { held = kept; whole = None }; is = refl; held = all_kept; whole = tt })
    apart-given_or_kept forgotten kept bytes all_forgotten all_kept (inr some) =
        rw some (record {
          taken = record { held = forgotten; whole = Some (whole_of id (sent id)) };
          is = refl;
          held = all_forgotten;
          whole = record { id = id; came = came; is = refl };
        })

    apart-added : (held : List HalfJoined) (half : HalfJoined) (index : ℕ) → AllOwn held → Own half → half.id ≡ id →
        index < parts_in (length (sent id)) →
        Apart (continued held half (record { id = id; index = index; size = length (sent id) }) (payload_of (sent id) index))
    apart-added held half index all own same below =
        rw (eq-eqb half.size (length (sent id)) size_is) (of_index (has_payload (slice_get half.taken index)))
      where
        header : Header
        header = record { id = id; index = index; size = length (sent id) }

        size_is : half.size ≡ length (sent id)
        size_is = own.size ∙ ap (λ i. length (sent i)) same

        set_is : slice_set half.taken index (Some (payload_of (sent id) index)) ≡ taken_of (sent id) (own.seen ++ index ∷ [])
        set_is =
            ap (λ taken. slice_set taken index (Some (payload_of (sent id) index)))
            (own.taken ∙ ap (λ i. taken_of (sent i) own.seen) same)
            ∙ more (sent id) own.seen index below

        own_more : Own (record half { taken = slice_set half.taken index (Some (payload_of (sent id) index)) })
        own_more = record {
          came = own.came;
          seen = own.seen ++ index ∷ [];
          size = own.size;
          taken = set_is ∙ ap (λ i. taken_of (sent i) (own.seen ++ index ∷ [])) (sym same);
        }

        of_index : (b : Bool) →
            Apart (Some (if b then record { held = held; whole = None } else added held half header (payload_of (sent id) index)))
        of_index true = record { taken = record { held = held; whole = None }; is = refl; held = all; whole = tt }
        of_index false =
            let P : List (Option (List ℕ)) → Type 0 = λ taken. (bytes_of taken ≡ None) ⊎ (bytes_of taken ≡ Some (sent id)) in
            apart-given_or_kept (without held id)
            (changed held id (record half { taken = slice_set half.taken index (Some (payload_of (sent id) index)) }))
            (bytes_of (slice_set half.taken index (Some (payload_of (sent id) index))))
            (own-without held id all)
            (own-changed held id (record half { taken = slice_set half.taken index (Some (payload_of (sent id) index)) }) all own_more)
            (subst P (sym set_is) (never_else (sent id) (own.seen ++ index ∷ [])))

    module _ (can : CanBeCut id (sent id)) (held : List HalfJoined) (all : AllOwn held)
        (index : ℕ) (below : index < parts_in (length (sent id))) where
      apart-begun : half_of held id ≡ None → Apart (after_part held (part_of id (sent id) index))
      apart-begun unknown =
          let own : Own (half_at id (sent id) can (index ∷ [])) = record { came = came; seen = index ∷ []; size = refl; taken = refl } in
          subst Apart (sym (begins id (sent id) can held unknown index below))
          (apart-given_or_kept held (newest (held ++ half_at id (sent id) can (index ∷ []) ∷ [])) (bytes_of (taken_of (sent id) (index ∷ [])))
          all (own-drop (length (held ++ half_at id (sent id) can (index ∷ []) ∷ []) - HALF_JOINED) _
          (own-append held (half_at id (sent id) can (index ∷ [])) all own))
          (never_else (sent id) (index ∷ [])))

      apart-continued : (half : HalfJoined) → half_of held id ≡ Some half → Apart (after_part held (part_of id (sent id) index))
      apart-continued half found =
          let own = own-found held id half all found in
          subst Apart
          (sym (ap (option_and_then (λ part. joined_to held (half_of held part.0.id) part.0 part.1)) (reads_part id (sent id) can index below)
          ∙ ap (λ here. joined_to held here (header_at id (sent id) index) (payload_of (sent id) index)) found))
          (apart-added held half index all own.0 own.1 below)

      pub apart-part : Apart (after_part held (part_of id (sent id) index))
      apart-part = of_found (half_of held id) refl
        where
          of_found : (found : Option HalfJoined) → half_of held id ≡ found → Apart (after_part held (part_of id (sent id) index))
          of_found None is = apart-begun is
          of_found (Some half) is = apart-continued half is

  -- a run that keeps messages apart
  pub record AllApart (after : Option Joined) : Type 0 where
    pub joined : Joined
    pub is : after ≡ Some joined
    pub wholes : AllByRecursion OwnWhole joined.wholes

  own-wholes : (whole : Option Whole) (wholes : List Whole) → IfSome whole OwnWhole → AllByRecursion OwnWhole wholes →
      AllByRecursion OwnWhole (option_to_list whole ++ wholes)
  own-wholes None wholes own all = all
  own-wholes (Some whole) wholes own all = (own, all)

  abbrev pub Comes : MessageId × ℕ → Type 0
  Comes part = Came part.0 × CanBeCut part.0 (sent part.0) × (part.1 < parts_in (length (sent part.0)))

  pub apart-all : (parts : List (MessageId × ℕ)) (held : List HalfJoined) → AllOwn held → AllByRecursion Comes parts →
      AllApart (joined held (map (λ part. part_of part.0 (sent part.0) part.1) parts))
  apart-all [] held all each = record { joined = record { held = held; wholes = [] }; is = refl; wholes = tt }
  apart-all (part ∷ parts) held all each =
      let step = apart-part part.0 each.0.0 each.0.1 held all part.1 each.0.2 in
      let rest = apart-all parts step.taken.held step.held each.1 in
      record {
        joined = with_whole step.taken.whole rest.joined;
        is =
            ap (option_and_then (λ taken. option_map (with_whole taken.whole)
            (joined taken.held (map (λ part. part_of part.0 (sent part.0) part.1) parts)))) step.is
            ∙ ap (option_map (with_whole step.taken.whole)) rest.is;
        wholes = own-wholes step.taken.whole rest.joined.wholes step.whole rest.wholes;
      }

pub never_mixes : NeverMixes
never_mixes sent parts each =
    let Came : MessageId → Type 0 = λ id. Any (λ (part : MessageId × ℕ). part.0 ≡ id) parts in
    let comes : All (Comes sent Came) parts = λ k d below.
    let can = each k d below in
    ((k, get_or parts k d, below, get_or_default parts k (get_or parts k d) d below, refl), can.0, can.1) in
    let after = apart-all sent Came parts [] tt (recursion_from_All (Comes sent Came) parts comes) in
    rw after.is (All-weaker (OwnWhole sent Came) (λ whole. Any (λ part. whole ≡ whole_of part.0 (sent part.0)) parts)
    (λ whole own. (
      own.came.0,
      own.came.1,
      own.came.2,
      own.came.3,
      own.is ∙ ap (λ id. whole_of id (sent id)) (sym own.came.4),
    ))
    after.joined.wholes (All-from_recursion (OwnWhole sent Came) after.joined.wholes after.wholes))
