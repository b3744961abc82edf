-- lists that come one after the other, with one more
use Rattle.std.proofs.Common.{◌≡◌, ◌∙◌, ℕ, ◌+◌, inl, inr, List, [], ◌∷◌, ◌++◌, length, refl, ap, sym, subst, arith, Option, Some, None, Bool, true, false}
use Rattle.std.specs.Prelude.{if◌then◌else◌}
use Rattle.std.proofs.lemmas.List.{append-nil}
use Rattle.std.proofs.lemmas.List.Elements.{filter_map-append}
use Rattle.xt_base.specs.declared.ids.FileId.{FileId}
use Rattle.xt_messages.specs.declared.file.Location.{Location}
use Rattle.xt_messages.specs.declared.record.Record.{Record}
use Rattle.lease_safety.specs.State.{Has}
use Rattle.change_rows.specs.declared.Choice.{Choice}
use Rattle.change_rows.specs.Coordinating.{Running}
use Rattle.list_changes.specs.Lists.{in_force, placed_by}
use Rattle.file_numbers.specs.Chosen.{list_chosen, lists_chosen, version_listed, versions_listed, IsNextList, FollowOn, last_of, CountUp, AreAsMany, Leads, Stands}
use Rattle.file_numbers.specs.Laws.{IsOneOf, IsInForce}

-- ---- one more

pub follow_push : (made : Location) (chosen : List Location) (new : Location) → FollowOn made chosen → IsNextList (last_of made chosen) new → FollowOn made (chosen ++ new ∷ [])
follow_push made [] new follow next = (next, tt)
follow_push made (list ∷ later) new follow next = (follow.0, follow_push list later new follow.1 next)

pub last_push : (made : Location) (chosen : List Location) (new : Location) → last_of made (chosen ++ new ∷ []) ≡ new
last_push made [] new = refl
last_push made (list ∷ later) new = last_push list later new

pub last_version : (made : Location) (chosen : List Location) → FollowOn made chosen → (last_of made chosen).version ≡ made.version + length chosen
last_version made [] follow = omega arith
last_version made (list ∷ later) follow =
    let rest = last_version list later follow.1 in
    let next = follow.0.version in
    omega (arith, rest, next)

pub up_push : (from : ℕ) (numbers : List ℕ) (new : ℕ) → CountUp from numbers → new ≡ from + length numbers → CountUp from (numbers ++ new ∷ [])
up_push from [] new up is = (omega (arith, is), tt)
up_push from (number ∷ later) new up is = (up.0, up_push (from + 1) later new up.1 (omega (arith, is)))

length_push : {A : Type 0} (xs : List A) (x : A) → length (xs ++ x ∷ []) ≡ length xs + 1
length_push [] x = omega arith
length_push (y ∷ ys) x = let rest = length_push ys x in omega (arith, rest)

pub pushed_length : (xs : List Location) (x : Location) → length (xs ++ x ∷ []) ≡ length xs + 1
pushed_length xs x = length_push xs x

pub pushed_count : (xs : List ℕ) (x : ℕ) → length (xs ++ x ∷ []) ≡ length xs + 1
pushed_count xs x = length_push xs x

-- ---- of a record more

pub chosen_more : (file : FileId) (records : List Record) (rec : Record) → lists_chosen file (records ++ rec ∷ []) ≡ lists_chosen file records ++ lists_chosen file (rec ∷ [])
chosen_more file records rec = filter_map-append (list_chosen file) records (rec ∷ [])

pub listed_more : (file : FileId) (records : List Record) (rec : Record) → versions_listed file (records ++ rec ∷ []) ≡ versions_listed file records ++ versions_listed file (rec ∷ [])
listed_more file records rec = filter_map-append (version_listed file) records (rec ∷ [])

pub chosen_same : (file : FileId) (records : List Record) (rec : Record) → lists_chosen file (rec ∷ []) ≡ [] → lists_chosen file (records ++ rec ∷ []) ≡ lists_chosen file records
chosen_same file records rec none =
    chosen_more file records rec ∙ ap (λ (more : List Location). lists_chosen file records ++ more) none ∙ append-nil (lists_chosen file records)

pub listed_same : (file : FileId) (records : List Record) (rec : Record) → versions_listed file (rec ∷ []) ≡ [] → versions_listed file (records ++ rec ∷ []) ≡ versions_listed file records
listed_same file records rec none =
    listed_more file records rec ∙ ap (λ (more : List ℕ). versions_listed file records ++ more) none ∙ append-nil (versions_listed file records)

-- ---- the list in force

module _ (made : Location) (chosen : List Location) (listed : List ℕ) (follow : FollowOn made chosen) where
  last_one : (xs : List Location) (start : Location) → IsOneOf start xs (last_of start xs)
  last_one [] start = inl refl
  last_one (x ∷ xs) start = elim (last_one xs x) [ inl e ↦ inr (inl e) | inr h ↦ inr (inr h) ]

  -- what is found in a front is found
  in_front : (front : List Location) (x list : Location) → IsOneOf made front list → IsOneOf made (front ++ x ∷ []) list
  in_front front x list (inl e) = inl e
  in_front front x list (inr h) = inr (there front h)
    where
      there : (front : List Location) → Has list front → Has list (front ++ x ∷ [])
      there [] h = absurd h
      there (y ∷ ys) (inl e) = inl e
      there (y ∷ ys) (inr h) = inr (there ys h)

  at_end : (front : List Location) (x : Location) → Has x (front ++ x ∷ [])
  at_end [] x = inl refl
  at_end (y ∷ ys) x = inr (at_end ys x)

  led_force : (r : Running) (o : Option Choice) → r.choice ≡ o → Leads made chosen listed r o → IsOneOf made chosen (in_force r o)
  led_force r None is leads = subst (IsOneOf made chosen) (sym leads.0) (last_one chosen made)
  led_force r (Some choice) is leads = at r.listed
    where
      at : (t : Bool) → IsOneOf made chosen (if t then choice.location else r.change.before)
      at true = subst (λ (xs : List Location). IsOneOf made xs choice.location) (sym leads.1) (inr (at_end leads.0 choice.location))
      at false =
          subst (λ (xs : List Location). IsOneOf made xs r.change.before) (sym leads.1)
          (in_front leads.0 choice.location r.change.before (subst (IsOneOf made leads.0) (sym leads.2) (last_one leads.0 made)))

  pub force_one : (rows : ℕ) (o : Option Running) → Stands made chosen listed rows o → IsOneOf made chosen (placed_by made o)
  force_one rows None stands = inl refl
  force_one rows (Some r) stands = led_force r r.choice refl stands

  front_follows : (start : Location) (front : List Location) (x : Location) → FollowOn start (front ++ x ∷ []) → FollowOn start front × IsNextList (last_of start front) x
  front_follows start [] x follow = (tt, follow.0)
  front_follows start (y ∷ ys) x follow = (let rest = front_follows y ys x follow.1 in ((follow.0, rest.0), rest.1))

  led_version : (r : Running) (o : Option Choice) → r.choice ≡ o → Leads made chosen listed r o → IsInForce made listed (in_force r o)
  led_version r None is leads =
      let last = last_version made chosen follow in
      let same : r.change.before.version ≡ (last_of made chosen).version = ap (λ (l : Location). l.version) leads.0 in
      let many = leads.1 in
      omega (arith, last, same, many)
  led_version r (Some choice) is leads = at r.listed leads.3
    where
      split : FollowOn made leads.0 × IsNextList (last_of made leads.0) choice.location
      split = front_follows made leads.0 choice.location (subst (FollowOn made) leads.1 follow)

      many : length chosen ≡ length leads.0 + 1
      many = ap length leads.1 ∙ pushed_length leads.0 choice.location

      last : (last_of made leads.0).version ≡ made.version + length leads.0
      last = last_version made leads.0 split.0

      at : (t : Bool) → AreAsMany chosen listed t → IsInForce made listed (if t then choice.location else r.change.before)
      at true as_many = (let next = split.1.version in omega (arith, last, many, next, as_many))
      at false as_many =
          (let same : r.change.before.version ≡ (last_of made leads.0).version = ap (λ (l : Location). l.version) leads.2 in
          omega (arith, last, many, same, as_many))

  -- the version of the list in force of a file with a change
  pub force_version : (rows : ℕ) (r : Running) → Stands made chosen listed rows (Some r) → IsInForce made listed (placed_by made (Some r))
  force_version rows r stands = led_version r r.choice refl stands
