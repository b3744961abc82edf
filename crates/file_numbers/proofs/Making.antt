-- which files are made by a request: those that were there, and at most one of the next number, with its first list
use Rattle.std.proofs.Common.{◌≡◌, ◌∙◌, ℕ, ◌+◌, ◌≤◌, ◌<◌, inl, inr, refl, sym, ap, subst, Bool, true, false, cond, arith}
use Rattle.std.specs.Prelude.{◌⊎◌, Option, Some, None, List, [], ◌∷◌, nat_eq, nat_lt, length}
use Rattle.std.specs.Map.{lookup}
use Rattle.std.proofs.lemmas.Bool.{eqb-true, eq-eqb}
use Rattle.indexmap.specs.IndexMap.{insert_entry}
use Rattle.xt_base.specs.declared.ids.NodeId.{NodeId}
use Rattle.xt_base.specs.declared.ids.FileId.{FileId}
use Rattle.xt_messages.specs.declared.file.Kind.{Kind}
use Rattle.xt_messages.specs.declared.file.Location.{Location}
use Rattle.xt_messages.specs.declared.meta.MetaReq.{MetaReq}
use Rattle.xt_messages.specs.declared.meta.MetaReq.TheVariants as ask
use Rattle.xt_messages.specs.declared.meta.MetaAnswer.{MetaAnswer}
use Rattle.volume_rows.specs.declared.Picked.{Picked}
use Rattle.volume_rows.specs.declared.Picked.TheVariants as place
use Rattle.volume_rows.specs.declared.Content.{Content}
use Rattle.volume_rows.specs.declared.Content.TheVariants as content
use Rattle.volume_rows.specs.declared.Stored.{Stored}
use Rattle.volume_rows.specs.Paths.{Path, path_in, same_path}
use Rattle.volume_rows.specs.Rows.{Row, Volumes, entry_in, entry_at}
use Rattle.volume_rows.specs.Grants.{volume_id, file_id, file_at, stored_of, stored_in}
use Rattle.server_rows.specs.declared.MadeFile.{MadeFile}
use Rattle.server_rows.specs.Requests.{is_done, new_file, noted, ends_at, ended, made_by, made_after, placed, nodes_in, location_on}
use Rattle.server_rows.specs.Naming.{Made, IsMadeAs, IsNamed, AreNamed, RisesTo}
use Rattle.file_numbers.proofs.Rows.{same_is}

-- ---- the files by their numbers

abbrev found : Made → ℕ → Option MadeFile
found es number = lookup (nat_eq number) es

not_both : (a b c : ℕ) → nat_eq a b ≡ false → nat_eq c b ≡ true → nat_eq c a ≡ true → ⊥
not_both a b c differ one other =
    let same : a ≡ b = sym (eqb-true c a other) ∙ eqb-true c b one in
    let so : nat_eq a b ≡ true = eq-eqb a b same in
    cc (so, differ)

-- what is found once this is put under a number
found_put : (es : Made) (number q : ℕ) (m : MadeFile) → found (insert_entry nat_eq es number m) q ≡ cond (nat_eq q number) (Some m) (found es q)
found_put [] number q m = refl
found_put (e ∷ es) number q m = go (nat_eq number e.0) refl (found_put es number q m) where
  here : number ≡ e.0 → cond (nat_eq q e.0) (Some m) (found es q) ≡ cond (nat_eq q number) (Some m) (cond (nat_eq q e.0) (Some e.1) (found es q))
  here same = ap (λ (n : ℕ). cond (nat_eq q n) (Some m) (found es q)) (sym same) ∙ twice (nat_eq q number) refl where
    twice : (b : Bool) → nat_eq q number ≡ b → cond b (Some m) (found es q) ≡ cond b (Some m) (cond (nat_eq q e.0) (Some e.1) (found es q))
    twice true is = refl
    twice false is = ap (λ (b : Bool). cond b (Some e.1) (found es q)) (sym (ap (nat_eq q) (sym same) ∙ is))

  swap : nat_eq number e.0 ≡ false → (a b : Bool) → nat_eq q e.0 ≡ a → nat_eq q number ≡ b → cond a (Some e.1) (cond b (Some m) (found es q)) ≡ cond b (Some m) (cond a (Some e.1) (found es q))
  swap differ true true one other = absurd (not_both number e.0 q differ one other)
  swap differ true false one other = refl
  swap differ false b one other = refl

  go : (b : Bool) → nat_eq number e.0 ≡ b → found (insert_entry nat_eq es number m) q ≡ cond (nat_eq q number) (Some m) (found es q)
      → found (cond b ((e.0, m) ∷ es) (e ∷ insert_entry nat_eq es number m)) q ≡ cond (nat_eq q number) (Some m) (cond (nat_eq q e.0) (Some e.1) (found es q))
  go true same later = here (eqb-true number e.0 same)
  go false differ later = ap (λ (o : Option MadeFile). cond (nat_eq q e.0) (Some e.1) o) later ∙ swap differ (nat_eq q e.0) (nat_eq q number) refl refl

-- what is made so once this is put: what was, or this
made_put : (es : Made) (number : ℕ) (m : MadeFile) (file : FileId) (at : Location) → IsMadeAs (insert_entry nat_eq es number m) file at
    → ((file.number ≡ number) × (m.file ≡ file) × (m.location ≡ at)) ⊎ IsMadeAs es file at
made_put es number m file at is = go (nat_eq file.number number) refl (sym (found_put es number file.number m) ∙ is.there)
  where
    go : (b : Bool) → nat_eq file.number number ≡ b → cond b (Some m) (found es file.number) ≡ Some is.which
        → ((file.number ≡ number) × (m.file ≡ file) × (m.location ≡ at)) ⊎ IsMadeAs es file at
    go true same there =
        let this : m ≡ is.which = cc in
        inl (eqb-true file.number number same, ap (λ (x : MadeFile). x.file) this ∙ is.same, ap (λ (x : MadeFile). x.location) this ∙ is.place)
    go false differ there = inr (record { which = is.which; there = there; same = is.same; place = is.place })

-- ---- what a request makes

-- a file that is made is one of the next number, with its first list
abbrev pub IsNew : ℕ → FileId → Location → Type 0
IsNew next file at = (file.number ≡ next) × (at.version ≡ 1)

module _ (file : FileId) (at : Location) (es : Made) where
  abbrev Was : ℕ → Type 0
  Was next = IsMadeAs es file at ⊎ IsNew next file at

  first_list : (kind : Kind) (n stripe : ℕ) (nodes : List NodeId) (location : Location) → placed kind n stripe nodes ≡ place.On location → location.version ≡ 1
  first_list kind n stripe nodes location is = go (nat_lt (length nodes) n) is
    where
      go : (b : Bool) → cond b (place.TooFew (length nodes)) (place.On (location_on kind stripe nodes)) ≡ place.On location → location.version ≡ 1
      go true is = absurd (cc)
      go false is = (let same : location_on kind stripe nodes ≡ location = cc in sym (ap (λ (l : Location). l.version) same))

  noted_was : (next : ℕ) (path : Option Path) (pick : Picked) → ((location : Location) → pick ≡ place.On location → location.version ≡ 1)
      → IsMadeAs (noted (new_file path next) pick es) file at → Was next
  noted_was next None pick first is = inl is
  noted_was next (Some []) pick first is = inl is
  noted_was next (Some (volume ∷ names)) (place.TooFew have) first is = inl is
  noted_was next (Some (volume ∷ names)) (place.On location) first is =
      elim (made_put es next (record { file = record { volume = volume_id volume; number = next }; location = location; unlinked = None }) file at is) [
        | inl new ↦ inr (new.0, sym (ap (λ (l : Location). l.version) new.2) ∙ first location refl)
        | inr was ↦ inl was
      ]

  ended_was : (next now : ℕ) (gone : Option FileId) → IsMadeAs (ended now gone es) file at → Was next
  ended_was next now None is = inl is
  ended_was next now (Some gone) is = by (found es gone.number) refl is
    where
      by : (o : Option MadeFile) → found es gone.number ≡ o → IsMadeAs (ends_at now gone o es) file at → Was next
      by None there is = inl is
      by (Some m) there is =
          elim (made_put es gone.number (record m { unlinked = Some now }) file at is) [
            | inl again ↦ inl (record { which = m; there = ap (found es) again.0 ∙ there; same = again.1; place = again.2 })
            | inr was ↦ inl was
          ]

  by_was : (volumes : Volumes) (now : ℕ) (nodes : Option (List NodeId)) (request : MetaReq) → IsMadeAs (made_by volumes now nodes request es) file at → Was volumes.next
  by_was volumes now nodes (ask.Create path mode kind n stripe) is =
      noted_was volumes.next (path_in path) (placed kind n stripe (nodes_in nodes)) (λ location picked. first_list kind n stripe (nodes_in nodes) location picked) is
  by_was volumes now nodes (ask.Unlink path) is = ended_was volumes.next now (file_at volumes (path_in path)) is
  by_was volumes now nodes _ is = inl is

  -- what is made so after a request was so before it, or is the file that it makes
  pub made_before : (volumes : Volumes) (now : ℕ) (nodes : Option (List NodeId)) (request : MetaReq) (told : MetaAnswer) → IsMadeAs (made_after volumes now nodes request told es) file at
      → IsMadeAs es file at ⊎ IsNew volumes.next file at
  made_before volumes now nodes request told is = go (is_done told) is
    where
      go : (b : Bool) → IsMadeAs (cond b (made_by volumes now nodes request es) es) file at → Was volumes.next
      go true is = by_was volumes now nodes request is
      go false is = inl is

-- ---- files that were made

-- the number of a file that was made is below the next one
found_below : (least next : ℕ) (es : Made) (number : ℕ) (m : MadeFile) → RisesTo least next es → found es number ≡ Some m → number < next
found_below least next [] number m rises is = absurd (cc)
found_below least next (e ∷ es) number m rises is = go (nat_eq number e.0) refl is (λ h. found_below (e.0 + 1) next es number m rises.2 h)
  where
    within : (least : ℕ) (es : Made) → RisesTo least next es → least ≤ next
    within least [] rises = rises
    within least (e ∷ es) rises = let later = within (e.0 + 1) es rises.2 in omega (arith, later, rises.1)

    go : (b : Bool) → nat_eq number e.0 ≡ b → cond b (Some e.1) (found es number) ≡ Some m → (found es number ≡ Some m → number < next) → number < next
    go true same is later = let at = eqb-true number e.0 same in let below = within (e.0 + 1) es rises.2 in omega (arith, at, below)
    go false same is later = later is

pub made_below : (next : ℕ) (es : Made) (file : FileId) (at : Location) → RisesTo 1000000 next es → IsMadeAs es file at → file.number < next
made_below next es file at rises is = found_below 1000000 next es file.number is.which rises is.there

-- what stands at a path as a file was made so
pub named_file : (es : Made) (rows : List Row) (path : Path) (stored : Stored) → AreNamed es rows → stored_in (entry_at rows path) ≡ Some stored → IsMadeAs es (file_id path stored) stored.location
named_file es rows [] stored named is = absurd (cc)
named_file es rows (name ∷ names) stored named is = within rows named is
  where
    by_content : (what : Content) → IsNamed es (name ∷ names) what → stored_of what ≡ Some stored → IsMadeAs es (file_id (name ∷ names) stored) stored.location
    by_content content.Directory named is = absurd (cc)
    by_content (content.File other) named is =
        (let same : other ≡ stored = cc in subst (λ (s : Stored). IsMadeAs es (file_id (name ∷ names) s) s.location) same named)

    within : (rows : List Row) → AreNamed es rows → stored_in (entry_in rows (name ∷ names)) ≡ Some stored → IsMadeAs es (file_id (name ∷ names) stored) stored.location
    within [] named is = absurd (cc)
    within (r ∷ rs) named is = go (same_path r.path (name ∷ names)) refl is (λ h. within rs named.1 h)
      where
        go : (b : Bool) → same_path r.path (name ∷ names) ≡ b → stored_in (cond b (Some r.entry) (entry_in rs (name ∷ names))) ≡ Some stored
            → (stored_in (entry_in rs (name ∷ names)) ≡ Some stored → IsMadeAs es (file_id (name ∷ names) stored) stored.location)
            → IsMadeAs es (file_id (name ∷ names) stored) stored.location
        go true same is later = by_content r.entry.content (subst (λ (p : Path). IsNamed es p r.entry.content) (same_is r.path (name ∷ names) same) named.0) is
        go false same is later = later is

-- the place where a file was made is one place
pub one_place : (es : Made) (file : FileId) (a b : Location) → IsMadeAs es file a → IsMadeAs es file b → a ≡ b
one_place es file a b first second =
    (let same : Some first.which ≡ Some second.which = sym first.there ∙ second.there in
    let one : first.which ≡ second.which = cc in
    sym first.place ∙ ap (λ (m : MadeFile). m.location) one ∙ second.place)
