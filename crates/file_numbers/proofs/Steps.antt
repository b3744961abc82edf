-- the lists that were chosen for each file, after each record of a metadata server
use Rattle.std.proofs.Common.{◌≡◌, ◌∙◌, ℕ, ◌+◌, ◌≤◌, inl, inr, List, [], ◌∷◌, ◌++◌, length, refl, ap, sym, subst, arith, Option, Some, None, Bool, true, false, cond}
use Rattle.std.specs.Prelude.{◌⊎◌, ◌==◌, max, Result, Ok, Err, map, not, if◌then◌else◌}
use Rattle.std.specs.Option.{option_to_list, option_map, is_some}
use Rattle.std.specs.List.{fold, cons_option}
use Rattle.std.proofs.lemmas.Bool.{eqb-true, le-leb}
use Rattle.std.proofs.lemmas.List.{append-nil}
use Rattle.std.proofs.lemmas.List.Sums.{fold-append}
use Rattle.xt_base.specs.TimeSettings.{TimeSettings}
use Rattle.xt_base.specs.declared.ids.NodeId.{NodeId}
use Rattle.xt_base.specs.declared.ids.FileId.{FileId}
use Rattle.xt_base.specs.declared.ids.Boot.{Boot}
use Rattle.xt_messages.specs.declared.file.Location.{Location}
use Rattle.xt_messages.specs.declared.meta.MetaReq.{MetaReq}
use Rattle.xt_messages.specs.declared.meta.MetaReq.TheVariants as ask
use Rattle.xt_messages.specs.declared.meta.MetaRefusal.{MetaRefusal}
use Rattle.xt_messages.specs.declared.meta.MetaAnswer.{MetaAnswer}
use Rattle.xt_messages.specs.declared.meta.MetaAnswer.TheVariants as answer
use Rattle.reply_cache.specs.declared.Kept.{Kept as KeptAnswer}
use Rattle.xt_messages.specs.declared.event.Event.{Event}
use Rattle.xt_messages.specs.declared.event.Event.TheVariants as event
use Rattle.xt_messages.specs.declared.record.Logged.{Logged}
use Rattle.xt_messages.specs.declared.record.Logged.TheVariants as logged
use Rattle.xt_messages.specs.declared.record.Record.{Record}
use Rattle.xt_messages.specs.declared.record.Record.TheVariants as kept
use Rattle.xt_protocol.specs.FileIds.{is_file}
use Rattle.xt_protocol.proofs.Folds.{file-equal}
use Rattle.lease_safety.specs.State.{Has}
use Rattle.volume_rows.specs.declared.Asker.{Asker}
use Rattle.volume_rows.specs.declared.Stored.{Stored}
use Rattle.volume_rows.specs.Paths.{Path, path_in}
use Rattle.volume_rows.specs.Rows.{Volumes, entry_at}
use Rattle.volume_rows.specs.Requests.{has_names, on_path, file_unlinked}
use Rattle.volume_rows.specs.Grants.{file_id, file_of, file_at, stored_in}
use Rattle.server_rows.specs.Requests.{nodes_in, is_done}
use Rattle.server_rows.specs.Metadata.{Catalogue}
use Rattle.server_rows.specs.Naming.{IsMadeAs, Holds, Stays}
use Rattle.change_rows.specs.declared.Choice.{Choice}
use Rattle.change_rows.specs.Changes.{ChangeState, new_change, choice_at}
use Rattle.change_rows.specs.Coordinating.{Running, file_of as file_in, running_of, version_of, version_to_come, with_running, without_file, with_choice, with_listed, on_running, after_choice, after_listing, chosen, listed}
use Rattle.list_changes.specs.Lists.{Beginning, in_force, placed_by, location_in, change_refusal, beginning_of, begins_unless, beginning}
use Rattle.list_changes.specs.Requests.{beginning_on, outcome_with, is_recorded_with, is_spent_with, begun_by, ended_by, running_after}
use Rattle.list_changes.specs.Recorded.{Recorded, nothing_recorded, uncounted, catalogue_after, after_request_with, after_meta_with, after_record_with, recorded_of}
use Rattle.list_changes.specs.Steps.{ChangingMrc, known_in, step_with_changes}
use Rattle.list_changes.specs.Laws.{Rise, IsInOrder, IsChosen, IsChoiceOf, StepKeeps, keeps_nothing, keeps_request, keeps_choice, keeps_list, without_clients, Grants, AnswersGrant, GrantsStay}
use Rattle.list_changes.proofs.Order.{found, has_middle, has_put, has_left, find_put, find_over}
use Rattle.list_changes.proofs.Following.{begins_at, own_choice}
use Rattle.list_changes.proofs.Sound.{start_in_order}
use Rattle.list_changes.proofs.Telling.{all_told}
use Rattle.list_changes.proofs.Keeping.{step_keeps}
use Rattle.list_changes.proofs.Granted.{step_grants}
use Rattle.list_changes.proofs.Uncounted.{untold, find_untold}
use Rattle.file_numbers.specs.Numbers.{NumbersFit, rows_numbered}
use Rattle.file_numbers.specs.Chosen.{lists_chosen, versions_listed, IsNextList, FollowOn, last_of, CountUp, AreAsMany, Leads, Stands}
use Rattle.file_numbers.specs.Laws.{IsMade, AreFirst, IsUntouched, FileFits, Fit, ListsFit}
use Rattle.file_numbers.proofs.Rows.{count_there, numbered_there}
use Rattle.file_numbers.proofs.Requests.{Goes, goes_fit, goes_fewer, request_goes, unlinked_gone, fewer}
use Rattle.file_numbers.proofs.Making.{IsNew, made_before, made_below, named_file, one_place}
use Rattle.file_numbers.proofs.Lists.{follow_push, last_push, last_version, up_push, pushed_length, pushed_count, chosen_more, listed_more, chosen_same, listed_same}

-- ---- a file's change before and after a record

-- the file's change is as it was, as far as it is told
abbrev SameStand : Option Running → Option Running → Type 0
SameStand None None = Unit {0}
SameStand None (Some r) = ⊥
SameStand (Some q) None = ⊥
SameStand (Some q) (Some r) = (q.change.before ≡ r.change.before) × (q.choice ≡ r.choice) × (q.listed ≡ r.listed)

same_stand : (o : Option Running) → SameStand o o
same_stand None = tt
same_stand (Some r) = (refl, refl, refl)

-- What a record does to the change of a file that was made there: nothing; a change begins at the list in force, where a row is of the file
-- and no change of it runs; a list is chosen; the list of its choice becomes the file's; or no row is of its number any more.
pub data Turns (old new : Recorded) (rec : Record) (file : FileId) (place : Location) : Type 0 where
  goes_on : SameStand (running_of new.running file) (running_of old.running file) → lists_chosen file (rec ∷ []) ≡ [] → versions_listed file (rec ∷ []) ≡ []
      → Turns old new rec file place
  begins : (r : Running) → 1 ≤ rows_numbered file.number old.catalogue.volumes.rows → version_to_come old.running file ≡ None → running_of new.running file ≡ Some r → r.choice ≡ None
      → r.change.before ≡ location_in old.running file place → lists_chosen file (rec ∷ []) ≡ [] → versions_listed file (rec ∷ []) ≡ [] → Turns old new rec file place
  chooses : (r q : Running) (it : Choice) → running_of old.running file ≡ Some r → r.choice ≡ None → r.listed ≡ false → running_of new.running file ≡ Some q → q.choice ≡ Some it
      → q.change.before ≡ r.change.before → q.listed ≡ false → IsNextList r.change.before it.location → lists_chosen file (rec ∷ []) ≡ it.location ∷ []
      → versions_listed file (rec ∷ []) ≡ [] → Turns old new rec file place
  lists : (r q : Running) (it : Choice) → running_of old.running file ≡ Some r → r.choice ≡ Some it → r.listed ≡ false → running_of new.running file ≡ Some q → q.choice ≡ Some it
      → q.change.before ≡ r.change.before → q.listed ≡ true → lists_chosen file (rec ∷ []) ≡ [] → versions_listed file (rec ∷ []) ≡ it.location.version ∷ []
      → Turns old new rec file place
  ends : running_of new.running file ≡ None → rows_numbered file.number new.catalogue.volumes.rows ≡ 0 → lists_chosen file (rec ∷ []) ≡ [] → versions_listed file (rec ∷ []) ≡ []
      → Turns old new rec file place

-- ---- a file fits after a record

module _ (records : List Record) (rec : Record) (file : FileId) (place : Location) (first : place.version ≡ 1) where
  -- what is said of lists where a record says nothing of them
  module _ (none_chosen : lists_chosen file (rec ∷ []) ≡ []) (none_listed : versions_listed file (rec ∷ []) ≡ []) where
    chosen_is : lists_chosen file (records ++ rec ∷ []) ≡ lists_chosen file records
    chosen_is = chosen_same file records rec none_chosen

    listed_is : versions_listed file (records ++ rec ∷ []) ≡ versions_listed file records
    listed_is = listed_same file records rec none_listed

    follow_on : FollowOn place (lists_chosen file records) → FollowOn place (lists_chosen file (records ++ rec ∷ []))
    follow_on follow = subst (FollowOn place) (sym chosen_is) follow

    up_on : CountUp 2 (versions_listed file records) → CountUp 2 (versions_listed file (records ++ rec ∷ []))
    up_on up = subst (CountUp 2) (sym listed_is) up

    stands_on : (rows : ℕ) (o : Option Running) → Stands place (lists_chosen file records) (versions_listed file records) rows o
        → Stands place (lists_chosen file (records ++ rec ∷ [])) (versions_listed file (records ++ rec ∷ [])) rows o
    stands_on rows o stands =
        subst (λ (xs : List Location). Stands place xs (versions_listed file (records ++ rec ∷ [])) rows o) (sym chosen_is)
        (subst (λ (ns : List ℕ). Stands place (lists_chosen file records) ns rows o) (sym listed_is) stands)

  -- a change that is as it was
  stands_same : (chosen : List Location) (listed : List ℕ) (rows new_rows : ℕ) (new old : Option Running) → SameStand new old → (rows ≡ 0 → new_rows ≡ 0)
      → Stands place chosen listed rows old → Stands place chosen listed new_rows new
  stands_same chosen listed rows new_rows None None same none_too (inl none) = inl none
  stands_same chosen listed rows new_rows None None same none_too (inr gone) = inr (none_too gone.0, gone.1)
  stands_same chosen listed rows new_rows None (Some r) same none_too stands = absurd same
  stands_same chosen listed rows new_rows (Some q) None same none_too stands = absurd same
  stands_same chosen listed rows new_rows (Some q) (Some r) same none_too stands =
      subst (Leads place chosen listed q) (sym same.1) (led r.choice stands)
    where
      led : (o : Option Choice) → Leads place chosen listed r o → Leads place chosen listed q o
      led None leads = (same.0 ∙ leads.0, leads.1)
      led (Some it) leads = (leads.0, leads.1, same.0 ∙ leads.2, subst (AreAsMany chosen listed) (sym same.2) leads.3)

  -- how many lists were chosen by a change that is listed, and where its list is
  at_rest_last : (chosen : List Location) (listed : List ℕ) (rows : ℕ) (o : Option Running) → version_of o ≡ None → ((r : Running) → o ≡ Some r → r.listed ≡ true → is_some r.choice ≡ true)
      → 1 ≤ rows → Stands place chosen listed rows o → (placed_by place o ≡ last_of place chosen) × (length chosen ≡ length listed)
  at_rest_last chosen listed rows None rests sound there (inl none) =
      (sym (ap (last_of place) none.0), ap length none.0 ∙ sym (ap length none.1))
  at_rest_last chosen listed rows None rests sound there (inr gone) = absurd (let none = gone.0 in omega arith)
  at_rest_last chosen listed rows (Some r) rests sound there stands = by r.listed refl rests
    where
      led : (o : Option Choice) → r.choice ≡ o → r.listed ≡ true → Leads place chosen listed r o
          → (in_force r o ≡ last_of place chosen) × (length chosen ≡ length listed)
      led None is ended leads = absurd (let some : is_some r.choice ≡ true = sound r refl ended in cc)
      led (Some it) is ended leads = (
        ap (λ (t : Bool). if t then it.location else r.change.before) ended ∙ sym (last_push place leads.0 it.location) ∙ sym (ap (last_of place) leads.1),
        subst (AreAsMany chosen listed) ended leads.3,
      )

      by : (t : Bool) → r.listed ≡ t → (if t then None else Some (r.change.before.version + 1)) ≡ None → (in_force r r.choice ≡ last_of place chosen) × (length chosen ≡ length listed)
      by true ended rests = led r.choice refl ended stands
      by false ended rests = absurd (cc)

  fits_after : (old new : Recorded) → Goes old.catalogue.volumes new.catalogue.volumes → (old.catalogue.volumes.next == file.number) ≡ false
      → ((r : Running) → running_of old.running file ≡ Some r → r.listed ≡ true → is_some r.choice ≡ true) → Turns old new rec file place
      → FileFits records old file place → FileFits (records ++ rec ∷ []) new file place
  fits_after old new goes below sound (goes_on same none_chosen none_listed) fits =
      record {
        follow = follow_on none_chosen none_listed fits.follow;
        listed = up_on none_chosen none_listed fits.listed;
        stands =
            stands_on none_chosen none_listed (rows_numbered file.number new.catalogue.volumes.rows) (running_of new.running file)
            (stands_same (lists_chosen file records) (versions_listed file records) (rows_numbered file.number old.catalogue.volumes.rows) (rows_numbered file.number new.catalogue.volumes.rows)
            (running_of new.running file) (running_of old.running file) same
            (λ none. (let less = goes_fewer old.catalogue.volumes new.catalogue.volumes file.number goes below in omega (arith, none, less)))
            fits.stands);
      }
  fits_after old new goes below sound (begins r there rests is free before none_chosen none_listed) fits =
      let at_last =
      at_rest_last (lists_chosen file records) (versions_listed file records) (rows_numbered file.number old.catalogue.volumes.rows) (running_of old.running file) rests sound there fits.stands in
      record {
        follow = follow_on none_chosen none_listed fits.follow;
        listed = up_on none_chosen none_listed fits.listed;
        stands =
            stands_on none_chosen none_listed (rows_numbered file.number new.catalogue.volumes.rows) (running_of new.running file)
            (subst (λ (o : Option Running). Stands place (lists_chosen file records) (versions_listed file records) (rows_numbered file.number new.catalogue.volumes.rows) o) (sym is)
            (subst (Leads place (lists_chosen file records) (versions_listed file records) r) (sym free) (before ∙ at_last.0, at_last.1)));
      }
  fits_after old new goes below sound (chooses r q it was free open_list is has before unlisted place_is one_chosen none_listed) fits =
      let leads : Leads place (lists_chosen file records) (versions_listed file records) r None =
      subst (Leads place (lists_chosen file records) (versions_listed file records) r) free
      (subst (λ (o : Option Running). Stands place (lists_chosen file records) (versions_listed file records) (rows_numbered file.number old.catalogue.volumes.rows) o) was fits.stands) in
      let chosen_is : lists_chosen file (records ++ rec ∷ []) ≡ lists_chosen file records ++ it.location ∷ [] =
      chosen_more file records rec ∙ ap (λ (more : List Location). lists_chosen file records ++ more) one_chosen in
      let listed_is : versions_listed file (records ++ rec ∷ []) ≡ versions_listed file records = listed_same file records rec none_listed in
      let next : IsNextList (last_of place (lists_chosen file records)) it.location = subst (λ (l : Location). IsNextList l it.location) leads.0 place_is in
      let many : length (lists_chosen file (records ++ rec ∷ [])) ≡ length (versions_listed file (records ++ rec ∷ [])) + 1 =
      ap length chosen_is ∙ pushed_length (lists_chosen file records) it.location ∙ ap (λ (n : ℕ). n + 1) (leads.1 ∙ sym (ap length listed_is)) in
      let led : Leads place (lists_chosen file (records ++ rec ∷ [])) (versions_listed file (records ++ rec ∷ [])) q (Some it) = (
        lists_chosen file records,
        chosen_is,
        before ∙ leads.0,
        subst (AreAsMany (lists_chosen file (records ++ rec ∷ [])) (versions_listed file (records ++ rec ∷ []))) (sym unlisted) many,
      ) in
      record {
        follow = subst (FollowOn place) (sym chosen_is) (follow_push place (lists_chosen file records) it.location fits.follow next);
        listed = subst (CountUp 2) (sym listed_is) fits.listed;
        stands =
            subst
            (λ (o : Option Running).
            Stands place (lists_chosen file (records ++ rec ∷ [])) (versions_listed file (records ++ rec ∷ [])) (rows_numbered file.number new.catalogue.volumes.rows) o)
            (sym is)
            (subst (Leads place (lists_chosen file (records ++ rec ∷ [])) (versions_listed file (records ++ rec ∷ [])) q) (sym has) led);
      }
  fits_after old new goes below sound (lists r q it was chosen_it open_list is has before ended none_chosen one_listed) fits =
      let leads : Leads place (lists_chosen file records) (versions_listed file records) r (Some it) =
      subst (Leads place (lists_chosen file records) (versions_listed file records) r) chosen_it
      (subst (λ (o : Option Running). Stands place (lists_chosen file records) (versions_listed file records) (rows_numbered file.number old.catalogue.volumes.rows) o) was fits.stands) in
      let chosen_is : lists_chosen file (records ++ rec ∷ []) ≡ lists_chosen file records = chosen_same file records rec none_chosen in
      let listed_is : versions_listed file (records ++ rec ∷ []) ≡ versions_listed file records ++ it.location.version ∷ [] =
      listed_more file records rec ∙ ap (λ (more : List ℕ). versions_listed file records ++ more) one_listed in
      let many : length (lists_chosen file records) ≡ length (versions_listed file records) + 1 =
      subst (AreAsMany (lists_chosen file records) (versions_listed file records)) open_list leads.3 in
      let last : it.location ≡ last_of place (lists_chosen file records) =
      sym (last_push place leads.0 it.location) ∙ sym (ap (last_of place) leads.1) in
      let version : it.location.version ≡ 2 + length (versions_listed file records) =
      (let top = last_version place (lists_chosen file records) fits.follow in
      let same : it.location.version ≡ (last_of place (lists_chosen file records)).version = ap (λ (l : Location). l.version) last in
      omega (arith, top, same, many, first)) in
      let as_many : length (lists_chosen file (records ++ rec ∷ [])) ≡ length (versions_listed file (records ++ rec ∷ [])) =
      ap length chosen_is ∙ many ∙ sym (pushed_count (versions_listed file records) it.location.version) ∙ sym (ap length listed_is) in
      let led : Leads place (lists_chosen file (records ++ rec ∷ [])) (versions_listed file (records ++ rec ∷ [])) q (Some it) = (
        leads.0,
        chosen_is ∙ leads.1,
        before ∙ leads.2,
        subst (AreAsMany (lists_chosen file (records ++ rec ∷ [])) (versions_listed file (records ++ rec ∷ []))) (sym ended) as_many,
      ) in
      record {
        follow = subst (FollowOn place) (sym chosen_is) fits.follow;
        listed = subst (CountUp 2) (sym listed_is) (up_push 2 (versions_listed file records) it.location.version fits.listed version);
        stands =
            subst
            (λ (o : Option Running).
            Stands place (lists_chosen file (records ++ rec ∷ [])) (versions_listed file (records ++ rec ∷ [])) (rows_numbered file.number new.catalogue.volumes.rows) o)
            (sym is)
            (subst (Leads place (lists_chosen file (records ++ rec ∷ [])) (versions_listed file (records ++ rec ∷ [])) q) (sym has) led);
      }
  fits_after old new goes below sound (ends none gone none_chosen none_listed) fits =
      record {
        follow = follow_on none_chosen none_listed fits.follow;
        listed = up_on none_chosen none_listed fits.listed;
        stands =
            stands_on none_chosen none_listed (rows_numbered file.number new.catalogue.volumes.rows) (running_of new.running file)
            (subst (λ (o : Option Running). Stands place (lists_chosen file records) (versions_listed file records) (rows_numbered file.number new.catalogue.volumes.rows) o) (sym none)
            (inr (gone, within (rows_numbered file.number old.catalogue.volumes.rows) (running_of old.running file) fits.stands)));
      }
    where
      within : (rows : ℕ) (o : Option Running) → Stands place (lists_chosen file records) (versions_listed file records) rows o
          → length (versions_listed file records) ≤ length (lists_chosen file records)
      within rows None (inl none) = (let a = ap length none.0 in let b = ap length none.1 in omega (arith, a, b))
      within rows None (inr gone) = gone.1
      within rows (Some r) stands = led r.choice stands
        where
          as_many : (t : Bool) → AreAsMany (lists_chosen file records) (versions_listed file records) t → length (versions_listed file records) ≤ length (lists_chosen file records)
          as_many true many = omega arith
          as_many false many = omega arith

          led : (o : Option Choice) → Leads place (lists_chosen file records) (versions_listed file records) r o → length (versions_listed file records) ≤ length (lists_chosen file records)
          led None leads = (let many = leads.1 in omega arith)
          led (Some it) leads = as_many r.listed leads.3

-- ---- all files fit after a record

-- what is to be shown of a record
pub record Follows (old new : Recorded) (rec : Record) : Type 0 where
  pub goes : Goes old.catalogue.volumes new.catalogue.volumes
  pub made : (file : FileId) (place : Location) → IsMadeAs new.catalogue.made file place → IsMadeAs old.catalogue.made file place ⊎ IsNew old.catalogue.volumes.next file place
  pub changed : (r : Running) → Has r new.running → IsMade old.catalogue.made (file_in r)
  pub touched : (file : FileId) → ((lists_chosen file (rec ∷ []) ≡ []) × (versions_listed file (rec ∷ []) ≡ [])) ⊎ IsMade old.catalogue.made file
  pub turns : (file : FileId) (place : Location) → IsMadeAs old.catalogue.made file place → Turns old new rec file place

module _ (records : List Record) (rec : Record) (old new : Recorded) (fit : Fit records old) (times : TimeSettings) (order : IsInOrder times old.running)
    (files : Holds (without_clients new.catalogue)) (stays : Stays old.catalogue.made new.catalogue.made) (follows : Follows old new rec) where
  made_later : (file : FileId) → IsMade old.catalogue.made file → IsMade new.catalogue.made file
  made_later file made = (made.0, stays file made.0 made.1)

  first_later : AreFirst new.catalogue.made
  first_later file place is = elim (follows.made file place is) [ inl was ↦ fit.first file place was | inr new ↦ new.1 ]

  touched_later : (file : FileId) → IsUntouched (records ++ rec ∷ []) file ⊎ IsMade new.catalogue.made file
  touched_later file = by (fit.touched file) (follows.touched file)
    where
      by : IsUntouched records file ⊎ IsMade old.catalogue.made file → ((lists_chosen file (rec ∷ []) ≡ []) × (versions_listed file (rec ∷ []) ≡ [])) ⊎ IsMade old.catalogue.made file
          → IsUntouched (records ++ rec ∷ []) file ⊎ IsMade new.catalogue.made file
      by (inr made) h = inr (made_later file made)
      by (inl none) (inr made) = inr (made_later file made)
      by (inl none) (inl more) =
          inl (record { chosen = chosen_same file records rec more.0 ∙ none.chosen; listed = listed_same file records rec more.1 ∙ none.listed })

  not_made : (file : FileId) (place : Location) → IsNew old.catalogue.volumes.next file place → IsMade old.catalogue.made file → ⊥
  not_made file place new made =
      (let below = made_below old.catalogue.volumes.next old.catalogue.made file made.0 fit.files.rises made.1 in let same = new.0 in omega (arith, below, same))

  its_own : (rs : List Running) (file : FileId) (r : Running) → running_of rs file ≡ Some r → Has r rs × (file_in r ≡ file)
  its_own rs file r is = (let at = found rs file r is in (subst (λ (all : List Running). Has r all) (sym at.split) (has_middle at.earlier at.later r), at.same))

  -- nothing was chosen for a file that is made
  new_fits : (file : FileId) (place : Location) → IsNew old.catalogue.volumes.next file place → FileFits (records ++ rec ∷ []) new file place
  new_fits file place is =
      record {
        follow = subst (FollowOn place) (sym none_chosen) tt;
        listed = subst (CountUp 2) (sym none_listed) tt;
        stands =
            subst (λ (o : Option Running). Stands place (lists_chosen file (records ++ rec ∷ [])) (versions_listed file (records ++ rec ∷ [])) (rows_numbered file.number new.catalogue.volumes.rows) o)
            (sym (no_change (running_of new.running file) refl)) (inl (none_chosen, none_listed));
      }
    where
      untouched : IsUntouched records file
      untouched = elim (fit.touched file) [ inl none ↦ none | inr made ↦ absurd (not_made file place is made) ]

      more : (lists_chosen file (rec ∷ []) ≡ []) × (versions_listed file (rec ∷ []) ≡ [])
      more = elim (follows.touched file) [ inl none ↦ none | inr made ↦ absurd (not_made file place is made) ]

      none_chosen : lists_chosen file (records ++ rec ∷ []) ≡ []
      none_chosen = chosen_same file records rec more.0 ∙ untouched.chosen

      none_listed : versions_listed file (records ++ rec ∷ []) ≡ []
      none_listed = listed_same file records rec more.1 ∙ untouched.listed

      no_change : (o : Option Running) → running_of new.running file ≡ o → running_of new.running file ≡ None
      no_change None none = none
      no_change (Some r) some =
          absurd
          (let own = its_own new.running file r some in
          not_made file place is (subst (IsMade old.catalogue.made) own.1 (follows.changed r own.0)))

  old_fits : (file : FileId) (place : Location) → IsMadeAs old.catalogue.made file place → FileFits (records ++ rec ∷ []) new file place
  old_fits file place was =
      fits_after records rec file place (fit.first file place was) old new follows.goes other sound (follows.turns file place was) (fit.each file place was)
    where
      other : (old.catalogue.volumes.next == file.number) ≡ false
      other = by (old.catalogue.volumes.next == file.number) refl
        where
          by : (t : Bool) → (old.catalogue.volumes.next == file.number) ≡ t → (old.catalogue.volumes.next == file.number) ≡ false
          by false is = is
          by true is =
              absurd
              (let same : old.catalogue.volumes.next ≡ file.number = eqb-true old.catalogue.volumes.next file.number is in
              let below = made_below old.catalogue.volumes.next old.catalogue.made file place fit.files.rises was in
              omega (arith, same, below))

      sound : (r : Running) → running_of old.running file ≡ Some r → r.listed ≡ true → is_some r.choice ≡ true
      sound r is ended = (order.sound r (its_own old.running file r is).0).ended ended

  pub fit_after : Fit (records ++ rec ∷ []) new
  fit_after =
      record {
        numbers = goes_fit old.catalogue.volumes new.catalogue.volumes fit.numbers follows.goes;
        files = files;
        first = first_later;
        changed = λ r h. made_later (file_in r) (follows.changed r h);
        touched = touched_later;
        each = λ file place is. elim (follows.made file place is) [ inl was ↦ old_fits file place was | inr is_new ↦ new_fits file place is_new ];
      }

-- ---- a record that says nothing

nothing_follows : (old : Recorded) (rec : Record) → NumbersFit old.catalogue.volumes → ((r : Running) → Has r old.running → IsMade old.catalogue.made (file_in r))
    → ((file : FileId) → (lists_chosen file (rec ∷ []) ≡ []) × (versions_listed file (rec ∷ []) ≡ [])) → Follows old old rec
nothing_follows old rec numbers changed says =
    record {
      goes = fewer refl numbers.rise (λ number. omega arith);
      made = λ file place is. inl is;
      changed = changed;
      touched = λ file. inl (says file);
      turns = λ file place is. goes_on (same_stand (running_of old.running file)) (says file).0 (says file).1;
    }

-- ---- the record of a request

-- where a change begins that is asked for
record IsBegunAt (volumes : Volumes) (rs : List Running) (begun : Beginning) : Type 0 where
  path : Path
  stored : Stored
  there : stored_in (entry_at volumes.rows path) ≡ Some stored
  file : begun.file ≡ file_id path stored
  old : begun.old ≡ location_in rs (file_id path stored) stored.location

begun_there : (volumes : Volumes) (rs : List Running) (who : Asker) (known next : List NodeId) (path : Option Path) (begun : Beginning)
    → beginning volumes rs who known next path ≡ Ok begun → IsBegunAt volumes rs begun
begun_there volumes rs who known next None begun is = absurd (cc)
begun_there volumes rs who known next (Some path) begun is = by (change_refusal volumes rs who known next path) is
  where
    of_stored : (o : Option Stored) → stored_in (entry_at volumes.rows path) ≡ o → beginning_of rs path next o ≡ Ok begun → IsBegunAt volumes rs begun
    of_stored None there is = absurd (cc)
    of_stored (Some stored) there is =
        let made : Beginning = record { file = file_id path stored; old = location_in rs (file_id path stored) stored.location; next = next } in
        let same : made ≡ begun = cc in
        record {
          path = path;
          stored = stored;
          there = there;
          file = sym (ap (λ (b : Beginning). b.file) same);
          old = sym (ap (λ (b : Beginning). b.old) same);
        }

    by : (o : Option MetaRefusal) → begins_unless o (beginning_of rs path next (stored_in (entry_at volumes.rows path))) ≡ Ok begun → IsBegunAt volumes rs begun
    by (Some why) is = absurd (cc)
    by None is = of_stored (stored_in (entry_at volumes.rows path)) refl is

module _ (key : List ℕ) (times : TimeSettings) (old : Recorded) (numbers : NumbersFit old.catalogue.volumes) (files : Holds (without_clients old.catalogue))
    (all_changed : (r : Running) → Has r old.running → IsMade old.catalogue.made (file_in r)) (rec : Record)
    (says : (file : FileId) → (lists_chosen file (rec ∷ []) ≡ []) × (versions_listed file (rec ∷ []) ≡ [])) (now : ℕ) (nodes : Option (List NodeId)) (who : Asker) where
  abbrev vs : Volumes
  vs = old.catalogue.volumes

  -- what is known with this catalogue and these changes
  abbrev with_both : Catalogue → List Running → Recorded
  with_both catalogue running = record { catalogue = catalogue; running = running }

  abbrev TurnsAll : Catalogue → List Running → Type 0
  TurnsAll catalogue running = (file : FileId) (place : Location) → IsMadeAs old.catalogue.made file place → Turns old (with_both catalogue running) rec file place

  abbrev ChangedAll : List Running → Type 0
  ChangedAll running = (r : Running) → Has r running → IsMade old.catalogue.made (file_in r)

  stay_all : (catalogue : Catalogue) → TurnsAll catalogue old.running
  stay_all catalogue file place is = goes_on (same_stand (running_of old.running file)) (says file).0 (says file).1

  -- a change that begins
  module _ (begun : Beginning) (at : IsBegunAt old.catalogue.volumes old.running begun) where
    begun_made : IsMadeAs old.catalogue.made begun.file at.stored.location
    begun_made =
        subst (λ (f : FileId). IsMadeAs old.catalogue.made f at.stored.location) (sym at.file)
        (named_file old.catalogue.made old.catalogue.volumes.rows at.path at.stored files.rows at.there)

    begun_rows : 1 ≤ rows_numbered begun.file.number old.catalogue.volumes.rows
    begun_rows =
        let there = numbered_there old.catalogue.volumes.rows at.path at.stored at.there in
        subst (λ (f : FileId). 1 ≤ rows_numbered f.number old.catalogue.volumes.rows) (sym at.file)
        (count_there at.stored.number old.catalogue.volumes.rows at.path there.0 there.1 there.2)

    abbrev begun_change : Running
    begun_change = record { change = new_change times begun.file begun.old begun.next; choice = None; listed = false }

    begun_changed : ChangedAll (with_running old.running begun_change)
    begun_changed r h =
        elim (has_put old.running begun_change r h) [
          | inl new ↦ subst (λ (x : Running). IsMade old.catalogue.made (file_in x)) (sym new) (at.stored.location, begun_made)
          | inr was ↦ all_changed r was
        ]

    begun_turns : version_to_come old.running begun.file ≡ None → (catalogue : Catalogue) → TurnsAll catalogue (with_running old.running begun_change)
    begun_turns rests catalogue file place is = by (is_file begun.file file) refl
      where
        new_is : running_of (with_running old.running begun_change) file ≡ cond (is_file begun.file file) (Some begun_change) (running_of old.running file)
        new_is = find_put old.running begun_change file

        by : (t : Bool) → is_file begun.file file ≡ t → Turns old (with_both catalogue (with_running old.running begun_change)) rec file place
        by true same =
            let own : begun.file ≡ file = file-equal begun.file file same in
            let at_place : at.stored.location ≡ place =
            one_place old.catalogue.made file at.stored.location place (subst (λ (f : FileId). IsMadeAs old.catalogue.made f at.stored.location) own begun_made) is in
            let from : begun.old ≡ location_in old.running file place =
            at.old ∙ ap (λ (f : FileId). location_in old.running f at.stored.location) (sym at.file ∙ own) ∙ ap (location_in old.running file) at_place in
            begins begun_change (subst (λ (f : FileId). 1 ≤ rows_numbered f.number old.catalogue.volumes.rows) own begun_rows)
            (ap (version_to_come old.running) (sym own) ∙ rests)
            (new_is ∙ ap (λ (t : Bool). cond t (Some begun_change) (running_of old.running file)) same)
            refl from (says file).0 (says file).1
        by false differs =
            goes_on
            (subst (λ (o : Option Running). SameStand o (running_of old.running file))
            (sym (new_is ∙ ap (λ (t : Bool). cond t (Some begun_change) (running_of old.running file)) differs)) (same_stand (running_of old.running file)))
            (says file).0 (says file).1

  change_changed : (path : List ℕ) (next : List NodeId) (b : Result Beginning MetaRefusal) → beginning_on old.catalogue.volumes old.running who nodes path next ≡ b
      → ChangedAll (begun_by times old.running b)
  change_changed path next (Err why) is = all_changed
  change_changed path next (Ok begun) is =
      begun_changed begun (begun_there old.catalogue.volumes old.running who (nodes_in nodes) next (has_names 1 (path_in path)) begun is)

  change_turns : (path : List ℕ) (next : List NodeId) (b : Result Beginning MetaRefusal) → beginning_on old.catalogue.volumes old.running who nodes path next ≡ b → (catalogue : Catalogue)
      → TurnsAll catalogue (begun_by times old.running b)
  change_turns path next (Err why) is catalogue = stay_all catalogue
  change_turns path next (Ok begun) is catalogue =
      begun_turns begun (begun_there old.catalogue.volumes old.running who (nodes_in nodes) next (has_names 1 (path_in path)) begun is)
      (begins_at times old.catalogue.volumes 0 event.Wake old.running who (nodes_in nodes) next (has_names 1 (path_in path)) begun is).0
      catalogue

  -- a file that is unlinked
  ended_changed : (gone : Option FileId) (t : Bool) → ChangedAll (cond t (ended_by old.running gone) old.running)
  ended_changed None true = all_changed
  ended_changed (Some file) true = λ r h. all_changed r (has_left old.running file r h)
  ended_changed _ false = all_changed

  find_without : (rs : List Running) (gone file : FileId) → running_of (without_file rs gone) file ≡ cond (is_file gone file) None (running_of rs file)
  find_without [] gone file = nothing (is_file gone file)
    where
      nothing : (t : Bool) → (let none : Option Running = None in none ≡ cond t none none)
      nothing true = refl
      nothing false = refl
  find_without (f ∷ fs) gone file = at (find_without fs gone file) (is_file (file_in f) gone) (is_file gone file) refl refl
    where
      at : running_of (without_file fs gone) file ≡ cond (is_file gone file) None (running_of fs file) → (dropped its : Bool) → is_file (file_in f) gone ≡ dropped → is_file gone file ≡ its
          → running_of (cond (not dropped) (f ∷ without_file fs gone) (without_file fs gone)) file ≡ cond its None (cond (is_file (file_in f) file) (Some f) (running_of fs file))
      at rest true true is own = rest ∙ ap (λ (t : Bool). cond t None (running_of fs file)) own
      at rest true false is own =
          let differs : is_file (file_in f) file ≡ false = subst (λ (x : FileId). is_file x file ≡ false) (sym (file-equal (file_in f) gone is)) own in
          rest ∙ ap (λ (t : Bool). cond t None (running_of fs file)) own ∙ sym (ap (λ (t : Bool). cond t (Some f) (running_of fs file)) differs)
      at rest false true is own =
          let differs : is_file (file_in f) file ≡ false = subst (λ (x : FileId). is_file (file_in f) x ≡ false) (file-equal gone file own) is in
          ap (λ (t : Bool). cond t (Some f) (running_of (without_file fs gone) file)) differs ∙ rest ∙ ap (λ (t : Bool). cond t None (running_of fs file)) own
      at rest false false is own =
          ap (λ (o : Option Running). cond (is_file (file_in f) file) (Some f) o) (rest ∙ ap (λ (t : Bool). cond t None (running_of fs file)) own)

  without_turns : (gone : FileId) (catalogue : Catalogue) → rows_numbered gone.number catalogue.volumes.rows ≡ 0 → TurnsAll catalogue (without_file old.running gone)
  without_turns gone catalogue none file place is = by (is_file gone file) refl
    where
      new_is : running_of (without_file old.running gone) file ≡ cond (is_file gone file) None (running_of old.running file)
      new_is = find_without old.running gone file

      by : (t : Bool) → is_file gone file ≡ t → Turns old (with_both catalogue (without_file old.running gone)) rec file place
      by true same =
          ends (new_is ∙ ap (λ (t : Bool). cond t None (running_of old.running file)) same)
          (subst (λ (f : FileId). rows_numbered f.number catalogue.volumes.rows ≡ 0) (file-equal gone file same) none) (says file).0 (says file).1
      by false differs =
          goes_on
          (subst (λ (o : Option Running). SameStand o (running_of old.running file)) (sym (new_is ∙ ap (λ (t : Bool). cond t None (running_of old.running file)) differs))
          (same_stand (running_of old.running file)))
          (says file).0 (says file).1

  -- a request to unlink, by the path that it names
  module _ (number : ℕ) (client : NodeId) (path : List ℕ) where
    abbrev request : MetaReq
    request = ask.Unlink path

    abbrev after : Catalogue
    after = catalogue_after key old.catalogue old.running client number now nodes who (ask.Unlink path)

    unlinked : (o : Option Path) → path_in path ≡ o → is_done (on_path old.catalogue.volumes (has_names 1 o) (file_unlinked old.catalogue.volumes who)).answer ≡ true
        → (catalogue : Catalogue) → catalogue.volumes ≡ (on_path old.catalogue.volumes (has_names 1 o) (file_unlinked old.catalogue.volumes who)).volumes
        → TurnsAll catalogue (ended_by old.running (file_at old.catalogue.volumes o))
    unlinked None is ended catalogue same = absurd (cc)
    unlinked (Some []) is ended catalogue same = absurd (cc)
    unlinked (Some (name ∷ names)) is ended catalogue same = by_stored (stored_in (entry_at old.catalogue.volumes.rows (name ∷ names))) refl
      where
        has_one : has_names 1 (Some (name ∷ names)) ≡ Some (name ∷ names)
        has_one = ap (λ (t : Bool). cond t (Some (name ∷ names)) None) (le-leb 1 (length (name ∷ names)) (omega arith))

        ended_so : is_done (file_unlinked old.catalogue.volumes who (name ∷ names)).answer ≡ true
        ended_so = subst (λ (o : Option Path). is_done (on_path old.catalogue.volumes o (file_unlinked old.catalogue.volumes who)).answer ≡ true) has_one ended

        same_so : catalogue.volumes ≡ (file_unlinked old.catalogue.volumes who (name ∷ names)).volumes
        same_so = subst (λ (o : Option Path). catalogue.volumes ≡ (on_path old.catalogue.volumes o (file_unlinked old.catalogue.volumes who)).volumes) has_one same

        by_stored : (o : Option Stored) → stored_in (entry_at old.catalogue.volumes.rows (name ∷ names)) ≡ o → TurnsAll catalogue (ended_by old.running (file_of (name ∷ names) o))
        by_stored None there = stay_all catalogue
        by_stored (Some stored) there =
            without_turns (file_id (name ∷ names) stored) catalogue
            (subst (λ (v : Volumes). rows_numbered stored.number v.rows ≡ 0) (sym same_so) (unlinked_gone old.catalogue.volumes numbers who (name ∷ names) stored there ended_so))

    unlink_turns : TurnsAll after (running_after times old.catalogue.volumes old.running who nodes (ask.Unlink path)
        (outcome_with key old.catalogue.volumes old.running who now nodes (ask.Unlink path)).answer)
    unlink_turns = by (is_done (outcome_with key old.catalogue.volumes old.running who now nodes (ask.Unlink path)).answer) refl
      where
        by : (t : Bool) → is_done (on_path old.catalogue.volumes (has_names 1 (path_in path)) (file_unlinked old.catalogue.volumes who)).answer ≡ t
            → TurnsAll after (cond t (ended_by old.running (file_at old.catalogue.volumes (path_in path))) old.running)
        by true ended = unlinked (path_in path) refl ended after refl
        by false ended = stay_all after

  after_changed : (wanted : MetaReq) (told : MetaAnswer) → ChangedAll (running_after times old.catalogue.volumes old.running who nodes wanted told)
  after_changed (ask.Change path next) told = change_changed path next (beginning_on old.catalogue.volumes old.running who nodes path next) refl
  after_changed (ask.Unlink path) told = ended_changed (file_at old.catalogue.volumes (path_in path)) (is_done told)
  after_changed _ told = all_changed

  after_turns : (number : ℕ) (client : NodeId) (wanted : MetaReq)
      → TurnsAll (catalogue_after key old.catalogue old.running client number now nodes who wanted)
      (running_after times old.catalogue.volumes old.running who nodes wanted (outcome_with key old.catalogue.volumes old.running who now nodes wanted).answer)
  after_turns number client (ask.Change path next) =
      change_turns path next (beginning_on old.catalogue.volumes old.running who nodes path next) refl
      (catalogue_after key old.catalogue old.running client number now nodes who (ask.Change path next))
  after_turns number client (ask.Unlink path) = unlink_turns number client path
  after_turns number client wanted = stay_all (catalogue_after key old.catalogue old.running client number now nodes who wanted)

  request_follows : (number : ℕ) (client : NodeId) (wanted : MetaReq) → Follows old (after_request_with key times old client number now nodes who wanted) rec
  request_follows number client wanted =
      record {
        goes = request_goes old.catalogue.volumes numbers key old.running who now nodes wanted;
        made = λ file place is. made_before file place old.catalogue.made old.catalogue.volumes now nodes wanted (outcome_with key old.catalogue.volumes old.running who now nodes wanted).answer is;
        changed = after_changed wanted (outcome_with key old.catalogue.volumes old.running who now nodes wanted).answer;
        touched = λ file. inl (says file);
        turns = after_turns number client wanted;
      }

  meta_follows : (number : ℕ) (client : NodeId) (wanted : MetaReq) → Follows old (after_meta_with key times old client number now nodes who wanted) rec
  meta_follows number client wanted = go (is_spent_with old.catalogue.volumes old.running who nodes wanted) (is_recorded_with key old.catalogue.volumes now wanted)
    where
      go : (spent records : Bool) → Follows old (cond spent old (cond records (after_request_with key times old client number now nodes who wanted) old)) rec
      go true records = nothing_follows old rec numbers all_changed says
      go false true = request_follows number client wanted
      go false false = nothing_follows old rec numbers all_changed says

-- ---- the records of a choice, and of a list that becomes the file's

module _ (old : Recorded) (numbers : NumbersFit old.catalogue.volumes) (all_changed : (r : Running) → Has r old.running → IsMade old.catalogue.made (file_in r))
    (r : Running) (it : Choice) (there : Has r old.running) (found_r : running_of old.running it.file ≡ Some r) (own : it.file ≡ file_in r) (open_list : r.listed ≡ false) where
  -- one in its place
  module _ (q : Running) (same_change : q.change ≡ r.change) where
    abbrev put : List Running
    put = with_running old.running q

    its_file : file_in q ≡ it.file
    its_file = ap (λ (c : ChangeState). c.file) same_change ∙ sym own

    put_changed : (x : Running) → Has x (with_running old.running q) → IsMade old.catalogue.made (file_in x)
    put_changed x h =
        elim (has_put old.running q x h) [
          | inl new ↦ subst (λ (f : FileId). IsMade old.catalogue.made f) (ap (λ (c : ChangeState). c.file) (sym same_change) ∙ ap file_in (sym new)) (all_changed r there)
          | inr was ↦ all_changed x was
        ]

    put_is : (file : FileId) → running_of (with_running old.running q) file ≡ cond (is_file it.file file) (Some q) (running_of old.running file)
    put_is file = find_put old.running q file ∙ ap (λ (f : FileId). cond (is_file f file) (Some q) (running_of old.running file)) its_file

    put_other : (rec : Record) (file : FileId) (place : Location) → is_file it.file file ≡ false → lists_chosen file (rec ∷ []) ≡ [] → versions_listed file (rec ∷ []) ≡ []
        → Turns old (record { catalogue = old.catalogue; running = with_running old.running q }) rec file place
    put_other rec file place differs none_chosen none_listed =
        goes_on
        (subst (λ (o : Option Running). SameStand o (running_of old.running file))
        (sym (put_is file ∙ ap (λ (t : Bool). cond t (Some q) (running_of old.running file)) differs)) (same_stand (running_of old.running file)))
        none_chosen none_listed

  here : (file : FileId) → is_file it.file file ≡ true → running_of old.running file ≡ Some r
  here file same = ap (running_of old.running) (sym (file-equal it.file file same)) ∙ found_r

  chosen_here : (file : FileId) (t : Bool) → is_file it.file file ≡ t → lists_chosen file (chosen it ∷ []) ≡ cond t (it.location ∷ []) []
  chosen_here file true is = ap (λ (t : Bool). cons_option (if t then Some it.location else None) []) is
  chosen_here file false is = ap (λ (t : Bool). cons_option (if t then Some it.location else None) []) is

  choice_follows : r.choice ≡ None → IsNextList r.change.before it.location → Follows old (record { catalogue = old.catalogue; running = after_choice old.running it }) (chosen it)
  choice_follows free next =
      subst (λ (running : List Running). Follows old (record { catalogue = old.catalogue; running = running }) (chosen it)) (sym is)
      (record {
        goes = fewer refl numbers.rise (λ number. omega arith);
        made = λ file place was. inl was;
        changed = put_changed (with_choice it r) refl;
        touched = touched;
        turns = turns;
      })
    where
      is : after_choice old.running it ≡ with_running old.running (with_choice it r)
      is = ap (on_running (with_choice it) old.running) found_r

      touched : (file : FileId) → ((lists_chosen file (chosen it ∷ []) ≡ []) × (versions_listed file (chosen it ∷ []) ≡ [])) ⊎ IsMade old.catalogue.made file
      touched file = by (is_file it.file file) refl
        where
          by : (t : Bool) → is_file it.file file ≡ t → ((lists_chosen file (chosen it ∷ []) ≡ []) × (versions_listed file (chosen it ∷ []) ≡ [])) ⊎ IsMade old.catalogue.made file
          by true same = inr (subst (IsMade old.catalogue.made) (sym own ∙ file-equal it.file file same) (all_changed r there))
          by false differs = inl (chosen_here file false differs, refl)

      turns : (file : FileId) (place : Location) → IsMadeAs old.catalogue.made file place
          → Turns old (record { catalogue = old.catalogue; running = with_running old.running (with_choice it r) }) (chosen it) file place
      turns file place was = by (is_file it.file file) refl
        where
          by : (t : Bool) → is_file it.file file ≡ t → Turns old (record { catalogue = old.catalogue; running = with_running old.running (with_choice it r) }) (chosen it) file place
          by true same =
              chooses r (with_choice it r) it (here file same) free open_list
              (put_is (with_choice it r) refl file ∙ ap (λ (t : Bool). cond t (Some (with_choice it r)) (running_of old.running file)) same) refl refl open_list next
              (chosen_here file true same) refl
          by false differs = put_other (with_choice it r) refl (chosen it) file place differs (chosen_here file false differs) refl

  listed_here : (file : FileId) (t : Bool) → is_file it.file file ≡ t → versions_listed file (listed it ∷ []) ≡ cond t (it.location.version ∷ []) []
  listed_here file true is = ap (λ (t : Bool). cons_option (if t then Some it.location.version else None) []) is
  listed_here file false is = ap (λ (t : Bool). cons_option (if t then Some it.location.version else None) []) is

  listing_follows : r.choice ≡ Some it → Follows old (record { catalogue = old.catalogue; running = after_listing old.running it.file }) (listed it)
  listing_follows has =
      subst (λ (running : List Running). Follows old (record { catalogue = old.catalogue; running = running }) (listed it)) (sym is)
      (record {
        goes = fewer refl numbers.rise (λ number. omega arith);
        made = λ file place was. inl was;
        changed = put_changed (with_listed r) refl;
        touched = touched;
        turns = turns;
      })
    where
      is : after_listing old.running it.file ≡ with_running old.running (with_listed r)
      is = ap (on_running with_listed old.running) found_r

      touched : (file : FileId) → ((lists_chosen file (listed it ∷ []) ≡ []) × (versions_listed file (listed it ∷ []) ≡ [])) ⊎ IsMade old.catalogue.made file
      touched file = by (is_file it.file file) refl
        where
          by : (t : Bool) → is_file it.file file ≡ t → ((lists_chosen file (listed it ∷ []) ≡ []) × (versions_listed file (listed it ∷ []) ≡ [])) ⊎ IsMade old.catalogue.made file
          by true same = inr (subst (IsMade old.catalogue.made) (sym own ∙ file-equal it.file file same) (all_changed r there))
          by false differs = inl (refl, listed_here file false differs)

      turns : (file : FileId) (place : Location) → IsMadeAs old.catalogue.made file place
          → Turns old (record { catalogue = old.catalogue; running = with_running old.running (with_listed r) }) (listed it) file place
      turns file place was = by (is_file it.file file) refl
        where
          by : (t : Bool) → is_file it.file file ≡ t → Turns old (record { catalogue = old.catalogue; running = with_running old.running (with_listed r) }) (listed it) file place
          by true same =
              lists r (with_listed r) it (here file same) has open_list
              (put_is (with_listed r) refl file ∙ ap (λ (t : Bool). cond t (Some (with_listed r)) (running_of old.running file)) same) has refl refl refl (listed_here file true same)
          by false differs = put_other (with_listed r) refl (listed it) file place differs refl (listed_here file false differs)

-- ---- the step

pub find_there : (rs : List Running) (r : Running) → Rise rs → Has r rs → running_of rs (file_in r) ≡ Some r
find_there rs r rise h =
    (let at = split rs h in
    subst (λ (xs : List Running). running_of xs (file_in r) ≡ Some r) (sym at.2) (find_over at.0 at.1 r (subst Rise at.2 rise)))
  where
    split : (rs : List Running) → Has r rs → (earlier : List Running) × (later : List Running) × (rs ≡ earlier ++ r ∷ later)
    split [] h = absurd h
    split (x ∷ xs) (inl e) = ([], xs, ap (λ (y : Running). y ∷ xs) (sym e))
    split (x ∷ xs) (inr h) = (let rest = split xs h in (x ∷ rest.0, rest.1, ap (λ (ys : List Running). x ∷ ys) rest.2))

-- a record that says nothing leaves all as it is
pub unsaid : (records : List Record) (rec : Record) (old : Recorded) → ((file : FileId) → (lists_chosen file (rec ∷ []) ≡ []) × (versions_listed file (rec ∷ []) ≡ [])) → Fit records old
    → Fit (records ++ rec ∷ []) old
unsaid records rec old says fit =
    record {
      numbers = fit.numbers;
      files = fit.files;
      first = fit.first;
      changed = fit.changed;
      touched = λ file. elim (fit.touched file) [
        | inl none ↦ inl (record { chosen = chosen_same file records rec (says file).0 ∙ none.chosen; listed = listed_same file records rec (says file).1 ∙ none.listed })
        | inr made ↦ inr made
      ];
      each = λ file place is.
          (let f = fit.each file place is in
          let first = fit.first file place is in
          let none = says file in
          record {
            follow = follow_on records rec file place first none.0 none.1 f.follow;
            listed = up_on records rec file place first none.0 none.1 f.listed;
            stands =
                stands_on records rec file place first none.0 none.1 (rows_numbered file.number old.catalogue.volumes.rows) (running_of old.running file)
                f.stands;
          });
    }

-- nothing is said of a capability
abbrev Anything : FileId → Location → Type 0
Anything file place = Unit {0}

any_answers : (clients : List (ℕ × KeptAnswer MetaAnswer)) → AnswersGrant Anything clients
any_answers [] = tt
any_answers (last ∷ others) = (any_grant last.1.answer, any_answers others)
  where
    any_grant : (told : MetaAnswer) → Grants Anything told
    any_grant (answer.Granted capability mark) = tt
    any_grant _ = tt

module _ (key : List ℕ) (times : TimeSettings) (records : List Record) (s : ChangingMrc) (reading : ℕ) (happens : Event) (order : IsInOrder times s.running)
    (known : known_in s ≡ recorded_of key times records) (fit : ListsFit key times records) where
  abbrev was : Recorded
  was = recorded_of key times records

  running_is : untold s.running ≡ was.running
  running_is = ap (λ (k : Recorded). k.running) known

  was_in_order : IsInOrder times was.running
  was_in_order = subst (IsInOrder times) running_is (start_in_order times s.running order)

  pushed : (rec : Record) → recorded_of key times (records ++ rec ∷ []) ≡ after_record_with key times was rec
  pushed rec = fold-append (after_record_with key times) nothing_recorded records (rec ∷ [])

  abbrev Held : List Record → Type 0
  Held all = Holds (without_clients (recorded_of key times all).catalogue)

  abbrev Kept : List Record → Type 0
  Kept all = Stays was.catalogue.made (recorded_of key times all).catalogue.made

  one : (rec : Record) → Follows was (after_record_with key times was rec) rec → Held (records ++ rec ∷ []) → Kept (records ++ rec ∷ []) → ListsFit key times (records ++ rec ∷ [])
  one rec follows holds stays =
      subst (Fit (records ++ rec ∷ [])) (sym (pushed rec))
      (fit_after records rec was (after_record_with key times was rec) fit times was_in_order
      (subst (λ (k : Recorded). Holds (without_clients k.catalogue)) (pushed rec) holds)
      (subst (λ (k : Recorded). Stays was.catalogue.made k.catalogue.made) (pushed rec) stays)
      follows)

  -- the change of a file as it is told
  told_there : (r : Running) → Has r s.running → Has (uncounted r) was.running
  told_there r h = subst (Has (uncounted r)) running_is (mapped s.running h)
    where
      mapped : (rs : List Running) → Has r rs → Has (uncounted r) (map uncounted rs)
      mapped [] h = absurd h
      mapped (x ∷ xs) (inl e) = inl (ap uncounted e)
      mapped (x ∷ xs) (inr h) = inr (mapped xs h)

  told_found : (r : Running) (file : FileId) → Has r s.running → file ≡ file_in r → running_of was.running file ≡ Some (uncounted r)
  told_found r file h own =
      ap (λ (rs : List Running). running_of rs file) (sym running_is) ∙ find_untold s.running file
      ∙ ap (option_map uncounted) (ap (running_of s.running) own ∙ find_there s.running r order.rise h)

  unlisted : (r : Running) → Has r s.running → r.choice ≡ None → r.listed ≡ false
  unlisted r h free = by r.listed refl
    where
      by : (t : Bool) → r.listed ≡ t → r.listed ≡ false
      by false is = is
      by true is = absurd (let some : is_some r.choice ≡ true = (order.sound r h).ended is in cc)

  request_says : (client : NodeId) (number at : ℕ) (nodes : Option (List NodeId)) (wanted : Logged)
      → Follows was (after_record_with key times was (kept.Meta client number at nodes wanted)) (kept.Meta client number at nodes wanted)
  request_says client number at nodes (logged.Meta user group request) =
      meta_follows key times was fit.numbers fit.files fit.changed (kept.Meta client number at nodes (logged.Meta user group request)) (λ file. (refl, refl)) at nodes
      (record { user = user; group = group }) number client request
  request_says client number at nodes (logged.Registry request) =
      nothing_follows was (kept.Meta client number at nodes (logged.Registry request)) fit.numbers fit.changed (λ file. (refl, refl))

  choice_says : (r : Running) (it : Choice) → Has r s.running → r.choice ≡ None → choice_at r.change (max reading s.mrc.last) ≡ Some it
      → Follows was (after_record_with key times was (chosen it)) (chosen it)
  choice_says r it h free at =
      let own = own_choice r.change (max reading s.mrc.last) it at in
      choice_follows was fit.numbers fit.changed (uncounted r) it (told_there r h) (told_found r it.file h own.file) own.file (unlisted r h free) free
      (record {
        version = ap (λ (l : Location). l.version) own.location;
        kind = ap (λ (l : Location). l.kind) own.location;
        stripe = ap (λ (l : Location). l.stripe) own.location;
      })

  listing_says : (r : Running) (it : Choice) → Has r s.running → r.choice ≡ Some it → r.listed ≡ false → Follows was (after_record_with key times was (listed it)) (listed it)
  listing_says r it h has open_list =
      let own : IsChoiceOf r.change it = subst (λ (o : Option Choice). IsChosen r.change o) has (order.sound r h).choice in
      listing_follows was fit.numbers fit.changed (uncounted r) it (told_there r h) (told_found r it.file h own.file) own.file open_list has

  by_record : (o : Option Record) → StepKeeps (max reading s.mrc.last) happens s.running o → Held (records ++ option_to_list o) → Kept (records ++ option_to_list o)
      → ListsFit key times (records ++ option_to_list o)
  by_record o keeps_nothing holds stays = subst (ListsFit key times) (sym (append-nil records)) fit
  by_record o (keeps_request client number at nodes wanted) holds stays = one (kept.Meta client number at nodes wanted) (request_says client number at nodes wanted) holds stays
  by_record o (keeps_choice r it h free wake at low) holds stays = one (chosen it) (choice_says r it h free at) holds stays
  by_record o (keeps_list r it from version h has open_list says wins) holds stays = one (listed it) (listing_says r it h has open_list) holds stays

  pub step_fits : ListsFit key times (records ++ option_to_list (step_with_changes key times s reading happens).turned.rec)
  step_fits =
      let step = step_with_changes key times s reading happens in
      let catalogue_is : s.mrc.catalogue ≡ was.catalogue = ap (λ (k : Recorded). k.catalogue) known in
      let told : known_in step.server ≡ recorded_of key times (records ++ option_to_list step.turned.rec) = all_told key times records s reading happens order known in
      let grants : GrantsStay Anything s step =
      step_grants Anything key times s reading happens
      (record { files = subst (λ (c : Catalogue). Holds (without_clients c)) (sym catalogue_is) fit.files; answers = any_answers s.mrc.catalogue.clients })
      (λ file place is. (tt, tt)) in
      by_record step.turned.rec (step_keeps key times s reading happens)
      (subst (λ (k : Recorded). Holds (without_clients k.catalogue)) told grants.holds.files)
      (subst (λ (k : Recorded). Stays was.catalogue.made k.catalogue.made) told (subst (λ (c : Catalogue). Stays c.made step.server.mrc.catalogue.made) catalogue_is grants.made))

-- a start says nothing
pub boot_fits : (key : List ℕ) (times : TimeSettings) (records : List Record) (boot : Boot) → ListsFit key times records → ListsFit key times (records ++ kept.Boot boot ∷ [])
boot_fits key times records boot fit =
    subst (Fit (records ++ kept.Boot boot ∷ [])) (sym (fold-append (after_record_with key times) nothing_recorded records (kept.Boot boot ∷ [])))
    (unsaid records (kept.Boot boot) (recorded_of key times records) (λ file. (refl, refl)) fit)

-- without records
pub none_fits : (key : List ℕ) (times : TimeSettings) → ListsFit key times []
none_fits key times =
    record {
      numbers = record { rise = tt; once = λ number. omega arith; below = λ number least. refl };
      files = record { rises = omega arith; rows = tt; answers = tt };
      first = λ file place is. absurd (let none = is.there in cc);
      changed = λ r h. absurd h;
      touched = λ file. inl (record { chosen = refl; listed = refl });
      each = λ file place is. absurd (let none = is.there in cc);
    }

-- ---- numbers, whatever the records

pub numbers_after : (key : List ℕ) (times : TimeSettings) (known : Recorded) (rec : Record) → NumbersFit known.catalogue.volumes
    → NumbersFit (after_record_with key times known rec).catalogue.volumes
numbers_after key times known (kept.Meta client number now nodes (logged.Meta user group request)) fit =
    go (is_spent_with known.catalogue.volumes known.running who nodes request) (is_recorded_with key known.catalogue.volumes now request)
  where
    who : Asker
    who = record { user = user; group = group }

    after : Recorded
    after = after_request_with key times known client number now nodes (record { user = user; group = group }) request

    go : (spent records : Bool) → NumbersFit
        (cond spent known (cond records (after_request_with key times known client number now nodes (record { user = user; group = group }) request) known)).catalogue.volumes
    go true records = fit
    go false true =
        goes_fit known.catalogue.volumes after.catalogue.volumes fit
        (request_goes known.catalogue.volumes fit key known.running (record { user = user; group = group }) now nodes request)
    go false false = fit
numbers_after key times known _ fit = fit

numbers_along : (key : List ℕ) (times : TimeSettings) (known : Recorded) (records : List Record) → NumbersFit known.catalogue.volumes
    → NumbersFit (fold (after_record_with key times) known records).catalogue.volumes
numbers_along key times known [] fit = fit
numbers_along key times known (rec ∷ records) fit = numbers_along key times (after_record_with key times known rec) records (numbers_after key times known rec fit)

pub numbers_always : (key : List ℕ) (times : TimeSettings) (records : List Record) → NumbersFit (recorded_of key times records).catalogue.volumes
numbers_always key times records =
    numbers_along key times nothing_recorded records (record { rise = tt; once = λ number. omega arith; below = λ number least. refl })
