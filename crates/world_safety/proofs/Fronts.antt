-- A front of a safe trace is safe, so a safe trace is broken nowhere.
use Rattle.std.proofs.Common.{◌≡◌, ℕ, true, List, [], ◌∷◌, ◌++◌, take, drop, Option, Some, None, refl, sym, ap, ◌∙◌, subst, append_assoc, take-append-drop}
use Rattle.std.specs.Option.{option_or}
use Rattle.xt_base.specs.declared.ids.OpId.{OpId}
use Rattle.xt_messages.specs.declared.file.Location.{Location}
use Rattle.time_line.specs.declared.entry.Entry.{Entry}
use Rattle.time_line.specs.declared.entry.Entry.TheVariants as entry
use Rattle.time_line.specs.TimeLine.{location_told, location_in, is_replicated_at, is_replicated, stripe_at, operation_begun, HasPosition}
use Rattle.time_line.specs.Clauses.{IsBefore, IsMoment, AreOnce, IsShown, AnswersShow, ok_entry, HasBegunOn, EndsAreAnswered}
use Rattle.time_line.specs.Verdicts.{Clause, apart, acting, one_order, once, shown, fresh, Says, IsSafe, Break, IsBroken}
use Rattle.world_runs.proofs.Entries.{begun_on-grown, position-grown}
use Rattle.world_runs.proofs.Fresh.{answered_fresh}

-- where a file is in a front, it is in the trace
or_grows : (o p q : Option Location) (l : Location) → (p ≡ Some l → q ≡ Some l) → option_or o p ≡ Some l → option_or o q ≡ Some l
or_grows None p q l grows is = grows is
or_grows (Some k) p q l grows is = is

stands_on : (file : ℕ) (xs ys : List Entry) (location : Location) → location_in file xs ≡ Some location → location_in file (xs ++ ys) ≡ Some location
unfolding location_in
stands_on file [] ys location is = absurd (cc)
stands_on file (x ∷ xs) ys location is = or_grows (location_told file x) (location_in file xs) (location_in file (xs ++ ys)) location (stands_on file xs ys location) is

located : (o : Option Location) → is_replicated_at o ≡ true → (l : Location) × (o ≡ Some l)
located None is = absurd (cc)
located (Some l) is = (l, refl)

module _ (entries moment after : List Entry) (whole : entries ≡ moment ++ after) (file : ℕ) where
  same_place : is_replicated file moment ≡ true → location_in file moment ≡ location_in file entries
  same_place is =
      let there = located (location_in file moment) is in
      there.1 ∙ sym (ap (location_in file) whole ∙ stands_on file moment after there.0 there.1)

  moment_in : (m : List Entry) → IsMoment m moment → IsMoment m entries
  moment_in m is = (is.0 ++ after, whole ∙ ap (λ (es : List Entry). es ++ after) is.1 ∙ append_assoc m is.0 after)

  before_in : (before : List Entry) (e : Entry) → IsBefore before e moment → IsBefore before e entries
  before_in before e is = (is.0 ++ after, whole ∙ ap (λ (es : List Entry). es ++ after) is.1 ∙ append_assoc before (e ∷ is.0) after)

  position_in : (id : OpId) (position : ℕ) → HasPosition file moment id position → HasPosition file entries id position
  position_in id position is = subst (λ (es : List Entry). HasPosition file es id position) (sym whole) (position-grown file moment after id position is)

  begun_in : (id : OpId) → HasBegunOn file moment id → HasBegunOn file entries id
  begun_in id is = subst (λ (es : List Entry). HasBegunOn file es id) (sym whole) (begun_on-grown file moment after id is)

  front_once : AreOnce file entries → AreOnce file moment
  front_once so = record {
    distinct = λ id one other at there. so.distinct id one other (position_in id one at) (position_in id other there);
    begun = λ before e claim is. so.begun before e claim (before_in before e is);
  }

  front_shows : is_replicated file moment ≡ true → AnswersShow file entries → AnswersShow file moment
  front_shows placed so before node id count bytes is =
      subst (λ (o : Option Location). IsShown (stripe_at o) file before id count bytes (operation_begun file before id)) (sym (same_place placed))
      (so before node id count bytes (before_in before (entry.Answer node file id count bytes) is))

  front_answered : EndsAreAnswered file entries → EndsAreAnswered file moment
  front_answered so before id count bytes is on_file = so before id count bytes (before_in before (ok_entry id count bytes) is) (begun_in id on_file)

  front_says : is_replicated file moment ≡ true → ((clause : Clause) → Says clause file entries) → (clause : Clause) → Says clause file moment
  front_says placed so apart = λ m a b is. so apart m a b (moment_in m is)
  front_says placed so acting = λ before e node is. so acting before e node (before_in before e is)
  front_says placed so one_order = λ before e claim is. so one_order before e claim (before_in before e is)
  front_says placed so once = front_once (so once)
  front_says placed so shown = front_shows placed (so shown)
  front_says placed so fresh = answered_fresh file moment (front_answered (so fresh).answered) (front_once (so once)) (front_shows placed (so shown))

pub front_safe : (entries moment : List Entry) → IsMoment moment entries → IsSafe entries → IsSafe moment
front_safe entries moment is safe file clause placed =
    front_says entries moment is.0 is.1 file placed
    (λ c. safe file c (ap is_replicated_at (sym (same_place entries moment is.0 is.1 file placed)) ∙ placed)) clause

pub never_broken : (entries : List Entry) (b : Break) → IsSafe entries → IsBroken b entries → ⊥
never_broken entries b safe broken =
    broken.there.broken (front_safe entries (take b.entry entries) (drop b.entry entries, sym (take-append-drop b.entry entries)) safe broken.file b.clause)
