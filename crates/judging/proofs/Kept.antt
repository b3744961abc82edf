-- What the pass keeps determines what each clause says of the entries so far.
use Rattle.std.proofs.Common.{◌≡◌, ℕ, ◌⊎◌, inl, inr, Bool, true, false, List, [], ◌∷◌, ◌++◌, Option, Some, None, refl, sym, ap, ◌∙◌, true≢false}
use Rattle.std.specs.Prelude.{Decides, ◌&&◌}
use Rattle.std.specs.Option.{option_or}
use Rattle.std.proofs.lemmas.Bool.Decides.{Decides-and, Decides-like}
use Rattle.xt_base.specs.declared.ids.NodeId.{NodeId}
use Rattle.xt_base.specs.declared.ids.OpId.{OpId}
use Rattle.xt_messages.specs.declared.event.Call.{Call}
use Rattle.time_line.specs.Content.{content_from}
use Rattle.time_line.specs.declared.entry.Entry.{Entry}
use Rattle.time_line.specs.TimeLine.{call_begun, begun, RunningBoot, standing, standing_after, holds, holds_as, claim_on, order_by, write_order, content_at}
use Rattle.time_line.specs.Clauses.{AreApart, HoldersAct, IsOneOrder, AreOnce, EndsAreAnswered, acts_on}
use Rattle.time_line.specs.Verdicts.{apart, acting, one_order, once, shown, fresh}
use Rattle.judging.specs.Pass.{Kept, nothing, looked_at, fits_apart, fits_acting, fits_order, fits_once, fits_shown, fits_end, fits_begin, answer_on, ok_told, after}
use Rattle.judging.proofs.Entries.{begun-append, order-push}
use Rattle.judging.proofs.Pushed.{nothing_before}
use Rattle.judging.proofs.Apart.{and_if, standing-push, only, Known, decides_apart, holder_is, ApartThen, apart_more, apart_fewer, acting_more, acting_fewer, decides_acting}
use Rattle.judging.proofs.Orders.{order_more, order_fewer, decides_order, OnceThen, decides_once}
use Rattle.judging.proofs.Distinct.{once_more, once_fewer}
use Rattle.judging.proofs.Contents.{AllBegun, AllShown, begun_more, content_more, shown_more, shown_fewer, decides_shown}
use Rattle.judging.specs.Laws.{IsAnswered}
use Rattle.judging.proofs.Ends.{HasEnded, decides_answered, decides_ended, ends_more, ends_fewer, decides_ends}

-- What is kept of these entries agrees with what they say. Content and answers count only while each write stands once.
pub record IsKept (drift stripe file : ℕ) (es : List Entry) (k : Kept) : Type 0 where
  pub stands : (n : NodeId) → k.stands n ≡ standing n file es
  pub order : k.order ≡ write_order file es
  pub calls : (id : OpId) → k.calls id ≡ begun id es
  pub ended : (id : OpId) → Decides (k.ended id) (HasEnded es id)
  pub answered : (id : OpId) (count : ℕ) (bytes : List ℕ) → Decides (k.answered id count bytes) (IsAnswered file es id count bytes)
  pub says_apart : Decides (k.says apart) (AreApart file es)
  pub holder : k.says apart ≡ true → (n : NodeId) → holds es n file ≡ true → k.holder ≡ Some n
  pub says_acting : Decides (k.says acting) (HoldersAct file es)
  pub says_order : Decides (k.says one_order) (IsOneOrder file es)
  pub says_once : Decides (k.says once) (AreOnce file es)
  pub begun : k.says once ≡ true → AllBegun file es
  pub content : k.says once ≡ true → k.content ≡ content_at stripe file es
  pub says_shown : k.says once ≡ true → Decides (k.says shown) (AllShown stripe file es)
  pub says_fresh : Decides (k.says fresh) (EndsAreAnswered file es)

-- the drift of the trace determines who holds at this moment
abbrev pub HasDrift : ℕ → ℕ → List Entry → Type 0
HasDrift drift file es = (n : NodeId) → holds es n file ≡ holds_as drift (standing n file es)

or_none : (o : Option Call) → option_or o None ≡ o
or_none None = refl
or_none (Some c) = refl

and_left : (x y : Bool) → (x && y) ≡ true → x ≡ true
and_left true y is = refl
and_left false y is = is

and_right : (x y : Bool) → (x && y) ≡ true → y ≡ true
and_right true y is = is
and_right false y is = absurd (true≢false (sym is))

module _ (drift stripe file : ℕ) (es : List Entry) (e : Entry) (k : Kept) (i : IsKept drift stripe file es k)
    (drift_before : HasDrift drift file es) (drift_then : HasDrift drift file (es ++ e ∷ [])) where
  standings : NodeId → Option RunningBoot
  standings n = standing_after n file (k.stands n) e

  held_before : (n : NodeId) → holds es n file ≡ holds_as drift (k.stands n)
  held_before n = drift_before n ∙ ap (holds_as drift) (sym (i.stands n))

  stands_then : (n : NodeId) → standing_after n file (k.stands n) e ≡ standing n file (es ++ e ∷ [])
  stands_then n = ap (λ (s : Option RunningBoot). standing_after n file s e) (i.stands n) ∙ sym (standing-push n file es e)

  held_then : (n : NodeId) → holds (es ++ e ∷ []) n file ≡ holds_as drift (standing_after n file (k.stands n) e)
  held_then n = drift_then n ∙ ap (holds_as drift) (sym (stands_then n))

  calls_then : (id : OpId) → option_or (k.calls id) (call_begun id e) ≡ begun id (es ++ e ∷ [])
  unfolding begun
  calls_then id = ap (λ (o : Option Call). option_or o (call_begun id e)) (i.calls id) ∙ sym (begun-append id es (e ∷ []) ∙ ap (option_or (begun id es)) (or_none (call_begun id e)))

  known : k.says apart ≡ true → Known (λ n. holds_as drift (standing_after n file (k.stands n) e)) k.holder (looked_at file e)
  known says n has = by (only drift file n e (k.stands n) has)
    where
      by : (looked_at file e ≡ Some n) ⊎ (holds_as drift (k.stands n) ≡ true) → (looked_at file e ≡ Some n) ⊎ (k.holder ≡ Some n)
      by (inl is) = inl is
      by (inr was) = inr (i.holder says n (held_before n ∙ was))

  decides_then : k.says apart ≡ true → Decides (fits_apart k.holder (looked_at file e) (λ n. holds_as drift (standing_after n file (k.stands n) e))) (ApartThen file es e)
  decides_then says =
      Decides-like (fits_apart k.holder (looked_at file e) (λ n. holds_as drift (standing_after n file (k.stands n) e)))
      (λ now a b one other. now a b (sym (held_then a) ∙ one) (sym (held_then b) ∙ other))
      (λ h a b one other. h a b (held_then a ∙ one) (held_then b ∙ other))
      (decides_apart (λ n. holds_as drift (standing_after n file (k.stands n) e)) k.holder (looked_at file e) (known says))

  onces : Decides (fits_once file k.order k.calls (claim_on file e)) (OnceThen file es e)
  onces = decides_once file es e k.order k.calls i.order i.calls

  pub kept_more : IsKept drift stripe file (es ++ e ∷ []) (after drift stripe file k e)
  kept_more = record {
    stands = stands_then;
    order = ap (λ (os : List OpId). order_by os (claim_on file e)) i.order ∙ sym (order-push file es e);
    calls = calls_then;
    ended = λ id. decides_ended file es e k id (i.ended id);
    answered = λ id count bytes. decides_answered file es e k id count bytes i.calls (i.answered id count bytes);
    says_apart = Decides-like (k.says apart && fits_apart k.holder (looked_at file e) (λ n. holds_as drift (standing_after n file (k.stands n) e))) (apart_more file es e) (apart_fewer file es e)
        (and_if (k.says apart) (fits_apart k.holder (looked_at file e) (λ n. holds_as drift (standing_after n file (k.stands n) e))) i.says_apart decides_then);
    holder = λ says n has.
        let left : k.says apart ≡ true = and_left (k.says apart) (fits_apart k.holder (looked_at file e) (λ n. holds_as drift (standing_after n file (k.stands n) e))) says in
        let right = and_right (k.says apart) (fits_apart k.holder (looked_at file e) (λ n. holds_as drift (standing_after n file (k.stands n) e))) says in
        holder_is (λ n. holds_as drift (standing_after n file (k.stands n) e)) k.holder (looked_at file e) (known left)
        ((decides_apart (λ n. holds_as drift (standing_after n file (k.stands n) e)) k.holder (looked_at file e) (known left)).0 right) n (sym (held_then n) ∙ has);
    says_acting = Decides-like (k.says acting && fits_acting (acts_on file e) (λ n. holds_as drift (k.stands n))) (acting_more file es e) (acting_fewer file es e)
        (Decides-and (k.says acting) (fits_acting (acts_on file e) (λ n. holds_as drift (k.stands n))) i.says_acting (decides_acting file es e (λ n. holds_as drift (k.stands n)) held_before));
    says_order = Decides-like (k.says one_order && fits_order k.order (claim_on file e)) (order_more file es e) (order_fewer file es e)
        (Decides-and (k.says one_order) (fits_order k.order (claim_on file e)) i.says_order (decides_order file es e k.order i.order));
    says_once = Decides-like (k.says once && fits_once file k.order k.calls (claim_on file e)) (once_more file es e) (once_fewer file es e)
        (Decides-and (k.says once) (fits_once file k.order k.calls (claim_on file e)) i.says_once onces);
    begun = λ says. begun_more stripe file es e (i.begun (and_left (k.says once) (fits_once file k.order k.calls (claim_on file e)) says))
        (onces.0 (and_right (k.says once) (fits_once file k.order k.calls (claim_on file e)) says)).0;
    content = λ says.
        let left : k.says once ≡ true = and_left (k.says once) (fits_once file k.order k.calls (claim_on file e)) says in
        content_more stripe file es e k i.order i.calls (i.begun left) (onces.0 (and_right (k.says once) (fits_once file k.order k.calls (claim_on file e)) says)).0 (i.content left);
    says_shown = λ says.
        let left : k.says once ≡ true = and_left (k.says once) (fits_once file k.order k.calls (claim_on file e)) says in
        Decides-like (k.says shown && fits_shown stripe file k (answer_on file e)) (shown_more stripe file es e) (shown_fewer stripe file es e)
        (Decides-and (k.says shown) (fits_shown stripe file k (answer_on file e)) (i.says_shown left) (decides_shown stripe file es e k i.order i.calls (i.content left)));
    says_fresh = Decides-like (k.says fresh && (fits_end file k (ok_told e) && fits_begin file k e)) (ends_more file es e) (ends_fewer file es e)
        (Decides-and (k.says fresh) (fits_end file k (ok_told e) && fits_begin file k e) i.says_fresh (decides_ends file es e k i.calls i.answered i.ended));
  }

-- ---- nothing yet

none_holds : (file : ℕ) (n : NodeId) → holds [] n file ≡ true → ⊥
unfolding standing
none_holds file n is = cc (is)

no_moment : (file : ℕ) → AreApart file []
no_moment file [] a b is one other = absurd (none_holds file a one)
no_moment file (m ∷ moment) a b is one other = absurd (let none : [] ≡ m ∷ (moment ++ is.0) = is.1 in cc)

holds_true : {P : Type 0} → P → Decides true P
holds_true p = (λ t. p, λ h. refl)

pub kept_nothing : (drift stripe file : ℕ) → IsKept drift stripe file [] nothing
unfolding standing write_order begun content_from
kept_nothing drift stripe file = record {
  stands = λ n. refl;
  order = refl;
  calls = λ id. refl;
  ended = λ id. (λ t. absurd (cc (t)), λ has. absurd (nothing_before has.0 _ has.3));
  answered = λ id count bytes. (λ t. absurd (cc (t)), λ has. absurd (nothing_before has.0 _ has.2));
  says_apart = holds_true (no_moment file);
  holder = λ says n has. absurd (none_holds file n has);
  says_acting = holds_true (λ before x node is acts. absurd (nothing_before before x is));
  says_order = holds_true (λ before x claim is claims. absurd (nothing_before before x is));
  says_once = holds_true (record { distinct = λ id a b at there. absurd (let nay : None ≡ Some id = at.1 in cc); begun = λ before x claim is. absurd (nothing_before before x is) });
  begun = λ says j id at. absurd (let nay : None ≡ Some id = at in cc);
  content = λ says. refl;
  says_shown = λ says. holds_true (λ before x is. absurd (nothing_before before x is));
  says_fresh = holds_true (λ before id count bytes is. absurd (nothing_before before _ is));
}
