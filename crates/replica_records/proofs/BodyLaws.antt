-- A body is taken out of a record and put into it: the laws of a lens. Of them follows what is said of records with other bodies.
use Rattle.std.proofs.Common.{◌≡◌, ◌⊎◌, inl, inr, ℕ, Bool, true, false, cond, List, [], ◌∷◌, map, Some, None, refl, ap, sym, subst, ◌∙◌}
use Rattle.std.specs.Prelude.{filter}
use Rattle.std.specs.List.{fold}
use Rattle.xt_base.specs.declared.ids.FileId.{FileId}
use Rattle.xt_base.specs.declared.ids.Stamp.{Stamp}
use Rattle.xt_messages.specs.declared.file.Update.{Update}
use Rattle.xt_messages.specs.declared.record.Folded.{Folded}
use Rattle.xt_messages.specs.declared.record.Record.{Record}
use Rattle.xt_messages.specs.declared.record.Record.TheVariants as kept
use Rattle.xt_protocol.specs.Folds.{boot_after, digests_after, folded_after, is_logged, IsInPlace}
use Rattle.replica_records.specs.declared.places.BodyKey.{BodyKey}
use Rattle.replica_records.specs.Bare.{body_in, with_body}
use Rattle.replica_records.specs.Places.{key_put}

-- ---- the laws

-- A record with another body and the record itself: what relates them for the kinds that put a body, and a record to itself, relates them.
pub unseen : (P : Record → Record → Type 0)
    → ((file : FileId) (update : Update) (body : List ℕ) → P (kept.Update file (record update { body = body })) (kept.Update file update))
    → ((file : FileId) (object : ℕ) (version : Stamp) (bytes body : List ℕ) → P (kept.Stage file object version body) (kept.Stage file object version bytes))
    → ((file : FileId) (update : Update) (body : List ℕ) → P (kept.OldUpdate file (record update { body = body })) (kept.OldUpdate file update))
    → ((file : FileId) (object : ℕ) (version : Stamp) (bytes body : List ℕ) → P (kept.OldStage file object version body) (kept.OldStage file object version bytes))
    → ((rec : Record) → P rec rec) → (body : List ℕ) (rec : Record) → P (with_body body rec) rec
unseen P update stage old_update old_stage same body (kept.Update file u) = update file u body
unseen P update stage old_update old_stage same body (kept.Stage file object version bytes) = stage file object version bytes body
unseen P update stage old_update old_stage same body (kept.OldUpdate file u) = old_update file u body
unseen P update stage old_update old_stage same body (kept.OldStage file object version bytes) = old_stage file object version bytes body
unseen P update stage old_update old_stage same body rec = same rec

-- the body put last is the one
pub set_set : (a b : List ℕ) (rec : Record) → with_body a (with_body b rec) ≡ with_body a rec
set_set a = unseen (λ r s. with_body a r ≡ with_body a s)
    (λ file update body. refl) (λ file object version bytes body. refl) (λ file update body. refl) (λ file object version bytes body. refl) (λ rec. refl)

pub set_get : (rec : Record) → with_body (body_in rec) rec ≡ rec
set_get (kept.Update file update) = refl
set_get (kept.Stage file object version bytes) = refl
set_get (kept.OldUpdate file update) = refl
set_get (kept.OldStage file object version bytes) = refl
set_get _ = refl

-- any body is put into it, and found there
pub record Puts (rec : Record) : Type 0 where
  pub get_set : (body : List ℕ) → body_in (with_body body rec) ≡ body
  pub request : is_logged rec ≡ false

-- it has none, and takes none
pub record PutsNone (rec : Record) : Type 0 where
  pub none : body_in rec ≡ []
  pub stays : (body : List ℕ) → with_body body rec ≡ rec
  pub key : key_put rec ≡ None

pub puts_or_none : (rec : Record) → Puts rec ⊎ PutsNone rec
puts_or_none (kept.Update file update) = inl (record { get_set = λ body. refl; request = refl })
puts_or_none (kept.Stage file object version bytes) = inl (record { get_set = λ body. refl; request = refl })
puts_or_none (kept.OldUpdate file update) = inl (record { get_set = λ body. refl; request = refl })
puts_or_none (kept.OldStage file object version bytes) = inl (record { get_set = λ body. refl; request = refl })
puts_or_none _ = inr (record { none = refl; stays = λ body. refl; key = refl })

-- ---- what doesn't see the body

pub key_set : (body : List ℕ) (rec : Record) → key_put (with_body body rec) ≡ key_put rec
key_set = unseen (λ r s. key_put r ≡ key_put s)
    (λ file update body. refl) (λ file object version bytes body. refl) (λ file update body. refl) (λ file object version bytes body. refl) (λ rec. refl)

pub folded_set : (folded : Folded) (body : List ℕ) (rec : Record) → folded_after folded (with_body body rec) ≡ folded_after folded rec
folded_set folded = unseen (λ r s. folded_after folded r ≡ folded_after folded s)
    (λ file update body. refl) (λ file object version bytes body. refl) (λ file update body. refl) (λ file object version bytes body. refl) (λ rec. refl)

pub boot_set : (boot : ℕ) (body : List ℕ) (rec : Record) → boot_after boot (with_body body rec) ≡ boot_after boot rec
boot_set boot = unseen (λ r s. boot_after boot r ≡ boot_after boot s)
    (λ file update body. refl) (λ file object version bytes body. refl) (λ file update body. refl) (λ file object version bytes body. refl) (λ rec. refl)

pub digests_set : (file : FileId) (object : ℕ) (version : Stamp) (digests : List (List ℕ)) (body : List ℕ) (rec : Record)
    → digests_after file object version digests (with_body body rec) ≡ digests_after file object version digests rec
digests_set file object version digests = unseen (λ r s. digests_after file object version digests r ≡ digests_after file object version digests s)
    (λ file update body. refl) (λ file object version bytes body. refl) (λ file update body. refl) (λ file object version bytes body. refl) (λ rec. refl)

pub logged_set : (body : List ℕ) (rec : Record) → is_logged (with_body body rec) ≡ is_logged rec
logged_set = unseen (λ r s. is_logged r ≡ is_logged s)
    (λ file update body. refl) (λ file object version bytes body. refl) (λ file update body. refl) (λ file object version bytes body. refl) (λ rec. refl)

pub in_place_set : (folded : Folded) (body : List ℕ) (rec : Record) → IsInPlace folded rec → IsInPlace folded (with_body body rec)
in_place_set folded = unseen (λ r s. IsInPlace folded s → IsInPlace folded r)
    (λ file update body is. is) (λ file object version bytes body is. is) (λ file update body is. is) (λ file object version bytes body is. is) (λ rec is. is)

-- ---- what follows

-- its own body put back
pub set_back : (body : List ℕ) (rec : Record) → with_body (body_in rec) (with_body body rec) ≡ rec
set_back body rec = set_set (body_in rec) body rec ∙ set_get rec

-- what holds whatever body is put holds of the record
pub put_back : (P : Record → Type 0) → ((body : List ℕ) (rec : Record) → P rec → P (with_body body rec)) → (body : List ℕ) (rec : Record) → P (with_body body rec) → P rec
put_back P keeps body rec is = subst P (set_back body rec) (keeps (body_in rec) (with_body body rec) is)

-- a body that is made of its own: nothing of nothing
pub get_made : (f : List ℕ → List ℕ) → f [] ≡ [] → (rec : Record) → body_in (with_body (f (body_in rec)) rec) ≡ f (body_in rec)
get_made f none rec = at (puts_or_none rec)
  where
    at : Puts rec ⊎ PutsNone rec → body_in (with_body (f (body_in rec)) rec) ≡ f (body_in rec)
    at (inl puts) = puts.get_set (f (body_in rec))
    at (inr takes) = ap body_in (takes.stays (f (body_in rec))) ∙ takes.none ∙ sym none ∙ ap f (sym takes.none)

-- a record that puts a body for a key takes any body
pub get_keyed : (body : List ℕ) (rec : Record) (key : BodyKey) → key_put rec ≡ Some key → body_in (with_body body rec) ≡ body
get_keyed body rec key is = at (puts_or_none rec)
  where
    at : Puts rec ⊎ PutsNone rec → body_in (with_body body rec) ≡ body
    at (inl puts) = puts.get_set body
    at (inr takes) = absurd (let none : None ≡ Some key = sym takes.key ∙ is in cc)

-- a request's record takes no body
pub request_none : (rec : Record) → is_logged rec ≡ true → PutsNone rec
request_none rec is = at (puts_or_none rec)
  where
    at : Puts rec ⊎ PutsNone rec → PutsNone rec
    at (inl puts) = absurd (let differ : false ≡ true = sym puts.request ∙ is in cc)
    at (inr takes) = takes

pub request_set : (body : List ℕ) (rec : Record) → is_logged rec ≡ true → with_body body rec ≡ rec
request_set body rec is = (request_none rec is).stays body

-- ---- lists

-- any fold that doesn't see what is changed
pub fold_map : {A : Type 0} (after : A → Record → A) (c : Record → Record) → ((a : A) (rec : Record) → after a (c rec) ≡ after a rec)
    → (a : A) (records : List Record) → fold after a (map c records) ≡ fold after a records
fold_map after c same a [] = refl
fold_map after c same a (r ∷ rs) = ap (λ b. fold after b (map c rs)) (same a r) ∙ fold_map after c same (after a r) rs

-- bodies are changed, each as its record says
module _ (body : Record → List ℕ) where
  abbrev change : Record → Record
  change rec = with_body (body rec) rec

  pub requests_of : (records : List Record) → filter is_logged (map change records) ≡ filter is_logged records
  requests_of [] = refl
  requests_of (r ∷ rs) =
      ap (λ (b : Bool). cond b (change r ∷ filter is_logged (map change rs)) (filter is_logged (map change rs))) (logged_set (body r) r)
      ∙ at (requests_of rs) (is_logged r) refl
    where
      at : filter is_logged (map change rs) ≡ filter is_logged rs → (b : Bool) → is_logged r ≡ b
          → cond b (change r ∷ filter is_logged (map change rs)) (filter is_logged (map change rs)) ≡ cond b (r ∷ filter is_logged rs) (filter is_logged rs)
      at rest true is = λ i. request_set (body r) r is i ∷ rest i
      at rest false is = rest

  pub of_requests : (records : List Record) → map change (filter is_logged records) ≡ filter is_logged records
  of_requests [] = refl
  of_requests (r ∷ rs) = at (of_requests rs) (is_logged r) refl
    where
      at : map change (filter is_logged rs) ≡ filter is_logged rs → (b : Bool) → is_logged r ≡ b
          → map change (cond b (r ∷ filter is_logged rs) (filter is_logged rs)) ≡ cond b (r ∷ filter is_logged rs) (filter is_logged rs)
      at rest true is = λ i. request_set (body r) r is i ∷ rest i
      at rest false is = rest
