-- a peer that has a body more
use Rattle.std.proofs.Common.{◌≡◌, ◌∙◌, ◌+◌, ◌<◌, ◌≤◌, ℕ, Bool, true, false, cond, Option, Some, None, List, [], ◌∷◌, ◌++◌, length, get_or, take, drop, refl, ap, sym, arith, drop-cons, add-one}
use Rattle.std.specs.Prelude.{◌||◌, find, is_some, slice_get}
use Rattle.std.specs.Option.{option_or}
use Rattle.std.proofs.lemmas.List.{take_all, take_more, take-append-drop}
use Rattle.std.proofs.lemmas.List.Folds.{find-append}
use Rattle.std.proofs.lemmas.Option.{slice_get-get_or, slice_get_past}
use Rattle.xt_base.specs.declared.ids.Epoch.{Epoch}
use Rattle.xt_base.specs.declared.ids.FileId.{FileId}
use Rattle.xt_base.specs.declared.ids.Stamp.{Stamp}
use Rattle.xt_messages.specs.declared.file.ObjectVersion.{ObjectVersion}
use Rattle.xt_messages.specs.declared.file.FileHead.{FileHead}
use Rattle.xt_protocol.specs.declared.states.PeerState.{PeerState}
use Rattle.xt_protocol.specs.declared.states.PeerState.TheVariants as peer
use Rattle.xt_protocol.specs.Primaries.{fed, fed_next, last_sent}
use Rattle.xt_protocol.specs.ReplicaRows.{first_missing}
use Rattle.xt_protocol.specs.Stamps.{comes_before, has_version, is_version, with_held}
use Rattle.replica_primary.specs.Feeding.{with_known}

-- Which versions are known of it.

or_same : (a b rest : Bool) → a ≡ b → (b || rest) ≡ (a || (b || rest))
or_same true b rest is = sym (ap (λ (x : Bool). x || rest) is) ∙ refl
or_same false b rest is = refl

or_swap : (a b rest : Bool) → (a || (b || rest)) ≡ (b || (a || rest))
or_swap true true rest = refl
or_swap true false rest = refl
or_swap false b rest = refl

same_as : (h v w : ObjectVersion) → is_version h v ≡ true → is_version w v ≡ is_version w h
same_as h v w is = grind arith

pub held_with : (known : List ObjectVersion) (v w : ObjectVersion) → has_version (with_held known v) w ≡ (is_version w v || has_version known w)
unfolding with_held
held_with [] v w = refl
held_with (h ∷ hs) v w = by (is_version h v) (comes_before v h) refl (held_with hs v w)
  where
    by : (same before : Bool) → is_version h v ≡ same → has_version (with_held hs v) w ≡ (is_version w v || has_version hs w)
        → has_version (cond same (h ∷ hs) (cond before (v ∷ h ∷ hs) (h ∷ with_held hs v))) w ≡ (is_version w v || (is_version w h || has_version hs w))
    by true before is rest = or_same (is_version w v) (is_version w h) (has_version hs w) (same_as h v w is)
    by false true is rest = refl
    by false false is rest = ap (λ (b : Bool). is_version w h || b) rest ∙ or_swap (is_version w h) (is_version w v) (has_version hs w)

pub held_some : (v : ObjectVersion) (before after : Option (List ObjectVersion)) → is_some before ≡ true → ((known : List ObjectVersion) → before ≡ Some known → after ≡ Some (with_held known v))
    → after ≡ None → ⊥
held_some v None after some held none = absurd cc
held_some v (Some known) after some held none = let clash : Some (with_held known v) ≡ None = sym (held known refl) ∙ none in absurd cc

-- What is known of it is put into the state that it gets.

pub sent_same : (file : FileId) (epoch : Epoch) (state : PeerState) (known : List ObjectVersion) → last_sent file epoch state ≡ last_sent file epoch (with_known state known)
sent_same file epoch peer.Unknown known = refl
sent_same file epoch (peer.Reported head) known = refl
sent_same file epoch (peer.Feeding before object version body) known = refl
sent_same file epoch (peer.Heading before head) known = refl
sent_same file epoch peer.Current known = refl

put_known : (body : ℕ → Stamp → List ℕ) (head : FileHead) (known : List ObjectVersion) (next : Option ObjectVersion) → with_known (fed_next body head [] next) known ≡ fed_next body head known next
put_known body head known None = refl
put_known body head known (Some v) = refl

pub made_fed : (body : ℕ → Stamp → List ℕ) (head : FileHead) (known : List ObjectVersion) (next : Option ObjectVersion) (made : PeerState)
    → made ≡ fed_next body head [] next → next ≡ first_missing known head.versions → with_known made known ≡ fed body head known
unfolding fed
made_fed body head known next made is first =
    ap (λ (s : PeerState). with_known s known) is ∙ put_known body head known next ∙ ap (fed_next body head known) first

-- One step of a search by a test.

module _ {A : Type 0} (p : A → Bool) (xs : List A) (i : ℕ) (d : A) (lt : i < length xs) (here : find p (take i xs) ≡ None) where
  -- the search goes on past a front in which nothing passes
  past : (rest : List A) → find p (take i xs ++ rest) ≡ find p rest
  past rest = find-append p (take i xs) rest ∙ ap (λ (o : Option A). option_or o (find p rest)) here

  -- this one doesn't pass
  pub passed_by : p (get_or xs i d) ≡ false → find p (take (i + 1) xs) ≡ None
  passed_by fails =
      let x = get_or xs i d in
      ap (find p) (take_more xs i d lt) ∙ past (x ∷ []) ∙ ap (λ (b : Bool). cond b (Some x) None) fails

  -- this one passes
  pub found_at : p (get_or xs i d) ≡ true → slice_get xs i ≡ find p xs
  found_at passes =
      let x = get_or xs i d in
      let rest = drop (i + 1) xs in
      let parts : xs ≡ take i xs ++ x ∷ rest =
      sym (take-append-drop i xs) ∙ ap (λ (ys : List A). take i xs ++ ys) (rw add-one (drop-cons xs i d lt)) in
      slice_get-get_or xs i d lt ∙ sym (ap (find p) parts ∙ past (x ∷ rest) ∙ ap (λ (b : Bool). cond b (Some x) (find p rest)) passes)

-- none passes
pub none_found : {A : Type 0} (p : A → Bool) (xs : List A) (i : ℕ) → length xs ≤ i → find p (take i xs) ≡ None → slice_get xs (length xs) ≡ find p xs
none_found p xs i le here = slice_get_past xs (length xs) (omega arith) ∙ sym (sym (ap (find p) (take_all i xs le)) ∙ here)
